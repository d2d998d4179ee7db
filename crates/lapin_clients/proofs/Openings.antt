-- What an opening reads, what it answers, and that a run begins where it ends.
use Rattle.std.proofs.Common.{◌≡◌, ◌≤◌, ◌+◌, ℕ, ◌==◌, ◌&&◌, Bool, true, false, cond, List, [], ◌∷◌, ◌++◌, drop, Option, Some, None, Result, Ok, Err, refl, sym, ap, subst, ◌∙◌, inl, inr, ◌⊎◌}
use Rattle.std.specs.Prelude.{nat_lt}
use Rattle.std.proofs.lemmas.List.{append_assoc, append-nil, drop-append-le}
use Rattle.lapin_fields.specs.Around.{and_more, around_at, wanted_behind}
use Rattle.lapin_fields.specs.Reading.{◌>>=◌}
use Rattle.lapin_fields.proofs.PartLaws.{around_more, whole_more}
use Rattle.lapin_handshake.specs.declared.handshake.Handshake.{Handshake}
use Rattle.lapin_handshake.specs.declared.handshake.Limits.{Limits}
use Rattle.lapin_handshake.specs.declared.handshake.Refusal.{Refusal}
use Rattle.lapin_handshake.specs.declared.handshake.Refusal.TheVariants as refusal
use Rattle.lapin_handshake.specs.declared.handshake.Reply.{Reply}
use Rattle.lapin_handshake.specs.declared.handshake.Reply.TheVariants as reply
use Rattle.lapin_handshake.specs.declared.handshake.Stage.{Stage}
use Rattle.lapin_handshake.specs.declared.handshake.Stage.TheVariants as stage
use Rattle.lapin_handshake.specs.declared.mechanism.Mechanism.{Mechanism}
use Rattle.lapin_handshake.specs.declared.said.Said.{Said}
use Rattle.lapin_handshake.specs.declared.said.Said.TheVariants as said
use Rattle.lapin_handshake.specs.declared.shaking.Shaken.{Shaken}
use Rattle.lapin_handshake.specs.declared.shaking.Shaken.TheVariants as shaken
use Rattle.lapin_handshake.specs.Callers.{Who}
use Rattle.lapin_handshake.specs.Handshaking.{new_handshake, reply_to, after, after_reply, agreed, lesser, saying, start_reply, tune_reply}
use Rattle.lapin_handshake.specs.Mechanisms.{chosen}
use Rattle.lapin_handshake.specs.declared.mechanism.Offers.{Offers}
use Rattle.std.proofs.lemmas.Bool.{and_parts, eqb-true, ltb-false}
use Rattle.lapin_handshake.specs.Replies.{protocol_header, reply_bytes}
use Rattle.lapin_handshake.specs.Saying.{frame_said_at}
use Rattle.lapin_handshake.specs.Shaking.{IsShaken, locale_at, refused}
use Rattle.lapin_handshake.specs.Starting.{Fields, fields_of, locale_in}
use Rattle.lapin_client.specs.Receiving.{length_at}
use Rattle.lapin_clients.specs.Openings.{Door, IsNewDoor, Act, Comes, Shakes, is_opened, left_by, Opens, RunsFollow, handed, sent, taken, AreSaid, AreAnswered, ends_open, spoken, IsTuned, IsOpening, IsOpened}
use Rattle.lapin_clients.specs.Nets.{Act as Later, Calls, Leaves, Beats, Comes as LaterComes, Reads, Sends, Strays, Net, Leads, kept_by}
use Rattle.lapin_clients.specs.Pieces.{Of, octets_in}
use Rattle.lapin_clients.proofs.Formed.{Around, said_more, said_of}
use Rattle.lapin_clients.proofs.Heads.{around_whole, bind_some}
use Rattle.lapin_clients.proofs.Wires.{long_more, whole_long}

-- ---- a frame at the head, with more behind it

pub said_whole : (bytes : List ℕ) (s : Said) → frame_said_at bytes ≡ Some s → wanted_behind bytes ≡ 0
said_whole bytes s e = let h = bind_some (around_at bytes) said_of s e in (around_whole bytes h.0 h.1).wanted

left_more : (bytes more : List ℕ) → wanted_behind bytes ≡ 0 → drop (length_at (bytes ++ more)) (bytes ++ more) ≡ drop (length_at bytes) bytes ++ more
left_more bytes more whole = ap (λ n. drop n (bytes ++ more)) (long_more bytes more whole) ∙ drop-append-le (length_at bytes) bytes more (whole_long bytes whole)

abbrev start_of : Around × List ℕ → Option Fields
start_of frame = cond ((frame.0.0 == 1) && (frame.0.1 == 0)) (fields_of frame.0.2) None

same_start : (more : List ℕ) (o : Option (Around × List ℕ)) → (and_more more o >>= start_of) ≡ (o >>= start_of)
same_start more None = refl
same_start more (Some a) = refl

locale_more : (bytes more : List ℕ) → wanted_behind bytes ≡ 0 → locale_at (bytes ++ more) ≡ locale_at bytes
locale_more bytes more whole =
    ap locale_in (ap (λ (o : Option (Around × List ℕ)). o >>= start_of) (around_more bytes more whole) ∙ same_start more (around_at bytes))

-- ---- frames that were read stay read, with more behind them

pub said_on : (ss : List Said) (bytes more rest : List ℕ) → AreSaid ss bytes rest → AreSaid ss (bytes ++ more) (rest ++ more)
said_on [] bytes more rest h = ap (λ b. b ++ more) h
said_on (s ∷ ss) bytes more rest h =
    (whole_more bytes more h.0, said_more bytes more h.0 ∙ h.1, subst (λ b. AreSaid ss b (rest ++ more)) (sym (left_more bytes more h.0)) (said_on ss (drop (length_at bytes) bytes) more rest h.2))

pub answered_on : (who : Who) (ss : List Said) (bytes more rest : List ℕ) (h h' : Handshake) (replies : List ℕ) → AreSaid ss bytes rest → AreAnswered who ss bytes h h' replies → AreAnswered who ss (bytes ++ more) h h' replies
answered_on who [] bytes more rest h h' replies are k = k
answered_on who (s ∷ ss) bytes more rest h h' replies are k = (
  k.0,
  (
    k.1.0,
    k.1.1,
    k.1.2,
    k.1.3 ∙ ap (λ l. reply_bytes who l k.1.0 ++ k.1.1) (sym (locale_more bytes more are.0)),
    subst (λ b. AreAnswered who ss b (after h s) h' k.1.1) (sym (left_more bytes more are.0)) (answered_on who ss (drop (length_at bytes) bytes) more rest (after h s) h' k.1.1 are.2 k.1.4),
  ),
)

-- ---- one frame more

pub said_next : (ss : List Said) (bytes rest : List ℕ) (s : Said) → AreSaid ss bytes rest → frame_said_at rest ≡ Some s → AreSaid (ss ++ s ∷ []) bytes (drop (length_at rest) rest)
said_next [] bytes rest s h e = let at : frame_said_at bytes ≡ Some s = ap frame_said_at (sym h) ∙ e in (said_whole bytes s at, at, ap (λ b. drop (length_at b) b) h)
said_next (t ∷ ss) bytes rest s h e = (h.0, h.1, said_next ss (drop (length_at bytes) bytes) rest s h.2 e)

pub answered_next : (who : Who) (ss : List Said) (bytes rest : List ℕ) (s : Said) (r : Reply) (h h' : Handshake) (replies : List ℕ) → AreSaid ss bytes rest → is_opened h'.stage ≡ false → reply_to h' s ≡ Ok r → AreAnswered who ss bytes h h' replies → AreAnswered who (ss ++ s ∷ []) bytes h (after h' s) (replies ++ reply_bytes who (locale_at rest) r)
answered_next who [] bytes rest s r h h' replies are closed e k = (
  ap (λ (g : Handshake). is_opened g.stage) (sym k.0) ∙ closed,
  (
    r,
    [],
    ap (λ g. reply_to g s) (sym k.0) ∙ e,
    ap (λ l. l ++ reply_bytes who (locale_at rest) r) k.1 ∙ (ap (λ b. reply_bytes who (locale_at b) r) are ∙ sym (append-nil (reply_bytes who (locale_at bytes) r))),
    (ap (λ g. after g s) k.0, refl),
  ),
)
answered_next who (t ∷ ss) bytes rest s r h h' replies are closed e k = (
  k.0,
  (
    k.1.0,
    k.1.1 ++ reply_bytes who (locale_at rest) r,
    k.1.2,
    ap (λ l. l ++ reply_bytes who (locale_at rest) r) k.1.3 ∙ append_assoc (reply_bytes who (locale_at bytes) k.1.0) k.1.1 (reply_bytes who (locale_at rest) r),
    answered_next who ss (drop (length_at bytes) bytes) rest s r (after h t) h' k.1.1 are.2 closed e k.1.4,
  ),
)

-- ---- what an opening has read, as long as it isn't refused

pub record Heard (who : Who) (first : Handshake) (octets : List ℕ) (x : Door) : Type 0 where
  pub heard : List Said
  pub replies : List ℕ
  pub read : AreSaid heard octets x.came
  pub answered : AreAnswered who heard octets first x.handshake replies
  pub told : x.told ≡ protocol_header ++ replies

abbrev pub Goes : Who → Handshake → List ℕ → Door → Type 0
Goes who first octets x = (x.handshake.stage ≡ stage.Refused) ⊎ Heard who first octets x

-- once refused, it stays so
refused_never : (m : Mechanism) (l : Limits) (s : Said) (r : Reply) → reply_to (record { stage = stage.Refused; mechanism = m; limits = l }) s ≡ Ok r → ⊥
refused_never m l (said.Start major minor offers) r k = cc
refused_never m l said.Secure r k = cc
refused_never m l (said.Tune c f b) r k = cc
refused_never m l said.OpenOk r k = cc
refused_never m l (said.Close code) r k = cc
refused_never m l said.Blocked r k = cc
refused_never m l said.Unblocked r k = cc
refused_never m l said.Heartbeat r k = cc

refuses : (h : Handshake) (s : Said) (r : Reply) → h.stage ≡ stage.Refused → reply_to h s ≡ Ok r → ⊥
refuses h s r e k = refused_never h.mechanism h.limits s r (subst (λ (g : Stage). reply_to (record { stage = g; mechanism = h.mechanism; limits = h.limits }) s ≡ Ok r) e k)

module _ (who : Who) (first : Handshake) where
  came_goes : (octets more : List ℕ) (x y : Door) → Goes who first octets x → (y.handshake ≡ x.handshake) × (y.came ≡ x.came ++ more) × (y.told ≡ x.told) → Goes who first (octets ++ more) y
  came_goes octets more x y (inl over) h = inl (ap (λ (g : Handshake). g.stage) h.0 ∙ over)
  came_goes octets more x y (inr is) h = inr (record {
    heard = is.heard;
    replies = is.replies;
    read = subst (λ b. AreSaid is.heard (octets ++ more) b) (sym h.1) (said_on is.heard octets more x.came is.read);
    answered = subst (λ g. AreAnswered who is.heard (octets ++ more) first g is.replies) (sym h.0) (answered_on who is.heard octets more x.came first x.handshake is.replies is.read is.answered);
    told = h.2 ∙ is.told;
  })

  -- nothing came of it
  still_goes : (octets : List ℕ) (x y : Door) → Goes who first octets x → y.handshake ≡ x.handshake → y.came ≡ x.came → y.told ≡ x.told → Goes who first octets y
  still_goes octets x y (inl over) h c t = inl (ap (λ (g : Handshake). g.stage) h ∙ over)
  still_goes octets x y (inr is) h c t = inr (record {
    heard = is.heard;
    replies = is.replies;
    read = subst (λ b. AreSaid is.heard octets b) (sym c) is.read;
    answered = subst (λ g. AreAnswered who is.heard octets first g is.replies) (sym h) is.answered;
    told = t ∙ is.told;
  })

  -- a frame was answered
  answered_goes : (octets : List ℕ) (x y : Door) (s : Said) (r : Reply) → is_opened x.handshake.stage ≡ false → Goes who first octets x → frame_said_at x.came ≡ Some s → reply_to x.handshake s ≡ Ok r → y.handshake ≡ after x.handshake s → y.told ≡ x.told ++ reply_bytes who (locale_at x.came) r → y.came ≡ drop (length_at x.came) x.came → Goes who first octets y
  answered_goes octets x y s r closed (inl over) f k h t c = absurd (refuses x.handshake s r over k)
  answered_goes octets x y s r closed (inr is) f k h t c = inr (record {
    heard = is.heard ++ s ∷ [];
    replies = is.replies ++ reply_bytes who (locale_at x.came) r;
    read = subst (λ b. AreSaid (is.heard ++ s ∷ []) octets b) (sym c) (said_next is.heard octets x.came s is.read f);
    answered = subst (λ g. AreAnswered who (is.heard ++ s ∷ []) octets first g (is.replies ++ reply_bytes who (locale_at x.came) r)) (sym h) (answered_next who is.heard octets x.came s r first x.handshake is.replies is.read closed k is.answered);
    told = t ∙ (ap (λ l. l ++ reply_bytes who (locale_at x.came) r) is.told ∙ append_assoc protocol_header is.replies (reply_bytes who (locale_at x.came) r));
  })

  over_after : (h : Handshake) (s : Said) (e : Refusal) → reply_to h s ≡ Err e → (after h s).stage ≡ stage.Refused
  over_after h s e k = ap (λ (a : Result Reply Refusal). (after_reply a s h).stage) k

  shaken_goes : (r : Shaken) (octets : List ℕ) (x y : Door) → is_opened x.handshake.stage ≡ false → Goes who first octets x → IsShaken r x.came who x.handshake y.handshake x.told y.told → y.came ≡ left_by r x.came → Goes who first octets y
  shaken_goes shaken.Part octets x y closed g h c = still_goes octets x y g h.2 c h.3
  shaken_goes shaken.Read octets x y closed g (inl h) c = answered_goes octets x y h.0 h.3.0 closed g h.2 h.3.1 h.3.2.0 h.3.2.1 c
  shaken_goes shaken.Read octets x y closed g (inr h) c = absurd (let no = h.0 in cc)
  shaken_goes (shaken.Refused e) octets x y closed g (inl h) c = inl (ap (λ (k : Handshake). k.stage) h.3.1 ∙ over_after x.handshake h.0 e h.3.0)
  shaken_goes (shaken.Refused e) octets x y closed g (inr h) c = inl (ap (λ (k : Handshake). k.stage) h.1)

  pub opens_go : (acts : List Act) (octets : List ℕ) (x z : Door) → Goes who first octets x → Opens who acts x z → Goes who first (octets ++ handed acts) z
  unfolding Opens
  opens_go [] octets x z g h = subst (λ b. Goes who first b z) (sym (append-nil octets)) (still_goes octets x z g (ap (λ (y : Door). y.handshake) h) (ap (λ (y : Door). y.came) h) (ap (λ (y : Door). y.told) h))
  opens_go (Comes o ∷ more) octets x z g h = subst (λ b. Goes who first b z) (append_assoc octets o (handed more)) (opens_go more (octets ++ o) h.0 z (came_goes octets o x h.0 g h.1.0) h.1.1)
  opens_go (Shakes r ∷ more) octets x z g h = opens_go more octets h.0 z (shaken_goes r octets x h.0 h.1.0.0 g h.1.0.1 h.1.0.2) h.1.1

-- ---- what an opening that ended has read

pub record Ended (ours : Limits) (ss : List Said) (h : Handshake) : Type 0 where
  pub theirs : Limits
  pub tuned : IsTuned theirs (spoken ss)
  pub ends : ends_open ss ≡ true
  pub limits : h.limits ≡ agreed ours theirs
  pub large : 4096 ≤ h.limits.frame_max

pub record EndsOpen (l : Limits) (ss : List Said) (h : Handshake) : Type 0 where
  pub spoken_is : spoken ss ≡ said.OpenOk ∷ []
  pub ends : ends_open ss ≡ true
  pub limits : h.limits ≡ l

module _ (who : Who) (z : Handshake) (opened : is_opened z.stage ≡ true) where
  closed_end : (s : Handshake) → z ≡ s → is_opened s.stage ≡ false → ⊥
  closed_end s e closed = let no : true ≡ false = sym opened ∙ (ap (λ (g : Handshake). is_opened g.stage) e ∙ closed) in cc

  -- once it is open nothing is answered
  opened_end : (m : Mechanism) (l : Limits) (ss : List Said) (bytes replies : List ℕ) → AreAnswered who ss bytes (record { stage = stage.Opened; mechanism = m; limits = l }) z replies → EndsOpen l (said.OpenOk ∷ ss) z
  opened_end m l [] bytes replies k = record { spoken_is = refl; ends = refl; limits = ap (λ (g : Handshake). g.limits) k.0 }
  opened_end m l (s ∷ ss) bytes replies k = absurd (let no = k.0 in cc)

  open_end : (m : Mechanism) (l : Limits) (ss : List Said) (bytes replies : List ℕ) → AreAnswered who ss bytes (record { stage = stage.Open; mechanism = m; limits = l }) z replies → EndsOpen l ss z
  open_end m l [] bytes replies k = absurd (closed_end (record { stage = stage.Open; mechanism = m; limits = l }) k.0 refl)
  open_end m l (said.OpenOk ∷ ss) bytes replies k = opened_end m l ss (drop (length_at bytes) bytes) k.1.1 k.1.4
  open_end m l (said.Heartbeat ∷ ss) bytes replies k = let e = open_end m l ss (drop (length_at bytes) bytes) k.1.1 k.1.4 in record { spoken_is = e.spoken_is; ends = e.ends; limits = e.limits }
  open_end m l (said.Start major minor offers ∷ ss) bytes replies k = absurd (let no = k.1.2 in cc)
  open_end m l (said.Secure ∷ ss) bytes replies k = absurd (let no = k.1.2 in cc)
  open_end m l (said.Tune c f b ∷ ss) bytes replies k = absurd (let no = k.1.2 in cc)
  open_end m l (said.Close code ∷ ss) bytes replies k = absurd (let no = k.1.2 in cc)
  open_end m l (said.Blocked ∷ ss) bytes replies k = absurd (let no = k.1.2 in cc)
  open_end m l (said.Unblocked ∷ ss) bytes replies k = absurd (let no = k.1.2 in cc)

  abbrev tuned_by : Bool → Limits → Limits → Result Reply Refusal
  tuned_by small l theirs = cond small (Err refusal.FrameMax) (Ok (reply.Open (agreed l theirs)))

  limits_end : (m : Mechanism) (l theirs : Limits) (ss : List Said) (bytes later : List ℕ) (r : Reply) → tune_reply l theirs ≡ Ok r → AreAnswered who ss bytes (after_reply (tune_reply l theirs) (said.Tune theirs.channel_max theirs.frame_max theirs.heartbeat) (record { stage = stage.Tune; mechanism = m; limits = l })) z later → Ended l (said.Tune theirs.channel_max theirs.frame_max theirs.heartbeat ∷ ss) z
  limits_end m l theirs ss bytes later r =
      elim (nat_lt (lesser l.frame_max theirs.frame_max) 4096) as (λ b. nat_lt (lesser l.frame_max theirs.frame_max) 4096 ≡ b → tuned_by b l theirs ≡ Ok r → AreAnswered who ss bytes (after_reply (tuned_by b l theirs) (said.Tune theirs.channel_max theirs.frame_max theirs.heartbeat) (record { stage = stage.Tune; mechanism = m; limits = l })) z later → Ended l (said.Tune theirs.channel_max theirs.frame_max theirs.heartbeat ∷ ss) z) [
        | true ↦ λ small e k. absurd (let no = e in cc)
        | false ↦ λ small e k.
            let end : EndsOpen (agreed l theirs) ss z = open_end m (agreed l theirs) ss bytes later k in
            record {
              theirs = theirs;
              tuned = (refl, end.spoken_is);
              ends = end.ends;
              limits = end.limits;
              large = subst (λ (g : Limits). 4096 ≤ g.frame_max) (sym end.limits) (ltb-false (lesser l.frame_max theirs.frame_max) 4096 small);
            }
      ] refl

  tune_end : (m : Mechanism) (l : Limits) (ss : List Said) (bytes replies : List ℕ) → AreAnswered who ss bytes (record { stage = stage.Tune; mechanism = m; limits = l }) z replies → Ended l ss z
  tune_end m l [] bytes replies k = absurd (closed_end (record { stage = stage.Tune; mechanism = m; limits = l }) k.0 refl)
  tune_end m l (said.Secure ∷ ss) bytes replies k = let e = tune_end m l ss (drop (length_at bytes) bytes) k.1.1 k.1.4 in record { theirs = e.theirs; tuned = e.tuned; ends = e.ends; limits = e.limits; large = e.large }
  tune_end m l (said.Tune c f b ∷ ss) bytes replies k = limits_end m l (record { channel_max = c; frame_max = f; heartbeat = b }) ss (drop (length_at bytes) bytes) k.1.1 k.1.0 k.1.2 k.1.4
  tune_end m l (said.Heartbeat ∷ ss) bytes replies k = let e = tune_end m l ss (drop (length_at bytes) bytes) k.1.1 k.1.4 in record { theirs = e.theirs; tuned = e.tuned; ends = e.ends; limits = e.limits; large = e.large }
  tune_end m l (said.Start major minor offers ∷ ss) bytes replies k = absurd (let no = k.1.2 in cc)
  tune_end m l (said.OpenOk ∷ ss) bytes replies k = absurd (let no = k.1.2 in cc)
  tune_end m l (said.Close code ∷ ss) bytes replies k = absurd (let no = k.1.2 in cc)
  tune_end m l (said.Blocked ∷ ss) bytes replies k = absurd (let no = k.1.2 in cc)
  tune_end m l (said.Unblocked ∷ ss) bytes replies k = absurd (let no = k.1.2 in cc)

  pub record Begun (l : Limits) (ss : List Said) : Type 0 where
    pub theirs : Limits
    pub opening : IsOpening theirs (spoken ss)
    pub ends : ends_open ss ≡ true
    pub limits : z.limits ≡ agreed l theirs
    pub large : 4096 ≤ z.limits.frame_max

  chosen_end : (c : Option Mechanism) (m : Mechanism) (l : Limits) (major minor : ℕ) (offers : Offers) (ss : List Said) (bytes later : List ℕ) (r : Reply) → saying c ≡ Ok r → AreAnswered who ss bytes (after_reply (saying c) (said.Start major minor offers) (record { stage = stage.Start; mechanism = m; limits = l })) z later → Ended l ss z
  chosen_end None m l major minor offers ss bytes later r e k = absurd (let no = e in cc)
  chosen_end (Some n) m l major minor offers ss bytes later r e k = tune_end n l ss bytes later k

  abbrev start_by : Bool → Option Mechanism → Result Reply Refusal
  start_by known c = cond known (saying c) (Err refusal.Version)

  version_end : (m : Mechanism) (l : Limits) (major minor : ℕ) (offers : Offers) (ss : List Said) (bytes later : List ℕ) (r : Reply) → start_reply major minor (chosen m offers) ≡ Ok r → AreAnswered who ss bytes (after_reply (start_reply major minor (chosen m offers)) (said.Start major minor offers) (record { stage = stage.Start; mechanism = m; limits = l })) z later → Begun l (said.Start major minor offers ∷ ss)
  version_end m l major minor offers ss bytes later r =
      elim ((major == 0) && (minor == 9)) as (λ b. ((major == 0) && (minor == 9)) ≡ b → start_by b (chosen m offers) ≡ Ok r → AreAnswered who ss bytes (after_reply (start_by b (chosen m offers)) (said.Start major minor offers) (record { stage = stage.Start; mechanism = m; limits = l })) z later → Begun l (said.Start major minor offers ∷ ss)) [
        | true ↦ λ known e k.
            let end : Ended l ss z = chosen_end (chosen m offers) m l major minor offers ss bytes later r e k in
            let both = and_parts (major == 0) (minor == 9) known in
            record {
              theirs = end.theirs;
              opening = (eqb-true major 0 both.0, eqb-true minor 9 both.1, end.tuned);
              ends = end.ends;
              limits = end.limits;
              large = end.large;
            }
        | false ↦ λ known e k. absurd (let no = e in cc)
      ] refl

  pub start_end : (m : Mechanism) (l : Limits) (ss : List Said) (bytes replies : List ℕ) → AreAnswered who ss bytes (record { stage = stage.Start; mechanism = m; limits = l }) z replies → Begun l ss
  start_end m l [] bytes replies k = absurd (closed_end (record { stage = stage.Start; mechanism = m; limits = l }) k.0 refl)
  start_end m l (said.Start major minor offers ∷ ss) bytes replies k = version_end m l major minor offers ss (drop (length_at bytes) bytes) k.1.1 k.1.0 k.1.2 k.1.4
  start_end m l (said.Heartbeat ∷ ss) bytes replies k = let e = start_end m l ss (drop (length_at bytes) bytes) k.1.1 k.1.4 in record { theirs = e.theirs; opening = e.opening; ends = e.ends; limits = e.limits; large = e.large }
  start_end m l (said.Secure ∷ ss) bytes replies k = absurd (let no = k.1.2 in cc)
  start_end m l (said.Tune c f b ∷ ss) bytes replies k = absurd (let no = k.1.2 in cc)
  start_end m l (said.OpenOk ∷ ss) bytes replies k = absurd (let no = k.1.2 in cc)
  start_end m l (said.Close code ∷ ss) bytes replies k = absurd (let no = k.1.2 in cc)
  start_end m l (said.Blocked ∷ ss) bytes replies k = absurd (let no = k.1.2 in cc)
  start_end m l (said.Unblocked ∷ ss) bytes replies k = absurd (let no = k.1.2 in cc)

pub opening_read : (who : Who) (acts : List Act) (wanted : Mechanism) (ours : Limits) (x z : Door) → IsNewDoor wanted ours x → Opens who acts x z → is_opened z.handshake.stage ≡ true → IsOpened who wanted ours (handed acts) z
opening_read who acts wanted ours x z new h opened =
    is_read (opens_go who (new_handshake wanted ours) acts [] x z (inr (record { heard = []; replies = []; read = new.1; answered = (new.0, refl); told = new.2 })) h)
  where
    is_read : Goes who (new_handshake wanted ours) (handed acts) z → IsOpened who wanted ours (handed acts) z
    is_read (inl over) = let no : true ≡ false = sym opened ∙ ap is_opened over in cc
    is_read (inr is) =
        let e : Begun who z.handshake opened ours is.heard = start_end who z.handshake opened wanted ours is.heard (handed acts) is.replies is.answered in
        record {
          heard = is.heard;
          theirs = e.theirs;
          replies = is.replies;
          read = is.read;
          opening = e.opening;
          ends = e.ends;
          limits = e.limits;
          large = e.large;
          told = is.told;
          answered = is.answered;
        }

-- ---- where an opening ends

ends_alike : (s : Said) (ss ts : List Said) → ends_open (s ∷ ss) ≡ true → ends_open (s ∷ ts) ≡ true → ((ss ≡ []) × (ts ≡ [])) ⊎ ((ends_open ss ≡ true) × (ends_open ts ≡ true))
ends_alike said.OpenOk [] [] e f = inl (refl, refl)
ends_alike said.OpenOk [] (t ∷ ts) e f = absurd cc
ends_alike said.OpenOk (s ∷ ss) ts e f = absurd cc
ends_alike (said.Start major minor offers) ss ts e f = inr (e, f)
ends_alike said.Secure ss ts e f = inr (e, f)
ends_alike (said.Tune c m b) ss ts e f = inr (e, f)
ends_alike (said.Close code) ss ts e f = inr (e, f)
ends_alike said.Blocked ss ts e f = inr (e, f)
ends_alike said.Unblocked ss ts e f = inr (e, f)
ends_alike said.Heartbeat ss ts e f = inr (e, f)

-- octets end an opening at one place
pub same_rest : (ss ts : List Said) (bytes rest other : List ℕ) → AreSaid ss bytes rest → AreSaid ts bytes other → ends_open ss ≡ true → ends_open ts ≡ true → rest ≡ other
same_rest [] ts bytes rest other h k e f = absurd cc
same_rest (s ∷ ss) [] bytes rest other h k e f = absurd cc
same_rest (s ∷ ss) (t ∷ ts) bytes rest other h k e f =
    let some : Some s ≡ Some t = sym h.1 ∙ k.1 in
    let is : t ≡ s = cc in
    follow (λ a b. same_rest ss ts (drop (length_at bytes) bytes) rest other h.2 k.2 a b) (ends_alike s ss ts e (subst (λ u. ends_open (u ∷ ts) ≡ true) is f))
  where
    follow : (ends_open ss ≡ true → ends_open ts ≡ true → rest ≡ other) → (((ss ≡ []) × (ts ≡ [])) ⊎ ((ends_open ss ≡ true) × (ends_open ts ≡ true))) → rest ≡ other
    follow later (inl none) =
        let d : List ℕ = drop (length_at bytes) bytes in
        subst (λ l. AreSaid l d rest) none.0 h.2 ∙ sym (subst (λ l. AreSaid l d other) none.1 k.2)
    follow later (inr more) = later more.0 more.1

-- what is left of an opening, with what comes behind it, is what was sent behind it
pub rest_follows : (ss ts : List Said) (came rest opening behind later : List ℕ) → AreSaid ss came rest → ends_open ss ≡ true → AreSaid ts opening [] → ends_open ts ≡ true → came ++ behind ≡ opening ++ later → rest ++ behind ≡ later
rest_follows ss ts came rest opening behind later h e k f all =
    same_rest ss ts (opening ++ later) (rest ++ behind) later (subst (λ b. AreSaid ss b (rest ++ behind)) all (said_on ss came behind rest h)) (said_on ts opening later [] k) e f

-- ---- a run behind it

-- what was on its way down, and what is sent then, is what is taken, and what is on its way at last
module _ (x y z : Net) (more : List Later) (later : y.down ++ sent more ≡ taken more ++ z.down) where
  same_down : y.down ≡ x.down → x.down ++ sent more ≡ taken more ++ z.down
  same_down e = ap (λ d. d ++ sent more) (sym e) ∙ later

  less_down : (octets : List ℕ) → x.down ≡ octets ++ y.down → x.down ++ sent more ≡ (octets ++ taken more) ++ z.down
  less_down octets e = ap (λ d. d ++ sent more) e ∙ (append_assoc octets y.down (sent more) ∙ (ap (λ d. octets ++ d) later ∙ sym (append_assoc octets (taken more) z.down)))

  more_down : (octets : List ℕ) → y.down ≡ x.down ++ octets → x.down ++ (octets ++ sent more) ≡ taken more ++ z.down
  more_down octets e = sym (append_assoc x.down octets (sent more)) ∙ (ap (λ d. d ++ sent more) (sym e) ∙ later)

sent_taken : (acts : List Later) (x z : Net) → Leads acts x z → x.down ++ sent acts ≡ taken acts ++ z.down
unfolding Leads
sent_taken [] x z h = append-nil x.down ∙ ap (λ (n : Net). n.down) (sym h)
sent_taken (Calls call ∷ more) x z h = same_down x h.0 z more (sent_taken more h.0 z h.1.1) h.1.0.3
sent_taken (Leaves ∷ more) x z h = same_down x h.0 z more (sent_taken more h.0 z h.1.1) h.1.0.3
sent_taken (Beats ∷ more) x z h = same_down x h.0 z more (sent_taken more h.0 z h.1.1) h.1.0.4
sent_taken (LaterComes octets s ∷ more) x z h = less_down x h.0 z more (sent_taken more h.0 z h.1.1) (kept_by s octets) h.1.0.3
sent_taken (Reads p ∷ more) x z h = same_down x h.0 z more (sent_taken more h.0 z h.1.1) h.1.0.2
sent_taken (Sends p ∷ more) x z h = more_down x h.0 z more (sent_taken more h.0 z h.1.1) (octets_in p) h.1.0.3
sent_taken (Strays f ∷ more) x z h = more_down x h.0 z more (sent_taken more h.0 z h.1.1) (octets_in (Of f)) h.1.0.4

pub run_follows : (who : Who) (acts : List Act) (run : List Later) → RunsFollow who acts run
run_follows who acts run wanted ours x z new h opened first last fresh leads opening octets behind are ends all =
    let is : IsOpened who wanted ours (handed acts) z = opening_read who acts wanted ours x z new h opened in
    let went : sent run ≡ taken run ++ last.down = ap (λ d. d ++ sent run) (sym fresh.down) ∙ sent_taken run first last leads in
    rest_follows is.heard opening (handed acts) z.came octets behind (sent run) is.read is.ends are ends all ∙ went
