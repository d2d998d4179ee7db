-- Replies, contents and what is about consumers: as they come, the session and the pair of machines go alike.
use Rattle.std.proofs.Common.{◌≡◌, ℕ, ◌-◌, Bool, true, false, ◌==◌, ◌&&◌, nat_lt, nat_le, List, [], ◌∷◌, ◌++◌, length, refl, sym, ◌∙◌, ap, ap₂, subst, append-nil, Option, Some, None, eq-eqb, ne_eqb}
use Rattle.lapin_tables.specs.ByChannel.{on_channel}
use Rattle.lapin_types.specs.declared.leaving.Left.{Left}
use Rattle.lapin_types.specs.declared.request.Request.{Request}
use Rattle.lapin_types.specs.declared.request.ReplyKind.{ReplyKind}
use Rattle.lapin_types.specs.declared.request.ReplyKind.TheVariants as reply_kind
use Rattle.lapin_types.specs.Types.{Frame}
use Rattle.lapin_types.specs.Types.channel_state as state
use Rattle.lapin_methods.specs.declared.frame.ContentHeader.{ContentHeader}
use Rattle.lapin_content.specs.declared.start.Start.{Start}
use Rattle.lapin_content.specs.Contents.{Begun, Expected, expected, after_header, after_body, front_waits, front_takes, for_ticket}
use Rattle.lapin_content.specs.Channels.{Channels, expected_on, joined}
use Rattle.lapin_rules.specs.declared.phases.ChannelPhase.{ChannelPhase}
use Rattle.lapin_rules.specs.declared.phases.ChannelPhase.TheVariants as phase
use Rattle.lapin_rules.specs.declared.phases.ConnectionPhase.TheVariants as link
use Rattle.lapin_rules.specs.Words.{without_first}
use Rattle.lapin_rules.specs.Phases.{channel_state}
use Rattle.lapin_rules.specs.Requests.{is_kind}
use Rattle.lapin_rules.specs.Wire.{Wire, phase_of, requests_of, state_of, receives_on}
use Rattle.lapin_rules.specs.Opening.{opens}
use Rattle.lapin_rules.specs.Reply.{receives, receives_reply, after_reply}
use Rattle.lapin_rules.specs.Content.{expecting, get_ticket, after_get_ok}
use Rattle.lapin_broker.specs.States.{Broker}
use Rattle.lapin_pairs.specs.Machine.{Up, DOpenOk, has_close, state_after, is_refused}
use Rattle.lapin_pairs.specs.Channel as kept
use Rattle.lapin_pairs.specs.Channel.{Data, takes, take_kind, replied, is_none}
use Rattle.lapin_pairs.specs.Every.{of_u, left_all, ToD}
use Rattle.lapin_pairs.specs.Asking.{take2, left_at}
use Rattle.lapin_concord.specs.Frames.{down_frame}
use Rattle.lapin_concord.specs.Wires.{phase_as, reply_number, is_asked, asked_in, contents_as, chan_as, waits_as}
use Rattle.lapin_concord.specs.Held.{way, IsMarked, is_open_phase, IsOneContent, Held}
use Rattle.lapin_concord.proofs.Views.{phase_with, phase_away, requests_with_here, requests_away, contents_on_here, contents_on_away, Same, held_moved}
use Rattle.lapin_concord.proofs.Reading.{less_is}
use Rattle.lapin_concord.proofs.Incomes.{takes_first, asked-without}
use Rattle.lapin_concord.proofs.Calling.{above, open_closed}
use Rattle.lapin_concord.proofs.Coming.{Others, above_zero, state_here, Comes, deliver_to, Receives, received, begun_only, joined_here, joined_away}
use Rattle.lapin_tables.proofs.Bools.{and_second}

-- what was asked for, without the oldest of its kind
abbrev pub answered : ℕ → ReplyKind → Wire → List Request
answered c k b = without_first (is_kind k) (requests_of c b)

-- ---- a reply that neither opens nor closes

-- the state's word on it
pub receives_as : (k : ReplyKind) (p : ChannelPhase) → opens k ≡ false → receives_on (channel_state p) ≡ true → receives k (channel_state p) ≡ true
receives_as k p o h = rw o h

pub not_opens : (k : ReplyKind) → is_asked k ≡ true → opens k ≡ false
not_opens reply_kind.ChannelOpenOk h = cc
not_opens reply_kind.ChannelCloseOk h = cc
not_opens reply_kind.ConnectionCloseOk h = cc
not_opens _ h = refl

-- a reply of that kind is received, and leaves this
pub record Replies (c : ℕ) (k : ReplyKind) (b : Wire) : Type 0 where
  pub heard : receives_reply c k b ≡ true
  pub taken : take_kind (reply_number k) (asked_in (requests_of c b)) ≡ Some (asked_in (answered c k b))

pub replies : (c : ℕ) (k : ReplyKind) (b : Wire) → b.link ≡ link.Open → (c == 0) ≡ false → is_asked k ≡ true → Others (phase_of c b) (way (of_u c (waits_as b))) → is_none (take_kind (reply_number k) (asked_in (requests_of c b))) ≡ false → Replies c k b
replies c k b e z a o n =
    let t = takes_first k (requests_of c b) a n in
    let s : receives k (state_of c b) ≡ true = ap (receives k) (state_here c b e z) ∙ receives_as k (phase_of c b) (not_opens k a) o.receives in
    record { heard = rw (s, t.there) refl; taken = t.rest }

-- the phases stay
pub after_reply_phases : (c : ℕ) (k : ReplyKind) (b : Wire) → is_asked k ≡ true → (after_reply c k b).phases ≡ b.phases
after_reply_phases c k b a = rw (not_opens k a) refl

pub reply_receives : (c : ℕ) (k : ReplyKind) (b : Wire) → is_asked k ≡ true → Receives c b (after_reply c k b)
reply_receives c k b a = record {
  link_ = refl;
  phases = after_reply_phases c k b a;
  rest = refl;
  methods = refl;
  publishes = refl;
  most = refl;
  requests = λ e n. requests_away c e (answered c k b) b.requests n;
  contents = λ e n. refl;
}

pub reply_comes : (c : ℕ) (k : ReplyKind) (b : Wire) (f : Frame) (br : Broker) (us : List Left) (ds : List Frame) → b.link ≡ link.Open → down_frame f ≡ ToD c (kept.BReply (reply_number k) false) → is_asked k ≡ true → Others (phase_of c b) (way (of_u c (waits_as b))) → Replies c k b → Held b → Comes b (after_reply c k b) f br us ds
reply_comes c k b f br us ds e n a o r h =
    received c (kept.BReply (reply_number k) false) b (after_reply c k b) f br us ds e n refl o (reply_receives c k b a) ((h.up e).each c).contents
    (ap (replied (contents_as (expected_on c b.contents)) false) r.taken ∙ ap (λ xs. Some (record { asked_for = xs; content = contents_as (expected_on c b.contents) })) (ap asked_in (sym (requests_with_here c (answered c k b) b.requests))))
    h

-- ---- a content begins

-- where none has begun none is expected
idle_now : (d : Option Data) (z : kept.Content) → d ≡ kept.with_content (record { asked_for = []; content = z }) (kept.begun z) → is_none d ≡ false → z ≡ kept.Idle
idle_now d kept.Idle e h = refl
idle_now d kept.Begun e h = let j : true ≡ false = ap is_none (sym e) ∙ h in absurd cc
idle_now d (kept.Left n) e h = let j : true ≡ false = ap is_none (sym e) ∙ h in absurd cc

start_idle : (xs : List ℕ) (z : kept.Content) → is_none (kept.with_content (record { asked_for = xs; content = z }) (kept.begun z)) ≡ false → z ≡ kept.Idle
start_idle xs kept.Idle h = refl
start_idle xs kept.Begun h = cc
start_idle xs (kept.Left n) h = cc

expecting_receives : (c : ℕ) (s : Start) (b : Wire) → Receives c b (expecting c s b)
expecting_receives c s b = record {
  link_ = refl;
  phases = refl;
  rest = refl;
  methods = refl;
  publishes = refl;
  most = refl;
  requests = λ e n. refl;
  contents = λ e n. joined_away c e (expected 60 s) b.contents n;
}

expected_one : (c : ℕ) (s : Start) (es : Channels) → expected_on c es ≡ [] → expected_on c (joined c (expected 60 s) es) ≡ expected 60 s ∷ []
expected_one c s es e = joined_here c (expected 60 s) es ∙ ap (λ xs. xs ++ expected 60 s ∷ []) e

pub start_comes : (c : ℕ) (s : Start) (b : Wire) (f : Frame) (br : Broker) (us : List Left) (ds : List Frame) → b.link ≡ link.Open → down_frame f ≡ ToD c kept.BStart → Others (phase_of c b) (way (of_u c (waits_as b))) → is_none (takes (record { asked_for = asked_in (requests_of c b); content = contents_as (expected_on c b.contents) }) kept.BStart) ≡ false → Held b → Comes b (expecting c s b) f br us ds
start_comes c s b f br us ds e n o t h =
    let z = start_idle (asked_in (requests_of c b)) (contents_as (expected_on c b.contents)) t in
    let one = expected_one c s b.contents (begun_only (expected_on c b.contents) z) in
    received c kept.BStart b (expecting c s b) f br us ds e n refl o (expecting_receives c s b) (subst IsOneContent (sym one) refl)
    (ap (λ y. kept.with_content (record { asked_for = asked_in (requests_of c b); content = y }) (kept.begun y)) z ∙ ap (λ y. Some (record { asked_for = asked_in (requests_of c b); content = contents_as y })) (sym one))
    h

-- get-ok takes its request too
get_split : (xs : Option (List ℕ)) (z : kept.Content) → is_none (replied z true xs) ≡ false → (is_none xs ≡ false) × (z ≡ kept.Idle)
get_split None z h = absurd cc
get_split (Some xs) z h = (refl, start_idle xs z h)

pub get_comes : (c : ℕ) (s : Start) (b : Wire) (f : Frame) (br : Broker) (us : List Left) (ds : List Frame) → b.link ≡ link.Open → (c == 0) ≡ false → down_frame f ≡ ToD c (kept.BReply (reply_number reply_kind.BasicGetOk) true) → Others (phase_of c b) (way (of_u c (waits_as b))) → is_none (takes (record { asked_for = asked_in (requests_of c b); content = contents_as (expected_on c b.contents) }) (kept.BReply (reply_number reply_kind.BasicGetOk) true)) ≡ false → Held b
    → (receives_reply c reply_kind.BasicGetOk b ≡ true) × Comes b (after_get_ok c s b) f br us ds
get_comes c s b f br us ds e y n o t h =
    let g = get_split (take_kind (reply_number reply_kind.BasicGetOk) (asked_in (requests_of c b))) (contents_as (expected_on c b.contents)) t in
    let r = replies c reply_kind.BasicGetOk b e y refl o g.0 in
    let s' : Start = for_ticket (get_ticket c b) s in
    let one = expected_one c s' b.contents (begun_only (expected_on c b.contents) g.1) in
    let d : Wire = after_get_ok c s b in (
      r.heard,
      received c (kept.BReply (reply_number reply_kind.BasicGetOk) true) b d f br us ds e n refl o
          (record {
            link_ = refl;
            phases = refl;
            rest = refl;
            methods = refl;
            publishes = refl;
            most = refl;
            requests = λ k m. requests_away c k (answered c reply_kind.BasicGetOk b) b.requests m;
            contents = λ k m. joined_away c k (expected 60 s') b.contents m;
          })
          (subst IsOneContent (sym one) refl)
          (ap₂ (λ xs z. replied z true xs) r.taken g.1 ∙ ap₂ (λ xs y. Some (record { asked_for = xs; content = contents_as y })) (ap asked_in (sym (requests_with_here c (answered c reply_kind.BasicGetOk b) b.requests))) (sym one))
          h,
    )

-- ---- a content goes on

header_receives : (c : ℕ) (g : List Expected → List Expected) (b : Wire) → Receives c b (record b { contents = on_channel c g b.contents })
header_receives c g b = record {
  link_ = refl;
  phases = refl;
  rest = refl;
  methods = refl;
  publishes = refl;
  most = refl;
  requests = λ e n. refl;
  contents = λ e n. contents_on_away c e g b.contents n;
}

-- what a header makes of the contents that are expected
record Heads (h : ContentHeader) (xs : List ℕ) (es : List Expected) : Type 0 where
  waits : front_waits h.class_id es ≡ true
  one : IsOneContent (after_header h es)
  same : takes (record { asked_for = xs; content = contents_as es }) (kept.BHeader h.body_size) ≡ Some (record { asked_for = xs; content = contents_as (after_header h es) })

heads : (h : ContentHeader) (xs : List ℕ) (es : List Expected) → h.class_id ≡ 60 → IsOneContent es → is_none (takes (record { asked_for = xs; content = contents_as es }) (kept.BHeader h.body_size)) ≡ false → Heads h xs es
heads h xs [] k i t = cc
heads h xs (e ∷ f ∷ es) k i t = absurd i
heads h xs (e ∷ []) k i t = by_begun e.begun refl
  where
    begun_or : (s : Bool) → (h.body_size == 0) ≡ s → (e.class_id == h.class_id) ≡ true → e.begun ≡ None → Heads h xs (e ∷ [])
    begun_or true s y n = record { waits = rw (n, y) refl; one = rw (n, y, s) tt; same = rw (n, y, s) refl }
    begun_or false s y n = record { waits = rw (n, y) refl; one = rw (n, y, s) i; same = rw (n, y, s) refl }

    by_begun : (o : Option Begun) → e.begun ≡ o → Heads h xs (e ∷ [])
    by_begun None n = begun_or (h.body_size == 0) refl (eq-eqb e.class_id h.class_id (i ∙ sym k)) n
    by_begun (Some b) n = let j : true ≡ false = rw n at t in absurd cc

pub header_comes : (c : ℕ) (q : ContentHeader) (b : Wire) (f : Frame) (br : Broker) (us : List Left) (ds : List Frame) → b.link ≡ link.Open → down_frame f ≡ ToD c (kept.BHeader q.body_size) → q.class_id ≡ 60 → Others (phase_of c b) (way (of_u c (waits_as b))) → is_none (takes (record { asked_for = asked_in (requests_of c b); content = contents_as (expected_on c b.contents) }) (kept.BHeader q.body_size)) ≡ false → Held b
    → (front_waits q.class_id (expected_on c b.contents) ≡ true) × Comes b (record b { contents = on_channel c (after_header q) b.contents }) f br us ds
header_comes c q b f br us ds e n k o t h =
    let g = heads q (asked_in (requests_of c b)) (expected_on c b.contents) k ((h.up e).each c).contents t in
    let is = contents_on_here c (after_header q) b.contents refl in (
      g.waits,
      received c (kept.BHeader q.body_size) b _ f br us ds e n refl o (header_receives c (after_header q) b) (subst IsOneContent (sym is) g.one)
          (g.same ∙ ap (λ y. Some (record { asked_for = asked_in (requests_of c b); content = contents_as y })) (sym is)) h,
    )

-- what a body makes of them
record Bodies (bytes : List ℕ) (xs : List ℕ) (es : List Expected) : Type 0 where
  takes_it : front_takes bytes es ≡ true
  one : IsOneContent (after_body bytes es)
  same : takes (record { asked_for = xs; content = contents_as es }) (kept.BBody (length bytes)) ≡ Some (record { asked_for = xs; content = contents_as (after_body bytes es) })

bodies : (bytes : List ℕ) (xs : List ℕ) (es : List Expected) → IsOneContent es → is_none (takes (record { asked_for = xs; content = contents_as es }) (kept.BBody (length bytes))) ≡ false → Bodies bytes xs es
bodies bytes xs [] i t = cc
bodies bytes xs (e ∷ f ∷ es) i t = absurd i
bodies bytes xs (e ∷ []) i t = by_begun e.begun refl
  where
    whole_or : (b : Begun) (s : Bool) → e.begun ≡ Some b → (nat_lt 0 (length bytes) && nat_le (length bytes) b.left) ≡ true → (length bytes == b.left) ≡ s → Bodies bytes xs (e ∷ [])
    whole_or b true n y s =
        let le = and_second (nat_lt 0 (length bytes)) (nat_le (length bytes) b.left) y in
        let z : (b.left - length bytes == 0) ≡ true = less_is (length bytes) b.left le ∙ s in
        record { takes_it = rw (n, le) refl; one = rw (n, le, z) tt; same = rw (n, y, s, le, z) refl }
    whole_or b false n y s =
        let le = and_second (nat_lt 0 (length bytes)) (nat_le (length bytes) b.left) y in
        let z : (b.left - length bytes == 0) ≡ false = less_is (length bytes) b.left le ∙ s in
        record { takes_it = rw (n, le) refl; one = rw (n, le, z) i; same = rw (n, y, s, le, z) refl }

    fits_or : (b : Begun) (s : Bool) → e.begun ≡ Some b → (nat_lt 0 (length bytes) && nat_le (length bytes) b.left) ≡ s → Bodies bytes xs (e ∷ [])
    fits_or b true n y = whole_or b (length bytes == b.left) n y refl
    fits_or b false n y = let j : true ≡ false = rw (n, y) at t in absurd cc

    by_begun : (o : Option Begun) → e.begun ≡ o → Bodies bytes xs (e ∷ [])
    by_begun None n = let j : true ≡ false = rw n at t in absurd cc
    by_begun (Some b) n = fits_or b (nat_lt 0 (length bytes) && nat_le (length bytes) b.left) n refl

pub body_comes : (c : ℕ) (bytes : List ℕ) (b : Wire) (f : Frame) (br : Broker) (us : List Left) (ds : List Frame) → b.link ≡ link.Open → down_frame f ≡ ToD c (kept.BBody (length bytes)) → Others (phase_of c b) (way (of_u c (waits_as b))) → is_none (takes (record { asked_for = asked_in (requests_of c b); content = contents_as (expected_on c b.contents) }) (kept.BBody (length bytes))) ≡ false → Held b
    → (front_takes bytes (expected_on c b.contents) ≡ true) × Comes b (record b { contents = on_channel c (after_body bytes) b.contents }) f br us ds
body_comes c bytes b f br us ds e n o t h =
    let g = bodies bytes (asked_in (requests_of c b)) (expected_on c b.contents) ((h.up e).each c).contents t in
    let is = contents_on_here c (after_body bytes) b.contents refl in (
      g.takes_it,
      received c (kept.BBody (length bytes)) b _ f br us ds e n refl o (header_receives c (after_body bytes) b) (subst IsOneContent (sym is) g.one)
          (g.same ∙ ap (λ y. Some (record { asked_for = asked_in (requests_of c b); content = contents_as y })) (sym is)) h,
    )

-- ---- open-ok

pub open_only : (p : ChannelPhase) (us : List Up) → is_refused (state_after (phase_as p) us DOpenOk) ≡ false → p ≡ phase.Opening
open_only phase.Closed us h = cc
open_only phase.Opening us h = refl
open_only (phase.Open t) us h = cc
open_only (phase.Closing who sent) us h = cc
open_only phase.Crossed us h = cc

pub open_comes : (c : ℕ) (b : Wire) (f : Frame) (br : Broker) (us : List Left) (ds : List Frame) → b.link ≡ link.Open → down_frame f ≡ ToD c kept.BOpenOk → phase_of c b ≡ phase.Opening → Held b
    → (receives_reply c reply_kind.ChannelOpenOk b ≡ true) × Comes b (after_reply c reply_kind.ChannelOpenOk b) f br us ds
open_comes c b f br us ds e n p h =
    let u = h.up e in
    let d : Wire = after_reply c reply_kind.ChannelOpenOk b in
    let z : (c == 0) ≡ false = above_zero c b u.zero (λ y. let k : phase.Opening ≡ phase.Closed = sym p ∙ y in cc) in
    let s : state_of c b ≡ state.Opening = state_here c b e z ∙ ap channel_state p in
    let was = u.each c in
    let phase_is : phase_of c d ≡ phase.Open false = phase_with c (phase.Open false) b.phases in
    let rs : requests_of c d ≡ answered c reply_kind.ChannelOpenOk b = requests_with_here c (answered c reply_kind.ChannelOpenOk b) b.requests in
    let away : (y : ℕ) → (c == y) ≡ false → Same y b d = λ y m. record { phase = phase_away c y (phase.Open false) b.phases m; requests = requests_away c y (answered c reply_kind.ChannelOpenOk b) b.requests m; contents = refl; way = refl } in
    let clear : has_close (way (of_u c (waits_as b))) ≡ false = subst (λ q. IsMarked q (of_u c (waits_as b))) p was.marks in
    let asks : asked_in (requests_of c d) ≡ asked_in (requests_of c b) = ap asked_in rs ∙ asked-without reply_kind.ChannelOpenOk (requests_of c b) refl in (
      rw (s, was.opening p) refl,
      record {
        held = record {
          up = λ y. record {
            zero = phase_away c 0 (phase.Open false) b.phases (ne_eqb c 0 (above c z)) ∙ u.zero;
            each = held_moved c b d away (record {
              opening = λ y. let k : phase.Open false ≡ phase.Opening = sym phase_is ∙ y in cc;
              crossed = λ y. let k : phase.Open false ≡ phase.Crossed = sym phase_is ∙ y in cc;
              marks = subst (λ q. IsMarked q (of_u c (waits_as b))) (sym phase_is) clear;
              contents = was.contents;
            }) u.each;
            publishes = open_closed c (phase.Open false) b.phases b.publishes (ap is_open_phase p) u.publishes;
            rest = u.rest;
          };
          shut = h.shut;
          linked = h.linked;
          rest = h.rest;
          methods = h.methods;
        };
        follows = deliver_to c kept.BOpenOk b d f br us ds e e n
            ((λ j. record { sess = phase_as (phase_is j); open_data = Some (record { asked_for = asks j; content = contents_as (expected_on c b.contents) }) })
            ∙ ap (λ q. take2 (chan_as q (requests_of c b) (expected_on c b.contents)) (of_u c (waits_as b)) kept.BOpenOk) (sym p))
            away
            (sym (append-nil (waits_as b)) ∙ ap (λ q. left_all c (left_at (phase_as q) (has_close (way (of_u c (waits_as b)))) kept.BOpenOk) (waits_as b)) (sym p));
      },
    )
