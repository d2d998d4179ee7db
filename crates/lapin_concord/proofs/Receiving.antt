-- What the marks of a frame that comes leave of the tags that are noted; and that a settlement which comes is not refused.
use Rattle.std.proofs.Common.{◌≡◌, ◌≢◌, ℕ, zero, suc, ◌+◌, ◌<◌, ◌≤◌, Bool, true, false, cond, not, ◌==◌, ◌&&◌, ◌||◌, nat_lt, nat_le, List, [], ◌∷◌, ◌++◌, map, length, refl, sym, ◌∙◌, ap, subst, subst₂, Option, Some, None, inl, inr, eq-eqb, ne_eqb, arith}
use Rattle.std.specs.List.{list_any, range_with_len}
use Rattle.std.proofs.lemmas.List.Folds.{list_any-append}
use Rattle.std.proofs.lemmas.Bool.Decides.{eqb_tells}
use Rattle.lapin_types.specs.declared.leaving.Left.{Left}
use Rattle.lapin_types.specs.declared.record.Record.{Record}
use Rattle.lapin_types.specs.declared.record.Record.TheVariants as record_
use Rattle.lapin_types.specs.Types.{Frame, Error}
use Rattle.lapin_content.specs.declared.start.Start.{Start}
use Rattle.lapin_content.specs.declared.start.Start.TheVariants as start
use Rattle.lapin_content.specs.declared.start.Whole.{Whole}
use Rattle.lapin_rules.specs.declared.broker_frames.Incoming.{Incoming}
use Rattle.lapin_rules.specs.declared.broker_frames.Incoming.TheVariants as incoming
use Rattle.lapin_types.specs.declared.outcome.Outcome.{Outcome}
use Rattle.lapin_rules.specs.declared.marks.Settlement.{Settlement}
use Rattle.lapin_rules.specs.declared.phases.ChannelPhase.{ChannelPhase}
use Rattle.lapin_rules.specs.declared.phases.ChannelPhase.TheVariants as phase
use Rattle.lapin_rules.specs.declared.phases.ConnectionPhase.{ConnectionPhase}
use Rattle.lapin_rules.specs.declared.phases.ConnectionPhase.TheVariants as link
use Rattle.lapin_rules.specs.declared.phases.CloseStage.TheVariants as stage
use Rattle.lapin_rules.specs.ChannelClose.{close_ok_end}
use Rattle.lapin_rules.specs.ConfirmMarks.{ConfirmMark}
use Rattle.lapin_rules.specs.ConfirmMarks as mark
use Rattle.lapin_rules.specs.ConfirmReadings.{covers, is_pending_as, added, has_left, channel_of as channel_of_publish, tag_of, outcome_at, is_tag, is_open_outcome}
use Rattle.lapin_rules.specs.ConfirmReadings as read
use Rattle.lapin_rules.specs.Content.{whole_on, start_marks, whole_marks, part_marks}
use Rattle.lapin_rules.specs.Ends.{end_with}
use Rattle.lapin_rules.specs.Phases.{is_up}
use Rattle.lapin_rules.specs.Receiving.{received_marks, incoming_marks}
use Rattle.lapin_rules.specs.Wire.{Wire, phase_of}
use Rattle.lapin_confirm.specs.Follows.{Follows}
use Rattle.lapin_confirm.specs.ConfirmState.{ConfirmState}
use Rattle.lapin_confirm.proofs.Reading.{tag-read}
use Rattle.lapin_ticket.specs.declared.Slot.{Slot}
use Rattle.lapin_machine.specs.World.{readings_of}
use Rattle.lapin_broker.specs.declared.frames.BrokerFrame.{BrokerFrame}
use Rattle.lapin_broker.specs.declared.frames.BrokerFrame.TheVariants as broker
use Rattle.lapin_broker.specs.States.{Broker}
use Rattle.lapin_broker.specs.Frames.{channel_of, broker_frame}
use Rattle.lapin_pairs.specs.Machine.{Up, DClose, DCloseOk, DOther, Sess, Closed, Opening, Opened, Closing, Crossed, Refused, has_close, state_after, is_refused}
use Rattle.lapin_pairs.specs.Channel.{Settle, DownF, BClose, BCloseOk, BSettle, kind_down}
use Rattle.lapin_pairs.specs.Every.{UpOn, OnU, CloseU, CloseOkU, DownOn, ToD, CloseD, CloseOkD, of_u, conn_left, conn_u, All, StepA, CallA, SendA, HangUpA, NextA, ReadA, DeliverA, LoseA, received_a, delivers_a, happens_a}
use Rattle.lapin_pairs.specs.Asking.{U2, KOpen, KClose, KTell, KAsk, KSelect, KBegin, asking}
use Rattle.lapin_pairs.specs.Tags.{covers as pair_covers}
use Rattle.lapin_pairs.specs.Tagging.{S3, take3, tagging}
use Rattle.lapin_pairs.proofs.Every.{joint_keeps}
use Rattle.lapin_pairs.proofs.Tagging.{Tagged, Calm3, tags_fact, tags_sess}
use Rattle.lapin_concord.specs.Frames.{down_kind, down_frame, IsGiven}
use Rattle.lapin_concord.specs.Wires.{phase_as, link_as, waits_as, pair_as}
use Rattle.lapin_concord.specs.Held.{way, IsMarked, Held}
use Rattle.lapin_concord.specs.Incomes.{part_as, income_as}
use Rattle.lapin_concord.specs.Refusals.{is_refusal}
use Rattle.lapin_concord.proofs.Views.{AreOwn, Delivers, told_by_step, AreTold}
use Rattle.lapin_concord.proofs.Lifting.{bare, tagged_step}
use Rattle.lapin_concord.proofs.Tallies.{J3, tagged_run}
use Rattle.lapin_concord.proofs.Settling.{pends, IsNoted}
use Rattle.lapin_concord.proofs.Noting.{has_select, Pends, NotedAt, IsNotedIn, AreNoted, and_parts, noted_beside, noted_settled}
use Rattle.lapin_concord.proofs.Stepping.{Noted, at_put}
use Rattle.lapin_concord.proofs.Arriving.{IsClosingDone, channel_noted, shut_noted}
use Rattle.lapin_concord.proofs.Marking.{AreBeside, beside, untold_run, conn_of, unsent_of, sess_of, shut_of}
use Rattle.lapin_tables.proofs.Bools.{or_true}
use Rattle.lapin_rules.proofs.PhaseLaws.{up_open}
use Rattle.lapin_concord.proofs.Ending.{ends_has}

-- ---- channels that aren't live

abbrev is_dead : Sess → Bool
is_dead Closed = true
is_dead Crossed = true
is_dead Refused = true
is_dead _ = false

dead_any : (p : Sess) (s : S3) (c : ℕ) (ms ks : List ConfirmMark) (us : List U2) → is_dead p ≡ true → IsNotedIn p s c ms us → IsNotedIn p s c ks us
dead_any Closed s c ms ks us d h = h
dead_any Crossed s c ms ks us d h = h
dead_any Refused s c ms ks us d h = h
dead_any _ s c ms ks us d h = cc

close_dead : (p : Sess) (us : List Up) → is_dead (state_after p us DClose) ≡ true
close_dead Closing us = elim (has_close us) as (λ b. is_dead (cond b Closed Crossed) ≡ true) [ true ↦ refl | false ↦ refl ]
close_dead _ us = refl

answer_dead : (p : Sess) (us : List Up) → is_dead (state_after p us DCloseOk) ≡ true
answer_dead Closing us = refl
answer_dead _ us = refl

ended_noted : (v : All tagging) (ms : List ConfirmMark) (c : ℕ) (x : Error) → is_dead (v.chans c).base.sess ≡ true → AreNoted v ms → AreNoted v (ms ++ mark.Ended c x ∷ [])
ended_noted v ms c x d h e = elim (eqb_tells c e) [
  | inl y ↦ subst (λ i. Noted (v.chans i) i (ms ++ mark.Ended c x ∷ []) (of_u i v.unsent)) y.1 (dead_any (v.chans c).base.sess (v.chans c) c ms (ms ++ mark.Ended c x ∷ []) (of_u c v.unsent) d (h c))
  | inr n ↦ noted_beside (v.chans e).base.sess (v.chans e) e ms (of_u e v.unsent) (mark.Ended c x) n.0 (h e)
]

-- ---- a settlement covers what it covers

abbrev tag_or : DownOn DownF → ℕ
tag_or (ToD d (BSettle x)) = x.tag
tag_or _ = 1

given_tag : (c d : ℕ) (k : BrokerFrame) (x : Settle) → down_kind c k ≡ ToD d (BSettle x) → IsGiven k → 0 < x.tag
given_tag c d (broker.Settle n multiple) x e g = let y : n ≡ x.tag = settled_tag e in omega (arith, g, y)
  where
    settled_tag : ToD c (BSettle (record { tag = n; multiple = multiple })) ≡ ToD d (BSettle x) → n ≡ x.tag
    settled_tag e = ap tag_or e
given_tag c d _ x e g = let y : 1 ≡ x.tag = ap tag_or e in omega (arith, y)

-- the session's word and the pair's
covers_too : (s : Settlement) (n : ℕ) → 0 < s.tag → pair_covers n (record { tag = s.tag; multiple = s.multiple }) ≡ false → covers s n ≡ false
covers_too s n low h = by_kind s.multiple h
  where
    by_kind : (m : Bool) → cond m (nat_le n s.tag) (n == s.tag) ≡ false → cond m (s.tag == 0 || nat_le n s.tag) (s.tag == n) ≡ false
    by_kind true h = ap (λ b. b || nat_le n s.tag) (ne_eqb s.tag 0 (λ z. absurd (omega (arith, low, z)))) ∙ h
    by_kind false h = elim (eqb_tells s.tag n) [ inl y ↦ let z : true ≡ false = sym (eq-eqb n s.tag (sym y.1)) ∙ h in cc | inr y ↦ y.0 ]

last_not : (a b : Bool) → not (a || (b || false)) ≡ true → b ≡ false
last_not true b h = cc
last_not false true h = cc
last_not false false h = refl

-- ---- a closing channel

done_of : (p : ChannelPhase) (us : List U2) → IsMarked p us → IsClosingDone (phase_as p) us
done_of (phase.Closing who true) us m = λ n. ap has_select m
done_of (phase.Closing who false) us m = λ n. let y : true ≡ false = sym (ends_has (way us) m) ∙ n in cc
done_of phase.Closed us m = tt
done_of phase.Opening us m = tt
done_of (phase.Open paused) us m = tt
done_of phase.Crossed us m = tt

-- ---- a frame comes

deliver_step : (s : StepA asking) → told_by_step s ≡ Delivers → s ≡ DeliverA
deliver_step (CallA d KOpen) u = cc
deliver_step (CallA d (KSelect x)) u = cc
deliver_step (CallA d (KBegin i ns)) u = cc
deliver_step (CallA d KClose) u = cc
deliver_step (CallA d KTell) u = cc
deliver_step (CallA d (KAsk k)) u = cc
deliver_step (SendA f) u = cc
deliver_step HangUpA u = cc
deliver_step NextA u = cc
deliver_step ReadA u = cc
deliver_step DeliverA u = refl
deliver_step LoseA u = cc

arrives : (ss : List (StepA asking)) (t : All tagging) (ms : List ConfirmMark) → AreOwn ss → AreTold Delivers ss → AreNoted (happens_a tagging t DeliverA) ms → AreNoted (tagged_run ss t) ms
arrives [] t ms o u h = absurd u
arrives (s ∷ ss) t ms o u h = untold_run ss (happens_a tagging t (tagged_step s)) ms o.1 u.1 (subst (λ x. AreNoted (happens_a tagging t (tagged_step x)) ms) (sym (deliver_step s u.0)) h)

of_end : (us : List (UpOn U2)) (c : ℕ) → of_u c (us ++ CloseOkU ∷ []) ≡ of_u c us
of_end [] c = refl
of_end (OnU d u ∷ us) c = elim (d == c) as (λ b. cond b (u ∷ of_u c (us ++ CloseOkU ∷ [])) (of_u c (us ++ CloseOkU ∷ [])) ≡ cond b (u ∷ of_u c us) (of_u c us)) [ true ↦ ap (λ xs. u ∷ xs) (of_end us c) | false ↦ of_end us c ]
of_end (CloseU ∷ us) c = of_end us c
of_end (CloseOkU ∷ us) c = of_end us c

-- nothing of a channel is left, or what was there
left_none : (s : Sess) (us : List (UpOn U2)) (k : DownOn DownF) (c : ℕ) → has_select (of_u c us) ≡ false → has_select (of_u c (conn_left s us k)) ≡ false
left_none Opening us CloseD c h = refl
left_none Opened us CloseD c h = refl
left_none Closing us CloseD c h = elim (has_close (map conn_u us)) as (λ b. has_select (of_u c (cond b (CloseOkU ∷ []) (us ++ CloseOkU ∷ []))) ≡ false) [ true ↦ refl | false ↦ ap has_select (of_end us c) ∙ h ]
left_none Closing us CloseOkD c h = refl
left_none _ us k c h = h

shut_arrives : (t : All tagging) (s : Sess) (k : DownOn DownF) (ds : List (DownOn DownF)) (ms ks : List ConfirmMark) → (s ≡ Opened → ⊥) → ((c : ℕ) → (t.chans c).base.sess ≡ Closed) → AreNoted t ms → AreNoted (received_a tagging t s k ds) ks
shut_arrives t Opened k ds ms ks n d h = absurd (n refl)
shut_arrives t s k ds ms ks n d h = shut_noted t.chans ks (conn_left s t.unsent k) d (λ c. left_none s t.unsent k c (subst (λ p. IsNotedIn p (t.chans c) c ms (of_u c t.unsent)) (d c) (h c)))

part_beside : (c : ℕ) (p : _) (b : Wire) → AreBeside (part_marks c p b)
part_beside c p b = by_whole (whole_on c p b)
  where
    by_start : (s : Start) (w : Whole) → AreBeside (start_marks c s w)
    by_start (start.Return code text exchange key) w = (refl, tt)
    by_start _ w = tt

    by_whole : (o : Option Whole) → AreBeside (whole_marks c o)
    by_whole None = tt
    by_whole (Some w) = by_start w.start w

not_open : (l : ConnectionPhase) → is_up l ≡ false → link_as l ≡ Opened → ⊥
not_open (link.Closing stage.Queued) y z = cc
not_open _ y z = cc

module _ (t : All tagging) (b : Wire) (br : Broker) (us : List Left) (f : Frame) (ds : List Frame) (ms : List ConfirmMark) (e : bare t ≡ pair_as b br us (f ∷ ds)) (held : Held b) (h : AreNoted t ms) where
  abbrev vs : List (DownOn DownF)
  vs = map down_frame ds

  got : (k : DownOn DownF) (s : Sess) → down_frame f ≡ k → t.conn ≡ s → happens_a tagging t DeliverA ≡ received_a tagging t s k vs
  got k s n o = ap (λ fs. delivers_a tagging t fs) (ap (λ (z : All asking). z.down) e ∙ ap (λ x. x ∷ vs) n) ∙ ap (λ q. received_a tagging t q k vs) o

  abbrev To : ℕ → DownF → All tagging
  To c x = received_a tagging t Opened (ToD c x) vs

  to_channel : (c : ℕ) (x : DownF) → b.link ≡ link.Open → AreNoted (To c x) ms
  to_channel c x l = channel_noted t ms c x vs (subst₂ IsClosingDone (sym (sess_of t b br us (f ∷ ds) c e l)) (ap (of_u c) (sym (unsent_of t b br us (f ∷ ds) e))) (done_of (phase_of c b) (of_u c (waits_as b)) ((held.up l).each c).marks)) h

  here : (c : ℕ) (x : DownF) → (To c x).chans c ≡ take3 (t.chans c) (of_u c t.unsent) x
  here c x = at_put c c (take3 (t.chans c) (of_u c t.unsent) x) t.chans (eq-eqb c c refl)

  -- a settlement
  settled_here : (c : ℕ) (s : Settlement) → 0 < s.tag → b.link ≡ link.Open → AreNoted (To c (BSettle (record { tag = s.tag; multiple = s.multiple }))) (ms ++ mark.Settled c s ∷ [])
  settled_here c s low l i = elim (eqb_tells c i) [
    | inl y ↦ subst (λ j. Noted (v.chans j) j (ms ++ mark.Settled c s ∷ []) (of_u j v.unsent)) y.1 (noted_settled (v.chans c).base.sess (v.chans c) c ms (of_u c v.unsent) s uncovered (to_channel c x l c))
    | inr n ↦ noted_beside (v.chans i).base.sess (v.chans i) i ms (of_u i v.unsent) (mark.Settled c s) n.0 (to_channel c x l i)
  ]
    where
      x : DownF
      x = BSettle (record { tag = s.tag; multiple = s.multiple })

      v : All tagging
      v = To c (BSettle (record { tag = s.tag; multiple = s.multiple }))

      uncovered : (n : ℕ) → pends (v.chans c) n ≡ true → covers s n ≡ false
      uncovered n p =
          let z : S3 = take3 (t.chans c) (of_u c t.unsent) (BSettle (record { tag = s.tag; multiple = s.multiple })) in
          let q = and_parts (nat_lt 0 n) (nat_le n (length z.tagged)) (not (list_any (pair_covers n) z.received)) (ap (λ y. pends y n) (sym (here c (BSettle (record { tag = s.tag; multiple = s.multiple })))) ∙ p) in
          covers_too s n low (last_not (list_any (pair_covers n) (t.chans c).received) _ (ap not (sym (list_any-append (pair_covers n) (t.chans c).received (record { tag = s.tag; multiple = s.multiple } ∷ []))) ∙ q.2))

  -- an end
  ends_here : (c : ℕ) (x : DownF) (y : Error) → is_dead (state_after (t.chans c).base.sess (way (of_u c t.unsent)) (kind_down x)) ≡ true → b.link ≡ link.Open → AreNoted (To c x) (ms ++ mark.Ended c y ∷ [])
  ends_here c x y d l = ended_noted (To c x) ms c y (ap (λ (z : S3). is_dead z.base.sess) (here c x) ∙ d) (to_channel c x l)

  -- a frame that says nothing to marks
  plain_here : (k : DownOn DownF) → b.link ≡ link.Open → AreNoted (received_a tagging t Opened k vs) (ms ++ [])
  plain_here (ToD c x) l = beside (To c x) ms [] tt (to_channel c x l)
  plain_here CloseD l = λ c. refl
  plain_here CloseOkD l = beside (received_a tagging t Opened CloseOkD vs) ms [] tt h

  received_here : (i : Incoming) → down_frame f ≡ income_as i → IsGiven (broker_frame f) → b.link ≡ link.Open → AreNoted (received_a tagging t Opened (income_as i) vs) (ms ++ received_marks i b)
  received_here (incoming.Settlement c s) n g l = settled_here c s (given_tag (channel_of f) c (broker_frame f) (record { tag = s.tag; multiple = s.multiple }) n g) l
  received_here (incoming.Content c p) n g l = beside (To c (part_as p)) ms (part_marks c p b) (part_beside c p b) (to_channel c (part_as p) l)
  received_here (incoming.ChannelClose c code) n g l = ends_here c BClose _ (close_dead (t.chans c).base.sess (way (of_u c t.unsent))) l
  received_here (incoming.ChannelCloseOk c) n g l = by_end (close_ok_end (phase_of c b))
    where
      by_end : (o : Option Error) → AreNoted (To c BCloseOk) (ms ++ end_with c o)
      by_end None = beside (To c BCloseOk) ms [] tt (to_channel c BCloseOk l)
      by_end (Some y) = ends_here c BCloseOk y (answer_dead (t.chans c).base.sess (way (of_u c t.unsent))) l
  received_here (incoming.ConnectionClose code) n g l = λ c. refl
  received_here (incoming.Reply c k a) n g l = plain_here (income_as (incoming.Reply c k a)) l
  received_here (incoming.Consumer c p) n g l = plain_here (income_as (incoming.Consumer c p)) l
  received_here (incoming.Flow c active) n g l = plain_here (income_as (incoming.Flow c active)) l
  received_here incoming.ConnectionCloseOk n g l = plain_here CloseOkD l
  received_here incoming.Other n g l = plain_here (income_as incoming.Other) l

  told_here : (i : Incoming) (r : Record) → is_refusal r ≡ false → down_frame f ≡ income_as i → IsGiven (broker_frame f) → b.link ≡ link.Open → AreNoted (received_a tagging t Opened (income_as i) vs) (ms ++ incoming_marks i r b)
  told_here i (record_.Refused x) q n g l = cc
  told_here i record_.Received q n g l = received_here i n g l
  told_here i _ q n g l = plain_here (income_as i) l

  -- any frame that isn't refused
  pub comes_noted : (ss : List (StepA asking)) (i : Incoming) (r : Record) → is_refusal r ≡ false → down_frame f ≡ income_as i → IsGiven (broker_frame f) → AreOwn ss → AreTold Delivers ss → AreNoted (tagged_run ss t) (ms ++ incoming_marks i r b)
  comes_noted ss i r q n g o u = arrives ss t (ms ++ incoming_marks i r b) o u (by_link (is_up b.link) refl)
    where
      by_link : (x : Bool) → is_up b.link ≡ x → AreNoted (happens_a tagging t DeliverA) (ms ++ incoming_marks i r b)
      by_link true y = let l = up_open b.link y in subst (λ v. AreNoted v (ms ++ incoming_marks i r b)) (sym (got (income_as i) Opened n (conn_of t b br us (f ∷ ds) e ∙ ap link_as l))) (told_here i r q n g l)
      by_link false y = subst (λ v. AreNoted v (ms ++ incoming_marks i r b)) (sym (got (income_as i) (link_as b.link) n (conn_of t b br us (f ∷ ds) e)))
          (shut_arrives t (link_as b.link) (income_as i) vs ms (ms ++ incoming_marks i r b) (not_open b.link y) (λ c. shut_of t b br us (f ∷ ds) c e y) h)

-- ---- a settlement that comes is not refused

any_range : (p : ℕ → Bool) (a m k : ℕ) → a ≤ k → k < a + m → p k ≡ true → list_any p (range_with_len a m) ≡ true
any_range p a zero k low high h = absurd (omega (arith, low, high))
any_range p a (suc m) k low high h = elim (eqb_tells a k) [
  | inl y ↦ ap (λ i. p i || list_any p (range_with_len (a + 1) m)) y.1 ∙ ap (λ b. b || list_any p (range_with_len (a + 1) m)) h
  | inr n ↦ ap (λ b. p a || b) (any_range p (a + 1) m k (let apart : a ≢ k = n.1 in omega (arith, low, apart)) (omega (arith, high)) h) ∙ or_true (p a)
]

is_pending_there : (c n : ℕ) (ms : List ConfirmMark) → Pends c n ms → read.is_pending c n ms ≡ true
is_pending_there c n ms p = any_range (is_pending_as c n ms) 1 (added ms) p.publish p.added.0 (let y : p.publish ≤ added ms = p.added.1 in omega (arith, y))
    (here (has_left p.publish ms) (channel_of_publish p.publish ms) (tag_of p.publish ms) (outcome_at p.publish ms) p.left p.channel p.tag p.outcome)
  where
    here : (a : Bool) (d : ℕ) (u : Option ℕ) (o : Option Outcome) → a ≡ true → d ≡ c → u ≡ Some n → o ≡ None → (a && (d == c && (is_tag n u && is_open_outcome o))) ≡ true
    here a d u o x y z w = rw (x, y, z, w, eq-eqb c c refl, eq-eqb n n refl) refl

live_noted : (p : Sess) (s : S3) (c : ℕ) (ms : List ConfirmMark) (us : List U2) → is_refused (state_after p (way us) DOther) ≡ false → IsNotedIn p s c ms us → NotedAt s c ms us
live_noted Opened s c ms us r h = h
live_noted Closing s c ms us r h = h
live_noted _ s c ms us r h = cc

-- what is pending in the pair's session is pending in the session
pub notes : (t : All tagging) (ms : List ConfirmMark) (p : ConfirmState) (slots : List (Option Slot)) (c : ℕ) (x : Settle) (ds : List (DownOn DownF)) → Follows ms p → t.down ≡ ToD c (BSettle x) ∷ ds → t.conn ≡ Opened → J3 t → AreNoted t ms → IsNoted (t.chans c) (readings_of p slots) c
notes t ms p slots c x ds f n o g h =
    let v : All tagging = happens_a tagging t DeliverA in
    let r : v ≡ received_a tagging t Opened (ToD c (BSettle x)) ds = ap (delivers_a tagging t) n ∙ ap (λ s. received_a tagging t s (ToD c (BSettle x)) ds) o in
    let conn : v.conn ≡ Opened = ap (λ (z : All tagging). z.conn) r ∙ o in
    let never : is_refused (v.chans c).base.sess ≡ false = tags_sess _ ((joint_keeps tagging Tagged Calm3 tags_fact t DeliverA g).chans conn c).good in
    let is : (v.chans c).base.sess ≡ state_after (t.chans c).base.sess (way (of_u c t.unsent)) DOther = ap (λ (z : All tagging). (z.chans c).base.sess) r ∙ ap (λ (z : S3). z.base.sess) (at_put c c (take3 (t.chans c) (of_u c t.unsent) (BSettle x)) t.chans (eq-eqb c c refl)) in
    let live = live_noted (t.chans c).base.sess (t.chans c) c ms (of_u c t.unsent) (ap is_refused (sym is) ∙ never) (h c) in
    record { pending = λ i s q. tag-read c i ms p f ∙ is_pending_there c i ms (live.pending i q) }
