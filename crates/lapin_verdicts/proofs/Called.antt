-- Every publish leaves in the opening of its channel in which its call was accepted: no opening begins between.
use Rattle.std.proofs.Common.{◌≡◌, ◌∙◌, ℕ, zero, suc, ◌+◌, ◌≤◌, ◌<◌, Bool, true, false, cond, ◌||◌, List, [], ◌∷◌, ◌++◌, Option, Some, None, refl, sym, ap, subst, append-nil, append_assoc, arith, eq-eqb}
use Rattle.std.specs.List.{list_any, filter, find}
use Rattle.std.proofs.lemmas.List.Folds.{list_any-append}
use Rattle.lapin_types.specs.declared.event.Event.{Event}
use Rattle.lapin_types.specs.declared.event.Event.TheVariants as event
use Rattle.lapin_types.specs.declared.leaving.Left.{Left}
use Rattle.lapin_types.specs.declared.leaving.Publish.{Publish}
use Rattle.lapin_types.specs.Types.{Frame}
use Rattle.lapin_rules.specs.ConfirmMarks.{ConfirmMark}
use Rattle.lapin_rules.specs.ConfirmMarks as mark
use Rattle.lapin_rules.specs.ConfirmReadings.{adds, begins, leaves, added, channel_of, has_left}
use Rattle.lapin_rules.specs.Drops.{is_off, is_on, publish_channel}
use Rattle.lapin_rules.specs.Events.{after_event, confirm_marks}
use Rattle.lapin_rules.specs.Frames.{MethodEntry, RestEntry}
use Rattle.lapin_rules.specs.Handing.{handed_out, began_on, after_handing, sent, left_marks}
use Rattle.lapin_rules.specs.History.{History, Past, past, rec, readings_of}
use Rattle.lapin_rules.specs.Leaving.{left_of, left_lists, may_begin}
use Rattle.lapin_rules.specs.Phases.{is_up}
use Rattle.lapin_rules.specs.Words.{many, through, without_first}
use Rattle.lapin_rules.specs.Wire.{Wire, lists_of, with_lists}
use Rattle.lapin_joint.specs.declared.step.Step.{Step}
use Rattle.lapin_joint.specs.declared.step.Step.TheVariants as step
use Rattle.lapin_joint.specs.Joint.{Joint, is_lawful, client, read_first, send_down, deliver_first, after, joined_to}
use Rattle.lapin_machine.specs.Way.{by_history}
use Rattle.lapin_broker.specs.Sends.{may}
use Rattle.lapin_effects.specs.Effects.{is_next, publish_by, hears, Effect, Stays, Closes, Opens, Adds, Ends, Falls, Sinks}
use Rattle.lapin_effects.proofs.Events.{has_effect}
use Rattle.lapin_concord.specs.Openings.{opening_of}
use Rattle.lapin_verdicts.specs.Publishes.{Message}
use Rattle.lapin_verdicts.specs.Verdicts.{messages_in, through_nth, called_in}
use Rattle.lapin_verdicts.specs.Session.{past_of, handed_frames}
use Rattle.lapin_verdicts.proofs.Assembly.{in_run}
use Rattle.lapin_verdicts.proofs.Begins.{Taken, find_taken, through-new}
use Rattle.lapin_verdicts.proofs.Keeping.{added-one, added_channel}
use Rattle.lapin_verdicts.proofs.Marks.{many-append, channel-append}
use Rattle.lapin_verdicts.proofs.Numbered.{effect_unleft, effect_begins, begun_in}
use Rattle.lapin_verdicts.proofs.Numbering.{Inv, hears_live}
use Rattle.lapin_verdicts.proofs.Opens.{left_begins}
use Rattle.lapin_verdicts.proofs.Runs.{past-push, joined-push}
use Rattle.lapin_verdicts.proofs.Turns.{is_left, left-same}
use Rattle.lapin_verdicts.proofs.Whole.{opening-more}
use Rattle.lapin_rules.proofs.ListLaws.{many-none}
use Rattle.lapin_concord.proofs.Tags.{added-append}

-- ---- lists

nth-append : {X : Type 0} (p : X → Bool) (n : ℕ) (xs ys : List X) → n ≤ many p xs → through_nth p n (xs ++ ys) ≡ through_nth p n xs
nth-append p zero [] [] h = refl
nth-append p zero [] (y ∷ ys) h = refl
nth-append p (suc n) [] ys h = let z : ⊥ = omega (arith, h) in absurd z
nth-append p zero (x ∷ xs) ys h = refl
nth-append p (suc n) (x ∷ xs) ys h = elim (p x) as (λ b. suc n ≤ cond b (many p xs + 1) (many p xs) → x ∷ through_nth p (cond b n (suc n)) (xs ++ ys) ≡ x ∷ through_nth p (cond b n (suc n)) xs) [
  | true ↦ λ e. ap (λ v. x ∷ v) (nth-append p n xs ys (omega (arith, e)))
  | false ↦ λ e. ap (λ v. x ∷ v) (nth-append p (suc n) xs ys e)
] h

nth-last : {X : Type 0} (p : X → Bool) (n : ℕ) (xs : List X) (x : X) → p x ≡ true → n ≡ many p xs + 1 → through_nth p n (xs ++ x ∷ []) ≡ xs ++ x ∷ []
nth-last p zero xs x h e = let z : ⊥ = omega (arith, e) in absurd z
nth-last p (suc n) [] x h e = refl
nth-last p (suc n) (y ∷ xs) x h e = elim (p y) as (λ b. suc n ≡ cond b (many p xs + 1) (many p xs) + 1 → y ∷ through_nth p (cond b n (suc n)) (xs ++ x ∷ []) ≡ y ∷ (xs ++ x ∷ [])) [
  | true ↦ λ g. ap (λ v. y ∷ v) (nth-last p n xs x h (omega (arith, g)))
  | false ↦ λ g. ap (λ v. y ∷ v) (nth-last p (suc n) xs x h g)
] e

called-more : (k : ℕ) (ms xs : List ConfirmMark) → 0 < k → k ≤ added ms → called_in k (ms ++ xs) ≡ called_in k ms
called-more k ms xs z le = ap (λ d. many (begins d) (through_nth adds k (ms ++ xs))) (channel-append k ms xs z le) ∙ ap (many (begins (channel_of k ms))) (nth-append adds k ms xs le)

-- ---- the publishes that wait were called in the opening that is there

abbrev AreHere : List ConfirmMark → List Publish → Type 0
AreHere ms [] = Unit {0}
AreHere ms (q ∷ qs) = (0 < q.confirm) × (q.confirm ≤ added ms) × (many (begins q.channel) ms ≡ called_in q.confirm ms) × AreHere ms qs

here-filter : (ms : List ConfirmMark) (p : Publish → Bool) (qs : List Publish) → AreHere ms qs → AreHere ms (filter p qs)
here-filter ms p [] h = tt
here-filter ms p (q ∷ qs) h = elim (p q) as (λ b. AreHere ms (cond b (q ∷ filter p qs) (filter p qs))) [ true ↦ (h.0, h.1, h.2, here-filter ms p qs h.3) | false ↦ here-filter ms p qs h.3 ]

here-without : (ms : List ConfirmMark) (p : Publish → Bool) (qs : List Publish) → AreHere ms qs → AreHere ms (without_first p qs)
here-without ms p [] h = tt
here-without ms p (q ∷ qs) h = elim (p q) as (λ b. AreHere ms (cond b qs (q ∷ without_first p qs))) [ true ↦ h.3 | false ↦ (h.0, h.1, h.2, here-without ms p qs h.3) ]

here-push : (ms : List ConfirmMark) (qs : List Publish) (q : Publish) → AreHere ms qs → AreHere ms (q ∷ []) → AreHere ms (qs ++ q ∷ [])
here-push ms [] q h k = k
here-push ms (x ∷ qs) q h k = (h.0, h.1, h.2, here-push ms qs q h.3 k)

-- none of their openings begins among these marks
abbrev AreStill : List ConfirmMark → List Publish → Type 0
AreStill xs [] = Unit {0}
AreStill xs (q ∷ qs) = (many (begins q.channel) xs ≡ 0) × AreStill xs qs

here-more : (ms xs : List ConfirmMark) (qs : List Publish) → AreStill xs qs → added ms ≤ added (ms ++ xs) → AreHere ms qs → AreHere (ms ++ xs) qs
here-more ms xs [] s le h = tt
here-more ms xs (q ∷ qs) s le h =
    let z = h.0 in let a = h.1 in
    let more = many-append (begins q.channel) ms xs in
    let none = s.0 in
    let same : many (begins q.channel) (ms ++ xs) ≡ many (begins q.channel) ms = omega (arith, more, none) in
    (z, omega (arith, a, le), same ∙ (h.2 ∙ sym (called-more q.confirm ms xs z a)), here-more ms xs qs s.1 le h.3)

any_here : (c : ℕ) (q : Publish) (qs : List Publish) → q.channel ≡ c → list_any (is_on publish_channel c) (q ∷ qs) ≡ true
any_here c q qs e = rw (eq-eqb q.channel c e) refl

any_tail : (p : Publish → Bool) (q : Publish) (qs : List Publish) → list_any p (q ∷ qs) ≡ false → list_any p qs ≡ false
any_tail p q qs h = elim (p q) as (λ v. (v || list_any p qs) ≡ false → list_any p qs ≡ false) [ true ↦ λ e. absurd cc | false ↦ λ e. e ] h

still_heard : (b : Wire) (xs : List ConfirmMark) (qs : List Publish) → ((c : ℕ) → hears c b ≡ true → many (begins c) xs ≡ 0) → ((c : ℕ) → hears c b ≡ false → list_any (is_on publish_channel c) qs ≡ false) → AreStill xs qs
still_heard b xs [] none heard = tt
still_heard b xs (q ∷ qs) none heard = (
  elim (hears q.channel b) as (λ v. hears q.channel b ≡ v → many (begins q.channel) xs ≡ 0) [
    | true ↦ λ u. none q.channel u
    | false ↦ λ d. (let w : true ≡ false = sym (any_here q.channel q qs refl) ∙ heard q.channel d in absurd cc)
  ] refl,
  still_heard b xs qs none (λ c d. any_tail (is_on publish_channel c) q qs (heard c d)),
)

-- ---- what is kept

record Called (b : Wire) (ms : List ConfirmMark) : Type 0 where
  pub here : AreHere ms b.publishes
  pub left : (k : ℕ) → has_left k ms ≡ true → (0 < k) × (k ≤ added ms) × (opening_of k ms ≡ called_in k ms)

left_kept : (ms xs : List ConfirmMark) → ((k : ℕ) → has_left k xs ≡ false) → added ms ≤ added (ms ++ xs) → ((k : ℕ) → has_left k ms ≡ true → (0 < k) × (k ≤ added ms) × (opening_of k ms ≡ called_in k ms)) → (k : ℕ) → has_left k (ms ++ xs) ≡ true → (0 < k) × (k ≤ added (ms ++ xs)) × (opening_of k (ms ++ xs) ≡ called_in k (ms ++ xs))
left_kept ms xs none le was k l =
    let before : has_left k ms ≡ true = by (has_left k ms) (sym (list_any-append (leaves k) ms xs) ∙ l) in
    let w = was k before in
    let a = w.1 in
    (w.0, omega (arith, a, le), opening-more k ms xs w.0 w.1 before ∙ (w.2 ∙ sym (called-more k ms xs w.0 w.1)))
  where
    by : (v : Bool) → (v || has_left k xs) ≡ true → v ≡ true
    by true h = refl
    by false h = let w : true ≡ false = sym h ∙ none k in absurd cc

-- the publish that is added is called in the opening that is there
new_here : (ms : List ConfirmMark) (q : Publish) → q.confirm ≡ added ms + 1 → AreHere (ms ++ mark.Added q.channel ∷ []) (q ∷ [])
new_here ms q e =
    let more = added-one ms q.channel in
    (omega (arith, e), omega (arith, e, more), sym (ap (λ d. many (begins d) (through_nth adds q.confirm (ms ++ mark.Added q.channel ∷ []))) (added_channel ms q.channel q.confirm e) ∙ ap (many (begins q.channel)) (nth-last adds q.confirm ms (mark.Added q.channel) refl e)), tt)

no_left : (k : ℕ) (xs : List ConfirmMark) → list_any is_left xs ≡ false → has_left k xs ≡ false
no_left k xs h = left-same k [] xs h

event_called : (b b' : Wire) (ms xs : List ConfirmMark) (new : List Publish) → Effect b b' xs new → added ms ≡ b.published → (is_up b.link ≡ false → b.publishes ≡ []) → ((c : ℕ) → hears c b ≡ false → list_any (is_on publish_channel c) b.publishes ≡ false) → Called b ms → Called b' (ms ++ xs)
event_called b b' ms xs new e counted shut heard k = record { here = by e; left = left_kept ms xs (λ j. no_left j xs (effect_unleft b b' xs new e)) (added-append ms xs) k.left }
  where
    still : AreStill xs b.publishes
    still = still_heard b xs b.publishes (λ c u. many-none (begins c) xs (effect_begins c b b' xs new (hears_live c b u) e)) heard

    more : AreHere (ms ++ xs) b.publishes
    more = here-more ms xs b.publishes still (added-append ms xs) k.here

    by : Effect b b' xs new → AreHere (ms ++ xs) b'.publishes
    by (Stays s p es m f i j) = subst (AreHere (ms ++ xs)) (sym p) more
    by (Closes d x s p m ms' f i j) = subst (AreHere (ms ++ xs)) (sym p) (here-filter (ms ++ xs) (is_off publish_channel d) b.publishes more)
    by (Opens d t s was now r p m i j) = subst (AreHere (ms ++ xs)) (sym p) more
    by (Adds q up mx r lv hr p m here number pub_ i j) = subst (AreHere (ms ++ xs)) (sym p) (here-push (ms ++ xs) b.publishes q more (subst (λ v. AreHere (ms ++ v) (q ∷ [])) (sym i) (new_here ms q (omega (arith, number, counted)))))
    by (Ends d x s now r p es m q i j) = subst (AreHere (ms ++ xs)) (sym p) (here-filter (ms ++ xs) (is_off publish_channel d) b.publishes more)
    by (Falls x mx n dn r p q i j) = subst (AreHere (ms ++ xs)) (sym p) tt
    by (Sinks mx n w dn r p q i j) = subst (AreHere (ms ++ xs)) (sym (p (shut w))) tt

-- ---- a frame request

sent_publishes : (o : Option Left) (b : Wire) → (sent o b).publishes ≡ b.publishes
sent_publishes None b = refl
sent_publishes (Some l) b = refl

left_here : (ms : List ConfirmMark) (n : ℕ) (t : ℕ → Bool) (rs : List RestEntry) (es : List MethodEntry) (ps : List Publish) → AreHere ms ps → AreHere ms (left_of n t rs es ps).publishes
left_here ms n t (f ∷ rs) es ps h = h
left_here ms n t [] (m ∷ es) ps h = h
left_here ms n t [] [] ps h = here-without ms (may_begin t) ps h

still_none : (xs : List ConfirmMark) (qs : List Publish) → ((c : ℕ) → many (begins c) xs ≡ 0) → AreStill xs qs
still_none xs [] h = tt
still_none xs (q ∷ qs) h = (h q.channel, still_none xs qs h)

-- the first publish that may begin waits here
found_here : (p : Publish → Bool) (ms : List ConfirmMark) (qs : List Publish) (q : Publish) → find p qs ≡ Some q → AreHere ms qs → many (begins q.channel) ms ≡ called_in q.confirm ms
found_here p ms [] q f h = absurd cc
found_here p ms (x ∷ qs) q f h = (elim (p x) as (λ b. cond b (Some x) (find p qs) ≡ Some q → many (begins q.channel) ms ≡ called_in q.confirm ms) [
  | true ↦ λ e. (let same : x ≡ q = cc in subst (λ (v : Publish). many (begins v.channel) ms ≡ called_in v.confirm ms) same h.2)
  | false ↦ λ e. found_here p ms qs q e h.3
]) f

begins_here : (msgs : List Message) (ms : List ConfirmMark) (q : Publish) → Taken msgs ms 0 q → many (begins q.channel) ms ≡ called_in q.confirm ms → opening_of q.confirm (ms ++ mark.Left q.channel q.confirm ∷ []) ≡ called_in q.confirm (ms ++ mark.Left q.channel q.confirm ∷ [])
begins_here msgs ms q t h =
    let xs : List ConfirmMark = mark.Left q.channel q.confirm ∷ [] in
    let on : channel_of q.confirm (ms ++ xs) ≡ q.channel = channel-append q.confirm ms xs t.above t.accepted ∙ t.on in
    let more = many-append (begins q.channel) ms xs in
    let none : many (begins q.channel) xs ≡ 0 = refl in
    let same : many (begins q.channel) (ms ++ xs) ≡ many (begins q.channel) ms = omega (arith, more, none) in
    ap (λ d. many (begins d) (through (leaves q.confirm) (ms ++ xs))) on ∙ (ap (many (begins q.channel)) (through-new (leaves q.confirm) ms (mark.Left q.channel q.confirm) t.unleft) ∙ (same ∙ (h ∙ sym (called-more q.confirm ms xs t.above t.accepted))))

next_called : (n c : ℕ) (t : ℕ → Bool) (msgs : List Message) (b : Wire) (ms : List ConfirmMark) (fs : List Frame) → Inv n c msgs b ms fs → Called b ms → Called (after_handing t b) (ms ++ left_marks (handed_out t b))
next_called n c t msgs b ms fs i k = record {
  here = subst (AreHere (ms ++ left_marks (handed_out t b))) (sym (sent_publishes (handed_out t b) (with_lists (left_lists b.frame_max t (lists_of b)) b))) (left_here (ms ++ left_marks (handed_out t b)) b.frame_max t b.rest b.methods b.publishes (here-more ms (left_marks (handed_out t b)) b.publishes (still_none (left_marks (handed_out t b)) b.publishes (λ d. left_begins d (handed_out t b))) (added-append ms (left_marks (handed_out t b))) k.here));
  left = λ j l. by j (has_left j ms) refl l;
}
  where
    by : (j : ℕ) (v : Bool) → has_left j ms ≡ v → has_left j (ms ++ left_marks (handed_out t b)) ≡ true → (0 < j) × (j ≤ added (ms ++ left_marks (handed_out t b))) × (opening_of j (ms ++ left_marks (handed_out t b)) ≡ called_in j (ms ++ left_marks (handed_out t b)))
    by j true was l =
        let w = k.left j was in
        let a = w.1 in
        let le = added-append ms (left_marks (handed_out t b)) in
        (w.0, omega (arith, a, le), opening-more j ms (left_marks (handed_out t b)) w.0 w.1 was ∙ (w.2 ∙ sym (called-more j ms (left_marks (handed_out t b)) w.0 w.1)))
    by j false was l =
        let new : has_left j (left_marks (handed_out t b)) ≡ true = ap (λ v. v || has_left j (left_marks (handed_out t b))) (sym was) ∙ (sym (list_any-append (leaves j) ms (left_marks (handed_out t b))) ∙ l) in
        let g = begun_in j t b.rest b.methods b.publishes b new in
        let q = find_taken (may_begin t) msgs ms 0 b.publishes g.publish g.found i.queue in
        let le = added-append ms (left_marks (handed_out t b)) in
        let a = q.accepted in
        let is : opening_of g.publish.confirm (ms ++ left_marks (handed_out t b)) ≡ called_in g.publish.confirm (ms ++ left_marks (handed_out t b)) = subst (λ v. opening_of g.publish.confirm (ms ++ v) ≡ called_in g.publish.confirm (ms ++ v)) (sym g.marks) (begins_here msgs ms g.publish q (found_here (may_begin t) ms b.publishes g.publish g.found k.here)) in
        subst (λ v. (0 < v) × (v ≤ added (ms ++ left_marks (handed_out t b))) × (opening_of v (ms ++ left_marks (handed_out t b)) ≡ called_in v (ms ++ left_marks (handed_out t b)))) g.number (q.above, omega (arith, a, le), is)

-- ---- every joined run

module _ (n : ℕ) (big : 8 < n) where
  abbrev At : History → Type 0
  At h = Called (past n h).wire (past n h).confirms

  abbrev on_event : History → Event → History
  on_event h e = h ++ (e, rec n h e) ∷ []

  to_event : (h : History) (e : Event) → Called (after_event (past n h).wire e (rec n h e)) ((past n h).confirms ++ confirm_marks (past n h).wire e (rec n h e)) → At (on_event h e)
  to_event h e k = subst (λ (p : Past). Called p.wire p.confirms) (sym (past-push n h e (rec n h e))) k

  -- what is known of the run before the step
  abbrev Known : Joint History → Type 0
  Known j = (c : ℕ) → (fs : List Frame) × Inv n c (messages_in j.session) (past n j.session).wire (past n j.session).confirms fs

  other_called : (j : Joint History) (e : Event) → is_next e ≡ false → Known j → At j.session → At (on_event j.session e)
  other_called j e apart i k =
      let b : Wire = (past n j.session).wire in
      let first = (i 0).1 in
      to_event j.session e (event_called b (after_event b e (rec n j.session e)) (past n j.session).confirms (confirm_marks b e (rec n j.session e)) (publish_by b e (rec n j.session e)) (has_effect b (readings_of (past n j.session).confirms (past n j.session).tickets) e apart) first.counted (λ d. (first.shut_down d).0) (λ c d. (i c).1.publishes d) k)

  event_by : (j : Joint History) (e : Event) → Known j → At j.session → At (on_event j.session e)
  event_by j (event.Next flow) i k = to_event j.session (event.Next flow) (next_called n 0 (began_on (rec n j.session (event.Next flow))) (messages_in j.session) (past n j.session).wire (past n j.session).confirms (i 0).0 (i 0).1 k)
  event_by j (event.Call c x) i k = other_called j (event.Call c x) refl i k
  event_by j (event.Receive f) i k = other_called j (event.Receive f) refl i k
  event_by j (event.PollTicket c) i k = other_called j (event.PollTicket c) refl i k
  event_by j (event.PollConfirm c) i k = other_called j (event.PollConfirm c) refl i k
  event_by j (event.PollConsumer c) i k = other_called j (event.PollConsumer c) refl i k
  event_by j (event.PollWait c) i k = other_called j (event.PollWait c) refl i k
  event_by j (event.AsideTicket c) i k = other_called j (event.AsideTicket c) refl i k
  event_by j (event.AsideConfirm c) i k = other_called j (event.AsideConfirm c) refl i k
  event_by j (event.Acker c x) i k = other_called j (event.Acker c x) refl i k
  event_by j (event.Delegate c) i k = other_called j (event.Delegate c) refl i k
  event_by j (event.DropConsumer c) i k = other_called j (event.DropConsumer c) refl i k
  event_by j event.NextJob i k = other_called j event.NextJob refl i k
  event_by j (event.State c) i k = other_called j (event.State c) refl i k
  event_by j event.Lost i k = other_called j event.Lost refl i k

  step_called : (s : Step) (j : Joint History) → Known j → At j.session → At (after (by_history n) s j).session
  step_called (step.Client e) j i k = elim (is_lawful e) as (λ v. At (cond v (client (by_history n) e j) j).session) [ true ↦ event_by j e i k | false ↦ k ]
  step_called step.Read j i k = by j.up
    where
      by : (ls : List Left) → At (read_first ls j).session
      by [] = k
      by (l ∷ ls) = k
  step_called (step.Send f) j i k = elim (may j.broker f) as (λ v. At (cond v (send_down f j) j).session) [ true ↦ k | false ↦ k ]
  step_called step.Deliver j i k = by j.down
    where
      by : (fs : List Frame) → At (deliver_first (by_history n) fs j).session
      by [] = k
      by (f ∷ fs) = event_by j (event.Receive f) i k
  step_called step.Lose j i k = event_by j event.Lost i k

  from_called : (pre ss : List Step) → At (joined_to n pre).session → At (joined_to n (pre ++ ss)).session
  from_called pre [] k = subst (λ v. At (joined_to n v).session) (sym (append-nil pre)) k
  from_called pre (s ∷ ss) k =
      let one : At (joined_to n (pre ++ s ∷ [])).session = subst (λ (j : Joint History). At j.session) (sym (joined-push n pre s)) (step_called s (joined_to n pre) (λ c. (handed_frames n pre, in_run n c big pre)) k) in
      subst (λ v. At (joined_to n v).session) (append_assoc pre (s ∷ []) ss) (from_called (pre ++ s ∷ []) ss one)

  -- a publish leaves in the opening of its call
  pub leaves_where_called : (k : ℕ) (ss : List Step) → has_left k (past_of n ss).confirms ≡ true → opening_of k (past_of n ss).confirms ≡ called_in k (past_of n ss).confirms
  leaves_where_called k ss l = ((from_called [] ss (record { here = tt; left = λ j h. absurd cc })).left k l).2
