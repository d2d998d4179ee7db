-- What is asked of a session holds in every joined run, whatever its broker does.
use Rattle.std.proofs.Common.{◌≡◌, ◌∙◌, ℕ, zero, suc, ◌+◌, ◌≤◌, ◌<◌, ◌==◌, Bool, true, false, cond, ◌&&◌, ◌||◌, List, [], ◌∷◌, ◌++◌, length, Option, Some, None, inl, inr, refl, sym, ap, subst, append-nil, append_assoc, arith, eq-eqb}
use Rattle.std.specs.List.{list_any, filter, find, count_by, range_with_len}
use Rattle.std.specs.Option.{option_map}
use Rattle.std.proofs.lemmas.Bool.Decides.{eqb_tells}
use Rattle.std.proofs.lemmas.List.Folds.{list_any-append}
use Rattle.lapin_types.specs.declared.event.Event.{Event}
use Rattle.lapin_types.specs.declared.event.Event.TheVariants as event
use Rattle.lapin_types.specs.declared.leaving.Left.{Left}
use Rattle.lapin_types.specs.declared.leaving.Publish.{Publish}
use Rattle.lapin_types.specs.Types.{Frame}
use Rattle.lapin_types.specs.Types.frame
use Rattle.lapin_rules.specs.ConfirmMarks.{ConfirmMark}
use Rattle.lapin_rules.specs.ConfirmMarks as mark
use Rattle.lapin_rules.specs.Select.{is_select}
use Rattle.lapin_rules.specs.Words.{through, many}
use Rattle.lapin_rules.specs.ConfirmReadings.{begins, selects, leaves, leaves_on, opening, added, channel_of, has_left, tag_of, outcome_at, is_selected, is_pending, is_pending_as, is_tag, is_open_outcome, place}
use Rattle.lapin_rules.specs.Frames.{MethodEntry, RestEntry, left_publish}
use Rattle.lapin_rules.specs.Leaving.{handed_of, may_begin}
use Rattle.lapin_rules.specs.Handing.{handed_as, began_on, left_marks, frame_marks}
use Rattle.lapin_rules.specs.Wire.{Wire, state_of, receives_on}
use Rattle.lapin_rules.specs.Ends.{ends_all}
use Rattle.lapin_rules.specs.Readings.{Readings}
use Rattle.lapin_rules.specs.Events.{after_event, confirm_marks}
use Rattle.lapin_rules.specs.History.{History, rec, readings_of}
use Rattle.lapin_joint.specs.declared.step.Step.{Step}
use Rattle.lapin_joint.specs.declared.step.Step.TheVariants as step
use Rattle.lapin_joint.specs.Joint.{Joint, is_lawful, joined_to}
use Rattle.lapin_verdicts.specs.Deeds.{deed_in}
use Rattle.lapin_verdicts.specs.Publishes.{Message}
use Rattle.lapin_concord.specs.Openings.{opening_of}
use Rattle.lapin_verdicts.specs.Verdicts.{at_place, messages_in}
use Rattle.lapin_verdicts.specs.InStep.{is_open_waiting}
use Rattle.lapin_verdicts.specs.Session.{IsPending, Numbers, AreNumbered, IsOldOrNext, past_of, handed_frames, whole_tally}
use Rattle.lapin_verdicts.proofs.Marks.{pending_back, channel-append, through-append, many-append}
use Rattle.lapin_effects.specs.Effects.{is_next, publish_by, live, hears, open_entry, Effect, Stays, Closes, Opens, Adds, Ends, Falls, Sinks}
use Rattle.lapin_effects.proofs.Comes.{all_grow}
use Rattle.lapin_verdicts.proofs.Turns.{is_left, still_grow, grow_unleft, grow_turns, turn_parts, left-same, after-never}
use Rattle.lapin_verdicts.proofs.Runs.{joined-push, past_at, delivered_marks, marks_in, marks_after}
use Rattle.lapin_verdicts.proofs.Numbering.{Inv, is_own, is_opener, hears_live}
use Rattle.lapin_verdicts.proofs.Begins.{find_taken, find_on, next_tag, through-new}
use Rattle.lapin_effects.proofs.Events.{has_effect}
use Rattle.lapin_verdicts.proofs.Assembly.{in_run}
use Rattle.std.proofs.lemmas.Bool.{or_parts}
use Rattle.lapin_rules.proofs.ListLaws.{many-none}
use Rattle.lapin_tables.proofs.Bools.{or_true}

-- ---- what waits and opens

waiting_own : (c : ℕ) (ms : List MethodEntry) → list_any (is_open_waiting c) ms ≡ false → list_any is_opener (filter (is_own c) ms) ≡ false
waiting_own c [] h = refl
waiting_own c (m ∷ ms) h = elim (m.channel == c) as (λ v. ((v && is_opener m) || list_any (is_open_waiting c) ms) ≡ false → list_any is_opener (cond v (m ∷ filter (is_own c) ms) (filter (is_own c) ms)) ≡ false) [
  | true ↦ λ e. (let parts = or_parts (is_opener m) (list_any (is_open_waiting c) ms) e in rw parts.0 (waiting_own c ms parts.1))
  | false ↦ λ e. waiting_own c ms e
] h

opener_in : (c t : ℕ) (xs ys : List MethodEntry) → list_any is_opener (xs ++ open_entry c t ∷ ys) ≡ true
opener_in c t xs ys = list_any-append is_opener xs (open_entry c t ∷ ys) ∙ or_true (list_any is_opener xs)

-- ---- what marks an event brings

pub effect_unleft : (b b' : Wire) (xs : List ConfirmMark) (new : List Publish) → Effect b b' xs new → list_any is_left xs ≡ false
effect_unleft b b' xs new (Stays s p es m f still none) = grow_unleft xs (still_grow xs still)
effect_unleft b b' xs new (Closes d e s p m ms f marks none) = ap (list_any is_left) marks
effect_unleft b b' xs new (Opens d t s was now r p m marks none) = ap (list_any is_left) marks
effect_unleft b b' xs new (Adds q up mx r l h p m here n pb marks is) = ap (list_any is_left) marks
effect_unleft b b' xs new (Ends d e s now r p es m q marks none) = ap (list_any is_left) marks
effect_unleft b b' xs new (Falls e mx pb down r p q marks none) = ap (list_any is_left) marks ∙ grow_unleft (ends_all e b) (all_grow e b)
effect_unleft b b' xs new (Sinks mx pb was down r p q grow none) = grow_unleft xs grow

pub effect_begins : (c : ℕ) (b b' : Wire) (xs : List ConfirmMark) (new : List Publish) → live c b ≡ true → Effect b b' xs new → list_any (begins c) xs ≡ false
effect_begins c b b' xs new l (Stays s p es m f still none) = (turn_parts c xs (grow_turns c xs (still_grow xs still))).0
effect_begins c b b' xs new l (Closes d e s p m ms f marks none) = ap (list_any (begins c)) marks
effect_begins c b b' xs new l (Opens d t s was now r p m marks none) = ap (list_any (begins c)) marks ∙ elim (eqb_tells d c) as (λ _. ((d == c) || false) ≡ false) [
  | inl z ↦ (let w : true ≡ false = sym l ∙ (ap (λ v. live v b) (sym z.1) ∙ was) in absurd cc)
  | inr z ↦ rw z.0 refl
]
effect_begins c b b' xs new l (Adds q up mx r li h p m here n pb marks is) = ap (list_any (begins c)) marks
effect_begins c b b' xs new l (Ends d e s now r p es m q marks none) = ap (list_any (begins c)) marks
effect_begins c b b' xs new l (Falls e mx pb down r p q marks none) = ap (list_any (begins c)) marks ∙ (turn_parts c (ends_all e b) (grow_turns c (ends_all e b) (all_grow e b))).0
effect_begins c b b' xs new l (Sinks mx pb was down r p q grow none) = (turn_parts c xs (grow_turns c xs grow)).0

no_leaves : (k : ℕ) (xs : List ConfirmMark) → list_any is_left xs ≡ false → has_left k xs ≡ false
no_leaves k xs h = left-same k [] xs h

-- a frame request brings the mark of a publish that begins, or none of a publish
pub record Begun (k : ℕ) (b : Wire) (t : ℕ → Bool) (xs : List ConfirmMark) : Type 0 where
  pub publish : Publish
  pub found : find (may_begin t) b.publishes ≡ Some publish
  pub number : publish.confirm ≡ k
  pub marks : xs ≡ mark.Left publish.channel publish.confirm ∷ []

frame_unleft : (f : Frame) → list_any is_left (frame_marks f) ≡ false
frame_unleft (frame.Method c m) = elim (is_select m) as (λ v. list_any is_left (cond v (mark.SelectLeft c ∷ []) []) ≡ false) [ true ↦ refl | false ↦ refl ]
frame_unleft (frame.Header c h) = refl
frame_unleft (frame.Body c bytes) = refl

pub begun_in : (k : ℕ) (t : ℕ → Bool) (rs : List RestEntry) (es : List MethodEntry) (ps : List Publish) (b : Wire) → has_left k (left_marks (handed_of t rs es ps)) ≡ true → Begun k (record b { rest = rs; methods = es; publishes = ps }) t (left_marks (handed_of t rs es ps))
begun_in k t (f ∷ rs) es ps b h = absurd cc
begun_in k t [] (m ∷ es) ps b h = let w : false ≡ true = sym (no_leaves k (frame_marks (frame.Method m.channel m.method)) (frame_unleft (frame.Method m.channel m.method))) ∙ h in absurd cc
begun_in k t [] [] ps b h = by (find (may_begin t) ps) refl h
  where
    by : (o : Option Publish) → find (may_begin t) ps ≡ o → has_left k (left_marks (option_map left_publish (find (may_begin t) ps))) ≡ true → Begun k (record b { rest = []; methods = []; publishes = ps }) t (left_marks (option_map left_publish (find (may_begin t) ps)))
    by None e l = let w : has_left k (left_marks (option_map left_publish None)) ≡ true = subst (λ o. has_left k (left_marks (option_map left_publish o)) ≡ true) e l in absurd cc
    by (Some q) e l =
        let w : ((q.confirm == k) || false) ≡ true = subst (λ o. has_left k (left_marks (option_map left_publish o)) ≡ true) e l in
        record { publish = q; found = e; number = elim (eqb_tells q.confirm k) [ inl z ↦ z.1 | inr z ↦ (let n : false ≡ true = sym (rw z.0 refl) ∙ w in absurd cc) ]; marks = ap (λ o. left_marks (option_map left_publish o)) e }

-- of pending

range_any : (p : ℕ → Bool) (k a m : ℕ) → a ≤ k → k < a + m → p k ≡ true → list_any p (range_with_len a m) ≡ true
range_any p k a zero le lt h = let z : ⊥ = omega (arith, le, lt) in absurd z
range_any p k a (suc m) le lt h = elim (eqb_tells a k) [
  | inl z ↦ rw (ap p z.1 ∙ h) refl
  | inr z ↦ ap (λ v. p a || v) (range_any p k (a + 1) m (let d = z.1 in omega (arith, le, d)) (omega (arith, lt)) h) ∙ or_true (p a)
]

all_true : (x y z w : Bool) → x ≡ true → y ≡ true → z ≡ true → w ≡ true → (x && (y && (z && w))) ≡ true
all_true x y z w a b c d = rw (a, b, c, d) refl

pending_is : (c k t : ℕ) (ms : List ConfirmMark) → IsPending c k t ms → is_pending c t ms ≡ true
pending_is c k t ms p =
    let z = p.added.0 in let le = p.added.1 in
    range_any (is_pending_as c t ms) k 1 (added ms) (omega (arith, z)) (omega (arith, le)) (all_true (has_left k ms) (channel_of k ms == c) (is_tag t (tag_of k ms)) (is_open_outcome (outcome_at k ms)) p.left (eq-eqb _ _ p.on) (ap (is_tag t) p.tag ∙ eq-eqb t t refl) (ap is_open_outcome p.waits))

module _ (n : ℕ) (big : 8 < n) where
  abbrev At : ℕ → List Step → Type 0
  At c ss = Inv n c (messages_in (joined_to n ss).session) (past_of n ss).wire (past_of n ss).confirms (handed_frames n ss)

  run_at : (c : ℕ) (ss : List Step) → At c ss
  run_at c ss = in_run n c big ss

  accepted : (ss : List Step) (k : ℕ) → has_left k (past_of n ss).confirms ≡ true → (0 < k) × (k ≤ added (past_of n ss).confirms)
  accepted ss k l = (run_at 0 ss).accepted k l

  receives : (ss : List Step) (c k t : ℕ) → IsPending c k t (past_of n ss).confirms → receives_on (state_of c (past_of n ss).wire) ≡ true
  receives ss c k t p = (run_at c ss).opens k p.added.0 p.added.1 p.on p.waits

  numbered : (ss : List Step) (c : ℕ) → receives_on (state_of c (past_of n ss).wire) ≡ true → list_any (is_open_waiting c) (past_of n ss).wire.methods ≡ false → AreNumbered c (joined_to n ss).session (past_of n ss) (handed_frames n ss)
  numbered ss c on left = elim ((run_at c ss).stands (hears_live c (past_of n ss).wire on)) [
    | inl u ↦ (let w : true ≡ false = sym (opener_in c u.ticket u.before u.behind) ∙ (ap (list_any is_opener) (sym u.is) ∙ waiting_own c (past_of n ss).wire.methods left) in absurd cc)
    | inr g ↦ record { count = g.count; taken = g.taken }
  ]

  selected : (ss : List Step) (c k t : ℕ) → IsPending c k t (past_of n ss).confirms → is_selected c (past_of n ss).confirms ≡ true
  selected ss c k t p = elim ((run_at c ss).stands (hears_live c (past_of n ss).wire (receives ss c k t p))) [
    | inl u ↦ absurd (u.none k t p)
    | inr g ↦ (let r = g.taken k t p in by (is_selected c (past_of n ss).confirms) refl (whole_tally c (past_of n ss).wire (handed_frames n ss)).numbered r.0 r.1 g.count)
  ]
    where
      by : (v : Bool) → is_selected c (past_of n ss).confirms ≡ v → (xs : List Message) (m : Message) → at_place t xs ≡ Some m → length xs ≡ place c (past_of n ss).confirms → v ≡ true
      by true e xs m at count = refl
      by false e [] m at count = absurd cc
      by false e (x ∷ xs) m at count =
          let none : place c (past_of n ss).confirms ≡ 0 = ap (count_by (leaves_on c)) (after-never (selects c) (opening c (past_of n ss).confirms) e) in
          let long : length (x ∷ xs) ≡ suc (length xs) = refl in
          let z : ⊥ = omega (arith, none, long, count) in absurd z

  pending : (ss : List Step) (c k t : ℕ) → IsPending c k t (past_of n ss).confirms → is_pending c t (past_of n ss).confirms ≡ true
  pending ss c k t p = pending_is c k t (past_of n ss).confirms p

  -- ---- a step

  confirms-next : (ss : List Step) (s : Step) → (past_of n (ss ++ s ∷ [])).confirms ≡ (past_of n ss).confirms ++ marks_in n s (joined_to n ss)
  confirms-next ss s = ap (λ j. (past_at n j).confirms) (joined-push n ss s) ∙ marks_after n s (joined_to n ss)

  abbrev see : Joint History → Readings
  see j = readings_of (past_at n j).confirms (past_at n j).tickets

  abbrev t_of : Joint History → Bool → ℕ → Bool
  t_of j flow = began_on (rec n j.session (event.Next flow))

  -- what a step says of publishes that leave and of openings that begin
  record Says (c k : ℕ) (s : Step) (j : Joint History) : Type 0 where
    pub begins_none : live c (past_at n j).wire ≡ true → list_any (begins c) (marks_in n s j) ≡ false
    pub leaves_one : has_left k (marks_in n s j) ≡ true → (deed_in s j ≡ []) × (t : ℕ → Bool) × Begun k (past_at n j).wire t (marks_in n s j)

  quiet_says : (c k : ℕ) (s : Step) (j : Joint History) (e : Event) → is_next e ≡ false → marks_in n s j ≡ confirm_marks (past_at n j).wire e (rec n j.session e) → Says c k s j
  quiet_says c k s j e apart is = record {
    begins_none = λ l. ap (list_any (begins c)) is ∙ effect_begins c (past_at n j).wire (after_event (past_at n j).wire e (rec n j.session e)) (confirm_marks (past_at n j).wire e (rec n j.session e)) (publish_by (past_at n j).wire e (rec n j.session e)) l (has_effect (past_at n j).wire (see j) e apart);
    leaves_one = λ h. (let w : false ≡ true = sym (ap (has_left k) is ∙ no_leaves k (confirm_marks (past_at n j).wire e (rec n j.session e)) (effect_unleft (past_at n j).wire (after_event (past_at n j).wire e (rec n j.session e)) (confirm_marks (past_at n j).wire e (rec n j.session e)) (publish_by (past_at n j).wire e (rec n j.session e)) (has_effect (past_at n j).wire (see j) e apart))) ∙ h in absurd cc);
  }

  none_says : (c k : ℕ) (s : Step) (j : Joint History) → marks_in n s j ≡ [] → Says c k s j
  none_says c k s j is = record { begins_none = λ l. ap (list_any (begins c)) is; leaves_one = λ h. (let w : false ≡ true = sym (ap (has_left k) is) ∙ h in absurd cc) }

  marks_begin : (c : ℕ) (o : Option Left) → list_any (begins c) (left_marks o) ≡ false
  marks_begin c None = refl
  marks_begin c (Some l) = by l.frame l.publish l.first
    where
      by : (f : Frame) (p : Option ℕ) (first : Bool) → list_any (begins c) (left_marks (Some (record l { frame = f; publish = p; first = first }))) ≡ false
      by (frame.Method d m) None first = elim (is_select m) as (λ v. list_any (begins c) (cond v (mark.SelectLeft d ∷ []) []) ≡ false) [ true ↦ refl | false ↦ refl ]
      by (frame.Header d h) None first = refl
      by (frame.Body d bytes) None first = refl
      by f (Some q) true = refl
      by f (Some q) false = refl

  says : (c k : ℕ) (s : Step) (j : Joint History) → Says c k s j
  says c k (step.Client e) j = by (is_next e) refl (is_lawful e) refl
    where
      by : (x : Bool) → is_next e ≡ x → (v : Bool) → is_lawful e ≡ v → Says c k (step.Client e) j
      by false apart true l = quiet_says c k (step.Client e) j e apart (rw l refl)
      by x a false l = none_says c k (step.Client e) j (rw l refl)
      by true a true l = next e a
        where
          next : (e : Event) → is_next e ≡ true → Says c k (step.Client e) j
          next (event.Next flow) h = record {
            begins_none = λ _. marks_begin c (handed_as (rec n j.session (event.Next flow)) (past_at n j).wire);
            leaves_one = λ h. (refl, t_of j flow, begun_in k (t_of j flow) (past_at n j).wire.rest (past_at n j).wire.methods (past_at n j).wire.publishes (past_at n j).wire h);
          }
          next _ h = absurd cc
  says c k step.Read j = none_says c k step.Read j refl
  says c k (step.Send f) j = none_says c k (step.Send f) j refl
  says c k step.Deliver j = by j.down refl
    where
      by : (fs : List Frame) → j.down ≡ fs → Says c k step.Deliver j
      by [] e = none_says c k step.Deliver j (ap (λ v. delivered_marks n v j) e)
      by (f ∷ fs) e = quiet_says c k step.Deliver j (event.Receive f) refl (ap (λ v. delivered_marks n v j) e)
  says c k step.Lose j = quiet_says c k step.Lose j event.Lost refl refl

  -- one that is pending after a step and had not left is the publish that begins
  record Newly (ss : List Step) (s : Step) (c k t : ℕ) : Type 0 where
    pub still : deed_in s (joined_to n ss) ≡ []
    pub marks : marks_in n s (joined_to n ss) ≡ mark.Left c k ∷ []
    pub hears_it : receives_on (state_of c (past_of n ss).wire) ≡ true
    pub tag : t ≡ place c (past_of n ss).confirms + 1
    pub unleft : has_left k (past_of n ss).confirms ≡ false

  newly : (ss : List Step) (s : Step) (c k t : ℕ) → IsPending c k t ((past_of n ss).confirms ++ marks_in n s (joined_to n ss)) → has_left k (past_of n ss).confirms ≡ false → Newly ss s c k t
  newly ss s c k t p u =
      let ms : List ConfirmMark = (past_of n ss).confirms in
      let xs : List ConfirmMark = marks_in n s (joined_to n ss) in
      let here : has_left k xs ≡ true = sym (ap (λ v. v || has_left k xs) u) ∙ (sym (list_any-append (leaves k) ms xs) ∙ p.left) in
      let one = (says c k s (joined_to n ss)).leaves_one here in
      let g = one.2 in
      let i = run_at c ss in
      let q : Publish = g.publish in
      let q_is = find_taken (may_begin one.1) (messages_in (joined_to n ss).session) ms 0 (past_of n ss).wire.publishes q g.found i.queue in
      let z : 0 < k = subst (λ v. 0 < v) g.number q_is.above in
      let le : k ≤ added ms = subst (λ v. v ≤ added ms) g.number q_is.accepted in
      let chan : q.channel ≡ c = sym q_is.on ∙ (ap (λ v. channel_of v ms) g.number ∙ (sym (channel-append k ms xs z le) ∙ p.on)) in
      let marks : xs ≡ mark.Left c k ∷ [] = g.marks ∙ (ap (λ v. mark.Left v q.confirm ∷ []) chan ∙ ap (λ v. mark.Left c v ∷ []) g.number) in
      let heard : hears c (past_of n ss).wire ≡ true = elim (hears c (past_of n ss).wire) as (λ v. hears c (past_of n ss).wire ≡ v → v ≡ true) [
        | true ↦ λ h. refl
        | false ↦ λ h. (let w : true ≡ false = sym (find_on (may_begin one.1) c (past_of n ss).wire.publishes q g.found chan) ∙ i.publishes h in absurd cc)
      ] refl in
      let begun = i.begun (hears_live c (past_of n ss).wire heard) in
      let p' : IsPending c k t (ms ++ mark.Left c k ∷ []) = subst (λ v. IsPending c k t (ms ++ v)) marks p in
      record { still = one.0; marks = marks; hears_it = heard; tag = (next_tag c k t ms u p'.on begun p'.tag).1; unleft = u }

  old_or_next : (ss : List Step) (s : Step) (c k t : ℕ) → IsPending c k t (past_of n (ss ++ s ∷ [])).confirms → IsOldOrNext n ss s c k t
  old_or_next ss s c k t p = elim (has_left k (past_of n ss).confirms) as (λ v. has_left k (past_of n ss).confirms ≡ v → IsOldOrNext n ss s c k t) [
    | true ↦ λ l. inl ((accepted ss k l).1, l)
    | false ↦ λ u. (let w = newly ss s c k t (subst (IsPending c k t) (confirms-next ss s) p) u in inr (w.still, w.hears_it, w.tag))
  ] refl

  -- ---- openings: none began since the publish left

  abbrev Since : ℕ → List Step → Type 0
  Since c ss = (k t : ℕ) → IsPending c k t (past_of n ss).confirms → many (begins c) (past_of n ss).confirms ≡ many (begins c) (through (leaves k) (past_of n ss).confirms)

  since_step : (c : ℕ) (ss : List Step) (s : Step) → Since c ss → Since c (ss ++ s ∷ [])
  since_step c ss s h k t p =
      let ms : List ConfirmMark = (past_of n ss).confirms in
      let xs : List ConfirmMark = marks_in n s (joined_to n ss) in
      let p' : IsPending c k t (ms ++ xs) = subst (IsPending c k t) (confirms-next ss s) p in
      let goal : many (begins c) (ms ++ xs) ≡ many (begins c) (through (leaves k) (ms ++ xs)) = elim (has_left k ms) as (λ v. has_left k ms ≡ v → many (begins c) (ms ++ xs) ≡ many (begins c) (through (leaves k) (ms ++ xs))) [
        | true ↦ λ l.
            (let a = accepted ss k l in
            let was : IsPending c k t ms = pending_back c k t ms xs p' a.1 l in
            let lives = hears_live c (past_of n ss).wire (receives ss c k t was) in
            let none : many (begins c) xs ≡ 0 = many-none (begins c) xs ((says c k s (joined_to n ss)).begins_none lives) in
            let more = many-append (begins c) ms xs in
            let before = h k t was in
            let same : many (begins c) (through (leaves k) (ms ++ xs)) ≡ many (begins c) (through (leaves k) ms) = ap (many (begins c)) (through-append (leaves k) ms xs l) in
            omega (arith, none, more, before, same))
        | false ↦ λ u.
            (let w = newly ss s c k t p' u in
            let all : through (leaves k) (ms ++ mark.Left c k ∷ []) ≡ ms ++ mark.Left c k ∷ [] = through-new (leaves k) ms (mark.Left c k) u in
            ap (λ v. many (begins c) (ms ++ v)) w.marks ∙ (ap (many (begins c)) (sym all) ∙ ap (λ v. many (begins c) (through (leaves k) (ms ++ v))) (sym w.marks)))
      ] refl in
      ap (many (begins c)) (confirms-next ss s) ∙ (goal ∙ ap (λ v. many (begins c) (through (leaves k) v)) (sym (confirms-next ss s)))

  since_from : (c : ℕ) (pre ss : List Step) → Since c pre → Since c (pre ++ ss)
  since_from c pre [] h = subst (Since c) (sym (append-nil pre)) h
  since_from c pre (s ∷ ss) h = subst (Since c) (append_assoc pre (s ∷ []) ss) (since_from c (pre ++ s ∷ []) ss (since_step c pre s h))

  since_all : (c : ℕ) (ss : List Step) → Since c ss
  since_all c ss = since_from c [] ss (λ k t p. let z = p.left in absurd cc)

  many_some : (c : ℕ) (ms : List ConfirmMark) → list_any (begins c) ms ≡ true → 0 < many (begins c) ms
  many_some c [] h = cc
  many_some c (m ∷ ms) h = elim (begins c m) as (λ v. (v || list_any (begins c) ms) ≡ true → 0 < cond v (many (begins c) ms + 1) (many (begins c) ms)) [ true ↦ λ _. omega arith | false ↦ λ e. many_some c ms e ] h

  present : (ss : List Step) (c k t : ℕ) → IsPending c k t (past_of n ss).confirms → (0 < opening_of k (past_of n ss).confirms) × (many (begins c) (past_of n ss).confirms ≡ opening_of k (past_of n ss).confirms)
  present ss c k t p =
      let same : many (begins c) (past_of n ss).confirms ≡ opening_of k (past_of n ss).confirms = since_all c ss k t p ∙ ap (λ d. many (begins d) (through (leaves k) (past_of n ss).confirms)) (sym p.on) in
      let some = many_some c (past_of n ss).confirms ((run_at c ss).begun (hears_live c (past_of n ss).wire (receives ss c k t p))) in
      (omega (arith, same, some), same)

  pub numbers_hold : Numbers n
  numbers_hold = record {
    accepted = accepted;
    present = present;
    numbered = numbered;
    receives = receives;
    selected = selected;
    pending = pending;
    old_or_next = old_or_next;
  }
