-- What holds of a history whose marks came as they may: who is gone, and who stands aside.
use Rattle.std.proofs.Common.{◌≡◌, ℕ, zero, suc, ◌+◌, ◌<◌, ◌≤◌, ◌==◌, nat_lt, Bool, true, false, not, cond, ◌&&◌, ◌||◌, List, [], ◌∷◌, ◌++◌, Some, refl, sym, ◌∙◌, ap, subst, arith, inl, inr, eq-eqb, ne_eqb, eqb-true, ltb-true, ltb-false, append-nil, append_assoc}
use Rattle.std.specs.List.{filter}
use Rattle.std.proofs.lemmas.Bool.Decides.{eqb_tells}
use Rattle.lapin_rules.specs.ConfirmMarks.{ConfirmMark}
use Rattle.lapin_rules.specs.ConfirmMarks as mark
use Rattle.lapin_rules.specs.ConfirmReadings.{begins, adds, leaves, takes, lays, has_left, is_taken, is_aside, is_begun, channel_of, added, outcome_at, is_open_outcome, is_finished}
use Rattle.lapin_rules.specs.ReturnReadings.{is_done, return_lists_of, goes, is_gone}
use Rattle.lapin_rules.proofs.ListLaws.{or_false, any-push}
use Rattle.lapin_rules.proofs.ConfirmLaws.{added-push, accepted-push, accepted_new}
use Rattle.lapin_rules.proofs.ReturnLaws.{gone-push}
use Rattle.lapin_confirm.specs.declared.cell.Cell.TheVariants as cell
use Rattle.lapin_confirm.specs.Follows.{WasAdded, MayCome, CameAfter, cell_in}
use Rattle.lapin_confirm.proofs.CellFollowing.{left-push, taken-push, IsQueued, queued_facts}
use Rattle.lapin_confirm.proofs.CellFollowing as cells
use Rattle.lapin_confirm.proofs.Outcomes.{outcome-push}
use Rattle.lapin_confirm.proofs.AsideFollowing.{stands, aside_after, aside-push, stands-filter}
use Rattle.std.proofs.lemmas.Bool.{not-true, or_right, or_cases, and_parts, or_left, false_from_ne_true}

-- confirm n was set aside on channel c, and is not gone
abbrev pub rests : ℕ → ℕ → List ConfirmMark → Bool
rests c n ms = channel_of n ms == c && (is_aside n ms && not (is_gone n ms))

pub record Facts (ms : List ConfirmMark) : Type 0 where
  -- what was never accepted never left, and was neither given nor set aside
  pub unleft : (k : ℕ) → added ms ≤ k → has_left (suc k) ms ≡ false
  pub known : (n : ℕ) → is_finished n ms ≡ true → WasAdded n ms
  -- what is gone was given or set aside, and had an outcome; what was given is gone
  pub gone : (n : ℕ) → is_gone n ms ≡ true → is_finished n ms ≡ true
  pub done : (n : ℕ) → is_gone n ms ≡ true → is_open_outcome (outcome_at n ms) ≡ false
  pub given : (n : ℕ) → is_taken n ms ≡ true → is_gone n ms ≡ true
  -- a publish is of a channel that had an opening
  pub begun : (k : ℕ) → k < added ms → is_begun (channel_of (suc k) ms) ms ≡ true
  -- who stands aside
  pub aside : (c n : ℕ) → stands n (return_lists_of c ms).aside ≡ rests c n ms

-- a mark adds at most one publish
pub added_grows : (ms : List ConfirmMark) (m : ConfirmMark) → added ms ≤ added (ms ++ m ∷ [])
added_grows ms m = rw (added-push ms m) (elim (adds m) as (λ b. added ms ≤ cond b (added ms + 1) (added ms)) [ true ↦ omega arith | false ↦ omega arith ])

pub added_still : (n : ℕ) (ms : List ConfirmMark) (m : ConfirmMark) → WasAdded n ms → WasAdded n (ms ++ m ∷ [])
added_still n ms m known =
    let grows : added ms ≤ added (ms ++ m ∷ []) = added_grows ms m in
    let first : 1 ≤ n = known.0 in
    let last : n ≤ added ms = known.1 in
    (first, omega arith)

-- what leaves was accepted
away : (ms : List ConfirmMark) (m : ConfirmMark) → MayCome ms m → (k : ℕ) → added ms ≤ k → leaves (suc k) m ≡ false
away ms (mark.Left c n) may k le = let last : n ≤ added ms = may.0.1 in ne_eqb n (suc k) (λ e. omega arith)
away ms _ may k le = refl

unleft-push : (ms : List ConfirmMark) (m : ConfirmMark) → Facts ms → MayCome ms m → (k : ℕ) → added (ms ++ m ∷ []) ≤ k → has_left (suc k) (ms ++ m ∷ []) ≡ false
unleft-push ms m f may k le =
    let grows : added ms ≤ added (ms ++ m ∷ []) = added_grows ms m in
    let old : added ms ≤ k = omega arith in
    left-push (suc k) ms m ∙ rw (f.unleft k old, away ms m may k old) refl

-- ---- who is finished

mixed : (a b x y : Bool) → ((a || x) || (b || y)) ≡ ((a || b) || (x || y))
mixed true b x y = refl
mixed false true true y = refl
mixed false true false y = refl
mixed false false x y = refl

pub finished-push : (n : ℕ) (ms : List ConfirmMark) (m : ConfirmMark) → is_finished n (ms ++ m ∷ []) ≡ (is_finished n ms || (takes n m || lays n m))
finished-push n ms m = rw (taken-push n ms m, cells.aside-push n ms m) (mixed (is_taken n ms) (is_aside n ms) (takes n m) (lays n m))

-- what is given or set aside was accepted
finishes-known : (n : ℕ) (ms : List ConfirmMark) (m : ConfirmMark) → MayCome ms m → (takes n m || lays n m) ≡ true → WasAdded n ms
finishes-known n ms (mark.Taken j) may h = let P : ℕ → Type 0 = λ i. WasAdded i ms in subst P (eqb-true j n (sym (or_false (j == n)) ∙ h)) may.0
finishes-known n ms (mark.SetAside j) may h = let P : ℕ → Type 0 = λ i. WasAdded i ms in subst P (eqb-true j n h) may.0
finishes-known n ms _ may h = cc

known-push : (ms : List ConfirmMark) (m : ConfirmMark) → Facts ms → MayCome ms m → (n : ℕ) → is_finished n (ms ++ m ∷ []) ≡ true → WasAdded n (ms ++ m ∷ [])
known-push ms m f may n h =
    added_still n ms m
    (elim (or_cases (is_finished n ms) (takes n m || lays n m) (sym (finished-push n ms m) ∙ h)) [
      | inl was ↦ f.known n was
      | inr now ↦ finishes-known n ms m may now
    ])

-- ---- who is gone

laid_before : (n : ℕ) (ms : List ConfirmMark) (x d : Bool) → (x && (is_aside n ms && d)) ≡ true → (is_finished n ms || false) ≡ true
laid_before n ms x d h =
    let both = and_parts (is_aside n ms) d (and_parts x (is_aside n ms && d) h).1 in
    or_left (is_finished n ms) false (or_right (is_taken n ms) (is_aside n ms) both.0)

goes-finished : (n : ℕ) (ms : List ConfirmMark) (m : ConfirmMark) → goes n ms m ≡ true → (is_finished n ms || (takes n m || lays n m)) ≡ true
goes-finished n ms (mark.Taken j) h = or_right (is_finished n ms) ((j == n) || false) (or_left (j == n) false h)
goes-finished n ms (mark.SetAside j) h = or_right (is_finished n ms) (j == n) (and_parts (j == n) (is_done ms n) h).0
goes-finished n ms (mark.Drained c) h = laid_before n ms (channel_of n ms == c) (is_done ms n) h
goes-finished n ms (mark.Begun c) h = laid_before n ms (channel_of n ms == c) (is_done ms n) h
goes-finished n ms _ h = cc

gone-finished : (ms : List ConfirmMark) (m : ConfirmMark) → Facts ms → (n : ℕ) → is_gone n (ms ++ m ∷ []) ≡ true → is_finished n (ms ++ m ∷ []) ≡ true
gone-finished ms m f n h =
    finished-push n ms m
    ∙ elim (or_cases (is_gone n ms) (goes n ms m) (sym (gone-push n ms m) ∙ h)) [
      | inl was ↦ or_left (is_finished n ms) (takes n m || lays n m) (f.gone n was)
      | inr now ↦ goes-finished n ms m now
    ]

resting_done : (n : ℕ) (ms : List ConfirmMark) (x a : Bool) → (x && (a && is_done ms n)) ≡ true → is_open_outcome (outcome_at n ms) ≡ false
resting_done n ms x a h = not-true (is_open_outcome (outcome_at n ms)) (and_parts a (is_done ms n) (and_parts x (a && is_done ms n) h).1).1

-- of a publish of which nothing is kept from this mark on the outcome is there
pub goes-done : (n : ℕ) (ms : List ConfirmMark) (m : ConfirmMark) → MayCome ms m → goes n ms m ≡ true → is_open_outcome (outcome_at n ms) ≡ false
goes-done n ms (mark.Taken j) may h = let P : ℕ → Type 0 = λ i. is_open_outcome (outcome_at i ms) ≡ false in subst P (eqb-true j n h) may.2
goes-done n ms (mark.SetAside j) may h = not-true (is_open_outcome (outcome_at n ms)) (and_parts (j == n) (is_done ms n) h).1
goes-done n ms (mark.Drained c) may h = resting_done n ms (channel_of n ms == c) (is_aside n ms) h
goes-done n ms (mark.Begun c) may h = resting_done n ms (channel_of n ms == c) (is_aside n ms) h
goes-done n ms _ may h = cc

goes-known : (ms : List ConfirmMark) (m : ConfirmMark) → Facts ms → MayCome ms m → (n : ℕ) → goes n ms m ≡ true → WasAdded n ms
goes-known ms m f may n h =
    elim (or_cases (is_finished n ms) (takes n m || lays n m) (goes-finished n ms m h)) [
      | inl was ↦ f.known n was
      | inr now ↦ finishes-known n ms m may now
    ]

outcome_still : (n : ℕ) (ms : List ConfirmMark) (m : ConfirmMark) → WasAdded n ms → MayCome ms m → is_open_outcome (outcome_at n ms) ≡ false → is_open_outcome (outcome_at n (ms ++ m ∷ [])) ≡ false
outcome_still zero ms m known may h = let none : 1 ≤ 0 = known.0 in absurd (omega arith)
outcome_still (suc k) ms m known may h = let last : suc k ≤ added ms = known.1 in ap is_open_outcome (outcome-push k ms m (omega arith) may h) ∙ h

done-push : (ms : List ConfirmMark) (m : ConfirmMark) → Facts ms → MayCome ms m → (n : ℕ) → is_gone n (ms ++ m ∷ []) ≡ true → is_open_outcome (outcome_at n (ms ++ m ∷ [])) ≡ false
done-push ms m f may n h =
    elim (or_cases (is_gone n ms) (goes n ms m) (sym (gone-push n ms m) ∙ h)) [
      | inl was ↦ outcome_still n ms m (f.known n (f.gone n was)) may (f.done n was)
      | inr now ↦ outcome_still n ms m (goes-known ms m f may n now) may (goes-done n ms m may now)
    ]

taken-goes : (n : ℕ) (ms : List ConfirmMark) (m : ConfirmMark) → takes n m ≡ true → goes n ms m ≡ true
taken-goes n ms (mark.Taken j) h = h
taken-goes n ms _ h = cc

given-push : (ms : List ConfirmMark) (m : ConfirmMark) → Facts ms → (n : ℕ) → is_taken n (ms ++ m ∷ []) ≡ true → is_gone n (ms ++ m ∷ []) ≡ true
given-push ms m f n h =
    gone-push n ms m
    ∙ elim (or_cases (is_taken n ms) (takes n m) (sym (taken-push n ms m) ∙ h)) [
      | inl was ↦ or_left (is_gone n ms) (goes n ms m) (f.given n was)
      | inr now ↦ or_right (is_gone n ms) (goes n ms m) (taken-goes n ms m now)
    ]

-- ---- where publishes belong

begun_new : (ms : List ConfirmMark) (m : ConfirmMark) (k : ℕ) → MayCome ms m → adds m ≡ true → k ≡ added ms → is_begun (channel_of (suc k) (ms ++ m ∷ [])) (ms ++ m ∷ []) ≡ true
begun_new ms (mark.Added c) k may now last = rw (accepted_new k c ms last) (any-push (begins c) ms (mark.Added c) ∙ or_left (is_begun c ms) false may)
begun_new ms _ k may now last = cc

begun-push : (ms : List ConfirmMark) (m : ConfirmMark) → Facts ms → MayCome ms m → (k : ℕ) → k < added (ms ++ m ∷ []) → is_begun (channel_of (suc k) (ms ++ m ∷ [])) (ms ++ m ∷ []) ≡ true
begun-push ms m f may k lt =
    elim (nat_lt k (added ms)) as (λ b. nat_lt k (added ms) ≡ b → is_begun (channel_of (suc k) (ms ++ m ∷ [])) (ms ++ m ∷ []) ≡ true) [
      | true ↦ λ h.
          let old : k < added ms = ltb-true k (added ms) h in
          rw (accepted-push k ms m old) (any-push (begins (channel_of (suc k) ms)) ms m ∙ or_left (is_begun (channel_of (suc k) ms) ms) (begins (channel_of (suc k) ms) m) (f.begun k old))
      | false ↦ λ h.
          let past : added ms ≤ k = ltb-false k (added ms) h in
          elim (adds m) as (λ b. adds m ≡ b → k < cond b (added ms + 1) (added ms) → is_begun (channel_of (suc k) (ms ++ m ∷ [])) (ms ++ m ∷ []) ≡ true) [
            | true ↦ λ now more. begun_new ms m k may now (omega arith)
            | false ↦ λ now more. absurd (omega arith)
          ] refl (rw (added-push ms m) at lt)
    ] refl

-- ---- who stands aside

never_both : (x y : Bool) → (x && (false && y)) ≡ false
never_both true y = refl
never_both false y = refl

still_both : (x a g : Bool) → (x && (a && not g)) ≡ (x && ((a || false) && not (g || false)))
still_both true true true = refl
still_both true true false = refl
still_both true false g = refl
still_both false a g = refl

-- none that was set aside stands there any more as an opening begins
begun_both : (x a g d : Bool) → (x ≡ true → a ≡ true → d ≡ true) → false ≡ (x && ((a || false) && not (g || (x && (a && d)))))
begun_both false a g d over = refl
begun_both true false g d over = refl
begun_both true true true d over = refl
begun_both true true false true over = refl
begun_both true true false false over = let no : false ≡ true = over refl refl in cc

drained_both : (x a g d : Bool) → ((x && (a && not g)) && not d) ≡ (x && ((a || false) && not (g || (x && (a && d)))))
drained_both false a g d = refl
drained_both true false g d = refl
drained_both true true true d = refl
drained_both true true false true = refl
drained_both true true false false = refl

-- a mark of another channel
other_both : (x y a g d : Bool) → (x ≡ true → y ≡ false) → (x && (a && not g)) ≡ (x && ((a || false) && not (g || (y && (a && d)))))
other_both false y a g d apart = refl
other_both true true a g d apart = let no : true ≡ false = apart refl in cc
other_both true false a g d apart = still_both true a g

laid_both : (x d : Bool) → cond x (cond d (x && (false && true)) ((x && (false && true)) || true)) (x && (false && true)) ≡ (x && (true && not d))
laid_both true true = refl
laid_both true false = refl
laid_both false d = refl

-- what was never accepted stands nowhere
stays_out : (c n : ℕ) (ms : List ConfirmMark) (m : ConfirmMark) (ns : List ℕ) → lays n m ≡ false → stands n ns ≡ false → stands n (aside_after c ms m ns) ≡ false
stays_out c n ms (mark.Begun d) ns away out = elim (d == c) as (λ (b : Bool). stands n (cond b [] ns) ≡ false) [ true ↦ refl | false ↦ out ]
stays_out c n ms (mark.SetAside j) ns away out =
    elim (channel_of j ms == c) as (λ (b : Bool). stands n (cond b (cond (is_done ms j) ns (ns ++ j ∷ [])) ns) ≡ false) [
      | true ↦ elim (is_done ms j) as (λ (b : Bool). stands n (cond b ns (ns ++ j ∷ [])) ≡ false) [ true ↦ out | false ↦ any-push (λ i. i == n) ns j ∙ rw (out, away) refl ]
      | false ↦ out
    ]
stays_out c n ms (mark.Drained d) ns away out = elim (d == c) as (λ (b : Bool). stands n (cond b (filter (λ i. not (is_done ms i)) ns) ns) ≡ false) [ true ↦ stands-filter (λ i. not (is_done ms i)) n ns ∙ rw out refl | false ↦ out ]
stays_out c n ms _ ns away out = out

aside-unknown : (ms : List ConfirmMark) (m : ConfirmMark) → Facts ms → MayCome ms m → (c n : ℕ) → (WasAdded n ms → ⊥) → stands n (return_lists_of c (ms ++ m ∷ [])).aside ≡ rests c n (ms ++ m ∷ [])
aside-unknown ms m f may c n unknown =
    let unlaid : is_aside n ms ≡ false = false_from_ne_true (is_aside n ms) (λ h. unknown (f.known n (or_right (is_taken n ms) (is_aside n ms) h))) in
    let away : lays n m ≡ false = false_from_ne_true (lays n m) (λ h. unknown (finishes-known n ms m may (or_right (takes n m) (lays n m) h))) in
    let out : stands n (return_lists_of c ms).aside ≡ false = f.aside c n ∙ rw unlaid (never_both (channel_of n ms == c) (not (is_gone n ms))) in
    let still : is_aside n (ms ++ m ∷ []) ≡ false = cells.aside-push n ms m ∙ rw (unlaid, away) refl in
    ap (stands n) (aside-push c ms m) ∙ stays_out c n ms m (return_lists_of c ms).aside away out ∙ rw still (sym (never_both (channel_of n (ms ++ m ∷ []) == c) (not (is_gone n (ms ++ m ∷ [])))))

-- who stands aside after a mark, of those that were accepted
abbrev moved : ℕ → ℕ → List ConfirmMark → ConfirmMark → Bool
moved c n ms m = channel_of n ms == c && ((is_aside n ms || lays n m) && not (is_gone n ms || goes n ms m))

pub unfinished : (n : ℕ) (ms : List ConfirmMark) → is_finished n ms ≡ false → is_aside n ms ≡ false
unfinished n ms open_ = false_from_ne_true (is_aside n ms) (λ h. let yes : is_finished n ms ≡ true = or_right (is_taken n ms) (is_aside n ms) h in cc)

pub unfinished-kept : (n : ℕ) (ms : List ConfirmMark) → Facts ms → is_finished n ms ≡ false → is_gone n ms ≡ false
unfinished-kept n ms f open_ = false_from_ne_true (is_gone n ms) (λ h. let yes : is_finished n ms ≡ true = f.gone n h in cc)

aside-moved : (ms : List ConfirmMark) (m : ConfirmMark) → Facts ms → MayCome ms m → (c n : ℕ) → WasAdded n ms → stands n (aside_after c ms m (return_lists_of c ms).aside) ≡ moved c n ms m
aside-moved ms (mark.Begun d) f may c n known =
    elim (eqb_tells d c) [
      | inl same ↦
          let here : (channel_of n ms == d) ≡ (channel_of n ms == c) = ap (λ i. channel_of n ms == i) same.1 in
          rw (same.0, here) (begun_both (channel_of n ms == c) (is_aside n ms) (is_gone n ms) (is_done ms n) (λ x a. ap not (may n known (eqb-true (channel_of n ms) c x ∙ sym same.1) a)))
      | inr other ↦
          rw other.0
          (f.aside c n ∙ other_both (channel_of n ms == c) (channel_of n ms == d) (is_aside n ms) (is_gone n ms) (is_done ms n) (λ x. ne_eqb (channel_of n ms) d (λ is. other.1 (sym is ∙ eqb-true (channel_of n ms) c x))))
    ]
aside-moved ms (mark.Drained d) f may c n known =
    elim (eqb_tells d c) [
      | inl same ↦
          let here : (channel_of n ms == d) ≡ (channel_of n ms == c) = ap (λ i. channel_of n ms == i) same.1 in
          rw (same.0, here) (stands-filter (λ i. not (is_done ms i)) n (return_lists_of c ms).aside ∙ rw (f.aside c n) (drained_both (channel_of n ms == c) (is_aside n ms) (is_gone n ms) (is_done ms n)))
      | inr other ↦
          rw other.0
          (f.aside c n ∙ other_both (channel_of n ms == c) (channel_of n ms == d) (is_aside n ms) (is_gone n ms) (is_done ms n) (λ x. ne_eqb (channel_of n ms) d (λ is. other.1 (sym is ∙ eqb-true (channel_of n ms) c x))))
    ]
aside-moved ms (mark.SetAside j) f may c n known =
    elim (eqb_tells j n) [
      | inl same ↦
          let P : ℕ → Type 0 = λ i. is_finished i ms ≡ false in
          let open_ : is_finished n ms ≡ false = subst P same.1 may.1 in
          let Q : ℕ → Type 0 = λ i. stands n (cond (channel_of i ms == c) (cond (is_done ms i) (return_lists_of c ms).aside ((return_lists_of c ms).aside ++ i ∷ [])) (return_lists_of c ms).aside) ≡ (channel_of n ms == c && ((is_aside n ms || (i == n)) && not (is_gone n ms || ((i == n) && is_done ms n)))) in
          subst Q (sym same.1) (laid_here c n ms f open_)
      | inr other ↦
          rw other.0
          (elim (channel_of j ms == c) as (λ (b : Bool). stands n (cond b (cond (is_done ms j) (return_lists_of c ms).aside ((return_lists_of c ms).aside ++ j ∷ [])) (return_lists_of c ms).aside) ≡ stands n (return_lists_of c ms).aside) [
            | true ↦ elim (is_done ms j) as (λ (b : Bool). stands n (cond b (return_lists_of c ms).aside ((return_lists_of c ms).aside ++ j ∷ [])) ≡ stands n (return_lists_of c ms).aside) [ true ↦ refl | false ↦ any-push (λ i. i == n) (return_lists_of c ms).aside j ∙ rw other.0 (or_false (stands n (return_lists_of c ms).aside)) ]
            | false ↦ refl
          ] ∙ f.aside c n ∙ still_both (channel_of n ms == c) (is_aside n ms) (is_gone n ms))
    ]
  where
    laid_here : (c n : ℕ) (ms : List ConfirmMark) → Facts ms → is_finished n ms ≡ false → stands n (cond (channel_of n ms == c) (cond (is_done ms n) (return_lists_of c ms).aside ((return_lists_of c ms).aside ++ n ∷ [])) (return_lists_of c ms).aside) ≡ (channel_of n ms == c && ((is_aside n ms || (n == n)) && not (is_gone n ms || ((n == n) && is_done ms n))))
    laid_here c n ms f open_ =
        let was : stands n (return_lists_of c ms).aside ≡ (channel_of n ms == c && (false && true)) = f.aside c n ∙ rw (unfinished n ms open_) refl in
        let now : stands n ((return_lists_of c ms).aside ++ n ∷ []) ≡ ((channel_of n ms == c && (false && true)) || true) = any-push (λ i. i == n) (return_lists_of c ms).aside n ∙ rw (was, eq-eqb n n refl) refl in
        rw (eq-eqb n n refl, unfinished n ms open_, unfinished-kept n ms f open_)
        (elim (channel_of n ms == c) as (λ (b : Bool). stands n (cond b (cond (is_done ms n) (return_lists_of c ms).aside ((return_lists_of c ms).aside ++ n ∷ [])) (return_lists_of c ms).aside) ≡ cond b (cond (is_done ms n) (stands n (return_lists_of c ms).aside) (stands n ((return_lists_of c ms).aside ++ n ∷ []))) (stands n (return_lists_of c ms).aside)) [
          | true ↦ elim (is_done ms n) as (λ (b : Bool). stands n (cond b (return_lists_of c ms).aside ((return_lists_of c ms).aside ++ n ∷ [])) ≡ cond b (stands n (return_lists_of c ms).aside) (stands n ((return_lists_of c ms).aside ++ n ∷ []))) [ true ↦ refl | false ↦ refl ]
          | false ↦ refl
        ] ∙ rw (now, was) (laid_both (channel_of n ms == c) (is_done ms n)))
aside-moved ms (mark.Taken j) f may c n known =
    elim (eqb_tells j n) [
      | inl same ↦
          let P : ℕ → Type 0 = λ i. is_finished i ms ≡ false in
          let unlaid : is_aside n ms ≡ false = unfinished n ms (subst P same.1 may.1) in
          f.aside c n ∙ rw unlaid (never_both (channel_of n ms == c) (not (is_gone n ms)) ∙ sym (never_both (channel_of n ms == c) (not (is_gone n ms || (j == n)))))
      | inr other ↦ rw other.0 (f.aside c n ∙ still_both (channel_of n ms == c) (is_aside n ms) (is_gone n ms))
    ]
aside-moved ms _ f may c n known = f.aside c n ∙ still_both (channel_of n ms == c) (is_aside n ms) (is_gone n ms)

rests-push : (c k : ℕ) (ms : List ConfirmMark) (m : ConfirmMark) → k < added ms → rests c (suc k) (ms ++ m ∷ []) ≡ moved c (suc k) ms m
rests-push c k ms m known = rw (accepted-push k ms m known, cells.aside-push (suc k) ms m, gone-push (suc k) ms m) refl

aside-follow : (ms : List ConfirmMark) (m : ConfirmMark) → Facts ms → MayCome ms m → (c n : ℕ) → stands n (return_lists_of c (ms ++ m ∷ [])).aside ≡ rests c n (ms ++ m ∷ [])
aside-follow ms m f may c zero = aside-unknown ms m f may c 0 (λ known. let none : 1 ≤ 0 = known.0 in absurd (omega arith))
aside-follow ms m f may c (suc k) =
    elim (nat_lt k (added ms)) as (λ b. nat_lt k (added ms) ≡ b → stands (suc k) (return_lists_of c (ms ++ m ∷ [])).aside ≡ rests c (suc k) (ms ++ m ∷ [])) [
      | true ↦ λ h. let lt : k < added ms = ltb-true k (added ms) h in ap (stands (suc k)) (aside-push c ms m) ∙ aside-moved ms m f may c (suc k) (omega arith, omega arith) ∙ sym (rests-push c k ms m lt)
      | false ↦ λ h. let past : added ms ≤ k = ltb-false k (added ms) h in aside-unknown ms m f may c (suc k) (λ known. let last : suc k ≤ added ms = known.1 in absurd (omega arith))
    ] refl

-- ---- every history whose marks came as they may

pub facts-push : (ms : List ConfirmMark) (m : ConfirmMark) → Facts ms → MayCome ms m → Facts (ms ++ m ∷ [])
facts-push ms m f may = record {
  unleft = unleft-push ms m f may;
  known = known-push ms m f may;
  gone = gone-finished ms m f;
  done = done-push ms m f may;
  given = given-push ms m f;
  begun = begun-push ms m f may;
  aside = aside-follow ms m f may;
}

facts-none : Facts []
facts-none = record {
  unleft = λ k le. refl;
  known = λ n h. cc;
  gone = λ n h. cc;
  done = λ n h. cc;
  given = λ n h. cc;
  begun = λ k lt. absurd (omega arith);
  aside = λ c n. sym (never_both (channel_of n [] == c) true);
}

facts-from : (before ms : List ConfirmMark) → Facts before → CameAfter before ms → Facts (before ++ ms)
facts-from before [] f came = subst Facts (sym (append-nil before)) f
facts-from before (m ∷ ms) f came = subst Facts (append_assoc before (m ∷ []) ms) (facts-from (before ++ m ∷ []) ms (facts-push before m f came.0) came.1)

pub facts : (ms : List ConfirmMark) → CameAfter [] ms → Facts ms
facts ms came = facts-from [] ms facts-none came

came-after : (before ms : List ConfirmMark) (m : ConfirmMark) → CameAfter before ms → MayCome (before ++ ms) m → CameAfter before (ms ++ m ∷ [])
came-after before [] m came may = let P : List ConfirmMark → Type 0 = λ xs. MayCome xs m in (subst P (append-nil before) may, tt)
came-after before (k ∷ ms) m came may = let P : List ConfirmMark → Type 0 = λ xs. MayCome xs m in (came.0, came-after (before ++ k ∷ []) ms m came.1 (subst P (sym (append_assoc before (k ∷ []) ms)) may))

pub came-push : (ms : List ConfirmMark) (m : ConfirmMark) → CameAfter [] ms → MayCome ms m → CameAfter [] (ms ++ m ∷ [])
came-push ms m came may = came-after [] ms m came may

-- a publish belongs to a channel that had an opening
pub begun-of : (n : ℕ) (ms : List ConfirmMark) → Facts ms → WasAdded n ms → is_begun (channel_of n ms) ms ≡ true
begun-of zero ms f known = let none : 1 ≤ 0 = known.0 in absurd (omega arith)
begun-of (suc k) ms f known = let last : suc k ≤ added ms = known.1 in f.begun k (omega arith)

-- ---- a publish that waits to leave

-- it has no outcome
pub queued-open : (c n : ℕ) (ms : List ConfirmMark) → cell_in n ms ≡ Some (cell.Queued c) → is_open_outcome (outcome_at n ms) ≡ true
queued-open c n ms is =
    let queued : IsQueued c n ms = queued_facts c n ms is in
    rw (queued.waits, queued.unrejected) refl

-- so it goes by no mark that may come, and waits on
queued-kept : (c n : ℕ) (ms : List ConfirmMark) (m : ConfirmMark) → MayCome ms m → cell_in n ms ≡ Some (cell.Queued c) → goes n ms m ≡ false
queued-kept c n ms m may is = false_from_ne_true (goes n ms m) (λ h. let open_ = queued-open c n ms is in let shut = goes-done n ms m may h in cc)

pub leaving-stays : (c n : ℕ) (ms : List ConfirmMark) (m : ConfirmMark) → MayCome ms m → MayCome ms (mark.Left c n) → leaves n m ≡ false → cells.stood m (Some (cell.Queued c)) ≡ Some (cell.Queued c) → MayCome (ms ++ m ∷ []) (mark.Left c n)
leaving-stays c zero ms m may waits away same = let none : 1 ≤ 0 = waits.0.0 in absurd (omega arith)
leaving-stays c (suc k) ms m may waits away same =
    let last : suc k ≤ added ms = waits.0.1 in
    (added_still (suc k) ms m waits.0, cells.cell-step k ms m (omega arith) away (queued-kept c (suc k) ms m may waits.1) ∙ ap (cells.stood m) waits.1 ∙ same)
