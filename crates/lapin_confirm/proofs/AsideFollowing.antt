-- Who stands aside: what a mark does to the list of a channel's confirms that were set aside unresolved.
use Rattle.std.proofs.Common.{◌≡◌, ℕ, ◌==◌, Bool, true, false, not, cond, ◌&&◌, ◌||◌, List, [], ◌∷◌, ◌++◌, Option, Some, None, refl, sym, ◌∙◌, ap, inl, inr, eq-eqb}
use Rattle.std.specs.List.{list_any, filter}
use Rattle.std.proofs.Math.Bool.{or-true}
use Rattle.std.proofs.lemmas.Bool.Decides.{eqb_tells}
use Rattle.lapin_types.specs.declared.message.BasicReturnMessage.{BasicReturnMessage}
use Rattle.lapin_rules.specs.ConfirmMarks.{ConfirmMark}
use Rattle.lapin_rules.specs.ConfirmMarks as mark
use Rattle.lapin_rules.specs.ConfirmReadings.{channel_of, is_selected}
use Rattle.lapin_rules.specs.ReturnLists.{ReturnLists, arrived_in, given_first, attached_to, attached_to_all, return_of, taken_out, kept_of, set_by, drained_return_lists, renewed}
use Rattle.lapin_rules.specs.ReturnReadings.{is_done, covered, return_lists_step, return_lists_of}
use Rattle.lapin_rules.proofs.ReturnLaws.{return_lists-push}
use Rattle.lapin_tables.proofs.Bools.{and_false}

-- confirm n is one of these
abbrev pub stands : ℕ → List ℕ → Bool
stands n ns = list_any (λ j. j == n) ns

attached-aside : (ns : List ℕ) (l : ReturnLists) → (attached_to_all ns l).aside ≡ l.aside
attached-aside [] l = refl
attached-aside (n ∷ ns) l = attached-aside ns (attached_to n l) ∙ first l.waiting
  where
    first : (ms : List BasicReturnMessage) → (given_first n ms l).aside ≡ l.aside
    first [] = refl
    first (m ∷ ms) = refl

arrived-aside : (b : Bool) (m : BasicReturnMessage) (l : ReturnLists) → (arrived_in b m l).aside ≡ l.aside
arrived-aside true m l = refl
arrived-aside false m l = refl

kept-aside : (o : Option BasicReturnMessage) (l : ReturnLists) → (kept_of o l).aside ≡ l.aside
kept-aside None l = refl
kept-aside (Some m) l = refl

set-aside : (n : ℕ) (d : Bool) (l : ReturnLists) → (set_by n d l).aside ≡ cond d l.aside (l.aside ++ n ∷ [])
set-aside n true l = kept-aside (return_of n l) (taken_out n l)
set-aside n false l = refl

-- what a mark does to the list, after the marks before it
abbrev pub aside_after : ℕ → List ConfirmMark → ConfirmMark → List ℕ → List ℕ
aside_after c before (mark.Begun d) ns = cond (d == c) [] ns
aside_after c before (mark.SetAside j) ns = cond (channel_of j before == c) (cond (is_done before j) ns (ns ++ j ∷ [])) ns
aside_after c before (mark.Drained d) ns = cond (d == c) (filter (λ n. not (is_done before n)) ns) ns
aside_after c before _ ns = ns

aside-step : (c : ℕ) (before : List ConfirmMark) (m : ConfirmMark) (l : ReturnLists) → (return_lists_step c before m l).aside ≡ aside_after c before m l.aside
aside-step c before (mark.Begun d) l = elim (d == c) as (λ (b : Bool). (cond b (renewed l) l).aside ≡ cond b [] l.aside) [ true ↦ refl | false ↦ refl ]
aside-step c before (mark.Settled d s) l = elim (d == c) as (λ (b : Bool). (cond b (attached_to_all (covered c s before) l) l).aside ≡ l.aside) [ true ↦ attached-aside (covered c s before) l | false ↦ refl ]
aside-step c before (mark.Arrived d m) l = elim (d == c) as (λ (b : Bool). (cond b (arrived_in (is_selected c before) m l) l).aside ≡ l.aside) [ true ↦ arrived-aside (is_selected c before) m l | false ↦ refl ]
aside-step c before (mark.Taken n) l = elim (channel_of n before == c) as (λ (b : Bool). (cond b (taken_out n l) l).aside ≡ l.aside) [ true ↦ refl | false ↦ refl ]
aside-step c before (mark.SetAside n) l = elim (channel_of n before == c) as (λ (b : Bool). (cond b (set_by n (is_done before n) l) l).aside ≡ cond b (cond (is_done before n) l.aside (l.aside ++ n ∷ [])) l.aside) [ true ↦ set-aside n (is_done before n) l | false ↦ refl ]
aside-step c before (mark.Drained d) l = elim (d == c) as (λ (b : Bool). (cond b (drained_return_lists (is_done before) l) l).aside ≡ cond b (filter (λ n. not (is_done before n)) l.aside) l.aside) [ true ↦ refl | false ↦ refl ]
aside-step c before _ l = refl

pub aside-push : (c : ℕ) (ms : List ConfirmMark) (m : ConfirmMark) → (return_lists_of c (ms ++ m ∷ [])).aside ≡ aside_after c ms m (return_lists_of c ms).aside
aside-push c ms m = ap (λ (l : ReturnLists). l.aside) (return_lists-push c ms m) ∙ aside-step c ms m (return_lists_of c ms)

-- ---- one of the confirms that pass

pub stands-filter : (q : ℕ → Bool) (n : ℕ) (ns : List ℕ) → stands n (filter q ns) ≡ (stands n ns && q n)
stands-filter q n [] = refl
stands-filter q n (x ∷ ns) =
    elim (q x) as (λ b. q x ≡ b → stands n (cond b (x ∷ filter q ns) (filter q ns)) ≡ ((x == n || stands n ns) && q n)) [
      | true ↦ λ passes. elim (eqb_tells x n) [
        | inl same ↦ let here : q n ≡ true = ap q (sym same.1) ∙ passes in rw (same.0, here) refl
        | inr other ↦ rw other.0 (stands-filter q n ns)
      ]
      | false ↦ λ fails. elim (eqb_tells x n) [
        | inl same ↦ let here : q n ≡ false = ap q (sym same.1) ∙ fails in stands-filter q n ns ∙ rw (same.0, here) (and_false (stands n ns))
        | inr other ↦ rw other.0 (stands-filter q n ns)
      ]
    ] refl

-- two tests that agree on those that stand there leave the same
pub filter-same : (p q : ℕ → Bool) (ns : List ℕ) → ((n : ℕ) → stands n ns ≡ true → p n ≡ q n) → filter p ns ≡ filter q ns
filter-same p q [] same = refl
filter-same p q (x ∷ ns) same =
    let here : p x ≡ q x = same x (rw (eq-eqb x x refl) refl) in
    let rest : filter p ns ≡ filter q ns = filter-same p q ns (λ n there. same n (rw there (or-true (x == n)))) in
    rw (here, rest) refl
