-- A `confirm.select` call that was accepted is one of an opening: what is seen of it is what the history says.
use Rattle.std.proofs.Common.{◌≡◌, ℕ, Bool, true, false, cond, ◌||◌, List, [], ◌∷◌, ◌++◌, Some, None, refl, sym, ◌∙◌, ap, subst, eqb-true, append-nil, append_assoc}
use Rattle.std.specs.List.{list_any}
use Rattle.lapin_rules.specs.ConfirmMarks.{ConfirmMark}
use Rattle.lapin_rules.specs.ConfirmMarks as mark
use Rattle.lapin_rules.specs.ConfirmReadings.{begins, turns, asks, present, is_begun, is_selected, place, is_asked, limit_of}
use Rattle.lapin_rules.proofs.ListLaws.{any-push, since-push}
use Rattle.lapin_confirm.specs.PublishStates.{asked_in, asked_on}
use Rattle.lapin_confirm.specs.ConfirmState.{ConfirmState}
use Rattle.lapin_confirm.specs.Follows.{Follows, MayCome, CameAfter}

-- each channel on which a call was accepted had an opening
abbrev AskedBegun : List ConfirmMark → Type 0
AskedBegun ms = (c : ℕ) → is_asked c ms ≡ true → is_begun c ms ≡ true

asks-begun : (c : ℕ) (ms : List ConfirmMark) (m : ConfirmMark) → MayCome ms m → asks c m ≡ true → is_begun c ms ≡ true
asks-begun c ms (mark.SelectCalled d) may h = let P : ℕ → Type 0 = λ i. is_begun i ms ≡ true in subst P (eqb-true d c h) may
asks-begun c ms _ may h = cc

asked_before : (c : ℕ) (ms : List ConfirmMark) (m : ConfirmMark) → MayCome ms m → (is_asked c ms ≡ true → is_begun c ms ≡ true) → list_any (asks c) (cond (turns c m) [] (cond (list_any (turns c) ms) (present c ms ++ m ∷ []) [])) ≡ true → is_begun c ms ≡ true
asked_before c ms m may was =
    elim (turns c m) as (λ t. list_any (asks c) (cond t [] (cond (list_any (turns c) ms) (present c ms ++ m ∷ []) [])) ≡ true → is_begun c ms ≡ true) [
      | true ↦ λ h. cc
      | false ↦ elim (list_any (turns c) ms) as (λ t. list_any (asks c) (cond t (present c ms ++ m ∷ []) []) ≡ true → is_begun c ms ≡ true) [
        | true ↦ λ h. or_case (is_asked c ms) (asks c m) was (asks-begun c ms m may) (sym (any-push (asks c) (present c ms) m) ∙ h)
        | false ↦ λ h. cc
      ]
    ]
  where
    or_case : (a b : Bool) → (a ≡ true → is_begun c ms ≡ true) → (b ≡ true → is_begun c ms ≡ true) → (a || b) ≡ true → is_begun c ms ≡ true
    or_case true b f g h = f refl
    or_case false b f g h = g h

asked-push : (ms : List ConfirmMark) (m : ConfirmMark) → MayCome ms m → AskedBegun ms → AskedBegun (ms ++ m ∷ [])
asked-push ms m may was c h =
    let begun : is_begun c ms ≡ true = asked_before c ms m may (was c) (sym (ap (list_any (asks c)) (since-push (turns c) ms m)) ∙ h) in
    any-push (begins c) ms m ∙ rw begun refl

asked-from : (before ms : List ConfirmMark) → AskedBegun before → CameAfter before ms → AskedBegun (before ++ ms)
asked-from before [] was came = subst AskedBegun (sym (append-nil before)) was
asked-from before (m ∷ ms) was came = subst AskedBegun (append_assoc before (m ∷ []) ms) (asked-from (before ++ m ∷ []) ms (asked-push before m came.0 was) came.1)

pub asked-read : (c : ℕ) (ms : List ConfirmMark) (p : ConfirmState) → Follows ms p → asked_on c p.publish_states ≡ is_asked c ms
asked-read c ms p f =
    ap asked_in (f.confirm_modes c)
    ∙ elim (is_begun c ms) as (λ b. is_begun c ms ≡ b → asked_in (cond b (Some (record { selected = is_selected c ms; last = place c ms; asked = is_asked c ms; limit = limit_of c ms })) None) ≡ is_asked c ms) [
      | true ↦ λ h. refl
      | false ↦ λ h. elim (is_asked c ms) as (λ a. is_asked c ms ≡ a → false ≡ a) [
        | true ↦ λ asked. let begun : is_begun c ms ≡ true = asked-from [] ms (λ d no. cc) f.came c asked in cc
        | false ↦ λ none. refl
      ] refl
    ] refl
