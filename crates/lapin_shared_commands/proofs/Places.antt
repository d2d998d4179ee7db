-- A history up to the next entry.
use Rattle.std.proofs.Common.{◌≡◌, ℕ, ◌+◌, List, [], ◌∷◌, ◌++◌, take, Some, sym, ◌∙◌, ap, arith, append-nil, append_assoc}
use Rattle.std.specs.Prelude.{slice_get, zero, suc}
use Rattle.std.specs.List.{flat_map}
use Rattle.std.proofs.lemmas.Grind.{flat_map-append}
use Rattle.lapin_locked.specs.declared.entry.Entry.{Entry}
use Rattle.lapin_shared_commands.specs.Printed.{entry_line, history_text}

-- the first elements, and the next
pub take_more : {T : Type 0} (xs : List T) (k : ℕ) (x : T) → slice_get xs k ≡ Some x → take (suc k) xs ≡ take k xs ++ x ∷ []
take_more [] k x is = absurd cc
take_more (y ∷ ys) zero x is = let e : y ≡ x = cc in ap (λ z. z ∷ []) e
take_more (y ∷ ys) (suc k) x is = ap (λ l. y ∷ l) (take_more ys k x is)

-- the line of the next entry
pub text_more : (h : List Entry) (k : ℕ) (x : Entry) (start text more : List ℕ) → slice_get h k ≡ Some x → text ≡ start ++ history_text (take k h)
    → more ≡ text ++ (entry_line x ++ 10 ∷ []) → more ≡ start ++ history_text (take (k + 1) h)
text_more h k x start text more at so grown =
    let line : List ℕ = entry_line x ++ 10 ∷ [] in
    let s : k + 1 ≡ suc k = omega arith in
    let longer : take (k + 1) h ≡ take k h ++ x ∷ [] = ap (λ j. take j h) s ∙ take_more h k x at in
    let one : history_text (take (k + 1) h) ≡ history_text (take k h) ++ line =
    ap history_text longer ∙ flat_map-append (λ y. entry_line y ++ 10 ∷ []) (take k h) (x ∷ []) ∙ ap (λ l. history_text (take k h) ++ l) (append-nil line) in
    grown ∙ ap (λ l. l ++ line) so ∙ append_assoc start (history_text (take k h)) line ∙ ap (λ l. start ++ l) (sym one)
