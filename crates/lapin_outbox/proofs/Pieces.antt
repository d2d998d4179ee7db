-- Laws of the cut of a payload into pieces.
use Rattle.std.proofs.Common.{◌≡◌, ℕ, zero, suc, ◌+◌, ◌<◌, ◌≤◌, false, List, [], ◌∷◌, length, take, drop, Option, Some, refl, sym, ◌∙◌, ap, arith, length-drop}
use Rattle.std.specs.Prelude.{slice_get}
use Rattle.std.specs.Bool.{◌==◌}
use Rattle.std.proofs.lemmas.List.{take_all, drop_all, drop-drop}
use Rattle.lapin_rules.specs.Frames.{pieces, cut}
use Rattle.lapin_outbox.specs.Bodies.{pieces_left}

-- enough steps make no difference
pub pieces-enough : (f g n : ℕ) (bytes : List ℕ) → 0 < n → length bytes ≤ f → length bytes ≤ g → pieces f n bytes ≡ pieces g n bytes
pieces-enough zero zero n bytes pos a b = refl
pieces-enough zero (suc g) n [] pos a b = refl
pieces-enough zero (suc g) n (x ∷ xs) pos a b = absurd (omega arith)
pieces-enough (suc f) zero n [] pos a b = refl
pieces-enough (suc f) zero n (x ∷ xs) pos a b = absurd (omega arith)
pieces-enough (suc f) (suc g) n [] pos a b = refl
pieces-enough (suc f) (suc g) n (x ∷ xs) pos a b =
    let left : length (drop n (x ∷ xs)) ≤ f = omega (arith, length-drop n (x ∷ xs)) in
    let right : length (drop n (x ∷ xs)) ≤ g = omega (arith, length-drop n (x ∷ xs)) in
    ap (λ ps. take n (x ∷ xs) ∷ ps) (pieces-enough f g n (drop n (x ∷ xs)) pos left right)

-- some bytes are cut into the first n of them and the pieces of the others
pub cut-step : (n : ℕ) (bytes : List ℕ) → 0 < n → 0 < length bytes → cut n bytes ≡ take n bytes ∷ cut n (drop n bytes)
cut-step n [] pos some = absurd (omega arith)
cut-step n (x ∷ xs) pos some =
    let enough : length (drop n (x ∷ xs)) ≤ length xs = omega (arith, length-drop n (x ∷ xs)) in
    let same : length (drop n (x ∷ xs)) ≤ length (drop n (x ∷ xs)) = omega arith in
    ap (λ ps. take n (x ∷ xs) ∷ ps) (pieces-enough (length xs) (length (drop n (x ∷ xs))) n (drop n (x ∷ xs)) pos enough same)

pub not-empty : (bytes : List ℕ) → (length bytes == 0) ≡ false → 0 < length bytes
not-empty [] h = cc
not-empty (x ∷ xs) h = omega arith

-- bytes that fit one piece are that piece
pub cut-one : (n : ℕ) (bytes : List ℕ) → 0 < n → 0 < length bytes → length bytes ≤ n → cut n bytes ≡ bytes ∷ []
cut-one n bytes pos some fits =
    let whole : take n bytes ≡ bytes = take_all n bytes fits in
    let none : drop n bytes ≡ [] = drop_all n bytes fits in
    cut-step n bytes pos some ∙ rw (whole, none) refl

module _ (room sent : ℕ) (payload : Option (List ℕ)) (bytes unsent : List ℕ) (now : List (List ℕ)) where
  -- a payload whose unsent bytes are more than one piece
  pub left-more : payload ≡ Some bytes → pieces_left room sent payload ≡ now → unsent ≡ drop sent bytes → 0 < room → room < length unsent → pieces_left room (sent + room) payload ≡ drop 1 now
  left-more is view from pos more =
      let some : 0 < length (drop sent bytes) = let h : length unsent ≡ length (drop sent bytes) = ap length from in omega arith in
      let step : cut room (drop sent bytes) ≡ take room (drop sent bytes) ∷ cut room (drop room (drop sent bytes)) = cut-step room (drop sent bytes) pos some in
      let old : now ≡ take room (drop sent bytes) ∷ cut room (drop room (drop sent bytes)) = sym view ∙ ap (pieces_left room sent) is ∙ step in
      ap (pieces_left room (sent + room)) is ∙ ap (cut room) (sym (drop-drop room sent bytes)) ∙ sym (ap (drop 1) old)

  -- a payload whose unsent bytes are one piece
  pub left-one : payload ≡ Some bytes → pieces_left room sent payload ≡ now → unsent ≡ drop sent bytes → 0 < room → (length unsent == 0) ≡ false → length unsent ≤ room → now ≡ unsent ∷ []
  left-one is view from pos some fits =
      let one : cut room unsent ≡ unsent ∷ [] = cut-one room unsent pos (not-empty unsent some) fits in
      sym view ∙ ap (pieces_left room sent) is ∙ ap (cut room) (sym from) ∙ one

-- where nothing of a payload has left and it is one piece, the first piece is the payload
pub first-left : (sent : ℕ) (bytes unsent : List ℕ) (now : List (List ℕ)) → sent ≡ 0 → unsent ≡ drop sent bytes → now ≡ unsent ∷ [] → Some bytes ≡ slice_get now 0
first-left sent bytes unsent now none from one = rw (one, from, none) refl
