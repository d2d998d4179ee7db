-- The cut of a payload is what the standard says, and there is no other.
use Rattle.std.proofs.Common.{◌≡◌, ℕ, zero, suc, ◌<◌, ◌≤◌, List, [], ◌∷◌, ◌++◌, length, take, drop, map, refl, sym, ◌∙◌, ap, arith, length-drop, length-append}
use Rattle.std.specs.List.{concat}
use Rattle.std.proofs.lemmas.List.{length-take, take-append-drop, take_at, drop_at, append-nil}
use Rattle.std.proofs.lemmas.List.Elements.{All-cons, All-nil}
use Rattle.lapin_types.specs.Types.frame
use Rattle.lapin_rules.specs.Frames.{pieces, cut}
use Rattle.lapin_outbox.specs.Cut.{IsCut, AreFull, body_payloads}
use Rattle.lapin_outbox.proofs.Pieces.{cut-step, cut-one}

abbrev IsSized : ℕ → List ℕ → Type 0
IsSized n piece = (0 < length piece) × (length piece ≤ n)

none-cut : (n : ℕ) → IsCut n [] []
none-cut n = record { joined = refl; sized = All-nil (IsSized n); full = tt }

-- where another piece follows, the piece before it was taken whole
full-more : (n : ℕ) (bytes : List ℕ) (rest : List (List ℕ)) → IsCut n (drop n bytes) rest → AreFull n (take n bytes ∷ rest)
full-more n bytes [] cut = tt
full-more n bytes (piece ∷ others) cut =
    let some : 0 < length piece = (cut.sized 0 [] (omega arith)).0 in
    let left : length (piece ++ concat others) ≡ length (drop n bytes) = ap length cut.joined in
    let whole : length (take n bytes) ≡ n = omega (arith, some, left, length-append piece (concat others), length-drop n bytes, length-take n bytes) in
    (whole, cut.full)

pieces-cut : (f n : ℕ) (bytes : List ℕ) → 0 < n → length bytes ≤ f → IsCut n bytes (pieces f n bytes)
pieces-cut zero n [] pos enough = none-cut n
pieces-cut zero n (x ∷ xs) pos enough = absurd (omega arith)
pieces-cut (suc f) n [] pos enough = none-cut n
pieces-cut (suc f) n (x ∷ xs) pos enough =
    let fewer : length (drop n (x ∷ xs)) ≤ f = omega (arith, length-drop n (x ∷ xs)) in
    let rest : IsCut n (drop n (x ∷ xs)) (pieces f n (drop n (x ∷ xs))) = pieces-cut f n (drop n (x ∷ xs)) pos fewer in
    let sized : IsSized n (take n (x ∷ xs)) = (omega (arith, length-take n (x ∷ xs)), omega (arith, length-take n (x ∷ xs))) in
    record {
      joined = ap (λ bs. take n (x ∷ xs) ++ bs) rest.joined ∙ take-append-drop n (x ∷ xs);
      sized = All-cons (IsSized n) (take n (x ∷ xs)) (pieces f n (drop n (x ∷ xs))) sized rest.sized;
      full = full-more n (x ∷ xs) (pieces f n (drop n (x ∷ xs))) rest;
    }

pub cut-is : (n : ℕ) (bytes : List ℕ) → 0 < n → IsCut n bytes (cut n bytes)
cut-is n bytes pos = pieces-cut (length bytes) n bytes pos (omega arith)

pub cut-only : (n : ℕ) (bytes : List ℕ) (ps : List (List ℕ)) → 0 < n → IsCut n bytes ps → ps ≡ cut n bytes
cut-only n bytes [] pos is = ap (cut n) is.joined
cut-only n bytes (p ∷ []) pos is =
    let sized : IsSized n p = is.sized 0 [] (omega arith) in
    let same : p ≡ bytes = sym (append-nil p) ∙ is.joined in
    sym (cut-one n p pos sized.0 sized.1) ∙ ap (cut n) same
cut-only n bytes (p ∷ q ∷ qs) pos is =
    let sized : IsSized n p = is.sized 0 [] (omega arith) in
    let whole : length p ≡ n = is.full.0 in
    let rest : IsCut n (concat (q ∷ qs)) (q ∷ qs) = record { joined = refl; sized = λ k d h. is.sized (suc k) d (omega arith); full = is.full.1 } in
    let some : 0 < length (p ++ concat (q ∷ qs)) = omega (arith, length-append p (concat (q ∷ qs))) in
    let first : take n (p ++ concat (q ∷ qs)) ≡ p = take_at p (concat (q ∷ qs)) n whole in
    let others : drop n (p ++ concat (q ∷ qs)) ≡ concat (q ∷ qs) = drop_at p (concat (q ∷ qs)) n whole in
    let step : cut n (p ++ concat (q ∷ qs)) ≡ p ∷ cut n (concat (q ∷ qs)) = cut-step n (p ++ concat (q ∷ qs)) pos some ∙ rw (first, others) refl in
    ap (λ ps. p ∷ ps) (cut-only n (concat (q ∷ qs)) (q ∷ qs) pos rest) ∙ sym step ∙ ap (cut n) is.joined

-- the payloads of bodies are the pieces that they were made of
pub body_payloads-bodies : (c : ℕ) (ps : List (List ℕ)) → body_payloads (map (λ piece. frame.Body c piece) ps) ≡ ps
body_payloads-bodies c [] = refl
body_payloads-bodies c (p ∷ ps) = ap (λ qs. p ∷ qs) (body_payloads-bodies c ps)
