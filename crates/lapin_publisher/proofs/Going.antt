-- A loop over all messages: what it made of those before its place is what the definition makes of them, and those from there on stay.
use Rattle.std.proofs.Common.{◌≡◌, ◌∙◌, ℕ, ◌+◌, ◌<◌, ◌≤◌, List, [], ◌∷◌, ◌++◌, length, take, drop, get_or, refl, sym, ap, append-nil, arith}
use Rattle.std.specs.Prelude.{set}
use Rattle.std.proofs.lemmas.List.{set-get_or, drop-set-lt, take_more_set, take_more, drop_more, drop_all, take_all, take-append-drop}
use Rattle.lapin_keeping.specs.declared.kept.Kept.{Kept}
use Rattle.lapin_publisher.specs.Each.{each, IsUntil}

module _ {S : Type 0} (f : S → Kept → Kept × S) where
  each_behind : (s : S) (xs : List Kept) (x : Kept) → each f s (xs ++ x ∷ []) ≡ ((each f s xs).0 ++ (f (each f s xs).1 x).0 ∷ [], (f (each f s xs).1 x).1)
  each_behind s [] x = refl
  each_behind s (y ∷ ys) x = ap (λ (p : List Kept × S). ((f s y).0 ∷ p.0, p.1)) (each_behind (f s y).1 ys x)

  pub each_step : (s t u : S) (xs ys : List Kept) (i : ℕ) (x y : Kept) → (take i ys, t) ≡ each f s (take i xs) → drop i ys ≡ drop i xs → i < length ys → i < length xs
      → x ≡ get_or ys i x → (y, u) ≡ f t x → (take (i + 1) (set ys i y), u) ≡ each f s (take (i + 1) xs)
  each_step s t u xs ys i x y done rest lt within is made =
      let out_of : Kept × S → List Kept × S = λ q. (take i ys ++ q.0 ∷ [], q.1) in
      let from : List Kept × S → List Kept × S = λ p. (p.0 ++ (f p.1 x).0 ∷ [], (f p.1 x).1) in
      let here : drop i ys ≡ x ∷ drop (i + 1) ys = drop_more ys i x lt ∙ ap (λ (z : Kept). z ∷ drop (i + 1) ys) (sym is) in
      let there : drop i xs ≡ get_or xs i x ∷ drop (i + 1) xs = drop_more xs i x within in
      let same : x ≡ get_or xs i x = cc in
      let grown : take (i + 1) xs ≡ take i xs ++ x ∷ [] = take_more xs i x within ∙ ap (λ (z : Kept). take i xs ++ z ∷ []) (sym same) in
      let one : each f s (take i xs ++ x ∷ []) ≡ out_of (f t x) = each_behind s (take i xs) x ∙ ap from (sym done) in
      let two : out_of (y, u) ≡ out_of (f t x) = ap out_of made in
      ap (λ (zs : List Kept). (zs, u)) (take_more_set ys i y lt) ∙ two ∙ sym one ∙ ap (each f s) (sym grown)

  pub each_end : (s t : S) (xs ys : List Kept) (i : ℕ) → (take i ys, t) ≡ each f s (take i xs) → length ys ≤ i → length xs ≤ i → (ys, t) ≡ each f s xs
  each_end s t xs ys i done le within =
      ap (λ (zs : List Kept). (zs, t)) (sym (take_all i ys le)) ∙ done ∙ ap (each f s) (take_all i xs within)

  pub until_here : (s t u : S) (xs ys zs : List Kept) (i : ℕ) → (take i ys, t) ≡ each f s (take i xs) → drop i ys ≡ drop i xs → zs ≡ ys → u ≡ t → IsUntil f s u xs zs
  until_here s t u xs ys zs i done rest same still = record {
    count = i;
    messages =
        same
        ∙ sym (take-append-drop i ys)
        ∙ ap (λ (ks : List Kept). ks ++ drop i ys) (ap (λ (p : List Kept × S). p.0) done)
        ∙ ap (λ (ks : List Kept). (each f s (take i xs)).0 ++ ks) rest;
    state = still ∙ ap (λ (p : List Kept × S). p.1) done;
  }

pub rest_step : (xs ys : List Kept) (i : ℕ) (y : Kept) → drop i ys ≡ drop i xs → i < length ys → i < length xs → drop (i + 1) (set ys i y) ≡ drop (i + 1) xs
rest_step xs ys i y rest lt within =
    let here : drop i ys ≡ get_or ys i y ∷ drop (i + 1) ys = drop_more ys i y lt in
    let there : drop i xs ≡ get_or xs i y ∷ drop (i + 1) xs = drop_more xs i y within in
    let tails : drop (i + 1) ys ≡ drop (i + 1) xs = cc in
    drop-set-lt (i + 1) ys i y (omega arith) ∙ tails

-- what a loop wrote back
pub written_back : (k : ℕ) (xs ys : List Kept) → length xs ≤ length ys → length ys ≤ k → take k (ys ++ drop (length ys) xs) ≡ ys
written_back k xs ys le within =
    ap (λ (zs : List Kept). take k (ys ++ zs)) (drop_all (length ys) xs le)
    ∙ ap (take k) (append-nil ys)
    ∙ take_all k ys within

module _ {S : Type 0} (f : S → Kept → Kept × S) where
  -- the loop came to its end
  pub all_made : (s t : S) (k : ℕ) (xs ys : List Kept) (i : ℕ) → (take i ys, t) ≡ each f s (take i xs) → length xs ≤ length ys → length ys ≤ k → length ys ≤ i → length xs ≤ i
      → (take k (ys ++ drop (length ys) xs), t) ≡ each f s xs
  all_made s t k xs ys i done le within ends long =
      ap (λ (zs : List Kept). (zs, t)) (written_back k xs ys le within) ∙ each_end f s t xs ys i done ends long

  -- A step failed, and what it was at was written back as it was.
  pub stopped_at : (s t u : S) (k : ℕ) (xs ys : List Kept) (i : ℕ) (x y : Kept) → (take i ys, t) ≡ each f s (take i xs) → drop i ys ≡ drop i xs → length xs ≤ length ys → length ys ≤ k
      → y ≡ get_or ys i x → u ≡ t → IsUntil f s u xs (take k (set ys i y ++ drop (length (set ys i y)) xs))
  stopped_at s t u k xs ys i x y done rest le within is still =
      let same : set ys i y ≡ ys = ap (set ys i) is ∙ set-get_or ys i x in
      let whole : take k (set ys i y ++ drop (length (set ys i y)) xs) ≡ ys = ap (λ (zs : List Kept). take k (zs ++ drop (length zs) xs)) same ∙ written_back k xs ys le within in
      until_here f s t u xs ys _ i done rest whole still
