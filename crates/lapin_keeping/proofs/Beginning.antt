-- What a loop wrote back that begins every message anew.
use Rattle.std.proofs.Common.{◌≡◌, ◌∙◌, ℕ, ◌≤◌, List, ◌++◌, length, map, take, drop, ap, append-nil}
use Rattle.std.proofs.lemmas.List.{drop_all, take_all}
use Rattle.lapin_keeping.specs.declared.kept.Kept.{Kept}
use Rattle.lapin_keeping.specs.Fates.{begun_anew}

written_back : (k : ℕ) (xs ys : List Kept) → length xs ≤ length ys → length ys ≤ k → take k (ys ++ drop (length ys) xs) ≡ ys
written_back k xs ys le within =
    ap (λ (zs : List Kept). take k (ys ++ zs)) (drop_all (length ys) xs le)
    ∙ ap (take k) (append-nil ys)
    ∙ take_all k ys within

pub began_all : (k i : ℕ) (xs ys : List Kept) → length xs ≤ length ys → length ys ≤ k → length xs ≤ i → ys ≡ map begun_anew (take i xs) ++ drop i xs → take k (ys ++ drop (length ys) xs) ≡ map begun_anew xs
began_all k i xs ys le within done is =
    written_back k xs ys le within
    ∙ is
    ∙ ap (λ (zs : List Kept). map begun_anew (take i xs) ++ zs) (drop_all i xs done)
    ∙ append-nil (map begun_anew (take i xs))
    ∙ ap (map begun_anew) (take_all i xs done)
