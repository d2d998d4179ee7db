-- Lists that were cut in two, side by side.
use Rattle.std.proofs.Common.{◌≡◌, List, [], ◌∷◌, ◌++◌, arith, length, get_or}
use Rattle.std.specs.Prelude.{slice_set}
use Rattle.lapin_threads.specs.Each.{EachLeft}

pub left_append : {T : Type 0} (P : T → T → Type 0) (xs ys us vs : List T) → EachLeft P xs ys → EachLeft P us vs → EachLeft P (xs ++ us) (ys ++ vs)
left_append P [] [] us vs p q = q
left_append P [] (y ∷ ys) us vs p q = absurd p
left_append P (x ∷ xs) [] us vs p q = absurd p
left_append P (x ∷ xs) (y ∷ ys) us vs p q = (p.0, left_append P xs ys us vs p.1 q)

pub left_one : {T : Type 0} (P : T → T → Type 0) (xs : List T) (d y : T) → length xs ≡ 1 → P (get_or xs 0 d) y → EachLeft P xs (slice_set xs 0 y)
left_one P [] d y len p = absurd (omega arith)
left_one P (z ∷ []) d y len p = (p, tt)
left_one P (z ∷ w ∷ zs) d y len p = absurd (omega arith)

pub left_map : {T : Type 0} {P Q : T → T → Type 0} → ((x y : T) → P x y → Q x y) → (xs ys : List T) → EachLeft P xs ys → EachLeft Q xs ys
left_map f [] [] p = p
left_map f [] (y ∷ ys) p = p
left_map f (x ∷ xs) [] p = p
left_map f (x ∷ xs) (y ∷ ys) p = (f x y p.0, left_map f xs ys p.1)
