-- Sums of what calls answered, over lists that were cut in two.
use Rattle.std.proofs.Common.{◌≡◌, ℕ, ◌+◌, ◌^◌, Bool, true, false, ◌||◌, List, [], ◌∷◌, ◌++◌, refl, ◌∙◌, ap, arith, length, get_or, ◌<◌}
use Rattle.std.specs.Prelude.{slice_set}
use Rattle.lapin_threads.specs.declared.tally.Tally.{Tally}
use Rattle.lapin_threads.specs.Tallied.{TalliedAll, Tallied, both_of}

or_assoc : (a b c : Bool) → ((a || b) || c) ≡ (a || (b || c))
or_assoc true b c = refl
or_assoc false b c = refl

all_append : {T : Type 0} (P : T → Tally → T → Type 0) (xs ys us vs : List T) (n m : ℕ) (s t : Bool) → TalliedAll P xs n s ys → TalliedAll P us m t vs
    → TalliedAll P (xs ++ us) (n + m) (s || t) (ys ++ vs)
all_append P [] [] us vs n m s t p q = rw (p.0, p.1) (let e : 0 + m ≡ m = omega arith in rw e q)
all_append P [] (y ∷ ys) us vs n m s t p q = absurd p
all_append P (x ∷ xs) [] us vs n m s t p q = absurd p
all_append P (x ∷ xs) (y ∷ ys) us vs n m s t (r, k, u, one, rest, sum, or) q =
    (r, k + m, u || t, one, all_append P xs ys us vs k m u t rest q, omega (arith, sum), ap (λ b. b || t) or ∙ or_assoc r.short u t)

pub tallied_append : {T : Type 0} (P : T → Tally → T → Type 0) (xs ys us vs : List T) (x y : Tally) → Tallied P xs x ys → Tallied P us y vs
    → Tallied P (xs ++ us) (both_of x y) (ys ++ vs)
tallied_append P xs ys us vs x y p q = record {
  total = p.total + q.total;
  each = all_append P xs ys us vs p.total q.total x.short y.short p.each q.each;
  count = omega (arith, p.count, q.count);
}

all_map : {T : Type 0} (P Q : T → Tally → T → Type 0) → ((x : T) (r : Tally) (y : T) → P x r y → Q x r y) → (xs ys : List T) (n : ℕ) (s : Bool) → TalliedAll P xs n s ys
    → TalliedAll Q xs n s ys
all_map P Q f [] [] n s p = p
all_map P Q f [] (y ∷ ys) n s p = p
all_map P Q f (x ∷ xs) [] n s p = p
all_map P Q f (x ∷ xs) (y ∷ ys) n s (r, k, u, one, rest, sum, or) = (r, k, u, f x r y one, all_map P Q f xs ys k u rest, sum, or)

-- what holds of each call is carried over
pub tallied_map : {T : Type 0} {P Q : T → Tally → T → Type 0} {xs ys : List T} {sum : Tally} → ((x : T) (r : Tally) (y : T) → P x r y → Q x r y) → Tallied P xs sum ys
    → Tallied Q xs sum ys
tallied_map {P = P} {Q = Q} {xs = xs} {ys = ys} {sum = sum} f p = record { total = p.total; each = all_map P Q f xs ys p.total sum.short p.each; count = p.count }

pub tallied_length : {T : Type 0} (P : T → Tally → T → Type 0) (xs ys : List T) (n : ℕ) (s : Bool) → TalliedAll P xs n s ys → length ys ≡ length xs
tallied_length P [] [] n s p = refl
tallied_length P [] (y ∷ ys) n s p = absurd p
tallied_length P (x ∷ xs) [] n s p = absurd p
tallied_length P (x ∷ xs) (y ∷ ys) n s (r, k, u, one, rest, sum, or) = omega (arith, tallied_length P xs ys k u rest)

or_false : (b : Bool) → b ≡ (b || false)
or_false true = refl
or_false false = refl

pub tallied_one : {T : Type 0} (P : T → Tally → T → Type 0) (xs : List T) (d y : T) (r : Tally) → length xs ≡ 1 → P (get_or xs 0 d) r y → r.count < 2 ^ 64
    → Tallied P xs r (slice_set xs 0 y)
tallied_one P [] d y r len p fits = absurd (omega arith)
tallied_one P (z ∷ []) d y r len p fits = record { total = r.count; each = (r, 0, false, p, (refl, refl), omega arith, or_false r.short); count = omega arith }
tallied_one P (z ∷ w ∷ zs) d y r len p fits = absurd (omega arith)
