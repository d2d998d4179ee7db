-- Runs, one behind the other, and one that goes on by a message.
use Rattle.std.proofs.Common.{◌≡◌, ◌∙◌, ℕ, suc, zero, ◌+◌, List, [], ◌∷◌, ◌++◌, refl, sym, ap, append_assoc, append-nil, arith}
use Rattle.lapin_keeping.specs.declared.fate.Fate.{Fate}
use Rattle.lapin_keeping.specs.declared.run.Run.{Run}
use Rattle.lapin_keeping.specs.Runs.{each_of, of_run, told}

pub told_behind : (xs : List Run) (r : Run) → told (xs ++ r ∷ []) ≡ told xs ++ of_run r
told_behind [] r = append-nil (of_run r)
told_behind (x ∷ xs) r = ap (λ (ys : List (ℕ × Fate)). of_run x ++ ys) (told_behind xs r) ∙ sym (append_assoc (of_run x) (told xs) (of_run r))

pub each_more : (first n : ℕ) (f : Fate) → each_of first (suc n) f ≡ each_of first n f ++ (first + n, f) ∷ []
each_more first zero f =
    let e : first ≡ first + 0 = omega arith in
    ap (λ (k : ℕ). (k, f) ∷ []) e
each_more first (suc n) f =
    let e : suc first + n ≡ first + suc n = omega arith in
    ap (λ (ys : List (ℕ × Fate)). (first, f) ∷ ys) (each_more (suc first) n f ∙ ap (λ (k : ℕ). each_of (suc first) n f ++ (k, f) ∷ []) e)

pub one_told : (number : ℕ) (f : Fate) (r : Run) → r.first ≡ number → r.count ≡ 1 → r.fate ≡ f → of_run r ≡ (number, f) ∷ []
one_told number f r a b c = rw a (rw b (rw c refl))

pub longer_told : (r s : Run) (number : ℕ) → r.first + r.count ≡ number → s.first ≡ r.first → s.count ≡ r.count + 1 → s.fate ≡ r.fate → of_run s ≡ of_run r ++ (number, r.fate) ∷ []
longer_told r s number b c d e =
    let more : r.count + 1 ≡ suc r.count = omega arith in
    rw c (rw d (rw e (ap (λ (k : ℕ). each_of r.first k r.fate) more ∙ each_more r.first r.count r.fate ∙ ap (λ (k : ℕ). each_of r.first r.count r.fate ++ (k, r.fate) ∷ []) b)))

pub pushed_told : (xs : List Run) (r : Run) (ys : List (ℕ × Fate)) → of_run r ≡ ys → told (xs ++ r ∷ []) ≡ told xs ++ ys
pushed_told xs r ys e = told_behind xs r ∙ ap (λ (zs : List (ℕ × Fate)). told xs ++ zs) e

pub replaced_told : (xs : List Run) (r s : Run) (ys : List (ℕ × Fate)) → of_run s ≡ of_run r ++ ys → told (xs ++ s ∷ []) ≡ told (xs ++ r ∷ []) ++ ys
replaced_told xs r s ys e =
    told_behind xs s ∙ ap (λ (zs : List (ℕ × Fate)). told xs ++ zs) e ∙ sym (append_assoc (told xs) (of_run r) ys) ∙ ap (λ (zs : List (ℕ × Fate)). zs ++ ys) (sym (told_behind xs r))

pub twice_told : (xs : List Run) (r s : Run) (ys : List (ℕ × Fate)) → of_run s ≡ ys → told ((xs ++ r ∷ []) ++ s ∷ []) ≡ told (xs ++ r ∷ []) ++ ys
twice_told xs r s ys e = pushed_told (xs ++ r ∷ []) s ys e
