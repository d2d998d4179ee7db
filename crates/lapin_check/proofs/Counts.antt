-- A count of opens by channel, with one more.
use Rattle.std.proofs.Common.{◌≡◌, ◌≢◌, ℕ, suc, ◌+◌, ◌==◌, Bool, true, false, ◌&&◌, cond, List, [], ◌∷◌, ◌++◌, Option, Some, None, refl, sym, ap, ◌∙◌, inl, inr, add-one}
use Rattle.std.specs.Option.{is_some}
use Rattle.std.proofs.lemmas.Bool.Decides.{eqb_tells}
use Rattle.lapin_tables.specs.ByChannel.{at_channel, on_channel}
use Rattle.lapin_tables.proofs.Channels.{at-push, at-on_same, at-on_other, on-known, or-none}
use Rattle.lapin_check.specs.Marks.{count_in, count_at, with_count}
use Rattle.lapin_tables.proofs.Bools.{and_true, and_false}

-- one more where it is true
abbrev pub more_if : Bool → ℕ → ℕ
more_if b n = cond b (suc n) n

same_number : (c : ℕ) → (c == c) ≡ true
same_number c = elim (eqb_tells c c) [ inl same ↦ same.0 | inr other ↦ absurd (other.1 refl) ]

counted_same : (c : ℕ) (es : List (ℕ × ℕ)) (o : Option ℕ) → at_channel c es ≡ o → count_in (at_channel c (cond (is_some o) (on_channel c suc es) (es ++ (c, 1) ∷ []))) ≡ suc (count_in o)
counted_same c es None is = ap count_in (at-push c c 1 es) ∙ rw (is, same_number c) refl
counted_same c es (Some n) is = ap count_in (at-on_same c suc es) ∙ rw is refl

counted_other : (c d : ℕ) (es : List (ℕ × ℕ)) (b : Bool) → c ≢ d → (c == d) ≡ false → count_in (at_channel d (cond b (on_channel c suc es) (es ++ (c, 1) ∷ []))) ≡ count_at d es
counted_other c d es true apart away = ap count_in (at-on_other c d suc es apart)
counted_other c d es false apart away = ap count_in (at-push c d 1 es) ∙ rw away (ap count_in (or-none (at_channel d es)))

counted_more : (c d : ℕ) (es : List (ℕ × ℕ)) → count_at d (with_count c es) ≡ more_if (c == d) (count_at d es)
counted_more c d es =
    elim (eqb_tells c d) [
      | inl same ↦ rw (same.0, ← same.1) (counted_same c es (at_channel c es) refl)
      | inr other ↦ rw other.0 (counted_other c d es (is_some (at_channel c es)) other.1 other.0)
    ]

-- one more on a channel where b is true
pub counted_if : (b : Bool) (c d : ℕ) (es : List (ℕ × ℕ)) → count_at d (cond b (with_count c es) es) ≡ more_if ((c == d) && b) (count_at d es)
counted_if true c d es = counted_more c d es ∙ ap (λ (x : Bool). more_if x (count_at d es)) (sym (and_true (c == d)))
counted_if false c d es = ap (λ (x : Bool). more_if x (count_at d es)) (sym (and_false (c == d)))

-- a count that was found became one more
pub counted_known : (c n m : ℕ) (es : List (ℕ × ℕ)) → Some n ≡ at_channel c es → m ≡ n + 1 → on_channel c (λ _. m) es ≡ with_count c es
counted_known c n m es known more =
    ap (λ (x : ℕ). on_channel c (λ _. x) es) (more ∙ add-one n)
    ∙ sym (on-known c suc n es (sym known))
    ∙ ap (λ (o : Option ℕ). cond (is_some o) (on_channel c suc es) (es ++ (c, 1) ∷ [])) known
