-- Pieces that were added one behind another stand before what is behind them.
use Rattle.std.proofs.Common.{◌≡◌, ℕ, ◌+◌, List, ◌++◌, length, Option, ap, ◌∙◌, append_assoc}
use Rattle.std.proofs.lemmas.List.{length-append}
use Rattle.lapin_fields.specs.Reading.{◌>>=◌, short_at}

-- a reading behind a number in two octets
abbrev pub numbered : {A : Type 0} → (ℕ → List ℕ → Option (A × List ℕ)) → List ℕ → Option (A × List ℕ)
numbered read bytes = short_at bytes >>= λ n. read n.0 n.1

pub joined_2 : (a b r : List ℕ) → (a ++ b) ++ r ≡ a ++ (b ++ r)
joined_2 a b r = append_assoc a b r

pub joined_3 : (a b c r : List ℕ) → ((a ++ b) ++ c) ++ r ≡ a ++ (b ++ (c ++ r))
joined_3 a b c r = joined_2 (a ++ b) c r ∙ append_assoc a b ((c ++ r))

pub joined_4 : (a b c d r : List ℕ) → (((a ++ b) ++ c) ++ d) ++ r ≡ a ++ (b ++ (c ++ (d ++ r)))
joined_4 a b c d r = joined_3 (a ++ b) c d r ∙ append_assoc a b ((c ++ (d ++ r)))

pub joined_5 : (a b c d e r : List ℕ) → ((((a ++ b) ++ c) ++ d) ++ e) ++ r ≡ a ++ (b ++ (c ++ (d ++ (e ++ r))))
joined_5 a b c d e r = joined_4 (a ++ b) c d e r ∙ append_assoc a b ((c ++ (d ++ (e ++ r))))

pub joined_6 : (a b c d e f r : List ℕ) → (((((a ++ b) ++ c) ++ d) ++ e) ++ f) ++ r ≡ a ++ (b ++ (c ++ (d ++ (e ++ (f ++ r)))))
joined_6 a b c d e f r = joined_5 (a ++ b) c d e f r ∙ append_assoc a b ((c ++ (d ++ (e ++ (f ++ r)))))

pub joined_7 : (a b c d e f g r : List ℕ) → ((((((a ++ b) ++ c) ++ d) ++ e) ++ f) ++ g) ++ r ≡ a ++ (b ++ (c ++ (d ++ (e ++ (f ++ (g ++ r))))))
joined_7 a b c d e f g r = joined_6 (a ++ b) c d e f g r ∙ append_assoc a b ((c ++ (d ++ (e ++ (f ++ (g ++ r))))))

pub joined_8 : (a b c d e f g h r : List ℕ) → (((((((a ++ b) ++ c) ++ d) ++ e) ++ f) ++ g) ++ h) ++ r ≡ a ++ (b ++ (c ++ (d ++ (e ++ (f ++ (g ++ (h ++ r)))))))
joined_8 a b c d e f g h r = joined_7 (a ++ b) c d e f g h r ∙ append_assoc a b ((c ++ (d ++ (e ++ (f ++ (g ++ (h ++ r)))))))

-- ---- and how long they are

long_3 : (a b c : List ℕ) → length ((a ++ b) ++ c) ≡ length a + length b + length c
long_3 a b c = length-append (a ++ b) c ∙ ap (λ (n : ℕ). n + length c) (length-append a b)

long_4 : (a b c d : List ℕ) → length (((a ++ b) ++ c) ++ d) ≡ length a + length b + length c + length d
long_4 a b c d = length-append ((a ++ b) ++ c) d ∙ ap (λ (n : ℕ). n + length d) (long_3 a b c)

pub long_5 : (a b c d e : List ℕ) → length ((((a ++ b) ++ c) ++ d) ++ e) ≡ length a + length b + length c + length d + length e
long_5 a b c d e = length-append (((a ++ b) ++ c) ++ d) e ∙ ap (λ (n : ℕ). n + length e) (long_4 a b c d)

pub long_6 : (a b c d e f : List ℕ) → length (((((a ++ b) ++ c) ++ d) ++ e) ++ f) ≡ length a + length b + length c + length d + length e + length f
long_6 a b c d e f = length-append ((((a ++ b) ++ c) ++ d) ++ e) f ∙ ap (λ (n : ℕ). n + length f) (long_5 a b c d e)

pub long_7 : (a b c d e f g : List ℕ) → length ((((((a ++ b) ++ c) ++ d) ++ e) ++ f) ++ g) ≡ length a + length b + length c + length d + length e + length f + length g
long_7 a b c d e f g = length-append (((((a ++ b) ++ c) ++ d) ++ e) ++ f) g ∙ ap (λ (n : ℕ). n + length g) (long_6 a b c d e f)
