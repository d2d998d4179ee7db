-- Pieces that are added one behind another.
use Rattle.std.proofs.Common.{◌≡◌, ℕ, List, ◌++◌, ap, ◌∙◌, append_assoc}

pub two_added : (old a b one two : List ℕ) → one ≡ old ++ a → two ≡ one ++ b → two ≡ old ++ (a ++ b)
two_added old a b one two e f = f ∙ ap (λ (o : List ℕ). o ++ b) e ∙ append_assoc old a b

pub three_added : (old a b c one two three : List ℕ) → one ≡ old ++ a → two ≡ one ++ b → three ≡ two ++ c → three ≡ old ++ (a ++ (b ++ c))
three_added old a b c one two three e f g = two_added old a (b ++ c) one three e (two_added one b c two three f g)
