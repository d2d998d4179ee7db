-- Octets that are written into a room one behind the other.
use Rattle.std.proofs.Common.{◌≡◌, ◌≤◌, ◌+◌, ℕ, List, [], ◌∷◌, ◌++◌, length, take, drop, refl, sym, ap, ◌∙◌, arith}
use Rattle.std.proofs.Math.Seq.{take-append_seam}
use Rattle.std.proofs.lemmas.List.{length-append}
use Rattle.std.proofs.lemmas.Slice.{drop-append-drop}
use Rattle.lapin_client.specs.Parcels.{copied}

filled : (a b room : List ℕ) → copied (length a) b (a ++ drop (length a) room) ≡ a ++ b ++ drop (length (a ++ b)) room
filled a b room =
    ap (λ (l : List ℕ). l ++ b ++ drop (length a + length b) (a ++ drop (length a) room)) (take-append_seam a (drop (length a) room))
    ∙ ap (λ (l : List ℕ). a ++ b ++ l) (drop-append-drop (length a) room a (length a + length b) (omega arith) refl ∙ ap (λ (n : ℕ). drop n room) (sym (length-append a b)))

-- behind what was written
filled_behind : (a b room o p : List ℕ) (at : ℕ) → o ≡ a ++ drop (length a) room → at ≡ length a → p ≡ copied at b o → p ≡ a ++ b ++ drop (length (a ++ b)) room
filled_behind a b room o p at is n put = put ∙ ap (λ (i : ℕ). copied i b o) n ∙ ap (λ (l : List ℕ). copied (length a) b l) is ∙ filled a b room

take_none : (l : List ℕ) → take 0 l ≡ []
take_none [] = refl
take_none (x ∷ l) = refl

nothing_more : (n : ℕ) → 0 + n ≡ n
nothing_more n = omega arith

-- at the beginning of the room
pub filled_first : (b room p : List ℕ) → p ≡ copied 0 b room → p ≡ b ++ drop (length b) room
filled_first b room p put =
    put ∙ ap (λ (l : List ℕ). l ++ b ++ drop (0 + length b) room) (take_none room) ∙ ap (λ (n : ℕ). b ++ drop n room) (nothing_more (length b))

-- four parts
pub filled_four : (a b c d room o p q r : List ℕ) (l m n : ℕ) → o ≡ copied 0 a room → l ≡ 0 + length a → p ≡ copied l b o → m ≡ l + length b → q ≡ copied m c p → n ≡ m + length c → r ≡ copied n d q →
    r ≡ a ++ b ++ c ++ d ++ drop (length (a ++ b ++ c ++ d)) room
filled_four a b c d room o p q r l m n first one second two third three fourth =
    let one_behind : l ≡ length a = one ∙ nothing_more (length a) in
    let two_behind : m ≡ length (a ++ b) = two ∙ ap (λ (i : ℕ). i + length b) one_behind ∙ sym (length-append a b) in
    let three_behind : n ≡ length (a ++ b ++ c) = three ∙ ap (λ (i : ℕ). i + length c) two_behind ∙ sym (length-append (a ++ b) c) in
    filled_behind (a ++ b ++ c) d room q r n
    (filled_behind (a ++ b) c room p q m (filled_behind a b room o p l (filled_first a room o first) one_behind second) two_behind third)
    three_behind fourth

-- how many octets they have
pub four_long : (a b c d : List ℕ) → length (a ++ b ++ c ++ d) ≡ length a + length b + length c + length d
four_long a b c d = length-append (a ++ b ++ c) d ∙ ap (λ (n : ℕ). n + length d) (length-append (a ++ b) c ∙ ap (λ (n : ℕ). n + length c) (length-append a b))
