-- Early messages: the walk by which those of a channel are given, and what is left of the others.
use Rattle.std.proofs.Common.{◌≡◌, ◌≢◌, ℕ, zero, suc, ◌-◌, ◌<◌, ◌==◌, true, false, not, cond, List, [], ◌∷◌, ◌++◌, length, refl, ◌∙◌, ap, sym, arith, ne_eqb}
use Rattle.std.proofs.lemmas.Bool.{eqb-true}
use Rattle.std.proofs.lemmas.List.{append_assoc, append-nil}
use Rattle.lapin_types.specs.declared.message.BasicReturnMessage.{BasicReturnMessage}
use Rattle.lapin_confirm.specs.ConfirmState.{messages_on, messages_off}
use Rattle.lapin_confirm.specs.Turns.{Turned, turned, turn, turns}

-- so many at the front were turned
turned-front : (c : ℕ) (xs ys : List (ℕ × BasicReturnMessage)) (g : List BasicReturnMessage) → turns c (length xs) (turned g (xs ++ ys)) ≡ turned (g ++ messages_on c xs) (ys ++ messages_off c xs)
turned-front c [] ys g = rw (append-nil g, append-nil ys) refl
turned-front c (x ∷ xs) ys g =
    elim (x.0 == c) as (λ b. turns c (length xs) (cond b (turned (g ++ x.1 ∷ []) (xs ++ ys)) (turned g ((xs ++ ys) ++ x ∷ []))) ≡ turned (g ++ cond b (x.1 ∷ messages_on c xs) (messages_on c xs)) (ys ++ cond (not b) (x ∷ messages_off c xs) (messages_off c xs))) [
      | true ↦ turned-front c xs ys (g ++ x.1 ∷ []) ∙ rw (append_assoc g (x.1 ∷ []) (messages_on c xs)) refl
      | false ↦ rw (append_assoc xs ys (x ∷ [])) (turned-front c xs (ys ++ x ∷ []) g ∙ rw (append_assoc ys (x ∷ []) (messages_off c xs)) refl)
    ]

turned-all : (c : ℕ) (es : List (ℕ × BasicReturnMessage)) → turns c (length es) (turned [] es) ≡ turned (messages_on c es) (messages_off c es)
turned-all c es = ap (λ xs. turns c (length es) (turned [] xs)) (sym (append-nil es)) ∙ turned-front c es [] []

-- one turn, and the others after it
pub one-turn : (c n : ℕ) (t u : Turned) → 0 < n → u ≡ turn c t.given t.early → turns c (n - 1) u ≡ turns c n t
one-turn c zero t u more same = absurd (omega arith)
one-turn c (suc n) t u more same = let one : suc n - 1 ≡ n = omega arith in rw (one, same) refl

-- the walk is over
pub turned-done : (c n : ℕ) (given : List BasicReturnMessage) (left es : List (ℕ × BasicReturnMessage)) → n ≡ 0 → turns c n (turned given left) ≡ turns c (length es) (turned [] es) → turned given left ≡ turned (messages_on c es) (messages_off c es)
turned-done c zero given left es none same = same ∙ turned-all c es
turned-done c (suc n) given left es none same = absurd (omega arith)

-- ---- one channel's messages

pub on-push : (c d : ℕ) (m : BasicReturnMessage) (es : List (ℕ × BasicReturnMessage)) → messages_on c (es ++ (d, m) ∷ []) ≡ messages_on c es ++ cond (d == c) (m ∷ []) []
on-push c d m [] = elim (d == c) as (λ b. ◌≡◌ {A = List BasicReturnMessage} (cond b (m ∷ []) []) (cond b (m ∷ []) [])) [ true ↦ refl | false ↦ refl ]
on-push c d m (e ∷ es) =
    elim (e.0 == c) as (λ b. cond b (e.1 ∷ messages_on c (es ++ (d, m) ∷ [])) (messages_on c (es ++ (d, m) ∷ [])) ≡ cond b (e.1 ∷ messages_on c es) (messages_on c es) ++ cond (d == c) (m ∷ []) [])
    [ true ↦ ap (λ ms. e.1 ∷ ms) (on-push c d m es) | false ↦ on-push c d m es ]

-- none is left of a channel whose messages are gone
pub on-off : (c : ℕ) (es : List (ℕ × BasicReturnMessage)) → messages_on c (messages_off c es) ≡ []
on-off c [] = refl
on-off c (e ∷ es) =
    elim (e.0 == c) as (λ b. (e.0 == c) ≡ b → messages_on c (cond (not b) (e ∷ messages_off c es) (messages_off c es)) ≡ [])
    [ true ↦ λ here. on-off c es | false ↦ λ away. rw away (on-off c es) ] refl

-- and the others keep theirs
pub on-other : (c d : ℕ) (es : List (ℕ × BasicReturnMessage)) → d ≢ c → messages_on c (messages_off d es) ≡ messages_on c es
on-other c d [] other = refl
on-other c d (e ∷ es) other =
    elim (e.0 == d) as (λ b. (e.0 == d) ≡ b → messages_on c (cond (not b) (e ∷ messages_off d es) (messages_off d es)) ≡ cond (e.0 == c) (e.1 ∷ messages_on c es) (messages_on c es)) [
      | true ↦ λ here. rw (ne_eqb e.0 c (λ same. other (sym (eqb-true e.0 d here) ∙ same))) (on-other c d es other)
      | false ↦ λ away. elim (e.0 == c) as (λ b. cond b (e.1 ∷ messages_on c (messages_off d es)) (messages_on c (messages_off d es)) ≡ cond b (e.1 ∷ messages_on c es) (messages_on c es)) [ true ↦ ap (λ ms. e.1 ∷ ms) (on-other c d es other) | false ↦ on-other c d es other ]
    ] refl
