-- What one more mark does to the answer of a ticket that was given.
use Rattle.std.proofs.Common.{◌≡◌, ℕ, zero, suc, ◌≤◌, ◌<◌, ◌||◌, true, false, List, [], ◌∷◌, ◌++◌, Some, Result, refl, ◌∙◌, ap, arith}
use Rattle.std.specs.List.{list_any}
use Rattle.std.proofs.Math.Bool.{or-true}
use Rattle.lapin_types.specs.declared.Error.{Error}
use Rattle.lapin_types.specs.declared.answer.Answer.{Answer}
use Rattle.lapin_rules.specs.TicketReadings.{TicketMark, given, channel_of, leaving_of, life, answer_of, is_collected, closes}
use Rattle.lapin_rules.proofs.ListLaws.{any-push}
use Rattle.lapin_rules.proofs.TicketLaws.{answer-push, nth-push, life-push}
use Rattle.lapin_ticket.specs.Follows.{WasGiven}

pub answer-stays : (n : ℕ) (ms : List TicketMark) (m : TicketMark) (a : Result Answer Error) → WasGiven n ms → answer_of n ms ≡ Some a → answer_of n (ms ++ m ∷ []) ≡ Some a
answer-stays zero ms m a w h = let none : 1 ≤ 0 = w.0 in absurd (omega arith)
answer-stays (suc k) ms m a w h =
    let last : suc k ≤ given ms = w.1 in
    let known : k < given ms = omega arith in
    rw (nth-push k ms m known, life-push k ms m known, answer-push (suc k) (channel_of (suc k) ms) (leaving_of (suc k) ms) false (life (suc k) ms) m, h)
    refl

collected-push : (n : ℕ) (ms : List TicketMark) (m : TicketMark) → WasGiven n ms → is_collected n (ms ++ m ∷ []) ≡ (is_collected n ms || closes n m)
collected-push zero ms m w = let none : 1 ≤ 0 = w.0 in absurd (omega arith)
collected-push (suc k) ms m w =
    let last : suc k ≤ given ms = w.1 in
    let known : k < given ms = omega arith in
    ap (list_any (closes (suc k))) (life-push k ms m known) ∙ any-push (closes (suc k)) (life (suc k) ms) m

pub closed-now : (n : ℕ) (ms : List TicketMark) (m : TicketMark) → WasGiven n ms → closes n m ≡ true → is_collected n (ms ++ m ∷ []) ≡ true
closed-now n ms m w h = collected-push n ms m w ∙ ap (λ b. is_collected n ms || b) h ∙ or-true (is_collected n ms)

pub closed-still : (n : ℕ) (ms : List TicketMark) (m : TicketMark) → WasGiven n ms → is_collected n ms ≡ true → is_collected n (ms ++ m ∷ []) ≡ true
closed-still n ms m w h = collected-push n ms m w ∙ ap (λ b. b || closes n m) h
