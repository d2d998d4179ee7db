-- What one more mark at the end does to the readings of tickets.
use Rattle.std.proofs.Common.{◌≡◌, ℕ, suc, ◌+◌, ◌<◌, Bool, true, false, cond, ◌||◌, List, [], ◌∷◌, ◌++◌, Some, None, refl, ◌∙◌, ap}
use Rattle.std.specs.List.{list_any}
use Rattle.std.specs.Option.{option_or}
use Rattle.lapin_rules.specs.declared.marks.AtLeaving.{AtLeaving}
use Rattle.lapin_rules.specs.Words.{nth}
use Rattle.lapin_rules.specs.TicketReadings.{TicketMark, Given, gives, given, life, begins, answer_by, first_answer}
use Rattle.lapin_rules.proofs.ListLaws.{or_false, many-push, one-push, rest-push, one_new, rest_new}

pub given-push : (ms : List TicketMark) (m : TicketMark) → given (ms ++ m ∷ []) ≡ cond (gives m) (given ms + 1) (given ms)
given-push ms m = many-push gives ms m

or-assoc : (a b c : Bool) → ((a || b) || c) ≡ (a || (b || c))
or-assoc true b c = refl
or-assoc false b c = refl

pub answer-push : (n c : ℕ) (l : AtLeaving) (b : Bool) (ms : List TicketMark) (m : TicketMark) → first_answer n c l b (ms ++ m ∷ []) ≡ option_or (first_answer n c l b ms) (answer_by n c l (b || list_any (begins n) ms) m)
answer-push n c l b [] m = rw (or_false b) (elim (answer_by n c l b m) as (λ o. option_or o None ≡ o) [ None ↦ refl | Some x ↦ refl ])
answer-push n c l b (k ∷ ms) m =
    ap (λ o. option_or (answer_by n c l b k) o) (answer-push n c l (b || begins n k) ms m) ∙
    rw (or-assoc b (begins n k) (list_any (begins n) ms))
    (elim (answer_by n c l b k) as (λ o. option_or o (option_or (first_answer n c l (b || begins n k) ms) (answer_by n c l (b || (begins n k || list_any (begins n) ms)) m)) ≡ option_or (option_or o (first_answer n c l (b || begins n k) ms)) (answer_by n c l (b || (begins n k || list_any (begins n) ms)) m)) [ None ↦ refl | Some x ↦ refl ])

pub nth-push : (k : ℕ) (ms : List TicketMark) (m : TicketMark) → k < given ms → nth gives (suc k) (ms ++ m ∷ []) ≡ nth gives (suc k) ms
nth-push k ms m lt = one-push gives k ms m lt

pub life-push : (k : ℕ) (ms : List TicketMark) (m : TicketMark) → k < given ms → life (suc k) (ms ++ m ∷ []) ≡ life (suc k) ms ++ m ∷ []
life-push k ms m lt = rest-push gives k ms m lt

pub nth_new : (k c : ℕ) (l : AtLeaving) (ms : List TicketMark) → k ≡ given ms → nth gives (suc k) (ms ++ Given c l ∷ []) ≡ Some (Given c l)
nth_new k c l ms e = one_new gives k ms (Given c l) refl e

pub life_new : (k c : ℕ) (l : AtLeaving) (ms : List TicketMark) → k ≡ given ms → life (suc k) (ms ++ Given c l ∷ []) ≡ []
life_new k c l ms e = rest_new gives k ms (Given c l) refl e
