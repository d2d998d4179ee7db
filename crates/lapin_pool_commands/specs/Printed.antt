-- The text that is printed of what working callers leave.
use Rattle.std.specs.Prelude.{ℕ, true, false, List, [], ◌∷◌, ◌++◌, length, codes, decimal, Option, Some, None}
use Rattle.std.specs.List.{flat_map}
use Rattle.lapin_acker.specs.declared.verdict.Verdict.{Verdict}
use Rattle.lapin_acker.specs.declared.verdict.Verdict.TheVariants as verdict
use Rattle.lapin_pool.specs.declared.card.Card.{Card}
use Rattle.lapin_pool.specs.declared.card.PoolEnd.{PoolEnd}
use Rattle.lapin_pool.specs.declared.card.Sent.{Sent}
use Rattle.lapin_pool.specs.declared.card.Sent.TheVariants as sent
use Rattle.lapin_inputs.specs.Printing.{bad_line_text}
use Rattle.lapin_shared_commands.specs.Printed.{history_text}

-- the name of a verdict, and a dash where there is none
abbrev pub verdict_text : Option Verdict → List ℕ
verdict_text None = codes "-"
verdict_text (Some verdict.Ack) = codes "ack"
verdict_text (Some (verdict.Nack false)) = codes "nack"
verdict_text (Some (verdict.Nack true)) = codes "requeue"
verdict_text (Some (verdict.Reject false)) = codes "reject"
verdict_text (Some (verdict.Reject true)) = codes "reject-requeue"
verdict_text (Some verdict.Nothing) = codes "nothing"

-- the place of a verdict's step, and a dash where there is none
abbrev pub sent_text : Sent → List ℕ
sent_text (sent.Placed p) = decimal p
sent_text _ = codes "-"

-- `card CALLER PLACE ACKER VERDICT SENT`, ended by one line feed
abbrev pub card_line : Card → List ℕ
card_line c =
    codes "card " ++ decimal c.caller ++ 32 ∷ decimal c.place ++ 32 ∷ decimal c.acker ++ 32 ∷ verdict_text c.verdict ++ 32 ∷ sent_text c.sent ++ 10 ∷ []

-- how many cards there are
abbrev pub count_line : ℕ → List ℕ
count_line n = codes "cards " ++ decimal n ++ 10 ∷ []

-- that, and the line of each
abbrev pub cards_text : List Card → List ℕ
cards_text cs = count_line (length cs) ++ flat_map card_line cs

-- the history and the cards, where something was run, and the line that names the first bad line
abbrev pub run_text : Option PoolEnd → Option ℕ → List ℕ
run_text None bad = bad_line_text bad
run_text (Some e) bad = (history_text e.history ++ cards_text e.cards.items) ++ bad_line_text bad
