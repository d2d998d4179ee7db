-- Cancels that are done as openings end: no ticket is open behind them that was not before, and as many were given.
use Rattle.std.proofs.Common.{◌≡◌, ℕ, List, [], ◌∷◌, ◌++◌, length, Option, Result, Ok, refl, sym, ◌∙◌, ap, subst}
use Rattle.std.specs.List.{fold, filter}
use Rattle.std.proofs.lemmas.List.Sums.{fold-append}
use Rattle.lapin_types.specs.declared.answer.Answer.{Answer}
use Rattle.lapin_types.specs.declared.answer.Answer.TheVariants as answer
use Rattle.lapin_types.specs.declared.request.Request.{Request}
use Rattle.lapin_types.specs.declared.request.ReplyKind.TheVariants as reply_kind
use Rattle.lapin_types.specs.Types.{Error}
use Rattle.lapin_tables.specs.ByChannel.{at_channel}
use Rattle.lapin_rules.specs.TicketReadings.{TicketMark}
use Rattle.lapin_rules.specs.TicketReadings as ticket
use Rattle.lapin_rules.specs.Requests.{requests_in, is_kind, resolved_with}
use Rattle.lapin_rules.specs.Ends.{done_with, cancels_at, cancels_on}
use Rattle.lapin_ticket.specs.declared.Slot.{Slot}
use Rattle.lapin_ticket.specs.Slots.{after_mark}
use Rattle.lapin_machine.proofs.Counts.{failed-count}
use Rattle.lapin_laws.proofs.Opens.{open_resolved}
use Rattle.lapin_laws.proofs.Owing.{Table, Fewer}
use Rattle.lapin_machine.proofs.Cancelled.{done-count}

pub resolved_fewer : (slots : List (Option Slot)) (a : Result Answer Error) (o : Option ℕ) → Fewer slots (fold after_mark slots (resolved_with a o))
resolved_fewer slots a o n c l g x = (g, (open_resolved c l g n slots a o x).1)

-- marks behind marks
pub joined_fewer : (ms ns : List TicketMark) (slots : List (Option Slot)) → Fewer slots (fold after_mark slots ms) → Fewer (fold after_mark slots ms) (fold after_mark (fold after_mark slots ms) ns) → Fewer slots (fold after_mark slots (ms ++ ns))
joined_fewer ms ns slots f g = subst (Fewer slots) (sym (fold-append after_mark slots ms ns)) (λ n c l b x. let y = g n c l b x in f n c l y.0 y.1)

done_fewer : (rs : List Request) (slots : List (Option Slot)) → Fewer slots (fold after_mark slots (done_with rs))
done_fewer [] slots = λ n c l g x. (g, x)
done_fewer (r ∷ rs) slots =
    let first : List TicketMark = resolved_with (Ok answer.Done) r.ticket in
    joined_fewer first (done_with rs) slots (resolved_fewer slots (Ok answer.Done) r.ticket) (done_fewer rs (fold after_mark slots first))

pub cancels_fewer : (c : ℕ) (all : Table) (slots : List (Option Slot)) → Fewer slots (fold after_mark slots (cancels_at c all))
cancels_fewer c all slots = done_fewer (filter (is_kind reply_kind.BasicCancelOk) (requests_in (at_channel c all))) slots

-- ---- how many tickets were given

on-count : (cs : List ℕ) (all : Table) (slots : List (Option Slot)) → length (fold after_mark slots (cancels_on cs all)) ≡ length slots
on-count [] all slots = refl
on-count (c ∷ cs) all slots =
    ap length (fold-append after_mark slots (cancels_at c all) (cancels_on cs all))
    ∙ (on-count cs all (fold after_mark slots (cancels_at c all)) ∙ done-count (filter (is_kind reply_kind.BasicCancelOk) (requests_in (at_channel c all))) slots)

-- the cancels of these channels are done, and every other ticket fails
pub failing-count : (cs : List ℕ) (all : Table) (e : Error) (slots : List (Option Slot)) → length (fold after_mark slots (cancels_on cs all ++ ticket.AllFailed e ∷ [])) ≡ length slots
failing-count cs all e slots =
    ap length (fold-append after_mark slots (cancels_on cs all) (ticket.AllFailed e ∷ []))
    ∙ (failed-count e (fold after_mark slots (cancels_on cs all)) ∙ on-count cs all slots)
