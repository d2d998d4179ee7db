-- Cancels that an end leaves open are done, which changes no counter.
use Rattle.std.proofs.Common.{◌≡◌, ℕ, List, [], ◌∷◌, ◌++◌, length, Option, Ok, refl, ◌∙◌, ap}
use Rattle.std.specs.List.{fold, filter}
use Rattle.lapin_tables.specs.ByChannel.{at_channel}
use Rattle.lapin_types.specs.declared.answer.Answer.TheVariants as answer
use Rattle.lapin_types.specs.declared.request.Request.{Request}
use Rattle.lapin_types.specs.declared.request.ReplyKind.TheVariants as reply_kind
use Rattle.lapin_types.specs.Types.{Error}
use Rattle.lapin_rules.specs.Requests.{is_kind, requests_in, resolved_with}
use Rattle.lapin_rules.specs.Ends.{done_with, cancels_at, cancels_on}
use Rattle.lapin_rules.specs.TicketReadings.{TicketMark}
use Rattle.lapin_rules.specs.TicketReadings as ticket
use Rattle.lapin_ticket.specs.declared.Slot.{Slot}
use Rattle.lapin_ticket.specs.Slots.{after_mark}
use Rattle.lapin_machine.proofs.Counts.{resolved-count, marks-join, failed-count, opening-count}

pub done-count : (rs : List Request) (slots : List (Option Slot)) → length (fold after_mark slots (done_with rs)) ≡ length slots
done-count [] slots = refl
done-count (r ∷ rs) slots =
    let first : List TicketMark = resolved_with (Ok answer.Done) r.ticket in
    ap length (marks-join first (done_with rs) slots) ∙ done-count rs (fold after_mark slots first) ∙ resolved-count (Ok answer.Done) r.ticket slots

cancels-count : (c : ℕ) (all : List (ℕ × List Request)) (slots : List (Option Slot)) → length (fold after_mark slots (cancels_at c all)) ≡ length slots
cancels-count c all slots = done-count (filter (is_kind reply_kind.BasicCancelOk) (requests_in (at_channel c all))) slots

cancels_on-count : (cs : List ℕ) (all : List (ℕ × List Request)) (slots : List (Option Slot)) → length (fold after_mark slots (cancels_on cs all)) ≡ length slots
cancels_on-count [] all slots = refl
cancels_on-count (c ∷ cs) all slots =
    ap length (marks-join (cancels_at c all) (cancels_on cs all) slots) ∙ cancels_on-count cs all (fold after_mark slots (cancels_at c all)) ∙ cancels-count c all slots

-- an opening ends
pub opening_counted : (c : ℕ) (all : List (ℕ × List Request)) (kept : Option ℕ) (e : Error) (slots : List (Option Slot)) → length (fold after_mark slots (cancels_at c all ++ ticket.OpeningFailed c kept e ∷ [])) ≡ length slots
opening_counted c all kept e slots =
    ap length (marks-join (cancels_at c all) (ticket.OpeningFailed c kept e ∷ []) slots) ∙ opening-count c kept e (fold after_mark slots (cancels_at c all)) ∙ cancels-count c all slots

-- all that is open ends
pub all_failed_counted : (cs : List ℕ) (all : List (ℕ × List Request)) (e : Error) (slots new : List (Option Slot)) → new ≡ fold after_mark slots (cancels_on cs all ++ ticket.AllFailed e ∷ []) → length new ≡ length slots
all_failed_counted cs all e slots new h =
    ap length (h ∙ marks-join (cancels_on cs all) (ticket.AllFailed e ∷ []) slots) ∙ failed-count e (fold after_mark slots (cancels_on cs all)) ∙ cancels_on-count cs all slots
