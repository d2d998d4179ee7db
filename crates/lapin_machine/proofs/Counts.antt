-- Closes, ends and frames that leave change no counter.
use Rattle.std.proofs.Common.{◌≡◌, ℕ, zero, suc, Bool, true, false, cond, List, [], ◌∷◌, ◌++◌, map, length, Option, Some, None, Result, Ok, Err, refl, ◌∙◌, ap}
use Rattle.std.specs.List.{fold}
use Rattle.std.proofs.Math.ListN.{length-set}
use Rattle.std.proofs.lemmas.List.{length-map}
use Rattle.lapin_types.specs.declared.answer.Answer.{Answer}
use Rattle.lapin_types.specs.declared.leaving.Left.{Left}
use Rattle.lapin_types.specs.Types.{Error, Frame, Method}
use Rattle.lapin_types.specs.Types.frame
use Rattle.lapin_tables.specs.Numbered.{with_under, under}
use Rattle.lapin_rules.specs.ConfirmMarks as mark
use Rattle.lapin_rules.specs.TicketReadings.{TicketMark}
use Rattle.lapin_rules.specs.TicketReadings as ticket
use Rattle.lapin_rules.specs.Select.{is_select, queued_marks, method_marks}
use Rattle.lapin_rules.specs.Ends.{ends}
use Rattle.lapin_rules.specs.Requests.{resolved_with}
use Rattle.lapin_rules.specs.Asking.{made_marks}
use Rattle.lapin_rules.specs.Handing.{begun_ticket, last_ticket, left_tickets, frame_marks, entry_marks, left_marks}
use Rattle.lapin_ticket.specs.declared.Slot.{Slot}
use Rattle.lapin_ticket.specs.Slots.{after_mark, answered_slot, begun_slot, left_slot, closed_slot, failed_slot}
use Rattle.lapin_confirm.specs.PublishStates.{is_resolved}
use Rattle.lapin_confirm.specs.ConfirmState.{ConfirmState, return_lists_at}
use Rattle.lapin_confirm.specs.Aside.{kept_by, laid_by}
use Rattle.lapin_confirm.specs.Drain.{remaining, over_aside}
use Rattle.lapin_confirm.proofs.Remaining.{count-less}
use Rattle.lapin_confirm.specs.Machine as confirm_state

-- ---- as many tickets

length-under : {X : Type 0} (n : ℕ) (o : Option X) (xs : List (Option X)) → length (with_under n o xs) ≡ length xs
length-under zero o xs = refl
length-under (suc k) o xs = simp length-set

pub resolved-count : (a : Result Answer Error) (t : Option ℕ) (slots : List (Option Slot)) → length (fold after_mark slots (resolved_with a t)) ≡ length slots
resolved-count a None slots = refl
resolved-count a (Some n) slots = length-under n (answered_slot a (under n slots)) slots

pub made-count : (n : ℕ) (a : Option Answer) (slots : List (Option Slot)) → length (fold after_mark slots (made_marks n a)) ≡ length slots
made-count n None slots = refl
made-count n (Some a) slots = resolved-count (Ok a) (Some n) slots

fold-join : (xs ys : List TicketMark) (slots : List (Option Slot)) → fold after_mark slots (xs ++ ys) ≡ fold after_mark (fold after_mark slots xs) ys
fold-join [] ys slots = refl
fold-join (x ∷ xs) ys slots = fold-join xs ys (after_mark slots x)

pub marks-join : (xs ys : List TicketMark) (slots : List (Option Slot)) → fold after_mark slots (xs ++ ys) ≡ fold after_mark (fold after_mark slots xs) ys
marks-join xs ys slots = fold-join xs ys slots

pub failed-count : (e : Error) (slots : List (Option Slot)) → length (after_mark slots (ticket.AllFailed e)) ≡ length slots
failed-count e slots = length-map slots (answered_slot (Err e))

pub closed-count : (c : ℕ) (e : Error) (slots : List (Option Slot)) → length (after_mark slots (ticket.ClosedHere c e)) ≡ length slots
closed-count c e slots = length-map slots (closed_slot c e)

pub opening-count : (c : ℕ) (kept : Option ℕ) (e : Error) (slots : List (Option Slot)) → length (after_mark slots (ticket.OpeningFailed c kept e)) ≡ length slots
opening-count c None e slots = length-map slots (failed_slot c e)
opening-count c (Some n) e slots = length-under n (under n slots) (map (failed_slot c e) slots) ∙ length-map slots (failed_slot c e)

-- ---- as many confirms

pub rejected-count : (c : ℕ) (e : Error) (p : ConfirmState) → length (confirm_state.after_mark p (mark.ClosedHere c e)).publish_states.cells ≡ length p.publish_states.cells
rejected-count c e p = length-map p.publish_states.cells _

pub ended-count : (c : ℕ) (e : Error) (p : ConfirmState) → length (confirm_state.after_mark p (mark.Ended c e)).publish_states.cells ≡ length p.publish_states.cells
ended-count c e p = length-map p.publish_states.cells _

pub ends-count : (e : Error) (cs : List ℕ) (p : ConfirmState) → length (fold confirm_state.after_mark p (ends e cs)).publish_states.cells ≡ length p.publish_states.cells
ends-count e [] p = refl
ends-count e (c ∷ cs) p = ends-count e cs (confirm_state.after_mark p (mark.Ended c e)) ∙ ended-count c e p

-- of which some are kept no more
pub begun-confirms : (c : ℕ) (p : ConfirmState) → length (confirm_state.after_mark p (mark.Begun c)).publish_states.cells ≡ length p.publish_states.cells
begun-confirms c p = count-less (return_lists_at c p).aside (remaining p.publish_states.cells p.origins)

pub drained-count : (c : ℕ) (p : ConfirmState) → length (confirm_state.after_mark p (mark.Drained c)).publish_states.cells ≡ length p.publish_states.cells
drained-count c p = count-less (over_aside c p) (remaining p.publish_states.cells p.origins)

pub taken-count : (n : ℕ) (p : ConfirmState) → length (confirm_state.after_mark p (mark.Taken n)).publish_states.cells ≡ length p.publish_states.cells
taken-count n p = length-under n None p.publish_states.cells

pub aside-count : (n : ℕ) (p : ConfirmState) → length (confirm_state.after_mark p (mark.SetAside n)).publish_states.cells ≡ length p.publish_states.cells
aside-count n p = elim (is_resolved (under n p.publish_states.cells)) as (λ b. length (cond b (kept_by n p) (laid_by n p)).publish_states.cells ≡ length p.publish_states.cells) [ true ↦ length-under n None p.publish_states.cells | false ↦ refl ]

-- ---- a frame that leaves

begun-count : (first : Bool) (t n : Option ℕ) (slots : List (Option Slot)) → length (fold after_mark slots (begun_ticket first t n)) ≡ length slots
begun-count true (Some t) (Some n) slots = length-under t (begun_slot (under t slots)) slots
begun-count true (Some t) None slots = refl
begun-count true None n slots = refl
begun-count false t n slots = refl

last-count : (last : Bool) (t : Option ℕ) (slots : List (Option Slot)) → length (fold after_mark slots (last_ticket last t)) ≡ length slots
last-count true (Some t) slots = length-under t (left_slot (under t slots)) slots
last-count true None slots = refl
last-count false t slots = refl

pub left_tickets-count : (o : Option Left) (slots : List (Option Slot)) → length (fold after_mark slots (left_tickets o)) ≡ length slots
left_tickets-count None slots = refl
left_tickets-count (Some l) slots =
    ap length (marks-join (begun_ticket l.first l.ticket l.publish) (last_ticket l.last l.ticket) slots)
    ∙ last-count l.last l.ticket (fold after_mark slots (begun_ticket l.first l.ticket l.publish))
    ∙ begun-count l.first l.ticket l.publish slots

method_marks-count : (c : ℕ) (m : Method) (p : ConfirmState) → length (fold confirm_state.after_mark p (method_marks c m)).publish_states.cells ≡ length p.publish_states.cells
method_marks-count c m p = elim (is_select m) as (λ s. length (fold confirm_state.after_mark p (cond s (mark.SelectLeft c ∷ []) [])).publish_states.cells ≡ length p.publish_states.cells) [ true ↦ refl | false ↦ refl ]

frame_marks-count : (f : Frame) (p : ConfirmState) → length (fold confirm_state.after_mark p (frame_marks f)).publish_states.cells ≡ length p.publish_states.cells
frame_marks-count (frame.Method c m) p = method_marks-count c m p
frame_marks-count (frame.Header c h) p = refl
frame_marks-count (frame.Body c bytes) p = refl

entry_marks-count : (f : Frame) (o : Option ℕ) (first : Bool) (p : ConfirmState) → length (fold confirm_state.after_mark p (entry_marks f o first)).publish_states.cells ≡ length p.publish_states.cells
entry_marks-count f None first p = frame_marks-count f p
entry_marks-count f (Some n) true p = length-under n _ p.publish_states.cells
entry_marks-count f (Some n) false p = refl

pub left_marks-count : (o : Option Left) (p : ConfirmState) → length (fold confirm_state.after_mark p (left_marks o)).publish_states.cells ≡ length p.publish_states.cells
left_marks-count None p = refl
left_marks-count (Some l) p = entry_marks-count l.frame l.publish l.first p

-- the same, of what is known to be so
pub closed_counted : (c : ℕ) (e : Error) (slots new : List (Option Slot)) → new ≡ after_mark slots (ticket.ClosedHere c e) → length new ≡ length slots
closed_counted c e slots new h = ap length h ∙ closed-count c e slots

pub rejected_counted : (c : ℕ) (e : Error) (p new : ConfirmState) → new ≡ confirm_state.after_mark p (mark.ClosedHere c e) → length new.publish_states.cells ≡ length p.publish_states.cells
rejected_counted c e p new h = ap (λ (x : ConfirmState). length x.publish_states.cells) h ∙ rejected-count c e p

pub ends_counted : (e : Error) (xs : List ℕ) (p new : ConfirmState) → new ≡ fold confirm_state.after_mark p (ends e xs) → length new.publish_states.cells ≡ length p.publish_states.cells
ends_counted e xs p new h = ap (λ (x : ConfirmState). length x.publish_states.cells) h ∙ ends-count e xs p

pub called-count : (c : ℕ) (m : Method) (p : ConfirmState) → length (fold confirm_state.after_mark p (queued_marks c m)).publish_states.cells ≡ length p.publish_states.cells
called-count c m p = elim (is_select m) as (λ s. length (fold confirm_state.after_mark p (cond s (mark.SelectCalled c ∷ []) [])).publish_states.cells ≡ length p.publish_states.cells) [ true ↦ refl | false ↦ refl ]
