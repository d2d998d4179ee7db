-- When a session's value is what a history says.
use Rattle.std.specs.Prelude.{◌≡◌, ◌≢◌, ℕ, false, List, [], ◌∷◌, Option}
use Rattle.std.specs.List.{AllByRecursion}
use Rattle.lapin_types.specs.declared.leaving.Publish.{Publish}
use Rattle.lapin_rules.specs.ConfirmMarks.{ConfirmMark}
use Rattle.lapin_rules.specs.ConfirmMarks as mark
use Rattle.lapin_rules.specs.ConfirmReadings.{added}
use Rattle.lapin_rules.specs.TicketReadings.{TicketMark, given}
use Rattle.lapin_rules.specs.Phases.{is_up}
use Rattle.lapin_rules.specs.Wire.{Wire}
use Rattle.lapin_rules.specs.History.{History, past}
use Rattle.lapin_confirm.specs.ConfirmState.{ConfirmState}
use Rattle.lapin_confirm.specs.Follows.{MayCome}
use Rattle.lapin_confirm.specs.Follows as confirms
use Rattle.lapin_ticket.specs.declared.Slot.{Slot}
use Rattle.lapin_ticket.specs.Follows as tickets
use Rattle.lapin_machine.specs.Tied.{IsTied}
use Rattle.lapin_machine.specs.World.{World}

-- the publishes that wait have not left, and are different ones
abbrev pub AreFresh : List ConfirmMark → List Publish → Type 0
AreFresh ms [] = Unit {0}
AreFresh ms (p ∷ ps) = MayCome ms (mark.Left p.channel p.confirm) × AllByRecursion (λ q. p.confirm ≢ q.confirm) ps × AreFresh ms ps

-- the confirms are what the marks say
pub record ConfirmsStand (b : Wire) (ms : List ConfirmMark) (p : ConfirmState) : Type 0 where
  pub confirm_state : confirms.Follows ms p
  pub published : b.published ≡ added ms
  pub queue : AreFresh ms b.publishes

-- the tickets are what the marks say
pub record TicketsStand (b : Wire) (ms : List TicketMark) (slots : List (Option Slot)) : Type 0 where
  pub kept : tickets.Follows ms slots
  pub given : b.tickets ≡ given ms

-- no channel stands open once the connection does not
abbrev pub IsShut : Wire → Type 0
IsShut b = is_up b.link ≡ false → b.phases ≡ []

-- The session stands for the history: it has its states, lists, requests and counters; its tags, outcomes and answers are those
-- that the history's marks say. And its parts hang together: on which channels a confirm or a message may come is not in the marks
-- alone.
pub record Stands (frame_max : ℕ) (h : History) (w : World) : Type 0 where
  pub wire : w.wire ≡ (past frame_max h).wire
  pub shut : IsShut w.wire
  pub tied : IsTied w.wire.link w.wire.phases w.wire.publishes w.confirm_state.publish_states
  pub confirms : ConfirmsStand w.wire (past frame_max h).confirms w.confirm_state
  pub tickets : TicketsStand w.wire (past frame_max h).tickets w.slots
