-- An opening begins: what the call leaves of a session, by what the session's parts then hold.
use Rattle.std.proofs.Common.{◌≡◌, ℕ, ◌+◌, true, false, List, [], ◌∷◌, length, Option, Some, refl, sym, ◌∙◌, ap, length-append}
use Rattle.std.specs.List.{fold}
use Rattle.lapin_types.specs.declared.request.Request.{Request}
use Rattle.lapin_types.specs.declared.request.Reply.TheVariants as reply
use Rattle.lapin_types.specs.Types.method
use Rattle.lapin_types.specs.Types.channel
use Rattle.lapin_content.specs.Channels.{Channels}
use Rattle.lapin_delivery.specs.Deliveries.{Deliveries}
use Rattle.lapin_delivery.specs.Deliveries as deliveries
use Rattle.lapin_delivery.specs.Marks as delivery_mark
use Rattle.lapin_rules.specs.declared.calls.Asked.TheVariants as ask
use Rattle.lapin_rules.specs.declared.marks.AtLeaving.TheVariants as leaving
use Rattle.lapin_rules.specs.declared.phases.ChannelPhase.{ChannelPhase}
use Rattle.lapin_rules.specs.declared.phases.ChannelPhase.TheVariants as phase
use Rattle.lapin_rules.specs.declared.phases.ConnectionPhase.{ConnectionPhase}
use Rattle.lapin_rules.specs.ConfirmMarks as mark
use Rattle.lapin_rules.specs.TicketReadings as ticket
use Rattle.lapin_rules.specs.Words.{with_channel}
use Rattle.lapin_rules.specs.Wire.{state_of, is_closed, requests_with, with_deliveries}
use Rattle.lapin_rules.specs.Asking.{after_call, call_marks, call_tickets}
use Rattle.lapin_outbox.specs.Outgoing.{OutboxState, with_method, with_lists}
use Rattle.lapin_ticket.specs.declared.Slot.{Slot}
use Rattle.lapin_ticket.specs.declared.Slot.TheVariants as slot
use Rattle.lapin_ticket.specs.Slots.{after_mark}
use Rattle.lapin_confirm.specs.Machine as confirm_state
use Rattle.lapin_confirm.specs.ConfirmState.{ConfirmState}
use Rattle.lapin_machine.specs.World.{World, asking}
use Rattle.lapin_machine.specs.Returned as back
use Rattle.lapin_machine.proofs.Counts.{begun-confirms}
use Rattle.lapin_machine.proofs.Seen.{seen, base_is, world_is}

open_next : (w : World) (c : ℕ) → is_closed (state_of c w.wire) ≡ true
    → asking c ask.Open w ≡ record { wire = with_deliveries (delivery_mark.Opened c ∷ []) (after_call c ask.Open w.wire); confirm_state = fold confirm_state.after_mark w.confirm_state (call_marks c ask.Open w.wire); slots = fold after_mark w.slots (call_tickets c ask.Open w.wire); returned = back.after_asked c ask.Open w.wire w.returned }
open_next w c h = rw h refl

module _ (l : ConnectionPhase) (p : List (ℕ × ChannelPhase)) (o : OutboxState) (rs : List (ℕ × List Request)) (cs : Channels) (i : Deliveries) (s : List (Option Slot)) (b : ConfirmState) where
  abbrev old : World
  old = seen l p o rs cs i s b

  pub open_seen : (c : ℕ) (P : List (ℕ × ChannelPhase)) (O : OutboxState) (R : List (ℕ × List Request)) (J : Deliveries) (S : List (Option Slot)) (B : ConfirmState)
      → is_closed (state_of c old.wire) ≡ true
      → P ≡ with_channel c phase.Opening p
      → O ≡ with_lists (with_method (record { channel = c; method = method.Channel channel.Open; ticket = Some (length s + 1) }) o.lists) o
      → R ≡ requests_with c (length s + 1) (Some reply.ChannelOpenOk) rs
      → S ≡ after_mark s (ticket.Given c leaving.Nothing)
      → B ≡ confirm_state.after_mark b (mark.Begun c)
      → J ≡ deliveries.after_mark i (delivery_mark.Opened c)
      → seen l P O R cs J S B ≡ asking c ask.Open old
  open_seen c P O R J S B h eP eO eR eS eB eI =
      world_is _ _
      (base_is _ (with_deliveries (delivery_mark.Opened c ∷ []) (after_call c ask.Open old.wire)) (ap (λ (y : OutboxState). y.frame_max) eO) refl eP
      (ap (λ (y : OutboxState). y.lists.rest) eO) (ap (λ (y : OutboxState). y.lists.methods) eO) (ap (λ (y : OutboxState). y.lists.publishes) eO) eR refl
      (ap length eS ∙ length-append s (Some (slot.Open c leaving.Nothing false) ∷ []))
      (ap (λ (y : ConfirmState). length y.publish_states.cells) eB ∙ begun-confirms c b)
      eI)
      eB
      eS
      (ap (λ (y : OutboxState). y.returned) eO)
      ∙ sym (open_next old c h)
