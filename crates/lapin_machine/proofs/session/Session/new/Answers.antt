use Rattle.std.proofs.Common.{◌≡◌, ℕ, List, [], Option, refl, ap}
use Rattle.lapin_types.specs.declared.request.Request.{Request}
use Rattle.lapin_content.specs.Channels.{Channels}
use Rattle.lapin_rules.specs.declared.phases.ChannelPhase.{ChannelPhase}
use Rattle.lapin_rules.specs.declared.phases.ConnectionPhase.TheVariants as link
use Rattle.lapin_delivery.specs.Deliveries.{Deliveries, empty_deliveries}
use Rattle.lapin_outbox.specs.Outgoing.{OutboxState, empty}
use Rattle.lapin_ticket.specs.declared.Slot.{Slot}
use Rattle.lapin_confirm.specs.ConfirmState.{ConfirmState, empty_confirm_state}
use Rattle.lapin_machine.specs.World.{new_world}
use Rattle.lapin_machine.proofs.Keeping.{tied_new, kept_by}
use Rattle.lapin_machine.proofs.Seen.{seen, seen_is}
use Rattle.lapin_machine.proofs.Standing.{new_stands}
use Rattle.lapin_machine.proofs.session.Session.new.Goals as goal

pub invariant_of-result : goal.invariant_of-result
invariant_of-result c = kept_by _ _ _ _ _ (empty c.args.frame_max) _ _ refl c.new-phases.ensures c.new_outstanding-outstanding.ensures.outbox (ap (λ (p : ConfirmState). p.publish_states) c.no_confirms-confirms.ensures) tied_new (refl, refl)

-- nothing is there
nothing : (n : ℕ) (p : List (ℕ × ChannelPhase)) (o : OutboxState) (rs : List (ℕ × List Request)) (cs : Channels) (i : Deliveries) (s : List (Option Slot)) (b : ConfirmState) → p ≡ [] → o ≡ empty n → rs ≡ [] → cs ≡ [] → i ≡ empty_deliveries → s ≡ [] → b ≡ empty_confirm_state → seen link.Open p o rs cs i s b ≡ new_world n
nothing n p o rs cs i s b ep eo er ec ei es eb = seen_is link.Open link.Open p [] o (empty n) rs [] cs [] i empty_deliveries s [] b empty_confirm_state refl ep eo er ec ei es eb

pub returns-clause-value : goal.returns-clause-value
returns-clause-value c = nothing c.args.frame_max _ c.new_outstanding-outstanding.result.outbox.what _ _ _ _ _ c.new-phases.ensures c.new_outstanding-outstanding.ensures.outbox c.new_outstanding-outstanding.ensures.replies c.no_contents-contents.ensures c.no_deliveries-deliveries.ensures c.new_outstanding-outstanding.ensures.tickets c.no_confirms-confirms.ensures

pub returns-clause-stands : goal.returns-clause-stands
returns-clause-stands c = new_stands c.args.frame_max _ (nothing c.args.frame_max _ c.new_outstanding-outstanding.result.outbox.what _ _ _ _ _ c.new-phases.ensures c.new_outstanding-outstanding.ensures.outbox c.new_outstanding-outstanding.ensures.replies c.no_contents-contents.ensures c.no_deliveries-deliveries.ensures c.new_outstanding-outstanding.ensures.tickets c.no_confirms-confirms.ensures)
