use Rattle.std.proofs.Common.{◌∙◌, refl, sym, ap}
use Rattle.lapin_delivery.specs.WithRoom.{what}
use Rattle.lapin_types.specs.declared.event.Event.TheVariants as event
use Rattle.lapin_types.specs.Types.error
use Rattle.lapin_outbox.specs.Open.{OpenRequests}
use Rattle.lapin_confirm.specs.ConfirmState.{ConfirmState}
use Rattle.lapin_machine.specs.World.{World, next}
use Rattle.lapin_machine.proofs.Keeping.{tied_down, kept_by}
use Rattle.std.specs.List.{fold}
use Rattle.lapin_rules.specs.Ends.{deliveries_ends}
use Rattle.lapin_rules.specs.Ends.{live_channels}
use Rattle.lapin_delivery.specs.Deliveries.{Deliveries}
use Rattle.lapin_delivery.specs.Deliveries as deliveries
use Rattle.lapin_machine.proofs.Seen.{seen_is}
use Rattle.lapin_machine.proofs.Worlds.{lost_seen}
use Rattle.lapin_machine.proofs.session.Session.lost.Goals as goal

pub invariant_of-self-2 : goal.invariant_of-self-2
invariant_of-self-2 c =
    kept_by _ _ _ _ _ _ _ _ refl c.go_down.ensures.phases c.go_down.ensures.outbox (ap (λ (p : ConfirmState). p.publish_states) c.go_down.ensures.confirms)
    (tied_down c.self.inside.link c.go_down.new.link error.ConnectionLost _ _ c.self.inside.confirms.what c.self.invariant.tied) c.self.invariant.unpoisoned

pub returns-clause-ok : goal.returns-clause-ok
returns-clause-ok c =
    seen_is _ _ _ _ _ _ _ _ _ _ _ _ _ _ _ _ (c.go_down.ensures.link ∙ c.after-to.ensures) c.go_down.ensures.phases c.go_down.ensures.outbox (ap (λ (r : OpenRequests). r.what) c.go_down.ensures.requests ∙ c.in_ok-replies.ensures.made) c.go_down.ensures.contents refl c.go_down.ensures.slots c.go_down.ensures.confirms
    ∙ lost_seen c.self.inside.link c.self.inside.phases.entries c.self.inside.outstanding.outbox.what c.self.inside.outstanding.replies.what c.self.inside.contents (what c.self.inside.deliveries) c.self.inside.outstanding.tickets.slots c.self.inside.confirms.what _ (sym c.is_lost.ensures ∙ c.if-is_lost.false)
    (c.go_down.ensures.deliveries ∙ ap (λ (x : Deliveries). fold deliveries.after_mark x (deliveries_ends error.ConnectionLost (live_channels c.self.inside.phases.entries))) c.reserve_ends.ensures.same)
    ∙ ap (λ (w : World). next w event.Lost) c.self.view_is
