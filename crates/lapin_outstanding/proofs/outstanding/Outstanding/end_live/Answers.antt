use Rattle.std.proofs.Common.{◌≡◌, ◌∙◌, ap, arith}
use Rattle.std.specs.List.{fold}
use Rattle.lapin_rules.specs.Ends.{ends, live_below, cancels_on}
use Rattle.lapin_confirm.specs.Machine.{after_mark}
use Rattle.lapin_ticket.specs.Slots as tickets
use Rattle.lapin_outstanding.proofs.Ends.{ends-next}
use Rattle.lapin_outstanding.proofs.Cancels.{cancels-next}
use Rattle.lapin_outstanding.proofs.outstanding.Outstanding.end_live.Goals as goal

pub loop-number-preserved : goal.loop-number-preserved
loop-number-preserved c = record {
  within = omega arith;
  confirms = ends-next c.args.error c.loop-number.number c.args.phases.now.entries c.args.confirms.now.what c.loop-number.confirms.what _ c.loop-number.invariant.confirms c.end_live_at.ensures.confirms;
  queued = c.end_live_at.ensures.queued;
  slots = cancels-next c.loop-number.number c.args.phases.now.entries c.args.self.now.replies.what c.loop-number.self.replies.what c.args.self.now.tickets.slots c.loop-number.self.tickets.slots _ (c.loop-number.invariant.requests c.loop-number.number (omega arith)) c.loop-number.invariant.slots c.end_live_at.ensures.slots;
  requests = λ d above. c.end_live_at.ensures.others d (λ e. absurd (omega (arith, above, e))) ∙ c.loop-number.invariant.requests d (omega (arith, above));
  ready = c.end_live_at.ensures.room.1 ∙ c.loop-number.invariant.ready;
  rest = c.end_live_at.ensures.rest ∙ c.loop-number.invariant.rest;
  outbox_room = omega arith;
}

pub returns-clause-confirms : goal.returns-clause-confirms
returns-clause-confirms c =
    let last : c.loop-number.number ≡ c.reach-reach.result = omega arith in
    c.loop-number.invariant.confirms
    ∙ ap (λ n. fold after_mark c.args.confirms.now.what (ends c.args.error (live_below n c.args.phases.now.entries))) last
    ∙ ap (λ cs. fold after_mark c.args.confirms.now.what (ends c.args.error cs)) c.reach-reach.ensures

pub returns-clause-slots : goal.returns-clause-slots
returns-clause-slots c =
    let last : c.loop-number.number ≡ c.reach-reach.result = omega arith in
    c.loop-number.invariant.slots
    ∙ ap (λ n. fold tickets.after_mark c.args.self.now.tickets.slots (cancels_on (live_below n c.args.phases.now.entries) c.args.self.now.replies.what)) last
    ∙ ap (λ cs. fold tickets.after_mark c.args.self.now.tickets.slots (cancels_on cs c.args.self.now.replies.what)) c.reach-reach.ensures
