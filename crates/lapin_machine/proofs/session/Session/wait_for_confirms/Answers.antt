use Rattle.std.proofs.Common.{◌≡◌, ◌∙◌, false, List, Result, refl, sym, ap, subst}
use Rattle.std.specs.Prelude.{OnOk}
use Rattle.lapin_types.specs.declared.event.Event.TheVariants as event
use Rattle.lapin_types.specs.declared.message.BasicReturnMessage.{BasicReturnMessage}
use Rattle.lapin_types.specs.declared.poll.Poll.{Poll}
use Rattle.lapin_types.specs.Types.{Error}
use Rattle.lapin_rules.specs.Polls.{is_waited_on}
use Rattle.lapin_machine.specs.World.{World, next, readings_of}
use Rattle.lapin_machine.specs.contracts.session.Session as session_view
use Rattle.lapin_machine.proofs.Asides.{drained_kept, drained_next, with_confirm_state}
use Rattle.lapin_machine.proofs.Keeping.{kept_by}
use Rattle.lapin_machine.proofs.session.Session.wait_for_confirms.Goals as goal
use Rattle.lapin_machine.proofs.session.Session.wait_for_confirms.Goals.{in-Ok, in-Err}

pub invariant_of-self : goal.invariant_of-self
invariant_of-self c =
    kept_by _ _ _ _ _ _ _ _ refl refl refl refl
    (drained_kept c.drain.result c.args.channel c.self.inside.link c.self.inside.phases.entries c.self.inside.outstanding.outbox.what.lists.publishes c.self.inside.confirms.what c.drain.new.self.what c.drain.ensures.ok c.drain.ensures.err c.self.invariant.tied)
    c.self.invariant.unpoisoned

pub returns-clause-ok : goal.returns-clause-ok
returns-clause-ok c =
    let old : World = session_view.the_view c.self.inside in
    let new : World = with_confirm_state old c.drain.new.self.what in
    let On : Result (Poll (List BasicReturnMessage)) Error → Type 0 = λ r. OnOk r (new ≡ next c.args.self.now (event.PollWait c.args.channel)) in
    let idle : is_waited_on c.args.channel old.wire (readings_of old.confirm_state old.slots) ≡ false = ap (λ (w : World). is_waited_on c.args.channel w.wire (readings_of w.confirm_state w.slots)) c.self.view_is ∙ sym c.is_waited_on.ensures ∙ c.if-is_waited_on.false in
    elim c.match-drain.branch [
      | in-Ok w ↦ subst On (sym w.result-is) (ap (with_confirm_state old) w.in-Ok.ensures.ok ∙ drained_next c.args.channel old refl idle ∙ ap (λ (x : World). next x (event.PollWait c.args.channel)) c.self.view_is)
      | in-Err w ↦ subst On (sym w.result-is) tt
    ]
