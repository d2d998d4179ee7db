use Rattle.std.proofs.Common.{◌∙◌, ap, sym, subst, List, ◌∷◌, ◌++◌, length, []}
use Rattle.lapin_types.specs.declared.event.Event.{Event}
use Rattle.lapin_types.specs.declared.record.Record.{Record}
use Rattle.lapin_machine.specs.World.{World, outputs}
use Rattle.lapin_machine.specs.Growing.{IsLonger}
use Rattle.lapin_machine.specs.Numbers.{HasNumbersFor}
use Rattle.lapin_machine.proofs.Counting.{numbers-next}
use Rattle.lapin_machine.proofs.Growing.{longer-push}
use Rattle.lapin_machine.proofs.run.run_events.Goals as goal

pub loop-event-preserved : goal.loop-event-preserved
loop-event-preserved c =
    let P : List Event → Type 0 = λ es. HasNumbersFor (length es) c.loop-event.session in
    let Q : World → Type 0 = HasNumbersFor (length c.next.new.self.rest.items) in
    let L : List Event → Type 0 = λ es. IsLonger c.args.trace.now.items c.loop-event.trace.items (outputs c.args.session.now c.args.events.items) (outputs c.loop-event.session es) in
    let M : World → Type 0 = λ w. IsLonger c.args.trace.now.items c.push_reserved.new.self.items (outputs c.args.session.now c.args.events.items) (outputs w c.next.new.self.rest.items) in
    record {
      longer = subst M (sym c.in-Ok.ensures.ok)
          (longer-push _ _ _ _ _ _ (subst L c.in-Some.ensures.steps.0 c.loop-event.invariant.longer)
          (c.push_reserved.ensures.items ∙ ap (λ (xs : List Record). xs ++ c.in-Ok.record ∷ []) c.reserve.ensures.items ∙ ap (λ (r : Record). c.loop-event.trace.items ++ r ∷ []) c.in-Ok.ensures.told));
      numbers = subst Q (sym c.in-Ok.ensures.ok)
          (numbers-next (length c.next.new.self.rest.items) c.loop-event.session c.in-Some.event (subst P c.in-Some.ensures.steps.0 c.loop-event.invariant.numbers));
    }
