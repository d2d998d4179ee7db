use Rattle.std.proofs.Common.{zero, suc, inl, refl}
use Rattle.lapin_client.proofs.Running.{comes_none, comes_more, runs_out, runs_to}
use Rattle.lapin_client.proofs.client.Client.run.Goals as goal

pub loop-turn-init : goal.loop-turn-init
loop-turn-init c = record { sound = c.requires; told = (zero, comes_none c.args.self.now) }

pub loop-turn-preserved : goal.loop-turn-preserved
loop-turn-preserved c =
    let i = c.loop-turn.invariant in
    record { sound = c.turn.ensures.sound; told = (suc i.told.0, comes_more i.told.0 c.args.self.now c.loop-turn.self c.turn.new.self i.told.1 c.in-Done.ensures.told) }

pub returns-in-Pending-clause-told : goal.returns-in-Pending-clause-told
returns-in-Pending-clause-told c =
    let i = c.loop-turn.invariant in let t = c.in-Pending.ensures.told in
    runs_out i.told.0 c.args.self.now c.loop-turn.self c.turn.new.self i.told.1 t.0 t.1 t.2

pub returns-clause-told : goal.returns-clause-told
returns-clause-told c =
    let i = c.loop-turn.invariant in (i.told.0, (c.loop-turn.self, (i.told.1, (inl (inl (refl, refl, refl, refl)), (refl, refl, refl, refl, refl, refl, refl)))))

pub returns-in_default : goal.returns-in_default
returns-in_default c =
    let i = c.loop-turn.invariant in
    record { sound = c.turn.ensures.sound; told = runs_to c.turn.result i.told.0 c.args.self.now c.loop-turn.self c.turn.new.self c.in_default.not-Done i.told.1 c.turn.ensures.told }
