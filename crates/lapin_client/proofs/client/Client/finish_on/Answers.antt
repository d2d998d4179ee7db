use Rattle.std.proofs.Common.{suc, false, refl, subst}
use Rattle.lapin_client.specs.Sending.{IsIdle}
use Rattle.lapin_machine.specs.World.{World}
use Rattle.lapin_client.proofs.Requests.{finishes_of, hands_idle, hands_next, none_held, same_else, stops_after}
use Rattle.lapin_client.proofs.client.Client.finish_on.Goals as goal

pub loop-self-init : goal.loop-self-init
loop-self-init c = record { sound = c.requires.sound; told = (0, (none_held c.args.self.now c.args.self.now c.requires.none refl refl refl c.requires.none (refl, refl, refl, refl, refl, refl, refl)).0); none = c.requires.none; same = (refl, refl, refl, refl, refl, refl, refl) }

-- one more frame left
pub loop-self-preserved : goal.loop-self-preserved
loop-self-preserved c =
    let i = c.loop-self.invariant in let t = c.in-Left.ensures.told in
    record {
      sound = c.in-Left.ensures.sound;
      told = (suc i.told.0, hands_next i.told.0 false c.args.self.now c.loop-self.self c.step.new.self i.told.1 i.same.2 t.0 t.1 t.2 t.3 t.4 t.5);
      none = t.5;
      same = same_else c.args.self.now c.loop-self.self c.step.new.self i.same t.6;
    }

-- one more was asked for in vain
pub returns-in-Idle-clause-told : goal.returns-in-Idle-clause-told
returns-in-Idle-clause-told c =
    let i = c.loop-self.invariant in let t = c.in-Idle.ensures.told in (
      (i.told.0, hands_idle i.told.0 false c.args.self.now c.loop-self.self c.step.new.self i.told.1 i.same.2 t.1 t.2 t.0 t.3 t.4, subst (λ (w : World). IsIdle false w) i.told.1.0 t.0),
      same_else c.args.self.now c.loop-self.self c.step.new.self i.same t.5,
    )

pub returns-in-Lost-clause-told : goal.returns-in-Lost-clause-told
returns-in-Lost-clause-told c =
    let i = c.loop-self.invariant in
    finishes_of c.in-Lost.status c.args.self.now c.step.new.self (stops_after c.in-Lost.status i.told.0 false c.args.self.now c.loop-self.self c.step.new.self i.told.1 i.same c.in-Lost.ensures.told)
