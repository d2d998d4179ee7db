use Rattle.std.proofs.Common.{◌<◌, ◌≤◌, suc, length, inl, inr, refl, subst, arith}
use Rattle.lapin_client.proofs.Requests.{hands_next, hands_idle, none_held, pulls_of, stops_after, wanted_next, same_else}
use Rattle.lapin_client.specs.Sending.{IsIdle}
use Rattle.lapin_machine.specs.World.{World}
use Rattle.lapin_client.proofs.client.Client.pull_on.Goals as goal

pub loop-alloc-init : goal.loop-alloc-init
loop-alloc-init c = record { sound = c.requires.sound; told = (0, (none_held c.args.self.now c.args.self.now c.requires.none refl refl refl c.requires.none (refl, refl, refl, refl, refl, refl, refl)).0, tt); none = c.requires.none; same = (refl, refl, refl, refl, refl, refl, refl) }

-- one more frame left
pub loop-alloc-preserved : goal.loop-alloc-preserved
loop-alloc-preserved c =
    let i = c.loop-alloc.invariant in let t = c.in-Left.ensures.told in
    let few : length c.loop-alloc.self.leaving.items < c.args.enough = omega arith in
    record {
      sound = c.in-Left.ensures.sound;
      told = (
        suc i.told.0,
        hands_next i.told.0 c.args.flow c.args.self.now c.loop-alloc.self c.step.new.self i.told.1 i.same.2 t.0 t.1 t.2 t.3 t.4 t.5,
        wanted_next c.args.enough i.told.0 c.args.flow c.args.self.now c.loop-alloc.self i.told.1 i.told.2 few,
      );
      none = t.5;
      same = same_else c.args.self.now c.loop-alloc.self c.step.new.self i.same t.6;
    }

-- one more was asked for in vain
pub returns-in-Idle-clause-told : goal.returns-in-Idle-clause-told
returns-in-Idle-clause-told c =
    let i = c.loop-alloc.invariant in let t = c.in-Idle.ensures.told in
    let few : length c.loop-alloc.self.leaving.items < c.args.enough = omega arith in (
      (
        suc i.told.0,
        hands_idle i.told.0 c.args.flow c.args.self.now c.loop-alloc.self c.step.new.self i.told.1 i.same.2 t.1 t.2 t.0 t.3 t.4,
        wanted_next c.args.enough i.told.0 c.args.flow c.args.self.now c.loop-alloc.self i.told.1 i.told.2 few,
        inl (i.told.0, refl, subst (λ (w : World). IsIdle c.args.flow w) i.told.1.0 t.0),
      ),
      same_else c.args.self.now c.loop-alloc.self c.step.new.self i.same t.5,
    )

-- there are octets enough
pub returns-clause-told : goal.returns-clause-told
returns-clause-told c =
    let i = c.loop-alloc.invariant in
    let many : c.args.enough ≤ length c.loop-alloc.self.leaving.items = omega arith in
    ((i.told.0, i.told.1, i.told.2, inr many), i.same)

pub returns-in-Lost-clause-told : goal.returns-in-Lost-clause-told
returns-in-Lost-clause-told c =
    let i = c.loop-alloc.invariant in
    pulls_of c.in-Lost.status c.args.enough c.args.flow c.args.self.now c.step.new.self (stops_after c.in-Lost.status i.told.0 c.args.flow c.args.self.now c.loop-alloc.self c.step.new.self i.told.1 i.same c.in-Lost.ensures.told)
