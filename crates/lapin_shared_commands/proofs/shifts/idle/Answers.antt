use Rattle.std.proofs.Common.{◌≡◌, ◌++◌, List, map, arith, subst}
use Rattle.lapin_shared.specs.Grown.{Seen}
use Rattle.lapin_shared_commands.specs.Dealt.{caller_of}
use Rattle.lapin_shared_commands.proofs.Dealing.{callers_more, idle_more}
use Rattle.lapin_shared_commands.proofs.shifts.idle.Goals as goal

pub loop-caller-preserved : goal.loop-caller-preserved
loop-caller-preserved g c =
    let ss = c.loop-caller.shifts.items in
    let ts = c.push_reserved.new.self.items in
    let s = c.in_ok-shift_of.field-0 in
    let Was : List Seen → Type 0 = λ rest. map caller_of ss ++ rest ≡ c.args.callers.items in
    let was = subst Was c.in-Some.ensures.steps.0 c.loop-caller.invariant.callers in
    record {
      callers = callers_more ss ts s c.in-Some.caller c.next.new.self.rest.items c.args.callers.items c.push_reserved.ensures.items c.in_ok-shift_of.ensures.0 was;
      none = idle_more ss ts s c.push_reserved.ensures.items c.in_ok-shift_of.ensures.1 c.loop-caller.invariant.none;
      room = omega (arith, c.push_reserved.ensures.capacity, c.loop-caller.invariant.room);
    }
