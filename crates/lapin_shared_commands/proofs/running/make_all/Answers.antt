use Rattle.std.proofs.Common.{◌≡◌, ◌∙◌, List, length, drop, refl, map, sym, ap, subst, arith, true}
use Rattle.lapin_shared.specs.Grown.{Seen}
use Rattle.lapin_shared_commands.specs.declared.shifts.Shift.{Shift}
use Rattle.lapin_shared_commands.specs.Dealt.{AreDealt, AreDone, MadeOwn, caller_of}
use Rattle.lapin_shared_commands.proofs.Finishing.{left_done, left_count, written_back}
use Rattle.lapin_shared_commands.proofs.running.make_all.Goals as goal

pub returns-clause-done : goal.returns-clause-done
returns-clause-done g c =
    let n = length c.args.all.items in
    let es = c.args.events.items in
    let ss = c.in_ok-shifts.shifts.items in
    let xs = c.as_mut_slice.result.now in
    let ys = c.work_all.new.shifts in
    let each = c.if-not-work_all.ensures refl in
    let Dealt : List (Shift g.row.L.Denot) → Type 0 = λ l. AreDealt n 0 es 1 l in
    let Done : List Seen → Type 0 = λ l. AreDone n es 1 l in
    let same : length ys ≡ length xs = left_count (λ x y. MadeOwn x true y) xs ys each in
    let many : length ys ≡ c.in_ok-shifts.shifts.len = omega (arith, same, ap length c.as_mut_slice.ensures.value, c.in_ok-shifts.shifts.ok) in
    let back = written_back ys (drop (length ys) ss) c.in_ok-shifts.shifts.len many in
    let made = left_done n es 1 xs ys each (subst Dealt (sym c.as_mut_slice.ensures.value) c.in_ok-shifts.ensures.dealt) in
    subst Done (sym (c.in_ok-back.ensures ∙ ap (map caller_of) back)) made
