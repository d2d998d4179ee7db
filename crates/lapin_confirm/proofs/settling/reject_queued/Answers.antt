use Rattle.std.proofs.Common.{◌≢◌, ◌≤◌, ◌∙◌, refl, arith}
use Rattle.lapin_tables.proofs.SlotLaws.{given}
use Rattle.lapin_confirm.specs.declared.cell.Cell.TheVariants as cell
use Rattle.lapin_confirm.proofs.Ended.{number-left}
use Rattle.lapin_confirm.proofs.settling.reject_queued.Goals as goal

pub loop-mode-init : goal.loop-mode-init
loop-mode-init c = record {
  tied = c.requires;
  same = refl;
  mode = refl;
  spare = omega arith;
  room = omega arith;
  below = λ n there. let le = given n (cell.Queued c.args.channel) c.args.cells.now.slots there in omega (arith, le, c.count-number.ensures);
}

pub overflow_sub-number : goal.overflow_sub-number
overflow_sub-number c = number-left c.args.channel c.loop-mode.number c.loop-mode.mode c.loop-mode.cells.slots c.loop-mode.invariant.tied (omega arith) c.loop-mode.invariant.below

pub loop-mode-smaller : goal.loop-mode-smaller
loop-mode-smaller c =
    let one : 1 ≤ c.loop-mode.number = number-left c.args.channel c.loop-mode.number c.loop-mode.mode c.loop-mode.cells.slots c.loop-mode.invariant.tied (omega arith) c.loop-mode.invariant.below in
    omega arith

pub loop-mode-preserved : goal.loop-mode-preserved
loop-mode-preserved c = record {
  tied = c.reject_if_queued.ensures.tied;
  same = c.reject_if_queued.ensures.same ∙ c.loop-mode.invariant.same;
  mode = c.reject_if_queued.ensures.mode ∙ c.loop-mode.invariant.mode;
  spare = omega (arith, c.reject_if_queued.ensures.spare, c.loop-mode.invariant.spare);
  room = omega (arith, c.reject_if_queued.ensures.room, c.loop-mode.invariant.room);
  below = λ n there.
      let was = c.reject_if_queued.ensures.queued n there in
      let apart : n ≢ c.loop-mode.number = was.0 in
      let within : n ≤ c.loop-mode.number = c.loop-mode.invariant.below n was.1 in
      omega arith;
}
