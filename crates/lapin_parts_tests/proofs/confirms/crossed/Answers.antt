use Rattle.std.proofs.Common.{◌≡◌, Some}
use Rattle.lapin_tables.specs.Numbered.{under}
use Rattle.lapin_tables.proofs.SlotLaws.{under-last}
use Rattle.lapin_rules.specs.ConfirmMarks as mark
use Rattle.lapin_confirm.specs.declared.cell.Cell.TheVariants as cell
use Rattle.lapin_confirm.specs.Machine.{after_mark}
use Rattle.lapin_parts_tests.proofs.Openings.{first_waits}
use Rattle.lapin_parts_tests.proofs.confirms.crossed.Goals as goal

pub register-of_first-requires : goal.register-of_first-requires
register-of_first-requires c =
    let first : c.add.new.self.what ≡ after_mark c.args.confirms.now.what (mark.Added c.args.channel) = c.in_ok-first.ensures.ok in
    let second : c.add-2.new.self.what ≡ after_mark c.add.new.self.what (mark.Added c.args.channel) = c.in_ok-second.ensures.ok in
    let queued : under c.in_ok-second.second c.add-2.new.self.what.publish_states.cells ≡ Some (cell.Queued c.args.channel) = rw second (under-last _ _ _ c.in_ok-second.ensures.number) in
    let left : c.register-of_second.new.self.what ≡ after_mark c.add-2.new.self.what (mark.Left c.args.channel c.in_ok-second.second) = c.register-of_second.ensures.left c.args.channel queued in
    rw (left, second, first) (first_waits c.in_ok-first.first c.in_ok-second.second c.args.channel _ c.args.confirms.now.what.publish_states.cells c.in_ok-first.ensures.number (rw first at c.in_ok-second.ensures.number))
