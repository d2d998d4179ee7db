use Rattle.std.proofs.Common.{◌∙◌, None, refl}
use Rattle.lapin_tables.specs.Numbered.{with_under}
use Rattle.lapin_tables.proofs.SlotLaws.{length-with}
use Rattle.lapin_check.specs.Pointing.{Points}
use Rattle.lapin_check.proofs.Pointing.{none_left, beyond_single}
use Rattle.lapin_check.proofs.unsettled.settle_in.Goals as goal

pub returns-else-settlement : goal.returns-else-settlement
returns-else-settlement c =
    let taken = c.settle_one.ensures.taken in
    let points : Points c.args.settlement.channel c.args.opening (with_under c.args.settlement.number None c.args.places.now.slots) c.settle_one.new.account.items = rw taken at c.settle_one.ensures.points in
    record {
      marked =
          none_left c.args.settlement.channel c.args.opening (with_under c.args.settlement.number None c.args.places.now.slots) c.settle_one.new.account.items points c.args.place c.args.settlement refl
          (beyond_single c.args.settlement c.args.places.now.slots c.if-settlement.false)
          ∙ c.settle_one.ensures.same;
      long = rw taken (length-with c.args.settlement.number None c.args.places.now.slots);
      points = c.settle_one.ensures.points;
    }
