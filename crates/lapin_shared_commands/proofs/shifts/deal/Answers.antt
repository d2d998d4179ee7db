use Rattle.std.proofs.Common.{List, [], length, sym, subst}
use Rattle.lapin_shared.specs.Grown.{Seen, AreFresh}
use Rattle.lapin_shared_commands.specs.Dealt.{AreDealt}
use Rattle.lapin_shared_commands.specs.declared.shifts.Shift.{Shift}
use Rattle.lapin_shared_commands.proofs.Dealing.{idle_dealt}
use Rattle.lapin_shared_commands.proofs.shifts.deal.Goals as goal

pub deal_out-requires-clause-idle : goal.deal_out-requires-clause-idle
deal_out-requires-clause-idle g c =
    let ss = c.in_ok-shifts.shifts.items in
    let k = length c.args.events.items in
    let Fresh : List Seen → Type 0 = λ l. AreFresh 1 l in
    let P : List (Shift g.row.L.Denot) → Type 0 = λ l. AreDealt (length l) k [] 1 l in
    subst P (sym c.as_mut_slice.ensures.value) (idle_dealt (length ss) k 1 ss (subst Fresh (sym c.in_ok-shifts.ensures.callers) c.requires.fresh) c.in_ok-shifts.ensures.none)
