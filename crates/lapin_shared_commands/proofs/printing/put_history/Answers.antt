use Rattle.std.proofs.Common.{rules, ◌≡◌, ℕ, ◌+◌, ◌-◌, Some, subst, arith}
use Rattle.std.specs.Prelude.{slice_get}
use Rattle.lapin_shared_commands.proofs.Places.{text_more}
use Rattle.lapin_shared_commands.proofs.printing.put_history.Goals as goal

pub loop-k-preserved : goal.loop-k-preserved
loop-k-preserved c =
    let h = c.args.history.now in
    let k = c.loop-k.k in
    let z : k + 1 - 1 ≡ k = omega arith in
    let at : slice_get h k ≡ Some c.in-Some.entry.now = subst (λ j. slice_get h j ≡ Some c.in-Some.entry.now) z c.in-Some.ensures.1 in
    text_more h k c.in-Some.entry.now c.args.text.now.items c.loop-k.text.items c.put_entry.new.text.items at c.loop-k.invariant c.in_ok-put_entry-in-Some.ensures
