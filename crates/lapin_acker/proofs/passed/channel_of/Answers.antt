use Rattle.std.proofs.Common.{◌∙◌, ◌-◌, ◌≤◌, List, replicate, length, slice_get, sym, ap, arith}
use Rattle.lapin_acker.specs.declared.switch.Switch.{Switch}
use Rattle.lapin_acker.specs.declared.switch.Switch.TheVariants as switch
use Rattle.lapin_acker.proofs.Front.{run-read, past-runs, in-run, past-run, in-last, past-all}
use Rattle.lapin_acker.proofs.passed.channel_of.Goals as goal

pub returns-then-left-length : goal.returns-then-left-length
returns-then-left-length c =
    let last : List Switch = replicate c.args.count (switch.Used c.args.channel) in
    sym (in-run c.index.result.now.0 c.index.result.now.1 c.loop-run.left _ (omega (arith, c.from-length.ensures, c.if-left-length.true)))
    ∙ ap (λ ss. slice_get ss c.loop-run.left) (sym (run-read c.loop-run.run c.args.runs.now.items c.index.result.now last (omega (arith, c.loop-run-test.true)) c.index.ensures))
    ∙ c.loop-run.invariant.told

pub loop-run-preserved : goal.loop-run-preserved
loop-run-preserved c =
    let last : List Switch = replicate c.args.count (switch.Used c.args.channel) in
    record {
      within = omega (arith, c.loop-run-test.true);
      told =
          sym (past-run c.index.result.now.0 c.index.result.now.1 c.loop-run.left (c.loop-run.left - c.from-length.result) _ (omega (arith, c.from-length.ensures, c.if-left-length.false)))
          ∙ ap (λ ss. slice_get ss c.loop-run.left) (sym (run-read c.loop-run.run c.args.runs.now.items c.index.result.now last (omega (arith, c.loop-run-test.true)) c.index.ensures))
          ∙ c.loop-run.invariant.told;
    }

pub returns-then-left-from : goal.returns-then-left-from
returns-then-left-from c =
    let last : List Switch = replicate c.args.count (switch.Used c.args.channel) in
    let past : length c.args.runs.now.items ≤ c.loop-run.run = omega (arith, c.loop-run-test.false) in
    sym (in-last c.args.count c.args.channel c.loop-run.left (omega (arith, c.from.ensures, c.if-left-from.true)))
    ∙ ap (λ ss. slice_get ss c.loop-run.left) (sym (past-runs c.loop-run.run c.args.runs.now.items last past))
    ∙ c.loop-run.invariant.told

pub returns-else-left-from : goal.returns-else-left-from
returns-else-left-from c =
    let last : List Switch = replicate c.args.count (switch.Used c.args.channel) in
    let past : length c.args.runs.now.items ≤ c.loop-run.run = omega (arith, c.loop-run-test.false) in
    sym (past-all c.args.count c.args.channel c.loop-run.left (omega (arith, c.from.ensures, c.if-left-from.false)))
    ∙ ap (λ ss. slice_get ss c.loop-run.left) (sym (past-runs c.loop-run.run c.args.runs.now.items last past))
    ∙ c.loop-run.invariant.told
