use Rattle.lapin_inputs.proofs.Ending.{cut_before, cut_rest, under_err, on_err}
use Rattle.lapin_inputs.proofs.printing.write_lines.Goals as goal

pub returns-in_err-bad-clause-err : goal.returns-in_err-bad-clause-err
returns-in_err-bad-clause-err g c = on_err c.from_residual.result _ (λ past h. cut_before (g.R.Run.goes_on past 2 c.args.lines.now) _ _ (c.in_err-bad.ensures.err past h))

pub returns-clause-err : goal.returns-clause-err
returns-clause-err g c =
    under_err c.write_rest.result _ _ (λ rest past h.
    let put = c.in_ok-bad.ensures.ok past h in
    cut_rest (g.R.Run.goes_on past 2 c.args.lines.now) _ _ _ c.in_ok-bad.bad put.0 c.put_lines.new.held.items put.1 put.2 rest) c.write_rest.ensures.err
