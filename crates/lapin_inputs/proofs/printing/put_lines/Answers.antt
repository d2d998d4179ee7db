use Rattle.std.proofs.Common.{◌≡◌, ◌+◌, ℕ, suc, List, ◌++◌, length, None, Some, subst, sym, ap, ◌∙◌, arith, rules, refl}
use Rattle.std.specs.Io.KnownBytes.{Appends}
use Rattle.lapin_inputs.proofs.Ending.{on_err}
use Rattle.lapin_inputs.proofs.Known.{prefix_none}
use Rattle.lapin_inputs.proofs.Streaming.{can_take, reaches_first, reaches_next, reaches_out, reaches_last, reaches_cut}
use Rattle.lapin_inputs.proofs.printing.put_lines.Goals as goal

pub returns-in_default-take_line-clause-err : goal.returns-in_default-take_line-clause-err
returns-in_default-take_line-clause-err g c = λ past h.
    let here = c.loop-line.invariant.reaches past h in
    reaches_cut g.R.Run.goes_on past here.0 c.args.lines.now c.loop-line.lines _ _ _ c.loop-line.number c.loop-line.held.items here.2 (prefix_none _ c.loop-line.held.items) (g.met.R.Run.goes here.0 c.loop-line.number c.loop-line.lines)

pub returns-then-not-good-clause-ok : goal.returns-then-not-good-clause-ok
returns-then-not-good-clause-ok g c = λ past h.
    let here = c.loop-line.invariant.reaches past h in
    let T : List ℕ → Type 0 = λ t. (piece : List ℕ) × Appends (g.K.Sink.written c.args.sink.now) (g.K.Sink.written c.loop-line.sink) piece × g.R.Run.goes_on past 2 c.args.lines.now (Some c.loop-line.number) (piece ++ t) in
    subst T (sym {A = List ℕ} (c.in-Ok.ensures.same (search rules)))
    (reaches_last g.R.Run.goes_on past here.0 c.args.lines.now c.loop-line.lines _ _ _ c.loop-line.number c.loop-line.held.items (Some c.loop-line.number) here.2 c.in-Some.ensures.some (c.in-Ok.ensures.bad (search rules) here.0 c.loop-line.number c.next.new.self here.1))

pub returns-in_err-put_out-clause-err : goal.returns-in_err-put_out-clause-err
returns-in_err-put_out-clause-err g c = on_err c.from_residual.result _ (λ past h.
    let here = c.loop-line.invariant.reaches past h in
    let next = c.in-Ok.ensures.good (search rules) here.0 here.1 in
    let taken = reaches_next g.R.Run.goes_on past here.0 next.0 c.args.lines.now c.loop-line.lines c.next.new.self _ _ c.loop-line.number c.in-Some.line.now c.loop-line.held.items c.take_line.new.text.items here.2 c.in-Some.ensures.some next.2 in
    reaches_cut g.R.Run.goes_on past next.0 c.args.lines.now c.next.new.self _ _ _ (c.loop-line.number + 1) c.take_line.new.text.items taken c.in_err-put_out.ensures.prefix (g.met.R.Run.goes next.0 (c.loop-line.number + 1) c.next.new.self))

pub loop-line-preserved : goal.loop-line-preserved
loop-line-preserved g c =
    let out = c.in_ok-put_out.ensures.ok in
    let one : length c.loop-line.lines ≡ suc (length c.next.new.self) = ap length c.in-Some.ensures.some in
    record {
      reaches = λ past h.
          let here = c.loop-line.invariant.reaches past h in
          let next = c.in-Ok.ensures.good (search rules) here.0 here.1 in
          let taken = reaches_next g.R.Run.goes_on past here.0 next.0 c.args.lines.now c.loop-line.lines c.next.new.self _ _ c.loop-line.number c.in-Some.line.now c.loop-line.held.items c.take_line.new.text.items here.2 c.in-Some.ensures.some next.2 in
          (next.0, next.1, reaches_out g.R.Run.goes_on past next.0 c.args.lines.now c.next.new.self _ _ _ (c.loop-line.number + 1) c.take_line.new.text.items out.0 c.put_out.new.held.items taken out.1 out.2);
      takes = c.in-Ok.ensures.takes (search rules) (length c.next.new.self) (can_take (λ (n : ℕ). g.R.Run.takes n c.loop-line.run) c.loop-line.lines c.next.new.self c.in-Some.line.now c.loop-line.invariant.takes c.in-Some.ensures.some);
      lines = omega (arith, c.loop-line.invariant.lines, one);
      faults = c.in_ok-put_out.ensures.faultless ∙ c.loop-line.invariant.faults;
    }

pub loop-line-init : goal.loop-line-init
loop-line-init g c = record {
  reaches = λ past h. (past, h, reaches_first g.R.Run.goes_on past c.args.lines.now _ c.args.held.now.items c.requires.empty);
  takes = c.requires.takes;
  lines = omega (arith, c.requires.few);
  faults = refl;
}

pub returns-clause-ok : goal.returns-clause-ok
returns-clause-ok g c = λ past h.
    let here = c.loop-line.invariant.reaches past h in
    reaches_last g.R.Run.goes_on past here.0 c.args.lines.now c.loop-line.lines _ _ _ c.loop-line.number c.loop-line.held.items None here.2 c.in_default.ensures.none (g.met.R.Run.ends here.0 c.loop-line.number)
