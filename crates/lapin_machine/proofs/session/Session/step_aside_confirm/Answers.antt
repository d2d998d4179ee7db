use Rattle.std.proofs.Common.{◌≡◌, ◌∙◌, rules}
use Rattle.lapin_types.specs.declared.record.Record.TheVariants as record_
use Rattle.lapin_confirm.specs.Aside.{set_answer}
use Rattle.lapin_machine.specs.World.{aside_record}
use Rattle.lapin_machine.proofs.Asides.{aside_refused}
use Rattle.lapin_machine.proofs.session.Session.step_aside_confirm.Goals as goal

pub returns-in-Err-clause-ok : goal.returns-in-Err-clause-ok
returns-in-Err-clause-ok c =
    let told : record_.Refused c.in-Err.error ≡ aside_record (set_answer c.args.number c.args.self.now.confirm_state) = search rules in
    c.in-Err.ensures.err ∙ aside_refused c.args.number c.in-Err.error c.args.self.now told
