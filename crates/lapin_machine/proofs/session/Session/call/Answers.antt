use Rattle.std.proofs.Common.{◌≡◌, ◌∙◌, sym, ap, subst}
use Rattle.std.specs.Prelude.{OnOk}
use Rattle.lapin_types.specs.declared.record.Record.{Record}
use Rattle.lapin_rules.specs.declared.calls.Asked.{Asked}
use Rattle.lapin_rules.specs.Asking.{call_record}
use Rattle.lapin_machine.specs.Told.{TicketTold}
use Rattle.lapin_machine.specs.World.{World, asking}
use Rattle.lapin_machine.proofs.Limited.{never_held, told_free, next_free}
use Rattle.lapin_machine.proofs.session.Session.call.Goals as goal

pub returns-clause-told : goal.returns-clause-told
returns-clause-told c =
    let w : World = c.args.self.now in
    let P : Record → Type 0 = λ r. TicketTold c.ask.result r in
    subst P (ap (λ (a : Asked). call_record c.args.channel a w.wire) c.in_ok-asked.ensures ∙ sym (told_free w c.args.channel c.args.call (never_held w c.args.channel c.args.call c.requires))) c.ask.ensures.told

pub returns-clause-ok : goal.returns-clause-ok
returns-clause-ok c =
    let w : World = c.args.self.now in
    let Q : World → Type 0 = λ v. OnOk c.ask.result (c.ask.new.self ≡ v) in
    subst Q (ap (λ (a : Asked). asking c.args.channel a w) c.in_ok-asked.ensures ∙ sym (next_free w c.args.channel c.args.call (never_held w c.args.channel c.args.call c.requires))) c.ask.ensures.ok
