use Rattle.std.proofs.Common.{◌/◌, ◌%◌, rules, sym, ap, ◌∙◌, Some}
use Rattle.std.specs.Prelude.{◌==◌}
use Rattle.lapin_locked.specs.declared.entry.Told.{Told}
use Rattle.lapin_locked.specs.Known.{told}
use Rattle.lapin_locked.proofs.Marks.{known_read, read_is}
use Rattle.lapin_locked.proofs.stored.Logged.tell.Goals as goal

pub returns-clause-told : goal.returns-clause-told
returns-clause-told c =
    let r = c.self.inside.stored.answer in
    (r, search rules, known_read (c.self.inside.mark / 2) c.self.inside.stored ∙ ap (λ (t : Told). told t.place t.event (Some r)) c.self.view_is)

pub returns-clause-same : goal.returns-clause-same
returns-clause-same c = λ r is.
    let m = c.self.inside.mark in
    let x = c.self.inside.stored in
    known_read (m / 2) x ∙ sym (read_is (m / 2) (m % 2 == 1) x r (ap (λ (t : Told). t.answer) c.self.view_is ∙ is)) ∙ c.self.view_is
