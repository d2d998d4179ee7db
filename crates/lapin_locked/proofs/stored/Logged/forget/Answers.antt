use Rattle.std.proofs.Common.{◌/◌, ap, ◌∙◌, None}
use Rattle.lapin_locked.specs.declared.entry.Told.{Told}
use Rattle.lapin_locked.specs.Known.{told}
use Rattle.lapin_locked.proofs.Marks.{known_unread}
use Rattle.lapin_locked.proofs.stored.Logged.forget.Goals as goal

pub returns : goal.returns
returns c = known_unread (c.self.inside.mark / 2) c.self.inside.stored ∙ ap (λ (t : Told). told t.place t.event None) c.self.view_is
