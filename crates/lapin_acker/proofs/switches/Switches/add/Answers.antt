use Rattle.std.proofs.Common.{◌∷◌, ◌++◌, [], List, ap, ◌∙◌}
use Rattle.lapin_acker.specs.declared.switch.Switch.{Switch}
use Rattle.lapin_acker.specs.declared.switch.Switch.TheVariants as switch
use Rattle.lapin_acker.specs.Switches.{Board}
use Rattle.lapin_acker.specs.Store.{shown}
use Rattle.lapin_acker.proofs.Numbers.{added-is}
use Rattle.lapin_acker.proofs.switches.Switches.add.Goals as goal

pub returns-clause-ok : goal.returns-clause-ok
returns-clause-ok c =
    c.push.ensures.added
    ∙ ap (λ (ss : List Switch). ss ++ switch.Usable c.args.channel c.args.delivery_tag ∷ []) c.make_room.ensures.shown
    ∙ added-is c.args.channel c.args.opening c.args.delivery_tag c.args.self.now (shown c.self.inside.passed.gone c.self.inside.ends.items (c.self.inside.passed.used ++ c.self.inside.cells.items)) (ap (λ (b : Board). b.switches) c.self.view_is)
