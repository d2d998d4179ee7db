use Rattle.std.proofs.Common.{rules, ap, ◌∙◌}
use Rattle.std.specs.Prelude.{slice_set}
use Rattle.lapin_shared.proofs.Placing.{unread_put}
use Rattle.lapin_shared.proofs.hand.forget_at.Goals as goal

pub returns : goal.returns
returns c =
    let xs = c.args.log.now.items in
    ap (λ u. slice_set xs c.args.k u) c.forget.ensures ∙ unread_put xs c.args.k c.index_mut-logged.result.now c.requires (search rules)
