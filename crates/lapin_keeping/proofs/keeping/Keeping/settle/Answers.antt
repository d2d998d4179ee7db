use Rattle.std.proofs.Common.{rules}
use Rattle.std.proofs.lemmas.Fn.{filter_same}
use Rattle.lapin_keeping.specs.Keepings.{is_unsettled}
use Rattle.lapin_keeping.proofs.keeping.Keeping.settle.Goals as goal

pub returns-clause-kept : goal.returns-clause-kept
returns-clause-kept c = filter_same _ is_unsettled _ (λ x b f' k. search rules) _ _ c.retain.ensures.filtered
