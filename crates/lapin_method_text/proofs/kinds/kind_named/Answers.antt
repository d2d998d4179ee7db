use Rattle.std.proofs.Common.{rules}
use Rattle.lapin_method_text.specs.declared.kinds.MethodKind.TheVariants as kind
use Rattle.lapin_method_text.specs.declared.kinds.BasicKind.TheVariants as basic_kind
use Rattle.lapin_method_text.proofs.MethodLaws.{kind_of}
use Rattle.lapin_method_text.proofs.kinds.kind_named.Goals as goal

pub returns-then-is_ack : goal.returns-then-is_ack
returns-then-is_ack c = kind_of c.args.name.now (kind.Basic basic_kind.Ack) (c.is_ack.ensures (search rules))

pub returns-then-is_deliver : goal.returns-then-is_deliver
returns-then-is_deliver c = kind_of c.args.name.now (kind.Basic basic_kind.Deliver) (c.is_deliver.ensures (search rules))
