use Rattle.std.proofs.Common.{refl, sym}
use Rattle.std.specs.Prelude.{codes}
use Rattle.lapin_method_text.specs.MethodReading.{method_at}
use Rattle.lapin_method_text.specs.declared.kinds.MethodKind.TheVariants as kind
use Rattle.lapin_method_text.specs.declared.kinds.BasicKind.TheVariants as basic_kind
use Rattle.lapin_method_text.proofs.MethodLaws.{kind_of}
use Rattle.lapin_method_text.proofs.methods.read_method.Goals as goal

pub returns-then-word : goal.returns-then-word
unfolding method_at
returns-then-word c =
    let e = kind_of (codes "basic.ack") (kind.Basic basic_kind.Ack) refl in
    rw (c.word.ensures.read c.if-word.true, sym e) c.read_ack.ensures
