use Rattle.std.proofs.Common.{◌≡◌, ◌<◌, ℕ}
use Rattle.lapin_values.specs.Texts.{text_of}
use Rattle.lapin_values.proofs.properties.texts.same_texts.Given as goal

abbrev pub invariant-loop-property : goal.invariant-loop-property
invariant-loop-property l = (n : ℕ) → n < l.property → text_of n l.texts.texts ≡ text_of n l.other.texts
