-- What the command `generate` prints.
use Rattle.std.specs.Prelude.{◌≡◌, ℕ, List, ◌++◌, codes, Option, None}
use Rattle.lapin_joint.specs.Joint.{joined}
use Rattle.lapin_generate.specs.declared.summary.Summary.{Summary}
use Rattle.lapin_generate.specs.Generated.{generated}
use Rattle.lapin_generate.specs.Summed.{summed}
use Rattle.lapin_inputs.specs.Printing.{number_line}

-- its four lines
abbrev pub summary_text : Summary → List ℕ
summary_text s = number_line (codes "publishes") s.publishes ++ number_line (codes "frames") s.frames ++ number_line (codes "bytes") s.bytes ++ number_line (codes "acks") s.acks

-- the summary of a joined run whose frames have at most 4096 bytes and that makes the steps of n publishes
abbrev pub generated_text : ℕ → List ℕ
generated_text n = summary_text (summed (joined 4096 (generated n)))

-- it prints that, and no input has a bad line, since none is read
abbrev pub PrintsGenerated : ℕ → Option ℕ → List ℕ → Type 0
PrintsGenerated n bad text = (bad ≡ None) × (text ≡ generated_text n)
