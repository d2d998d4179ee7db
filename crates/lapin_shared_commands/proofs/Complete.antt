-- An input whose lines are all events has no bad line.
use Rattle.std.proofs.Common.{◌≡◌, ℕ, List, [], Option, Some, None, sym, ◌∙◌}
use Rattle.lapin_text.specs.Input.{lines_of}
use Rattle.lapin_text.proofs.InputLaws.{parsed_once}
use Rattle.lapin_locked.specs.declared.entry.Entry.{Entry}
use Rattle.lapin_inputs.specs.Format.{SaysEvents}
use Rattle.lapin_shared_commands.specs.Outcome.{IsRun}

no_number : (k : ℕ) → Some k ≡ None → ⊥
no_number k e = cc

pub no_bad_line : (n : ℕ) (input : List ℕ) (kept : Option (List Entry)) (bad : Option ℕ) → IsRun n input kept bad → SaysEvents input → bad ≡ None
no_bad_line n input None bad run said = absurd (no_number 1 (parsed_once (lines_of input) None (Some said.0) [] said.1 (Some 1) None run.1 said.2).2)
no_bad_line n input (Some h) bad run said = (parsed_once (lines_of input) (Some run.frame_max) (Some said.0) run.events said.1 bad None run.parsed said.2).2

pub not_bad : (n : ℕ) (input : List ℕ) (kept : Option (List Entry)) (bad : Option ℕ) (line : ℕ) → IsRun n input kept bad → bad ≡ Some line → SaysEvents input → ⊥
not_bad n input kept bad line run is said = no_number line (sym is ∙ no_bad_line n input kept bad run said)
