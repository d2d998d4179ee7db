-- What follows where no line is bad: an input whose lines are all events has none, and all was written.
use Rattle.std.proofs.Common.{◌≡◌, ℕ, List, [], Option, Some, None, refl, sym, subst, ◌∙◌}
use Rattle.std.specs.Io.KnownBytes.{Appends}
use Rattle.lapin_text.specs.Input.{lines_of}
use Rattle.lapin_text.proofs.InputLaws.{parsed_once}
use Rattle.lapin_pool.specs.declared.card.PoolEnd.{PoolEnd}
use Rattle.lapin_inputs.specs.Format.{SaysEvents}
use Rattle.lapin_pool_commands.specs.Outcome.{IsRun, Ran, WroteAll}
use Rattle.lapin_pool_commands.specs.Printed.{run_text}

no_number : (k : ℕ) → Some k ≡ None → ⊥
no_number k e = cc

no_bad_line : (n : ℕ) (input : List ℕ) (kept : Option PoolEnd) (bad : Option ℕ) → IsRun n input kept bad → SaysEvents input → bad ≡ None
no_bad_line n input None bad run said = absurd (no_number 1 (parsed_once (lines_of input) None (Some said.0) [] said.1 (Some 1) None run.1 said.2).2)
no_bad_line n input (Some e) bad run said = (parsed_once (lines_of input) (Some run.frame_max) (Some said.0) run.events said.1 bad None run.parsed said.2).2

pub not_bad : (n : ℕ) (input : List ℕ) (kept : Option PoolEnd) (bad : Option ℕ) (line : ℕ) → IsRun n input kept bad → bad ≡ Some line → SaysEvents input → ⊥
not_bad n input kept bad line run is said = no_number line (sym is ∙ no_bad_line n input kept bad run said)

-- where no line was bad and the text was written whole, all was
pub wrote_all : (n : ℕ) (input : List ℕ) (kept : Option PoolEnd) (bad : Option ℕ) (before after : Option (List ℕ)) → IsRun n input kept bad → bad ≡ None → Appends before after (run_text kept bad)
    → WroteAll n kept before after input
wrote_all n input None bad before after run none wrote = absurd (no_number 1 (sym run.0 ∙ none))
wrote_all n input (Some e) bad before after run none wrote =
    (e, refl, subst (λ b. Ran n input b e) none run, subst (λ b. Appends before after (run_text (Some e) b)) none wrote)
