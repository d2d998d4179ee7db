-- What the command `check` prints for an input.
use Rattle.std.specs.Prelude.{ℕ, List, Option}
use Rattle.lapin_text.specs.Input.{LinesSay}
use Rattle.lapin_check.specs.declared.seen.Seen.{Seen}
use Rattle.lapin_check.specs.Finding.{finding}
use Rattle.lapin_check.specs.Account.{account_of}
use Rattle.lapin_check_text.specs.Seen.{seen_line, HasLine}
use Rattle.lapin_check_text.specs.Findings.{check_text}
use Rattle.lapin_inputs.specs.Printing.{PrintsBy}

-- the account of a transcript, and what is found in it
abbrev pub checked_text : ℕ → List Seen → List ℕ
checked_text frame_max transcript = check_text (account_of frame_max transcript) (finding frame_max transcript)

-- the lines are frames that were seen, and the text is that of their account and of what is found in them
abbrev pub PrintsCheck : List ℕ → Option ℕ → List ℕ → Type 0
PrintsCheck input bad text = PrintsBy Seen (LinesSay seen_line HasLine) checked_text input bad text
