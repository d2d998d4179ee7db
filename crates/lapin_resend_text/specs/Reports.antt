-- The lines of reports.
use Rattle.std.specs.Prelude.{ℕ, List, [], ◌∷◌, ◌++◌, codes}
use Rattle.std.specs.List.{join_with_byte, flat_map}
use Rattle.lapin_tokens.specs.Fields.{token, wide_number}
use Rattle.lapin_joint_text.specs.Reports.{report_tokens}
use Rattle.lapin_resend.specs.declared.step.ResendReport.{ResendReport}
use Rattle.lapin_resend.specs.declared.step.ResendReport.TheVariants as told

-- the number of a message that was submitted, the tokens of what a joined run reports, or a word
abbrev pub resend_tokens : ResendReport → List (List ℕ)
resend_tokens (told.Message n) = codes "message" ∷ token wide_number n ∷ []
resend_tokens (told.Joined r) = report_tokens r
resend_tokens told.Waiting = codes "waiting" ∷ []
resend_tokens told.Stored = codes "stored" ∷ []
resend_tokens told.Unknown = codes "unknown" ∷ []

-- a report's line: its tokens with one space between them
abbrev pub resend_line : ResendReport → List ℕ
resend_line r = join_with_byte 32 (resend_tokens r)

-- the text of reports: the line of each, ended by one line feed
abbrev pub reports_text : List ResendReport → List ℕ
reports_text rs = flat_map (λ r. resend_line r ++ 10 ∷ []) rs
