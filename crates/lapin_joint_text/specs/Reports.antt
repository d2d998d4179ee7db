-- The lines of reports.
use Rattle.std.specs.Prelude.{ℕ, List, [], ◌∷◌, ◌++◌, codes}
use Rattle.std.specs.List.{join_with_byte, flat_map}
use Rattle.lapin_text.specs.Records.{record_tokens, line_onto}
use Rattle.lapin_joint.specs.declared.step.Reported.{Reported}
use Rattle.lapin_joint.specs.declared.step.Reported.TheVariants as reported

-- the tokens of the record of an event or of a frame that was received, else a word
abbrev pub report_tokens : Reported → List (List ℕ)
report_tokens (reported.Client r) = record_tokens r
report_tokens reported.Read = codes "read" ∷ []
report_tokens reported.Sent = codes "sent" ∷ []
report_tokens (reported.Delivered r) = record_tokens r
report_tokens reported.Nothing = codes "nothing" ∷ []
report_tokens reported.NotLawful = codes "notlawful" ∷ []
report_tokens reported.Lost = codes "lost" ∷ []

-- a report's line: its tokens with one space between them
abbrev pub report_line : Reported → List ℕ
report_line r = join_with_byte 32 (report_tokens r)

-- the text of reports: the line of each, ended by one line feed
abbrev pub reports_text : List Reported → List ℕ
reports_text rs = flat_map (λ r. report_line r ++ 10 ∷ []) rs

-- the lines of reports at the end of a text
abbrev pub reports_onto : List ℕ → List Reported → List ℕ
reports_onto out [] = out
reports_onto out (r ∷ rs) = reports_onto (line_onto out (report_tokens r) ++ 10 ∷ []) rs
