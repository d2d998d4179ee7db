-- The lines of reports.
use Rattle.std.specs.Prelude.{ℕ, List, [], ◌∷◌, ◌++◌, codes}
use Rattle.std.specs.List.{join_with_byte, flat_map}
use Rattle.lapin_tokens.specs.Fields.{token, wide_number}
use Rattle.lapin_tokens.specs.Fields.Field.{bytes}
use Rattle.lapin_text.specs.Records.{record_tokens, error_tokens, state_name}
use Rattle.lapin_call.specs.declared.step.CallReport.{CallReport}
use Rattle.lapin_call.specs.declared.step.CallReport.TheVariants as reported

-- the tokens of the record of an event, or a word with what it tells
abbrev pub report_tokens : CallReport → List (List ℕ)
report_tokens (reported.Session r) = record_tokens r
report_tokens (reported.Asked n) = codes "call" ∷ token wide_number n ∷ []
report_tokens (reported.NotOpen state) = codes "notopen" ∷ state_name state ∷ []
report_tokens (reported.Collected answers repeats strangers) = codes "collected" ∷ token wide_number answers ∷ token wide_number repeats ∷ token wide_number strangers ∷ []
report_tokens reported.Waiting = codes "waiting" ∷ []
report_tokens (reported.Reply payload) = codes "reply" ∷ token bytes payload ∷ []
report_tokens (reported.Ended e) = codes "ended" ∷ error_tokens e
report_tokens reported.Taken = codes "taken" ∷ []
report_tokens reported.Unknown = codes "unknown" ∷ []

-- a report's line: its tokens with one space between them
abbrev pub report_line : CallReport → List ℕ
report_line r = join_with_byte 32 (report_tokens r)

-- the text of reports: the line of each, ended by one line feed
abbrev pub reports_text : List CallReport → List ℕ
reports_text rs = flat_map (λ r. report_line r ++ 10 ∷ []) rs
