-- What the reports of a run come to.
use Rattle.std.specs.Prelude.{ℕ, ◌+◌, List, [], ◌∷◌, length, Ok, sum_by}
use Rattle.lapin_types.specs.declared.record.Record.{Record}
use Rattle.lapin_types.specs.declared.record.Record.TheVariants as record_
use Rattle.lapin_types.specs.declared.confirmation.Confirmation.TheVariants as confirmation
use Rattle.lapin_types.specs.Types.frame
use Rattle.lapin_joint.specs.declared.step.Reported.{Reported}
use Rattle.lapin_joint.specs.declared.step.Reported.TheVariants as reported
use Rattle.lapin_generate.specs.declared.summary.Summary.{Summary}

-- 1 for an accepted publish
abbrev pub publish_count : Reported → ℕ
publish_count (reported.Client (record_.Publish ticket number)) = 1
publish_count _ = 0

-- 1 for a frame that the client handed out
abbrev pub frame_count : Reported → ℕ
frame_count (reported.Client (record_.Frame f)) = 1
frame_count _ = 0

-- the length of the body that left, if one did
abbrev pub body_length : Reported → ℕ
body_length (reported.Client (record_.Frame (frame.Body c bytes))) = length bytes
body_length _ = 0

-- 1 for a confirm that gave an ack
abbrev pub acks_told : Record → ℕ
acks_told (record_.Confirmed (Ok (confirmation.Ack message))) = 1
acks_told _ = 0

-- 1 for the report of a poll whose confirm gave an ack
abbrev pub ack_count : Reported → ℕ
ack_count (reported.Client r) = acks_told r
ack_count _ = 0

-- of all reports: how many accepted publishes, how many frames, how many bytes of bodies, how many acks
abbrev pub summed : List Reported → Summary
summed rs = record {
  publishes = sum_by publish_count rs;
  frames = sum_by frame_count rs;
  bytes = sum_by body_length rs;
  acks = sum_by ack_count rs;
}

-- a summary with one report more
abbrev pub with_report : Summary → Reported → Summary
with_report s r = record {
  publishes = s.publishes + publish_count r;
  frames = s.frames + frame_count r;
  bytes = s.bytes + body_length r;
  acks = s.acks + ack_count r;
}

-- with more reports, one after another
abbrev pub with_reports : Summary → List Reported → Summary
with_reports s [] = s
with_reports s (r ∷ rs) = with_reports (with_report s r) rs

-- the summary of no report
abbrev pub nothing : Summary
nothing = record { publishes = 0; frames = 0; bytes = 0; acks = 0 }
