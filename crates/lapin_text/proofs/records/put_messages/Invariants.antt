use Rattle.std.proofs.Common.{◌≡◌, drop}
use Rattle.std.specs.List.{flat_map}
use Rattle.lapin_tokens.specs.TokenText.{onto}
use Rattle.lapin_text.specs.Records.{message_tokens}
use Rattle.lapin_text.proofs.records.put_messages.Given as goal

abbrev pub invariant-loop-place : goal.invariant-loop-place
invariant-loop-place l = onto l.out.items (flat_map message_tokens (drop l.place l.messages)) ≡ onto l.fn.out.items (flat_map message_tokens l.messages)
