use Rattle.std.proofs.Common.{◌+◌, ℕ, List, drop, sym, ap, ◌∙◌}
use Rattle.std.specs.List.{flat_map}
use Rattle.std.proofs.lemmas.Result.{on_ok_weaker}
use Rattle.lapin_tokens.specs.TokenText.{onto}
use Rattle.lapin_text.specs.Records.{message_tokens}
use Rattle.lapin_text.proofs.Printed.{onto_at}
use Rattle.lapin_text.proofs.records.put_message_at.Goals as goal

pub returns-in-Some : goal.returns-in-Some
returns-in-Some c =
    on_ok_weaker c.put_message.result (λ written. ap (λ (out : List ℕ). onto out (flat_map message_tokens (drop (c.args.place + 1) c.args.messages.now))) written ∙ onto_at message_tokens c.args.out.now.items c.args.messages.now c.args.place c.in-Some.message.now (sym c.in-Some.ensures)) c.put_message.ensures
