use Rattle.std.proofs.Common.{◌≡◌, subst, refl, inl, inr, Ok, Err}
use Rattle.lapin_client.specs.declared.client.Client.{Client}
use Rattle.lapin_client.specs.Counts.{PollCounts}
use Rattle.lapin_client.specs.declared.message.Message.{Message}
use Rattle.lapin_client.specs.Replies.{Delivered}
use Rattle.lapin_c.specs.Behind.{Gave}
use Rattle.lapin_c.proofs.BehindLaws.{behind_some}
use Rattle.lapin_c.proofs.exports.lapin_delivery.Goals as goal

pub returns-in-Ok : goal.returns-in-Ok
returns-in-Ok c =
    behind_some (λ (b d : Client). Gave c.code.result c.args.message.now c.in-Ok.found (λ r. Delivered r c.args.consumer b d × PollCounts r b d)) ((c.code.result ≡ 7) × (c.in-Ok.found ≡ c.args.message.now)) c.args.handle.now.pointer.held c.put.new.handle.pointer.held c.in-Some.client.value c.delivery-handed.new.self c.in-Some.ensures.value c.put.ensures
    (inl (c.code.ensures, subst (λ (b : Client). Delivered (Ok c.in-Ok.found) c.args.consumer b c.delivery-handed.new.self × PollCounts (Ok c.in-Ok.found) b c.delivery-handed.new.self) c.deref_mut.ensures.value (c.in-Ok.ensures.told, c.in-Ok.ensures.count)))

pub returns-in-Err : goal.returns-in-Err
returns-in-Err c =
    behind_some (λ (b d : Client). Gave c.code-in-Err.result c.args.message.now c.args.message.now (λ r. Delivered r c.args.consumer b d × PollCounts r b d)) ((c.code-in-Err.result ≡ 7) × (c.args.message.now ≡ c.args.message.now)) c.args.handle.now.pointer.held c.put.new.handle.pointer.held c.in-Some.client.value c.delivery-handed.new.self c.in-Some.ensures.value c.put.ensures
    (inr (c.in-Err.status, c.code-in-Err.ensures, refl, subst (λ (b : Client). Delivered (Err c.in-Err.status) c.args.consumer b c.delivery-handed.new.self × PollCounts {A = Message} (Err c.in-Err.status) b c.delivery-handed.new.self) c.deref_mut.ensures.value (c.in-Err.ensures.told, c.in-Err.ensures.count)))
