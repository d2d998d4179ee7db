use Rattle.std.proofs.Common.{◌≡◌, subst, refl, inl, inr, Ok, Err}
use Rattle.lapin_client.specs.declared.client.Client.{Client}
use Rattle.lapin_client.specs.Counts.{PollCounts}
use Rattle.lapin_client.specs.declared.replies.Fields.{Fields}
use Rattle.lapin_client.specs.Replies.{Replied}
use Rattle.lapin_c.specs.Behind.{Gave}
use Rattle.lapin_c.proofs.BehindLaws.{behind_some}
use Rattle.lapin_c.proofs.calls.lapin_reply.Goals as goal

pub returns-in-Ok : goal.returns-in-Ok
returns-in-Ok c =
    behind_some (λ (b d : Client). Gave c.code.result c.args.fields.now c.in-Ok.found (λ r. Replied r c.args.ticket b d × PollCounts r b d)) ((c.code.result ≡ 7) × (c.in-Ok.found ≡ c.args.fields.now)) c.args.handle.now.pointer.held c.put.new.handle.pointer.held c.in-Some.client.value c.reply-replied.new.self c.in-Some.ensures.value c.put.ensures
    (inl (c.code.ensures, subst (λ (b : Client). Replied (Ok c.in-Ok.found) c.args.ticket b c.reply-replied.new.self × PollCounts (Ok c.in-Ok.found) b c.reply-replied.new.self) c.deref_mut.ensures.value (c.in-Ok.ensures.told, c.in-Ok.ensures.count)))

pub returns-in-Err : goal.returns-in-Err
returns-in-Err c =
    behind_some (λ (b d : Client). Gave c.code-in-Err.result c.args.fields.now c.args.fields.now (λ r. Replied r c.args.ticket b d × PollCounts r b d)) ((c.code-in-Err.result ≡ 7) × (c.args.fields.now ≡ c.args.fields.now)) c.args.handle.now.pointer.held c.put.new.handle.pointer.held c.in-Some.client.value c.reply-replied.new.self c.in-Some.ensures.value c.put.ensures
    (inr (c.in-Err.status, c.code-in-Err.ensures, refl, subst (λ (b : Client). Replied (Err c.in-Err.status) c.args.ticket b c.reply-replied.new.self × PollCounts {A = Fields} (Err c.in-Err.status) b c.reply-replied.new.self) c.deref_mut.ensures.value (c.in-Err.ensures.told, c.in-Err.ensures.count)))
