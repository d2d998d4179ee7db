use Rattle.std.proofs.Common.{◌≡◌, ℕ, ◌<◌, subst, refl, inl, inr, arith}
use Rattle.lapin_client.specs.declared.client.Client.{Client}
use Rattle.lapin_client.specs.Clients.{IsSent}
use Rattle.lapin_c.specs.Behind.{Taken}
use Rattle.lapin_c.proofs.BehindLaws.{behind_some}
use Rattle.lapin_c.proofs.exports.lapin_leaving.Goals as goal

pub returns-then-written-eq0-clause-left : goal.returns-then-written-eq0-clause-left
returns-then-written-eq0-clause-left c =
    behind_some (λ (b d : Client). Taken 0 b d) (0 ≡ 0) c.args.handle.now.pointer.held c.put.new.handle.pointer.held c.in-Some.client.value c.in-Some.client.value c.in-Some.ensures.value c.put.ensures (inr (refl, refl))

pub returns-else-written-eq0-clause-left : goal.returns-else-written-eq0-clause-left
returns-else-written-eq0-clause-left c =
    behind_some (λ (b d : Client). Taken c.copy_out-written.result b d) (c.copy_out-written.result ≡ 0) c.args.handle.now.pointer.held c.put-in-Some.new.handle.pointer.held c.in-Some.client.value c.sent.new.self c.in-Some.ensures.value c.put-in-Some.ensures
    (inl (subst (λ (b : Client). IsSent b c.sent.new.self) c.deref_mut.ensures.value c.sent.ensures.value, grind (c.if-written-eq0.false, arith)))
