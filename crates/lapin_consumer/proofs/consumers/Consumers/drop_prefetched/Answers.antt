use Rattle.std.proofs.Common.{◌≡◌, OnOk, refl, sym, ap, ◌∙◌, subst}
use Rattle.lapin_acker.specs.Switches.{voided, after_mark as after_acker_mark}
use Rattle.lapin_acker.specs.Marks as acker_mark
use Rattle.lapin_acker.proofs.Numbers.{voided-is}
use Rattle.lapin_consumer.specs.WithRoom.{WithRoom}
use Rattle.lapin_consumer.specs.Marks as mark
use Rattle.lapin_consumer.specs.Ackers.{ackers_on}
use Rattle.lapin_consumer.specs.Subscriptions.{after_mark}
use Rattle.lapin_consumer.proofs.Indices.{kept_or_same, swept_index, nobody_on}
use Rattle.lapin_consumer.proofs.Lines.{on_ok}
use Rattle.lapin_consumer.proofs.Several.{void_nobody, void_no_ackers}
use Rattle.lapin_consumer.proofs.consumers.Consumers.drop_prefetched.Goals as goal

pub returns-in_default-clause-ok : goal.returns-in_default-clause-ok
returns-in_default-clause-ok c =
    subst (λ (k : WithRoom). c.self.inside.hall.subscriptions ≡ after_mark k.subscriptions (mark.Discarded c.args.channel)) c.self.view_is
    (void_nobody c.args.channel c.self.inside.hall.subscriptions (nobody_on c.args.channel c.self.inside.lines.entries c.self.inside.hall.subscriptions.consumers c.in_default.ensures.value c.self.invariant))

pub returns-in_default-clause-void : goal.returns-in_default-clause-void
returns-in_default-clause-void c =
    subst (λ (k : WithRoom). c.args.switches.now.switches ≡ after_acker_mark c.args.switches.now.switches (acker_mark.Voided (ackers_on c.args.channel k.subscriptions.consumers))) c.self.view_is
    (ap (λ ns. voided ns c.args.switches.now.switches) (sym (void_no_ackers c.args.channel c.self.inside.hall.subscriptions.consumers (nobody_on c.args.channel c.self.inside.lines.entries c.self.inside.hall.subscriptions.consumers c.in_default.ensures.value c.self.invariant)))
    ∙ voided-is (ackers_on c.args.channel c.self.inside.hall.subscriptions.consumers) c.args.switches.now.switches)

pub invariant_of-self-2 : goal.invariant_of-self-2
invariant_of-self-2 c = kept_or_same (mark.Discarded c.args.channel) _ c.self.inside.hall.subscriptions c.void.new.self.subscriptions c.void.result refl (swept_index c.args.channel c.in-Some.line.now c.sweep.new.self c.self.inside.lines.entries c.self.inside.hall.subscriptions.consumers c.in-Some.ensures.value c.self.invariant c.sweep.ensures.places c.sweep.ensures.tags) c.void.ensures.ok c.void.ensures.err

pub returns-clause-void : goal.returns-clause-void
returns-clause-void c =
    subst (λ (k : WithRoom). OnOk c.void.result (c.void.new.switches.switches ≡ after_acker_mark c.args.switches.now.switches (acker_mark.Voided (ackers_on c.args.channel k.subscriptions.consumers)))) c.self.view_is
    (on_ok _ _ c.void.result (λ e. e ∙ voided-is (ackers_on c.args.channel c.self.inside.hall.subscriptions.consumers) c.args.switches.now.switches) c.void.ensures.void)
