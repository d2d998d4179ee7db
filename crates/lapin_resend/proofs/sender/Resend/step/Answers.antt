use Rattle.std.proofs.Common.{◌≡◌, ◌+◌, ◌∙◌, Bool, List, length, map, refl, sym, ap, subst, arith}
use Rattle.std.specs.List.{filter}
use Rattle.lapin_resend.specs.declared.publisher.Publisher as code
use Rattle.lapin_resend.specs.Publisher.{Publisher}
use Rattle.lapin_resend.specs.Follows.{entry_of, is_kept}
use Rattle.lapin_resend.specs.Keeping.{FollowsBut, Knows, noted, with_new}
use Rattle.lapin_resend.specs.Resend.{report_of, after_step}
use Rattle.lapin_resend.specs.Sending.{Sending, StandsForSteps}
use Rattle.lapin_resend.proofs.Sending.{stands_longer, filter_short, noted_long, new_long}
use Rattle.lapin_resend.proofs.sender.Resend.step.Goals as goal

pub returns-in-Ok-clause-told : goal.returns-in-Ok-clause-told
returns-in-Ok-clause-told c n steps h =
    let old : Sending = record { frame_max = c.self.inside.frame_max; publisher = c.self.inside.publisher; known = c.self.inside.known.items; steps = c.self.inside.steps; stopped = c.self.inside.stopped } in
    let next : code.Publisher = record { joined = c.make.new.self.joined; messages = c.note.new.messages; selects = c.make.new.self.selects } in
    let new : Sending = record { frame_max = c.self.inside.frame_max; publisher = next; known = c.note.new.known.items; steps = c.self.inside.steps + 1; stopped = c.self.inside.stopped } in
    let same : c.reserve.new.self.items ≡ c.self.inside.known.items = c.reserve.ensures.items in
    let seen : c.deref.result.now ≡ c.self.inside.known.items = c.deref.ensures.value ∙ same in
    let told : (p : Publisher) → Knows old.frame_max old.known p old.publisher → c.in-Ok.report ≡ report_of old.frame_max c.args.step p =
    subst (λ (known : List Bool). (p : Publisher) → Knows old.frame_max known p old.publisher → c.in-Ok.report ≡ report_of old.frame_max c.args.step p) seen c.in-Ok.ensures.told in
    let goes : (p : Publisher) → Knows old.frame_max old.known p old.publisher → FollowsBut old.frame_max old.known (after_step old.frame_max c.args.step p) c.make.new.self =
    subst (λ (known : List Bool). (p : Publisher) → Knows old.frame_max known p old.publisher → FollowsBut old.frame_max known (after_step old.frame_max c.args.step p) c.make.new.self) seen c.in-Ok.ensures.goes in
    let new_known : c.note.new.known.items ≡ noted (map entry_of c.make.new.self.messages.items) (with_new c.is_submit-submits.result c.self.inside.known.items) =
    c.note.ensures.known ∙ ap (λ (known : List Bool). noted (map entry_of c.make.new.self.messages.items) (with_new c.is_submit-submits.result known)) same in
    stands_longer n steps c.args.step c.in-Ok.report c.is_submit-submits.result old new c.make.new.self c.is_submit-submits.ensures c.if-self.false refl refl new_known refl refl c.note.ensures.messages told goes (subst (λ (s : Sending). StandsForSteps n steps s) (sym c.self.view_is) h)

pub invariant_of-self-in-Ok : goal.invariant_of-self-in-Ok
invariant_of-self-in-Ok c running =
    let before = c.self.invariant running in
    let kept : length c.note.new.messages.items ≡ length (filter is_kept c.make.new.self.messages.items) = ap length c.note.ensures.messages in
    let known : length c.note.new.known.items ≡ length (with_new c.is_submit-submits.result c.reserve.new.self.items) = ap length c.note.ensures.known ∙ noted_long (map entry_of c.make.new.self.messages.items) (with_new c.is_submit-submits.result c.reserve.new.self.items) in
    record {
      max = before.max;
      messages = omega (arith, kept, filter_short c.make.new.self.messages.items, c.in-Ok.ensures.len, before.messages);
      known = omega (arith, known, new_long c.is_submit-submits.result c.reserve.new.self.items, ap length c.reserve.ensures.items, before.known);
      joined = omega (arith, c.in-Ok.ensures.steps, before.messages, before.joined);
    }
