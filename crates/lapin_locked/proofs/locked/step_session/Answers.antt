use Rattle.std.proofs.Common.{◌≡◌, ap, subst, refl, ◌∙◌}
use Rattle.lapin_types.specs.declared.event.Event.{Event}
use Rattle.lapin_machine.specs.World.{World, next, told_by}
use Rattle.lapin_machine.proofs.Back.{given_none, still_none}
use Rattle.lapin_machine.proofs.Standing.{stands-next}
use Rattle.lapin_locked.specs.UnderLock.{entry}
use Rattle.lapin_locked.proofs.locked.step_session.Goals as goal

pub returns-clause-told : goal.returns-clause-told
returns-clause-told c =
    let is = c.in-Ok.ensures in
    c.in-Ok-meet.ensures.told ∙ ap (λ x. entry x.caller x.event (told_by c.args.session.now x.event)) is

pub returns-clause-stands : goal.returns-clause-stands
returns-clause-stands c = λ frame_max h stood.
    let w = c.args.session.now in
    let Left : Event → Type 0 = λ e. c.meet.new.session ≡ next w e in
    let left = subst Left (ap (λ x. x.event) c.in-Ok.ensures) c.in-Ok-meet.ensures.ok in
    stands-next frame_max h w c.meet.new.session c.args.event (told_by w c.args.event) (given_none w.returned c.args.event c.requires.steady) stood refl left

pub returns-clause-steady : goal.returns-clause-steady
returns-clause-steady c =
    let w = c.args.session.now in
    let Left : Event → Type 0 = λ e. c.meet.new.session ≡ next w e in
    let left = subst Left (ap (λ x. x.event) c.in-Ok.ensures) c.in-Ok-meet.ensures.ok in
    ap (λ (v : World). v.returned) left ∙ still_none w c.args.event c.requires.steady
