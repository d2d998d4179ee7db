use Rattle.std.proofs.Common.{◌≡◌, ◌+◌, ◌++◌, ◌∷◌, [], ◌<◌, ◌^◌, length, arith, ap, sym, ◌∙◌, subst}
use Rattle.lapin_rules.specs.History.{rec}
use Rattle.lapin_machine.specs.World.{told_by}
use Rattle.lapin_locked.specs.Lawful.{history_of}
use Rattle.lapin_locked.specs.UnderLock.{UnderLock, entry}
use Rattle.lapin_locked.proofs.Keeping.{kept_numbers, kept_step}
use Rattle.lapin_locked.proofs.locked.Locked.step.Goals as goal

pub step_session-requires-clause-numbers : goal.step_session-requires-clause-numbers
step_session-requires-clause-numbers g c =
    let room : length c.self.inside.history.items + 1 < 2 ^ 64 = omega (arith, c.in-Ok.ensures.ok) in
    kept_numbers c.self.inside.frame_max c.self.inside.history.items c.self.inside.session c.self.inside.book.total c.self.invariant room

pub invariant_of-self-2 : goal.invariant_of-self-2
invariant_of-self-2 g c =
    let e = c.args.event in
    let longer = c.push_reserved.ensures.items ∙ ap (λ l. l ++ c.in-Ok-step_session.stored ∷ []) c.reserve.ensures.items ∙ ap (λ x. c.self.inside.history.items ++ x ∷ []) c.in-Ok-step_session.ensures.told in
    kept_step c.self.inside.frame_max c.self.inside.history.items c.push_reserved.new.self.items c.self.inside.session c.step_session.new.session
    c.self.inside.book.total c.add.new.self.total c.args.caller e (told_by c.self.inside.session e) c.self.invariant c.in-Ok-step_session.ensures.stands
    c.in-Ok-step_session.ensures.steady longer c.add.ensures.total

pub returns-clause-history : goal.returns-clause-history
returns-clause-history g c =
    let e = c.args.event in
    let es = c.self.inside.history.items in
    let stood = c.in-Ok-step_session.ensures.stands c.self.inside.frame_max (history_of es) c.self.invariant.stands in
    let one = c.in-Ok-step_session.ensures.told ∙ ap (λ r. entry c.args.caller e r) stood.0 in
    subst (λ (k : UnderLock). c.push_reserved.new.self.items ≡ k.entries ++ entry c.args.caller e (rec k.frame_max (history_of k.entries) e) ∷ [])
    c.self.view_is (c.push_reserved.ensures.items ∙ ap (λ l. l ++ c.in-Ok-step_session.stored ∷ []) c.reserve.ensures.items ∙ ap (λ x. es ++ x ∷ []) one)

pub returns-clause-machine : goal.returns-clause-machine
returns-clause-machine g c =
    let stood = c.in-Ok-step_session.ensures.stands c.self.inside.frame_max (history_of c.self.inside.history.items) c.self.invariant.stands in
    subst (λ (k : UnderLock). rec k.frame_max (history_of k.entries) c.args.event ≡ told_by k.world c.args.event) c.self.view_is (sym stood.0)
