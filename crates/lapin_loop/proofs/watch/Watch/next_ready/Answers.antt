use Rattle.std.proofs.Common.{◌≡◌, Some, sym, ◌∙◌, ap}
use Rattle.std.specs.List.{position}
use Rattle.std.proofs.lemmas.Option.{slice_get-get_or}
use Rattle.lapin_loop.specs.Watching.{is_ready}
use Rattle.lapin_outbox.proofs.Firsts.{within, find-there, find-nowhere, without-at, without-nowhere}
use Rattle.lapin_loop.proofs.watch.Watch.next_ready.Goals as goal

pub returns-in-Some-clause-first : goal.returns-in-Some-clause-first
returns-in-Some-clause-first c =
    let at : position (is_ready c.args.session.now) c.args.self.now.awaited.items ≡ Some c.in-Some.place = ap (position (is_ready c.args.session.now)) (sym c.deref.ensures.value) ∙ sym c.in-Some.ensures in
    ap Some c.remove.ensures.value
    ∙ sym (slice_get-get_or c.args.self.now.awaited.items c.in-Some.place c.remove.result (within (is_ready c.args.session.now) c.args.self.now.awaited.items c.in-Some.place at))
    ∙ sym (find-there (is_ready c.args.session.now) c.args.self.now.awaited.items c.in-Some.place at)

pub returns-in-Some-clause-others : goal.returns-in-Some-clause-others
returns-in-Some-clause-others c =
    let at : position (is_ready c.args.session.now) c.args.self.now.awaited.items ≡ Some c.in-Some.place = ap (position (is_ready c.args.session.now)) (sym c.deref.ensures.value) ∙ sym c.in-Some.ensures in
    c.remove.ensures.items ∙ without-at (is_ready c.args.session.now) c.args.self.now.awaited.items c.in-Some.place at

pub returns-in-None-clause-first : goal.returns-in-None-clause-first
returns-in-None-clause-first c = sym (find-nowhere (is_ready c.args.session.now) c.args.self.now.awaited.items (ap (position (is_ready c.args.session.now)) (sym c.deref.ensures.value) ∙ sym c.in-None.ensures))

pub returns-in-None-clause-others : goal.returns-in-None-clause-others
returns-in-None-clause-others c = without-nowhere (is_ready c.args.session.now) c.args.self.now.awaited.items (ap (position (is_ready c.args.session.now)) (sym c.deref.ensures.value) ∙ sym c.in-None.ensures)
