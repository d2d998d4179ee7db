use Rattle.std.proofs.Common.{inl, refl}
use Rattle.lapin_tables.proofs.Bools.{on_err}
use Rattle.lapin_publisher.proofs.Turning.{came_through, ended_at_open, ended_at_select, ended_at_publish}
use Rattle.lapin_publisher.proofs.publisher.Publisher.tend.Goals as goal

pub returns-clause-ok : goal.returns-clause-ok
returns-clause-ok c =
    came_through c.args.turn c.args.session.now c.poll_all.new.session c.args.self.now.keeping c.poll_all.new.keeping c.args.self.now.selects c.in_ok-poll_all.ensures.ok
    c.open.new.session c.select.new.session c.publish.new.session c.open.new.self.keeping c.select.new.self.keeping c.publish.new.self.keeping c.open.new.self.selects c.select.new.self.selects c.publish.new.self.selects
    c.in_ok-open.ensures.ok c.open.ensures.keeping c.in_ok-select.ensures.ok c.select.ensures.keeping c.in_ok-publish.ensures.ok c.publish.ensures.others c.publish.ensures.selects

pub returns-in_err-poll_all-clause-err : goal.returns-in_err-poll_all-clause-err
returns-in_err-poll_all-clause-err c = on_err c.from_residual.result _ (record { ended = inl (c.in_err-poll_all.ensures.err, refl) })

pub returns-in_err-open-clause-err : goal.returns-in_err-open-clause-err
returns-in_err-open-clause-err c =
    on_err c.from_residual-in_err-open.result _ (ended_at_open c.args.turn c.args.session.now c.poll_all.new.session c.args.self.now.keeping c.poll_all.new.keeping c.args.self.now.selects c.in_ok-poll_all.ensures.ok
    c.open.new.session c.open.new.self.keeping c.open.new.self.selects c.in_err-open.ensures.err.0 c.in_err-open.ensures.err.1 c.open.ensures.keeping)

pub returns-in_err-select-clause-err : goal.returns-in_err-select-clause-err
returns-in_err-select-clause-err c =
    on_err c.from_residual-in_err-select.result _ (ended_at_select c.args.turn c.args.session.now c.poll_all.new.session c.args.self.now.keeping c.poll_all.new.keeping c.args.self.now.selects c.in_ok-poll_all.ensures.ok
    c.open.new.session c.select.new.session c.open.new.self.keeping c.select.new.self.keeping c.open.new.self.selects c.select.new.self.selects
    c.in_ok-open.ensures.ok c.open.ensures.keeping c.in_err-select.ensures.err.0 c.in_err-select.ensures.err.1 c.select.ensures.keeping)

pub returns-in_err-publish-clause-err : goal.returns-in_err-publish-clause-err
returns-in_err-publish-clause-err c =
    on_err c.from_residual-in_err-publish.result _ (ended_at_publish c.args.turn c.args.session.now c.poll_all.new.session c.args.self.now.keeping c.poll_all.new.keeping c.args.self.now.selects c.in_ok-poll_all.ensures.ok
    c.open.new.session c.select.new.session c.publish.new.session c.open.new.self.keeping c.select.new.self.keeping c.publish.new.self.keeping c.open.new.self.selects c.select.new.self.selects c.publish.new.self.selects
    c.in_ok-open.ensures.ok c.open.ensures.keeping c.in_ok-select.ensures.ok c.select.ensures.keeping c.in_err-publish.ensures.err c.publish.ensures.others c.publish.ensures.selects)
