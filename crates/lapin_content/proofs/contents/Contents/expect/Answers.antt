use Rattle.lapin_content.specs.Contents.{expected}
use Rattle.lapin_content.proofs.Tables.{one-more, unchanged, on-ok, on-err}
use Rattle.lapin_content.proofs.contents.Contents.expect.Goals as goal

pub returns-clause-ok : goal.returns-clause-ok
returns-clause-ok c = rw (← c.self.view_is) (on-ok c.expect.result _ _ (one-more c.args.channel (expected c.args.class_id c.args.start) c.in-Some.queue.now c.expect.new.self c.self.inside.channels.entries c.in-Some.ensures.value) c.expect.ensures.ok)

pub returns-clause-err : goal.returns-clause-err
returns-clause-err c = rw (← c.self.view_is) (on-err c.expect.result _ _ (unchanged c.args.channel c.in-Some.queue.now c.expect.new.self c.self.inside.channels.entries c.in-Some.ensures.value) c.expect.ensures.err)
