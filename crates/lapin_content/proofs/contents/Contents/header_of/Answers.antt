use Rattle.std.proofs.Common.{refl}
use Rattle.lapin_content.specs.Contents.{after_header}
use Rattle.lapin_content.proofs.Tables.{absent, changed}
use Rattle.lapin_content.proofs.contents.Contents.header_of.Goals as goal

pub returns-clause-after : goal.returns-clause-after
returns-clause-after c = rw (← c.self.view_is) (changed c.args.channel (after_header (record { class_id = c.args.class_id; body_size = c.args.body_size; properties = c.args.properties })) c.in-Some.queue.now c.header.new.self c.self.inside.channels.entries c.in-Some.ensures.value c.header.ensures.queue)

pub returns-in_default-clause-after : goal.returns-in_default-clause-after
returns-in_default-clause-after c = rw (← c.self.view_is) (absent c.args.channel (after_header (record { class_id = c.args.class_id; body_size = c.args.body_size; properties = c.args.properties })) c.self.inside.channels.entries c.in_default.ensures.value refl)
