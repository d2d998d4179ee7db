use Rattle.std.proofs.Common.{sym}
use Rattle.lapin_confirm.proofs.ReturnedByChannel.{returned_by_channel-on, returned_by_channel-absent}
use Rattle.lapin_confirm.proofs.Roomy.{messages-kept}
use Rattle.lapin_confirm.proofs.attaching.attach_one.Goals as goal

pub returns-in_default-clause-return_lists : goal.returns-in_default-clause-return_lists
returns-in_default-clause-return_lists c = sym (returned_by_channel-absent c.args.channel _ c.args.returned_by_channel.now.entries (sym c.in_default.ensures.value))

pub returns-clause-return_lists : goal.returns-clause-return_lists
returns-clause-return_lists c = returned_by_channel-on c.args.channel _ c.in-Some.returned_messages.now c.attach_tag.new.returned_messages c.args.returned_by_channel.now.entries (sym c.in-Some.ensures.value) c.attach_tag.ensures.return_lists

pub returns-clause-room : goal.returns-clause-room
returns-clause-room c = λ rooms fit. messages-kept c.args.channel c.in-Some.returned_messages.now c.attach_tag.new.returned_messages rooms c.args.returned_by_channel.now.entries (sym c.in-Some.ensures.value) fit c.attach_tag.ensures.room
