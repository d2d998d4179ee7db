use Rattle.std.proofs.Common.{sym}
use Rattle.lapin_confirm.proofs.ReturnedByChannel.{returned_by_channel-same}
use Rattle.lapin_confirm.proofs.Roomy.{messages-kept, message-there}
use Rattle.lapin_confirm.proofs.rooms.make_room_for_message.Goals as goal

pub returns-in_err-reserve-clause-returned_by_channel : goal.returns-in_err-reserve-clause-returned_by_channel
returns-in_err-reserve-clause-returned_by_channel c = returned_by_channel-same c.args.channel c.in-Some.returned_messages.now _ c.args.returned_by_channel.now.entries (sym c.in-Some.ensures.value) c.in_err-reserve.ensures.same

pub returns-in_err-reserve-clause-messages : goal.returns-in_err-reserve-clause-messages
returns-in_err-reserve-clause-messages c = λ rooms fit. messages-kept c.args.channel c.in-Some.returned_messages.now _ rooms c.args.returned_by_channel.now.entries (sym c.in-Some.ensures.value) fit c.in_err-reserve.ensures.place

pub returns-clause-returned_by_channel : goal.returns-clause-returned_by_channel
returns-clause-returned_by_channel c = returned_by_channel-same c.args.channel c.in-Some.returned_messages.now _ c.args.returned_by_channel.now.entries (sym c.in-Some.ensures.value) c.in_ok-reserve.ensures.same

pub returns-clause-messages : goal.returns-clause-messages
returns-clause-messages c = λ rooms fit. messages-kept c.args.channel c.in-Some.returned_messages.now _ rooms c.args.returned_by_channel.now.entries (sym c.in-Some.ensures.value) fit c.in_ok-reserve.ensures.place

pub returns-clause-more : goal.returns-clause-more
returns-clause-more c = message-there 1 c.args.channel c.in-Some.returned_messages.now _ c.args.returned_by_channel.now.entries (sym c.in-Some.ensures.value) c.in_ok-reserve.ensures.room
