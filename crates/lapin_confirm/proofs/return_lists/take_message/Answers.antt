use Rattle.std.proofs.Common.{refl, ◌≡◌, Some, None, sym}
use Rattle.lapin_tables.specs.Numbered.{under}
use Rattle.lapin_rules.specs.ReturnLists.{taken_out}
use Rattle.lapin_confirm.proofs.ReturnedByChannel.{returned_messages-at, returned_by_channel-on, returned_by_channel-absent}
use Rattle.lapin_confirm.proofs.Roomy.{messages-kept}
use Rattle.lapin_confirm.proofs.return_lists.take_message.Goals as goal

pub returns-in_default-get_mut-clause-message : goal.returns-in_default-get_mut-clause-message
returns-in_default-get_mut-clause-message c =
    let origin : under c.args.number c.args.origins.now.slots ≡ Some c.in-Some.origin = sym c.in-Some.ensures.value in
    rw (origin, returned_messages-at c.in-Some.origin.channel c.args.returned_by_channel.now.entries None (sym c.in_default-get_mut.ensures.value)) refl

pub returns-in_default-get_mut-clause-returned_by_channel : goal.returns-in_default-get_mut-clause-returned_by_channel
returns-in_default-get_mut-clause-returned_by_channel c =
    let origin : under c.args.number c.args.origins.now.slots ≡ Some c.in-Some.origin = sym c.in-Some.ensures.value in
    rw origin (sym (returned_by_channel-absent c.in-Some.origin.channel (taken_out c.args.number) c.args.returned_by_channel.now.entries (sym c.in_default-get_mut.ensures.value)))

pub returns-clause-message : goal.returns-clause-message
returns-clause-message c =
    let origin : under c.args.number c.args.origins.now.slots ≡ Some c.in-Some.origin = sym c.in-Some.ensures.value in
    rw (origin, returned_messages-at c.in-Some.origin.channel c.args.returned_by_channel.now.entries (Some c.in-Some-get_mut.returned_messages.now) (sym c.in-Some-get_mut.ensures.value)) c.take-2.ensures.message

pub returns-clause-returned_by_channel : goal.returns-clause-returned_by_channel
returns-clause-returned_by_channel c =
    let origin : under c.args.number c.args.origins.now.slots ≡ Some c.in-Some.origin = sym c.in-Some.ensures.value in
    rw origin (returned_by_channel-on c.in-Some.origin.channel (taken_out c.args.number) c.in-Some-get_mut.returned_messages.now c.take-2.new.self c.args.returned_by_channel.now.entries (sym c.in-Some-get_mut.ensures.value) c.take-2.ensures.return_lists)

pub returns-clause-room : goal.returns-clause-room
returns-clause-room c = λ rooms fit. messages-kept c.in-Some.origin.channel c.in-Some-get_mut.returned_messages.now c.take-2.new.self rooms c.args.returned_by_channel.now.entries (sym c.in-Some-get_mut.ensures.value) fit c.take-2.ensures.room
