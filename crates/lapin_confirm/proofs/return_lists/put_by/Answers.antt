use Rattle.std.proofs.Common.{◌≡◌, Some, sym}
use Rattle.lapin_tables.specs.Numbered.{under}
use Rattle.lapin_rules.specs.ReturnLists.{set_by}
use Rattle.lapin_confirm.proofs.ReturnedByChannel.{returned_by_channel-on, returned_by_channel-same, returned_by_channel-absent}
use Rattle.lapin_confirm.proofs.Roomy.{messages-kept}
use Rattle.lapin_confirm.proofs.return_lists.put_by.Goals as goal

pub returns-in_default-get_mut-clause-ok : goal.returns-in_default-get_mut-clause-ok
returns-in_default-get_mut-clause-ok c =
    let origin : under c.args.number c.args.origins.now.slots ≡ Some c.in-Some.origin = sym c.in-Some.ensures.value in
    rw origin (sym (returned_by_channel-absent c.in-Some.origin.channel (set_by c.args.number c.args.resolved) c.args.returned_by_channel.now.entries (sym c.in_default-get_mut.ensures.value)))

pub returns-in-Err-clause-err : goal.returns-in-Err-clause-err
returns-in-Err-clause-err c = returned_by_channel-same c.in-Some.origin.channel c.in-Some-get_mut.returned_messages.now c.put_by.new.self c.args.returned_by_channel.now.entries (sym c.in-Some-get_mut.ensures.value) c.in-Err.ensures.err

pub returns-in-Err-clause-room : goal.returns-in-Err-clause-room
returns-in-Err-clause-room c = λ rooms fit. messages-kept c.in-Some.origin.channel c.in-Some-get_mut.returned_messages.now c.put_by.new.self rooms c.args.returned_by_channel.now.entries (sym c.in-Some-get_mut.ensures.value) fit c.put_by.ensures.place

pub returns-clause-ok : goal.returns-clause-ok
returns-clause-ok c =
    let origin : under c.args.number c.args.origins.now.slots ≡ Some c.in-Some.origin = sym c.in-Some.ensures.value in
    rw origin (returned_by_channel-on c.in-Some.origin.channel (set_by c.args.number c.args.resolved) c.in-Some-get_mut.returned_messages.now c.put_by.new.self c.args.returned_by_channel.now.entries (sym c.in-Some-get_mut.ensures.value) c.in_default-put_by.ensures.ok)

pub returns-clause-room : goal.returns-clause-room
returns-clause-room c = λ rooms fit. messages-kept c.in-Some.origin.channel c.in-Some-get_mut.returned_messages.now c.put_by.new.self rooms c.args.returned_by_channel.now.entries (sym c.in-Some-get_mut.ensures.value) fit c.put_by.ensures.place
