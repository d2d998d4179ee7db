use Rattle.std.proofs.Common.{refl, ◌≡◌, Some, None, sym}
use Rattle.lapin_tables.specs.Numbered.{under}
use Rattle.lapin_confirm.proofs.ReturnedByChannel.{returned_messages-at}
use Rattle.lapin_confirm.proofs.return_lists.has_message.Goals as goal

pub returns-in-Some-get : goal.returns-in-Some-get
returns-in-Some-get c =
    let origin : under c.args.number c.args.origins.now.slots ≡ Some c.in-Some.origin = sym c.in-Some.ensures.value in
    rw (origin, returned_messages-at c.in-Some.origin.channel c.args.returned_by_channel.now.entries (Some c.in-Some-get.returned_messages.now) (sym c.in-Some-get.ensures)) c.holds.ensures

pub returns-in-None : goal.returns-in-None
returns-in-None c =
    let origin : under c.args.number c.args.origins.now.slots ≡ Some c.in-Some.origin = sym c.in-Some.ensures.value in
    rw (origin, returned_messages-at c.in-Some.origin.channel c.args.returned_by_channel.now.entries None (sym c.in-None.ensures)) refl
