use Rattle.std.proofs.Common.{◌≤◌, arith}
use Rattle.lapin_confirm.specs.Ties.{promised}
use Rattle.lapin_confirm.proofs.Roomy.{room-less}
use Rattle.lapin_confirm.proofs.rooms.make_room.Goals as goal

pub returns-in_err-make_room_for_tag-clause-room : goal.returns-in_err-make_room_for_tag-clause-room
returns-in_err-make_room_for_tag-clause-room c =
    let cells : promised c.note.new.rooms.entries ≤ c.reserve.new.self.spare = omega (arith, c.note.ensures.count, c.requires.room.cells, c.reserve.ensures.kept) in
    let base = room-less c.args.rooms.now.entries c.note.new.rooms.entries c.args.confirm_modes.now.entries c.args.returned_by_channel.now.entries c.args.cells.now.spare c.reserve.new.self.spare c.requires.room (λ d. omega (arith, c.note.ensures.same d)) cells in
    record { cells = cells; tags = c.make_room_for_tag.ensures.tags c.note.new.rooms.entries base.tags; messages = base.messages }

pub returns-in_err-make_room_for_message-clause-room : goal.returns-in_err-make_room_for_message-clause-room
returns-in_err-make_room_for_message-clause-room c =
    let cells : promised c.note.new.rooms.entries ≤ c.reserve.new.self.spare = omega (arith, c.note.ensures.count, c.requires.room.cells, c.reserve.ensures.kept) in
    let base = room-less c.args.rooms.now.entries c.note.new.rooms.entries c.args.confirm_modes.now.entries c.args.returned_by_channel.now.entries c.args.cells.now.spare c.reserve.new.self.spare c.requires.room (λ d. omega (arith, c.note.ensures.same d)) cells in
    record { cells = cells; tags = c.make_room_for_tag.ensures.tags c.note.new.rooms.entries base.tags; messages = c.make_room_for_message.ensures.messages c.note.new.rooms.entries base.messages }

pub returns-clause-room : goal.returns-clause-room
returns-clause-room c =
    let cells : promised c.note.new.rooms.entries ≤ c.reserve.new.self.spare = omega (arith, c.note.ensures.count, c.requires.room.cells, c.reserve.ensures.kept) in
    let base = room-less c.args.rooms.now.entries c.note.new.rooms.entries c.args.confirm_modes.now.entries c.args.returned_by_channel.now.entries c.args.cells.now.spare c.reserve.new.self.spare c.requires.room (λ d. omega (arith, c.note.ensures.same d)) cells in
    record { cells = cells; tags = c.make_room_for_tag.ensures.tags c.note.new.rooms.entries base.tags; messages = c.make_room_for_message.ensures.messages c.note.new.rooms.entries base.messages }
