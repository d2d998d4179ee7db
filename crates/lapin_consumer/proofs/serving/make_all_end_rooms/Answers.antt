use Rattle.std.proofs.Common.{◌<◌, ◌≤◌, length, arith}
use Rattle.lapin_consumer.proofs.Ending.{same_seat}
use Rattle.lapin_consumer.proofs.EndRooms.{below_next, below_all}
use Rattle.lapin_consumer.proofs.Several.{same_length}
use Rattle.lapin_consumer.proofs.Rooms.{still_promised}
use Rattle.lapin_consumer.proofs.serving.make_all_end_rooms.Goals as goal

pub returns-in_err-make_room_if_registered-clause-same : goal.returns-in_err-make_room_if_registered-clause-same
returns-in_err-make_room_if_registered-clause-same c =
    let within : c.loop-place.place < length c.loop-place.seats.items = omega (arith, c.len-place-end.ensures, c.args.seats.now.ok, c.loop-place.invariant.count, c.loop-place-test.true) in
    same_seat c.loop-place.place c.index_mut.result.now c.make_room_if_registered.new.seat c.loop-place.seats.items _ within c.index_mut.ensures.value c.in_err-make_room_if_registered.ensures.same c.loop-place.invariant.same

pub loop-place-preserved : goal.loop-place-preserved
loop-place-preserved c =
    let within : c.loop-place.place < length c.loop-place.seats.items = omega (arith, c.len-place-end.ensures, c.args.seats.now.ok, c.loop-place.invariant.count, c.loop-place-test.true) in
    record {
      count = same_length c.loop-place.seats.items c.args.seats.now.items c.loop-place.place c.make_room_if_registered.new.seat c.loop-place.invariant.count;
      same = same_seat c.loop-place.place c.index_mut.result.now c.make_room_if_registered.new.seat c.loop-place.seats.items _ within c.index_mut.ensures.value c.in_ok-make_room_if_registered.ensures.same c.loop-place.invariant.same;
      promised = still_promised c.loop-place.place c.index_mut.result.now c.make_room_if_registered.new.seat c.loop-place.seats.items _ within c.index_mut.ensures.value c.in_ok-make_room_if_registered.ensures.promised c.loop-place.invariant.promised;
      below = below_next c.loop-place.place c.index_mut.result.now c.make_room_if_registered.new.seat c.loop-place.seats.items within c.in_ok-make_room_if_registered.ensures.same c.in_ok-make_room_if_registered.ensures.room c.loop-place.invariant.below;
    }

pub returns-clause-room : goal.returns-clause-room
returns-clause-room c =
    let past : length c.loop-place.seats.items ≤ c.loop-place.place = omega (arith, c.len-place-end.ensures, c.args.seats.now.ok, c.loop-place.invariant.count, c.loop-place-test.false) in
    below_all c.loop-place.place c.loop-place.seats.items past c.loop-place.invariant.below

pub returns-in_err-make_room_if_registered-clause-promised : goal.returns-in_err-make_room_if_registered-clause-promised
returns-in_err-make_room_if_registered-clause-promised c =
    let within : c.loop-place.place < length c.loop-place.seats.items = omega (arith, c.len-place-end.ensures, c.args.seats.now.ok, c.loop-place.invariant.count, c.loop-place-test.true) in
    still_promised c.loop-place.place c.index_mut.result.now c.make_room_if_registered.new.seat c.loop-place.seats.items _ within c.index_mut.ensures.value c.in_err-make_room_if_registered.ensures.promised c.loop-place.invariant.promised

pub returns-clause-promised : goal.returns-clause-promised
returns-clause-promised c = c.loop-place.invariant.promised
