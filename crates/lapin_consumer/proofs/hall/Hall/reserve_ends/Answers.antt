use Rattle.lapin_consumer.proofs.EndRooms.{has_ends_now}
use Rattle.lapin_consumer.proofs.Rooms.{hall_keeps, fits_same}
use Rattle.lapin_consumer.proofs.hall.Hall.reserve_ends.Goals as goal

pub returns-clause-room : goal.returns-clause-room
returns-clause-room c = has_ends_now c.self.inside.seats.items c.make_all_end_rooms.new.seats.items c.make_all_end_rooms.new.jobs.items _ c.in_ok-make_all_end_rooms.ensures.same c.in_ok-make_all_end_rooms.ensures.room c.in_ok-make_all_end_rooms.ensures.job_room

pub returns-in_err-make_all_end_rooms-clause-kept : goal.returns-in_err-make_all_end_rooms-clause-kept
returns-in_err-make_all_end_rooms-clause-kept c = hall_keeps c.self.inside.seats.items c.make_all_end_rooms.new.seats.items _ c.args.self.now.subscriptions _ 0 c.args.self.now c.self.view_is c.in_err-make_all_end_rooms.ensures.promised

pub returns-clause-kept : goal.returns-clause-kept
returns-clause-kept c = hall_keeps c.self.inside.seats.items c.make_all_end_rooms.new.seats.items _ c.args.self.now.subscriptions _ 0 c.args.self.now c.self.view_is c.in_ok-make_all_end_rooms.ensures.promised

pub invariant_of-self : goal.invariant_of-self
invariant_of-self c = fits_same c.self.inside.seats.items c.make_all_end_rooms.new.seats.items _ _ c.in_err-make_all_end_rooms.ensures.promised c.self.invariant c.in_err-make_all_end_rooms.ensures.jobs_kept

pub invariant_of-self-2 : goal.invariant_of-self-2
invariant_of-self-2 c = fits_same c.self.inside.seats.items c.make_all_end_rooms.new.seats.items _ _ c.in_ok-make_all_end_rooms.ensures.promised c.self.invariant c.in_ok-make_all_end_rooms.ensures.jobs_kept
