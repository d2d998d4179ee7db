use Rattle.std.proofs.Common.{◌≡◌, ◌*◌, true, false, refl, ap, ◌∙◌, length}
use Rattle.lapin_consumer.specs.Words.{places_at}
use Rattle.lapin_consumer.specs.Subscriptions.{is_on}
use Rattle.lapin_consumer.specs.WithRoom.{WithRoom}
use Rattle.lapin_consumer.proofs.Ending.{consumers_of}
use Rattle.lapin_consumer.proofs.EndRooms.{ends_fit, ends_enough, ends_left, fit_on}
use Rattle.lapin_consumer.proofs.Rooms.{hall_keeps, many_same, fits_same, fits_left}
use Rattle.lapin_consumer.proofs.hall.Hall.end.Goals as goal

never : false ≡ true → ⊥
never h = cc

pub returns-in_err-make_end_rooms-clause-room : goal.returns-in_err-make_end_rooms-clause-room
returns-in_err-make_end_rooms-clause-room c ends =
    let fit = ends_fit c.self.inside.seats.items c.self.inside.jobs.items _ c.args.self.now c.self.view_is ends in
    let are = ap (λ (k : WithRoom). places_at (λ _ x. is_on c.args.channel x) k.subscriptions.consumers) c.self.view_is ∙ c.requires in
    absurd (never (c.in_err-make_end_rooms.ensures.succeeds (ends_enough c.args.channel (length c.self.inside.seats.items) _ c.args.places.now (consumers_of c.self.inside.seats.items) are fit.1) (fit_on c.args.channel c.self.inside.seats.items fit.0)))

pub returns-clause-room : goal.returns-clause-room
returns-clause-room c ends =
    let fit = ends_fit c.self.inside.seats.items c.self.inside.jobs.items _ c.args.self.now c.self.view_is ends in
    let are = ap (λ (k : WithRoom). places_at (λ _ x. is_on c.args.channel x) k.subscriptions.consumers) c.self.view_is ∙ c.requires in
    (refl, ends_left c.args.channel c.args.error c.args.places.now c.self.inside.seats.items c.make_end_rooms.new.seats.items c.end_all.new.seats.items c.end_all.new.jobs.items _ _ _ c.in_ok-make_end_rooms.ensures.same are c.end_all.ensures.consumers (many_same c.self.inside.seats.items c.end_all.new.seats.items (c.end_all.ensures.promised ∙ c.in_ok-make_end_rooms.ensures.promised)) fit.1 c.in_ok-make_end_rooms.ensures.jobs_kept c.end_all.ensures.jobs_left (c.end_all.ensures.kept (c.in_ok-make_end_rooms.ensures.kept fit.0)))

pub returns-in_err-make_end_rooms-clause-kept : goal.returns-in_err-make_end_rooms-clause-kept
returns-in_err-make_end_rooms-clause-kept c = hall_keeps c.self.inside.seats.items c.make_end_rooms.new.seats.items _ c.args.self.now.subscriptions _ 0 c.args.self.now c.self.view_is c.in_err-make_end_rooms.ensures.promised

pub returns-clause-kept : goal.returns-clause-kept
returns-clause-kept c = hall_keeps c.self.inside.seats.items c.end_all.new.seats.items _ c.args.self.now.subscriptions _ 0 c.args.self.now c.self.view_is (c.end_all.ensures.promised ∙ c.in_ok-make_end_rooms.ensures.promised)

pub invariant_of-self : goal.invariant_of-self
invariant_of-self c = fits_same c.self.inside.seats.items c.make_end_rooms.new.seats.items _ _ c.in_err-make_end_rooms.ensures.promised c.self.invariant c.in_err-make_end_rooms.ensures.jobs_kept

pub invariant_of-self-2 : goal.invariant_of-self-2
invariant_of-self-2 c = fits_left c.self.inside.seats.items c.end_all.new.seats.items (2 * length c.args.places.now) _ _ (c.end_all.ensures.promised ∙ c.in_ok-make_end_rooms.ensures.promised) c.in_ok-make_end_rooms.ensures.job_room c.end_all.ensures.jobs_left
