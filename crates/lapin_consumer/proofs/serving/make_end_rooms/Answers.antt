use Rattle.std.proofs.lemmas.Option.{slice_get_read}
use Rattle.lapin_consumer.specs.WithRoom.{is_registered_one}
use Rattle.std.proofs.Common.{◌≡◌, true, false, ◌<◌, ◌+◌, length, drop, get_or, ap, ◌∙◌, arith, refl}
use Rattle.lapin_consumer.specs.Words.{places_at}
use Rattle.lapin_consumer.specs.Subscriptions.{is_on}
use Rattle.lapin_consumer.proofs.Ending.{place_seated, same_seat, fitted_first, fitted_next, fitted_all, drop_none, drop_next}
use Rattle.lapin_consumer.proofs.EndRooms.{place_on, fit_kept}
use Rattle.lapin_consumer.proofs.Rooms.{still_promised}
use Rattle.lapin_consumer.proofs.serving.make_end_rooms.Goals as goal

pub loop-place-init : goal.loop-place-init
loop-place-init c = record { same = refl; keeps = λ q fit. fit; promised = refl; fitted = fitted_first c.args.channel c.args.places.now c.args.seats.now.items c.requires }

pub index_mut-requires : goal.index_mut-requires
index_mut-requires c =
    let within : (get_or c.args.places.now c.loop-place.place-index 0) < length c.loop-place.seats.items = (place_seated c.args.channel c.loop-place.place-index c.args.places.now c.loop-place.seats.items (ap (places_at (λ _ x. is_on c.args.channel x)) c.loop-place.invariant.same ∙ c.requires) c.loop-place-test.true) in
    omega (arith, c.loop-place.seats.ok)

pub returns-in_err-reserve-2-clause-same : goal.returns-in_err-reserve-2-clause-same
returns-in_err-reserve-2-clause-same c = same_seat (get_or c.args.places.now c.loop-place.place-index 0) c.index_mut.result.now c.reserve-in-loop-place.new.self c.loop-place.seats.items _ (place_seated c.args.channel c.loop-place.place-index c.args.places.now c.loop-place.seats.items (ap (places_at (λ _ x. is_on c.args.channel x)) c.loop-place.invariant.same ∙ c.requires) c.loop-place-test.true) c.index_mut.ensures.value c.in_err-reserve-2.ensures.same c.loop-place.invariant.same

pub loop-place-preserved : goal.loop-place-preserved
loop-place-preserved c = record {
  same = same_seat (get_or c.args.places.now c.loop-place.place-index 0) c.index_mut.result.now c.reserve-in-loop-place.new.self c.loop-place.seats.items _ (place_seated c.args.channel c.loop-place.place-index c.args.places.now c.loop-place.seats.items (ap (places_at (λ _ x. is_on c.args.channel x)) c.loop-place.invariant.same ∙ c.requires) c.loop-place-test.true) c.index_mut.ensures.value c.in_ok-reserve-2.ensures.same c.loop-place.invariant.same;
  keeps = λ q fit. fit_kept q (get_or c.args.places.now c.loop-place.place-index 0) c.index_mut.result.now c.reserve-in-loop-place.new.self c.loop-place.seats.items (place_seated c.args.channel c.loop-place.place-index c.args.places.now c.loop-place.seats.items (ap (places_at (λ _ x. is_on c.args.channel x)) c.loop-place.invariant.same ∙ c.requires) c.loop-place-test.true) c.index_mut.ensures.value c.in_ok-reserve-2.ensures.same c.in_ok-reserve-2.ensures.kept (c.loop-place.invariant.keeps q fit);
  promised = still_promised (get_or c.args.places.now c.loop-place.place-index 0) c.index_mut.result.now c.reserve-in-loop-place.new.self c.loop-place.seats.items _ (place_seated c.args.channel c.loop-place.place-index c.args.places.now c.loop-place.seats.items (ap (places_at (λ _ x. is_on c.args.channel x)) c.loop-place.invariant.same ∙ c.requires) c.loop-place-test.true) c.index_mut.ensures.value c.in_ok-reserve-2.ensures.promised c.loop-place.invariant.promised;
  fitted = fitted_next c.args.channel (get_or c.args.places.now c.loop-place.place-index 0) (drop c.loop-place.place-index c.args.places.now) (drop (c.loop-place.place-index + 1) c.args.places.now) c.index_mut.result.now c.reserve-in-loop-place.new.self c.loop-place.seats.items (drop_next c.loop-place.place-index c.args.places.now c.loop-place-test.true) (place_seated c.args.channel c.loop-place.place-index c.args.places.now c.loop-place.seats.items (ap (places_at (λ _ x. is_on c.args.channel x)) c.loop-place.invariant.same ∙ c.requires) c.loop-place-test.true) c.index_mut.ensures.value c.in_ok-reserve-2.ensures.same c.in_ok-reserve-2.ensures.room c.loop-place.invariant.fitted;
}

pub returns-clause-room : goal.returns-clause-room
returns-clause-room c = fitted_all c.args.channel (drop c.loop-place.place-index c.args.places.now) c.loop-place.seats.items (drop_none c.loop-place.place-index c.args.places.now c.loop-place-test.false) c.loop-place.invariant.fitted

pub returns-in_err-reserve-2-clause-kept : goal.returns-in_err-reserve-2-clause-kept
returns-in_err-reserve-2-clause-kept c fit = fit_kept is_registered_one (get_or c.args.places.now c.loop-place.place-index 0) c.index_mut.result.now c.reserve-in-loop-place.new.self c.loop-place.seats.items (place_seated c.args.channel c.loop-place.place-index c.args.places.now c.loop-place.seats.items (ap (places_at (λ _ x. is_on c.args.channel x)) c.loop-place.invariant.same ∙ c.requires) c.loop-place-test.true) c.index_mut.ensures.value c.in_err-reserve-2.ensures.same c.in_err-reserve-2.ensures.kept (c.loop-place.invariant.keeps is_registered_one fit)

pub returns-in_err-reserve-2-clause-succeeds : goal.returns-in_err-reserve-2-clause-succeeds
returns-in_err-reserve-2-clause-succeeds c jobs_fit fit =
    let on = place_on c.args.channel c.loop-place.place-index c.args.places.now c.index_mut.result.now c.loop-place.seats.items (ap (places_at (λ _ x. is_on c.args.channel x)) c.loop-place.invariant.same ∙ c.requires) c.loop-place-test.true (place_seated c.args.channel c.loop-place.place-index c.args.places.now c.loop-place.seats.items (ap (places_at (λ _ x. is_on c.args.channel x)) c.loop-place.invariant.same ∙ c.requires) c.loop-place-test.true) c.index_mut.ensures.value in
    let room = c.loop-place.invariant.keeps (is_on c.args.channel) fit (get_or c.args.places.now c.loop-place.place-index 0) c.index_mut.result.now (slice_get_read c.loop-place.seats.items (length c.loop-place.seats.items) (get_or c.args.places.now c.loop-place.place-index 0) c.index_mut.result.now refl (place_seated c.args.channel c.loop-place.place-index c.args.places.now c.loop-place.seats.items (ap (places_at (λ _ x. is_on c.args.channel x)) c.loop-place.invariant.same ∙ c.requires) c.loop-place-test.true) c.index_mut.ensures.value) on in
    let no : false ≡ true = c.in_err-reserve-2.ensures.succeeds room in
    cc

pub returns-clause-kept : goal.returns-clause-kept
returns-clause-kept c fit = c.loop-place.invariant.keeps is_registered_one fit

pub returns-in_err-reserve-2-clause-promised : goal.returns-in_err-reserve-2-clause-promised
returns-in_err-reserve-2-clause-promised c = still_promised (get_or c.args.places.now c.loop-place.place-index 0) c.index_mut.result.now c.reserve-in-loop-place.new.self c.loop-place.seats.items _ (place_seated c.args.channel c.loop-place.place-index c.args.places.now c.loop-place.seats.items (ap (places_at (λ _ x. is_on c.args.channel x)) c.loop-place.invariant.same ∙ c.requires) c.loop-place-test.true) c.index_mut.ensures.value c.in_err-reserve-2.ensures.promised c.loop-place.invariant.promised

pub returns-clause-promised : goal.returns-clause-promised
returns-clause-promised c = c.loop-place.invariant.promised
