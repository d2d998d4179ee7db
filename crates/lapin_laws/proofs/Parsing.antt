-- The frames of a run are unbroken.
use Rattle.std.proofs.Common.{ℕ, ◌<◌, List, [], ◌∷◌, ◌++◌, map, zip, refl, ◌∙◌, ap, subst, append_assoc}
use Rattle.lapin_types.specs.declared.event.Event.{Event}
use Rattle.lapin_types.specs.declared.record.Record.{Record}
use Rattle.lapin_types.specs.declared.leaving.Publish.{Publish}
use Rattle.lapin_rules.specs.Readings.{Readings}
use Rattle.lapin_rules.specs.Events.{confirm_marks}
use Rattle.lapin_rules.specs.History.{History, Past, longer, past, rec, run_from, run, readings_of}
use Rattle.lapin_machine.specs.Stands.{IsShut}
use Rattle.lapin_machine.proofs.Shut.{shut-next}
use Rattle.lapin_machine.proofs.Standing.{past-push}
use Rattle.lapin_laws.specs.Outgoing.{Called, Ended, called_by, requested_by, ended_in, points_on, points}
use Rattle.lapin_laws.specs.Unbroken.{Parses, Unbroken}
use Rattle.lapin_laws.proofs.Parts.{IsPart}
use Rattle.lapin_laws.proofs.Cuts.{frames_of}
use Rattle.lapin_laws.proofs.Moving.{Sound, start_sound}
use Rattle.lapin_laws.proofs.Going.{Goes, added_by, goes}

parses-run : (n : ℕ) (h : History) (es : List Event) (calls : List Publish) → 8 < n → IsShut (past n h).wire → Sound n (past n h).wire → IsPart (past n h).wire.publishes calls → Parses n (points_on (past n h) (zip es (run_from n h es))) (frames_of (past n h).wire.rest) calls
parses-run n h [] calls big shut s p = tt
parses-run n h (e ∷ es) calls big shut s p =
    let before : Past = past n h in
    let readings : Readings = readings_of before.confirms before.tickets in
    let r : Record = rec n h e in
    let h' : History = h ++ (e, r) ∷ [] in
    let more : History = zip es (run_from n h' es) in
    let step : Goes n before.wire (longer before e r).wire (ended_in (confirm_marks before.wire e r)) (added_by before.wire e r) = goes n before.wire readings e shut s in
    let D : Past → Type 0 = λ q. IsShut q.wire → Sound n q.wire → (later : List Publish) → IsPart q.wire.publishes later → Parses n (points_on q more) (frames_of q.wire.rest) later in
    let rest : D (longer before e r) = subst D (past-push _ h e r) (λ z s later part. parses-run n h' es later big z s part) in
    let all : Parses n (added_by before.wire e r ++ points_on (longer before e r) more) (frames_of before.wire.rest) calls = step.parses big (points_on (longer before e r) more) calls p (rest (shut-next before.wire readings e shut) step.sound) in
    let same = append_assoc (map Ended (ended_in (confirm_marks before.wire e r))) (map Called (called_by e r) ++ requested_by e r) (points_on (longer before e r) more) ∙ ap (λ ys. map Ended (ended_in (confirm_marks before.wire e r)) ++ ys) (append_assoc (map Called (called_by e r)) (requested_by e r) (points_on (longer before e r) more)) in
    subst (λ ps. Parses n ps (frames_of before.wire.rest) calls) same all

pub unbroken : (n : ℕ) (es : List Event) → 8 < n → Unbroken n (points n (zip es (run n es)))
unbroken n es big = parses-run n [] es [] big (λ _. refl) (start_sound n) tt
