-- The frames that points give are those of the records.
use Rattle.std.proofs.Common.{◌≡◌, ℕ, List, [], ◌∷◌, ◌++◌, map, zip, refl, ◌∙◌, ap, subst, Option, Some, None}
use Rattle.std.specs.List.{cons_option}
use Rattle.std.specs.Prelude.{slice_get}
use Rattle.lapin_types.specs.declared.event.Event.{Event}
use Rattle.lapin_types.specs.declared.event.Event.TheVariants as event
use Rattle.lapin_types.specs.declared.record.Record.{Record}
use Rattle.lapin_types.specs.declared.leaving.Publish.{Publish}
use Rattle.lapin_types.specs.Types.{Frame}
use Rattle.lapin_rules.specs.ConfirmMarks.{ConfirmMark}
use Rattle.lapin_rules.specs.TicketReadings.{TicketMark}
use Rattle.lapin_rules.specs.Wire.{Wire}
use Rattle.lapin_rules.specs.Events.{confirm_marks, record_of}
use Rattle.lapin_rules.specs.History.{History, Past, longer, past, rec, run_from, run, readings_of}
use Rattle.lapin_rules.specs.Consumers.{job_told}
use Rattle.lapin_machine.proofs.Standing.{past-push}
use Rattle.lapin_laws.specs.Outgoing.{Point, Called, Requested, Ended, called_by, given_by, requested_by, ended_in, points_on, points, given_in, frames_in}
use Rattle.lapin_laws.proofs.Records.{other_frame, asked_frame}

-- ---- the points of one event

given-ends : (cs : List ℕ) (ps : List Point) → given_in (map Ended cs ++ ps) ≡ given_in ps
given-ends [] ps = refl
given-ends (c ∷ cs) ps = given-ends cs ps

given-calls : (qs : List Publish) (ps : List Point) → given_in (map Called qs ++ ps) ≡ given_in ps
given-calls [] ps = refl
given-calls (q ∷ qs) ps = given-calls qs ps

quiet : (r : Record) (ps : List Point) (rs : List Record) → given_by r ≡ None → given_in ps ≡ frames_in rs → given_in ps ≡ frames_in (r ∷ rs)
quiet r ps rs none h = rw none h

given_next : (o : Option Frame) (ps : List Point) (fs : List Frame) → given_in ps ≡ fs → given_in (Requested o ∷ ps) ≡ cons_option o fs
given_next None ps fs h = h
given_next (Some f) ps fs h = ap (λ gs. f ∷ gs) h

given_requested : (b : Wire) (ms : List ConfirmMark) (ts : List TicketMark) (e : Event) (ps : List Point) (rs : List Record) → given_in ps ≡ frames_in rs → given_in (requested_by e (record_of b (readings_of ms ts) e) ++ ps) ≡ frames_in (record_of b (readings_of ms ts) e ∷ rs)
given_requested b ms ts (event.Next flow) ps rs h = given_next (given_by (record_of b (readings_of ms ts) (event.Next flow))) ps (frames_in rs) h
given_requested b ms ts event.NextJob ps rs h = quiet (job_told b) ps rs (asked_frame (slice_get b.deliveries.subscriptions.jobs 0)) h
given_requested b ms ts e ps rs h = quiet (record_of b (readings_of ms ts) e) ps rs (other_frame b ms ts e refl) h

given-run : (n : ℕ) (h : History) (es : List Event) → given_in (points_on (past n h) (zip es (run_from n h es))) ≡ frames_in (run_from n h es)
given-run n h [] = refl
given-run n h (e ∷ es) =
    let before : Past = past n h in
    let r : Record = rec n h e in
    let h' : History = h ++ (e, r) ∷ [] in
    let more : History = zip es (run_from n h' es) in
    let ps : List Point = points_on (longer before e r) more in
    let rest : given_in ps ≡ frames_in (run_from n h' es) = subst (λ q. given_in (points_on q more) ≡ frames_in (run_from n h' es)) (past-push _ h e r) (given-run n h' es) in
    given-ends (ended_in (confirm_marks before.wire e r)) (map Called (called_by e r) ++ (requested_by e r ++ ps))
    ∙ (given-calls (called_by e r) (requested_by e r ++ ps) ∙ given_requested before.wire before.confirms before.tickets e ps (run_from n h' es) rest)

pub given_are : (n : ℕ) (es : List Event) → given_in (points n (zip es (run n es))) ≡ frames_in (run n es)
given_are n es = given-run n [] es
