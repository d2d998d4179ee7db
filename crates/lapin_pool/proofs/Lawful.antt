-- A step for a job that tells none tells that there is none: so says every history that a session could have told.
use Rattle.std.proofs.Common.{◌≡◌, ◌∙◌, ℕ, ◌-◌, ◌++◌, true, false, List, [], ◌∷◌, map, refl, sym, ap, subst, Option, Some, None}
use Rattle.std.specs.Prelude.{slice_get, zero, suc}
use Rattle.lapin_types.specs.declared.event.Event.{Event}
use Rattle.lapin_types.specs.declared.event.Event.TheVariants as event
use Rattle.lapin_types.specs.declared.job.Job.{Job}
use Rattle.lapin_types.specs.declared.record.Record.{Record}
use Rattle.lapin_types.specs.declared.record.Record.TheVariants as record_
use Rattle.lapin_rules.specs.Consumers.{job_record}
use Rattle.lapin_rules.specs.History.{History, rec, run_from}
use Rattle.lapin_locked.specs.declared.entry.Entry.{Entry}
use Rattle.lapin_locked.specs.Lawful.{event_of, answer_of, IsLawful}
use Rattle.lapin_pool.specs.Turns.{tells_job}
use Rattle.lapin_pool.proofs.Workers.{TellsNone}

none_told : (o : Option Job) → tells_job (job_record o) ≡ false → job_record o ≡ record_.NoJob
none_told None e = refl
none_told (Some j) e = absurd cc

told_none : (frame_max : ℕ) (past : History) (e : Event) → e ≡ event.NextJob → tells_job (rec frame_max past e) ≡ false → rec frame_max past e ≡ record_.NoJob
told_none frame_max past e is none =
    let P : Event → Type 0 = λ x. tells_job (rec frame_max past x) ≡ false → rec frame_max past x ≡ record_.NoJob in
    subst P (sym is) (λ no_job. none_told _ no_job) none

first_of : (x y : Record) (xs ys : List Record) → x ∷ xs ≡ y ∷ ys → x ≡ y
first_of x y xs ys e = cc

rest_of : (x y : Record) (xs ys : List Record) → x ∷ xs ≡ y ∷ ys → xs ≡ ys
rest_of x y xs ys e = cc

tells_from : (frame_max : ℕ) (past : History) (h : List Entry) → map answer_of h ≡ run_from frame_max past (map event_of h) → (k : ℕ) (x : Entry) → slice_get h k ≡ Some x → x.event ≡ event.NextJob
    → tells_job x.answer ≡ false → x.answer ≡ record_.NoJob
tells_from frame_max past [] lawful k x at is none = absurd cc
tells_from frame_max past (y ∷ h) lawful zero x at is none =
    let same : y ≡ x = cc in
    let r = rec frame_max past y.event in
    let first : y.answer ≡ r = first_of y.answer r (map answer_of h) (run_from frame_max (past ++ (y.event, r) ∷ []) (map event_of h)) lawful in
    let answer : x.answer ≡ r = ap (λ (z : Entry). z.answer) (sym same) ∙ first in
    answer ∙ told_none frame_max past y.event (ap (λ (z : Entry). z.event) same ∙ is) (ap tells_job (sym answer) ∙ none)
tells_from frame_max past (y ∷ h) lawful (suc k) x at is none =
    let r = rec frame_max past y.event in
    tells_from frame_max (past ++ (y.event, r) ∷ []) h (rest_of y.answer r (map answer_of h) (run_from frame_max (past ++ (y.event, r) ∷ []) (map event_of h)) lawful) k x at is none

pub tells_none : (frame_max : ℕ) (h : List Entry) → IsLawful frame_max h → TellsNone h
tells_none frame_max h lawful p x stands is none = tells_from frame_max [] h lawful (p - 1) x stands.1 is none
