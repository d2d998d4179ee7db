-- A turn of work from its stages.
use Rattle.std.proofs.Common.{◌≡◌, ℕ, ◌-◌, List, [], ◌∷◌, ◌++◌, length, refl, sym, ap, subst, inr, arith, Option, Some, None, Result, Ok, Err, IfSome, MatchOption}
use Rattle.std.specs.Prelude.{slice_get, zero, suc}
use Rattle.lapin_types.specs.declared.message.Delivery.{Delivery}
use Rattle.lapin_types.specs.declared.job.Job.{Job}
use Rattle.lapin_types.specs.declared.job.JobKind.{JobKind}
use Rattle.lapin_types.specs.declared.job.JobKind.TheVariants as job_kind
use Rattle.lapin_types.specs.declared.event.Event.TheVariants as event
use Rattle.lapin_types.specs.declared.record.Record.TheVariants as record_
use Rattle.lapin_rules.specs.Consumers.{job_record}
use Rattle.lapin_machine.specs.World.{World, told_by}
use Rattle.lapin_acker.specs.declared.verdict.Verdict.{Verdict}
use Rattle.lapin_shared.specs.declared.caller.StepError.{StepError}
use Rattle.lapin_shared.specs.declared.caller.StepError.TheVariants as failed
use Rattle.lapin_locked.specs.declared.entry.Told.{Told}
use Rattle.lapin_shared.specs.Grown.{Seen, Grew}
use Rattle.lapin_work.specs.declared.work.Work.{Work}
use Rattle.lapin_work.specs.declared.work.Work.TheVariants as work
use Rattle.lapin_work.specs.declared.decision.Decision.{Decision}
use Rattle.lapin_work.specs.declared.decision.Decision.TheVariants as decision
use Rattle.lapin_work.specs.Jobs.{Handed, job, no_job, delivery_in, job_in_record, job_in}
use Rattle.lapin_work.specs.Decided.{IsDecided, IsHandled, IsJudged}
use Rattle.lapin_work.specs.Worked.{Worked, TookJob, IsFollowed, IsCarriedOut, IsSettled}

none_is : (o : Option Job) → job_in_record (job_record o) ≡ None → job_record o ≡ record_.NoJob
none_is None e = refl
none_is (Some j) e = absurd cc

some_is : (o : Option Job) (j : Job) → job_in_record (job_record o) ≡ Some j → job_record o ≡ record_.Job j
some_is None j e = absurd cc
some_is (Some k) j e = cc

-- a step for a job that tells none found none
pub no_job_told : (w : World) → job_in (Some (told_by w event.NextJob)) ≡ None → told_by w event.NextJob ≡ record_.NoJob
no_job_told w e = none_is _ e

pub job_told : (w : World) (j : Job) → job_in (Some (told_by w event.NextJob)) ≡ Some j → told_by w event.NextJob ≡ record_.Job j
job_told w j e = some_is _ j e

-- what a delegate answered to a delivery, and to what is none
pub judged_some : (may : Handed → Verdict → Type 0) (y : Handed) (d : Delivery) (v : Verdict) → Some d ≡ delivery_in y → may y v → IsJudged may y (decision.Judged d.acker.number v)
judged_some may (Ok (Some e)) d v is answered = let same : d ≡ e = cc in (ap (λ (x : Delivery). x.acker.number) same, answered)
judged_some may (Ok None) d v is answered = cc
judged_some may (Err e) d v is answered = cc

pub judged_none : (may : Handed → Verdict → Type 0) (y : Handed) (v : Verdict) → None ≡ delivery_in y → may y v → IsJudged may y decision.Handled
judged_none may (Ok (Some e)) v is answered = cc
judged_none may (Ok None) v is answered = (v, answered)
judged_none may (Err e) v is answered = (v, answered)

-- what follows a job, by what was decided
judged_followed : (may : Handed → Verdict → Type 0) (mid new : Seen) (n : ℕ) (y : Handed) (x : Decision) (result : Result Work StepError) → IsJudged may y x
    → IsCarriedOut mid n x result new → IsFollowed may mid n (job_kind.Deliver y) result new
judged_followed may mid new n (Ok None) decision.NoDelegate result j c = absurd j
judged_followed may mid new n (Ok None) decision.Handled result j c = (j, c.0, c.1)
judged_followed may mid new n (Ok None) (decision.Judged a v) result j c = absurd j
judged_followed may mid new n (Err e) decision.NoDelegate result j c = absurd j
judged_followed may mid new n (Err e) decision.Handled result j c = (j, c.0, c.1)
judged_followed may mid new n (Err e) (decision.Judged a v) result j c = absurd j
judged_followed may mid new n (Ok (Some d)) decision.NoDelegate result j c = absurd j
judged_followed may mid new n (Ok (Some d)) decision.Handled result j c = absurd j
judged_followed may mid new n (Ok (Some d)) (decision.Judged a v) result j c = (v, j.1, subst (λ b. IsSettled mid n b v result new) j.0 c)

followed : (may : Handed → Verdict → Type 0) (mid new : Seen) (n : ℕ) (k : JobKind) (x : Decision) (result : Result Work StepError) → IsHandled may k x
    → IsCarriedOut mid n x result new → IsFollowed may mid n k result new
followed may mid new n (job_kind.Deliver y) x result j c = judged_followed may mid new n y x result j c
followed may mid new n job_kind.Discard decision.NoDelegate result j c = absurd j
followed may mid new n job_kind.Discard decision.Handled result j c = c
followed may mid new n job_kind.Discard (decision.Judged a v) result j c = absurd j

-- how a turn may end behind its job
abbrev EndsBehindJob : Result Work StepError → Type 0
EndsBehindJob (Ok (work.Done n)) = Unit {0}
EndsBehindJob (Ok _) = ⊥
EndsBehindJob (Err failed.NoMemory) = ⊥
EndsBehindJob (Err _) = Unit {0}

settled_ends : (mid new : Seen) (n a : ℕ) (v : Verdict) (result : Result Work StepError) → IsSettled mid n a v result new → EndsBehindJob result
settled_ends mid new n a v (Ok work.NoJob) s = s
settled_ends mid new n a v (Ok (work.Done m)) s = tt
settled_ends mid new n a v (Ok (work.NoDelegate m)) s = s
settled_ends mid new n a v (Err failed.NoMemory) s = s
settled_ends mid new n a v (Err (failed.Unread p)) s = tt
settled_ends mid new n a v (Err (failed.Unsent b w)) s = tt

followed_ends : (may : Handed → Verdict → Type 0) (mid new : Seen) (n : ℕ) (k : JobKind) (result : Result Work StepError) → IsFollowed may mid n k result new
    → EndsBehindJob result
followed_ends may mid new n (job_kind.Deliver (Ok None)) result f = subst EndsBehindJob (sym f.1) tt
followed_ends may mid new n (job_kind.Deliver (Err e)) result f = subst EndsBehindJob (sym f.1) tt
followed_ends may mid new n (job_kind.Deliver (Ok (Some d))) result (v, m, s) = settled_ends mid new n d.acker.number v result s
followed_ends may mid new n job_kind.Discard result f = subst EndsBehindJob (sym f.0) tt

took : (none : ℕ → Type 0) (may : ℕ → Handed → Verdict → Type 0) (old new : Seen) (result : Result Work StepError) → TookJob none may old result new → EndsBehindJob result
    → Worked none may old result new
took none may old new (Ok work.NoJob) t e = absurd e
took none may old new (Ok (work.Done n)) t e = t
took none may old new (Ok (work.NoDelegate n)) t e = absurd e
took none may old new (Err failed.NoMemory) t e = absurd e
took none may old new (Err (failed.Unread p)) t e = inr t
took none may old new (Err (failed.Unsent a v)) t e = t

handled : (none : ℕ → Type 0) (may : ℕ → Handed → Verdict → Type 0) (old mid new : Seen) (p : ℕ) (j : Job) (x : Decision) (result : Result Work StepError)
    → Grew old mid (job p j) → (none j.consumer → ⊥) → IsHandled (may j.consumer) j.kind x → IsCarriedOut mid j.consumer x result new → Worked none may old result new
handled none may old mid new p j x result grew some judged out =
    let f = followed (may j.consumer) mid new j.consumer j.kind x result judged out in
    took none may old new result (p, j, mid, grew, some, f) (followed_ends (may j.consumer) mid new j.consumer j.kind result f)

-- a job was taken, its delegate asked, and what was decided was done
pub turn_is : (none : ℕ → Type 0) (may : ℕ → Handed → Verdict → Type 0) (old mid new : Seen) (p : ℕ) (j : Job) (x : Decision) (result : Result Work StepError)
    → Grew old mid (job p j) → IsDecided none may j x → IsCarriedOut mid j.consumer x result new → Worked none may old result new
turn_is none may old mid new p j decision.NoDelegate result grew decided out =
    subst (λ r. Worked none may old r new) (sym out.0) (p, j, refl, decided, subst (λ s. Grew old s (job p j)) (sym out.1) grew)
turn_is none may old mid new p j decision.Handled result grew decided out = handled none may old mid new p j decision.Handled result grew decided.0 decided.1 out
turn_is none may old mid new p j (decision.Judged a v) result grew decided out = handled none may old mid new p j (decision.Judged a v) result grew decided.0 decided.1 out

last_is : (xs : List Told) (u t : Told) (k : ℕ) → k ≡ length (xs ++ u ∷ []) - 1 → slice_get (xs ++ u ∷ []) k ≡ Some t → t ≡ u
last_is [] u t zero e s = cc
last_is [] u t (suc k) e s = absurd (omega (arith, e))
last_is (x ∷ []) u t zero e s = absurd (omega (arith, e))
last_is (x ∷ y ∷ xs) u t zero e s = absurd (omega (arith, e))
last_is (x ∷ []) u t (suc k) e s = last_is [] u t k (omega (arith, e)) s
last_is (x ∷ y ∷ xs) u t (suc k) e s = last_is (y ∷ xs) u t k (omega (arith, e)) s

-- the same, where the job is read in the newest entry
turn_read : (none : ℕ → Type 0) (may : ℕ → Handed → Verdict → Type 0) (old mid new : Seen) (p : ℕ) (t : Told) (n : ℕ) (x : Decision) (result : Result Work StepError)
    → ((j : Job) × Grew old mid (job p j)) → slice_get mid.log (length mid.log - 1) ≡ Some t → IfSome (job_in t.answer) (λ i. (n ≡ i.consumer) × IsDecided none may i x)
    → IsCarriedOut mid n x result new → Worked none may old result new
turn_read none may old mid new p t n x result (j, grew) at decided out =
    let At : List Told → Type 0 = λ l. slice_get l (length l - 1) ≡ Some t in
    let is : t ≡ job p j = last_is old.log (job p j) t (length (old.log ++ job p j ∷ []) - 1) refl (subst At grew.1 at) in
    let Decided : Told → Type 0 = λ u. IfSome (job_in u.answer) (λ i. (n ≡ i.consumer) × IsDecided none may i x) in
    let d : (n ≡ j.consumer) × IsDecided none may j x = subst Decided is decided in
    turn_is none may old mid new p j x result grew d.1 (subst (λ m. IsCarriedOut mid m x result new) d.0 out)

-- the same, of what taking a job answers
pub turn_made : (none : ℕ → Type 0) (may : ℕ → Handed → Verdict → Type 0) (old mid new : Seen) (o : Option ℕ) (p : ℕ) (t : Told) (n : ℕ) (x : Decision) (result : Result Work StepError)
    → o ≡ Some p → MatchOption o ((q : ℕ) × Grew old mid (no_job q)) (λ q. (j : Job) × Grew old mid (job q j)) → slice_get mid.log (length mid.log - 1) ≡ Some t
    → IfSome (job_in t.answer) (λ i. (n ≡ i.consumer) × IsDecided none may i x) → IsCarriedOut mid n x result new → Worked none may old result new
turn_made none may old mid new o p t n x result is took at decided out =
    let Took : Option ℕ → Type 0 = λ u. MatchOption u ((q : ℕ) × Grew old mid (no_job q)) (λ q. (j : Job) × Grew old mid (job q j)) in
    turn_read none may old mid new p t n x result (subst Took is took) at decided out
