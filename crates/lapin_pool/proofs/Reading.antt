-- The newest entry of a log, and how a record that is read later stands there: places rise, so no other entry has its place.
use Rattle.std.proofs.Common.{◌≡◌, ◌∙◌, ℕ, Bool, true, false, ◌+◌, ◌-◌, ◌<◌, ◌++◌, List, [], ◌∷◌, length, refl, sym, ap, subst, arith, Option, Some, None, length-append}
use Rattle.std.specs.Prelude.{slice_get, zero, suc, if◌then◌else◌}
use Rattle.lapin_types.specs.declared.job.Job.{Job}
use Rattle.lapin_types.specs.declared.record.Record.{Record}
use Rattle.lapin_types.specs.declared.record.Record.TheVariants as record_
use Rattle.lapin_work.specs.Jobs.{job, no_job}
use Rattle.lapin_locked.specs.declared.entry.Told.{Told}
use Rattle.lapin_shared.specs.Grown.{Seen, Grew, Rise}
use Rattle.lapin_shared.specs.Read.{HasPlace, IsPlaceAt, IsReadAt, answered}
use Rattle.lapin_pool.specs.declared.turn.Step.{Step}
use Rattle.lapin_pool.specs.declared.turn.Step.TheVariants as step
use Rattle.lapin_pool.specs.Turns.{IsTaken, job_step, step_in, tells_job}

last_is : (xs : List Told) (u t : Told) (k : ℕ) → k ≡ length (xs ++ u ∷ []) - 1 → slice_get (xs ++ u ∷ []) k ≡ Some t → t ≡ u
last_is [] u t zero e s = cc
last_is [] u t (suc k) e s = absurd (omega (arith, e))
last_is (x ∷ []) u t zero e s = absurd (omega (arith, e))
last_is (x ∷ y ∷ xs) u t zero e s = absurd (omega (arith, e))
last_is (x ∷ []) u t (suc k) e s = last_is [] u t k (omega (arith, e)) s
last_is (x ∷ y ∷ xs) u t (suc k) e s = last_is (y ∷ xs) u t k (omega (arith, e)) s

at_end : (xs : List Told) (u : Told) → slice_get (xs ++ u ∷ []) (length xs) ≡ Some u
at_end [] u = refl
at_end (x ∷ xs) u = at_end xs u

-- the newest entry of a log that grew is the one by which it grew
pub newest_is : (old new : Seen) (u t : Told) → Grew old new u → slice_get new.log (length new.log - 1) ≡ Some t → t ≡ u
newest_is old new u t g s =
    let At : List Told → Type 0 = λ l. slice_get l (length l - 1) ≡ Some t in
    last_is old.log u t (length (old.log ++ u ∷ []) - 1) refl (subst At g.1 s)

pub newest_of : (old new : Seen) (u : Told) → Grew old new u → slice_get new.log (length new.log - 1) ≡ Some u
newest_of old new u g =
    let At : List Told → Type 0 = λ l. slice_get l (length l - 1) ≡ Some u in
    let same : length old.log ≡ length (old.log ++ u ∷ []) - 1 = omega (arith, length-append old.log (u ∷ [])) in
    let Here : ℕ → Type 0 = λ k. slice_get (old.log ++ u ∷ []) k ≡ Some u in
    subst At (sym g.1) (subst Here same (at_end old.log u))

pub some_log : (old new : Seen) (u : Told) → Grew old new u → 0 < length new.log
some_log old new u g = omega (arith, ap length g.1, length-append old.log (u ∷ []))

-- the log has the place of its newest entry
pub has_newest : (old new : Seen) (u : Told) → Grew old new u → HasPlace u.place new.log
has_newest old new u g =
    let At : List Told → Type 0 = λ l. slice_get l (length old.log) ≡ Some u in (
      length old.log,
      record {
        entry = u;
        inside = omega (arith, ap length g.1, length-append old.log (u ∷ []));
        stands = subst At (sym g.1) (at_end old.log u);
        is = refl;
      },
    )

last_above : (m : ℕ) (xs : List Told) (t : Told) → Rise m (xs ++ t ∷ []) → m < t.place
last_above m [] t r = r.0
last_above m (x ∷ xs) t r = omega (arith, r.0, last_above x.place xs t r.1)

answered_last : (m : ℕ) (xs : List Told) (t e : Told) (k : ℕ) (a : Record) → Rise m (xs ++ t ∷ []) → slice_get (xs ++ t ∷ []) k ≡ Some e → e.place ≡ t.place
    → answered (xs ++ t ∷ []) k a ≡ xs ++ (record t { answer = Some a }) ∷ []
answered_last m [] t e zero a r s p = refl
answered_last m [] t e (suc k) a r s p = absurd cc
answered_last m (x ∷ xs) t e zero a r s p =
    let is : x ≡ e = cc in
    absurd (omega (arith, last_above x.place xs t r.1, ap (λ v. v.place) is, p))
answered_last m (x ∷ xs) t e (suc k) a r s p = ap (λ l. x ∷ l) (answered_last x.place xs t e k a r.1 s p)

-- an unread job step whose record was read stands as one that was read at once
pub read_is : (a old new : Seen) (p k : ℕ) → Grew a old (job_step p None) → Rise 0 old.log → IsReadAt old k p new → (r : Record) × Grew a new (job_step p (Some r))
read_is a old new p k g rise h =
    let Up : List Told → Type 0 = λ l. Rise 0 l in
    let At : List Told → Type 0 = λ l. slice_get l k ≡ Some h.at.entry in
    let e : answered (a.log ++ job_step p None ∷ []) k h.answer ≡ a.log ++ job_step p (Some h.answer) ∷ [] =
    answered_last 0 a.log (job_step p None) h.at.entry k h.answer (subst Up g.1 rise) (subst At g.1 h.at.stands) h.at.is in
    (h.answer, (h.number ∙ g.0, h.log ∙ ap (λ l. answered l k h.answer) g.1 ∙ e))

step_by : (old new : Seen) (p : ℕ) (r : Record) (b : Bool) (s : Step) → Grew old new (job_step p (Some r)) → tells_job r ≡ b → s ≡ (if b then step.Taken p else step.NoJob) → IsTaken old s new
step_by old new p r true s g e is = subst (λ x. IsTaken old x new) (sym is) (r, e, g)
step_by old new p r false s g e is = subst (λ x. IsTaken old x new) (sym is) (p, r, e, g)

-- what a job step came to is read in the newest entry
pub taken_newest : (old new : Seen) (p : ℕ) (r : Record) (t : Told) (s : Step) → Grew old new (job_step p (Some r)) → slice_get new.log (length new.log - 1) ≡ Some t
    → s ≡ step_in t.answer p → IsTaken old s new
taken_newest old new p r t s g at is =
    let e : t ≡ job_step p (Some r) = newest_is old new (job_step p (Some r)) t g at in
    step_by old new p r (tells_job r) s g refl (is ∙ ap (λ u. step_in u.answer p) e)

-- the same, where the record was read later
pub taken_later : (a old new : Seen) (p k : ℕ) (t : Told) (s : Step) → Grew a old (job_step p None) → Rise 0 old.log → IsReadAt old k p new
    → slice_get new.log (length new.log - 1) ≡ Some t → s ≡ step_in t.answer p → IsTaken a s new
taken_later a old new p k t s g rise h at is =
    let r = read_is a old new p k g rise h in
    taken_newest a new p r.0 t s r.1 at is

-- a job step whose record was read at once
pub taken_at_once : (old new : Seen) (p : ℕ) (j : Job) → Grew old new (job p j) → IsTaken old (step.Taken p) new
taken_at_once old new p j g = (record_.Job j, refl, g)

pub none_at_once : (old new : Seen) (p : ℕ) → Grew old new (no_job p) → IsTaken old step.NoJob new
none_at_once old new p g = (p, record_.NoJob, refl, g)
