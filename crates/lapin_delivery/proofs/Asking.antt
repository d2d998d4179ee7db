-- Where there is no job, one who asks for a job changes nothing.
use Rattle.std.proofs.Common.{◌≡◌, List, [], ◌∷◌, ◌++◌, drop, Option, Some, None, refl, sym, ◌∙◌, ap, slice_get}
use Rattle.std.specs.Prelude.{IfNone}
use Rattle.lapin_types.specs.declared.job.Job.{Job}
use Rattle.lapin_acker.specs.declared.switch.Switch.{Switch}
use Rattle.lapin_consumer.specs.Words.{map_at, gather_at}
use Rattle.lapin_consumer.specs.Marks as mark
use Rattle.lapin_consumer.specs.Subscriptions.{Subscriptions, moved, owed, after_mark}
use Rattle.lapin_consumer.proofs.Single.{same_subscriptions, gather-never, map-never}
use Rattle.lapin_registry.specs.Topologies.{Topologies}
use Rattle.lapin_delivery.specs.Deliveries.{Deliveries}

none-is : (js : List Job) → slice_get js 0 ≡ None → js ≡ []
none-is [] none = refl
none-is (j ∷ js) none = cc

asked-nothing : (r : Subscriptions) → slice_get r.jobs 0 ≡ None → after_mark r mark.JobAsked ≡ r
asked-nothing r none =
    let empty : r.jobs ≡ [] = none-is r.jobs none in
    same_subscriptions (map_at (moved mark.JobAsked) r.consumers) r.consumers (drop 1 (r.jobs ++ gather_at (owed mark.JobAsked) r.consumers)) r.jobs (map-never r.consumers)
    (ap (λ js. drop 1 (js ++ gather_at (owed mark.JobAsked) r.consumers)) empty ∙ ap (drop 1) (gather-never r.consumers) ∙ sym empty)

pub asked-none : (job : Option Job) (old new : Subscriptions) (ss : List Switch) (ts : Topologies) → job ≡ slice_get old.jobs 0 → new ≡ after_mark old mark.JobAsked → IfNone job (◌≡◌ {A = Deliveries} (record { subscriptions = new; switches = ss; topologies = ts }) (record { subscriptions = old; switches = ss; topologies = ts }))
asked-none None old new ss ts is after = let e : new ≡ old = after ∙ asked-nothing old (sym is) in ap (λ (r : Subscriptions). record { subscriptions = r; switches = ss; topologies = ts }) e
asked-none (Some j) old new ss ts is after = tt
