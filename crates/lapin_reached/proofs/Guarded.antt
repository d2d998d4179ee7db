-- A careful caller is guarded: in each state on its way the channel was limited, so at most so many tags are pending.
use Rattle.std.proofs.Common.{◌≡◌, ◌∙◌, ℕ, ◌<◌, ◌≤◌, ◌||◌, Bool, true, None, refl, sym, ap, subst}
use Rattle.std.specs.Coded.{le_prop}
use Rattle.std.proofs.Math.Logic.{∥∥₁_map, ∥∥₁_elim}
use Rattle.lapin_types.specs.declared.call.Call.TheVariants as call
use Rattle.lapin_types.specs.declared.event.Event.{Event}
use Rattle.lapin_types.specs.declared.event.Event.TheVariants as event
use Rattle.lapin_confirm.specs.PublishStates.{selected_on}
use Rattle.lapin_machine.specs.World.{World, new_world, next}
use Rattle.lapin_laws.proofs.Kept.{unreturned_after}
use Rattle.lapin_reached.specs.Reached.{IsLimited, WasLimited, pending_on}
use Rattle.lapin_reached.specs.Limited.{MaySelect, IsCareful, IsPrepared, WasCareful, IsGuarded, select_waits}
use Rattle.lapin_reached.proofs.Pending.{was_new, was_next, was_bound}
use Rattle.lapin_reached.proofs.Prepared.{or_left, prepared_new, prepared_next, set_prepared}

module _ (most c : ℕ) where
  prepared_limited : (w : World) → IsPrepared most c w → IsLimited most c w
  prepared_limited w p = λ live on. p.limited live (or_left (selected_on c w.confirm_state.publish_states) (select_waits c w) on)

  was_unreturned : (w : World) → WasLimited most c w → w.returned ≡ None
  was_unreturned w b = ap (λ (v : World). v.returned) b.is ∙ unreturned_after b.frame_max b.events

  careful_next : (w : World) (e : Event) → IsCareful most c w e → WasCareful most c w → WasCareful most c (next w e)
  careful_next w e h g =
      let p = prepared_next most c w e (was_unreturned w g.was) g.prepared h in
      record { was = was_next most c w e g.was (prepared_limited (next w e) p); prepared = p }

  pub guarded_new : (frame_max : ℕ) → IsGuarded most c (new_world frame_max)
  guarded_new frame_max = ∣ record { was = was_new frame_max most c; prepared = prepared_new most c frame_max } ∣₁

  pub guarded_next : (w : World) (e : Event) → IsGuarded most c w → IsCareful most c w e → IsGuarded most c (next w e)
  guarded_next w e g h = ∥∥₁_map g (careful_next w e h)

  pub guarded_set : (n : ℕ) (w : World) → 0 < n → n ≤ most → IsGuarded most c w → MaySelect most c (next w (event.Call c (call.ConfirmLimit n)))
  guarded_set n w above below g = ∥∥₁_elim g (hlevel (le_prop)) (λ x. set_prepared most c n w above below x.prepared)

  pub guarded_bound : (w : World) → IsGuarded most c w → pending_on c w ≤ most
  guarded_bound w g = ∥∥₁_elim g le_prop (λ x. was_bound most c w x.was)
