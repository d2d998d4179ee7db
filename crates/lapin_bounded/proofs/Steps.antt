-- What a step of the session leaves of the publisher, whether it was made or not.
use Rattle.std.proofs.Common.{◌≡◌, Result, Ok, Err, sym, subst}
use Rattle.std.specs.Prelude.{IfOk, OnOk, OnErr}
use Rattle.lapin_types.specs.declared.event.Event.{Event}
use Rattle.lapin_types.specs.declared.record.Record.{Record}
use Rattle.lapin_types.specs.Types.{Error}
use Rattle.lapin_machine.specs.Numbers.{HasCause}
use Rattle.lapin_machine.specs.World.{World, told_by, next}
use Rattle.lapin_reached.specs.Limited.{IsGuarded, MaySelect}
use Rattle.lapin_bounded.specs.Made.{IsMade}

-- it stays guarded
pub stepped : {R E : Type 0} (r : Result R E) (w v n : World) → OnOk r (v ≡ n) → OnErr r (v ≡ w) → IsGuarded 100 1 w → IsGuarded 100 1 n → IsGuarded 100 1 v
stepped (Ok x) w v n ok err old new = subst (IsGuarded 100 1) (sym ok) new
stepped (Err e) w v n ok err old new = subst (IsGuarded 100 1) (sym err) old

-- the event was made, or nothing changed
pub made : (r : Result Record Error) (w v : World) (e : Event) → IfOk r (λ x. x ≡ told_by w e) → OnOk r (v ≡ next w e) → OnErr r (v ≡ w) → HasCause r e w.wire → IsMade r w e v
made (Ok x) w v e told ok err cause = (told, ok)
made (Err x) w v e told ok err cause = (err, cause)

-- where the limit was called, confirms may be asked for
pub limited : {R E : Type 0} (r : Result R E) (v n : World) → OnOk r (v ≡ n) → MaySelect 100 1 n → OnOk r (MaySelect 100 1 v)
limited (Ok x) v n ok may = subst (MaySelect 100 1) (sym ok) may
limited (Err e) v n ok may = tt
