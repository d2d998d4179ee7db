-- Where nothing may leave though no publish may begin, nothing has begun.
use Rattle.std.proofs.Common.{◌≡◌, ℕ, Bool, false, List, [], ◌∷◌, Option, Some, None, refl, arith}
use Rattle.lapin_client.specs.Sending.{IsIdle}
use Rattle.lapin_rules.specs.Flow.{begins_on}
use Rattle.lapin_rules.specs.Frames.{MethodEntry, RestEntry}
use Rattle.lapin_rules.specs.Handing.{frame_record}
use Rattle.lapin_rules.specs.Leaving.{handed_of}
use Rattle.lapin_machine.specs.World.{World, told_or, told_anew, full_in}
use Rattle.lapin_types.specs.declared.event.Event.TheVariants as event
use Rattle.lapin_types.specs.declared.leaving.Left.{Left}
use Rattle.lapin_types.specs.declared.leaving.Publish.{Publish}
use Rattle.lapin_types.specs.declared.record.Record.TheVariants as record_

idle_lists : (t : ℕ → Bool) (rest : List RestEntry) (ms : List MethodEntry) (ps : List Publish) → frame_record (handed_of t rest ms ps) ≡ record_.NoFrame → (rest ≡ []) × (ms ≡ [])
idle_lists t (f ∷ fs) ms ps h = grind (h, arith)
idle_lists t [] (m ∷ ms) ps h = grind (h, arith)
idle_lists t [] [] ps h = (refl, refl)

idle_or : (o : Option Left) (w : World) → told_or o (told_anew w (event.Next false)) ≡ record_.NoFrame → (w.wire.rest ≡ []) × (w.wire.methods ≡ [])
idle_or None w h = idle_lists (begins_on false (full_in w.confirm_state) w.wire) w.wire.rest w.wire.methods w.wire.publishes h
idle_or (Some l) w h = grind (h, arith)

pub idle : (w : World) → IsIdle false w → (w.wire.rest ≡ []) × (w.wire.methods ≡ [])
idle w h = idle_or w.returned w h
