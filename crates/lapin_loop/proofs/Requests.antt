-- Where nothing waits, no request gives a frame.
use Rattle.std.proofs.Common.{◌≡◌, ◌&&◌, ◌||◌, ℕ, Bool, false, List, [], ◌∷◌, Option, Some, None, not, refl, rules}
use Rattle.lapin_types.specs.declared.leaving.Left.{Left}
use Rattle.lapin_types.specs.declared.leaving.Publish.{Publish}
use Rattle.lapin_types.specs.declared.record.Record.TheVariants as record_
use Rattle.lapin_outbox.specs.Returned.{is_retried}
use Rattle.lapin_rules.specs.Frames.{RestEntry, MethodEntry, is_empty}
use Rattle.lapin_rules.specs.Leaving.{handed_of}
use Rattle.lapin_rules.specs.Handing.{frame_record}
use Rattle.lapin_machine.specs.World.{told_or}

pub nothing_told : (r : Option Left) (t : ℕ → Bool) (fs : List RestEntry) (ms : List MethodEntry) (ps : List Publish) →
    (is_retried r || not (is_empty fs && is_empty ms && is_empty ps)) ≡ false → told_or r (frame_record (handed_of t fs ms ps)) ≡ record_.NoFrame
nothing_told None t [] [] [] none = refl
nothing_told None t [] [] (p ∷ ps) none = search rules
nothing_told None t [] (m ∷ ms) ps none = search rules
nothing_told None t (f ∷ fs) ms ps none = search rules
nothing_told (Some l) t fs ms ps none = search rules
