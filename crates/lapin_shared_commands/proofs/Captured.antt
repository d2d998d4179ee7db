-- What crosses to the threads of the callers. A shift moves to one. What the call of every shift holds, the runtime, the allocator, the gate
-- and the number of callers, they share.
use mathlib.Core.List.{List, [], ◌∷◌}
use Prim.Native.Nat.{ℕ}
use mir.Syntax.{Lifetime}
use base.Fml.{Lft}
use denote.RattleType.{RattleType}
use denote.Ref.{ShrRef}
use denote.Struct.Field.{row_field, u64-field}
use denote.Struct.Tuple.{TupleAt, type_at}
use denote.Param.Send.{IsSync, IsSend, shr_sync, sendable}
use denote.Param.SendFields.{declared_send, declared_sync, as_row_sync}
use Rattle.std.proofs.Crossing.{crosses}
use Rattle.std.specs.declared.sync.ledger.Ledger.{Ghosts}
use Rattle.std.specs.contracts.alloc.Global as Global
use Rattle.lapin_send.proofs.Callers.{caller_send}
use Rattle.lapin_send.proofs.Types.{event_send}
use Rattle.lapin_shared_commands.specs.contracts.shifts.Shift as shift_

module _ (L : RattleType) (g : Ghosts L.Denot) where
  pub shift_send : IsSend (shift_.the_row L g)
  shift_send = declared_send (shift_.the_type L g) (search (caller_send, sendable) depth 60, (search (event_send, crosses, sendable) depth 60, tt))

four_sync : (ν : List ℕ) (A B C D : RattleType) → IsSync A → IsSync B → IsSync C → IsSync D → IsSync (TupleAt ν (A ∷ B ∷ C ∷ D ∷ []))
four_sync ν A B C D a b c d = declared_sync (type_at ν (A ∷ B ∷ C ∷ D ∷ [])) (as_row_sync (row_field A) a, (as_row_sync (row_field B) b, (as_row_sync (row_field C) c, (as_row_sync (row_field D) d, tt))))

alloc_sync : IsSync Global.the_row
alloc_sync = search (crosses, sendable) depth 60

number_sync : IsSync u64-field.row
number_sync = search sendable depth 60

pub captured_sync : (ν : List ℕ) (m₁ m₂ m₃ m₄ : Lifetime) (κ₁ κ₂ κ₃ κ₄ : Lft) (R G : RattleType) → IsSync R → IsSync G
    → IsSync (TupleAt ν (ShrRef m₁ κ₁ R ∷ ShrRef m₂ κ₂ Global.the_row ∷ ShrRef m₃ κ₃ G ∷ ShrRef m₄ κ₄ u64-field.row ∷ []))
captured_sync ν m₁ m₂ m₃ m₄ κ₁ κ₂ κ₃ κ₄ R G s t = four_sync ν (ShrRef m₁ κ₁ R) (ShrRef m₂ κ₂ Global.the_row) (ShrRef m₃ κ₃ G) (ShrRef m₄ κ₄ u64-field.row)
    (shr_sync m₁ κ₁ R s) (shr_sync m₂ κ₂ Global.the_row alloc_sync) (shr_sync m₃ κ₃ G t) (shr_sync m₄ κ₄ u64-field.row number_sync)
