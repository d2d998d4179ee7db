-- The frame at the back of a link up.
use Rattle.std.proofs.Common.{◌≡◌, ℕ, zero, suc, List, [], ◌∷◌, ◌++◌, length, get_or, Some, refl, ap, arith}
use Rattle.lapin_types.specs.declared.leaving.Left.{Left}
use Rattle.lapin_joint.specs.Joint.{back_frame}

-- one that was put there
pub back_pushed : (ls : List Left) (l : Left) → back_frame (ls ++ l ∷ []) ≡ Some l.frame
back_pushed [] l = refl
back_pushed (k ∷ []) l = refl
back_pushed (k ∷ j ∷ ls) l = back_pushed (j ∷ ls) l

-- the one at the last place
pub back_at : (ls : List Left) (i : ℕ) (l : Left) → length ls ≡ suc i → get_or ls i l ≡ l → back_frame ls ≡ Some l.frame
back_at [] i l h e = absurd (omega arith)
back_at (k ∷ []) zero l h e = ap (λ (x : Left). Some x.frame) e
back_at (k ∷ []) (suc i) l h e = absurd (omega arith)
back_at (k ∷ j ∷ ls) zero l h e = absurd (omega arith)
back_at (k ∷ j ∷ ls) (suc i) l h e = back_at (j ∷ ls) i l (omega arith) e
