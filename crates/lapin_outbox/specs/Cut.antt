-- What it means that bytes are cut into bodies, in the words of the standard (AMQP 0-9-1, section 4.2.6.2).
use Rattle.std.specs.Prelude.{◌≡◌, ℕ, ◌<◌, ◌≤◌, List, [], ◌∷◌, length, All}
use Rattle.std.specs.List.{concat}
use Rattle.lapin_types.specs.Types.{Frame}
use Rattle.lapin_types.specs.Types.frame

-- each piece but the last has n bytes
abbrev pub AreFull : ℕ → List (List ℕ) → Type 0
AreFull n [] = Unit {0}
AreFull n (piece ∷ []) = Unit {0}
AreFull n (piece ∷ other ∷ others) = (length piece ≡ n) × AreFull n (other ∷ others)

-- the pieces joined are the bytes, each has 1 to n bytes, and each but the last has n; so no bytes have no piece
pub record IsCut (n : ℕ) (bytes : List ℕ) (pieces : List (List ℕ)) : Type 0 where
  pub joined : concat pieces ≡ bytes
  pub sized : All (λ piece. (0 < length piece) × (length piece ≤ n)) pieces
  pub full : AreFull n pieces

-- the payloads of the bodies among these frames
abbrev pub body_payloads : List Frame → List (List ℕ)
body_payloads [] = []
body_payloads (frame.Body c bytes ∷ fs) = bytes ∷ body_payloads fs
body_payloads (f ∷ fs) = body_payloads fs
