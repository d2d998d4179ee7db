-- A step over all messages, in order, each step with what those before it left.
use Rattle.std.specs.Prelude.{◌≡◌, ℕ, List, [], ◌∷◌, ◌++◌, take, drop}
use Rattle.lapin_keeping.specs.declared.kept.Kept.{Kept}

-- all messages, and what is left behind the last
abbrev pub each : {S : Type 0} → (S → Kept → Kept × S) → S → List Kept → List Kept × S
each f s [] = ([], s)
each f s (k ∷ ks) = ((f s k).0 ∷ (each f (f s k).1 ks).0, (each f (f s k).1 ks).1)

-- a step failed, and changed nothing: those before it are made, and the messages from it on stay
pub record IsUntil {S : Type 0} (f : S → Kept → Kept × S) (s t : S) (old new : List Kept) : Type 0 where
  pub count : ℕ
  pub messages : new ≡ (each f s (take count old)).0 ++ drop count old
  pub state : t ≡ (each f s (take count old)).1
