-- What a call leaves behind a handle in which a client was.
use Rattle.std.proofs.Common.{◌≡◌, ℕ, Option, Some, Result, Ok, Err, inl, inr, sym, subst}
use Rattle.lapin_client.specs.declared.client.Client.{Client}
use Rattle.lapin_client.specs.declared.status.Status.{Status}
use Rattle.lapin_c.specs.Behind.{Behind, Gave, IsNumbered}

pub behind_some : (says : Client → Client → Type 0) (p : Type 0) (before after : Option Client) (c d : Client) → Some c ≡ before → after ≡ Some d → says c d → Behind says p before after
behind_some says p before after c d was is said = subst (λ (o : Option Client). Behind says p o after) was (d, is, said)

-- a number is written where there is one
pub gave_number : (r : Result ℕ Status) (n old new : ℕ) (p : Result ℕ Status → Type 0) → IsNumbered r n old new → p r → Gave n old new p
gave_number (Ok number) n old new p is said = inl (is.0, subst (λ (m : ℕ). p (Ok m)) (sym is.1) said)
gave_number (Err s) n old new p is said = inr (s, is.0, is.1, said)
