-- What an outcome can make of a message.
use Rattle.std.proofs.Common.{◌≡◌, ℕ, ◌==◌, Bool, true, false, true≢false, cond, Option, Some, None, refl, sym}
use Rattle.std.proofs.lemmas.Bool.{eqb-true}
use Rattle.lapin_types.specs.declared.outcome.Outcome.{Outcome}
use Rattle.lapin_types.specs.declared.outcome.Outcome.TheVariants as outcome
use Rattle.lapin_keeping.specs.declared.fate.Fate.{Fate}
use Rattle.lapin_keeping.specs.declared.fate.Fate.TheVariants as fate
use Rattle.lapin_keeping.specs.declared.kept.Kept.{Kept}
use Rattle.lapin_keeping.specs.Fates.{blame, of_blame, of_outcome, tried}

-- a failure leaves no message stored
not_stored : (b : Bool) (f : Fate) (o : Option Fate) → o ≡ None → (f ≡ fate.Stored → ⊥) → cond b (Some f) o ≡ Some fate.Stored → ⊥
not_stored true f o none differs is = differs cc
not_stored false f o none differs is = cc

-- a close stores no message, and gives up none but at its last try
closed_stores : (b : Bool) (code : ℕ) (k : Kept) → k.fate ≡ None → (cond b (tried (fate.Closed code) k) (record k { outstanding = None; suspect = true })).fate ≡ Some fate.Stored → ⊥
closed_stores true code k none is = not_stored (k.left == 1) (fate.Closed code) k.fate none (λ same. cc) is
closed_stores false code k none is = cc

acked_stores : (b : Bool) (k : Kept) (f : Option Fate) → (f ≡ Some fate.Stored → ⊥) → cond b f (Some fate.Stored) ≡ Some fate.Stored → b ≡ false
acked_stores true k f never is = absurd (never is)
acked_stores false k f never is = refl

pub an_ack_stores : (o : Outcome) (k : Kept) → k.fate ≡ None → (of_outcome o k).fate ≡ Some fate.Stored → (o ≡ outcome.Ack) × (k.came_back ≡ false)
an_ack_stores outcome.Ack k none is = (refl, by_mark k.came_back refl)
  where
    by_mark : (b : Bool) → k.came_back ≡ b → k.came_back ≡ false
    by_mark false e = e
    by_mark true e = absurd (not_stored (k.left == 1) fate.Returned k.fate none (λ same. cc) (rw e at is))
an_ack_stores outcome.Nack k none is = absurd (not_stored (k.left == 1) fate.Refused k.fate none (λ same. cc) is)
an_ack_stores outcome.NotRequested k none is = absurd cc
an_ack_stores (outcome.Failed e) k none is = absurd (blamed (blame e) is)
  where
    blamed : (o : Option ℕ) → (of_blame o k).fate ≡ Some fate.Stored → ⊥
    blamed None is = cc
    blamed (Some code) is = closed_stores k.suspect code k none is

one : (n : ℕ) (b : Bool) → (n == 1) ≡ b → b ≡ true → n ≡ 1
one n true e h = eqb-true n 1 e
one n false e h = absurd (true≢false (sym h))

tries : (n : ℕ) (b : Bool) (f g : Fate) (o : Option Fate) → (n == 1) ≡ b → o ≡ None → cond b (Some f) o ≡ Some g → n ≡ 1
tries n true f g o e none is = one n true e refl
tries n false f g o e none is = absurd cc

closed_at_last : (b : Bool) (code : ℕ) (k : Kept) (f : Fate) → k.fate ≡ None → (cond b (tried (fate.Closed code) k) (record k { outstanding = None; suspect = true })).fate ≡ Some f → k.left ≡ 1
closed_at_last true code k f none is = tries k.left (k.left == 1) (fate.Closed code) f k.fate refl none is
closed_at_last false code k f none is = absurd cc

pub last_try : (o : Outcome) (k : Kept) (f : Fate) → k.fate ≡ None → (of_outcome o k).fate ≡ Some f → (f ≡ fate.Stored → ⊥) → k.left ≡ 1
last_try outcome.Ack k f none is differs = by_mark k.came_back refl
  where
    by_mark : (b : Bool) → k.came_back ≡ b → k.left ≡ 1
    by_mark true e = tries k.left (k.left == 1) fate.Returned f k.fate refl none (rw e at is)
    by_mark false e =
        let same : Some fate.Stored ≡ Some f = rw e at is in
        absurd (differs cc)
last_try outcome.Nack k f none is differs = tries k.left (k.left == 1) fate.Refused f k.fate refl none is
last_try outcome.NotRequested k f none is differs = absurd cc
last_try (outcome.Failed e) k f none is differs = blamed (blame e) is
  where
    blamed : (o : Option ℕ) → (of_blame o k).fate ≡ Some f → k.left ≡ 1
    blamed None is = absurd cc
    blamed (Some code) is = closed_at_last k.suspect code k f none is
