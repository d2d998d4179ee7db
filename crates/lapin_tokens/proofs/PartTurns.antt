-- What a reader of properties knows at each turn, and at the end.
use Rattle.std.proofs.Common.{◌≡◌, ℕ, ◌+◌, ◌<◌, List, [], ◌∷◌, length, drop, get_or, Option, Some, refl, sym, ap, ◌∙◌, Bool, true, add-one, drop-cons}
use Rattle.lapin_values.specs.Properties.{Properties, no_properties}
use Rattle.lapin_scalars.specs.declared.fault.ReadError.{ReadError}
use Rattle.lapin_scalars.specs.declared.fault.ReadError.TheVariants as errors
use Rattle.lapin_scalars.specs.Reading.{Fails}
use Rattle.lapin_tokens.specs.declared.names.Property.{Property}
use Rattle.lapin_tokens.specs.declared.names.TheConstants.{PROPERTIES}
use Rattle.lapin_tokens.specs.Cursor.{◌>>=◌}
use Rattle.lapin_tokens.specs.PropertyReading.{part_at, parts_at, closed, properties_at}
use Rattle.lapin_tokens.specs.ValueReading.{whole}
use Rattle.lapin_tokens.proofs.Turns.{fails_bind, fails_same}

module _ (ps : List Property) (i : ℕ) (d : Property) (v : Properties) (first : Bool) (text : List ℕ) (all : Option (Properties × Bool × List ℕ)) (lt : i < length ps) (ahead : parts_at (drop i ps) v first text ≡ all) where
  one_part : (part_at (get_or ps i d) v first text >>= λ x. parts_at (drop (i + 1) ps) x.0 x.1 x.2) ≡ all
  one_part = rw add-one (sym (ap (λ (l : List Property). parts_at l v first text) (drop-cons ps i d lt)) ∙ ahead)

  pub part_fails : (e : ReadError) → Fails e (part_at (get_or ps i d) v first text) → Fails e all
  part_fails e h = fails_same e _ all one_part (fails_bind e (part_at (get_or ps i d) v first text) _ h)

  pub part_on : (w : Properties) (f : Bool) (t : List ℕ) → part_at (get_or ps i d) v first text ≡ Some (w, f, t) → parts_at (drop (i + 1) ps) w f t ≡ all
  part_on w f t e = sym (rw e refl) ∙ one_part

pub close_fails : (e : ReadError) (text : List ℕ) (v : Properties) (f : Bool) (t : List ℕ) → parts_at PROPERTIES no_properties true text ≡ Some (v, f, t) → Fails e (closed f t) → Fails e (properties_at text)
unfolding properties_at
close_fails e text v f t parts h = rw parts (fails_bind e (closed f t) _ h)

pub not_whole : {A : Type 0} (e : ReadError) (r : Option (A × List ℕ)) (x : A) (left : List ℕ) → r ≡ Some (x, left) → (e ≡ errors.Bad) × (left ≡ [] → ⊥) → Fails e (whole r)
not_whole e r x [] is h = absurd (h.1 refl)
not_whole e r x (b ∷ bs) is h = rw (h.0, is) refl
