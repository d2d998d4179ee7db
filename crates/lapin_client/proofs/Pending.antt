-- Numbers whose polls are pending, one after the other.
use Rattle.std.proofs.Common.{◌≡◌, ℕ, ◌+◌, Bool, true, false, not, List, refl, sym, ap, subst, ◌∙◌, inl, inr, arith, slice_get, slice_index_or}
use Rattle.std.proofs.lemmas.Bool.{cases_lt}
use Rattle.std.proofs.lemmas.Option.{get_or_from_slice_get}
use Rattle.lapin_client.specs.Ready.{AllPending}
use Rattle.lapin_machine.specs.Told.{is_pending_record}
use Rattle.lapin_machine.specs.World.{World, told_by}
use Rattle.lapin_types.specs.declared.event.Event.{Event}

not_false : (r b : Bool) → r ≡ not b → r ≡ false → b ≡ true
not_false r true is no_ = refl
not_false r false is no_ = let w : true ≡ false = sym is ∙ no_ in absurd cc

pub pending_more : (poll : ℕ → Event) (from place : ℕ) (numbers : List ℕ) (w : World) (ready : Bool) → AllPending poll from place numbers w → ready ≡ not (is_pending_record (told_by w (poll (slice_index_or numbers place 0)))) → ready ≡ false → AllPending poll from (place + 1) numbers w
pending_more poll from place numbers w ready passed is unready q m le lt there = elim (cases_lt q place) [
  | inl before ↦ passed q m le before there
  | inr behind ↦
      let same : q ≡ place = omega (arith, lt, behind) in
      let it : slice_index_or numbers place 0 ≡ m = get_or_from_slice_get numbers place m 0 (ap (slice_get numbers) (sym same) ∙ there) in
      subst (λ (n : ℕ). is_pending_record (told_by w (poll n)) ≡ true) it (not_false ready (is_pending_record (told_by w (poll (slice_index_or numbers place 0)))) is unready)
]
