-- The places of the channels in their table, as one channel's change.
use Rattle.std.proofs.Common.{◌≡◌, ◌≢◌, ℕ, zero, suc, ◌==◌, cond, List, [], ◌∷◌, ◌++◌, length, map, Option, Some, None, refl, sym, ap, subst, ◌∙◌, ne_eqb, eq-eqb}
use Rattle.std.specs.Option.{option_map, option_or}
use Rattle.lapin_tables.specs.ByChannel.{at_channel, on_channel}
use Rattle.lapin_tables.specs.Numbered.{Slots, under}
use Rattle.lapin_tables.proofs.Channels.{at-push, at-on_same, at-on_other, or-none}
use Rattle.lapin_check.specs.declared.seen.Settlement.{Settlement}
use Rattle.lapin_check.specs.declared.account.Counted.{Counted}
use Rattle.lapin_check.specs.Marks.{mark}
use Rattle.lapin_check.specs.Pointing.{slots_in, places_of, Points, AreSettled}
use Rattle.lapin_check.proofs.Pointing.{none_left}

module _ (c : ℕ) (s : Slots ℕ) (es : List (ℕ × Slots ℕ)) where
  pub places-written : (old : Slots ℕ) → at_channel c es ≡ Some old → places_of c (on_channel c (λ _. s) es) ≡ s.slots
  places-written old known = ap slots_in (at-on_same c (λ _. s) es ∙ ap (option_map (λ _. s)) known)

  pub places-beside : (d : ℕ) → d ≢ c → places_of d (on_channel c (λ _. s) es) ≡ places_of d es
  places-beside d apart = ap slots_in (at-on_other c d (λ _. s) es (λ e. apart (sym e)))

  pub places-new : at_channel c es ≡ None → places_of c (es ++ (c, s) ∷ []) ≡ s.slots
  places-new none =
      let last : option_or (at_channel c es) (cond (c == c) (Some s) None) ≡ Some s = rw (none, eq-eqb c c refl) refl in
      ap slots_in (at-push c c s es ∙ last)

  pub places-new_beside : (d : ℕ) → d ≢ c → places_of d (es ++ (c, s) ∷ []) ≡ places_of d es
  places-new_beside d apart =
      let none : option_or (at_channel d es) (cond (c == d) (Some s) None) ≡ at_channel d es = rw (ne_eqb c d (λ e. apart (sym e))) (or-none (at_channel d es)) in
      ap slots_in (at-push c d s es ∙ none)

module _ (s : Settlement) (o p : ℕ) (es : List (ℕ × Slots ℕ)) (account : List Counted) where
  -- the places of the settlement's channel changed
  pub settled_there : (old new : Slots ℕ) (after : List Counted) → at_channel s.channel es ≡ Some old → after ≡ map (mark p o s) account → length new.slots ≡ length old.slots → Points s.channel o new.slots after → AreSettled s o p es (on_channel s.channel (λ _. new) es) account after
  settled_there old new after known marked long points = record {
    marked = marked;
    long = ap length (places-written s.channel new es old known) ∙ long ∙ ap (λ (x : Option (Slots ℕ)). length (slots_in x)) (sym known);
    points = subst (λ (ps : List (Option ℕ)). Points s.channel o ps after) (sym (places-written s.channel new es old known)) points;
    others = places-beside s.channel new es;
  }

  -- its channel has none
  pub settled_nowhere : at_channel s.channel es ≡ None → Points s.channel o (places_of s.channel es) account → AreSettled s o p es es account account
  settled_nowhere none points = record {
    marked = none_left s.channel o (places_of s.channel es) account points p s refl (λ n i at. absurd (nowhere n i (subst (λ (x : Option (Slots ℕ)). under n (slots_in x) ≡ Some i) none at)));
    long = refl;
    points = points;
    others = λ d apart. refl;
  }
    where
      nowhere : (n i : ℕ) → under {T = ℕ} n [] ≡ Some i → ⊥
      nowhere zero i h = cc
      nowhere (suc n) i h = cc
