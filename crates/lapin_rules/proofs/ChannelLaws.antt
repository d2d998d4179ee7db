-- What a write of one channel's value does to every channel.
use Rattle.std.proofs.Common.{◌≡◌, ℕ, ◌==◌, Bool, true, false, cond, List, [], ◌∷◌, ◌++◌, Option, Some, None, refl, sym, ◌∙◌, subst, inl, inr}
use Rattle.std.specs.Option.{option_map, option_or}
use Rattle.std.proofs.lemmas.Bool.Decides.{eqb_tells}
use Rattle.lapin_tables.specs.ByChannel.{at_channel, on_channel}
use Rattle.lapin_tables.proofs.Channels.{at-push, at-on_same, at-on_other}
use Rattle.lapin_rules.specs.Words.{is_some, with_channel}

pub at-on : {X : Type 0} (c d : ℕ) (f : X → X) (es : List (ℕ × X)) → at_channel d (on_channel c f es) ≡ cond (c == d) (option_map f (at_channel d es)) (at_channel d es)
at-on {X} c d f es =
    elim (eqb_tells c d) [
      | inl same ↦
          let P : ℕ → Type 0 = λ k. at_channel k (on_channel c f es) ≡ option_map f (at_channel k es) in
          rw same.0 (subst P same.1 (at-on_same c f es))
      | inr other ↦ rw other.0 (at-on_other c d f es other.1)
    ]

some_or : {X : Type 0} (o : Option X) (b : Bool) (x : X) → is_some o ≡ true → cond b (Some x) o ≡ cond b (option_map (λ _. x) o) o
some_or None b x h = cc
some_or (Some y) true x h = refl
some_or (Some y) false x h = refl

none_or : {X : Type 0} (o p : Option X) → is_some o ≡ false → option_or o p ≡ p
none_or None p h = refl
none_or (Some y) p h = cc

-- the value of a channel after a write
pub at-with : {X : Type 0} (c d : ℕ) (x : X) (es : List (ℕ × X)) → at_channel d (with_channel c x es) ≡ cond (c == d) (Some x) (at_channel d es)
at-with {X} c d x es =
    elim (is_some (at_channel c es)) as (λ b. is_some (at_channel c es) ≡ b → at_channel d (cond b (on_channel c (λ _. x) es) (es ++ (c, x) ∷ [])) ≡ cond (c == d) (Some x) (at_channel d es)) [
      | true ↦ λ h. at-on c d (λ _. x) es ∙
          elim (eqb_tells c d) [
            | inl same ↦ let P : ℕ → Type 0 = λ k. is_some (at_channel k es) ≡ true in sym (some_or (at_channel d es) (c == d) x (subst P same.1 h))
            | inr other ↦ rw other.0 refl
          ]
      | false ↦ λ h. at-push c d x es ∙
          elim (eqb_tells c d) [
            | inl same ↦ let P : ℕ → Type 0 = λ k. is_some (at_channel k es) ≡ false in rw same.0 (none_or (at_channel d es) (Some x) (subst P same.1 h))
            | inr other ↦ rw other.0 (elim (at_channel d es) as (λ o. option_or o None ≡ o) [ None ↦ refl | Some y ↦ refl ])
          ]
    ] refl
