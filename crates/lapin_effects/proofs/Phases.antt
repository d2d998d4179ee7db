-- A table of channels with one of them set anew.
use Rattle.std.proofs.Common.{◌≡◌, ◌∙◌, ℕ, ◌==◌, Bool, true, false, cond, List, [], ◌∷◌, ◌++◌, Option, Some, None, refl, sym, ap, eq-eqb}
use Rattle.std.specs.Option.{is_some, option_map}
use Rattle.lapin_rules.specs.Words.{with_channel}
use Rattle.lapin_tables.specs.ByChannel.{at_channel, on_channel}
use Rattle.lapin_tables.proofs.Channels.{at-push, at-on_same, at-on_other, or-none}

at_with : {X : Type 0} (c : ℕ) (x : X) (es : List (ℕ × X)) (o : Option X) → at_channel c es ≡ o → at_channel c (cond (is_some o) (on_channel c (λ _. x) es) (es ++ (c, x) ∷ [])) ≡ Some x
at_with c x es None h =
    let here : (c == c) ≡ true = eq-eqb c c refl in
    at-push c c x es ∙ rw (h, here) refl
at_with c x es (Some z) h = at-on_same c (λ _. x) es ∙ ap (λ o. option_map (λ _. x) o) h

pub at-same : {X : Type 0} (c : ℕ) (x : X) (es : List (ℕ × X)) → at_channel c (with_channel c x es) ≡ Some x
at-same c x es = at_with c x es (at_channel c es) refl

at_apart : {X : Type 0} (c d : ℕ) (x : X) (es : List (ℕ × X)) (b : Bool) → (c == d) ≡ false → at_channel d (cond b (on_channel c (λ _. x) es) (es ++ (c, x) ∷ [])) ≡ at_channel d es
at_apart c d x es true h = at-on_other c d (λ _. x) es (λ e. let z : (c == d) ≡ true = eq-eqb c d e in let w : true ≡ false = sym z ∙ h in cc)
at_apart c d x es false h = at-push c d x es ∙ rw h (or-none (at_channel d es))

pub at-other : {X : Type 0} (c d : ℕ) (x : X) (es : List (ℕ × X)) → (c == d) ≡ false → at_channel d (with_channel c x es) ≡ at_channel d es
at-other c d x es h = at_apart c d x es (is_some (at_channel c es)) h
