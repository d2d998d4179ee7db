-- The fates of messages, one behind the other.
use Rattle.std.proofs.Common.{◌≡◌, ◌∙◌, ℕ, ◌+◌, ◌<◌, List, [], ◌∷◌, ◌++◌, length, drop, get_or, Option, Some, None, refl, sym, ap, append_assoc}
use Rattle.std.proofs.lemmas.List.{drop_more}
use Rattle.lapin_keeping.specs.declared.fate.Fate.{Fate}
use Rattle.lapin_keeping.specs.declared.kept.Kept.{Kept}
use Rattle.lapin_keeping.specs.Keepings.{fate_onto, fates}

onto : (n : ℕ) (o : Option Fate) (fs : List (ℕ × Fate)) → fate_onto n o fs ≡ fate_onto n o [] ++ fs
onto n None fs = refl
onto n (Some f) fs = refl

-- a message's fate was told: what is left to tell is that of those behind it
pub fates_step : (ts us all : List (ℕ × Fate)) (ms : List Kept) (i : ℕ) (d x : Kept) → i < length ms → x ≡ get_or ms i d → us ≡ ts ++ fates (x ∷ []) → ts ++ fates (drop i ms) ≡ all → us ++ fates (drop (i + 1) ms) ≡ all
fates_step ts us all ms i d x lt is told before =
    let cut : drop i ms ≡ x ∷ drop (i + 1) ms = drop_more ms i d lt ∙ ap (λ (z : Kept). z ∷ drop (i + 1) ms) (sym is) in
    let split : fates (x ∷ drop (i + 1) ms) ≡ fates (x ∷ []) ++ fates (drop (i + 1) ms) = onto x.number x.fate (fates (drop (i + 1) ms)) in
    ap (λ (zs : List (ℕ × Fate)). zs ++ fates (drop (i + 1) ms)) told
    ∙ append_assoc ts (fates (x ∷ [])) (fates (drop (i + 1) ms))
    ∙ ap (λ (zs : List (ℕ × Fate)). ts ++ zs) (sym split)
    ∙ ap (λ (zs : List Kept). ts ++ fates zs) (sym cut)
    ∙ before
