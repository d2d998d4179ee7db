-- Whole runs.
use Rattle.std.proofs.Common.{◌≡◌, ℕ, suc, List, [], ◌∷◌, ◌++◌, length, refl, ap}
use Rattle.lapin_types.specs.declared.event.Event.{Event}
use Rattle.lapin_rules.specs.History.{History, rec, run_from, run}
use Rattle.lapin_rules.specs.Machine.{GoesOn, IsTheMachines}

length-run_from : (n : ℕ) (h : History) (es : List Event) → length (run_from n h es) ≡ length es
length-run_from n h [] = refl
length-run_from n h (e ∷ es) = ap (λ k. suc k) (length-run_from n (h ++ (e, rec n h e) ∷ []) es)

pub length-run : (n : ℕ) (es : List Event) → length (run n es) ≡ length es
length-run n es = length-run_from n [] es

goes-run_from : (n : ℕ) (h : History) (es : List Event) → GoesOn n h es (run_from n h es)
goes-run_from n h [] = tt
goes-run_from n h (e ∷ es) = (refl, refl, goes-run_from n (h ++ (e, rec n h e) ∷ []) es)

pub machines-run : (n : ℕ) (es : List Event) → IsTheMachines n es (run n es)
machines-run n es = goes-run_from n [] es
