-- Histories of runs.
use Rattle.std.proofs.Common.{◌≡◌, ℕ, List, [], ◌∷◌, ◌++◌, None, zip, refl, sym, subst, append_assoc, append-nil}
use Rattle.std.specs.List.{fold}
use Rattle.lapin_types.specs.declared.event.Event.{Event}
use Rattle.lapin_types.specs.declared.record.Record.{Record}
use Rattle.lapin_rules.specs.History.{History, rec, run_from, run}
use Rattle.lapin_rules.specs.Machine.{IsTheMachines}
use Rattle.lapin_rules.proofs.Runs.{machines-run}
use Rattle.lapin_machine.specs.Stands.{Stands}
use Rattle.lapin_machine.specs.World.{World, new_world, next, told_by, outputs}
use Rattle.lapin_machine.specs.Returned.{given_back}
use Rattle.lapin_machine.proofs.Back.{given_none, still_none}
use Rattle.lapin_machine.proofs.Standing.{new_stands, stands-next, outputs_run}
use Rattle.lapin_laws.specs.Runs.{world_after}

pub stands_told : (n : ℕ) (h : History) (w : World) (e : Event) → given_back w.returned e ≡ None → Stands n h w → told_by w e ≡ rec n h e
stands_told n h w e step s = (stands-next n h w (next w e) e (told_by w e) step s refl refl).0

pub stands_next : (n : ℕ) (h : History) (w : World) (e : Event) → given_back w.returned e ≡ None → Stands n h w → Stands n (h ++ (e, told_by w e) ∷ []) (next w e)
stands_next n h w e step s = (stands-next n h w (next w e) e (told_by w e) step s refl refl).1

stands_from : (n : ℕ) (h : History) (w : World) (es : List Event) → w.returned ≡ None → Stands n h w → Stands n (h ++ zip es (run_from n h es)) (fold next w es)
stands_from n h w [] none s = subst (λ k. Stands n k w) (sym (append-nil h)) s
stands_from n h w (e ∷ es) none s =
    let step : given_back w.returned e ≡ None = given_none w.returned e none in
    let r : Record = rec n h e in
    let h' : History = h ++ (e, r) ∷ [] in
    let after : Stands n h' (next w e) = (stands-next n h w (next w e) e r step s (sym (stands_told n h w e step s)) refl).1 in
    let all : Stands n (h' ++ zip es (run_from n h' es)) (fold next (next w e) es) = stands_from n h' (next w e) es (still_none w e none) after in
    subst (λ k. Stands n k (fold next (next w e) es)) (append_assoc h ((e, r) ∷ []) (zip es (run_from n h' es))) all

pub stands_new : (n : ℕ) → Stands n [] (new_world n)
stands_new n = new_stands n (new_world n) refl

pub stands_after : (n : ℕ) (es : List Event) → Stands n (zip es (run n es)) (world_after n es)
stands_after n es = stands_from n [] (new_world n) es refl (stands_new n)

pub told_machines : (n : ℕ) (es : List Event) → IsTheMachines n es (outputs (new_world n) es)
told_machines n es = subst (IsTheMachines n es) (sym (outputs_run n es)) (machines-run n es)
