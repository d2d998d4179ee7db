-- What stands in a block: a cell there is resolved, and an origin there is of its block's channel.
use Rattle.std.proofs.Common.{◌≡◌, ℕ, ◌==◌, Bool, true, false, cond, Some, None, refl, sym, ◌∙◌, subst, arith, eq-eqb}
use Rattle.lapin_types.specs.declared.outcome.Outcome.TheVariants as outcome
use Rattle.lapin_tables.specs.Packed.{Replaces}
use Rattle.lapin_confirm.specs.declared.cell.Cell.{Cell}
use Rattle.lapin_confirm.specs.declared.cell.Cell.TheVariants as cell
use Rattle.lapin_confirm.specs.declared.origin.Origin.{Origin}
use Rattle.lapin_confirm.specs.PublishStates.{is_resolved}
use Rattle.lapin_confirm.specs.Marks.{cell_told, cell_mark, origin_told, origin_mark}

told-resolved : (a m : ℕ) (x : Cell) → cell_told a m ≡ Some x → is_resolved (Some x) ≡ true
told-resolved a m x = by-case (m == 1) (m == 2) (m == 3)
  where
    is-one : (y : Cell) → is_resolved (Some y) ≡ true → y ≡ x → is_resolved (Some x) ≡ true
    is-one y done same = subst (λ z. is_resolved (Some z) ≡ true) same done

    by-case : (p q r : Bool) → cond p (Some (cell.Resolved outcome.Ack)) (cond q (Some (cell.Resolved outcome.Nack)) (cond r (Some (cell.Resolved outcome.NotRequested)) None)) ≡ Some x → is_resolved (Some x) ≡ true
    by-case true q r h = is-one (cell.Resolved outcome.Ack) refl cc
    by-case false true r h = is-one (cell.Resolved outcome.Nack) refl cc
    by-case false false true h = is-one (cell.Resolved outcome.NotRequested) refl cc
    by-case false false false h = cc

-- an unresolved cell has no mark, so any other may come in its place
pub open-replaces : (x y : Cell) → is_resolved (Some x) ≡ false → Replaces cell_told cell_mark y (Some x)
open-replaces x y left = λ a m is. let both : false ≡ true = sym left ∙ told-resolved a m x is in cc

told-channel : (a m : ℕ) (h : Origin) → origin_told a m ≡ Some h → h.channel ≡ a
told-channel a m h = by-case (m == 1) (m == 2)
  where
    is-one : (b : Bool) → ◌≡◌ {A = Origin} (record { channel = a; aside = b }) h → h.channel ≡ a
    is-one b same = subst (λ (k : Origin). k.channel ≡ a) same refl

    by-case : (p q : Bool) → cond p (Some (record { channel = a; aside = false })) (cond q (Some (record { channel = a; aside = true })) None) ≡ Some h → h.channel ≡ a
    by-case true q is = is-one false cc
    by-case false true is = is-one true cc
    by-case false false is = cc

-- an origin that is set aside has a mark wherever it had one
pub aside-replaces : (h : Origin) → Replaces origin_told origin_mark (record h { aside = true }) (Some h)
aside-replaces h = λ a m is. rw (eq-eqb h.channel a (told-channel a m h is)) (omega arith)
