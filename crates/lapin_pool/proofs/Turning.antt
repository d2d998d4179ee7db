-- A turn of a working caller from its stages, and turns one behind the other.
use Rattle.std.proofs.Common.{◌≡◌, ◌∙◌, ℕ, true, ◌+◌, ◌-◌, ◌++◌, List, [], ◌∷◌, length, refl, sym, subst, Option, Some, None, add-one}
use Rattle.std.specs.Prelude.{slice_get}
use Rattle.lapin_types.specs.declared.message.Delivery.{Delivery}
use Rattle.lapin_types.specs.declared.record.Record.{Record}
use Rattle.lapin_acker.specs.declared.verdict.Verdict.{Verdict}
use Rattle.lapin_locked.specs.declared.entry.Told.{Told}
use Rattle.lapin_shared.specs.Grown.{Seen, Grew}
use Rattle.lapin_pool.specs.declared.card.Card.{Card}
use Rattle.lapin_pool.specs.declared.turn.Step.TheVariants as step
use Rattle.lapin_pool.specs.declared.turn.Turn.TheVariants as turn
use Rattle.lapin_pool.specs.Cards.{delivery_in}
use Rattle.lapin_pool.specs.Turns.{Standing, standing, IsTaken, IsTreated, IsTurn, TookJob, with_card, job_step}
use Rattle.lapin_pool.specs.Ran.{Ran}
use Rattle.lapin_pool.proofs.Reading.{newest_of}

-- a job was taken in a step, and treated by what its entry tells
pub took : (may : Delivery → Verdict → Type 0) (a mid b : Seen) (cs ds : List Card) (u : Option ℕ) (p : ℕ) (c : Option Card) → IsTaken a (step.Taken p) mid
    → ((t : Told) → slice_get mid.log (length mid.log - 1) ≡ Some t → IsTreated may mid p (delivery_in t.answer) c b) → ds ≡ with_card cs c
    → TookJob may (standing a cs u) (standing b ds u)
took may a mid b cs ds u p c (r, j, g) treated more = (p, r, mid, c, j, g, treated (job_step p (Some r)) (newest_of a mid (job_step p (Some r)) g), more, refl)

pub ran_more : (may : Delivery → Verdict → Type 0) (n : ℕ) (a b c : Standing) → Ran may n a b → IsTurn may b turn.Took c → Ran may (n + 1) a c
ran_more may n a b c r more = rw add-one (b, r, more)
