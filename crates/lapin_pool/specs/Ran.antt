-- How the log of a working caller and its cards grow in all its turns.
use Rattle.std.specs.Prelude.{◌≡◌, ◌<◌, ℕ, ◌⊎◌, Bool, true, false, zero, suc}
use Rattle.lapin_types.specs.declared.message.Delivery.{Delivery}
use Rattle.lapin_acker.specs.declared.verdict.Verdict.{Verdict}
use Rattle.lapin_threads.specs.declared.tally.Tally.{Tally}
use Rattle.lapin_pool.specs.declared.turn.Turn.TheVariants as turn
use Rattle.lapin_pool.specs.Turns.{Standing, IsTurn}

-- n turns, each of which took a job
abbrev pub Ran : (Delivery → Verdict → Type 0) → ℕ → Standing → Standing → Type 0
Ran may zero a c = c ≡ a
Ran may (suc n) a c = (b : Standing) × Ran may n a b × IsTurn may b turn.Took c

-- the caller took n jobs, and then had had its turns, or its last job step took none or could not be read; or else memory was wanting for
-- a step
abbrev pub Ended : (Delivery → Verdict → Type 0) → ℕ → Standing → ℕ → Bool → Standing → Type 0
Ended may turns a n false c = (Ran may n a c × (n ≡ turns)) ⊎ ((b : Standing) × (n < turns) × Ran may n a b × IsTurn may b turn.Over c)
Ended may turns a n true c = (b : Standing) × Ran may n a b × IsTurn may b turn.Short c

-- the same with a tally, which counts the jobs that were taken and says whether memory was wanting
abbrev pub EndedSo : (Delivery → Verdict → Type 0) → ℕ → Standing → Tally → Standing → Type 0
EndedSo may turns a r c = Ended may turns a r.count r.short c
