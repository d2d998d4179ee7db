-- What a run and the summary of its reports come to by steps.
use Rattle.std.specs.Prelude.{◌≡◌, ℕ, ◌+◌, ◌*◌, ◌<◌, ◌^◌, Bool, true, false, List, length}
use Rattle.lapin_types.specs.declared.record.Record.{Record}
use Rattle.lapin_types.specs.declared.record.Record.TheVariants as record_
use Rattle.lapin_types.specs.Types.{Error}
use Rattle.lapin_machine.specs.World.{World}
use Rattle.lapin_machine.specs.Way.{by_machine}
use Rattle.lapin_joint.specs.declared.step.Step.{Step}
use Rattle.lapin_joint.specs.Joint.{Joint, run, reports}
use Rattle.lapin_joint.specs.JoinedRun.{CanTake}
use Rattle.lapin_generate.specs.declared.summary.Summary.{Summary}
use Rattle.lapin_generate.specs.Summed.{with_reports}

-- so many reports more can be summed: each counts once at most, and has at most the bytes that memory can hold
pub record HasRoom (n : ℕ) (s : Summary) : Type 0 where
  pub publishes : s.publishes + n < 2 ^ 64
  pub frames : s.frames + n < 2 ^ 64
  pub bytes : s.bytes + n * 2 ^ 64 < 2 ^ 128
  pub acks : s.acks + n < 2 ^ 64

-- so many steps more can be made and summed
abbrev pub CanGo : ℕ → Joint World → Summary → Type 0
CanGo n j s = CanTake n j × HasRoom n s

-- steps were made, and their reports summed; what could be made after them still can
pub record HasMade (steps : List Step) (j k : Joint World) (s t : Summary) : Type 0 where
  pub joint : k ≡ run by_machine steps j
  pub summary : t ≡ with_reports s (reports by_machine steps j)
  pub goes : (n : ℕ) → CanGo (length steps + n) j s → CanGo n k t

-- steps were made whose reports count nothing
abbrev pub HasPassed : List Step → Joint World → Joint World → Type 0
HasPassed steps j k = (s : Summary) → HasMade steps j k s s

-- whether a publish was accepted, in the words of its record
abbrev pub IsPublished : Bool → Record → Type 0
IsPublished true r = (ticket : ℕ) × (number : ℕ) × (r ≡ record_.Publish ticket number)
IsPublished false r = (e : Error) × (r ≡ record_.Refused e)
