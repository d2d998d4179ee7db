-- What the end of a run says of what is kept and of the bytes written.
use Rattle.std.specs.Prelude.{◌≡◌, ℕ, List, [], Option, Some, None, String, codes}
use Rattle.std.specs.declared.alloc.Global.{Global}
use Rattle.std.specs.Io.KnownBytes.{Appends}
use Rattle.lapin_types.specs.declared.event.Event.{Event}
use Rattle.lapin_text.specs.Input.{lines_of, AreParsed}
use Rattle.lapin_pool.specs.declared.card.PoolEnd.{PoolEnd}
use Rattle.lapin_inputs.specs.Writing.{WritesPrefix}
use Rattle.lapin_shared_commands.specs.Words.{AreCounted}
use Rattle.lapin_pool_commands.specs.Left.{IsLeft}
use Rattle.lapin_pool_commands.specs.Printed.{run_text}

-- `pool N`, where N says n
abbrev pub ArePool : List (String Global) → ℕ → Type 0
ArePool words n = AreCounted (codes "pool") words n

-- The first line of the input is no bad line, and what is kept is what a first caller and n working callers leave, where the first made the
-- events before the first bad line, if there is one.
pub record Ran (n : ℕ) (input : List ℕ) (bad : Option ℕ) (e : PoolEnd) : Type 0 where
  pub frame_max : ℕ
  pub events : List Event
  pub parsed : AreParsed (lines_of input) (Some frame_max) events bad
  pub left : IsLeft frame_max n events e.history e.cards.items

-- what was run of an input: nothing where its first line is the bad one
abbrev pub IsRun : ℕ → List ℕ → Option PoolEnd → Option ℕ → Type 0
IsRun n input None bad = (bad ≡ Some 1) × AreParsed (lines_of input) None [] (Some 1)
IsRun n input (Some e) bad = Ran n input bad e

-- every line of the input is in the format, and the text of what is kept was written whole
abbrev pub WroteAll : ℕ → Option PoolEnd → Option (List ℕ) → Option (List ℕ) → List ℕ → Type 0
WroteAll n kept before after input =
    (e : PoolEnd) × (kept ≡ Some e) × Ran n input None e × Appends before after (run_text (Some e) None)

-- the text of what is kept, if there is anything, was written, and the line that names the first bad line
abbrev pub WroteToBadLine : ℕ → Option PoolEnd → Option (List ℕ) → Option (List ℕ) → List ℕ → Type 0
WroteToBadLine n kept before after input =
    (line : ℕ) × IsRun n input kept (Some line) × Appends before after (run_text kept (Some line))

-- a prefix of such a text was written
abbrev pub WroteSome : ℕ → Option PoolEnd → Option (List ℕ) → Option (List ℕ) → List ℕ → Type 0
WroteSome n kept before after input =
    (bad : Option ℕ) × IsRun n input kept bad × WritesPrefix before after (run_text kept bad)
