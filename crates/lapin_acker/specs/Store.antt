-- How ackers are stored. No public clause cites this module.
use Rattle.std.specs.Prelude.{ℕ, ◌==◌, nat_le, if◌then◌else◌, List, [], ◌∷◌, ◌++◌, replicate, slice_index_or}
use Rattle.lapin_acker.specs.declared.switch.Switch.{Switch}
use Rattle.lapin_acker.specs.declared.switch.Switch.TheVariants as switch
use Rattle.lapin_acker.specs.Switches.{map_numbered}

-- an acker of the channel with a number up to this one is over
abbrev pub end_of : ℕ → List ℕ → ℕ
end_of c ends = slice_index_or ends c 0

-- what was stored of the acker of a number, seen with the ends of its channel
abbrev pub seen : List ℕ → ℕ → Switch → Switch
seen ends n (switch.Usable c t) = if nat_le n (end_of c ends) then switch.Over else switch.Usable c t
seen ends n (switch.Used c) = if nat_le n (end_of c ends) then switch.Over else switch.Used c
seen ends n switch.Over = switch.Over

-- all ackers: those at the front that were let go are over
abbrev pub shown : ℕ → List ℕ → List Switch → List Switch
shown gone ends cells = replicate gone switch.Over ++ map_numbered gone (seen ends) cells

-- there is room for cells where the table of ends is made
abbrev pub room_of : ℕ → ℕ → ℕ
room_of n spare = if n == 65536 then spare else 0

-- the ackers at the front that have no cell: how many were let go, and the used ones behind them
pub record Front : Type 0 where
  pub gone : ℕ
  pub used : List Switch

-- used ackers, so many of a channel after so many of another
abbrev pub spelled : List (ℕ × ℕ) → List Switch
spelled [] = []
spelled (r ∷ rs) = replicate r.0 (switch.Used r.1) ++ spelled rs
