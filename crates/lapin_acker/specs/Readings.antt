-- The ackers, read off the marks of a whole history.
use Rattle.std.specs.Prelude.{◌≡◌, ℕ, suc, ◌==◌, ◌+◌, Bool, false, if◌then◌else◌, List, [], ◌∷◌}
use Rattle.std.specs.List.{list_any}
use Rattle.lapin_acker.specs.declared.switch.Switch.{Switch}
use Rattle.lapin_acker.specs.declared.switch.Switch.TheVariants as switch
use Rattle.lapin_acker.specs.Switches.{names}
use Rattle.lapin_acker.specs.Marks.{AckerMark}
use Rattle.lapin_acker.specs.Marks as mark

-- the mark is the end of an opening on the channel
abbrev pub ends : ℕ → AckerMark → Bool
ends c (mark.Ended d) = d == c
ends c _ = false

-- the mark uses the acker of the number, or makes void what it acknowledges
abbrev pub uses : ℕ → AckerMark → Bool
uses n (mark.Spent k) = k == n
uses n (mark.Voided ks) = names ks n
uses n _ = false

-- an acker by the marks that came after it was given: its opening ended with the first end of its channel; it may be used while
-- its opening lives and it is neither used nor void
abbrev pub switch_by : ℕ → ℕ → ℕ → List AckerMark → Switch
switch_by n c t later =
    if list_any (ends c) later then switch.Over
    else (if list_any (uses n) later then switch.Used c else switch.Usable c t)

-- the ackers that the marks give, in order, the first having the number one above i
abbrev pub ackers_from : ℕ → List AckerMark → List Switch
ackers_from i [] = []
ackers_from i (mark.Added c o t ∷ ms) = switch_by (suc i) c t ms ∷ ackers_from (suc i) ms
ackers_from i (m ∷ ms) = ackers_from i ms

-- all ackers that the marks of a whole history give, in order of their numbers, each as it is at the end of the history
abbrev pub ackers : List AckerMark → List Switch
ackers ms = ackers_from 0 ms

-- how many were given
abbrev pub given : List AckerMark → ℕ
given [] = 0
given (mark.Added c o t ∷ ms) = given ms + 1
given (m ∷ ms) = given ms

-- the ackers are what the marks of a history say
abbrev pub Follows : List AckerMark → List Switch → Type 0
Follows ms ss = ss ≡ ackers ms
