-- The ackers of a session as a machine: what each mark of a history does to them.
use Rattle.std.specs.Prelude.{ℕ, zero, suc, ◌==◌, Bool, true, false, ◌||◌, if◌then◌else◌, List, [], ◌∷◌, ◌++◌, Option, Some, None, slice_get}
use Rattle.lapin_acker.specs.declared.switch.Switch.{Switch}
use Rattle.lapin_acker.specs.declared.switch.Switch.TheVariants as switch
use Rattle.lapin_acker.specs.Marks.{AckerMark}
use Rattle.lapin_acker.specs.Marks as mark

-- the switches in order of their numbers, and for how many more there is room
pub record Board : Type 0 where
  pub switches : List Switch
  pub spare : ℕ

-- ---- what is asked of an acker

-- the switch under a number, from 1
abbrev pub switch_at : ℕ → List Switch → Option Switch
switch_at zero ss = None
switch_at (suc p) ss = slice_get ss p

-- an acker is usable while its opening lives and it is neither used nor void: its channel and delivery tag
abbrev pub usable_as : Option Switch → Option (ℕ × ℕ)
usable_as (Some (switch.Usable c t)) = Some (c, t)
usable_as _ = None

-- the number was given, and its acker is usable: its opening lives, and it is neither used nor void
abbrev pub is_usable : Option Switch → Bool
is_usable (Some (switch.Usable c t)) = true
is_usable _ = false

-- the number was given and its opening ended
abbrev pub is_over : Option Switch → Bool
is_over (Some switch.Over) = true
is_over _ = false

-- ---- what becomes of an acker

-- an acker that was called or whose message is void: a usable one is used up, any other stays as it is
abbrev pub used : Switch → Switch
used (switch.Usable c t) = switch.Used c
used s = s

-- an acker after the end of an opening on the channel: over where it is of that channel, and else as before
abbrev pub over_on : ℕ → Switch → Switch
over_on c (switch.Usable d t) = if d == c then switch.Over else switch.Usable d t
over_on c (switch.Used d) = if d == c then switch.Over else switch.Used d
over_on c switch.Over = switch.Over

-- the number is one of the list
abbrev pub names : List ℕ → ℕ → Bool
names [] n = false
names (k ∷ ks) n = k == n || names ks n

-- each switch through a function that is told its number, the first number being one above i
abbrev pub map_numbered : ℕ → (ℕ → Switch → Switch) → List Switch → List Switch
map_numbered i f [] = []
map_numbered i f (s ∷ ss) = f (suc i) s ∷ map_numbered (suc i) f ss

-- what a mark does to the acker of a number
abbrev pub moved : AckerMark → ℕ → Switch → Switch
moved (mark.Added c o t) n s = s
moved (mark.Spent k) n s = if k == n then used s else s
moved (mark.Voided ks) n s = if names ks n then used s else s
moved (mark.Ended c) n s = over_on c s

-- an added one joins at the back
abbrev pub joined : AckerMark → List Switch → List Switch
joined (mark.Added c o t) ss = ss ++ switch.Usable c t ∷ []
joined _ ss = ss

-- all ackers after a mark, in order of their numbers
abbrev pub after_mark : List Switch → AckerMark → List Switch
after_mark ss m = joined m (map_numbered 0 (moved m) ss)

-- what these ackers acknowledge becomes void, one acker after another
abbrev pub voided : List ℕ → List Switch → List Switch
voided [] ss = ss
voided (k ∷ ks) ss = voided ks (after_mark ss (mark.Spent k))
