-- The entries of one caller in a history.
use Rattle.std.specs.Prelude.{◌≡◌, ℕ, ◌+◌, ◌==◌, List, [], ◌∷◌, map, length, if◌then◌else◌}
use Rattle.lapin_types.specs.declared.event.Event.{Event}
use Rattle.lapin_locked.specs.declared.entry.Entry.{Entry}
use Rattle.lapin_locked.specs.declared.entry.Told.{Told}
use Rattle.lapin_shared.specs.Grown.{Seen, Rise}
use Rattle.lapin_shared.specs.Checked.{AllAt}

-- the events of caller i, in order
abbrev pub own : ℕ → List Entry → List Event
own i [] = []
own i (x ∷ xs) = if x.caller == i then x.event ∷ own i xs else own i xs

-- what a step of a log asked for
abbrev pub event_of : Told → Event
event_of t = t.event

-- callers numbered from n, whose logs rise and stand in the history
abbrev pub AreBack : List Entry → ℕ → List Seen → Type 0
AreBack h n [] = Unit {0}
AreBack h n (c ∷ cs) = (c.number ≡ n) × Rise 0 c.log × AllAt h c × AreBack h (n + 1) cs

-- how many entries all logs have
abbrev pub logged : List Seen → ℕ
logged [] = 0
logged (c ∷ cs) = length c.log + logged cs

-- each caller's entries in the history are those of its log, in order
abbrev pub AreOwn : List Entry → List Seen → Type 0
AreOwn h [] = Unit {0}
AreOwn h (c ∷ cs) = (own c.number h ≡ map event_of c.log) × AreOwn h cs
