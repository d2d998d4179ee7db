-- What a drop takes out of the three lists, and what it leaves. A close of a channel takes its unbegun publishes, an end of a
-- channel all its entries, an end of the connection everything, one entry a drop, in the order in which they would leave. The
-- begun publish is one entry, however many of its frames wait.
use Rattle.std.specs.Prelude.{◌≡◌, ℕ, if◌then◌else◌, List, [], ◌∷◌, ◌++◌, map, drop, Option, Some, None}
use Rattle.std.specs.List.{filter, list_any}
use Rattle.lapin_types.specs.declared.leaving.Publish.{Publish}
use Rattle.lapin_rules.specs.Frames.{MethodEntry, RestEntry}
use Rattle.lapin_rules.specs.Leaving.{Lists}
use Rattle.lapin_rules.specs.Drops.{frame_channel, is_on, method_channel, publish_channel, is_rest_of, unbegun}
use Rattle.lapin_rules.specs.Words.{without_first}
use Rattle.lapin_outbox.specs.declared.dropped.Dropped.{Dropped}

-- all frames are on this channel
abbrev pub AreOn : ℕ → List RestEntry → Type 0
AreOn c [] = Unit {0}
AreOn c (f ∷ fs) = (frame_channel f.frame ≡ c) × AreOn c fs

-- ---- what is told of an entry that is dropped

-- of the begun publish its ticket and its confirm number, however many of its frames wait
abbrev pub told_rest : List RestEntry → List Dropped
told_rest [] = []
told_rest (f ∷ fs) = record { ticket = Some f.ticket; publish = Some f.publish } ∷ []

-- what is told of the begun publish where the entries of channel c are dropped: nothing where it is of another channel
abbrev pub told_rest_of : ℕ → List RestEntry → List Dropped
told_rest_of c fs = if is_rest_of c fs then told_rest fs else []

-- of a method the ticket of its call, if it has one
abbrev pub told_method : MethodEntry → Dropped
told_method m = record { ticket = m.ticket; publish = None }

-- of a publish its ticket and its confirm number
abbrev pub told_publish : Publish → Dropped
told_publish p = record { ticket = Some p.ticket; publish = Some p.confirm }

-- the ticket of what was dropped
abbrev pub dropped_ticket : Dropped → Option ℕ
dropped_ticket d = d.ticket

-- ---- what is dropped, first things first

-- a channel's publishes that have not begun
abbrev pub unbegun_of : ℕ → Lists → List Dropped
unbegun_of c l = map told_publish (unbegun c l.publishes)

-- a channel's entries
abbrev pub entries_of : ℕ → Lists → List Dropped
entries_of c l =
    told_rest_of c l.rest ++ (map told_method (filter (is_on method_channel c) l.methods) ++ unbegun_of c l)

-- everything
abbrev pub all_entries : Lists → List Dropped
all_entries l = told_rest l.rest ++ (map told_method l.methods ++ map told_publish l.publishes)

-- ---- what stays

-- the begun publish is gone, whole
abbrev pub without_rest : Lists → Lists
without_rest l = record { rest = []; methods = l.methods; publishes = l.publishes }

-- the channel's first publish is gone
abbrev pub without_unbegun : ℕ → Lists → Lists
without_unbegun c l = record { rest = l.rest; methods = l.methods; publishes = without_first (is_on publish_channel c) l.publishes }

-- The channel's first entry is gone: the begun publish whole, else its first method, else its first publish.
abbrev pub without_entry_of : ℕ → Lists → Lists
without_entry_of c l =
    if is_rest_of c l.rest
    then without_rest l
    else (if list_any (is_on method_channel c) l.methods
    then record { rest = l.rest; methods = without_first (is_on method_channel c) l.methods; publishes = l.publishes }
    else without_unbegun c l)

-- The first entry over all channels is gone: the begun publish whole, else the first method, else the first publish.
abbrev pub behind_first : List RestEntry → List MethodEntry → List Publish → Lists
behind_first (f ∷ fs) ms ps = record { rest = []; methods = ms; publishes = ps }
behind_first [] (m ∷ ms) ps = record { rest = []; methods = ms; publishes = ps }
behind_first [] [] ps = record { rest = []; methods = []; publishes = drop 1 ps }

-- the first entry over all channels is gone from the three lists
abbrev pub without_entry : Lists → Lists
without_entry l = behind_first l.rest l.methods l.publishes
