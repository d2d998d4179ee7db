-- What a close or an end takes out of the three lists of frames that wait. A close of this side takes its channel's publishes
-- that have not begun, an end of a channel's opening all the channel's entries, an end of the connection everything. The begun
-- publish is one entry, however many of its frames wait.
use Rattle.std.specs.Prelude.{ℕ, ◌==◌, Bool, false, not, if◌then◌else◌, List, [], ◌∷◌, map, Option, Some}
use Rattle.std.specs.List.{filter}
use Rattle.lapin_types.specs.declared.leaving.Publish.{Publish}
use Rattle.lapin_types.specs.Types.{Frame}
use Rattle.lapin_types.specs.Types.frame
use Rattle.lapin_rules.specs.Frames.{MethodEntry, RestEntry}
use Rattle.lapin_rules.specs.Leaving.{Lists}

-- the channel that a frame is on
abbrev pub frame_channel : Frame → ℕ
frame_channel (frame.Method c m) = c
frame_channel (frame.Header c h) = c
frame_channel (frame.Body c bytes) = c

-- ---- whose an entry is

-- whether an entry is of this channel, where f tells its channel
abbrev pub is_on : {X : Type 0} → (X → ℕ) → ℕ → X → Bool
is_on f c x = f x == c

-- whether an entry is of another channel
abbrev pub is_off : {X : Type 0} → (X → ℕ) → ℕ → X → Bool
is_off f c x = not (is_on f c x)

-- the channel of a method that waits
abbrev pub method_channel : MethodEntry → ℕ
method_channel m = m.channel

-- the channel of a publish that waits
abbrev pub publish_channel : Publish → ℕ
publish_channel p = p.channel

-- whether the begun publish is of this channel: all its frames are on one channel, so the first tells; false where none waits
abbrev pub is_rest_of : ℕ → List RestEntry → Bool
is_rest_of c [] = false
is_rest_of c (f ∷ fs) = frame_channel f.frame == c

-- ---- the publishes of a channel that have not begun

-- of the publishes that have not begun, those of channel c
abbrev pub unbegun : ℕ → List Publish → List Publish
unbegun c ps = filter (is_on publish_channel c) ps

-- ---- what stays

-- nothing waits
abbrev pub no_lists : Lists
no_lists = record { rest = []; methods = []; publishes = [] }

-- without the channel's publishes that have not begun
abbrev pub without_publishes_of : ℕ → Lists → Lists
without_publishes_of c l = record { rest = l.rest; methods = l.methods; publishes = filter (is_off publish_channel c) l.publishes }

-- without the channel's entries
abbrev pub without_channel : ℕ → Lists → Lists
without_channel c l = record {
  rest = if is_rest_of c l.rest then [] else l.rest;
  methods = filter (is_off method_channel c) l.methods;
  publishes = filter (is_off publish_channel c) l.publishes;
}

-- ---- the tickets of what is dropped

-- of the begun publish its ticket, however many of its frames wait
abbrev pub rest_tickets : List RestEntry → List (Option ℕ)
rest_tickets [] = []
rest_tickets (f ∷ fs) = Some f.ticket ∷ []

-- the ticket of the begun publish where it is of this channel, else none
abbrev pub rest_tickets_of : ℕ → List RestEntry → List (Option ℕ)
rest_tickets_of c fs = if is_rest_of c fs then rest_tickets fs else []

-- of a method the ticket of its call, if it has one
abbrev pub method_tickets_of : ℕ → List MethodEntry → List (Option ℕ)
method_tickets_of c ms = map (λ m. m.ticket) (filter (is_on method_channel c) ms)

-- the tickets of the channel's publishes that have not begun
abbrev pub publish_tickets_of : ℕ → List Publish → List (Option ℕ)
publish_tickets_of c ps = map (λ p. Some p.ticket) (unbegun c ps)
