-- The answers of tickets, read off what happened to tickets. A ticket stands for a call whose answer comes later.
use Rattle.std.specs.Prelude.{ℕ, ◌==◌, Bool, true, false, not, ◌&&◌, ◌||◌, if◌then◌else◌, List, [], ◌∷◌, Option, Some, None, option_map, Result, Ok, Err}
use Rattle.std.specs.List.{list_any}
use Rattle.std.specs.Option.{option_or}
use Rattle.lapin_types.specs.declared.answer.Answer.{Answer}
use Rattle.lapin_types.specs.declared.answer.Answer.TheVariants as answer
use Rattle.lapin_types.specs.Types.{Error}
use Rattle.lapin_rules.specs.declared.marks.AtLeaving.{AtLeaving}
use Rattle.lapin_rules.specs.declared.marks.AtLeaving.TheVariants as leaving
use Rattle.lapin_rules.specs.Words.{many, nth, after_nth}

-- What happens to tickets. A ticket is named by its number: they are numbered from 1 in the order in which they are given.
pub data TicketMark : Type 0 where
  -- an accepted call on the channel was given the next ticket; the leaving of its last frame gives this answer, or none
  Given : (channel : ℕ) (at_leaving : AtLeaving) → TicketMark
  -- the method frame of the ticket's publish left
  Begun : (ticket : ℕ) → TicketMark
  -- the last frame of the ticket's call left
  LastLeft : (ticket : ℕ) → TicketMark
  -- a reply, or the call itself, answered the ticket
  Answered : (ticket : ℕ) (answer : Result Answer Error) → TicketMark
  -- this side closes the channel's opening: its publishes that have not begun are rejected with this error
  ClosedHere : (channel : ℕ) (error : Error) → TicketMark
  -- the channel's opening ended with this error; one ticket, of a close of this side, may be kept
  OpeningFailed : (channel : ℕ) (spared : Option ℕ) (error : Error) → TicketMark
  -- the connection's close or loss resolved every open ticket with this error
  AllFailed : (error : Error) → TicketMark
  -- the answer of the ticket was given
  Collected : (ticket : ℕ) → TicketMark
  -- the ticket was set aside: its answer is dropped
  SetAside : (ticket : ℕ) → TicketMark

-- an accepted call is given a ticket
abbrev pub gives : TicketMark → Bool
gives (Given c a) = true
gives _ = false

-- how many tickets were given
abbrev pub given : List TicketMark → ℕ
given ms = many gives ms

-- the channel of the call that a mark gave a ticket, 0 for every other mark
abbrev pub channel_in : Option TicketMark → ℕ
channel_in (Some (Given c a)) = c
channel_in _ = 0

-- what the leaving of the last frame answers to the ticket that a mark gave, nothing for every other mark
abbrev pub leaving_in : Option TicketMark → AtLeaving
leaving_in (Some (Given c a)) = a
leaving_in _ = leaving.Nothing

-- the channel of ticket n, and the answer that the leaving of its last frame gives
abbrev pub channel_of : ℕ → List TicketMark → ℕ
channel_of n ms = channel_in (nth gives n ms)

-- the answer that the leaving of the last frame gives to ticket n, or that it gives none
abbrev pub leaving_of : ℕ → List TicketMark → AtLeaving
leaving_of n ms = leaving_in (nth gives n ms)

-- the marks after ticket n was given
abbrev pub life : ℕ → List TicketMark → List TicketMark
life n ms = after_nth gives n ms

-- the ticket is a publish's: its last frame gives the number of its confirm
abbrev pub is_publish : AtLeaving → Bool
is_publish (leaving.Confirm n) = true
is_publish _ = false

-- the answer that the leaving of the last frame gives
abbrev pub answer_at : AtLeaving → Option Answer
answer_at leaving.Nothing = None
answer_at leaving.Done = Some answer.Done
answer_at (leaving.Confirm n) = Some (answer.Confirm n)
answer_at leaving.Yes = Some answer.Yes

-- the method frame of the publish of ticket n leaves
abbrev pub begins : ℕ → TicketMark → Bool
begins n (Begun j) = j == n
begins n _ = false

-- ticket n is the one that is kept where its channel's opening ends
abbrev pub is_spared : ℕ → Option ℕ → Bool
is_spared n None = false
is_spared n (Some k) = k == n

-- What a mark says to ticket n of channel c, with the answer that its leaving gives and whether its publish has begun.
abbrev pub answer_by : ℕ → ℕ → AtLeaving → Bool → TicketMark → Option (Result Answer Error)
answer_by n c l b (LastLeft j) = if j == n then option_map Ok (answer_at l) else None
answer_by n c l b (Answered j a) = if j == n then Some a else None
answer_by n c l b (ClosedHere d e) = if d == c && (is_publish l && not b) then Some (Err e) else None
answer_by n c l b (OpeningFailed d spared e) = if d == c && not (is_spared n spared) then Some (Err e) else None
answer_by n c l b (AllFailed e) = Some (Err e)
answer_by n c l b _ = None

-- the first answer that these marks give to ticket n of channel c, where b tells whether its publish has begun
abbrev pub first_answer : ℕ → ℕ → AtLeaving → Bool → List TicketMark → Option (Result Answer Error)
first_answer n c l b [] = None
first_answer n c l b (m ∷ ms) = option_or (answer_by n c l b m) (first_answer n c l (b || begins n m) ms)

-- the answer of ticket n, none while it is open: the first that it got
abbrev pub answer_of : ℕ → List TicketMark → Option (Result Answer Error)
answer_of n ms = first_answer n (channel_of n ms) (leaving_of n ms) false (life n ms)

-- the answer of ticket n was given, or the ticket was set aside
abbrev pub closes : ℕ → TicketMark → Bool
closes n (Collected j) = j == n
closes n (SetAside j) = j == n
closes n _ = false

-- the answer of ticket n is asked for no more: it was given, or the ticket was set aside
abbrev pub is_collected : ℕ → List TicketMark → Bool
is_collected n ms = list_any (closes n) (life n ms)

-- no answer is there yet
abbrev pub is_awaited : Option (Result Answer Error) → Bool
is_awaited None = true
is_awaited (Some a) = false
