-- What a poll of each publish makes of its message and of the session.
use Rattle.std.specs.Prelude.{◌≡◌, ◌⊎◌, ℕ, List, [], ◌∷◌, ◌++◌, Option, Some, None, Ok}
use Rattle.std.specs.List.{filter}
use Rattle.lapin_types.specs.declared.confirmation.Confirmation.TheVariants as confirmation
use Rattle.lapin_types.specs.declared.event.Event.TheVariants as event
use Rattle.lapin_types.specs.declared.message.BasicReturnMessage.{BasicReturnMessage}
use Rattle.lapin_types.specs.declared.record.Record.{Record}
use Rattle.lapin_types.specs.declared.record.Record.TheVariants as record_
use Rattle.lapin_machine.specs.World.{World, next, told_by}
use Rattle.lapin_keeping.specs.declared.kept.Kept.{Kept}
use Rattle.lapin_keeping.specs.declared.keeping.Keeping.{Keeping}
use Rattle.lapin_keeping.specs.Fates.{of_result, forgotten}
use Rattle.lapin_keeping.specs.Keepings.{is_unsettled, fates}
use Rattle.lapin_keeping.specs.Returns.{AreNoted}
use Rattle.lapin_keeping.specs.Runs.{told}
use Rattle.lapin_publisher.specs.Each.{each, IsUntil}

-- what a poll of its publish tells makes of a message; where another one took the outcome, nothing is known of it
abbrev pub of_record : Record → Kept → Kept
of_record (record_.Confirmed r) k = of_result r k
of_record record_.Pending k = k
of_record _ k = forgotten k

-- the message that a poll gives, if it gives one: whose it is its confirm doesn't say
abbrev pub option_list : Option BasicReturnMessage → List BasicReturnMessage
option_list None = []
option_list (Some m) = m ∷ []

abbrev pub came_back : Record → List BasicReturnMessage
came_back (record_.Confirmed (Ok (confirmation.Ack m))) = option_list m
came_back (record_.Confirmed (Ok (confirmation.Nack m))) = option_list m
came_back _ = []

-- the session, and the messages that came back so far
abbrev pub Polling : Type 0
Polling = World × List BasicReturnMessage

-- a poll of the outstanding publish, if there is one
abbrev pub poll_at : Polling → Kept → Option ℕ → Kept × Polling
poll_at p k None = (k, p)
poll_at p k (Some c) = (of_record (told_by p.0 (event.PollConfirm c)) k, (next p.0 (event.PollConfirm c), p.1 ++ came_back (told_by p.0 (event.PollConfirm c))))

-- the same of a message
abbrev pub poll_one : Polling → Kept → Kept × Polling
poll_one p k = poll_at p k k.outstanding

-- all publishes are asked for, in order
abbrev pub all_polled : World → Keeping → List Kept × Polling
all_polled w k = each poll_one (w, k.back.items) k.kept.items

-- all were asked for, it was noted whose messages came back, and what has a fate by now is kept no more, and told
pub record IsPolled (w v : World) (old new : Keeping) : Type 0 where
  pub noted : List Kept
  pub session : v ≡ (all_polled w old).1.0
  pub is_noted : AreNoted (all_polled w old).1.1 (all_polled w old).0 noted
  pub kept : new.kept.items ≡ filter is_unsettled noted
  pub told_now : told new.settled.items ≡ told old.settled.items ++ fates noted
  pub back : new.back.items ≡ []
  pub handed : new.handed ≡ old.handed

-- where the polls ended: at one, and those before it are made; or behind the last, and it was noted whose messages came back
abbrev pub PollsEnded : World → World → Keeping → Keeping → Type 0
PollsEnded w v old new =
    IsUntil poll_one (w, old.back.items) (v, new.back.items) old.kept.items new.kept.items
    ⊎ ((v ≡ (all_polled w old).1.0) × ((new.back.items ≡ []) × AreNoted (all_polled w old).1.1 (all_polled w old).0 new.kept.items))

-- memory ran out, and nothing is told yet
pub record IsPolledInPart (w v : World) (old new : Keeping) : Type 0 where
  pub polls : PollsEnded w v old new
  pub settled : new.settled.items ≡ old.settled.items
  pub handed : new.handed ≡ old.handed
