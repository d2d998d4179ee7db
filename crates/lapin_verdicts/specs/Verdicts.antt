-- What a confirm that is resolved as Ack or Nack says of the broker: which publish it read whole, and which settlement it sent.
use Rattle.std.specs.Prelude.{◌≡◌, ℕ, zero, suc, Bool, true, false, if◌then◌else◌, List, [], ◌∷◌, ◌++◌, Option, Some, None}
use Rattle.std.specs.List.{list_any}
use Rattle.lapin_types.specs.declared.event.Event.{Event}
use Rattle.lapin_types.specs.declared.event.Event.TheVariants as event
use Rattle.lapin_types.specs.declared.record.Record.{Record}
use Rattle.lapin_types.specs.declared.record.Record.TheVariants as record_
use Rattle.lapin_rules.specs.declared.calls.Asked.{Asked}
use Rattle.lapin_rules.specs.declared.calls.Asked.TheVariants as ask
use Rattle.lapin_rules.specs.Calls.{asked}
use Rattle.lapin_rules.specs.History.{History}
use Rattle.lapin_types.specs.Types.{Frame}
use Rattle.lapin_types.specs.Types.frame
use Rattle.lapin_types.specs.Types.method
use Rattle.lapin_types.specs.Types.basic
use Rattle.lapin_rules.specs.declared.marks.Settlement.{Settlement}
use Rattle.lapin_rules.specs.declared.marks.SettleKind.{SettleKind}
use Rattle.lapin_rules.specs.declared.marks.SettleKind.TheVariants as settle
use Rattle.lapin_rules.specs.Incoming.{settlement}
use Rattle.lapin_rules.specs.ConfirmMarks.{ConfirmMark}
use Rattle.lapin_rules.specs.ConfirmReadings.{adds, begins, channel_of, covers}
use Rattle.lapin_rules.specs.Words.{many}
use Rattle.lapin_verdicts.specs.Deeds.{Deed, Sent, reads, sents}
use Rattle.lapin_verdicts.specs.Publishes.{Message, tally}

-- ---- places in a list, counted from 1

-- what stands at this place, if anything does
abbrev pub at_place : {X : Type 0} → ℕ → List X → Option X
at_place n [] = None
at_place zero (x ∷ xs) = None
at_place (suc zero) (x ∷ xs) = Some x
at_place (suc (suc n)) (x ∷ xs) = at_place (suc n) xs

-- ---- which opening a publish was accepted in

-- what stands up to the n-th element that passes, counted from 1, and it; all where there is no such element
abbrev pub through_nth : {X : Type 0} → (X → Bool) → ℕ → List X → List X
through_nth p n [] = []
through_nth p zero (x ∷ xs) = []
through_nth p (suc n) (x ∷ xs) = x ∷ through_nth p (if p x then n else suc n) xs

-- the call of publish n was accepted in the k-th opening of its channel: this is k
abbrev pub called_in : ℕ → List ConfirmMark → ℕ
called_in n ms = many (begins (channel_of n ms)) (through_nth adds n ms)

-- ---- the messages of the accepted publishes, in the order of their numbers

-- the message that a call publishes, where it is a publish and was accepted
abbrev pub message_asked : Asked → Record → List Message
message_asked (ask.Publish exchange key o payload properties) (record_.Publish ticket confirm) =
    record { exchange = exchange; routing_key = key; mandatory = o.mandatory; immediate = o.immediate; properties = properties; payload = payload } ∷ []
message_asked _ _ = []

-- the message that an event publishes, where it is an accepted call of a publish
abbrev pub message_by : Event → Record → List Message
message_by (event.Call c k) r = message_asked (asked k) r
message_by _ _ = []

-- the messages of a history
abbrev pub messages_in : History → List Message
messages_in [] = []
messages_in (x ∷ h) = message_by x.0 x.1 ++ messages_in h

-- ---- settlements

-- the settlement that the broker's frame is, if it is one: `basic.ack` or `basic.nack`
abbrev pub settlement_in : Frame → Option Settlement
settlement_in (frame.Method c (method.Basic (basic.Ack tag multiple))) = Some (settlement settle.Ack tag multiple)
settlement_in (frame.Method c (method.Basic (basic.Nack tag multiple requeue))) = Some (settlement settle.Nack tag multiple)
settlement_in _ = None

-- whether a frame settles the publish of this tag
abbrev pub settles_by : ℕ → Option Settlement → Bool
settles_by t None = false
settles_by t (Some s) = covers s t

-- whether the frame is a settlement that covers this tag
abbrev pub settles : ℕ → Frame → Bool
settles t f = settles_by t (settlement_in f)

-- ---- the verdict

-- Of one opening the broker had read whole, as number t, this message; after that it sent a settlement of this kind that covers t,
-- and no earlier one of the opening covers t.
pub record IsVerdict (t : ℕ) (kind : SettleKind) (m : Message) (opened : List Deed) : Type 0 where
  -- what it did in the opening before it sent the settlement, and after that
  pub before : List Deed
  pub behind : List Deed
  pub frame : Frame
  pub settlement : Settlement
  pub all : opened ≡ before ++ Sent frame ∷ behind
  pub is_settlement : settlement_in frame ≡ Some settlement
  pub kind_is : settlement.kind ≡ kind
  pub covers_it : covers settlement t ≡ true
  pub was_read : at_place t (tally (reads before)).numbered ≡ Some m
  pub first : list_any (settles t) (sents before) ≡ false
