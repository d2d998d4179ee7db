-- What it means that a message of a publisher is stored: a broker read it whole, and settled it by an ack.
use Rattle.std.specs.Prelude.{◌≡◌, ◌⊎◌, ℕ, true, false, List, [], ◌∷◌, ◌++◌}
use Rattle.lapin_values.specs.Properties.{no_properties}
use Rattle.lapin_rules.specs.declared.marks.SettleKind.TheVariants as settle
use Rattle.lapin_resend.specs.declared.message.Message.{Message}
use Rattle.lapin_resend.specs.Messages.{Standing}
use Rattle.lapin_resend.specs.Publisher.{Steps}
use Rattle.lapin_verdicts.specs.Deeds.{deeds, opening}
use Rattle.lapin_verdicts.specs.Publishes as publishes
use Rattle.lapin_verdicts.specs.Verdicts.{IsVerdict}

-- the message as its publish carries it: with default options and no properties
abbrev pub published : Message → publishes.Message
published m = record { exchange = m.exchange; routing_key = m.routing_key; mandatory = false; immediate = false; properties = no_properties; payload = m.payload }

-- By these steps of a joined run the broker has read the message whole, as number t of an opening of channel 1, and after that has sent
-- the first settlement of that opening that covers t, an ack.
pub record IsAcked (frame_max : ℕ) (made : Steps) (m : Message) : Type 0 where
  pub opened : ℕ
  pub number : ℕ
  pub verdict : IsVerdict number settle.Ack (published m) (opening 1 opened (deeds frame_max made))

-- so it is by a first part of the joined run's steps
pub record IsAckedIn (frame_max : ℕ) (m : Message) (run : Steps) : Type 0 where
  pub made : Steps
  pub rest : Steps
  pub all : run ≡ made ++ rest
  pub acked : IsAcked frame_max made m

-- it holds of one of these
abbrev pub AnyOf : {X : Type 0} → (X → Type 0) → List X → Type 0
AnyOf P [] = ⊥
AnyOf P (x ∷ xs) = P x ⊎ AnyOf P xs

-- a message that is stored is acked in one of these joined runs
abbrev pub IsTruly : ℕ → List Steps → Standing → Type 0
IsTruly frame_max runs s = s.stored ≡ true → AnyOf (IsAckedIn frame_max s.message) runs
