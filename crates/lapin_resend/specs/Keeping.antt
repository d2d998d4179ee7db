-- The messages that a publisher keeps are those that weren't known to be stored before the present step. What becomes of the others is
-- settled: they stay as they are.
use Rattle.std.specs.Prelude.{◌≡◌, ℕ, suc, Bool, true, false, if◌then◌else◌, List, [], ◌∷◌, ◌++◌, map, Option, Some, None, slice_set}
use Rattle.lapin_resend.specs.declared.publisher.Publisher as code
use Rattle.lapin_resend.specs.declared.step.ResendStep.{ResendStep}
use Rattle.lapin_resend.specs.declared.step.ResendStep.TheVariants as step
use Rattle.lapin_resend.specs.declared.step.ResendReport.{ResendReport}
use Rattle.lapin_resend.specs.declared.step.ResendReport.TheVariants as told
use Rattle.lapin_resend.specs.Messages.{Standing}
use Rattle.lapin_resend.specs.Publisher.{Publisher}
use Rattle.lapin_resend.specs.Follows.{place}
use Rattle.lapin_resend.specs.Tending.{Follows}

-- the messages that aren't known to be stored, each with its place, the first of all having this one
abbrev pub kept_from : ℕ → List Bool → List Standing → List (ℕ × Standing)
kept_from k known [] = []
kept_from k [] (s ∷ ss) = (k, s) ∷ kept_from (suc k) [] ss
kept_from k (true ∷ known) (s ∷ ss) = kept_from (suc k) known ss
kept_from k (false ∷ known) (s ∷ ss) = (k, s) ∷ kept_from (suc k) known ss

-- the publisher with these messages alone
abbrev pub but : List Bool → Publisher → Publisher
but known p = record p { messages = map (λ e. e.1) (kept_from 0 known p.messages) }

-- it is stored, and so has no outstanding publish
pub record IsSettled (s : Standing) : Type 0 where
  pub stored : s.stored ≡ true
  pub alone : s.outstanding ≡ None

-- so is each that is known to be stored; of each that is known there is a message
abbrev pub AreSettled : List Bool → List Standing → Type 0
AreSettled [] ss = Unit {0}
AreSettled (b ∷ known) [] = ⊥
AreSettled (b ∷ known) (s ∷ ss) = (b ≡ true → IsSettled s) × AreSettled known ss

-- the code's publisher follows that of the definition, but for the messages that are known to be stored
pub record FollowsBut (n : ℕ) (known : List Bool) (p : Publisher) (c : code.Publisher) : Type 0 where
  pub follows : Follows n (but known p) c
  pub places : map place c.messages.items ≡ map (λ e. e.0) (kept_from 0 known p.messages)
  pub settled : AreSettled known p.messages

-- it does, and it is known of each message whether it is stored
pub record Knows (n : ℕ) (known : List Bool) (p : Publisher) (c : code.Publisher) : Type 0 where
  pub follows : FollowsBut n known p c
  pub known_is : known ≡ map (λ s. s.stored) p.messages

-- what a question after a message is answered by what is known of it
abbrev pub known_report : Option Bool → ResendReport
known_report None = told.Unknown
known_report (Some true) = told.Stored
known_report (Some false) = told.Waiting

-- what is known once it was noted of each of these whether it is stored
abbrev pub noted : List (ℕ × Standing) → List Bool → List Bool
noted [] known = known
noted (e ∷ es) known = noted es (slice_set known e.0 e.1.stored)

-- a message that is submitted isn't stored yet
abbrev pub with_new : Bool → List Bool → List Bool
with_new submits known = if submits then known ++ false ∷ [] else known

-- the step submits a message
abbrev pub is_submit : ResendStep → Bool
is_submit (step.Submit m) = true
is_submit _ = false
