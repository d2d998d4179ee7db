-- While channel 1 is open, each message that isn't stored has an outstanding publish: one that waits is published, and accepted.
use Rattle.std.proofs.Common.{◌≡◌, ℕ, Bool, true, false, true≢false, ◌&&◌, not, cond, List, [], ◌∷◌, Option, Some, None, refl, sym, ap, ◌∙◌}
use Rattle.std.specs.Option.{is_some}
use Rattle.lapin_types.specs.declared.record.Record.{Record}
use Rattle.lapin_types.specs.declared.record.Record.TheVariants as record_
use Rattle.lapin_rules.specs.Wire.{Wire, start, state_of, is_open}
use Rattle.lapin_rules.specs.History.{History, Past, past}
use Rattle.lapin_rules.specs.Events.{after_event}
use Rattle.lapin_machine.proofs.Standing.{past-push}
use Rattle.lapin_joint.specs.declared.step.Step.TheVariants as joined
use Rattle.lapin_joint.specs.Joint.{Joint, new_joint, joined_to}
use Rattle.lapin_machine.specs.Way.{by_history}
use Rattle.lapin_joint.proofs.Steps.{run-push}
use Rattle.lapin_resend.specs.declared.step.ResendStep.{ResendStep}
use Rattle.lapin_resend.specs.Messages.{Standing, waits, confirm_of}
use Rattle.lapin_resend.specs.Publisher.{Publisher, Steps, Met, told, state_in, with_event, with_all, publishing, publish_one, each, after_polls, after_opening, after_selecting, tended}
use Rattle.lapin_resend.specs.Resend.{begun, after_step, no_publisher, new_publisher, publisher_from, publisher_after}
use Rattle.lapin_resend.specs.ResendRun.{IsOut, AreOut}

-- ---- the present session after one step more

-- the states and lists of the present session
abbrev pub wire_in : ℕ → Steps → Wire
wire_in n made = (past n (joined_to n made).session).wire

pub published_wire : (n : ℕ) (made : Steps) (s : Standing) → wire_in n (with_event (publishing s) made) ≡ after_event (wire_in n made) (publishing s) (told n made (publishing s))
published_wire n made s =
    ap (λ (j : Joint History). (past n j.session).wire) (run-push (by_history n) made (joined.Client (publishing s)) (new_joint [] n))
    ∙ ap (λ (p : Past). p.wire) (past-push (record { wire = start n; confirms = []; tickets = [] }) (joined_to n made).session (publishing s) (told n made (publishing s)))

-- a publish moves no channel
same_state : (b : Bool) (x y : Wire) → state_of 1 x ≡ state_of 1 y → state_of 1 (cond b x y) ≡ state_of 1 y
same_state true x y e = e
same_state false x y e = refl

publish_state : (n : ℕ) (made : Steps) (s : Standing) → state_in n (with_event (publishing s) made) ≡ state_in n made
publish_state n made s =
    ap (state_of 1) (published_wire n made s) ∙ same_state (is_open (state_of 1 (wire_in n made))) _ (wire_in n made) refl

-- ---- publishing

accepted : (b : Bool) (t c : ℕ) (r : Record) → b ≡ true → confirm_of (cond b (record_.Publish t c) r) ≡ Some c
accepted true t c r e = refl
accepted false t c r e = absurd (true≢false (sym e))

has_some : (o : Option ℕ) → is_some o ≡ true → (k : ℕ) × (o ≡ Some k)
has_some None e = absurd cc
has_some (Some k) e = (k, refl)

-- one that isn't published is stored or has an outstanding publish
not_waiting : (stored some : Bool) → not stored && not some ≡ false → stored ≡ false → some ≡ true
not_waiting true some e h = absurd (true≢false h)
not_waiting false true e h = refl
not_waiting false false e h = absurd (true≢false e)

publish_out : (n : ℕ) (made : Steps) (s : Standing) (w : Bool) → waits s ≡ w → is_open (state_in n made) ≡ true → IsOut (cond {A = Met} w (record s { outstanding = confirm_of (told n made (publishing s)) }, with_event (publishing s) made) (s, made)).0
publish_out n made s true e opened h = (_, accepted (is_open (state_in n made)) _ _ _ opened)
publish_out n made s false e opened h = has_some s.outstanding (not_waiting s.stored (is_some s.outstanding) e h)

pub still_open : (n : ℕ) (made : Steps) (s : Standing) (t : Standing) (w : Bool) → is_open (state_in n made) ≡ true → is_open (state_in n (cond {A = Met} w (t, with_event (publishing s) made) (s, made)).1) ≡ true
still_open n made s t true opened = ap is_open (publish_state n made s) ∙ opened
still_open n made s t false opened = opened

each_out : (n : ℕ) (made : Steps) (ss : List Standing) → is_open (state_in n made) ≡ true → AreOut (each (publish_one n) made ss).0
each_out n made [] opened = tt
each_out n made (s ∷ ss) opened = (
  publish_out n made s (waits s) refl opened,
  each_out n (publish_one n made s).1 ss (still_open n made s (record s { outstanding = confirm_of (told n made (publishing s)) }) (waits s) opened),
)

-- ---- tending

published_out : (n : ℕ) (p : Publisher) (b : Bool) → is_open (state_in n p.present) ≡ b → is_open (state_in n (cond b (with_all (each (publish_one n) p.present p.messages) p) p).present) ≡ true → AreOut (cond b (with_all (each (publish_one n) p.present p.messages) p) p).messages
published_out n p true e h = each_out n p.present p.messages e
published_out n p false e h = absurd (true≢false (sym h ∙ e))

tended_out : (n : ℕ) (p : Publisher) → is_open (state_in n (tended n p).present) ≡ true → AreOut (tended n p).messages
tended_out n p h =
    let q : Publisher = after_selecting n (after_opening n (after_polls n p)) in
    published_out n q (is_open (state_in n q.present)) refl h

from_out : (n : ℕ) (ss : List ResendStep) (p : Publisher) → (is_open (state_in n p.present) ≡ true → AreOut p.messages) → is_open (state_in n (publisher_from n ss p).present) ≡ true → AreOut (publisher_from n ss p).messages
from_out n [] p out h = out h
from_out n (s ∷ ss) p out h = from_out n ss (after_step n s p) (tended_out n (begun s p)) h

pub all_out : (n : ℕ) (steps : List ResendStep) → is_open (state_in n (publisher_after n steps).present) ≡ true → AreOut (publisher_after n steps).messages
all_out n steps = from_out n steps (new_publisher n) (tended_out n no_publisher)
