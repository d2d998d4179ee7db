-- Calls and the limit of outstanding confirms: only a try publish is refused at it, and what is not refused is done as its line says.
use Rattle.std.proofs.Common.{◌≡◌, ℕ, true, false, cond, ◌&&◌, refl, ◌∙◌, ap}
use Rattle.lapin_types.specs.declared.call.Call.{Call}
use Rattle.lapin_types.specs.declared.call.Call.TheVariants as call
use Rattle.lapin_types.specs.declared.record.Record.{Record}
use Rattle.lapin_types.specs.declared.record.Record.TheVariants as record_
use Rattle.lapin_types.specs.declared.event.Event.TheVariants as event
use Rattle.lapin_types.specs.Types.error
use Rattle.lapin_rules.specs.declared.calls.Asked.{Asked}
use Rattle.lapin_rules.specs.declared.calls.Asked.TheVariants as ask
use Rattle.lapin_rules.specs.Calls.{asked, is_try, publishes}
use Rattle.lapin_rules.specs.Asking.{is_allowed, is_held, call_record, accepted_record, asked_by, is_outstanding}
use Rattle.lapin_rules.specs.Wire.{Wire, state_of}
use Rattle.lapin_machine.specs.World.{World, told_anew, next_anew, asking, readings_of}
use Rattle.lapin_tables.proofs.Bools.{and_false, and_first}

-- a call that publishes nothing is no try publish
pub no_try : (k : Call) → publishes (asked k) ≡ false → is_try k ≡ false
no_try (call.TryBasicPublish exchange key o payload properties) h = cc
no_try _ h = refl

-- the record of a line of the table is no refusal at the limit
accepted_plain : (a : Asked) (b : Wire) → is_outstanding (accepted_record a b) ≡ false
accepted_plain (ask.Publish exchange key o payload properties) b = refl
accepted_plain _ b = refl

plain_record : (c : ℕ) (a : Asked) (b : Wire) → is_outstanding (call_record c a b) ≡ false
plain_record c a b = elim (is_allowed a (state_of c b)) as (λ t. is_outstanding (cond t (accepted_record a b) (record_.Refused (error.InvalidChannelState (state_of c b)))) ≡ false) [ true ↦ accepted_plain a b | false ↦ refl ]

-- so a call that is not refused at the limit asks for its line
pub asked_plain : (c : ℕ) (k : Call) (b : Wire) → asked_by k (call_record c (asked k) b) ≡ asked k
asked_plain c k b = ap (λ t. cond (is_try k && t) ask.Nothing (asked k)) (plain_record c (asked k) b) ∙ ap (λ t. cond t ask.Nothing (asked k)) (and_false (is_try k))

-- a call that publishes nothing is refused at no limit
pub never_held : (w : World) (c : ℕ) (k : Call) → publishes (asked k) ≡ false → is_held c k w.wire (readings_of w.confirm_state w.slots) ≡ false
never_held w c k h = rw (no_try k h) refl

-- what it tells and leaves
module _ (w : World) (c : ℕ) (k : Call) where
  pub told_free : is_held c k w.wire (readings_of w.confirm_state w.slots) ≡ false → told_anew w (event.Call c k) ≡ call_record c (asked k) w.wire
  told_free free = rw free refl

  pub next_free : is_held c k w.wire (readings_of w.confirm_state w.slots) ≡ false → next_anew w (event.Call c k) ≡ asking c (asked k) w
  next_free free = next_as (told_anew w (event.Call c k)) (told_free free)
    where
      leaves : Asked → World
      leaves a = asking c a w

      next_as : (r : Record) → r ≡ call_record c (asked k) w.wire → leaves (asked_by k r) ≡ asking c (asked k) w
      next_as r is = ap (λ x. leaves (asked_by k x)) is ∙ ap leaves (asked_plain c k w.wire)

  -- one that is refused at the limit changes nothing
  pub told_held : is_held c k w.wire (readings_of w.confirm_state w.slots) ≡ true → told_anew w (event.Call c k) ≡ record_.Refused (error.ConfirmsOutstanding ((readings_of w.confirm_state w.slots).limit c))
  told_held held = rw held refl

  pub next_held : is_held c k w.wire (readings_of w.confirm_state w.slots) ≡ true → next_anew w (event.Call c k) ≡ w
  next_held held = next_as (told_anew w (event.Call c k)) (told_held held)
    where
      is_a_try : is_try k ≡ true
      is_a_try = and_first (is_try k) _ held

      next_as : (r : Record) → r ≡ record_.Refused (error.ConfirmsOutstanding ((readings_of w.confirm_state w.slots).limit c)) → asking c (asked_by k r) w ≡ w
      next_as r is = ap (λ x. asking c (asked_by k x) w) is ∙ ap (λ t. asking c (cond (t && true) ask.Nothing (asked k)) w) is_a_try
