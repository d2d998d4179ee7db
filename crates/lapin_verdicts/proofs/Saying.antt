-- Which message an event publishes: that of the publish that it adds.
use Rattle.std.proofs.Common.{◌≡◌, ◌∙◌, ℕ, Bool, true, false, cond, ◌&&◌, [], map, refl, sym, ap, subst}
use Rattle.std.proofs.lemmas.Bool.{and_parts}
use Rattle.lapin_types.specs.declared.event.Event.{Event}
use Rattle.lapin_types.specs.declared.event.Event.TheVariants as event
use Rattle.lapin_types.specs.declared.call.Call.{Call}
use Rattle.lapin_types.specs.declared.record.Record.{Record}
use Rattle.lapin_types.specs.declared.record.Record.TheVariants as record_
use Rattle.lapin_types.specs.Types.{Error}
use Rattle.lapin_types.specs.Types.error
use Rattle.lapin_rules.specs.declared.calls.Asked.{Asked}
use Rattle.lapin_rules.specs.declared.calls.Asked.TheVariants as ask
use Rattle.lapin_rules.specs.Calls.{asked, is_try}
use Rattle.lapin_rules.specs.Asking.{is_allowed, accepted_record, call_record, is_held, is_outstanding, asked_by}
use Rattle.lapin_rules.specs.Events.{record_of}
use Rattle.lapin_rules.specs.Readings.{Readings}
use Rattle.lapin_rules.specs.Wire.{Wire, state_of}
use Rattle.lapin_effects.specs.Effects.{publish_asked, publish_asking, publish_by}
use Rattle.lapin_verdicts.specs.Verdicts.{message_asked, message_by}
use Rattle.lapin_verdicts.proofs.Cutting.{message_in}
use Rattle.lapin_tables.proofs.Bools.{and_false}

refused_none : (k : Asked) (x : Error) → message_asked k (record_.Refused x) ≡ []
refused_none ask.Open x = refl
refused_none (ask.CloseChannel code text) x = refl
refused_none (ask.CloseConnection code text) x = refl
refused_none (ask.Publish exchange key o payload properties) x = refl
refused_none (ask.Method row) x = refl
refused_none (ask.Consume m tag queue o) x = refl
refused_none (ask.Limit limit) x = refl
refused_none ask.Nothing x = refl

accepted_says : (c : ℕ) (k : Asked) (b : Wire) → message_asked k (accepted_record k b) ≡ map message_in (publish_asked c k b)
accepted_says c ask.Open b = refl
accepted_says c (ask.CloseChannel code text) b = refl
accepted_says c (ask.CloseConnection code text) b = refl
accepted_says c (ask.Publish exchange key o payload properties) b = refl
accepted_says c (ask.Method row) b = refl
accepted_says c (ask.Consume m tag queue o) b = refl
accepted_says c (ask.Limit limit) b = refl
accepted_says c ask.Nothing b = refl

allowed_says : (c : ℕ) (t : Bool) (k : Asked) (b : Wire) (x : Error) → message_asked k (cond t (accepted_record k b) (record_.Refused x)) ≡ map message_in (cond t (publish_asked c k b) [])
allowed_says c true k b x = accepted_says c k b
allowed_says c false k b x = refused_none k x

pub plain_record : (t : Bool) (k : Asked) (b : Wire) (e : Error) → is_outstanding (record_.Refused e) ≡ false → is_outstanding (cond t (accepted_record k b) (record_.Refused e)) ≡ false
plain_record true ask.Open b e h = refl
plain_record true (ask.CloseChannel code text) b e h = refl
plain_record true (ask.CloseConnection code text) b e h = refl
plain_record true (ask.Publish exchange key o payload properties) b e h = refl
plain_record true (ask.Method row) b e h = refl
plain_record true (ask.Consume m tag queue o) b e h = refl
plain_record true (ask.Limit limit) b e h = refl
plain_record true ask.Nothing b e h = refl
plain_record false k b e h = h

call_says : (c : ℕ) (k : Call) (b : Wire) (readings : Readings) → message_by (event.Call c k) (record_of b readings (event.Call c k)) ≡ map message_in (publish_by b (event.Call c k) (record_of b readings (event.Call c k)))
call_says c k b readings =
    let no : Record = record_.Refused (error.ConfirmsOutstanding (readings.limit c)) in
    let yes : Record = call_record c (asked k) b in
    let E : Record → Asked → Type 0 = λ r a. message_asked (asked k) r ≡ map message_in (publish_asking c a b) in
    elim (is_held c k b readings) as (λ v. is_held c k b readings ≡ v → E (cond v no yes) (asked_by k (cond v no yes))) [
      | true ↦ λ h.
          let tries : is_try k ≡ true = (and_parts (is_try k) _ h).0 in
          let none : asked_by k no ≡ ask.Nothing = ap (λ v. cond (v && true) ask.Nothing (asked k)) tries in
          subst (E no) (sym none) (refused_none (asked k) (error.ConfirmsOutstanding (readings.limit c)))
      | false ↦ λ h.
          let plain : is_outstanding yes ≡ false = plain_record (is_allowed (asked k) (state_of c b)) (asked k) b (error.InvalidChannelState (state_of c b)) refl in
          let same : asked_by k yes ≡ asked k = ap (λ v. cond (is_try k && v) ask.Nothing (asked k)) plain ∙ ap (λ v. cond v ask.Nothing (asked k)) (and_false (is_try k)) in
          subst (E yes) (sym same) (allowed_says c (is_allowed (asked k) (state_of c b)) (asked k) b (error.InvalidChannelState (state_of c b)))
    ] refl

pub says_added : (b : Wire) (readings : Readings) (e : Event) → map message_in (publish_by b e (record_of b readings e)) ≡ message_by e (record_of b readings e)
says_added b readings (event.Call c k) = sym (call_says c k b readings)
says_added b readings _ = refl
