-- A call that its channel's state refuses: it leaves all as it was, and its line is that refusal.
use Rattle.std.proofs.Common.{◌≡◌, ◌∙◌, ◌++◌, ◌∷◌, [], ℕ, List, Result, Ok, Err, false, refl, sym, ap}
use Rattle.std.specs.Prelude.{OnOk}
use Rattle.lapin_types.specs.Types.{Error}
use Rattle.lapin_types.specs.Types.error
use Rattle.lapin_types.specs.declared.call.Call.{Call}
use Rattle.lapin_types.specs.declared.event.Event.TheVariants as event
use Rattle.lapin_types.specs.declared.record.Record.{Record}
use Rattle.lapin_types.specs.declared.record.Record.TheVariants as record_
use Rattle.lapin_rules.specs.declared.calls.Asked.{Asked}
use Rattle.lapin_rules.specs.declared.calls.Asked.TheVariants as ask
use Rattle.lapin_rules.specs.Calls.{asked, publishes}
use Rattle.lapin_rules.specs.Asking.{is_allowed}
use Rattle.lapin_rules.specs.Wire.{state_of}
use Rattle.lapin_machine.specs.declared.channel.Ticket.{Ticket}
use Rattle.lapin_machine.specs.Numbers.{HasNumbersFor, CallCause}
use Rattle.lapin_machine.specs.Told.{IsRefusal}
use Rattle.lapin_machine.specs.World.{World, asking, told_by}
use Rattle.lapin_machine.proofs.Counting.{has_number}
use Rattle.lapin_machine.proofs.Limited.{never_held, next_free}
use Rattle.lapin_text.specs.Records.{record_tokens, line_onto}
use Rattle.lapin_lines.specs.Lines.{IsMet}

-- what it leaves
asking_refused : (c : ℕ) (a : Asked) (w : World) → is_allowed a (state_of c w.wire) ≡ false → asking c a w ≡ w
asking_refused c ask.Nothing w shut = refl
asking_refused c _ w shut = rw shut refl

-- a call that publishes nothing is met where its refusal is appended
pub refused_met : {E : Type 0} (r : Result (Unit {0}) E) (e : Error) (w v : World) (c : ℕ) (k : Call) (t u : List ℕ) → HasNumbersFor 1 w → publishes (asked k) ≡ false → v ≡ w → CallCause {T = Ticket} (Err e) c k w.wire → IsRefusal e (told_by w (event.Call c k))
    → OnOk r (e ≡ error.NoMemory → ⊥) → OnOk r (u ≡ line_onto t (record_tokens (record_.Refused e)) ++ 10 ∷ []) → OnOk r (IsMet (event.Call c k) w v t u)
refused_met (Err x) e w v c k t u numbers plain same cause told some text = tt
refused_met (Ok x) (error.InvalidChannelState s) w v c k t u numbers plain same cause told some text =
    (same ∙ sym (next_free w c k (never_held w c k plain) ∙ asking_refused c (asked k) w cause.0), text ∙ ap (λ (r : Record). line_onto t (record_tokens r) ++ 10 ∷ []) (sym told))
refused_met (Ok x) error.NoMemory w v c k t u numbers plain same cause told some text = absurd (some refl)
refused_met (Ok x) error.NumbersUsedUp w v c k t u numbers plain same cause told some text = absurd (has_number 0 w (event.Call c k) numbers cause)
refused_met (Ok x) e w v c k t u numbers plain same cause told some text = absurd cause
