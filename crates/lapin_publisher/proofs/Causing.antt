-- Why a call of a turn is refused: the channel is in the state that the call wants, so for want of memory or of numbers alone.
use Rattle.std.proofs.Common.{◌≡◌, ◌∙◌, ◌⊎◌, inl, ℕ, ◌==◌, Bool, true, false, true≢false, cond, ◌&&◌, not, List, [], ◌∷◌, sym, ap}
use Rattle.std.specs.Prelude.{Result, Ok, Err}
use Rattle.lapin_types.specs.Types.{Error}
use Rattle.lapin_types.specs.Types.error
use Rattle.lapin_types.specs.declared.call.Call.TheVariants as call
use Rattle.lapin_rules.specs.declared.calls.Asked.{Asked}
use Rattle.lapin_rules.specs.Asking.{is_allowed}
use Rattle.lapin_rules.specs.Calls.{asked}
use Rattle.lapin_rules.specs.Wire.{Wire, state_of, is_open, is_closed}
use Rattle.lapin_machine.specs.Numbers.{NoTicket, NoConfirm, LacksNumber, AskCause, CallCause}
use Rattle.lapin_keeping.specs.declared.kept.Kept.{Kept}
use Rattle.lapin_keeping.specs.declared.message.Message.{Message}
use Rattle.lapin_keeping.specs.Fates.{waits}
use Rattle.lapin_publisher.specs.declared.turn.Turn.{Turn}
use Rattle.lapin_publisher.specs.Causes.{TurnCause}
use Rattle.lapin_publisher.specs.Each.{each}
use Rattle.lapin_publisher.specs.Publishes.{Placing, placed, waiting_placed, goes, stays, room_taken, publish_of}
use Rattle.lapin_publisher.proofs.Out.{still_open}

allowed_cause : {T : Type 0} (r : Result T Error) (c : ℕ) (k : Asked) (b : Wire) → is_allowed k (state_of c b) ≡ true → (LacksNumber k b → NoTicket b ⊎ NoConfirm b) → AskCause r c k b → TurnCause r b
allowed_cause (Ok x) c k b allowed lacks h = tt
allowed_cause (Err error.NoMemory) c k b allowed lacks h = tt
allowed_cause (Err error.NumbersUsedUp) c k b allowed lacks h = lacks h.1
allowed_cause (Err (error.InvalidChannelState s)) c k b allowed lacks h = absurd (true≢false (sym allowed ∙ h.0))
allowed_cause (Err _) c k b allowed lacks h = absurd h

pub publish_cause : {T : Type 0} (r : Result T Error) (c : ℕ) (m : Message) (b : Wire) → is_open (state_of c b) ≡ true → CallCause r c (publish_of m) b → TurnCause r b
publish_cause r c m b opened h = allowed_cause r c (asked (publish_of m)) b opened (λ l. l) h

pub open_cause : {T : Type 0} (r : Result T Error) (c : ℕ) (b : Wire) → is_closed (state_of c b) ≡ true → CallCause r c call.OpenChannel b → TurnCause r b
open_cause r c b closed h = allowed_cause r c (asked call.OpenChannel) b closed (λ l. inl l) h

pub select_cause : {T : Type 0} (r : Result T Error) (c : ℕ) (b : Wire) → is_open (state_of c b) ≡ true → CallCause r c (call.ConfirmSelect (record { nowait = true })) b → TurnCause r b
select_cause r c b opened h = allowed_cause r c (asked (call.ConfirmSelect (record { nowait = true }))) b opened (λ l. inl l) h

-- ---- a channel that is open stays open over publishes

chosen : (t : Turn) (b : Bool) (x y : Kept × Placing) → is_open (state_of t.channel x.1.0.wire) ≡ true → is_open (state_of t.channel y.1.0.wire) ≡ true → is_open (state_of t.channel (cond b x y).1.0.wire) ≡ true
chosen t true x y one other = one
chosen t false x y one other = other

placed_up : (t : Turn) (p : Placing) (k : Kept) → is_open (state_of t.channel p.0.wire) ≡ true → is_open (state_of t.channel (placed t p k).1.0.wire) ≡ true
placed_up t p k up =
    chosen t (p.1.left == 0) (stays p k) (cond (waits k) (waiting_placed t p k) (k, (p.0, room_taken k p.1))) up
    (chosen t (waits k) (waiting_placed t p k) (k, (p.0, room_taken k p.1))
    (chosen t (k.failed && not t.retry) (stays p k) (cond (k.suspect && p.1.taken) (k, (p.0, record p.1 { left = 0 })) (goes t.channel p k)) up
    (chosen t (k.suspect && p.1.taken) (k, (p.0, record p.1 { left = 0 })) (goes t.channel p k) up (still_open t.channel p.0 k up)))
    up)

each_up : (t : Turn) (p : Placing) (ks : List Kept) → is_open (state_of t.channel p.0.wire) ≡ true → is_open (state_of t.channel (each (placed t) p ks).1.0.wire) ≡ true
each_up t p [] up = up
each_up t p (k ∷ ks) up = each_up t (placed t p k).1 ks (placed_up t p k up)

-- what a loop over the first messages came to
pub so_far_up : (t : Turn) (p q : Placing) (ks ls : List Kept) → (ls, q) ≡ each (placed t) p ks → is_open (state_of t.channel p.0.wire) ≡ true → is_open (state_of t.channel q.0.wire) ≡ true
so_far_up t p q ks ls done up = ap (λ (x : List Kept × Placing). is_open (state_of t.channel x.1.0.wire)) done ∙ each_up t p ks up
