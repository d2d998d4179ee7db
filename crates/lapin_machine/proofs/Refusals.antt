-- A frame that is not received while the connection is open: what its refusal leaves is what the rules say of it.
use Rattle.std.proofs.Common.{◌≡◌, ◌∙◌, ◌⊎◌, inl, inr, Result, Err, sym, ap, subst}
use Rattle.lapin_types.specs.declared.record.Record.{Record}
use Rattle.lapin_types.specs.Types.{Error}
use Rattle.lapin_types.specs.Types.error
use Rattle.lapin_rules.specs.declared.broker_frames.Incoming.{Incoming}
use Rattle.lapin_rules.specs.declared.broker_frames.Incoming.TheVariants as incoming
use Rattle.lapin_rules.specs.Receiving.{incoming_up}
use Rattle.lapin_machine.specs.declared.channel.Heard.{Heard}
use Rattle.lapin_machine.specs.World.{World, receiving, readings_of}
use Rattle.lapin_machine.specs.Told.{WasHeard}

-- what follows where a frame was received
incoming_so : (r : Result Heard Error) (P R Q : Type 0) → (P → R) → WasHeard r P Q → WasHeard r R Q
incoming_so (Err error.NoMemory) P R Q f h = h
incoming_so (Err error.NumbersUsedUp) P R Q f h = h
incoming_so r P R Q f h = f h

-- the record of a frame while the connection is open
abbrev pub up : World → Record → Incoming → Record
up w f i = incoming_up w.wire (readings_of w.confirm_state w.slots) f i

-- a frame was refused
abbrev pub WasRefused : Result Heard Error → World → World → Record → Type 0
WasRefused r new w f = WasHeard r ((j : Incoming) → new ≡ receiving j f w) (new ≡ w)

-- a frame whose record is a refusal was refused
pub refused_up : (r : Result Heard Error) (new w : World) (f : Record) (i j : Incoming) → i ≡ j → up w f j ≡ f → WasRefused r new w f → WasHeard r (new ≡ receiving i (up w f i) w) (new ≡ w)
refused_up r new w f i j is told h =
    let R : Record → Type 0 = λ x. new ≡ receiving i x w in
    incoming_so r ((k : Incoming) → new ≡ receiving k f w) (new ≡ receiving i (up w f i) w) (new ≡ w) (λ all. subst R (sym (ap (up w f) is ∙ told)) (all i)) h

-- what is received in no state of an open connection
pub never_told : (w : World) (f : Record) (i : Incoming) → (i ≡ incoming.ConnectionCloseOk) ⊎ (i ≡ incoming.Other) → up w f i ≡ f
never_told w f i (inl is) = ap (up w f) is
never_told w f i (inr is) = ap (up w f) is
