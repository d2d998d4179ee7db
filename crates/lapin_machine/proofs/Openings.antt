-- What a channel's state tells of its opening, and what ties a session's parts together as its opening goes on.
use Rattle.std.proofs.Common.{◌≡◌, ℕ, ◌==◌, ◌&&◌, Bool, true, false, cond, List, Option, Some, None, refl}
use Rattle.std.specs.Prelude.{IsSome, IsOk, OnOk, Result, Ok, Err}
use Rattle.lapin_types.specs.declared.leaving.Publish.{Publish}
use Rattle.lapin_types.specs.Types.{ChannelState}
use Rattle.lapin_types.specs.Types.channel_state as state
use Rattle.lapin_types.specs.declared.request.ReplyKind.{ReplyKind}
use Rattle.lapin_tables.specs.ByChannel.{at_channel}
use Rattle.lapin_rules.specs.declared.phases.ChannelPhase.{ChannelPhase}
use Rattle.lapin_rules.specs.declared.phases.ChannelPhase.TheVariants as phase
use Rattle.lapin_rules.specs.declared.phases.ConnectionPhase.{ConnectionPhase}
use Rattle.lapin_rules.specs.declared.phases.ConnectionPhase.TheVariants as link
use Rattle.lapin_rules.specs.declared.phases.CloseStage.TheVariants as stage
use Rattle.lapin_rules.specs.declared.phases.ConnectionPhase.TheVariants as link
use Rattle.lapin_rules.specs.declared.phases.ConnectionMove.TheVariants as link_move
use Rattle.lapin_rules.specs.Words.{is_some, with_channel}
use Rattle.lapin_rules.specs.Moves.{link_after}
use Rattle.lapin_rules.specs.Phases.{channel_state, is_live, is_up, phase_in}
use Rattle.lapin_rules.specs.ChannelClose.{close_ok_end}
use Rattle.lapin_rules.specs.Wire.{is_closed, is_open, is_opening, receives_on}
use Rattle.lapin_rules.specs.Opening.{opens, phases_with}
use Rattle.lapin_rules.specs.Reply.{receives}
use Rattle.lapin_rules.specs.ChannelClose.{receives_close, receives_close_ok}
use Rattle.lapin_confirm.specs.PublishStates.{PublishStates, ended}
use Rattle.lapin_machine.specs.Kept.{is_close_sent}
use Rattle.lapin_outbox.specs.Outgoing.{OutboxState}
use Rattle.lapin_outstanding.specs.Ended.{emptied_outbox}
use Rattle.lapin_machine.specs.Tied.{IsTied, NotPoisoned, is_live_on}
use Rattle.lapin_machine.proofs.Keeping.{tied_live, tied_further, tied_dropped}
use Rattle.lapin_tables.proofs.Bools.{and_first}

-- the state of a channel, by the connection and by where the channel stands
abbrev state_at : ConnectionPhase → ℕ → Option ChannelPhase → ChannelState
state_at l c o = cond (is_up l) (cond (c == 0) state.Base (channel_state (phase_in o))) state.Down

-- what a state says that only a channel above 0 of an open connection can have
record Stood (l : ConnectionPhase) (o : Option ChannelPhase) (t : ChannelState → Bool) : Type 0 where
  up : is_up l ≡ true
  at : t (channel_state (phase_in o)) ≡ true

stood : (l : ConnectionPhase) (c : ℕ) (o : Option ChannelPhase) (t : ChannelState → Bool) → t state.Base ≡ false → t state.Down ≡ false → t (state_at l c o) ≡ true → Stood l o t
stood l c o t base down h =
    elim (is_up l) as (λ u. is_up l ≡ u → t (cond u (cond (c == 0) state.Base (channel_state (phase_in o))) state.Down) ≡ true → Stood l o t) [
      | true ↦ λ up h. elim (c == 0) as (λ z. t (cond z state.Base (channel_state (phase_in o))) ≡ true → Stood l o t) [ true ↦ λ h. cc | false ↦ λ h. record { up = up; at = h } ] h
      | false ↦ λ up h. cc
    ] refl h

-- such a channel was opened
some_at : (o : Option ChannelPhase) (t : ChannelState → Bool) → t state.Closed ≡ false → t (channel_state (phase_in o)) ≡ true → is_some o ≡ true
some_at None t closed h = cc
some_at (Some p) t closed h = refl

live_at : (o : Option ChannelPhase) (t : ChannelState → Bool) → t state.Closed ≡ false → t state.Crossed ≡ false → t (channel_state (phase_in o)) ≡ true → is_live (phase_in o) ≡ true
live_at None t closed crossed h = cc
live_at (Some phase.Closed) t closed crossed h = cc
live_at (Some phase.Opening) t closed crossed h = refl
live_at (Some (phase.Open paused)) t closed crossed h = refl
live_at (Some (phase.Closing who sent)) t closed crossed h = refl
live_at (Some phase.Crossed) t closed crossed h = cc

-- a channel in a state of a live opening
pub record HasOpening (l : ConnectionPhase) (c : ℕ) (phases : List (ℕ × ChannelPhase)) : Type 0 where
  pub up : is_up l ≡ true
  pub some : is_some (at_channel c phases) ≡ true
  pub live : is_live_on l (at_channel c phases) ≡ true

has_opening : (l : ConnectionPhase) (c : ℕ) (phases : List (ℕ × ChannelPhase)) (t : ChannelState → Bool) → t state.Base ≡ false → t state.Down ≡ false → t state.Closed ≡ false → t state.Crossed ≡ false → t (state_at l c (at_channel c phases)) ≡ true → HasOpening l c phases
has_opening l c phases t base down closed crossed h =
    let s = stood l c (at_channel c phases) t base down h in
    let live : is_live (phase_in (at_channel c phases)) ≡ true = live_at (at_channel c phases) t closed crossed s.at in
    record { up = s.up; some = some_at (at_channel c phases) t closed s.at; live = rw s.up live }

pub open_opening : (l : ConnectionPhase) (c : ℕ) (phases : List (ℕ × ChannelPhase)) → is_open (state_at l c (at_channel c phases)) ≡ true → HasOpening l c phases
open_opening l c phases h = has_opening l c phases is_open refl refl refl refl h

pub receives_opening : (l : ConnectionPhase) (c : ℕ) (phases : List (ℕ × ChannelPhase)) → receives_close (state_at l c (at_channel c phases)) ≡ true → HasOpening l c phases
receives_opening l c phases h = has_opening l c phases receives_close refl refl refl refl h

-- so are settlements, flow and contents
pub heard_opening : (l : ConnectionPhase) (c : ℕ) (phases : List (ℕ × ChannelPhase)) → receives_on (state_at l c (at_channel c phases)) ≡ true → HasOpening l c phases
heard_opening l c phases h = has_opening l c phases receives_on refl refl refl refl h

-- a reply is received on a channel with a live opening
pub reply_opening : (l : ConnectionPhase) (c : ℕ) (k : ReplyKind) (phases : List (ℕ × ChannelPhase)) → receives k (state_at l c (at_channel c phases)) ≡ true → HasOpening l c phases
reply_opening l c k phases h = elim (opens k) as (λ o. cond o (is_opening (state_at l c (at_channel c phases))) (receives_on (state_at l c (at_channel c phases))) ≡ true → HasOpening l c phases) [
  | true ↦ λ h. has_opening l c phases is_opening refl refl refl refl h
  | false ↦ λ h. heard_opening l c phases h
] h

-- where a request of its kind is open too
pub replied_opening : (l : ConnectionPhase) (c : ℕ) (k : ReplyKind) (phases : List (ℕ × ChannelPhase)) (some : Bool) → (receives k (state_at l c (at_channel c phases)) && some) ≡ true → HasOpening l c phases
replied_opening l c k phases some h = reply_opening l c k phases (and_first (receives k (state_at l c (at_channel c phases))) some h)

pub tied_replied : (l : ConnectionPhase) (c : ℕ) (k : ReplyKind) (phases : List (ℕ × ChannelPhase)) (ps : List Publish) (b : PublishStates) → HasOpening l c phases → IsTied l phases ps b → IsTied l (phases_with c k phases) ps b
tied_replied l c k phases ps b h t = elim (opens k) as (λ o. IsTied l (cond o (with_channel c (phase.Open false) phases) phases) ps b) [
  | true ↦ tied_live l c (phase.Open false) phases ps b h.up refl h.some t
  | false ↦ t
]

-- a pause, or its end, leaves an open channel open
pub tied_paused : (l : ConnectionPhase) (c : ℕ) (paused : Bool) (phases : List (ℕ × ChannelPhase)) (ps : List Publish) (b : PublishStates) → HasOpening l c phases → IsTied l phases ps b → IsTied l (with_channel c (phase.Open paused) phases) ps b
tied_paused l c paused phases ps b h t = tied_live l c (phase.Open paused) phases ps b h.up refl h.some t

-- close-ok is received on a channel that was opened
pub close_ok_some : (l : ConnectionPhase) (c : ℕ) (phases : List (ℕ × ChannelPhase)) → receives_close_ok (state_at l c (at_channel c phases)) ≡ true → (is_up l ≡ true) × (is_some (at_channel c phases) ≡ true)
close_ok_some l c phases h = let s = stood l c (at_channel c phases) receives_close_ok refl refl h in (s.up, some_at (at_channel c phases) receives_close_ok refl s.at)

-- a closed channel has no live opening
pub closed_over : (l : ConnectionPhase) (c : ℕ) (phases : List (ℕ × ChannelPhase)) → is_closed (state_at l c (at_channel c phases)) ≡ true → (is_up l ≡ true) × (is_live_on l (at_channel c phases) ≡ false)
closed_over l c phases h =
    let s = stood l c (at_channel c phases) is_closed refl refl h in
    (s.up, rw s.up (over (at_channel c phases) s.at))
  where
    over : (o : Option ChannelPhase) → is_closed (channel_state (phase_in o)) ≡ true → is_live (phase_in o) ≡ false
    over None h = refl
    over (Some phase.Closed) h = refl
    over (Some phase.Opening) h = cc
    over (Some (phase.Open paused)) h = cc
    over (Some (phase.Closing who sent)) h = cc
    over (Some phase.Crossed) h = cc

-- an open channel has a line
pub open_confirm_mode : (l : ConnectionPhase) (c : ℕ) (phases : List (ℕ × ChannelPhase)) (ps : List Publish) (b : PublishStates) → is_open (state_at l c (at_channel c phases)) ≡ true → IsTied l phases ps b → IsSome (at_channel c b.confirm_modes)
open_confirm_mode l c phases ps b h t = t.confirm_modes c (open_opening l c phases h).some

-- a channel whose opening a crossed close ended
pub crossed_over : (l : ConnectionPhase) (c : ℕ) (phases : List (ℕ × ChannelPhase)) → close_ok_end (phase_in (at_channel c phases)) ≡ None → receives_close_ok (state_at l c (at_channel c phases)) ≡ true → is_live_on l (at_channel c phases) ≡ false
crossed_over l c phases ended h = let s = stood l c (at_channel c phases) receives_close_ok refl refl h in rw s.up (over (at_channel c phases) ended s.at)
  where
    over : (o : Option ChannelPhase) → close_ok_end (phase_in o) ≡ None → receives_close_ok (channel_state (phase_in o)) ≡ true → is_live (phase_in o) ≡ false
    over None e h = refl
    over (Some phase.Closed) e h = refl
    over (Some phase.Opening) e h = cc
    over (Some (phase.Open paused)) e h = cc
    over (Some (phase.Closing who sent)) e h = cc
    over (Some phase.Crossed) e h = refl

-- while this side closes the connection it is not open
pub sent_down : (l : ConnectionPhase) → is_close_sent l ≡ true → is_up l ≡ false
sent_down link.Open h = cc
sent_down (link.Closing _) h = refl
sent_down link.Closed h = refl
sent_down link.Lost h = refl

-- the broker's close crosses this side's where that has left, and closes the connection where it hasn't
pub crossed_by : (l : ConnectionPhase) → is_close_sent l ≡ true → link_after l link_move.Close ≡ link.Closing stage.Crossed
crossed_by link.Open h = cc
crossed_by (link.Closing stage.Queued) h = cc
crossed_by (link.Closing s) h = refl
crossed_by link.Closed h = cc
crossed_by link.Lost h = cc

pub closed_by : (l : ConnectionPhase) → is_close_sent l ≡ false → link_after l link_move.Close ≡ link.Closed
closed_by link.Open h = refl
closed_by (link.Closing stage.Queued) h = refl
closed_by (link.Closing s) h = cc
closed_by link.Closed h = refl
closed_by link.Lost h = refl

pub tied_unsent : (t : Bool) (o : OutboxState) (l m : ConnectionPhase) (phases : List (ℕ × ChannelPhase)) (b : PublishStates) → is_up l ≡ false → IsTied l phases o.lists.publishes b → IsTied m phases (cond t o (emptied_outbox o)).lists.publishes b
tied_unsent true o l m phases b down t = tied_further l m phases o.lists.publishes b down t
tied_unsent false o l m phases b down t = tied_dropped l m phases o.lists.publishes b down t

pub clean_unsent : (t : Bool) (o : OutboxState) → NotPoisoned o → NotPoisoned (cond t o (emptied_outbox o))
clean_unsent true o n = n
clean_unsent false o n = n

-- what holds on Ok holds where the result is Ok
pub ok_then : {T E : Type 0} (r : Result T E) (P : Type 0) → IsOk r → OnOk r P → P
ok_then (Ok x) P h p = p
ok_then (Err e) P h p = cc
