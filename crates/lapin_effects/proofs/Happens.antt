-- Which of the seven kinds an event is.
use Rattle.std.proofs.Common.{◌≡◌, ◌∙◌, ℕ, ◌+◌, ◌==◌, Bool, true, false, cond, ◌&&◌, List, [], ◌∷◌, inl, inr, refl, sym, ap, subst, append-nil, rules}
use Rattle.std.specs.List.{list_any}
use Rattle.std.proofs.lemmas.Bool.Decides.{eqb_tells}
use Rattle.lapin_types.specs.declared.acker_call.AckerCall.{AckerCall}
use Rattle.lapin_types.specs.declared.acker_call.AckerCall.TheVariants as acker_call
use Rattle.lapin_types.specs.declared.call.Call.{Call}
use Rattle.lapin_types.specs.declared.call.Call.TheVariants as call
use Rattle.lapin_types.specs.Types.{ChannelState}
use Rattle.lapin_types.specs.Types.channel_state as state
use Rattle.lapin_rules.specs.declared.calls.Asked.{Asked}
use Rattle.lapin_rules.specs.declared.calls.Asked.TheVariants as ask
use Rattle.lapin_rules.specs.declared.phases.ChannelPhase.{ChannelPhase}
use Rattle.lapin_rules.specs.declared.phases.ChannelPhase.TheVariants as phase
use Rattle.lapin_rules.specs.declared.phases.ConnectionPhase.TheVariants as link
use Rattle.lapin_rules.specs.declared.phases.Closer.TheVariants as closer
use Rattle.lapin_rules.specs.ConfirmMarks.{ConfirmMark}
use Rattle.lapin_rules.specs.ConfirmMarks as mark
use Rattle.lapin_rules.specs.Words.{with_channel}
use Rattle.lapin_rules.specs.Phases.{is_up, is_live, channel_state, phase_in}
use Rattle.lapin_rules.specs.Frames.{MethodEntry}
use Rattle.lapin_rules.specs.Select.{is_select}
use Rattle.lapin_rules.specs.Wire.{Wire, state_of, phase_of, is_open, is_closed, receives_on, with_deliveries}
use Rattle.lapin_rules.specs.Opening.{after_open_call}
use Rattle.lapin_rules.specs.Calls.{asked}
use Rattle.lapin_rules.specs.Ackers.{acker_method}
use Rattle.lapin_rules.specs.ChannelClose.{failed_at_close}
use Rattle.lapin_rules.specs.ConnectionClose.{failed_at_connection_close}
use Rattle.lapin_rules.specs.Asking.{is_allowed, after_call, call_marks, asked_wire, asking_marks}
use Rattle.lapin_delivery.specs.Marks.{DeliveryMark}
use Rattle.lapin_types.specs.declared.leaving.Publish.{Publish}
use Rattle.lapin_effects.specs.Effects.{publish_asked, publish_asking, live, hears, is_special, IsFit, moves, Same, SameBut, Effect, Stays, Closes, Opens, Adds, Ends, Falls, Sinks}
use Rattle.lapin_effects.proofs.Phases.{at-same, at-other}
use Rattle.lapin_rules.proofs.PhaseLaws.{allowed_up}

-- ---- what stays of the channels

pub phases_kept : (b b' : Wire) → b'.link ≡ b.link → b'.phases ≡ b.phases → b'.frame_max ≡ b.frame_max → b'.rest ≡ b.rest → b'.published ≡ b.published → Same b b'
phases_kept b b' l p m r n = record {
  up = ap is_up l;
  max = m;
  rest = r;
  lives = λ c. rw (l, p) refl;
  hear = λ c h. rw (l, p) h;
  published = n;
}

pub live_at : (c : ℕ) (p : ChannelPhase) (b b' : Wire) → b'.link ≡ b.link → b'.phases ≡ with_channel c p b.phases → live c b' ≡ (is_up b.link && is_live p)
live_at c p b b' l e = rw (l, e) (ap (λ o. is_up b.link && is_live (phase_in o)) (at-same c p b.phases))

pub but : (c : ℕ) (p : ChannelPhase) (b b' : Wire) → b'.link ≡ b.link → b'.phases ≡ with_channel c p b.phases → b'.frame_max ≡ b.frame_max → b'.published ≡ b.published → SameBut c b b'
but c p b b' l e m n = record {
  up = ap is_up l;
  max = m;
  lives = λ d off. rw (l, e) (ap (λ o. is_up b.link && is_live (phase_in o)) (at-other c d p b.phases off));
  hear = λ d off h. rw (l, e) (subst (λ o. receives_on (cond (is_up b.link) (cond (d == 0) state.Base (channel_state (phase_in o))) state.Down) ≡ true) (sym (at-other c d p b.phases off)) h);
  published = n;
}

-- the phase of one channel moves, and it is as live as it was and hears no less
pub moved : (c : ℕ) (p : ChannelPhase) (b b' : Wire) → b'.link ≡ b.link → b'.phases ≡ with_channel c p b.phases → b'.frame_max ≡ b.frame_max → b'.rest ≡ b.rest → b'.published ≡ b.published → is_live p ≡ is_live (phase_of c b) → (receives_on (channel_state (phase_of c b)) ≡ true → receives_on (channel_state p) ≡ true) → Same b b'
moved c p b b' l e m r n alike hs =
    let others = but c p b b' l e m n in
    record {
      up = ap is_up l;
      max = m;
      rest = r;
      lives = λ d. elim (eqb_tells c d) [
        | inl z ↦ subst (λ v. live v b' ≡ live v b) z.1 (live_at c p b b' l e ∙ ap (λ v. is_up b.link && v) alike)
        | inr z ↦ others.lives d z.0
      ];
      hear = λ d h. elim (eqb_tells c d) [
        | inl z ↦ subst (λ v. hears v b ≡ true → hears v b' ≡ true) z.1 (here (is_up b.link) (c == 0)) h
        | inr z ↦ others.hear d z.0 h
      ];
      published = n;
    }
  where
    at : (u z : Bool) → receives_on (cond u (cond z state.Base (channel_state (phase_of c b))) state.Down) ≡ true → receives_on (cond u (cond z state.Base (channel_state p)) state.Down) ≡ true
    at true true h = h
    at true false h = hs h
    at false z h = h

    here : (u z : Bool) → hears c b ≡ true → hears c b' ≡ true
    here u z h = rw (l, e) (subst (λ o. receives_on (cond (is_up b.link) (cond (c == 0) state.Base (channel_state (phase_in o))) state.Down) ≡ true) (sym (at-same c p b.phases)) (at (is_up b.link) (c == 0) h))

-- consumers and ackers move nothing else
pub inboxed : (ms : List DeliveryMark) (b b' : Wire) (xs : List ConfirmMark) (new : List Publish) → Effect b b' xs new → Effect b (with_deliveries ms b') xs new
inboxed ms b b' xs new (Stays s p es m f i k) = Stays (record { up = s.up; max = s.max; rest = s.rest; lives = s.lives; hear = s.hear; published = s.published }) p es m f i k
inboxed ms b b' xs new (Closes d e s p m ms' f i k) = Closes d e (record { up = s.up; max = s.max; rest = s.rest; lives = s.lives; hear = s.hear; published = s.published }) p m ms' f i k
inboxed ms b b' xs new (Opens d t s was now r p m i k) = Opens d t (record { up = s.up; max = s.max; lives = s.lives; hear = s.hear; published = s.published }) was now r p m i k
inboxed ms b b' xs new (Adds q u mx r l h p m here n pub_ i k) = Adds q u mx r l h p m here n pub_ i k
inboxed ms b b' xs new (Ends d e s now r p es m q i k) = Ends d e (record { up = s.up; max = s.max; lives = s.lives; hear = s.hear; published = s.published }) now r p es m q i k
inboxed ms b b' xs new (Falls e mx n d r p q i k) = Falls e mx n d r p q i k
inboxed ms b b' xs new (Sinks mx n was d r p q i k) = Sinks mx n was d r p q i k

pub nothing : (b : Wire) (xs : List ConfirmMark) → list_any moves xs ≡ false → Effect b b xs []
nothing b xs still = Stays (phases_kept b b refl refl refl refl refl) refl [] (sym (append-nil b.methods)) tt still refl

-- ---- calls

-- the method of a line is no publish and opens nothing
abbrev pub IsLine : Asked → Type 0
IsLine (ask.Method row) = is_special row.method ≡ false
IsLine (ask.Consume m tag queue o) = is_special m ≡ false
IsLine _ = Unit {0}

pub call_line : (k : Call) → IsLine (asked k)
call_line call.OpenChannel = tt
call_line k = search rules

pub acker_line : (tag : ℕ) (k : AckerCall) → is_special (acker_method k tag) ≡ false
acker_line tag (acker_call.Ack o) = refl
acker_line tag (acker_call.Nack o) = refl
acker_line tag (acker_call.Reject o) = refl

abbrev At : Bool → ChannelPhase → ChannelState
At z p = cond z state.Base (channel_state p)

open_phase : (z : Bool) (p : ChannelPhase) → is_open (At z p) ≡ true → (z ≡ false) × (is_live p ≡ true) × (receives_on (channel_state p) ≡ true)
open_phase true p h = absurd cc
open_phase false (phase.Open paused) h = (refl, refl, refl)
open_phase false _ h = absurd cc

closed_phase : (z : Bool) (p : ChannelPhase) → is_closed (At z p) ≡ true → is_live p ≡ false
closed_phase true p h = absurd cc
closed_phase false phase.Closed h = refl
closed_phase false _ h = absurd cc

pub open_lives : (c : ℕ) (b : Wire) → b.link ≡ link.Open → is_open (At (c == 0) (phase_of c b)) ≡ true → live c b ≡ true
open_lives c b e h = rw (e, (open_phase (c == 0) (phase_of c b) h).1) refl

pub open_hears : (c : ℕ) (b : Wire) → b.link ≡ link.Open → is_open (At (c == 0) (phase_of c b)) ≡ true → hears c b ≡ true
open_hears c b e h = let o = open_phase (c == 0) (phase_of c b) h in rw (e, o.0) o.2

-- a method is queued on an open channel
pub queue_fit : (c : ℕ) (m : MethodEntry) (b : Wire) → m.channel ≡ c → is_special m.method ≡ false → live c b ≡ true → IsFit b m
queue_fit c m b on plain lives = record { plain = plain; select = λ s. ap (λ d. live d b) on ∙ lives }

pub quiet_select : (t : Bool) (c : ℕ) → list_any moves (cond t (mark.SelectCalled c ∷ []) []) ≡ false
quiet_select true c = refl
quiet_select false c = refl

pub call_happens : (c : ℕ) (k : Asked) (b : Wire) → b.link ≡ link.Open → is_allowed k (At (c == 0) (phase_of c b)) ≡ true → IsLine k → Effect b (after_call c k b) (call_marks c k b) (publish_asked c k b)
call_happens c ask.Open b e a line = Opens c (b.tickets + 1) (but c phase.Opening b _ refl refl refl refl) (rw (e, closed_phase (c == 0) (phase_of c b) a) refl) (live_at c phase.Opening b (after_open_call c b) refl refl ∙ rw e refl) refl refl refl refl refl
call_happens c (ask.CloseChannel code text) b e a line =
    let o = open_phase (c == 0) (phase_of c b) a in
    Closes c (failed_at_close closer.Application) (moved c (phase.Closing closer.Application false) b _ refl refl refl refl refl (sym o.1) (λ h. refl)) refl _ refl (queue_fit c _ b refl refl (open_lives c b e a)) refl refl
call_happens c (ask.CloseConnection code text) b e a line = Falls failed_at_connection_close refl refl refl refl refl (record { plain = refl; select = refl }, tt) refl refl
call_happens c (ask.Publish exchange key o payload properties) b e a line = Adds _ refl refl refl (λ d. refl) (λ d. refl) refl refl (open_hears c b e a) refl refl refl refl
call_happens c (ask.Consume m tag queue o) b e a line = Stays (phases_kept b _ refl refl refl refl refl) refl _ refl (queue_fit c _ b refl line (open_lives c b e a), tt) refl refl
call_happens c (ask.Limit limit) b e a line = Stays (phases_kept b _ refl refl refl refl refl) refl [] (sym (append-nil b.methods)) tt refl refl
call_happens c ask.Nothing b e a line = absurd cc
call_happens c (ask.Method row) b e a line = Stays (phases_kept b _ refl refl refl refl refl) refl _ refl (queue_fit c _ b refl line (open_lives c b e a), tt) (quiet_select (is_select row.method) c) refl

pub asked_happens : (c : ℕ) (k : Asked) (b : Wire) → IsLine k → Effect b (asked_wire c k b) (asking_marks c k b) (publish_asking c k b)
asked_happens c k b line = elim (is_allowed k (state_of c b)) as (λ t. is_allowed k (state_of c b) ≡ t → Effect b (cond t (after_call c k b) b) (cond t (call_marks c k b) []) (cond t (publish_asked c k b) [])) [
  | true ↦ λ a. let e = allowed_up b.link k (At (c == 0) (phase_of c b)) a in call_happens c k b e (rw e at a) line
  | false ↦ λ a. nothing b [] refl
] refl
