-- What an event does to confirms fits, and at most one mark counts: a publish that joins or takes a tag, or a message that came back.
use Rattle.std.proofs.Common.{◌≡◌, ℕ, ◌+◌, ◌≤◌, Bool, true, false, cond, List, [], ◌∷◌, Option, Some, None, refl, arith}
use Rattle.std.specs.List.{AllByRecursion as Each}
use Rattle.lapin_types.specs.Types.{Error, Frame, Method}
use Rattle.lapin_types.specs.Types.error
use Rattle.lapin_types.specs.Types.frame
use Rattle.lapin_types.specs.declared.leaving.Left.{Left}
use Rattle.lapin_types.specs.declared.record.Record.{Record}
use Rattle.lapin_types.specs.declared.record.Record.TheVariants as record_
use Rattle.lapin_content.specs.declared.start.Start.{Start}
use Rattle.lapin_content.specs.declared.start.Start.TheVariants as start
use Rattle.lapin_content.specs.declared.start.Whole.{Whole}
use Rattle.lapin_rules.specs.declared.broker_frames.Incoming.{Incoming}
use Rattle.lapin_rules.specs.declared.broker_frames.Incoming.TheVariants as incoming
use Rattle.lapin_rules.specs.declared.calls.Asked.{Asked}
use Rattle.lapin_rules.specs.declared.calls.Asked.TheVariants as ask
use Rattle.lapin_rules.specs.declared.phases.Closer.TheVariants as closer
use Rattle.lapin_rules.specs.declared.phases.ChannelPhase.{ChannelPhase}
use Rattle.lapin_rules.specs.declared.phases.ChannelPhase.TheVariants as phase
use Rattle.lapin_rules.specs.Asking.{asking_marks, call_marks, is_allowed}
use Rattle.lapin_rules.specs.ChannelClose.{close_marks, close_ok_end, failed_at_close_ok}
use Rattle.lapin_rules.specs.ConfirmMarks.{ConfirmMark}
use Rattle.lapin_rules.specs.ConfirmMarks as mark
use Rattle.lapin_rules.specs.ConnectionClose.{failed_at_connection_close}
use Rattle.lapin_rules.specs.Content.{start_marks, whole_marks, whole_on}
use Rattle.lapin_rules.specs.Ends.{end_with, ends, ends_all, live_channels}
use Rattle.lapin_rules.specs.Handing.{entry_marks, frame_marks, left_marks}
use Rattle.lapin_rules.specs.Receiving.{failed_marks, incoming_marks, received_marks, refused_marks}
use Rattle.lapin_rules.specs.Select.{is_select}
use Rattle.lapin_rules.specs.Unexpected.{failed_at_unexpected}
use Rattle.lapin_rules.specs.Wire.{Wire, is_open, phase_of, state_of}
use Rattle.lapin_rules.specs.Words.{many}
use Rattle.lapin_lines.specs.KeptLines.{ErrorFits}
use Rattle.lapin_told.proofs.Each.{Of, chosen, chosen_if, each_weaker}
use Rattle.lapin_told.proofs.Fitting.{ConfirmFits, StartFits, WholeFits, WireFits, counts}
use Rattle.lapin_told.proofs.Calls.{AskedFits}
use Rattle.lapin_told.proofs.Calling.{AllowedFits}
use Rattle.lapin_told.proofs.Hearing.{IncomingFits}
use Rattle.lapin_told.proofs.Receiving.{whole_at}

-- a mark that does not count
abbrev pub Still : ConfirmMark → Type 0
Still (mark.Added c) = ⊥
Still (mark.Left c n) = ⊥
Still (mark.Arrived c m) = ⊥
Still m = ConfirmFits m

still_fits : (m : ConfirmMark) → Still m → ConfirmFits m
still_fits (mark.Added c) h = absurd h
still_fits (mark.Left c n) h = absurd h
still_fits (mark.Arrived c m) h = absurd h
still_fits _ h = h

still_none : (m : ConfirmMark) → Still m → counts m ≡ false
still_none (mark.Added c) h = absurd h
still_none (mark.Left c n) h = absurd h
still_none (mark.Arrived c m) h = absurd h
still_none _ h = refl

none_counts : (ms : List ConfirmMark) → Each Still ms → many counts ms ≡ 0
none_counts [] h = refl
none_counts (m ∷ ms) h = rw (still_none m h.0) (none_counts ms h.1)

-- the marks fit, and at most one counts
pub record Counted (ms : List ConfirmMark) : Type 0 where
  pub marks : Each ConfirmFits ms
  pub count : many counts ms ≤ 1

pub still : (ms : List ConfirmMark) → Each Still ms → Counted ms
still ms h = record { marks = each_weaker Still ConfirmFits still_fits ms h; count = let z = none_counts ms h in omega (arith, z) }

most_one : (b : Bool) → cond b (0 + 1) 0 ≤ 1
most_one true = omega arith
most_one false = omega arith

one : (m : ConfirmMark) → ConfirmFits m → Counted (m ∷ [])
one m h = record { marks = (h, tt); count = most_one (counts m) }

pub nothing : Counted []
nothing = still [] tt

-- ---- ends

ends_still : (e : Error) (cs : List ℕ) → ErrorFits e → Each Still (ends e cs)
ends_still e [] f = tt
ends_still e (c ∷ cs) f = (f, ends_still e cs f)

pub ends_counted : (e : Error) (b : Wire) → ErrorFits e → Counted (ends_all e b)
ends_counted e b f = still (ends_all e b) (ends_still e (live_channels b.phases) f)

end_counted : (c : ℕ) (p : ChannelPhase) → Counted (end_with c (close_ok_end p))
end_counted c (phase.Closing closer.Application sent) = still (mark.Ended c (failed_at_close_ok closer.Application) ∷ []) (tt, tt)
end_counted c (phase.Closing closer.Session sent) = still (mark.Ended c (failed_at_close_ok closer.Session) ∷ []) (refl, tt)
end_counted c _ = nothing

pub maybe_still : (b : Bool) (m : ConfirmMark) → Still m → Counted (cond b (m ∷ []) [])
maybe_still b m h = chosen Counted b (m ∷ []) [] (still (m ∷ []) (h, tt)) nothing

-- ---- frames that leave

frame_counted : (f : Frame) → Counted (frame_marks f)
frame_counted (frame.Method c m) = maybe_still (is_select m) (mark.SelectLeft c) tt
frame_counted _ = nothing

entry_counted : (f : Frame) (o : Option ℕ) (first : Bool) → Counted (entry_marks f o first)
entry_counted f None first = frame_counted f
entry_counted f (Some n) true = one (mark.Left _ n) tt
entry_counted f (Some n) false = nothing

pub left_counted : (o : Option Left) → Counted (left_marks o)
left_counted None = nothing
left_counted (Some l) = entry_counted l.frame l.publish l.first

module _ (K : ℕ → Bool) where
  -- ---- calls

  called_counted : (c : ℕ) (k : Asked) (b : Wire) → AskedFits K (b.tickets + 1) k → Counted (call_marks c k b)
  called_counted c ask.Open b f = still (mark.Begun c ∷ []) (tt, tt)
  called_counted c (ask.CloseChannel code reason) b f = still (close_marks c closer.Application) (tt, tt)
  called_counted c (ask.CloseConnection code reason) b f = ends_counted failed_at_connection_close b tt
  called_counted c (ask.Publish exchange key o payload properties) b f = one (mark.Added c) tt
  called_counted c (ask.Method row) b f = maybe_still (is_select row.method) (mark.SelectCalled c) tt
  called_counted c (ask.Limit limit) b f = still (mark.LimitSet c limit ∷ []) (f, tt)
  called_counted c _ b f = nothing

  pub asking_counted : (c : ℕ) (k : Asked) (b : Wire) → AllowedFits K c k b → Counted (asking_marks c k b)
  asking_counted c k b f = chosen_if Counted (is_allowed k (state_of c b)) (call_marks c k b) [] (λ e. called_counted c k b (f e)) nothing

  -- ---- frames of the broker

  start_counted : (c : ℕ) (s : Start) (w : Whole) → StartFits K s → WholeFits K w → Counted (start_marks c s w)
  start_counted c (start.Return code reason exchange key) w f h = one (mark.Arrived c _) ((refl, (f.2, (f.3, (refl, (h.1, (h.2, (refl, tt))))))), f.0, f.1)
  start_counted c _ w f h = nothing

  whole_counted : (c : ℕ) (o : Option Whole) → Of (WholeFits K) o → Counted (whole_marks c o)
  whole_counted c None h = nothing
  whole_counted c (Some w) h = start_counted c w.start w h.0 h

  received_counted : (i : Incoming) (b : Wire) → IncomingFits K i → WireFits K b → Counted (received_marks i b)
  received_counted (incoming.Settlement c s) b f h = still (mark.Settled c s ∷ []) (tt, tt)
  received_counted (incoming.Content c p) b f h = whole_counted c (whole_on c p b) (whole_at K c p b f.1 h)
  received_counted (incoming.ChannelClose c code) b f h = still (mark.Ended c (error.ProtocolError code) ∷ []) (f.1, tt)
  received_counted (incoming.ChannelCloseOk c) b f h = end_counted c (phase_of c b)
  received_counted (incoming.ConnectionClose code) b f h = ends_counted (error.ProtocolError code) b f
  received_counted _ b f h = nothing

  failed_counted : (i : Incoming) (b : Wire) → Counted (failed_marks i b)
  failed_counted (incoming.Settlement c s) b = chosen Counted (is_open (state_of c b)) (close_marks c closer.Session) [] (still (close_marks c closer.Session) (refl, tt)) nothing
  failed_counted _ b = nothing

  refused_counted : (i : Incoming) (e : Error) (b : Wire) → Counted (refused_marks i e b)
  refused_counted i (error.UnexpectedFrame class number) b = ends_counted failed_at_unexpected b refl
  refused_counted i (error.PreconditionFailed tag current) b = failed_counted i b
  refused_counted i _ b = nothing

  pub incoming_counted : (i : Incoming) (r : Record) (b : Wire) → IncomingFits K i → WireFits K b → Counted (incoming_marks i r b)
  incoming_counted i (record_.Refused e) b f h = refused_counted i e b
  incoming_counted i record_.Received b f h = received_counted i b f h
  incoming_counted i _ b f h = nothing
