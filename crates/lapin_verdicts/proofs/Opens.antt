-- How many opens of a channel wait after each event, by how many openings of it begin.
use Rattle.std.proofs.Common.{◌≡◌, ◌∙◌, ℕ, ◌+◌, ◌==◌, Bool, true, false, cond, ◌&&◌, List, [], ◌∷◌, ◌++◌, Option, Some, None, inl, inr, refl, sym, ap, arith}
use Rattle.std.specs.List.{list_any, filter, find}
use Rattle.std.specs.Option.{option_map}
use Rattle.std.proofs.lemmas.Bool.Decides.{eqb_tells}
use Rattle.lapin_types.specs.declared.event.Event.{Event}
use Rattle.lapin_types.specs.declared.event.Event.TheVariants as event
use Rattle.lapin_types.specs.declared.record.Record.{Record}
use Rattle.lapin_types.specs.declared.record.Record.TheVariants as record_
use Rattle.lapin_types.specs.declared.leaving.Left.{Left}
use Rattle.lapin_types.specs.declared.leaving.Publish.{Publish}
use Rattle.lapin_types.specs.Types.{Frame, Method, Error}
use Rattle.lapin_types.specs.Types.frame
use Rattle.lapin_types.specs.Types.method
use Rattle.lapin_types.specs.Types.channel
use Rattle.lapin_types.specs.Types.error
use Rattle.lapin_content.specs.declared.start.Start.{Start}
use Rattle.lapin_content.specs.declared.start.Start.TheVariants as start_
use Rattle.lapin_content.specs.declared.start.Whole.{Whole}
use Rattle.lapin_rules.specs.declared.calls.Asked.{Asked}
use Rattle.lapin_rules.specs.declared.calls.Asked.TheVariants as ask
use Rattle.lapin_rules.specs.declared.broker_frames.Incoming.{Incoming}
use Rattle.lapin_rules.specs.declared.broker_frames.Incoming.TheVariants as incoming
use Rattle.lapin_rules.specs.declared.phases.ConnectionPhase.{ConnectionPhase}
use Rattle.lapin_rules.specs.declared.phases.ConnectionPhase.TheVariants as link
use Rattle.lapin_rules.specs.declared.phases.CloseStage.TheVariants as stage
use Rattle.lapin_rules.specs.ConfirmMarks.{ConfirmMark}
use Rattle.lapin_rules.specs.ConfirmMarks as mark
use Rattle.lapin_rules.specs.ConfirmReadings.{begins}
use Rattle.lapin_rules.specs.Words.{many}
use Rattle.lapin_rules.specs.Phases.{is_up}
use Rattle.lapin_rules.specs.Frames.{MethodEntry, RestEntry, left_publish}
use Rattle.lapin_rules.specs.Drops.{is_off, method_channel}
use Rattle.lapin_rules.specs.Select.{is_select}
use Rattle.lapin_rules.specs.Leaving.{handed_of, left_of, left_lists, may_begin}
use Rattle.lapin_rules.specs.Handing.{after_handing, handed_out, left_marks, entry_marks, frame_marks, sent}
use Rattle.lapin_rules.specs.ConnectionClose.{after_connection_close}
use Rattle.lapin_rules.specs.ChannelClose.{close_ok_end}
use Rattle.lapin_rules.specs.Ends.{end_with}
use Rattle.lapin_rules.specs.Content.{start_marks, whole_marks, whole_on}
use Rattle.lapin_rules.specs.Asking.{is_allowed, after_call, asked_by, after_asking, call_marks, asking_marks}
use Rattle.lapin_rules.specs.Polls.{is_confirmed, is_returned, is_aside}
use Rattle.lapin_rules.specs.Receiving.{after_incoming, incoming_marks}
use Rattle.lapin_rules.specs.Events.{after_event, confirm_marks}
use Rattle.lapin_rules.specs.Wire.{Wire, state_of, phase_of, is_open as is_open_state, with_lists, lists_of}
use Rattle.lapin_joint.specs.Joint.{is_lawful, left_alone}
use Rattle.lapin_verdicts.specs.Deeds.{is_open}
use Rattle.lapin_verdicts.specs.InStep.{is_frame_on, is_open_on, is_open_waiting}
use Rattle.lapin_verdicts.proofs.Marks.{many-append}
use Rattle.lapin_effects.specs.Effects.{is_next, is_special, AreFit, AreQuiet, moves, open_entry, Effect, Stays, Closes, Opens, Adds, Ends, Falls, Sinks}
use Rattle.lapin_verdicts.proofs.Turns.{any-less}
use Rattle.lapin_verdicts.proofs.Numbering.{is_content, AreRest}
use Rattle.lapin_rules.proofs.ListLaws.{many-none}
use Rattle.lapin_tables.proofs.Bools.{and_false}
use Rattle.lapin_machine.proofs.Shut.{frame_left}

-- ---- counts

many_kept : {X : Type 0} (p q : X → Bool) (xs : List X) → many p xs ≡ 0 → many p (filter q xs) ≡ 0
many_kept p q [] h = refl
many_kept p q (x ∷ xs) h = elim (p x) as (λ b. p x ≡ b → cond b (many p xs + 1) (many p xs) ≡ 0 → many p (cond (q x) (x ∷ filter q xs) (filter q xs)) ≡ 0) [
  | true ↦ λ _ e. (let w : ⊥ = omega (arith, e) in absurd w)
  | false ↦ λ f e. elim (q x) as (λ v. many p (cond v (x ∷ filter q xs) (filter q xs)) ≡ 0) [ true ↦ rw f (many_kept p q xs e) | false ↦ many_kept p q xs e ]
] refl h

-- how many opens of the channel wait
abbrev pub unsent : ℕ → Wire → ℕ
unsent c b = many (is_open_waiting c) b.methods

-- ---- methods

pub plain_open : (d : ℕ) (m : Method) → is_special m ≡ false → is_open (frame.Method d m) ≡ false
plain_open d (method.Channel channel.Open) h = absurd cc
plain_open d _ h = refl

unwaiting : (c : ℕ) (m : MethodEntry) → is_special m.method ≡ false → is_open_waiting c m ≡ false
unwaiting c m h = ap (λ v. (m.channel == c) && v) (plain_open m.channel m.method h) ∙ and_false (m.channel == c)

fit_none : (c : ℕ) (b : Wire) (es : List MethodEntry) → AreFit b es → many (is_open_waiting c) es ≡ 0
fit_none c b [] h = refl
fit_none c b (m ∷ es) h = rw (unwaiting c m h.0.plain) (fit_none c b es h.1)

quiet_none : (c : ℕ) (es : List MethodEntry) → AreQuiet es → many (is_open_waiting c) es ≡ 0
quiet_none c [] h = refl
quiet_none c (m ∷ es) h = rw (unwaiting c m h.0.plain) (quiet_none c es h.1)

pub off_same : (c d : ℕ) (ms : List MethodEntry) → (d == c) ≡ false → many (is_open_waiting c) (filter (is_off method_channel d) ms) ≡ many (is_open_waiting c) ms
off_same c d [] h = refl
off_same c d (m ∷ ms) h = elim (eqb_tells m.channel d) [
  | inl y ↦
      let off : (m.channel == c) ≡ false = ap (λ v. v == c) y.1 ∙ h in
      rw (y.0, off) (off_same c d ms h)
  | inr n ↦ rw n.0 (ap (λ k. cond (is_open_waiting c m) (k + 1) k) (off_same c d ms h))
]

pub moves_begin : (c : ℕ) (m : ConfirmMark) → moves m ≡ false → begins c m ≡ false
moves_begin c (mark.Begun d) h = absurd cc
moves_begin c _ h = refl

pub still_none : (c : ℕ) (xs : List ConfirmMark) → list_any moves xs ≡ false → many (begins c) xs ≡ 0
still_none c xs h = many-none (begins c) xs (any-less moves (begins c) (moves_begin c) xs h)

-- ---- the kinds of events

-- so many opens wait as before, and those of the openings that begin
abbrev pub Waits : ℕ → Wire → Wire → List ConfirmMark → Type 0
Waits c b b' xs = (is_up b.link ≡ true) × (unsent c b' ≡ unsent c b + many (begins c) xs)

waits_more : (c : ℕ) (b b' : Wire) (xs : List ConfirmMark) (es : List MethodEntry) → b'.methods ≡ b.methods ++ es → many (is_open_waiting c) es ≡ many (begins c) xs → unsent c b' ≡ unsent c b + many (begins c) xs
waits_more c b b' xs es e n = ap (many (is_open_waiting c)) e ∙ (many-append (is_open_waiting c) b.methods es ∙ ap (λ k. unsent c b + k) n)

opens_same : (c d t : ℕ) → many (is_open_waiting c) (open_entry d t ∷ []) ≡ many (begins c) (mark.Begun d ∷ [])
opens_same c d t = elim (d == c) as (λ v. ◌≡◌ {A = ℕ} (cond (v && true) 1 0) (cond v 1 0)) [ true ↦ refl | false ↦ refl ]

pub effect_waits : (c : ℕ) (b b' : Wire) (xs : List ConfirmMark) (new : List Publish) → Effect b b' xs new → ((e : Error) → xs ≡ mark.Ended c e ∷ [] → unsent c b ≡ 0) → is_up b'.link ≡ true → Waits c b b' xs
effect_waits c b b' xs new (Stays s p es m fit still none) z u = (sym s.up ∙ u, waits_more c b b' xs es m (fit_none c b es fit ∙ sym (still_none c xs still)))
effect_waits c b b' xs new (Closes d e s p m ms fit marks none) z u = (sym s.up ∙ u, waits_more c b b' xs (m ∷ []) ms (fit_none c b (m ∷ []) (fit, tt) ∙ ap (many (begins c)) (sym marks)))
effect_waits c b b' xs new (Opens d t s was now r p ms marks none) z u = (sym s.up ∙ u, waits_more c b b' xs (open_entry d t ∷ []) ms (opens_same c d t ∙ ap (many (begins c)) (sym marks)))
effect_waits c b b' xs new (Adds q up mx r l h p ms here n pub_ marks is) z u = (sym up ∙ u, ap (many (is_open_waiting c)) ms ∙ (let k : many (begins c) xs ≡ 0 = ap (many (begins c)) marks in omega (arith, k)))
effect_waits c b b' xs new (Ends d e s now r p es ms quiet marks none) z u =
    let q = quiet_none c es quiet in
    let k : many (begins c) xs ≡ 0 = ap (many (begins c)) marks in
    let a : unsent c b' ≡ many (is_open_waiting c) (filter (is_off method_channel d) b.methods) + many (is_open_waiting c) es = ap (many (is_open_waiting c)) ms ∙ many-append (is_open_waiting c) (filter (is_off method_channel d) b.methods) es in (
      sym s.up ∙ u,
      elim (eqb_tells d c) [
        | inl y ↦
            let zero : unsent c b ≡ 0 = z e (marks ∙ ap (λ v. mark.Ended v e ∷ []) y.1) in
            let kept : many (is_open_waiting c) (filter (is_off method_channel d) b.methods) ≡ 0 = many_kept (is_open_waiting c) (is_off method_channel d) b.methods zero in
            omega (arith, a, kept, q, k, zero)
        | inr n ↦ let same = off_same c d b.methods n.0 in omega (arith, a, same, q, k)
      ],
    )
effect_waits c b b' xs new (Falls e mx n dn r p q marks none) z u = let w : true ≡ false = sym u ∙ dn in absurd cc
effect_waits c b b' xs new (Sinks mx n was dn r p q still none) z u = let w : true ≡ false = sym u ∙ dn in absurd cc

-- a connection that is open now was open
pub stays_down : {b b' : Wire} {xs : List ConfirmMark} {new : List Publish} → Effect b b' xs new → is_up b'.link ≡ true → is_up b.link ≡ true
stays_down (Stays s p es m fit still none) u = sym s.up ∙ u
stays_down (Closes d e s p m ms fit marks none) u = sym s.up ∙ u
stays_down (Opens d t s was now r p ms marks none) u = sym s.up ∙ u
stays_down (Adds q up mx r l h p ms here n pub_ marks is) u = sym up ∙ u
stays_down (Ends d e s now r p es ms quiet marks none) u = sym s.up ∙ u
stays_down (Falls e mx n dn r p q marks none) u = let w : true ≡ false = sym u ∙ dn in absurd cc
stays_down (Sinks mx n was dn r p q still none) u = let w : true ≡ false = sym u ∙ dn in absurd cc

-- ---- which events end one opening

call_ended : (c d : ℕ) (a : Asked) (b : Wire) (e : Error) → call_marks d a b ≡ mark.Ended c e ∷ [] → is_up (after_call d a b).link ≡ true → ⊥
call_ended c d ask.Open b e h u = cc
call_ended c d (ask.CloseChannel code text) b e h u = cc
call_ended c d (ask.CloseConnection code text) b e h u = cc
call_ended c d (ask.Publish exchange key o payload properties) b e h u = cc
call_ended c d (ask.Method row) b e h u = select (is_select row.method) h
  where
    select : (v : Bool) → cond v (mark.SelectCalled d ∷ []) [] ≡ mark.Ended c e ∷ [] → ⊥
    select true h = cc
    select false h = cc
call_ended c d (ask.Limit limit) b e h u = cc
call_ended c d (ask.Consume m tag queue o) b e h u = cc
call_ended c d ask.Nothing b e h u = cc

asking_ended : (c d : ℕ) (a : Asked) (b : Wire) (e : Error) → asking_marks d a b ≡ mark.Ended c e ∷ [] → is_up (after_asking d a b).link ≡ true → ⊥
asking_ended c d a b e h u = by (is_allowed a (state_of d b)) h u
  where
    by : (v : Bool) → cond v (call_marks d a b) [] ≡ mark.Ended c e ∷ [] → is_up (cond v (after_call d a b) b).link ≡ true → ⊥
    by true h u = call_ended c d a b e h u
    by false h u = cc

if_ended : (c : ℕ) (e : Error) (t : Bool) (m : ConfirmMark) → ((d : ℕ) (x : Error) → m ≡ mark.Ended d x → ⊥) → cond t (m ∷ []) [] ≡ mark.Ended c e ∷ [] → ⊥
if_ended c e true m n h = n c e (let w : m ≡ mark.Ended c e = cc in w)
if_ended c e false m n h = cc

pub client_ended : (c : ℕ) (b : Wire) (x : Event) (r : Record) (e : Error) → is_lawful x ≡ true → is_next x ≡ false → confirm_marks b x r ≡ mark.Ended c e ∷ [] → is_up (after_event b x r).link ≡ true → ⊥
client_ended c b (event.Call d k) r e l n h u = asking_ended c d (asked_by k r) b e h u
client_ended c b (event.Next flow) r e l n h u = cc
client_ended c b (event.Receive f) r e l n h u = cc
client_ended c b event.Lost r e l n h u = cc
client_ended c b (event.PollTicket k) r e l n h u = cc
client_ended c b (event.PollConfirm k) r e l n h u = if_ended c e (is_confirmed r) (mark.Taken k) (λ d x y. cc) h
client_ended c b (event.PollConsumer k) r e l n h u = cc
client_ended c b (event.PollWait d) r e l n h u = if_ended c e (is_returned r) (mark.Drained d) (λ d x y. cc) h
client_ended c b (event.AsideTicket k) r e l n h u = cc
client_ended c b (event.AsideConfirm k) r e l n h u = if_ended c e (is_aside r) (mark.SetAside k) (λ d x y. cc) h
client_ended c b (event.Acker k a) r e l n h u = cc
client_ended c b (event.Delegate k) r e l n h u = cc
client_ended c b (event.DropConsumer k) r e l n h u = cc
client_ended c b event.NextJob r e l n h u = cc
client_ended c b (event.State d) r e l n h u = cc

-- the frame ends the channel's opening
abbrev pub IsEnd : ℕ → Incoming → Type 0
IsEnd c (incoming.ChannelClose d code) = d ≡ c
IsEnd c (incoming.ChannelCloseOk d) = d ≡ c
IsEnd c _ = ⊥

start_ended : (c d : ℕ) (x : Start) (w : Whole) (e : Error) → start_marks d x w ≡ mark.Ended c e ∷ [] → ⊥
start_ended c d (start_.Return code text exchange key) w e h = cc
start_ended c d (start_.Get ticket tag exchange key redelivered count) w e h = cc
start_ended c d (start_.Deliver consumer tag exchange key redelivered) w e h = cc

whole_ended : (c d : ℕ) (w : Option Whole) (e : Error) → whole_marks d w ≡ mark.Ended c e ∷ [] → ⊥
whole_ended c d None e h = cc
whole_ended c d (Some w) e h = start_ended c d w.start w e h

close_down : (l : ConnectionPhase) (b : Wire) → is_up (after_connection_close l b).link ≡ true → ⊥
close_down (link.Closing stage.Queued) b u = cc
close_down _ b u = cc

end_same : (c d : ℕ) (o : Option Error) (e : Error) → end_with d o ≡ mark.Ended c e ∷ [] → d ≡ c
end_same c d None e h = absurd cc
end_same c d (Some x) e h = cc

pub received_ended : (c : ℕ) (b : Wire) (i : Incoming) (r : Record) (e : Error) → incoming_marks i r b ≡ mark.Ended c e ∷ [] → is_up (after_incoming i r b).link ≡ true → IsEnd c i
received_ended c b i (record_.Refused (error.UnexpectedFrame class number)) e h u = absurd cc
received_ended c b (incoming.Settlement d s) (record_.Refused (error.PreconditionFailed tag current)) e h u = absurd (by (is_open_state (state_of d b)) h)
  where
    by : (v : Bool) → cond v (mark.ClosedHere d (error.ProtocolError 406) ∷ []) [] ≡ mark.Ended c e ∷ [] → ⊥
    by true h = cc
    by false h = cc
received_ended c b i (record_.Refused (error.PreconditionFailed tag current)) e h u = absurd cc
received_ended c b i (record_.Refused x) e h u = absurd cc
received_ended c b (incoming.Reply d k a) record_.Received e h u = absurd cc
received_ended c b (incoming.Settlement d s) record_.Received e h u = absurd cc
received_ended c b (incoming.Content d p) record_.Received e h u = absurd (whole_ended c d (whole_on d p b) e h)
received_ended c b (incoming.Consumer d p) record_.Received e h u = absurd cc
received_ended c b (incoming.Flow d active) record_.Received e h u = absurd cc
received_ended c b (incoming.ChannelClose d code) record_.Received e h u = cc
received_ended c b (incoming.ChannelCloseOk d) record_.Received e h u = end_same c d (close_ok_end (phase_of d b)) e h
received_ended c b (incoming.ConnectionClose code) record_.Received e h u = absurd (close_down b.link b u)
received_ended c b incoming.ConnectionCloseOk record_.Received e h u = absurd cc
received_ended c b incoming.Other record_.Received e h u = absurd cc
received_ended c b i _ e h u = absurd cc

-- ---- a frame request

pub content_open : (f : Frame) → is_content f ≡ true → is_open f ≡ false
content_open (frame.Method c m) h = absurd cc
content_open (frame.Header c h) e = refl
content_open (frame.Body c bytes) e = refl

off_open : (c : ℕ) (f : Frame) → is_open f ≡ false → (is_frame_on c f && is_open f) ≡ false
off_open c f h = ap (λ v. is_frame_on c f && v) h ∙ and_false (is_frame_on c f)

left_waits : (c m : ℕ) (t : ℕ → Bool) (rs : List RestEntry) (es : List MethodEntry) (ps : List Publish) (d : ℕ) → AreRest d rs → many (is_open_waiting c) (left_of m t rs es ps).methods + many (is_open_on c) (left_alone (handed_of t rs es ps)) ≡ many (is_open_waiting c) es
left_waits c m t (f ∷ rs) es ps d a = rw (off_open c f.frame (content_open f.frame a.1)) (omega arith)
left_waits c m t [] (x ∷ es) ps d a = elim (is_open_waiting c x) as (λ v. many (is_open_waiting c) es + cond v 1 0 ≡ cond v (many (is_open_waiting c) es + 1) (many (is_open_waiting c) es)) [ true ↦ refl | false ↦ omega arith ]
left_waits c m t [] [] ps d a = by (find (may_begin t) ps)
  where
    by : (o : Option Publish) → 0 + many (is_open_on c) (left_alone (option_map left_publish o)) ≡ 0
    by None = refl
    by (Some q) = elim (q.channel == c) as (λ v. 0 + cond (v && false) 1 0 ≡ 0) [ true ↦ refl | false ↦ refl ]

pub sent_methods : (o : Option Left) (b : Wire) → (sent o b).methods ≡ b.methods
sent_methods None b = refl
sent_methods (Some l) b = refl

pub sent_up : (o : Option Left) (b : Wire) → is_up (sent o b).link ≡ is_up b.link
sent_up None b = refl
sent_up (Some l) b = frame_left l.frame b.link

-- what leaves waits no more
pub next_waits : (c d : ℕ) (t : ℕ → Bool) (b : Wire) → AreRest d b.rest → (is_up (after_handing t b).link ≡ is_up b.link) × (unsent c (after_handing t b) + many (is_open_on c) (left_alone (handed_out t b)) ≡ unsent c b)
next_waits c d t b a = (
  sent_up (handed_out t b) (with_lists (left_lists b.frame_max t (lists_of b)) b),
  ap (λ ms. many (is_open_waiting c) ms + many (is_open_on c) (left_alone (handed_out t b))) (sent_methods (handed_out t b) (with_lists (left_lists b.frame_max t (lists_of b)) b)) ∙ left_waits c b.frame_max t b.rest b.methods b.publishes d a,
)

frame_begins : (c : ℕ) (f : Frame) → many (begins c) (frame_marks f) ≡ 0
frame_begins c (frame.Method d m) = by (is_select m)
  where
    by : (v : Bool) → many (begins c) (cond v (mark.SelectLeft d ∷ []) []) ≡ 0
    by true = refl
    by false = refl
frame_begins c (frame.Header d h) = refl
frame_begins c (frame.Body d bytes) = refl

entry_begins : (c : ℕ) (f : Frame) (o : Option ℕ) (first : Bool) → many (begins c) (entry_marks f o first) ≡ 0
entry_begins c f None first = frame_begins c f
entry_begins c f (Some n) true = refl
entry_begins c f (Some n) false = refl

pub left_begins : (c : ℕ) (o : Option Left) → many (begins c) (left_marks o) ≡ 0
left_begins c None = refl
left_begins c (Some l) = entry_begins c l.frame l.publish l.first
