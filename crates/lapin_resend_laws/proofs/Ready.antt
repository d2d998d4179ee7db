-- A session whose publishes leave after its select: what holds of its states, lists and marks, over every event of a publisher.
use Rattle.std.proofs.Common.{◌≡◌, ◌∙◌, ℕ, ◌+◌, ◌==◌, Bool, true, false, true≢false, ◌&&◌, ◌||◌, not, cond, List, [], ◌∷◌, ◌++◌, append-nil, Option, Some, None, refl, sym, ap, subst, inl, inr, ◌⊎◌}
use Rattle.std.specs.List.{list_any, filter, find, AllByRecursion}
use Rattle.std.specs.Option.{option_map}
use Rattle.std.proofs.lemmas.Bool.Decides.{eqb_tells}
use Rattle.lapin_types.specs.declared.call.Call.TheVariants as call
use Rattle.lapin_types.specs.declared.event.Event.{Event}
use Rattle.lapin_types.specs.declared.event.Event.TheVariants as event
use Rattle.lapin_types.specs.declared.leaving.Left.{Left}
use Rattle.lapin_types.specs.declared.leaving.Publish.{Publish}
use Rattle.lapin_types.specs.declared.record.Record.{Record}
use Rattle.lapin_types.specs.declared.record.Record.TheVariants as record_
use Rattle.lapin_types.specs.Types.{Error, Frame}
use Rattle.lapin_types.specs.Types.error
use Rattle.lapin_types.specs.Types.frame
use Rattle.lapin_types.specs.Types.method
use Rattle.lapin_types.specs.Types.confirm
use Rattle.lapin_rules.specs.declared.broker_frames.Incoming.{Incoming}
use Rattle.lapin_rules.specs.declared.broker_frames.Incoming.TheVariants as incoming
use Rattle.lapin_rules.specs.declared.phases.ChannelPhase.{ChannelPhase}
use Rattle.lapin_rules.specs.declared.phases.ChannelPhase.TheVariants as phase
use Rattle.lapin_rules.specs.ConfirmMarks.{ConfirmMark}
use Rattle.lapin_rules.specs.ConfirmMarks as mark
use Rattle.lapin_rules.specs.ConfirmReadings.{begins, is_begun, is_selected}
use Rattle.lapin_rules.specs.Drops.{is_off, publish_channel, method_channel}
use Rattle.lapin_rules.specs.Ends.{live_channels, end_with}
use Rattle.lapin_rules.specs.Events.{record_of, after_event, confirm_marks}
use Rattle.lapin_rules.specs.Frames.{MethodEntry, RestEntry, left_rest, left_method, left_publish, publish_method, rest_of}
use Rattle.lapin_rules.specs.Handing.{handed_out, began_on, after_handing, left_marks, sent}
use Rattle.lapin_rules.specs.Leaving.{may_begin}
use Rattle.lapin_rules.specs.Words.{without_first}
use Rattle.lapin_rules.specs.Phases.{is_up, is_live, channel_state, phase_in}
use Rattle.lapin_rules.specs.ChannelClose.{phases_sent}
use Rattle.lapin_rules.specs.ConnectionClose.{link_sent}
use Rattle.lapin_tables.specs.ByChannel.{at_channel}
use Rattle.lapin_rules.specs.Readings.{Readings}
use Rattle.lapin_rules.specs.Receiving.{incoming_marks, received_marks, refused_marks, failed_marks}
use Rattle.lapin_rules.specs.Content.{whole_marks, start_marks, whole_on}
use Rattle.lapin_content.specs.declared.start.Start.{Start}
use Rattle.lapin_content.specs.declared.start.Start.TheVariants as start
use Rattle.lapin_content.specs.declared.Whole.{Whole}
use Rattle.lapin_rules.specs.Select.{is_select, method_marks}
use Rattle.lapin_rules.specs.Wire.{Wire, state_of, phase_of, is_closed, is_open}
use Rattle.lapin_effects.specs.Effects.{Effect, Stays, Closes, Opens, Adds, Ends, Falls, Sinks, live, grows, is_next}
use Rattle.lapin_effects.proofs.Events.{has_effect}
use Rattle.lapin_laws.proofs.Going.{live_sent, handed_begun, next_publish, next_none}
use Rattle.lapin_resend.specs.Messages.{Standing}
use Rattle.lapin_resend.specs.Publisher.{publishing}
use Rattle.lapin_resend_laws.proofs.Marks.{one_still, Requested, requested-push, Still, quiet_still, begun-push, selected-push}
use Rattle.lapin_tables.proofs.Bools.{or_true, and_first}
use Rattle.std.proofs.lemmas.Bool.{or_right}
use Rattle.lapin_effects.proofs.Comes.{ends_grow, all_grow}
use Rattle.lapin_machine.proofs.Shut.{frame_left}

-- ---- what is kept

-- a `confirm.select` of channel 1 waits
abbrev pub is_select_of : MethodEntry → Bool
is_select_of m = (m.channel == 1) && is_select m.method

abbrev pub has_select : List MethodEntry → Bool
has_select ms = list_any is_select_of ms

-- the opening of channel 1 is selected, or its select waits
abbrev pub Armed : Wire → List ConfirmMark → Type 0
Armed b ms = (is_selected 1 ms ≡ true) ⊎ ((has_select b.methods ≡ true) × (is_begun 1 ms ≡ true))

-- a publish is on channel 1
abbrev pub IsPublishOfOne : Publish → Type 0
IsPublishOfOne p = p.channel ≡ 1

pub record Ready (b : Wire) (ms : List ConfirmMark) (asked : Bool) : Type 0 where
  pub requested : Requested ms
  pub one : AllByRecursion IsPublishOfOne b.publishes
  pub begun : live 1 b ≡ true → is_begun 1 ms ≡ true
  pub rests : live 1 b ≡ false → b.publishes ≡ []
  pub waits : (b.publishes ≡ []) ⊎ Armed b ms
  pub calls : asked ≡ true → live 1 b ≡ true → Armed b ms

-- so it is after an event
abbrev pub ReadyAfter : Wire → List ConfirmMark → Readings → Event → Bool → Type 0
ReadyAfter b ms readings e asked = Ready (after_event b e (record_of b readings e)) (ms ++ confirm_marks b e (record_of b readings e)) asked

-- ---- lists

any_more : (p : MethodEntry → Bool) (xs ys : List MethodEntry) → list_any p xs ≡ true → list_any p (xs ++ ys) ≡ true
any_more p [] ys h = absurd (true≢false (sym h))
any_more p (x ∷ xs) ys h = at (p x) refl (any_more p xs ys)
  where
    at : (b : Bool) → p x ≡ b → (list_any p xs ≡ true → list_any p (xs ++ ys) ≡ true) → list_any p ((x ∷ xs) ++ ys) ≡ true
    at true is rest = rw is refl
    at false is rest = let later : list_any p xs ≡ true = rw is at h in rw is (rest later)

-- a select of channel 1 isn't taken out with another channel
select_kept : (d : ℕ) (xs : List MethodEntry) → (d == 1) ≡ false → has_select xs ≡ true → has_select (filter (is_off method_channel d) xs) ≡ true
select_kept d [] apart h = absurd (true≢false (sym h))
select_kept d (x ∷ xs) apart h = at (is_select_of x) (is_off method_channel d x) refl refl (select_kept d xs apart)
  where
    off_false : (c : ℕ) → (c == 1) ≡ true → not (c == d) ≡ false → ⊥
    off_false c one out =
        elim (eqb_tells c 1) [
          | inl same ↦
              elim (eqb_tells c d) [
                | inl again ↦
                    let z : (d == 1) ≡ true = ap (λ (k : ℕ). k == 1) (sym again.1) ∙ one in
                    true≢false (sym z ∙ apart)
                | inr other ↦ let z : not false ≡ false = ap not (sym other.0) ∙ out in true≢false z
              ]
          | inr other ↦ true≢false (sym one ∙ other.0)
        ]

    at : (s o : Bool) → is_select_of x ≡ s → is_off method_channel d x ≡ o → (has_select xs ≡ true → has_select (filter (is_off method_channel d) xs) ≡ true) → has_select (filter (is_off method_channel d) (x ∷ xs)) ≡ true
    at true true s_is o_is rest = rw (o_is, s_is) refl
    at true false s_is o_is rest = absurd (off_false x.channel (and_first (x.channel == 1) (is_select x.method) s_is) o_is)
    at false true s_is o_is rest = let later : has_select xs ≡ true = rw s_is at h in rw (o_is, s_is) (rest later)
    at false false s_is o_is rest = let later : has_select xs ≡ true = rw s_is at h in rw o_is (rest later)

one_filtered : (f : Publish → Bool) (ps : List Publish) → AllByRecursion IsPublishOfOne ps → AllByRecursion IsPublishOfOne (filter f ps)
one_filtered f [] h = tt
one_filtered f (p ∷ ps) h = at (f p) (one_filtered f ps h.1)
  where
    at : (b : Bool) → AllByRecursion IsPublishOfOne (filter f ps) → AllByRecursion IsPublishOfOne (cond b (p ∷ filter f ps) (filter f ps))
    at true rest = (h.0, rest)
    at false rest = rest

-- all of channel 1 are taken out with it
none_off : (d : ℕ) (ps : List Publish) → (d == 1) ≡ true → AllByRecursion IsPublishOfOne ps → filter (is_off publish_channel d) ps ≡ []
none_off d [] same h = refl
none_off d (p ∷ ps) same h = rw (out p.channel h.0) (none_off d ps same h.1)
  where
    out : (c : ℕ) → c ≡ 1 → not (c == d) ≡ false
    out c one =
        elim (eqb_tells d 1) [
          | inl is ↦ ap (λ (k : ℕ). not (k == d)) one ∙ ap (λ (k : ℕ). not (1 == k)) is.1
          | inr other ↦ absurd (true≢false (sym same ∙ other.0))
        ]

filtered_none : (f : Publish → Bool) (ps : List Publish) → ps ≡ [] → filter f ps ≡ []
filtered_none f ps none = ap (filter f) none

-- ---- what came before goes on

armed_on : (b b' : Wire) (ms xs : List ConfirmMark) → Still ms xs → (has_select b.methods ≡ true → has_select b'.methods ≡ true) → Armed b ms → Armed b' (ms ++ xs)
armed_on b b' ms xs still keeps (inl is) = inl (still.selected is)
armed_on b b' ms xs still keeps (inr both) = inr (keeps both.0, still.begun both.1)

-- ---- an event that begins nothing, adds nothing, and hands nothing out

quiet_effect : (b b' : Wire) (ms xs : List ConfirmMark) (new : List Publish) (asked : Bool) → list_any grows xs ≡ false → Ready b ms asked → Effect b b' xs new → Ready b' (ms ++ xs) asked
quiet_effect b b' ms xs new asked quiet r (Stays same publishes es methods fit still none) =
    let s = quiet_still xs ms quiet in
    let keeps : has_select b.methods ≡ true → has_select b'.methods ≡ true = λ h. ap has_select methods ∙ any_more is_select_of b.methods es h in
    record {
      requested = s.requested r.requested;
      one = subst (λ (ps : List Publish). AllByRecursion IsPublishOfOne ps) (sym publishes) r.one;
      begun = λ alive. s.begun (r.begun (sym (same.lives 1) ∙ alive));
      rests = λ over. publishes ∙ r.rests (sym (same.lives 1) ∙ over);
      waits = waiting s keeps r.waits;
      calls = λ is alive. armed_on b b' ms xs s keeps (r.calls is (sym (same.lives 1) ∙ alive));
    }
  where
    waiting : Still ms xs → (has_select b.methods ≡ true → has_select b'.methods ≡ true) → (b.publishes ≡ []) ⊎ Armed b ms → (b'.publishes ≡ []) ⊎ Armed b' (ms ++ xs)
    waiting s keeps (inl none) = inl (publishes ∙ none)
    waiting s keeps (inr armed) = inr (armed_on b b' ms xs s keeps armed)
quiet_effect b b' ms xs new asked quiet r (Closes d e same publishes m methods fit marks none) =
    let s = quiet_still xs ms quiet in
    let keeps : has_select b.methods ≡ true → has_select b'.methods ≡ true = λ h. ap has_select methods ∙ any_more is_select_of b.methods (m ∷ []) h in
    record {
      requested = s.requested r.requested;
      one = subst (λ (ps : List Publish). AllByRecursion IsPublishOfOne ps) (sym publishes) (one_filtered (is_off publish_channel d) b.publishes r.one);
      begun = λ alive. s.begun (r.begun (sym (same.lives 1) ∙ alive));
      rests = λ over. publishes ∙ filtered_none (is_off publish_channel d) b.publishes (r.rests (sym (same.lives 1) ∙ over));
      waits = waiting s keeps r.waits;
      calls = λ is alive. armed_on b b' ms xs s keeps (r.calls is (sym (same.lives 1) ∙ alive));
    }
  where
    waiting : Still ms xs → (has_select b.methods ≡ true → has_select b'.methods ≡ true) → (b.publishes ≡ []) ⊎ Armed b ms → (b'.publishes ≡ []) ⊎ Armed b' (ms ++ xs)
    waiting s keeps (inl none) = inl (publishes ∙ filtered_none (is_off publish_channel d) b.publishes none)
    waiting s keeps (inr armed) = inr (armed_on b b' ms xs s keeps armed)
quiet_effect b b' ms xs new asked quiet r (Opens d t same was now rest publishes methods marks none) =
    let grown : list_any grows xs ≡ true = ap (list_any grows) marks in
    absurd (true≢false (sym grown ∙ quiet))
quiet_effect b b' ms xs new asked quiet r (Adds q up max rest lives hear publishes methods here number published marks is) =
    let grown : list_any grows xs ≡ true = ap (list_any grows) marks in
    absurd (true≢false (sym grown ∙ quiet))
quiet_effect b b' ms xs new asked quiet r (Ends d e same now rest publishes es methods still marks none) = at (d == 1) refl
  where
    s : Still ms xs
    s = quiet_still xs ms quiet

    over : (d == 1) ≡ true → live 1 b' ≡ false
    over is = elim (eqb_tells d 1) [
      | inl y ↦ subst (λ (c : ℕ). live c b' ≡ false) y.1 now
      | inr n ↦ absurd (true≢false (sym is ∙ n.0))
    ]

    at : (t : Bool) → (d == 1) ≡ t → Ready b' (ms ++ xs) asked
    at true is =
        let gone : b'.publishes ≡ [] = publishes ∙ none_off d b.publishes is r.one in
        record {
          requested = s.requested r.requested;
          one = subst (λ (ps : List Publish). AllByRecursion IsPublishOfOne ps) (sym publishes) (one_filtered (is_off publish_channel d) b.publishes r.one);
          begun = λ alive. absurd (true≢false (sym alive ∙ over is));
          rests = λ _. gone;
          waits = inl gone;
          calls = λ _ alive. absurd (true≢false (sym alive ∙ over is));
        }
    at false apart =
        let keeps : has_select b.methods ≡ true → has_select b'.methods ≡ true = λ h. ap has_select methods ∙ any_more is_select_of (filter (is_off method_channel d) b.methods) es (select_kept d b.methods apart h) in
        record {
          requested = s.requested r.requested;
          one = subst (λ (ps : List Publish). AllByRecursion IsPublishOfOne ps) (sym publishes) (one_filtered (is_off publish_channel d) b.publishes r.one);
          begun = λ alive. s.begun (r.begun (sym (same.lives 1 apart) ∙ alive));
          rests = λ no. publishes ∙ filtered_none (is_off publish_channel d) b.publishes (r.rests (sym (same.lives 1 apart) ∙ no));
          waits = waiting keeps r.waits;
          calls = λ is alive. armed_on b b' ms xs s keeps (r.calls is (sym (same.lives 1 apart) ∙ alive));
        }
      where
        waiting : (has_select b.methods ≡ true → has_select b'.methods ≡ true) → (b.publishes ≡ []) ⊎ Armed b ms → (b'.publishes ≡ []) ⊎ Armed b' (ms ++ xs)
        waiting keeps (inl none) = inl (publishes ∙ filtered_none (is_off publish_channel d) b.publishes none)
        waiting keeps (inr armed) = inr (armed_on b b' ms xs s keeps armed)
quiet_effect b b' ms xs new asked quiet r (Falls e max published down rest publishes still marks none) =
    let s = quiet_still xs ms quiet in
    let over : live 1 b' ≡ false = rw down refl in
    record {
      requested = s.requested r.requested;
      one = subst (λ (ps : List Publish). AllByRecursion IsPublishOfOne ps) (sym publishes) tt;
      begun = λ alive. absurd (true≢false (sym alive ∙ over));
      rests = λ _. publishes;
      waits = inl publishes;
      calls = λ _ alive. absurd (true≢false (sym alive ∙ over));
    }
quiet_effect b b' ms xs new asked quiet r (Sinks max published was down rest publishes still marks none) =
    let s = quiet_still xs ms quiet in
    let before : live 1 b ≡ false = rw was refl in
    let over : live 1 b' ≡ false = rw down refl in
    let gone : b'.publishes ≡ [] = publishes (r.rests before) in
    record {
      requested = s.requested r.requested;
      one = subst (λ (ps : List Publish). AllByRecursion IsPublishOfOne ps) (sym gone) tt;
      begun = λ alive. absurd (true≢false (sym alive ∙ over));
      rests = λ _. gone;
      waits = inl gone;
      calls = λ _ alive. absurd (true≢false (sym alive ∙ over));
    }

pub quiet_event : (b : Wire) (ms : List ConfirmMark) (readings : Readings) (e : Event) (asked : Bool) → is_next e ≡ false → list_any grows (confirm_marks b e (record_of b readings e)) ≡ false → Ready b ms asked → ReadyAfter b ms readings e asked
quiet_event b ms readings e asked plain quiet r = quiet_effect b _ ms _ _ asked quiet r (has_effect b readings e plain)

-- ---- a frame of the broker, a poll and a loss are such events

whole_quiet : (c : ℕ) (o : Option Whole) → list_any grows (whole_marks c o) ≡ false
whole_quiet c None = refl
whole_quiet c (Some w) = at w.start
  where
    at : (s : Start) → list_any grows (start_marks c s w) ≡ false
    at (start.Return code text exchange key) = refl
    at _ = refl

end_quiet : (c : ℕ) (o : Option Error) → list_any grows (end_with c o) ≡ false
end_quiet c None = refl
end_quiet c (Some e) = refl

closed_quiet : (t : Bool) (m : ConfirmMark) → grows m ≡ false → list_any grows (cond t (m ∷ []) []) ≡ false
closed_quiet true m h = rw h refl
closed_quiet false m h = refl

failed_quiet : (i : Incoming) (b : Wire) → list_any grows (failed_marks i b) ≡ false
failed_quiet (incoming.Settlement c s) b = closed_quiet (is_open (state_of c b)) _ refl
failed_quiet _ b = refl

refused_quiet : (i : Incoming) (e : Error) (b : Wire) → list_any grows (refused_marks i e b) ≡ false
refused_quiet i (error.UnexpectedFrame class number) b = ends_grow _ (live_channels b.phases)
refused_quiet i (error.PreconditionFailed tag current) b = failed_quiet i b
refused_quiet i _ b = refl

received_quiet : (i : Incoming) (b : Wire) → list_any grows (received_marks i b) ≡ false
received_quiet (incoming.Settlement c s) b = refl
received_quiet (incoming.Content c p) b = whole_quiet c (whole_on c p b)
received_quiet (incoming.ChannelClose c code) b = refl
received_quiet (incoming.ChannelCloseOk c) b = end_quiet c _
received_quiet (incoming.ConnectionClose code) b = ends_grow _ (live_channels b.phases)
received_quiet _ b = refl

pub incoming_quiet : (i : Incoming) (r : Record) (b : Wire) → list_any grows (incoming_marks i r b) ≡ false
incoming_quiet i (record_.Refused e) b = refused_quiet i e b
incoming_quiet i record_.Received b = received_quiet i b
incoming_quiet i _ b = refl

pub taken_quiet : (t : Bool) (n : ℕ) → list_any grows (cond t (mark.Taken n ∷ []) []) ≡ false
taken_quiet true n = refl
taken_quiet false n = refl

-- ---- calls of the publisher

-- where a channel is closed it has no live opening; where it is open it has one
closed_over : (b : Wire) → is_closed (state_of 1 b) ≡ true → live 1 b ≡ false
closed_over b closed = at (is_up b.link) (phase_of 1 b) refl refl
  where
    at : (t : Bool) (x : ChannelPhase) → is_up b.link ≡ t → phase_of 1 b ≡ x → live 1 b ≡ false
    at false x up is = rw up refl
    at true phase.Closed up is = rw (up, is) refl
    at true phase.Crossed up is = rw (up, is) refl
    at true phase.Opening up is = let no : is_closed (channel_state phase.Opening) ≡ true = rw (up, is) at closed in absurd (true≢false (sym no))
    at true (phase.Open paused) up is = let no : is_closed (channel_state (phase.Open paused)) ≡ true = rw (up, is) at closed in absurd (true≢false (sym no))
    at true (phase.Closing who sent) up is = let no : is_closed (channel_state (phase.Closing who sent)) ≡ true = rw (up, is) at closed in absurd (true≢false (sym no))

pub open_alive : (b : Wire) → is_open (state_of 1 b) ≡ true → live 1 b ≡ true
open_alive b opened = at (is_up b.link) (phase_of 1 b) refl refl
  where
    at : (t : Bool) (x : ChannelPhase) → is_up b.link ≡ t → phase_of 1 b ≡ x → live 1 b ≡ true
    at false x up is = let no : false ≡ true = rw up at opened in absurd (true≢false (sym no))
    at true (phase.Open paused) up is = rw (up, is) refl
    at true phase.Closed up is = let no : false ≡ true = rw (up, is) at opened in absurd (true≢false (sym no))
    at true phase.Crossed up is = let no : false ≡ true = rw (up, is) at opened in absurd (true≢false (sym no))
    at true phase.Opening up is = let no : false ≡ true = rw (up, is) at opened in absurd (true≢false (sym no))
    at true (phase.Closing who sent) up is = let no : false ≡ true = rw (up, is) at opened in absurd (true≢false (sym no))

-- `channel.open` on the closed channel: nothing waits, and no select was called in the opening that begins
pub open_call : (b : Wire) (ms : List ConfirmMark) (readings : Readings) (asked : Bool) → is_closed (state_of 1 b) ≡ true → Ready b ms asked → ReadyAfter b ms readings (event.Call 1 call.OpenChannel) false
open_call b ms readings asked closed r =
    let none : b.publishes ≡ [] = r.rests (closed_over b closed) in
    rw closed (record {
      requested = requested-push ms (mark.Begun 1) tt tt r.requested;
      one = r.one;
      begun = λ _. last_begun ms;
      rests = λ _. none;
      waits = inl none;
      calls = λ is. absurd (true≢false (sym is));
    })
  where
    last_begun : (xs : List ConfirmMark) → is_begun 1 (xs ++ mark.Begun 1 ∷ []) ≡ true
    last_begun [] = refl
    last_begun (x ∷ xs) = or_right (begins 1 x) (is_begun 1 (xs ++ mark.Begun 1 ∷ [])) (last_begun xs)

-- `confirm.select` on the open channel: it waits
pub select_call : (b : Wire) (ms : List ConfirmMark) (readings : Readings) (asked : Bool) → is_open (state_of 1 b) ≡ true → Ready b ms asked → ReadyAfter b ms readings (event.Call 1 (call.ConfirmSelect (record { nowait = true }))) true
select_call b ms readings asked opened r =
    let alive : live 1 b ≡ true = open_alive b opened in
    let begun : is_begun 1 (ms ++ mark.SelectCalled 1 ∷ []) ≡ true = begun-push ms (mark.SelectCalled 1) (r.begun alive) in
    rw opened (record {
      requested = requested-push ms (mark.SelectCalled 1) tt tt r.requested;
      one = r.one;
      begun = λ _. begun;
      rests = λ over. absurd (true≢false (sym alive ∙ over));
      waits = inr (inr (last b.methods, begun));
      calls = λ _ _. inr (last b.methods, begun);
    })
  where
    entry : MethodEntry
    entry = record { channel = 1; method = method.Confirm (confirm.Select true); ticket = Some (b.tickets + 1) }

    last : (xs : List MethodEntry) → has_select (xs ++ entry ∷ []) ≡ true
    last [] = refl
    last (x ∷ xs) = or_right (is_select_of x) (has_select (xs ++ entry ∷ [])) (last xs)

-- a publish on the open channel, in an opening whose select was called
pub publish_call : (b : Wire) (ms : List ConfirmMark) (readings : Readings) (s : Standing) → is_open (state_of 1 b) ≡ true → Ready b ms true → ReadyAfter b ms readings (publishing s) true
publish_call b ms readings s opened r =
    let alive : live 1 b ≡ true = open_alive b opened in
    let armed : Armed b ms = r.calls refl alive in
    let still : Still ms (mark.Added 1 ∷ []) = one_still ms (mark.Added 1) refl refl tt in
    let goes : Armed b (ms ++ mark.Added 1 ∷ []) = armed_on b b ms (mark.Added 1 ∷ []) still (λ h. h) armed in
    rw opened (record {
      requested = still.requested r.requested;
      one = one_more b.publishes _ r.one refl;
      begun = λ _. still.begun (r.begun alive);
      rests = λ over. absurd (true≢false (sym alive ∙ over));
      waits = inr goes;
      calls = λ _ _. goes;
    })
  where
    one_more : (ps : List Publish) (p : Publish) → AllByRecursion IsPublishOfOne ps → p.channel ≡ 1 → AllByRecursion IsPublishOfOne (ps ++ p ∷ [])
    one_more [] p h on = (on, tt)
    one_more (q ∷ qs) p h on = (h.0, one_more qs p h.1 on)

-- ---- a frame request

-- a leaving frame moves no opening
live_sent_by : (f : Frame) (b : Wire) → live 1 (record b { link = link_sent f b.link; phases = phases_sent f b.phases }) ≡ live 1 b
live_sent_by f b =
    ap (λ (t : Bool). t && is_live (phase_in (at_channel 1 (phases_sent f b.phases)))) (frame_left f b.link)
    ∙ ap (λ (t : Bool). is_up b.link && t) (live_sent f b.phases 1)

one_first : (f : Publish → Bool) (ps : List Publish) → AllByRecursion IsPublishOfOne ps → AllByRecursion IsPublishOfOne (without_first f ps)
one_first f [] h = tt
one_first f (p ∷ ps) h = at (f p) (one_first f ps h.1)
  where
    at : (t : Bool) → AllByRecursion IsPublishOfOne (without_first f ps) → AllByRecursion IsPublishOfOne (cond t ps (p ∷ without_first f ps))
    at true rest = h.1
    at false rest = (h.0, rest)

-- what is left behind a frame that left, with this mark or none, is ready where what it leaves unselected is armed
module _ (b : Wire) (ms xs : List ConfirmMark) (asked : Bool) (f : Frame) (r : Ready b ms asked) (still : Still ms xs) (rest : List RestEntry) (methods : List MethodEntry) (publishes : List Publish) where
  abbrev left_wire : Wire
  left_wire = record b { link = link_sent f b.link; phases = phases_sent f b.phases; rest = rest; methods = methods; publishes = publishes }

  pub left_ready : AllByRecursion IsPublishOfOne publishes → (b.publishes ≡ [] → publishes ≡ []) → (Armed b ms → Armed left_wire (ms ++ xs)) → Ready left_wire (ms ++ xs) asked
  left_ready one none armed =
      let alive : live 1 left_wire ≡ live 1 b = live_sent_by f b in
      record {
        requested = still.requested r.requested;
        one = one;
        begun = λ h. still.begun (r.begun (sym alive ∙ h));
        rests = λ h. none (r.rests (sym alive ∙ h));
        waits = waiting r.waits;
        calls = λ is h. armed (r.calls is (sym alive ∙ h));
      }
    where
      waiting : (b.publishes ≡ []) ⊎ Armed b ms → (publishes ≡ []) ⊎ Armed left_wire (ms ++ xs)
      waiting (inl empty) = inl (none empty)
      waiting (inr is) = inr (armed is)

-- a method leaves: a select of channel 1 is selected then
method_still : (ms : List ConfirmMark) (m : MethodEntry) → Still ms (method_marks m.channel m.method)
method_still ms m = at (is_select m.method)
  where
    at : (t : Bool) → Still ms (cond t (mark.SelectLeft m.channel ∷ []) [])
    at true = one_still ms (mark.SelectLeft m.channel) refl tt tt
    at false = quiet_still [] ms refl

method_armed : (ms : List ConfirmMark) (m : MethodEntry) (hs : List MethodEntry) → has_select (m ∷ hs) ≡ true → is_begun 1 ms ≡ true → (is_selected 1 (ms ++ method_marks m.channel m.method) ≡ true) ⊎ ((has_select hs ≡ true) × (is_begun 1 (ms ++ method_marks m.channel m.method) ≡ true))
method_armed ms m hs has begun = at (is_select m.method) (m.channel == 1) refl refl
  where
    at : (s c : Bool) → is_select m.method ≡ s → (m.channel == 1) ≡ c → (is_selected 1 (ms ++ method_marks m.channel m.method) ≡ true) ⊎ ((has_select hs ≡ true) × (is_begun 1 (ms ++ method_marks m.channel m.method) ≡ true))
    at true true s_is c_is =
        let selected : is_selected 1 (ms ++ mark.SelectLeft m.channel ∷ []) ≡ true = selected-push ms (mark.SelectLeft m.channel) refl begun ∙ ap (λ (t : Bool). is_selected 1 ms || t) c_is ∙ or_true (is_selected 1 ms) in
        inl (rw s_is selected)
    at s false s_is c_is = inr (subst (λ (x : Bool). ((x && is_select m.method) || has_select hs) ≡ true) c_is has, (method_still ms m).begun begun)
    at false true s_is c_is =
        let here : (is_select m.method || has_select hs) ≡ true = subst (λ (x : Bool). ((x && is_select m.method) || has_select hs) ≡ true) c_is has in
        inr (subst (λ (x : Bool). (x || has_select hs) ≡ true) s_is here, (method_still ms m).begun begun)

-- a publish begins only where its opening is selected
begun_selected : (b : Wire) (ms : List ConfirmMark) (t : ℕ → Bool) (p : Publish) → b.methods ≡ [] → find (may_begin t) b.publishes ≡ Some p → (b.publishes ≡ []) ⊎ Armed b ms → is_selected 1 ms ≡ true
begun_selected b ms t p none here (inl empty) = let no : None ≡ Some p = ap (find (may_begin t)) (sym empty) ∙ here in absurd (cc)
begun_selected b ms t p none here (inr (inl selected)) = selected
begun_selected b ms t p none here (inr (inr both)) = let no : false ≡ true = ap has_select (sym none) ∙ both.0 in absurd (true≢false (sym no))

-- a frame request leaves it ready, whichever publish it lets begin
pub handing_ready : (t : ℕ → Bool) (b : Wire) (ms : List ConfirmMark) (asked : Bool) → Ready b ms asked → Ready (after_handing t b) (ms ++ left_marks (handed_out t b)) asked
handing_ready t b ms asked r = by b.rest b.methods (find (may_begin t) b.publishes) refl refl refl
  where
    -- by what leaves and what that leaves
    told : (o : Option Left) (b' : Wire) → handed_out t b ≡ o → after_handing t b ≡ b' → Ready b' (ms ++ left_marks o) asked → Ready (after_handing t b) (ms ++ left_marks (handed_out t b)) asked
    told o b' o_is b_is h =
        subst (λ (x : Option Left). Ready (after_handing t b) (ms ++ left_marks x) asked) (sym o_is) (subst (λ (x : Wire). Ready x (ms ++ left_marks o) asked) (sym b_is) h)

    by : (rs : List RestEntry) (hs : List MethodEntry) (o : Option Publish) → b.rest ≡ rs → b.methods ≡ hs → find (may_begin t) b.publishes ≡ o → Ready (after_handing t b) (ms ++ left_marks (handed_out t b)) asked
    by (f ∷ fs) hs o rest_is methods_is found =
        told (Some (left_rest f)) (left_wire b ms [] asked f.frame r (quiet_still [] ms refl) fs b.methods b.publishes) (rw rest_is refl) (rw rest_is refl)
        (left_ready b ms [] asked f.frame r (quiet_still [] ms refl) fs b.methods b.publishes r.one (λ e. e) (λ a. armed_on b (left_wire b ms [] asked f.frame r (quiet_still [] ms refl) fs b.methods b.publishes) ms [] (quiet_still [] ms refl) (λ h. h) a))
    by [] (m ∷ hs) o rest_is methods_is found =
        told (Some (left_method m)) (left_wire b ms (method_marks m.channel m.method) asked (frame.Method m.channel m.method) r (method_still ms m) [] hs b.publishes) (rw (rest_is, methods_is) refl) (rw (rest_is, methods_is) refl)
        (left_ready b ms (method_marks m.channel m.method) asked (frame.Method m.channel m.method) r (method_still ms m) [] hs b.publishes r.one (λ e. e) goes)
      where
        goes : Armed b ms → (is_selected 1 (ms ++ method_marks m.channel m.method) ≡ true) ⊎ ((has_select hs ≡ true) × (is_begun 1 (ms ++ method_marks m.channel m.method) ≡ true))
        goes (inl selected) = inl ((method_still ms m).selected selected)
        goes (inr both) = method_armed ms m hs (ap has_select (sym methods_is) ∙ both.0) both.1
    by [] [] (Some p) rest_is methods_is found =
        let selected : is_selected 1 ms ≡ true = begun_selected b ms t p methods_is found r.waits in
        let still : Still ms (mark.Left p.channel p.confirm ∷ []) = one_still ms (mark.Left p.channel p.confirm) refl tt selected in
        told (Some (left_publish p)) (left_wire b ms (mark.Left p.channel p.confirm ∷ []) asked (frame.Method p.channel (publish_method p)) r still (rest_of b.frame_max p) [] (without_first (may_begin t) b.publishes))
        (handed_begun t b rest_is methods_is ∙ ap (option_map left_publish) found) (next_publish t b p rest_is methods_is found)
        (left_ready b ms (mark.Left p.channel p.confirm ∷ []) asked (frame.Method p.channel (publish_method p)) r still (rest_of b.frame_max p) [] (without_first (may_begin t) b.publishes) (one_first (may_begin t) b.publishes r.one) (λ e. ap (without_first (may_begin t)) e) (λ _. inl (still.selected selected)))
    by [] [] None rest_is methods_is found =
        told None b (handed_begun t b rest_is methods_is ∙ ap (option_map left_publish) found) (next_none t b rest_is methods_is found)
        (subst (λ (xs : List ConfirmMark). Ready b xs asked) (sym (append-nil ms)) r)

pub next_event : (b : Wire) (ms : List ConfirmMark) (readings : Readings) (flow asked : Bool) → Ready b ms asked → ReadyAfter b ms readings (event.Next flow) asked
next_event b ms readings flow asked r = handing_ready (began_on (record_of b readings (event.Next flow))) b ms asked r
