-- A careful caller keeps a channel prepared: its limit is set before it is selected, and stays.
use Rattle.std.proofs.Common.{◌≡◌, ◌∙◌, ℕ, ◌+◌, ◌<◌, ◌≤◌, ◌==◌, ◌&&◌, ◌||◌, Bool, true, false, cond, List, [], ◌∷◌, ◌++◌, Option, Some, None, ◌⊎◌, inl, inr, refl, sym, ap, subst}
use Rattle.std.proofs.lemmas.Bool.Decides.{eqb_tells}
use Rattle.std.specs.List.{filter, find, fold, list_any}
use Rattle.std.proofs.lemmas.List.Folds.{list_any-append}
use Rattle.std.specs.Option.{option_map}
use Rattle.lapin_tables.specs.ByChannel.{at_channel}
use Rattle.lapin_types.specs.declared.event.Event.{Event}
use Rattle.lapin_types.specs.declared.event.Event.TheVariants as event
use Rattle.lapin_types.specs.declared.call.Call.{Call}
use Rattle.lapin_types.specs.declared.call.Call.TheVariants as call
use Rattle.lapin_types.specs.declared.leaving.Left.{Left}
use Rattle.lapin_types.specs.declared.leaving.Publish.{Publish}
use Rattle.lapin_types.specs.declared.record.Record.{Record}
use Rattle.lapin_types.specs.Types.{ChannelState, Error, Frame, Method}
use Rattle.lapin_types.specs.Types.channel_state as state
use Rattle.lapin_types.specs.Types.frame
use Rattle.lapin_types.specs.Types.method
use Rattle.lapin_types.specs.Types.channel
use Rattle.lapin_rules.specs.declared.calls.Asked.{Asked}
use Rattle.lapin_rules.specs.declared.calls.Asked.TheVariants as ask
use Rattle.lapin_rules.specs.declared.phases.ChannelPhase.{ChannelPhase}
use Rattle.lapin_rules.specs.declared.phases.ChannelPhase.TheVariants as phase
use Rattle.lapin_rules.specs.ConfirmMarks.{ConfirmMark}
use Rattle.lapin_rules.specs.ConfirmMarks as mark
use Rattle.lapin_rules.specs.Asking.{asked_by, asked_wire, after_call, call_marks, is_allowed, is_outstanding}
use Rattle.lapin_rules.specs.Calls.{asked, is_try}
use Rattle.lapin_rules.specs.ChannelClose.{phases_sent}
use Rattle.lapin_rules.specs.Drops.{is_off, method_channel}
use Rattle.lapin_rules.specs.ConnectionClose.{failed_at_connection_close}
use Rattle.lapin_rules.specs.Ends.{ends_all, live_channels}
use Rattle.lapin_rules.specs.Events.{after_event, confirm_marks, record_of}
use Rattle.lapin_rules.specs.Flow.{begins_on}
use Rattle.lapin_rules.specs.Frames.{MethodEntry, RestEntry, left_method, left_rest, left_publish}
use Rattle.lapin_rules.specs.Handing.{left_marks, handed_out, sent}
use Rattle.lapin_rules.specs.Leaving.{Lists, may_begin, handed_of, left_of, left_lists}
use Rattle.lapin_rules.specs.Phases.{channel_state, is_up, is_live, phase_in}
use Rattle.lapin_rules.specs.Readings.{Readings}
use Rattle.lapin_rules.specs.Select.{is_select, method_marks}
use Rattle.lapin_rules.specs.Wire.{Wire, state_of, phase_of, is_open, lists_of, with_lists}
use Rattle.lapin_rules.specs.Words.{is_some}
use Rattle.lapin_effects.specs.Effects.{live, AreQuiet, open_entry, Same, SameBut, Effect, Stays, Closes, Opens, Adds, Ends, Falls, Sinks, is_next, publish_by}
use Rattle.lapin_effects.proofs.Events.{has_effect}
use Rattle.lapin_confirm.specs.ConfirmState.{ConfirmState}
use Rattle.lapin_confirm.specs.Machine.{after_mark}
use Rattle.lapin_confirm.specs.PublishStates.{ConfirmModeState, fresh_confirm_mode, selected_in, selected_on, limit_on}
use Rattle.lapin_machine.specs.World.{World, new_world, next, next_anew, told_anew, readings_of, handing, full_in}
use Rattle.lapin_machine.proofs.Back.{next_none}
use Rattle.lapin_machine.proofs.Handed.{handing_told}
use Rattle.lapin_machine.proofs.Shut.{frame_left}
use Rattle.lapin_laws.proofs.Alive.{live_at, live-sent}
use Rattle.lapin_reached.specs.Reached.{HasLimit}
use Rattle.lapin_reached.specs.Limited.{MaySelect, AsksCarefully, IsCareful, lives_on, select_waits, is_select_on, IsPrepared}
use Rattle.lapin_reached.proofs.Own.{None_own, is_own, is_call, any_parts, ends_none, other_none}
use Rattle.lapin_reached.proofs.Modes.{mode_of, Has, Sets_within, All_within, Alike, alike, marks_alike, begun_there, begun_here, ended_there, limit_set, Nearly, nearly, select_leaves, publish_leaves}
use Rattle.lapin_reached.proofs.Selecting.{waits, pushed, gone, quiet_none, consumes, Consumes, is_row, row_before, others_before, other_before}

-- ---- truth values

or_cases : (x y : Bool) → (x || y) ≡ true → (x ≡ true) ⊎ (y ≡ true)
or_cases true y h = inl refl
or_cases false y h = inr h

pub or_left : (x y : Bool) → x ≡ true → (x || y) ≡ true
or_left x y h = rw h refl

or_right : (x y : Bool) → y ≡ true → (x || y) ≡ true
or_right true y h = refl
or_right false y h = h

never : (b : Bool) → b ≡ true → b ≡ false → ⊥
never b t f = let z : true ≡ false = sym t ∙ f in cc

not_true : (b : Bool) → (b ≡ true → ⊥) → b ≡ false
not_true true h = absurd (h refl)
not_true false h = refl

open_at : (u z : Bool) (p : ChannelPhase) → is_open (cond u (cond z state.Base (channel_state p)) state.Down) ≡ true → (u && is_live p) ≡ true
open_at true false (phase.Open x) h = refl
open_at true false _ h = absurd cc
open_at true true p h = absurd cc
open_at false z p h = absurd cc

-- an open channel has a live opening
open_live : (c : ℕ) (b : Wire) → is_open (state_of c b) ≡ true → live c b ≡ true
open_live c b h = open_at (is_up b.link) (c == 0) (phase_of c b) h

-- ---- which limits an event sets

own_within : (most c : ℕ) (ms : List ConfirmMark) → None_own ms → All_within most c ms
own_within most c [] h = tt
own_within most c (m ∷ ms) h =
    let parts = any_parts (is_own m) (list_any is_own ms) h in
    (one m parts.0, own_within most c ms parts.1)
  where
    one : (x : ConfirmMark) → is_own x ≡ false → Sets_within most c x
    one (mark.LimitSet d n) g = absurd cc
    one _ g = tt

if_within : (most c : ℕ) (t : Bool) (ms : List ConfirmMark) → All_within most c ms → All_within most c (cond t ms [])
if_within most c true ms h = h
if_within most c false ms h = tt

module _ (most c : ℕ) where
  asked_within : (w : World) (d : ℕ) (a : Asked) (b : Wire) → (d ≡ c → AsksCarefully most c w a) → All_within most c (call_marks d a b)
  asked_within w d (ask.CloseConnection code text) b h = own_within most c (ends_all failed_at_connection_close b) (ends_none failed_at_connection_close (live_channels b.phases))
  asked_within w d (ask.Method row) b h = if_within most c (is_select row.method) (mark.SelectCalled d ∷ []) (tt, tt)
  asked_within w d (ask.Limit n) b h = (h, tt)
  asked_within w d ask.Open b h = (tt, tt)
  asked_within w d (ask.CloseChannel code text) b h = (tt, tt)
  asked_within w d (ask.Publish exchange key o payload properties) b h = (tt, tt)
  asked_within w d _ b h = tt

  -- a call that the limit refuses asks for nothing
  asks_by : (w : World) (d : ℕ) (t : Bool) (k : Call) → (d ≡ c → AsksCarefully most c w (asked k)) → d ≡ c → AsksCarefully most c w (cond t ask.Nothing (asked k))
  asks_by w d true k h e = tt
  asks_by w d false k h e = h e

  consumes_by : (t : Bool) (k : Call) → Consumes (cond t ask.Nothing (asked k))
  consumes_by true k = tt
  consumes_by false k = consumes k

  within : (w : World) (e : Event) (r : Record) → is_next e ≡ false → (t : Bool) → is_call e ≡ t → IsCareful most c w e → All_within most c (confirm_marks w.wire e r)
  within w (event.Call d k) r n t is h = if_within most c (is_allowed (asked_by k r) (state_of d w.wire)) (call_marks d (asked_by k r) w.wire) (asked_within w d (asked_by k r) w.wire (asks_by w d (is_try k && is_outstanding r) k h))
  within w e r n true is h = by e is h
    where
      by : (f : Event) → is_call f ≡ true → IsCareful most c w f → All_within most c (confirm_marks w.wire f r)
      by (event.Call d k) g i = if_within most c (is_allowed (asked_by k r) (state_of d w.wire)) (call_marks d (asked_by k r) w.wire) (asked_within w d (asked_by k r) w.wire (asks_by w d (is_try k && is_outstanding r) k i))
      by _ g i = absurd cc
  within w e r n false is h = own_within most c (confirm_marks w.wire e r) (other_none w.wire e r n is)

  -- ---- which `confirm.select` waits

  -- it waited before, or the channel is live and limited
  abbrev Fine : World → Type 0
  Fine w = (waits c w.wire.methods ≡ true) ⊎ ((live c w.wire ≡ true) × Has most (mode_of c w.confirm_state))

  row_fine : (w : World) (d : ℕ) (m : Method) (t : Option ℕ) → is_open (state_of d w.wire) ≡ true → (d ≡ c → is_select m ≡ true → MaySelect most c w) → waits c (w.wire.methods ++ record { channel = d; method = m; ticket = t } ∷ []) ≡ true → Fine w
  row_fine w d m t ok h g = elim (row_before c d m t w.wire.methods g) [
    | inl before ↦ inl before
    | inr here ↦
        let at : is_open (state_of c w.wire) ≡ true = subst (λ k. is_open (state_of k w.wire) ≡ true) here.0 ok in
        let limit = h here.0 here.1 at in
        inr (open_live c w.wire at, (limit.some, limit.below))
  ]

  asked_fine : (w : World) (d : ℕ) (a : Asked) → Consumes a → (d ≡ c → AsksCarefully most c w a) → waits c (asked_wire d a w.wire).methods ≡ true → Fine w
  asked_fine w d a u h g = by (is_allowed a (state_of d w.wire)) refl g
    where
      kinds : (x : Asked) → Consumes x → (d ≡ c → AsksCarefully most c w x) → is_allowed x (state_of d w.wire) ≡ true → (v : Bool) → is_row x ≡ v → waits c (after_call d x w.wire).methods ≡ true → Fine w
      kinds (ask.Method row) p i ok v r f = row_fine w d row.method (Some (w.wire.tickets + 1)) ok i f
      kinds x p i ok false r f = inl (others_before c d x w.wire p r f)
      kinds _ p i ok true r f = absurd cc

      by : (v : Bool) → is_allowed a (state_of d w.wire) ≡ v → waits c (cond v (after_call d a w.wire) w.wire).methods ≡ true → Fine w
      by true e f = kinds a u h e (is_row a) refl f
      by false e f = inl f

  fine : (w : World) (e : Event) (r : Record) → is_next e ≡ false → (t : Bool) → is_call e ≡ t → IsCareful most c w e → waits c (after_event w.wire e r).methods ≡ true → Fine w
  fine w (event.Call d k) r n t is h g = asked_fine w d (asked_by k r) (consumes_by (is_try k && is_outstanding r) k) (asks_by w d (is_try k && is_outstanding r) k h) g
  fine w e r n true is h g = by e is h g
    where
      by : (f : Event) → is_call f ≡ true → IsCareful most c w f → waits c (after_event w.wire f r).methods ≡ true → Fine w
      by (event.Call d k) x i y = asked_fine w d (asked_by k r) (consumes_by (is_try k && is_outstanding r) k) (asks_by w d (is_try k && is_outstanding r) k i) y
      by _ x i y = absurd cc
  fine w e r n false is h g = inl (other_before c w.wire e r n is g)

  -- ---- every event but a frame request

  limit_of : (w : World) → HasLimit most c w → Has most (mode_of c w.confirm_state)
  limit_of w h = (h.some, h.below)

  limit_is : (w : World) → Has most (mode_of c w.confirm_state) → HasLimit most c w
  limit_is w h = record { some = h.0; below = h.1 }

  -- where the channel is as live as before, its mode alike, and what waits is fine
  as_before : (w v : World) → IsPrepared most c w → live c v.wire ≡ live c w.wire → Alike most (mode_of c w.confirm_state) (mode_of c v.confirm_state) → (waits c v.wire.methods ≡ true → Fine w) → IsPrepared most c v
  as_before w v p alive a f = record {
    limited = λ l s. limited (sym alive ∙ l) (or_cases (selected_in (mode_of c v.confirm_state)) (waits c v.wire.methods) s);
    quiet = λ l. not_true (waits c v.wire.methods) (λ g. unquiet (sym alive ∙ l) (f g));
    known = λ l. a.there (p.known (sym alive ∙ l));
  }
    where
      limited : live c w.wire ≡ true → (selected_in (mode_of c v.confirm_state) ≡ true) ⊎ (waits c v.wire.methods ≡ true) → HasLimit most c v
      limited l (inl s) = limit_is v (a.has (limit_of w (p.limited l (or_left (selected_in (mode_of c w.confirm_state)) (waits c w.wire.methods) (sym a.same ∙ s)))))
      limited l (inr g) = by (f g)
        where
          by : Fine w → HasLimit most c v
          by (inl before) = limit_is v (a.has (limit_of w (p.limited l (or_right (selected_in (mode_of c w.confirm_state)) (waits c w.wire.methods) before))))
          by (inr here) = limit_is v (a.has here.1)

      unquiet : live c w.wire ≡ false → Fine w → ⊥
      unquiet l (inl before) = never (waits c w.wire.methods) before (p.quiet l)
      unquiet l (inr here) = never (live c w.wire) here.0 l

  -- where the channel has no live opening and none waits
  dead : (v : World) → live c v.wire ≡ false → waits c v.wire.methods ≡ false → IsPrepared most c v
  dead v l q = record {
    limited = λ t s. absurd (never (live c v.wire) t l);
    quiet = λ _. q;
    known = λ t. absurd (never (live c v.wire) t l);
  }

  down_dead : (b : Wire) → is_up b.link ≡ false → live c b ≡ false
  down_dead b h = rw h refl

  module _ (w v : World) (p : IsPrepared most c w) (xs : List ConfirmMark) (is : v.confirm_state ≡ fold after_mark w.confirm_state xs) (ok : All_within most c xs) (f : waits c v.wire.methods ≡ true → Fine w) where
    mode_is : mode_of c v.confirm_state ≡ mode_of c (fold after_mark w.confirm_state xs)
    mode_is = ap (mode_of c) is

    one_mark : (m : ConfirmMark) → xs ≡ m ∷ [] → mode_of c v.confirm_state ≡ mode_of c (after_mark w.confirm_state m)
    one_mark m e = mode_is ∙ ap (λ ms. mode_of c (fold after_mark w.confirm_state ms)) e

    same_mode : mode_of c v.confirm_state ≡ mode_of c w.confirm_state → Alike most (mode_of c w.confirm_state) (mode_of c v.confirm_state)
    same_mode e = alike most _ _ e

    by_effect : (new : List Publish) → Effect w.wire v.wire xs new → IsPrepared most c v
    by_effect new (Stays same publishes es methods fit still none) =
        as_before w v p (same.lives c) (subst (Alike most (mode_of c w.confirm_state)) (sym mode_is) (marks_alike most c w.confirm_state xs still ok)) f
    by_effect new (Closes d e same publishes m methods fit marks none) =
        as_before w v p (same.lives c) (same_mode (one_mark (mark.ClosedHere d e) marks)) f
    by_effect new (Adds q up max rest lives hear publishes methods here number published marks now) =
        as_before w v p (lives c) (same_mode (one_mark (mark.Added q.channel) marks)) f
    by_effect new (Opens d t same was now rest publishes methods marks none) = elim (eqb_tells d c) [
      | inl y ↦
          let fresh : mode_of c v.confirm_state ≡ Some fresh_confirm_mode = one_mark (mark.Begun d) marks ∙ begun_here most c d w.confirm_state y.0 in
          let closed : live c w.wire ≡ false = subst (λ k. live k w.wire ≡ false) y.1 was in
          let lives : live c v.wire ≡ true = subst (λ k. live k v.wire ≡ true) y.1 now in
          let none_waits : waits c v.wire.methods ≡ false = ap (waits c) methods ∙ (pushed c w.wire.methods (open_entry d t) refl ∙ p.quiet closed) in
          let unselected : (selected_in (mode_of c v.confirm_state) || waits c v.wire.methods) ≡ false = rw (fresh, none_waits) refl in
          record {
            limited = λ l s. absurd (never (selected_in (mode_of c v.confirm_state) || waits c v.wire.methods) s unselected);
            quiet = λ l. absurd (never (live c v.wire) lives l);
            known = λ l. ap is_some fresh;
          }
      | inr n ↦ as_before w v p (same.lives c n.0) (same_mode (one_mark (mark.Begun d) marks ∙ begun_there most c d w.confirm_state n.0)) f
    ]
    by_effect new (Ends d e same now rest publishes es methods quiet marks none) = elim (eqb_tells d c) [
      | inl y ↦
          let ended : live c v.wire ≡ false = subst (λ k. live k v.wire ≡ false) y.1 now in
          dead v ended (ends_quiet d es y.1 quiet methods)
      | inr n ↦ as_before w v p (same.lives c n.0) (same_mode (one_mark (mark.Ended d e) marks ∙ ended_there most c d e w.confirm_state n.0)) f
    ]
      where
        ends_quiet : (d : ℕ) (es : List MethodEntry) → d ≡ c → AreQuiet es → v.wire.methods ≡ filter (is_off method_channel d) w.wire.methods ++ es → waits c v.wire.methods ≡ false
        ends_quiet d es y q m =
            ap (waits c) m ∙ (list_any-append (is_select_on c) (filter (is_off method_channel d) w.wire.methods) es
            ∙ rw (quiet_none c es q) (ap (λ b. b || false) (subst (λ k. waits c (filter (is_off method_channel k) w.wire.methods) ≡ false) (sym y) (gone c w.wire.methods))))
    by_effect new (Falls e max published down rest publishes quiet marks none) = dead v (down_dead v.wire down) (quiet_none c v.wire.methods quiet)
    by_effect new (Sinks max published was down rest publishes quiet still none) =
        dead v (down_dead v.wire down) (not_true (waits c v.wire.methods) (λ g. sunk (f g)))
      where
        sunk : Fine w → ⊥
        sunk (inl before) = never (waits c w.wire.methods) before (p.quiet (down_dead w.wire was))
        sunk (inr here) = never (live c w.wire) here.0 (down_dead w.wire was)

  other_prepared : (w : World) (e : Event) → is_next e ≡ false → IsPrepared most c w → IsCareful most c w e → IsPrepared most c (next_anew w e)
  other_prepared w e n p h =
      let r : Record = told_anew w e in
      by_effect w (next_anew w e) p (confirm_marks w.wire e r) refl (within w e r n (is_call e) refl h) (fine w e r n (is_call e) refl h) (publish_by w.wire e r) (has_effect w.wire (readings_of w.confirm_state w.slots) e n)

  -- ---- a frame request

  phases_live : (f : Frame) (ps : List (ℕ × ChannelPhase)) → live_at c (phases_sent f ps) ≡ live_at c ps
  phases_live (frame.Method d (method.Channel (channel.Close code text class number))) ps = live-sent d c ps
  phases_live _ ps = refl

  sent_live : (o : Option Left) (b : Wire) → live c (sent o b) ≡ live c b
  sent_live None b = refl
  sent_live (Some l) b = rw (frame_left l.frame b.link) (ap (λ x. is_up b.link && x) (phases_live l.frame b.phases))

  sent_methods : (o : Option Left) (b : Wire) → (sent o b).methods ≡ b.methods
  sent_methods None b = refl
  sent_methods (Some l) b = refl

  more : (now then : Bool) (o o' : Option ConfirmModeState) → (now ≡ true → then ≡ true) → Nearly most c now o o' → Nearly most c then o o'
  more now then o o' h a = record { has = a.has; selects = λ s. elim (a.selects s) [ inl x ↦ inl x | inr y ↦ inr (h y) ]; there = a.there }

  still : (now : Bool) (o : Option ConfirmModeState) → Nearly most c now o o
  still now o = nearly most c now o o (alike most o o refl)

  -- what stays of the methods waited before, and what leaves is a `confirm.select` of the channel only where one waited
  abbrev Leaves_fine : List MethodEntry → ConfirmState → List MethodEntry → List ConfirmMark → Type 0
  Leaves_fine before p ms xs = (waits c ms ≡ true → waits c before ≡ true) × Nearly most c (waits c before) (mode_of c p) (mode_of c (fold after_mark p xs))

  method_fine : (m : MethodEntry) (ms : List MethodEntry) (p : ConfirmState) → Leaves_fine (m ∷ ms) p ms (method_marks m.channel m.method)
  method_fine m ms p = (
    or_right (is_select_on c m) (waits c ms),
    elim (is_select m.method) as (λ v. Nearly most c (((m.channel == c) && v) || waits c ms) (mode_of c p) (mode_of c (fold after_mark p (cond v (mark.SelectLeft m.channel ∷ []) [])))) [
      | true ↦ more (m.channel == c) _ _ _ (λ e. rw e refl) (select_leaves most c m.channel p)
      | false ↦ still _ (mode_of c p)
    ],
  )

  begun_fine : (o : Option Publish) (p : ConfirmState) → Leaves_fine [] p [] (left_marks (option_map left_publish o))
  begun_fine None p = ((λ h. h), still false (mode_of c p))
  begun_fine (Some q) p = ((λ h. h), nearly most c false _ _ (publish_leaves most c q.channel q.confirm p))

  lists_fine : (frame_max : ℕ) (t : ℕ → Bool) (rest : List RestEntry) (ms : List MethodEntry) (ps : List Publish) (p : ConfirmState) → Leaves_fine ms p (left_of frame_max t rest ms ps).methods (left_marks (handed_of t rest ms ps))
  lists_fine frame_max t (f ∷ fs) ms ps p = ((λ h. h), still (waits c ms) (mode_of c p))
  lists_fine frame_max t [] (m ∷ ms) ps p = method_fine m ms p
  lists_fine frame_max t [] [] ps p = begun_fine (find (may_begin t) ps) p

  handed_prepared : (t : ℕ → Bool) (w : World) → IsPrepared most c w → IsPrepared most c (handing t w)
  handed_prepared t w p =
      let b : Wire = w.wire in
      let l : Lists = left_lists b.frame_max t (lists_of b) in
      let f = lists_fine b.frame_max t b.rest b.methods b.publishes w.confirm_state in
      let lives : live c (handing t w).wire ≡ live c b = sent_live (handed_out t b) (with_lists l b) in
      let methods : (handing t w).wire.methods ≡ l.methods = sent_methods (handed_out t b) (with_lists l b) in
      let waited : waits c (handing t w).wire.methods ≡ true → waits c b.methods ≡ true = λ g. f.0 (sym (ap (waits c) methods) ∙ g) in
      let selected : (selected_in (mode_of c w.confirm_state) ≡ true) ⊎ (waits c b.methods ≡ true) → (selected_in (mode_of c w.confirm_state) || waits c b.methods) ≡ true = λ h. elim h [ inl x ↦ or_left (selected_in (mode_of c w.confirm_state)) (waits c b.methods) x | inr y ↦ or_right (selected_in (mode_of c w.confirm_state)) (waits c b.methods) y ] in
      let limit : live c b ≡ true → (selected_in (mode_of c w.confirm_state) ≡ true) ⊎ (waits c b.methods ≡ true) → HasLimit most c (handing t w) = λ a h. limit_is (handing t w) (f.1.has (limit_of w (p.limited a (selected h)))) in
      record {
        limited = λ a s. limit (sym lives ∙ a) (elim (or_cases (selected_in (mode_of c (handing t w).confirm_state)) (waits c (handing t w).wire.methods) s) [ inl x ↦ f.1.selects x | inr y ↦ inr (waited y) ]);
        quiet = λ a. not_true (waits c (handing t w).wire.methods) (λ g. never (waits c b.methods) (waited g) (p.quiet (sym lives ∙ a)));
        known = λ a. f.1.there (p.known (sym lives ∙ a));
      }

  request_prepared : (flow : Bool) (w : World) → IsPrepared most c w → IsPrepared most c (next_anew w (event.Next flow))
  request_prepared flow w p = subst (IsPrepared most c) (sym (handing_told flow w)) (handed_prepared (begins_on flow (full_in w.confirm_state) w.wire) w p)

  -- ---- every event

  any_prepared : (w : World) (e : Event) (t : Bool) → is_next e ≡ t → IsPrepared most c w → IsCareful most c w e → IsPrepared most c (next_anew w e)
  any_prepared w e false is p h = other_prepared w e is p h
  any_prepared w e true is p h = by e is
    where
      by : (f : Event) → is_next f ≡ true → IsPrepared most c (next_anew w f)
      by (event.Next flow) g = request_prepared flow w p
      by _ g = absurd cc

  pub prepared_next : (w : World) (e : Event) → w.returned ≡ None → IsPrepared most c w → IsCareful most c w e → IsPrepared most c (next w e)
  prepared_next w e none p h = subst (IsPrepared most c) (sym (next_none w e none)) (any_prepared w e (is_next e) refl p h)

  pub prepared_new : (frame_max : ℕ) → IsPrepared most c (new_world frame_max)
  prepared_new frame_max = record {
    limited = λ l s. absurd (never false l refl);
    quiet = λ _. refl;
    known = λ l. absurd (never false l refl);
  }

  -- ---- a limit is set

  limited_at : (n : ℕ) (w : World) → 0 < n → n ≤ most → IsPrepared most c w → (v : Bool) → is_open (state_of c w.wire) ≡ v → is_open (state_of c (cond v (record w.wire { tickets = w.wire.tickets + 1 }) w.wire)) ≡ true → Has most (mode_of c (fold after_mark w.confirm_state (cond v (mark.LimitSet c n ∷ []) [])))
  limited_at n w above below p true o h = let is = limit_set most c n w.confirm_state (p.known (open_live c w.wire o)) in (subst (λ k. 0 < k) (sym is) above, subst (λ k. k ≤ most) (sym is) below)
  limited_at n w above below p false o h = absurd (never (is_open (state_of c w.wire)) h o)

  pub set_prepared : (n : ℕ) (w : World) → 0 < n → n ≤ most → IsPrepared most c w → MaySelect most c (next w (event.Call c (call.ConfirmLimit n)))
  set_prepared n w above below p = λ h. limit_is (next w (event.Call c (call.ConfirmLimit n))) (limited_at n w above below p (is_open (state_of c w.wire)) refl h)
