-- Of every joined run: both sides are in one opening of each channel that the session hears.
use Rattle.std.proofs.Common.{◌≡◌, ◌∙◌, ℕ, ◌+◌, ◌≤◌, ◌==◌, Bool, true, false, cond, ◌&&◌, List, [], ◌∷◌, ◌++◌, map, Option, refl, sym, ap, subst, append-nil, append_assoc, arith, eq-eqb}
use Rattle.std.specs.List.{list_any, filter}
use Rattle.std.proofs.lemmas.List.Elements.{filter-append}
use Rattle.lapin_types.specs.declared.event.Event.{Event}
use Rattle.lapin_types.specs.declared.event.Event.TheVariants as event
use Rattle.lapin_types.specs.declared.record.Record.{Record}
use Rattle.lapin_types.specs.declared.leaving.Left.{Left}
use Rattle.lapin_types.specs.Types.{Frame, ChannelState, Error}
use Rattle.lapin_types.specs.Types.channel_state as state
use Rattle.lapin_rules.specs.declared.broker_frames.Incoming.{Incoming}
use Rattle.lapin_rules.specs.declared.broker_frames.Incoming.TheVariants as incoming
use Rattle.lapin_rules.specs.declared.phases.ChannelPhase.{ChannelPhase}
use Rattle.lapin_rules.specs.declared.phases.ChannelPhase.TheVariants as phase
use Rattle.lapin_rules.specs.declared.phases.ConnectionPhase.{ConnectionPhase}
use Rattle.lapin_rules.specs.declared.phases.ConnectionPhase.TheVariants as link
use Rattle.lapin_rules.specs.ConfirmMarks.{ConfirmMark}
use Rattle.lapin_rules.specs.ConfirmMarks as mark
use Rattle.lapin_rules.specs.ConfirmReadings.{begins, is_full}
use Rattle.lapin_rules.specs.Ends.{down}
use Rattle.lapin_rules.specs.Flow.{begins_on}
use Rattle.lapin_rules.specs.Handing.{handed, handed_out, began_on, frame_record, left_marks}
use Rattle.lapin_rules.specs.History.{History, Past, past, rec, record_after, longer, readings_of}
use Rattle.lapin_rules.specs.Events.{after_event, confirm_marks}
use Rattle.lapin_rules.specs.Incoming.{incoming_of}
use Rattle.lapin_rules.specs.Phases.{is_up, is_lost, channel_state}
use Rattle.lapin_rules.specs.Words.{many}
use Rattle.lapin_rules.specs.Wire.{Wire, phase_of, receives_on}
use Rattle.lapin_broker.specs.Frames.{channel_of}
use Rattle.lapin_broker.specs.Sends.{may}
use Rattle.lapin_joint.specs.declared.step.Step.{Step}
use Rattle.lapin_joint.specs.declared.step.Step.TheVariants as step
use Rattle.lapin_joint.specs.Joint.{Joint, is_lawful, handed_by, left_alone, client, read_first, send_down, deliver_first, after, joined_to}
use Rattle.lapin_machine.specs.Way.{by_history}
use Rattle.lapin_joint.specs.Order.{front}
use Rattle.lapin_pairs.specs.Machine.{Opening}
use Rattle.lapin_pairs.specs.Channel.{DownF, BClose, BCloseOk}
use Rattle.lapin_pairs.specs.Every.{DownOn, of_d}
use Rattle.lapin_concord.specs.Frames.{down_frame}
use Rattle.lapin_concord.specs.Incomes.{income_as}
use Rattle.lapin_concord.specs.Wires.{phase_as}
use Rattle.lapin_concord.proofs.Incomes.{sorted}
use Rattle.lapin_verdicts.specs.Deeds.{Deed, Read, Sent, is_open, is_on, opens, on_channel, joined_opening, last_opening, reads_of, sents, deed_in, deeds}
use Rattle.lapin_verdicts.specs.InStep.{is_frame_on, is_open_on, is_open_waiting, InStep}
use Rattle.lapin_verdicts.specs.Session.{past_of}
use Rattle.lapin_verdicts.proofs.Marks.{many-append}
use Rattle.lapin_verdicts.proofs.TagCounts.{sents-append, last-push, last-sent}
use Rattle.lapin_verdicts.proofs.Runs.{past-push, joined-push, deeds-push}
use Rattle.lapin_verdicts.proofs.Numbering.{AreRest}
use Rattle.lapin_effects.specs.Effects.{is_next}
use Rattle.lapin_effects.proofs.Events.{has_effect}
use Rattle.lapin_verdicts.proofs.Assembly.{as_handed, in_run}
use Rattle.lapin_verdicts.proofs.Unread.{is_unread, unread_at, AllGo, goes-push, sent_goes, none_on, pairs}
use Rattle.lapin_verdicts.proofs.Opens.{unsent, IsEnd, stays_down, effect_waits, client_ended, received_ended, next_waits, left_begins}
use Rattle.std.proofs.lemmas.Bool.{or_parts}
use Rattle.lapin_rules.proofs.ListLaws.{many-none}
use Rattle.lapin_tables.proofs.Bools.{or_true}

-- ---- what goes with a run

-- of a session, the links and the deeds: while the connection is open, each opening that began has its open read, on the way up or
-- waiting, and what is on the way down is the end of what was sent in the last that was read
pub record Tied (c : ℕ) (p : Past) (up : List Left) (down : List Frame) (ds : List Deed) : Type 0 where
  pub goes : AllGo down
  pub count : is_up p.wire.link ≡ true → many opens (on_channel c ds) + (many (is_open_on c) up + unsent c p.wire) ≡ many (begins c) p.confirms
  pub came : is_up p.wire.link ≡ true → (came : List Frame) × (sents (last_opening c ds) ≡ came ++ filter (is_frame_on c) down)

-- what the pair says: where an open is unread, nothing is on the way down
abbrev IsQuiet : ℕ → Past → List Left → List Frame → Type 0
IsQuiet c p up down = is_up p.wire.link ≡ true → is_unread c p.wire up ≡ true → of_d c (map down_frame down) ≡ []

-- ---- events

event_tied : (c : ℕ) (p : Past) (e : Event) (up : List Left) (down : List Frame) (ds : List Deed) → is_next e ≡ false → ((x : Error) → confirm_marks p.wire e (record_after p e) ≡ mark.Ended c x ∷ [] → is_up (after_event p.wire e (record_after p e)).link ≡ true → unsent c p.wire ≡ 0) → Tied c p up down ds → Tied c (longer p e (record_after p e)) up down ds
event_tied c p e up down ds apart ended t =
    let b' : Wire = after_event p.wire e (record_after p e) in
    let xs : List ConfirmMark = confirm_marks p.wire e (record_after p e) in
    let w : (is_up b'.link ≡ true) → (is_up p.wire.link ≡ true) × (unsent c b' ≡ unsent c p.wire + many (begins c) xs) = λ u. effect_waits c p.wire b' xs _ (has_effect p.wire (readings_of p.confirms p.tickets) e apart) (λ x h. ended x h u) u in
    record {
      goes = t.goes;
      count = λ u. (let k = t.count (w u).0 in let more = (w u).1 in let m = many-append (begins c) p.confirms xs in omega (arith, k, more, m));
      came = λ u. t.came (w u).0;
    }

next_tied : (c d : ℕ) (p : Past) (flow : Bool) (up : List Left) (down : List Frame) (ds : List Deed) → AreRest d p.wire.rest → Tied c p up down ds → Tied c (longer p (event.Next flow) (record_after p (event.Next flow))) (up ++ left_alone (handed flow (λ k. is_full k p.confirms) p.wire)) down ds
next_tied c d p flow up down ds a t =
    let o : Option Left = handed flow (λ k. is_full k p.confirms) p.wire in
    let g : ℕ → Bool = began_on (frame_record o) in
    let same : handed_out g p.wire ≡ o = as_handed (begins_on flow (λ k. is_full k p.confirms) p.wire) p.wire in
    let w = next_waits c d g p.wire a in
    let n : many (begins c) (left_marks (handed_out g p.wire)) ≡ 0 = left_begins c (handed_out g p.wire) in
    record {
      goes = t.goes;
      count = λ u. (let k = t.count (sym w.0 ∙ u) in let left = w.1 in
          let m = many-append (begins c) p.confirms (left_marks (handed_out g p.wire)) in
          let l = many-append (is_open_on c) up (left_alone o) in
          let i : many (is_open_on c) (left_alone (handed_out g p.wire)) ≡ many (is_open_on c) (left_alone o) = ap (λ v. many (is_open_on c) (left_alone v)) same in
          omega (arith, k, left, m, l, i, n));
      came = λ u. t.came (sym w.0 ∙ u);
    }

-- ---- links

one_read : (c : ℕ) (l : Left) → many opens (on_channel c (Read l ∷ [])) ≡ many (is_open_on c) (l ∷ [])
one_read c l = elim (channel_of l.frame == c) as (λ v. many opens (cond v (Read l ∷ []) []) ≡ cond (v && is_open l.frame) 1 0) [ true ↦ refl | false ↦ refl ]

many_pushed : (c : ℕ) (ds : List Deed) (d : Deed) → many opens (on_channel c (ds ++ d ∷ [])) ≡ many opens (on_channel c ds) + many opens (on_channel c (d ∷ []))
many_pushed c ds d = ap (many opens) (filter-append (is_on c) ds (d ∷ [])) ∙ many-append opens (on_channel c ds) (filter (is_on c) (d ∷ []))

read_came : (c : ℕ) (ds : List Deed) (l : Left) (down : List Frame) → (is_open_on c l ≡ true → filter (is_frame_on c) down ≡ []) → (came : List Frame) × (sents (last_opening c ds) ≡ came ++ filter (is_frame_on c) down) → (came : List Frame) × (sents (last_opening c (ds ++ Read l ∷ [])) ≡ came ++ filter (is_frame_on c) down)
read_came c ds l down quiet k = by (channel_of l.frame == c) (is_open l.frame) refl refl
  where
    by : (v w : Bool) → (channel_of l.frame == c) ≡ v → is_open l.frame ≡ w → (came : List Frame) × (sents (last_opening c (ds ++ Read l ∷ [])) ≡ came ++ filter (is_frame_on c) down)
    by true true e f = ([], ap sents (last-push c ds (Read l)) ∙ (ap (λ v. sents (cond v (joined_opening (last_opening c ds) (Read l)) (last_opening c ds))) e ∙ (ap (λ v. sents (cond v [] (last_opening c ds ++ Read l ∷ []))) f ∙ sym (quiet (rw (e, f) refl)))))
    by true false e f = (k.0, ap sents (last-push c ds (Read l)) ∙ (ap (λ v. sents (cond v (joined_opening (last_opening c ds) (Read l)) (last_opening c ds))) e ∙ (ap (λ v. sents (cond v [] (last_opening c ds ++ Read l ∷ []))) f ∙ (sents-append (last_opening c ds) (Read l ∷ []) ∙ (append-nil _ ∙ k.1)))))
    by false w e f = (k.0, ap sents (last-push c ds (Read l)) ∙ (ap (λ v. sents (cond v (joined_opening (last_opening c ds) (Read l)) (last_opening c ds))) e ∙ k.1))

read_tied : (c : ℕ) (p : Past) (l : Left) (ls : List Left) (down : List Frame) (ds : List Deed) → (c == 0) ≡ false → IsQuiet c p (l ∷ ls) down → Tied c p (l ∷ ls) down ds → Tied c p ls down (ds ++ Read l ∷ [])
read_tied c p l ls down ds z q t = record {
  goes = t.goes;
  count = λ u. (let k = t.count u in let n = many_pushed c ds (Read l) in let o = one_read c l in let m = many-append (is_open_on c) (l ∷ []) ls in omega (arith, k, n, o, m));
  came = λ u. read_came c ds l down (λ o. none_on c down t.goes z (q u (rw o refl))) (t.came u);
}

send_tied : (c : ℕ) (p : Past) (f : Frame) (up : List Left) (down : List Frame) (ds : List Deed) → AllGo (down ++ f ∷ []) → Tied c p up down ds → Tied c p up (down ++ f ∷ []) (ds ++ Sent f ∷ [])
send_tied c p f up down ds g t = record {
  goes = g;
  count = λ u. (let k = t.count u in let n = many_pushed c ds (Sent f) in let o = none in omega (arith, k, n, o));
  came = λ u. by (channel_of f == c) refl (t.came u);
}
  where
    none : many opens (on_channel c (Sent f ∷ [])) ≡ 0
    none = elim (channel_of f == c) as (λ v. many opens (cond v (Sent f ∷ []) []) ≡ 0) [ true ↦ refl | false ↦ refl ]

    more : filter (is_frame_on c) (down ++ f ∷ []) ≡ filter (is_frame_on c) down ++ cond (channel_of f == c) (f ∷ []) []
    more = filter-append (is_frame_on c) down (f ∷ [])

    by : (v : Bool) → (channel_of f == c) ≡ v → (came : List Frame) × (sents (last_opening c ds) ≡ came ++ filter (is_frame_on c) down) → (came : List Frame) × (sents (last_opening c (ds ++ Sent f ∷ [])) ≡ came ++ filter (is_frame_on c) (down ++ f ∷ []))
    by true e k = (k.0, ap sents (last-sent c ds f) ∙ (ap (λ v. sents (cond v (last_opening c ds ++ Sent f ∷ []) (last_opening c ds))) e ∙ (sents-append (last_opening c ds) (Sent f ∷ []) ∙ (ap (λ v. v ++ f ∷ []) k.1 ∙ (append_assoc k.0 (filter (is_frame_on c) down) (f ∷ []) ∙ ap (λ v. k.0 ++ v) (sym (more ∙ ap (λ v. filter (is_frame_on c) down ++ cond v (f ∷ []) []) e)))))))
    by false e k = (k.0, ap sents (last-sent c ds f) ∙ (ap (λ v. sents (cond v (last_opening c ds ++ Sent f ∷ []) (last_opening c ds))) e ∙ (k.1 ∙ ap (λ v. k.0 ++ v) (sym (more ∙ (ap (λ v. filter (is_frame_on c) down ++ cond v (f ∷ []) []) e ∙ append-nil _))))))

-- the front of the link down is received
drop_tied : (c : ℕ) (p : Past) (up : List Left) (f : Frame) (fs : List Frame) (ds : List Deed) → Tied c p up (f ∷ fs) ds → Tied c p up fs ds
drop_tied c p up f fs ds t = record { goes = t.goes.1; count = t.count; came = λ u. by (channel_of f == c) refl (t.came u) }
  where
    by : (v : Bool) → (channel_of f == c) ≡ v → (came : List Frame) × (sents (last_opening c ds) ≡ came ++ filter (is_frame_on c) (f ∷ fs)) → (came : List Frame) × (sents (last_opening c ds) ≡ came ++ filter (is_frame_on c) fs)
    by true e k = (k.0 ++ f ∷ [], k.1 ∙ (ap (λ v. k.0 ++ cond v (f ∷ filter (is_frame_on c) fs) (filter (is_frame_on c) fs)) e ∙ sym (append_assoc k.0 (f ∷ []) (filter (is_frame_on c) fs))))
    by false e k = (k.0, k.1 ∙ ap (λ v. k.0 ++ cond v (f ∷ filter (is_frame_on c) fs) (filter (is_frame_on c) fs)) e)

-- ---- what is received

end_comes : (c : ℕ) (i : Incoming) (ds : List (DownOn DownF)) → IsEnd c i → of_d c (income_as i ∷ ds) ≡ [] → ⊥
end_comes c (incoming.ChannelClose d code) ds on e = let w : BClose ∷ of_d c ds ≡ [] = rw (eq-eqb d c on) at e in cc
end_comes c (incoming.ChannelCloseOk d) ds on e = let w : BCloseOk ∷ of_d c ds ≡ [] = rw (eq-eqb d c on) at e in cc
end_comes c (incoming.Reply d k a) ds on e = on
end_comes c (incoming.Settlement d s) ds on e = on
end_comes c (incoming.Content d p) ds on e = on
end_comes c (incoming.Consumer d p) ds on e = on
end_comes c (incoming.Flow d active) ds on e = on
end_comes c (incoming.ConnectionClose code) ds on e = on
end_comes c incoming.ConnectionCloseOk ds on e = on
end_comes c incoming.Other ds on e = on

-- a frame that ends the channel's opening comes where no open of it waits
none_waits : (c : ℕ) (p : Past) (up : List Left) (f : Frame) (fs : List Frame) → IsQuiet c p up (f ∷ fs) → is_up p.wire.link ≡ true → IsEnd c (incoming_of f) → unsent c p.wire ≡ 0
none_waits c p up f fs q u i = elim (list_any (is_open_waiting c) p.wire.methods) as (λ v. list_any (is_open_waiting c) p.wire.methods ≡ v → unsent c p.wire ≡ 0) [
  | true ↦ λ h. absurd (end_comes c (incoming_of f) (map down_frame fs) i (ap (λ d. of_d c (d ∷ map down_frame fs)) (sym (sorted f)) ∙ q u (rw h (or_true (list_any (is_open_on c) up)))))
  | false ↦ λ h. many-none (is_open_waiting c) p.wire.methods h
] refl

receive_tied : (c : ℕ) (p : Past) (up : List Left) (f : Frame) (fs : List Frame) (ds : List Deed) → IsQuiet c p up (f ∷ fs) → Tied c p up (f ∷ fs) ds → Tied c (longer p (event.Receive f) (record_after p (event.Receive f))) up fs ds
receive_tied c p up f fs ds q t = drop_tied c _ up f fs ds (event_tied c p (event.Receive f) up (f ∷ fs) ds refl (λ x h u. elim (is_up p.wire.link) as (λ v. is_up p.wire.link ≡ v → unsent c p.wire ≡ 0) [
  | true ↦ λ e. none_waits c p up f fs q e (received_ended c p.wire (incoming_of f) (record_after p (event.Receive f)) x h u)
  | false ↦ λ e. absurd (not_up e u)
] refl) t)
  where
    not_up : is_up p.wire.link ≡ false → is_up (after_event p.wire (event.Receive f) (record_after p (event.Receive f))).link ≡ true → ⊥
    not_up e u = let w : true ≡ false = sym (stays_down (has_effect p.wire (readings_of p.confirms p.tickets) (event.Receive f) refl) u) ∙ e in cc

-- ---- a loss

pub lost_down : (b : Wire) (r : Record) → is_up (after_event b event.Lost r).link ≡ false
lost_down b r = by (is_lost b.link) refl
  where
    shut : (l : ConnectionPhase) → is_lost l ≡ true → is_up l ≡ false
    shut link.Lost h = refl
    shut _ h = absurd cc

    by : (v : Bool) → is_lost b.link ≡ v → is_up (cond v b (down link.Lost b)).link ≡ false
    by true e = shut b.link e
    by false e = refl

lost_tied : (c : ℕ) (p : Past) (r : Record) (ds : List Deed) → Tied c (longer p event.Lost r) [] [] ds
lost_tied c p r ds = record {
  goes = tt;
  count = λ u. (let w : true ≡ false = sym u ∙ lost_down p.wire r in absurd cc);
  came = λ u. (let w : true ≡ false = sym u ∙ lost_down p.wire r in absurd cc);
}

-- ---- every step

module _ (n c : ℕ) where
  abbrev InRun : Joint History → List Deed → Type 0
  InRun j ds = Tied c (past n j.session) j.up j.down ds

  abbrev Quiet : Joint History → Type 0
  Quiet j = IsQuiet c (past n j.session) j.up j.down

  on_event : (j : Joint History) (e : Event) (up : List Left) (down : List Frame) (ds : List Deed) → Tied c (longer (past n j.session) e (rec n j.session e)) up down ds → Tied c (past n (j.session ++ (e, rec n j.session e) ∷ [])) up down (ds ++ [])
  on_event j e up down ds t = subst (λ p. Tied c p up down (ds ++ [])) (sym (past-push n j.session e (rec n j.session e))) (subst (Tied c (longer (past n j.session) e (rec n j.session e)) up down) (sym (append-nil ds)) t)

  same_run : (j : Joint History) (ds : List Deed) → InRun j ds → InRun j (ds ++ [])
  same_run j ds t = subst (InRun j) (sym (append-nil ds)) t

  calm : (e : Event) (j : Joint History) (ds : List Deed) → is_lawful e ≡ true → is_next e ≡ false → handed_by (by_history n) e j.session ≡ [] → InRun j ds → InRun (client (by_history n) e j) (ds ++ [])
  calm e j ds lawful apart none t = on_event j e (j.up ++ handed_by (by_history n) e j.session) j.down ds (subst (λ up. Tied c (longer (past n j.session) e (rec n j.session e)) up j.down ds) (sym (append-nil j.up) ∙ ap (λ v. j.up ++ v) (sym none))
      (event_tied c (past n j.session) e j.up j.down ds apart (λ x h u. absurd (client_ended c (past n j.session).wire e (rec n j.session e) x lawful apart h u)) t))

  client_run : (e : Event) (j : Joint History) (ds : List Deed) → is_lawful e ≡ true → (d : ℕ) → AreRest d (past n j.session).wire.rest → InRun j ds → InRun (client (by_history n) e j) (ds ++ [])
  client_run (event.Next flow) j ds l d a t = on_event j (event.Next flow) (j.up ++ handed_by (by_history n) (event.Next flow) j.session) j.down ds (next_tied c d (past n j.session) flow j.up j.down ds a t)
  client_run (event.Receive f) j ds l d a t = absurd cc
  client_run event.Lost j ds l d a t = absurd cc
  client_run (event.Call x k) j ds l d a t = calm (event.Call x k) j ds refl refl refl t
  client_run (event.PollTicket k) j ds l d a t = calm (event.PollTicket k) j ds refl refl refl t
  client_run (event.PollConfirm k) j ds l d a t = calm (event.PollConfirm k) j ds refl refl refl t
  client_run (event.PollConsumer k) j ds l d a t = calm (event.PollConsumer k) j ds refl refl refl t
  client_run (event.PollWait k) j ds l d a t = calm (event.PollWait k) j ds refl refl refl t
  client_run (event.AsideTicket k) j ds l d a t = calm (event.AsideTicket k) j ds refl refl refl t
  client_run (event.AsideConfirm k) j ds l d a t = calm (event.AsideConfirm k) j ds refl refl refl t
  client_run (event.Acker k x) j ds l d a t = calm (event.Acker k x) j ds refl refl refl t
  client_run (event.Delegate k) j ds l d a t = calm (event.Delegate k) j ds refl refl refl t
  client_run (event.DropConsumer k) j ds l d a t = calm (event.DropConsumer k) j ds refl refl refl t
  client_run event.NextJob j ds l d a t = calm event.NextJob j ds refl refl refl t
  client_run (event.State k) j ds l d a t = calm (event.State k) j ds refl refl refl t

  step_run : (s : Step) (j : Joint History) (ds : List Deed) → (c == 0) ≡ false → Quiet j → (d : ℕ) → AreRest d (past n j.session).wire.rest → InRun j ds → InRun (after (by_history n) s j) (ds ++ deed_in s j)
  step_run (step.Client e) j ds z q d a t = elim (is_lawful e) as (λ v. is_lawful e ≡ v → InRun (cond v (client (by_history n) e j) j) (ds ++ [])) [
    | true ↦ λ l. client_run e j ds l d a t
    | false ↦ λ l. same_run j ds t
  ] refl
  step_run step.Read j ds z q d a t = by j.up q t
    where
      by : (ls : List Left) → IsQuiet c (past n j.session) ls j.down → Tied c (past n j.session) ls j.down ds → InRun (read_first ls (record j { up = ls })) (ds ++ reads_of (front ls))
      by [] q t = subst (Tied c (past n j.session) [] j.down) (sym (append-nil ds)) t
      by (l ∷ ls) q t = read_tied c (past n j.session) l ls j.down ds z q t
  step_run (step.Send f) j ds z q d a t = elim (may j.broker f) as (λ v. may j.broker f ≡ v → InRun (cond v (send_down f j) j) (ds ++ cond v (Sent f ∷ []) [])) [
    | true ↦ λ m. send_tied c (past n j.session) f j.up j.down ds (goes-push j.down f t.goes (sent_goes j.broker f m)) t
    | false ↦ λ m. same_run j ds t
  ] refl
  step_run step.Deliver j ds z q d a t = by j.down q t
    where
      by : (fs : List Frame) → IsQuiet c (past n j.session) j.up fs → Tied c (past n j.session) j.up fs ds → InRun (deliver_first (by_history n) fs (record j { down = fs })) (ds ++ [])
      by [] q t = subst (Tied c (past n j.session) j.up []) (sym (append-nil ds)) t
      by (f ∷ fs) q t = on_event j (event.Receive f) j.up fs ds (receive_tied c (past n j.session) j.up f fs ds q t)
  step_run step.Lose j ds z q d a t = on_event j event.Lost [] [] ds (lost_tied c (past n j.session) (rec n j.session event.Lost) ds)

  first_run : InRun (joined_to n []) (deeds n [])
  first_run = record { goes = tt; count = λ u. refl; came = λ u. ([], refl) }

  quiet_at : 4096 ≤ n → (c == 0) ≡ false → (ss : List Step) → Quiet (joined_to n ss)
  quiet_at r z ss u h = (unread_at c (past_of n ss).wire (joined_to n ss).broker (joined_to n ss).up (joined_to n ss).down (pairs n ss r) u z h).1

  from_run : 4096 ≤ n → (c == 0) ≡ false → (pre ss : List Step) → InRun (joined_to n pre) (deeds n pre) → InRun (joined_to n (pre ++ ss)) (deeds n (pre ++ ss))
  from_run r z pre [] t = subst (λ v. InRun (joined_to n v) (deeds n v)) (sym (append-nil pre)) t
  from_run r z pre (s ∷ ss) t =
      let i = (in_run n c (omega (arith, r)) pre).contents in
      let one : InRun (joined_to n (pre ++ s ∷ [])) (deeds n (pre ++ s ∷ [])) = subst (λ v. InRun (joined_to n (pre ++ s ∷ [])) v) (sym (deeds-push n pre s)) (subst (λ j. InRun j (deeds n pre ++ deed_in s (joined_to n pre))) (sym (joined-push n pre s)) (step_run s (joined_to n pre) (deeds n pre) z (quiet_at r z pre) i.0 i.1 t)) in
      subst (λ v. InRun (joined_to n v) (deeds n v)) (append_assoc pre (s ∷ []) ss) (from_run r z (pre ++ s ∷ []) ss one)

-- while the connection is open, what is on the way down on a channel is the end of what was sent in its last opening
pub way_down : (n : ℕ) → 4096 ≤ n → (ss : List Step) (c : ℕ) → (c == 0) ≡ false → is_up (past_of n ss).wire.link ≡ true → (came : List Frame) × (sents (last_opening c (deeds n ss)) ≡ came ++ filter (is_frame_on c) (joined_to n ss).down)
way_down n r ss c z u = (from_run n c r z [] ss (first_run n c)).came u

-- ---- the two sides are together

heard : (z : Bool) (p : ChannelPhase) → receives_on (cond z state.Base (channel_state p)) ≡ true → (z ≡ false) × (phase_as p ≡ Opening → ⊥)
heard true p h = absurd cc
heard false (phase.Open paused) h = (refl, λ e. cc)
heard false (phase.Closing who sent) h = (refl, λ e. cc)
heard false phase.Closed h = absurd cc
heard false phase.Opening h = absurd cc
heard false phase.Crossed h = absurd cc

hears_up : (u : Bool) (s : ChannelState) → receives_on (cond u s state.Down) ≡ true → (u ≡ true) × (receives_on s ≡ true)
hears_up true s h = (refl, h)
hears_up false s h = absurd cc

pub in_step : (n : ℕ) → 4096 ≤ n → InStep n
in_step n r ss c on =
    let b : Wire = (past_of n ss).wire in
    let j : Joint History = joined_to n ss in
    let o = hears_up (is_up b.link) (cond (c == 0) state.Base (channel_state (phase_of c b))) on in
    let h = heard (c == 0) (phase_of c b) o.1 in
    let t : InRun n c j (deeds n ss) = from_run n c r h.0 [] ss (first_run n c) in
    let read : is_unread c b j.up ≡ false = elim (is_unread c b j.up) as (λ v. is_unread c b j.up ≡ v → v ≡ false) [
      | true ↦ λ e. absurd (h.1 (unread_at c b j.broker j.up j.down (pairs n ss r) o.0 h.0 e).0)
      | false ↦ λ e. refl
    ] refl in
    let none = or_parts (list_any (is_open_on c) j.up) (list_any (is_open_waiting c) b.methods) read in
    let came = t.came o.0 in
    record {
      left = none.1;
      read = none.0;
      count = (let k = t.count o.0 in let u = many-none (is_open_on c) j.up none.0 in let w = many-none (is_open_waiting c) b.methods none.1 in omega (arith, k, u, w));
      came = came.0;
      way = came.1;
    }
