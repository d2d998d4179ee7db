-- What ties a session's parts together holds after each change.
use Rattle.std.proofs.Common.{◌≡◌, ◌≢◌, ℕ, zero, suc, ◌+◌, ◌<◌, ◌==◌, nat_lt, ltb-true, ltb-false, Bool, true, false, cond, not, ◌||◌, ◌&&◌, List, [], ◌∷◌, ◌++◌, map, length, Option, Some, None, refl, sym, ◌∙◌, ap, subst, arith, slice_set, get_or, inl, inr, ne_eqb, eq-eqb}
use Rattle.std.specs.Prelude.{IsSome, IfSome, IfNone, Ok}
use Rattle.std.specs.List.{find, list_any, fold}
use Rattle.std.specs.Option.{option_map}
use Rattle.std.proofs.lemmas.Bool.Decides.{eqb_tells}
use Rattle.lapin_types.specs.declared.leaving.Publish.{Publish}
use Rattle.lapin_types.specs.declared.leaving.Left.{Left}
use Rattle.lapin_types.specs.Types.{Frame, Method, Error}
use Rattle.lapin_types.specs.Types.frame
use Rattle.lapin_types.specs.Types.method
use Rattle.lapin_types.specs.Types.connection
use Rattle.lapin_types.specs.Types.channel
use Rattle.lapin_tables.specs.ByChannel.{at_channel, on_channel}
use Rattle.lapin_tables.specs.Numbered.{under, with_under}
use Rattle.lapin_rules.specs.declared.marks.Settlement.{Settlement}
use Rattle.lapin_types.specs.declared.outcome.Outcome.{Outcome}
use Rattle.lapin_types.specs.declared.outcome.Outcome.TheVariants as outcome
use Rattle.lapin_rules.specs.ConfirmMarks as mark
use Rattle.lapin_rules.specs.declared.phases.Closer.{Closer}
use Rattle.lapin_rules.specs.declared.phases.ChannelPhase.{ChannelPhase}
use Rattle.lapin_rules.specs.declared.phases.ChannelPhase.TheVariants as phase
use Rattle.lapin_rules.specs.declared.phases.ConnectionPhase.{ConnectionPhase}
use Rattle.lapin_rules.specs.declared.phases.ConnectionPhase.TheVariants as link
use Rattle.lapin_rules.specs.Words.{is_some, with_channel}
use Rattle.lapin_rules.specs.Phases.{is_live, is_up, phase_in}
use Rattle.lapin_rules.specs.ChannelClose.{close_sent}
use Rattle.lapin_rules.specs.ConnectionClose.{link_close_sent}
use Rattle.lapin_rules.specs.ConfirmReadings.{covers, outcome_of}
use Rattle.lapin_rules.specs.Frames.{RestEntry, MethodEntry, left_publish}
use Rattle.lapin_rules.specs.Words.{without_first}
use Rattle.lapin_rules.specs.Leaving.{may_begin, left_of, handed_of}
use Rattle.lapin_rules.specs.ChannelClose.{phases_sent}
use Rattle.lapin_rules.specs.ConnectionClose.{link_sent}
use Rattle.lapin_rules.specs.Select.{is_select, queued_marks, method_marks}
use Rattle.lapin_rules.specs.Handing.{left_marks}
use Rattle.lapin_rules.specs.Ends.{beyond, live_below, live_channels, ends}
use Rattle.lapin_rules.proofs.EndLaws.{beyond-none}
use Rattle.lapin_rules.proofs.ChannelLaws.{at-on, at-with}
use Rattle.lapin_rules.proofs.ListLaws.{any-push}
use Rattle.lapin_confirm.specs.declared.cell.Cell.{Cell}
use Rattle.lapin_confirm.specs.declared.cell.Cell.TheVariants as cell
use Rattle.lapin_confirm.specs.PublishStates.{PublishStates, ConfirmModeState, empty_publish_states, fresh_confirm_mode, selected_confirm_mode, asked_confirm_mode, next_confirm_mode, limited_confirm_mode, ended_confirm_mode, tag_for, confirm_modes_with, cell_with, settled_cell, closed_cell, is_queued_on, is_open_on, is_resolved, begun, with_publish, select_left, left, limited, settled, closed_here, ended, taken}
use Rattle.lapin_confirm.specs.ConfirmState.{ConfirmState, return_lists_at}
use Rattle.lapin_confirm.specs.Answers.{result_of}
use Rattle.lapin_confirm.specs.Polled.{gives_result}
use Rattle.lapin_confirm.specs.Machine.{after_mark}
use Rattle.lapin_confirm.specs.Aside.{is_set_aside, is_giving, taken_answer, kept_by as kept_aside, laid_by}
use Rattle.lapin_confirm.specs.Drain.{Remains, remaining, is_over, less_one, less_all, over_aside, renewed_on}
use Rattle.lapin_confirm.proofs.Ended.{any-ended}
use Rattle.lapin_confirm.proofs.Polling.{giving-told}
use Rattle.lapin_outstanding.specs.Queued.{AreQueued, CanRegister}
use Rattle.lapin_outstanding.proofs.Ends.{ends-join}
use Rattle.lapin_outstanding.proofs.Queueing.{taken-out}
use Rattle.lapin_outstanding.proofs.Waiting.{queue-push, queue-left, queue-settled, queue-taken, queue-none}
use Rattle.lapin_outbox.specs.Outgoing.{OutboxState}
use Rattle.lapin_outbox.specs.Poison.{poison_on}
use Rattle.lapin_machine.proofs.Brought.{none_begins, tied_brought}
use Rattle.lapin_machine.specs.Tied.{IsTied, NotPoisoned, IsKept, is_live_on}
use Rattle.std.proofs.lemmas.Bool.{or_parts}
use Rattle.lapin_tables.proofs.Bools.{and_false, and_second}
use Rattle.lapin_rules.proofs.PhaseLaws.{close_leaves_up}

-- ---- nothing opens on a channel that has no live opening

any-written : {X : Type 0} (p : X → Bool) (xs : List X) (k : ℕ) (y : X) → list_any p xs ≡ false → p y ≡ false → list_any p (slice_set xs k y) ≡ false
any-written p [] k y h e = refl
any-written p (x ∷ xs) zero y h e = let parts = or_parts (p x) (list_any p xs) h in rw e parts.1
any-written p (x ∷ xs) (suc k) y h e = let parts = or_parts (p x) (list_any p xs) h in rw parts.0 (any-written p xs k y parts.1 e)

any-under : (c n : ℕ) (o : Option Cell) (cells : List (Option Cell)) → list_any (is_open_on c) cells ≡ false → is_open_on c o ≡ false → list_any (is_open_on c) (with_under n o cells) ≡ false
any-under c zero o cells h e = h
any-under c (suc k) o cells h e = any-written (is_open_on c) cells k o h e

any-get : {X : Type 0} (p : Option X → Bool) (xs : List (Option X)) (k : ℕ) → p None ≡ false → list_any p xs ≡ false → p (get_or xs k None) ≡ false
any-get p [] k none h = none
any-get p (x ∷ xs) zero none h = (or_parts (p x) (list_any p xs) h).0
any-get p (x ∷ xs) (suc k) none h = any-get p xs k none (or_parts (p x) (list_any p xs) h).1

closed-under : (c n : ℕ) (cells : List (Option Cell)) → list_any (is_open_on c) cells ≡ false → is_open_on c (under n cells) ≡ false
closed-under c zero cells h = refl
closed-under c (suc k) cells h = any-get (is_open_on c) cells k refl h

settled-closed : (c d : ℕ) (covered : ℕ → Bool) (o : Outcome) (x : Option Cell) → is_open_on c x ≡ false → is_open_on c (option_map (settled_cell d covered o) x) ≡ false
settled-closed c d covered o None h = refl
settled-closed c d covered o (Some (cell.Queued e)) h = h
settled-closed c d covered o (Some (cell.Pending e t)) h = elim (e == d && covered t) as (λ b. is_open_on c (Some (cond b (cell.Resolved o) (cell.Pending e t))) ≡ false) [ true ↦ refl | false ↦ h ]
settled-closed c d covered o (Some (cell.Resolved x)) h = refl

any-mapped : {X : Type 0} (p : X → Bool) (g : X → X) (xs : List X) → ((x : X) → p x ≡ false → p (g x) ≡ false) → list_any p xs ≡ false → list_any p (map g xs) ≡ false
any-mapped p g [] keeps h = refl
any-mapped p g (x ∷ xs) keeps h =
    elim (p x) as (λ b. p x ≡ b → (b || list_any p xs) ≡ false → (p (g x) || list_any p (map g xs)) ≡ false)
    [ true ↦ λ is h. cc | false ↦ λ is h. rw (keeps x is) (any-mapped p g xs keeps h) ] refl h

closed-closed : (c d : ℕ) (e : Error) (x : Option Cell) → is_open_on c x ≡ false → is_open_on c (option_map (closed_cell d e) x) ≡ false
closed-closed c d e None h = refl
closed-closed c d e (Some (cell.Queued k)) h = elim (k == d) as (λ b. is_open_on c (Some (cond b (cell.Resolved (outcome.Failed e)) (cell.Queued k))) ≡ false) [ true ↦ refl | false ↦ h ]
closed-closed c d e (Some (cell.Pending k t)) h = h
closed-closed c d e (Some (cell.Resolved x)) h = refl

-- what ends of openings leave
ended_none : (c d : ℕ) (e : Error) (b : PublishStates) → list_any (is_open_on c) b.cells ≡ false → list_any (is_open_on c) (ended d e b).cells ≡ false
ended_none c d e b h = any-ended c d e b ∙ elim (d == c) as (λ t. cond t false (list_any (is_open_on c) b.cells) ≡ false) [ true ↦ refl | false ↦ h ]

ended_here : (c : ℕ) (e : Error) (b : PublishStates) → list_any (is_open_on c) (ended c e b).cells ≡ false
ended_here c e b = let same : (c == c) ≡ true = eq-eqb c c refl in any-ended c c e b ∙ rw same refl

ends_none : (c : ℕ) (e : Error) (cs : List ℕ) (p : ConfirmState) → list_any (is_open_on c) p.publish_states.cells ≡ false → list_any (is_open_on c) (fold after_mark p (ends e cs)).publish_states.cells ≡ false
ends_none c e [] p h = h
ends_none c e (d ∷ cs) p h = ends_none c e cs (after_mark p (mark.Ended d e)) (ended_none c d e p.publish_states h)

-- a channel of a live opening has nothing unresolved once all those below a greater number ended
ends_below : (c n : ℕ) (e : Error) (xs : List (ℕ × ChannelPhase)) (p : ConfirmState) → c < n → is_live (phase_in (at_channel c xs)) ≡ true → list_any (is_open_on c) (fold after_mark p (ends e (live_below n xs))).publish_states.cells ≡ false
ends_below c zero e xs p lt live = absurd (omega arith)
ends_below c (suc k) e xs p lt live =
    let B : ConfirmState = fold after_mark p (ends e (live_below k xs)) in
    let last : List ℕ = cond (is_live (phase_in (at_channel k xs))) (k ∷ []) [] in
    let C : ConfirmState → Type 0 = λ x. list_any (is_open_on c) x.publish_states.cells ≡ false in
    subst C (sym (ends-join e (live_below k xs) last p))
    (elim (eqb_tells c k) [
      | inl same ↦
          let here : is_live (phase_in (at_channel k xs)) ≡ true = subst (λ i. is_live (phase_in (at_channel i xs)) ≡ true) same.1 live in
          let P : ℕ → Type 0 = λ i. list_any (is_open_on i) (ended k e B.publish_states).cells ≡ false in
          rw here (subst P (sym same.1) (ended_here k e B.publish_states))
      | inr other ↦
          let apart : c ≢ k = other.1 in
          ends_none c e last B (ends_below c k e xs p (omega arith) live)
    ])

-- and once all ended
ends_live : (c : ℕ) (e : Error) (xs : List (ℕ × ChannelPhase)) (p : ConfirmState) → is_live (phase_in (at_channel c xs)) ≡ true → list_any (is_open_on c) (fold after_mark p (ends e (live_channels xs))).publish_states.cells ≡ false
ends_live c e xs p live = elim (nat_lt c (beyond xs)) as (λ t. nat_lt c (beyond xs) ≡ t → list_any (is_open_on c) (fold after_mark p (ends e (live_channels xs))).publish_states.cells ≡ false) [
  | true ↦ λ within. ends_below c (beyond xs) e xs p (ltb-true c (beyond xs) within) live
  | false ↦ λ past.
      let none : at_channel c xs ≡ None = beyond-none c xs (ltb-false c (beyond xs) past) in
      let dead : is_live (phase_in (at_channel c xs)) ≡ false = ap (λ o. is_live (phase_in o)) none in
      cc
] refl

-- ---- lines of channels

some_with : {X : Type 0} (c d : ℕ) (x : X) (es : List (ℕ × X)) → IsSome (at_channel d es) → IsSome (at_channel d (with_channel c x es))
some_with c d x es h = rw (at-with c d x es) (elim (c == d) as (λ b. IsSome (cond b (Some x) (at_channel d es))) [ true ↦ refl | false ↦ h ])

some_on : {X : Type 0} (c d : ℕ) (f : X → X) (es : List (ℕ × X)) → IsSome (at_channel d es) → IsSome (at_channel d (on_channel c f es))
some_on {X} c d f es h = rw (at-on c d f es) (elim (c == d) as (λ b. IsSome (cond b (option_map f (at_channel d es)) (at_channel d es))) [ true ↦ mapped (at_channel d es) h | false ↦ h ])
  where
    mapped : (o : Option X) → IsSome o → IsSome (option_map f o)
    mapped None h = h
    mapped (Some y) h = refl

-- ---- a channel is put where an open or a close leads it

-- where a channel without a live opening has nothing unresolved
abbrev Done : ConnectionPhase → List (ℕ × ChannelPhase) → List (Option Cell) → Type 0
Done l phases cells = (c : ℕ) → is_live_on l (at_channel c phases) ≡ false → list_any (is_open_on c) cells ≡ false

abbrev Lined : List (ℕ × ChannelPhase) → List (ℕ × ConfirmModeState) → Type 0
Lined phases confirm_modes = (c : ℕ) → is_some (at_channel c phases) ≡ true → IsSome (at_channel c confirm_modes)

lined-put : (c : ℕ) (p : ChannelPhase) (phases : List (ℕ × ChannelPhase)) (confirm_modes : List (ℕ × ConfirmModeState)) → IsSome (at_channel c confirm_modes) → Lined phases confirm_modes → Lined (with_channel c p phases) confirm_modes
lined-put c p phases confirm_modes here has = λ d h.
    elim (eqb_tells c d) [
      | inl same ↦ let P : ℕ → Type 0 = λ k. IsSome (at_channel k confirm_modes) in subst P same.1 here
      | inr other ↦ has d (rw (at-with c d p phases, other.0) at h)
    ]

done-put : (l : ConnectionPhase) (c : ℕ) (p : ChannelPhase) (phases : List (ℕ × ChannelPhase)) (cells : List (Option Cell)) → (is_live_on l (Some p) ≡ false → list_any (is_open_on c) cells ≡ false) → Done l phases cells → Done l (with_channel c p phases) cells
done-put l c p phases cells here done = λ d h.
    elim (eqb_tells c d) [
      | inl same ↦
          let P : ℕ → Type 0 = λ k. list_any (is_open_on k) cells ≡ false in
          let gone : is_live_on l (Some p) ≡ false = rw (at-with c d p phases, same.0) at h in
          subst P same.1 (here gone)
      | inr other ↦ done d (rw (at-with c d p phases, other.0) at h)
    ]

live_up : (l : ConnectionPhase) (p : ChannelPhase) → is_up l ≡ true → is_live p ≡ true → is_live_on l (Some p) ≡ true
live_up l p up live = rw up live

-- a new session
pub tied_new : IsTied link.Open [] [] empty_publish_states
tied_new = record { queued = queue-none [] (λ c. refl); confirm_modes = λ c h. cc; done = λ c h. refl; down = λ h. cc }

-- a line begins anew
tied_begun : (l : ConnectionPhase) (c : ℕ) (phases : List (ℕ × ChannelPhase)) (ps : List Publish) (b : PublishStates) → is_up l ≡ true → IsTied l phases ps b → IsTied l (with_channel c phase.Opening phases) ps (begun c b)
tied_begun l c phases ps b up t =
    let here : IsSome (at_channel c (with_channel c fresh_confirm_mode b.confirm_modes)) = let same : (c == c) ≡ true = eq-eqb c c refl in rw (at-with c c fresh_confirm_mode b.confirm_modes, same) refl in
    record {
      queued = t.queued;
      confirm_modes = lined-put c phase.Opening phases (with_channel c fresh_confirm_mode b.confirm_modes) here (λ d h. some_with c d fresh_confirm_mode b.confirm_modes (t.confirm_modes d h));
      done = done-put l c phase.Opening phases b.cells (λ gone. let live : is_live_on l (Some phase.Opening) ≡ true = live_up l phase.Opening up refl in cc) t.done;
      down = λ h. cc;
    }

-- an opening goes on
pub tied_live : (l : ConnectionPhase) (c : ℕ) (p : ChannelPhase) (phases : List (ℕ × ChannelPhase)) (ps : List Publish) (b : PublishStates) → is_up l ≡ true → is_live p ≡ true → is_some (at_channel c phases) ≡ true → IsTied l phases ps b → IsTied l (with_channel c p phases) ps b
tied_live l c p phases ps b up live some t = record {
  queued = t.queued;
  confirm_modes = lined-put c p phases b.confirm_modes (t.confirm_modes c some) t.confirm_modes;
  done = done-put l c p phases b.cells (λ gone. let is : is_live_on l (Some p) ≡ true = live_up l p up live in cc) t.done;
  down = λ h. cc;
}

-- this side closes a channel
pub tied_closing : (l : ConnectionPhase) (c : ℕ) (who : Closer) (e : Error) (phases : List (ℕ × ChannelPhase)) (ps new : List Publish) (b : PublishStates) → is_up l ≡ true → is_some (at_channel c phases) ≡ true
    → AreQueued (closed_here c e b).cells new → IsTied l phases ps b → IsTied l (with_channel c (phase.Closing who false) phases) new (closed_here c e b)
tied_closing l c who e phases ps new b up some q t =
    tied_live l c (phase.Closing who false) phases new (closed_here c e b) up refl some
    (record { queued = q; confirm_modes = t.confirm_modes; done = λ d h. any-mapped (is_open_on d) (option_map (closed_cell c e)) b.cells (closed-closed d c e) (t.done d h); down = t.down })

-- an opening ends
pub tied_ended : (l : ConnectionPhase) (c : ℕ) (p : ChannelPhase) (e : Error) (phases : List (ℕ × ChannelPhase)) (ps new : List Publish) (b : PublishStates) → is_up l ≡ true → is_some (at_channel c phases) ≡ true
    → AreQueued (ended c e b).cells new → IsTied l phases ps b → IsTied l (with_channel c p phases) new (ended c e b)
tied_ended l c p e phases ps new b up some q t = record {
  queued = q;
  confirm_modes = lined-put c p phases (on_channel c ended_confirm_mode b.confirm_modes) (some_on c c ended_confirm_mode b.confirm_modes (t.confirm_modes c some)) (λ d h. some_on c d ended_confirm_mode b.confirm_modes (t.confirm_modes d h));
  done = done-put l c p phases (ended c e b).cells (λ gone. ended_here c e b) (λ d h. ended_none d c e b (t.done d h));
  down = λ h. cc;
}

-- a channel whose opening has ended is closed
pub tied_closed : (l : ConnectionPhase) (c : ℕ) (phases : List (ℕ × ChannelPhase)) (ps : List Publish) (b : PublishStates) → is_up l ≡ true → is_live_on l (at_channel c phases) ≡ false → is_some (at_channel c phases) ≡ true → IsTied l phases ps b → IsTied l (with_channel c phase.Closed phases) ps b
tied_closed l c phases ps b up over some t = record {
  queued = t.queued;
  confirm_modes = lined-put c phase.Closed phases b.confirm_modes (t.confirm_modes c some) t.confirm_modes;
  done = done-put l c phase.Closed phases b.cells (λ gone. t.done c over) t.done;
  down = λ h. cc;
}

-- once the connection is not open what waits may be dropped
pub tied_dropped : (l m : ConnectionPhase) (phases : List (ℕ × ChannelPhase)) (ps : List Publish) (b : PublishStates) → is_up l ≡ false → IsTied l phases ps b → IsTied m phases [] b
tied_dropped l m phases ps b down t =
    let done : (c : ℕ) → list_any (is_open_on c) b.cells ≡ false = λ c. t.done c (rw down refl) in
    record { queued = queue-none b.cells done; confirm_modes = t.confirm_modes; done = λ c h. done c; down = λ h. t.down down }

-- the connection is not open any more
pub tied_down : (l m : ConnectionPhase) (e : Error) (phases : List (ℕ × ChannelPhase)) (ps : List Publish) (p : ConfirmState) → IsTied l phases ps p.publish_states → IsTied m [] [] (fold after_mark p (ends e (live_channels phases))).publish_states
tied_down l m e phases ps p t =
    let done : (c : ℕ) → list_any (is_open_on c) (fold after_mark p (ends e (live_channels phases))).publish_states.cells ≡ false = λ c.
    elim (is_live (phase_in (at_channel c phases))) as (λ v. is_live (phase_in (at_channel c phases)) ≡ v → list_any (is_open_on c) (fold after_mark p (ends e (live_channels phases))).publish_states.cells ≡ false) [
      | true ↦ λ live. ends_live c e phases p live
      | false ↦ λ over. ends_none c e (live_channels phases) p (t.done c (ap (λ v. is_up l && v) over ∙ and_false (is_up l)))
    ] refl in
    record { queued = queue-none (fold after_mark p (ends e (live_channels phases))).publish_states.cells done; confirm_modes = λ c h. cc; done = λ c h. done c; down = λ h. refl }

-- once the connection is not open it may close further
pub tied_further : (l m : ConnectionPhase) (phases : List (ℕ × ChannelPhase)) (ps : List Publish) (b : PublishStates) → is_up l ≡ false → IsTied l phases ps b → IsTied m phases ps b
tied_further l m phases ps b down t = record { queued = t.queued; confirm_modes = t.confirm_modes; done = λ c h. t.done c (rw down refl); down = λ h. t.down down }

-- ---- publishes, settlements and polls

-- a channel with a live opening is another than one without
not_over : (l : ConnectionPhase) (c d : ℕ) (phases : List (ℕ × ChannelPhase)) → is_live_on l (at_channel c phases) ≡ true → is_live_on l (at_channel d phases) ≡ false → c ≢ d
not_over l c d phases live over e = let P : ℕ → Type 0 = λ k. is_live_on l (at_channel k phases) ≡ false in let here : is_live_on l (at_channel c phases) ≡ false = subst P (sym e) over in cc

pub tied_publish : (l : ConnectionPhase) (c : ℕ) (phases : List (ℕ × ChannelPhase)) (ps : List Publish) (b : PublishStates) (p : Publish) → is_live_on l (at_channel c phases) ≡ true → p.confirm ≡ length b.cells + 1 → p.channel ≡ c → IsTied l phases ps b → IsTied l phases (ps ++ p ∷ []) (with_publish c b)
tied_publish l c phases ps b p is at on t = record {
  queued = queue-push c b.cells ps p at on t.queued;
  confirm_modes = t.confirm_modes;
  done = λ d h.
      let ne : c ≢ d = not_over l c d phases is h in
      let away : (c == d) ≡ false = ne_eqb c d ne in
      any-push (is_open_on d) b.cells (Some (cell.Queued c)) ∙ rw (t.done d h, away) refl;
  down = t.down;
}

left_closed : (c d n : ℕ) (t : Option ℕ) (cells : List (Option Cell)) → under n cells ≡ Some (cell.Queued c) → list_any (is_open_on d) cells ≡ false → is_open_on d (Some (cell_with c t)) ≡ false
left_closed c d n None cells is h = refl
left_closed c d n (Some t) cells is h = let was : is_open_on d (under n cells) ≡ false = closed-under d n cells h in rw is at was

tied_left : (l : ConnectionPhase) (phases : List (ℕ × ChannelPhase)) (p : Publish) (ps : List Publish) (b : PublishStates) → IsTied l phases (p ∷ ps) b → IsTied l phases ps (left p.channel p.confirm b)
tied_left l phases p ps b t = record {
  queued = queue-left (Some (cell_with p.channel (tag_for (at_channel p.channel b.confirm_modes)))) b.cells p ps (has-left p.channel (tag_for (at_channel p.channel b.confirm_modes))) t.queued;
  confirm_modes = λ d h. confirm_modes-left (tag_for (at_channel p.channel b.confirm_modes)) d (t.confirm_modes d h);
  done = λ d h. any-under d p.confirm _ b.cells (t.done d h) (left_closed p.channel d p.confirm (tag_for (at_channel p.channel b.confirm_modes)) b.cells t.queued.each.0 (t.done d h));
  down = t.down;
}
  where
    has-left : (c : ℕ) (t : Option ℕ) (d : ℕ) → is_queued_on d (Some (cell_with c t)) ≡ false
    has-left c None d = refl
    has-left c (Some x) d = refl

    confirm_modes-left : (o : Option ℕ) (d : ℕ) → IsSome (at_channel d b.confirm_modes) → IsSome (at_channel d (confirm_modes_with p.channel o b.confirm_modes))
    confirm_modes-left None d h = h
    confirm_modes-left (Some x) d h = some_on p.channel d next_confirm_mode b.confirm_modes h

tied_select : (l : ConnectionPhase) (c : ℕ) (phases : List (ℕ × ChannelPhase)) (ps : List Publish) (b : PublishStates) → IsTied l phases ps b → IsTied l phases ps (select_left c b)
tied_select l c phases ps b t = record { queued = t.queued; confirm_modes = λ d h. some_on c d selected_confirm_mode b.confirm_modes (t.confirm_modes d h); done = t.done; down = t.down }

tied_method : (l : ConnectionPhase) (c : ℕ) (m : Method) (phases : List (ℕ × ChannelPhase)) (ps : List Publish) (p : ConfirmState) → IsTied l phases ps p.publish_states → IsTied l phases ps (fold after_mark p (method_marks c m)).publish_states
tied_method l c m phases ps p t = elim (is_select m) as (λ s. IsTied l phases ps (fold after_mark p (cond s (mark.SelectLeft c ∷ []) [])).publish_states) [ true ↦ tied_select l c phases ps p.publish_states t | false ↦ t ]

-- a `confirm.select` is called
pub tied_called : (l : ConnectionPhase) (c : ℕ) (m : Method) (phases : List (ℕ × ChannelPhase)) (ps : List Publish) (p : ConfirmState) → IsTied l phases ps p.publish_states → IsTied l phases ps (fold after_mark p (queued_marks c m)).publish_states
tied_called l c m phases ps p t = elim (is_select m) as (λ s. IsTied l phases ps (fold after_mark p (cond s (mark.SelectCalled c ∷ []) [])).publish_states) [
  | true ↦ record { queued = t.queued; confirm_modes = λ d h. some_on c d asked_confirm_mode p.publish_states.confirm_modes (t.confirm_modes d h); done = t.done; down = t.down }
  | false ↦ t
]

pub tied_leaves : (frame_max : ℕ) (flow : ℕ → Bool) (rest : List RestEntry) (methods : List MethodEntry) (ps : List Publish) (l : ConnectionPhase) (phases : List (ℕ × ChannelPhase)) (b : ConfirmState) → IsTied l phases ps b.publish_states → IsTied l phases (left_of frame_max flow rest methods ps).publishes (fold after_mark b (left_marks (handed_of flow rest methods ps))).publish_states
tied_leaves frame_max flow (f ∷ fs) methods ps l phases b t = t
tied_leaves frame_max flow [] (m ∷ ms) ps l phases b t = tied_method l m.channel m.method phases ps b t
tied_leaves frame_max flow [] [] ps l phases b t = at (find (may_begin flow) ps) refl
  where
    at : (o : Option Publish) → find (may_begin flow) ps ≡ o → IsTied l phases (without_first (may_begin flow) ps) (fold after_mark b (left_marks (option_map left_publish o))).publish_states
    at None e = let P : List Publish → Type 0 = λ qs. IsTied l phases qs b.publish_states in subst P (sym (none_begins (may_begin flow) ps e)) t
    at (Some q) e = tied_left l phases q (without_first (may_begin flow) ps) b.publish_states (tied_brought (may_begin flow) l phases ps q b.publish_states e t)

-- a close of this side that left changes no opening
some-mapped : {X : Type 0} (f : X → X) (o : Option X) → is_some (option_map f o) ≡ is_some o
some-mapped f None = refl
some-mapped f (Some x) = refl

pub live-mapped : (o : Option ChannelPhase) → is_live (phase_in (option_map close_sent o)) ≡ is_live (phase_in o)
live-mapped None = refl
live-mapped (Some phase.Closed) = refl
live-mapped (Some phase.Opening) = refl
live-mapped (Some (phase.Open paused)) = refl
live-mapped (Some (phase.Closing who sent)) = refl
live-mapped (Some phase.Crossed) = refl

choose_same : {X : Type 0} (b : Bool) (x y : X) → x ≡ y → cond b x y ≡ y
choose_same true x y e = e
choose_same false x y e = refl

tied_close_left : (l : ConnectionPhase) (c : ℕ) (phases : List (ℕ × ChannelPhase)) (ps : List Publish) (b : PublishStates) → IsTied l phases ps b → IsTied l (on_channel c close_sent phases) ps b
tied_close_left l c phases ps b t =
    let some : (d : ℕ) → is_some (at_channel d (on_channel c close_sent phases)) ≡ is_some (at_channel d phases) = λ d.
    rw (at-on c d close_sent phases) (elim (c == d) as (λ b. is_some (cond b (option_map close_sent (at_channel d phases)) (at_channel d phases)) ≡ is_some (at_channel d phases)) [ true ↦ some-mapped close_sent (at_channel d phases) | false ↦ refl ]) in
    let live : (d : ℕ) → is_live (phase_in (at_channel d (on_channel c close_sent phases))) ≡ is_live (phase_in (at_channel d phases)) = λ d.
    rw (at-on c d close_sent phases) (elim (c == d) as (λ b. is_live (phase_in (cond b (option_map close_sent (at_channel d phases)) (at_channel d phases))) ≡ is_live (phase_in (at_channel d phases))) [ true ↦ live-mapped (at_channel d phases) | false ↦ refl ]) in
    record {
      queued = t.queued;
      confirm_modes = λ d h. t.confirm_modes d (sym (some d) ∙ h);
      done = λ d h. t.done d (ap (λ x. is_up l && x) (sym (live d)) ∙ h);
      down = λ h. ap (on_channel c close_sent) (t.down h);
    }

tied_link_left : (l : ConnectionPhase) (phases : List (ℕ × ChannelPhase)) (ps : List Publish) (b : PublishStates) → IsTied l phases ps b → IsTied (link_close_sent l) phases ps b
tied_link_left l phases ps b t = record { queued = t.queued; confirm_modes = t.confirm_modes; done = λ c h. t.done c (ap (λ x. x && is_live (phase_in (at_channel c phases))) (sym (close_leaves_up l)) ∙ h); down = λ h. t.down (sym (close_leaves_up l) ∙ h) }

pub tied_sent : (f : Frame) (l : ConnectionPhase) (phases : List (ℕ × ChannelPhase)) (ps : List Publish) (b : PublishStates) → IsTied l phases ps b → IsTied (link_sent f l) (phases_sent f phases) ps b
tied_sent (frame.Method c (method.Connection (connection.Close code text class number))) l phases ps b t = tied_link_left l phases ps b t
tied_sent (frame.Method c (method.Connection connection.CloseOk)) l phases ps b t = t
tied_sent (frame.Method c (method.Channel (channel.Close code text class number))) l phases ps b t = tied_close_left l c phases ps b t
tied_sent (frame.Method c (method.Channel channel.Open)) l phases ps b t = t
tied_sent (frame.Method c (method.Channel channel.OpenOk)) l phases ps b t = t
tied_sent (frame.Method c (method.Channel (channel.Flow active))) l phases ps b t = t
tied_sent (frame.Method c (method.Channel (channel.FlowOk active))) l phases ps b t = t
tied_sent (frame.Method c (method.Channel channel.CloseOk)) l phases ps b t = t
tied_sent (frame.Method c (method.Access m)) l phases ps b t = t
tied_sent (frame.Method c (method.Exchange m)) l phases ps b t = t
tied_sent (frame.Method c (method.Queue m)) l phases ps b t = t
tied_sent (frame.Method c (method.Basic m)) l phases ps b t = t
tied_sent (frame.Method c (method.Confirm m)) l phases ps b t = t
tied_sent (frame.Method c (method.Tx m)) l phases ps b t = t
tied_sent (frame.Header c h) l phases ps b t = t
tied_sent (frame.Body c bytes) l phases ps b t = t

-- a frame leaves
pub tied_handed : (frame_max : ℕ) (flow : ℕ → Bool) (rest : List RestEntry) (methods : List MethodEntry) (ps : List Publish) (l : ConnectionPhase) (phases : List (ℕ × ChannelPhase)) (b : ConfirmState) (x : Left) → IsTied l phases ps b.publish_states → IsTied (link_sent x.frame l) (phases_sent x.frame phases) (left_of frame_max flow rest methods ps).publishes (fold after_mark b (left_marks (handed_of flow rest methods ps))).publish_states
tied_handed frame_max flow rest methods ps l phases b x t = tied_sent x.frame l phases _ _ (tied_leaves frame_max flow rest methods ps l phases b t)

-- the publish that leaves is queued
pub can_register : (flow : ℕ → Bool) (rest : List RestEntry) (methods : List MethodEntry) (ps : List Publish) (cells : List (Option Cell)) (l : Left) → handed_of flow rest methods ps ≡ Some l → AreQueued cells ps → CanRegister l cells
can_register flow rest methods ps cells l e q = let P : Option Left → Type 0 = λ o. registers o in subst P e (at flow rest methods ps q)
  where
    registers : Option Left → Type 0
    registers None = Unit {0}
    registers (Some l) = CanRegister l cells

    at : (flow : ℕ → Bool) (rest : List RestEntry) (methods : List MethodEntry) (ps : List Publish) → AreQueued cells ps → registers (handed_of flow rest methods ps)
    at flow (f ∷ fs) methods ps q = tt
    at flow [] (m ∷ ms) ps q = tt
    at flow [] [] ps q = by (find (may_begin flow) ps) refl
      where
        by : (o : Option Publish) → find (may_begin flow) ps ≡ o → registers (option_map left_publish o)
        by None e = tt
        by (Some x) e = (taken-out cells (may_begin flow) ps x e q.each).queued

pub tied_settled : (l : ConnectionPhase) (c : ℕ) (s : Settlement) (phases : List (ℕ × ChannelPhase)) (ps : List Publish) (b : PublishStates) → IsTied l phases ps b → IsTied l phases ps (settled c s b)
tied_settled l c s phases ps b t = record {
  queued = queue-settled c (covers s) (outcome_of s) b.cells ps t.queued;
  confirm_modes = t.confirm_modes;
  done = λ d h. any-mapped (is_open_on d) (option_map (settled_cell c (covers s) (outcome_of s))) b.cells (settled-closed d c (covers s) (outcome_of s)) (t.done d h);
  down = t.down;
}

pub tied_limited : (l : ConnectionPhase) (c n : ℕ) (phases : List (ℕ × ChannelPhase)) (ps : List Publish) (b : PublishStates) → IsTied l phases ps b → IsTied l phases ps (limited c n b)
tied_limited l c n phases ps b t = record { queued = t.queued; confirm_modes = λ d h. some_on c d (limited_confirm_mode n) b.confirm_modes (t.confirm_modes d h); done = t.done; down = t.down }

pub tied_taken : (n : ℕ) (l : ConnectionPhase) (phases : List (ℕ × ChannelPhase)) (ps : List Publish) (b : PublishStates) → is_resolved (under n b.cells) ≡ true → IsTied l phases ps b → IsTied l phases ps (taken n b)
tied_taken n l phases ps b h t = record {
  queued = queue-taken n b.cells ps h t.queued;
  confirm_modes = t.confirm_modes;
  done = λ d over. any-under d n None b.cells (t.done d over) refl;
  down = t.down;
}

-- ---- confirms of which nothing is kept any more

-- a poll gives the result only where it is there
pub tied_given : (n : ℕ) (l : ConnectionPhase) (phases : List (ℕ × ChannelPhase)) (ps : List Publish) (p : ConfirmState) → IsTied l phases ps p.publish_states → IsTied l phases ps (cond (is_giving n p) (after_mark p (mark.Taken n)) p).publish_states
tied_given n l phases ps p t =
    elim (is_giving n p) as (λ g. is_giving n p ≡ g → IsTied l phases ps (cond g (after_mark p (mark.Taken n)) p).publish_states)
    [ true ↦ λ h. tied_taken n l phases ps p.publish_states (and_second (not (is_set_aside n p)) (is_resolved (under n p.publish_states.cells)) h) t | false ↦ λ h. t ] refl

-- so does one that gives an outcome without a message
pub tied_bare : (n : ℕ) (r : Option Outcome) (l : ConnectionPhase) (phases : List (ℕ × ChannelPhase)) (ps : List Publish) (p q : ConfirmState) → IfSome r (λ o. taken_answer n p ≡ Ok (Some (result_of o))) → IfSome r (λ _. q ≡ after_mark p (mark.Taken n)) → IfNone r (q ≡ p) → IsTied l phases ps p.publish_states → IsTied l phases ps q.publish_states
tied_bare n None l phases ps p q told gave same t = let P : ConfirmState → Type 0 = λ x. IsTied l phases ps x.publish_states in subst P (sym same) t
tied_bare n (Some o) l phases ps p q told gave same t =
    let P : ConfirmState → Type 0 = λ x. IsTied l phases ps x.publish_states in
    let giving : is_giving n p ≡ true = giving-told n p ∙ ap gives_result told in
    subst P (sym gave) (tied_taken n l phases ps p.publish_states (and_second (not (is_set_aside n p)) (is_resolved (under n p.publish_states.cells)) giving) t)

pub tied_aside : (n : ℕ) (l : ConnectionPhase) (phases : List (ℕ × ChannelPhase)) (ps : List Publish) (p : ConfirmState) → IsTied l phases ps p.publish_states → IsTied l phases ps (after_mark p (mark.SetAside n)).publish_states
tied_aside n l phases ps p t =
    elim (is_resolved (under n p.publish_states.cells)) as (λ r. is_resolved (under n p.publish_states.cells) ≡ r → IsTied l phases ps (cond r (kept_aside n p) (laid_by n p)).publish_states)
    [ true ↦ λ h. tied_taken n l phases ps p.publish_states h t | false ↦ λ h. t ] refl

-- of those that are resolved
module _ (l : ConnectionPhase) (phases : List (ℕ × ChannelPhase)) (ps : List Publish) (confirm_modes : List (ℕ × ConfirmModeState)) where
  abbrev kept_of : Remains → PublishStates
  kept_of r = record { confirm_modes = confirm_modes; cells = r.cells }

  tied_less_one : (n : ℕ) (r : Remains) → IsTied l phases ps (kept_of r) → IsTied l phases ps (kept_of (less_one n r))
  tied_less_one n r t =
      elim (is_over r.cells n) as (λ b. is_over r.cells n ≡ b → IsTied l phases ps (kept_of (cond b (remaining (with_under n None r.cells) (with_under n None r.origins)) r)))
      [ true ↦ λ h. tied_taken n l phases ps (kept_of r) h t | false ↦ λ h. t ] refl

  tied_less_all : (ns : List ℕ) (r : Remains) → IsTied l phases ps (kept_of r) → IsTied l phases ps (kept_of (less_all ns r))
  tied_less_all [] r t = t
  tied_less_all (n ∷ ns) r t = tied_less_all ns (less_one n r) (tied_less_one n r t)

pub tied_drained : (c : ℕ) (l : ConnectionPhase) (phases : List (ℕ × ChannelPhase)) (ps : List Publish) (p : ConfirmState) → IsTied l phases ps p.publish_states → IsTied l phases ps (after_mark p (mark.Drained c)).publish_states
tied_drained c l phases ps p t = tied_less_all l phases ps p.publish_states.confirm_modes (over_aside c p) (remaining p.publish_states.cells p.origins) t

-- a channel is opened
pub tied_opened : (l : ConnectionPhase) (c : ℕ) (phases : List (ℕ × ChannelPhase)) (ps : List Publish) (p : ConfirmState) → is_up l ≡ true → IsTied l phases ps p.publish_states → IsTied l (with_channel c phase.Opening phases) ps (after_mark p (mark.Begun c)).publish_states
tied_opened l c phases ps p up t = tied_begun l c phases ps (renewed_on c p).publish_states up (tied_less_all l phases ps p.publish_states.confirm_modes (return_lists_at c p).aside (remaining p.publish_states.cells p.origins) t)

-- the same values
pub tied_by : (l k : ConnectionPhase) (s r : List (ℕ × ChannelPhase)) (p q : List Publish) (b d : PublishStates) → l ≡ k → s ≡ r → p ≡ q → b ≡ d → IsTied k r q d → IsTied l s p b
tied_by l k s r p q b d el es ep eb t =
    let L : ConnectionPhase → Type 0 = λ x. IsTied x s p b in
    let S : List (ℕ × ChannelPhase) → Type 0 = λ x. IsTied k x p b in
    let P : List Publish → Type 0 = λ x. IsTied k r x b in
    let B : PublishStates → Type 0 = λ x. IsTied k r q x in
    subst L (sym el) (subst S (sym es) (subst P (sym ep) (subst B (sym eb) t)))

-- ---- with the outbox

pub kept_by : (l k : ConnectionPhase) (s r : List (ℕ × ChannelPhase)) (o q : OutboxState) (b d : PublishStates) → l ≡ k → s ≡ r → o ≡ q → b ≡ d → IsTied k r q.lists.publishes d → NotPoisoned q → IsKept l s o b
kept_by l k s r o q b d el es eo eb t clean =
    let O : OutboxState → Type 0 = λ x. NotPoisoned x in
    record { tied = tied_by l k s r o.lists.publishes q.lists.publishes b d el es (ap (λ (x : OutboxState). x.lists.publishes) eo) eb t; unpoisoned = subst O (sym eo) clean }

-- a push on an outbox that is not poisoned is no poisoned one
pub clean : (c : ℕ) (o q : OutboxState) → o ≡ q → NotPoisoned q → poison_on c o ≡ None
clean c o q same n = ap (poison_on c) same ∙ rw (n.0, n.1) refl
