-- The confirm modes of confirms that follow a history follow the longer one.
use Rattle.std.proofs.Common.{◌≡◌, ℕ, ◌+◌, ◌==◌, Bool, true, false, cond, ◌||◌, ◌&&◌, List, [], ◌∷◌, ◌++◌, Option, Some, None, refl, sym, ◌∙◌, ap, subst, inl, inr, eq-eqb}
use Rattle.std.specs.List.{count_by, list_any}
use Rattle.std.specs.Option.{option_map}
use Rattle.std.proofs.Math.Bool.{or-true}
use Rattle.std.proofs.lemmas.Bool.Decides.{eqb_tells}
use Rattle.lapin_tables.specs.ByChannel.{at_channel, on_channel}
use Rattle.lapin_rules.specs.ConfirmMarks.{ConfirmMark}
use Rattle.lapin_rules.specs.ConfirmMarks as mark
use Rattle.lapin_rules.specs.Words.{after}
use Rattle.lapin_rules.specs.ConfirmReadings.{begins, turns, selects, asks, leaves_on, limit_after, opening, present, is_begun, is_selected, place, is_asked, last_limit, limit_of}
use Rattle.lapin_rules.proofs.ListLaws.{any-push, after-push, after_none, count-push, since-push}
use Rattle.lapin_rules.proofs.ConfirmLaws.{limit-push}
use Rattle.lapin_rules.proofs.ChannelLaws.{at-on, at-with}
use Rattle.lapin_tables.specs.Numbered.{under}
use Rattle.lapin_confirm.specs.PublishStates.{ConfirmModeState, fresh_confirm_mode, selected_confirm_mode, asked_confirm_mode, limited_confirm_mode, ended_confirm_mode, next_confirm_mode, tag_for, confirm_modes_with, is_resolved}
use Rattle.lapin_confirm.specs.ConfirmState.{ConfirmState}
use Rattle.lapin_confirm.specs.Aside.{kept_by, laid_by}
use Rattle.lapin_confirm.specs.Machine.{after_mark}
use Rattle.lapin_confirm.specs.Follows.{confirm_mode_in}

abbrev mode : Bool → ℕ → Bool → ℕ → ConfirmModeState
mode s n a l = record { selected = s; last = n; asked = a; limit = l }

-- what one more mark does to a confirm mode that is there
abbrev moved : ℕ → ConfirmMark → ConfirmModeState → ConfirmModeState
moved c m l = mode (l.selected || selects c m) (cond (l.selected && leaves_on c m) (l.last + 1) l.last) (cond (turns c m) false (l.asked || asks c m)) (cond (turns c m) 0 (limit_after c l.limit m))

-- and to the confirm mode of channel c
abbrev confirm_mode_after : ℕ → ConfirmMark → Option ConfirmModeState → Option ConfirmModeState
confirm_mode_after c m None = cond (begins c m) (Some fresh_confirm_mode) None
confirm_mode_after c m (Some l) = cond (begins c m) (Some fresh_confirm_mode) (Some (moved c m l))

pub selected-push : (c : ℕ) (ms : List ConfirmMark) (m : ConfirmMark) → begins c m ≡ false → is_begun c ms ≡ true → is_selected c (ms ++ m ∷ []) ≡ (is_selected c ms || selects c m)
selected-push c ms m old h = rw (since-push (begins c) ms m, old, h) (any-push (selects c) (opening c ms) m)

pub place-push : (c : ℕ) (ms : List ConfirmMark) (m : ConfirmMark) → begins c m ≡ false → is_begun c ms ≡ true → place c (ms ++ m ∷ []) ≡ cond (is_selected c ms && leaves_on c m) (place c ms + 1) (place c ms)
place-push c ms m old h =
    rw (since-push (begins c) ms m, old, h, after-push (selects c) (opening c ms) m)
    (elim (is_selected c ms) as (λ b. is_selected c ms ≡ b → count_by (leaves_on c) (cond b (after (selects c) (opening c ms) ++ m ∷ []) []) ≡ cond (b && leaves_on c m) (place c ms + 1) (place c ms)) [
      | true ↦ λ s. count-push (leaves_on c) (after (selects c) (opening c ms)) m
      | false ↦ λ s. ap (count_by (leaves_on c)) (sym (after_none (selects c) (opening c ms) s))
    ] refl)

-- a begin is a turn
turned : (c : ℕ) (m : ConfirmMark) → begins c m ≡ true → turns c m ≡ true
turned c (mark.Begun d) h = h
turned c _ h = cc

begun-turned : (c : ℕ) (ms : List ConfirmMark) → is_begun c ms ≡ true → list_any (turns c) ms ≡ true
begun-turned c [] h = cc
begun-turned c (m ∷ ms) h =
    elim (begins c m) as (λ b. begins c m ≡ b → (b || is_begun c ms) ≡ true → (turns c m || list_any (turns c) ms) ≡ true) [
      | true ↦ λ now h. rw (turned c m now) refl
      | false ↦ λ now h. rw (begun-turned c ms h) (or-true (turns c m))
    ] refl h

asked-push : (c : ℕ) (ms : List ConfirmMark) (m : ConfirmMark) → is_begun c ms ≡ true → is_asked c (ms ++ m ∷ []) ≡ cond (turns c m) false (is_asked c ms || asks c m)
asked-push c ms m h =
    rw (since-push (turns c) ms m, begun-turned c ms h)
    (elim (turns c m) as (λ b. list_any (asks c) (cond b [] (present c ms ++ m ∷ [])) ≡ cond b false (is_asked c ms || asks c m)) [ true ↦ refl | false ↦ any-push (asks c) (present c ms) m ])

limited-push : (c : ℕ) (ms : List ConfirmMark) (m : ConfirmMark) → is_begun c ms ≡ true → limit_of c (ms ++ m ∷ []) ≡ cond (turns c m) 0 (limit_after c (limit_of c ms) m)
limited-push c ms m h =
    rw (since-push (turns c) ms m, begun-turned c ms h)
    (elim (turns c m) as (λ b. last_limit c 0 (cond b [] (present c ms ++ m ∷ [])) ≡ cond b 0 (limit_after c (limit_of c ms) m)) [ true ↦ refl | false ↦ limit-push c 0 (present c ms) m ])

-- at a begin
begun_new : (c : ℕ) (ms : List ConfirmMark) (m : ConfirmMark) → begins c m ≡ true → confirm_mode_in c (ms ++ m ∷ []) ≡ Some fresh_confirm_mode
begun_new c ms m new = rw (any-push (begins c) ms m, new, or-true (is_begun c ms), since-push (begins c) ms m, new, since-push (turns c) ms m, turned c m new) refl

mode-push : (c : ℕ) (ms : List ConfirmMark) (m : ConfirmMark) → confirm_mode_in c (ms ++ m ∷ []) ≡ confirm_mode_after c m (confirm_mode_in c ms)
mode-push c ms m =
    elim (begins c m) as (λ n. begins c m ≡ n → confirm_mode_in c (ms ++ m ∷ []) ≡ confirm_mode_after c m (confirm_mode_in c ms)) [
      | true ↦ λ new. begun_new c ms m new ∙
          (elim (is_begun c ms) as (λ b. Some fresh_confirm_mode ≡ confirm_mode_after c m (cond b (Some (mode (is_selected c ms) (place c ms) (is_asked c ms) (limit_of c ms))) None)) [ true ↦ rw new refl | false ↦ rw new refl ])
      | false ↦ λ old.
          elim (is_begun c ms) as (λ b. is_begun c ms ≡ b → confirm_mode_in c (ms ++ m ∷ []) ≡ confirm_mode_after c m (cond b (Some (mode (is_selected c ms) (place c ms) (is_asked c ms) (limit_of c ms))) None)) [
            | true ↦ λ h. rw (any-push (begins c) ms m, h, selected-push c ms m old h, place-push c ms m old h, asked-push c ms m h, limited-push c ms m h, old) refl
            | false ↦ λ h. rw (any-push (begins c) ms m, h, old) refl
          ] refl
    ] refl

-- a mark that does nothing to channel d
pub record Quiet (d : ℕ) (m : ConfirmMark) : Type 0 where
  pub begins : begins d m ≡ false
  pub turns : turns d m ≡ false
  pub selects : selects d m ≡ false
  pub leaves : leaves_on d m ≡ false
  pub asks : asks d m ≡ false
  pub limit : (l : ℕ) → limit_after d l m ≡ l

still : (s a : Bool) (n l : ℕ) → mode s n a l ≡ mode (s || false) (cond (s && false) (n + 1) n) (a || false) l
still true true n l = refl
still true false n l = refl
still false true n l = refl
still false false n l = refl

same_confirm_mode : (d : ℕ) (m : ConfirmMark) (o : Option ConfirmModeState) → Quiet d m → o ≡ confirm_mode_after d m o
same_confirm_mode d m None q = rw q.begins refl
same_confirm_mode d m (Some x) q = rw (q.begins, q.turns, q.selects, q.leaves, q.asks, q.limit x.limit) (ap Some (still x.selected x.asked x.last x.limit))

left_confirm_mode : (c d k n q : ℕ) (s a : Bool) (ls : List (ℕ × ConfirmModeState)) → (c == d) ≡ true → at_channel d ls ≡ Some (mode s n a q) → at_channel d (confirm_modes_with c (tag_for (Some (mode s n a q))) ls) ≡ confirm_mode_after d (mark.Left c k) (Some (mode s n a q))
left_confirm_mode c d k n q true true ls e is = at-on c d next_confirm_mode ls ∙ rw (e, is) refl
left_confirm_mode c d k n q true false ls e is = at-on c d next_confirm_mode ls ∙ rw (e, is) refl
left_confirm_mode c d k n q false true ls e is = is
left_confirm_mode c d k n q false false ls e is = is

left_elsewhere : (c d : ℕ) (t : Option ℕ) (ls : List (ℕ × ConfirmModeState)) → (c == d) ≡ false → at_channel d (confirm_modes_with c t ls) ≡ at_channel d ls
left_elsewhere c d None ls e = refl
left_elsewhere c d (Some t) ls e = at-on c d next_confirm_mode ls ∙ rw e refl

-- a mark that changes the confirm mode of channel c by f and is quiet elsewhere
changed_confirm_mode : (c d : ℕ) (f : ConfirmModeState → ConfirmModeState) (m : ConfirmMark) (ls : List (ℕ × ConfirmModeState)) → begins d m ≡ false → ((c == d) ≡ false → Quiet d m) → ((c == d) ≡ true → (l : ConfirmModeState) → f l ≡ moved d m l) → at_channel d (on_channel c f ls) ≡ confirm_mode_after d m (at_channel d ls)
changed_confirm_mode c d f m ls old quiet does =
    at-on c d f ls ∙
    elim (c == d) as (λ e. (c == d) ≡ e → cond e (option_map f (at_channel d ls)) (at_channel d ls) ≡ confirm_mode_after d m (at_channel d ls)) [
      | true ↦ λ e. elim (at_channel d ls) as (λ o. option_map f o ≡ confirm_mode_after d m o) [ None ↦ rw old refl | Some l ↦ rw old (ap Some (does e l)) ]
      | false ↦ λ e. same_confirm_mode d m (at_channel d ls) (quiet e)
    ] refl

select_moves : (s a : Bool) (n l : ℕ) → mode true n a l ≡ mode (s || true) (cond (s && false) (n + 1) n) (a || false) l
select_moves true true n l = refl
select_moves true false n l = refl
select_moves false true n l = refl
select_moves false false n l = refl

ask_moves : (s a : Bool) (n l : ℕ) → mode s n true l ≡ mode (s || false) (cond (s && false) (n + 1) n) (a || true) l
ask_moves true true n l = refl
ask_moves true false n l = refl
ask_moves false true n l = refl
ask_moves false false n l = refl

end_moves : (s : Bool) (n : ℕ) → mode s n false 0 ≡ mode (s || false) (cond (s && false) (n + 1) n) false 0
end_moves true n = refl
end_moves false n = refl

-- each mark does to a confirm mode what the readings say
mode-step : (p : ConfirmState) (m : ConfirmMark) (d : ℕ) → at_channel d (after_mark p m).publish_states.confirm_modes ≡ confirm_mode_after d m (at_channel d p.publish_states.confirm_modes)
mode-step p (mark.Begun c) d =
    at-with c d fresh_confirm_mode p.publish_states.confirm_modes ∙
    elim (c == d) as (λ e. (c == d) ≡ e → cond e (Some fresh_confirm_mode) (at_channel d p.publish_states.confirm_modes) ≡ confirm_mode_after d (mark.Begun c) (at_channel d p.publish_states.confirm_modes)) [
      | true ↦ λ e. elim (at_channel d p.publish_states.confirm_modes) as (λ o. Some fresh_confirm_mode ≡ confirm_mode_after d (mark.Begun c) o) [ None ↦ rw e refl | Some l ↦ rw e refl ]
      | false ↦ λ e. same_confirm_mode d (mark.Begun c) (at_channel d p.publish_states.confirm_modes) (record { begins = e; turns = e; selects = refl; leaves = refl; asks = refl; limit = λ l. refl })
    ] refl
mode-step p (mark.SelectCalled c) d =
    changed_confirm_mode c d asked_confirm_mode (mark.SelectCalled c) p.publish_states.confirm_modes refl
    (λ e. record { begins = refl; turns = refl; selects = refl; leaves = refl; asks = e; limit = λ l. refl })
    (λ e l. rw e (ask_moves l.selected l.asked l.last l.limit))
mode-step p (mark.LimitSet c n) d =
    changed_confirm_mode c d (limited_confirm_mode n) (mark.LimitSet c n) p.publish_states.confirm_modes refl
    (λ e. record { begins = refl; turns = refl; selects = refl; leaves = refl; asks = refl; limit = λ l. rw e refl })
    (λ e l. rw e (still l.selected l.asked l.last n))
mode-step p (mark.SelectLeft c) d =
    changed_confirm_mode c d selected_confirm_mode (mark.SelectLeft c) p.publish_states.confirm_modes refl
    (λ e. record { begins = refl; turns = refl; selects = e; leaves = refl; asks = refl; limit = λ l. refl })
    (λ e l. rw e (select_moves l.selected l.asked l.last l.limit))
mode-step p (mark.Left c k) d =
    elim (eqb_tells c d) [
      | inl same ↦
          let P : ℕ → Type 0 = λ a. at_channel d (confirm_modes_with c (tag_for (at_channel a p.publish_states.confirm_modes)) p.publish_states.confirm_modes) ≡ confirm_mode_after d (mark.Left c k) (at_channel d p.publish_states.confirm_modes) in
          subst P (sym same.1)
          (elim (at_channel d p.publish_states.confirm_modes) as (λ o. at_channel d p.publish_states.confirm_modes ≡ o → at_channel d (confirm_modes_with c (tag_for o) p.publish_states.confirm_modes) ≡ confirm_mode_after d (mark.Left c k) o) [
            | None ↦ λ none. none
            | Some l ↦ λ is. left_confirm_mode c d k l.last l.limit l.selected l.asked p.publish_states.confirm_modes same.0 is
          ] refl)
      | inr other ↦ left_elsewhere c d (tag_for (at_channel c p.publish_states.confirm_modes)) p.publish_states.confirm_modes other.0 ∙ same_confirm_mode d (mark.Left c k) (at_channel d p.publish_states.confirm_modes) (record { begins = refl; turns = refl; selects = refl; leaves = other.0; asks = refl; limit = λ l. refl })
    ]
mode-step p (mark.Ended c e) d =
    changed_confirm_mode c d ended_confirm_mode (mark.Ended c e) p.publish_states.confirm_modes refl
    (λ e. record { begins = refl; turns = e; selects = refl; leaves = refl; asks = refl; limit = λ l. refl })
    (λ e l. rw e (end_moves l.selected l.last))
mode-step p (mark.Added c) d = same_confirm_mode d (mark.Added c) (at_channel d p.publish_states.confirm_modes) (record { begins = refl; turns = refl; selects = refl; leaves = refl; asks = refl; limit = λ l. refl })
mode-step p (mark.Settled c s) d = same_confirm_mode d (mark.Settled c s) (at_channel d p.publish_states.confirm_modes) (record { begins = refl; turns = refl; selects = refl; leaves = refl; asks = refl; limit = λ l. refl })
mode-step p (mark.Arrived c x) d = same_confirm_mode d (mark.Arrived c x) (at_channel d p.publish_states.confirm_modes) (record { begins = refl; turns = refl; selects = refl; leaves = refl; asks = refl; limit = λ l. refl })
mode-step p (mark.ClosedHere c e) d = same_confirm_mode d (mark.ClosedHere c e) (at_channel d p.publish_states.confirm_modes) (record { begins = refl; turns = refl; selects = refl; leaves = refl; asks = refl; limit = λ l. refl })
mode-step p (mark.Taken n) d = same_confirm_mode d (mark.Taken n) (at_channel d p.publish_states.confirm_modes) (record { begins = refl; turns = refl; selects = refl; leaves = refl; asks = refl; limit = λ l. refl })
mode-step p (mark.SetAside n) d =
    elim (is_resolved (under n p.publish_states.cells)) as (λ (b : Bool). at_channel d (cond b (kept_by n p) (laid_by n p)).publish_states.confirm_modes ≡ at_channel d p.publish_states.confirm_modes) [ true ↦ refl | false ↦ refl ]
    ∙ same_confirm_mode d (mark.SetAside n) (at_channel d p.publish_states.confirm_modes) (record { begins = refl; turns = refl; selects = refl; leaves = refl; asks = refl; limit = λ l. refl })
mode-step p (mark.Drained c) d = same_confirm_mode d (mark.Drained c) (at_channel d p.publish_states.confirm_modes) (record { begins = refl; turns = refl; selects = refl; leaves = refl; asks = refl; limit = λ l. refl })

pub mode-follows : (ms : List ConfirmMark) (p : ConfirmState) (m : ConfirmMark) → ((c : ℕ) → at_channel c p.publish_states.confirm_modes ≡ confirm_mode_in c ms) → (c : ℕ) → at_channel c (after_mark p m).publish_states.confirm_modes ≡ confirm_mode_in c (ms ++ m ∷ [])
mode-follows ms p m h c = mode-step p m c ∙ ap (confirm_mode_after c m) (h c) ∙ sym (mode-push c ms m)

-- the tag that a publish takes as it leaves
pub tag-push : (c k : ℕ) (ms : List ConfirmMark) → cond (is_selected c (ms ++ mark.Left c k ∷ [])) (Some (place c (ms ++ mark.Left c k ∷ []))) None ≡ tag_for (confirm_mode_in c ms)
tag-push c k ms =
    elim (is_begun c ms) as (λ b. is_begun c ms ≡ b → cond (is_selected c (ms ++ mark.Left c k ∷ [])) (Some (place c (ms ++ mark.Left c k ∷ []))) None ≡ tag_for (cond b (Some (mode (is_selected c ms) (place c ms) (is_asked c ms) (limit_of c ms))) None)) [
      | true ↦ λ h.
          let here : (c == c) ≡ true = eq-eqb c c refl in
          rw (selected-push c ms (mark.Left c k) refl h, place-push c ms (mark.Left c k) refl h, here)
          (elim (is_selected c ms) as (λ b. cond (b || false) (Some (cond (b && true) (place c ms + 1) (place c ms))) None ≡ cond b (Some (place c ms + 1)) None) [ true ↦ refl | false ↦ refl ])
      | false ↦ λ h. rw (since-push (begins c) ms (mark.Left c k), h) refl
    ] refl
