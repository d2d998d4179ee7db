-- At most the limit is pending in every state.
use Rattle.std.proofs.Common.{◌≡◌, ℕ, zero, suc, ◌+◌, ◌≤◌, ◌<◌, ◌==◌, ◌&&◌, nat_lt, nat_le, Bool, true, false, cond, not, List, [], ◌∷◌, ◌++◌, Option, Some, None, refl, sym, ◌∙◌, ap, subst, arith, slice_set, inl, inr, lt-ltb, leb-false}
use Rattle.std.proofs.lemmas.Bool.Decides.{eqb_tells}
use Rattle.std.proofs.lemmas.List.Sums.{fold-append}
use Rattle.std.specs.List.{find, fold, list_any, count_by}
use Rattle.std.specs.Option.{option_map}
use Rattle.std.specs.Coded.{le_prop}
use Rattle.std.proofs.Math.Logic.{∥∥₁_map, ∥∥₁_elim}
use Rattle.lapin_tables.specs.ByChannel.{at_channel}
use Rattle.lapin_tables.specs.Numbered.{with_under}
use Rattle.lapin_tables.proofs.Counts.{count-cons}
use Rattle.lapin_types.specs.declared.event.Event.{Event}
use Rattle.lapin_types.specs.declared.event.Event.TheVariants as event
use Rattle.lapin_types.specs.declared.leaving.Publish.{Publish}
use Rattle.lapin_types.specs.declared.leaving.Left.{Left}
use Rattle.lapin_types.specs.declared.outcome.Outcome.TheVariants as outcome
use Rattle.lapin_rules.specs.ConfirmMarks.{ConfirmMark}
use Rattle.lapin_rules.specs.ConfirmMarks as mark
use Rattle.lapin_rules.specs.Events.{confirm_marks}
use Rattle.lapin_rules.specs.Flow.{is_flowing, begins_on}
use Rattle.lapin_rules.specs.Frames.{MethodEntry, RestEntry, left_publish}
use Rattle.lapin_rules.specs.Handing.{left_marks}
use Rattle.lapin_rules.specs.Leaving.{may_begin, handed_of}
use Rattle.lapin_rules.specs.Select.{is_select}
use Rattle.lapin_rules.specs.Wire.{Wire}
use Rattle.lapin_confirm.specs.declared.cell.Cell.{Cell}
use Rattle.lapin_confirm.specs.declared.cell.Cell.TheVariants as cell
use Rattle.lapin_confirm.specs.ConfirmState.{ConfirmState}
use Rattle.lapin_confirm.specs.Machine.{after_mark}
use Rattle.lapin_confirm.specs.PublishStates.{PublishStates, ConfirmModeState, tag_for, cell_with, is_pending_on, selected_in, selected_on, limit_on, full_on, pending_count, left}
use Rattle.lapin_machine.specs.Tied.{is_live_on}
use Rattle.lapin_machine.specs.World.{World, new_world, next, next_anew, told_anew, handing, full_in}
use Rattle.lapin_machine.proofs.Back.{next_none, still_none}
use Rattle.lapin_machine.proofs.Handed.{handing_told, may_begin_found}
use Rattle.lapin_laws.specs.Runs.{world_after}
use Rattle.lapin_laws.proofs.Alive.{Alive, AreAlive}
use Rattle.lapin_laws.proofs.Kept.{Kept, kept-next, run_kept, unreturned_after}
use Rattle.lapin_laws.proofs.Moving.{Sound}
use Rattle.lapin_laws.proofs.Places.{alive_begun}
use Rattle.lapin_reached.specs.Reached.{IsReached, HasLimit, IsLimited, AreLimited, WasLimited, IsBounded, pending_on}
use Rattle.lapin_effects.specs.Effects.{is_next}
use Rattle.lapin_reached.proofs.Fewer.{pending_in, le-self, marks_fewer, count-unwritten}
use Rattle.lapin_reached.proofs.Own.{is_left, is_call, chosen, event_unleft}

-- ---- one cell more

module _ {X : Type 0} (p : X → Bool) where
  at_most_one : (b : Bool) → ◌≤◌ (cond b 1 0) 1
  at_most_one true = omega arith
  at_most_one false = omega arith

  count_set : (i : ℕ) (o : X) (xs : List X) → count_by p (slice_set xs i o) ≤ count_by p xs + 1
  count_set i o [] = omega arith
  count_set zero o (x ∷ xs) = let one : ◌≤◌ (cond (p o) 1 0) 1 = at_most_one (p o) in omega (arith, count-cons p o xs, count-cons p x xs, one)
  count_set (suc i) o (x ∷ xs) = let rest : count_by p (slice_set xs i o) ≤ count_by p xs + 1 = count_set i o xs in omega (arith, count-cons p x (slice_set xs i o), count-cons p x xs, rest)

count_written : (p : Option Cell → Bool) (n : ℕ) (o : Option Cell) (cells : List (Option Cell)) → count_by p (with_under n o cells) ≤ count_by p cells + 1
count_written p zero o cells = omega arith
count_written p (suc i) o cells = count_set p i o cells

-- ---- a publish leaves

room_left : (s : Bool) (l n : ℕ) → (s && (nat_lt 0 l && nat_le l n)) ≡ false → s ≡ true → 0 < l → n < l
room_left false l n none on above = absurd cc
room_left true l n none on above = let positive : nat_lt 0 l ≡ true = lt-ltb 0 l above in leb-false l n (rw positive at none)

-- one that leaves on another channel
elsewhere : (c d : ℕ) (o : Option ℕ) → (d == c) ≡ false → is_pending_on c (Some (cell_with d o)) ≡ false
elsewhere c d None h = refl
elsewhere c d (Some t) h = h

-- one that leaves before the selection
untagged : (o : Option ConfirmModeState) → selected_in o ≡ false → tag_for o ≡ None
untagged None h = refl
untagged (Some l) h = rw h refl

module _ (most c n : ℕ) (k : PublishStates) (within : pending_count c k ≤ most) where
  left_elsewhere : (d : ℕ) → (d == c) ≡ false → pending_count c (left d n k) ≤ most
  left_elsewhere d h =
      let fewer : pending_count c (left d n k) ≤ pending_count c k = count-unwritten (is_pending_on c) n (Some (cell_with d (tag_for (at_channel d k.confirm_modes)))) k.cells (elsewhere c d (tag_for (at_channel d k.confirm_modes)) h) in
      omega (arith, fewer, within)

  left_unselected : selected_on c k ≡ false → pending_count c (left c n k) ≤ most
  left_unselected h =
      let none : is_pending_on c (Some (cell_with c (tag_for (at_channel c k.confirm_modes)))) ≡ false = ap (λ o. is_pending_on c (Some (cell_with c o))) (untagged (at_channel c k.confirm_modes) h) in
      let fewer : pending_count c (left c n k) ≤ pending_count c k = count-unwritten (is_pending_on c) n (Some (cell_with c (tag_for (at_channel c k.confirm_modes)))) k.cells none in
      omega (arith, fewer, within)

  left_selected : selected_on c k ≡ true → full_on c k ≡ false → 0 < limit_on c k → limit_on c k ≤ most → pending_count c (left c n k) ≤ most
  left_selected on free above below =
      let room : pending_count c k < limit_on c k = room_left (selected_on c k) (limit_on c k) (pending_count c k) free on above in
      let more : pending_count c (left c n k) ≤ pending_count c k + 1 = count_written (is_pending_on c) n (Some (cell_with c (tag_for (at_channel c k.confirm_modes)))) k.cells in
      omega (arith, room, below, more)

not_full : (x y : Bool) → (x && not y) ≡ true → y ≡ false
not_full true true h = absurd cc
not_full true false h = refl
not_full false y h = absurd cc

-- ---- a frame request

module _ (n most c : ℕ) (flow : Bool) (w : World) (s : Sound n w.wire) (limited : IsLimited most c w) (within : pending_in c w.confirm_state ≤ most) where
  abbrev t : ℕ → Bool
  t = begins_on flow (full_in w.confirm_state) w.wire

  begins : (p : Publish) → find (may_begin t) w.wire.publishes ≡ Some p → pending_in c (after_mark w.confirm_state (mark.Left p.channel p.confirm)) ≤ most
  begins p found = elim (eqb_tells p.channel c) [
    | inl y ↦
        let k : PublishStates = w.confirm_state.publish_states in
        let free : full_on c k ≡ false = not_full (is_flowing flow w.wire) (full_on c k) (ap t (sym y.1) ∙ may_begin_found t w.wire.publishes p found) in
        let alive : Alive w.wire.link w.wire.phases p.channel = (alive_begun (may_begin t) w.wire.link w.wire.phases w.wire.publishes p found s.publishes).0 in
        let live : is_live_on w.wire.link (at_channel c w.wire.phases) ≡ true = subst (λ d. is_live_on w.wire.link (at_channel d w.wire.phases) ≡ true) y.1 (rw (alive.0, alive.1) refl) in
        let here : pending_count c (left c p.confirm k) ≤ most =
        elim (selected_on c k) as (λ b. selected_on c k ≡ b → pending_count c (left c p.confirm k) ≤ most) [
          | true ↦ λ on. let h = limited live on in left_selected most c p.confirm k within on free h.some h.below
          | false ↦ λ off. left_unselected most c p.confirm k within off
        ] refl in
        subst (λ d. pending_count c (left d p.confirm k) ≤ most) (sym y.1) here
    | inr o ↦ left_elsewhere most c p.confirm w.confirm_state.publish_states within p.channel o.0
  ]

  by_found : (o : Option Publish) → find (may_begin t) w.wire.publishes ≡ o → pending_in c (fold after_mark w.confirm_state (left_marks (option_map left_publish o))) ≤ most
  by_found None e = within
  by_found (Some p) e = begins p e

  by_lists : (rest : List RestEntry) (methods : List MethodEntry) → pending_in c (fold after_mark w.confirm_state (left_marks (handed_of t rest methods w.wire.publishes))) ≤ most
  by_lists (f ∷ fs) methods = within
  by_lists [] (m ∷ ms) =
      let fewer : pending_in c (fold after_mark w.confirm_state (cond (is_select m.method) (mark.SelectLeft m.channel ∷ []) [])) ≤ pending_in c w.confirm_state = marks_fewer c w.confirm_state (cond (is_select m.method) (mark.SelectLeft m.channel ∷ []) []) (chosen is_left (is_select m.method) (mark.SelectLeft m.channel ∷ []) refl) in
      omega (arith, fewer, within)
  by_lists [] [] = by_found (find (may_begin t) w.wire.publishes) refl

  pub requested : pending_on c (next_anew w (event.Next flow)) ≤ most
  requested = subst (λ v. pending_on c v ≤ most) (sym (handing_told flow w)) (by_lists w.wire.rest w.wire.methods)

-- ---- every event

module _ (n most c : ℕ) where
  any_event : (w : World) (e : Event) → Sound n w.wire → IsLimited most c w → pending_on c w ≤ most → (t : Bool) → is_next e ≡ t → pending_on c (next_anew w e) ≤ most
  any_event w (event.Next flow) s l h t is = requested n most c flow w s l h
  any_event w e s l h true is = by e is
    where
      by : (f : Event) → is_next f ≡ true → pending_on c (next_anew w f) ≤ most
      by (event.Next flow) g = requested n most c flow w s l h
      by _ g = absurd cc
  any_event w e s l h false is =
      let fewer : pending_on c (next_anew w e) ≤ pending_on c w = marks_fewer c w.confirm_state (confirm_marks w.wire e (told_anew w e)) (event_unleft w.wire e (told_anew w e) is (is_call e) refl) in
      omega (arith, fewer, h)

  one_event : (w : World) (e : Event) → Sound n w.wire → w.returned ≡ None → IsLimited most c w → pending_on c w ≤ most → pending_on c (next w e) ≤ most
  one_event w e s none l h = subst (λ v. pending_on c v ≤ most) (sym (next_none w e none)) (any_event w e s l h (is_next e) refl)

  from : (w : World) (es : List Event) → Kept n w.wire → w.returned ≡ None → AreLimited most c w es → pending_on c w ≤ most → pending_on c (fold next w es) ≤ most
  from w [] k none l h = h
  from w (e ∷ es) k none l h = from (next w e) es (kept-next n w e k) (still_none w e none) l.1 (one_event w e k.sound none l.0 h)

  pub always : (es : List Event) → AreLimited most c (new_world n) es → pending_on c (world_after n es) ≤ most
  always es l = from (new_world n) es (run_kept n []) refl l (omega arith)

-- ---- step by step

pub reached_next : (n : ℕ) (w : World) (e : Event) → IsReached n w → IsReached n (next w e)
reached_next n w e r = record { events = r.events ++ e ∷ []; is = ap (λ v. next v e) r.is ∙ sym (fold-append next (new_world n) r.events (e ∷ [])) }

limited_push : (most c : ℕ) (w : World) (es : List Event) (e : Event) → AreLimited most c w es → IsLimited most c (next (fold next w es) e) → AreLimited most c w (es ++ e ∷ [])
limited_push most c w [] e l h = (l, h)
limited_push most c w (x ∷ es) e l h = (l.0, limited_push most c (next w x) es e l.1 h)

pub was_new : (n most c : ℕ) → WasLimited most c (new_world n)
was_new n most c = record { frame_max = n; events = []; is = refl; limited = λ live on. let no_ : false ≡ true = live in absurd cc }

pub was_next : (most c : ℕ) (w : World) (e : Event) → WasLimited most c w → IsLimited most c (next w e) → WasLimited most c (next w e)
was_next most c w e b h = record {
  frame_max = b.frame_max;
  events = b.events ++ e ∷ [];
  is = ap (λ v. next v e) b.is ∙ sym (fold-append next (new_world b.frame_max) b.events (e ∷ []));
  limited = limited_push most c (new_world b.frame_max) b.events e b.limited (subst (λ v. IsLimited most c (next v e)) b.is h);
}

pub was_bound : (most c : ℕ) (w : World) → WasLimited most c w → pending_on c w ≤ most
was_bound most c w b = subst (λ v. pending_on c v ≤ most) (sym b.is) (always b.frame_max most c b.events b.limited)

pub bounded_new : (n most c : ℕ) → IsBounded most c (new_world n)
bounded_new n most c = ∣ was_new n most c ∣₁

pub bounded_next : (most c : ℕ) (w : World) (e : Event) → IsBounded most c w → IsLimited most c (next w e) → IsBounded most c (next w e)
bounded_next most c w e b h = ∥∥₁_map b (λ x. was_next most c w e x h)

pub bounded_bound : (most c : ℕ) (w : World) → IsBounded most c w → pending_on c w ≤ most
bounded_bound most c w b = ∥∥₁_elim b le_prop (λ x. was_bound most c w x)
