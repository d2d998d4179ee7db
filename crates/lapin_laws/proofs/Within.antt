-- A channel's pending tags keep within its limit, since a publish begins only where its channel is not full.
use Rattle.std.proofs.Common.{◌≡◌, ℕ, zero, suc, ◌+◌, ◌≤◌, ◌<◌, ◌==◌, ◌&&◌, nat_lt, nat_le, Bool, true, false, cond, not, List, [], ◌∷◌, ◌++◌, Option, Some, None, refl, sym, ◌∙◌, ap, subst, arith, slice_set, eqb-true, lt-ltb, leb-false}
use Rattle.std.specs.List.{find, fold, list_any, count_by}
use Rattle.std.specs.Option.{option_map}
use Rattle.lapin_tables.specs.ByChannel.{at_channel}
use Rattle.lapin_tables.specs.Numbered.{with_under}
use Rattle.lapin_tables.proofs.Channels.{at-on_same}
use Rattle.lapin_tables.proofs.Counts.{count-cons}
use Rattle.lapin_types.specs.declared.event.Event.{Event}
use Rattle.lapin_types.specs.declared.event.Event.TheVariants as event
use Rattle.lapin_types.specs.declared.record.Record.{Record}
use Rattle.lapin_types.specs.declared.record.Record.TheVariants as record_
use Rattle.lapin_types.specs.declared.leaving.Publish.{Publish}
use Rattle.lapin_types.specs.Types.{Frame}
use Rattle.lapin_types.specs.Types.frame
use Rattle.lapin_rules.specs.ConfirmMarks.{ConfirmMark}
use Rattle.lapin_rules.specs.ConfirmReadings.{limit_of, is_full}
use Rattle.lapin_rules.specs.ConfirmReadings as read
use Rattle.lapin_rules.specs.Words.{without_first}
use Rattle.lapin_rules.specs.Frames.{MethodEntry, RestEntry, left_publish, publish_method}
use Rattle.lapin_rules.specs.Leaving.{may_begin, handed_of}
use Rattle.lapin_rules.specs.Flow.{is_paused_on, is_flowing, unless_full, begins_on}
use Rattle.lapin_rules.specs.Wire.{Wire}
use Rattle.lapin_rules.specs.Handing.{frame_record, handed_out, left_marks}
use Rattle.lapin_rules.specs.History.{History, Past, longer, past}
use Rattle.lapin_confirm.specs.declared.cell.Cell.{Cell}
use Rattle.lapin_confirm.specs.PublishStates.{PublishStates, ConfirmModeState, next_confirm_mode, tag_for, confirm_modes_with, cell_with, is_pending_on, selected_in, selected_on, limit_in, limit_on, full_on, pending_count, left}
use Rattle.lapin_confirm.specs.ConfirmState.{ConfirmState}
use Rattle.lapin_confirm.specs.Machine.{after_mark}
use Rattle.lapin_confirm.specs.Follows.{Follows}
use Rattle.lapin_confirm.proofs.Reading.{selected-read, limit-read, pending-reads, full-read}
use Rattle.lapin_machine.specs.Stands.{Stands}
use Rattle.lapin_machine.specs.World.{World, next, next_anew, told_by, told_anew, handing, full_in}
use Rattle.lapin_machine.proofs.Back.{given_none, told_none, next_none}
use Rattle.lapin_machine.proofs.Handed.{handing_told}
use Rattle.lapin_machine.proofs.Standing.{past-push}
use Rattle.lapin_laws.specs.Limits.{is_publish_on, IsWithinLimit, AreWithinLimit, is_free_in, history_of, told_behind, confirms_of, confirms_behind}
use Rattle.lapin_laws.specs.Runs.{world_after}
use Rattle.lapin_laws.specs.Unbroken.{is_method, is_publish}
use Rattle.lapin_laws.proofs.Alive.{IsRestAlive}
use Rattle.lapin_laws.proofs.Going.{handed_begun, next_publish}
use Rattle.lapin_laws.proofs.Kept.{run_sound, unreturned_after}
use Rattle.lapin_laws.proofs.Moving.{ArePlain, Sound}
use Rattle.lapin_laws.proofs.Places.{place_of}
use Rattle.lapin_laws.proofs.Traces.{stands_told, stands_next, stands_after}
use Rattle.std.proofs.lemmas.Bool.{and_parts}
use Rattle.lapin_confirm.proofs.Tags.{selected-begun}

-- ---- which publish begins

publish_leads : (f : Frame) → is_publish f ≡ true → is_method f ≡ true
publish_leads (frame.Method c m) h = refl
publish_leads (frame.Header c x) h = cc
publish_leads (frame.Body c bytes) h = cc

-- the request begins a publish of the channel: nothing else waits in front, and it may begin there
record Leads (t : ℕ → Bool) (c : ℕ) (b : Wire) : Type 0 where
  rest : b.rest ≡ []
  methods : b.methods ≡ []
  publish : Publish
  found : find (may_begin t) b.publishes ≡ Some publish
  on : publish.channel ≡ c
  may : t c ≡ true

module _ (n : ℕ) (t : ℕ → Bool) (c : ℕ) (b : Wire) (s : Sound n b) where
  leads_by : (rest : List RestEntry) (methods : List MethodEntry) → b.rest ≡ rest → b.methods ≡ methods → is_publish_on c (frame_record (handed_of t rest methods b.publishes)) ≡ true → Leads t c b
  leads_by (f ∷ fs) methods r m h =
      let alive : IsRestAlive b.link b.phases (f ∷ fs) = subst (IsRestAlive b.link b.phases) r s.rest in
      let no : true ≡ false = sym (publish_leads f.frame (and_parts (is_publish f.frame) _ h).0) ∙ alive.1 in
      absurd cc
  leads_by [] (x ∷ xs) r m h =
      let plain : ArePlain (x ∷ xs) = subst ArePlain m s.plain in
      let no : true ≡ false = sym (and_parts (is_publish (frame.Method x.channel x.method)) (x.channel == c) h).0 ∙ plain.0 in
      absurd cc
  leads_by [] [] r m h = by (find (may_begin t) b.publishes) refl h
    where
      by : (o : Option Publish) → find (may_begin t) b.publishes ≡ o → is_publish_on c (frame_record (option_map left_publish o)) ≡ true → Leads t c b
      by None e k = absurd cc
      by (Some p) e k =
          let on : p.channel ≡ c = eqb-true p.channel c k in
          record { rest = r; methods = m; publish = p; found = e; on = on; may = ap t (sym on) ∙ (place_of (may_begin t) p b.publishes e).passes }

  leads : is_publish_on c (frame_record (handed_out t b)) ≡ true → Leads t c b
  leads h = leads_by b.rest b.methods refl refl h

-- ---- a full channel begins none

not_full : (x y : Bool) → (x && not y) ≡ true → y ≡ false
not_full true true h = cc
not_full true false h = refl
not_full false y h = cc

-- where a publish of the channel begins, it is not full
begun_free : (n : ℕ) (flow : Bool) (c : ℕ) (w : World) → Sound n w.wire → is_publish_on c (told_anew w (event.Next flow)) ≡ true → full_in w.confirm_state c ≡ false
begun_free n flow c w s h = not_full (is_flowing flow w.wire) (full_in w.confirm_state c) (leads n (begins_on flow (full_in w.confirm_state) w.wire) c w.wire s h).may

held_back : (n : ℕ) (flow : Bool) (c : ℕ) (w : World) → Sound n w.wire → full_in w.confirm_state c ≡ true → is_publish_on c (told_anew w (event.Next flow)) ≡ false
held_back n flow c w s full = elim (is_publish_on c (told_anew w (event.Next flow))) as (λ t. is_publish_on c (told_anew w (event.Next flow)) ≡ t → t ≡ false) [
  | true ↦ λ h. let no : true ≡ false = sym full ∙ begun_free n flow c w s h in absurd cc
  | false ↦ λ h. refl
] refl

-- ---- its leaving adds one pending tag at most

at_most_one : (b : Bool) → ◌≤◌ (cond b 1 0) 1
at_most_one true = omega arith
at_most_one false = omega arith

module _ {X : Type 0} (p : X → Bool) where
  count_set : (i : ℕ) (o : X) (xs : List X) → count_by p (slice_set xs i o) ≤ count_by p xs + 1
  count_set i o [] = omega arith
  count_set zero o (x ∷ xs) = let one : ◌≤◌ (cond (p o) 1 0) 1 = at_most_one (p o) in omega (arith, count-cons p o xs, count-cons p x xs, one)
  count_set (suc i) o (x ∷ xs) = let rest : count_by p (slice_set xs i o) ≤ count_by p xs + 1 = count_set i o xs in omega (arith, count-cons p x (slice_set xs i o), count-cons p x xs, rest)

count_written : (p : Option Cell → Bool) (n : ℕ) (o : Option Cell) (cells : List (Option Cell)) → count_by p (with_under n o cells) ≤ count_by p cells + 1
count_written p zero o cells = omega arith
count_written p (suc i) o cells = count_set p i o cells

-- and changes neither the limit nor the selection
same_confirm_mode : {A : Type 0} (f : Option ConfirmModeState → A) (c : ℕ) (t : Option ℕ) (ls : List (ℕ × ConfirmModeState)) → ((o : Option ConfirmModeState) → f (option_map next_confirm_mode o) ≡ f o) → f (at_channel c (confirm_modes_with c t ls)) ≡ f (at_channel c ls)
same_confirm_mode f c None ls same = refl
same_confirm_mode f c (Some t) ls same = ap f (at-on_same c next_confirm_mode ls) ∙ same (at_channel c ls)

next_limit : (o : Option ConfirmModeState) → limit_in (option_map next_confirm_mode o) ≡ limit_in o
next_limit None = refl
next_limit (Some l) = refl

next_selected : (o : Option ConfirmModeState) → selected_in (option_map next_confirm_mode o) ≡ selected_in o
next_selected None = refl
next_selected (Some l) = refl

room_left : (s : Bool) (l n : ℕ) → (s && (nat_lt 0 l && nat_le l n)) ≡ false → s ≡ true → 0 < l → n < l
room_left false l n none on above = cc
room_left true l n none on above = let positive : nat_lt 0 l ≡ true = lt-ltb 0 l above in leb-false l n (rw positive at none)

left_within : (c n : ℕ) (k : PublishStates) → full_on c k ≡ false → IsWithinLimit c (left c n k)
left_within c n k free on above =
    let t : Option ℕ = tag_for (at_channel c k.confirm_modes) in
    let limit : limit_on c (left c n k) ≡ limit_on c k = same_confirm_mode limit_in c t k.confirm_modes next_limit in
    let selected : selected_on c (left c n k) ≡ selected_on c k = same_confirm_mode selected_in c t k.confirm_modes next_selected in
    let before : 0 < limit_on c k = subst (λ l. 0 < l) limit above in
    let room : pending_count c k < limit_on c k = room_left (selected_on c k) (limit_on c k) (pending_count c k) free (sym selected ∙ on) before in
    let more : pending_count c (left c n k) ≤ pending_count c k + 1 = count_written (is_pending_on c) n (Some (cell_with c t)) k.cells in
    omega (arith, limit, room, more)

-- the publish states after the frame request
begun_publish_states : (t : ℕ → Bool) (c : ℕ) (w : World) (l : Leads t c w.wire) → (handing t w).confirm_state.publish_states ≡ left c l.publish.confirm w.confirm_state.publish_states
begun_publish_states t c w l =
    let out : handed_out t w.wire ≡ Some (left_publish l.publish) = handed_begun t w.wire l.rest l.methods ∙ ap (option_map left_publish) l.found in
    ap (λ o. (fold after_mark w.confirm_state (left_marks o)).publish_states) out ∙ ap (λ d. left d l.publish.confirm w.confirm_state.publish_states) l.on

within_anew : (n : ℕ) (flow : Bool) (c : ℕ) (w : World) → Sound n w.wire → is_publish_on c (told_anew w (event.Next flow)) ≡ true → IsWithinLimit c (next_anew w (event.Next flow)).confirm_state.publish_states
within_anew n flow c w s h =
    let t : ℕ → Bool = begins_on flow (full_in w.confirm_state) w.wire in
    let l : Leads t c w.wire = leads n t c w.wire s h in
    let publish_states : (next_anew w (event.Next flow)).confirm_state.publish_states ≡ left c l.publish.confirm w.confirm_state.publish_states = ap (λ (v : World). v.confirm_state.publish_states) (handing_told flow w) ∙ begun_publish_states t c w l in
    subst (IsWithinLimit c) (sym publish_states) (left_within c l.publish.confirm w.confirm_state.publish_states (begun_free n flow c w s h))

-- ---- every list of events

pub within_after : (n : ℕ) (es : List Event) (flow : Bool) (c : ℕ) → is_publish_on c (told_by (world_after n es) (event.Next flow)) ≡ true → IsWithinLimit c (next (world_after n es) (event.Next flow)).confirm_state.publish_states
within_after n es flow c h =
    let w : World = world_after n es in
    let e : Event = event.Next flow in
    let none : w.returned ≡ None = unreturned_after n es in
    let P : World → Type 0 = λ v. IsWithinLimit c v.confirm_state.publish_states in
    subst P (sym (next_none w e none)) (within_anew n flow c w (run_sound n es) (ap (is_publish_on c) (sym (told_none w e none)) ∙ h))

pub full_begins_none : (n : ℕ) (es : List Event) (flow : Bool) (c : ℕ) → full_in (world_after n es).confirm_state c ≡ true → is_publish_on c (told_by (world_after n es) (event.Next flow)) ≡ false
full_begins_none n es flow c full = ap (is_publish_on c) (told_none (world_after n es) (event.Next flow) (unreturned_after n es)) ∙ held_back n flow c (world_after n es) (run_sound n es) full

-- ---- the same of the history

shown_within : (c : ℕ) (ms : List ConfirmMark) (p : ConfirmState) → Follows ms p → IsWithinLimit c p.publish_states → AreWithinLimit c ms
shown_within c ms p f within on above =
    let limit : limit_on c p.publish_states ≡ limit_of c ms = limit-read c ms p f (selected-begun c ms on) in
    let before : 0 < limit_on c p.publish_states = subst (λ l. 0 < l) (sym limit) above in
    let most : pending_count c p.publish_states ≤ limit_on c p.publish_states = within (selected-read c ms p f ∙ on) before in
    let count : pending_count c p.publish_states ≡ read.pending_count c ms = pending-reads c ms p f in
    omega (arith, limit, most, count)

told_run : (n : ℕ) (es : List Event) (flow : Bool) → told_by (world_after n es) (event.Next flow) ≡ told_behind n es (event.Next flow)
told_run n es flow =
    let w : World = world_after n es in
    stands_told n (history_of n es) w (event.Next flow) (given_none w.returned (event.Next flow) (unreturned_after n es)) (stands_after n es)

pub shown_after : (n : ℕ) (es : List Event) (flow : Bool) (c : ℕ) → is_publish_on c (told_behind n es (event.Next flow)) ≡ true → AreWithinLimit c (confirms_behind n es (event.Next flow))
shown_after n es flow c h =
    let w : World = world_after n es in
    let e : Event = event.Next flow in
    let h' : History = history_of n es in
    let told : told_by w e ≡ told_behind n es e = told_run n es flow in
    let stands : Stands n (h' ++ (e, told_by w e) ∷ []) (next w e) = stands_next n h' w e (given_none w.returned e (unreturned_after n es)) (stands_after n es) in
    let within : IsWithinLimit c (next w e).confirm_state.publish_states = within_after n es flow c (ap (is_publish_on c) told ∙ h) in
    let here : AreWithinLimit c (past n (h' ++ (e, told_by w e) ∷ [])).confirms = shown_within c _ (next w e).confirm_state stands.confirms.confirm_state within in
    let P : Past → Type 0 = λ q. AreWithinLimit c q.confirms in
    let Q : Record → Type 0 = λ r. P (longer (past n h') e r) in
    subst Q told (subst P (past-push _ h' e (told_by w e)) here)

pub full_shown : (n : ℕ) (es : List Event) (flow : Bool) (c : ℕ) → is_full c (confirms_of n es) ≡ true → is_publish_on c (told_behind n es (event.Next flow)) ≡ false
full_shown n es flow c full =
    let stands : Stands n (history_of n es) (world_after n es) = stands_after n es in
    ap (is_publish_on c) (sym (told_run n es flow)) ∙ full_begins_none n es flow c (full-read c (confirms_of n es) (world_after n es).confirm_state stands.confirms.confirm_state ∙ full)

-- ---- a channel that is not full

-- where publishes may begin but for full channels
abbrev frees : World → Bool → ℕ → Bool
frees w paused = unless_full (true && not paused) (full_in w.confirm_state)

module _ (w : World) (p : Publish) (rest : w.wire.rest ≡ []) (methods : w.wire.methods ≡ []) (flowing : list_any is_paused_on w.wire.phases ≡ false) (first : find (is_free_in w.confirm_state) w.wire.publishes ≡ Some p) where
  found_free : find (may_begin (begins_on true (full_in w.confirm_state) w.wire)) w.wire.publishes ≡ Some p
  found_free = ap (λ paused. find (may_begin (frees w paused)) w.wire.publishes) flowing ∙ first

  begins_anew : told_anew w (event.Next true) ≡ record_.Frame (frame.Method p.channel (publish_method p))
  begins_anew = ap frame_record (handed_begun (begins_on true (full_in w.confirm_state) w.wire) w.wire rest methods ∙ ap (option_map left_publish) found_free)

  stays_anew : (next_anew w (event.Next true)).wire.publishes ≡ without_first (is_free_in w.confirm_state) w.wire.publishes
  stays_anew =
      ap (λ (v : World). v.wire.publishes) (handing_told true w)
      ∙ ap (λ (b : Wire). b.publishes) (next_publish (begins_on true (full_in w.confirm_state) w.wire) w.wire p rest methods found_free)
      ∙ ap (λ paused. without_first (may_begin (frees w paused)) w.wire.publishes) flowing

  pub begins_free : w.returned ≡ None → told_by w (event.Next true) ≡ record_.Frame (frame.Method p.channel (publish_method p))
  begins_free none = told_none w (event.Next true) none ∙ begins_anew

  pub stays_free : w.returned ≡ None → (next w (event.Next true)).wire.publishes ≡ without_first (is_free_in w.confirm_state) w.wire.publishes
  stays_free none = ap (λ (v : World). v.wire.publishes) (next_none w (event.Next true) none) ∙ stays_anew
