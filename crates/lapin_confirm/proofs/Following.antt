-- Confirms that follow a history follow the longer one after the machine's step.
use Rattle.std.proofs.Common.{◌≡◌, ◌≢◌, ℕ, suc, ◌+◌, ◌<◌, ◌≤◌, ◌==◌, Bool, true, false, not, cond, ◌||◌, ◌&&◌, List, [], ◌∷◌, ◌++◌, map, length, Option, Some, None, refl, sym, ◌∙◌, ap, subst, arith, inl, inr, eq-eqb, ne_eqb}
use Rattle.std.specs.Option.{option_map}
use Rattle.std.proofs.Math.Bool.{or-true}
use Rattle.std.proofs.lemmas.List.{length-map, length_push}
use Rattle.std.proofs.lemmas.Bool.Decides.{eqb_tells}
use Rattle.lapin_tables.specs.ByChannel.{at_channel}
use Rattle.lapin_tables.specs.Numbered.{under, with_under}
use Rattle.lapin_tables.proofs.SlotLaws.{length-with, under-map, under-last}
use Rattle.lapin_rules.specs.ConfirmMarks.{ConfirmMark}
use Rattle.lapin_rules.specs.ConfirmMarks as mark
use Rattle.lapin_rules.specs.ConfirmReadings.{adds, leaves, lays, is_aside, channel_of, added, covers, outcome_of, is_finished}
use Rattle.lapin_rules.specs.ReturnReadings.{is_done, is_gone, goes}
use Rattle.lapin_rules.proofs.ListLaws.{or_false}
use Rattle.lapin_rules.proofs.ConfirmLaws.{added-push, accepted-push}
use Rattle.lapin_rules.proofs.ReturnLaws.{gone-push}
use Rattle.lapin_confirm.specs.declared.cell.Cell.{Cell}
use Rattle.lapin_confirm.specs.declared.cell.Cell.TheVariants as cell
use Rattle.lapin_confirm.specs.declared.origin.Origin.{Origin}
use Rattle.lapin_confirm.specs.PublishStates.{tag_for, cell_with, settled_cell, closed_cell, ended_cell, is_resolved}
use Rattle.lapin_confirm.specs.ConfirmState.{ConfirmState, new_origin, return_lists_at}
use Rattle.lapin_confirm.specs.Aside.{kept_by, laid_by, put_aside, marked}
use Rattle.lapin_confirm.specs.Drain.{remaining, is_over, over_aside}
use Rattle.lapin_confirm.specs.Machine.{after_mark}
use Rattle.lapin_confirm.specs.Follows.{Follows, MayCome, cell_in, origin_in, open_cell}
use Rattle.lapin_confirm.proofs.ConfirmModeFollowing.{mode-follows}
use Rattle.lapin_confirm.proofs.CellFollowing.{stood, cell-step, origin-step, open-step, cell-left, cell-added, origin-added, aside-push}
use Rattle.lapin_confirm.proofs.AsideFollowing.{stands, stands-filter}
use Rattle.lapin_confirm.proofs.Facts.{facts, came-push, unfinished, unfinished-kept}
use Rattle.lapin_confirm.proofs.Asides.{length-marked}
use Rattle.lapin_confirm.proofs.Remaining.{under-written, under-old, leaves_off, cells-less, origins-less, count-less, places-less}
use Rattle.lapin_confirm.proofs.ReturnFollowing.{returned_by_channel-push, return_lists-after}
use Rattle.lapin_confirm.proofs.Reading.{resolved_open, origin-there, done-read}
use Rattle.std.proofs.lemmas.Bool.{false_from_ne_true}

-- ---- a mark that changes nothing of a publish

same-cell : (ms : List ConfirmMark) (p : ConfirmState) (m : ConfirmMark) → Follows ms p → (k : ℕ) → k < added ms → leaves (suc k) m ≡ false → goes (suc k) ms m ≡ false → stood m (cell_in (suc k) ms) ≡ cell_in (suc k) ms → under (suc k) p.publish_states.cells ≡ cell_in (suc k) (ms ++ m ∷ [])
same-cell ms p m f k lt away kept same = f.cells k lt ∙ sym same ∙ sym (cell-step k ms m lt away kept)

same-origin : (ms : List ConfirmMark) (p : ConfirmState) (m : ConfirmMark) → Follows ms p → (k : ℕ) → k < added ms → lays (suc k) m ≡ false → goes (suc k) ms m ≡ false → under (suc k) p.origins ≡ origin_in (suc k) (ms ++ m ∷ [])
same-origin ms p m f k lt unlaid kept = f.origins k lt ∙ sym (origin-step k ms m lt unlaid kept)

-- ---- one that writes under one number

write-cell : (ms : List ConfirmMark) (p : ConfirmState) (m : ConfirmMark) → Follows ms p → (n k : ℕ) (o : Option Cell) → k < added ms
    → (n ≡ suc k → cell_in (suc k) (ms ++ m ∷ []) ≡ o)
    → (n ≢ suc k → (leaves (suc k) m ≡ false) × (goes (suc k) ms m ≡ false) × (stood m (cell_in (suc k) ms) ≡ cell_in (suc k) ms))
    → under (suc k) (with_under n o p.publish_states.cells) ≡ cell_in (suc k) (ms ++ m ∷ [])
write-cell ms p m f n k o lt here there =
    let count : length p.publish_states.cells ≡ added ms = f.count in
    under-written n k o p.publish_states.cells (omega arith)
    ∙ elim (eqb_tells n (suc k)) [
      | inl same ↦ rw same.0 (sym (here same.1))
      | inr other ↦ let away = there other.1 in rw other.0 (same-cell ms p m f k lt away.0 away.1 away.2)
    ]

write-origin : (ms : List ConfirmMark) (p : ConfirmState) (m : ConfirmMark) → Follows ms p → (n k : ℕ) (o : Option Origin) → k < added ms
    → (n ≡ suc k → origin_in (suc k) (ms ++ m ∷ []) ≡ o)
    → (n ≢ suc k → (lays (suc k) m ≡ false) × (goes (suc k) ms m ≡ false))
    → under (suc k) (with_under n o p.origins) ≡ origin_in (suc k) (ms ++ m ∷ [])
write-origin ms p m f n k o lt here there =
    let count : length p.origins ≡ added ms = f.places in
    under-written n k o p.origins (omega arith)
    ∙ elim (eqb_tells n (suc k)) [
      | inl same ↦ rw same.0 (sym (here same.1))
      | inr other ↦ let away = there other.1 in rw other.0 (same-origin ms p m f k lt away.0 away.1)
    ]

-- of what goes nothing is kept
gone-cell : (k : ℕ) (ms : List ConfirmMark) (m : ConfirmMark) → goes (suc k) ms m ≡ true → cell_in (suc k) (ms ++ m ∷ []) ≡ None
gone-cell k ms m now = rw (gone-push (suc k) ms m, now, or-true (is_gone (suc k) ms)) refl

gone-origin : (k : ℕ) (ms : List ConfirmMark) (m : ConfirmMark) → goes (suc k) ms m ≡ true → origin_in (suc k) (ms ++ m ∷ []) ≡ None
gone-origin k ms m now = rw (gone-push (suc k) ms m, now, or-true (is_gone (suc k) ms)) refl

mapped-cell : (ms : List ConfirmMark) (p : ConfirmState) (m : ConfirmMark) (g : Cell → Cell) → Follows ms p → (k : ℕ) → k < added ms → leaves (suc k) m ≡ false → goes (suc k) ms m ≡ false → stood m (cell_in (suc k) ms) ≡ option_map g (cell_in (suc k) ms) → under (suc k) (map (option_map g) p.publish_states.cells) ≡ cell_in (suc k) (ms ++ m ∷ [])
mapped-cell ms p m g f k lt away kept same = under-map g (suc k) p.publish_states.cells ∙ ap (option_map g) (f.cells k lt) ∙ sym same ∙ sym (cell-step k ms m lt away kept)

-- ---- one that lets go those that stand aside and are resolved

-- which of them: those that go by the history
swept : {X : Type 0} (x a g d r : Bool) (o : X) → r ≡ d → cond ((x && (a && not g)) && cond g false r) None (cond g None (Some o)) ≡ cond (g || (x && (a && d))) None (Some o)
swept true true true d r o e = refl
swept true false true d r o e = refl
swept false a true d r o e = refl
swept true true false d r o e = rw e refl
swept true false false d r o e = refl
swept false a false d r o e = refl

over-in : (k : ℕ) (ms : List ConfirmMark) → is_resolved (cell_in (suc k) ms) ≡ cond (is_gone (suc k) ms) false (is_done ms (suc k))
over-in k ms = elim (is_gone (suc k) ms) as (λ (b : Bool). is_resolved (cond b None (Some (open_cell (suc k) ms))) ≡ cond b false (is_done ms (suc k))) [ true ↦ refl | false ↦ resolved_open (suc k) ms ]

-- what is let go with those that stand aside on channel c, by cells and return lists that follow
off-same : (c k : ℕ) (ms : List ConfirmMark) (p : ConfirmState) → Follows ms p → k < added ms → leaves_off (suc k) (return_lists_at c p).aside (remaining p.publish_states.cells p.origins) ≡ ((channel_of (suc k) ms == c && (is_aside (suc k) ms && not (is_gone (suc k) ms))) && cond (is_gone (suc k) ms) false (is_done ms (suc k)))
off-same c k ms p f lt =
    let who : stands (suc k) (return_lists_at c p).aside ≡ (channel_of (suc k) ms == c && (is_aside (suc k) ms && not (is_gone (suc k) ms))) = ap (λ l. stands (suc k) l.aside) (f.return_lists c) ∙ (facts ms f.came).aside c (suc k) in
    let over : is_over p.publish_states.cells (suc k) ≡ cond (is_gone (suc k) ms) false (is_done ms (suc k)) = ap is_resolved (f.cells k lt) ∙ over-in k ms in
    rw (who, over) refl

-- a mark by which those go
abbrev Sweeps : ℕ → ConfirmMark → Type 0
Sweeps c m = (n : ℕ) (ms : List ConfirmMark) → (leaves n m ≡ false) × (lays n m ≡ false) × (goes n ms m ≡ (channel_of n ms == c && (is_aside n ms && is_done ms n))) × ((o : Option Cell) → stood m o ≡ o)

swept-cell : (c k : ℕ) (ms : List ConfirmMark) (p : ConfirmState) (m : ConfirmMark) → Follows ms p → k < added ms → Sweeps c m → cond (leaves_off (suc k) (return_lists_at c p).aside (remaining p.publish_states.cells p.origins)) None (under (suc k) p.publish_states.cells) ≡ cell_in (suc k) (ms ++ m ∷ [])
swept-cell c k ms p m f lt sweeps =
    let is = sweeps (suc k) ms in
    let still : Some (open_cell (suc k) (ms ++ m ∷ [])) ≡ Some (open_cell (suc k) ms) = open-step k ms m lt is.0 ∙ is.3 (Some (open_cell (suc k) ms)) in
    rw (off-same c k ms p f lt, f.cells k lt)
    (swept (channel_of (suc k) ms == c) (is_aside (suc k) ms) (is_gone (suc k) ms) (is_done ms (suc k)) (is_done ms (suc k)) (open_cell (suc k) ms) refl
    ∙ ap (λ (b : Bool). cond b None (Some (open_cell (suc k) ms))) (sym (gone-push (suc k) ms m ∙ ap (λ (b : Bool). is_gone (suc k) ms || b) is.2))
    ∙ ap (λ o. cond (is_gone (suc k) (ms ++ m ∷ [])) None o) (sym still))

swept-origin : (c k : ℕ) (ms : List ConfirmMark) (p : ConfirmState) (m : ConfirmMark) → Follows ms p → k < added ms → Sweeps c m → cond (leaves_off (suc k) (return_lists_at c p).aside (remaining p.publish_states.cells p.origins)) None (under (suc k) p.origins) ≡ origin_in (suc k) (ms ++ m ∷ [])
swept-origin c k ms p m f lt sweeps =
    let is = sweeps (suc k) ms in
    let origin : Origin = record { channel = channel_of (suc k) ms; aside = is_aside (suc k) ms } in
    rw (off-same c k ms p f lt, f.origins k lt)
    (swept (channel_of (suc k) ms == c) (is_aside (suc k) ms) (is_gone (suc k) ms) (is_done ms (suc k)) (is_done ms (suc k)) origin refl
    ∙ rw (gone-push (suc k) ms m, is.2, accepted-push k ms m lt, aside-push (suc k) ms m, is.1, or_false (is_aside (suc k) ms)) refl)

drain-sweeps : (c : ℕ) → Sweeps c (mark.Drained c)
drain-sweeps c n ms = (refl, refl, refl, λ o. refl)

begin-sweeps : (c : ℕ) → Sweeps c (mark.Begun c)
begin-sweeps c n ms = (refl, refl, refl, λ o. refl)

-- a drain looks at those alone that are resolved
over-off : (c n : ℕ) (p : ConfirmState) → leaves_off n (over_aside c p) (remaining p.publish_states.cells p.origins) ≡ leaves_off n (return_lists_at c p).aside (remaining p.publish_states.cells p.origins)
over-off c n p = ap (λ (b : Bool). b && is_over p.publish_states.cells n) (stands-filter (is_over p.publish_states.cells) n (return_lists_at c p).aside) ∙ twice (stands n (return_lists_at c p).aside) (is_over p.publish_states.cells n)
  where
    twice : (a b : Bool) → ((a && b) && b) ≡ (a && b)
    twice true true = refl
    twice true false = refl
    twice false b = refl

-- a publish that is not accepted yet is not gone, and was not set aside
new-unfinished : (k : ℕ) (ms : List ConfirmMark) (p : ConfirmState) → Follows ms p → k ≡ added ms → is_finished (suc k) ms ≡ false
new-unfinished k ms p f last = false_from_ne_true (is_finished (suc k) ms) (λ h. let known = (facts ms f.came).known (suc k) h in let within : suc k ≤ added ms = known.1 in absurd (omega arith))

new-kept : (k : ℕ) (ms : List ConfirmMark) (p : ConfirmState) → Follows ms p → k ≡ added ms → is_gone (suc k) ms ≡ false
new-kept k ms p f last = unfinished-kept (suc k) ms (facts ms f.came) (new-unfinished k ms p f last)

new-unlaid : (k : ℕ) (ms : List ConfirmMark) (p : ConfirmState) → Follows ms p → k ≡ added ms → is_aside (suc k) ms ≡ false
new-unlaid k ms p f last = unfinished (suc k) ms (new-unfinished k ms p f last)

-- one that is set aside unresolved does not go
unresolved : (n k : ℕ) (ms : List ConfirmMark) → is_done ms n ≡ false → (n == suc k && is_done ms (suc k)) ≡ false
unresolved n k ms undone =
    elim (eqb_tells n (suc k)) [
      | inl same ↦ let P : ℕ → Type 0 = λ i. is_done ms i ≡ false in rw same.0 (subst P same.1 undone)
      | inr other ↦ rw other.0 refl
    ]

laid-origin : (n k : ℕ) (ms : List ConfirmMark) → n ≡ suc k → k < added ms → is_gone n ms ≡ false → (n == suc k && is_done ms (suc k)) ≡ false → origin_in (suc k) (ms ++ mark.SetAside n ∷ []) ≡ Some (record { channel = channel_of n ms; aside = true })
laid-origin n k ms same lt kept stays =
    let P : ℕ → Type 0 = λ i. is_gone i ms ≡ false in
    let here : (n == suc k) ≡ true = eq-eqb n (suc k) same in
    rw (gone-push (suc k) ms (mark.SetAside n), subst P same kept, stays, accepted-push k ms (mark.SetAside n) lt, aside-push (suc k) ms (mark.SetAside n), here, or-true (is_aside (suc k) ms))
    (ap (λ i. Some (record { channel = channel_of i ms; aside = true })) (sym same))

-- ---- the cells after a mark

cells-follow : (ms : List ConfirmMark) (p : ConfirmState) (m : ConfirmMark) → Follows ms p → MayCome ms m → (k : ℕ) → k < added (ms ++ m ∷ []) → under (suc k) (after_mark p m).publish_states.cells ≡ cell_in (suc k) (ms ++ m ∷ [])
cells-follow ms p (mark.Added c) f may k lt =
    let more : k < added ms + 1 = rw (added-push ms (mark.Added c)) at lt in
    let count : length p.publish_states.cells ≡ added ms = f.count in
    elim (eqb_tells k (added ms)) [
      | inl last ↦ under-last (suc k) (Some (cell.Queued c)) p.publish_states.cells (let at : k ≡ added ms = last.1 in omega arith) ∙ sym (cell-added c k ms last.1 ((facts ms f.came).unleft k (let at : k ≡ added ms = last.1 in omega arith)) (new-kept k ms p f last.1))
      | inr other ↦
          let old : k < added ms = omega arith in
          under-old k (Some (cell.Queued c)) p.publish_states.cells (omega arith) ∙ same-cell ms p (mark.Added c) f k old refl refl refl
    ]
cells-follow ms p (mark.Left c n) f may k lt =
    let below : k < added ms = rw (added-push ms (mark.Left c n)) at lt in
    let Q : ℕ → Type 0 = λ i. cell_in i ms ≡ Some (cell.Queued c) in
    write-cell ms p (mark.Left c n) f n k (Some (cell_with c (tag_for (at_channel c p.publish_states.confirm_modes)))) below
    (λ e.
    let P : ℕ → Type 0 = λ i. cell_in (suc k) (ms ++ mark.Left c i ∷ []) ≡ Some (cell_with c (tag_for (at_channel c p.publish_states.confirm_modes))) in
    subst P (sym e) (cell-left c k ms below (subst Q e may.1) ∙ ap (λ o. Some (cell_with c (tag_for o))) (sym (f.confirm_modes c))))
    (λ apart. (ne_eqb n (suc k) apart, refl, refl))
cells-follow ms p (mark.Settled c s) f may k lt = mapped-cell ms p (mark.Settled c s) (settled_cell c (covers s) (outcome_of s)) f k (rw (added-push ms (mark.Settled c s)) at lt) refl refl refl
cells-follow ms p (mark.ClosedHere c e) f may k lt = mapped-cell ms p (mark.ClosedHere c e) (closed_cell c e) f k (rw (added-push ms (mark.ClosedHere c e)) at lt) refl refl refl
cells-follow ms p (mark.Ended c e) f may k lt = mapped-cell ms p (mark.Ended c e) (ended_cell c e) f k (rw (added-push ms (mark.Ended c e)) at lt) refl refl refl
cells-follow ms p (mark.Taken n) f may k lt =
    let below : k < added ms = rw (added-push ms (mark.Taken n)) at lt in
    write-cell ms p (mark.Taken n) f n k None below
    (λ e. gone-cell k ms (mark.Taken n) (eq-eqb n (suc k) e))
    (λ apart. (refl, ne_eqb n (suc k) apart, refl))
cells-follow ms p (mark.SetAside n) f may k lt =
    let below : k < added ms = rw (added-push ms (mark.SetAside n)) at lt in
    let kept : is_gone n ms ≡ false = unfinished-kept n ms (facts ms f.came) may.1 in
    let done : is_resolved (under n p.publish_states.cells) ≡ is_done ms n = done-read n ms p f may.0 kept in
    elim (is_resolved (under n p.publish_states.cells)) as (λ (b : Bool). b ≡ is_done ms n → under (suc k) (cond b (kept_by n p) (laid_by n p)).publish_states.cells ≡ cell_in (suc k) (ms ++ mark.SetAside n ∷ [])) [
      | true ↦ λ over.
          let P : ℕ → Type 0 = λ i. is_done ms i ≡ true in
          write-cell ms p (mark.SetAside n) f n k None below
          (λ e. gone-cell k ms (mark.SetAside n) (rw (eq-eqb n (suc k) e) (subst P e (sym over))))
          (λ apart. (refl, rw (ne_eqb n (suc k) apart) refl, refl))
      | false ↦ λ waits. same-cell ms p (mark.SetAside n) f k below refl (unresolved n k ms (sym waits)) refl
    ] done
cells-follow ms p (mark.Drained c) f may k lt =
    cells-less (suc k) (over_aside c p) (remaining p.publish_states.cells p.origins)
    ∙ ap (λ (b : Bool). cond b None (under (suc k) p.publish_states.cells)) (over-off c (suc k) p)
    ∙ swept-cell c k ms p (mark.Drained c) f (rw (added-push ms (mark.Drained c)) at lt) (drain-sweeps c)
cells-follow ms p (mark.Begun c) f may k lt =
    cells-less (suc k) (return_lists_at c p).aside (remaining p.publish_states.cells p.origins)
    ∙ swept-cell c k ms p (mark.Begun c) f (rw (added-push ms (mark.Begun c)) at lt) (begin-sweeps c)
cells-follow ms p (mark.SelectCalled c) f may k lt = same-cell ms p (mark.SelectCalled c) f k (rw (added-push ms (mark.SelectCalled c)) at lt) refl refl refl
cells-follow ms p (mark.LimitSet c n) f may k lt = same-cell ms p (mark.LimitSet c n) f k (rw (added-push ms (mark.LimitSet c n)) at lt) refl refl refl
cells-follow ms p (mark.SelectLeft c) f may k lt = same-cell ms p (mark.SelectLeft c) f k (rw (added-push ms (mark.SelectLeft c)) at lt) refl refl refl
cells-follow ms p (mark.Arrived c x) f may k lt = same-cell ms p (mark.Arrived c x) f k (rw (added-push ms (mark.Arrived c x)) at lt) refl refl refl

-- ---- and the origins

origins-follow : (ms : List ConfirmMark) (p : ConfirmState) (m : ConfirmMark) → Follows ms p → MayCome ms m → (k : ℕ) → k < added (ms ++ m ∷ []) → under (suc k) (after_mark p m).origins ≡ origin_in (suc k) (ms ++ m ∷ [])
origins-follow ms p (mark.Added c) f may k lt =
    let more : k < added ms + 1 = rw (added-push ms (mark.Added c)) at lt in
    let count : length p.origins ≡ added ms = f.places in
    elim (eqb_tells k (added ms)) [
      | inl last ↦ under-last (suc k) (Some (new_origin c)) p.origins (let at : k ≡ added ms = last.1 in omega arith) ∙ sym (origin-added c k ms last.1 (new-unlaid k ms p f last.1) (new-kept k ms p f last.1))
      | inr other ↦
          let old : k < added ms = omega arith in
          under-old k (Some (new_origin c)) p.origins (omega arith) ∙ same-origin ms p (mark.Added c) f k old refl refl
    ]
origins-follow ms p (mark.Taken n) f may k lt =
    let below : k < added ms = rw (added-push ms (mark.Taken n)) at lt in
    write-origin ms p (mark.Taken n) f n k None below
    (λ e. gone-origin k ms (mark.Taken n) (eq-eqb n (suc k) e))
    (λ apart. (refl, ne_eqb n (suc k) apart))
origins-follow ms p (mark.SetAside n) f may k lt =
    let below : k < added ms = rw (added-push ms (mark.SetAside n)) at lt in
    let kept : is_gone n ms ≡ false = unfinished-kept n ms (facts ms f.came) may.1 in
    let done : is_resolved (under n p.publish_states.cells) ≡ is_done ms n = done-read n ms p f may.0 kept in
    let there : under n p.origins ≡ Some (record { channel = channel_of n ms; aside = is_aside n ms }) = origin-there n ms p f may.0 kept in
    elim (is_resolved (under n p.publish_states.cells)) as (λ (b : Bool). b ≡ is_done ms n → under (suc k) (cond b (kept_by n p) (laid_by n p)).origins ≡ origin_in (suc k) (ms ++ mark.SetAside n ∷ [])) [
      | true ↦ λ over.
          let P : ℕ → Type 0 = λ i. is_done ms i ≡ true in
          write-origin ms p (mark.SetAside n) f n k None below
          (λ e. gone-origin k ms (mark.SetAside n) (rw (eq-eqb n (suc k) e) (subst P e (sym over))))
          (λ apart. (ne_eqb n (suc k) apart, rw (ne_eqb n (suc k) apart) refl))
      | false ↦ λ waits.
          ap (λ o. under (suc k) (marked n o p.origins)) there
          ∙ write-origin ms p (mark.SetAside n) f n k (Some (record { channel = channel_of n ms; aside = true })) below
          (λ e. laid-origin n k ms e below kept (unresolved n k ms (sym waits)))
          (λ apart. (ne_eqb n (suc k) apart, rw (ne_eqb n (suc k) apart) refl))
    ] done
origins-follow ms p (mark.Drained c) f may k lt =
    origins-less (suc k) (over_aside c p) (remaining p.publish_states.cells p.origins)
    ∙ ap (λ (b : Bool). cond b None (under (suc k) p.origins)) (over-off c (suc k) p)
    ∙ swept-origin c k ms p (mark.Drained c) f (rw (added-push ms (mark.Drained c)) at lt) (drain-sweeps c)
origins-follow ms p (mark.Begun c) f may k lt =
    origins-less (suc k) (return_lists_at c p).aside (remaining p.publish_states.cells p.origins)
    ∙ swept-origin c k ms p (mark.Begun c) f (rw (added-push ms (mark.Begun c)) at lt) (begin-sweeps c)
origins-follow ms p (mark.Left c n) f may k lt = same-origin ms p (mark.Left c n) f k (rw (added-push ms (mark.Left c n)) at lt) refl refl
origins-follow ms p (mark.Settled c s) f may k lt = same-origin ms p (mark.Settled c s) f k (rw (added-push ms (mark.Settled c s)) at lt) refl refl
origins-follow ms p (mark.ClosedHere c e) f may k lt = same-origin ms p (mark.ClosedHere c e) f k (rw (added-push ms (mark.ClosedHere c e)) at lt) refl refl
origins-follow ms p (mark.Ended c e) f may k lt = same-origin ms p (mark.Ended c e) f k (rw (added-push ms (mark.Ended c e)) at lt) refl refl
origins-follow ms p (mark.SelectCalled c) f may k lt = same-origin ms p (mark.SelectCalled c) f k (rw (added-push ms (mark.SelectCalled c)) at lt) refl refl
origins-follow ms p (mark.LimitSet c n) f may k lt = same-origin ms p (mark.LimitSet c n) f k (rw (added-push ms (mark.LimitSet c n)) at lt) refl refl
origins-follow ms p (mark.SelectLeft c) f may k lt = same-origin ms p (mark.SelectLeft c) f k (rw (added-push ms (mark.SelectLeft c)) at lt) refl refl
origins-follow ms p (mark.Arrived c x) f may k lt = same-origin ms p (mark.Arrived c x) f k (rw (added-push ms (mark.Arrived c x)) at lt) refl refl

-- ---- how many there are

put-count : (n : ℕ) (p : ConfirmState) → (length (put_aside n p).publish_states.cells ≡ length p.publish_states.cells) × (length (put_aside n p).origins ≡ length p.origins)
put-count n p =
    elim (is_resolved (under n p.publish_states.cells)) as (λ (b : Bool). (length (cond b (kept_by n p) (laid_by n p)).publish_states.cells ≡ length p.publish_states.cells) × (length (cond b (kept_by n p) (laid_by n p)).origins ≡ length p.origins)) [
      | true ↦ (length-with n None p.publish_states.cells, length-with n None p.origins)
      | false ↦ (refl, length-marked n (under n p.origins) p.origins)
    ]

-- each mark but an acceptance leaves both counts
counts-stay : (p : ConfirmState) (m : ConfirmMark) → adds m ≡ false → (length (after_mark p m).publish_states.cells ≡ length p.publish_states.cells) × (length (after_mark p m).origins ≡ length p.origins)
counts-stay p (mark.Added c) other = cc
counts-stay p (mark.Left c n) other = (length-with n _ p.publish_states.cells, refl)
counts-stay p (mark.Settled c s) other = (length-map p.publish_states.cells (option_map (settled_cell c (covers s) (outcome_of s))), refl)
counts-stay p (mark.ClosedHere c e) other = (length-map p.publish_states.cells (option_map (closed_cell c e)), refl)
counts-stay p (mark.Ended c e) other = (length-map p.publish_states.cells (option_map (ended_cell c e)), refl)
counts-stay p (mark.Taken n) other = (length-with n None p.publish_states.cells, length-with n None p.origins)
counts-stay p (mark.SetAside n) other = put-count n p
counts-stay p (mark.Drained c) other = (count-less (over_aside c p) (remaining p.publish_states.cells p.origins), places-less (over_aside c p) (remaining p.publish_states.cells p.origins))
counts-stay p (mark.Begun c) other = (count-less (return_lists_at c p).aside (remaining p.publish_states.cells p.origins), places-less (return_lists_at c p).aside (remaining p.publish_states.cells p.origins))
counts-stay p (mark.SelectCalled c) other = (refl, refl)
counts-stay p (mark.LimitSet c n) other = (refl, refl)
counts-stay p (mark.SelectLeft c) other = (refl, refl)
counts-stay p (mark.Arrived c x) other = (refl, refl)

counts-grow : (p : ConfirmState) (m : ConfirmMark) → adds m ≡ true → (length (after_mark p m).publish_states.cells ≡ length p.publish_states.cells + 1) × (length (after_mark p m).origins ≡ length p.origins + 1)
counts-grow p (mark.Added c) new = (length_push p.publish_states.cells (Some (cell.Queued c)), length_push p.origins (Some (new_origin c)))
counts-grow p _ new = cc

counts-follow : (ms : List ConfirmMark) (p : ConfirmState) (m : ConfirmMark) → Follows ms p → (length (after_mark p m).publish_states.cells ≡ added (ms ++ m ∷ [])) × (length (after_mark p m).origins ≡ added (ms ++ m ∷ []))
counts-follow ms p m f =
    elim (adds m) as (λ b. adds m ≡ b → (length (after_mark p m).publish_states.cells ≡ added (ms ++ m ∷ [])) × (length (after_mark p m).origins ≡ added (ms ++ m ∷ []))) [
      | true ↦ λ new. let grow = counts-grow p m new in rw (added-push ms m, new) (grow.0 ∙ ap (λ (n : ℕ). n + 1) f.count, grow.1 ∙ ap (λ (n : ℕ). n + 1) f.places)
      | false ↦ λ other. let stay = counts-stay p m other in rw (added-push ms m, other) (stay.0 ∙ f.count, stay.1 ∙ f.places)
    ] refl

-- confirms that follow a history follow it one mark further
pub follows-push : (ms : List ConfirmMark) (p : ConfirmState) (m : ConfirmMark) → Follows ms p → MayCome ms m → Follows (ms ++ m ∷ []) (after_mark p m)
follows-push ms p m f may = record {
  came = came-push ms m f.came may;
  confirm_modes = mode-follows ms p m f.confirm_modes;
  count = (counts-follow ms p m f).0;
  cells = cells-follow ms p m f may;
  places = (counts-follow ms p m f).1;
  origins = origins-follow ms p m f may;
  returned_by_channel = returned_by_channel-push ms p m f;
  return_lists = return_lists-after ms p m f may;
}
