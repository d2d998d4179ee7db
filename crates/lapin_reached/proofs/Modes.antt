-- What a mark of confirms leaves of a channel's confirm mode: of its limit, and of whether its opening is selected.
use Rattle.std.proofs.Common.{◌≡◌, ◌∙◌, ℕ, ◌<◌, ◌≤◌, ◌==◌, ◌||◌, Bool, true, false, cond, List, [], ◌∷◌, Option, Some, None, ◌⊎◌, inl, inr, refl, sym, ap, subst, eq-eqb}
use Rattle.std.proofs.lemmas.Bool.Decides.{eqb_tells}
use Rattle.std.specs.List.{fold, list_any}
use Rattle.std.specs.Option.{option_map}
use Rattle.lapin_tables.specs.ByChannel.{at_channel, on_channel}
use Rattle.lapin_tables.specs.Numbered.{under}
use Rattle.lapin_types.specs.declared.Error.{Error}
use Rattle.lapin_rules.proofs.ChannelLaws.{at-on, at-with}
use Rattle.lapin_rules.specs.ConfirmMarks.{ConfirmMark}
use Rattle.lapin_rules.specs.ConfirmMarks as mark
use Rattle.lapin_rules.specs.Words.{is_some}
use Rattle.lapin_effects.specs.Effects.{moves}
use Rattle.lapin_confirm.specs.Aside.{put_aside, kept_by, laid_by}
use Rattle.lapin_confirm.specs.ConfirmState.{ConfirmState}
use Rattle.lapin_confirm.specs.Machine.{after_mark}
use Rattle.lapin_confirm.specs.PublishStates.{ConfirmModeState, fresh_confirm_mode, selected_confirm_mode, asked_confirm_mode, limited_confirm_mode, next_confirm_mode, ended_confirm_mode, confirm_modes_with, tag_for, is_resolved, selected_in, limit_in}
use Rattle.lapin_reached.proofs.Own.{any_parts}

abbrev pub mode_of : ℕ → ConfirmState → Option ConfirmModeState
mode_of c p = at_channel c p.publish_states.confirm_modes

-- its limit is at least 1 and at most this
abbrev pub Has : ℕ → Option ConfirmModeState → Type 0
Has most o = (0 < limit_in o) × (limit_in o ≤ most)

-- a limit that is set for channel c is one of 1 to `most`
abbrev pub Sets_within : ℕ → ℕ → ConfirmMark → Type 0
Sets_within most c (mark.LimitSet d n) = d ≡ c → (0 < n) × (n ≤ most)
Sets_within most c _ = Unit {0}

abbrev pub All_within : ℕ → ℕ → List ConfirmMark → Type 0
All_within most c [] = Unit {0}
All_within most c (m ∷ ms) = Sets_within most c m × All_within most c ms

-- the second has a limit and is there where the first has and is, and is as selected
pub record Alike (most : ℕ) (o o' : Option ConfirmModeState) : Type 0 where
  pub has : Has most o → Has most o'
  pub same : selected_in o' ≡ selected_in o
  pub there : is_some o ≡ true → is_some o' ≡ true

pub alike : (most : ℕ) (o o' : Option ConfirmModeState) → o' ≡ o → Alike most o o'
alike most o o' e = record { has = λ h. subst (Has most) (sym e) h; same = ap selected_in e; there = λ h. ap is_some e ∙ h }

then : (most : ℕ) (o p q : Option ConfirmModeState) → Alike most o p → Alike most p q → Alike most o q
then most o p q a b = record { has = λ h. b.has (a.has h); same = b.same ∙ a.same; there = λ h. b.there (a.there h) }

module _ (most c : ℕ) where
  -- a change of one channel's mode that is alike of each
  on_alike : (d : ℕ) (f : ConfirmModeState → ConfirmModeState) (es : List (ℕ × ConfirmModeState)) → (d ≡ c → (l : ConfirmModeState) → Alike most (Some l) (Some (f l))) → Alike most (at_channel c es) (at_channel c (on_channel d f es))
  on_alike d f es h = subst (Alike most (at_channel c es)) (sym (at-on d c f es)) (elim (eqb_tells d c) [
    | inl y ↦ rw y.0 (elim (at_channel c es) as (λ o. Alike most o (option_map f o)) [ None ↦ alike most None None refl | Some l ↦ h y.1 l ])
    | inr n ↦ rw n.0 (alike most (at_channel c es) (at_channel c es) refl)
  ])

  pub mark_alike : (p : ConfirmState) (m : ConfirmMark) → moves m ≡ false → Sets_within most c m → Alike most (mode_of c p) (mode_of c (after_mark p m))
  mark_alike p (mark.Begun d) h w = absurd cc
  mark_alike p (mark.Added d) h w = absurd cc
  mark_alike p (mark.SelectLeft d) h w = absurd cc
  mark_alike p (mark.Left d k) h w = absurd cc
  mark_alike p (mark.ClosedHere d e) h w = absurd cc
  mark_alike p (mark.Ended d e) h w = absurd cc
  mark_alike p (mark.SelectCalled d) h w = on_alike d asked_confirm_mode p.publish_states.confirm_modes (λ _ l. record { has = λ x. x; same = refl; there = λ x. x })
  mark_alike p (mark.LimitSet d n) h w = on_alike d (limited_confirm_mode n) p.publish_states.confirm_modes (λ e l. record { has = λ x. w e; same = refl; there = λ x. x })
  mark_alike p (mark.Settled d s) h w = alike most _ _ refl
  mark_alike p (mark.Arrived d m) h w = alike most _ _ refl
  mark_alike p (mark.Taken n) h w = alike most _ _ refl
  mark_alike p (mark.SetAside n) h w = elim (is_resolved (under n p.publish_states.cells)) as (λ b. Alike most (mode_of c p) (mode_of c (cond b (kept_by n p) (laid_by n p)))) [
    | true ↦ alike most _ _ refl
    | false ↦ alike most _ _ refl
  ]
  mark_alike p (mark.Drained d) h w = alike most _ _ refl

  pub marks_alike : (p : ConfirmState) (ms : List ConfirmMark) → list_any moves ms ≡ false → All_within most c ms → Alike most (mode_of c p) (mode_of c (fold after_mark p ms))
  marks_alike p [] h w = alike most _ _ refl
  marks_alike p (m ∷ ms) h w =
      let parts = any_parts (moves m) (list_any moves ms) h in
      then most _ _ _ (mark_alike p m parts.0 w.0) (marks_alike (after_mark p m) ms parts.1 w.1)

  -- ---- an opening begins or ends on another channel, or begins on this one

  pub begun_there : (d : ℕ) (p : ConfirmState) → (d == c) ≡ false → mode_of c (after_mark p (mark.Begun d)) ≡ mode_of c p
  begun_there d p off = at-with d c fresh_confirm_mode p.publish_states.confirm_modes ∙ rw off refl

  pub begun_here : (d : ℕ) (p : ConfirmState) → (d == c) ≡ true → mode_of c (after_mark p (mark.Begun d)) ≡ Some fresh_confirm_mode
  begun_here d p on = at-with d c fresh_confirm_mode p.publish_states.confirm_modes ∙ rw on refl

  pub ended_there : (d : ℕ) (e : Error) (p : ConfirmState) → (d == c) ≡ false → mode_of c (after_mark p (mark.Ended d e)) ≡ mode_of c p
  ended_there d e p off = at-on d c ended_confirm_mode p.publish_states.confirm_modes ∙ rw off refl

  -- a limit that is set on a channel with a confirm mode
  pub limit_set : (n : ℕ) (p : ConfirmState) → is_some (mode_of c p) ≡ true → limit_in (mode_of c (after_mark p (mark.LimitSet c n))) ≡ n
  limit_set n p h = ap limit_in (at-on c c (limited_confirm_mode n) p.publish_states.confirm_modes) ∙ rw (eq-eqb c c refl) (by (mode_of c p) h)
    where
      by : (o : Option ConfirmModeState) → is_some o ≡ true → limit_in (option_map (limited_confirm_mode n) o) ≡ n
      by None g = absurd cc
      by (Some l) g = refl

  -- ---- a frame leaves

  -- as `Alike`, but that it may be selected where this holds
  pub record Nearly (now : Bool) (o o' : Option ConfirmModeState) : Type 0 where
    pub has : Has most o → Has most o'
    pub selects : selected_in o' ≡ true → (selected_in o ≡ true) ⊎ (now ≡ true)
    pub there : is_some o ≡ true → is_some o' ≡ true

  pub nearly : (now : Bool) (o o' : Option ConfirmModeState) → Alike most o o' → Nearly now o o'
  nearly now o o' a = record { has = a.has; selects = λ h. inl (sym a.same ∙ h); there = a.there }

  pub select_leaves : (d : ℕ) (p : ConfirmState) → Nearly (d == c) (mode_of c p) (mode_of c (after_mark p (mark.SelectLeft d)))
  select_leaves d p = subst (Nearly (d == c) (mode_of c p)) (sym (at-on d c selected_confirm_mode p.publish_states.confirm_modes)) (elim (d == c) as (λ b. Nearly b (mode_of c p) (cond b (option_map selected_confirm_mode (mode_of c p)) (mode_of c p))) [
    | true ↦ elim (mode_of c p) as (λ o. Nearly true o (option_map selected_confirm_mode o)) [
      | None ↦ nearly true None None (alike most None None refl)
      | Some l ↦ record { has = λ x. x; selects = λ x. inr refl; there = λ x. x }
    ]
    | false ↦ nearly false _ _ (alike most _ _ refl)
  ])

  tagged : (d : ℕ) (o : Option ℕ) (es : List (ℕ × ConfirmModeState)) → Alike most (at_channel c es) (at_channel c (confirm_modes_with d o es))
  tagged d None es = alike most _ _ refl
  tagged d (Some t) es = on_alike d next_confirm_mode es (λ _ l. record { has = λ x. x; same = refl; there = λ x. x })

  pub publish_leaves : (d k : ℕ) (p : ConfirmState) → Alike most (mode_of c p) (mode_of c (after_mark p (mark.Left d k)))
  publish_leaves d k p = tagged d (tag_for (at_channel d p.publish_states.confirm_modes)) p.publish_states.confirm_modes
