-- The set of full channels, as one channel's confirm mode changes.
use Rattle.std.proofs.Common.{◌≡◌, ◌≢◌, ℕ, ◌<◌, ◌≤◌, nat_lt, nat_le, Bool, true, false, ◌&&◌, cond, List, Option, Some, None, MatchOption, refl, sym, ◌∙◌, ap, subst, arith, inl, inr}
use Rattle.std.specs.Option.{option_map}
use Rattle.std.specs.List.{count_by}
use Rattle.std.proofs.lemmas.Bool.Decides.{eqb_tells}
use Rattle.lapin_tables.specs.ByChannel.{at_channel, on_channel}
use Rattle.lapin_tables.proofs.Channels.{at-on_same, at-on_other}
use Rattle.lapin_rules.specs.Words.{with_channel}
use Rattle.lapin_rules.proofs.ChannelLaws.{at-with}
use Rattle.lapin_full.specs.ChannelSet.{is_in, reach}
use Rattle.lapin_full.specs.FullChannels.{AllFull, IsFirstOpen}
use Rattle.lapin_confirm.specs.declared.cell.Cell.{Cell}
use Rattle.lapin_confirm.specs.declared.confirm_mode.ConfirmMode.{ConfirmMode}
use Rattle.lapin_confirm.specs.PublishStates.{ConfirmModeState, is_pending_on, selected_in, limit_in, full_on}
use Rattle.lapin_confirm.specs.Ties.{AllTied, Tied, confirm_mode_state, confirm_mode_states, confirm_mode_after}
use Rattle.lapin_confirm.specs.FullSet.{is_full_mode, full_in, ShowsAt, ShowsFull, Shown}
use Rattle.lapin_confirm.proofs.ConfirmModes.{mode-at, publish_states}
use Rattle.lapin_confirm.proofs.Whole.{tied-of}
use Rattle.lapin_confirm.proofs.Roomy.{each-on}

-- a channel with a confirm mode has its bit
pub has-place : (c : ℕ) (l : ConfirmMode) (full : List ℕ) (es : List (ℕ × ConfirmMode)) → at_channel c es ≡ Some l → ShowsFull full es → c < reach full
has-place c l full es is all = (all c).placed (rw is refl)

-- without a limit no channel is full
pub not-limited : (l : ConfirmMode) → l.limit ≡ 0 → is_full_mode l ≡ false
not-limited l none = ap (λ (n : ℕ). l.selected && (nat_lt 0 n && nat_le n l.pending)) none ∙ never l.selected
  where
    never : (b : Bool) → (b && (nat_lt 0 0 && nat_le 0 l.pending)) ≡ false
    never true = refl
    never false = refl

pub unlimited : (c : ℕ) (l k : ConfirmMode) (full : List ℕ) (es : List (ℕ × ConfirmMode)) → at_channel c es ≡ Some l → ShowsFull full es → k.limit ≡ l.limit → k.limit ≡ 0 → is_in c full ≡ false
unlimited c l k full es is all same none = (all c).shown ∙ ap full_in is ∙ not-limited l (sym same ∙ none)

-- the limit stays where what a caller sees stays, and as a publish leaves
pub same-limit : (l k : ConfirmMode) → confirm_mode_state k ≡ confirm_mode_state l → k.limit ≡ l.limit
same-limit l k same = ap (λ (s : ConfirmModeState). s.limit) same

pub limit-after : (t : Option ℕ) (l k : ConfirmMode) → confirm_mode_state k ≡ confirm_mode_after t (confirm_mode_state l) → k.limit ≡ l.limit
limit-after None l k same = ap (λ (s : ConfirmModeState). s.limit) same
limit-after (Some t) l k same = ap (λ (s : ConfirmModeState). s.limit) same

-- a channel is as full as before where what a caller sees stays, and as many tags are pending
pub same-full : (l k : ConfirmMode) → confirm_mode_state k ≡ confirm_mode_state l → k.pending ≡ l.pending → is_full_mode k ≡ is_full_mode l
same-full l k same pending =
    ap (λ (s : ConfirmModeState). s.selected && (nat_lt 0 s.limit && nat_le s.limit k.pending)) same
    ∙ ap (λ (n : ℕ). l.selected && (nat_lt 0 l.limit && nat_le l.limit n)) pending

-- a confirm mode changes, and the set shows it
pub shows-on : (c : ℕ) (l k : ConfirmMode) (full new : List ℕ) (es : List (ℕ × ConfirmMode)) → at_channel c es ≡ Some l → ShowsFull full es → Shown c (is_full_mode k) full new → ShowsFull new (on_channel c (λ _. k) es)
shows-on c l k full new es is all shown d =
    elim (eqb_tells c d) [
      | inl same ↦
          let P : ℕ → Type 0 = λ e. ShowsAt new e (at_channel e (on_channel c (λ _. k) es)) in
          let place : c < reach new = omega (arith, has-place c l full es is all, shown.reached) in
          subst P same.1 (subst (ShowsAt new c) (sym (at-on_same c (λ _. k) es ∙ ap (option_map (λ _. k)) is)) (record { shown = shown.here; placed = λ some. place }))
      | inr other ↦
          let apart : d ≢ c = λ e. other.1 (sym e) in
          subst (ShowsAt new d) (sym (at-on_other c d (λ _. k) es other.1)) (record {
            shown = shown.others d apart ∙ (all d).shown;
            placed = λ some. let place : d < reach full = (all d).placed some in omega (arith, shown.reached);
          })
    ]

-- a confirm mode changes, and its channel is as full as before
pub shows-same : (c : ℕ) (l k : ConfirmMode) (full : List ℕ) (es : List (ℕ × ConfirmMode)) → at_channel c es ≡ Some l → is_full_mode k ≡ is_full_mode l → ShowsFull full es → ShowsFull full (on_channel c (λ _. k) es)
shows-same c l k full es is same all =
    each-on (λ d o. ShowsAt full d o) c l k es is all (record {
      shown = (all c).shown ∙ ap full_in is ∙ sym same;
      placed = λ some. has-place c l full es is all;
    })

-- the set reaches further
pub shows-grown : (full new : List ℕ) (es : List (ℕ × ConfirmMode)) → ShowsFull full es → ((c : ℕ) → is_in c new ≡ is_in c full) → reach full ≤ reach new → ShowsFull new es
shows-grown full new es all same more = λ c. record {
  shown = same c ∙ (all c).shown;
  placed = λ some. let place : c < reach full = (all c).placed some in omega arith;
}

-- a new opening begins, which isn't full
pub shows-begun : (c : ℕ) (k : ConfirmMode) (full new : List ℕ) (es : List (ℕ × ConfirmMode)) → ShowsFull full es → c < reach full → is_full_mode k ≡ false → is_in c new ≡ false → ((d : ℕ) → d ≢ c → is_in d new ≡ is_in d full) → reach new ≡ reach full → ShowsFull new (with_channel c k es)
shows-begun c k full new es all place fresh here others reached d =
    subst (ShowsAt new d) (sym (at-with c d k es))
    (elim (eqb_tells c d) [
      | inl same ↦
          subst (λ (b : Bool). ShowsAt new d (cond b (Some k) (at_channel d es))) (sym same.0) (record {
            shown = ap (λ (e : ℕ). is_in e new) (sym same.1) ∙ here ∙ sym fresh;
            placed = λ some. omega (arith, same.1);
          })
      | inr other ↦
          let apart : d ≢ c = λ e. other.1 (sym e) in
          subst (λ (b : Bool). ShowsAt new d (cond b (Some k) (at_channel d es))) (sym other.0) (record {
            shown = others d apart ∙ (all d).shown;
            placed = λ some. let there : d < reach full = (all d).placed some in omega arith;
          })
    ])

-- ---- what is asked of the set

-- the same question of what a caller sees, and of how many tags are pending
abbrev asked : Option ConfirmModeState → ℕ → Bool
asked s n = selected_in s && (nat_lt 0 (limit_in s) && nat_le (limit_in s) n)

pub full-as-shown : (c : ℕ) (full : List ℕ) (es : List (ℕ × ConfirmMode)) (cells : List (Option Cell)) → ShowsFull full es → AllTied es cells → is_in c full ≡ full_on c (publish_states (confirm_mode_states es) cells)
full-as-shown c full es cells all tied = (all c).shown ∙ by (at_channel c es) refl
  where
    by : (o : Option ConfirmMode) → at_channel c es ≡ o → full_in (at_channel c es) ≡ full_on c (publish_states (confirm_mode_states es) cells)
    by None none = ap full_in none ∙ sym (ap (λ s. asked s (count_by (is_pending_on c) cells)) (mode-at c es None none))
    by (Some l) is =
        let own : Tied c l cells = tied-of c l es cells is tied in
        ap full_in is ∙ sym (ap (λ s. asked s (count_by (is_pending_on c) cells)) (mode-at c es (Some l) is) ∙ ap (asked (Some (confirm_mode_state l))) own.pending)

-- the same question of two sets that have the same channels
pub asked-alike : (f g : ℕ → Bool) (set : List ℕ) (from : ℕ) (r : Option ℕ) → ((c : ℕ) → f c ≡ g c) → MatchOption r (AllFull f set from) (IsFirstOpen f set from) → MatchOption r (AllFull g set from) (IsFirstOpen g set from)
asked-alike f g set from None same all = λ c on inside. sym (same c) ∙ all c on inside
asked-alike f g set from (Some n) same first = record {
  from_on = first.from_on;
  inside = first.inside;
  open_ = sym (same n) ∙ first.open_;
  first = λ c on before inside. sym (same c) ∙ first.first c on before inside;
}
