-- What callers see of the confirm modes.
use Rattle.std.proofs.Common.{subst, cond, ◌≡◌, ℕ, true, false, List, [], ◌∷◌, ◌++◌, Option, Some, None, refl, sym, ◌∙◌, ap}
use Rattle.std.specs.Option.{option_map, IsSome}
use Rattle.std.proofs.lemmas.List.{map_push}
use Rattle.lapin_rules.specs.Words.{is_some, with_channel}
use Rattle.lapin_tables.specs.ByChannel.{at_channel, on_channel}
use Rattle.lapin_tables.proofs.Channels.{at-values, on-values, on-absent, on-known, on-same}
use Rattle.lapin_confirm.specs.declared.origin.Origin.{Origin}
use Rattle.lapin_confirm.specs.declared.confirm_mode.ConfirmMode.{ConfirmMode}
use Rattle.lapin_confirm.specs.PublishStates.{ConfirmModeState, PublishStates, fresh_confirm_mode, next_confirm_mode, tag_for, cell_with, confirm_modes_with, left}
use Rattle.lapin_types.specs.declared.message.BasicReturnMessage.{BasicReturnMessage}
use Rattle.lapin_rules.specs.ReturnLists.{ReturnLists}
use Rattle.lapin_confirm.specs.ConfirmState.{ConfirmState}
use Rattle.lapin_confirm.specs.Ties.{IsFresh, confirm_mode_state, confirm_mode_after, confirm_mode_states}
use Rattle.lapin_tables.specs.Numbered.{with_under}
use Rattle.lapin_confirm.specs.declared.cell.Cell.{Cell}

pub mode-at : (c : ℕ) (es : List (ℕ × ConfirmMode)) (o : Option ConfirmMode) → at_channel c es ≡ o → at_channel c (confirm_mode_states es) ≡ option_map confirm_mode_state o
mode-at c es o is = at-values confirm_mode_state c es ∙ ap (option_map confirm_mode_state) is

-- a channel without a confirm mode has no confirm mode
pub no-mode : (c : ℕ) (es : List (ℕ × ConfirmMode)) → at_channel c es ≡ None → IsSome (at_channel c (confirm_mode_states es)) → ⊥
no-mode c es none has = let never : false ≡ true = rw (mode-at c es None none) at has in cc

-- and with a confirm mode it has one
pub has-mode : (c : ℕ) (es : List (ℕ × ConfirmMode)) → IsSome (at_channel c (confirm_mode_states es)) → IsSome (at_channel c es)
has-mode c es has = by (at_channel c es) refl
  where
    by : (o : Option ConfirmMode) → at_channel c es ≡ o → IsSome (at_channel c es)
    by None none = absurd (no-mode c es none has)
    by (Some l) is = rw is refl

-- and none to change
pub confirm_modes-absent : (c : ℕ) (f : ConfirmModeState → ConfirmModeState) (es : List (ℕ × ConfirmMode)) → at_channel c es ≡ None → on_channel c f (confirm_mode_states es) ≡ confirm_mode_states es
confirm_modes-absent c f es none = on-absent c f (confirm_mode_states es) (mode-at c es None none)

-- a channel's confirm mode changes with its confirm mode
pub confirm_modes-on : (c : ℕ) (f : ConfirmModeState → ConfirmModeState) (l k : ConfirmMode) (es : List (ℕ × ConfirmMode)) → at_channel c es ≡ Some l → confirm_mode_state k ≡ f (confirm_mode_state l) → confirm_mode_states (on_channel c (λ _. k) es) ≡ on_channel c f (confirm_mode_states es)
confirm_modes-on c f l k es is mode =
    on-values confirm_mode_state c k es
    ∙ ap (λ (n : ConfirmModeState). on_channel c (λ _. n) (confirm_mode_states es)) mode
    ∙ sym (on-known c f (confirm_mode_state l) (confirm_mode_states es) (mode-at c es (Some l) is))

-- a confirm mode with the same confirm mode
pub confirm_modes-same : (c : ℕ) (l k : ConfirmMode) (es : List (ℕ × ConfirmMode)) → at_channel c es ≡ Some l → confirm_mode_state k ≡ confirm_mode_state l → confirm_mode_states (on_channel c (λ _. k) es) ≡ confirm_mode_states es
confirm_modes-same c l k es is mode =
    on-values confirm_mode_state c k es
    ∙ ap (λ (n : ConfirmModeState). on_channel c (λ _. n) (confirm_mode_states es)) mode
    ∙ on-same c (confirm_mode_state l) (confirm_mode_states es) (mode-at c es (Some l) is)

-- a new opening, where the channel had one
pub confirm_modes-again : (c : ℕ) (l k : ConfirmMode) (es : List (ℕ × ConfirmMode)) → at_channel c es ≡ Some l → confirm_mode_state k ≡ fresh_confirm_mode → confirm_mode_states (on_channel c (λ _. k) es) ≡ with_channel c fresh_confirm_mode (confirm_mode_states es)
confirm_modes-again c l k es is mode = rw (mode-at c es (Some l) is) (on-values confirm_mode_state c k es ∙ ap (λ (n : ConfirmModeState). on_channel c (λ _. n) (confirm_mode_states es)) mode)

-- and where it had none
pub confirm_modes-new : (c : ℕ) (k : ConfirmMode) (es : List (ℕ × ConfirmMode)) → at_channel c es ≡ None → confirm_mode_state k ≡ fresh_confirm_mode → confirm_mode_states (es ++ (c, k) ∷ []) ≡ with_channel c fresh_confirm_mode (confirm_mode_states es)
confirm_modes-new c k es none mode = rw (mode-at c es None none) (map_push (λ (e : ℕ × ConfirmMode). (e.0, confirm_mode_state e.1)) es (c, k) ∙ ap (λ (n : ConfirmModeState). confirm_mode_states es ++ (c, n) ∷ []) mode)

-- in either case
pub confirm_modes-begun : (c : ℕ) (k : ConfirmMode) (es : List (ℕ × ConfirmMode)) → confirm_mode_state k ≡ fresh_confirm_mode → confirm_mode_states (with_channel c k es) ≡ with_channel c fresh_confirm_mode (confirm_mode_states es)
confirm_modes-begun c k es mode = by (at_channel c es) refl
  where
    by : (o : Option ConfirmMode) → at_channel c es ≡ o → confirm_mode_states (with_channel c k es) ≡ with_channel c fresh_confirm_mode (confirm_mode_states es)
    by None none = subst (λ b. confirm_mode_states (cond b (on_channel c (λ _. k) es) (es ++ (c, k) ∷ [])) ≡ with_channel c fresh_confirm_mode (confirm_mode_states es)) (sym (ap is_some none)) (confirm_modes-new c k es none mode)
    by (Some l) is = subst (λ b. confirm_mode_states (cond b (on_channel c (λ _. k) es) (es ++ (c, k) ∷ [])) ≡ with_channel c fresh_confirm_mode (confirm_mode_states es)) (sym (ap is_some is)) (confirm_modes-again c l k es is mode)

-- ---- publish states

abbrev pub publish_states : List (ℕ × ConfirmModeState) → List (Option Cell) → PublishStates
publish_states ls cells = record { confirm_modes = ls; cells = cells }

pub same-publish_states : (ls ks : List (ℕ × ConfirmModeState)) (cells after : List (Option Cell)) → ls ≡ ks → cells ≡ after → publish_states ls cells ≡ publish_states ks after
same-publish_states ls ks cells after confirm_modes same = rw (confirm_modes, same) refl

abbrev confirm_state : PublishStates → List (ℕ × ReturnLists) → List (ℕ × BasicReturnMessage) → List (Option Origin) → ConfirmState
confirm_state b ts ms hs = record { publish_states = b; returned_by_channel = ts; early = ms; origins = hs }

pub all-same : (b d : PublishStates) (ts us : List (ℕ × ReturnLists)) (ms ns : List (ℕ × BasicReturnMessage)) (hs ks : List (Option Origin)) → b ≡ d → ts ≡ us → ms ≡ ns → hs ≡ ks → confirm_state b ts ms hs ≡ confirm_state d us ns ks
all-same b d ts us ms ns hs ks same returned_by_channel early origins = rw (same, returned_by_channel, early, origins) refl

-- where the early messages stay
pub same-confirm_state : {ms : List (ℕ × BasicReturnMessage)} (b d : PublishStates) (ts us : List (ℕ × ReturnLists)) (hs ks : List (Option Origin)) → b ≡ d → ts ≡ us → hs ≡ ks → confirm_state b ts ms hs ≡ confirm_state d us ms ks
same-confirm_state {ms = ms} b d ts us hs ks same returned_by_channel origins = all-same b d ts us ms ms hs ks same returned_by_channel refl origins

pub fresh-mode : (l : ConfirmMode) → IsFresh l → confirm_mode_state l ≡ fresh_confirm_mode
fresh-mode l fresh = rw (fresh.selected, fresh.tags, fresh.asked, fresh.limit) refl

-- a confirm mode with other room alone
pub same-mode : (l k : ConfirmMode) → k ≡ record l { tags = k.tags } → k.tags.slots ≡ l.tags.slots → confirm_mode_state k ≡ confirm_mode_state l
same-mode l k rest tags =
    let selected : k.selected ≡ l.selected = ap (λ (x : ConfirmMode). x.selected) rest in
    let asked : k.asked ≡ l.asked = ap (λ (x : ConfirmMode). x.asked) rest in
    let limit : k.limit ≡ l.limit = ap (λ (x : ConfirmMode). x.limit) rest in
    rw (selected, tags, asked, limit) refl

-- ---- a publish leaves

confirm_modes-left : (c : ℕ) (t : Option ℕ) (l k : ConfirmMode) (es : List (ℕ × ConfirmMode)) → at_channel c es ≡ Some l → confirm_mode_state k ≡ confirm_mode_after t (confirm_mode_state l) → confirm_mode_states (on_channel c (λ _. k) es) ≡ confirm_modes_with c t (confirm_mode_states es)
confirm_modes-left c None l k es is mode = confirm_modes-same c l k es is mode
confirm_modes-left c (Some t) l k es is mode = confirm_modes-on c next_confirm_mode l k es is mode

pub tag-there : (c : ℕ) (t : Option ℕ) (l : ConfirmMode) (es : List (ℕ × ConfirmMode)) → at_channel c es ≡ Some l → t ≡ tag_for (Some (confirm_mode_state l)) → t ≡ tag_for (at_channel c (confirm_mode_states es))
tag-there c t l es is tag = tag ∙ ap tag_for (sym (mode-at c es (Some l) is))

pub left-publish_states : (c n : ℕ) (t : Option ℕ) (l k : ConfirmMode) (es : List (ℕ × ConfirmMode)) (cells after : List (Option Cell)) → at_channel c es ≡ Some l → t ≡ tag_for (Some (confirm_mode_state l)) → confirm_mode_state k ≡ confirm_mode_after t (confirm_mode_state l) → after ≡ with_under n (Some (cell_with c t)) cells → publish_states (confirm_mode_states (on_channel c (λ _. k) es)) after ≡ left c n (publish_states (confirm_mode_states es) cells)
left-publish_states c n t l k es cells after is tag mode same =
    let there : t ≡ tag_for (at_channel c (confirm_mode_states es)) = tag-there c t l es is tag in
    same-publish_states _ _ _ _
    (confirm_modes-left c t l k es is mode ∙ ap (λ u. confirm_modes_with c u (confirm_mode_states es)) there)
    (same ∙ ap (λ u. with_under n (Some (cell_with c u)) cells) there)
