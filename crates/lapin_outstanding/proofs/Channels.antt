-- Writes of one channel's value.
use Rattle.std.proofs.Common.{◌≡◌, ℕ, ◌==◌, true, false, cond, List, [], ◌∷◌, Option, Some, None, refl, sym, ◌∙◌, ap}
use Rattle.std.specs.Prelude.{OnSome, IfNone}
use Rattle.std.specs.Option.{option_map}
use Rattle.lapin_types.specs.declared.request.Request.{Request}
use Rattle.lapin_types.specs.declared.request.ReplyKind.{ReplyKind}
use Rattle.lapin_tables.specs.ByChannel.{at_channel, on_channel}
use Rattle.lapin_rules.specs.declared.phases.ChannelPhase.{ChannelPhase}
use Rattle.lapin_rules.specs.declared.phases.ChannelPhase.TheVariants as phase
use Rattle.lapin_rules.specs.Words.{with_channel}
use Rattle.lapin_rules.specs.Phases.{channel_state, phase_in}
use Rattle.lapin_rules.specs.ChannelClose.{close_sent}
use Rattle.lapin_rules.specs.Wire.{is_closing}
use Rattle.lapin_tables.proofs.Channels.{at-on_same}
use Rattle.lapin_rules.specs.Requests.{requests_in, is_kind, first_request, without_kind, without_request}
use Rattle.lapin_outbox.specs.Open.{requests_at}

value_is : {X : Type 0} {x y : X} → Some x ≡ Some y → x ≡ y
value_is e = cc

pub on_value : {X : Type 0} (c : ℕ) (f : X → X) (p : X) (es : List (ℕ × X)) → at_channel c es ≡ Some p → on_channel c (λ _. f p) es ≡ on_channel c f es
on_value c f p [] e = refl
on_value {X} c f p (x ∷ es) e = elim (x.0 == c) as (λ b. cond b (Some x.1) (at_channel c es) ≡ Some p → cond b ((x.0, f p) ∷ es) (x ∷ on_channel c (λ _. f p) es) ≡ cond b ((x.0, f x.1) ∷ es) (x ∷ on_channel c f es)) [
  | true ↦ λ here. ap (λ (v : X). (x.0, f v) ∷ es) (sym (value_is here))
  | false ↦ λ later. ap (λ (ys : List (ℕ × X)). x ∷ ys) (on_value c f p es later)
] e

pub on_absent : {X : Type 0} (c : ℕ) (f : X → X) (es : List (ℕ × X)) → at_channel c es ≡ None → on_channel c f es ≡ es
on_absent c f [] e = refl
on_absent {X} c f (x ∷ es) e = elim (x.0 == c) as (λ b. cond b (Some x.1) (at_channel c es) ≡ None → cond b ((x.0, f x.1) ∷ es) (x ∷ on_channel c f es) ≡ x ∷ es) [
  | true ↦ λ here. cc
  | false ↦ λ later. ap (λ (ys : List (ℕ × X)). x ∷ ys) (on_absent c f es later)
] e

-- two functions that agree on the value there
pub on_same : {X : Type 0} (c : ℕ) (f g : X → X) (p : X) (es : List (ℕ × X)) → at_channel c es ≡ Some p → f p ≡ g p → on_channel c f es ≡ on_channel c g es
on_same c f g p [] e h = refl
on_same {X} c f g p (x ∷ es) e h = elim (x.0 == c) as (λ b. cond b (Some x.1) (at_channel c es) ≡ Some p → cond b ((x.0, f x.1) ∷ es) (x ∷ on_channel c f es) ≡ cond b ((x.0, g x.1) ∷ es) (x ∷ on_channel c g es)) [
  | true ↦ λ here. ap (λ (v : X). (x.0, v) ∷ es) (ap f (value_is here) ∙ h ∙ ap g (sym (value_is here)))
  | false ↦ λ later. ap (λ (ys : List (ℕ × X)). x ∷ ys) (on_same c f g p es later h)
] e

-- a write over a write
pub on_twice : {X : Type 0} (c : ℕ) (f g : X → X) (es : List (ℕ × X)) → on_channel c g (on_channel c f es) ≡ on_channel c (λ v. g (f v)) es
on_twice c f g [] = refl
on_twice {X} c f g (x ∷ es) = elim (x.0 == c) as (λ b. (x.0 == c) ≡ b → on_channel c g (cond b ((x.0, f x.1) ∷ es) (x ∷ on_channel c f es)) ≡ cond b ((x.0, g (f x.1)) ∷ es) (x ∷ on_channel c (λ v. g (f v)) es)) [
  | true ↦ λ here. rw here refl
  | false ↦ λ other. rw other (ap (λ (ys : List (ℕ × X)). x ∷ ys) (on_twice c f g es))
] refl

on_itself : {X : Type 0} (c : ℕ) (es : List (ℕ × X)) → on_channel c (λ v. v) es ≡ es
on_itself c [] = refl
on_itself {X} c (x ∷ es) = elim (x.0 == c) as (λ b. cond b ((x.0, x.1) ∷ es) (x ∷ on_channel c (λ v. v) es) ≡ x ∷ es) [ true ↦ refl | false ↦ ap (λ (ys : List (ℕ × X)). x ∷ ys) (on_itself c es) ]

-- ---- requests of a channel

without_none : (k : ReplyKind) (qs : List Request) → first_request k qs ≡ None → without_kind k qs ≡ qs
without_none k [] h = refl
without_none k (q ∷ qs) h = elim (is_kind k q) as (λ b. cond b (Some q) (first_request k qs) ≡ None → cond b qs (q ∷ without_kind k qs) ≡ q ∷ qs) [
  | true ↦ λ h. cc
  | false ↦ λ h. ap (λ (ys : List Request). q ∷ ys) (without_none k qs h)
] h

module _ (c : ℕ) (k : ReplyKind) (rs new : List (ℕ × List Request)) where
  taken_some : (r : Request) (o : Option (List Request)) → at_channel c rs ≡ o → Some r ≡ first_request k (requests_in o) → new ≡ without_request c k rs → new ≡ on_channel c (without_kind k) rs
  taken_some r None e h t = cc
  taken_some r (Some qs) e h t = t ∙ rw e (on_value c (without_kind k) qs rs e)

  taken_none : (o : Option (List Request)) → at_channel c rs ≡ o → None ≡ first_request k (requests_in o) → new ≡ rs → new ≡ on_channel c (without_kind k) rs
  taken_none None e h t = t ∙ sym (on_absent c (without_kind k) rs e)
  taken_none (Some qs) e h t = t ∙ sym (on_same c (without_kind k) (λ v. v) qs rs e (without_none k qs (sym h)) ∙ on_itself c rs)

  -- what is left once the oldest request of a kind is taken, if there is one
  pub taken_is : (o : Option Request) → o ≡ first_request k (requests_at c rs) → OnSome o (new ≡ without_request c k rs) → IfNone o (new ≡ rs) → new ≡ on_channel c (without_kind k) rs
  taken_is None h some none = taken_none (at_channel c rs) refl h none
  taken_is (Some r) h some none = taken_some r (at_channel c rs) refl h some

pub requests_left : (c : ℕ) (k : ReplyKind) (rs : List (ℕ × List Request)) → requests_at c (on_channel c (without_kind k) rs) ≡ without_kind k (requests_at c rs)
requests_left c k rs = ap requests_in (at-on_same c (without_kind k) rs) ∙ elim (at_channel c rs) as (λ o. requests_in (option_map (without_kind k) o) ≡ without_kind k (requests_in o)) [ None ↦ refl | Some qs ↦ refl ]

-- ---- a close of a channel is known to have left

pub closing_there : {X : Type 0} (o : Option ChannelPhase) → is_closing (channel_state (phase_in o)) ≡ true → o ≡ None → X
closing_there None h e = cc
closing_there (Some p) h e = cc

still : (p : ChannelPhase) → is_closing (channel_state p) ≡ false → close_sent p ≡ p
still phase.Closed h = refl
still phase.Opening h = refl
still (phase.Open paused) h = refl
still (phase.Closing who sent) h = cc
still phase.Crossed h = refl

-- a channel that is closing is put where its close has left
pub closing_left : (c : ℕ) (q r : ChannelPhase) (all : List (ℕ × ChannelPhase)) → q ≡ phase_in (at_channel c all) → is_closing (channel_state q) ≡ true → r ≡ close_sent q → with_channel c r all ≡ on_channel c close_sent all
closing_left c q r all is closing left = at (at_channel c all) refl
  where
    at : (o : Option ChannelPhase) → at_channel c all ≡ o → with_channel c r all ≡ on_channel c close_sent all
    at None e = closing_there None (ap (λ (p : ChannelPhase). is_closing (channel_state p)) (sym (is ∙ ap phase_in e)) ∙ closing) refl
    at (Some p) e =
        let same : r ≡ close_sent p = left ∙ ap close_sent (is ∙ ap phase_in e) in
        rw e (ap (λ (v : ChannelPhase). on_channel c (λ _. v) all) same ∙ on_value c close_sent p all e)

-- another stays where it is
pub others_left : (c : ℕ) (q : ChannelPhase) (all : List (ℕ × ChannelPhase)) → q ≡ phase_in (at_channel c all) → is_closing (channel_state q) ≡ false → all ≡ on_channel c close_sent all
others_left c q all is away = at (at_channel c all) refl
  where
    at : (o : Option ChannelPhase) → at_channel c all ≡ o → all ≡ on_channel c close_sent all
    at None e = sym (on_absent c close_sent all e)
    at (Some p) e =
        let stays : is_closing (channel_state p) ≡ false = ap (λ (v : ChannelPhase). is_closing (channel_state v)) (sym (is ∙ ap phase_in e)) ∙ away in
        sym (on_same c close_sent (λ v. v) p all e (still p stays) ∙ on_itself c all)
