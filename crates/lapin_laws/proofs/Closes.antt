-- Where the closes of channels wait.
use Rattle.std.proofs.Common.{◌≡◌, ◌≢◌, ℕ, ◌+◌, ◌==◌, ◌&&◌, Bool, true, false, cond, List, [], ◌∷◌, ◌++◌, refl, sym, ◌∙◌, ap, subst, arith, ◌⊎◌, inl, inr, eq-eqb, ne_eqb, Option, Some, None}
use Rattle.std.proofs.lemmas.Bool.Decides.{eqb_tells}
use Rattle.std.specs.List.{filter}
use Rattle.std.specs.Option.{option_map}
use Rattle.lapin_tables.specs.ByChannel.{at_channel, on_channel}
use Rattle.lapin_types.specs.Types.{Method}
use Rattle.lapin_types.specs.Types.channel_state as state
use Rattle.lapin_types.specs.Types.frame
use Rattle.lapin_types.specs.Types.method
use Rattle.lapin_types.specs.Types.channel
use Rattle.lapin_rules.specs.declared.phases.ChannelPhase.{ChannelPhase}
use Rattle.lapin_rules.specs.declared.phases.ChannelPhase.TheVariants as phase
use Rattle.lapin_rules.specs.Words.{with_channel}
use Rattle.lapin_rules.specs.Phases.{phase_in, channel_state}
use Rattle.lapin_rules.specs.ChannelClose.{close_sent, after_broker_close, phases_sent}
use Rattle.lapin_rules.specs.Frames.{MethodEntry}
use Rattle.lapin_rules.specs.Drops.{is_off, method_channel}
use Rattle.lapin_rules.specs.Wire.{is_closed, is_open, is_opening}
use Rattle.lapin_rules.proofs.ChannelLaws.{at-on, at-with}
use Rattle.lapin_laws.specs.Closes.{is_channel_close, is_close_of, closes_of, is_unsent}

abbrev pub unsent_at : ℕ → List (ℕ × ChannelPhase) → Bool
unsent_at c ps = is_unsent (phase_in (at_channel c ps))

-- each channel has one close that waits where its phase says so, and else none
abbrev pub AreMarked : List (ℕ × ChannelPhase) → List MethodEntry → Type 0
AreMarked ps ms = (c : ℕ) → closes_of c ms ≡ cond (unsent_at c ps) 1 0

unsent-with : (c d : ℕ) (p : ChannelPhase) (ps : List (ℕ × ChannelPhase)) → unsent_at d (with_channel c p ps) ≡ cond (c == d) (is_unsent p) (unsent_at d ps)
unsent-with c d p ps = ap (λ o. is_unsent (phase_in o)) (at-with c d p ps) ∙ elim (c == d) as (λ b. is_unsent (phase_in (cond b (Some p) (at_channel d ps))) ≡ cond b (is_unsent p) (unsent_at d ps)) [ true ↦ refl | false ↦ refl ]

-- a channel moves to p, and the others' closes are as before
pub marks_with : (c : ℕ) (p : ChannelPhase) (ps : List (ℕ × ChannelPhase)) (ms ns : List MethodEntry) → closes_of c ns ≡ cond (is_unsent p) 1 0 → ((d : ℕ) → c ≢ d → closes_of d ns ≡ closes_of d ms) → AreMarked ps ms → AreMarked (with_channel c p ps) ns
marks_with c p ps ms ns here away h d = elim (eqb_tells c d) [
  | inl y ↦
      let same : unsent_at d (with_channel c p ps) ≡ is_unsent p = unsent-with c d p ps ∙ rw y.0 refl in
      ap (λ k. closes_of k ns) (sym y.1) ∙ (here ∙ ap (λ t. cond t 1 0) (sym same))
  | inr n ↦
      let same : unsent_at d (with_channel c p ps) ≡ unsent_at d ps = unsent-with c d p ps ∙ rw n.0 refl in
      away d n.1 ∙ (h d ∙ ap (λ t. cond t 1 0) (sym same))
]

-- ---- counts

pub push-other : (d : ℕ) (ms : List MethodEntry) (m : MethodEntry) → is_channel_close m.method ≡ false → closes_of d (ms ++ m ∷ []) ≡ closes_of d ms
push-other d [] m h = rw h refl
push-other d (x ∷ xs) m h = ap (λ k. cond (is_close_of d x) (k + 1) k) (push-other d xs m h)

push-off : (d : ℕ) (ms : List MethodEntry) (m : MethodEntry) → is_close_of d m ≡ false → closes_of d (ms ++ m ∷ []) ≡ closes_of d ms
push-off d [] m h = rw h refl
push-off d (x ∷ xs) m h = ap (λ k. cond (is_close_of d x) (k + 1) k) (push-off d xs m h)

push-one : (d : ℕ) (ms : List MethodEntry) (m : MethodEntry) → is_close_of d m ≡ true → closes_of d (ms ++ m ∷ []) ≡ closes_of d ms + 1
push-one d [] m h = rw h refl
push-one d (x ∷ xs) m h = let rest : closes_of d (xs ++ m ∷ []) ≡ closes_of d xs + 1 = push-one d xs m h in ap (λ k. cond (is_close_of d x) (k + 1) k) rest ∙ elim (is_close_of d x) as (λ b. cond b (closes_of d xs + 1 + 1) (closes_of d xs + 1) ≡ cond b (closes_of d xs + 1) (closes_of d xs) + 1) [ true ↦ refl | false ↦ refl ]

not_of : (c d : ℕ) (m : MethodEntry) → m.channel ≡ c → c ≢ d → is_close_of d m ≡ false
not_of c d m e n = let off : (m.channel == d) ≡ false = ne_eqb m.channel d (λ x. n (sym e ∙ x)) in rw off (elim (is_channel_close m.method) as (λ b. (b && false) ≡ false) [ true ↦ refl | false ↦ refl ])

is_of : (c : ℕ) (m : MethodEntry) → m.channel ≡ c → is_channel_close m.method ≡ true → is_close_of c m ≡ true
is_of c m e h = rw (h, eq-eqb m.channel c e) refl

count_no : (d : ℕ) (m : MethodEntry) (ms : List MethodEntry) → is_close_of d m ≡ false → closes_of d (m ∷ ms) ≡ closes_of d ms
count_no d m ms h = rw h refl

count_yes : (d : ℕ) (m : MethodEntry) (ms : List MethodEntry) → is_close_of d m ≡ true → closes_of d (m ∷ ms) ≡ closes_of d ms + 1
count_yes d m ms h = rw h refl

filter_out : (c : ℕ) (m : MethodEntry) (ms : List MethodEntry) → (m.channel == c) ≡ true → filter (is_off method_channel c) (m ∷ ms) ≡ filter (is_off method_channel c) ms
filter_out c m ms h = rw h refl

filter_in : (c : ℕ) (m : MethodEntry) (ms : List MethodEntry) → (m.channel == c) ≡ false → filter (is_off method_channel c) (m ∷ ms) ≡ m ∷ filter (is_off method_channel c) ms
filter_in c m ms h = rw h refl

filter-none : (c : ℕ) (ms : List MethodEntry) → closes_of c (filter (is_off method_channel c) ms) ≡ 0
filter-none c [] = refl
filter-none c (m ∷ ms) = elim (eqb_tells m.channel c) [
  | inl y ↦ ap (closes_of c) (filter_out c m ms y.0) ∙ filter-none c ms
  | inr n ↦ ap (closes_of c) (filter_in c m ms n.0) ∙ (count_no c m (filter (is_off method_channel c) ms) (not_of m.channel c m refl n.1) ∙ filter-none c ms)
]

filter-away : (c d : ℕ) (ms : List MethodEntry) → c ≢ d → closes_of d (filter (is_off method_channel c) ms) ≡ closes_of d ms
filter-away c d [] n = refl
filter-away c d (m ∷ ms) n = elim (eqb_tells m.channel c) [
  | inl y ↦ ap (closes_of d) (filter_out c m ms y.0) ∙ (filter-away c d ms n ∙ sym (count_no d m ms (not_of c d m y.1 n)))
  | inr x ↦ ap (closes_of d) (filter_in c m ms x.0) ∙ ap (λ k. cond (is_close_of d m) (k + 1) k) (filter-away c d ms n)
]

-- ---- each move

-- a method that is no close is queued
pub marks_noted : (ps : List (ℕ × ChannelPhase)) (ms : List MethodEntry) (m : MethodEntry) → is_channel_close m.method ≡ false → AreMarked ps ms → AreMarked ps (ms ++ m ∷ [])
marks_noted ps ms m h k d = push-other d ms m h ∙ k d

none_of : (c : ℕ) (ps : List (ℕ × ChannelPhase)) (ms : List MethodEntry) → unsent_at c ps ≡ false → AreMarked ps ms → closes_of c ms ≡ 0
none_of c ps ms u h = h c ∙ ap (λ t. cond t 1 0) u

-- a channel none of whose closes waits moves
pub marks_moved : (c : ℕ) (p : ChannelPhase) (ps : List (ℕ × ChannelPhase)) (ms : List MethodEntry) → unsent_at c ps ≡ false → is_unsent p ≡ false → AreMarked ps ms → AreMarked (with_channel c p ps) ms
marks_moved c p ps ms u q h = marks_with c p ps ms ms (none_of c ps ms u h ∙ ap (λ t. cond t 1 0) (sym q)) (λ d n. refl) h

-- this side closes a channel
pub marks_closing : (c : ℕ) (p : ChannelPhase) (ps : List (ℕ × ChannelPhase)) (ms : List MethodEntry) (m : MethodEntry) → unsent_at c ps ≡ false → is_unsent p ≡ true → m.channel ≡ c → is_channel_close m.method ≡ true → AreMarked ps ms → AreMarked (with_channel c p ps) (ms ++ m ∷ [])
marks_closing c p ps ms m u q e k h =
    let none : closes_of c ms ≡ 0 = none_of c ps ms u h in
    let one : closes_of c (ms ++ m ∷ []) ≡ 1 = push-one c ms m (is_of c m e k) ∙ omega arith in
    marks_with c p ps ms (ms ++ m ∷ []) (one ∙ ap (λ t. cond t 1 0) (sym q)) (λ d n. push-off d ms m (not_of c d m e n)) h

-- an opening ends
pub marks_ended : (c : ℕ) (p : ChannelPhase) (ps : List (ℕ × ChannelPhase)) (ms : List MethodEntry) → is_unsent p ≡ false → AreMarked ps ms → AreMarked (with_channel c p ps) (filter (is_off method_channel c) ms)
marks_ended c p ps ms q h = marks_with c p ps ms (filter (is_off method_channel c) ms) (filter-none c ms ∙ ap (λ t. cond t 1 0) (sym q)) (λ d n. filter-away c d ms n) h

pub broker_unsent : (p : ChannelPhase) → is_unsent (after_broker_close p) ≡ false
broker_unsent phase.Closed = refl
broker_unsent phase.Opening = refl
broker_unsent (phase.Open paused) = refl
broker_unsent (phase.Closing who true) = refl
broker_unsent (phase.Closing who false) = refl
broker_unsent phase.Crossed = refl

-- ---- a method leaves

sent_unsent : (o : Option ChannelPhase) → is_unsent (phase_in (option_map close_sent o)) ≡ false
sent_unsent None = refl
sent_unsent (Some phase.Closed) = refl
sent_unsent (Some phase.Opening) = refl
sent_unsent (Some (phase.Open paused)) = refl
sent_unsent (Some (phase.Closing who sent)) = refl
sent_unsent (Some phase.Crossed) = refl

at_most_one : (t : Bool) (k : ℕ) → k + 1 ≡ cond t 1 0 → k ≡ 0
at_most_one true k h = omega arith
at_most_one false k h = omega arith

marks_close : (m : MethodEntry) (ms : List MethodEntry) (ps : List (ℕ × ChannelPhase)) → is_channel_close m.method ≡ true → AreMarked ps (m ∷ ms) → AreMarked (on_channel m.channel close_sent ps) ms
marks_close m ms ps k h d = elim (eqb_tells m.channel d) [
  | inl y ↦
      let is : is_close_of d m ≡ true = is_of d m y.1 k in
      let counted : closes_of d ms + 1 ≡ cond (unsent_at d ps) 1 0 = sym (count_yes d m ms is) ∙ h d in
      let none : closes_of d ms ≡ 0 = at_most_one (unsent_at d ps) (closes_of d ms) counted in
      let gone : unsent_at d (on_channel m.channel close_sent ps) ≡ false = ap (λ o. is_unsent (phase_in o)) (at-on m.channel d close_sent ps) ∙ rw y.0 (sent_unsent (at_channel d ps)) in
      none ∙ ap (λ t. cond t 1 0) (sym gone)
  | inr n ↦
      let out : is_close_of d m ≡ false = not_of m.channel d m refl n.1 in
      let counted : closes_of d ms ≡ cond (unsent_at d ps) 1 0 = sym (count_no d m ms out) ∙ h d in
      let same : unsent_at d (on_channel m.channel close_sent ps) ≡ unsent_at d ps = ap (λ o. is_unsent (phase_in o)) (at-on m.channel d close_sent ps) ∙ rw n.0 refl in
      (counted ∙ ap (λ t. cond t 1 0) (sym same))
]

marks_other : (m : MethodEntry) (ms : List MethodEntry) (ps : List (ℕ × ChannelPhase)) → is_channel_close m.method ≡ false → AreMarked ps (m ∷ ms) → AreMarked ps ms
marks_other m ms ps k h d =
    let out : is_close_of d m ≡ false = rw k refl in
    let counted : closes_of d ms ≡ cond (unsent_at d ps) 1 0 = sym (count_no d m ms out) ∙ h d in
    counted

abbrev MethodMoves : ℕ → Method → List (ℕ × ChannelPhase) → Type 0
MethodMoves c m ps = ((is_channel_close m ≡ true) × (phases_sent (frame.Method c m) ps ≡ on_channel c close_sent ps)) ⊎ ((is_channel_close m ≡ false) × (phases_sent (frame.Method c m) ps ≡ ps))

method_moves : (c : ℕ) (m : Method) (ps : List (ℕ × ChannelPhase)) → MethodMoves c m ps
method_moves c (method.Channel (channel.Close code text class number)) ps = inl (refl, refl)
method_moves c (method.Channel _) ps = inr (refl, refl)
method_moves c (method.Connection m) ps = inr (refl, refl)
method_moves c (method.Basic m) ps = inr (refl, refl)
method_moves c (method.Confirm m) ps = inr (refl, refl)
method_moves c (method.Access m) ps = inr (refl, refl)
method_moves c (method.Exchange m) ps = inr (refl, refl)
method_moves c (method.Queue m) ps = inr (refl, refl)
method_moves c (method.Tx m) ps = inr (refl, refl)

pub marks_sent : (m : MethodEntry) (ms : List MethodEntry) (ps : List (ℕ × ChannelPhase)) → AreMarked ps (m ∷ ms) → AreMarked (phases_sent (frame.Method m.channel m.method) ps) ms
marks_sent m ms ps h = elim (method_moves m.channel m.method ps) [
  | inl x ↦ subst (λ qs. AreMarked qs ms) (sym x.1) (marks_close m ms ps x.0 h)
  | inr x ↦ subst (λ qs. AreMarked qs ms) (sym x.1) (marks_other m ms ps x.0 h)
]

-- ---- phases by states

pub closed_unsent : (t : Bool) (p : ChannelPhase) → is_closed (cond t state.Base (channel_state p)) ≡ true → is_unsent p ≡ false
closed_unsent true p h = absurd cc
closed_unsent false phase.Closed h = refl
closed_unsent false phase.Opening h = absurd cc
closed_unsent false (phase.Open paused) h = absurd cc
closed_unsent false (phase.Closing who sent) h = absurd cc
closed_unsent false phase.Crossed h = absurd cc

pub open_unsent : (t : Bool) (p : ChannelPhase) → is_open (cond t state.Base (channel_state p)) ≡ true → is_unsent p ≡ false
open_unsent true p h = absurd cc
open_unsent false phase.Closed h = absurd cc
open_unsent false phase.Opening h = absurd cc
open_unsent false (phase.Open paused) h = refl
open_unsent false (phase.Closing who sent) h = absurd cc
open_unsent false phase.Crossed h = absurd cc

pub opening_unsent : (t : Bool) (p : ChannelPhase) → is_opening (cond t state.Base (channel_state p)) ≡ true → is_unsent p ≡ false
opening_unsent true p h = absurd cc
opening_unsent false phase.Closed h = absurd cc
opening_unsent false phase.Opening h = refl
opening_unsent false (phase.Open paused) h = absurd cc
opening_unsent false (phase.Closing who sent) h = absurd cc
opening_unsent false phase.Crossed h = absurd cc
