-- What an event does to one channel of the session, and to no other.
use Rattle.std.proofs.Common.{◌≡◌, ◌≢◌, ℕ, Bool, true, false, ◌==◌, List, [], ◌∷◌, ◌++◌, refl, sym, ◌∙◌, ap, subst, Some, None, inl, inr, eq-eqb}
use Rattle.std.proofs.lemmas.Bool.Decides.{eqb_tells}
use Rattle.std.specs.Option.{option_map}
use mathlib.Core.Path.{fun_ext}
use Rattle.lapin_tables.specs.ByChannel.{at_channel, on_channel}
use Rattle.lapin_tables.proofs.Channels.{at-on_same, at-on_other}
use Rattle.lapin_types.specs.declared.request.Request.{Request}
use Rattle.lapin_content.specs.Contents.{Expected}
use Rattle.lapin_content.specs.Channels.{Channels, expected_on, listed}
use Rattle.lapin_rules.specs.declared.phases.ChannelPhase.{ChannelPhase}
use Rattle.lapin_rules.specs.declared.phases.ChannelPhase.TheVariants as phase
use Rattle.lapin_rules.specs.Words.{with_channel}
use Rattle.lapin_rules.specs.Phases.{phase_in}
use Rattle.lapin_rules.specs.Requests.{requests_in}
use Rattle.lapin_rules.specs.Wire.{Wire, phase_of, requests_of}
use Rattle.lapin_rules.proofs.ChannelLaws.{at-with}
use Rattle.lapin_pairs.specs.Every.{put, of_u, All, StepA, CallA, SendA, HangUpA, NextA, ReadA, DeliverA, LoseA, happens_a, run_a}
use Rattle.lapin_pairs.specs.Asking.{K2, KOpen, KClose, KTell, KAsk, KSelect, KBegin, needs2, S2, asking}
use Rattle.lapin_pairs.proofs.Every.{Joint, joint_keeps, joint_run}
use Rattle.lapin_pairs.proofs.Asking.{Asks, Calm, asks_fact}
use Rattle.lapin_concord.specs.Wires.{chan_as, chans_as, waits_as}
use Rattle.lapin_concord.specs.Held.{HeldAt}

-- ---- runs of the pair of machines

abbrev pub J : All asking → Type 0
J w = Joint asking Asks Calm asks_fact w

pub j_keeps : (w : All asking) (s : StepA asking) → J w → J (happens_a asking w s)
j_keeps w s g = joint_keeps asking Asks Calm asks_fact w s g

-- no step of the broker's
abbrev pub is_own : StepA asking → Bool
is_own ReadA = false
is_own (SendA f) = false
is_own _ = true

abbrev pub AreOwn : List (StepA asking) → Type 0
AreOwn [] = Unit {0}
AreOwn (s ∷ ss) = (is_own s ≡ true) × AreOwn ss

own-append : (ss ts : List (StepA asking)) → AreOwn ss → AreOwn ts → AreOwn (ss ++ ts)
own-append [] ts h k = k
own-append (s ∷ ss) ts h k = (h.0, own-append ss ts h.1 k)

-- what such steps are to the tags of the session's side: nothing, an opening, a select or a publish of a channel begins, all channels
-- begin anew, a frame comes, or one leaves
pub data Told : Type 0 where
  Untold Resets Delivers Departs : Told
  Opens Selects Begins : (channel : ℕ) → Told

abbrev pub told_call : ℕ → K2 → Told
told_call c KOpen = Opens c
told_call c (KSelect wait) = Selects c
told_call c (KBegin i ns) = Begins c
told_call c _ = Untold

abbrev pub told_by_step : StepA asking → Told
told_by_step (CallA c k) = told_call c k
told_by_step HangUpA = Resets
told_by_step LoseA = Resets
told_by_step DeliverA = Delivers
told_by_step NextA = Departs
told_by_step _ = Untold

abbrev pub AreUntold : List (StepA asking) → Type 0
AreUntold [] = Unit {0}
AreUntold (s ∷ ss) = (told_by_step s ≡ Untold) × AreUntold ss

-- the first of the steps is so, and those behind it are nothing; a publish that begins leaves at once
abbrev pub AreTold : Told → List (StepA asking) → Type 0
AreTold Untold ss = AreUntold ss
AreTold (Begins c) ss = (ns : List ℕ) × (ss ≡ CallA c (KBegin 0 ns) ∷ NextA ∷ [])
AreTold k [] = ⊥
AreTold k (s ∷ ss) = (told_by_step s ≡ k) × AreUntold ss

-- by steps that aren't the broker's, told so, the first comes to the second
pub record Follows (k : Told) (w v : All asking) : Type 0 where
  pub steps : List (StepA asking)
  pub own : AreOwn steps
  pub told : AreTold k steps
  pub ends : run_a asking steps w ≡ v

-- a call that may come at any time, alone
pub told_once : (c : ℕ) (k : K2) → needs2 k ≡ false → AreTold (told_call c k) (CallA c k ∷ [])
told_once c (KBegin i ns) n = cc
told_once c KOpen n = (refl, tt)
told_once c KClose n = (refl, tt)
told_once c KTell n = (refl, tt)
told_once c (KAsk k) n = (refl, tt)
told_once c (KSelect b) n = (refl, tt)

pub stays : (w v : All asking) → w ≡ v → Follows Untold w v
stays w v e = record { steps = []; own = tt; told = tt; ends = e }

pub one_step : (k : Told) (w v : All asking) (s : StepA asking) → is_own s ≡ true → AreTold k (s ∷ []) → happens_a asking w s ≡ v → Follows k w v
one_step k w v s o t e = record { steps = s ∷ []; own = (o, tt); told = t; ends = e }

run-append : (ss ts : List (StepA asking)) (w : All asking) → run_a asking (ss ++ ts) w ≡ run_a asking ts (run_a asking ss w)
run-append [] ts w = refl
run-append (s ∷ ss) ts w = run-append ss ts (happens_a asking w s)

untold-append : (ss ts : List (StepA asking)) → AreUntold ss → AreUntold ts → AreUntold (ss ++ ts)
untold-append [] ts h k = k
untold-append (s ∷ ss) ts h k = (h.0, untold-append ss ts h.1 k)

come-append : (ss ts : List (StepA asking)) → AreTold Delivers ss → AreUntold ts → AreTold Delivers (ss ++ ts)
come-append [] ts h k = absurd h
come-append (s ∷ ss) ts h k = (h.0, untold-append ss ts h.1 k)

-- a frame comes, and then nothing is told
pub then : (w v u : All asking) → Follows Delivers w v → Follows Untold v u → Follows Delivers w u
then w v u f g = record { steps = f.steps ++ g.steps; own = own-append f.steps g.steps f.own g.own; told = come-append f.steps g.steps f.told g.told; ends = run-append f.steps g.steps w ∙ (ap (run_a asking g.steps) f.ends ∙ g.ends) }

pub joint_follows : (k : Told) (w v : All asking) → Follows k w v → J w → J v
joint_follows k w v f g = subst J f.ends (joint_run asking Asks Calm asks_fact w f.steps g)

-- ---- tables

abbrev pub phase_at : ℕ → List (ℕ × ChannelPhase) → ChannelPhase
phase_at c ps = phase_in (at_channel c ps)

abbrev pub requests_at : ℕ → List (ℕ × List Request) → List Request
requests_at c rs = requests_in (at_channel c rs)

pub phase_with : (c : ℕ) (p : ChannelPhase) (ps : List (ℕ × ChannelPhase)) → phase_at c (with_channel c p ps) ≡ p
phase_with c p ps = ap phase_in (at-with c c p ps) ∙ rw (eq-eqb c c refl) refl

pub phase_away : (c e : ℕ) (p : ChannelPhase) (ps : List (ℕ × ChannelPhase)) → (c == e) ≡ false → phase_at e (with_channel c p ps) ≡ phase_at e ps
phase_away c e p ps n = ap phase_in (at-with c e p ps) ∙ rw n refl

pub requests_with_here : (c : ℕ) (xs : List Request) (rs : List (ℕ × List Request)) → requests_at c (with_channel c xs rs) ≡ xs
requests_with_here c xs rs = ap requests_in (at-with c c xs rs) ∙ rw (eq-eqb c c refl) refl

pub requests_away : (c e : ℕ) (xs : List Request) (rs : List (ℕ × List Request)) → (c == e) ≡ false → requests_at e (with_channel c xs rs) ≡ requests_at e rs
requests_away c e xs rs n = ap requests_in (at-with c e xs rs) ∙ rw n refl

apart : (c e : ℕ) → (c == e) ≡ false → c ≢ e
apart c e n h = let y : true ≡ false = sym (eq-eqb c e h) ∙ n in cc

pub requests_on_here : (c : ℕ) (f : List Request → List Request) (rs : List (ℕ × List Request)) → f [] ≡ [] → requests_at c (on_channel c f rs) ≡ f (requests_at c rs)
requests_on_here c f rs n = ap requests_in (at-on_same c f rs) ∙ elim (at_channel c rs) as (λ o. requests_in (option_map f o) ≡ f (requests_in o)) [ None ↦ sym n | Some xs ↦ refl ]

pub requests_on_away : (c e : ℕ) (f : List Request → List Request) (rs : List (ℕ × List Request)) → (c == e) ≡ false → requests_at e (on_channel c f rs) ≡ requests_at e rs
requests_on_away c e f rs n = ap requests_in (at-on_other c e f rs (apart c e n))

pub contents_on_here : (c : ℕ) (f : List Expected → List Expected) (es : Channels) → f [] ≡ [] → expected_on c (on_channel c f es) ≡ f (expected_on c es)
contents_on_here c f es n = ap listed (at-on_same c f es) ∙ elim (at_channel c es) as (λ o. listed (option_map f o) ≡ f (listed o)) [ None ↦ sym n | Some xs ↦ refl ]

pub contents_on_away : (c e : ℕ) (f : List Expected → List Expected) (es : Channels) → (c == e) ≡ false → expected_on e (on_channel c f es) ≡ expected_on e es
contents_on_away c e f es n = ap listed (at-on_other c e f es (apart c e n))

pub phase_on_here : (c : ℕ) (f : ChannelPhase → ChannelPhase) (ps : List (ℕ × ChannelPhase)) → f phase.Closed ≡ phase.Closed → phase_at c (on_channel c f ps) ≡ f (phase_at c ps)
phase_on_here c f ps n = ap phase_in (at-on_same c f ps) ∙ elim (at_channel c ps) as (λ o. phase_in (option_map f o) ≡ f (phase_in o)) [ None ↦ sym n | Some p ↦ refl ]

pub phase_on_away : (c e : ℕ) (f : ChannelPhase → ChannelPhase) (ps : List (ℕ × ChannelPhase)) → (c == e) ≡ false → phase_at e (on_channel c f ps) ≡ phase_at e ps
phase_on_away c e f ps n = ap phase_in (at-on_other c e f ps (apart c e n))

-- ---- one channel, and the others

-- channel e is as it was
pub record Same (e : ℕ) (b d : Wire) : Type 0 where
  pub phase : phase_of e d ≡ phase_of e b
  pub requests : requests_of e d ≡ requests_of e b
  pub contents : expected_on e d.contents ≡ expected_on e b.contents
  pub way : of_u e (waits_as d) ≡ of_u e (waits_as b)

abbrev pub HeldOn : ℕ → Wire → Type 0
HeldOn c b = HeldAt (phase_of c b) (requests_of c b) (expected_on c b.contents) (of_u c (waits_as b))

pub held_same : (e : ℕ) (b d : Wire) → Same e b d → HeldOn e b → HeldOn e d
held_same e b d s h = subst (λ p. HeldAt p (requests_of e d) (expected_on e d.contents) (of_u e (waits_as d))) (sym s.phase)
    (subst (λ r. HeldAt (phase_of e b) r (expected_on e d.contents) (of_u e (waits_as d))) (sym s.requests)
    (subst (λ x. HeldAt (phase_of e b) (requests_of e b) x (of_u e (waits_as d))) (sym s.contents)
    (subst (λ w. HeldAt (phase_of e b) (requests_of e b) (expected_on e b.contents) w) (sym s.way) h)))

pub held_moved : (c : ℕ) (b d : Wire) → ((e : ℕ) → (c == e) ≡ false → Same e b d) → HeldOn c d → ((e : ℕ) → HeldOn e b) → (e : ℕ) → HeldOn e d
held_moved c b d away here h e = elim (eqb_tells c e) [
  | inl y ↦ subst (λ k. HeldOn k d) y.1 here
  | inr n ↦ held_same e b d (away e n.0) (h e)
]

pub chans_moved : (c : ℕ) (s : S2) (b d : Wire) → chan_as (phase_of c d) (requests_of c d) (expected_on c d.contents) ≡ s → ((e : ℕ) → (c == e) ≡ false → Same e b d) → chans_as d.phases d.requests d.contents ≡ put c s (chans_as b.phases b.requests b.contents)
chans_moved c s b d here away = fun_ext (λ e. elim (eqb_tells c e) [
  | inl y ↦ rw y.0 (ap (chans_as d.phases d.requests d.contents) (sym y.1) ∙ here)
  | inr n ↦ let m = away e n.0 in rw n.0 (λ i. chan_as (m.phase i) (m.requests i) (m.contents i))
])

pub put_same : (c : ℕ) (s : S2) (f : ℕ → S2) → f c ≡ s → put c s f ≡ f
put_same c s f h = fun_ext (λ e. elim (eqb_tells c e) [ inl y ↦ rw y.0 (rw (← y.1) (sym h)) | inr n ↦ rw n.0 refl ])

-- where there is a same for every channel
pub chans_same : (b d : Wire) → ((e : ℕ) → Same e b d) → chans_as d.phases d.requests d.contents ≡ chans_as b.phases b.requests b.contents
chans_same b d same = fun_ext (λ e. let m = same e in λ i. chan_as (m.phase i) (m.requests i) (m.contents i))
