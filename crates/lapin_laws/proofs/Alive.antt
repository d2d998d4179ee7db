-- What waits on channels with a live opening.
use Rattle.std.proofs.Common.{◌≡◌, ℕ, Bool, true, false, cond, ◌==◌, List, [], ◌∷◌, ◌++◌, refl, sym, ◌∙◌, ap, subst, inl, inr, ne_eqb, Some, None}
use Rattle.std.proofs.lemmas.Bool.Decides.{eqb_tells}
use Rattle.std.specs.List.{filter}
use Rattle.std.specs.Option.{option_map}
use Rattle.lapin_tables.specs.ByChannel.{at_channel, on_channel}
use Rattle.lapin_types.specs.declared.leaving.Publish.{Publish}
use Rattle.lapin_rules.specs.declared.phases.ChannelPhase.{ChannelPhase}
use Rattle.lapin_rules.specs.declared.phases.ChannelPhase.TheVariants as phase
use Rattle.lapin_rules.specs.declared.phases.ConnectionPhase.{ConnectionPhase}
use Rattle.lapin_rules.specs.Words.{with_channel}
use Rattle.lapin_rules.specs.Phases.{is_up, is_live, phase_in}
use Rattle.lapin_rules.specs.ChannelClose.{close_sent}
use Rattle.lapin_rules.specs.Frames.{RestEntry}
use Rattle.lapin_rules.specs.Drops.{frame_channel, is_off, is_rest_of, publish_channel}
use Rattle.lapin_laws.specs.Unbroken.{is_method}
use Rattle.lapin_rules.proofs.ChannelLaws.{at-on, at-with}

abbrev pub live_at : ℕ → List (ℕ × ChannelPhase) → Bool
live_at c ps = is_live (phase_in (at_channel c ps))

-- the connection is open, and the channel has a live opening
abbrev pub Alive : ConnectionPhase → List (ℕ × ChannelPhase) → ℕ → Type 0
Alive l ps c = (is_up l ≡ true) × (live_at c ps ≡ true)

abbrev pub Grows : ConnectionPhase → List (ℕ × ChannelPhase) → ConnectionPhase → List (ℕ × ChannelPhase) → Type 0
Grows l ps m qs = (c : ℕ) → Alive l ps c → Alive m qs c

pub live-with : (c d : ℕ) (p : ChannelPhase) (ps : List (ℕ × ChannelPhase)) → live_at d (with_channel c p ps) ≡ cond (c == d) (is_live p) (live_at d ps)
live-with c d p ps = ap (λ o. is_live (phase_in o)) (at-with c d p ps) ∙ elim (c == d) as (λ b. is_live (phase_in (cond b (Some p) (at_channel d ps))) ≡ cond b (is_live p) (live_at d ps)) [ true ↦ refl | false ↦ refl ]

pub live-close_sent : (p : ChannelPhase) → is_live (close_sent p) ≡ is_live p
live-close_sent phase.Closed = refl
live-close_sent phase.Opening = refl
live-close_sent (phase.Open paused) = refl
live-close_sent (phase.Closing who sent) = refl
live-close_sent phase.Crossed = refl

pub live-sent : (c d : ℕ) (ps : List (ℕ × ChannelPhase)) → live_at d (on_channel c close_sent ps) ≡ live_at d ps
live-sent c d ps = ap (λ o. is_live (phase_in o)) (at-on c d close_sent ps) ∙ elim (c == d) as (λ b. is_live (phase_in (cond b (option_map close_sent (at_channel d ps)) (at_channel d ps))) ≡ live_at d ps) [
  | true ↦ elim (at_channel d ps) as (λ o. is_live (phase_in (option_map close_sent o)) ≡ is_live (phase_in o)) [ None ↦ refl | Some p ↦ live-close_sent p ]
  | false ↦ refl
]

-- a channel gets a live opening, or keeps it
pub grows-with : (c : ℕ) (p : ChannelPhase) (l : ConnectionPhase) (ps : List (ℕ × ChannelPhase)) → is_live p ≡ true → Grows l ps l (with_channel c p ps)
grows-with c p l ps h d a = (a.0, live-with c d p ps ∙ rw (h, a.1) (elim (c == d) as (λ b. cond b true true ≡ true) [ true ↦ refl | false ↦ refl ]))

-- a channel without a live opening stays without one
pub grows-dead : (c : ℕ) (p : ChannelPhase) (l : ConnectionPhase) (ps : List (ℕ × ChannelPhase)) → live_at c ps ≡ false → Grows l ps l (with_channel c p ps)
grows-dead c p l ps h d a = elim (eqb_tells c d) [
  | inl y ↦ let x : true ≡ false = sym a.1 ∙ (ap (λ k. live_at k ps) (sym y.1) ∙ h) in absurd cc
  | inr n ↦ (a.0, live-with c d p ps ∙ rw n.0 a.1)
]

-- ---- publishes

abbrev pub AreAlive : ConnectionPhase → List (ℕ × ChannelPhase) → List Publish → Type 0
AreAlive l ps [] = Unit {0}
AreAlive l ps (q ∷ qs) = Alive l ps q.channel × AreAlive l ps qs

pub alive-grows : (l m : ConnectionPhase) (ps rs : List (ℕ × ChannelPhase)) (qs : List Publish) → Grows l ps m rs → AreAlive l ps qs → AreAlive m rs qs
alive-grows l m ps rs [] g h = tt
alive-grows l m ps rs (q ∷ qs) g h = (g q.channel h.0, alive-grows l m ps rs qs g h.1)

pub alive-filter : (f : Publish → Bool) (l : ConnectionPhase) (ps : List (ℕ × ChannelPhase)) (qs : List Publish) → AreAlive l ps qs → AreAlive l ps (filter f qs)
alive-filter f l ps [] h = tt
alive-filter f l ps (q ∷ qs) h = elim (f q) as (λ b. AreAlive l ps (cond b (q ∷ filter f qs) (filter f qs))) [ true ↦ (h.0, alive-filter f l ps qs h.1) | false ↦ alive-filter f l ps qs h.1 ]

pub alive-off : (c : ℕ) (p : ChannelPhase) (l : ConnectionPhase) (ps : List (ℕ × ChannelPhase)) (qs : List Publish) → AreAlive l ps qs → AreAlive l (with_channel c p ps) (filter (is_off publish_channel c) qs)
alive-off c p l ps [] h = tt
alive-off c p l ps (q ∷ qs) h = elim (eqb_tells q.channel c) [
  | inl y ↦ rw y.0 (alive-off c p l ps qs h.1)
  | inr n ↦ rw n.0 ((h.0.0, live-with c q.channel p ps ∙ rw (ne_eqb c q.channel (λ e. n.1 (sym e))) h.0.1), alive-off c p l ps qs h.1)
]

pub alive-push : (l : ConnectionPhase) (ps : List (ℕ × ChannelPhase)) (qs : List Publish) (q : Publish) → AreAlive l ps qs → Alive l ps q.channel → AreAlive l ps (qs ++ q ∷ [])
alive-push l ps [] q h a = (a, tt)
alive-push l ps (x ∷ xs) q h a = (h.0, alive-push l ps xs q h.1 a)

pub none_alive : (l : ConnectionPhase) (ps : List (ℕ × ChannelPhase)) (qs : List Publish) → is_up l ≡ false → AreAlive l ps qs → qs ≡ []
none_alive l ps [] d h = refl
none_alive l ps (q ∷ qs) d h = let x : true ≡ false = sym h.0.0 ∙ d in absurd cc

-- ---- the begun publish

abbrev pub AreOn : ℕ → List RestEntry → Type 0
AreOn c [] = Unit {0}
AreOn c (f ∷ fs) = (frame_channel f.frame ≡ c) × (is_method f.frame ≡ false) × AreOn c fs

-- its frames have one ticket, and the last is marked
abbrev pub IsBegun : List RestEntry → Type 0
IsBegun [] = Unit {0}
IsBegun (f ∷ []) = f.last ≡ true
IsBegun (f ∷ g ∷ gs) = (f.ticket ≡ g.ticket) × IsBegun (g ∷ gs)

-- its frames are no methods, and on one channel, which is alive
abbrev pub IsRestAlive : ConnectionPhase → List (ℕ × ChannelPhase) → List RestEntry → Type 0
IsRestAlive l ps [] = Unit {0}
IsRestAlive l ps (f ∷ fs) = Alive l ps (frame_channel f.frame) × (is_method f.frame ≡ false) × AreOn (frame_channel f.frame) fs × IsBegun (f ∷ fs)

pub rest-grows : (l m : ConnectionPhase) (ps rs : List (ℕ × ChannelPhase)) (fs : List RestEntry) → Grows l ps m rs → IsRestAlive l ps fs → IsRestAlive m rs fs
rest-grows l m ps rs [] g h = tt
rest-grows l m ps rs (f ∷ fs) g h = (g (frame_channel f.frame) h.0, h.1, h.2, h.3)

pub rest-off : (c : ℕ) (p : ChannelPhase) (l : ConnectionPhase) (ps : List (ℕ × ChannelPhase)) (fs : List RestEntry) → IsRestAlive l ps fs → IsRestAlive l (with_channel c p ps) (cond (is_rest_of c fs) [] fs)
rest-off c p l ps [] h = tt
rest-off c p l ps (f ∷ fs) h = elim (eqb_tells (frame_channel f.frame) c) [
  | inl y ↦ rw y.0 tt
  | inr n ↦ rw n.0 ((h.0.0, live-with c (frame_channel f.frame) p ps ∙ rw (ne_eqb c (frame_channel f.frame) (λ e. n.1 (sym e))) h.0.1), h.1, h.2, h.3)
]

pub rest-tail : (l : ConnectionPhase) (ps : List (ℕ × ChannelPhase)) (f : RestEntry) (fs : List RestEntry) → IsRestAlive l ps (f ∷ fs) → IsRestAlive l ps fs
rest-tail l ps f [] h = tt
rest-tail l ps f (g ∷ gs) h = let P : ℕ → Type 0 = λ c. AreOn c gs in ((h.0.0, ap (λ c. live_at c ps) h.2.0 ∙ h.0.1), h.2.1, subst P (sym h.2.0) h.2.2, h.3.1)

pub none_begun : (l : ConnectionPhase) (ps : List (ℕ × ChannelPhase)) (fs : List RestEntry) → is_up l ≡ false → IsRestAlive l ps fs → fs ≡ []
none_begun l ps [] d h = refl
none_begun l ps (f ∷ fs) d h = let x : true ≡ false = sym h.0.0 ∙ d in absurd cc
