-- Which openings live after an event, and where one that lived is over.
use Rattle.std.proofs.Common.{◌≡◌, ◌∙◌, ℕ, ◌+◌, ◌<◌, ◌==◌, true, false, ◌||◌, List, [], ◌∷◌, ◌⊎◌, inl, inr, refl, sym, ap, subst, arith, eq-eqb}
use Rattle.std.specs.List.{list_any}
use Rattle.std.proofs.lemmas.Bool.{and_parts, both_ways}
use Rattle.std.proofs.lemmas.Bool.Decides.{eqb_tells}
use Rattle.lapin_types.specs.Types.{Error}
use Rattle.lapin_rules.specs.ConfirmMarks.{ConfirmMark}
use Rattle.lapin_rules.specs.ConfirmReadings as confirms
use Rattle.lapin_rules.specs.Ends.{ends, live_channels}
use Rattle.lapin_rules.specs.Phases.{is_up, is_live}
use Rattle.lapin_rules.specs.Words.{many}
use Rattle.lapin_rules.specs.Wire.{Wire, phase_of}
use Rattle.lapin_laws.specs.Outgoing.{is_channel}
use Rattle.lapin_laws.proofs.Cuts.{live-in}
use Rattle.lapin_types.specs.declared.leaving.Publish.{Publish}
use Rattle.lapin_effects.specs.Effects.{live, moves, Effect, Stays, Closes, Opens, Adds, Ends, Falls, Sinks}
use Rattle.lapin_verdicts.proofs.Opens.{unsent, effect_waits, still_none}
use Rattle.lapin_verdicts.proofs.Turns.{any-less}
use Rattle.lapin_messages.proofs.Deals.{ends_on, moves_end, all_begun}
use Rattle.lapin_verdicts.proofs.Keeping.{no_live}

-- ---- marks of the kinds

pub still_ends : (c : ℕ) (xs : List ConfirmMark) → list_any moves xs ≡ false → list_any (ends_on c) xs ≡ false
still_ends c xs h = any-less moves (ends_on c) (moves_end c) xs h

all_ends : (e : Error) (cs : List ℕ) (c : ℕ) → list_any (ends_on c) (ends e cs) ≡ list_any (is_channel c) cs
all_ends e [] c = refl
all_ends e (d ∷ cs) c = ap (λ v. (d == c) || v) (all_ends e cs c)

-- ---- one channel

-- an opening that lived is over where its end is told
pub died : {b b' : Wire} {xs : List ConfirmMark} {new : List Publish} → Effect b b' xs new → (c : ℕ) → live c b ≡ true → live c b' ≡ false → list_any (ends_on c) xs ≡ true
died (Stays s p es m fit still none) c h k = absurd (both_ways _ (sym (s.lives c) ∙ k) h)
died (Closes d e s p m ms fit marks none) c h k = absurd (both_ways _ (sym (s.lives c) ∙ k) h)
died (Adds q up mx r l hear p ms here n pub_ marks is) c h k = absurd (both_ways _ (sym (l c) ∙ k) h)
died {b' = b'} (Opens d t s was now r p ms marks none) c h k = elim (eqb_tells d c) [
  | inl y ↦ absurd (both_ways _ k (subst (λ v. live v b' ≡ true) y.1 now))
  | inr n ↦ absurd (both_ways _ (sym (s.lives c n.0) ∙ k) h)
]
died (Ends d e s now r p es ms quiet marks none) c h k = elim (eqb_tells d c) [
  | inl y ↦ ap (list_any (ends_on c)) marks ∙ rw (y.0) refl
  | inr n ↦ absurd (both_ways _ (sym (s.lives c n.0) ∙ k) h)
]
died {b = b} (Falls e mx n dn r p q marks none) c h k = ap (list_any (ends_on c)) marks ∙ (all_ends e (live_channels b.phases) c ∙ live-in c b.phases (and_parts (is_up b.link) (is_live (phase_of c b)) h).1)
died {b = b} (Sinks mx n was dn r p q still none) c h k = absurd (both_ways _ (no_live c b was) h)

-- where its end is told none lives
pub ended_dead : {b b' : Wire} {xs : List ConfirmMark} {new : List Publish} → Effect b b' xs new → (c : ℕ) → list_any (ends_on c) xs ≡ true → live c b' ≡ true → ⊥
ended_dead {xs = xs} (Stays s p es m fit still none) c h k = both_ways _ (still_ends c xs still) h
ended_dead (Closes d e s p m ms fit marks none) c h k = both_ways _ (ap (list_any (ends_on c)) marks) h
ended_dead (Adds q up mx r l hear p ms here n pub_ marks is) c h k = both_ways _ (ap (list_any (ends_on c)) marks) h
ended_dead (Opens d t s was now r p ms marks none) c h k = both_ways _ (ap (list_any (ends_on c)) marks) h
ended_dead {b' = b'} (Ends d e s now r p es ms quiet marks none) c h k = elim (eqb_tells d c) [
  | inl y ↦ both_ways _ (subst (λ v. live v b' ≡ false) y.1 now) k
  | inr n ↦ both_ways ((d == c) || false) (ap (λ v. v || false) n.0) (sym (ap (list_any (ends_on c)) marks) ∙ h)
]
ended_dead {b' = b'} (Falls e mx n dn r p q marks none) c h k = both_ways _ (no_live c b' dn) k
ended_dead {b' = b'} (Sinks mx n was dn r p q still none) c h k = both_ways _ (no_live c b' dn) k

-- one that lives now lived, or began
pub lived : {b b' : Wire} {xs : List ConfirmMark} {new : List Publish} → Effect b b' xs new → (c : ℕ) → live c b' ≡ true → (live c b ≡ true) ⊎ (0 < many (confirms.begins c) xs)
lived (Stays s p es m fit still none) c k = inl (sym (s.lives c) ∙ k)
lived (Closes d e s p m ms fit marks none) c k = inl (sym (s.lives c) ∙ k)
lived (Adds q up mx r l hear p ms here n pub_ marks is) c k = inl (sym (l c) ∙ k)
lived {xs = xs} (Opens d t s was now r p ms marks none) c k = elim (eqb_tells d c) [
  | inl y ↦ inr (let one : many (confirms.begins c) xs ≡ 1 = ap (many (confirms.begins c)) marks ∙ rw (y.0) refl in omega (arith, one))
  | inr n ↦ inl (sym (s.lives c n.0) ∙ k)
]
lived {b' = b'} (Ends d e s now r p es ms quiet marks none) c k = elim (eqb_tells d c) [
  | inl y ↦ absurd (both_ways _ (subst (λ v. live v b' ≡ false) y.1 now) k)
  | inr n ↦ inl (sym (s.lives c n.0) ∙ k)
]
lived {b' = b'} (Falls e mx n dn r p q marks none) c k = absurd (both_ways _ (no_live c b' dn) k)
lived {b' = b'} (Sinks mx n was dn r p q still none) c k = absurd (both_ways _ (no_live c b' dn) k)

-- one begins where none lived
pub began : {b b' : Wire} {xs : List ConfirmMark} {new : List Publish} → Effect b b' xs new → (c : ℕ) → 0 < many (confirms.begins c) xs → live c b ≡ false
began {xs = xs} (Stays s p es m fit still none) c k = let z = still_none c xs still in let w : ⊥ = omega (arith, k, z) in absurd w
began {xs = xs} (Closes d e s p m ms fit marks none) c k = let z : many (confirms.begins c) xs ≡ 0 = ap (many (confirms.begins c)) marks in let w : ⊥ = omega (arith, k, z) in absurd w
began {xs = xs} (Adds q up mx r l hear p ms here n pub_ marks is) c k = let z : many (confirms.begins c) xs ≡ 0 = ap (many (confirms.begins c)) marks in let w : ⊥ = omega (arith, k, z) in absurd w
began {b = b} {xs = xs} (Opens d t s was now r p ms marks none) c k = elim (eqb_tells d c) [
  | inl y ↦ subst (λ v. live v b ≡ false) y.1 was
  | inr n ↦ (let z : many (confirms.begins c) xs ≡ 0 = ap (many (confirms.begins c)) marks ∙ rw (n.0) refl in let w : ⊥ = omega (arith, k, z) in absurd w)
]
began {xs = xs} (Ends d e s now r p es ms quiet marks none) c k = let z : many (confirms.begins c) xs ≡ 0 = ap (many (confirms.begins c)) marks in let w : ⊥ = omega (arith, k, z) in absurd w
began {b = b} {xs = xs} (Falls e mx n dn r p q marks none) c k = let z : many (confirms.begins c) xs ≡ 0 = ap (many (confirms.begins c)) marks ∙ all_begun e (live_channels b.phases) c in let w : ⊥ = omega (arith, k, z) in absurd w
began {b = b} (Sinks mx n was dn r p q still none) c k = no_live c b was

-- as many opens wait, and one more where one begins
pub still_waits : {b b' : Wire} {xs : List ConfirmMark} {new : List Publish} → Effect b b' xs new → (c : ℕ) → live c b' ≡ true → is_up b'.link ≡ true → unsent c b' ≡ unsent c b + many (confirms.begins c) xs
still_waits {b = b} {b' = b'} {xs = xs} {new = new} f c k u = (effect_waits c b b' xs new f (λ e is. absurd (ended_dead f c (ap (list_any (ends_on c)) is ∙ here c) k)) u).1
  where
    here : (c : ℕ) → ((c == c) || false) ≡ true
    here c = rw (eq-eqb c c refl) refl
