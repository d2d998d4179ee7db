-- What ends of openings cut of the begun publish.
use Rattle.std.proofs.Common.{◌≡◌, ℕ, zero, suc, ◌<◌, true, false, cond, ◌||◌, ◌==◌, List, [], ◌∷◌, ◌++◌, map, None, refl, sym, ◌∙◌, ap, subst, append_assoc, append-nil, inl, inr, ne_eqb, arith}
use Rattle.std.specs.List.{list_any}
use Rattle.std.proofs.lemmas.Bool.{cases_lt}
use Rattle.std.proofs.lemmas.Bool.Decides.{eqb_tells}
use Rattle.std.proofs.lemmas.List.Folds.{list_any-append}
use Rattle.std.proofs.Math.Bool.{or-true}
use Rattle.lapin_tables.specs.ByChannel.{at_channel}
use Rattle.lapin_types.specs.Types.{Frame, Error}
use Rattle.lapin_types.specs.declared.leaving.Publish.{Publish}
use Rattle.lapin_rules.specs.declared.phases.ChannelPhase.{ChannelPhase}
use Rattle.lapin_rules.specs.Phases.{is_live, phase_in}
use Rattle.lapin_rules.specs.Frames.{RestEntry}
use Rattle.lapin_rules.specs.Drops.{frame_channel, is_rest_of}
use Rattle.lapin_rules.specs.Ends.{beyond, live_below, live_channels, ends}
use Rattle.lapin_rules.proofs.EndLaws.{beyond-none}
use Rattle.lapin_laws.specs.Outgoing.{Point, Called, Ended, ended_in, is_channel}
use Rattle.lapin_laws.specs.Unbroken.{Parses, unless_on}
use Rattle.lapin_laws.proofs.Alive.{live_at}

abbrev pub frames_of : List RestEntry → List Frame
frames_of fs = map (λ f. f.frame) fs

-- what ends on these channels leave of the begun publish
abbrev pub cut_at : List ℕ → List Frame → List Frame
cut_at [] fs = fs
cut_at (c ∷ cs) fs = cut_at cs (unless_on c fs)

pub parses-ends : (n : ℕ) (cs : List ℕ) (ps : List Point) (fs : List Frame) (calls : List Publish) → Parses n ps (cut_at cs fs) calls → Parses n (map Ended cs ++ ps) fs calls
parses-ends n [] ps fs calls h = h
parses-ends n (c ∷ cs) ps fs calls h = parses-ends n cs ps (unless_on c fs) calls h

pub parses-calls : (n : ℕ) (qs : List Publish) (ps : List Point) (fs : List Frame) (calls : List Publish) → Parses n ps fs (calls ++ qs) → Parses n (map Called qs ++ ps) fs calls
parses-calls n [] ps fs calls h = rw append-nil at h
parses-calls n (q ∷ qs) ps fs calls h = parses-calls n qs ps fs (calls ++ q ∷ []) (subst (Parses n ps fs) (sym (append_assoc calls (q ∷ []) qs)) h)

-- one end
pub cut-rest : (c : ℕ) (fs : List RestEntry) → frames_of (cond (is_rest_of c fs) [] fs) ≡ unless_on c (frames_of fs)
cut-rest c [] = refl
cut-rest c (f ∷ fs) = elim (frame_channel f.frame == c) as (λ b. frames_of (cond b [] (f ∷ fs)) ≡ cond b [] (frames_of (f ∷ fs))) [ true ↦ refl | false ↦ refl ]

-- ---- several ends

pub cut-nil : (cs : List ℕ) → cut_at cs [] ≡ []
cut-nil [] = refl
cut-nil (c ∷ cs) = cut-nil cs

-- the opening of the begun publish is among those that end
pub cut-all : (f : Frame) (fs : List Frame) (cs : List ℕ) → list_any (is_channel (frame_channel f)) cs ≡ true → cut_at cs (f ∷ fs) ≡ []
cut-all f fs [] h = cc
cut-all f fs (c ∷ cs) h = elim (eqb_tells (frame_channel f) c) [
  | inl y ↦ let gone : unless_on c (f ∷ fs) ≡ [] = rw y.0 refl in ap (cut_at cs) gone ∙ cut-nil cs
  | inr n ↦
      let kept : unless_on c (f ∷ fs) ≡ f ∷ fs = rw n.0 refl in
      let other : (c == frame_channel f) ≡ false = ne_eqb c (frame_channel f) (λ e. n.1 (sym e)) in
      ap (cut_at cs) kept ∙ cut-all f fs cs (rw other at h)
]

-- ---- the channels whose openings end together

pub ended-ends : (e : Error) (cs : List ℕ) → ended_in (ends e cs) ≡ cs
ended-ends e [] = refl
ended-ends e (c ∷ cs) = ap (λ ds. c ∷ ds) (ended-ends e cs)

live-below : (n c : ℕ) (all : List (ℕ × ChannelPhase)) → c < n → live_at c all ≡ true → list_any (is_channel c) (live_below n all) ≡ true
live-below zero c all lt h = absurd (omega arith)
live-below (suc n) c all lt h =
    list_any-append (is_channel c) (live_below n all) (cond (live_at n all) (n ∷ []) []) ∙
    elim (eqb_tells n c) [
      | inl y ↦
          let live : live_at n all ≡ true = ap (λ k. live_at k all) y.1 ∙ h in
          let here : list_any (is_channel c) (cond (live_at n all) (n ∷ []) []) ≡ true = rw live (rw y.0 refl) in
          ap (λ b. list_any (is_channel c) (live_below n all) || b) here ∙ or-true (list_any (is_channel c) (live_below n all))
      | inr x ↦
          let less : c < n = omega (arith, lt, x.1) in
          ap (λ b. b || list_any (is_channel c) (cond (live_at n all) (n ∷ []) [])) (live-below n c all less h)
    ]

-- each channel with a live opening is among them
pub live-in : (c : ℕ) (all : List (ℕ × ChannelPhase)) → live_at c all ≡ true → list_any (is_channel c) (live_channels all) ≡ true
live-in c all h = elim (cases_lt c (beyond all)) [
  | inl less ↦ live-below (beyond all) c all less h
  | inr more ↦
      let none : at_channel c all ≡ None = beyond-none c all more in
      let z : true ≡ false = sym h ∙ ap (λ o. is_live (phase_in o)) none in absurd cc
]
