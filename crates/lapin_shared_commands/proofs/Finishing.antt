-- What the callers made is the history that a finished client gives.
use Rattle.std.proofs.Common.{◌≡◌, ℕ, ◌+◌, ◌<◌, ◌≤◌, List, [], ◌∷◌, ◌++◌, map, length, take, refl, sym, ◌∙◌, ap, arith, true, inl, inr}
use Rattle.std.specs.Prelude.{All, reverse, zero, suc}
use Rattle.std.specs.List.{sum_by}
use Rattle.std.proofs.lemmas.List.{length-map}
use Rattle.std.proofs.lemmas.List.Sums.{sum_by-cons}
use Rattle.std.proofs.lemmas.List.Elements.{All-head, All-tail}
use Rattle.lapin_types.specs.declared.event.Event.{Event}
use Rattle.lapin_locked.specs.declared.entry.Entry.{Entry}
use Rattle.lapin_shared.specs.Grown.{Seen, Rise}
use Rattle.lapin_shared.specs.Checked.{AllAt}
use Rattle.lapin_locked.specs.Lawful.{IsLawful}
use Rattle.lapin_shared.specs.Own.{own, event_of, AreBack, logged, AreOwn}
use Rattle.lapin_shared.proofs.Counting.{interleaves}
use Rattle.lapin_threads.specs.Each.{EachLeft}
use Rattle.lapin_shared_commands.specs.declared.shifts.Shift.{Shift}
use Rattle.lapin_shared_commands.specs.Dealt.{dealt, caller_of, AreDealt, MadeOwn, AreDone, IsDealt}
use Rattle.lapin_shared_commands.proofs.Shares.{test, spread, all_spread}

-- callers that made all that was dealt to them
pub left_done : {L : Type 0} (n : ℕ) (es : List Event) (i : ℕ) (xs ys : List (Shift L)) → EachLeft (λ x y. MadeOwn x true y) xs ys → AreDealt n 0 es i xs
    → AreDone n es i (map caller_of ys)
left_done n es i [] [] p d = tt
left_done n es i [] (y ∷ ys) p d = absurd p
left_done n es i (x ∷ xs) [] p d = absurd p
left_done n es i (x ∷ xs) (y ∷ ys) p d =
    let made : map event_of y.caller.log ≡ map event_of x.caller.log ++ reverse x.events.items = p.0.1 refl in
    let fresh : map event_of x.caller.log ++ reverse x.events.items ≡ dealt n i 0 es = ap (λ l. map event_of l ++ reverse x.events.items) d.1 ∙ d.2 in
    (p.0.0 ∙ d.0, made ∙ fresh, left_done n es (i + 1) xs ys p.1 d.3)

pub left_count : {T : Type 0} (P : T → T → Type 0) (xs ys : List T) → EachLeft P xs ys → length ys ≡ length xs
left_count P [] [] p = refl
left_count P [] (y ∷ ys) p = absurd p
left_count P (x ∷ xs) [] p = absurd p
left_count P (x ∷ xs) (y ∷ ys) p = ap suc (left_count P xs ys p.1)

done_back : (n : ℕ) (es : List Event) (h : List Entry) (i : ℕ) (cs : List Seen) → AreDone n es i cs → All (λ c. AllAt h c) cs → All (λ c. Rise 0 c.log) cs → AreBack h i cs
done_back n es h i [] d at rise = tt
done_back n es h i (c ∷ cs) d at rise = (
  d.0,
  All-head (λ (x : Seen). Rise 0 x.log) c cs rise,
  All-head (λ x. AllAt h x) c cs at,
  done_back n es h (i + 1) cs d.2 (All-tail (λ x. AllAt h x) c cs at) (All-tail (λ (x : Seen). Rise 0 x.log) c cs rise),
)

-- as many steps as events fall to these callers
done_logged : (n : ℕ) (es : List Event) (i : ℕ) (cs : List Seen) → AreDone n es i cs → logged cs ≡ spread n 0 es i (length cs)
done_logged n es i [] d = refl
done_logged n es i (c ∷ cs) d =
    let one : length (map event_of c.log) ≡ length (dealt n i 0 es) = ap length d.1 in
    let steps = length-map c.log event_of in
    let rest = done_logged n es (i + 1) cs d.2 in omega (arith, one, steps, rest)

logged_sum : (cs : List Seen) → sum_by (λ c. length c.log) cs ≡ logged cs
logged_sum [] = refl
logged_sum (c ∷ cs) = sum_by-cons (λ x. length x.log) c cs ∙ ap (λ k. length c.log + k) (logged_sum cs)

own_each : (n : ℕ) (es : List Event) (h : List Entry) (i : ℕ) (cs : List Seen) → AreDone n es i cs → AreOwn h cs → (j : ℕ) → i ≤ j → j < i + length cs → own j h ≡ dealt n j 0 es
own_each n es h i [] d o j le lt = absurd (omega arith)
own_each n es h i (c ∷ cs) d o j le lt =
    elim (test j i) as (λ _. own j h ≡ dealt n j 0 es) [
      | inl is ↦
          let here : own c.number h ≡ dealt n i 0 es = o.0 ∙ d.1 in
          let number : c.number ≡ j = d.0 ∙ sym is in
          ap (λ k. own k h) (sym number) ∙ here ∙ ap (λ k. dealt n k 0 es) (sym is)
      | inr other ↦ own_each n es h (i + 1) cs d.2 o.1 j (omega (arith, other)) (omega arith)
    ]

pub all_dealt : (frame_max n : ℕ) (es : List Event) (h : List Entry) (cs : List Seen) → 0 < n → length cs ≡ n → AreDone n es 1 cs → IsLawful frame_max h
    → length h ≡ sum_by (λ c. length c.log) cs → All (λ c. AllAt h c) cs → All (λ c. Rise 0 c.log) cs → IsDealt frame_max n es h
all_dealt frame_max n es h cs some many d lawful count at rise =
    let steps : length h ≡ logged cs = count ∙ logged_sum cs in
    let all : logged cs ≡ length es = done_logged n es 1 cs d ∙ ap (λ k. spread n 0 es 1 k) many ∙ all_spread n 0 es some in
    let mine : AreOwn h cs = interleaves h cs (done_back n es h 1 cs d at rise) steps in
    record {
      lawful = lawful;
      one_each = steps ∙ all;
      each = λ i from to. own_each n es h 1 cs d mine i from (omega (arith, many, to));
    }

-- a slice that was written back whole
pub written_back : {T : Type 0} (xs ys : List T) (n : ℕ) → length xs ≡ n → take n (xs ++ ys) ≡ xs
written_back [] ys zero is = refl
written_back [] ys (suc n) is = absurd (omega (arith, is))
written_back (x ∷ xs) ys zero is = absurd (omega (arith, is))
written_back (x ∷ xs) ys (suc n) is = ap (λ l. x ∷ l) (written_back xs ys n (omega (arith, is)))
