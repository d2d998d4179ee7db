-- How the events are dealt to the callers, and how a caller's log grows.
use Rattle.std.proofs.Common.{◌≡◌, ℕ, ◌+◌, ◌<◌, List, [], ◌∷◌, ◌++◌, map, length, refl, sym, ◌∙◌, ap, arith, subst, append_assoc, get_or}
use Rattle.std.specs.Prelude.{◌%◌, reverse, slice_set, zero, suc}
use Rattle.std.proofs.lemmas.List.{map-append, reverse-append}
use Rattle.lapin_types.specs.declared.event.Event.{Event}
use Rattle.lapin_locked.specs.declared.entry.Told.{Told}
use Rattle.lapin_shared.specs.Grown.{Seen, Grew, AreFresh}
use Rattle.lapin_shared.specs.Own.{event_of}
use Rattle.lapin_shared_commands.specs.declared.shifts.Shift.{Shift}
use Rattle.lapin_shared_commands.specs.Dealt.{caller_of, AreDealt, AreIdle}
use Rattle.lapin_shared_commands.proofs.Shares.{dealt_hit, dealt_miss}

pub grew_events : (old new : Seen) (t : Told) → Grew old new t → map event_of new.log ≡ map event_of old.log ++ t.event ∷ []
grew_events old new t g = ap (map event_of) g.1 ∙ map-append event_of old.log (t ∷ [])

pub reverse_snoc : (es : List Event) (e : Event) → reverse (es ++ e ∷ []) ≡ e ∷ reverse es
reverse_snoc es e = reverse-append es (e ∷ [])

-- callers without an event, before any is dealt
pub idle_dealt : {L : Type 0} (n k i : ℕ) (ss : List (Shift L)) → AreFresh i (map caller_of ss) → AreIdle ss → AreDealt n k [] i ss
idle_dealt n k i [] f none = tt
idle_dealt n k i (s ∷ ss) f none = (
  f.0,
  f.1,
  ap reverse none.0,
  idle_dealt n k (i + 1) ss f.2 none.1,
)

-- callers behind the one that an event falls to
behind : {L : Type 0} (n k : ℕ) (e : Event) (es : List Event) (i : ℕ) (ss : List (Shift L)) → k % n + 1 < i → AreDealt n (k + 1) es i ss → AreDealt n k (e ∷ es) i ss
behind n k e es i [] lt d = tt
behind n k e es i (s ∷ ss) lt d = (
  d.0,
  d.1,
  d.2 ∙ sym (dealt_miss n i k e es (omega (arith, lt))),
  behind n k e es (i + 1) ss (omega (arith, lt)) d.3,
)

-- an event more, put before those of the caller that it falls to
pub dealt_on : {L : Type 0} (n k : ℕ) (e : Event) (es : List Event) (i j : ℕ) (ss : List (Shift L)) (d s : Shift L) → k % n + 1 ≡ i + j → j < length ss
    → s.caller ≡ (get_or ss j d).caller → s.events.items ≡ (get_or ss j d).events.items ++ e ∷ [] → AreDealt n (k + 1) es i ss → AreDealt n k (e ∷ es) i (slice_set ss j s)
dealt_on n k e es i j [] d s is lt same more a = absurd (omega (arith, lt))
dealt_on n k e es i zero (x ∷ xs) d s is lt same more a = (
  ap (λ c. c.number) same ∙ a.0,
  ap (λ c. c.log) same ∙ a.1,
  ap reverse more ∙ reverse_snoc x.events.items e ∙ ap (λ l. e ∷ l) a.2 ∙ sym (dealt_hit n i k e es (omega (arith, is))),
  behind n k e es (i + 1) xs (omega (arith, is)) a.3,
)
dealt_on n k e es i (suc j) (x ∷ xs) d s is lt same more a = (
  a.0,
  a.1,
  a.2 ∙ sym (dealt_miss n i k e es (omega (arith, is))),
  dealt_on n k e es (i + 1) j xs d s (omega (arith, is)) (omega (arith, lt)) same more a.3,
)

pub length_set : {L : Type 0} (ss : List (Shift L)) (j : ℕ) (s : Shift L) → length (slice_set ss j s) ≡ length ss
length_set [] j s = refl
length_set (x ∷ xs) zero s = refl
length_set (x ∷ xs) (suc j) s = ap suc (length_set xs j s)

idle_snoc : {L : Type 0} (ss : List (Shift L)) (s : Shift L) → s.events.items ≡ [] → AreIdle ss → AreIdle (ss ++ s ∷ [])
idle_snoc [] s none a = (none, tt)
idle_snoc (x ∷ xs) s none a = (a.0, idle_snoc xs s none a.1)

pub idle_more : {L : Type 0} (ss ts : List (Shift L)) (s : Shift L) → ts ≡ ss ++ s ∷ [] → s.events.items ≡ [] → AreIdle ss → AreIdle ts
idle_more {L = L} ss ts s is none a =
    let P : List (Shift L) → Type 0 = λ l. AreIdle l in
    subst P (sym is) (idle_snoc ss s none a)

pub callers_more : {L : Type 0} (ss ts : List (Shift L)) (s : Shift L) (c : Seen) (rest all : List Seen) → ts ≡ ss ++ s ∷ [] → s.caller ≡ c
    → map caller_of ss ++ c ∷ rest ≡ all → map caller_of ts ++ rest ≡ all
callers_more ss ts s c rest all is same was =
    let more : map caller_of ts ≡ map caller_of ss ++ s.caller ∷ [] = ap (map caller_of) is ∙ map-append caller_of ss (s ∷ []) in
    ap (λ l. l ++ rest) more ∙ append_assoc (map caller_of ss) (s.caller ∷ []) rest ∙ ap (λ x. map caller_of ss ++ x ∷ rest) same ∙ was
