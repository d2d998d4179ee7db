-- The first caller made the events and the others worked: what stands of both in the history.
use Rattle.std.proofs.Common.{◌≡◌, ◌∙◌, ℕ, ◌+◌, ◌-◌, ◌^◌, ◌<◌, ◌≤◌, ◌++◌, inl, inr, Bool, true, false, ◌&&◌, List, [], ◌∷◌, map, length, refl, sym, ap, subst, arith, length-append, Result, Ok, Err, IfOk}
use Rattle.std.specs.Prelude.{slice_get, slice_set, if◌then◌else◌}
use Rattle.std.specs.List.{All, Contains, sum_by}
use Rattle.std.proofs.lemmas.List.{length-map}
use Rattle.std.proofs.lemmas.List.Sums.{sum_by-cons}
use Rattle.std.proofs.lemmas.List.Elements.{All-head, All-tail, Contains-append_right}
use Rattle.lapin_types.specs.declared.event.Event.{Event}
use Rattle.lapin_locked.specs.declared.entry.Entry.{Entry}
use Rattle.lapin_locked.specs.declared.entry.Told.{Told}
use Rattle.lapin_shared.specs.Grown.{Seen, Rise, AreFresh, AreApart}
use Rattle.lapin_shared.specs.Checked.{AllAt}
use Rattle.lapin_shared.specs.Own.{own, event_of, AreBack, logged}
use Rattle.lapin_shared.proofs.Apart.{Numbered, fresh_numbered, numbered_apart}
use Rattle.lapin_shared.proofs.Counting.{interleaves}
use Rattle.lapin_pool.specs.declared.card.Card.{Card}
use Rattle.lapin_pool.specs.declared.card.PoolEnd.{PoolEnd}
use Rattle.lapin_pool.specs.Pool.{Stint, before_of, after_of, is_next_job, tells_in, jobs, EndsThere, HasDone, IsPool}
use Rattle.lapin_pool.proofs.Members.{no_member, member_cases, member_map}
use Rattle.lapin_pool_commands.specs.First.{IsFirst}
use Rattle.lapin_pool_commands.specs.Left.{most_turns, by_first_byte, HaveBegun, IsLeft}

-- ---- numbers

begun_numbered : (n : ℕ) (es : List Event) (cs : List Seen) → HaveBegun n es cs → Numbered 1 cs
begun_numbered n es [] b = absurd b
begun_numbered n es (c ∷ cs) b = (b.0, fresh_numbered 2 cs b.2)

pub begun_apart : (n : ℕ) (es : List Event) (cs : List Seen) → HaveBegun n es cs → AreApart cs
begun_apart n es cs b = numbered_apart 1 cs (begun_numbered n es cs b)

pub begun_length : (n : ℕ) (es : List Event) (cs : List Seen) → HaveBegun n es cs → length cs ≡ n + 1
begun_length n es [] b = absurd b
begun_length n es (c ∷ cs) b = omega (arith, b.3)

-- fresh callers, of which the first made events
pub begun : (n : ℕ) (es : List Event) (olds news : List Seen) → AreFresh 1 olds → length olds ≡ n + 1 → IsFirst es olds news → HaveBegun n es news
begun n es [] news fresh many first = absurd first
begun n es (c ∷ cs) [] fresh many first = absurd first
begun n es (c ∷ cs) (d ∷ ds) fresh many first =
    let none : map event_of c.log ≡ [] = ap (map event_of) fresh.1 in
    (first.0 ∙ fresh.0, first.1 ∙ ap (λ l. l ++ es) none, subst (λ l. AreFresh 2 l) (sym first.2) fresh.2, omega (arith, ap length first.2, many))

-- the first of a list, written back
pub first_set : (es : List Event) (cs : List Seen) (c d : Seen) → 0 < length cs → ((e : Seen) (rest : List Seen) → cs ≡ e ∷ rest → (d.number ≡ e.number) × (map event_of d.log ≡ map event_of e.log ++ es))
    → IsFirst es cs (slice_set cs 0 d)
first_set es [] c d some made = absurd (omega arith)
first_set es (e ∷ rest) c d some made = let m = made e rest refl in (m.0, m.1, refl)

-- ---- the first caller's entries

numbers_on : (n : ℕ) (front : List Seen) (ss : List Stint) → Numbered n (front ++ map before_of ss) → Numbered n (front ++ map after_of ss)
numbers_on n [] [] d = tt
numbers_on n [] (s ∷ ss) d = (d.0, numbers_on (n + 1) [] ss d.1)
numbers_on n (c ∷ front) ss d = (d.0, numbers_on (n + 1) front ss d.1)

back : (h : List Entry) (n : ℕ) (cs : List Seen) → Numbered n cs → All (λ c. AllAt h c) cs → All (λ (c : Seen). Rise 0 c.log) cs → AreBack h n cs
back h n [] d at rise = tt
back h n (c ∷ cs) d at rise = (
  d.0,
  All-head (λ (x : Seen). Rise 0 x.log) c cs rise,
  All-head (λ x. AllAt h x) c cs at,
  back h (n + 1) cs d.1 (All-tail (λ x. AllAt h x) c cs at) (All-tail (λ (x : Seen). Rise 0 x.log) c cs rise),
)

logged_sum : (cs : List Seen) → sum_by (λ (c : Seen). length c.log) cs ≡ logged cs
logged_sum [] = refl
logged_sum (c ∷ cs) = sum_by-cons (λ (x : Seen). length x.log) c cs ∙ ap (λ k. length c.log + k) (logged_sum cs)

-- the first of the callers is none of those that worked
first_own : (es : List Event) (n frame_max : ℕ) (callers : List Seen) (h : List Entry) (cards : List Card) → HaveBegun n es callers → IsPool by_first_byte frame_max most_turns n callers h cards
    → own 1 h ≡ es
first_own es n frame_max callers h cards b p = by callers b p.idle p.olds_are refl where
  stints : List Stint
  stints = p.stints

  idle_one : (cs front : List Seen) → HaveBegun n es cs → cs ≡ front ++ map before_of stints → length front ≡ 1
  idle_one cs front begun e = omega (arith, begun_length n es cs begun, ap length e, length-append front (map before_of stints), length-map stints before_of, p.many)

  by : (cs : List Seen) → HaveBegun n es cs → (front : List Seen) → cs ≡ front ++ map before_of stints → p.idle ≡ front → own 1 h ≡ es
  by cs begun [] e is = absurd (omega (arith, idle_one cs [] begun e))
  by [] begun (c ∷ front) e is = absurd begun
  by (d ∷ cs) begun (c ∷ front) e is =
      let news = (c ∷ front) ++ map after_of stints in
      let same : d ≡ c = cc in
      let numbered : Numbered 1 news = numbers_on 1 (c ∷ front) stints (subst (λ l. Numbered 1 l) e (begun_numbered n es (d ∷ cs) begun)) in
      let ends : p.idle ++ map after_of stints ≡ news = ap (λ l. l ++ map after_of stints) is in
      let at : All (λ x. AllAt h x) news = subst (λ l. All (λ x. AllAt h x) l) ends p.finished.stand in
      let rise : All (λ (x : Seen). Rise 0 x.log) news = subst (λ l. All (λ (x : Seen). Rise 0 x.log) l) ends p.finished.rise in
      let count : length h ≡ logged news = p.finished.count ∙ ap (λ l. sum_by (λ (x : Seen). length x.log) l) ends ∙ logged_sum news in
      let mine = interleaves h news (back h 1 news numbered at rise) count in
      ap (λ k. own k h) (sym numbered.0) ∙ mine.0 ∙ ap (λ (x : Seen). map event_of x.log) (sym same) ∙ begun.1

-- ---- what ends a caller's work

at_most_one : (b : Bool) → (if b then 1 else 0) ≤ 1
at_most_one true = omega arith
at_most_one false = omega arith

few_jobs : (h : List Entry) (ts : List Told) → jobs h ts ≤ length ts
few_jobs h [] = omega arith
few_jobs h (t ∷ ts) = omega (arith, at_most_one (is_next_job t.event && tells_in (slice_get h (t.place - 1))), few_jobs h ts)

log_within : (cs : List Seen) (c : Seen) → Contains cs c → length c.log ≤ logged cs
log_within [] c m = absurd (no_member c m)
log_within (x ∷ xs) c m = elim (member_cases x xs c m) as (λ _. length c.log ≤ logged (x ∷ xs)) [
  | inl e ↦ omega (arith, ap (λ (y : Seen). length y.log) e)
  | inr later ↦ omega (arith, log_within xs c later)
]

steps_within : (h : List Entry) (front : List Seen) (ss : List Stint) (s : Stint) → length h ≡ sum_by (λ (c : Seen). length c.log) (front ++ map after_of ss) → Contains ss s → length s.steps ≤ length h
steps_within h front ss s count m =
    let there : Contains (front ++ map after_of ss) (after_of s) = Contains-append_right front (map after_of ss) (after_of s) (member_map after_of ss s m) in
    omega (arith, log_within (front ++ map after_of ss) (after_of s) there, count, logged_sum (front ++ map after_of ss), length-append s.before.log s.steps)

ends_there : (h : List Entry) (n : ℕ) (cards : List Card) (steps : List Told) → length steps < most_turns → HasDone h most_turns n cards steps → EndsThere h cards steps
ends_there h n cards steps few done = elim done.ended as (λ _. EndsThere h cards steps) [
  | inl is ↦ absurd (omega (arith, few_jobs h steps, few, is))
  | inr there ↦ there
]

-- ---- all

pub left : (frame_max n : ℕ) (es : List Event) (callers : List Seen) (h : List Entry) (cards : List Card) → HaveBegun n es callers → IsPool by_first_byte frame_max most_turns n callers h cards
    → length h < 2 ^ 64 - 1 → IsLeft frame_max n es h cards
left frame_max n es callers h cards b p few = record {
  callers = callers;
  begun = b;
  pool = p;
  first = first_own es n frame_max callers h cards b p;
  ended = λ s m. ends_there h s.before.number cards s.steps (omega (arith, steps_within h p.idle p.stints s p.finished.count m, few)) (p.done s m);
}

pub if_within : {E : Type 0} → (frame_max n : ℕ) (es : List Event) (callers : List Seen) (end : PoolEnd) (r : Result PoolEnd E) → HaveBegun n es callers
    → IsPool by_first_byte frame_max most_turns n callers end.history end.cards.items → IfOk r (λ e. (e ≡ end) × (length end.history < 2 ^ 64 - 1))
    → IfOk r (λ e. IsLeft frame_max n es e.history e.cards.items)
if_within frame_max n es callers end (Ok e) b p (is, few) =
    subst (λ (x : PoolEnd). IsLeft frame_max n es x.history x.cards.items) (sym is) (left frame_max n es callers end.history end.cards.items b p few)
if_within frame_max n es callers end (Err e) b p h = tt
