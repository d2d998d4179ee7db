-- All working callers together, and the cards in the order of their places.
use Rattle.std.proofs.Common.{◌≡◌, ◌∙◌, ℕ, ◌++◌, ◌⊎◌, inl, inr, Bool, true, false, eqb, List, [], ◌∷◌, map, length, refl, sym, ap, subst, arith, Option, Some, None, append_assoc}
use Rattle.std.specs.Prelude.{reverse, option_to_list}
use Rattle.std.specs.List.{All, Contains, IsDistinct}
use Rattle.std.specs.List.Sorted.{IsNonDecreasing, IsPermutation}
use Rattle.std.proofs.lemmas.Bool.{eq-eqb}
use Rattle.std.proofs.lemmas.Bool.Decides.{nat_tests}
use Rattle.std.proofs.lemmas.List.{map-append, reverse-append, length-map, length-reverse}
use Rattle.std.proofs.lemmas.List.Elements.{All-contains, All-from_recursion, Contains-append_left, Contains-append_right, Contains-append_cases}
use Rattle.std.proofs.lemmas.List.Sorted.{IsPermutation-refl, IsPermutation-sym, IsPermutation-trans, IsPermutation-map, IsPermutation-reverse, IsPermutation-append_left, IsPermutation-append_right, IsPermutation-append_comm, Contains-permutation}
use Rattle.std.proofs.lemmas.Map.Keys.{IsDistinct-head, IsDistinct-tail, IsDistinct-IsPermutation, IsStrictlyIncreasing-from_distinct}
use Rattle.lapin_types.specs.declared.message.Delivery.{Delivery}
use Rattle.lapin_types.specs.declared.record.Record.{Record}
use Rattle.lapin_acker.specs.declared.verdict.Verdict.{Verdict}
use Rattle.lapin_locked.specs.declared.entry.Entry.{Entry}
use Rattle.lapin_locked.specs.declared.entry.Told.{Told}
use Rattle.lapin_shared.specs.Grown.{Seen, Rise, AreApart, number_of}
use Rattle.lapin_shared.specs.Checked.{IsAt, AllAt}
use Rattle.lapin_pool.specs.declared.card.Card.{Card}
use Rattle.lapin_pool.specs.Turns.{Standing}
use Rattle.lapin_pool.specs.Pooled.{AllEnded, HaveWorked, seen_of, all_cards, all_unread}
use Rattle.lapin_pool.specs.Unread.{at_place, card_in, unread_cards}
use Rattle.lapin_pool.specs.Pool.{Stint, before_of, after_of, IsFinished, StandsAt, jobs, IsCard, HasDone, TookNothing, EndsThere, place_of, IsPool}
use Rattle.lapin_pool.proofs.Members.{no_member, member_cases, member_first, member_later, member_map, Apart, apart_append, distinct_places}
use Rattle.lapin_pool.proofs.Stints.{Stand, same_entry, among}
use Rattle.lapin_pool.proofs.Workers.{TellsNone, own_cards, Worked, worked}

-- ---- numbers of callers

distinct_behind : (xs ys : List ℕ) → IsDistinct eqb (xs ++ ys) → IsDistinct eqb ys
distinct_behind [] ys d = d
distinct_behind (x ∷ xs) ys d = distinct_behind xs ys (IsDistinct-tail eqb x (xs ++ ys) d)

flips : (x y : ℕ) → eqb x y ≡ eqb y x
flips x y = grind (arith, nat_tests)

-- the callers behind others in a list, the last one first
behind_apart : (front cs : List Seen) → AreApart (front ++ reverse cs) → IsDistinct eqb (map number_of cs)
behind_apart front cs d =
    let e = map-append number_of front (reverse cs) in
    IsDistinct-IsPermutation eqb flips (map number_of (reverse cs)) (map number_of cs) (IsPermutation-map number_of (reverse cs) cs (IsPermutation-sym cs (reverse cs) (IsPermutation-reverse cs)))
    (distinct_behind (map number_of front) (map number_of (reverse cs)) (subst (λ l. IsDistinct eqb l) e d))

other_number : (n m : ℕ) (ns : List ℕ) → IsDistinct eqb (n ∷ ns) → Contains ns m → n ≡ m → ⊥
other_number n m ns d c e =
    let f : eqb n m ≡ false = All-contains (λ k. eqb n k ≡ false) ns m (All-from_recursion (λ k. eqb n k ≡ false) ns (IsDistinct-head eqb n ns d)) c in
    let g : eqb n m ≡ true = eq-eqb n m e in absurd cc

-- ---- a team

-- what a caller did, among more cards
more_cards : (h : List Entry) (turns n : ℕ) (cs ds : List Card) (steps : List Told) → ((c : Card) → Contains cs c → Contains ds c) → HasDone h turns n cs steps → HasDone h turns n ds steps
more_cards h turns n cs ds steps more done = record {
  all = λ t d m took. let f = done.all t d m took in (f.0, more f.0 f.1, f.2);
  others = λ t m. among n cs ds t more (done.others t m);
  at_most = done.at_most;
  ended = ended done.ended;
} where
  nothing : (p : ℕ) (r : Record) → TookNothing cs p r → TookNothing ds p r
  nothing p r (inl none) = inl none
  nothing p r (inr (inl other)) = inr (inl other)
  nothing p r (inr (inr (c, m, place, verdict))) = inr (inr (c, more c m, place, verdict))

  ended : (jobs h steps ≡ turns) ⊎ EndsThere h cs steps → (jobs h steps ≡ turns) ⊎ EndsThere h ds steps
  ended (inl is) = inl is
  ended (inr (front, t, x, e, job, stands, none)) = inr (front, t, x, e, job, stands, nothing t.place x.answer none)

-- the cards of all
abbrev pub team_cards : List Entry → List Standing → List Card
team_cards h [] = []
team_cards h (s ∷ ss) = own_cards h s ++ team_cards h ss

record Team (may : Delivery → Verdict → Type 0) (h : List Entry) (turns : ℕ) (olds news : List Standing) : Type 0 where
  stints : List Stint
  befores : map before_of stints ≡ map seen_of olds
  afters : map after_of stints ≡ map seen_of news
  each : (k : Card) → Contains (team_cards h news) k → (s : Stint) × Contains stints s × IsCard may h s.before.number s.steps k
  done : (s : Stint) → Contains stints s → HasDone h turns s.before.number (team_cards h news) s.steps
  apart : Apart (team_cards h news)

no_team : (may : Delivery → Verdict → Type 0) (h : List Entry) (turns : ℕ) → Team may h turns [] []
no_team may h turns = record {
  stints = [];
  befores = refl;
  afters = refl;
  each = λ k m. absurd (no_member k m);
  done = λ s m. absurd (no_member s m);
  apart = tt;
}

more_team : (may : Delivery → Verdict → Type 0) (h : List Entry) (turns : ℕ) (a c : Standing) (olds news : List Standing) → IsDistinct eqb (map number_of (map seen_of (a ∷ olds)))
    → Worked may h turns a c → Team may h turns olds news → Team may h turns (a ∷ olds) (c ∷ news)
more_team may h turns a c olds news differ w t =
    let own = own_cards h c in
    let rest = team_cards h news in
    let same : w.stint.before.number ≡ a.seen.number = ap (λ (s : Seen). s.number) w.before in
    let mine : (k : Card) → Contains own k → IsCard may h w.stint.before.number w.stint.steps k = λ k m. subst (λ n. IsCard may h n w.stint.steps k) (sym same) (w.each k m) in
    record {
      stints = w.stint ∷ t.stints;
      befores = ap (λ s. s ∷ map before_of t.stints) w.before ∙ ap (λ l. a.seen ∷ l) t.befores;
      afters = ap (λ s. s ∷ map after_of t.stints) w.after ∙ ap (λ l. c.seen ∷ l) t.afters;
      each = λ k m. elim (Contains-append_cases own rest k m) as (λ _. (s : Stint) × Contains (w.stint ∷ t.stints) s × IsCard may h s.before.number s.steps k) [
        | inl first ↦ (w.stint, member_first w.stint t.stints, mine k first)
        | inr later ↦ let f = t.each k later in (f.0, member_later w.stint t.stints f.0 f.1, f.2)
      ];
      done = λ s m. elim (member_cases w.stint t.stints s m) as (λ _. HasDone h turns s.before.number (own ++ rest) s.steps) [
        | inl e ↦ subst (λ (x : Stint). HasDone h turns x.before.number (own ++ rest) x.steps) e
            (subst (λ n. HasDone h turns n (own ++ rest) w.stint.steps) (sym same)
            (more_cards h turns a.seen.number own (own ++ rest) w.stint.steps (λ k i. Contains-append_left own rest k i) w.done))
        | inr later ↦ more_cards h turns s.before.number rest (own ++ rest) s.steps (λ k i. Contains-append_right own rest k i) (t.done s later)
      ];
      apart = apart_append own rest w.apart t.apart (λ k d m i e.
          let x = w.each k m in
          let f = t.each d i in
          let y = f.2 in
          let entries : x.entry ≡ y.entry = same_entry h d.place x.entry y.entry (subst (λ p. StandsAt h p x.entry) e x.stands) y.stands in
          let numbers : a.seen.number ≡ f.0.before.number = sym x.own ∙ ap (λ (z : Entry). z.caller) entries ∙ y.own in
          let there : Contains (map number_of (map seen_of olds)) f.0.before.number =
          member_map number_of (map seen_of olds) f.0.before (subst (λ l. Contains l f.0.before) t.befores (member_map before_of t.stints f.0 f.1)) in
          other_number a.seen.number f.0.before.number (map number_of (map seen_of olds)) differ there numbers);
    }

team : (may : Delivery → Verdict → Type 0) (h : List Entry) (turns : ℕ) (olds news : List Standing) → TellsNone h → AllEnded may turns olds news
    → ((c : Standing) → Contains news c → Stand h c.seen.number c.seen.log × Rise 0 c.seen.log) → IsDistinct eqb (map number_of (map seen_of olds)) → Team may h turns olds news
team may h turns [] [] tells e stand d = no_team may h turns
team may h turns [] (c ∷ news) tells e stand d = absurd e
team may h turns (a ∷ olds) [] tells e stand d = absurd e
team may h turns (a ∷ olds) (c ∷ news) tells (no_cards, none, ended, rest) stand d =
    let s = stand c (member_first c news) in
    more_team may h turns a c olds news d (worked may h turns ended.0 a c tells no_cards none s.0 s.1 ended.1)
    (team may h turns olds news tells rest (λ x m. stand x (member_later c news x m)) (IsDistinct-tail eqb a.seen.number (map number_of (map seen_of olds)) d))

-- ---- the cards of all, in another order

unread_append : (h : List Entry) (xs ys : List ℕ) → unread_cards h (xs ++ ys) ≡ unread_cards h xs ++ unread_cards h ys
unread_append h [] ys = refl
unread_append h (x ∷ xs) ys = ap (λ l. option_to_list (card_in x (at_place h x)) ++ l) (unread_append h xs ys)
    ∙ sym (append_assoc (option_to_list (card_in x (at_place h x))) (unread_cards h xs) (unread_cards h ys))

reverse_one : (u : Option ℕ) → reverse (option_to_list u) ≡ option_to_list u
reverse_one None = refl
reverse_one (Some p) = refl

dealt_cards : (h : List Entry) (ss : List Standing) → IsPermutation (team_cards h ss) (all_cards ss ++ unread_cards h (reverse (all_unread ss)))
dealt_cards h [] = IsPermutation-refl []
dealt_cards h (s ∷ ss) =
    let c = s.cards in
    let d = unread_cards h (option_to_list s.unread) in
    let a = all_cards ss in
    let b = unread_cards h (reverse (all_unread ss)) in
    let turned : unread_cards h (reverse (all_unread ss ++ option_to_list s.unread)) ≡ d ++ b =
    ap (unread_cards h) (reverse-append (all_unread ss) (option_to_list s.unread) ∙ ap (λ l. l ++ reverse (all_unread ss)) (reverse_one s.unread)) ∙ unread_append h (option_to_list s.unread) (reverse (all_unread ss)) in
    let front : (c ++ d) ++ (a ++ b) ≡ ((c ++ d) ++ a) ++ b = sym (append_assoc (c ++ d) a b) in
    let back : (a ++ (c ++ d)) ++ b ≡ (a ++ c) ++ (d ++ b) = ap (λ l. l ++ b) (sym (append_assoc a c d)) ∙ append_assoc (a ++ c) d b in
    let moved : IsPermutation (((c ++ d) ++ a) ++ b) ((a ++ (c ++ d)) ++ b) = IsPermutation-append_left b ((c ++ d) ++ a) (a ++ (c ++ d)) (IsPermutation-append_comm (c ++ d) a) in
    let whole : IsPermutation ((c ++ d) ++ (a ++ b)) ((a ++ c) ++ (d ++ b)) =
    subst (λ l. IsPermutation ((c ++ d) ++ (a ++ b)) l) back (subst (λ l. IsPermutation l ((a ++ (c ++ d)) ++ b)) (sym front) moved) in
    let rest : IsPermutation ((c ++ d) ++ team_cards h ss) ((c ++ d) ++ (a ++ b)) = IsPermutation-append_right (c ++ d) (team_cards h ss) (a ++ b) (dealt_cards h ss) in
    subst (λ l. IsPermutation ((c ++ d) ++ team_cards h ss) ((a ++ c) ++ l)) (sym turned) (IsPermutation-trans ((c ++ d) ++ team_cards h ss) ((c ++ d) ++ (a ++ b)) ((a ++ c) ++ (d ++ b)) rest whole)

-- ---- the pool

map_reverse : {X Y : Type 0} → (f : X → Y) (xs : List X) → map f (reverse xs) ≡ reverse (map f xs)
map_reverse f [] = refl
map_reverse f (x ∷ xs) =
    ap (map f) (reverse-append (x ∷ []) xs) ∙ map-append f (reverse xs) (x ∷ []) ∙ ap (λ l. l ++ f x ∷ []) (map_reverse f xs) ∙ sym (reverse-append (f x ∷ []) (map f xs))

stood : (h : List Entry) (cs : List Seen) (c : Seen) → All (λ s. AllAt h s) cs → All (λ (s : Seen). Rise 0 s.log) cs → Contains cs c → Stand h c.number c.log × Rise 0 c.log
stood h cs c at rise m = (
  λ t i. All-contains (λ u. IsAt h c.number u) c.log t (All-contains (λ s. AllAt h s) cs c at m) i,
  All-contains (λ (s : Seen). Rise 0 s.log) cs c rise m,
)

-- who worked and was taken back leaves a pool
pub pooled : (may : Delivery → Verdict → Type 0) (frame_max turns workers : ℕ) (olds : List Seen) (h : List Entry) (cards : List Card) (unread : List ℕ) (news : List Seen) (ends : List Card)
    → AreApart olds → HaveWorked may turns workers olds cards unread news → TellsNone h → IsFinished frame_max h news → IsPermutation (cards ++ unread_cards h (reverse unread)) ends
    → IsNonDecreasing (map place_of ends) → IsPool may frame_max turns workers olds h ends
pooled may frame_max turns workers olds h cards unread news ends apart w tells finished moved sorted =
    let seen = map seen_of w.after in
    let stand = λ (c : Standing) (m : Contains w.after c). stood h news c.seen finished.stand finished.rise
    (subst (λ l. Contains l c.seen) (sym w.news_are) (Contains-append_right w.idle (reverse seen) c.seen
    (Contains-permutation seen (reverse seen) c.seen (IsPermutation-reverse seen) (member_map seen_of w.after c m)))) in
    let differ = behind_apart w.idle (map seen_of w.before) (subst (λ l. AreApart l) w.olds_are apart) in
    let t = team may h turns w.before w.after tells w.worked stand differ in
    let all = team_cards h w.after in
    let same : cards ++ unread_cards h (reverse unread) ≡ all_cards w.after ++ unread_cards h (reverse (all_unread w.after)) =
    ap (λ l. l ++ unread_cards h (reverse unread)) w.cards_are ∙ ap (λ l. all_cards w.after ++ unread_cards h (reverse l)) w.unread_are in
    let perm : IsPermutation all ends =
    IsPermutation-trans all (cards ++ unread_cards h (reverse unread)) ends (subst (λ l. IsPermutation all l) (sym same) (dealt_cards h w.after)) moved in
    let stints = reverse t.stints in
    let turned : IsPermutation t.stints stints = IsPermutation-reverse t.stints in
    let ends_are : news ≡ w.idle ++ map after_of stints = w.news_are ∙ ap (λ l. w.idle ++ l) (ap reverse (sym t.afters) ∙ sym (map_reverse after_of t.stints)) in
    record {
      idle = w.idle;
      stints = stints;
      olds_are = w.olds_are ∙ ap (λ l. w.idle ++ l) (ap reverse (sym t.befores) ∙ sym (map_reverse before_of t.stints));
      many = length-reverse t.stints ∙ sym (length-map t.stints before_of) ∙ ap length t.befores ∙ length-map w.before seen_of ∙ w.many;
      finished = subst (λ l. IsFinished frame_max h l) ends_are finished;
      rising = IsStrictlyIncreasing-from_distinct (map place_of ends) sorted
          (IsDistinct-IsPermutation eqb flips (map place_of all) (map place_of ends) (IsPermutation-map place_of all ends perm) (distinct_places all t.apart));
      each = λ k m. let f = t.each k (Contains-permutation ends all k (IsPermutation-sym all ends perm) m) in (f.0, Contains-permutation t.stints stints f.0 turned f.1, f.2);
      done = λ s m. more_cards h turns s.before.number all ends s.steps (λ k i. Contains-permutation all ends k perm i)
          (t.done s (Contains-permutation stints t.stints s (IsPermutation-sym t.stints stints turned) m));
    }
