-- What a settlement does to the account is done by what it finds through the places of its channel, and by that alone.
use Rattle.std.proofs.Common.{◌≡◌, ◌≢◌, ◌⊎◌, ℕ, zero, suc, ◌+◌, ◌<◌, ◌≤◌, ◌==◌, nat_le, Bool, true, false, true≢false, ◌&&◌, ◌||◌, not, cond, List, [], ◌∷◌, ◌++◌, length, map, slice_get, slice_set, Option, Some, None, refl, sym, ap, subst, ◌∙◌, arith, inl, inr, eq-eqb}
use Rattle.std.specs.Option.{is_some, option_map}
use Rattle.std.proofs.lemmas.Bool.Decides.{eqb_tells, nat_tests}
use Rattle.std.proofs.lemmas.Option.{slice_get-map, slice_get_within, same_Some}
use Rattle.lapin_tables.specs.Numbered.{under, with_under, first_kept}
use Rattle.lapin_tables.proofs.Lists.{get-set_same, get-set_other}
use Rattle.lapin_tables.proofs.SlotLaws.{under-same, under-other, under-push, under-last, under-pushed, first-least, first-none}
use Rattle.lapin_check.specs.declared.seen.Settlement.{Settlement}
use Rattle.lapin_check.specs.declared.account.Settled.{Settled}
use Rattle.lapin_check.specs.declared.account.Counted.{Counted}
use Rattle.lapin_check.specs.Settlements.{reaches, covers}
use Rattle.lapin_check.specs.Account.{told_of}
use Rattle.lapin_check.specs.Marks.{mark}
use Rattle.lapin_check.specs.Pointing.{IsUnsettled, Points}
use Rattle.lapin_tables.proofs.Bools.{and_first, and_second}

-- ---- lists

get_last : {X : Type 0} (xs : List X) (x : X) → slice_get (xs ++ x ∷ []) (length xs) ≡ Some x
get_last [] x = refl
get_last (y ∷ ys) x = get_last ys x

get_front : {X : Type 0} (xs : List X) (x y : X) (i : ℕ) → slice_get xs i ≡ Some y → slice_get (xs ++ x ∷ []) i ≡ Some y
get_front [] x y i h = cc
get_front (z ∷ zs) x y zero h = h
get_front (z ∷ zs) x y (suc i) h = get_front zs x y i h

-- what stands in a longer list stood there, or is the last
pub get_either : {X : Type 0} (xs : List X) (x y : X) (i : ℕ) → slice_get (xs ++ x ∷ []) i ≡ Some y → (slice_get xs i ≡ Some y) ⊎ ((i ≡ length xs) × (x ≡ y))
get_either [] x y zero h = inr (refl, cc)
get_either [] x y (suc i) h = cc
get_either (z ∷ zs) x y zero h = inl h
get_either (z ∷ zs) x y (suc i) h =
    elim (get_either zs x y i h) [
      | inl old ↦ inl old
      | inr new ↦ inr (ap suc new.0, new.1)
    ]

pub mapped : {X Y : Type 0} (f : X → Y) (o : Option X) (y : Y) → option_map f o ≡ Some y → (x : X) × (o ≡ Some x) × (f x ≡ y)
mapped f None y h = cc
mapped f (Some x) y h = (x, refl, cc)

map_kept : {X : Type 0} (f : X → X) (xs : List X) → ((i : ℕ) (x : X) → slice_get xs i ≡ Some x → f x ≡ x) → map f xs ≡ xs
map_kept f [] kept = refl
map_kept f (x ∷ xs) kept =
    ap (λ y. y ∷ map f xs) (kept 0 x refl) ∙ ap (λ ys. x ∷ ys) (map_kept f xs (λ i. kept (suc i)))

map_set : {X : Type 0} (f : X → X) (xs : List X) (i : ℕ) (x y : X) → slice_get xs i ≡ Some x → f y ≡ f x → map f (slice_set xs i y) ≡ map f xs
map_set f [] i x y h same = refl
map_set f (z ∷ zs) zero x y h same = let here : z ≡ x = cc in ap (λ v. v ∷ map f zs) (same ∙ ap f (sym here))
map_set f (z ∷ zs) (suc i) x y h same = ap (λ vs. f z ∷ vs) (map_set f zs i x y h same)

-- ---- one mark

module _ (p o : ℕ) (s : Settlement) where
  -- what is settled, or isn't covered, stays
  abbrev Stays : Counted → Type 0
  Stays k = mark p o s k ≡ k

  -- a covered publish is of that channel and opening, and is reached
  covered_channel : (k : Counted) → covers s o k ≡ true → s.channel ≡ k.channel
  covered_channel k h =
      elim (eqb_tells s.channel k.channel) [
        | inl same ↦ same.1
        | inr other ↦ absurd (true≢false (sym (and_first (s.channel == k.channel) (o == k.opening) (and_first (s.channel == k.channel && o == k.opening) (reaches s k.number) h)) ∙ other.0))
      ]

  covered_opening : (k : Counted) → covers s o k ≡ true → o ≡ k.opening
  covered_opening k h =
      elim (eqb_tells o k.opening) [
        | inl same ↦ same.1
        | inr other ↦ absurd (true≢false (sym (and_second (s.channel == k.channel) (o == k.opening) (and_first (s.channel == k.channel && o == k.opening) (reaches s k.number) h)) ∙ other.0))
      ]

  covered_number : (k : Counted) → covers s o k ≡ true → reaches s k.number ≡ true
  covered_number k h = and_second (s.channel == k.channel && o == k.opening) (reaches s k.number) h

  -- a publish is covered or it stays
  mark_cases : (k : Counted) → ((k.settled ≡ None) × (covers s o k ≡ true)) ⊎ Stays k
  mark_cases k = at k.settled (covers s o k) refl refl
    where
      at : (t : Option Settled) (b : Bool) → k.settled ≡ t → covers s o k ≡ b → ((k.settled ≡ None) × (covers s o k ≡ true)) ⊎ Stays k
      at None true none covered = inl (none, covered)
      at None false none apart = inr (rw (none, apart) refl)
      at (Some x) b some is = inr (rw some refl)

  mark_again : (k : Counted) → mark p o s (mark p o s k) ≡ mark p o s k
  mark_again k = at k.channel k.opening k.number k.place k.settled
    where
      at : (c d n q : ℕ) (t : Option Settled) → mark p o s (mark p o s (record { channel = c; opening = d; number = n; place = q; settled = t })) ≡ mark p o s (record { channel = c; opening = d; number = n; place = q; settled = t })
      at c d n q (Some x) = refl
      at c d n q None = again (covers s o (record { channel = c; opening = d; number = n; place = q; settled = None })) refl
        where
          again : (b : Bool) → covers s o (record { channel = c; opening = d; number = n; place = q; settled = None }) ≡ b → mark p o s (mark p o s (record { channel = c; opening = d; number = n; place = q; settled = None })) ≡ mark p o s (record { channel = c; opening = d; number = n; place = q; settled = None })
          again true e = rw e refl
          again false e = rw e (rw e refl)

  -- what isn't settled after it is as it was
  unmarked : (k e : Counted) → mark p o s k ≡ e → e.settled ≡ None → k ≡ e
  unmarked k e = at k.channel k.opening k.number k.place k.settled
    where
      chosen : (b : Bool) (x y : Counted) → x.settled ≡ Some (told_of p s) → cond b x y ≡ e → e.settled ≡ None → y ≡ e
      chosen true x y some is none = let no : Some (told_of p s) ≡ None = sym some ∙ ap (λ (z : Counted). z.settled) is ∙ none in absurd (cc)
      chosen false x y some is none = is

      at : (c d n q : ℕ) (t : Option Settled) → mark p o s (record { channel = c; opening = d; number = n; place = q; settled = t }) ≡ e → e.settled ≡ None → record { channel = c; opening = d; number = n; place = q; settled = t } ≡ e
      at c d n q (Some x) is none = is
      at c d n q None is none = chosen (covers s o (record { channel = c; opening = d; number = n; place = q; settled = None })) _ _ refl is none

  pub mark_channel : (k : Counted) → (mark p o s k).channel ≡ k.channel
  mark_channel k = at (not (is_some k.settled) && covers s o k)
    where
      at : (b : Bool) → (cond b (record k { settled = Some (told_of p s) }) k).channel ≡ k.channel
      at true = refl
      at false = refl

  pub mark_opening : (k : Counted) → (mark p o s k).opening ≡ k.opening
  mark_opening k = at (not (is_some k.settled) && covers s o k)
    where
      at : (b : Bool) → (cond b (record k { settled = Some (told_of p s) }) k).opening ≡ k.opening
      at true = refl
      at false = refl

  -- an unsettled publish of that channel and opening that is reached gets settled
  mark_some : (n : ℕ) (k : Counted) → IsUnsettled s.channel o n k → reaches s n ≡ true → (mark p o s k).settled ≡ Some (told_of p s)
  mark_some n k waits reached =
      let covered : covers s o k ≡ true = rw (waits.channel, waits.opening, waits.number, reached) (both s.channel o) in
      rw (waits.settled, covered) refl
    where
      both : (c d : ℕ) → ((c == c) && (d == d)) && true ≡ true
      both c d = rw (eq-eqb c c refl, eq-eqb d d refl) refl

-- ---- the places of a channel after one of them was settled

module _ (c o : ℕ) (places : List (Option ℕ)) (account : List Counted) (h : Points c o places account) where
  -- a publish is settled: its place is kept no more
  pub points_settled : (n i : ℕ) (k t : Counted) (x : Settled) → under n places ≡ Some i → slice_get account i ≡ Some k → t.settled ≡ Some x → Points c o (with_under n None places) (slice_set account i t)
  points_settled n i k t x at is settled = record {
    there = λ m j found.
        elim (eqb_tells m n) [
          | inl same ↦
              let none : under m (with_under n None places) ≡ None = subst (λ (z : ℕ). under z (with_under n None places) ≡ None) (sym same.1) (under-same n None i places at) in
              let no : None ≡ Some j = sym none ∙ found in
              absurd (cc)
          | inr other ↦
              let old : under m places ≡ Some j = sym (under-other m n None places other.1) ∙ found in
              let entry = h.there m j old in
              let apart : i ≢ j = λ e. other.1 (same_number m j entry.0 entry.2 entry.1 e) in
              (entry.0, get-set_other account i j t apart ∙ entry.1, entry.2)
        ];
    all = λ j m e here waits.
        elim (eqb_tells i j) [
          | inl same ↦
              let mine : slice_get (slice_set account i t) j ≡ Some t = subst (λ (z : ℕ). slice_get (slice_set account i t) z ≡ Some t) same.1 (get-set_same account i t (slice_get_within account i k is)) in
              let one : Some t ≡ Some e = sym mine ∙ here in
              let no : Some x ≡ None = sym settled ∙ ap (λ (z : Counted). z.settled) (same_Some t e one) ∙ waits.settled in
              absurd (cc)
          | inr other ↦
              let old : slice_get account j ≡ Some e = sym (get-set_other account i j t other.1) ∙ here in
              let found : under m places ≡ Some j = h.all j m e old waits in
              let apart : m ≢ n = λ same. other.1 (place_same m j found same) in
              under-other m n None places apart ∙ found
        ];
  }
    where
      same_number : (m j : ℕ) (e : Counted) → IsUnsettled c o m e → slice_get account j ≡ Some e → i ≡ j → m ≡ n
      same_number m j e waits here same =
          let mine = h.there n i at in
          let one : Some mine.0 ≡ Some e = sym mine.1 ∙ subst (λ (z : ℕ). slice_get account z ≡ Some e) (sym same) here in
          sym waits.number ∙ sym (ap (λ (z : Counted). z.number) (same_Some mine.0 e one)) ∙ mine.2.number

      place_same : (m j : ℕ) → under m places ≡ Some j → m ≡ n → i ≡ j
      place_same m j found same = same_Some i j (sym at ∙ subst (λ (z : ℕ). under z places ≡ Some j) same found)

  -- a publish of this channel and opening takes the next number
  pub points_joined : (k : Counted) → IsUnsettled c o (length places + 1) k → Points c o (places ++ Some (length account) ∷ []) (account ++ k ∷ [])
  points_joined k waits = record {
    there = λ n i found.
        elim (under-pushed n (Some (length account)) i places found) [
          | inl old ↦ let entry = h.there n i old in (entry.0, get_front account k entry.0 i entry.1, entry.2)
          | inr new ↦
              let last : length account ≡ i = same_Some (length account) i new.1 in
              (k, subst (λ (z : ℕ). slice_get (account ++ k ∷ []) z ≡ Some k) last (get_last account k), subst (λ (z : ℕ). IsUnsettled c o z k) (sym new.0) waits)
        ];
    all = λ i n e here unsettled.
        elim (get_either account k e i here) [
          | inl old ↦ under-push n (Some (length account)) i places (h.all i n e old unsettled)
          | inr new ↦
              let last : n ≡ length places + 1 = sym unsettled.number ∙ sym (ap (λ (z : Counted). z.number) new.1) ∙ waits.number in
              under-last n (Some (length account)) places last ∙ ap (λ (z : ℕ). Some z) (sym new.0)
        ];
  }

  -- a publish of another channel
  pub points_aside : (k : Counted) → k.channel ≢ c → Points c o places (account ++ k ∷ [])
  points_aside k apart = record {
    there = λ n i found. let entry = h.there n i found in (entry.0, get_front account k entry.0 i entry.1, entry.2);
    all = λ i n e here waits.
        elim (get_either account k e i here) [
          | inl old ↦ h.all i n e old waits
          | inr new ↦ absurd (apart (ap (λ (z : Counted). z.channel) new.1 ∙ waits.channel))
        ];
  }

  -- a settlement of another channel
  pub points_other : (p q : ℕ) (s : Settlement) → s.channel ≢ c → Points c o places (map (mark p q s) account)
  points_other p q s apart = record {
    there = λ n i found.
        let entry = h.there n i found in
        (entry.0, slice_get-map (mark p q s) account i ∙ ap (option_map (mark p q s)) entry.1 ∙ ap (λ (z : Counted). Some z) (stays entry.0 entry.2.channel), entry.2);
    all = λ i n e here waits.
        let old = mapped (mark p q s) (slice_get account i) e (sym (slice_get-map (mark p q s) account i) ∙ here) in
        let same : old.0 ≡ e = unmarked p q s old.0 e old.2 waits.settled in
        h.all i n e (old.1 ∙ ap (λ (z : Counted). Some z) same) waits;
  }
    where
      stays : (k : Counted) → k.channel ≡ c → mark p q s k ≡ k
      stays k is =
          elim (mark_cases p q s k) [
            | inl covered ↦ absurd (apart (covered_channel p q s k covered.1 ∙ is))
            | inr same ↦ same
          ]

  -- where no number that it reaches is left, a settlement changes nothing more
  pub none_left : (p : ℕ) (s : Settlement) → s.channel ≡ c → ((n i : ℕ) → under n places ≡ Some i → reaches s n ≡ false) → account ≡ map (mark p o s) account
  none_left p s on left = sym (map_kept (mark p o s) account stays)
    where
      stays : (i : ℕ) (k : Counted) → slice_get account i ≡ Some k → mark p o s k ≡ k
      stays i k here =
          elim (mark_cases p o s k) [
            | inl covered ↦
                let waits : IsUnsettled c o k.number k = record { channel = sym (covered_channel p o s k covered.1) ∙ on; opening = sym (covered_opening p o s k covered.1); number = refl; settled = covered.0 } in
                absurd (true≢false (sym (covered_number p o s k covered.1) ∙ left k.number i (h.all i k.number k here waits)))
            | inr same ↦ same
          ]

-- no entry is of an opening that begins now
pub points_none : (c o : ℕ) (account : List Counted) → ((i : ℕ) (k : Counted) → slice_get account i ≡ Some k → k.channel ≡ c → k.opening < o) → Points c o [] account
points_none c o account before = record {
  there = λ n i found. absurd (nowhere n i found);
  all = λ i n k here waits. let old : k.opening < o = before i k here waits.channel in let now : k.opening ≡ o = waits.opening in absurd (omega arith);
}
  where
    nowhere : (n i : ℕ) → under {T = ℕ} n [] ≡ Some i → ⊥
    nowhere zero i h = cc
    nowhere (suc n) i h = cc

-- ---- one number of a settlement

-- the account with the entry marked, where its place was found
pub one_points : (p o : ℕ) (s : Settlement) (n i : ℕ) (k t : Counted) (places : List (Option ℕ)) (account : List Counted) → Points s.channel o places account → reaches s n ≡ true → under n places ≡ Some i → slice_get account i ≡ Some k → t ≡ mark p o s k → Points s.channel o (with_under n None places) (slice_set account i t)
one_points p o s n i k t places account h reached at is marked =
    let entry = h.there n i at in
    let same : k ≡ entry.0 = same_Some k entry.0 (sym is ∙ entry.1) in
    let waits : IsUnsettled s.channel o n k = subst (λ (z : Counted). IsUnsettled s.channel o n z) (sym same) entry.2 in
    points_settled s.channel o places account h n i k t (told_of p s) at is (ap (λ (z : Counted). z.settled) marked ∙ mark_some p o s n k waits reached)

pub one_same : (p o : ℕ) (s : Settlement) (i : ℕ) (k t : Counted) (account : List Counted) → slice_get account i ≡ Some k → t ≡ mark p o s k → map (mark p o s) (slice_set account i t) ≡ map (mark p o s) account
one_same p o s i k t account is marked = map_set (mark p o s) account i k t is (ap (mark p o s) marked ∙ mark_again p o s k)

-- a multiple settlement that doesn't reach a number reaches none above it
pub beyond : (s : Settlement) (m n : ℕ) → s.multiple ≡ true → m ≤ n → reaches s m ≡ false → reaches s n ≡ false
beyond s m n many le apart =
    let now : (s.number == 0 || nat_le m s.number) ≡ false = rw many at apart in
    rw many (above s.number m n le now)
  where
    above : (l m n : ℕ) → m ≤ n → (l == 0 || nat_le m l) ≡ false → (l == 0 || nat_le n l) ≡ false
    above l m n le apart = grind (arith, nat_tests)

-- none that it reaches is left, where the lowest isn't reached
pub beyond_first : (s : Settlement) (m : ℕ) (places : List (Option ℕ)) → s.multiple ≡ true → first_kept places ≡ Some m → reaches s m ≡ false → (n i : ℕ) → under n places ≡ Some i → reaches s n ≡ false
beyond_first s m places many first apart n i at = beyond s m n many (first-least n m i places first at) apart

-- nor where none is left
pub beyond_last : (s : Settlement) (places : List (Option ℕ)) → first_kept places ≡ None → (n i : ℕ) → under n places ≡ Some i → reaches s n ≡ false
beyond_last s places none n i at = absurd (first-none n i places none at)

under-none : (n : ℕ) (places : List (Option ℕ)) → under n (with_under n None places) ≡ None
under-none zero places = refl
under-none (suc k) [] = refl
under-none (suc zero) (o ∷ places) = refl
under-none (suc (suc k)) (o ∷ places) = under-none (suc k) places

-- a single settlement reaches its own number, which is left no more
pub beyond_single : (s : Settlement) (places : List (Option ℕ)) → s.multiple ≡ false → (n i : ℕ) → under n (with_under s.number None places) ≡ Some i → reaches s n ≡ false
beyond_single s places single n i at =
    elim (eqb_tells s.number n) [
      | inl same ↦
          let none : under n (with_under s.number None places) ≡ None = subst (λ (m : ℕ). under m (with_under s.number None places) ≡ None) same.1 (under-none s.number places) in
          let some : None ≡ Some i = sym none ∙ at in
          absurd (cc)
      | inr other ↦ rw single other.0
    ]
