-- Marks that begin, end or move an opening, and what they leave of selections, places and outcomes.
use Rattle.std.proofs.Common.{◌≡◌, ◌∙◌, ℕ, zero, suc, ◌+◌, ◌≤◌, ◌<◌, ◌==◌, Bool, true, false, cond, ◌||◌, List, [], ◌∷◌, ◌++◌, Option, Some, None, inl, inr, refl, sym, ap, arith}
use Rattle.std.specs.List.{list_any, count_by, fold}
use Rattle.std.specs.Option.{option_or}
use Rattle.std.proofs.lemmas.Bool.{cases_lt, or_parts}
use Rattle.std.proofs.lemmas.Bool.Decides.{eqb_tells}
use Rattle.std.proofs.lemmas.List.Folds.{list_any-append}
use Rattle.std.proofs.lemmas.List.Sums.{fold-append}
use Rattle.std.proofs.Math.Bool.{or-true}
use Rattle.lapin_types.specs.Types.{Error}
use Rattle.lapin_types.specs.declared.outcome.Outcome.TheVariants as outcome
use Rattle.lapin_rules.specs.declared.phases.ChannelPhase.{ChannelPhase}
use Rattle.lapin_rules.specs.ConfirmMarks.{ConfirmMark}
use Rattle.lapin_rules.specs.ConfirmMarks as mark
use Rattle.lapin_rules.specs.Phases.{is_live, phase_in}
use Rattle.lapin_rules.specs.Ends.{beyond, live_below, ends, ends_all}
use Rattle.lapin_rules.specs.Words.{after, since, many, rest_after}
use Rattle.lapin_rules.specs.ConfirmReadings.{adds, begins, selects, leaves, leaves_on, added, channel_of, has_left, tag_of, outcome_at, outcome_after, first_settled, first_rejected, rejection_on, life, opening, is_selected, place}
use Rattle.lapin_rules.specs.Wire.{Wire, phase_of}
use Rattle.lapin_tables.specs.ByChannel.{at_channel}
use Rattle.lapin_verdicts.proofs.Marks.{after-append, channel-append, tag-append, settled-append, many-append, or-assoc}
use Rattle.lapin_effects.specs.Effects.{moves, grows}
use Rattle.lapin_rules.proofs.ListLaws.{many-none, or_false}
use Rattle.lapin_rules.proofs.EndLaws.{beyond-none}

-- the mark says that a frame of a publish left
abbrev pub is_left : ConfirmMark → Bool
is_left (mark.Left d k) = true
is_left _ = false

-- the mark begins an opening of the channel, or is of a frame that leaves on it
abbrev pub turns_on : ℕ → ConfirmMark → Bool
turns_on c m = begins c m || (selects c m || leaves_on c m)

abbrev pub ends_on : ℕ → ConfirmMark → Bool
ends_on c (mark.Ended d e) = c == d
ends_on c _ = false

-- what one test has not another has not, where the first has all of the second
pub any-less : {X : Type 0} (p q : X → Bool) → ((x : X) → p x ≡ false → q x ≡ false) → (xs : List X) → list_any p xs ≡ false → list_any q xs ≡ false
any-less p q h [] e = refl
any-less p q h (x ∷ xs) e = elim (p x) as (λ b. p x ≡ b → (b || list_any p xs) ≡ false → (q x || list_any q xs) ≡ false) [
  | true ↦ λ _ g. absurd cc
  | false ↦ λ f g. rw (h x f) (any-less p q h xs g)
] refl e

moves_left : (m : ConfirmMark) → moves m ≡ false → is_left m ≡ false
moves_left (mark.Left d k) h = absurd cc
moves_left _ h = refl

grows_left : (m : ConfirmMark) → grows m ≡ false → is_left m ≡ false
grows_left (mark.Left d k) h = absurd cc
grows_left _ h = refl

left_leaves : (k : ℕ) (m : ConfirmMark) → is_left m ≡ false → leaves k m ≡ false
left_leaves k (mark.Left d j) h = absurd cc
left_leaves k _ h = refl

moves_turns : (c : ℕ) (m : ConfirmMark) → moves m ≡ false → turns_on c m ≡ false
moves_turns c (mark.Begun d) h = absurd cc
moves_turns c (mark.SelectLeft d) h = absurd cc
moves_turns c (mark.Left d j) h = absurd cc
moves_turns c _ h = refl

grows_turns : (c : ℕ) (m : ConfirmMark) → grows m ≡ false → turns_on c m ≡ false
grows_turns c (mark.Begun d) h = absurd cc
grows_turns c (mark.SelectLeft d) h = absurd cc
grows_turns c (mark.Left d j) h = absurd cc
grows_turns c _ h = refl

moves_grows : (m : ConfirmMark) → moves m ≡ false → grows m ≡ false
moves_grows (mark.Begun d) h = absurd cc
moves_grows (mark.Added d) h = absurd cc
moves_grows (mark.SelectLeft d) h = absurd cc
moves_grows (mark.Left d j) h = absurd cc
moves_grows _ h = refl

grows_adds : (m : ConfirmMark) → grows m ≡ false → adds m ≡ false
grows_adds (mark.Added d) h = absurd cc
grows_adds _ h = refl

pub still_grow : (xs : List ConfirmMark) → list_any moves xs ≡ false → list_any grows xs ≡ false
still_grow xs h = any-less moves grows moves_grows xs h

pub grow_unleft : (xs : List ConfirmMark) → list_any grows xs ≡ false → list_any is_left xs ≡ false
grow_unleft xs h = any-less grows is_left grows_left xs h

pub grow_turns : (c : ℕ) (xs : List ConfirmMark) → list_any grows xs ≡ false → list_any (turns_on c) xs ≡ false
grow_turns c xs h = any-less grows (turns_on c) (grows_turns c) xs h

pub grow_added : (ms xs : List ConfirmMark) → list_any grows xs ≡ false → added (ms ++ xs) ≡ added ms
grow_added ms xs h = let e = many-append adds ms xs in let z = many-none adds xs (any-less grows adds grows_adds xs h) in omega (arith, e, z)

pub left-same : (k : ℕ) (ms xs : List ConfirmMark) → list_any is_left xs ≡ false → has_left k (ms ++ xs) ≡ has_left k ms
left-same k ms xs h = list_any-append (leaves k) ms xs ∙ (ap (λ v. has_left k ms || v) (any-less is_left (leaves k) (left_leaves k) xs h) ∙ or_false (has_left k ms))

-- ---- selections and places

module _ {X : Type 0} (p : X → Bool) where
  pub since-append : (xs ys : List X) → list_any p ys ≡ false → since p (xs ++ ys) ≡ cond (list_any p xs) (since p xs ++ ys) []
  since-append [] ys h = none ys h
    where
      none : (ys : List X) → list_any p ys ≡ false → since p ys ≡ []
      none [] e = refl
      none (y ∷ ys) e = elim (p y) as (λ b. (b || list_any p ys) ≡ false → cond (list_any p ys) (since p ys) (cond b ys []) ≡ []) [
        | true ↦ λ g. absurd cc
        | false ↦ λ g. ap (λ v. cond v (since p ys) []) g
      ] e
  since-append (x ∷ xs) ys h =
      let any : list_any p (xs ++ ys) ≡ list_any p xs = list_any-append p xs ys ∙ (rw h (or_false (list_any p xs))) in
      ap (λ v. cond v (since p (xs ++ ys)) (cond (p x) (xs ++ ys) [])) any
      ∙ (ap (λ v. cond (list_any p xs) v (cond (p x) (xs ++ ys) [])) (since-append xs ys h) ∙ by (list_any p xs) (p x))
    where
      by : (v u : Bool) → cond v (cond v (since p xs ++ ys) []) (cond u (xs ++ ys) []) ≡ cond (u || v) (cond v (since p xs) (cond u xs []) ++ ys) []
      by true true = refl
      by true false = refl
      by false true = refl
      by false false = refl

  pub after-quiet : (xs ys : List X) → list_any p ys ≡ false → after p (xs ++ ys) ≡ cond (list_any p xs) (after p xs ++ ys) []
  after-quiet [] ys h = none ys h
    where
      none : (ys : List X) → list_any p ys ≡ false → after p ys ≡ []
      none [] e = refl
      none (y ∷ ys) e = elim (p y) as (λ b. (b || list_any p ys) ≡ false → cond b ys (after p ys) ≡ []) [ true ↦ λ g. absurd cc | false ↦ λ g. none ys g ] e
  after-quiet (x ∷ xs) ys h = elim (p x) as (λ b. cond b (xs ++ ys) (after p (xs ++ ys)) ≡ cond (b || list_any p xs) (cond b xs (after p xs) ++ ys) []) [ true ↦ refl | false ↦ after-quiet xs ys h ]

  pub after-never : (xs : List X) → list_any p xs ≡ false → after p xs ≡ []
  after-never [] e = refl
  after-never (y ∷ ys) e = elim (p y) as (λ b. (b || list_any p ys) ≡ false → cond b ys (after p ys) ≡ []) [ true ↦ λ g. absurd cc | false ↦ λ g. after-never ys g ] e

pub count-append : {X : Type 0} (p : X → Bool) (xs ys : List X) → list_any p ys ≡ false → count_by p (xs ++ ys) ≡ count_by p xs
count-append {X = X} p xs ys h = fold-append (λ a x. a + cond (p x) 1 0) 0 xs ys ∙ none (count_by p xs) ys h
  where
    none : (n : ℕ) (ys : List X) → list_any p ys ≡ false → fold (λ a x. a + cond (p x) 1 0) n ys ≡ n
    none n [] e = refl
    none n (y ∷ ys) e = elim (p y) as (λ b. (b || list_any p ys) ≡ false → fold (λ a x. a + cond (p x) 1 0) (n + cond b 1 0) ys ≡ n) [ true ↦ λ g. absurd cc | false ↦ λ g. (let z : n + 0 ≡ n = omega arith in ap (λ v. fold (λ a x. a + cond (p x) 1 0) v ys) z ∙ none n ys g) ] e

pub turn_parts : (c : ℕ) (xs : List ConfirmMark) → list_any (turns_on c) xs ≡ false → (list_any (begins c) xs ≡ false) × (list_any (selects c) xs ≡ false) × (list_any (leaves_on c) xs ≡ false)
turn_parts c xs h = (
  any-less (turns_on c) (begins c) (λ m e. (or_parts (begins c m) (selects c m || leaves_on c m) e).0) xs h,
  any-less (turns_on c) (selects c) (λ m e. (or_parts (selects c m) (leaves_on c m) (or_parts (begins c m) (selects c m || leaves_on c m) e).1).0) xs h,
  any-less (turns_on c) (leaves_on c) (λ m e. (or_parts (selects c m) (leaves_on c m) (or_parts (begins c m) (selects c m || leaves_on c m) e).1).1) xs h,
)

-- the opening, longer by these marks where there is one
pub opening-longer : (c : ℕ) (ms xs : List ConfirmMark) → list_any (begins c) xs ≡ false → list_any (begins c) ms ≡ true → opening c (ms ++ xs) ≡ opening c ms ++ xs
opening-longer c ms xs h b = since-append (begins c) ms xs h ∙ rw b refl

pub turn_selected : (c : ℕ) (ms xs : List ConfirmMark) → list_any (turns_on c) xs ≡ false → list_any (begins c) ms ≡ true → is_selected c (ms ++ xs) ≡ is_selected c ms
turn_selected c ms xs h b =
    let q = turn_parts c xs h in
    ap (list_any (selects c)) (opening-longer c ms xs q.0 b) ∙ (list_any-append (selects c) (opening c ms) xs ∙ (ap (λ v. list_any (selects c) (opening c ms) || v) q.1 ∙ or_false (list_any (selects c) (opening c ms))))

pub turn_place : (c : ℕ) (ms xs : List ConfirmMark) → list_any (turns_on c) xs ≡ false → list_any (begins c) ms ≡ true → place c (ms ++ xs) ≡ place c ms
turn_place c ms xs h b =
    let q = turn_parts c xs h in
    ap (λ o. count_by (leaves_on c) (after (selects c) o)) (opening-longer c ms xs q.0 b)
    ∙ (ap (count_by (leaves_on c)) (after-quiet (selects c) (opening c ms) xs q.1) ∙ by (list_any (selects c) (opening c ms)) refl q.2)
  where
    by : (v : Bool) → list_any (selects c) (opening c ms) ≡ v → list_any (leaves_on c) xs ≡ false → count_by (leaves_on c) (cond v (after (selects c) (opening c ms) ++ xs) []) ≡ count_by (leaves_on c) (after (selects c) (opening c ms))
    by true e l = count-append (leaves_on c) (after (selects c) (opening c ms)) xs l
    by false e l = ap (count_by (leaves_on c)) (sym (after-never (selects c) (opening c ms) e))

-- ---- outcomes

pub life-append : {X : Type 0} (p : X → Bool) (n : ℕ) (xs ys : List X) → n < many p xs → rest_after p n (xs ++ ys) ≡ rest_after p n xs ++ ys
life-append p n [] ys h = let z : ⊥ = omega (arith, h) in absurd z
life-append p zero (x ∷ xs) ys h = elim (p x) as (λ b. zero < cond b (many p xs + 1) (many p xs) → cond b (xs ++ ys) (rest_after p zero (xs ++ ys)) ≡ cond b xs (rest_after p zero xs) ++ ys) [ true ↦ λ _. refl | false ↦ λ e. life-append p zero xs ys e ] h
life-append p (suc n) (x ∷ xs) ys h = elim (p x) as (λ b. suc n < cond b (many p xs + 1) (many p xs) → cond b (rest_after p n (xs ++ ys)) (rest_after p (suc n) (xs ++ ys)) ≡ cond b (rest_after p n xs) (rest_after p (suc n) xs) ++ ys) [ true ↦ λ e. life-append p n xs ys (omega (arith, e)) | false ↦ λ e. life-append p (suc n) xs ys e ] h

life-more : (k : ℕ) (ms xs : List ConfirmMark) → 0 < k → k ≤ added ms → life k (ms ++ xs) ≡ life k ms ++ xs
life-more zero ms xs z h = let w : ⊥ = omega (arith, z) in absurd w
life-more (suc k) ms xs z h = life-append adds k ms xs (omega (arith, h))

rejected-append : (c : ℕ) (xs ys : List ConfirmMark) → first_rejected c (xs ++ ys) ≡ option_or (first_rejected c xs) (first_rejected c ys)
rejected-append c [] ys = refl
rejected-append c (m ∷ xs) ys = ap (λ o. option_or (rejection_on c m) o) (rejected-append c xs ys) ∙ sym (or-assoc (rejection_on c m) (first_rejected c xs) (first_rejected c ys))

none_parts : {X : Type 0} (a b : Option X) → option_or a b ≡ None → (a ≡ None) × (b ≡ None)
none_parts None b h = (refl, h)
none_parts (Some x) b h = absurd cc

-- what is not resolved behind further marks was not before, and none of them resolves it
pub record Waits (k : ℕ) (ms xs : List ConfirmMark) : Type 0 where
  pub before : outcome_at k ms ≡ None
  pub ends : list_any (ends_on (channel_of k ms)) xs ≡ true → ⊥

ended_settles : (c t : ℕ) (xs : List ConfirmMark) → list_any (ends_on c) xs ≡ true → first_settled c t xs ≡ None → ⊥
ended_settles c t [] h e = cc
ended_settles c t (mark.Ended d x ∷ xs) h e = elim (c == d) as (λ b. (b || list_any (ends_on c) xs) ≡ true → option_or (cond b (Some (outcome.Failed x)) None) (first_settled c t xs) ≡ None → ⊥) [ true ↦ λ _ g. cc | false ↦ λ f g. ended_settles c t xs f g ] h e
ended_settles c t (mark.Settled d s ∷ xs) h e = ended_settles c t xs h (none_parts _ _ e).1
ended_settles c t (mark.Begun d ∷ xs) h e = ended_settles c t xs h e
ended_settles c t (mark.SelectCalled d ∷ xs) h e = ended_settles c t xs h e
ended_settles c t (mark.LimitSet d l ∷ xs) h e = ended_settles c t xs h e
ended_settles c t (mark.Added d ∷ xs) h e = ended_settles c t xs h e
ended_settles c t (mark.SelectLeft d ∷ xs) h e = ended_settles c t xs h e
ended_settles c t (mark.Left d j ∷ xs) h e = ended_settles c t xs h e
ended_settles c t (mark.Arrived d m ∷ xs) h e = ended_settles c t xs h e
ended_settles c t (mark.ClosedHere d x ∷ xs) h e = ended_settles c t xs h e
ended_settles c t (mark.Taken j ∷ xs) h e = ended_settles c t xs h e
ended_settles c t (mark.SetAside j ∷ xs) h e = ended_settles c t xs h e
ended_settles c t (mark.Drained d ∷ xs) h e = ended_settles c t xs h e

ended_rejects : (c : ℕ) (xs : List ConfirmMark) → list_any (ends_on c) xs ≡ true → first_rejected c xs ≡ None → ⊥
ended_rejects c [] h e = cc
ended_rejects c (mark.Ended d x ∷ xs) h e = elim (c == d) as (λ b. (b || list_any (ends_on c) xs) ≡ true → option_or (cond b (Some (outcome.Failed x)) None) (first_rejected c xs) ≡ None → ⊥) [ true ↦ λ _ g. cc | false ↦ λ f g. ended_rejects c xs f g ] h e
ended_rejects c (mark.ClosedHere d x ∷ xs) h e = ended_rejects c xs h (none_parts _ _ e).1
ended_rejects c (mark.Settled d s ∷ xs) h e = ended_rejects c xs h e
ended_rejects c (mark.Begun d ∷ xs) h e = ended_rejects c xs h e
ended_rejects c (mark.SelectCalled d ∷ xs) h e = ended_rejects c xs h e
ended_rejects c (mark.LimitSet d l ∷ xs) h e = ended_rejects c xs h e
ended_rejects c (mark.Added d ∷ xs) h e = ended_rejects c xs h e
ended_rejects c (mark.SelectLeft d ∷ xs) h e = ended_rejects c xs h e
ended_rejects c (mark.Left d j ∷ xs) h e = ended_rejects c xs h e
ended_rejects c (mark.Arrived d m ∷ xs) h e = ended_rejects c xs h e
ended_rejects c (mark.Taken j ∷ xs) h e = ended_rejects c xs h e
ended_rejects c (mark.SetAside j ∷ xs) h e = ended_rejects c xs h e
ended_rejects c (mark.Drained d ∷ xs) h e = ended_rejects c xs h e

pub waits_one : (k : ℕ) (ms xs : List ConfirmMark) → 0 < k → k ≤ added ms → has_left k (ms ++ xs) ≡ has_left k ms → outcome_at k (ms ++ xs) ≡ None → Waits k ms xs
waits_one k ms xs z le u h = elim (has_left k ms) as (λ v. has_left k ms ≡ v → Waits k ms xs) [
  | true ↦ λ l. left_case l (tag_of k ms) refl
  | false ↦ λ l.
      let now : option_or (first_rejected (channel_of k ms) (life k ms)) (first_rejected (channel_of k ms) xs) ≡ None =
      sym (rejected-append (channel_of k ms) (life k ms) xs) ∙ (ap (first_rejected (channel_of k ms)) (sym (life-more k ms xs z le)) ∙ (ap (λ d. first_rejected d (life k (ms ++ xs))) (sym (channel-append k ms xs z le)) ∙ (ap (λ v. cond v (outcome_after (channel_of k (ms ++ xs)) (tag_of k (ms ++ xs)) (after (leaves k) (ms ++ xs))) (first_rejected (channel_of k (ms ++ xs)) (life k (ms ++ xs)))) (sym (u ∙ l)) ∙ h))) in
      let parts = none_parts _ _ now in
      record {
        before = ap (λ v. cond v (outcome_after (channel_of k ms) (tag_of k ms) (after (leaves k) ms)) (first_rejected (channel_of k ms) (life k ms))) l ∙ parts.0;
        ends = λ e. ended_rejects (channel_of k ms) xs e parts.1;
      }
] refl
  where
    left_case : has_left k ms ≡ true → (o : Option ℕ) → tag_of k ms ≡ o → Waits k ms xs
    left_case l o t =
        let now : outcome_after (channel_of k ms) (tag_of k ms) (after (leaves k) ms ++ xs) ≡ None =
        ap (outcome_after (channel_of k ms) (tag_of k ms)) (sym (after-append (leaves k) ms xs l)) ∙ (ap (λ d. outcome_after d (tag_of k ms) (after (leaves k) (ms ++ xs))) (sym (channel-append k ms xs z le)) ∙ (ap (λ o. outcome_after (channel_of k (ms ++ xs)) o (after (leaves k) (ms ++ xs))) (sym (tag-append k ms xs z le l)) ∙ (ap (λ v. cond v (outcome_after (channel_of k (ms ++ xs)) (tag_of k (ms ++ xs)) (after (leaves k) (ms ++ xs))) (first_rejected (channel_of k (ms ++ xs)) (life k (ms ++ xs)))) (sym (u ∙ l)) ∙ h))) in
        by o t now
      where
        by : (o : Option ℕ) → tag_of k ms ≡ o → outcome_after (channel_of k ms) (tag_of k ms) (after (leaves k) ms ++ xs) ≡ None → Waits k ms xs
        by None t now = let w : Some outcome.NotRequested ≡ None = ap (λ o. outcome_after (channel_of k ms) o (after (leaves k) ms ++ xs)) (sym t) ∙ now in absurd cc
        by (Some tag) t now =
            let parts = none_parts _ _ (sym (settled-append (channel_of k ms) tag (after (leaves k) ms) xs) ∙ (ap (λ o. outcome_after (channel_of k ms) o (after (leaves k) ms ++ xs)) (sym t) ∙ now)) in
            record {
              before = ap (λ v. cond v (outcome_after (channel_of k ms) (tag_of k ms) (after (leaves k) ms)) (first_rejected (channel_of k ms) (life k ms))) l ∙ (ap (λ o. outcome_after (channel_of k ms) o (after (leaves k) ms)) t ∙ parts.0);
              ends = λ e. ended_settles (channel_of k ms) tag xs e parts.1;
            }

pub waits_back : (k : ℕ) (ms xs : List ConfirmMark) → 0 < k → k ≤ added ms → list_any is_left xs ≡ false → outcome_at k (ms ++ xs) ≡ None → Waits k ms xs
waits_back k ms xs z le u h = waits_one k ms xs z le (left-same k ms xs u) h

-- ---- every live opening ends, where the connection does

ends-append : (e : Error) (cs ds : List ℕ) → ends e (cs ++ ds) ≡ ends e cs ++ ends e ds
ends-append e [] ds = refl
ends-append e (c ∷ cs) ds = ap (λ v. mark.Ended c e ∷ v) (ends-append e cs ds)

below_ends : (e : Error) (n c : ℕ) (all : List (ℕ × ChannelPhase)) → c < n → is_live (phase_in (at_channel c all)) ≡ true → list_any (ends_on c) (ends e (live_below n all)) ≡ true
below_ends e zero c all lt h = let z : ⊥ = omega (arith, lt) in absurd z
below_ends e (suc n) c all lt h =
    let here : List ℕ = cond (is_live (phase_in (at_channel n all))) (n ∷ []) [] in
    ap (list_any (ends_on c)) (ends-append e (live_below n all) here) ∙ (list_any-append (ends_on c) (ends e (live_below n all)) (ends e here) ∙
    elim (eqb_tells c n) [
      | inl y ↦
          let lives : is_live (phase_in (at_channel n all)) ≡ true = ap (λ k. is_live (phase_in (at_channel k all))) (sym y.1) ∙ h in
          let one : list_any (ends_on c) (ends e here) ≡ true = ap (λ v. list_any (ends_on c) (ends e (cond v (n ∷ []) []))) lives ∙ rw y.0 refl in
          ap (λ b. list_any (ends_on c) (ends e (live_below n all)) || b) one ∙ or-true (list_any (ends_on c) (ends e (live_below n all)))
      | inr x ↦
          let less : c < n = (let d = x.1 in omega (arith, lt, d)) in
          ap (λ b. b || list_any (ends_on c) (ends e here)) (below_ends e n c all less h)
    ])

pub live_ends : (e : Error) (c : ℕ) (b : Wire) → is_live (phase_of c b) ≡ true → list_any (ends_on c) (ends_all e b) ≡ true
live_ends e c b h = elim (cases_lt c (beyond b.phases)) [
  | inl less ↦ below_ends e (beyond b.phases) c b.phases less h
  | inr more ↦
      let none : at_channel c b.phases ≡ None = beyond-none c b.phases more in
      let z : true ≡ false = sym h ∙ ap (λ o. is_live (phase_in o)) none in absurd cc
]
