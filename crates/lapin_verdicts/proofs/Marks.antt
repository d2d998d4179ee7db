-- A confirm that is pending with a tag, and what further marks make of it.
use Rattle.std.proofs.Common.{◌≡◌, ◌∙◌, ℕ, zero, suc, ◌+◌, ◌≤◌, ◌<◌, ◌==◌, Bool, true, false, cond, ◌&&◌, ◌||◌, List, [], ◌∷◌, ◌++◌, Option, Some, None, refl, sym, ap, arith}
use Rattle.std.specs.List.{list_any}
use Rattle.std.specs.Option.{option_or}
use Rattle.std.proofs.lemmas.List.Folds.{list_any-append}
use Rattle.lapin_types.specs.declared.outcome.Outcome.{Outcome}
use Rattle.lapin_types.specs.declared.outcome.Outcome.TheVariants as outcome
use Rattle.lapin_rules.specs.declared.marks.SettleKind.{SettleKind}
use Rattle.lapin_rules.specs.declared.marks.SettleKind.TheVariants as settle
use Rattle.lapin_rules.specs.declared.marks.Settlement.{Settlement}
use Rattle.lapin_rules.specs.ConfirmMarks.{ConfirmMark}
use Rattle.lapin_types.specs.Types.{Error}
use Rattle.lapin_rules.specs.ConfirmMarks as mark
use Rattle.lapin_rules.specs.Words.{after, through, many, one_after}
use Rattle.lapin_verdicts.specs.Session.{IsPending}
use Rattle.lapin_rules.specs.ConfirmReadings.{adds, leaves, added, channel_of, has_left, tag_of, outcome_at, outcome_after, first_settled, settlement_on, outcome_of, kind_outcome, covers, channel_in, first_rejected, life}
use Rattle.std.proofs.lemmas.Option.{same_Some}

module _ {X : Type 0} (p : X → Bool) where
  pub after-append : (xs ys : List X) → list_any p xs ≡ true → after p (xs ++ ys) ≡ after p xs ++ ys
  after-append [] ys h = cc
  after-append (x ∷ xs) ys h = elim (p x) as (λ b. (b || list_any p xs) ≡ true → cond b (xs ++ ys) (after p (xs ++ ys)) ≡ cond b xs (after p xs) ++ ys) [ true ↦ λ _. refl | false ↦ λ e. after-append xs ys e ] h

  pub through-append : (xs ys : List X) → list_any p xs ≡ true → through p (xs ++ ys) ≡ through p xs
  through-append [] ys h = cc
  through-append (x ∷ xs) ys h = elim (p x) as (λ b. (b || list_any p xs) ≡ true → cond b (x ∷ []) (x ∷ through p (xs ++ ys)) ≡ cond b (x ∷ []) (x ∷ through p xs)) [ true ↦ λ _. refl | false ↦ λ e. ap (λ zs. x ∷ zs) (through-append xs ys e) ] h

  pub one-append : (n : ℕ) (xs ys : List X) → n < many p xs → one_after p n (xs ++ ys) ≡ one_after p n xs
  one-append n [] ys h = let z : ⊥ = omega (arith, h) in absurd z
  one-append zero (x ∷ xs) ys h = elim (p x) as (λ b. zero < cond b (many p xs + 1) (many p xs) → cond b (Some x) (one_after p zero (xs ++ ys)) ≡ cond b (Some x) (one_after p zero xs)) [ true ↦ λ _. refl | false ↦ λ e. one-append zero xs ys e ] h
  one-append (suc n) (x ∷ xs) ys h = elim (p x) as (λ b. suc n < cond b (many p xs + 1) (many p xs) → cond b (one_after p n (xs ++ ys)) (one_after p (suc n) (xs ++ ys)) ≡ cond b (one_after p n xs) (one_after p (suc n) xs)) [ true ↦ λ e. one-append n xs ys (omega (arith, e)) | false ↦ λ e. one-append (suc n) xs ys e ] h

  pub many-append : (xs ys : List X) → many p (xs ++ ys) ≡ many p xs + many p ys
  many-append [] ys = omega arith
  many-append (x ∷ xs) ys = let e = many-append xs ys in elim (p x) as (λ b. cond b (many p (xs ++ ys) + 1) (many p (xs ++ ys)) ≡ cond b (many p xs + 1) (many p xs) + many p ys) [ true ↦ omega (arith, e) | false ↦ omega (arith, e) ]

pub channel-append : (k : ℕ) (ms xs : List ConfirmMark) → 0 < k → k ≤ added ms → channel_of k (ms ++ xs) ≡ channel_of k ms
channel-append zero ms xs z h = let w : ⊥ = omega (arith, z) in absurd w
channel-append (suc k) ms xs z h = ap channel_in (one-append adds k ms xs (omega (arith, h)))

pub tag-append : (k : ℕ) (ms xs : List ConfirmMark) → 0 < k → k ≤ added ms → has_left k ms ≡ true → tag_of k (ms ++ xs) ≡ tag_of k ms
tag-append k ms xs z h l = rw (channel-append k ms xs z h, through-append (leaves k) ms xs l) refl

pub or-assoc : {X : Type 0} (a b c : Option X) → option_or (option_or a b) c ≡ option_or a (option_or b c)
or-assoc None b c = refl
or-assoc (Some x) b c = refl

pub settled-append : (c t : ℕ) (xs ys : List ConfirmMark) → first_settled c t (xs ++ ys) ≡ option_or (first_settled c t xs) (first_settled c t ys)
settled-append c t [] ys = refl
settled-append c t (m ∷ xs) ys = ap (λ o. option_or (settlement_on c t m) o) (settled-append c t xs ys) ∙ sym (or-assoc (settlement_on c t m) (first_settled c t xs) (first_settled c t ys))

left-append : (k : ℕ) (ms xs : List ConfirmMark) → has_left k ms ≡ true → has_left k (ms ++ xs) ≡ true
left-append k ms xs h = list_any-append (leaves k) ms xs ∙ rw h refl

-- the outcome of one that left with a tag
pub outcome_left : (k c t : ℕ) (ms : List ConfirmMark) → has_left k ms ≡ true → channel_of k ms ≡ c → tag_of k ms ≡ Some t → outcome_at k ms ≡ first_settled c t (after (leaves k) ms)
outcome_left k c t ms l on tag =
    ap (λ b. cond b (outcome_after (channel_of k ms) (tag_of k ms) (after (leaves k) ms)) (first_rejected (channel_of k ms) (life k ms))) l
    ∙ (ap (λ o. outcome_after (channel_of k ms) o (after (leaves k) ms)) tag ∙ ap (λ d. first_settled d t (after (leaves k) ms)) on)

-- what is pending is resolved by the first of the further marks that does it
pub pending_on : (c k t : ℕ) (ms xs : List ConfirmMark) → IsPending c k t ms → outcome_at k (ms ++ xs) ≡ first_settled c t xs
pending_on c k t ms xs p =
    let before : first_settled c t (after (leaves k) ms) ≡ None = sym (outcome_left k c t ms p.left p.on p.tag) ∙ p.waits in
    let now = outcome_left k c t (ms ++ xs) (left-append k ms xs p.left) (channel-append k ms xs p.added.0 p.added.1 ∙ p.on) (tag-append k ms xs p.added.0 p.added.1 p.left ∙ p.tag) in
    let split : first_settled c t (after (leaves k) (ms ++ xs)) ≡ option_or (first_settled c t (after (leaves k) ms)) (first_settled c t xs) = ap (first_settled c t) (after-append (leaves k) ms xs p.left) ∙ settled-append c t (after (leaves k) ms) xs in
    now ∙ (split ∙ rw before refl)

first_none : {X : Type 0} (a b : Option X) → option_or a b ≡ None → a ≡ None
first_none None b h = refl
first_none (Some x) b h = cc

-- one that is pending after further marks and had left before them was pending before them
pub pending_back : (c k t : ℕ) (ms xs : List ConfirmMark) → IsPending c k t (ms ++ xs) → k ≤ added ms → has_left k ms ≡ true → IsPending c k t ms
pending_back c k t ms xs p le l =
    let on : channel_of k ms ≡ c = sym (channel-append k ms xs p.added.0 le) ∙ p.on in
    let tag : tag_of k ms ≡ Some t = sym (tag-append k ms xs p.added.0 le l) ∙ p.tag in
    let now : first_settled c t (after (leaves k) (ms ++ xs)) ≡ None = sym (outcome_left k c t (ms ++ xs) p.left p.on p.tag) ∙ p.waits in
    let split : option_or (first_settled c t (after (leaves k) ms)) (first_settled c t xs) ≡ None = sym (settled-append c t (after (leaves k) ms) xs) ∙ (ap (first_settled c t) (sym (after-append (leaves k) ms xs l)) ∙ now) in
    record { added = (p.added.0, le); left = l; on = on; tag = tag; waits = outcome_left k c t ms l on tag ∙ first_none _ _ split }

-- ---- what resolves it as Ack or Nack is a settlement

abbrev pub is_settlement : ConfirmMark → Bool
is_settlement (mark.Settled d s) = true
is_settlement _ = false

pub no_failure : (kind : SettleKind) (b : Bool) (o : Option Outcome) (e : Error) → option_or (cond b (Some (outcome.Failed e)) None) o ≡ Some (kind_outcome kind) → o ≡ Some (kind_outcome kind)
no_failure settle.Ack true o e h = absurd cc
no_failure settle.Nack true o e h = absurd cc
no_failure kind false o e h = h

pub only_settled : (c t : ℕ) (kind : SettleKind) (xs : List ConfirmMark) → list_any is_settlement xs ≡ false → first_settled c t xs ≡ Some (kind_outcome kind) → ⊥
only_settled c t kind [] q h = cc
only_settled c t kind (mark.Settled d s ∷ xs) q h = cc
only_settled c t kind (mark.Ended d e ∷ xs) q h = only_settled c t kind xs q (no_failure kind (c == d) (first_settled c t xs) e h)
only_settled c t kind (mark.Begun d ∷ xs) q h = only_settled c t kind xs q h
only_settled c t kind (mark.SelectCalled d ∷ xs) q h = only_settled c t kind xs q h
only_settled c t kind (mark.LimitSet d l ∷ xs) q h = only_settled c t kind xs q h
only_settled c t kind (mark.Added d ∷ xs) q h = only_settled c t kind xs q h
only_settled c t kind (mark.SelectLeft d ∷ xs) q h = only_settled c t kind xs q h
only_settled c t kind (mark.Left d j ∷ xs) q h = only_settled c t kind xs q h
only_settled c t kind (mark.Arrived d m ∷ xs) q h = only_settled c t kind xs q h
only_settled c t kind (mark.ClosedHere d e ∷ xs) q h = only_settled c t kind xs q h
only_settled c t kind (mark.Taken j ∷ xs) q h = only_settled c t kind xs q h
only_settled c t kind (mark.SetAside j ∷ xs) q h = only_settled c t kind xs q h
only_settled c t kind (mark.Drained d ∷ xs) q h = only_settled c t kind xs q h

same_kind : (a b : SettleKind) → kind_outcome a ≡ kind_outcome b → a ≡ b
same_kind settle.Ack settle.Ack h = refl
same_kind settle.Nack settle.Nack h = refl
same_kind settle.Ack settle.Nack h = absurd cc
same_kind settle.Nack settle.Ack h = absurd cc

-- one settlement that resolves it so is on its channel, covers its tag and is of that kind
pub settled_so : (c t d : ℕ) (kind : SettleKind) (s : Settlement) → first_settled c t (mark.Settled d s ∷ []) ≡ Some (kind_outcome kind) → ((c == d) ≡ true) × (covers s t ≡ true) × (s.kind ≡ kind)
settled_so c t d kind s = elim (c == d) as (λ b. option_or (cond (b && covers s t) (Some (outcome_of s)) None) None ≡ Some (kind_outcome kind) → (b ≡ true) × (covers s t ≡ true) × (s.kind ≡ kind)) [
  | true ↦ elim (covers s t) as (λ b. option_or (cond b (Some (outcome_of s)) None) None ≡ Some (kind_outcome kind) → (true ≡ true) × (b ≡ true) × (s.kind ≡ kind)) [ true ↦ λ h. (refl, refl, same_kind s.kind kind (same_Some _ _ h)) | false ↦ λ h. absurd cc ]
  | false ↦ λ h. absurd cc
]
