-- Which marks answer a ticket that was open before.
use Rattle.std.proofs.Common.{◌≡◌, ◌∙◌, ℕ, zero, suc, ◌+◌, ◌≤◌, ◌<◌, Bool, true, false, cond, ◌||◌, List, [], ◌∷◌, ◌++◌, Option, Some, None, Result, inl, inr, refl, sym, ap, arith}
use Rattle.std.specs.List.{list_any}
use Rattle.std.specs.Option.{option_or}
use Rattle.std.proofs.lemmas.Bool.{cases_lt}
use Rattle.std.proofs.lemmas.Bool.Decides.{eqb_tells}
use Rattle.lapin_types.specs.declared.answer.Answer.{Answer}
use Rattle.lapin_types.specs.Types.{Error}
use Rattle.lapin_rules.specs.declared.marks.AtLeaving.{AtLeaving}
use Rattle.lapin_rules.specs.TicketReadings.{TicketMark, gives, answer_by, first_answer, answer_of, begins, channel_of, channel_in, leaving_of, leaving_in, life}
use Rattle.lapin_rules.specs.Requests.{resolved_with}
use Rattle.lapin_rules.specs.Words.{many, one_after, rest_after, nth}
use Rattle.lapin_verdicts.proofs.Turns.{life-append}

-- ---- lists

pub one-append : {X : Type 0} (p : X → Bool) (n : ℕ) (xs ys : List X) → n < many p xs → one_after p n (xs ++ ys) ≡ one_after p n xs
one-append p n [] ys h = let z : ⊥ = omega (arith, h) in absurd z
one-append p zero (x ∷ xs) ys h = elim (p x) as (λ b. zero < cond b (many p xs + 1) (many p xs) → cond b (Some x) (one_after p zero (xs ++ ys)) ≡ cond b (Some x) (one_after p zero xs)) [ true ↦ λ _. refl | false ↦ λ e. one-append p zero xs ys e ] h
one-append p (suc n) (x ∷ xs) ys h = elim (p x) as (λ b. suc n < cond b (many p xs + 1) (many p xs) → cond b (one_after p n (xs ++ ys)) (one_after p (suc n) (xs ++ ys)) ≡ cond b (one_after p n xs) (one_after p (suc n) xs)) [ true ↦ λ e. one-append p n xs ys (omega (arith, e)) | false ↦ λ e. one-append p (suc n) xs ys e ] h

rest_none : {X : Type 0} (p : X → Bool) (n : ℕ) (ys : List X) → list_any p ys ≡ false → rest_after p n ys ≡ []
rest_none p n [] h = refl
rest_none p zero (y ∷ ys) h = elim (p y) as (λ b. (b || list_any p ys) ≡ false → cond b ys (rest_after p zero ys) ≡ []) [ true ↦ λ e. absurd cc | false ↦ λ e. rest_none p zero ys e ] h
rest_none p (suc n) (y ∷ ys) h = elim (p y) as (λ b. (b || list_any p ys) ≡ false → cond b (rest_after p n ys) (rest_after p (suc n) ys) ≡ []) [ true ↦ λ e. absurd cc | false ↦ λ e. rest_none p (suc n) ys e ] h

-- what stands after one that isn't there
pub rest_missing : {X : Type 0} (p : X → Bool) (n : ℕ) (xs ys : List X) → many p xs ≤ n → list_any p ys ≡ false → rest_after p n (xs ++ ys) ≡ []
rest_missing p n [] ys le h = rest_none p n ys h
rest_missing p zero (x ∷ xs) ys le h = elim (p x) as (λ b. cond b (many p xs + 1) (many p xs) ≤ zero → cond b (xs ++ ys) (rest_after p zero (xs ++ ys)) ≡ []) [ true ↦ λ e. (let z : ⊥ = omega (arith, e) in absurd z) | false ↦ λ e. rest_missing p zero xs ys e h ] le
rest_missing p (suc n) (x ∷ xs) ys le h = elim (p x) as (λ b. cond b (many p xs + 1) (many p xs) ≤ suc n → cond b (rest_after p n (xs ++ ys)) (rest_after p (suc n) (xs ++ ys)) ≡ []) [ true ↦ λ e. rest_missing p n xs ys (omega (arith, e)) h | false ↦ λ e. rest_missing p (suc n) xs ys e h ] le

-- ---- answers

or-assoc : {X : Type 0} (a b d : Option X) → option_or (option_or a b) d ≡ option_or a (option_or b d)
or-assoc None b d = refl
or-assoc (Some x) b d = refl

-- the marks behind, with what they find
pub answers-append : (n c : ℕ) (l : AtLeaving) (b : Bool) (xs ys : List TicketMark) → (v : Bool) × (first_answer n c l b (xs ++ ys) ≡ option_or (first_answer n c l b xs) (first_answer n c l v ys))
answers-append n c l b [] ys = (b, refl)
answers-append n c l b (m ∷ xs) ys = let r = answers-append n c l (b || begins n m) xs ys in (r.0, ap (option_or (answer_by n c l b m)) r.1 ∙ sym (or-assoc (answer_by n c l b m) (first_answer n c l (b || begins n m) xs) (first_answer n c l r.0 ys)))

-- some of these marks answer the ticket so
pub record Answers (n : ℕ) (xs : List TicketMark) (y : Result Answer Error) : Type 0 where
  pub channel : ℕ
  pub leaving : AtLeaving
  pub begun : Bool
  pub is : first_answer n channel leaving begun xs ≡ Some y

module _ (ms xs : List TicketMark) (y : Result Answer Error) (none : list_any gives xs ≡ false) where
  there : (k : ℕ) → k < many gives ms → answer_of (suc k) ms ≡ None → answer_of (suc k) (ms ++ xs) ≡ Some y → Answers (suc k) xs y
  there k lt was now =
      let c : ℕ = channel_of (suc k) ms in
      let l : AtLeaving = leaving_of (suc k) ms in
      let one : nth gives (suc k) (ms ++ xs) ≡ nth gives (suc k) ms = one-append gives k ms xs lt in
      let more : life (suc k) (ms ++ xs) ≡ life (suc k) ms ++ xs = life-append gives k ms xs lt in
      let both = answers-append (suc k) c l false (life (suc k) ms) xs in
      let at : first_answer (suc k) c l false (life (suc k) ms ++ xs) ≡ Some y =
      ap (first_answer (suc k) c l false) (sym more) ∙ (ap (λ o. first_answer (suc k) (channel_in o) (leaving_in o) false (life (suc k) (ms ++ xs))) (sym one) ∙ now) in
      record { channel = c; leaving = l; begun = both.0; is = ap (λ o. option_or o (first_answer (suc k) c l both.0 xs)) (sym was) ∙ (sym both.1 ∙ at) }

  missing : (k : ℕ) → many gives ms ≤ k → answer_of (suc k) (ms ++ xs) ≡ Some y → ⊥
  missing k le now =
      let none_lives : life (suc k) (ms ++ xs) ≡ [] = rest_missing gives k ms xs le none in
      let w : None ≡ Some y = ap (first_answer (suc k) (channel_of (suc k) (ms ++ xs)) (leaving_of (suc k) (ms ++ xs)) false) (sym none_lives) ∙ now in
      cc

  -- a ticket that was open is answered by a mark that comes
  pub new_answer : (n : ℕ) → answer_of n ms ≡ None → answer_of n (ms ++ xs) ≡ Some y → Answers n xs y
  new_answer zero was now = absurd cc
  new_answer (suc k) was now = elim (cases_lt k (many gives ms)) [
    | inl lt ↦ there k lt was now
    | inr le ↦ absurd (missing k le now)
  ]

-- no mark answers none
pub none_answers : (n : ℕ) (y : Result Answer Error) → Answers n [] y → ⊥
none_answers n y a = let w : None ≡ Some y = a.is in cc

-- a resolved ticket is the one that is answered
pub resolved_is : (n : ℕ) (o : Option ℕ) (x y : Result Answer Error) → Answers n (resolved_with x o) y → (o ≡ Some n) × (x ≡ y)
resolved_is n None x y a = absurd (none_answers n y a)
resolved_is n (Some t) x y a = elim (eqb_tells t n) [
  | inl e ↦ (ap Some e.1, let w : Some x ≡ Some y = ap (λ v. option_or (cond v (Some x) None) None) (sym e.0) ∙ a.is in (let z : x ≡ y = cc in z))
  | inr e ↦ let w : None ≡ Some y = ap (λ v. option_or (cond v (Some x) None) None) (sym e.0) ∙ a.is in absurd cc
]

pub resolved_gives : (o : Option ℕ) (x : Result Answer Error) → list_any gives (resolved_with x o) ≡ false
resolved_gives None x = refl
resolved_gives (Some t) x = refl
