-- Numbers as bits of words.
use Rattle.std.proofs.Common.{◌≡◌, ◌≢◌, ℕ, ◌+◌, ◌-◌, ◌*◌, ◌/◌, ◌%◌, ◌^◌, ◌<◌, ◌≤◌, ◌==◌, true, false, List, length, get_or, set, sym, ◌∙◌, ap, arith, inl, inr, eq-eqb, nat_lt, subst, w64}
use Rattle.std.proofs.lemmas.Bool.{true≢false, cases_eq, cases_lt, lt-ltb}
use Rattle.std.proofs.lemmas.Bool.Decides.{eqb_tells}
use Rattle.std.proofs.lemmas.List.{get_or-set_same, get_or-set_other, get_or_past, get_or_default}
use Rattle.std.proofs.lemmas.Nat.Bits.{bit_at-zero, bit_at-trailing_zeros}
use Rattle.std.specs.Int.{bit_at, trailing_zeros}
use Rattle.lapin_full.specs.ChannelSet.{is_in}
use Rattle.lapin_full.specs.FullChannels.{IsFirstOpen}
use Rattle.lapin_full.specs.Words.{AreMarked, ShowsLeft}

pub not-one : (n : ℕ) → n ≡ 0 → (n == 1) ≡ false
not-one n is = ap (λ (m : ℕ). m == 1) is

pub one-is : (n : ℕ) → n < 2 → (n == 1) ≡ false → n ≡ 0
one-is n small not = elim (eqb_tells n 1) [
  | inl same ↦ let no : true ≡ false = sym (eq-eqb n 1 same.1) ∙ not in cc
  | inr other ↦ let apart : n ≢ 1 = other.1 in omega arith
]

-- a word that was read
pub read-of : (words : List ℕ) (place word : ℕ) → place < length words → word ≡ get_or words place word → word ≡ get_or words place 0
read-of words place word within is = is ∙ get_or_default words place word 0 within

module _ (words : List ℕ) (c place bit word : ℕ) (at : place ≡ c / 64) (of : bit ≡ c % 64) (within : place < length words) where
  -- a bit is set or cleared
  pub here : (b : ℕ) → bit_at word bit ≡ b → is_in c (set words place word) ≡ (b == 1)
  here b is =
      let same : get_or (set words place word) (c / 64) 0 ≡ word = ap (λ p. get_or (set words place word) p 0) (sym at) ∙ get_or-set_same words place word 0 within in
      let put : bit_at word (c % 64) ≡ b = ap (bit_at word) (sym of) ∙ is in
      ap (λ w. bit_at w (c % 64) == 1) same ∙ ap (λ n. n == 1) put

  -- every other bit stays
  pub others : ((i : ℕ) → i < 64 → i ≢ bit → bit_at word i ≡ bit_at (get_or words place 0) i) → (d : ℕ) → d ≢ c → is_in d (set words place word) ≡ is_in d words
  others same d apart = elim (cases_eq (d / 64) place) [
    | inl there ↦
        let other : d % 64 ≢ bit = λ e. apart (omega arith) in
        let put : get_or (set words place word) (d / 64) 0 ≡ word = ap (λ p. get_or (set words place word) p 0) there ∙ get_or-set_same words place word 0 within in
        let low : d % 64 < 64 = omega arith in
        ap (λ w. bit_at w (d % 64) == 1) put ∙ ap (λ n. n == 1) (same (d % 64) low other ∙ ap (λ p. bit_at (get_or words p 0) (d % 64)) (sym there))
    | inr elsewhere ↦ ap (λ w. bit_at w (d % 64) == 1) (get_or-set_other words place (d / 64) word 0 elsewhere)
  ]

-- beyond the last word no channel is in
pub beyond : (c : ℕ) (words : List ℕ) → length words ≤ c / 64 → is_in c words ≡ false
beyond c words far = ap (λ w. bit_at w (c % 64) == 1) (get_or_past words (c / 64) 0 far) ∙ not-one (bit_at 0 (c % 64)) (bit_at-zero (c % 64))

-- the lowest bit that is left is of the first channel
pub first-here : (words others : List ℕ) (place from left n : ℕ) → ((c : ℕ) → from ≤ c → c < 64 * place → is_in c words ≡ true → is_in c others ≡ true) → ShowsLeft words others place from left → 0 < left → left < 2 ^ 64 → n ≡ 64 * place + trailing_zeros w64 left → IsFirstOpen (λ c. is_in c others) words from n
first-here words others place from left n done shows some fits is =
    let lowest = bit_at-trailing_zeros w64 left some fits in
    let there = shows.some (trailing_zeros w64 left) lowest.0 lowest.1 in
    subst (λ (m : ℕ). IsFirstOpen (λ c. is_in c others) words from m) (sym is) (record {
      from_on = there.0;
      inside = there.1;
      open_ = there.2;
      first = λ c on before inside. elim (cases_lt c (64 * place)) [
        | inl below ↦ done c on below inside
        | inr here ↦
            let low : c - 64 * place < trailing_zeros w64 left = omega arith in
            let same : 64 * place + (c - 64 * place) ≡ c = omega arith in
            let within : c - 64 * place < 64 = omega (arith, lowest.0) in
            let Q : ℕ → Type 0 = λ d. from ≤ d → is_in d words ≡ true → is_in d others ≡ true in
            subst Q same (shows.none (c - 64 * place) within (lowest.2 (c - 64 * place) low)) on inside
      ];
    })

-- a word of which a bit was taken is no more than it was
pub fewer : (words : List ℕ) (c place word d : ℕ) → place ≡ c / 64 → place < length words → word ≤ get_or words place d → get_or (set words place word) (c / 64) 0 ≤ get_or words (c / 64) 0
fewer words c place word d at within less =
    let same : get_or (set words place word) (c / 64) 0 ≡ word = ap (λ p. get_or (set words place word) p 0) (sym at) ∙ get_or-set_same words place word 0 within in
    let was : get_or words (c / 64) 0 ≡ get_or words place d = ap (λ p. get_or words p 0) (sym at) ∙ sym (get_or_default words place d 0 within) in
    omega (arith, same, was, less)

-- where the place of each word with a bit is marked, that of a word of which a number is in is marked too
pub has-bit : (words : List ℕ) (c : ℕ) → is_in c words ≡ true → nat_lt 0 (get_or words (c / 64) 0) ≡ true
has-bit words c inside = elim (cases_eq (get_or words (c / 64) 0) 0) [
  | inl none ↦ absurd (true≢false (sym inside ∙ ap (λ w. bit_at w (c % 64) == 1) none ∙ not-one (bit_at 0 (c % 64)) (bit_at-zero (c % 64))))
  | inr some ↦ lt-ltb 0 (get_or words (c / 64) 0) (omega arith)
]

-- the place of a number that was put in is marked
pub marked-here : (old new was now : List ℕ) (c : ℕ) → AreMarked old was → is_in c new ≡ true → ((p : ℕ) → p ≢ c / 64 → get_or new p 0 ≡ get_or old p 0) → is_in (c / 64) now ≡ true → ((p : ℕ) → p ≢ c / 64 → is_in p now ≡ is_in p was) → AreMarked new now
marked-here old new was now c marked inside words here others p = elim (cases_eq p (c / 64)) [
  | inl same ↦ ap (λ q. is_in q now) same ∙ here ∙ sym (has-bit new c inside) ∙ ap (λ q. nat_lt 0 (get_or new q 0)) (sym same)
  | inr apart ↦ others p apart ∙ marked p ∙ ap (nat_lt 0) (sym (words p apart))
]

-- which places are marked stays where the words and the places stay, but for those without a bit
pub still-marked : (old new was now : List ℕ) → AreMarked old was → ((p : ℕ) → get_or new p 0 ≡ get_or old p 0) → ((p : ℕ) → get_or now p 0 ≡ get_or was p 0) → AreMarked new now
still-marked old new was now marked words places p = ap (λ w. bit_at w (p % 64) == 1) (places (p / 64)) ∙ marked p ∙ ap (nat_lt 0) (sym (words p))

-- a word whose place is marked is there
pub marked-within : (words places : List ℕ) (p : ℕ) → AreMarked words places → is_in p places ≡ true → p < length words
marked-within words places p marked inside = elim (cases_lt p (length words)) [
  | inl within ↦ within
  | inr past ↦ absurd (true≢false (sym inside ∙ marked p ∙ ap (nat_lt 0) (get_or_past words p 0 past)))
]

-- no channel has its bit where no place is marked
pub unmarked : (words others places : List ℕ) (start c : ℕ) → AreMarked words places → ((p : ℕ) → start ≤ p → p ≤ c / 64 → is_in p places ≡ true → false ≡ true) → 64 * start ≤ c → is_in c words ≡ true → is_in c others ≡ true
unmarked words others places start c marked none on inside = absurd (true≢false (sym (none (c / 64) (omega arith) (omega arith) (marked (c / 64) ∙ has-bit words c inside))))

module _ (words others places : List ℕ) (from start place : ℕ) (marked : AreMarked words places) (done : (c : ℕ) → from ≤ c → c < 64 * start → is_in c words ≡ true → is_in c others ≡ true) (none : (p : ℕ) → start ≤ p → p < place → is_in p places ≡ true → false ≡ true) where
  -- the search goes on to the first place that is marked
  pub before-marked : (c : ℕ) → from ≤ c → c < 64 * place → is_in c words ≡ true → is_in c others ≡ true
  before-marked c on before inside = elim (cases_lt c (64 * start)) [
    | inl below ↦ done c on below inside
    | inr behind ↦ unmarked words others places start c marked (λ p from_on up. none p from_on (omega arith)) behind inside
  ]

  -- and behind it where nothing is left of its word
  pub behind-marked : (left : ℕ) → ShowsLeft words others place from left → left ≡ 0 → (c : ℕ) → from ≤ c → c < 64 * place + 64 → is_in c words ≡ true → is_in c others ≡ true
  behind-marked left shows nothing c on before inside = elim (cases_lt c (64 * place)) [
    | inl below ↦ before-marked c on below inside
    | inr there ↦
        let low : c - 64 * place < 64 = omega arith in
        let same : 64 * place + (c - 64 * place) ≡ c = omega arith in
        let zero_ : bit_at left (c - 64 * place) ≡ 0 = ap (λ w. bit_at w (c - 64 * place)) nothing ∙ bit_at-zero (c - 64 * place) in
        let Q : ℕ → Type 0 = λ d. from ≤ d → is_in d words ≡ true → is_in d others ≡ true in
        subst Q same (shows.none (c - 64 * place) low zero_) on inside
  ]
