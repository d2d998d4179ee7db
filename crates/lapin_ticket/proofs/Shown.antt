-- Slots as contracts see them, some of which stand in blocks: what a mark does, and what moves between the two.
use Rattle.std.proofs.Common.{◌≡◌, ◌≢◌, ℕ, zero, suc, ◌+◌, ◌-◌, ◌*◌, ◌/◌, ◌%◌, ◌<◌, ◌≤◌, ◌==◌, Bool, true, false, cond, ◌||◌, is_ok, List, [], ◌∷◌, ◌++◌, length, Option, Some, None, Result, refl, sym, ◌∙◌, ap, subst, arith, slice_get, inl, inr, length-append}
use Rattle.std.proofs.lemmas.Bool.{cases_lt}
use Rattle.std.proofs.lemmas.Bool.Decides.{eqb_tells}
use Rattle.std.proofs.lemmas.Option.{get_or_from_slice_get, slice_get-get_or}
use Rattle.std.proofs.Math.ListN.{get_or-eq_default}
use Rattle.std.proofs.Math.Nat.{div-add-mod}
use Rattle.lapin_types.specs.declared.answer.Answer.{Answer}
use Rattle.lapin_types.specs.Types.{Error}
use Rattle.lapin_tables.specs.Numbered.{under, with_under}
use Rattle.lapin_tables.proofs.SlotLaws.{length-with, under-other}
use Rattle.lapin_rules.specs.declared.marks.AtLeaving.TheVariants as leaving
use Rattle.lapin_rules.specs.TicketReadings.{TicketMark, gives, closes, begins, answer_by}
use Rattle.lapin_rules.specs.TicketReadings as mark
use Rattle.lapin_ticket.specs.declared.Slot.{Slot}
use Rattle.lapin_ticket.specs.declared.Slot.TheVariants as slot
use Rattle.lapin_ticket.specs.declared.packed.Block.{Block}
use Rattle.lapin_ticket.specs.Slots.{after_mark, after_poll, laid_slot, is_held, is_awaited, is_open_on}
use Rattle.lapin_ticket.specs.Follows.{held}
use Rattle.lapin_ticket.specs.Room.{HasSlot}
use Rattle.lapin_ticket.specs.Given.{GivenOnChannel, AreListed}
use Rattle.lapin_ticket.specs.Packed.{packed_in, packed_at, or_slot, shown, IsPacked}
use Rattle.lapin_ticket.proofs.Following.{slot_after, gone_stays, held_stays, open_moves, marked-slot, length-marked}

-- what was taken out is not there
pub closed-none : {T : Type 0} (n : ℕ) (xs : List (Option T)) → under n (with_under n None xs) ≡ None
closed-none zero xs = refl
closed-none (suc k) [] = refl
closed-none (suc zero) (x ∷ xs) = refl
closed-none (suc (suc k)) (x ∷ xs) = closed-none (suc k) xs

same_from_gets : (xs ys : List (Option Slot)) → length xs ≡ length ys → ((k : ℕ) → k < length xs → slice_get xs k ≡ slice_get ys k) → xs ≡ ys
same_from_gets [] [] long same = refl
same_from_gets [] (y ∷ ys) long same = absurd (omega (arith, long))
same_from_gets (x ∷ xs) [] long same = absurd (omega (arith, long))
same_from_gets (x ∷ xs) (y ∷ ys) long same =
    let first : Some x ≡ Some y = same 0 (omega arith) in
    let rest : xs ≡ ys = same_from_gets xs ys (omega (arith, long)) (λ k lt. same (suc k) (omega (arith, lt))) in
    cc

stands : (xs : List (Option Slot)) (k : ℕ) → k < length xs → slice_get xs k ≡ Some (under (suc k) xs)
stands xs k lt = slice_get-get_or xs k None lt

pub length_shown : (i : ℕ) (bs : List (Option Block)) (xs : List (Option Slot)) → length (shown i bs xs) ≡ length xs
length_shown i bs [] = refl
length_shown i bs (x ∷ xs) = ap suc (length_shown (suc i) bs xs)

get-shown : (i k : ℕ) (bs : List (Option Block)) (xs : List (Option Slot)) (o : Option Slot) → slice_get xs k ≡ Some o → slice_get (shown i bs xs) k ≡ Some (or_slot (packed_at (suc (i + k)) bs) o)
get-shown i k bs [] o h = cc
get-shown i zero bs (x ∷ xs) o h =
    let same : x ≡ o = cc in
    let here : i ≡ i + 0 = omega arith in
    ap (λ n. Some (or_slot (packed_at (suc n) bs) x)) here ∙ ap (λ y. Some (or_slot (packed_at (suc (i + 0)) bs) y)) same
get-shown i (suc k) bs (x ∷ xs) o h =
    let there : suc i + k ≡ i + suc k = omega arith in
    get-shown (suc i) k bs xs o h ∙ ap (λ n. Some (or_slot (packed_at (suc n) bs) o)) there

-- the slot of ticket k + 1
seen : (k : ℕ) (bs : List (Option Block)) (xs : List (Option Slot)) (o : Option Slot) → slice_get xs k ≡ Some o → slice_get (shown 0 bs xs) k ≡ Some (or_slot (packed_at (suc k) bs) o)
seen k bs xs o h = let from : 0 + k ≡ k = omega arith in get-shown 0 k bs xs o h ∙ ap (λ n. Some (or_slot (packed_at (suc n) bs) o)) from

pub under-shown : (n : ℕ) (bs : List (Option Block)) (xs : List (Option Slot)) → 0 < n → n ≤ length xs → under n (shown 0 bs xs) ≡ or_slot (packed_at n bs) (under n xs)
under-shown zero bs xs first within = absurd (omega arith)
under-shown (suc k) bs xs first within = get_or_from_slice_get (shown 0 bs xs) k (or_slot (packed_at (suc k) bs) (under (suc k) xs)) None (seen k bs xs (under (suc k) xs) (stands xs k (omega (arith, within))))

-- a ticket that is awaited has its slot
pub awaited_shown : (n : ℕ) (bs : List (Option Block)) (xs : List (Option Slot)) → IsPacked bs xs → is_awaited (under n (shown 0 bs xs)) ≡ is_awaited (under n xs)
awaited_shown zero bs xs h = refl
awaited_shown (suc k) bs xs h = elim (cases_lt k (length xs)) [
  | inl within ↦ ap is_awaited (under-shown (suc k) bs xs (omega arith) (omega (arith, within))) ∙ by-case (packed_at (suc k) bs) refl
  | inr past ↦
      let shown-past : under (suc k) (shown 0 bs xs) ≡ None = get_or-eq_default (shown 0 bs xs) None (omega (arith, past, length_shown 0 bs xs)) in
      let none : under (suc k) xs ≡ None = get_or-eq_default xs None past in
      ap is_awaited (shown-past ∙ sym none)
]
  where
    by-case : (p : Option (Result Answer Error)) → packed_at (suc k) bs ≡ p → is_awaited (or_slot p (under (suc k) xs)) ≡ is_awaited (under (suc k) xs)
    by-case None at = refl
    by-case (Some a) at = sym (ap is_awaited (h.apart (suc k) a at))

-- ---- marks

commutes : (p : Option (Result Answer Error)) (n : ℕ) (m : TicketMark) (o : Option Slot) → closes n m ≡ false → or_slot p (slot_after n m o) ≡ slot_after n m (or_slot p o)
commutes None n m o quiet = refl
commutes (Some a) n m o quiet = sym (ap (λ b. cond b None (Some (slot.Held a))) quiet) ∙ held_stays n 0 leaving.Nothing false a m

pub shown-marked : (bs : List (Option Block)) (xs : List (Option Slot)) (m : TicketMark) → gives m ≡ false → ((n : ℕ) → closes n m ≡ false) → shown 0 bs (after_mark xs m) ≡ after_mark (shown 0 bs xs) m
shown-marked bs xs m none quiet =
    same_from_gets (shown 0 bs (after_mark xs m)) (after_mark (shown 0 bs xs) m)
    (length_shown 0 bs (after_mark xs m) ∙ length-marked xs m none ∙ sym (length_shown 0 bs xs) ∙ sym (length-marked (shown 0 bs xs) m none))
    (λ k lt.
    let o = under (suc k) xs in
    let within : k < length xs = omega (arith, lt, length_shown 0 bs (after_mark xs m), length-marked xs m none) in
    let is : slice_get xs k ≡ Some o = stands xs k within in
    seen k bs (after_mark xs m) (slot_after (suc k) m o) (marked-slot xs m k o none within is)
    ∙ ap Some (commutes (packed_at (suc k) bs) (suc k) m o (quiet (suc k)))
    ∙ sym (marked-slot (shown 0 bs xs) m k (or_slot (packed_at (suc k) bs) o) none (omega (arith, within, length_shown 0 bs xs)) (seen k bs xs o is)))

-- a ticket that has no slot gets none
still-none : (n : ℕ) (xs : List (Option Slot)) (m : TicketMark) → gives m ≡ false → under n xs ≡ None → under n (after_mark xs m) ≡ None
still-none zero xs m none is = refl
still-none (suc k) xs m none is = elim (cases_lt k (length xs)) [
  | inl within ↦ get_or_from_slice_get (after_mark xs m) k None None (marked-slot xs m k None none within (stands xs k within ∙ ap Some is) ∙ ap Some (sym (gone_stays (suc k) m)))
  | inr past ↦ get_or-eq_default (after_mark xs m) None (omega (arith, past, length-marked xs m none))
]

pub packed-marked : (bs : List (Option Block)) (xs : List (Option Slot)) (m : TicketMark) → gives m ≡ false → IsPacked bs xs → IsPacked bs (after_mark xs m)
packed-marked bs xs m none h = record {
  apart = λ n a at. still-none n xs m none (h.apart n a at);
  covers = omega (arith, h.covers, length-marked xs m none);
}

-- ---- what is given, taken out and moved

-- as other blocks tell the same
pub shown-alike : (i : ℕ) (bs cs : List (Option Block)) (xs : List (Option Slot)) → ((n : ℕ) → packed_at n cs ≡ packed_at n bs) → shown i cs xs ≡ shown i bs xs
shown-alike i bs cs [] same = refl
shown-alike i bs cs (x ∷ xs) same =
    ap (λ p. or_slot p x ∷ shown (suc i) cs xs) (same (suc i)) ∙ ap (λ ys. or_slot (packed_at (suc i) bs) x ∷ ys) (shown-alike (suc i) bs cs xs same)

pub packed-alike : (bs cs : List (Option Block)) (xs : List (Option Slot)) → ((n : ℕ) → packed_at n cs ≡ packed_at n bs) → 64 * length cs ≤ length xs → IsPacked bs xs → IsPacked cs xs
packed-alike bs cs xs same covers h = record { apart = λ n a at. h.apart n a (sym (same n) ∙ at); covers = covers }

-- by k, what stands in blocks and in slots together
by-places : (bs cs : List (Option Block)) (xs zs ys : List (Option Slot)) → length zs ≡ length xs → length ys ≡ length xs → ((k : ℕ) → k < length xs → slice_get ys k ≡ Some (or_slot (packed_at (suc k) cs) (under (suc k) zs))) → shown 0 cs zs ≡ ys
by-places bs cs xs zs ys long also each =
    same_from_gets (shown 0 cs zs) ys (length_shown 0 cs zs ∙ long ∙ sym also)
    (λ k lt.
    let within : k < length zs = omega (arith, lt, length_shown 0 cs zs) in
    seen k cs zs (under (suc k) zs) (stands zs k within) ∙ sym (each k (omega (arith, within, long))))

-- a ticket that has a slot has no answer in a block
pub free : (n : ℕ) (s : Slot) (bs : List (Option Block)) (xs : List (Option Slot)) → IsPacked bs xs → under n xs ≡ Some s → packed_at n bs ≡ None
free n s bs xs h is = by-case (packed_at n bs) refl
  where
    by-case : (p : Option (Result Answer Error)) → packed_at n bs ≡ p → packed_at n bs ≡ None
    by-case None at = at
    by-case (Some a) at = let none : None ≡ Some s = sym (h.apart n a at) ∙ is in cc

-- as an answer goes from its slot into its block
pub shown-moved : (n : ℕ) (a : Result Answer Error) (bs cs : List (Option Block)) (xs : List (Option Slot)) → packed_at n cs ≡ Some a → ((j : ℕ) → j ≢ n → packed_at j cs ≡ packed_at j bs) → IsPacked bs xs → under n xs ≡ Some (slot.Held a) → shown 0 cs (with_under n None xs) ≡ shown 0 bs xs
shown-moved n a bs cs xs here others h held =
    by-places bs cs xs (with_under n None xs) (shown 0 bs xs) (length-with n None xs) (length_shown 0 bs xs)
    (λ k lt.
    let was : slice_get (shown 0 bs xs) k ≡ Some (or_slot (packed_at (suc k) bs) (under (suc k) xs)) = seen k bs xs (under (suc k) xs) (stands xs k lt) in
    was ∙ ap Some (elim (eqb_tells n (suc k)) [
      | inl same ↦
          let H : ℕ → Type 0 = λ j. packed_at j cs ≡ Some a in
          let U : ℕ → Type 0 = λ j. under j xs ≡ Some (slot.Held a) in
          let slot-there : under (suc k) xs ≡ Some (slot.Held a) = subst U same.1 held in
          ap (λ p. or_slot p (under (suc k) xs)) (free (suc k) (slot.Held a) bs xs h slot-there)
          ∙ slot-there
          ∙ sym (ap (λ p. or_slot p (under (suc k) (with_under n None xs))) (subst H same.1 here))
      | inr other ↦
          let apart : suc k ≢ n = λ e. other.1 (sym e) in
          sym (ap (λ p. or_slot p (under (suc k) xs)) (others (suc k) apart))
          ∙ sym (ap (or_slot (packed_at (suc k) cs)) (under-other (suc k) n None xs apart))
    ]))

pub packed-moved : (n : ℕ) (bs cs : List (Option Block)) (xs : List (Option Slot)) → ((j : ℕ) → j ≢ n → packed_at j cs ≡ packed_at j bs) → length cs ≡ length bs → IsPacked bs xs → IsPacked cs (with_under n None xs)
packed-moved n bs cs xs others long h = record {
  apart = λ j a at. elim (eqb_tells j n) [
    | inl same ↦ let U : ℕ → Type 0 = λ i. under i (with_under n None xs) ≡ None in subst U (sym same.1) (closed-none n xs)
    | inr other ↦ still-none j xs (mark.Collected n) refl (h.apart j a (sym (others j other.1) ∙ at))
  ];
  covers = omega (arith, h.covers, long, length-with n None xs);
}

-- a slot or an answer in a block is taken out: both are looked at as the mark's
taken-at : (k n : ℕ) (bs : List (Option Block)) (xs : List (Option Slot)) → k < length xs → slice_get (with_under n None (shown 0 bs xs)) k ≡ Some (cond (n == suc k) None (or_slot (packed_at (suc k) bs) (under (suc k) xs)))
taken-at k n bs xs lt = marked-slot (shown 0 bs xs) (mark.Collected n) k (or_slot (packed_at (suc k) bs) (under (suc k) xs)) refl (omega (arith, lt, length_shown 0 bs xs)) (seen k bs xs (under (suc k) xs) (stands xs k lt))

-- as the answer of a ticket is taken out of its block
pub shown-unpacked : (n : ℕ) (bs cs : List (Option Block)) (xs : List (Option Slot)) → packed_at n cs ≡ None → ((j : ℕ) → j ≢ n → packed_at j cs ≡ packed_at j bs) → under n xs ≡ None → shown 0 cs xs ≡ with_under n None (shown 0 bs xs)
shown-unpacked n bs cs xs gone others none =
    by-places bs cs xs xs (with_under n None (shown 0 bs xs)) refl (length-with n None (shown 0 bs xs) ∙ length_shown 0 bs xs)
    (λ k lt.
    let o = or_slot (packed_at (suc k) bs) (under (suc k) xs) in
    taken-at k n bs xs lt ∙ ap Some (elim (eqb_tells n (suc k)) [
      | inl same ↦
          let H : ℕ → Type 0 = λ j. packed_at j cs ≡ None in
          let U : ℕ → Type 0 = λ j. under j xs ≡ None in
          ap (λ b. cond b None o) same.0 ∙ sym (ap (λ p. or_slot p (under (suc k) xs)) (subst H same.1 gone) ∙ subst U same.1 none)
      | inr other ↦
          ap (λ b. cond b None o) other.0 ∙ sym (ap (λ p. or_slot p (under (suc k) xs)) (others (suc k) (λ e. other.1 (sym e))))
    ]))

-- as a ticket's slot is taken out
pub shown-closed : (n : ℕ) (bs : List (Option Block)) (xs : List (Option Slot)) → packed_at n bs ≡ None → shown 0 bs (with_under n None xs) ≡ with_under n None (shown 0 bs xs)
shown-closed n bs xs gone =
    by-places bs bs xs (with_under n None xs) (with_under n None (shown 0 bs xs)) (length-with n None xs) (length-with n None (shown 0 bs xs) ∙ length_shown 0 bs xs)
    (λ k lt.
    let o = or_slot (packed_at (suc k) bs) (under (suc k) xs) in
    taken-at k n bs xs lt ∙ ap Some (elim (eqb_tells n (suc k)) [
      | inl same ↦
          let H : ℕ → Type 0 = λ j. packed_at j bs ≡ None in
          let U : ℕ → Type 0 = λ j. under j (with_under n None xs) ≡ None in
          ap (λ b. cond b None o) same.0 ∙ sym (ap (λ p. or_slot p (under (suc k) (with_under n None xs))) (subst H same.1 gone) ∙ subst U same.1 (closed-none n xs))
      | inr other ↦
          ap (λ b. cond b None o) other.0 ∙ sym (ap (or_slot (packed_at (suc k) bs)) (under-other (suc k) n None xs (λ e. other.1 (sym e))))
    ]))

-- as a ticket is given
pushed : (i : ℕ) (o : Option Slot) (bs : List (Option Block)) (xs : List (Option Slot)) → packed_at (suc (i + length xs)) bs ≡ None → shown i bs (xs ++ o ∷ []) ≡ shown i bs xs ++ o ∷ []
pushed i o bs [] none =
    let here : i ≡ i + 0 = omega arith in
    ap (λ p. or_slot p o ∷ []) (ap (λ n. packed_at (suc n) bs) here ∙ none)
pushed i o bs (x ∷ xs) none =
    let there : suc i + length xs ≡ i + suc (length xs) = omega arith in
    ap (λ ys. or_slot (packed_at (suc i) bs) x ∷ ys) (pushed (suc i) o bs xs (ap (λ n. packed_at (suc n) bs) there ∙ none))

-- a number behind all blocks
pub behind : (n : ℕ) (bs : List (Option Block)) → 64 * length bs < n → packed_at n bs ≡ None
behind n bs past =
    let none : under (suc ((n - 1) / 64)) bs ≡ None = get_or-eq_default bs None (omega (arith, div-add-mod (n - 1) 64, past)) in
    ap (λ o. cond (n == 0) None (packed_in ((n - 1) % 64) o)) none ∙ either (n == 0)
  where
    either : (b : Bool) → cond b None (packed_in ((n - 1) % 64) None) ≡ None
    either true = refl
    either false = refl

pub shown-given : (o : Option Slot) (bs : List (Option Block)) (xs : List (Option Slot)) → IsPacked bs xs → shown 0 bs (xs ++ o ∷ []) ≡ shown 0 bs xs ++ o ∷ []
shown-given o bs xs h = pushed 0 o bs xs (behind (suc (0 + length xs)) bs (omega (arith, h.covers)))

pub packed-given : (o : Option Slot) (bs : List (Option Block)) (xs : List (Option Slot)) → IsPacked bs xs → IsPacked bs (xs ++ o ∷ [])
packed-given o bs xs h = record {
  apart = λ n a at. elim (cases_lt (length xs) n) [
    | inl past ↦ let none : None ≡ Some a = sym (behind n bs (omega (arith, h.covers, past))) ∙ at in cc
    | inr within ↦ under-old n o xs within ∙ h.apart n a at
  ];
  covers = omega (arith, h.covers, length-append xs (o ∷ []));
}
  where
    under-old : (n : ℕ) (o : Option Slot) (xs : List (Option Slot)) → n ≤ length xs → under n (xs ++ o ∷ []) ≡ under n xs
    under-old zero o xs within = refl
    under-old (suc k) o [] within = absurd (omega (arith, within))
    under-old (suc zero) o (x ∷ xs) within = refl
    under-old (suc (suc k)) o (x ∷ xs) within = under-old (suc k) o xs (omega (arith, within))

-- the slot of any number
pub under-all : (n : ℕ) (bs : List (Option Block)) (xs : List (Option Slot)) → IsPacked bs xs → under n (shown 0 bs xs) ≡ or_slot (packed_at n bs) (under n xs)
under-all zero bs xs h = refl
under-all (suc k) bs xs h = elim (cases_lt k (length xs)) [
  | inl within ↦ under-shown (suc k) bs xs (omega arith) (omega (arith, within))
  | inr past ↦
      let shown-past : under (suc k) (shown 0 bs xs) ≡ None = get_or-eq_default (shown 0 bs xs) None (omega (arith, past, length_shown 0 bs xs)) in
      let none : under (suc k) xs ≡ None = get_or-eq_default xs None past in
      shown-past ∙ sym (ap (λ p. or_slot p (under (suc k) xs)) (behind (suc k) bs (omega (arith, h.covers, past))) ∙ none)
]

-- where a ticket has its slot, that is what is seen
pub under-slot : (n : ℕ) (s : Slot) (bs : List (Option Block)) (xs : List (Option Slot)) → IsPacked bs xs → under n xs ≡ Some s → under n (shown 0 bs xs) ≡ Some s
under-slot n s bs xs h is = under-all n bs xs h ∙ ap (λ p. or_slot p (under n xs)) (free n s bs xs h is) ∙ is

-- where it has none, what stands in its block
pub under-block : (n : ℕ) (bs : List (Option Block)) (xs : List (Option Slot)) → IsPacked bs xs → under n xs ≡ None → under n (shown 0 bs xs) ≡ or_slot (packed_at n bs) None
under-block n bs xs h none = under-all n bs xs h ∙ ap (or_slot (packed_at n bs)) none

module _ (n : ℕ) (bs cs : List (Option Block)) (xs : List (Option Slot)) (gone : packed_at n cs ≡ None) (others : (j : ℕ) → j ≢ n → packed_at j cs ≡ packed_at j bs) (h : IsPacked bs xs) (none : under n xs ≡ None) where
  same-blocks : packed_at n bs ≡ None → (j : ℕ) → packed_at j cs ≡ packed_at j bs
  same-blocks before j = elim (eqb_tells j n) [
    | inl same ↦ let P : ℕ → Type 0 = λ i. packed_at i cs ≡ packed_at i bs in subst P (sym same.1) (gone ∙ sym before)
    | inr other ↦ others j other.1
  ]

  pub polled-unpacked : shown 0 cs xs ≡ after_poll n (shown 0 bs xs)
  polled-unpacked = by-case (packed_at n bs) refl
    where
      by-case : (p : Option (Result Answer Error)) → packed_at n bs ≡ p → shown 0 cs xs ≡ after_poll n (shown 0 bs xs)
      by-case None before = shown-alike 0 bs cs xs (same-blocks before) ∙ sym (ap (λ o. cond (is_held o) (with_under n None (shown 0 bs xs)) (shown 0 bs xs)) (under-block n bs xs h none ∙ ap (λ p. or_slot p None) before))
      by-case (Some a) before = shown-unpacked n bs cs xs gone others none ∙ sym (ap (λ o. cond (is_held o) (with_under n None (shown 0 bs xs)) (shown 0 bs xs)) (under-block n bs xs h none ∙ ap (λ p. or_slot p None) before))

  pub laid-unpacked : shown 0 cs xs ≡ cond (is_ok (laid_slot (or_slot (packed_at n bs) None))) (with_under n None (shown 0 bs xs)) (shown 0 bs xs)
  laid-unpacked = by-case (packed_at n bs) refl
    where
      by-case : (p : Option (Result Answer Error)) → packed_at n bs ≡ p → shown 0 cs xs ≡ cond (is_ok (laid_slot (or_slot (packed_at n bs) None))) (with_under n None (shown 0 bs xs)) (shown 0 bs xs)
      by-case None before = shown-alike 0 bs cs xs (same-blocks before) ∙ sym (ap (λ p. cond (is_ok (laid_slot (or_slot p None))) (with_under n None (shown 0 bs xs)) (shown 0 bs xs)) before)
      by-case (Some a) before = shown-unpacked n bs cs xs gone others none ∙ sym (ap (λ p. cond (is_ok (laid_slot (or_slot p None))) (with_under n None (shown 0 bs xs)) (shown 0 bs xs)) before)

  pub packed-unpacked : length cs ≡ length bs → IsPacked cs xs
  packed-unpacked long = record {
    apart = λ j a at. elim (eqb_tells j n) [
      | inl same ↦ let U : ℕ → Type 0 = λ i. under i xs ≡ None in subst U (sym same.1) none
      | inr other ↦ h.apart j a (sym (others j other.1) ∙ at)
    ];
    covers = omega (arith, h.covers, long);
  }

-- ---- the numbers of a channel

opens-nothing : (n d : ℕ) (m : TicketMark) (o : Option Slot) → is_open_on d (slot_after n m o) ≡ true → is_open_on d o ≡ true
opens-nothing n d m None h = ap (is_open_on d) (gone_stays n m) ∙ h
opens-nothing n d m (Some (slot.Held a)) h = by-case (closes n m) (ap (is_open_on d) (held_stays n 0 leaving.Nothing false a m) ∙ h)
  where
    by-case : (b : Bool) → is_open_on d (cond b None (Some (slot.Held a))) ≡ true → false ≡ true
    by-case true e = e
    by-case false e = e
opens-nothing n d m (Some (slot.Open c l b)) h = by-case (closes n m) (answer_by n c l b m) (ap (is_open_on d) (open_moves n c l b m) ∙ h)
  where
    by-case : (x : Bool) (y : Option (Result Answer Error)) → is_open_on d (cond x None (Some (held c l (b || begins n m) y))) ≡ true → (d == c) ≡ true
    by-case true y e = cc
    by-case false None e = e
    by-case false (Some a) e = cc

pub listed-marked : (xs : List (Option Slot)) (m : TicketMark) (all : List (ℕ × GivenOnChannel)) → gives m ≡ false → AreListed xs all → AreListed (after_mark xs m) all
listed-marked xs m all none listed d zero h = cc
listed-marked xs m all none listed d (suc k) h = elim (cases_lt k (length xs)) [
  | inl within ↦
      let after : under (suc k) (after_mark xs m) ≡ slot_after (suc k) m (under (suc k) xs) = get_or_from_slice_get (after_mark xs m) k (slot_after (suc k) m (under (suc k) xs)) None (marked-slot xs m k (under (suc k) xs) none within (stands xs k within)) in
      listed d (suc k) (opens-nothing (suc k) d m (under (suc k) xs) (sym (ap (is_open_on d) after) ∙ h))
  | inr past ↦
      let gone : under (suc k) (after_mark xs m) ≡ None = get_or-eq_default (after_mark xs m) None (omega (arith, past, length-marked xs m none)) in
      let no : false ≡ true = sym (ap (is_open_on d) gone) ∙ h in
      cc
]

-- ---- room

pub has-more : (r : Option ℕ) (a b : ℕ) → a ≤ b → HasSlot r a → HasSlot r b
has-more None a b more h = tt
has-more (Some c) a b more h = omega (arith, more, h)

-- a number that was never given is not taken
pub untaken : (n : ℕ) (xs : List (Option Slot)) → length xs < n → xs ≡ after_poll n xs
untaken zero xs past = absurd (omega (arith, past))
untaken (suc k) xs past =
    let none : under (suc k) xs ≡ None = get_or-eq_default xs None (omega (arith, past)) in
    sym (ap (λ o. cond (is_held o) (with_under (suc k) None xs) xs) none)
