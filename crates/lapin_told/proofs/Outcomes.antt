-- What is read off marks that fit, fits: answers of tickets, outcomes of confirms, limits and tags.
use Rattle.std.proofs.Common.{◌≡◌, ℕ, zero, suc, ◌+◌, ◌≤◌, ◌==◌, ◌&&◌, ◌||◌, not, Bool, true, false, cond, List, [], ◌∷◌, Option, Some, None, Ok, Err, Result, refl, subst, inl, inr, arith}
use Rattle.std.specs.List.{AllByRecursion as Each, list_any}
use Rattle.std.specs.Option.{option_or, option_map}
use Rattle.std.proofs.lemmas.Bool.Decides.{eqb_tells}
use Rattle.std.proofs.lemmas.List.Recursion.{is_count_by}
use Rattle.lapin_types.specs.Types.{Error}
use Rattle.lapin_types.specs.declared.answer.Answer.{Answer}
use Rattle.lapin_types.specs.declared.outcome.Outcome.{Outcome}
use Rattle.lapin_types.specs.declared.outcome.Outcome.TheVariants as outcome
use Rattle.lapin_rules.specs.declared.marks.AtLeaving.{AtLeaving}
use Rattle.lapin_rules.specs.declared.marks.AtLeaving.TheVariants as leaving
use Rattle.lapin_rules.specs.declared.marks.SettleKind.{SettleKind}
use Rattle.lapin_rules.specs.declared.marks.SettleKind.TheVariants as settle
use Rattle.lapin_rules.specs.ConfirmMarks.{ConfirmMark}
use Rattle.lapin_rules.specs.ConfirmMarks as mark
use Rattle.lapin_rules.specs.ConfirmReadings.{covers, kind_outcome, outcome_of, opening, place, selects, leaves_on, has_left, channel_of, tag_of, rejection_on, first_rejected, settlement_on, first_settled, outcome_after, outcome_at, present, turns, limit_after, last_limit, limit_of, adds, added}
use Rattle.lapin_rules.specs.ConfirmReadings as confirm
use Rattle.lapin_rules.specs.TicketReadings.{TicketMark, gives, answer_at, answer_by, first_answer, answer_of, is_publish, is_spared, leaving_of}
use Rattle.lapin_rules.specs.TicketReadings as ticket
use Rattle.lapin_rules.specs.Words.{after, since, many}
use Rattle.lapin_lines.specs.KeptLines.{ErrorFits}
use Rattle.lapin_told.proofs.Each.{Of, chosen, each_rest}
use Rattle.lapin_told.proofs.Fitting.{AnswerFits, ConfirmFits, LeavingFits, ResultFits, TicketFits, Wide, counts, impossible}

or_of : {X : Type 0} (P : X → Type 0) (x y : Option X) → Of P x → Of P y → Of P (option_or x y)
or_of P None y h k = k
or_of P (Some x) y h k = h

pub each_after : {X : Type 0} (P : X → Type 0) (p : X → Bool) (xs : List X) → Each P xs → Each P (after p xs)
each_after P p [] h = tt
each_after P p (x ∷ xs) h = chosen (Each P) (p x) xs (after p xs) h.1 (each_after P p xs h.1)

each_since : {X : Type 0} (P : X → Type 0) (p : X → Bool) (xs : List X) → Each P xs → Each P (since p xs)
each_since P p [] h = tt
each_since P p (x ∷ xs) h = chosen (Each P) (list_any p xs) (since p xs) (cond (p x) xs []) (each_since P p xs h.1) (chosen (Each P) (p x) xs [] h.1 tt)

-- ---- tickets

module _ (K : ℕ → Bool) (n : ℕ) (known : K n ≡ true) where
  -- what a known ticket is answered
  abbrev pub Plain : Result Answer Error → Type 0
  Plain (Ok a) = AnswerFits a
  Plain (Err e) = ErrorFits e

  plain : (a : Result Answer Error) → ResultFits K a n → Plain a
  plain (Ok a) h = h known
  plain (Err e) h = h

  at_leaving : (l : AtLeaving) → LeavingFits l → Of Plain (option_map Ok (answer_at l))
  at_leaving leaving.Nothing h = tt
  at_leaving leaving.Done h = tt
  at_leaving (leaving.Confirm m) h = h
  at_leaving leaving.Yes h = absurd h

  answered : (c : ℕ) (l : AtLeaving) (b : Bool) (m : TicketMark) → LeavingFits l → TicketFits K m → Of Plain (answer_by n c l b m)
  answered c l b (ticket.LastLeft j) f h = chosen (Of Plain) (j == n) (option_map Ok (answer_at l)) None (at_leaving l f) tt
  answered c l b (ticket.Answered j a) f h = elim (eqb_tells j n) [
    | inl y ↦ let P : ℕ → Type 0 = λ i. ResultFits K a i in rw y.0 (plain a (subst P y.1 h))
    | inr x ↦ rw x.0 tt
  ]
  answered c l b (ticket.ClosedHere d e) f h = chosen (Of Plain) (d == c && (is_publish l && not b)) (Some (Err e)) None h tt
  answered c l b (ticket.OpeningFailed d spared e) f h = chosen (Of Plain) (d == c && not (is_spared n spared)) (Some (Err e)) None h tt
  answered c l b (ticket.AllFailed e) f h = h
  answered c l b _ f h = tt

  first_fits : (c : ℕ) (l : AtLeaving) (b : Bool) (ms : List TicketMark) → LeavingFits l → Each (TicketFits K) ms → Of Plain (first_answer n c l b ms)
  first_fits c l b [] f h = tt
  first_fits c l b (m ∷ ms) f h = or_of Plain (answer_by n c l b m) (first_answer n c l (b || ticket.begins n m) ms) (answered c l b m f h.0) (first_fits c l (b || ticket.begins n m) ms f h.1)

  life_fits : (j : ℕ) (ms : List TicketMark) → Each (TicketFits K) ms → Each (TicketFits K) (ticket.life j ms)
  life_fits zero ms h = tt
  life_fits (suc k) ms h = each_rest (TicketFits K) gives k ms h

  pub answer_fits : (ms : List TicketMark) → LeavingFits (leaving_of n ms) → Each (TicketFits K) ms → Of Plain (answer_of n ms)
  answer_fits ms f h = first_fits (ticket.channel_of n ms) (leaving_of n ms) false (ticket.life n ms) f (life_fits n ms h)

-- ---- outcomes

abbrev pub OutcomeFits : Outcome → Type 0
OutcomeFits (outcome.Failed e) = ErrorFits e
OutcomeFits _ = Unit {0}

rejected : (c : ℕ) (m : ConfirmMark) → ConfirmFits m → Of OutcomeFits (rejection_on c m)
rejected c (mark.ClosedHere d e) h = chosen (Of OutcomeFits) (c == d) (Some (outcome.Failed e)) None h tt
rejected c (mark.Ended d e) h = chosen (Of OutcomeFits) (c == d) (Some (outcome.Failed e)) None h tt
rejected c _ h = tt

all_rejected : (c : ℕ) (ms : List ConfirmMark) → Each ConfirmFits ms → Of OutcomeFits (first_rejected c ms)
all_rejected c [] h = tt
all_rejected c (m ∷ ms) h = or_of OutcomeFits (rejection_on c m) (first_rejected c ms) (rejected c m h.0) (all_rejected c ms h.1)

kind_fits : (k : SettleKind) → OutcomeFits (kind_outcome k)
kind_fits settle.Ack = tt
kind_fits settle.Nack = tt

settled : (c t : ℕ) (m : ConfirmMark) → ConfirmFits m → Of OutcomeFits (settlement_on c t m)
settled c t (mark.Settled d s) h = chosen (Of OutcomeFits) (c == d && covers s t) (Some (outcome_of s)) None (kind_fits s.kind) tt
settled c t (mark.Ended d e) h = chosen (Of OutcomeFits) (c == d) (Some (outcome.Failed e)) None h tt
settled c t _ h = tt

all_settled : (c t : ℕ) (ms : List ConfirmMark) → Each ConfirmFits ms → Of OutcomeFits (first_settled c t ms)
all_settled c t [] h = tt
all_settled c t (m ∷ ms) h = or_of OutcomeFits (settlement_on c t m) (first_settled c t ms) (settled c t m h.0) (all_settled c t ms h.1)

later_fits : (c : ℕ) (o : Option ℕ) (ms : List ConfirmMark) → Each ConfirmFits ms → Of OutcomeFits (outcome_after c o ms)
later_fits c None ms h = tt
later_fits c (Some t) ms h = all_settled c t ms h

confirm_life : (n : ℕ) (ms : List ConfirmMark) → Each ConfirmFits ms → Each ConfirmFits (confirm.life n ms)
confirm_life zero ms h = tt
confirm_life (suc k) ms h = each_rest ConfirmFits adds k ms h

pub outcome_fits : (n : ℕ) (ms : List ConfirmMark) → Each ConfirmFits ms → Of OutcomeFits (outcome_at n ms)
outcome_fits n ms h = chosen (Of OutcomeFits) (has_left n ms) (outcome_after (channel_of n ms) (tag_of n ms) (after (confirm.leaves n) ms)) (first_rejected (channel_of n ms) (confirm.life n ms)) (later_fits (channel_of n ms) (tag_of n ms) (after (confirm.leaves n) ms) (each_after ConfirmFits (confirm.leaves n) ms h)) (all_rejected (channel_of n ms) (confirm.life n ms) (confirm_life n ms h))

-- ---- limits

limited : (c l : ℕ) (m : ConfirmMark) → Wide l → ConfirmFits m → Wide (limit_after c l m)
limited c l (mark.LimitSet d n) f h = chosen Wide (d == c) n l h f
limited c l _ f h = f

last_fits : (c l : ℕ) (ms : List ConfirmMark) → Wide l → Each ConfirmFits ms → Wide (last_limit c l ms)
last_fits c l [] f h = f
last_fits c l (m ∷ ms) f h = last_fits c (limit_after c l m) ms (limited c l m f h.0) h.1

pub limit_fits : (c : ℕ) (ms : List ConfirmMark) → Each ConfirmFits ms → Wide (limit_of c ms)
limit_fits c ms h = last_fits c 0 (present c ms) refl (each_since ConfirmFits (turns c) ms h)

-- ---- how many

one_longer : (m : ConfirmMark) (ms : List ConfirmMark) → many counts ms ≤ many counts (m ∷ ms)
one_longer m ms = chosen (λ n. many counts ms ≤ n) (counts m) (many counts ms + 1) (many counts ms) (omega arith) (omega arith)

many_after : (p : ConfirmMark → Bool) (ms : List ConfirmMark) → many counts (after p ms) ≤ many counts ms
many_after p [] = omega arith
many_after p (m ∷ ms) = let h = many_after p ms in let k = one_longer m ms in chosen (λ xs. many counts xs ≤ many counts (m ∷ ms)) (p m) ms (after p ms) k (omega (arith, h, k))

many_since : (p : ConfirmMark → Bool) (ms : List ConfirmMark) → many counts (since p ms) ≤ many counts ms
many_since p [] = omega arith
many_since p (m ∷ ms) =
    let P : List ConfirmMark → Type 0 = λ xs. many counts xs ≤ many counts (m ∷ ms) in
    let h = many_since p ms in
    let k = one_longer m ms in
    chosen P (list_any p ms) (since p ms) (cond (p m) ms []) (omega (arith, h, k)) (chosen P (p m) ms [] k (omega arith))

many_weaker : (p : ConfirmMark → Bool) → ((m : ConfirmMark) → p m ≡ true → counts m ≡ true) → (ms : List ConfirmMark) → many p ms ≤ many counts ms
many_weaker p f [] = omega arith
many_weaker p f (m ∷ ms) =
    let h = many_weaker p f ms in
    let k = one_longer m ms in
    elim (p m) as (λ t. p m ≡ t → cond t (many p ms + 1) (many p ms) ≤ many counts (m ∷ ms)) [
      | true ↦ λ e. let c : counts m ≡ true = f m e in rw c (omega (arith, h))
      | false ↦ λ e. omega (arith, h, k)
    ] refl

pub added_least : (ms : List ConfirmMark) → added ms ≤ many counts ms
added_least ms = many_weaker adds joins ms
  where
    joins : (m : ConfirmMark) → adds m ≡ true → counts m ≡ true
    joins (mark.Added c) e = refl
    joins (mark.Left c n) e = refl
    joins (mark.Arrived c m) e = refl
    joins _ e = impossible e

pub place_least : (c : ℕ) (ms : List ConfirmMark) → place c ms ≤ many counts ms
place_least c ms =
    let here : List ConfirmMark = after (selects c) (opening c ms) in
    let same : many (leaves_on c) here ≡ place c ms = is_count_by (many (leaves_on c)) (leaves_on c) refl step here in
    let a = many_weaker (leaves_on c) leave here in
    let b = many_after (selects c) (opening c ms) in
    let d = many_since (confirm.begins c) ms in
    omega (arith, same, a, b, d)
  where
    step : (m : ConfirmMark) (rest : List ConfirmMark) → many (leaves_on c) (m ∷ rest) ≡ cond (leaves_on c m) (1 + many (leaves_on c) rest) (many (leaves_on c) rest)
    step m rest = elim (leaves_on c m) as (λ t. cond t (many (leaves_on c) rest + 1) (many (leaves_on c) rest) ≡ cond t (1 + many (leaves_on c) rest) (many (leaves_on c) rest)) [ true ↦ omega arith | false ↦ refl ]

    leave : (m : ConfirmMark) → leaves_on c m ≡ true → counts m ≡ true
    leave (mark.Added d) e = refl
    leave (mark.Left d n) e = refl
    leave (mark.Arrived d m) e = refl
    leave _ e = impossible e
