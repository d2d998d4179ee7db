-- The lines of an input, and what they say.
use Rattle.std.proofs.Common.{◌≡◌, ℕ, ◌<◌, ◌≤◌, ◌+◌, ◌^◌, List, [], ◌∷◌, ◌++◌, length, get_or, take, drop, map, Option, Some, None, refl, sym, ap, subst, ◌∙◌, append_assoc, arith, Bool, true, false, cond, ltb, eqb}
use Rattle.std.specs.Prelude.{position, codes, decimal, ◌&&◌}
use Rattle.std.specs.List.{slice_split, position_or_len, flat_map, AllByRecursion}
use Rattle.std.proofs.lemmas.Fmt.{decimal_injective}
use Rattle.std.proofs.lemmas.Bool.{ltb-true, ltb-false, lt-ltb, ne_eqb, and_from}
use Rattle.std.proofs.lemmas.List.{nil_from_length}
use Rattle.std.proofs.lemmas.List.Concat.{flat_map-cons}
use Rattle.std.proofs.lemmas.List.Splits.{slice_split_none, slice_split_first, slice_split_at, length-slice_split}
use Rattle.std.proofs.lemmas.List.Sums.{fails_before_first}
use Rattle.lapin_types.specs.declared.event.Event.{Event}
use Rattle.lapin_tokens.specs.Fields.{long_number}
use Rattle.lapin_tokens.proofs.Plain.{no_feed}
use Rattle.lapin_tokens.proofs.PlainFields.{plain_token}
use Rattle.lapin_text.specs.Events as events
use Rattle.lapin_text.specs.Input.{lines_of, without_empty_end, max_line, IsMax, NoMax, AreSteps, LinesSay, AreParsed, input_of}
use Rattle.lapin_text.proofs.LineLaws.{plain_event, same_line}

abbrev is_feed : ℕ → Bool
is_feed b = eqb b 10

none_is : (b : Bool) (i : ℕ) → cond b (Some i) None ≡ None → b ≡ false
none_is true i e = absurd cc
none_is false i e = refl

some_is : (b : Bool) (i j : ℕ) → cond b (Some i) None ≡ Some j → (b ≡ true) × (i ≡ j)
some_is true i j e = (refl, cc)
some_is false i j e = absurd cc

-- an end that isn't alone stays at the end
kept : (x : List ℕ) (parts : List (List ℕ)) → 0 < length parts → without_empty_end (x ∷ parts) ≡ x ∷ without_empty_end parts
kept x [] h = absurd (omega arith)
kept x (y ∷ zs) h = refl

alone : (x : List ℕ) → 0 < length x → without_empty_end (x ∷ []) ≡ x ∷ []
alone x h = let e : eqb (length x) 0 ≡ false = ne_eqb (length x) 0 (λ z. omega (arith, h, z)) in rw e refl

pub lines_none : (xs : List ℕ) → position is_feed xs ≡ None → 0 < length xs → lines_of xs ≡ xs ∷ []
unfolding lines_of
lines_none xs e some =
    let past : length xs ≤ position_or_len is_feed xs = ltb-false _ _ (none_is (ltb (position_or_len is_feed xs) (length xs)) (position_or_len is_feed xs) e) in
    ap without_empty_end (slice_split_none is_feed xs (λ i d lt. fails_before_first is_feed xs i d (omega (arith, past, lt)))) ∙ alone xs some

pub lines_some : (xs : List ℕ) (i : ℕ) → position is_feed xs ≡ Some i → lines_of xs ≡ take i xs ∷ lines_of (drop (i + 1) xs)
unfolding lines_of
lines_some xs i e =
    let p = some_is (ltb (position_or_len is_feed xs) (length xs)) (position_or_len is_feed xs) i e in
    let cut = slice_split_first is_feed xs 0 (ltb-true _ _ p.0) in
    let at = subst (λ (k : ℕ). slice_split is_feed xs ≡ take k xs ∷ slice_split is_feed (drop (k + 1) xs)) p.1 cut in
    ap without_empty_end at ∙ kept (take i xs) (slice_split is_feed (drop (i + 1) xs)) (omega (arith, length-slice_split is_feed (drop (i + 1) xs)))

pub lines_nil : lines_of [] ≡ []
unfolding lines_of
lines_nil = refl

pub lines_empty : (xs : List ℕ) → length xs ≡ 0 → lines_of xs ≡ []
lines_empty xs e = ap lines_of (nil_from_length xs e) ∙ lines_nil

-- ---- the first line

pub max_past : (line piece : List ℕ) (n : ℕ) → line ≡ codes "frame_max " ++ piece → piece ≡ decimal n → n < 2 ^ 64 → (IsMax n → ⊥) → NoMax line
max_past line piece n is number wide other = λ m ok e.
    let same : piece ≡ decimal m = cc in
    let k : m ≡ n = decimal_injective m n (omega (arith, ok.1)) wide (sym same ∙ number) in
    other (subst (λ (x : ℕ). IsMax x) k ok)

-- ---- lines without a line feed

-- no byte of it is a line feed
abbrev pub HasNoFeed : List ℕ → Type 0
HasNoFeed line = (i d : ℕ) → i < length line → eqb (get_or line i d) 10 ≡ false

pub line_first : (line rest : List ℕ) → HasNoFeed line → lines_of (line ++ 10 ∷ rest) ≡ line ∷ lines_of rest
unfolding lines_of
line_first line rest free =
    ap without_empty_end (slice_split_at is_feed line 10 rest free refl) ∙ kept line (slice_split is_feed rest) (omega (arith, length-slice_split is_feed rest))

max_plain : (m : ℕ) → IsMax m → HasNoFeed (max_line m)
max_plain m ok =
    let fit : (ltb m (2 ^ 32) && ltb m (2 ^ 64)) ≡ true = and_from (ltb m (2 ^ 32)) (ltb m (2 ^ 64)) (lt-ltb _ _ ok.1) (lt-ltb _ _ (omega (arith, ok.1))) in
    no_feed (codes "frame_max" ∷ decimal m ∷ []) (refl, (plain_token long_number m fit, tt))

module _ {E : Type 0} (line_of : E → List ℕ) (HasLine : E → Type 0) where
  -- ---- an input has one reading

  module _ (same_line : (a b : E) → HasLine a → HasLine b → line_of a ≡ line_of b → a ≡ b) where
    steps_once : (n : ℕ) (ls : List (List ℕ)) (ss others : List E) (bad other_bad : Option ℕ) → AreSteps line_of HasLine n ls ss bad → AreSteps line_of HasLine n ls others other_bad → (ss ≡ others) × (bad ≡ other_bad)
    steps_once n [] [] [] bad other_bad h k = (refl, h ∙ sym k)
    steps_once n [] [] (o ∷ os) bad other_bad h k = absurd k
    steps_once n [] (s ∷ ss) others bad other_bad h k = absurd h
    steps_once n (l ∷ ls) [] [] bad other_bad h k = (refl, h.0 ∙ sym k.0)
    steps_once n (l ∷ ls) [] (o ∷ os) bad other_bad h k = absurd (h.1 o k.0 k.1)
    steps_once n (l ∷ ls) (s ∷ ss) [] bad other_bad h k = absurd (k.1 s h.0 h.1)
    steps_once n (l ∷ ls) (s ∷ ss) (o ∷ os) bad other_bad h k =
        let rest = steps_once (n + 1) ls ss os bad other_bad h.2 k.2 in
        (rw (same_line s o h.0 k.0 (sym h.1 ∙ k.1), rest.0) refl, rest.1)

    pub said_once : (ls : List (List ℕ)) (max other_max : Option ℕ) (ss others : List E) (bad other_bad : Option ℕ) → LinesSay line_of HasLine ls max ss bad → LinesSay line_of HasLine ls other_max others other_bad → (max ≡ other_max) × (ss ≡ others) × (bad ≡ other_bad)
    said_once [] max other_max ss others bad other_bad h k = (h.0 ∙ sym k.0, h.1 ∙ sym k.1, h.2 ∙ sym k.2)
    said_once (l ∷ ls) None None ss others bad other_bad h k = (refl, h.1 ∙ sym k.1, h.2 ∙ sym k.2)
    said_once (l ∷ ls) None (Some m) ss others bad other_bad h k = absurd (h.0 m k.0 k.1)
    said_once (l ∷ ls) (Some m) None ss others bad other_bad h k = absurd (k.0 m h.0 h.1)
    said_once (l ∷ ls) (Some m) (Some o) ss others bad other_bad h k =
        let rest = steps_once 2 ls ss others bad other_bad h.2 k.2 in
        (ap Some (decimal_injective m o (omega (arith, h.0.1)) (omega (arith, k.0.1)) (behind (sym h.1 ∙ k.1))), rest.0, rest.1)
      where
        behind : max_line m ≡ max_line o → decimal m ≡ decimal o
        behind e = cc

    -- ---- what was printed is parsed

    module _ (plain_line : (s : E) → HasLine s → HasNoFeed (line_of s)) where
      lines_printed : (ss : List E) → AllByRecursion HasLine ss → lines_of (flat_map (λ s. line_of s ++ 10 ∷ []) ss) ≡ map line_of ss
      lines_printed [] h = lines_nil
      lines_printed (s ∷ ss) h = rw (flat_map-cons, append_assoc) (line_first (line_of s) _ (plain_line s h.0) ∙ ap (λ (ls : List (List ℕ)). line_of s ∷ ls) (lines_printed ss h.1))

      are_printed : (n : ℕ) (ss : List E) → AllByRecursion HasLine ss → AreSteps line_of HasLine n (map line_of ss) ss None
      are_printed n [] h = refl
      are_printed n (s ∷ ss) h = (h.0, refl, are_printed (n + 1) ss h.1)

      pub input_again : (m : ℕ) (ss : List E) (max : Option ℕ) (got : List E) (bad : Option ℕ) → IsMax m → AllByRecursion HasLine ss → LinesSay line_of HasLine (lines_of (input_of line_of m ss)) max got bad → (max ≡ Some m) × (got ≡ ss) × (bad ≡ None)
      input_again m ss max got bad ok h said =
          let lines = line_first (max_line m) _ (max_plain m ok) ∙ ap (λ (ls : List (List ℕ)). max_line m ∷ ls) (lines_printed ss h) in
          said_once (max_line m ∷ map line_of ss) max (Some m) got ss bad None (rw lines at said) (ok, refl, are_printed 2 ss h)

-- ---- events

pub parsed_once : (ls : List (List ℕ)) (max other_max : Option ℕ) (es others : List Event) (bad other_bad : Option ℕ) → AreParsed ls max es bad → AreParsed ls other_max others other_bad → (max ≡ other_max) × (es ≡ others) × (bad ≡ other_bad)
parsed_once = said_once events.line_of events.HasLine same_line

pub events_again : (m : ℕ) (es : List Event) (max : Option ℕ) (got : List Event) (bad : Option ℕ) → IsMax m → AllByRecursion events.HasLine es → AreParsed (lines_of (input_of events.line_of m es)) max got bad → (max ≡ Some m) × (got ≡ es) × (bad ≡ None)
events_again = input_again events.line_of events.HasLine same_line (λ e h. no_feed (events.event_tokens e) (plain_event e h))
