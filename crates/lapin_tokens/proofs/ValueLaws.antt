-- Values: what was written is read, and what was read is spelled so.
use Rattle.std.proofs.Common.{◌≡◌, ℕ, ◌^◌, List, [], ◌∷◌, ◌++◌, Option, Some, refl, sym, ap, subst, ◌∙◌, Bool, true, false, cond, eqb}
use Rattle.std.specs.List.{find}
use Rattle.std.specs.Cmp.{unsigned_Decides}
use Rattle.lapin_values.specs.Data.{Leaf, boolean, short_short_int, short_short_uint, short_int, short_uint, long_int, long_uint, long_long_int, timestamp, long_string, byte_array, void, Data, leaf, Items, no_items, item, Pairs, no_pairs, pair, items_of, pairs_of}
use Rattle.lapin_values.specs.ValueOf.{items_list, pairs_list}
use Rattle.lapin_scalars.specs.Scalars.{Scalar, ScalarValue, scalar_text, scalar_fits}
use Rattle.lapin_scalars.specs.Scalars.Scalar.{pairs as some_pairs, flag as a_flag, number as a_number, signed as a_signed}
use Rattle.lapin_scalars.specs.Reading.{scalar_of}
use Rattle.lapin_scalars.proofs.ScalarLaws.{scalar_again, scalar_found}
use Rattle.lapin_scalars.proofs.PlainLaws.{plain_scalar}
use Rattle.lapin_tokens.specs.declared.letters.TheConstants.{LETTERS}
use Rattle.lapin_tokens.specs.declared.letters.Letter.{Letter}
use Rattle.lapin_tokens.specs.declared.letters.Letter.TheVariants as letter
use Rattle.lapin_tokens.specs.Letters.{letter_byte, letter_at}
use Rattle.lapin_tokens.specs.Cursor.{◌>>=◌, is_separator, word_of, after_word}
use Rattle.lapin_tokens.specs.Values.{leaf_text, leaf_fits}
use Rattle.lapin_tokens.specs.ValueReading.{leaf_of, next_letter, by_letter}
use Rattle.lapin_tokens.proofs.Words.{word_plain, rest_plain}
use Rattle.lapin_tokens.proofs.MemberLaws.{bind_some, some_is}

-- ---- lists and trees

pub items_back : (is : Items) → items_of (items_list is) ≡ is
items_back no_items = refl
items_back (item d is) = ap (item d) (items_back is)

pub pairs_back : (ps : Pairs) → pairs_of (pairs_list ps) ≡ ps
pairs_back no_pairs = refl
pairs_back (pair k d ps) = ap (pair k d) (pairs_back ps)

-- ---- letters

letter_again : (l : Letter) → letter_at (letter_byte l) ≡ Some l
unfolding letter_at
letter_again letter.Boolean = refl
letter_again letter.ShortShortInt = refl
letter_again letter.ShortShortUInt = refl
letter_again letter.ShortInt = refl
letter_again letter.ShortUInt = refl
letter_again letter.LongInt = refl
letter_again letter.LongUInt = refl
letter_again letter.LongLongInt = refl
letter_again letter.Timestamp = refl
letter_again letter.LongString = refl
letter_again letter.ByteArray = refl
letter_again letter.FieldArray = refl
letter_again letter.FieldTable = refl
letter_again letter.Void = refl

one_of : {X : Type 0} (p : X → Bool) (y x : X) (b : Bool) (rest : Option X) → p y ≡ b → cond b (Some y) rest ≡ Some x → (rest ≡ Some x → p x ≡ true) → p x ≡ true
one_of {X = X} p y x true rest t e f = subst (λ (z : X). p z ≡ true) (some_is y x e) t
one_of p y x false rest t e f = f e

pub find_found : {X : Type 0} (p : X → Bool) (xs : List X) (x : X) → find p xs ≡ Some x → p x ≡ true
find_found p [] x e = absurd cc
find_found p (y ∷ ys) x e = one_of p y x (p y) (find p ys) refl e (find_found p ys x)

letter_found : (b : ℕ) (l : Letter) → letter_at b ≡ Some l → letter_byte l ≡ b
unfolding letter_at
letter_found b l e = (unsigned_Decides (letter_byte l) b).0 (find_found (λ k. eqb (letter_byte k) b) LETTERS l e)

pub next_again : (l : Letter) (rest : List ℕ) → next_letter (letter_byte l ∷ rest) ≡ Some (l, rest)
next_again l rest = rw (letter_again l) refl

pub next_found : (text : List ℕ) (x : Letter × List ℕ) → next_letter text ≡ Some x → text ≡ letter_byte x.0 ∷ x.1
next_found [] x e = absurd cc
next_found (b ∷ bs) x e =
    let a = bind_some (letter_at b) (λ l. Some (l, bs)) x e in
    subst (λ (y : Letter × List ℕ). b ∷ bs ≡ letter_byte y.0 ∷ y.1) (some_is (a.0, bs) x a.2) (ap (λ (c : ℕ). c ∷ bs) (sym (letter_found b a.0 a.1)))

-- ---- values that hold no other

pub word_again : (k : Scalar) (v : ScalarValue k) (d : ℕ) (rest : List ℕ) → scalar_fits k v ≡ true → is_separator d ≡ true → scalar_of k (word_of (scalar_text k v ++ d ∷ rest)) ≡ Some v
word_again k v d rest fit sep = ap (scalar_of k) (word_plain (scalar_text k v) d rest (plain_scalar k v fit) sep) ∙ scalar_again k v fit

pub rest_again : (k : Scalar) (v : ScalarValue k) (d : ℕ) (rest : List ℕ) → scalar_fits k v ≡ true → is_separator d ≡ true → after_word (scalar_text k v ++ d ∷ rest) ≡ d ∷ rest
rest_again k v d rest fit sep = rest_plain (scalar_text k v) d rest (plain_scalar k v fit) sep

-- the kind of a leaf
abbrev pub letter_of : Leaf → Letter
letter_of (boolean b) = letter.Boolean
letter_of (short_short_int z) = letter.ShortShortInt
letter_of (short_short_uint n) = letter.ShortShortUInt
letter_of (short_int z) = letter.ShortInt
letter_of (short_uint n) = letter.ShortUInt
letter_of (long_int z) = letter.LongInt
letter_of (long_uint n) = letter.LongUInt
letter_of (long_long_int z) = letter.LongLongInt
letter_of (timestamp n) = letter.Timestamp
letter_of (long_string s) = letter.LongString
letter_of (byte_array s) = letter.ByteArray
letter_of void = letter.Void

-- the bytes behind its letter
abbrev pub behind_letter : Leaf → List ℕ
behind_letter (boolean b) = scalar_text a_flag b
behind_letter (short_short_int z) = scalar_text (a_signed (2 ^ 7)) z
behind_letter (short_short_uint n) = scalar_text (a_number (2 ^ 8)) n
behind_letter (short_int z) = scalar_text (a_signed (2 ^ 15)) z
behind_letter (short_uint n) = scalar_text (a_number (2 ^ 16)) n
behind_letter (long_int z) = scalar_text (a_signed (2 ^ 31)) z
behind_letter (long_uint n) = scalar_text (a_number (2 ^ 32)) n
behind_letter (long_long_int z) = scalar_text (a_signed (2 ^ 63)) z
behind_letter (timestamp n) = scalar_text (a_number (2 ^ 64)) n
behind_letter (long_string s) = scalar_text some_pairs s
behind_letter (byte_array s) = scalar_text some_pairs s
behind_letter void = []

pub leaf_read : (arrays : List ℕ → Option (List Data × List ℕ)) (tables : List ℕ → Option (List (List ℕ × Data) × List ℕ)) (l : Leaf) (d : ℕ) (rest : List ℕ) → leaf_fits l ≡ true → is_separator d ≡ true → by_letter arrays tables (letter_of l) (behind_letter l ++ d ∷ rest) ≡ Some (leaf l, d ∷ rest)
leaf_read arrays tables (boolean b) d rest fit sep = rw (word_again a_flag b d rest refl sep, rest_again a_flag b d rest refl sep) refl
leaf_read arrays tables (short_short_int z) d rest fit sep = rw (word_again (a_signed (2 ^ 7)) z d rest fit sep, rest_again (a_signed (2 ^ 7)) z d rest fit sep) refl
leaf_read arrays tables (short_short_uint n) d rest fit sep = rw (word_again (a_number (2 ^ 8)) n d rest fit sep, rest_again (a_number (2 ^ 8)) n d rest fit sep) refl
leaf_read arrays tables (short_int z) d rest fit sep = rw (word_again (a_signed (2 ^ 15)) z d rest fit sep, rest_again (a_signed (2 ^ 15)) z d rest fit sep) refl
leaf_read arrays tables (short_uint n) d rest fit sep = rw (word_again (a_number (2 ^ 16)) n d rest fit sep, rest_again (a_number (2 ^ 16)) n d rest fit sep) refl
leaf_read arrays tables (long_int z) d rest fit sep = rw (word_again (a_signed (2 ^ 31)) z d rest fit sep, rest_again (a_signed (2 ^ 31)) z d rest fit sep) refl
leaf_read arrays tables (long_uint n) d rest fit sep = rw (word_again (a_number (2 ^ 32)) n d rest fit sep, rest_again (a_number (2 ^ 32)) n d rest fit sep) refl
leaf_read arrays tables (long_long_int z) d rest fit sep = rw (word_again (a_signed (2 ^ 63)) z d rest fit sep, rest_again (a_signed (2 ^ 63)) z d rest fit sep) refl
leaf_read arrays tables (timestamp n) d rest fit sep = rw (word_again (a_number (2 ^ 64)) n d rest fit sep, rest_again (a_number (2 ^ 64)) n d rest fit sep) refl
leaf_read arrays tables (long_string s) d rest fit sep = rw (word_again some_pairs s d rest fit sep, rest_again some_pairs s d rest fit sep) refl
leaf_read arrays tables (byte_array s) d rest fit sep = rw (word_again some_pairs s d rest fit sep, rest_again some_pairs s d rest fit sep) refl
leaf_read arrays tables void d rest fit sep = rw (sep) refl

pub leaf_spelled : (l : Leaf) → leaf_text l ≡ letter_byte (letter_of l) ∷ behind_letter l
leaf_spelled (boolean b) = refl
leaf_spelled (short_short_int z) = refl
leaf_spelled (short_short_uint n) = refl
leaf_spelled (short_int z) = refl
leaf_spelled (short_uint n) = refl
leaf_spelled (long_int z) = refl
leaf_spelled (long_uint n) = refl
leaf_spelled (long_long_int z) = refl
leaf_spelled (timestamp n) = refl
leaf_spelled (long_string s) = refl
leaf_spelled (byte_array s) = refl
leaf_spelled void = refl

-- the value that a letter and a piece give
pub record IsLeaf (l : Letter) (piece : List ℕ) (d : Data) : Type 0 where
  pub what : Leaf
  pub is : d ≡ leaf what
  pub named : letter_of what ≡ l
  pub spelled : piece ≡ behind_letter what
  pub fit : leaf_fits what ≡ true

piece_found : (k : Scalar) (l : Letter) (make : ScalarValue k → Leaf) → ((v : ScalarValue k) → letter_of (make v) ≡ l) → ((v : ScalarValue k) → behind_letter (make v) ≡ scalar_text k v) → ((v : ScalarValue k) → leaf_fits (make v) ≡ scalar_fits k v)
    → (piece : List ℕ) (d : Data) → (scalar_of k piece >>= λ x. Some (leaf (make x))) ≡ Some d → IsLeaf l piece d
piece_found k l make named spelled fits piece d e =
    let a = bind_some (scalar_of k piece) (λ x. Some (leaf (make x))) d e in
    let f = scalar_found k piece a.0 a.1 in
    record { what = make a.0; is = sym (some_is (leaf (make a.0)) d a.2); named = named a.0; spelled = f.is ∙ sym (spelled a.0); fit = fits a.0 ∙ f.fits }

pub leaf_found : (l : Letter) (piece : List ℕ) (d : Data) → leaf_of l piece ≡ Some d → IsLeaf l piece d
leaf_found letter.Boolean piece d e = piece_found a_flag letter.Boolean boolean (λ v. refl) (λ v. refl) (λ v. refl) piece d e
leaf_found letter.ShortShortInt piece d e = piece_found (a_signed (2 ^ 7)) letter.ShortShortInt short_short_int (λ v. refl) (λ v. refl) (λ v. refl) piece d e
leaf_found letter.ShortShortUInt piece d e = piece_found (a_number (2 ^ 8)) letter.ShortShortUInt short_short_uint (λ v. refl) (λ v. refl) (λ v. refl) piece d e
leaf_found letter.ShortInt piece d e = piece_found (a_signed (2 ^ 15)) letter.ShortInt short_int (λ v. refl) (λ v. refl) (λ v. refl) piece d e
leaf_found letter.ShortUInt piece d e = piece_found (a_number (2 ^ 16)) letter.ShortUInt short_uint (λ v. refl) (λ v. refl) (λ v. refl) piece d e
leaf_found letter.LongInt piece d e = piece_found (a_signed (2 ^ 31)) letter.LongInt long_int (λ v. refl) (λ v. refl) (λ v. refl) piece d e
leaf_found letter.LongUInt piece d e = piece_found (a_number (2 ^ 32)) letter.LongUInt long_uint (λ v. refl) (λ v. refl) (λ v. refl) piece d e
leaf_found letter.LongLongInt piece d e = piece_found (a_signed (2 ^ 63)) letter.LongLongInt long_long_int (λ v. refl) (λ v. refl) (λ v. refl) piece d e
leaf_found letter.Timestamp piece d e = piece_found (a_number (2 ^ 64)) letter.Timestamp timestamp (λ v. refl) (λ v. refl) (λ v. refl) piece d e
leaf_found letter.LongString piece d e = piece_found some_pairs letter.LongString long_string (λ v. refl) (λ v. refl) (λ v. refl) piece d e
leaf_found letter.ByteArray piece d e = piece_found some_pairs letter.ByteArray byte_array (λ v. refl) (λ v. refl) (λ v. refl) piece d e
leaf_found letter.FieldArray piece d e = absurd cc
leaf_found letter.FieldTable piece d e = absurd cc
leaf_found letter.Void [] d e = record { what = void; is = sym (some_is (leaf void) d e); named = refl; spelled = refl; fit = refl }
leaf_found letter.Void (b ∷ bs) d e = absurd cc
