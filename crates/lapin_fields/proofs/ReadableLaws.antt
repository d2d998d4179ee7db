-- Octets as a text, whatever they are: as many, and UTF-8; and a text is itself.
use Rattle.std.proofs.Common.{◌≡◌, ℕ, zero, suc, ◌<◌, Bool, true, false, cond, List, [], ◌∷◌, ◌++◌, map, length, take, drop, refl, ap, ◌∙◌, arith, ltb}
use Rattle.std.specs.Str.{IsUtf8, is_utf8, IsAscii}
use Rattle.std.specs.Str.Lossy.{valid_len_up_to, utf8_valid_len}
use Rattle.std.proofs.lemmas.Bool.{ltb-true}
use Rattle.std.proofs.lemmas.List.{append-nil, length-append, length-map, length-take, length-drop, take_all, drop_all}
use Rattle.std.proofs.lemmas.Str.{IsUtf8-nil, IsUtf8-append, IsUtf8-from_ascii, is_utf8-from_IsUtf8, IsUtf8-from_is_utf8, utf8_valid_len_le, utf8_valid_len-IsUtf8}
use Rattle.std.proofs.lemmas.Str.Ascii.{IsAscii-nil, IsAscii-cons}
use Rattle.lapin_fields.specs.Reading.{as_letter, readable}

letter_or_mark : (t : Bool) (b : ℕ) → ltb b 128 ≡ t → cond t b 63 < 128
letter_or_mark true b e = ltb-true b 128 e
letter_or_mark false b e = omega arith

letters_ascii : (s : List ℕ) → IsAscii (map as_letter s)
letters_ascii [] = IsAscii-nil
letters_ascii (b ∷ s) = IsAscii-cons (as_letter b) (map as_letter s) (letter_or_mark (ltb b 128) b refl) (letters_ascii s)

kept_or_less : (s : List ℕ) (n : ℕ) (t : Bool) → is_utf8 (take (suc n) s) ≡ t → IsUtf8 (take (valid_len_up_to s n) s) → IsUtf8 (take (cond t (suc n) (valid_len_up_to s n)) s)
kept_or_less s n true e less = IsUtf8-from_is_utf8 (take (suc n) s) e
kept_or_less s n false e less = less

-- the front that is kept is UTF-8
front_up_to : (s : List ℕ) (n : ℕ) → IsUtf8 (take (valid_len_up_to s n) s)
front_up_to s zero = IsUtf8-nil
front_up_to s (suc n) = kept_or_less s n (is_utf8 (take (suc n) s)) refl (front_up_to s n)

front_utf8 : (s : List ℕ) → IsUtf8 (take (utf8_valid_len s) s)
unfolding utf8_valid_len
front_utf8 s = front_up_to s (length s)

pub readable_is_utf8 : (s : List ℕ) → IsUtf8 (readable s)
readable_is_utf8 s =
    let rest : List ℕ = map as_letter (drop (utf8_valid_len s) s) in
    IsUtf8-append (take (utf8_valid_len s) s) rest (front_utf8 s) (IsUtf8-from_ascii rest (letters_ascii (drop (utf8_valid_len s) s)))

pub readable_utf8 : (s : List ℕ) → is_utf8 (readable s) ≡ true
readable_utf8 s = is_utf8-from_IsUtf8 (readable s) (readable_is_utf8 s)

pub readable_long : (s : List ℕ) → length (readable s) ≡ length s
readable_long s =
    omega (arith, length-append (take (utf8_valid_len s) s) (map as_letter (drop (utf8_valid_len s) s)), length-map (drop (utf8_valid_len s) s) as_letter, length-drop (utf8_valid_len s) s, length-take (utf8_valid_len s) s, utf8_valid_len_le s)

-- a text is itself
pub readable_text : (s : List ℕ) → IsUtf8 s → readable s ≡ s
readable_text s h =
    ap (λ (n : ℕ). take n s ++ map as_letter (drop n s)) (utf8_valid_len-IsUtf8 s h)
    ∙ ap (λ (t : List ℕ). take (length s) s ++ map as_letter t) (drop_all (length s) s (omega arith))
    ∙ append-nil (take (length s) s)
    ∙ take_all (length s) s (omega arith)
