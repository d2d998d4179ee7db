-- Tokens written one after the other make the text of a line, and lines the text of records.
use Rattle.std.proofs.Common.{◌≡◌, ℕ, ◌+◌, ◌≤◌, List, [], ◌∷◌, ◌++◌, length, drop, Some, None, refl, sym, ap, ◌∙◌, append_assoc, arith}
use Rattle.std.specs.Prelude.{codes}
use Rattle.std.specs.List.{join_with_byte, flat_map, slice_get}
use Rattle.std.proofs.lemmas.List.{append-nil, drop_more, drop_all}
use Rattle.std.proofs.lemmas.Option.{slice_get_within, slice_get_cases, get_or_from_slice_get}
use Rattle.std.proofs.lemmas.List.Concat.{flat_map-cons}
use Rattle.lapin_types.specs.Types.{Frame}
use Rattle.lapin_types.specs.Types.frame
use Rattle.lapin_types.specs.declared.record.Record.{Record}
use Rattle.lapin_tokens.specs.Fields.{token, tokens, short_number}
use Rattle.lapin_tokens.specs.TokenText.{onto}
use Rattle.lapin_method_text.specs.Methods.{method_tokens}
use Rattle.lapin_text.specs.Frames.{header_fields, body_fields, frame_tokens, frame_text}
use Rattle.lapin_text.specs.Records.{record_tokens, record_line, records_text, line_onto, records_onto}

onto_is : (line : List ℕ) (t : List ℕ) (ts : List (List ℕ)) → onto line (t ∷ ts) ≡ line ++ 32 ∷ join_with_byte 32 (t ∷ ts)
onto_is line t [] = refl
onto_is line t (u ∷ ts) = onto_is (line ++ 32 ∷ t) u ts ∙ append_assoc line (32 ∷ t) (32 ∷ join_with_byte 32 (u ∷ ts))

onto_append : (out : List ℕ) (ts us : List (List ℕ)) → onto (onto out ts) us ≡ onto out (ts ++ us)
onto_append out [] us = refl
onto_append out (t ∷ ts) us = onto_append (out ++ 32 ∷ t) ts us

-- the tokens of the item at a place, and those of the items behind it
pub onto_at : {X : Type 0} (f : X → List (List ℕ)) (out : List ℕ) (xs : List X) (i : ℕ) (x : X) → slice_get xs i ≡ Some x → onto (onto out (f x)) (flat_map f (drop (i + 1) xs)) ≡ onto out (flat_map f (drop i xs))
onto_at f out xs i x e =
    let from = drop_more xs i x (slice_get_within xs i x e) ∙ ap (λ y. y ∷ drop (i + 1) xs) (get_or_from_slice_get xs i x x e) in
    onto_append out (f x) (flat_map f (drop (i + 1) xs)) ∙ sym (ap (λ ts. onto out ts) (ap (λ ys. flat_map f ys) from ∙ flat_map-cons f x (drop (i + 1) xs)))

past : {X : Type 0} (xs : List X) (i : ℕ) → slice_get xs i ≡ None → length xs ≤ i
past xs i e = grind (arith, slice_get_cases)

-- where no item stands at a place, none stands behind it
pub onto_past : {X : Type 0} (f : X → List (List ℕ)) (out : List ℕ) (xs : List X) (i : ℕ) → slice_get xs i ≡ None → onto out (flat_map f (drop (i + 1) xs)) ≡ onto out (flat_map f (drop i xs))
onto_past f out xs i e =
    let end = past xs i e in
    ap (λ ys. onto out (flat_map f ys)) (drop_all (i + 1) xs (omega (arith, end)) ∙ sym (drop_all i xs end))

pub onto_frame : (f : Frame) → onto [] (frame_tokens f) ≡ 32 ∷ frame_text f
onto_frame (frame.Method c m) = onto_is [] (codes "method") (token short_number c ∷ method_tokens m)
onto_frame (frame.Header c header) = onto_is [] (codes "header") (tokens header_fields (c, (header.class_id, (header.body_size, (header.properties, tt)))))
onto_frame (frame.Body c bytes) = onto_is [] (codes "body") (tokens body_fields (c, (bytes, tt)))

pub line_onto_is : (out : List ℕ) (ts : List (List ℕ)) → line_onto out ts ≡ out ++ join_with_byte 32 ts
line_onto_is out [] = sym (append-nil out)
line_onto_is out (t ∷ []) = refl
line_onto_is out (t ∷ u ∷ us) = onto_is (out ++ t) u us ∙ append_assoc out t (32 ∷ join_with_byte 32 (u ∷ us))

pub line_from_onto : (r : Record) → line_onto [] (record_tokens r) ≡ record_line r
line_from_onto r = line_onto_is [] (record_tokens r)

records_onto_is : (out : List ℕ) (rs : List Record) → records_onto out rs ≡ out ++ records_text rs
records_onto_is out [] = sym (append-nil out)
records_onto_is out (r ∷ rs) =
    let first : line_onto out (record_tokens r) ++ 10 ∷ [] ≡ out ++ (record_line r ++ 10 ∷ []) = ap (λ (l : List ℕ). l ++ 10 ∷ []) (line_onto_is out (record_tokens r)) ∙ append_assoc out (record_line r) (10 ∷ []) in
    let whole : out ++ records_text (r ∷ rs) ≡ (out ++ (record_line r ++ 10 ∷ [])) ++ records_text rs = ap (λ (t : List ℕ). out ++ t) (flat_map-cons (λ s. record_line s ++ 10 ∷ []) r rs) ∙ sym (append_assoc out (record_line r ++ 10 ∷ []) (records_text rs)) in
    records_onto_is (line_onto out (record_tokens r) ++ 10 ∷ []) rs ∙ ap (λ (t : List ℕ). t ++ records_text rs) first ∙ sym whole

pub text_from_onto : (rs : List Record) → records_onto [] rs ≡ records_text rs
text_from_onto rs = records_onto_is [] rs
