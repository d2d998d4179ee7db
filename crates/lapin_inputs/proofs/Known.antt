-- What one write after another, and one read after another, do to the bytes that a sink and a source tell.
use Rattle.std.proofs.Common.{◌≡◌, ℕ, ◌+◌, List, [], ◌++◌, take, drop, Option, Some, None, length, slice_range, sym, ◌∙◌, ap, subst, append_assoc, append-nil, arith, length-drop}
use Rattle.std.proofs.lemmas.List.{take_all, take-append-drop}
use Rattle.std.proofs.Math.Seq.{take-add, take-append-add, take-append_seam}
use Rattle.std.specs.Io.KnownBytes.{Appends, Consumes}
use Rattle.lapin_inputs.specs.Writing.{WritesPrefix}

-- nothing was written
pub appends_none : (a : Option (List ℕ)) → Appends a a []
appends_none None = tt
appends_none (Some old) = sym (append-nil old)

-- two writes are one of both pieces
pub appends_both : (a b c : Option (List ℕ)) (xs ys : List ℕ) → Appends a b xs → Appends b c ys → Appends a c (xs ++ ys)
appends_both None b c xs ys first second = tt
appends_both (Some old) None c xs ys first second = absurd first
appends_both (Some old) (Some mid) None xs ys first second = absurd second
appends_both (Some old) (Some mid) (Some new) xs ys first second =
    second ∙ ap (λ l. l ++ ys) first ∙ append_assoc old xs ys

-- the next n bytes of a text, after the first d
pub appends_more : (a b c : Option (List ℕ)) (text : List ℕ) (d n : ℕ) → Appends a b (take d text) → Appends b c (take n (slice_range text d (length text))) → Appends a c (take (d + n) text)
appends_more a b c text d n first second =
    let rest : slice_range text d (length text) ≡ drop d text = take_all _ _ (omega (arith, length-drop d text)) in
    let next : Appends b c (take n (drop d text)) = subst (λ l. Appends b c (take n l)) rest second in
    subst (Appends a c) (sym (take-add d n text)) (appends_both a b c (take d text) (take n (drop d text)) first next)

-- two reads are one of all their bytes
pub consumes_both : (a b c : Option (List ℕ)) (xs ys : List ℕ) → Consumes a b xs → Consumes b c ys → Consumes a c (xs ++ ys)
consumes_both None b c xs ys first second = tt
consumes_both (Some old) None c xs ys first second = absurd first
consumes_both (Some old) (Some mid) None xs ys first second = absurd second
consumes_both (Some old) (Some mid) (Some new) xs ys first second =
    first ∙ ap (λ l. xs ++ l) second ∙ sym (append_assoc xs ys new)

-- a prefix of the rest of a text, behind its beginning
pub prefix_behind : (a b c : Option (List ℕ)) (xs rest whole : List ℕ) → Appends a b xs → WritesPrefix b c rest → whole ≡ xs ++ rest → WritesPrefix a c whole
prefix_behind a b c xs rest whole first wrote is =
    let front : take (length xs + wrote.0) whole ≡ xs ++ take wrote.0 rest = ap (take (length xs + wrote.0)) is ∙ take-append-add xs rest wrote.0 in
    (length xs + wrote.0, subst (Appends a c) (sym front) (appends_both a b c xs (take wrote.0 rest) first wrote.1))

-- a prefix of a text is one of a longer text
pub prefix_more : (a b : Option (List ℕ)) (xs ys : List ℕ) → WritesPrefix a b xs → WritesPrefix a b (xs ++ ys)
prefix_more a b xs ys wrote =
    let k : ℕ = wrote.0 in
    let split : xs ++ ys ≡ take k xs ++ (drop k xs ++ ys) = ap (λ (t : List ℕ). t ++ ys) (sym (take-append-drop k xs)) ∙ append_assoc (take k xs) (drop k xs) ys in
    let front : take (length (take k xs)) (xs ++ ys) ≡ take k xs = ap (take (length (take k xs))) split ∙ take-append_seam (take k xs) (drop k xs ++ ys) in
    (length (take k xs), subst (Appends a b) (sym front) wrote.1)

-- nothing of it
pub prefix_none : (a : Option (List ℕ)) (xs : List ℕ) → WritesPrefix a a xs
prefix_none a xs = (0, appends_none a)
