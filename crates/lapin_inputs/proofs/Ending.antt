-- The end of a text: what was written while the run went on, what is held at last, and the line that names a bad line.
use Rattle.std.proofs.Common.{ℕ, List, ◌++◌, Option, append_assoc}
use Rattle.std.specs.Prelude.{Result, Ok, Err, OnErr, IsErrOf}
use Rattle.std.specs.Io.KnownBytes.{Appends}
use Rattle.lapin_inputs.specs.Printing.{bad_line_text}
use Rattle.lapin_inputs.specs.Writing.{WritesPrefix}
use Rattle.lapin_inputs.proofs.Known.{prefix_behind, prefix_more}

-- A prefix of a text of which G holds was written, or of that text and its end.
abbrev pub IsCut : (Option ℕ → List ℕ → Type 0) → Option (List ℕ) → Option (List ℕ) → Type 0
IsCut G a b = (bad : Option ℕ) × (text : List ℕ) × G bad text × WritesPrefix a b (text ++ bad_line_text bad)

pub cut_rest : (G : Option ℕ → List ℕ → Type 0) (a b c : Option (List ℕ)) (bad : Option ℕ) (piece held : List ℕ) → Appends a b piece → G bad (piece ++ held) → WritesPrefix b c (held ++ bad_line_text bad) → IsCut G a c
cut_rest G a b c bad piece held first is rest =
    (bad, piece ++ held, is, prefix_behind a b c piece (held ++ bad_line_text bad) ((piece ++ held) ++ bad_line_text bad) first rest (append_assoc piece held (bad_line_text bad)))

-- what follows from what holds at an error holds there
pub under_err : {T E : Type 0} (r : Result T E) (P Q : Type 0) → (P → Q) → OnErr r P → OnErr r Q
under_err (Ok x) P Q so p = tt
under_err (Err e) P Q so p = so p

pub cut_before : (G : Option ℕ → List ℕ → Type 0) (a b : Option (List ℕ)) → ((bad : Option ℕ) × (text : List ℕ) × G bad text × WritesPrefix a b text) → IsCut G a b
cut_before G a b cut = (cut.0, cut.1, cut.2, prefix_more a b cut.1 (bad_line_text cut.0) cut.3)

-- what holds holds at an error too
pub on_err : {T E : Type 0} (r : Result T E) (P : Type 0) → P → OnErr r P
on_err (Ok x) P p = tt
on_err (Err e) P p = p

-- what holds at an error holds where there is one
pub at_error : {T E : Type 0} (r : Result T E) (e : E) (P : Type 0) → OnErr r P → IsErrOf r e → P
at_error (Ok x) e P h is = absurd cc
at_error (Err x) e P h is = h
