-- Printing what each step answers before the next line is read prints what all steps print.
use Rattle.std.proofs.Common.{◌≡◌, ℕ, suc, ◌+◌, ◌≤◌, ◌^◌, List, [], ◌∷◌, ◌++◌, length, Option, Some, sym, ap, subst, ◌∙◌, append_assoc, append-nil, arith, Bool, true, false, cond}
use Rattle.std.specs.Prelude.{◌==◌, take, drop}
use Rattle.std.specs.Io.KnownBytes.{Appends}
use Rattle.std.specs.List.{slice_split, flat_map}
use Rattle.std.proofs.Math.Seq.{take-append_seam}
use Rattle.std.proofs.lemmas.List.{take-append-drop}
use Rattle.std.proofs.lemmas.List.Concat.{flat_map-cons}
use Rattle.std.proofs.lemmas.List.Splits.{length-slice_split}
use Rattle.std.proofs.lemmas.List.Sums.{count_by-le-length}
use Rattle.lapin_text.specs.Input.{lines_of, without_empty_end}
use Rattle.lapin_inputs.specs.Printing.{PrintsBy, GoesOnBy, Adds, bad_line_text}
use Rattle.lapin_inputs.specs.Reading.{longest_input}
use Rattle.lapin_inputs.specs.Writing.{WritesPrefix}
use Rattle.lapin_inputs.proofs.Known.{appends_both, appends_none}

-- ---- how many lines there are

fewer : (parts : List (List ℕ)) → length (without_empty_end parts) ≤ length parts
fewer [] = omega arith
fewer (x ∷ []) = last (length x == 0)
  where
    last : (b : Bool) → length (cond b [] (x ∷ [])) ≤ 1
    last true = omega arith
    last false = omega arith
fewer (x ∷ y ∷ zs) = omega (arith, fewer (y ∷ zs))

-- no more than there are bytes, and one
pub lines_within : (bytes : List ℕ) → length (lines_of bytes) ≤ length bytes + 1
unfolding lines_of
lines_within bytes = omega (arith, fewer (slice_split (λ b. b == 10) bytes), length-slice_split (λ b. b == 10) bytes, count_by-le-length (λ b. b == 10) bytes)

pub few_behind : (bytes : List ℕ) (lines rest : List (List ℕ)) (l : List ℕ) → lines ≡ lines_of bytes → lines ≡ l ∷ rest → length bytes ≤ longest_input → length rest ≤ 2 ^ 31
few_behind bytes lines rest l all is few =
    let one : length lines ≡ suc (length rest) = ap length is in
    let same : length lines ≡ length (lines_of bytes) = ap length all in
    omega (arith, lines_within bytes, one, same, few)

-- a run that can take all lines can take the first, and then those behind it
pub can_take : (T : ℕ → Type 0) (lines rest : List (List ℕ)) (l : List ℕ) → T (length lines) → lines ≡ l ∷ rest → T (suc (length rest))
can_take T lines rest l h is = subst T (ap length is) h

-- ---- the loop over the lines, of a run of any kind

-- With the text so far in front, whatever is printed from here on is what all lines print.
abbrev pub Leads : {R : Type 0} → (R → ℕ → List (List ℕ) → Option ℕ → List ℕ → Type 0) → R → List (List ℕ) → R → ℕ → List (List ℕ) → List ℕ → Type 0
Leads goes_on start all run n lines text =
    (bad : Option ℕ) (rest : List ℕ) → goes_on run n lines bad rest → goes_on start 2 all bad (text ++ rest)

-- The bytes of `piece` were written since `before`, and with what is held behind them they lead on: what was written and what is
-- held are one text.
pub record Reaches {R : Type 0} (goes_on : R → ℕ → List (List ℕ) → Option ℕ → List ℕ → Type 0) (start : R) (all : List (List ℕ)) (before after : Option (List ℕ)) (run : R) (n : ℕ) (lines : List (List ℕ)) (held : List ℕ) : Type 0 where
  pub piece : List ℕ
  pub out : Appends before after piece
  pub leads : Leads goes_on start all run n lines (piece ++ held)

-- nothing was written, and nothing is held
pub reaches_first : {R : Type 0} (goes_on : R → ℕ → List (List ℕ) → Option ℕ → List ℕ → Type 0) (start : R) (all : List (List ℕ)) (before : Option (List ℕ)) (held : List ℕ) → held ≡ [] → Reaches goes_on start all before before start 2 all held
reaches_first goes_on start all before held none = record {
  piece = [];
  out = appends_none before;
  leads = λ bad rest p. subst (λ (t : List ℕ). goes_on start 2 all bad (t ++ rest)) (sym none) p;
}

-- a line is taken
pub reaches_next : {R : Type 0} (goes_on : R → ℕ → List (List ℕ) → Option ℕ → List ℕ → Type 0) (start run new : R) (all lines rest : List (List ℕ)) (before after : Option (List ℕ)) (n : ℕ) (l held more : List ℕ) → Reaches goes_on start all before after run n lines held → lines ≡ l ∷ rest → Adds (goes_on run) (goes_on new) l held more → Reaches goes_on start all before after new (n + 1) rest more
reaches_next goes_on start run new all lines rest before after n l held more r is adds = record {
  piece = r.piece;
  out = r.out;
  leads = λ bad later p.
      let from : goes_on run n lines bad (adds.piece ++ later) = subst (λ (ls : List (List ℕ)). goes_on run n ls bad (adds.piece ++ later)) (sym is) (adds.leads n rest bad later p) in
      let grown : (r.piece ++ held) ++ adds.piece ≡ r.piece ++ more = append_assoc r.piece held adds.piece ∙ ap (λ (t : List ℕ). r.piece ++ t) (sym adds.grown) in
      let whole : (r.piece ++ held) ++ (adds.piece ++ later) ≡ (r.piece ++ more) ++ later = sym (append_assoc (r.piece ++ held) adds.piece later) ∙ ap (λ (t : List ℕ). t ++ later) grown in
      subst (goes_on start 2 all bad) whole (r.leads bad (adds.piece ++ later) from);
}

-- some of what is held is written
pub reaches_out : {R : Type 0} (goes_on : R → ℕ → List (List ℕ) → Option ℕ → List ℕ → Type 0) (start run : R) (all lines : List (List ℕ)) (before mid after : Option (List ℕ)) (n : ℕ) (held piece left : List ℕ) → Reaches goes_on start all before mid run n lines held → Appends mid after piece → held ≡ piece ++ left → Reaches goes_on start all before after run n lines left
reaches_out goes_on start run all lines before mid after n held piece left r wrote is = record {
  piece = r.piece ++ piece;
  out = appends_both before mid after r.piece piece r.out wrote;
  leads = subst (Leads goes_on start all run n lines) (ap (λ (t : List ℕ). r.piece ++ t) is ∙ sym (append_assoc r.piece piece left)) r.leads;
}

-- the end, or a bad line: nothing more is printed
pub reaches_last : {R : Type 0} (goes_on : R → ℕ → List (List ℕ) → Option ℕ → List ℕ → Type 0) (start run : R) (all lines here : List (List ℕ)) (before after : Option (List ℕ)) (n : ℕ) (held : List ℕ) (bad : Option ℕ) → Reaches goes_on start all before after run n lines held → lines ≡ here → goes_on run n here bad [] → (piece : List ℕ) × Appends before after piece × goes_on start 2 all bad (piece ++ held)
reaches_last goes_on start run all lines here before after n held bad r is last = (
  r.piece,
  r.out,
  subst (goes_on start 2 all bad) (append-nil (r.piece ++ held)) (r.leads bad [] (subst (λ (ls : List (List ℕ)). goes_on run n ls bad []) (sym is) last)),
)

-- Writing was cut short within what is held. Whatever the lines behind say, the bytes written begin the text.
pub reaches_cut : {R : Type 0} (goes_on : R → ℕ → List (List ℕ) → Option ℕ → List ℕ → Type 0) (start run : R) (all lines : List (List ℕ)) (before mid after : Option (List ℕ)) (n : ℕ) (held : List ℕ) → Reaches goes_on start all before mid run n lines held → WritesPrefix mid after held → ((bad : Option ℕ) × (text : List ℕ) × goes_on run n lines bad text) → (bad : Option ℕ) × (text : List ℕ) × goes_on start 2 all bad text × WritesPrefix before after text
reaches_cut goes_on start run all lines before mid after n held r wrote goes =
    let written : List ℕ = r.piece ++ take wrote.0 held in
    let split : (r.piece ++ held) ++ goes.1 ≡ written ++ (drop wrote.0 held ++ goes.1) =
    ap (λ (t : List ℕ). (r.piece ++ t) ++ goes.1) (sym (take-append-drop wrote.0 held)) ∙ ap (λ (t : List ℕ). t ++ goes.1) (sym (append_assoc r.piece (take wrote.0 held) (drop wrote.0 held))) ∙ append_assoc written (drop wrote.0 held) goes.1 in
    let front : take (length written) ((r.piece ++ held) ++ goes.1) ≡ written = ap (take (length written)) split ∙ take-append_seam written (drop wrote.0 held ++ goes.1) in (
      goes.0,
      (r.piece ++ held) ++ goes.1,
      r.leads goes.0 goes.1 goes.2,
      (length written, subst (Appends before after) (sym front) (appends_both before mid after r.piece (take wrote.0 held) r.out wrote.1)),
    )

-- ---- what the runs of the two commands have in common

-- a line is a step, the step answers, and the answer's line is appended
pub adds_by : {E A : Type 0} (AreSteps : ℕ → List (List ℕ) → List E → Option ℕ → Type 0) (line_of : A → List ℕ) (before after : List E → List A) (step : E) (answer : A) (line old new : List ℕ) → ((n : ℕ) (lines : List (List ℕ)) (steps : List E) (bad : Option ℕ) → AreSteps (n + 1) lines steps bad → AreSteps n (line ∷ lines) (step ∷ steps) bad) → ((steps : List E) → before (step ∷ steps) ≡ answer ∷ after steps) → new ≡ old ++ (line_of answer ++ 10 ∷ []) → Adds (GoesOnBy E AreSteps (λ steps. flat_map (λ a. line_of a ++ 10 ∷ []) (before steps))) (GoesOnBy E AreSteps (λ steps. flat_map (λ a. line_of a ++ 10 ∷ []) (after steps))) line old new
adds_by AreSteps line_of before after step answer line old new is_step answers grown = record {
  piece = line_of answer ++ 10 ∷ [];
  grown = grown;
  leads = λ n lines bad text p. record {
    steps = step ∷ p.steps;
    are = is_step n lines p.steps bad p.are;
    printed = ap (λ (t : List ℕ). (line_of answer ++ 10 ∷ []) ++ t) p.printed ∙ sym (flat_map-cons (λ a. line_of a ++ 10 ∷ []) answer (after p.steps)) ∙ ap (flat_map (λ a. line_of a ++ 10 ∷ [])) (sym (answers p.steps));
  };
}

-- a run that begins new, behind a first line
pub prints_by : {E : Type 0} (AreParsed : List (List ℕ) → Option ℕ → List E → Option ℕ → Type 0) (AreSteps : ℕ → List (List ℕ) → List E → Option ℕ → Type 0) (text_of : ℕ → List E → List ℕ) (text_from : List E → List ℕ) (m : ℕ) (input : List ℕ) (lines : List (List ℕ)) (bad : Option ℕ) (text : List ℕ) → ((steps : List E) → AreSteps 2 lines steps bad → AreParsed (lines_of input) (Some m) steps bad) → ((steps : List E) → text_from steps ≡ text_of m steps) → GoesOnBy E AreSteps text_from 2 lines bad text → PrintsBy E AreParsed text_of input bad (text ++ bad_line_text bad)
prints_by AreParsed AreSteps text_of text_from m input lines bad text parsed same p = record {
  frame_max = Some m;
  steps = p.steps;
  parsed = parsed p.steps p.are;
  printed = ap (λ (t : List ℕ). t ++ bad_line_text bad) (p.printed ∙ same p.steps);
}
