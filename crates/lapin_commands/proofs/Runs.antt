-- What a session owes as a run that an input drives.
use Rattle.std.proofs.Common.{◌≡◌, ℕ, suc, Bool, true, true≢false, ◌+◌, ◌-◌, ◌≤◌, ◌^◌, List, [], ◌∷◌, ◌++◌, Option, Some, None, false, refl, sym, ap, subst, ◌∙◌, append_assoc, arith}
use Rattle.std.specs.Prelude.{Result, Ok, Err, IfOk}
use Rattle.std.specs.List.{join_with_byte}
use Rattle.lapin_types.specs.declared.event.Event.{Event}
use Rattle.lapin_machine.specs.World.{World, next, told_by, outputs, new_world}
use Rattle.lapin_machine.specs.Numbers.{HasNumbersFor}
use Rattle.lapin_machine.proofs.Standing.{outputs_run}
use Rattle.lapin_machine.proofs.Counting.{numbers-next}
use Rattle.lapin_text.specs.Events.{line_of, HasLine}
use Rattle.lapin_text.specs.Input.{lines_of, max_line, IsMax, NoLine, AreEvents, AreParsed}
use Rattle.lapin_text.specs.Records.{record_tokens, record_line, line_onto, records_text}
use Rattle.lapin_text.specs.LineReading.{line_at}
use Rattle.lapin_text.proofs.Printed.{line_onto_is}
use Rattle.lapin_text.proofs.LineLaws.{line_found, refused}
use Rattle.lapin_lines.specs.Lines.{IsTaken}
use Rattle.lapin_joint.proofs.Steps.{new_goes_on}
use Rattle.lapin_machine.proofs.Ways.{fewer as numbers_fewer}
use Rattle.lapin_inputs.specs.Printing.{Adds, bad_line_text}
use Rattle.lapin_commands.specs.Session.{session_text, PrintsSession, SessionGoesOn}
use Rattle.lapin_inputs.proofs.Streaming.{adds_by, prints_by}

-- a line behind a text
pub line_grown : (old : List ℕ) (tokens : List (List ℕ)) → line_onto old tokens ++ 10 ∷ [] ≡ old ++ (join_with_byte 32 tokens ++ 10 ∷ [])
line_grown old tokens = ap (λ (t : List ℕ). t ++ 10 ∷ []) (line_onto_is old tokens) ∙ append_assoc old (join_with_byte 32 tokens) (10 ∷ [])

-- ---- a session

pub session_adds : (w v : World) (e : Event) (line old new : List ℕ) → HasLine e → line ≡ line_of e → v ≡ next w e → new ≡ line_onto old (record_tokens (told_by w e)) ++ 10 ∷ [] → Adds (SessionGoesOn w) (SessionGoesOn v) line old new
session_adds w v e line old new fit is stepped grown =
    subst (λ (x : World). Adds (SessionGoesOn w) (SessionGoesOn x) line old new) (sym stepped)
    (adds_by AreEvents record_line (outputs w) (outputs (next w e)) e (told_by w e) line old new (λ n lines es bad are. (fit, is, are)) (λ es. refl) (grown ∙ line_grown old (record_tokens (told_by w e))))

pub session_stops : (w : World) (n : ℕ) (lines : List (List ℕ)) (line : List ℕ) → NoLine line → SessionGoesOn w n (line ∷ lines) (Some n) []
session_stops w n lines line none = record { steps = []; are = (refl, none); printed = refl }

pub numbers_one : (n : ℕ) (w : World) → HasNumbersFor (suc n) w → HasNumbersFor 1 w
numbers_one n w h = numbers_fewer (suc n) 1 w h (omega arith)

pub numbers_rest : (n : ℕ) (w v : World) (e : Event) → v ≡ next w e → HasNumbersFor (suc n) w → HasNumbersFor n v
numbers_rest n w v e stepped h = subst (HasNumbersFor n) (sym stepped) (numbers-next n w e h)

-- a line that says an event adds what is printed for it
taken_adds : (w v : World) (line old new : List ℕ) (good : Bool) → IsTaken (line_at line) w v old new good → good ≡ true → Adds (SessionGoesOn w) (SessionGoesOn v) line old new
taken_adds w v line old new good taken is_good = said (line_at line) refl taken
  where
    said : (o : Option Event) → line_at line ≡ o → IsTaken o w v old new good → Adds (SessionGoesOn w) (SessionGoesOn v) line old new
    said None says h = absurd (true≢false (sym is_good ∙ h.0))
    said (Some e) says h = let found = line_found line e says in session_adds w v e line old new found.1 found.0 h.1.0 h.1.1

-- and it uses up no more than one number of each counter
pub taken_takes : (w v : World) (line old new : List ℕ) (good : Bool) → IsTaken (line_at line) w v old new good → good ≡ true → (n : ℕ) → HasNumbersFor (suc n) w → HasNumbersFor n v
taken_takes w v line old new good taken is_good n few = said (line_at line) taken
  where
    said : (o : Option Event) → IsTaken o w v old new good → HasNumbersFor n v
    said None h = absurd (true≢false (sym is_good ∙ h.0))
    said (Some e) h = numbers_rest n w v e h.1.0 few

-- the same of a session that stands where it stands
pub taken_adds_from : (w v : World) (line old new : List ℕ) (good : Bool) → IsTaken (line_at line) w v old new good → good ≡ true → (past : World) → past ≡ w → (now : World) × (now ≡ v) × Adds (SessionGoesOn past) (SessionGoesOn now) line old new
taken_adds_from w v line old new good taken is_good past here = (v, refl, subst (λ (x : World). Adds (SessionGoesOn x) (SessionGoesOn v) line old new) (sym here) (taken_adds w v line old new good taken is_good))

-- a line that says none is where a run stops
pub taken_stops : (w v : World) (line old new : List ℕ) (good : Bool) → IsTaken (line_at line) w v old new good → good ≡ false → (past : World) (n : ℕ) (lines : List (List ℕ)) → past ≡ w → SessionGoesOn past n (line ∷ lines) (Some n) []
taken_stops w v line old new good taken is_bad past n lines here = subst (λ (x : World). SessionGoesOn x n (line ∷ lines) (Some n) []) (sym here) (said (line_at line) refl taken)
  where
    said : (o : Option Event) → line_at line ≡ o → IsTaken o w v old new good → SessionGoesOn w n (line ∷ lines) (Some n) []
    said None says h = session_stops w n lines line (λ e fit is. refused line e fit is says)
    said (Some e) says h = absurd (true≢false (sym h.0 ∙ is_bad))

-- what a result says of its value, where it has one, says what follows from it
pub if_ok : {A E : Type 0} (r : Result A E) (P Q : A → Type 0) → ((a : A) → P a → Q a) → IfOk r P → IfOk r Q
if_ok (Ok a) P Q so h = so a h
if_ok (Err e) P Q so h = h

session_whole : (m : ℕ) (w : World) (input : List ℕ) (lines : List (List ℕ)) (bad : Option ℕ) (text : List ℕ) → w ≡ new_world m → IsMax m → lines_of input ≡ max_line m ∷ lines → SessionGoesOn w 2 lines bad text → PrintsSession input bad (text ++ bad_line_text bad)
session_whole m w input lines bad text new ok is p =
    prints_by AreParsed AreEvents session_text (λ es. records_text (outputs w es)) m input lines bad text
    (λ es are. subst (λ (ls : List (List ℕ)). AreParsed ls (Some m) es bad) (sym is) (ok, refl, are))
    (λ es. ap records_text (ap (λ (x : World). outputs x es) new ∙ outputs_run m es))
    p

pub session_begins : {E : Type 0} (r : Result World E) (m : ℕ) → IfOk r (λ w. w ≡ new_world m) → IfOk r (λ w. (past : World) × (past ≡ w) × ((input : List ℕ) (lines : List (List ℕ)) (bad : Option ℕ) (text : List ℕ) → IsMax m → lines_of input ≡ max_line m ∷ lines → SessionGoesOn past 2 lines bad text → PrintsSession input bad (text ++ bad_line_text bad)))
session_begins (Ok w) m new = (w, refl, λ input lines bad text ok is p. session_whole m w input lines bad text new ok is p)
session_begins (Err e) m new = tt

pub numbers_first : (m n : ℕ) (w : World) → w ≡ new_world m → n ≤ 2 ^ 31 → HasNumbersFor n w
numbers_first m n w new few =
    let first = new_goes_on m w new in
    numbers_fewer (2 ^ 64 - 1 - 0) n w first.numbers (omega (arith, few))

pub session_takes : {E : Type 0} (r : Result World E) (m : ℕ) → IfOk r (λ w. w ≡ new_world m) → IfOk r (λ w. (n : ℕ) → n ≤ 2 ^ 31 → HasNumbersFor n w)
session_takes (Ok w) m new = λ n few. numbers_first m n w new few
session_takes (Err e) m new = tt
