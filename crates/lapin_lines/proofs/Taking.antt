-- What a line says, and what becomes of it.
use Rattle.std.proofs.Common.{◌≡◌, ◌==◌, ℕ, List, [], ◌∷◌, Bool, true, false, Option, Some, None, Result, refl, sym, ap, subst, ◌∙◌}
use Rattle.std.specs.Prelude.{IfOk}
use Rattle.std.specs.List.{slice_split}
use Rattle.lapin_types.specs.declared.event.Event.{Event}
use Rattle.lapin_text.specs.Events.{line_of, HasLine}
use Rattle.lapin_tokens.specs.Reading.{◌>>=◌}
use Rattle.lapin_text.specs.LineReading.{line_at, whole, event_at, event_of_word}
use Rattle.lapin_text.specs.declared.words.Word.{Word}
use Rattle.lapin_text.proofs.LineLaws.{line_again, line_found}
use Rattle.lapin_machine.specs.World.{World}
use Rattle.lapin_lines.specs.Lines.{IsMet, IsTaken}

-- a line that an event has says that event
pub said_by : (line : List ℕ) (e : Event) → HasLine e → line ≡ line_of e → line_at line ≡ Some e
said_by line e fit is = ap line_at is ∙ line_again e fit

-- a line that no event has says none
pub unsaid : (line : List ℕ) → ((e : Event) → HasLine e → line ≡ line_of e → ⊥) → line_at line ≡ None
unsaid line none = read (line_at line) refl
  where
    read : (o : Option Event) → line_at line ≡ o → o ≡ None
    read None is = refl
    read (Some e) is = let found = line_found line e is in absurd (none e found.1 found.0)

-- an event that a line says was met
pub taken : (o : Option Event) (e : Event) (w v : World) (t u : List ℕ) → o ≡ Some e → IsMet e w v t u → IsTaken o w v t u true
taken o e w v t u is met = subst (λ (x : Option Event). IsTaken x w v t u true) (sym is) (refl, met)

-- a line that says none was left
pub left : (o : Option Event) (w : World) (t : List ℕ) → o ≡ None → IsTaken o w w t t false
left o w t is = subst (λ (x : Option Event). IsTaken x w w t t false) (sym is) (refl, refl, refl)

-- a value that is the last of its line makes the line's event
pub last_said : {A : Type 0} (g : A → Event) (read : Option (A × List (List ℕ))) (x : A) → whole read ≡ Some x → whole (read >>= λ y. Some (g y.0, y.1)) ≡ Some (g x)
last_said g None x is = absurd cc
last_said g (Some (a, [])) x is = cc
last_said g (Some (a, p ∷ ps)) x is = absurd cc

-- what becomes of a line whose first word is known is what becomes of what stands behind that word
pub by_word : {E : Type 0} (line : List ℕ) (pieces : List (List ℕ)) (first : Option Word) (w : Word) (rest : List (List ℕ)) (r : Result Bool E) (a b : World) (t u : List ℕ) → pieces ≡ slice_split (λ b. b == 32) line → event_at pieces ≡ (first >>= λ v. event_of_word v rest) → first ≡ Some w
    → IfOk r (IsTaken (whole (event_of_word w rest)) a b t u) → IfOk r (IsTaken (line_at line) a b t u)
unfolding line_at
by_word line pieces first w rest r a b t u cut reads known h =
    subst (λ (x : Option Event). IfOk r (IsTaken x a b t u)) (sym (ap whole (sym (ap event_at cut) ∙ reads ∙ ap (λ (o : Option Word). o >>= λ v. event_of_word v rest) known))) h
