-- The lines of steps: which step a line is of is told by the word in front.
use Rattle.std.proofs.Common.{◌≡◌, ◌≢◌, ℕ, List, [], ◌∷◌, ◌++◌, Option, Some, None, true, refl, sym, ap, subst, ◌∙◌, arith, eqb, decimal}
use Rattle.std.specs.Prelude.{codes}
use Rattle.std.specs.List.{join_with_byte, slice_split}
use Rattle.std.proofs.lemmas.List.{append-nil}
use Rattle.std.proofs.lemmas.List.Splits.{join_with_byte-slice_split}
use Rattle.lapin_types.specs.Types.{Frame}
use Rattle.lapin_types.specs.Types.frame
use Rattle.lapin_types.specs.declared.event.Event.{Event}
use Rattle.lapin_types.specs.declared.event.Event.TheVariants as event
use Rattle.lapin_tokens.specs.Fields.{Field, Values, token, tokens, fits, wide_number, AllFit}
use Rattle.lapin_tokens.specs.Fields.Field.{text, bytes}
use Rattle.lapin_tokens.specs.Reading.{fields_at}
use Rattle.lapin_tokens.proofs.FieldLaws.{some_is, fields_again, fields_found}
use Rattle.lapin_tokens.proofs.Plain.{split_join}
use Rattle.lapin_tokens.proofs.PlainFields.{plain_tokens}
use Rattle.lapin_text.specs.Events as events
use Rattle.lapin_text.specs.Events.{line_of}
use Rattle.lapin_text.specs.LineReading.{whole}
use Rattle.lapin_text.proofs.LineLaws.{same_line}
use Rattle.lapin_call.specs.declared.step.CallStep.{CallStep}
use Rattle.lapin_call.specs.declared.step.CallStep.TheVariants as step
use Rattle.lapin_call_text.specs.Steps.{IsLineOf, NoLine}
use Rattle.lapin_call_text.specs.Reading.{asked_of, asked_in, step_of_event}

first_is : (x y : ℕ) (xs ys : List ℕ) → x ∷ xs ≡ y ∷ ys → x ≡ y
first_is x y xs ys e = cc

-- ---- a request

abbrev fields : List Field
fields = text ∷ text ∷ bytes ∷ []

whole_found : (r : Option (CallStep × List (List ℕ))) (s : CallStep) → whole r ≡ Some s → r ≡ Some (s, [])
whole_found None s h = absurd cc
whole_found (Some (x, [])) s h = ap (λ (y : CallStep). Some (y, [])) (some_is x s h)
whole_found (Some (x, t ∷ ts)) s h = absurd cc

pub asked_found : (line rest : List ℕ) (s : CallStep) → line ≡ codes "ask " ++ rest → asked_in rest ≡ Some s → IsLineOf line s
unfolding asked_in
asked_found line rest s is read =
    let pieces : List (List ℕ) = slice_split (λ b. eqb b 32) rest in
    let r = fields_found fields asked_of pieces (s, []) (whole_found (fields_at fields asked_of pieces) s read) in
    let spelled : rest ≡ join_with_byte 32 (tokens fields r.vs) = sym (join_with_byte-slice_split 32 rest) ∙ ap (join_with_byte 32) (r.spelled ∙ append-nil (tokens fields r.vs)) in
    subst (IsLineOf line) (sym r.is) (is ∙ ap (λ (t : List ℕ). codes "ask " ++ t) spelled, (r.fit.0, r.fit.1.0, r.fit.1.1.0))

behind_ask : (rest more : List ℕ) → codes "ask " ++ rest ≡ codes "ask " ++ more → rest ≡ more
behind_ask rest more e = cc

asked_again : (vs : Values fields) → AllFit fields vs → asked_in (join_with_byte 32 (tokens fields vs)) ≡ Some (asked_of vs)
unfolding asked_in
asked_again vs fit =
    let pieces : slice_split (λ b. eqb b 32) (join_with_byte 32 (tokens fields vs)) ≡ tokens fields vs ++ [] = split_join (tokens fields vs) (omega arith) (plain_tokens fields vs fit) ∙ sym (append-nil (tokens fields vs)) in
    rw (pieces, fields_again fields asked_of vs [] fit) refl

no_received : (line : List ℕ) (x : ℕ) (xs : List ℕ) (f : Frame) → line ≡ x ∷ xs → x ≢ 114 → line ≡ line_of (event.Receive f) → ⊥
no_received line x xs (frame.Method c m) is other same = other (first_is x 114 _ _ (sym is ∙ same))
no_received line x xs (frame.Header c h) is other same = other (first_is x 114 _ _ (sym is ∙ same))
no_received line x xs (frame.Body c b) is other same = other (first_is x 114 _ _ (sym is ∙ same))

pub asked_none : (line rest : List ℕ) → line ≡ codes "ask " ++ rest → asked_in rest ≡ None → NoLine line
asked_none line rest is none (step.Next flow) fit same = absurd (omega (arith, first_is 97 110 _ _ (sym is ∙ same)))
asked_none line rest is none (step.Receive f) fit same = no_received line 97 _ f is (λ e. omega (arith, e)) same
asked_none line rest is none step.Lost fit same = absurd (omega (arith, first_is 97 108 _ _ (sym is ∙ same)))
asked_none line rest is none step.Collect fit same = absurd (omega (arith, first_is 97 99 _ _ (sym is ∙ same)))
asked_none line rest is none (step.Take n) fit same = absurd (omega (arith, first_is 97 116 _ _ (sym is ∙ same)))
asked_none line rest is none (step.Ask x key p) fit same =
    let vs : Values fields = (x, (key, (p, tt))) in
    let again = ap asked_in (behind_ask rest (join_with_byte 32 (tokens fields vs)) (sym is ∙ same)) ∙ asked_again vs (fit.0, (fit.1, (fit.2, tt))) in
    absurd cc

-- ---- a word alone, or an event

-- a line that begins with neither word, is not `collect`, and is no event's
pub bare_none : (line : List ℕ) → ((rest : List ℕ) → line ≢ codes "ask " ++ rest) → ((rest : List ℕ) → line ≢ codes "take " ++ rest) → line ≢ codes "collect" → ((e : Event) → events.HasLine e → line ≡ line_of e → ⊥) → NoLine line
bare_none line ask take collect none (step.Next flow) fit same = none (event.Next flow) fit same
bare_none line ask take collect none (step.Receive f) fit same = none (event.Receive f) fit same
bare_none line ask take collect none step.Lost fit same = none event.Lost fit same
bare_none line ask take collect none step.Collect fit same = collect same
bare_none line ask take collect none (step.Take n) fit same = take (decimal n) same
bare_none line ask take collect none (step.Ask x key p) fit same = ask (join_with_byte 32 (token text x ∷ token text key ∷ token bytes p ∷ [])) same

-- a line that is an event's which is no step
pub other_none : (line : List ℕ) (e : Event) → ((rest : List ℕ) → line ≢ codes "ask " ++ rest) → ((rest : List ℕ) → line ≢ codes "take " ++ rest) → line ≢ codes "collect" → line ≡ line_of e → events.HasLine e → step_of_event e ≡ None → NoLine line
other_none line e ask take collect is has nothing (step.Next flow) fit same = let one : e ≡ event.Next flow = same_line e (event.Next flow) has fit (sym is ∙ same) in let two = sym (ap step_of_event one) ∙ nothing in absurd cc
other_none line e ask take collect is has nothing (step.Receive f) fit same = let one : e ≡ event.Receive f = same_line e (event.Receive f) has fit (sym is ∙ same) in let two = sym (ap step_of_event one) ∙ nothing in absurd cc
other_none line e ask take collect is has nothing step.Lost fit same = let one : e ≡ event.Lost = same_line e event.Lost has fit (sym is ∙ same) in let two = sym (ap step_of_event one) ∙ nothing in absurd cc
other_none line e ask take collect is has nothing step.Collect fit same = collect same
other_none line e ask take collect is has nothing (step.Take n) fit same = take (decimal n) same
other_none line e ask take collect is has nothing (step.Ask x key p) fit same = ask (join_with_byte 32 (token text x ∷ token text key ∷ token bytes p ∷ [])) same

-- ---- the number of a call

behind_take : (rest more : List ℕ) → codes "take " ++ rest ≡ codes "take " ++ more → rest ≡ more
behind_take rest more e = cc

pub take_found : (line rest : List ℕ) (n : ℕ) → line ≡ codes "take " ++ rest → rest ≡ token wide_number n → fits wide_number n ≡ true → IsLineOf line (step.Take n)
take_found line rest n is says fit = (is ∙ ap (λ (t : List ℕ). codes "take " ++ t) says, fit)

pub take_none : (line rest : List ℕ) → line ≡ codes "take " ++ rest → ((n : ℕ) → fits wide_number n ≡ true → rest ≡ token wide_number n → ⊥) → NoLine line
take_none line rest is none (step.Next flow) fit same = absurd (omega (arith, first_is 116 110 _ _ (sym is ∙ same)))
take_none line rest is none (step.Receive f) fit same = no_received line 116 _ f is (λ e. omega (arith, e)) same
take_none line rest is none step.Lost fit same = absurd (omega (arith, first_is 116 108 _ _ (sym is ∙ same)))
take_none line rest is none step.Collect fit same = absurd (omega (arith, first_is 116 99 _ _ (sym is ∙ same)))
take_none line rest is none (step.Take n) fit same = none n fit (behind_take rest (decimal n) (sym is ∙ same))
take_none line rest is none (step.Ask x key p) fit same = absurd (omega (arith, first_is 116 97 _ _ (sym is ∙ same)))

-- ---- an event that is a step

pub event_found : (line : List ℕ) (e : Event) (s : CallStep) → line ≡ line_of e → events.HasLine e → step_of_event e ≡ Some s → IsLineOf line s
event_found line (event.Next flow) s is has made = subst (IsLineOf line) (some_is (step.Next flow) s made) (is, has)
event_found line (event.Receive f) s is has made = subst (IsLineOf line) (some_is (step.Receive f) s made) (is, has)
event_found line event.Lost s is has made = subst (IsLineOf line) (some_is step.Lost s made) (is, has)
event_found line _ s is has made = absurd cc
