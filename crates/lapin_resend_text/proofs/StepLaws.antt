-- The lines of steps: which step a line is of is told by the word in front.
use Rattle.std.proofs.Common.{◌≡◌, ◌≢◌, ℕ, ◌<◌, ◌^◌, List, ◌∷◌, ◌++◌, sym, ap, ◌∙◌, arith}
use Rattle.std.specs.Prelude.{codes, decimal}
use Rattle.lapin_types.specs.Types.{Frame}
use Rattle.lapin_text.specs.Frames.{frame_text, FrameFits}
use Rattle.lapin_resend.specs.declared.message.Message.{Message}
use Rattle.lapin_resend.specs.declared.step.ResendStep.{ResendStep}
use Rattle.lapin_resend.specs.declared.step.ResendStep.TheVariants as step
use Rattle.lapin_resend_text.specs.Messages.{message_text, MessageFits}
use Rattle.lapin_resend_text.specs.Steps.{IsLineOf, NoLine, IsBare, NoBare}

-- ---- lines that begin with other letters are others

first_is : (x y : ℕ) (xs ys : List ℕ) → x ∷ xs ≡ y ∷ ys → x ≡ y
first_is x y xs ys e = cc

second_is : (x y a b : ℕ) (xs ys : List ℕ) → x ∷ a ∷ xs ≡ y ∷ b ∷ ys → a ≡ b
second_is x y a b xs ys e = cc

-- ---- a message

behind_submit : (rest more : List ℕ) → codes "submit " ++ rest ≡ codes "submit " ++ more → rest ≡ more
behind_submit rest more e = cc

pub submit_found : (line rest : List ℕ) (m : Message) → line ≡ codes "submit " ++ rest → (rest ≡ message_text m) × MessageFits m → IsLineOf line (step.Submit m)
submit_found line rest m is h = (is ∙ ap (λ (r : List ℕ). codes "submit " ++ r) h.0, h.1)

pub submit_none : (line rest : List ℕ) → line ≡ codes "submit " ++ rest → ((m : Message) → MessageFits m → rest ≡ message_text m → ⊥) → NoLine line
submit_none line rest is other (step.Submit m) fit same = other m fit (behind_submit rest (message_text m) (sym is ∙ same))
submit_none line rest is other step.Next fit same = absurd (omega (arith, first_is 115 110 _ _ (sym is ∙ same)))
submit_none line rest is other step.Read fit same = absurd (omega (arith, first_is 115 114 _ _ (sym is ∙ same)))
submit_none line rest is other (step.Send f) fit same = absurd (omega (arith, second_is 115 115 117 101 _ _ (sym is ∙ same)))
submit_none line rest is other step.Deliver fit same = absurd (omega (arith, first_is 115 100 _ _ (sym is ∙ same)))
submit_none line rest is other step.Lose fit same = absurd (omega (arith, first_is 115 108 _ _ (sym is ∙ same)))
submit_none line rest is other (step.Status n) fit same = absurd (omega (arith, second_is 115 115 117 116 _ _ (sym is ∙ same)))

-- ---- a frame of the broker

behind_send : (rest more : List ℕ) → codes "send " ++ rest ≡ codes "send " ++ more → rest ≡ more
behind_send rest more e = cc

pub send_found : (line rest : List ℕ) (f : Frame) → line ≡ codes "send " ++ rest → (rest ≡ frame_text f) × FrameFits f → IsLineOf line (step.Send f)
send_found line rest f is h = (is ∙ ap (λ (r : List ℕ). codes "send " ++ r) h.0, h.1)

pub send_none : (line rest : List ℕ) → line ≡ codes "send " ++ rest → ((f : Frame) → FrameFits f → rest ≡ frame_text f → ⊥) → NoLine line
send_none line rest is other (step.Submit m) fit same = absurd (omega (arith, second_is 115 115 101 117 _ _ (sym is ∙ same)))
send_none line rest is other step.Next fit same = absurd (omega (arith, first_is 115 110 _ _ (sym is ∙ same)))
send_none line rest is other step.Read fit same = absurd (omega (arith, first_is 115 114 _ _ (sym is ∙ same)))
send_none line rest is other (step.Send f) fit same = other f fit (behind_send rest (frame_text f) (sym is ∙ same))
send_none line rest is other step.Deliver fit same = absurd (omega (arith, first_is 115 100 _ _ (sym is ∙ same)))
send_none line rest is other step.Lose fit same = absurd (omega (arith, first_is 115 108 _ _ (sym is ∙ same)))
send_none line rest is other (step.Status n) fit same = absurd (omega (arith, second_is 115 115 101 116 _ _ (sym is ∙ same)))

-- ---- a question

behind_status : (rest more : List ℕ) → codes "status " ++ rest ≡ codes "status " ++ more → rest ≡ more
behind_status rest more e = cc

pub status_found : (line rest : List ℕ) (n : ℕ) → line ≡ codes "status " ++ rest → rest ≡ decimal n → n < 2 ^ 64 → IsLineOf line (step.Status n)
status_found line rest n is spelled fit = (is ∙ ap (λ (r : List ℕ). codes "status " ++ r) spelled, fit)

pub status_none : (line rest : List ℕ) → line ≡ codes "status " ++ rest → ((n : ℕ) → n < 2 ^ 64 → rest ≡ decimal n → ⊥) → NoLine line
status_none line rest is other (step.Submit m) fit same = absurd (omega (arith, second_is 115 115 116 117 _ _ (sym is ∙ same)))
status_none line rest is other step.Next fit same = absurd (omega (arith, first_is 115 110 _ _ (sym is ∙ same)))
status_none line rest is other step.Read fit same = absurd (omega (arith, first_is 115 114 _ _ (sym is ∙ same)))
status_none line rest is other (step.Send f) fit same = absurd (omega (arith, second_is 115 115 116 101 _ _ (sym is ∙ same)))
status_none line rest is other step.Deliver fit same = absurd (omega (arith, first_is 115 100 _ _ (sym is ∙ same)))
status_none line rest is other step.Lose fit same = absurd (omega (arith, first_is 115 108 _ _ (sym is ∙ same)))
status_none line rest is other (step.Status n) fit same = other n fit (behind_status rest (decimal n) (sym is ∙ same))

-- ---- a word alone

pub bare_found : (line : List ℕ) (s : ResendStep) → IsBare line s → IsLineOf line s
bare_found line (step.Submit m) is = absurd is
bare_found line step.Next is = (is, tt)
bare_found line step.Read is = (is, tt)
bare_found line (step.Send f) is = absurd is
bare_found line step.Deliver is = (is, tt)
bare_found line step.Lose is = (is, tt)
bare_found line (step.Status n) is = absurd is

pub bare_none : (line : List ℕ) → ((rest : List ℕ) → line ≢ codes "submit " ++ rest) → ((rest : List ℕ) → line ≢ codes "send " ++ rest) → ((rest : List ℕ) → line ≢ codes "status " ++ rest) → NoBare line → NoLine line
bare_none line submit send status other (step.Submit m) fit same = submit (message_text m) same
bare_none line submit send status other step.Next fit same = other.0 same
bare_none line submit send status other step.Read fit same = other.1 same
bare_none line submit send status other (step.Send f) fit same = send (frame_text f) same
bare_none line submit send status other step.Deliver fit same = other.2 same
bare_none line submit send status other step.Lose fit same = other.3 same
bare_none line submit send status other (step.Status n) fit same = status (decimal n) same
