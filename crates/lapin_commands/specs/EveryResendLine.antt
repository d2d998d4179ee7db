-- Whatever a line is, it is the line of a step of a publisher that sends again or none's: so every input prints something.
use Rattle.std.proofs.Common.{◌≡◌, ◌≢◌, ◌⊎◌, inl, inr, ℕ, ◌<◌, ◌^◌, List, ◌++◌, true, Option, Some, None, refl, ap, ◌∙◌, lt-ltb, ltb-true}
use Rattle.std.specs.Prelude.{codes, nat_lt}
use Rattle.std.proofs.lemmas.Bool.{and_parts, and_from}
use Rattle.lapin_types.specs.Types.{Frame}
use Rattle.lapin_tokens.specs.Fields.{fits, wide_number}
use Rattle.lapin_tokens.specs.Reading.{value_of}
use Rattle.lapin_tokens.proofs.FieldLaws.{value_again, value_found}
use Rattle.lapin_text.specs.LineReading.{frame_text_at}
use Rattle.lapin_text.proofs.LineLaws.{text_found, text_refused}
use Rattle.lapin_resend.specs.declared.message.Message.{Message}
use Rattle.lapin_resend.specs.declared.step.ResendStep.{ResendStep}
use Rattle.lapin_resend.specs.declared.step.ResendStep.TheVariants as step
use Rattle.lapin_resend_text.specs.Messages.{message_at}
use Rattle.lapin_resend_text.specs.Steps.{step_line, HasLine}
use Rattle.lapin_resend_text.proofs.MessageLaws.{message_found, message_refused}
use Rattle.lapin_resend_text.proofs.StepLaws.{submit_found, submit_none, send_found, send_none, status_found, status_none, bare_found, bare_none}
use Rattle.lapin_inputs.specs.LineLaws.{Step?, some_steps, begins, is_word}
use Rattle.lapin_commands.specs.Resend.{ResendGoesOn, text_after}

-- the line is the line of some step, or it is none's
abbrev ResendStep? : List ℕ → Type 0
ResendStep? line = Step? step_line HasLine line

-- a line that begins with `submit ` is the line of a step or none's
a_submit : (line rest : List ℕ) → line ≡ codes "submit " ++ rest → ResendStep? line
a_submit line rest is = with_message (message_at rest) refl
  where
    with_message : (read : Option Message) → message_at rest ≡ read → ResendStep? line
    with_message None e = inr (submit_none line rest is (λ m fit same. message_refused rest m fit same e))
    with_message (Some m) e = inl (step.Submit m, submit_found line rest m is (message_found rest m e))

-- a line that begins with `send ` is the line of a step or none's
a_send : (line rest : List ℕ) → line ≡ codes "send " ++ rest → ResendStep? line
a_send line rest is = with_frame (frame_text_at rest) refl
  where
    with_frame : (read : Option Frame) → frame_text_at rest ≡ read → ResendStep? line
    with_frame None e = inr (send_none line rest is (λ f fit same. text_refused rest f fit same e))
    with_frame (Some f) e = inl (step.Send f, send_found line rest f is (text_found rest f e))

-- a number of 64 bits has a token
fits_wide : (n : ℕ) → n < 2 ^ 64 → fits wide_number n ≡ true
fits_wide n lt = and_from (nat_lt n (2 ^ 64)) (nat_lt n (2 ^ 64)) (lt-ltb n (2 ^ 64) lt) (lt-ltb n (2 ^ 64) lt)

wide_fits : (n : ℕ) → fits wide_number n ≡ true → n < 2 ^ 64
wide_fits n h = ltb-true n (2 ^ 64) (and_parts (nat_lt n (2 ^ 64)) (nat_lt n (2 ^ 64)) h).0

-- a line that begins with `status ` is the line of a step or none's
a_status : (line rest : List ℕ) → line ≡ codes "status " ++ rest → ResendStep? line
a_status line rest is = with_number (value_of wide_number rest) refl
  where
    with_number : (read : Option ℕ) → value_of wide_number rest ≡ read → ResendStep? line
    with_number None e = inr (status_none line rest is (λ n fit same. let again = ap (value_of wide_number) same ∙ value_again wide_number n (fits_wide n fit) in cc))
    with_number (Some n) e = let found = value_found wide_number rest n e in inl (step.Status n, status_found line rest n is found.is (wide_fits n found.fits))

-- a line that begins with none of them is the line of a step or none's
a_bare : (line : List ℕ) → ((rest : List ℕ) → line ≢ codes "submit " ++ rest) → ((rest : List ℕ) → line ≢ codes "send " ++ rest) → ((rest : List ℕ) → line ≢ codes "status " ++ rest) → ResendStep? line
a_bare line submit send status = next_first (is_word (codes "next") line)
  where
    lose_last : line ≢ codes "next" → line ≢ codes "read" → line ≢ codes "deliver" → (line ≡ codes "lose") ⊎ (line ≢ codes "lose") → ResendStep? line
    lose_last next read deliver (inl is) = inl (step.Lose, bare_found line step.Lose is)
    lose_last next read deliver (inr lose) = inr (bare_none line submit send status (next, read, deliver, lose))

    deliver_third : line ≢ codes "next" → line ≢ codes "read" → (line ≡ codes "deliver") ⊎ (line ≢ codes "deliver") → ResendStep? line
    deliver_third next read (inl is) = inl (step.Deliver, bare_found line step.Deliver is)
    deliver_third next read (inr deliver) = lose_last next read deliver (is_word (codes "lose") line)

    read_second : line ≢ codes "next" → (line ≡ codes "read") ⊎ (line ≢ codes "read") → ResendStep? line
    read_second next (inl is) = inl (step.Read, bare_found line step.Read is)
    read_second next (inr read) = deliver_third next read (is_word (codes "deliver") line)

    next_first : (line ≡ codes "next") ⊎ (line ≢ codes "next") → ResendStep? line
    next_first (inl is) = inl (step.Next, bare_found line step.Next is)
    next_first (inr next) = read_second next (is_word (codes "read") line)

-- a line is the line of a step or none's
step_of : (line : List ℕ) → ResendStep? line
step_of line = submit_first (begins (codes "submit ") line)
  where
    status_third : ((rest : List ℕ) → line ≢ codes "submit " ++ rest) → ((rest : List ℕ) → line ≢ codes "send " ++ rest) → ((rest : List ℕ) × (line ≡ codes "status " ++ rest)) ⊎ ((rest : List ℕ) → line ≢ codes "status " ++ rest) → ResendStep? line
    status_third submit send (inl status) = a_status line status.0 status.1
    status_third submit send (inr status) = a_bare line submit send status

    send_second : ((rest : List ℕ) → line ≢ codes "submit " ++ rest) → ((rest : List ℕ) × (line ≡ codes "send " ++ rest)) ⊎ ((rest : List ℕ) → line ≢ codes "send " ++ rest) → ResendStep? line
    send_second submit (inl send) = a_send line send.0 send.1
    send_second submit (inr send) = status_third submit send (begins (codes "status ") line)

    submit_first : ((rest : List ℕ) × (line ≡ codes "submit " ++ rest)) ⊎ ((rest : List ℕ) → line ≢ codes "submit " ++ rest) → ResendStep? line
    submit_first (inl submit) = a_submit line submit.0 submit.1
    submit_first (inr submit) = send_second submit (begins (codes "send ") line)

-- for lines, whatever they are, a publisher that goes on prints some text
pub resend_goes : (m : ℕ) (made : List ResendStep) (n : ℕ) (lines : List (List ℕ)) → (bad : Option ℕ) × (text : List ℕ) × ResendGoesOn m made n lines bad text
resend_goes m made n lines =
    let some = some_steps step_line HasLine step_of n lines in
    (some.1, text_after m made some.0, record { steps = some.0; are = some.2; printed = refl })
