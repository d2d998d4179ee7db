-- The text of a message: what was read is spelled so, and what is spelled so is read.
use Rattle.std.proofs.Common.{◌≡◌, ℕ, List, [], ◌++◌, Some, None, refl, sym, ap, subst, ◌∙◌, eqb, arith}
use Rattle.std.specs.List.{join_with_byte, slice_split}
use Rattle.std.proofs.lemmas.List.{append-nil}
use Rattle.std.proofs.lemmas.List.Splits.{join_with_byte-slice_split}
use Rattle.lapin_tokens.specs.Fields.{tokens}
use Rattle.lapin_tokens.specs.Reading.{fields_at}
use Rattle.lapin_tokens.proofs.FieldLaws.{fields_again, fields_found}
use Rattle.lapin_tokens.proofs.Plain.{split_join}
use Rattle.lapin_tokens.proofs.PlainFields.{plain_tokens}
use Rattle.lapin_resend.specs.declared.message.Message.{Message}
use Rattle.lapin_resend_text.specs.Messages.{message_fields, message_values, message_text, MessageFits, message_made, message_at}
use Rattle.lapin_text.proofs.LineLaws.{whole_found}

message_again : (m : Message) → MessageFits m → message_at (message_text m) ≡ Some m
unfolding message_at
message_again m h =
    let ts : List (List ℕ) = tokens message_fields (message_values m) in
    let pieces : slice_split (λ b. eqb b 32) (message_text m) ≡ ts ++ [] = split_join ts (omega arith) (plain_tokens message_fields (message_values m) h) ∙ sym (append-nil ts) in
    rw (pieces, fields_again message_fields message_made (message_values m) [] h) refl

abbrev IsText : List ℕ → Message → Type 0
IsText piece m = (piece ≡ message_text m) × MessageFits m

pub message_found : (piece : List ℕ) (m : Message) → message_at piece ≡ Some m → (piece ≡ message_text m) × MessageFits m
unfolding message_at
message_found piece m h =
    let r = fields_found message_fields message_made (slice_split (λ b. eqb b 32) piece) (m, []) (whole_found (fields_at message_fields message_made (slice_split (λ b. eqb b 32) piece)) m h) in
    subst (IsText piece) (sym r.is)
    (sym (join_with_byte-slice_split 32 piece) ∙ ap (join_with_byte 32) (r.spelled ∙ append-nil (tokens message_fields r.vs)), r.fit)

pub message_refused : (piece : List ℕ) (m : Message) → MessageFits m → piece ≡ message_text m → message_at piece ≡ None → ⊥
message_refused piece m fit is none = let again = ap message_at is ∙ message_again m fit in cc
