use Rattle.std.proofs.Common.{◌≡◌, ◌∙◌, ◌++◌, ◌∷◌, [], ℕ, List, ap, append_assoc}
use Rattle.lapin_text.specs.Records.{record_tokens, record_line}
use Rattle.lapin_text.proofs.Printed.{line_onto_is}
use Rattle.lapin_shared_commands.proofs.printing.put_entry.Goals as goal

-- the pieces of an entry's line, put together
put_together : (text number line : List ℕ) → (((text ++ number) ++ 32 ∷ []) ++ line) ++ 10 ∷ [] ≡ text ++ ((number ++ 32 ∷ line) ++ 10 ∷ [])
put_together text number line =
    ap (λ (t : List ℕ). t ++ 10 ∷ []) (append_assoc (text ++ number) (32 ∷ []) line ∙ append_assoc text number (32 ∷ line))
    ∙ append_assoc text (number ++ 32 ∷ line) (10 ∷ [])

pub returns : goal.returns
returns c =
    let line : List ℕ = record_line c.args.entry.now.answer in
    c.in_ok-push-2.ensures.items
    ∙ ap (λ (t : List ℕ). t ++ 10 ∷ [])
    (c.in_ok-put_record.ensures
    ∙ line_onto_is c.push.new.self.items (record_tokens c.args.entry.now.answer)
    ∙ ap (λ (t : List ℕ). t ++ line) (c.in_ok-push.ensures.items ∙ ap (λ (t : List ℕ). t ++ 32 ∷ []) c.in_ok-put_number.ensures))
    ∙ put_together c.args.text.now.items _ line
