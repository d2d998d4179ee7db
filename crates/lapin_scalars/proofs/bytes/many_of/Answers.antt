use Rattle.std.proofs.Common.{◌∷◌, Some, refl, sym, ap, ◌∙◌}
use Rattle.lapin_scalars.proofs.HexLaws.{bytes_are_pairs, text_fails}
use Rattle.lapin_scalars.proofs.bytes.many_of.Goals as goal

pub returns-in-Ok : goal.returns-in-Ok
returns-in-Ok c = c.text_of.ensures (120 ∷ c.args.digits.now) (bytes_are_pairs (120 ∷ c.args.digits.now) c.args.digits.now refl ∙ c.in-Ok.ensures ∙ ap Some (sym c.deref.ensures.value))

pub returns-in-Err : goal.returns-in-Err
returns-in-Err c = text_fails c.in-Err.error (120 ∷ c.args.digits.now) (rw (bytes_are_pairs (120 ∷ c.args.digits.now) c.args.digits.now refl) c.in-Err.ensures)
