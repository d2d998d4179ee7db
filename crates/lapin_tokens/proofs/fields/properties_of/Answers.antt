use Rattle.std.proofs.Common.{◌≡◌, [], ◌∷◌, Some, refl, sym, ap, ◌∙◌, arith}
use Rattle.std.proofs.lemmas.Slice.Eq.{text_from_reads}
use Rattle.lapin_values.specs.Properties.{no_properties}
use Rattle.lapin_tokens.specs.Fields.Field.{props}
use Rattle.lapin_tokens.specs.Reading.{value_of}
use Rattle.lapin_tokens.proofs.FieldLaws.{value_again}
use Rattle.lapin_tokens.proofs.fields.properties_of.Goals as goal

pub returns-in-91 : goal.returns-in-91
returns-in-91 c =
    let bare : c.args.piece.now ≡ 91 ∷ 93 ∷ [] = text_from_reads c.args.piece.now (91 ∷ 93 ∷ []) (omega arith) (omega arith, (omega arith, tt)) in
    ap (value_of props) bare ∙ value_again props no_properties refl ∙ ap Some (sym c.default.ensures)
