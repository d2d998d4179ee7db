-- The texts of properties as they are held: in a chain of links.
use Rattle.std.specs.Prelude.{◌≤◌, [], ◌∷◌, box_value, length}
use Rattle.lapin_values.specs.Stored.{kept}
use Rattle.lapin_values.specs.Chain.{Chain, empty_chain}
use Rattle.lapin_values.specs.declared.properties.texts.First.{First}
use Rattle.lapin_values.specs.declared.properties.texts.First.TheVariants.{Nothing, End, Text}

-- the chain that begins so: its marks stand where it begins, and its timestamp where it ends
abbrev pub chained : First → Chain
chained Nothing = empty_chain
chained (End m t) = record { texts = []; marks = m; timestamp = t }
chained (Text m p) = record (box_value p.link).next { texts = ((box_value p.link).property, kept (box_value p.link).text) ∷ (box_value p.link).next.texts; marks = m }

-- the text that a chain begins with is a short string's
abbrev pub IsShort : First → Type 0
IsShort Nothing = Unit {0}
IsShort (End m t) = Unit {0}
IsShort (Text m p) = length (kept (box_value p.link).text) ≤ 255
