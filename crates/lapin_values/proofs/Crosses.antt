-- What may cross threads: short strings, tables and properties.
use denote.Param.Send.{IsSend, IsSync, sendable}
use Rattle.std.proofs.Crossing.{crosses}
use Rattle.lapin_values.proofs.value.FieldArray.TheLaws.TheKnot as knot
use Rattle.lapin_values.proofs.properties.texts.Texts.TheLaws.TheKnot as chain
use Rattle.lapin_values.specs.contracts.text.ShortString as text_
use Rattle.lapin_values.specs.contracts.value.FieldTable as table_
use Rattle.lapin_values.specs.contracts.properties.BasicProperties as properties_

pub text_send : IsSend text_.the_row
text_send = search (chain.crosses, crosses, sendable) depth 400 fits 200000

pub text_sync : IsSync text_.the_row
text_sync = search (chain.crosses, crosses, sendable) depth 400 fits 200000

pub table_send : IsSend table_.the_row
table_send = search (knot.crosses, text_send, crosses, sendable) depth 400 fits 200000

pub table_sync : IsSync table_.the_row
table_sync = search (knot.crosses, text_sync, crosses, sendable) depth 400 fits 200000

pub properties_send : IsSend properties_.the_row
properties_send = search (table_send, chain.crosses, crosses, sendable) depth 400 fits 200000

pub properties_sync : IsSync properties_.the_row
properties_sync = search (table_sync, chain.crosses, crosses, sendable) depth 400 fits 200000
