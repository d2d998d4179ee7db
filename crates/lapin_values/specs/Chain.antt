-- A chain of texts as contracts see it.
use Rattle.std.specs.Prelude.{ℕ, List, [], false, None, refl}
use Rattle.std.specs.Coded.{Coded, code_by, coded×, coded_ℕ, coded_list}
use Rattle.lapin_values.specs.DataCode.{bytes_code}
use Rattle.lapin_values.specs.declared.properties.texts.Marks.{Marks}
use Rattle.lapin_values.specs.contracts.properties.texts.Marks as marks_row

-- the texts, each with the number of its property; the marks; and the timestamp, which means nothing where it is not marked as set
pub record Chain : Type 0 where
  pub texts : List (ℕ × List ℕ)
  pub marks : Marks
  pub timestamp : ℕ

-- how the logic stores it: as a tuple
abbrev pub chain_code : Coded Chain
chain_code =
    code_by (List (ℕ × List ℕ) × (Marks × ℕ))
    (coded× (coded_list (coded× coded_ℕ bytes_code)) (coded× marks_row.the_row.coded coded_ℕ))
    (λ c. (c.texts, (c.marks, c.timestamp)))
    (λ t. record { texts = t.0; marks = t.1.0; timestamp = t.1.1 })
    (λ _. refl)

-- no mark is set
abbrev pub no_marks : Marks
no_marks = record { has_headers = false; has_timestamp = false; delivery_mode = None; priority = None }

-- nothing is set
abbrev pub empty_chain : Chain
empty_chain = record { texts = []; marks = no_marks; timestamp = 0 }
