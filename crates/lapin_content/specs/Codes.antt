-- How the values that contracts see are stored as tuples of their fields, by which a proof tells two of them apart. No clause
-- cites this.
use Rattle.std.specs.Prelude.{ℕ, List, Option, refl}
use Rattle.std.specs.Coded.{Coded, code_by, coded×, coded_ℕ, coded_list, coded_option}
use Rattle.lapin_values.specs.Properties.{Properties, properties_code}
use Rattle.lapin_content.specs.declared.start.Start.{Start}
use Rattle.lapin_content.specs.contracts.start.Start as start_row
use Rattle.lapin_content.specs.Contents.{Begun, Expected}
use Rattle.lapin_content.specs.Channels.{Channels}

-- a content whose header came
abbrev pub begun_code : Coded Begun
begun_code =
    code_by
    (Properties × (ℕ × List ℕ))
    (coded× properties_code (coded× coded_ℕ (coded_list coded_ℕ)))
    (λ b. (b.properties, (b.left, b.bytes)))
    (λ p. record { properties = p.0; left = p.1.0; bytes = p.1.1 })
    (λ _. refl)

-- an expected content
abbrev pub expected_code : Coded Expected
expected_code =
    code_by
    (ℕ × (Start × Option Begun))
    (coded× coded_ℕ (coded× start_row.the_row.coded (coded_option begun_code)))
    (λ e. (e.class_id, (e.start, e.begun)))
    (λ p. record { class_id = p.0; start = p.1.0; begun = p.1.1 })
    (λ _. refl)

-- the contents of all channels
abbrev pub channels_code : Coded Channels
channels_code = coded_list (coded× coded_ℕ (coded_list expected_code))
