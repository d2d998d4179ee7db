-- Reading content headers: a property list is carried as the octets that it is. None is refused, and nobody looks into one.
use Rattle.std.specs.Prelude.{ℕ, List, Option, Some}
use Rattle.lapin_methods.specs.declared.frame.ContentHeader.{ContentHeader}
use Rattle.lapin_fields.specs.Reading.{◌>>=◌, short_at, wide_at}
use Rattle.lapin_frames.specs.Carried.{carrying}

-- a content header that the octets are: its class, two octets that the standard reserves, the size of the content, and the list of its properties
abbrev pub header_in : List ℕ → Option ContentHeader
header_in bytes =
    short_at bytes >>= λ class. short_at class.1 >>= λ r1. wide_at r1.1 >>= λ size.
    Some (record { class_id = class.0; body_size = size.0; properties = carrying size.1 })
