-- What was written is read: content headers, with the list of properties carried.
use Rattle.std.proofs.Common.{◌≡◌, ◌++◌, Some, refl, ap, ◌∙◌}
use Rattle.std.proofs.lemmas.Nat.{from_be_bytes-to_be_bytes_2, from_be_bytes-to_be_bytes_8}
use Rattle.lapin_methods.specs.declared.frame.ContentHeader.{ContentHeader}
use Rattle.lapin_fields.specs.Fields.{short, wide}
use Rattle.lapin_frames.specs.Carried.{header_again}
use Rattle.lapin_frames.specs.FrameFits.{HeaderFits}
use Rattle.lapin_frames.specs.Headers.{properties_bytes, header_bytes}
use Rattle.lapin_frames.specs.HeaderReading.{header_in}
use Rattle.lapin_frames.proofs.Joined.{joined_3}

pub header_joined : (h : ContentHeader) → header_bytes h ≡ short h.class_id ++ (short 0 ++ (wide h.body_size ++ properties_bytes h.properties))
header_joined h = joined_3 (short h.class_id) (short 0) (wide h.body_size) (properties_bytes h.properties)

pub header_back : (h : ContentHeader) → HeaderFits h → header_in (header_bytes h) ≡ Some (header_again h)
header_back h fit = ap header_in (header_joined h) ∙ rw (from_be_bytes-to_be_bytes_2 h.class_id fit.0, from_be_bytes-to_be_bytes_8 h.body_size fit.1) refl
