-- Frames: what a method, a content header or a body is as octets.
use Rattle.std.specs.Prelude.{ℕ, List}
use Rattle.lapin_methods.specs.declared.frame.Frame.{Frame}
use Rattle.lapin_methods.specs.declared.frame.Frame.TheVariants as frame
use Rattle.lapin_fields.specs.Around.{around}
use Rattle.lapin_frames.specs.Headers.{header_bytes}
use Rattle.lapin_frames.specs.Methods.{method_bytes}

-- the octets of a frame
abbrev pub bytes_of : Frame → List ℕ
bytes_of (frame.Method channel method) = around 1 channel (method_bytes method)
bytes_of (frame.Header channel header) = around 2 channel (header_bytes header)
bytes_of (frame.Body channel payload) = around 3 channel payload
