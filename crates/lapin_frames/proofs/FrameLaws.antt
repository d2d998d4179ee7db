-- What was written is read: methods of all classes, and frames.
use Rattle.std.proofs.Common.{◌≡◌, ℕ, ◌+◌, ◌-◌, ◌<◌, ◌^◌, List, [], ◌∷◌, ◌++◌, length, Option, Some, None, refl, sym, ap, ◌∙◌, arith}
use Rattle.std.proofs.lemmas.List.{append-nil, length-append}
use Rattle.std.proofs.lemmas.Nat.{from_be_bytes-to_be_bytes_4}
use Rattle.lapin_methods.specs.declared.frame.ContentHeader.{ContentHeader}
use Rattle.lapin_methods.specs.declared.frame.Frame.{Frame}
use Rattle.lapin_methods.specs.declared.frame.Frame.TheVariants as frame
use Rattle.lapin_methods.specs.declared.method.Method.{Method}
use Rattle.lapin_methods.specs.declared.method.Method.TheVariants as method
use Rattle.lapin_fields.specs.Around.{around, around_at, wanted_behind}
use Rattle.lapin_fields.specs.Fields.{long}
use Rattle.lapin_fields.specs.Fits.{StringFits}
use Rattle.lapin_fields.specs.Reading.{◌>>=◌, short_at}
use Rattle.lapin_fields.proofs.ReadingLaws.{then_on, around_back}
use Rattle.lapin_frames.specs.Carried.{exchange_again, queue_again, basic_again, method_again, header_again, frame_again, IsCarried}
use Rattle.lapin_frames.specs.FrameFits.{MethodFits, FrameFits}
use Rattle.lapin_frames.specs.FrameReading.{read_in, read_at, whole}
use Rattle.lapin_frames.specs.Frames.{bytes_of}
use Rattle.lapin_frames.specs.Headers.{header_bytes}
use Rattle.lapin_frames.specs.Methods.{method_bytes, connection_bytes, channel_bytes, access_bytes, exchange_bytes, queue_bytes, basic_bytes, confirm_bytes, tx_bytes}
use Rattle.lapin_frames.specs.MethodReading.{method_at, of_class, connection_at, channel_at, access_at, exchange_at, queue_at, basic_at, confirm_at, tx_at}
use Rattle.lapin_frames.specs.declared.frames.Read.{Read}
use Rattle.lapin_frames.specs.declared.frames.Read.TheVariants as read
use Rattle.lapin_frames.proofs.AgainLaws.{carried_again}
use Rattle.lapin_frames.proofs.BasicLaws.{basic_back}
use Rattle.lapin_frames.proofs.HeaderLaws.{header_back}
use Rattle.lapin_frames.proofs.Joined.{numbered}
use Rattle.lapin_frames.proofs.QueueLaws.{exchange_back, queue_back}
use Rattle.lapin_frames.proofs.SmallClassLaws.{connection_back, channel_back, access_back, confirm_back, tx_back}

-- the method behind the number of its class, where it is read behind its own
class_back : {A : Type 0} (class : ℕ) (m : A) (fields rest : List ℕ) (read : ℕ → List ℕ → Option (A × List ℕ)) (made : A → Method) → ((n : ℕ) (b : List ℕ) → of_class class n b ≡ (read n b >>= λ x. Some (made x.0, x.1))) → numbered read (fields ++ rest) ≡ Some (m, rest)
    → (short_at (fields ++ rest) >>= λ n. of_class class n.0 n.1) ≡ Some (made m, rest)
class_back class m fields rest read made e back = on (short_at (fields ++ rest)) back
  where
    on : (s : Option (ℕ × List ℕ)) → (s >>= λ n. read n.0 n.1) ≡ Some (m, rest) → (s >>= λ n. of_class class n.0 n.1) ≡ Some (made m, rest)
    on None h = cc
    on (Some n) h = e n.0 n.1 ∙ ap (λ (o : Option (_ × List ℕ)). o >>= λ x. Some (made x.0, x.1)) h

pub method_back : (m : Method) (rest : List ℕ) → MethodFits m → method_at (method_bytes m ++ rest) ≡ Some (method_again m, rest)
method_back (method.Connection m) rest fit = class_back 10 m (connection_bytes m) rest connection_at method.Connection (λ k b. refl) (connection_back m rest fit)
method_back (method.Channel m) rest fit = class_back 20 m (channel_bytes m) rest channel_at method.Channel (λ k b. refl) (channel_back m rest fit)
method_back (method.Access m) rest fit = class_back 30 m (access_bytes m) rest access_at method.Access (λ k b. refl) (access_back m rest fit)
method_back (method.Exchange m) rest fit = class_back 40 (exchange_again m) (exchange_bytes m) rest exchange_at method.Exchange (λ k b. refl) (exchange_back m rest fit)
method_back (method.Queue m) rest fit = class_back 50 (queue_again m) (queue_bytes m) rest queue_at method.Queue (λ k b. refl) (queue_back m rest fit)
method_back (method.Basic m) rest fit = class_back 60 (basic_again m) (basic_bytes m) rest basic_at method.Basic (λ k b. refl) (basic_back m rest fit)
method_back (method.Confirm m) rest fit = class_back 85 m (confirm_bytes m) rest confirm_at method.Confirm (λ k b. refl) (confirm_back m rest fit)
method_back (method.Tx m) rest fit = class_back 90 m (tx_bytes m) rest tx_at method.Tx (λ k b. refl) (tx_back m rest fit)

-- ---- frames

-- a payload that is read as a whole
whole_method : (m : Method) → MethodFits m → whole (method_at (method_bytes m)) ≡ Some (method_again m)
whole_method m fit = ap (λ (t : List ℕ). whole (method_at t)) (sym (append-nil (method_bytes m))) ∙ ap whole (method_back m [] fit)

pub around_long : (kind channel : ℕ) (payload : List ℕ) → length (around kind channel payload) ≡ length payload + 8
around_long kind channel payload = omega (arith, length-append payload (206 ∷ []))

framed : (kind channel : ℕ) (payload rest : List ℕ) (r : Read) → channel < 2 ^ 16 → StringFits payload → read_in kind channel payload ≡ Some r → read_at (around kind channel payload ++ rest) ≡ Some r
framed kind channel payload rest r lt long e = then_on (around_at (around kind channel payload ++ rest)) ((kind, channel, payload), rest) (λ a. read_in a.0.0 a.0.1 a.0.2) (Some r) (around_back kind channel payload rest lt long) e

-- a frame, in its octets
pub frame_back : (f : Frame) (rest : List ℕ) → FrameFits f → read_at (bytes_of f ++ rest) ≡ Some (read.Frame (frame_again f) (length (bytes_of f)))
frame_back (frame.Method channel m) rest fit =
    framed 1 channel (method_bytes m) rest _ fit.0 fit.2 (rw (whole_method m fit.1) (ap (λ (n : ℕ). Some (read.Frame (frame.Method channel (method_again m)) n)) (sym (around_long 1 channel (method_bytes m)))))
frame_back (frame.Header channel h) rest fit =
    framed 2 channel (header_bytes h) rest _ fit.0 fit.2
    (ap (λ (o : Option ContentHeader). (o >>= λ k. Some (frame.Header channel k)) >>= λ f. Some (read.Frame f (length (header_bytes h) + 8))) (header_back h fit.1)
    ∙ ap (λ (n : ℕ). Some (read.Frame (frame.Header channel (header_again h)) n)) (sym (around_long 2 channel (header_bytes h))))
frame_back (frame.Body channel payload) rest fit =
    framed 3 channel payload rest _ fit.0 fit.1 (ap (λ (n : ℕ). Some (read.Frame (frame.Body channel payload) n)) (sym (around_long 3 channel payload)))

-- a carried frame is read as itself
pub carried_back : (f : Frame) (rest : List ℕ) → FrameFits f → IsCarried f → read_at (bytes_of f ++ rest) ≡ Some (read.Frame f (length (bytes_of f)))
carried_back f rest fit carried = frame_back f rest fit ∙ ap (λ (g : Frame). Some (read.Frame g (length (bytes_of f)))) (carried_again f carried)

pub heartbeat_back : (rest : List ℕ) → read_at (around 8 0 [] ++ rest) ≡ Some (read.Heartbeat 8)
heartbeat_back rest = framed 8 0 [] rest (read.Heartbeat 8) (omega arith) (omega arith) refl

none_wanted : (a n : ℕ) (payload rest : List ℕ) → a ≡ length payload → n ≡ length ((payload ++ 206 ∷ []) ++ rest) → (a + 1) - n ≡ 0
none_wanted a n payload rest e f = omega (arith, length-append (payload ++ 206 ∷ []) rest, length-append payload (206 ∷ []))

-- nothing is wanted behind it
pub whole_back : (kind channel : ℕ) (payload rest : List ℕ) → StringFits payload → wanted_behind (around kind channel payload ++ rest) ≡ 0
whole_back kind channel payload rest long = none_wanted _ _ payload rest (from_be_bytes-to_be_bytes_4 (length payload) long) refl

pub frame_whole : (f : Frame) (rest : List ℕ) → FrameFits f → wanted_behind (bytes_of f ++ rest) ≡ 0
frame_whole (frame.Method channel m) rest fit = whole_back 1 channel (method_bytes m) rest fit.2
frame_whole (frame.Header channel h) rest fit = whole_back 2 channel (header_bytes h) rest fit.2
frame_whole (frame.Body channel payload) rest fit = whole_back 3 channel payload rest fit.1
