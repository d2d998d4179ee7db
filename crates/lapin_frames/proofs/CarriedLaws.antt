-- What comes from octets is carried, and goes on as it came.
use Rattle.std.proofs.Common.{◌≡◌, ℕ, ◌+◌, Bool, true, false, cond, List, [], ◌∷◌, ◌++◌, length, take, drop, Option, Some, None, refl, sym, ap, subst, ◌∙◌, arith, append_assoc}
use Rattle.std.specs.Prelude.{◌==◌}
use Rattle.std.proofs.Math.Seq.{take-append_seam}
use Rattle.std.proofs.lemmas.Bool.{eqb-true}
use Rattle.std.proofs.lemmas.List.{append-nil, length-append}
use Rattle.std.proofs.lemmas.Option.{none-some}
use Rattle.lapin_values.specs.Data.{Data}
use Rattle.lapin_methods.specs.declared.frame.ContentHeader.{ContentHeader}
use Rattle.lapin_methods.specs.declared.frame.Frame.{Frame}
use Rattle.lapin_methods.specs.declared.frame.Frame.TheVariants as frame
use Rattle.lapin_methods.specs.declared.method.Method.{Method}
use Rattle.lapin_methods.specs.declared.method.Method.TheVariants as method
use Rattle.lapin_methods.specs.declared.exchange.ExchangeMethod.{ExchangeMethod}
use Rattle.lapin_methods.specs.declared.exchange.ExchangeMethod.TheVariants as exchange_method
use Rattle.lapin_methods.specs.declared.queue.QueueMethod.{QueueMethod}
use Rattle.lapin_methods.specs.declared.queue.QueueMethod.TheVariants as queue_method
use Rattle.lapin_methods.specs.declared.basic.BasicMethod.{BasicMethod}
use Rattle.lapin_methods.specs.declared.basic.BasicMethod.TheVariants as basic_method
use Rattle.lapin_fields.specs.Around.{around, around_at}
use Rattle.lapin_fields.specs.Fields.{octet, short, long, wide, text, counted, flags}
use Rattle.lapin_fields.specs.Opaque.{opaque, arguments_bytes}
use Rattle.lapin_fields.specs.Reading.{◌>>=◌, short_at, wide_at}
use Rattle.lapin_fields.proofs.CameLaws.{AreOctets, octets_front, octets_behind, short_came, wide_came, around_came}
use Rattle.lapin_fields.proofs.OpaqueLaws.{octets_again}
use Rattle.lapin_fields.proofs.ReadingLaws.{bind_some}
use Rattle.lapin_frames.specs.Carried.{carrying, arguments_of, exchange_arguments, queue_arguments, basic_arguments, ArgumentsCarried, MethodCarried, IsCarried}
use Rattle.lapin_frames.specs.FrameReading.{frame_in, heartbeat_in, read_in, read_at, whole}
use Rattle.lapin_frames.specs.Frames.{bytes_of}
use Rattle.lapin_frames.specs.HeaderReading.{header_in}
use Rattle.lapin_frames.specs.Headers.{header_bytes}
use Rattle.lapin_frames.specs.MethodReading.{method_at}
use Rattle.lapin_frames.specs.Methods.{exchange_bytes, queue_bytes, basic_bytes, method_bytes}
use Rattle.lapin_frames.specs.declared.frames.Read.{Read}
use Rattle.lapin_frames.specs.declared.frames.Read.TheVariants as read
use Rattle.lapin_frames.proofs.AgainLaws.{list_untouched}
use Rattle.lapin_frames.proofs.FrameLaws.{around_long}
use Rattle.lapin_frames.proofs.HeaderLaws.{header_joined}
use Rattle.lapin_frames.proofs.TableLaws.{TableCame, AtEnd, method_came}

-- ---- what a frame is that was read

-- its type, its channel, and what its payload is
FrameFrom : ℕ → ℕ → List ℕ → Frame → Type 0
FrameFrom kind channel payload (frame.Method c m) = (kind ≡ 1) × (channel ≡ c) × (whole (method_at payload) ≡ Some m)
FrameFrom kind channel payload (frame.Header c h) = (kind ≡ 2) × (channel ≡ c) × (header_in payload ≡ Some h)
FrameFrom kind channel payload (frame.Body c p) = (kind ≡ 3) × (channel ≡ c) × (payload ≡ p)

module _ (kind channel : ℕ) (payload : List ℕ) (f : Frame) where
  of_body : (b : Bool) → (kind == 3) ≡ b → cond b (Some (frame.Body channel payload)) None ≡ Some f → FrameFrom kind channel payload f
  unfolding FrameFrom
  of_body true is e = let same : frame.Body channel payload ≡ f = cc in subst (FrameFrom kind channel payload) same (eqb-true kind 3 is, refl, refl)
  of_body false is e = absurd (none-some f e)

  of_header : (b : Bool) → (kind == 2) ≡ b → cond b (header_in payload >>= λ h. Some (frame.Header channel h)) (cond (kind == 3) (Some (frame.Body channel payload)) None) ≡ Some f → FrameFrom kind channel payload f
  unfolding FrameFrom
  of_header true is e =
      let h = bind_some (header_in payload) (λ h. Some (frame.Header channel h)) f e in
      let same : frame.Header channel h.0 ≡ f = let g = h.2 in cc in
      subst (FrameFrom kind channel payload) same (eqb-true kind 2 is, refl, h.1)
  of_header false is e = of_body (kind == 3) refl e

  of_method : (b : Bool) → (kind == 1) ≡ b → cond b (whole (method_at payload) >>= λ m. Some (frame.Method channel m)) (cond (kind == 2) (header_in payload >>= λ h. Some (frame.Header channel h)) (cond (kind == 3) (Some (frame.Body channel payload)) None)) ≡ Some f
      → FrameFrom kind channel payload f
  unfolding FrameFrom
  of_method true is e =
      let m = bind_some (whole (method_at payload)) (λ m. Some (frame.Method channel m)) f e in
      let same : frame.Method channel m.0 ≡ f = let g = m.2 in cc in
      subst (FrameFrom kind channel payload) same (eqb-true kind 1 is, refl, m.1)
  of_method false is e = of_header (kind == 2) refl e

  frame_from : frame_in kind channel payload ≡ Some f → FrameFrom kind channel payload f
  frame_from e = of_method (kind == 1) refl e

  no_beat : (n : ℕ) → heartbeat_in channel payload ≡ Some (read.Frame f n) → ⊥
  no_beat n e = on payload e
    where
      by : (b : Bool) → cond b (Some (read.Heartbeat 8)) None ≡ Some (read.Frame f n) → ⊥
      by true g = absurd cc
      by false g = absurd cc

      on : (p : List ℕ) → heartbeat_in channel p ≡ Some (read.Frame f n) → ⊥
      on [] g = by (channel == 0) g
      on (b ∷ bs) g = absurd cc

  read_from : (n : ℕ) → read_in kind channel payload ≡ Some (read.Frame f n) → FrameFrom kind channel payload f × (n ≡ length payload + 8)
  read_from n e = on (kind == 8) e
    where
      on : (b : Bool) → cond b (heartbeat_in channel payload) (frame_in kind channel payload >>= λ g. Some (read.Frame g (length payload + 8))) ≡ Some (read.Frame f n) → FrameFrom kind channel payload f × (n ≡ length payload + 8)
      on true g = absurd (no_beat n g)
      on false g =
          let h = bind_some (frame_in kind channel payload) (λ g. Some (read.Frame g (length payload + 8))) (read.Frame f n) g in
          let same : ◌≡◌ {A = Option Read} (Some (read.Frame h.0 (length payload + 8))) (Some (read.Frame f n)) = h.2 in
          let one : h.0 ≡ f = cc in
          let size : n ≡ length payload + 8 = cc in
          (frame_from (h.1 ∙ ap (λ (x : Frame). Some x) one), size)

-- the octets of a frame that was read
record FrameCame (bytes : List ℕ) (f : Frame) (n : ℕ) : Type 0 where
  kind : ℕ
  channel : ℕ
  payload : List ℕ
  rest : List ℕ
  found : around_at bytes ≡ Some ((kind, channel, payload), rest)
  from : FrameFrom kind channel payload f
  size : n ≡ length payload + 8

frame_came : (bytes : List ℕ) (f : Frame) (n : ℕ) → read_at bytes ≡ Some (read.Frame f n) → FrameCame bytes f n
frame_came bytes f n e =
    let a = bind_some (around_at bytes) (λ a. read_in a.0.0 a.0.1 a.0.2) (read.Frame f n) e in
    let r = read_from a.0.0.0 a.0.0.1 a.0.0.2 f n a.2 in
    record { kind = a.0.0.0; channel = a.0.0.1; payload = a.0.0.2; rest = a.0.1; found = a.1; from = r.0; size = r.1 }

taken : (bytes : List ℕ) (f : Frame) (n : ℕ) → AreOctets bytes → (x : FrameCame bytes f n) → take n bytes ≡ around x.kind x.channel x.payload
taken bytes f n all x =
    let got : List ℕ = around x.kind x.channel x.payload in
    let came : bytes ≡ got ++ x.rest = around_came bytes ((x.kind, x.channel, x.payload), x.rest) all x.found in
    let size : n ≡ length got = x.size ∙ sym (around_long x.kind x.channel x.payload) in
    ap (take n) came ∙ ap (λ (k : ℕ). take k (got ++ x.rest)) size ∙ take-append_seam got x.rest

payload_octets : (bytes : List ℕ) (f : Frame) (n : ℕ) → AreOctets bytes → (x : FrameCame bytes f n) → AreOctets x.payload
payload_octets bytes f n all x =
    let came = around_came bytes ((x.kind, x.channel, x.payload), x.rest) all x.found in
    let behind : List ℕ = x.payload ++ (206 ∷ x.rest) in
    let head : List ℕ = octet x.kind ++ short x.channel ++ long (length x.payload) in
    let same : around x.kind x.channel x.payload ++ x.rest ≡ head ++ behind = ap (λ (t : List ℕ). head ++ t) (append_assoc x.payload (206 ∷ []) x.rest) in
    octets_front x.payload (206 ∷ x.rest) (octets_behind head behind (subst AreOctets (came ∙ same) all))

-- ---- it is carried

at_end_carried : (a : Option (List (List ℕ × Data))) (size k : ℕ) (bytes rest : List ℕ) → AtEnd a size k bytes rest → ArgumentsCarried a
at_end_carried None size k bytes rest h = tt
at_end_carried (Some t) size k bytes rest h = (h.octets, h.is)

pub method_is_carried : (octets : List ℕ) (m : Method) → whole (method_at octets) ≡ Some m → MethodCarried m
method_is_carried octets m e = at_end_carried (arguments_of m) (length (method_bytes m)) 0 octets [] (method_came octets m e)

-- the fields of a content header that was read
record HeaderCame (payload : List ℕ) (h : ContentHeader) : Type 0 where
  class : ℕ
  behind : List ℕ
  reserved : ℕ
  further : List ℕ
  body : ℕ
  list : List ℕ
  first : short_at payload ≡ Some (class, behind)
  second : short_at behind ≡ Some (reserved, further)
  third : wide_at further ≡ Some (body, list)
  is : h ≡ record { class_id = class; body_size = body; properties = carrying list }

header_came : (payload : List ℕ) (h : ContentHeader) → header_in payload ≡ Some h → HeaderCame payload h
header_came payload h e =
    let a = bind_some {B = ContentHeader} (short_at payload) (λ class. short_at class.1 >>= λ r1. wide_at r1.1 >>= λ size. Some (record { class_id = class.0; body_size = size.0; properties = carrying size.1 })) h e in
    let b = bind_some {B = ContentHeader} (short_at a.0.1) (λ r1. wide_at r1.1 >>= λ size. Some (record { class_id = a.0.0; body_size = size.0; properties = carrying size.1 })) h a.2 in
    let c = bind_some {B = ContentHeader} (wide_at b.0.1) (λ size. Some (record { class_id = a.0.0; body_size = size.0; properties = carrying size.1 })) h b.2 in
    record { class = a.0.0; behind = a.0.1; reserved = b.0.0; further = b.0.1; body = c.0.0; list = c.0.1; first = a.1; second = b.1; third = c.1; is = sym (some_same (record { class_id = a.0.0; body_size = c.0.0; properties = carrying c.0.1 }) h c.2) }
  where
    some_same : (x y : ContentHeader) → ◌≡◌ {A = Option ContentHeader} (Some x) (Some y) → x ≡ y
    some_same x y g = cc

pub read_is_carried : (bytes : List ℕ) (f : Frame) (n : ℕ) → read_at bytes ≡ Some (read.Frame f n) → IsCarried f
unfolding FrameFrom
read_is_carried bytes (frame.Method c m) n e = let x = frame_came bytes (frame.Method c m) n e in method_is_carried x.payload m x.from.2
read_is_carried bytes (frame.Header c h) n e = let x = frame_came bytes (frame.Header c h) n e in let y = header_came x.payload h x.from.2 in (y.list, ap (λ (k : ContentHeader). k.properties) y.is)
read_is_carried bytes (frame.Body c p) n e = tt

-- ---- it goes on as it came

pub body_untouched : (bytes : List ℕ) (c : ℕ) (payload : List ℕ) (n : ℕ) → AreOctets bytes → read_at bytes ≡ Some (read.Frame (frame.Body c payload) n) → bytes_of (frame.Body c payload) ≡ take n bytes
unfolding FrameFrom
body_untouched bytes c payload n all e =
    let x = frame_came bytes (frame.Body c payload) n e in
    let is = x.from in
    let same : around x.kind x.channel x.payload ≡ around 3 c payload = λ i. around (is.0 i) (is.1 i) (is.2 i) in
    sym (taken bytes (frame.Body c payload) n all x ∙ same)

-- a content header whose fields are known, and its frame as it came
header_goes : (c class reserved body : ℕ) (list rest payload bytes got : List ℕ) → payload ≡ short class ++ (short reserved ++ (wide body ++ list)) → got ≡ around 2 c payload → bytes ≡ got ++ rest
    → around 2 c (header_bytes (record { class_id = class; body_size = body; properties = carrying list })) ≡ take 9 bytes ++ 0 ∷ 0 ∷ drop 11 got
header_goes c class reserved body list rest payload bytes got is framed came =
    let h : ContentHeader = record { class_id = class; body_size = body; properties = carrying list } in
    let fields : List ℕ = short class ++ (short reserved ++ (wide body ++ list)) in
    let goes : header_bytes h ≡ short class ++ (short 0 ++ (wide body ++ list)) = header_joined h ∙ ap (λ (l : List ℕ). short class ++ (short 0 ++ (wide body ++ l))) (list_untouched list) in
    let whole : got ≡ around 2 c fields = framed ∙ ap (around 2 c) is in
    let all : bytes ≡ around 2 c fields ++ rest = came ∙ ap (λ (f : List ℕ). f ++ rest) whole in
    let as_came : take 9 bytes ++ 0 ∷ 0 ∷ drop 11 got ≡ take 9 (around 2 c fields ++ rest) ++ 0 ∷ 0 ∷ drop 11 (around 2 c fields) = λ i. take 9 (all i) ++ 0 ∷ 0 ∷ drop 11 (whole i) in
    ap (around 2 c) goes ∙ sym as_came

pub header_untouched : (bytes : List ℕ) (c : ℕ) (h : ContentHeader) (n : ℕ) → AreOctets bytes → read_at bytes ≡ Some (read.Frame (frame.Header c h) n) → bytes_of (frame.Header c h) ≡ take 9 bytes ++ 0 ∷ 0 ∷ drop 11 (take n bytes)
unfolding FrameFrom
header_untouched bytes c h n all e =
    let x = frame_came bytes (frame.Header c h) n e in
    let is = x.from in
    let y = header_came x.payload h is.2 in
    let octets = payload_octets bytes (frame.Header c h) n all x in
    let first : x.payload ≡ short y.class ++ y.behind = short_came x.payload y.behind y.class octets y.first in
    let more : AreOctets y.behind = octets_behind (short y.class) y.behind (subst AreOctets first octets) in
    let second : y.behind ≡ short y.reserved ++ y.further = short_came y.behind y.further y.reserved more y.second in
    let most : AreOctets y.further = octets_behind (short y.reserved) y.further (subst AreOctets second more) in
    let third : y.further ≡ wide y.body ++ y.list = wide_came y.further y.list y.body most y.third in
    let payload : x.payload ≡ short y.class ++ (short y.reserved ++ (wide y.body ++ y.list)) = first ∙ ap (λ (t : List ℕ). short y.class ++ t) (second ∙ ap (λ (t : List ℕ). short y.reserved ++ t) third) in
    let came : take n bytes ≡ around 2 c x.payload = taken bytes (frame.Header c h) n all x ∙ (λ i. around (is.0 i) (is.1 i) x.payload) in
    let whole : bytes ≡ take n bytes ++ x.rest = around_came bytes ((x.kind, x.channel, x.payload), x.rest) all x.found ∙ ap (λ (t : List ℕ). t ++ x.rest) (sym (taken bytes (frame.Header c h) n all x)) in
    ap (λ (k : ContentHeader). around 2 c (header_bytes k)) y.is ∙ header_goes c y.class y.reserved y.body y.list x.rest x.payload bytes (take n bytes) payload came whole

-- what is written of a method that has a table ends with it
abbrev EndsWith : List (List ℕ × Data) → List ℕ → Type 0
EndsWith t written = (goes : List ℕ) × (written ≡ goes ++ arguments_bytes t)

ends_with : (goes : List ℕ) (s t : List (List ℕ × Data)) → ◌≡◌ {A = Option (List (List ℕ × Data))} (Some s) (Some t) → EndsWith t (goes ++ arguments_bytes s)
ends_with goes s t e = let same : s ≡ t = cc in (goes, ap (λ (u : List (List ℕ × Data)). goes ++ arguments_bytes u) same)

exchange_ends : (m : ExchangeMethod) (t : List (List ℕ × Data)) → exchange_arguments m ≡ Some t → EndsWith t (exchange_bytes m)
exchange_ends (exchange_method.Declare exchange kind passive durable auto_delete internal nowait arguments) t e = ends_with (short 10 ++ short 0 ++ text exchange ++ text kind ++ flags (passive ∷ durable ∷ auto_delete ∷ internal ∷ nowait ∷ [])) arguments t e
exchange_ends (exchange_method.Bind destination source routing_key nowait arguments) t e = ends_with (short 30 ++ short 0 ++ text destination ++ text source ++ text routing_key ++ flags (nowait ∷ [])) arguments t e
exchange_ends (exchange_method.Unbind destination source routing_key nowait arguments) t e = ends_with (short 40 ++ short 0 ++ text destination ++ text source ++ text routing_key ++ flags (nowait ∷ [])) arguments t e
exchange_ends _ t e = absurd (none-some t e)

queue_ends : (m : QueueMethod) (t : List (List ℕ × Data)) → queue_arguments m ≡ Some t → EndsWith t (queue_bytes m)
queue_ends (queue_method.Declare queue passive durable exclusive auto_delete nowait arguments) t e = ends_with (short 10 ++ short 0 ++ text queue ++ flags (passive ∷ durable ∷ exclusive ∷ auto_delete ∷ nowait ∷ [])) arguments t e
queue_ends (queue_method.Bind queue exchange routing_key nowait arguments) t e = ends_with (short 20 ++ short 0 ++ text queue ++ text exchange ++ text routing_key ++ flags (nowait ∷ [])) arguments t e
queue_ends (queue_method.Unbind queue exchange routing_key arguments) t e = ends_with (short 50 ++ short 0 ++ text queue ++ text exchange ++ text routing_key) arguments t e
queue_ends _ t e = absurd (none-some t e)

basic_ends : (m : BasicMethod) (t : List (List ℕ × Data)) → basic_arguments m ≡ Some t → EndsWith t (basic_bytes m)
basic_ends (basic_method.Consume queue consumer_tag no_local no_ack exclusive nowait arguments) t e = ends_with (short 20 ++ short 0 ++ text queue ++ text consumer_tag ++ flags (no_local ∷ no_ack ∷ exclusive ∷ nowait ∷ [])) arguments t e
basic_ends _ t e = absurd (none-some t e)

behind_class : (class : ℕ) (t : List (List ℕ × Data)) (written : List ℕ) → EndsWith t written → EndsWith t (short class ++ written)
behind_class class t written h = (short class ++ h.0, ap (λ (w : List ℕ). short class ++ w) h.1)

method_ends : (m : Method) (t : List (List ℕ × Data)) → arguments_of m ≡ Some t → EndsWith t (method_bytes m)
method_ends (method.Exchange m) t e = behind_class 40 t (exchange_bytes m) (exchange_ends m t e)
method_ends (method.Queue m) t e = behind_class 50 t (queue_bytes m) (queue_ends m t e)
method_ends (method.Basic m) t e = behind_class 60 t (basic_bytes m) (basic_ends m t e)
method_ends _ t e = absurd (none-some t e)

-- a frame whose payload ends with a table, as it came and as it goes
frame_ends : (c : ℕ) (payload written front goes octets : List ℕ) → payload ≡ front ++ counted octets → written ≡ goes ++ counted octets → length front + (length octets + 4) ≡ length written
    → (came : List ℕ) × (gone : List ℕ) × (around 1 c payload ≡ came ++ counted octets ++ 206 ∷ []) × (around 1 c written ≡ gone ++ counted octets ++ 206 ∷ []) × (length came ≡ length gone)
frame_ends c payload written front goes octets e f long_enough =
    let head : List ℕ → List ℕ = λ p. octet 1 ++ short c ++ long (length p) in
    let all : length written ≡ length goes + length (counted octets) = ap length f ∙ length-append goes (counted octets) in
    (head payload ++ front, head written ++ goes, ap (λ (p : List ℕ). (head payload ++ p) ++ 206 ∷ []) e, ap (λ (p : List ℕ). (head written ++ p) ++ 206 ∷ []) f, omega arith)

pub arguments_untouched : (bytes : List ℕ) (c : ℕ) (m : Method) (n : ℕ) (t : List (List ℕ × Data)) → AreOctets bytes → read_at bytes ≡ Some (read.Frame (frame.Method c m) n) → arguments_of m ≡ Some t
    → (octets : List ℕ) × (came : List ℕ) × (goes : List ℕ) × (t ≡ opaque octets) × (take n bytes ≡ came ++ counted octets ++ 206 ∷ []) × (bytes_of (frame.Method c m) ≡ goes ++ counted octets ++ 206 ∷ []) × (length came ≡ length goes)
unfolding FrameFrom
arguments_untouched bytes c m n t all e has =
    let x = frame_came bytes (frame.Method c m) n e in
    let is = x.from in
    let k : TableCame t (length (method_bytes m)) 0 x.payload [] = subst (λ (a : Option (List (List ℕ × Data))). AtEnd a (length (method_bytes m)) 0 x.payload []) has (method_came x.payload m is.2) in
    let table : arguments_bytes t ≡ counted k.octets = ap arguments_bytes k.is ∙ ap counted (octets_again k.octets) in
    let payload : x.payload ≡ k.front ++ counted k.octets = k.came (payload_octets bytes (frame.Method c m) n all x) ∙ ap (λ (s : List ℕ). k.front ++ s) (append-nil (counted k.octets)) in
    let goes = method_ends m t has in
    let long_enough : 0 + length k.front + (length k.octets + 4) ≡ length (method_bytes m) = k.long in
    let y = frame_ends c x.payload (method_bytes m) k.front goes.0 k.octets payload (goes.1 ∙ ap (λ (s : List ℕ). goes.0 ++ s) table) (omega arith) in
    let came : take n bytes ≡ around 1 c x.payload = taken bytes (frame.Method c m) n all x ∙ (λ i. around (is.0 i) (is.1 i) x.payload) in
    (k.octets, y.0, y.1, k.is, came ∙ y.2, y.3, y.4)
