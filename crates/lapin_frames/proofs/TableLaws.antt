-- A method's table of arguments is the last that is read of it: the octets that came last.
use Rattle.std.proofs.Common.{◌≡◌, ℕ, ◌+◌, Bool, true, false, cond, List, [], ◌∷◌, ◌++◌, length, Option, Some, None, refl, sym, ap, subst, ◌∙◌, arith, append_assoc}
use Rattle.std.specs.Prelude.{◌==◌}
use Rattle.std.proofs.lemmas.List.{length-append}
use Rattle.std.specs.Str.{is_utf8}
use Rattle.lapin_values.specs.Data.{Data}
use Rattle.lapin_methods.specs.declared.method.Method.{Method}
use Rattle.lapin_methods.specs.declared.method.Method.TheVariants as method
use Rattle.lapin_methods.specs.declared.exchange.ExchangeMethod.TheVariants as exchange_method
use Rattle.lapin_methods.specs.declared.queue.QueueMethod.TheVariants as queue_method
use Rattle.lapin_methods.specs.declared.basic.BasicMethod.TheVariants as basic_method
use Rattle.lapin_fields.specs.Fields.{short, text, counted, flags}
use Rattle.lapin_fields.specs.Opaque.{opaque, opaque_at, table_octets, arguments_bytes}
use Rattle.lapin_fields.specs.Reading.{◌>>=◌, octet_at, short_at, long_at, wide_at, piece_at, counted_at, string_at, text_at, reply_at, as_text, bit_at}
use Rattle.lapin_fields.proofs.CameLaws.{AreOctets, octets_behind, piece_came, counted_came}
use Rattle.lapin_fields.proofs.OpaqueLaws.{octets_again}
use Rattle.lapin_frames.specs.Carried.{exchange_arguments, queue_arguments, basic_arguments, arguments_of}
use Rattle.lapin_frames.specs.FrameReading.{whole}
use Rattle.lapin_frames.specs.MethodReading.{connection_at, channel_at, access_at, confirm_at, tx_at, exchange_at, queue_at, basic_at, of_class, method_at}
use Rattle.lapin_frames.specs.Methods.{exchange_bytes, queue_bytes, basic_bytes, method_bytes}
use Rattle.lapin_frames.proofs.Joined.{long_5, long_6, long_7}

-- ---- how much a reading takes

abbrev TakesBy : {A : Type 0} → (A → ℕ) → List ℕ → Option (A × List ℕ) → Type 0
TakesBy size bytes None = Unit {0}
TakesBy size bytes (Some x) = (piece : List ℕ) × (bytes ≡ piece ++ x.1) × (length piece ≡ size x.0)

record Takes {A : Type 0} (size : A → ℕ) (bytes : List ℕ) (o : Option (A × List ℕ)) : Type 0 where
  is : TakesBy size bytes o

octet_takes : (bytes : List ℕ) → Takes {A = ℕ} (λ _. 1) bytes (octet_at bytes)
octet_takes [] = record { is = tt }
octet_takes (a ∷ bytes) = record { is = (a ∷ [], refl, omega arith) }

short_takes : (bytes : List ℕ) → Takes {A = ℕ} (λ _. 2) bytes (short_at bytes)
short_takes [] = record { is = tt }
short_takes (a ∷ []) = record { is = tt }
short_takes (a ∷ b ∷ bytes) = record { is = (a ∷ b ∷ [], refl, omega arith) }

text_takes : (bytes : List ℕ) → Takes {A = List ℕ} (λ t. length t + 1) bytes (text_at bytes)
text_takes [] = record { is = tt }
text_takes (n ∷ bytes) = on (piece_at n bytes) refl
  where
    is_text : (p : List ℕ × List ℕ) → (bytes ≡ p.0 ++ p.1) → (b : Bool) → Takes {A = List ℕ} (λ t. length t + 1) (n ∷ bytes) (cond {A = Option (List ℕ × List ℕ)} b (Some (p.0, p.1)) None)
    is_text p e true = record { is = (n ∷ p.0, ap (λ (r : List ℕ). n ∷ r) e, omega arith) }
    is_text p e false = record { is = tt }

    on : (o : Option (List ℕ × List ℕ)) → piece_at n bytes ≡ o → Takes {A = List ℕ} (λ t. length t + 1) (n ∷ bytes) (o >>= λ t. as_text t.0 t.1)
    on None e = record { is = tt }
    on (Some p) e = is_text p (piece_came n bytes p.0 p.1 e).0 (is_utf8 p.0)

-- ---- what is read behind k octets of a method: its table, if it has one, came last

pub record TableCame (t : List (List ℕ × Data)) (size k : ℕ) (bytes rest : List ℕ) : Type 0 where
  pub octets : List ℕ
  pub front : List ℕ
  pub is : t ≡ opaque octets
  pub long : k + length front + (length octets + 4) ≡ size
  pub came : AreOctets bytes → bytes ≡ front ++ (counted octets ++ rest)

abbrev pub AtEnd : Option (List (List ℕ × Data)) → ℕ → ℕ → List ℕ → List ℕ → Type 0
AtEnd None size k bytes rest = Unit {0}
AtEnd (Some t) size k bytes rest = TableCame t size k bytes rest

behind_piece : (a : Option (List (List ℕ × Data))) (size k j : ℕ) (bytes piece mid rest : List ℕ) → bytes ≡ piece ++ mid → length piece ≡ j → AtEnd a size (k + j) mid rest → AtEnd a size k bytes rest
behind_piece None size k j bytes piece mid rest e long h = tt
behind_piece (Some t) size k j bytes piece mid rest e long h =
    let l : (k + j) + length h.front + (length h.octets + 4) ≡ size = h.long in
    record {
      octets = h.octets;
      front = piece ++ h.front;
      is = h.is;
      long = omega (arith, length-append piece h.front);
      came = λ all. e ∙ ap (λ (m : List ℕ). piece ++ m) (h.came (octets_behind piece mid (subst AreOctets e all))) ∙ sym (append_assoc piece h.front (counted h.octets ++ rest));
    }

abbrev TabledBy : {M : Type 0} → (M → Option (List (List ℕ × Data))) → (M → List ℕ) → ℕ → List ℕ → Option (M × List ℕ) → Type 0
TabledBy arguments written k bytes None = Unit {0}
TabledBy arguments written k bytes (Some x) = AtEnd (arguments x.0) (length (written x.0)) k bytes x.1

record Tabled {M : Type 0} (arguments : M → Option (List (List ℕ × Data))) (written : M → List ℕ) (k : ℕ) (bytes : List ℕ) (o : Option (M × List ℕ)) : Type 0 where
  is : TabledBy arguments written k bytes o

abbrev NoTableBy : {M : Type 0} → (M → Option (List (List ℕ × Data))) → Option (M × List ℕ) → Type 0
NoTableBy arguments None = Unit {0}
NoTableBy arguments (Some x) = arguments x.0 ≡ None

record NoTable {M : Type 0} (arguments : M → Option (List (List ℕ × Data))) (o : Option (M × List ℕ)) : Type 0 where
  is : NoTableBy arguments o

module _ {M : Type 0} {arguments : M → Option (List (List ℕ × Data))} where
  made : {x : M × List ℕ} → arguments x.0 ≡ None → NoTable arguments (Some x)
  made h = record { is = h }

  past : {A : Type 0} (o : Option A) {f : A → Option (M × List ℕ)} → ((x : A) → NoTable arguments (f x)) → NoTable arguments (o >>= f)
  past None h = record { is = tt }
  past (Some x) h = h x

module _ {M : Type 0} {arguments : M → Option (List (List ℕ × Data))} {written : M → List ℕ} where
  infix 5 when◌have◌else◌
  when◌have◌else◌ : {k : ℕ} {bytes : List ℕ} {x y : Option (M × List ℕ)} (b : Bool) → Tabled arguments written k bytes x → Tabled arguments written k bytes y → Tabled arguments written k bytes (cond b x y)
  when true have h else g = h
  when false have h else g = g

  nothing : {k : ℕ} {bytes : List ℕ} → Tabled arguments written k bytes None
  nothing = record { is = tt }

  none_in : {k : ℕ} {bytes : List ℕ} {o : Option (M × List ℕ)} → NoTable arguments o → Tabled arguments written k bytes o
  none_in {o = None} h = record { is = tt }
  none_in {k = k} {bytes = bytes} {o = Some x} h = record { is = subst (λ (a : Option (List (List ℕ × Data))). AtEnd a (length (written x.0)) k bytes x.1) (sym h.is) tt }

  step : {A : Type 0} {k : ℕ} {size : A → ℕ} {bytes : List ℕ} (o : Option (A × List ℕ)) {f : A × List ℕ → Option (M × List ℕ)} → Takes size bytes o → ((x : A × List ℕ) → Tabled arguments written (k + size x.0) x.1 (f x)) → Tabled arguments written k bytes (o >>= f)
  step None took h = record { is = tt }
  step {k = k} {size = size} {bytes = bytes} (Some x) {f = f} took h = on (f x) (h x)
    where
      on : (r : Option (M × List ℕ)) → Tabled arguments written (k + size x.0) x.1 r → Tabled arguments written k bytes r
      on None g = record { is = tt }
      on (Some y) g = let t = took.is in record { is = behind_piece (arguments y.0) (length (written y.0)) k (size x.0) bytes t.0 x.1 y.1 t.1 t.2 g.is }

  last : {k : ℕ} (bytes : List ℕ) (form : List (List ℕ × Data) → M) → ((t : List (List ℕ × Data)) → arguments (form t) ≡ Some t) → ((octets : List ℕ) → length (written (form (opaque octets))) ≡ k + (length octets + 4)) → Tabled arguments written k bytes (opaque_at bytes >>= λ t. Some (form t.0, t.1))
  last {k = k} bytes form is long = on (counted_at bytes) refl
    where
      on : (o : Option (List ℕ × List ℕ)) → counted_at bytes ≡ o → Tabled arguments written k bytes (◌>>=◌ {B = List (List ℕ × Data) × List ℕ} o (λ s. Some (opaque s.0, s.1)) >>= λ t. Some (form t.0, t.1))
      on None e = record { is = tt }
      on (Some s) e =
          let l : length (written (form (opaque s.0))) ≡ k + (length s.0 + 4) = long s.0 in
          let table : TableCame (opaque s.0) (length (written (form (opaque s.0)))) k bytes s.1 = record { octets = s.0; front = []; is = refl; long = omega arith; came = λ all. counted_came bytes s.0 s.1 all e } in
          record { is = subst (λ (a : Option (List (List ℕ × Data))). AtEnd a (length (written (form (opaque s.0)))) k bytes s.1) (sym (is (opaque s.0))) table }

-- how long what is written of a table is
table_long : (octets : List ℕ) → length (arguments_bytes (opaque octets)) ≡ length octets + 4
table_long octets = let l : length (table_octets (opaque octets)) ≡ length octets = ap length (octets_again octets) in omega arith

-- ---- methods

exchange_tabled : (n : ℕ) (bytes : List ℕ) → Tabled exchange_arguments exchange_bytes 2 bytes (exchange_at n bytes)
exchange_tabled n bytes =
    when n == 10 have (step (short_at bytes) (short_takes bytes) (λ r1. step (text_at r1.1) (text_takes r1.1) (λ exchange. step (text_at exchange.1) (text_takes exchange.1) (λ kind. step (octet_at kind.1) (octet_takes kind.1) (λ marks. last marks.1 (exchange_method.Declare exchange.0 kind.0 (bit_at 1 marks.0) (bit_at 2 marks.0) (bit_at 4 marks.0) (bit_at 8 marks.0) (bit_at 16 marks.0)) (λ t. refl) (λ octets. omega (arith, long_6 (short 10) (short 0) (text exchange.0) (text kind.0) (flags (bit_at 1 marks.0 ∷ bit_at 2 marks.0 ∷ bit_at 4 marks.0 ∷ bit_at 8 marks.0 ∷ bit_at 16 marks.0 ∷ [])) (arguments_bytes (opaque octets)), table_long octets))))))) else  -- exchange.Declare
    when n == 11 have (none_in (made refl)) else  -- exchange.DeclareOk
    when n == 20 have (none_in (past (short_at bytes) (λ r1. past (text_at r1.1) (λ exchange. past (octet_at exchange.1) (λ marks. made refl))))) else  -- exchange.Delete
    when n == 21 have (none_in (made refl)) else  -- exchange.DeleteOk
    when n == 30 have (step (short_at bytes) (short_takes bytes) (λ r1. step (text_at r1.1) (text_takes r1.1) (λ destination. step (text_at destination.1) (text_takes destination.1) (λ source. step (text_at source.1) (text_takes source.1) (λ routing_key. step (octet_at routing_key.1) (octet_takes routing_key.1) (λ marks. last marks.1 (exchange_method.Bind destination.0 source.0 routing_key.0 (bit_at 1 marks.0)) (λ t. refl) (λ octets. omega (arith, long_7 (short 30) (short 0) (text destination.0) (text source.0) (text routing_key.0) (flags (bit_at 1 marks.0 ∷ [])) (arguments_bytes (opaque octets)), table_long octets)))))))) else  -- exchange.Bind
    when n == 31 have (none_in (made refl)) else  -- exchange.BindOk
    when n == 40 have (step (short_at bytes) (short_takes bytes) (λ r1. step (text_at r1.1) (text_takes r1.1) (λ destination. step (text_at destination.1) (text_takes destination.1) (λ source. step (text_at source.1) (text_takes source.1) (λ routing_key. step (octet_at routing_key.1) (octet_takes routing_key.1) (λ marks. last marks.1 (exchange_method.Unbind destination.0 source.0 routing_key.0 (bit_at 1 marks.0)) (λ t. refl) (λ octets. omega (arith, long_7 (short 40) (short 0) (text destination.0) (text source.0) (text routing_key.0) (flags (bit_at 1 marks.0 ∷ [])) (arguments_bytes (opaque octets)), table_long octets)))))))) else  -- exchange.Unbind
    when n == 51 have (none_in (made refl)) else  -- exchange.UnbindOk
    nothing

queue_tabled : (n : ℕ) (bytes : List ℕ) → Tabled queue_arguments queue_bytes 2 bytes (queue_at n bytes)
queue_tabled n bytes =
    when n == 10 have (step (short_at bytes) (short_takes bytes) (λ r1. step (text_at r1.1) (text_takes r1.1) (λ queue. step (octet_at queue.1) (octet_takes queue.1) (λ marks. last marks.1 (queue_method.Declare queue.0 (bit_at 1 marks.0) (bit_at 2 marks.0) (bit_at 4 marks.0) (bit_at 8 marks.0) (bit_at 16 marks.0)) (λ t. refl) (λ octets. omega (arith, long_5 (short 10) (short 0) (text queue.0) (flags (bit_at 1 marks.0 ∷ bit_at 2 marks.0 ∷ bit_at 4 marks.0 ∷ bit_at 8 marks.0 ∷ bit_at 16 marks.0 ∷ [])) (arguments_bytes (opaque octets)), table_long octets)))))) else  -- queue.Declare
    when n == 11 have (none_in (past (text_at bytes) (λ queue. past (long_at queue.1) (λ message_count. past (long_at message_count.1) (λ consumer_count. made refl))))) else  -- queue.DeclareOk
    when n == 20 have (step (short_at bytes) (short_takes bytes) (λ r1. step (text_at r1.1) (text_takes r1.1) (λ queue. step (text_at queue.1) (text_takes queue.1) (λ exchange. step (text_at exchange.1) (text_takes exchange.1) (λ routing_key. step (octet_at routing_key.1) (octet_takes routing_key.1) (λ marks. last marks.1 (queue_method.Bind queue.0 exchange.0 routing_key.0 (bit_at 1 marks.0)) (λ t. refl) (λ octets. omega (arith, long_7 (short 20) (short 0) (text queue.0) (text exchange.0) (text routing_key.0) (flags (bit_at 1 marks.0 ∷ [])) (arguments_bytes (opaque octets)), table_long octets)))))))) else  -- queue.Bind
    when n == 21 have (none_in (made refl)) else  -- queue.BindOk
    when n == 30 have (none_in (past (short_at bytes) (λ r1. past (text_at r1.1) (λ queue. past (octet_at queue.1) (λ marks. made refl))))) else  -- queue.Purge
    when n == 31 have (none_in (past (long_at bytes) (λ message_count. made refl))) else  -- queue.PurgeOk
    when n == 40 have (none_in (past (short_at bytes) (λ r1. past (text_at r1.1) (λ queue. past (octet_at queue.1) (λ marks. made refl))))) else  -- queue.Delete
    when n == 41 have (none_in (past (long_at bytes) (λ message_count. made refl))) else  -- queue.DeleteOk
    when n == 50 have (step (short_at bytes) (short_takes bytes) (λ r1. step (text_at r1.1) (text_takes r1.1) (λ queue. step (text_at queue.1) (text_takes queue.1) (λ exchange. step (text_at exchange.1) (text_takes exchange.1) (λ routing_key. last routing_key.1 (queue_method.Unbind queue.0 exchange.0 routing_key.0) (λ t. refl) (λ octets. omega (arith, long_6 (short 50) (short 0) (text queue.0) (text exchange.0) (text routing_key.0) (arguments_bytes (opaque octets)), table_long octets))))))) else  -- queue.Unbind
    when n == 51 have (none_in (made refl)) else  -- queue.UnbindOk
    nothing

basic_tabled : (n : ℕ) (bytes : List ℕ) → Tabled basic_arguments basic_bytes 2 bytes (basic_at n bytes)
basic_tabled n bytes =
    when n == 10 have (none_in (past (long_at bytes) (λ r1. past (short_at r1.1) (λ prefetch_count. past (octet_at prefetch_count.1) (λ marks. made refl))))) else  -- basic.Qos
    when n == 11 have (none_in (made refl)) else  -- basic.QosOk
    when n == 20 have (step (short_at bytes) (short_takes bytes) (λ r1. step (text_at r1.1) (text_takes r1.1) (λ queue. step (text_at queue.1) (text_takes queue.1) (λ consumer_tag. step (octet_at consumer_tag.1) (octet_takes consumer_tag.1) (λ marks. last marks.1 (basic_method.Consume queue.0 consumer_tag.0 (bit_at 1 marks.0) (bit_at 2 marks.0) (bit_at 4 marks.0) (bit_at 8 marks.0)) (λ t. refl) (λ octets. omega (arith, long_6 (short 20) (short 0) (text queue.0) (text consumer_tag.0) (flags (bit_at 1 marks.0 ∷ bit_at 2 marks.0 ∷ bit_at 4 marks.0 ∷ bit_at 8 marks.0 ∷ [])) (arguments_bytes (opaque octets)), table_long octets))))))) else  -- basic.Consume
    when n == 21 have (none_in (past (text_at bytes) (λ consumer_tag. made refl))) else  -- basic.ConsumeOk
    when n == 30 have (none_in (past (text_at bytes) (λ consumer_tag. past (octet_at consumer_tag.1) (λ marks. made refl)))) else  -- basic.Cancel
    when n == 31 have (none_in (past (text_at bytes) (λ consumer_tag. made refl))) else  -- basic.CancelOk
    when n == 40 have (none_in (past (short_at bytes) (λ r1. past (text_at r1.1) (λ exchange. past (text_at exchange.1) (λ routing_key. past (octet_at routing_key.1) (λ marks. made refl)))))) else  -- basic.Publish
    when n == 50 have (none_in (past (short_at bytes) (λ reply_code. past (reply_at reply_code.1) (λ reply_text. past (reply_at reply_text.1) (λ exchange. past (reply_at exchange.1) (λ routing_key. made refl)))))) else  -- basic.Return
    when n == 60 have (none_in (past (text_at bytes) (λ consumer_tag. past (wide_at consumer_tag.1) (λ delivery_tag. past (octet_at delivery_tag.1) (λ marks. past (reply_at marks.1) (λ exchange. past (reply_at exchange.1) (λ routing_key. made refl))))))) else  -- basic.Deliver
    when n == 70 have (none_in (past (short_at bytes) (λ r1. past (text_at r1.1) (λ queue. past (octet_at queue.1) (λ marks. made refl))))) else  -- basic.Get
    when n == 71 have (none_in (past (wide_at bytes) (λ delivery_tag. past (octet_at delivery_tag.1) (λ marks. past (reply_at marks.1) (λ exchange. past (reply_at exchange.1) (λ routing_key. past (long_at routing_key.1) (λ message_count. made refl))))))) else  -- basic.GetOk
    when n == 72 have (none_in (past (string_at bytes) (λ r1. made refl))) else  -- basic.GetEmpty
    when n == 80 have (none_in (past (wide_at bytes) (λ delivery_tag. past (octet_at delivery_tag.1) (λ marks. made refl)))) else  -- basic.Ack
    when n == 90 have (none_in (past (wide_at bytes) (λ delivery_tag. past (octet_at delivery_tag.1) (λ marks. made refl)))) else  -- basic.Reject
    when n == 100 have (none_in (past (octet_at bytes) (λ marks. made refl))) else  -- basic.RecoverAsync
    when n == 110 have (none_in (past (octet_at bytes) (λ marks. made refl))) else  -- basic.Recover
    when n == 111 have (none_in (made refl)) else  -- basic.RecoverOk
    when n == 120 have (none_in (past (wide_at bytes) (λ delivery_tag. past (octet_at delivery_tag.1) (λ marks. made refl)))) else  -- basic.Nack
    nothing

-- ---- classes

in_class : {M : Type 0} {arguments : M → Option (List (List ℕ × Data))} {written : M → List ℕ} {bytes : List ℕ} (o : Option (M × List ℕ)) (form : M → Method) → ((m : M) → arguments_of (form m) ≡ arguments m) → ((m : M) → length (method_bytes (form m)) ≡ 2 + length (written m))
    → Tabled arguments written 2 bytes o → Tabled arguments_of method_bytes 4 bytes (o >>= λ m. Some (form m.0, m.1))
in_class None form is long h = record { is = tt }
in_class {arguments = arguments} {written = written} {bytes = bytes} (Some x) form is long h =
    record { is = subst (λ (a : Option (List (List ℕ × Data))). AtEnd a (length (method_bytes (form x.0))) 4 bytes x.1) (sym (is x.0)) (two_more (arguments x.0) h.is) }
  where
    two_more : (a : Option (List (List ℕ × Data))) → AtEnd a (length (written x.0)) 2 bytes x.1 → AtEnd a (length (method_bytes (form x.0))) 4 bytes x.1
    two_more None g = tt
    two_more (Some t) g =
        let l : length (method_bytes (form x.0)) ≡ 2 + length (written x.0) = long x.0 in
        let k : 2 + length g.front + (length g.octets + 4) ≡ length (written x.0) = g.long in
        record { octets = g.octets; front = g.front; is = g.is; long = omega arith; came = g.came }

class_tabled : (class n : ℕ) (bytes : List ℕ) → Tabled arguments_of method_bytes 4 bytes (of_class class n bytes)
class_tabled class n bytes =
    when class == 10 have (none_in (past (connection_at n bytes) (λ m. made refl))) else
    when class == 20 have (none_in (past (channel_at n bytes) (λ m. made refl))) else
    when class == 30 have (none_in (past (access_at n bytes) (λ m. made refl))) else
    when class == 40 have (in_class (exchange_at n bytes) method.Exchange (λ m. refl) (λ m. omega arith) (exchange_tabled n bytes)) else
    when class == 50 have (in_class (queue_at n bytes) method.Queue (λ m. refl) (λ m. omega arith) (queue_tabled n bytes)) else
    when class == 60 have (in_class (basic_at n bytes) method.Basic (λ m. refl) (λ m. omega arith) (basic_tabled n bytes)) else
    when class == 85 have (none_in (past (confirm_at n bytes) (λ m. made refl))) else
    when class == 90 have (none_in (past (tx_at n bytes) (λ m. made refl))) else
    nothing

method_tabled : (octets : List ℕ) → Tabled arguments_of method_bytes 0 octets (method_at octets)
method_tabled octets = step (short_at octets) (short_takes octets) (λ class. step (short_at class.1) (short_takes class.1) (λ n. class_tabled class.0 n.0 n.1))

-- a method that octets are, whole: its table, if it has one, are the last of them
pub method_came : (octets : List ℕ) (m : Method) → whole (method_at octets) ≡ Some m → AtEnd (arguments_of m) (length (method_bytes m)) 0 octets []
method_came octets m e = on (method_at octets) (method_tabled octets) e
  where
    on : (o : Option (Method × List ℕ)) → Tabled arguments_of method_bytes 0 octets o → whole o ≡ Some m → AtEnd (arguments_of m) (length (method_bytes m)) 0 octets []
    on None h f = absurd cc
    on (Some (k, [])) h f = let same : k ≡ m = cc in subst (λ (x : Method). AtEnd (arguments_of x) (length (method_bytes x)) 0 octets []) same h.is
    on (Some (k, b ∷ bs)) h f = absurd cc
