-- What a channel expects of contents is what the frames that came come to, as the broker sends one content after another.
use Rattle.std.proofs.Common.{◌≡◌, ◌∙◌, ℕ, ◌+◌, ◌≤◌, ◌==◌, Bool, true, false, cond, ◌&&◌, ◌||◌, List, [], ◌∷◌, ◌++◌, length, Option, Some, None, refl, sym, ap, subst, append_assoc, arith, length-append}
use Rattle.std.specs.List.{fold, list_any}
use Rattle.std.proofs.lemmas.Bool.{leb-true}
use Rattle.std.proofs.lemmas.Bool.Decides.{nat_tests}
use Rattle.std.proofs.lemmas.List.Folds.{list_any-append}
use Rattle.std.proofs.lemmas.List.Sums.{fold-append}
use Rattle.lapin_types.specs.Types.{Frame, Method}
use Rattle.lapin_types.specs.Types.frame
use Rattle.lapin_types.specs.Types.method
use Rattle.lapin_types.specs.Types.basic
use Rattle.lapin_methods.specs.declared.frame.ContentHeader.{ContentHeader}
use Rattle.lapin_content.specs.declared.start.Start.{Start as Begin}
use Rattle.lapin_content.specs.declared.start.Start.TheVariants as begin
use Rattle.lapin_content.specs.declared.start.Whole.{Whole as Message}
use Rattle.lapin_content.specs.Contents.{Begun, Expected, is_unbegun, has_place_for, front_waits, front_takes, grown, after_header, after_body, whole_with}
use Rattle.lapin_rules.specs.declared.broker_frames.ContentPart.TheVariants as part
use Rattle.lapin_rules.specs.Content.{whole_by}
use Rattle.lapin_verdicts.specs.Messages.{Start, Deliver, Whole, Sending, Nothing, Started, Headed, Sent_, start_in, with_bytes, with_header, with_body, with_start, sent_after, sendings, is_to_start, is_to}
use Rattle.lapin_messages.proofs.Lists.{Longer, same_longer}
use Rattle.lapin_messages.proofs.Tags.{delivers_to}
use Rattle.lapin_tables.proofs.Bools.{only_first}

abbrev pub no_sending : Sent_
no_sending = record { wholes = []; sending = Nothing }

-- what these frames come to
abbrev pub coming : List Frame → Sent_
coming fs = fold sent_after no_sending fs

pub coming-push : (fs : List Frame) (f : Frame) → coming (fs ++ f ∷ []) ≡ sent_after (coming fs) f
coming-push fs f = fold-append sent_after no_sending fs (f ∷ [])

-- ---- the whole contents only grow

abbrev Grows : Sent_ → Sent_ → Type 0
Grows y z = Longer y.wholes z.wholes

bytes_grow : (size : ℕ) (w : Whole) (y : Sent_) → Grows y (with_bytes size w y)
bytes_grow size w y = elim (length w.payload == size) as (λ b. Grows y (cond b (record { wholes = y.wholes ++ w ∷ []; sending = Nothing }) (record { wholes = y.wholes; sending = Headed size w }))) [ true ↦ (w ∷ [], refl) | false ↦ same_longer y.wholes ]

after_grows : (f : Frame) (y : Sent_) → Grows y (sent_after y f)
after_grows (frame.Header c h) y = by y.sending
  where
    by : (s : Sending) → Grows y (with_header h s y)
    by (Started s) = bytes_grow h.body_size (record { start = s; properties = h.properties; payload = [] }) y
    by Nothing = same_longer y.wholes
    by (Headed size w) = same_longer y.wholes
after_grows (frame.Body c bytes) y = by y.sending
  where
    by : (s : Sending) → Grows y (with_body bytes s y)
    by (Headed size w) = bytes_grow size (record w { payload = w.payload ++ bytes }) y
    by Nothing = same_longer y.wholes
    by (Started s) = same_longer y.wholes
after_grows (frame.Method c m) y = by (start_in (frame.Method c m))
  where
    by : (o : Option Start) → Grows y (with_start o y)
    by None = same_longer y.wholes
    by (Some s) = same_longer y.wholes

fold_grows : (fs : List Frame) (y : Sent_) → Grows y (fold sent_after y fs)
fold_grows [] y = same_longer y.wholes
fold_grows (f ∷ fs) y =
    let a = after_grows f y in
    let b = fold_grows fs (sent_after y f) in
    (a.0 ++ b.0, b.1 ∙ (ap (λ v. v ++ b.0) a.1 ∙ append_assoc y.wholes a.0 b.0))

pub sendings_grow : (fs gs : List Frame) → Longer (sendings fs) (sendings (fs ++ gs))
sendings_grow fs gs = subst (λ v. Longer (sendings fs) v.wholes) (sym (fold-append sent_after no_sending fs gs)) (fold_grows gs (coming fs))

-- ---- for whom it is

-- the content that is being sent is to this tag
abbrev pub is_sending_to : List ℕ → Sending → Bool
is_sending_to t Nothing = false
is_sending_to t (Started s) = is_to_start t s
is_sending_to t (Headed size w) = is_to t w

-- whatever went to a tag, or is being sent to it, went to one of these
pub record AreTo (P : List ℕ → Type 0) (y : Sent_) : Type 0 where
  pub wholes : (t : List ℕ) → list_any (is_to t) y.wholes ≡ true → P t
  pub sending : (t : List ℕ) → is_sending_to t y.sending ≡ true → P t

module _ (P : List ℕ → Type 0) where
  bytes_to : (size : ℕ) (w : Whole) (y : Sent_) → AreTo P y → ((t : List ℕ) → is_to t w ≡ true → P t) → AreTo P (with_bytes size w y)
  bytes_to size w y a k = elim (length w.payload == size) as (λ b. AreTo P (cond b (record { wholes = y.wholes ++ w ∷ []; sending = Nothing }) (record { wholes = y.wholes; sending = Headed size w }))) [
    | true ↦ record { wholes = λ t h. by t (list_any (is_to t) y.wholes) refl (sym (list_any-append (is_to t) y.wholes (w ∷ [])) ∙ h); sending = λ t h. absurd cc }
    | false ↦ record { wholes = a.wholes; sending = k }
  ]
    where
      by : (t : List ℕ) (v : Bool) → list_any (is_to t) y.wholes ≡ v → (list_any (is_to t) y.wholes || (is_to t w || false)) ≡ true → P t
      by t true e h = a.wholes t e
      by t false e h = k t (only_first (is_to t w) (rw e at h))

  method_to : (c : ℕ) (m : Method) (y : Sent_) → AreTo P y → ((t : List ℕ) → delivers_to t (frame.Method c m) ≡ true → P t) → AreTo P (with_start (start_in (frame.Method c m)) y)
  method_to c (method.Basic (basic.Deliver tag number redelivered exchange key)) y a k = record { wholes = a.wholes; sending = k }
  method_to c (method.Basic (basic.GetOk number redelivered exchange key count)) y a k = record { wholes = a.wholes; sending = λ t h. absurd cc }
  method_to c (method.Basic (basic.Return code text exchange key)) y a k = record { wholes = a.wholes; sending = λ t h. absurd cc }
  method_to c m y a k = record { wholes = a.wholes; sending = a.sending }

  pub after_to : (f : Frame) (y : Sent_) → AreTo P y → ((t : List ℕ) → delivers_to t f ≡ true → P t) → AreTo P (sent_after y f)
  after_to (frame.Method c m) y a k = method_to c m y a k
  after_to (frame.Header c h) y a k = by y.sending refl
    where
      by : (s : Sending) → y.sending ≡ s → AreTo P (with_header h s y)
      by (Started s) e = bytes_to h.body_size (record { start = s; properties = h.properties; payload = [] }) y a (λ t g. a.sending t (ap (is_sending_to t) e ∙ g))
      by Nothing e = record { wholes = a.wholes; sending = a.sending }
      by (Headed size w) e = record { wholes = a.wholes; sending = a.sending }
  after_to (frame.Body c bytes) y a k = by y.sending refl
    where
      by : (s : Sending) → y.sending ≡ s → AreTo P (with_body bytes s y)
      by (Headed size w) e = bytes_to size (record w { payload = w.payload ++ bytes }) y a (λ t g. a.sending t (ap (is_sending_to t) e ∙ g))
      by Nothing e = record { wholes = a.wholes; sending = a.sending }
      by (Started s) e = record { wholes = a.wholes; sending = a.sending }

pub none_to : (P : List ℕ → Type 0) → AreTo P no_sending
none_to P = record { wholes = λ t h. absurd cc; sending = λ t h. absurd cc }

-- ---- what is expected

-- the session begins it with what the broker began it with
abbrev pub StartIs : Start → Begin → Type 0
StartIs (Deliver consumer tag redelivered exchange key) b = (k : Option ℕ) × (b ≡ begin.Deliver k tag exchange key redelivered)
StartIs s (begin.Deliver k tag exchange key redelivered) = ⊥
StartIs s b = Unit {0}

pub record Comes (size : ℕ) (w : Whole) (o : Option Begun) : Type 0 where
  pub begun : Begun
  pub is : o ≡ Some begun
  pub properties : begun.properties ≡ w.properties
  pub bytes : begun.bytes ≡ w.payload
  pub left : begun.left + length w.payload ≡ size

abbrev pub Matches : Sending → List Expected → Type 0
Matches Nothing [] = Unit {0}
Matches (Started s) (e ∷ []) = (e.begun ≡ None) × (e.class_id ≡ 60) × StartIs s e.start
Matches (Headed size w) (e ∷ []) = Comes size w e.begun × StartIs w.start e.start
Matches _ _ = ⊥

-- the consumer of the front
abbrev pub consumer_of : Begin → Option ℕ
consumer_of (begin.Deliver k tag exchange key redelivered) = k
consumer_of _ = None

abbrev pub front_consumer : List Expected → Option ℕ
front_consumer [] = None
front_consumer (e ∷ es) = consumer_of e.start

-- a message that the session made whole is what the broker sent
pub record IsSent (w : Message) (y : Sent_) (es : List Expected) (ws : List Whole) : Type 0 where
  pub whole : Whole
  pub all : ws ≡ y.wholes ++ whole ∷ []
  pub start : StartIs whole.start w.start
  pub properties : whole.properties ≡ w.properties
  pub payload : whole.payload ≡ w.payload
  pub to : (t : List ℕ) → is_to t whole ≡ is_sending_to t y.sending
  pub consumer : consumer_of w.start ≡ front_consumer es

abbrev pub AreSent : Option Message → Sent_ → List Expected → List Whole → Type 0
AreSent None y es ws = ws ≡ y.wholes
AreSent (Some w) y es ws = IsSent w y es ws

-- after a header or a body
pub record Goes (o : Option Message) (y y' : Sent_) (es es' : List Expected) : Type 0 where
  pub matches : Matches y'.sending es'
  pub sent : AreSent o y es y'.wholes
  -- what is still being sent is for whom it was
  pub to : (t : List ℕ) → is_sending_to t y'.sending ≡ true → (is_sending_to t y.sending ≡ true) × (front_consumer es' ≡ front_consumer es)
  pub consumer : (k : ℕ) → front_consumer es' ≡ Some k → (front_consumer es ≡ Some k) × ((t : List ℕ) → is_sending_to t y.sending ≡ true → is_sending_to t y'.sending ≡ true)

-- one more piece came of the content w of so many bytes, which the session knows as x
abbrev Piece : (size : ℕ) (w : Whole) (k : ℕ) (s : Begin) (x : Begun) (y : Sent_) (es : List Expected) → Type 0
Piece size w k s x y es =
    let e : Expected = record { class_id = k; start = s; begun = Some x } in
    Goes (cond (x.left == 0) (whole_with s (Some x)) None) y (with_bytes size w y) es (cond (x.left == 0) [] (e ∷ []))

piece : (size : ℕ) (w : Whole) (k : ℕ) (s : Begin) (x : Begun) (y : Sent_) (es : List Expected) → x.properties ≡ w.properties → x.bytes ≡ w.payload → x.left + length w.payload ≡ size → StartIs w.start s → ((t : List ℕ) → is_to t w ≡ is_sending_to t y.sending) → consumer_of s ≡ front_consumer es → Piece size w k s x y es
piece size w k s x y es props bytes left start to cons =
    let e : Expected = record { class_id = k; start = s; begun = Some x } in
    let same : (length w.payload == size) ≡ (x.left == 0) = grind (arith, nat_tests) in
    let G : Bool → Bool → Type 0 = λ u v. Goes (cond v (whole_with s (Some x)) None) y (cond u (record { wholes = y.wholes ++ w ∷ []; sending = Nothing }) (record { wholes = y.wholes; sending = Headed size w })) es (cond v [] (e ∷ [])) in
    subst (λ u. G u (x.left == 0)) (sym same) (elim (x.left == 0) as (λ v. G v v) [
      | true ↦ record { matches = tt; sent = record { whole = w; all = refl; start = start; properties = sym props; payload = sym bytes; to = to; consumer = cons }; to = λ t h. absurd cc; consumer = λ k h. absurd cc }
      | false ↦ record { matches = (record { begun = x; is = refl; properties = props; bytes = bytes; left = left }, start); sent = refl; to = λ t h. (sym (to t) ∙ h, cons); consumer = λ k h. (sym cons ∙ h, λ t g. to t ∙ g) }
    ])

-- a header
pub header_goes : (h : ContentHeader) (y : Sent_) (es : List Expected) → Matches y.sending es → front_waits h.class_id es ≡ true → Goes (whole_by (part.Header h) es) y (with_header h y.sending y) es (after_header h es)
header_goes h y es m f = by y.sending refl es m f
  where
    by : (s : Sending) → y.sending ≡ s → (es : List Expected) → Matches s es → front_waits h.class_id es ≡ true → Goes (whole_by (part.Header h) es) y (with_header h s y) es (after_header h es)
    by Nothing q [] m f = absurd cc
    by Nothing q (e ∷ es) m f = absurd m
    by (Started s) q [] m f = absurd m
    by (Started s) q (e ∷ d ∷ es) m f = absurd m
    by (Started s) q (e ∷ []) m f =
        let w : Whole = record { start = s; properties = h.properties; payload = [] } in
        let x : Begun = record { properties = h.properties; left = h.body_size; bytes = [] } in
        let to : (t : List ℕ) → is_to t w ≡ is_sending_to t y.sending = λ t. sym (ap (is_sending_to t) q) in
        rw f (piece h.body_size w e.class_id e.start x y (e ∷ []) refl refl (omega arith) m.2 to refl)
    by (Headed size w) q [] m f = absurd m
    by (Headed size w) q (e ∷ d ∷ es) m f = absurd m
    by (Headed size w) q (e ∷ []) m f = let z : false ≡ true = sym (ap (λ o. is_unbegun o && (e.class_id == h.class_id)) m.0.is) ∙ f in absurd cc

-- a body
pub body_goes : (bytes : List ℕ) (y : Sent_) (es : List Expected) → Matches y.sending es → front_takes bytes es ≡ true → Goes (whole_by (part.Body bytes) es) y (with_body bytes y.sending y) es (after_body bytes es)
body_goes bytes y es m f = by y.sending refl es m f
  where
    begun : (size : ℕ) (w : Whole) (k : ℕ) (s : Begin) (o : Option Begun) → y.sending ≡ Headed size w → Comes size w o → StartIs w.start s → has_place_for bytes o ≡ true → Goes (whole_by (part.Body bytes) (record { class_id = k; start = s; begun = o } ∷ [])) y (with_bytes size (record w { payload = w.payload ++ bytes }) y) (record { class_id = k; start = s; begun = o } ∷ []) (after_body bytes (record { class_id = k; start = s; begun = o } ∷ []))
    begun size w k s None q c st f = absurd (let z : None ≡ Some c.begun = c.is in cc)
    begun size w k s (Some b) q c st f =
        let same : b ≡ c.begun = (let z : Some b ≡ Some c.begun = c.is in cc) in
        let x : Begun = grown bytes b in
        let fits : length bytes ≤ b.left = leb-true (length bytes) b.left f in
        let was : b.left + length w.payload ≡ size = ap (λ (v : Begun). v.left + length w.payload) same ∙ c.left in
        let long = length-append w.payload bytes in
        let left : x.left + length (w.payload ++ bytes) ≡ size = omega (arith, fits, was, long) in
        let to : (t : List ℕ) → is_to t w ≡ is_sending_to t y.sending = λ t. sym (ap (is_sending_to t) q) in
        rw f (piece size (record w { payload = w.payload ++ bytes }) k s x y (record { class_id = k; start = s; begun = Some b } ∷ []) (ap (λ (v : Begun). v.properties) same ∙ c.properties) (ap (λ (v : Begun). v.bytes ++ bytes) same ∙ ap (λ v. v ++ bytes) c.bytes) left st to refl)

    by : (s : Sending) → y.sending ≡ s → (es : List Expected) → Matches s es → front_takes bytes es ≡ true → Goes (whole_by (part.Body bytes) es) y (with_body bytes s y) es (after_body bytes es)
    by Nothing q [] m f = absurd cc
    by Nothing q (e ∷ es) m f = absurd m
    by (Started s) q [] m f = absurd m
    by (Started s) q (e ∷ d ∷ es) m f = absurd m
    by (Started s) q (e ∷ []) m f = let z : false ≡ true = sym (ap (has_place_for bytes) m.0) ∙ f in absurd cc
    by (Headed size w) q [] m f = absurd m
    by (Headed size w) q (e ∷ d ∷ es) m f = absurd m
    by (Headed size w) q (e ∷ []) m f = begun size w e.class_id e.start e.begun q m.0 m.1 f
