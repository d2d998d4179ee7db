-- The content that the answer to a get began, as far as it came: what was sent on the channel since that answer.
use Rattle.std.proofs.Common.{◌≡◌, ◌∙◌, ℕ, ◌+◌, ◌-◌, ◌≤◌, ◌==◌, nat_le, true, false, cond, List, [], ◌∷◌, ◌++◌, length, Option, Some, None, inl, inr, refl, sym, ap, append-nil, append_assoc, length-append, arith, eq-eqb}
use Rattle.std.specs.List.{fold}
use Rattle.std.proofs.lemmas.Bool.Decides.{eqb_tells, nat_tests}
use Rattle.lapin_values.specs.Properties.{Properties}
use Rattle.lapin_methods.specs.declared.frame.ContentHeader.{ContentHeader}
use Rattle.lapin_types.specs.Types.{Frame}
use Rattle.lapin_types.specs.Types.frame
use Rattle.lapin_content.specs.Contents.{Begun, grown}
use Rattle.lapin_verdicts.specs.Messages.{Start, Whole, Sending, Nothing, Started, Headed, Sent_, with_bytes, with_header, with_body, with_start, sent_after, start_in}
use Rattle.lapin_verdicts.specs.Verdicts.{at_place}

-- ---- how far a content is

-- as it is sent: begun, or with so many bytes in all and those that came
abbrev pub sending_of : Start → Option Begun → Sending
sending_of s None = Started s
sending_of s (Some g) = Headed (length g.bytes + g.left) (record { start = s; properties = g.properties; payload = g.bytes })

-- nothing is whole yet, and the content that is coming is this
abbrev pub on_way : Start → Option Begun → Sent_
on_way s o = record { wholes = []; sending = sending_of s o }

-- it is whole
abbrev pub whole_now : Start → Properties → List ℕ → Sent_
whole_now s p bytes = record { wholes = record { start = s; properties = p; payload = bytes } ∷ []; sending = Nothing }

-- ---- a header

zero_test : (n : ℕ) → (0 == n) ≡ (n == 0)
zero_test n = elim (eqb_tells n 0) [
  | inl y ↦ eq-eqb 0 n (sym y.1) ∙ sym y.0
  | inr y ↦ elim (eqb_tells 0 n) [ inl z ↦ absurd (y.1 (sym z.1)) | inr z ↦ z.0 ∙ sym y.0 ]
]

-- a header leaves bytes to come, or none
pub header_on : (s : Start) (c : ℕ) (h : ContentHeader) → (h.body_size == 0) ≡ false → sent_after (on_way s None) (frame.Header c h) ≡ on_way s (Some (record { properties = h.properties; left = h.body_size; bytes = [] }))
header_on s c h e = ap (λ v. cond v (whole_now s h.properties []) (record { wholes = []; sending = Headed h.body_size (record { start = s; properties = h.properties; payload = [] }) })) (zero_test h.body_size ∙ e) ∙ ap (λ n. record { wholes = []; sending = Headed n (record { start = s; properties = h.properties; payload = [] }) }) (let z : h.body_size ≡ 0 + h.body_size = omega arith in z)

pub header_whole : (s : Start) (c : ℕ) (h : ContentHeader) → (h.body_size == 0) ≡ true → sent_after (on_way s None) (frame.Header c h) ≡ whole_now s h.properties []
header_whole s c h e = ap (λ v. cond v (whole_now s h.properties []) (record { wholes = []; sending = Headed h.body_size (record { start = s; properties = h.properties; payload = [] }) })) (zero_test h.body_size ∙ e)

-- ---- a body

body_is : (s : Start) (c : ℕ) (g : Begun) (bytes : List ℕ) → sent_after (on_way s (Some g)) (frame.Body c bytes) ≡ cond (length (g.bytes ++ bytes) == (length g.bytes + g.left)) (whole_now s g.properties (g.bytes ++ bytes)) (record { wholes = []; sending = Headed (length g.bytes + g.left) (record { start = s; properties = g.properties; payload = g.bytes ++ bytes }) })
body_is s c g bytes = refl

pub body_on : (s : Start) (c : ℕ) (g : Begun) (bytes : List ℕ) → nat_le (length bytes) g.left ≡ true → ((g.left - length bytes) == 0) ≡ false → sent_after (on_way s (Some g)) (frame.Body c bytes) ≡ on_way s (Some (grown bytes g))
body_on s c g bytes le e =
    let long = length-append g.bytes bytes in
    let fits : length bytes ≤ g.left = grind (arith, nat_tests) in
    let some : (length (g.bytes ++ bytes) == (length g.bytes + g.left)) ≡ false = elim (eqb_tells (length (g.bytes ++ bytes)) (length g.bytes + g.left)) as (λ _. (length (g.bytes ++ bytes) == (length g.bytes + g.left)) ≡ false) [
      | inl y ↦ (let same = y.1 in let all : g.left - length bytes ≡ 0 = omega (arith, same, long, fits) in let w : true ≡ false = sym (eq-eqb (g.left - length bytes) 0 all) ∙ e in absurd cc)
      | inr y ↦ y.0
    ] in
    let sum : length g.bytes + g.left ≡ length (g.bytes ++ bytes) + (g.left - length bytes) = omega (arith, long, fits) in
    body_is s c g bytes ∙ (ap (λ v. cond v (whole_now s g.properties (g.bytes ++ bytes)) (record { wholes = []; sending = Headed (length g.bytes + g.left) (record { start = s; properties = g.properties; payload = g.bytes ++ bytes }) })) some ∙ ap (λ n. record { wholes = []; sending = Headed n (record { start = s; properties = g.properties; payload = g.bytes ++ bytes }) }) sum)

pub body_whole : (s : Start) (c : ℕ) (g : Begun) (bytes : List ℕ) → nat_le (length bytes) g.left ≡ true → ((g.left - length bytes) == 0) ≡ true → sent_after (on_way s (Some g)) (frame.Body c bytes) ≡ whole_now s g.properties (g.bytes ++ bytes)
body_whole s c g bytes le e =
    let long = length-append g.bytes bytes in
    let fits : length bytes ≤ g.left = grind (arith, nat_tests) in
    let none : g.left - length bytes ≡ 0 = elim (eqb_tells (g.left - length bytes) 0) as (λ _. g.left - length bytes ≡ 0) [ inl y ↦ y.1 | inr y ↦ (let w : true ≡ false = sym e ∙ y.0 in absurd cc) ] in
    let all : (length (g.bytes ++ bytes) == (length g.bytes + g.left)) ≡ true = eq-eqb _ _ (let z : length (g.bytes ++ bytes) ≡ length g.bytes + g.left = omega (arith, long, fits, none) in z) in
    body_is s c g bytes ∙ ap (λ v. cond v (whole_now s g.properties (g.bytes ++ bytes)) (record { wholes = []; sending = Headed (length g.bytes + g.left) (record { start = s; properties = g.properties; payload = g.bytes ++ bytes }) })) all

-- ---- contents only come

-- the whole contents of the second are those of the first and then these
record Grows (y z : Sent_) : Type 0 where
  pub more : List Whole
  pub is : z.wholes ≡ y.wholes ++ more

grows_same : (y z : Sent_) → z.wholes ≡ y.wholes → Grows y z
grows_same y z e = record { more = []; is = e ∙ sym (append-nil y.wholes) }

bytes_grow : (n : ℕ) (w : Whole) (y : Sent_) → Grows y (with_bytes n w y)
bytes_grow n w y = elim (length w.payload == n) as (λ b. Grows y (cond b (record { wholes = y.wholes ++ w ∷ []; sending = Nothing }) (record { wholes = y.wholes; sending = Headed n w }))) [ true ↦ record { more = w ∷ []; is = refl } | false ↦ grows_same _ _ refl ]

header_grows : (h : ContentHeader) (s : Sending) (y : Sent_) → Grows y (with_header h s y)
header_grows h (Started s) y = bytes_grow h.body_size (record { start = s; properties = h.properties; payload = [] }) y
header_grows h Nothing y = grows_same _ _ refl
header_grows h (Headed n w) y = grows_same _ _ refl

body_grows : (bytes : List ℕ) (s : Sending) (y : Sent_) → Grows y (with_body bytes s y)
body_grows bytes (Headed n w) y = bytes_grow n (record { start = w.start; properties = w.properties; payload = w.payload ++ bytes }) y
body_grows bytes Nothing y = grows_same _ _ refl
body_grows bytes (Started s) y = grows_same _ _ refl

start_grows : (o : Option Start) (y : Sent_) → Grows y (with_start o y)
start_grows None y = grows_same _ _ refl
start_grows (Some s) y = grows_same _ _ refl

after_grows : (f : Frame) (y : Sent_) → Grows y (sent_after y f)
after_grows (frame.Header c h) y = header_grows h y.sending y
after_grows (frame.Body c bytes) y = body_grows bytes y.sending y
after_grows (frame.Method c m) y = start_grows (start_in (frame.Method c m)) y

fold_grows : (fs : List Frame) (y : Sent_) → Grows y (fold sent_after y fs)
fold_grows [] y = grows_same _ _ refl
fold_grows (f ∷ fs) y =
    let a = after_grows f y in
    let b = fold_grows fs (sent_after y f) in
    record { more = a.more ++ b.more; is = b.is ∙ (ap (λ v. v ++ b.more) a.is ∙ append_assoc y.wholes a.more b.more) }

-- the first that became whole stays the first
pub first_stays : (fs : List Frame) (s : Start) (p : Properties) (bytes : List ℕ) → at_place 1 (fold sent_after (whole_now s p bytes) fs).wholes ≡ Some (record { start = s; properties = p; payload = bytes })
first_stays fs s p bytes = let g = fold_grows fs (whole_now s p bytes) in ap (at_place 1) g.is
