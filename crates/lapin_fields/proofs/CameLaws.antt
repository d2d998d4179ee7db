-- What was read, of octets, came as it would be written.
use Rattle.std.proofs.Common.{◌≡◌, ℕ, zero, suc, ◌+◌, ◌≤◌, ◌<◌, Bool, true, false, cond, List, [], ◌∷◌, ◌++◌, length, take, drop, get_or, Option, Some, None, refl, sym, ap, ◌∙◌, arith, append_assoc}
use Rattle.std.specs.Prelude.{◌==◌, nat_lt}
use Rattle.std.specs.Int.{w16, w32, w64, from_be_bytes}
use Rattle.std.specs.List.{All}
use Rattle.std.proofs.lemmas.Bool.{ltb-false, eqb-true}
use Rattle.std.proofs.lemmas.List.{length-take, take-append-drop}
use Rattle.std.proofs.lemmas.List.Elements.{All-nil, All-cons, All-head, All-tail}
use Rattle.std.proofs.lemmas.Nat.{be_bytes_2, be_bytes_4, be_bytes_8}
use Rattle.std.proofs.lemmas.Option.{none-some}
use Rattle.lapin_values.specs.Data.{Data}
use Rattle.lapin_fields.specs.Around.{around, around_at, ended}
use Rattle.lapin_fields.specs.Fields.{short, long, wide, counted}
use Rattle.lapin_fields.specs.Opaque.{opaque, opaque_at, arguments_bytes}
use Rattle.lapin_fields.specs.Reading.{◌>>=◌, octet_at, short_at, wide_at, piece_at, counted_at}
use Rattle.lapin_fields.proofs.OpaqueLaws.{octets_again}
use Rattle.lapin_fields.proofs.ReadingLaws.{bind_some}

-- each is an octet
abbrev pub AreOctets : List ℕ → Type 0
AreOctets bytes = All (λ b. b < 256) bytes

pub octets_front : (xs ys : List ℕ) → AreOctets (xs ++ ys) → AreOctets xs
octets_front [] ys h = All-nil (λ b. b < 256)
octets_front (x ∷ xs) ys h = All-cons (λ b. b < 256) x xs (All-head (λ b. b < 256) x (xs ++ ys) h) (octets_front xs ys (All-tail (λ b. b < 256) x (xs ++ ys) h))

pub octets_behind : (xs ys : List ℕ) → AreOctets (xs ++ ys) → AreOctets ys
octets_behind [] ys h = h
octets_behind (x ∷ xs) ys h = octets_behind xs ys (All-tail (λ b. b < 256) x (xs ++ ys) h)

each : (bs : List ℕ) → AreOctets bs → (i : ℕ) → get_or bs i 0 < 256
each [] h i = omega arith
each (b ∷ bs) h zero = All-head (λ b. b < 256) b bs h
each (b ∷ bs) h (suc i) = each bs (All-tail (λ b. b < 256) b bs h) i

-- ---- numbers

two_came : (a b : ℕ) (rest : List ℕ) → AreOctets (a ∷ b ∷ rest) → short (from_be_bytes w16 (a ∷ b ∷ [])) ≡ a ∷ b ∷ []
two_came a b rest h = be_bytes_2 (a ∷ b ∷ []) _ refl (each (a ∷ b ∷ []) (octets_front (a ∷ b ∷ []) rest h)) refl

four_came : (a b c d : ℕ) (rest : List ℕ) → AreOctets (a ∷ b ∷ c ∷ d ∷ rest) → long (from_be_bytes w32 (a ∷ b ∷ c ∷ d ∷ [])) ≡ a ∷ b ∷ c ∷ d ∷ []
four_came a b c d rest h = be_bytes_4 (a ∷ b ∷ c ∷ d ∷ []) _ refl (each (a ∷ b ∷ c ∷ d ∷ []) (octets_front (a ∷ b ∷ c ∷ d ∷ []) rest h)) refl

eight_came : (a b c d e f g h : ℕ) (rest : List ℕ) → AreOctets (a ∷ b ∷ c ∷ d ∷ e ∷ f ∷ g ∷ h ∷ rest) → wide (from_be_bytes w64 (a ∷ b ∷ c ∷ d ∷ e ∷ f ∷ g ∷ h ∷ [])) ≡ a ∷ b ∷ c ∷ d ∷ e ∷ f ∷ g ∷ h ∷ []
eight_came a b c d e f g h rest all = be_bytes_8 (a ∷ b ∷ c ∷ d ∷ e ∷ f ∷ g ∷ h ∷ []) _ refl (each (a ∷ b ∷ c ∷ d ∷ e ∷ f ∷ g ∷ h ∷ []) (octets_front (a ∷ b ∷ c ∷ d ∷ e ∷ f ∷ g ∷ h ∷ []) rest all)) refl

pub short_came : (bytes rest : List ℕ) (n : ℕ) → AreOctets bytes → short_at bytes ≡ Some (n, rest) → bytes ≡ short n ++ rest
short_came [] rest n h e = absurd cc
short_came (a ∷ []) rest n h e = absurd cc
short_came (a ∷ b ∷ bytes) rest n h e =
    let same : (n, rest) ≡ (from_be_bytes w16 (a ∷ b ∷ []), bytes) = cc in
    ap (λ (s : List ℕ). s ++ bytes) (sym (two_came a b bytes h)) ∙ ap (λ (x : ℕ × List ℕ). short x.0 ++ x.1) (sym same)

pub wide_came : (bytes rest : List ℕ) (n : ℕ) → AreOctets bytes → wide_at bytes ≡ Some (n, rest) → bytes ≡ wide n ++ rest
wide_came [] rest n all q = absurd cc
wide_came (a ∷ []) rest n all q = absurd cc
wide_came (a ∷ b ∷ []) rest n all q = absurd cc
wide_came (a ∷ b ∷ c ∷ []) rest n all q = absurd cc
wide_came (a ∷ b ∷ c ∷ d ∷ []) rest n all q = absurd cc
wide_came (a ∷ b ∷ c ∷ d ∷ e ∷ []) rest n all q = absurd cc
wide_came (a ∷ b ∷ c ∷ d ∷ e ∷ f ∷ []) rest n all q = absurd cc
wide_came (a ∷ b ∷ c ∷ d ∷ e ∷ f ∷ g ∷ []) rest n all q = absurd cc
wide_came (a ∷ b ∷ c ∷ d ∷ e ∷ f ∷ g ∷ h ∷ bytes) rest n all q =
    let same : (n, rest) ≡ (from_be_bytes w64 (a ∷ b ∷ c ∷ d ∷ e ∷ f ∷ g ∷ h ∷ []), bytes) = cc in
    ap (λ (s : List ℕ). s ++ bytes) (sym (eight_came a b c d e f g h bytes all)) ∙ ap (λ (x : ℕ × List ℕ). wide x.0 ++ x.1) (sym same)

-- ---- pieces

pub piece_came : (n : ℕ) (bytes p rest : List ℕ) → piece_at n bytes ≡ Some (p, rest) → (bytes ≡ p ++ rest) × (length p ≡ n)
piece_came n bytes p rest e = on (nat_lt (length bytes) n) refl e
  where
    on : (b : Bool) → nat_lt (length bytes) n ≡ b → cond {A = Option (List ℕ × List ℕ)} b None (Some (take n bytes, drop n bytes)) ≡ Some (p, rest) → (bytes ≡ p ++ rest) × (length p ≡ n)
    on true few f = absurd (none-some (p, rest) f)
    on false few f =
        let same : (take n bytes, drop n bytes) ≡ (p, rest) = cc in
        let taken : take n bytes ≡ p = ap (λ (x : List ℕ × List ℕ). x.0) same in
        let left : drop n bytes ≡ rest = ap (λ (x : List ℕ × List ℕ). x.1) same in
        let enough : n ≤ length bytes = ltb-false (length bytes) n few in
        let long : length p ≡ length (take n bytes) = ap length (sym taken) in
        (sym (take-append-drop n bytes) ∙ (λ i. taken i ++ left i), omega (arith, length-take n bytes))

pub counted_came : (bytes s rest : List ℕ) → AreOctets bytes → counted_at bytes ≡ Some (s, rest) → bytes ≡ counted s ++ rest
counted_came [] s rest h e = absurd cc
counted_came (a ∷ []) s rest h e = absurd cc
counted_came (a ∷ b ∷ []) s rest h e = absurd cc
counted_came (a ∷ b ∷ c ∷ []) s rest h e = absurd cc
counted_came (a ∷ b ∷ c ∷ d ∷ bytes) s rest h e =
    let p = piece_came (from_be_bytes w32 (a ∷ b ∷ c ∷ d ∷ [])) bytes s rest e in
    ap (λ (l : List ℕ). l ++ bytes) (sym (four_came a b c d bytes h)) ∙ ap (λ (n : ℕ). long n ++ bytes) (sym p.1) ∙ ap (λ (t : List ℕ). long (length s) ++ t) p.0

-- a table of arguments
pub opaque_came : (bytes : List ℕ) (t : List (List ℕ × Data)) (rest : List ℕ) → AreOctets bytes → opaque_at bytes ≡ Some (t, rest) → bytes ≡ arguments_bytes t ++ rest
opaque_came bytes t rest h e =
    let s = bind_some (counted_at bytes) (λ s. Some (opaque s.0, s.1)) (t, rest) e in
    let same : (opaque s.0.0, s.0.1) ≡ (t, rest) = let f = s.2 in cc in
    counted_came bytes s.0.0 s.0.1 h s.1
    ∙ ap (λ (os : List ℕ). counted os ++ s.0.1) (sym (octets_again s.0.0))
    ∙ ap (λ (x : List (List ℕ × Data) × List ℕ). arguments_bytes x.0 ++ x.1) same

-- ---- what stands around a payload

mark_came : {A : Type 0} (found : A) (bytes : List ℕ) (x : A × List ℕ) → (octet_at bytes >>= λ mark. ended mark.0 found mark.1) ≡ Some x → (bytes ≡ 206 ∷ x.1) × (found ≡ x.0)
mark_came found [] x e = absurd cc
mark_came found (m ∷ bytes) x e = on (m == 206) refl e
  where
    on : (b : Bool) → (m == 206) ≡ b → cond b (Some (found, bytes)) None ≡ Some x → (m ∷ bytes ≡ 206 ∷ x.1) × (found ≡ x.0)
    on true is f =
        let same : (found, bytes) ≡ x = cc in
        let mark : m ≡ 206 = eqb-true m 206 is in
        (ap (λ (k : ℕ). k ∷ bytes) mark ∙ ap (λ (r : _ × List ℕ). 206 ∷ r.1) same, ap (λ (r : _ × List ℕ). r.0) same)
    on false is f = absurd (none-some x f)

abbrev Around : Type 0
Around = ℕ × ℕ × List ℕ

pub around_came : (bytes : List ℕ) (x : Around × List ℕ) → AreOctets bytes → around_at bytes ≡ Some x → bytes ≡ around x.0.0 x.0.1 x.0.2 ++ x.1
around_came [] x all e = absurd cc
around_came (_ ∷ []) x all e = absurd cc
around_came (_ ∷ _ ∷ []) x all e = absurd cc
around_came (_ ∷ _ ∷ _ ∷ []) x all e = absurd cc
around_came (_ ∷ _ ∷ _ ∷ _ ∷ []) x all e = absurd cc
around_came (_ ∷ _ ∷ _ ∷ _ ∷ _ ∷ []) x all e = absurd cc
around_came (_ ∷ _ ∷ _ ∷ _ ∷ _ ∷ _ ∷ []) x all e = absurd cc
around_came (k ∷ h ∷ l ∷ a ∷ b ∷ c ∷ d ∷ bytes) x all e =
    let channel : ℕ = from_be_bytes w16 (h ∷ l ∷ []) in
    let n : ℕ = from_be_bytes w32 (a ∷ b ∷ c ∷ d ∷ []) in
    let p = bind_some (piece_at n bytes) (λ p. octet_at p.1 >>= λ mark. ended {A = Around} mark.0 (k, channel, p.0) mark.1) x e in
    let piece = piece_came n bytes p.0.0 p.0.1 p.1 in
    let mark = mark_came {A = Around} (k, channel, p.0.0) p.0.1 x p.2 in
    let two = two_came h l (a ∷ b ∷ c ∷ d ∷ bytes) (octets_behind (k ∷ []) (h ∷ l ∷ a ∷ b ∷ c ∷ d ∷ bytes) all) in
    let four = four_came a b c d bytes (octets_behind (k ∷ h ∷ l ∷ []) (a ∷ b ∷ c ∷ d ∷ bytes) all) in
    ap (λ (s : List ℕ). k ∷ (s ++ (a ∷ b ∷ c ∷ d ∷ bytes))) (sym two)
    ∙ ap (λ (s : List ℕ). k ∷ (short channel ++ (s ++ bytes))) (sym four)
    ∙ ap (λ (m : ℕ). k ∷ (short channel ++ (long m ++ bytes))) (sym piece.1)
    ∙ ap (λ (s : List ℕ). k ∷ (short channel ++ (long (length p.0.0) ++ s))) (piece.0 ∙ ap (λ (r : List ℕ). p.0.0 ++ r) mark.0)
    ∙ ap (λ (s : List ℕ). k ∷ (short channel ++ (long (length p.0.0) ++ s))) (sym (append_assoc p.0.0 (206 ∷ []) x.1))
    ∙ ap (λ (y : Around). around y.0 y.1 y.2 ++ x.1) mark.1
