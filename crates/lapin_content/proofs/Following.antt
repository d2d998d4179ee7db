-- The contents of a table that follows a history follow the longer one.
use Rattle.std.proofs.Common.{◌≡◌, ℕ, ◌+◌, ◌-◌, ◌<◌, ◌≤◌, ◌==◌, Bool, true, false, cond, List, [], ◌∷◌, ◌++◌, map, drop, length, Option, Some, None, refl, sym, ◌∙◌, ap, arith, inl, inr}
use Rattle.std.specs.Prelude.{nat_le}
use Rattle.std.specs.List.{concat}
use Rattle.std.specs.Option.{option_map}
use Rattle.std.proofs.lemmas.Bool.{leb-true, le-leb, lt-leb}
use Rattle.std.proofs.lemmas.Bool.Decides.{eqb_tells, leb_tells}
use Rattle.lapin_values.specs.Properties.{Properties}
use Rattle.lapin_methods.specs.declared.frame.ContentHeader.{ContentHeader}
use Rattle.lapin_tables.specs.ByChannel.{at_channel, on_channel}
use Rattle.lapin_tables.proofs.Channels.{at-on_same, at-on_other, at-push, or-none}
use Rattle.lapin_content.specs.declared.start.Start.{Start}
use Rattle.lapin_content.specs.Contents.{Expected, expected, waits_for, takes_body, begun_with, grown_by, unless_whole, after_header, after_body}
use Rattle.lapin_content.specs.Channels.{Channels, listed, expected_on, joined_at, after_mark}
use Rattle.lapin_content.specs.Marks.{ContentMark}
use Rattle.lapin_content.specs.Marks as mark
use Rattle.lapin_content.specs.Readings.{Content, came, has_all, fits, given_up, with_header, with_body, on_front, newcomer, next_contents, contents_from, contents, seen, waiting}
use Rattle.lapin_content.specs.Follows.{Follows, Fits}
use Rattle.lapin_content.proofs.Fitting.{concat-push, came-push, Fit, AllFit, contents-fit}

-- a content before those that are expected after it
abbrev shown : Content → List Expected → List Expected
shown x es = cond x.over es (seen x ∷ es)

shown-if : (b : Bool) (x y : Content) (es : List Expected) → y.over ≡ true → shown (cond b x y) es ≡ cond b (shown x es) es
shown-if true x y es over = refl
shown-if false x y es over = rw over refl

-- a content that came as far in both
agree : (a b v w : Bool) (x y : Expected) (es : List Expected) → a ≡ b → (a ≡ true → v ≡ w) → (a ≡ true → x ≡ y) → cond a (cond v es (x ∷ es)) es ≡ cond b (cond w es (y ∷ es)) es
agree true true v w x y es same whole is = rw (whole refl, is refl) refl
agree true false v w x y es same whole is = cc
agree false true v w x y es same whole is = cc
agree false false v w x y es same whole is = refl

-- ---- a body

fits-left : (n m z : ℕ) → n ≤ z → nat_le (n + m) z ≡ nat_le m (z - n)
fits-left n m z within =
    elim (leb_tells (n + m) z) [
      | inl on ↦ let sum : n + m ≤ z = on.1 in on.0 ∙ sym (le-leb m (z - n) (omega arith))
      | inr off ↦ let sum : z < n + m = off.1 in off.0 ∙ sym (lt-leb m (z - n) (omega arith))
    ]

all-left : (n m z : ℕ) → n + m ≤ z → (n + m == z) ≡ ((z - n) - m == 0)
all-left n m z within =
    elim (eqb_tells (n + m) z) [
      | inl on ↦ let sum : n + m ≡ z = on.1 in let none : (z - n) - m ≡ 0 = omega arith in on.0 ∙ rw none refl
      | inr off ↦ elim (eqb_tells ((z - n) - m) 0) [
        | inl none ↦ let zero_left : (z - n) - m ≡ 0 = none.1 in absurd (off.1 (omega arith))
        | inr some ↦ off.0 ∙ sym some.0
      ]
    ]

abbrev pub content : ℕ → Start → Option ContentHeader → List (List ℕ) → Content
content k s o bodies = record { class_id = k; start = s; header = o; bodies = bodies; over = false }

abbrev begun_as : ℕ → Start → Properties → ℕ → List ℕ → Expected
begun_as k s q n bytes = record { class_id = k; start = s; begun = Some (record { properties = q; left = n; bytes = bytes }) }

grown-is : (k : ℕ) (s : Start) (q : Properties) (z : ℕ) (bodies : List (List ℕ)) (bytes : List ℕ) → came bodies + length bytes ≤ z → begun_as k s q (z - came (bodies ++ bytes ∷ [])) (concat (bodies ++ bytes ∷ [])) ≡ begun_as k s q ((z - came bodies) - length bytes) (concat bodies ++ bytes)
grown-is k s q z bodies bytes within =
    let now : came (bodies ++ bytes ∷ []) ≡ came bodies + length bytes = came-push bodies bytes in
    let left : z - came (bodies ++ bytes ∷ []) ≡ (z - came bodies) - length bytes = omega arith in
    ap (λ n. begun_as k s q n (concat (bodies ++ bytes ∷ []))) left ∙ ap (begun_as k s q ((z - came bodies) - length bytes)) (concat-push bodies bytes)

body-shown : (bytes : List ℕ) (k : ℕ) (s : Start) (o : Option ContentHeader) (bodies : List (List ℕ)) (es : List Expected) → Fits o bodies → shown (with_body bytes (content k s o bodies)) es ≡ cond (takes_body bytes (seen (content k s o bodies))) (unless_whole (grown_by bytes (seen (content k s o bodies))) es) es
body-shown bytes k s None bodies es fit = refl
body-shown bytes k s (Some h) bodies es fit =
    let n : ℕ = came bodies in
    let m : ℕ = length bytes in
    let x : Content = record (content k s (Some h) bodies) { bodies = bodies ++ bytes ∷ []; over = has_all (Some h) (bodies ++ bytes ∷ []) } in
    let sum : nat_le (came bodies + length bytes) h.body_size ≡ true → came bodies + length bytes ≤ h.body_size = leb-true (came bodies + length bytes) h.body_size in
    shown-if (fits bytes (Some h) bodies) x (given_up (content k s (Some h) bodies)) es refl
    ∙ agree (nat_le (came bodies + length bytes) h.body_size) (nat_le (length bytes) (h.body_size - came bodies)) (came (bodies ++ bytes ∷ []) == h.body_size) ((h.body_size - came bodies) - length bytes == 0) (seen x) (grown_by bytes (seen (content k s (Some h) bodies))) es
    (fits-left (came bodies) (length bytes) h.body_size fit)
    (λ takes. ap (λ i. i == h.body_size) (came-push bodies bytes) ∙ all-left (came bodies) (length bytes) h.body_size (sum takes))
    (λ takes. grown-is k s h.properties h.body_size bodies bytes (sum takes))

-- ---- a header

header-shown : (h : ContentHeader) (k : ℕ) (s : Start) (o : Option ContentHeader) (bodies : List (List ℕ)) (es : List Expected) → Fits o bodies → shown (with_header h (content k s o bodies)) es ≡ cond (waits_for h.class_id (seen (content k s o bodies))) (unless_whole (begun_with h (seen (content k s o bodies))) es) es
header-shown h k s (Some g) bodies es fit = refl
header-shown h k s None bodies es fit =
    let x : Content = record (content k s None bodies) { header = Some h; over = has_all (Some h) bodies } in
    let none : came bodies ≡ 0 = ap came fit in
    let left : h.body_size - came bodies ≡ h.body_size = omega arith in
    let zero_is : (0 == h.body_size) ≡ (h.body_size == 0) = elim (eqb_tells 0 h.body_size) [
      | inl on ↦ let z : 0 ≡ h.body_size = on.1 in rw (← z) refl
      | inr off ↦ elim (eqb_tells h.body_size 0) [ inl on ↦ absurd (off.1 (sym on.1)) | inr other ↦ off.0 ∙ sym other.0 ]
    ] in
    shown-if (k == h.class_id) x (given_up (content k s None bodies)) es refl
    ∙ agree (k == h.class_id) (k == h.class_id) (came bodies == h.body_size) (h.body_size == 0) (seen x) (begun_with h (seen (content k s None bodies))) es
    refl
    (λ on. ap (λ i. i == h.body_size) none ∙ zero_is)
    (λ on. ap (λ n. begun_as k s h.properties n (concat bodies)) left ∙ ap (λ (bs : List (List ℕ)). begun_as k s h.properties h.body_size (concat bs)) fit)

-- ---- the front of a list

waiting-front : (f : Content → Content) (g : List Expected → List Expected) (xs : List Content) → ([] ≡ g []) → ((x : Content) (es : List Expected) → Fit x → shown (f x) es ≡ g (seen x ∷ es)) → AllFit xs → waiting (on_front f xs) ≡ g (waiting xs)
waiting-front f g [] none some all = none
waiting-front f g (x ∷ xs) none some all =
    elim x.over as (λ b. x.over ≡ b → waiting (cond b (x ∷ on_front f xs) (f x ∷ xs)) ≡ g (cond b (waiting xs) (seen x ∷ waiting xs))) [
      | true ↦ λ over. rw over (waiting-front f g xs none some all.1)
      | false ↦ λ not_over. some x (waiting xs) all.0
    ] refl

waiting-push : (k : ℕ) (s : Start) (xs : List Content) → waiting (xs ++ newcomer k s ∷ []) ≡ waiting xs ++ expected k s ∷ []
waiting-push k s [] = refl
waiting-push k s (x ∷ xs) =
    elim x.over as (λ b. cond b (waiting (xs ++ newcomer k s ∷ [])) (seen x ∷ waiting (xs ++ newcomer k s ∷ [])) ≡ cond b (waiting xs) (seen x ∷ waiting xs) ++ expected k s ∷ []) [
      | true ↦ waiting-push k s xs
      | false ↦ ap (λ es. seen x ∷ es) (waiting-push k s xs)
    ]

waiting-dropped : (xs : List Content) → waiting (map given_up xs) ≡ []
waiting-dropped [] = refl
waiting-dropped (x ∷ xs) = waiting-dropped xs

-- ---- one more mark of a history

contents-push : (c : ℕ) (xs : List Content) (ms : List ContentMark) (m : ContentMark) → contents_from c xs (ms ++ m ∷ []) ≡ next_contents c m (contents_from c xs ms)
contents-push c xs [] m = refl
contents-push c xs (k ∷ ms) m = contents-push c (next_contents c k xs) ms m

-- what the change of one channel does to what another, or the same, expects
change : (d c : ℕ) (g : List Expected → List Expected) (all : Channels) → g [] ≡ [] → expected_on c (on_channel d g all) ≡ cond (d == c) (g (expected_on c all)) (expected_on c all)
change d c g all none =
    elim (eqb_tells d c) [
      | inl same ↦ rw (same.0, same.1, at-on_same c g all) (listed-map (at_channel c all))
      | inr other ↦ rw other.0 (ap listed (at-on_other d c g all other.1))
    ]
  where
    listed-map : (o : Option (List Expected)) → listed (option_map g o) ≡ g (listed o)
    listed-map None = sym none
    listed-map (Some es) = refl

join : (d c : ℕ) (e : Expected) (all : Channels) (o : Option (List Expected)) → at_channel d all ≡ o → expected_on c (joined_at o d e all) ≡ cond (d == c) (expected_on c all ++ e ∷ []) (expected_on c all)
join d c e all None at =
    elim (eqb_tells d c) [
      | inl same ↦
          let none : at_channel c all ≡ None = rw (← same.1) at in
          rw (same.0, at-push d c (e ∷ []) all, same.0, none) refl
      | inr other ↦ rw (other.0, at-push d c (e ∷ []) all, other.0) (ap listed (or-none (at_channel c all)))
    ]
join d c e all (Some es) at =
    elim (eqb_tells d c) [
      | inl same ↦
          let there : at_channel c all ≡ Some es = rw (← same.1) at in
          rw (same.0, same.1, at-on_same c (λ es. es ++ e ∷ []) all, there) refl
      | inr other ↦ rw other.0 (ap listed (at-on_other d c (λ es. es ++ e ∷ []) all other.1))
    ]

-- the same change on both sides, where it is of this channel
both : (b : Bool) (es fs : List Expected) (xs ys : List Content) → fs ≡ waiting ys → es ≡ waiting xs → cond b fs es ≡ waiting (cond b ys xs)
both true es fs xs ys new old = new
both false es fs xs ys new old = old

module _ (ms : List ContentMark) (all : Channels) (follows : Follows ms all) (c : ℕ) where
  front : (d : ℕ) (f : Content → Content) (g : List Expected → List Expected) → g [] ≡ [] → ((x : Content) (es : List Expected) → Fit x → shown (f x) es ≡ g (seen x ∷ es)) → expected_on c (on_channel d g all) ≡ waiting (cond (d == c) (on_front f (contents c ms)) (contents c ms))
  front d f g none some =
      change d c g all none
      ∙ both (d == c) (expected_on c all) (g (expected_on c all)) (contents c ms) (on_front f (contents c ms))
      (ap g (follows c) ∙ sym (waiting-front f g (contents c ms) (sym none) some (contents-fit c ms)))
      (follows c)

  next : (m : ContentMark) → expected_on c (after_mark all m) ≡ waiting (next_contents c m (contents c ms))
  next (mark.Awaited d k s) =
      join d c (expected k s) all (at_channel d all) refl
      ∙ both (d == c) (expected_on c all) (expected_on c all ++ expected k s ∷ []) (contents c ms) (contents c ms ++ newcomer k s ∷ [])
      (ap (λ es. es ++ expected k s ∷ []) (follows c) ∙ sym (waiting-push k s (contents c ms)))
      (follows c)
  next (mark.Header d h) = front d (with_header h) (after_header h) refl (λ x es fit. header-shown h x.class_id x.start x.header x.bodies es fit)
  next (mark.Body d bytes) = front d (with_body bytes) (after_body bytes) refl (λ x es fit. body-shown bytes x.class_id x.start x.header x.bodies es fit)
  next (mark.Reset d) = front d given_up (drop 1) refl (λ x es fit. refl)
  next (mark.Dropped d) =
      change d c (λ _. []) all refl
      ∙ both (d == c) (expected_on c all) [] (contents c ms) (map given_up (contents c ms)) (sym (waiting-dropped (contents c ms))) (follows c)

pub follows-push : (ms : List ContentMark) (all : Channels) (m : ContentMark) → Follows ms all → Follows (ms ++ m ∷ []) (after_mark all m)
follows-push ms all m follows c = next ms all follows c m ∙ ap waiting (sym (contents-push c [] ms m))
