-- A whole message is that of the content at the front.
use Rattle.std.proofs.Common.{◌≡◌, ℕ, ◌+◌, ◌-◌, ◌≤◌, ◌==◌, Bool, true, false, cond, List, [], ◌∷◌, ◌++◌, length, Option, Some, None, Result, Ok, Err, refl, sym, ◌∙◌, ap, arith, slice_get}
use Rattle.std.specs.Prelude.{nat_le}
use Rattle.std.specs.List.{concat}
use Rattle.std.proofs.lemmas.Bool.{eqb-true, leb-true}
use Rattle.std.proofs.lemmas.List.{length-append}
use Rattle.lapin_methods.specs.declared.error.Error.{Error}
use Rattle.lapin_methods.specs.declared.frame.ContentHeader.{ContentHeader}
use Rattle.lapin_content.specs.declared.start.Start.{Start}
use Rattle.lapin_content.specs.declared.start.Whole.{Whole}
use Rattle.lapin_content.specs.Contents.{Expected, heard_header, heard_body, refused_header, refused_body}
use Rattle.lapin_content.specs.Marks.{ContentMark}
use Rattle.lapin_content.specs.Readings.{Content, contents, came, seen, waiting, front_of}
use Rattle.lapin_content.specs.Follows.{Fits, IsMessage}
use Rattle.lapin_content.proofs.Fitting.{AllFit, concat-push, contents-fit, fit-at}
use Rattle.lapin_content.proofs.Following.{content}

abbrev Told : Type 0
Told = Result (Option Whole) Error

-- ---- by a body

abbrev LastBody : Content → List ℕ → Whole → Type 0
LastBody x bytes w = (h : ContentHeader) × (x.header ≡ Some h) × IsMessage x h (x.bodies ++ bytes ∷ []) w

-- the tests of a body that is heard as a whole message
told-body : (a b : Bool) (v w : Whole) (e : Error) → ◌≡◌ {A = Told} (cond a (Ok (cond b (Some v) None)) (Err e)) (Ok (Some w)) → (a ≡ true) × (b ≡ true) × (v ≡ w)
told-body true true v w e told = (refl, refl, cc)
told-body true false v w e told = cc
told-body false b v w e told = cc

last-body : (bytes : List ℕ) (k : ℕ) (s : Start) (o : Option ContentHeader) (bodies : List (List ℕ)) (es : List Expected) (w : Whole) → Fits o bodies → heard_body bytes (seen (content k s o bodies) ∷ es) ≡ Ok (Some w) → LastBody (content k s o bodies) bytes w
last-body bytes k s None bodies es w fit told = cc
last-body bytes k s (Some h) bodies es w fit told =
    let v : Whole = record { start = s; properties = h.properties; payload = concat bodies ++ bytes } in
    let was = told-body (nat_le (length bytes) (h.body_size - came bodies)) ((h.body_size - came bodies) - length bytes == 0) v w refused_body told in
    let fits : length bytes ≤ h.body_size - came bodies = leb-true (length bytes) (h.body_size - came bodies) was.0 in
    let none : (h.body_size - came bodies) - length bytes ≡ 0 = eqb-true ((h.body_size - came bodies) - length bytes) 0 was.1 in
    let long : length (concat bodies ++ bytes) ≡ came bodies + length bytes = length-append (concat bodies) bytes in
    let size : length (concat bodies ++ bytes) ≡ h.body_size = omega arith in (
      h,
      refl,
      record {
        whole = sym was.2 ∙ ap (λ (bs : List ℕ). record { start = s; properties = h.properties; payload = bs }) (sym (concat-push bodies bytes));
        size = ap (λ (m : Whole). length m.payload) (sym was.2) ∙ size;
      },
    )

pub by-body : (bytes : List ℕ) (xs : List Content) (w : Whole) → AllFit xs → heard_body bytes (waiting xs) ≡ Ok (Some w) → (x : Content) × (h : ContentHeader) × (front_of xs ≡ Some x) × (x.header ≡ Some h) × IsMessage x h (x.bodies ++ bytes ∷ []) w
by-body bytes [] w all told = cc
by-body bytes (x ∷ xs) w all told =
    elim x.over as (λ b. heard_body bytes (cond b (waiting xs) (seen x ∷ waiting xs)) ≡ Ok (Some w) → (y : Content) × (h : ContentHeader) × (cond b (front_of xs) (Some x) ≡ Some y) × (y.header ≡ Some h) × IsMessage y h (y.bodies ++ bytes ∷ []) w) [
      | true ↦ λ later. by-body bytes xs w all.1 later
      | false ↦ λ here. let is = last-body bytes x.class_id x.start x.header x.bodies (waiting xs) w all.0 here in (x, is.0, refl, is.1, record { whole = is.2.whole; size = is.2.size })
    ] told

-- ---- by a header

empty : (h : ContentHeader) (x : Content) (es : List Expected) (w : Whole) → heard_header h (seen x ∷ es) ≡ Ok (Some w) → IsMessage x h [] w
empty h x es w told =
    let v : Whole = record { start = x.start; properties = h.properties; payload = [] } in
    let was = told-body _ (h.body_size == 0) v w (refused_header h) told in
    let none : h.body_size ≡ 0 = eqb-true h.body_size 0 was.1 in
    record { whole = sym was.2; size = ap (λ (m : Whole). length m.payload) (sym was.2) ∙ sym none }

pub by-header : (h : ContentHeader) (xs : List Content) (w : Whole) → heard_header h (waiting xs) ≡ Ok (Some w) → (x : Content) × (front_of xs ≡ Some x) × IsMessage x h [] w
by-header h [] w told = cc
by-header h (x ∷ xs) w told =
    elim x.over as (λ b. heard_header h (cond b (waiting xs) (seen x ∷ waiting xs)) ≡ Ok (Some w) → (y : Content) × (cond b (front_of xs) (Some x) ≡ Some y) × IsMessage y h [] w) [
      | true ↦ λ later. by-header h xs w later
      | false ↦ λ here. (x, refl, empty h x (waiting xs) w here)
    ] told

-- ---- the bytes of a content

sum-of : (o : Option ContentHeader) (bodies : List (List ℕ)) (h : ContentHeader) → Fits o bodies → o ≡ Some h → came bodies + (h.body_size - came bodies) ≡ h.body_size
sum-of None bodies h fit is = cc
sum-of (Some g) bodies h fit is = let same : g ≡ h = cc in let within : came bodies ≤ h.body_size = rw (← same) fit in omega arith

pub fits-at : (c k : ℕ) (ms : List ContentMark) (x : Content) → slice_get (contents c ms) k ≡ Some x → Fits x.header x.bodies
fits-at c k ms x at = fit-at (contents c ms) k x (contents-fit c ms) at

pub sum-at : (c k : ℕ) (ms : List ContentMark) (x : Content) (h : ContentHeader) → slice_get (contents c ms) k ≡ Some x → x.header ≡ Some h → came x.bodies + (h.body_size - came x.bodies) ≡ h.body_size
sum-at c k ms x h at is = sum-of x.header x.bodies h (fits-at c k ms x at) is
