-- No content gets more bytes than its header announced.
use Rattle.std.proofs.Common.{◌≡◌, ℕ, zero, suc, ◌+◌, ◌≤◌, ◌==◌, Bool, true, false, cond, ◌&&◌, List, [], ◌∷◌, ◌++◌, map, length, Option, Some, None, refl, ◌∙◌, ap, arith, slice_get}
use Rattle.std.specs.List.{concat}
use Rattle.std.proofs.lemmas.Bool.{leb-true}
use Rattle.std.proofs.lemmas.List.{length-append, append-nil}
use Rattle.std.proofs.lemmas.List.Folds.{concat-append}
use Rattle.lapin_methods.specs.declared.frame.ContentHeader.{ContentHeader}
use Rattle.lapin_content.specs.declared.start.Start.{Start}
use Rattle.lapin_content.specs.Marks.{ContentMark}
use Rattle.lapin_content.specs.Marks as mark
use Rattle.lapin_content.specs.Readings.{Content, came, has_all, fits, given_up, lacks_header, with_header, with_body, on_front, newcomer, next_contents, contents_from, contents}
use Rattle.lapin_content.specs.Follows.{Fits}

-- the bodies joined, with one more
pub concat-push : (bodies : List (List ℕ)) (bytes : List ℕ) → concat (bodies ++ bytes ∷ []) ≡ concat bodies ++ bytes
concat-push bodies bytes = concat-append bodies (bytes ∷ []) ∙ ap (λ bs. concat bodies ++ bs) (append-nil bytes)

pub came-push : (bodies : List (List ℕ)) (bytes : List ℕ) → came (bodies ++ bytes ∷ []) ≡ came bodies + length bytes
came-push bodies bytes = ap length (concat-push bodies bytes) ∙ length-append (concat bodies) bytes

abbrev pub Fit : Content → Type 0
Fit x = Fits x.header x.bodies

fit-body : (bytes : List ℕ) (o : Option ContentHeader) (bodies : List (List ℕ)) → Fits o bodies → fits bytes o bodies ≡ true → Fits o (bodies ++ bytes ∷ [])
fit-body bytes None bodies fit takes = cc
fit-body bytes (Some h) bodies fit takes =
    let within : came bodies + length bytes ≤ h.body_size = leb-true (came bodies + length bytes) h.body_size takes in
    let now : came (bodies ++ bytes ∷ []) ≡ came bodies + length bytes = came-push bodies bytes in
    omega arith

body-fits : (bytes : List ℕ) (x : Content) → Fit x → Fit (with_body bytes x)
body-fits bytes x fit =
    elim (fits bytes x.header x.bodies) as (λ b. fits bytes x.header x.bodies ≡ b → Fit (cond b (record x { bodies = x.bodies ++ bytes ∷ []; over = has_all x.header (x.bodies ++ bytes ∷ []) }) (given_up x))) [
      | true ↦ λ takes. fit-body bytes x.header x.bodies fit takes
      | false ↦ λ takes. fit
    ] refl

fit-header : (h : ContentHeader) (o : Option ContentHeader) (bodies : List (List ℕ)) → Fits o bodies → lacks_header o ≡ true → Fits (Some h) bodies
fit-header h None bodies fit lacks = rw fit (omega arith)
fit-header h (Some g) bodies fit lacks = cc

header-fits : (h : ContentHeader) (x : Content) → Fit x → Fit (with_header h x)
header-fits h x fit =
    elim (lacks_header x.header) as (λ b. lacks_header x.header ≡ b → Fit (cond (b && (x.class_id == h.class_id)) (record x { header = Some h; over = has_all (Some h) x.bodies }) (given_up x))) [
      | true ↦ λ lacks. elim (x.class_id == h.class_id) as (λ b. Fit (cond b (record x { header = Some h; over = has_all (Some h) x.bodies }) (given_up x))) [
        | true ↦ fit-header h x.header x.bodies fit lacks
        | false ↦ fit
      ]
      | false ↦ λ lacks. fit
    ] refl

-- ---- a list of contents that fit

abbrev pub AllFit : List Content → Type 0
AllFit [] = Unit {0}
AllFit (x ∷ xs) = Fit x × AllFit xs

front-fits : (f : Content → Content) (xs : List Content) → ((x : Content) → Fit x → Fit (f x)) → AllFit xs → AllFit (on_front f xs)
front-fits f [] keeps all = tt
front-fits f (x ∷ xs) keeps all =
    elim x.over as (λ b. AllFit (cond b (x ∷ on_front f xs) (f x ∷ xs))) [
      | true ↦ (all.0, front-fits f xs keeps all.1)
      | false ↦ (keeps x all.0, all.1)
    ]

push-fits : (k : ℕ) (s : Start) (xs : List Content) → AllFit xs → AllFit (xs ++ newcomer k s ∷ [])
push-fits k s [] all = (refl, tt)
push-fits k s (x ∷ xs) all = (all.0, push-fits k s xs all.1)

dropped-fits : (xs : List Content) → AllFit xs → AllFit (map given_up xs)
dropped-fits [] all = tt
dropped-fits (x ∷ xs) all = (all.0, dropped-fits xs all.1)

here : (b : Bool) (xs ys : List Content) → AllFit xs → AllFit ys → AllFit (cond b xs ys)
here true xs ys all others = all
here false xs ys all others = others

pub next-fits : (c : ℕ) (m : ContentMark) (xs : List Content) → AllFit xs → AllFit (next_contents c m xs)
next-fits c (mark.Awaited d k s) xs all = here (d == c) (xs ++ newcomer k s ∷ []) xs (push-fits k s xs all) all
next-fits c (mark.Header d h) xs all = here (d == c) (on_front (with_header h) xs) xs (front-fits (with_header h) xs (header-fits h) all) all
next-fits c (mark.Body d bytes) xs all = here (d == c) (on_front (with_body bytes) xs) xs (front-fits (with_body bytes) xs (body-fits bytes) all) all
next-fits c (mark.Reset d) xs all = here (d == c) (on_front given_up xs) xs (front-fits given_up xs (λ x fit. fit) all) all
next-fits c (mark.Dropped d) xs all = here (d == c) (map given_up xs) xs (dropped-fits xs all) all

from-fits : (c : ℕ) (xs : List Content) (ms : List ContentMark) → AllFit xs → AllFit (contents_from c xs ms)
from-fits c xs [] all = all
from-fits c xs (m ∷ ms) all = from-fits c (next_contents c m xs) ms (next-fits c m xs all)

pub contents-fit : (c : ℕ) (ms : List ContentMark) → AllFit (contents c ms)
contents-fit c ms = from-fits c [] ms tt

pub fit-at : (xs : List Content) (k : ℕ) (x : Content) → AllFit xs → slice_get xs k ≡ Some x → Fit x
fit-at [] k x all at = cc
fit-at (y ∷ ys) zero x all at = let same : y ≡ x = cc in rw (← same) all.0
fit-at (y ∷ ys) (suc k) x all at = fit-at ys k x all.1 at
