-- Ackers in blocks: which stands at a place, what a use of one changes, and what goes into a block or is passed.
use Rattle.std.proofs.Common.{◌≡◌, ◌≢◌, ℕ, zero, suc, ◌+◌, ◌*◌, ◌<◌, ◌≤◌, List, [], ◌∷◌, ◌++◌, drop, replicate, length, Some, refl, sym, ◌∙◌, ap, subst, arith, slice_get, slice_set, get_or, append_assoc, length-append}
use Rattle.std.proofs.lemmas.List.{append-nil, set-append_left}
use Rattle.lapin_acker.specs.declared.switch.Switch.{Switch}
use Rattle.lapin_acker.specs.declared.switch.Switch.TheVariants as switch
use Rattle.lapin_acker.specs.declared.blocks.Block.{Block}
use Rattle.lapin_acker.specs.Blocks.{cell_at, cells_from, laid}
use Rattle.lapin_acker.specs.Store.{seen, shown}
use Rattle.lapin_acker.proofs.Front.{get-right, set-right, passed-cell, get-left}

-- ---- how many

pub length-cells : (b : Block) (i n : ℕ) → length (cells_from b i n) ≡ n
length-cells b i zero = refl
length-cells b i (suc n) = ap suc (length-cells b (suc i) n)

pub length-laid : (bs : List Block) → length (laid bs) ≡ 64 * length bs
length-laid [] = refl
length-laid (b ∷ bs) =
    let first = length-cells b 0 64 in
    let rest = length-laid bs in
    let both = length-append (cells_from b 0 64) (laid bs) in
    omega (arith, first, rest, both)

-- ---- which stands at a place

pub get-cells : (b : Block) (i n p : ℕ) → p < n → slice_get (cells_from b i n) p ≡ Some (cell_at b (i + p))
get-cells b i zero p lt = absurd (omega (arith, lt))
get-cells b i (suc n) zero lt = let same : i ≡ i + 0 = omega arith in ap (λ k. Some (cell_at b k)) same
get-cells b i (suc n) (suc p) lt = let next : suc i + p ≡ i + suc p = omega arith in get-cells b (suc i) n p (omega (arith, lt)) ∙ ap (λ k. Some (cell_at b k)) next

pub get-laid : (bs : List Block) (q r : ℕ) (b : Block) → r < 64 → slice_get bs q ≡ Some b → slice_get (laid bs) (64 * q + r) ≡ Some (cell_at b r)
get-laid [] q r b lt at = cc
get-laid (d ∷ bs) zero r b lt at =
    let same : d ≡ b = cc in
    let long : r < length (cells_from d 0 64) = omega (arith, lt, length-cells d 0 64) in
    let place : 64 * 0 + r ≡ r = omega arith in
    let from-first : 0 + r ≡ r = omega arith in
    ap (slice_get (laid (d ∷ bs))) place ∙ get-left (cells_from d 0 64) (laid bs) r long ∙ get-cells d 0 64 r lt ∙ ap (λ k. Some (cell_at d k)) from-first ∙ ap (λ e. Some (cell_at e r)) same
get-laid (d ∷ bs) (suc q) r b lt at =
    let place : 64 * suc q + r ≡ length (cells_from d 0 64) + (64 * q + r) = omega (arith, length-cells d 0 64) in
    ap (slice_get (laid (d ∷ bs))) place ∙ get-right (cells_from d 0 64) (laid bs) (64 * q + r) ∙ get-laid bs q r b lt at

-- ---- one is changed

same-cells : (b d : Block) (i n : ℕ) → ((k : ℕ) → i ≤ k → k < i + n → cell_at d k ≡ cell_at b k) → cells_from d i n ≡ cells_from b i n
same-cells b d i zero same = refl
same-cells b d i (suc n) same =
    ap (λ s. s ∷ cells_from d (suc i) n) (same i (omega arith) (omega arith))
    ∙ ap (λ xs. cell_at b i ∷ xs) (same-cells b d (suc i) n (λ k low high. same k (omega (arith, low)) (omega (arith, high))))

set-cells : (b d : Block) (i n p : ℕ) (y : Switch) → p < n → cell_at d (i + p) ≡ y → ((k : ℕ) → i ≤ k → k < i + n → k ≢ i + p → cell_at d k ≡ cell_at b k) → cells_from d i n ≡ slice_set (cells_from b i n) p y
set-cells b d i zero p y lt here others = absurd (omega (arith, lt))
set-cells b d i (suc n) zero y lt here others =
    let same : i ≡ i + 0 = omega arith in
    ap (λ s. s ∷ cells_from d (suc i) n) (ap (cell_at d) same ∙ here)
    ∙ ap (λ xs. y ∷ xs) (same-cells b d (suc i) n (λ k low high. others k (omega (arith, low)) (omega (arith, high)) (λ e. absurd (omega (arith, e, low)))))
set-cells b d i (suc n) (suc p) y lt here others =
    let next : suc i + p ≡ i + suc p = omega arith in
    ap (λ s. s ∷ cells_from d (suc i) n) (others i (omega arith) (omega arith) (λ e. absurd (omega (arith, e))))
    ∙ ap (λ xs. cell_at b i ∷ xs) (set-cells b d (suc i) n p y (omega (arith, lt)) (ap (cell_at d) next ∙ here) (λ k low high apart. others k (omega (arith, low)) (omega (arith, high)) (λ e. apart (e ∙ sym next))))

pub set-laid : (bs : List Block) (q r : ℕ) (b d : Block) (y : Switch) → r < 64 → slice_get bs q ≡ Some b → cell_at d r ≡ y → ((k : ℕ) → k < 64 → k ≢ r → cell_at d k ≡ cell_at b k) → laid (slice_set bs q d) ≡ slice_set (laid bs) (64 * q + r) y
set-laid [] q r b d y lt at here others = cc
set-laid (e ∷ bs) zero r b d y lt at here others =
    let same : e ≡ b = cc in
    let place : 64 * 0 + r ≡ r = omega arith in
    let from-first : 0 + r ≡ r = omega arith in
    let changed : cells_from d 0 64 ≡ slice_set (cells_from e 0 64) r y = set-cells b d 0 64 r y lt (ap (cell_at d) from-first ∙ here) (λ k low high apart. others k (omega (arith, high)) (λ e. apart (e ∙ sym from-first))) ∙ ap (λ x. slice_set (cells_from x 0 64) r y) (sym same) in
    ap (λ xs. xs ++ laid bs) changed
    ∙ sym (set-append_left (cells_from e 0 64) (laid bs) r y (omega (arith, lt, length-cells e 0 64)))
    ∙ sym (ap (λ k. slice_set (laid (e ∷ bs)) k y) place)
set-laid (e ∷ bs) (suc q) r b d y lt at here others =
    let place : 64 * suc q + r ≡ length (cells_from e 0 64) + (64 * q + r) = omega (arith, length-cells e 0 64) in
    ap (λ xs. cells_from e 0 64 ++ xs) (set-laid bs q r b d y lt at here others)
    ∙ sym (set-right (cells_from e 0 64) (laid bs) (64 * q + r) y)
    ∙ sym (ap (λ k. slice_set (laid (e ∷ bs)) k y) place)

-- ---- some go into a block

pub laid-push : (bs : List Block) (b : Block) → laid (bs ++ b ∷ []) ≡ laid bs ++ cells_from b 0 64
laid-push [] b = append-nil (cells_from b 0 64)
laid-push (e ∷ bs) b = ap (λ xs. cells_from e 0 64 ++ xs) (laid-push bs b) ∙ sym (append_assoc (cells_from e 0 64) (laid bs) (cells_from b 0 64))

pub block-front : (b : Block) (i n : ℕ) (ts : List Switch) → ((p : ℕ) → p < n → slice_get ts p ≡ Some (cell_at b (i + p))) → cells_from b i n ++ drop n ts ≡ ts
block-front b i zero ts are = refl
block-front b i (suc n) [] are = let no = are 0 (omega arith) in cc
block-front b i (suc n) (t ∷ ts) are =
    let first : Some t ≡ Some (cell_at b (i + 0)) = are 0 (omega arith) in
    let here : t ≡ cell_at b (i + 0) = cc in
    let same : i + 0 ≡ i = omega arith in
    ap (λ s. s ∷ (cells_from b (suc i) n ++ drop n ts)) (sym (here ∙ ap (cell_at b) same))
    ∙ ap (λ xs. t ∷ xs) (block-front b (suc i) n ts (λ p lt. let next : i + suc p ≡ suc i + p = omega arith in are (suc p) (omega (arith, lt)) ∙ ap (λ k. Some (cell_at b k)) next))

-- ---- a block is passed

-- one after another is seen as a used one
pub pass-cells : (g c i n : ℕ) (es : List ℕ) (us cs : List Switch) (b : Block) → ((j : ℕ) → j < n → seen es (g + length us + j + 1) (cell_at b (i + j)) ≡ seen es (g + length us + j + 1) (switch.Used c)) → shown g es ((us ++ replicate n (switch.Used c)) ++ cs) ≡ shown g es (us ++ (cells_from b i n ++ cs))
pass-cells g c i zero es us cs b same = ap (λ xs. shown g es (xs ++ cs)) (append-nil us)
pass-cells g c i (suc n) es us cs b same =
    let one : List Switch = switch.Used c ∷ [] in
    let more : List Switch = us ++ one in
    let rest : List Switch = cells_from b (suc i) n ++ cs in
    let number : g + length us + 0 + 1 ≡ g + length us + 1 = omega arith in
    let at : i + 0 ≡ i = omega arith in
    let first : seen es (g + length us + 1) (cell_at b i) ≡ seen es (g + length us + 1) (switch.Used c) = subst (λ (k : ℕ). seen es k (cell_at b i) ≡ seen es k (switch.Used c)) number (subst (λ (k : ℕ). seen es (g + length us + 0 + 1) (cell_at b k) ≡ seen es (g + length us + 0 + 1) (switch.Used c)) at (same 0 (omega arith))) in
    let long : length more ≡ length us + 1 = length-append us one in
    let behind : (j : ℕ) → j < n → seen es (g + length more + j + 1) (cell_at b (suc i + j)) ≡ seen es (g + length more + j + 1) (switch.Used c) = λ j lt.
    let place : g + length us + suc j + 1 ≡ g + length more + j + 1 = omega (arith, long) in
    let next : i + suc j ≡ suc i + j = omega arith in
    subst (λ (k : ℕ). seen es k (cell_at b (suc i + j)) ≡ seen es k (switch.Used c)) place (subst (λ (k : ℕ). seen es (g + length us + suc j + 1) (cell_at b k) ≡ seen es (g + length us + suc j + 1) (switch.Used c)) next (same (suc j) (omega (arith, lt)))) in
    ap (λ xs. shown g es (xs ++ cs)) (sym (append_assoc us one (replicate n (switch.Used c))))
    ∙ pass-cells g c (suc i) n es more cs b behind
    ∙ passed-cell g (g + length us + 1) c es us rest (cell_at b i ∷ rest) (cell_at b i) refl refl first
