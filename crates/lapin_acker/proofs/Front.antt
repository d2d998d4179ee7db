-- What the calls do to the ackers at the front, which have no cell.
use Rattle.std.proofs.Common.{◌≡◌, ℕ, zero, suc, ◌+◌, ◌-◌, ◌<◌, ◌≤◌, List, [], ◌∷◌, ◌++◌, drop, replicate, length, Some, None, refl, sym, ◌∙◌, ap, subst, arith, slice_get, slice_set, get_or, inl, inr, append_assoc}
use Rattle.std.proofs.lemmas.Bool.{cases_lt}
use Rattle.lapin_acker.specs.declared.switch.Switch.{Switch}
use Rattle.lapin_acker.specs.declared.switch.Switch.TheVariants as switch
use Rattle.lapin_acker.specs.Switches.{used, map_numbered, after_mark}
use Rattle.lapin_acker.specs.Store.{end_of, seen, shown, spelled}
use Rattle.lapin_acker.specs.Marks as mark
use Rattle.lapin_acker.proofs.Store.{let-go, spent-cell, spent-gone, set-same, is-over}
use Rattle.std.proofs.lemmas.Grind.{replicate_next}
use Rattle.std.proofs.lemmas.List.{append-nil}

abbrev pub AreUsed : List Switch → Type 0
AreUsed us = (p : ℕ) (s : Switch) → slice_get us p ≡ Some s → used s ≡ s

used-replicate : (k c : ℕ) (p : ℕ) (s : Switch) → slice_get (replicate k (switch.Used c)) p ≡ Some s → used s ≡ s
used-replicate zero c p s at = cc
used-replicate (suc k) c zero s at = let same : switch.Used c ≡ s = cc in subst (λ (t : Switch). used t ≡ t) same refl
used-replicate (suc k) c (suc q) s at = used-replicate k c q s at

used-append : (us vs : List Switch) → AreUsed us → AreUsed vs → (p : ℕ) (s : Switch) → slice_get (us ++ vs) p ≡ Some s → used s ≡ s
used-append [] vs first rest p s at = rest p s at
used-append (u ∷ us) vs first rest zero s at = first 0 s at
used-append (u ∷ us) vs first rest (suc q) s at = used-append us vs (λ r t there. first (suc r) t there) rest q s at

used-spelled : (rs : List (ℕ × ℕ)) (p : ℕ) (s : Switch) → slice_get (spelled rs) p ≡ Some s → used s ≡ s
used-spelled [] p s at = cc
used-spelled (r ∷ rs) p s at = used-append (replicate r.0 (switch.Used r.1)) (spelled rs) (used-replicate r.0 r.1) (used-spelled rs) p s at

pub all-used : (rs : List (ℕ × ℕ)) (k c : ℕ) (p : ℕ) (s : Switch) → slice_get (spelled rs ++ replicate k (switch.Used c)) p ≡ Some s → used s ≡ s
all-used rs k c = used-append (spelled rs) (replicate k (switch.Used c)) (used-spelled rs) (used-replicate k c)

-- ---- one more

pub one-more : (us : List Switch) (k c : ℕ) → us ++ replicate (k + 1) (switch.Used c) ≡ (us ++ replicate k (switch.Used c)) ++ switch.Used c ∷ []
one-more us k c = ap (λ vs. us ++ vs) (replicate_next k (switch.Used c)) ∙ sym (append_assoc us (replicate k (switch.Used c)) (switch.Used c ∷ []))

pub run-closed : (rs : List (ℕ × ℕ)) (k c : ℕ) → spelled (rs ++ (k, c) ∷ []) ≡ spelled rs ++ replicate k (switch.Used c)
run-closed [] k c = append-nil (replicate k (switch.Used c))
run-closed (r ∷ rs) k c = ap (λ vs. replicate r.0 (switch.Used r.1) ++ vs) (run-closed rs k c) ∙ sym (append_assoc (replicate r.0 (switch.Used r.1)) (spelled rs) (replicate k (switch.Used c)))

-- ---- a run is let go

pub run-let_go : (k g h c : ℕ) (es : List ℕ) (cs : List Switch) → h ≡ g + k → h ≤ end_of c es → shown h es cs ≡ shown g es (replicate k (switch.Used c) ++ cs)
run-let_go zero g h c es cs is le = let same : h ≡ g = omega arith in ap (λ n. shown n es cs) same
run-let_go (suc k) g h c es cs is le =
    let over : seen es (g + 1) (switch.Used c) ≡ switch.Over = is-over (g + 1) (end_of c es) switch.Over (switch.Used c) (omega arith) in
    run-let_go k (g + 1) h c es cs (omega arith) le
    ∙ let-go g (g + 1) es (switch.Used c) (switch.Used c ∷ replicate k (switch.Used c) ++ cs) (replicate k (switch.Used c) ++ cs) refl refl over

-- ---- a used acker is used once more

pub get-left : (us cs : List Switch) (p : ℕ) → p < length us → slice_get (us ++ cs) p ≡ slice_get us p
get-left [] cs p h = absurd (omega arith)
get-left (u ∷ us) cs zero h = refl
get-left (u ∷ us) cs (suc p) h = get-left us cs p (omega arith)

pub get-there : (us : List Switch) (p : ℕ) → p < length us → (s : Switch) × (slice_get us p ≡ Some s)
get-there [] p h = absurd (omega arith)
get-there (u ∷ us) zero h = (u, refl)
get-there (u ∷ us) (suc p) h = get-there us p (omega arith)

pub spent-passed : (n g : ℕ) (es : List ℕ) (us cs : List Switch) → n ≤ g + length us → ((p : ℕ) (s : Switch) → slice_get us p ≡ Some s → used s ≡ s) → shown g es (us ++ cs) ≡ after_mark (shown g es (us ++ cs)) (mark.Spent n)
spent-passed n g es us cs le are =
    elim (cases_lt g n) [
      | inr low ↦ spent-gone n g es (us ++ cs) low
      | inl above ↦
          let p : ℕ = n - g - 1 in
          let number : n ≡ g + p + 1 = omega arith in
          let within : p < length us = omega arith in
          let there = get-there us p within in
          let at : slice_get (us ++ cs) p ≡ Some there.0 = get-left us cs p within ∙ there.1 in
          ap (shown g es) (sym (ap (slice_set (us ++ cs) p) (are p there.0 there.1) ∙ set-same (us ++ cs) p there.0 at)) ∙ spent-cell n g p es (us ++ cs) there.0 number at
    ]

pub run-front : (rs ds : List (ℕ × ℕ)) (f : ℕ × ℕ) (k c g h : ℕ) (es : List ℕ) (cs : List Switch) → rs ≡ f ∷ ds → h ≡ g + f.0 → h ≤ end_of f.1 es → shown h es ((spelled ds ++ replicate k (switch.Used c)) ++ cs) ≡ shown g es ((spelled rs ++ replicate k (switch.Used c)) ++ cs)
run-front rs ds f k c g h es cs is number le =
    let run : List Switch = replicate f.0 (switch.Used f.1) in
    let last : List Switch = replicate k (switch.Used c) in
    run-let_go f.0 g h f.1 es ((spelled ds ++ last) ++ cs) number le
    ∙ ap (shown g es) (sym (append_assoc run (spelled ds ++ last) cs) ∙ ap (λ us. us ++ cs) (sym (append_assoc run (spelled ds) last)) ∙ ap (λ ss. (spelled ss ++ last) ++ cs) (sym is))

pub front-of : {X : Type 0} (f : X) (rs : List X) → 0 < length rs → f ≡ get_or rs 0 f → rs ≡ f ∷ drop 1 rs
front-of f [] more is = absurd (omega arith)
front-of f (r ∷ rs) more is = ap (λ x. x ∷ rs) (sym is)

-- ---- a cell is taken away

numbered-swap : (f : ℕ → Switch → Switch) (i n : ℕ) (us : List Switch) (a b : Switch) (ds : List Switch) → n ≡ i + length us + 1 → f n a ≡ f n b → map_numbered i f (us ++ a ∷ ds) ≡ map_numbered i f (us ++ b ∷ ds)
numbered-swap f i n [] a b ds is same =
    let at : n ≡ suc i = omega arith in
    let here : f (suc i) a ≡ f (suc i) b = subst (λ k. f k a ≡ f k b) at same in
    ap (λ s. s ∷ map_numbered (suc i) f ds) here
numbered-swap f i n (u ∷ us) a b ds is same = ap (λ ss. f (suc i) u ∷ ss) (numbered-swap f (suc i) n us a b ds (omega arith) same)

pub passed-cell : (g n c : ℕ) (es : List ℕ) (us ds cs : List Switch) (s : Switch) → cs ≡ s ∷ ds → n ≡ g + length us + 1 → seen es n s ≡ seen es n (switch.Used c) → shown g es ((us ++ switch.Used c ∷ []) ++ ds) ≡ shown g es (us ++ cs)
passed-cell g n c es us ds cs s is number same =
    ap (shown g es) (append_assoc us (switch.Used c ∷ []) ds)
    ∙ ap (λ xs. replicate g switch.Over ++ xs) (sym (numbered-swap (seen es) g n us s (switch.Used c) ds number same))
    ∙ ap (λ xs. shown g es (us ++ xs)) (sym is)

pub get-right : (us cs : List Switch) (p : ℕ) → slice_get (us ++ cs) (length us + p) ≡ slice_get cs p
get-right [] cs p = let same : 0 + p ≡ p = omega arith in ap (slice_get cs) same
get-right (u ∷ us) cs p = let next : suc (length us) + p ≡ suc (length us + p) = omega arith in ap (slice_get (u ∷ us ++ cs)) next ∙ get-right us cs p

pub set-right : (us cs : List Switch) (p : ℕ) (y : Switch) → slice_set (us ++ cs) (length us + p) y ≡ us ++ slice_set cs p y
set-right [] cs p y = let same : 0 + p ≡ p = omega arith in ap (λ i. slice_set cs i y) same
set-right (u ∷ us) cs p y = let next : suc (length us) + p ≡ suc (length us + p) = omega arith in ap (λ i. slice_set (u ∷ us ++ cs) i y) next ∙ ap (λ xs. u ∷ xs) (set-right us cs p y)

pub not-none : (us : List Switch) (p : ℕ) → p < length us → None ≡ slice_get us p → ⊥
not-none us p h none = let there = get-there us p h in let no : None ≡ Some there.0 = none ∙ there.1 in cc

-- ---- which run holds a place

pub in-run : (k c p : ℕ) (vs : List Switch) → p < k → slice_get (replicate k (switch.Used c) ++ vs) p ≡ Some (switch.Used c)
in-run zero c p vs h = absurd (omega arith)
in-run (suc k) c zero vs h = refl
in-run (suc k) c (suc p) vs h = in-run k c p vs (omega arith)

pub past-run : (k c p q : ℕ) (vs : List Switch) → p ≡ k + q → slice_get (replicate k (switch.Used c) ++ vs) p ≡ slice_get vs q
past-run zero c p q vs is = let same : p ≡ q = omega arith in ap (slice_get vs) same
past-run (suc k) c zero q vs is = absurd (omega arith)
past-run (suc k) c (suc p) q vs is = past-run k c p q vs (omega arith)

pub past-all : (k c p : ℕ) → k ≤ p → slice_get (replicate k (switch.Used c)) p ≡ None
past-all zero c p h = refl
past-all (suc k) c zero h = absurd (omega arith)
past-all (suc k) c (suc p) h = past-all k c p (omega arith)

pub in-last : (k c p : ℕ) → p < k → slice_get (replicate k (switch.Used c)) p ≡ Some (switch.Used c)
in-last zero c p h = absurd (omega arith)
in-last (suc k) c zero h = refl
in-last (suc k) c (suc p) h = in-last k c p (omega arith)

-- the runs from one on, which is read
pub run-read : (i : ℕ) (rs : List (ℕ × ℕ)) (read : ℕ × ℕ) (vs : List Switch) → i < length rs → read ≡ get_or rs i read → spelled (drop i rs) ++ vs ≡ replicate read.0 (switch.Used read.1) ++ (spelled (drop (i + 1) rs) ++ vs)
run-read i [] read vs h is = absurd (omega arith)
run-read zero (d ∷ rs) read vs h is =
    let P : ℕ × ℕ → Type 0 = λ e. (replicate d.0 (switch.Used d.1) ++ spelled rs) ++ vs ≡ replicate e.0 (switch.Used e.1) ++ (spelled rs ++ vs) in
    subst P (sym is) (append_assoc (replicate d.0 (switch.Used d.1)) (spelled rs) vs)
run-read (suc i) (d ∷ rs) read vs h is =
    let next : suc (i + 1) ≡ suc i + 1 = omega arith in
    run-read i rs read vs (omega arith) is ∙ ap (λ n. replicate read.0 (switch.Used read.1) ++ (spelled (drop n (d ∷ rs)) ++ vs)) next

pub past-runs : (i : ℕ) (rs : List (ℕ × ℕ)) (vs : List Switch) → length rs ≤ i → spelled (drop i rs) ++ vs ≡ vs
past-runs zero [] vs h = refl
past-runs (suc i) [] vs h = refl
past-runs zero (d ∷ rs) vs h = absurd (omega arith)
past-runs (suc i) (d ∷ rs) vs h = past-runs i rs vs (omega arith)

pub first-cell : (cs ds : List Switch) → 0 < length cs → ds ≡ drop 1 cs → (s : Switch) × (cs ≡ s ∷ ds) × (slice_get cs 0 ≡ Some s)
first-cell [] ds more is = absurd (omega arith)
first-cell (c ∷ cs) ds more is = (c, ap (λ xs. c ∷ xs) (sym is), refl)

pub at-passed : (us cs : List Switch) (p : ℕ) → p < length us → slice_get (us ++ cs) p ≡ slice_get us p
at-passed = get-left
