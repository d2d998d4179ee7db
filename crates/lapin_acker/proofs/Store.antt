-- What the calls do to ackers as they are stored.
use Rattle.std.proofs.Common.{◌≡◌, ℕ, zero, suc, ◌+◌, ◌<◌, ◌≤◌, Bool, true, false, cond, List, [], ◌∷◌, ◌++◌, map, replicate, length, Some, None, option_map, refl, sym, ◌∙◌, ap, subst, arith, slice_get, slice_set, inl, inr, append_assoc, get_or-set_same, get_or-set_other}
use Rattle.std.specs.Prelude.{nat_le}
use Rattle.std.proofs.lemmas.Bool.Decides.{eqb_tells, nat_tests}
use Rattle.lapin_acker.specs.declared.switch.Switch.{Switch}
use Rattle.lapin_acker.specs.declared.switch.Switch.TheVariants as switch
use Rattle.lapin_acker.specs.Switches.{used, over_on, map_numbered, after_mark, switch_at}
use Rattle.lapin_acker.specs.Store.{end_of, seen, shown}
use Rattle.lapin_acker.specs.Marks as mark
use Rattle.std.proofs.lemmas.Bool.{cases_lt}
use Rattle.std.proofs.lemmas.List.{set_past}
use Rattle.lapin_acker.specs.Store.{room_of}
use Rattle.lapin_acker.proofs.Numbers.{spent-at, spent-past}

-- ---- words on lists

pub length-numbered : (f : ℕ → Switch → Switch) (i : ℕ) (cs : List Switch) → length (map_numbered i f cs) ≡ length cs
length-numbered f i [] = refl
length-numbered f i (s ∷ cs) = ap suc (length-numbered f (suc i) cs)

length-behind : (g : ℕ) (xs : List Switch) → length (replicate g switch.Over ++ xs) ≡ g + length xs
length-behind zero xs = omega arith
length-behind (suc g) xs = let rest = length-behind g xs in omega arith

pub length-shown : (g : ℕ) (es : List ℕ) (cs : List Switch) → length (shown g es cs) ≡ g + length cs
length-shown g es cs = length-behind g (map_numbered g (seen es) cs) ∙ ap (λ n. g + n) (length-numbered (seen es) g cs)

get-front : (g p : ℕ) (xs : List Switch) → p < g → slice_get (replicate g switch.Over ++ xs) p ≡ Some switch.Over
get-front zero p xs lt = absurd (omega arith)
get-front (suc g) zero xs lt = refl
get-front (suc g) (suc p) xs lt = get-front g p xs (omega arith)

get-behind : (g p q : ℕ) (xs : List Switch) → q ≡ g + p → slice_get (replicate g switch.Over ++ xs) q ≡ slice_get xs p
get-behind zero p q xs e = let same : q ≡ p = omega arith in ap (slice_get xs) same
get-behind (suc g) p zero xs e = absurd (omega arith)
get-behind (suc g) p (suc q) xs e = get-behind g p q xs (omega arith)

set-behind : (g p q : ℕ) (y : Switch) (xs : List Switch) → q ≡ g + p → slice_set (replicate g switch.Over ++ xs) q y ≡ replicate g switch.Over ++ slice_set xs p y
set-behind zero p q y xs e = let same : q ≡ p = omega arith in ap (λ k. slice_set xs k y) same
set-behind (suc g) p zero y xs e = absurd (omega arith)
set-behind (suc g) p (suc q) y xs e = ap (λ ys. switch.Over ∷ ys) (set-behind g p q y xs (omega arith))

pub set-same : (xs : List Switch) (p : ℕ) (y : Switch) → slice_get xs p ≡ Some y → slice_set xs p y ≡ xs
set-same [] p y at = refl
set-same (x ∷ xs) zero y at = let same : x ≡ y = cc in ap (λ z. z ∷ xs) (sym same)
set-same (x ∷ xs) (suc p) y at = ap (λ ys. x ∷ ys) (set-same xs p y at)

get-numbered : (f : ℕ → Switch → Switch) (i p n : ℕ) (cs : List Switch) → n ≡ i + p + 1 → slice_get (map_numbered i f cs) p ≡ option_map (f n) (slice_get cs p)
get-numbered f i p n [] e = refl
get-numbered f i zero n (s ∷ cs) e = let same : suc i ≡ n = omega arith in ap (λ k. Some (f k s)) same
get-numbered f i (suc p) n (s ∷ cs) e = get-numbered f (suc i) p n cs (omega arith)

set-numbered : (f : ℕ → Switch → Switch) (i p n : ℕ) (t : Switch) (cs : List Switch) → n ≡ i + p + 1 → map_numbered i f (slice_set cs p t) ≡ slice_set (map_numbered i f cs) p (f n t)
set-numbered f i p n t [] e = refl
set-numbered f i zero n t (s ∷ cs) e = let same : suc i ≡ n = omega arith in ap (λ k. f k t ∷ map_numbered (suc i) f cs) same
set-numbered f i (suc p) n t (s ∷ cs) e = ap (λ ys. f (suc i) s ∷ ys) (set-numbered f (suc i) p n t cs (omega arith))

-- ---- reading

pub at-front : (n g : ℕ) (es : List ℕ) (cs : List Switch) → 1 ≤ n → n ≤ g → switch_at n (shown g es cs) ≡ Some switch.Over
at-front zero g es cs more le = absurd (omega arith)
at-front (suc p) g es cs more le = get-front g p (map_numbered g (seen es) cs) (omega arith)

pub at-cell : (n g p : ℕ) (es : List ℕ) (cs : List Switch) → n ≡ g + p + 1 → switch_at n (shown g es cs) ≡ option_map (seen es n) (slice_get cs p)
at-cell zero g p es cs e = absurd (omega arith)
at-cell (suc q) g p es cs e = get-behind g p q (map_numbered g (seen es) cs) (omega arith) ∙ get-numbered (seen es) g p (suc q) cs e

-- ---- an acker is used

used-if : (b : Bool) (c t : ℕ) → cond b switch.Over (switch.Used c) ≡ used (cond b switch.Over (switch.Usable c t))
used-if true c t = refl
used-if false c t = refl

used-again-if : (b : Bool) (c : ℕ) → cond b switch.Over (switch.Used c) ≡ used (cond b switch.Over (switch.Used c))
used-again-if true c = refl
used-again-if false c = refl

seen-used : (es : List ℕ) (n : ℕ) (s : Switch) → seen es n (used s) ≡ used (seen es n s)
seen-used es n (switch.Usable c t) = used-if (nat_le n (end_of c es)) c t
seen-used es n (switch.Used c) = used-again-if (nat_le n (end_of c es)) c
seen-used es n switch.Over = refl

pub spent-cell : (n g p : ℕ) (es : List ℕ) (cs : List Switch) (s : Switch) → n ≡ g + p + 1 → slice_get cs p ≡ Some s → shown g es (slice_set cs p (used s)) ≡ after_mark (shown g es cs) (mark.Spent n)
spent-cell n g p es cs s e at =
    let q : ℕ = g + p in
    let number : 0 + q + 1 ≡ n = omega arith in
    let there : slice_get (shown g es cs) q ≡ Some (seen es n s) = get-behind g p q (map_numbered g (seen es) cs) refl ∙ get-numbered (seen es) g p n cs e ∙ ap (option_map (seen es n)) at in
    ap (λ ys. replicate g switch.Over ++ ys) (set-numbered (seen es) g p n (used s) cs e)
    ∙ sym (set-behind g p q (seen es n (used s)) (map_numbered g (seen es) cs) refl)
    ∙ ap (slice_set (shown g es cs) q) (seen-used es n s)
    ∙ sym (spent-at 0 q (shown g es cs) (seen es n s) there)
    ∙ ap (λ k. after_mark (shown g es cs) (mark.Spent k)) number

pub spent-front : (n g : ℕ) (es : List ℕ) (cs : List Switch) → 1 ≤ n → n ≤ g → shown g es cs ≡ after_mark (shown g es cs) (mark.Spent n)
spent-front zero g es cs more le = absurd (omega arith)
spent-front (suc q) g es cs more le =
    let number : 0 + q + 1 ≡ suc q = omega arith in
    let there : slice_get (shown g es cs) q ≡ Some switch.Over = get-front g q (map_numbered g (seen es) cs) (omega arith) in
    sym (set-same (shown g es cs) q switch.Over there)
    ∙ sym (spent-at 0 q (shown g es cs) switch.Over there)
    ∙ ap (λ k. after_mark (shown g es cs) (mark.Spent k)) number

-- ---- an acker is added

push-numbered : (f : ℕ → Switch → Switch) (i n : ℕ) (x : Switch) (cs : List Switch) → n ≡ i + length cs + 1 → map_numbered i f (cs ++ x ∷ []) ≡ map_numbered i f cs ++ f n x ∷ []
push-numbered f i n x [] e = let same : suc i ≡ n = omega arith in ap (λ k. f k x ∷ []) same
push-numbered f i n x (s ∷ cs) e = ap (λ ys. f (suc i) s ∷ ys) (push-numbered f (suc i) n x cs (omega arith))

not-over : (n m : ℕ) (x y : Switch) → m < n → cond (nat_le n m) x y ≡ y
not-over n m x y lt = grind (arith, nat_tests)

pub pushed : (g c t : ℕ) (es : List ℕ) (cs : List Switch) → end_of c es ≤ g + length cs → shown g es (cs ++ switch.Usable c t ∷ []) ≡ shown g es cs ++ switch.Usable c t ∷ []
pushed g c t es cs le =
    let n : ℕ = g + length cs + 1 in
    ap (λ ys. replicate g switch.Over ++ ys) (push-numbered (seen es) g n (switch.Usable c t) cs refl)
    ∙ sym (append_assoc (replicate g switch.Over) (map_numbered g (seen es) cs) (seen es n (switch.Usable c t) ∷ []))
    ∙ ap (λ s. shown g es cs ++ s ∷ []) (not-over n (end_of c es) switch.Over (switch.Usable c t) (omega arith))

-- ---- an opening ends

pub is-over : (n m : ℕ) (x y : Switch) → n ≤ m → cond (nat_le n m) x y ≡ x
is-over n m x y le = grind (arith, nat_tests)

over-either : (b : Bool) (c : ℕ) (s : Switch) → over_on c s ≡ switch.Over → switch.Over ≡ over_on c (cond b switch.Over s)
over-either true c s e = refl
over-either false c s e = sym e

kept-either : (b : Bool) (c : ℕ) (s : Switch) → over_on c s ≡ s → cond b switch.Over s ≡ over_on c (cond b switch.Over s)
kept-either true c s e = refl
kept-either false c s e = sym e

own-end : (c d m : ℕ) (es : List ℕ) → c < length es → d ≡ c → end_of d (slice_set es c m) ≡ m
own-end c d m es lt e = ap (λ k. end_of k (slice_set es c m)) e ∙ get_or-set_same es c m 0 lt

seen-ended : (c m n : ℕ) (es : List ℕ) (s : Switch) → c < length es → n ≤ m → seen (slice_set es c m) n s ≡ over_on c (seen es n s)
seen-ended c m n es (switch.Usable d t) lt le =
    elim (eqb_tells d c) [
      | inl on ↦ ap (λ k. cond (nat_le n k) switch.Over (switch.Usable d t)) (own-end c d m es lt on.1) ∙ is-over n m switch.Over (switch.Usable d t) le
          ∙ over-either (nat_le n (end_of d es)) c (switch.Usable d t) (ap (λ b. cond b switch.Over (switch.Usable d t)) on.0)
      | inr off ↦ ap (λ k. cond (nat_le n k) switch.Over (switch.Usable d t)) (get_or-set_other es c d m 0 (λ e. off.1 e))
          ∙ kept-either (nat_le n (end_of d es)) c (switch.Usable d t) (ap (λ b. cond b switch.Over (switch.Usable d t)) off.0)
    ]
seen-ended c m n es (switch.Used d) lt le =
    elim (eqb_tells d c) [
      | inl on ↦ ap (λ k. cond (nat_le n k) switch.Over (switch.Used d)) (own-end c d m es lt on.1) ∙ is-over n m switch.Over (switch.Used d) le
          ∙ over-either (nat_le n (end_of d es)) c (switch.Used d) (ap (λ b. cond b switch.Over (switch.Used d)) on.0)
      | inr off ↦ ap (λ k. cond (nat_le n k) switch.Over (switch.Used d)) (get_or-set_other es c d m 0 (λ e. off.1 e))
          ∙ kept-either (nat_le n (end_of d es)) c (switch.Used d) (ap (λ b. cond b switch.Over (switch.Used d)) off.0)
    ]
seen-ended c m n es switch.Over lt le = refl

numbered-ended : (c m i : ℕ) (es : List ℕ) (cs : List Switch) → c < length es → i + length cs ≤ m → map_numbered i (seen (slice_set es c m)) cs ≡ map (over_on c) (map_numbered i (seen es) cs)
numbered-ended c m i es [] lt le = refl
numbered-ended c m i es (s ∷ cs) lt le =
    ap (λ x. x ∷ map_numbered (suc i) (seen (slice_set es c m)) cs) (seen-ended c m (suc i) es s lt (omega arith))
    ∙ ap (λ ys. over_on c (seen es (suc i) s) ∷ ys) (numbered-ended c m (suc i) es cs lt (omega arith))

front-ended : (c g : ℕ) (xs : List Switch) → map (over_on c) (replicate g switch.Over ++ xs) ≡ replicate g switch.Over ++ map (over_on c) xs
front-ended c zero xs = refl
front-ended c (suc g) xs = ap (λ ys. switch.Over ∷ ys) (front-ended c g xs)

pub ended : (c m g : ℕ) (es : List ℕ) (cs : List Switch) → c < length es → g + length cs ≤ m → shown g (slice_set es c m) cs ≡ map (over_on c) (shown g es cs)
ended c m g es cs lt le =
    ap (λ ys. replicate g switch.Over ++ ys) (numbered-ended c m g es cs lt le) ∙ sym (front-ended c g (map_numbered g (seen es) cs))

pub ended-none : (c g : ℕ) (es : List ℕ) (cs : List Switch) → length cs ≤ 0 → shown g es cs ≡ map (over_on c) (shown g es cs)
ended-none c g es [] none = sym (front-ended c g [])
ended-none c g es (s ∷ cs) none = absurd (omega arith)

-- ---- one at the front is let go

moved-front : (g : ℕ) (xs : List Switch) → replicate g switch.Over ++ switch.Over ∷ xs ≡ replicate (suc g) switch.Over ++ xs
moved-front zero xs = refl
moved-front (suc g) xs = ap (λ ys. switch.Over ∷ ys) (moved-front g xs)

pub let-go : (g h : ℕ) (es : List ℕ) (s : Switch) (cs ds : List Switch) → h ≡ g + 1 → cs ≡ s ∷ ds → seen es h s ≡ switch.Over → shown h es ds ≡ shown g es cs
let-go g h es s cs ds e is over =
    let number : h ≡ suc g = omega arith in
    ap (λ k. shown k es ds) number
    ∙ sym (moved-front g (map_numbered (suc g) (seen es) ds))
    ∙ ap (λ x. replicate g switch.Over ++ x ∷ map_numbered (suc g) (seen es) ds) (sym over ∙ ap (λ k. seen es k s) number)
    ∙ ap (shown g es) (sym is)

-- without a cell the table doesn't show
pub no-cells : (g : ℕ) (es fs : List ℕ) (cs : List Switch) → length cs ≤ 0 → shown g es cs ≡ shown g fs cs
no-cells g es fs [] none = refl
no-cells g es fs (s ∷ cs) none = absurd (omega arith)

-- a number that was let go, or 0
pub spent-gone : (n g : ℕ) (es : List ℕ) (cs : List Switch) → n ≤ g → shown g es cs ≡ after_mark (shown g es cs) (mark.Spent n)
spent-gone zero g es cs le = sym (spent-past 0 (shown g es cs) 0 (inl (omega arith)))
spent-gone (suc q) g es cs le = spent-front (suc q) g es cs (omega arith) le

-- ---- the table

pub room-table : (n s : ℕ) → 0 < room_of n s → n ≡ 65536
room-table n s more =
    elim (eqb_tells n 65536) [
      | inl on ↦ on.1
      | inr off ↦ let none : 0 < 0 = rw off.0 at more in absurd (omega arith)
    ]

pub set-bound : (es : List ℕ) (i m b : ℕ) → ((k : ℕ) → end_of k es ≤ b) → m ≤ b → (k : ℕ) → end_of k (slice_set es i m) ≤ b
set-bound es i m b low le k =
    elim (eqb_tells k i) [
      | inl on ↦ elim (cases_lt i (length es)) [
        | inl lt ↦ let same : end_of k (slice_set es i m) ≡ m = ap (λ j. end_of j (slice_set es i m)) on.1 ∙ get_or-set_same es i m 0 lt in omega arith
        | inr past ↦ subst (λ (fs : List ℕ). end_of k fs ≤ b) (sym (set_past es i m past)) (low k)
      ]
      | inr off ↦ let same : end_of k (slice_set es i m) ≡ end_of k es = get_or-set_other es i k m 0 off.1 in omega (arith, low k)
    ]

pub get-past : (xs : List Switch) (p : ℕ) → length xs ≤ p → slice_get xs p ≡ None
get-past [] p past = refl
get-past (x ∷ xs) zero past = absurd (omega arith)
get-past (x ∷ xs) (suc p) past = get-past xs p (omega arith)
