-- The ackers that follow a history follow the longer one, and one that was used stays so.
use Rattle.std.proofs.Common.{◌≡◌, ℕ, zero, suc, ◌+◌, ◌<◌, ◌≤◌, ◌==◌, Bool, true, false, cond, ◌||◌, List, [], ◌∷◌, ◌++◌, Some, refl, sym, ◌∙◌, ap, arith, slice_get, inl, inr, eq-eqb, ne_eqb}
use Rattle.std.specs.List.{list_any}
use Rattle.std.proofs.lemmas.Bool.Decides.{eqb_tells}
use Rattle.lapin_acker.specs.declared.switch.Switch.{Switch}
use Rattle.lapin_acker.specs.declared.switch.Switch.TheVariants as switch
use Rattle.lapin_acker.specs.Switches.{switch_at, is_usable, used, over_on, names, map_numbered, moved, joined, after_mark}
use Rattle.lapin_acker.specs.Marks.{AckerMark}
use Rattle.lapin_acker.specs.Marks as mark
use Rattle.lapin_acker.specs.Readings.{ends, uses, switch_by, ackers_from, ackers, given, Follows}

any-push : {X : Type 0} (p : X → Bool) (xs : List X) (y : X) → list_any p (xs ++ y ∷ []) ≡ (list_any p xs || p y)
any-push p [] y = elim (p y) as (λ b. (b || false) ≡ b) [ true ↦ refl | false ↦ refl ]
any-push p (x ∷ xs) y = elim (p x) as (λ b. (b || list_any p (xs ++ y ∷ [])) ≡ ((b || list_any p xs) || p y)) [ true ↦ refl | false ↦ any-push p xs y ]

-- the switch as a function of what came: whether its opening ended, and whether it was used
abbrev as_came : ℕ → ℕ → Bool → Bool → Switch
as_came c t over used = cond over switch.Over (cond used (switch.Used c) (switch.Usable c t))

came-spent : (c t : ℕ) (o u b : Bool) → as_came c t (o || false) (u || b) ≡ cond b (used (as_came c t o u)) (as_came c t o u)
came-spent c t true true true = refl
came-spent c t true true false = refl
came-spent c t true false true = refl
came-spent c t true false false = refl
came-spent c t false true true = refl
came-spent c t false true false = refl
came-spent c t false false true = refl
came-spent c t false false false = refl

swapped : (a b : ℕ) → (a == b) ≡ (b == a)
swapped a b =
    elim (eqb_tells a b) [
      | inl on ↦ on.0 ∙ sym (eq-eqb b a (sym on.1))
      | inr off ↦ off.0 ∙ sym (ne_eqb b a (λ e. off.1 (sym e)))
    ]

came-ended : (c d t : ℕ) (o u : Bool) → as_came c t (o || (d == c)) (u || false) ≡ over_on d (as_came c t o u)
came-ended c d t true true = refl
came-ended c d t true false = refl
came-ended c d t false true = ap (λ b. cond b switch.Over (switch.Used c)) (swapped d c)
came-ended c d t false false = ap (λ b. cond b switch.Over (switch.Usable c t)) (swapped d c)

came-none : (c t : ℕ) (o u : Bool) → as_came c t (o || false) (u || false) ≡ as_came c t o u
came-none c t true true = refl
came-none c t true false = refl
came-none c t false true = refl
came-none c t false false = refl

switch-push : (n c t : ℕ) (later : List AckerMark) (m : AckerMark) → switch_by n c t (later ++ m ∷ []) ≡ moved m n (switch_by n c t later)
switch-push n c t later m = rw (any-push (ends c) later m, any-push (uses n) later m) (by-mark m)
  where
    by-mark : (m : AckerMark) → as_came c t (list_any (ends c) later || ends c m) (list_any (uses n) later || uses n m) ≡ moved m n (as_came c t (list_any (ends c) later) (list_any (uses n) later))
    by-mark (mark.Added d o u) = came-none c t (list_any (ends c) later) (list_any (uses n) later)
    by-mark (mark.Spent k) = came-spent c t (list_any (ends c) later) (list_any (uses n) later) (k == n)
    by-mark (mark.Voided ks) = came-spent c t (list_any (ends c) later) (list_any (uses n) later) (names ks n)
    by-mark (mark.Ended d) = came-ended c d t (list_any (ends c) later) (list_any (uses n) later)

-- a mark moves those that are there, and an added one joins them
abbrev after_from : ℕ → List Switch → AckerMark → List Switch
after_from i ss m = joined m (map_numbered i (moved m) ss)

joined-cons : (m : AckerMark) (s : Switch) (ss : List Switch) → joined m (s ∷ ss) ≡ s ∷ joined m ss
joined-cons (mark.Added c o t) s ss = refl
joined-cons (mark.Spent k) s ss = refl
joined-cons (mark.Voided ks) s ss = refl
joined-cons (mark.Ended c) s ss = refl

alone : (i : ℕ) (m : AckerMark) → ackers_from i (m ∷ []) ≡ joined m []
alone i (mark.Added c o t) = refl
alone i (mark.Spent k) = refl
alone i (mark.Voided ks) = refl
alone i (mark.Ended c) = refl

ackers-push : (i : ℕ) (ms : List AckerMark) (m : AckerMark) → ackers_from i (ms ++ m ∷ []) ≡ after_from i (ackers_from i ms) m
ackers-push i [] m = alone i m
ackers-push i (mark.Added c o t ∷ ms) m =
    let first : switch_by (suc i) c t (ms ++ m ∷ []) ≡ moved m (suc i) (switch_by (suc i) c t ms) = switch-push (suc i) c t ms m in
    let rest : ackers_from (suc i) (ms ++ m ∷ []) ≡ after_from (suc i) (ackers_from (suc i) ms) m = ackers-push (suc i) ms m in
    ap (λ s. s ∷ ackers_from (suc i) (ms ++ m ∷ [])) first
    ∙ ap (λ ss. moved m (suc i) (switch_by (suc i) c t ms) ∷ ss) rest
    ∙ sym (joined-cons m (moved m (suc i) (switch_by (suc i) c t ms)) (map_numbered (suc i) (moved m) (ackers_from (suc i) ms)))
ackers-push i (mark.Spent k ∷ ms) m = ackers-push i ms m
ackers-push i (mark.Voided ks ∷ ms) m = ackers-push i ms m
ackers-push i (mark.Ended c ∷ ms) m = ackers-push i ms m

pub follows-push : (ms : List AckerMark) (ss : List Switch) (m : AckerMark) → Follows ms ss → Follows (ms ++ m ∷ []) (after_mark ss m)
follows-push ms ss m follows = ap (λ ts. after_mark ts m) follows ∙ sym (ackers-push 0 ms m)

-- ---- an acker that was used, or whose delivery became void

any-within : {X : Type 0} (p : X → Bool) (xs ys : List X) (y : X) → p y ≡ true → list_any p (xs ++ y ∷ ys) ≡ true
any-within p [] ys y is = rw is refl
any-within p (x ∷ xs) ys y is = elim (p x) as (λ b. (b || list_any p (xs ++ y ∷ ys)) ≡ true) [ true ↦ refl | false ↦ any-within p xs ys y is ]

not-usable : (c t : ℕ) (o u : Bool) → u ≡ true → is_usable (Some (as_came c t o u)) ≡ false
not-usable c t true true is = refl
not-usable c t false true is = refl
not-usable c t o false is = cc

used-within : (i p : ℕ) (ms later : List AckerMark) (m : AckerMark) → p < given ms → uses (suc (i + p)) m ≡ true → is_usable (slice_get (ackers_from i (ms ++ m ∷ later)) p) ≡ false
used-within i p [] later m there is = absurd (omega arith)
used-within i zero (mark.Added c o t ∷ ms) later m there is =
    let n : i + 0 ≡ i = omega arith in
    let here : uses (suc i) m ≡ true = rw n at is in
    not-usable c t (list_any (ends c) (ms ++ m ∷ later)) (list_any (uses (suc i)) (ms ++ m ∷ later)) (any-within (uses (suc i)) ms later m here)
used-within i (suc p) (mark.Added c o t ∷ ms) later m there is =
    let n : i + suc p ≡ suc i + p = omega arith in
    let next : uses (suc (suc i + p)) m ≡ true = rw n at is in
    used-within (suc i) p ms later m (omega arith) next
used-within i p (mark.Spent k ∷ ms) later m there is = used-within i p ms later m there is
used-within i p (mark.Voided ks ∷ ms) later m there is = used-within i p ms later m there is
used-within i p (mark.Ended c ∷ ms) later m there is = used-within i p ms later m there is

pub used-for-good : (n : ℕ) (ms later : List AckerMark) (m : AckerMark) → n ≤ given ms → uses n m ≡ true → is_usable (switch_at n (ackers (ms ++ m ∷ later))) ≡ false
used-for-good zero ms later m there is = refl
used-for-good (suc p) ms later m there is =
    let e : 0 + p ≡ p = omega arith in
    let here : uses (suc (0 + p)) m ≡ true = rw e is in
    used-within 0 p ms later m (omega arith) here
