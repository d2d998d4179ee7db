-- What a change of one acker does to the list.
use Rattle.std.proofs.Common.{◌≡◌, ◌≢◌, ℕ, zero, suc, ◌+◌, ◌<◌, ◌≤◌, ◌==◌, Bool, true, false, cond, ◌||◌, List, [], ◌∷◌, ◌++◌, map, take, drop, length, Some, refl, sym, ◌∙◌, ap, subst, arith, ◌-◌, slice_get, slice_set, get_or, ◌⊎◌, inl, inr, ne_eqb}
use Rattle.std.proofs.lemmas.Bool.Decides.{eqb_tells}
use Rattle.lapin_acker.specs.declared.switch.Switch.{Switch}
use Rattle.lapin_acker.specs.declared.switch.Switch.TheVariants as switch
use Rattle.lapin_acker.specs.Switches.{Board, used, over_on, map_numbered, moved, names, after_mark, voided}
use Rattle.lapin_acker.specs.Marks as mark
use Rattle.std.proofs.lemmas.List.Edits.{map_over_more}
use Rattle.std.proofs.lemmas.List.{get_or_default}

-- a mark that moves none of these numbers
pub kept : (f : ℕ → Switch → Switch) (i : ℕ) (ss : List Switch) → ((k : ℕ) (s : Switch) → i < k → f k s ≡ s) → map_numbered i f ss ≡ ss
kept f i [] same = refl
kept f i (s ∷ ss) same =
    let here : f (suc i) s ≡ s = same (suc i) s (omega arith) in
    let rest : map_numbered (suc i) f ss ≡ ss = kept f (suc i) ss (λ k s above. same k s (omega arith)) in
    cc

spent-other : (k n : ℕ) (s : Switch) → k ≢ n → moved (mark.Spent k) n s ≡ s
spent-other k n s apart = rw (ne_eqb k n apart) refl

-- an acker that is used stands at its place
pub spent-at : (i p : ℕ) (ss : List Switch) (s : Switch) → slice_get ss p ≡ Some s → map_numbered i (moved (mark.Spent (i + p + 1))) ss ≡ slice_set ss p (used s)
spent-at i p [] s at = cc
spent-at i zero (t ∷ ss) s at =
    let same : t ≡ s = cc in
    let n : i + 0 + 1 ≡ suc i = omega arith in
    let first : moved (mark.Spent (i + 0 + 1)) (suc i) t ≡ used s = elim (eqb_tells (i + 0 + 1) (suc i)) [ inl on ↦ rw on.0 (ap used same) | inr off ↦ absurd (off.1 n) ] in
    let rest : map_numbered (suc i) (moved (mark.Spent (i + 0 + 1))) ss ≡ ss = kept (moved (mark.Spent (i + 0 + 1))) (suc i) ss (λ k u above. spent-other (i + 0 + 1) k u (λ e. absurd (omega arith))) in
    cc
spent-at i (suc p) (t ∷ ss) s at =
    let n : i + suc p + 1 ≡ suc i + p + 1 = omega arith in
    let first : moved (mark.Spent (i + suc p + 1)) (suc i) t ≡ t = spent-other (i + suc p + 1) (suc i) t (λ e. absurd (omega arith)) in
    let rest : map_numbered (suc i) (moved (mark.Spent (suc i + p + 1))) ss ≡ slice_set ss p (used s) = spent-at (suc i) p ss s at in
    let rest2 : map_numbered (suc i) (moved (mark.Spent (i + suc p + 1))) ss ≡ slice_set ss p (used s) = rw n rest in
    cc

-- a number that was never given
pub spent-past : (k : ℕ) (ss : List Switch) (i : ℕ) → (k ≤ i) ⊎ (i + length ss < k) → map_numbered i (moved (mark.Spent k)) ss ≡ ss
spent-past k [] i away = refl
spent-past k (s ∷ ss) i away =
    let apart : k ≢ suc i = λ e. elim away [ inl low ↦ absurd (omega arith) | inr high ↦ absurd (omega arith) ] in
    let first : moved (mark.Spent k) (suc i) s ≡ s = spent-other k (suc i) s apart in
    let away2 : (k ≤ suc i) ⊎ (suc i + length ss < k) = elim away [ inl low ↦ inl (omega arith) | inr high ↦ inr (omega arith) ] in
    let rest : map_numbered (suc i) (moved (mark.Spent k)) ss ≡ ss = spent-past k ss (suc i) away2 in
    cc

-- ---- several ackers

-- used once more is used
pub used-again : (s : Switch) (a b : Bool) → cond b (used (cond a (used s) s)) (cond a (used s) s) ≡ cond (a || b) (used s) s
used-again s false b = refl
used-again s true false = refl
used-again (switch.Usable c t) true true = refl
used-again (switch.Used c) true true = refl
used-again switch.Over true true = refl

void-more : (i k : ℕ) (ks : List ℕ) (ss : List Switch) → map_numbered i (moved (mark.Voided ks)) (map_numbered i (moved (mark.Spent k)) ss) ≡ map_numbered i (moved (mark.Voided (k ∷ ks))) ss
void-more i k ks [] = refl
void-more i k ks (s ∷ ss) =
    let first : moved (mark.Voided ks) (suc i) (moved (mark.Spent k) (suc i) s) ≡ moved (mark.Voided (k ∷ ks)) (suc i) s = used-again s (k == suc i) (names ks (suc i)) in
    let rest : map_numbered (suc i) (moved (mark.Voided ks)) (map_numbered (suc i) (moved (mark.Spent k)) ss) ≡ map_numbered (suc i) (moved (mark.Voided (k ∷ ks))) ss = void-more (suc i) k ks ss in
    cc

void-none : (i : ℕ) (ss : List Switch) → ss ≡ map_numbered i (moved (mark.Voided [])) ss
void-none i [] = refl
void-none i (s ∷ ss) = ap (λ ts. s ∷ ts) (void-none (suc i) ss)

-- one after another is all at once
pub voided-is : (ks : List ℕ) (ss : List Switch) → voided ks ss ≡ after_mark ss (mark.Voided ks)
voided-is [] ss = void-none 0 ss
voided-is (k ∷ ks) ss = voided-is ks (after_mark ss (mark.Spent k)) ∙ void-more 0 k ks ss

pub voided-append : (js ks : List ℕ) (ss : List Switch) → voided (js ++ ks) ss ≡ voided ks (voided js ss)
voided-append [] ks ss = refl
voided-append (j ∷ js) ks ss = voided-append js ks (after_mark ss (mark.Spent j))

-- ---- all ackers

pub ended-is : (i c : ℕ) (ss : List Switch) → map (over_on c) ss ≡ map_numbered i (moved (mark.Ended c)) ss
ended-is i c [] = refl
ended-is i c (s ∷ ss) = ap (λ ts. over_on c s ∷ ts) (ended-is (suc i) c ss)

pub over-step : {X : Type 0} (f : X → X) (xs ys : List X) (i : ℕ) (d t : X) → i < length xs → length ys ≡ length xs → ys ≡ map f (take i xs) ++ drop i xs → t ≡ f (get_or ys i d) → slice_set ys i t ≡ map f (take (i + 1) xs) ++ drop (i + 1) xs
over-step f xs ys i d t lt len done is = ap (slice_set ys i) is ∙ map_over_more f xs ys i (get_or ys i d) lt done (get_or_default ys i d (get_or ys i d) (omega arith))

-- ---- in the code's words

pub at-get_or : (xs : List Switch) (p : ℕ) (s : Switch) → p < length xs → s ≡ get_or xs p s → slice_get xs p ≡ Some s
at-get_or [] p s within is = absurd (omega arith)
at-get_or (x ∷ xs) zero s within is = ap Some (sym is)
at-get_or (x ∷ xs) (suc p) s within is = at-get_or xs p s (omega arith) is

pub one-spent : (n p : ℕ) (s t : Switch) (b : Board) (xs : List Switch) → xs ≡ b.switches → 1 ≤ n → p ≡ n - 1 → p < length xs → s ≡ get_or xs p s → t ≡ used s → slice_set xs p t ≡ after_mark b.switches (mark.Spent n)
one-spent n p s t b xs view more e within is became =
    let number : n ≡ 0 + p + 1 = omega arith in
    let P : ℕ → Type 0 = λ k. slice_set xs p t ≡ after_mark b.switches (mark.Spent k) in
    let Q : List Switch → Type 0 = λ ys. slice_set xs p t ≡ after_mark ys (mark.Spent (0 + p + 1)) in
    subst P (sym number) (subst Q view (ap (slice_set xs p) became ∙ sym (spent-at 0 p xs s (at-get_or xs p s within is))))

pub none-spent : (n : ℕ) (b : Board) → (n ≤ 0) ⊎ (0 + length b.switches < n) → b.switches ≡ after_mark b.switches (mark.Spent n)
none-spent n b away = sym (spent-past n b.switches 0 away)

pub added-is : (c o t : ℕ) (b : Board) (xs : List Switch) → xs ≡ b.switches → xs ++ switch.Usable c t ∷ [] ≡ after_mark b.switches (mark.Added c o t)
added-is c o t b xs view =
    let still : map_numbered 0 (moved (mark.Added c o t)) b.switches ≡ b.switches = kept (moved (mark.Added c o t)) 0 b.switches (λ k s above. refl) in
    ap (λ ss. ss ++ switch.Usable c t ∷ []) (view ∙ sym still)
