-- What changing one entry of a log does to it.
use Rattle.std.proofs.Common.{◌≡◌, ℕ, ◌<◌, ◌++◌, List, [], ◌∷◌, length, refl, ◌∙◌, ap, arith, Some, None, get_or}
use Rattle.std.specs.Prelude.{slice_get, slice_set, zero, suc}
use Rattle.lapin_types.specs.declared.record.Record.{Record}
use Rattle.lapin_locked.specs.declared.entry.Told.{Told}
use Rattle.lapin_locked.specs.Known.{told}
use Rattle.lapin_shared.specs.Grown.{Seen}
use Rattle.lapin_shared.specs.Read.{answered, unread}

pub answered_put : (ts : List Told) (k : ℕ) (r : Record) (d : Told) → k < length ts → d ≡ get_or ts k d → slice_set ts k (told d.place d.event (Some r)) ≡ answered ts k r
answered_put [] k r d lt is = absurd (omega arith)
answered_put (t ∷ ts) zero r d lt is = ap (λ u. told u.place u.event (Some r) ∷ ts) is
answered_put (t ∷ ts) (suc k) r d lt is = ap (λ us. t ∷ us) (answered_put ts k r d (omega arith) is)

pub unread_put : (ts : List Told) (k : ℕ) (d : Told) → k < length ts → d ≡ get_or ts k d → slice_set ts k (told d.place d.event None) ≡ unread ts k
unread_put [] k d lt is = absurd (omega arith)
unread_put (t ∷ ts) zero d lt is = ap (λ u. told u.place u.event None ∷ ts) is
unread_put (t ∷ ts) (suc k) d lt is = ap (λ us. t ∷ us) (unread_put ts k d (omega arith) is)

-- an entry that is put where it stands
pub put_same : (ts : List Told) (k : ℕ) (d u : Told) → k < length ts → d ≡ get_or ts k d → u ≡ d → slice_set ts k u ≡ ts
put_same [] k d u lt is same = absurd (omega arith)
put_same (t ∷ ts) zero d u lt is same = ap (λ v. v ∷ ts) (same ∙ is)
put_same (t ∷ ts) (suc k) d u lt is same = ap (λ us. t ∷ us) (put_same ts k d u (omega arith) is same)

-- an entry that is put stands there
pub got_put : (ts : List Told) (k : ℕ) (u : Told) → k < length ts → slice_get (slice_set ts k u) k ≡ Some u
got_put [] k u lt = absurd (omega arith)
got_put (t ∷ ts) zero u lt = refl
got_put (t ∷ ts) (suc k) u lt = got_put ts k u (omega arith)

-- what stands at a place is got from there
pub got_is : (ts : List Told) (k : ℕ) (d t : Told) → d ≡ get_or ts k d → slice_get ts k ≡ Some t → d ≡ t
got_is [] k d t is at = absurd cc
got_is (u ∷ ts) zero d t is at = is ∙ cc
got_is (u ∷ ts) (suc k) d t is at = got_is ts k d t is at

pub last_got : (front : List Told) (t : Told) (k : ℕ) → length front ≡ k → slice_get (front ++ t ∷ []) k ≡ Some t
last_got [] t zero is = refl
last_got [] t (suc k) is = absurd (omega (arith, is))
last_got (u ∷ front) t zero is = absurd (omega (arith, is))
last_got (u ∷ front) t (suc k) is = last_got front t k (omega (arith, is))

pub last_unread : (front : List Told) (t : Told) (k : ℕ) → length front ≡ k → unread (front ++ t ∷ []) k ≡ front ++ told t.place t.event None ∷ []
last_unread [] t zero is = refl
last_unread [] t (suc k) is = absurd (omega (arith, is))
last_unread (u ∷ front) t zero is = absurd (omega (arith, is))
last_unread (u ∷ front) t (suc k) is = ap (λ us. u ∷ us) (last_unread front t k (omega (arith, is)))

-- what is seen of a caller is its number and its log
pub seen_same : (n m : ℕ) (l q : List Told) → n ≡ m → l ≡ q → ◌≡◌ {A = Seen} record { number = n; log = l } record { number = m; log = q }
seen_same n m l q one all = cc
