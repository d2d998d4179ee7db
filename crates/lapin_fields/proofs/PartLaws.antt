-- Beginnings of frames: how many octets are wanted behind them, and what more octets change.
use Rattle.std.proofs.Common.{◌≡◌, ℕ, ◌+◌, ◌-◌, ◌≤◌, ◌<◌, true, false, List, [], ◌∷◌, ◌++◌, length, take, drop, Some, None, refl, arith, cond}
use Rattle.std.specs.Prelude.{◌==◌}
use Rattle.std.specs.Int.{w16, w32, from_be_bytes}
use Rattle.std.proofs.lemmas.Bool.{le-ltb}
use Rattle.std.proofs.lemmas.List.{length-append, length-drop, take-append-le, drop-append-le}
use Rattle.lapin_fields.specs.Around.{around_at, and_more, ended, wanted_behind}
use Rattle.lapin_fields.specs.Reading.{◌>>=◌, octet_at, piece_at}

-- ---- before the size is known

pub few_wanted : (bytes : List ℕ) → length bytes < 7 → wanted_behind bytes ≡ 7 - length bytes
few_wanted [] lt = refl
few_wanted (_ ∷ []) lt = refl
few_wanted (_ ∷ _ ∷ []) lt = refl
few_wanted (_ ∷ _ ∷ _ ∷ []) lt = refl
few_wanted (_ ∷ _ ∷ _ ∷ _ ∷ []) lt = refl
few_wanted (_ ∷ _ ∷ _ ∷ _ ∷ _ ∷ []) lt = refl
few_wanted (_ ∷ _ ∷ _ ∷ _ ∷ _ ∷ _ ∷ []) lt = refl
few_wanted (_ ∷ _ ∷ _ ∷ _ ∷ _ ∷ _ ∷ _ ∷ rest) lt = absurd (omega arith)

few_more : (bytes more : List ℕ) → length bytes < 7 → length more < wanted_behind bytes → 0 < wanted_behind (bytes ++ more)
few_more bytes more lt below =
    let w : wanted_behind bytes ≡ 7 - length bytes = few_wanted bytes lt in
    let n : length (bytes ++ more) ≡ length bytes + length more = length-append bytes more in
    let few : length (bytes ++ more) < 7 = omega arith in
    let left : wanted_behind (bytes ++ more) ≡ 7 - length (bytes ++ more) = few_wanted (bytes ++ more) few in
    omega arith

-- ---- once it is

size_more : (n : ℕ) (rest more : List ℕ) → length more < (n + 1) - length rest → 0 < (n + 1) - length (rest ++ more)
size_more n rest more below = omega (arith, length-append rest more)

-- fewer octets than are wanted leave a beginning a beginning
pub part_more : (bytes more : List ℕ) → length more < wanted_behind bytes → 0 < wanted_behind (bytes ++ more)
part_more [] more below = few_more [] more (omega arith) below
part_more (a ∷ []) more below = few_more (a ∷ []) more (omega arith) below
part_more (a ∷ b ∷ []) more below = few_more (a ∷ b ∷ []) more (omega arith) below
part_more (a ∷ b ∷ c ∷ []) more below = few_more (a ∷ b ∷ c ∷ []) more (omega arith) below
part_more (a ∷ b ∷ c ∷ d ∷ []) more below = few_more (a ∷ b ∷ c ∷ d ∷ []) more (omega arith) below
part_more (a ∷ b ∷ c ∷ d ∷ e ∷ []) more below = few_more (a ∷ b ∷ c ∷ d ∷ e ∷ []) more (omega arith) below
part_more (a ∷ b ∷ c ∷ d ∷ e ∷ f ∷ []) more below = few_more (a ∷ b ∷ c ∷ d ∷ e ∷ f ∷ []) more (omega arith) below
part_more (_ ∷ _ ∷ _ ∷ a ∷ b ∷ c ∷ d ∷ rest) more below = size_more (from_be_bytes w32 (a ∷ b ∷ c ∷ d ∷ [])) rest more below

size_whole : (n : ℕ) (rest more : List ℕ) → (n + 1) - length rest ≡ 0 → (n + 1) - length (rest ++ more) ≡ 0
size_whole n rest more e = omega (arith, length-append rest more)

-- where nothing is wanted, nothing is wanted of more
pub whole_more : (bytes more : List ℕ) → wanted_behind bytes ≡ 0 → wanted_behind (bytes ++ more) ≡ 0
whole_more [] more e = cc
whole_more (_ ∷ []) more e = cc
whole_more (_ ∷ _ ∷ []) more e = cc
whole_more (_ ∷ _ ∷ _ ∷ []) more e = cc
whole_more (_ ∷ _ ∷ _ ∷ _ ∷ []) more e = cc
whole_more (_ ∷ _ ∷ _ ∷ _ ∷ _ ∷ []) more e = cc
whole_more (_ ∷ _ ∷ _ ∷ _ ∷ _ ∷ _ ∷ []) more e = cc
whole_more (_ ∷ _ ∷ _ ∷ a ∷ b ∷ c ∷ d ∷ rest) more e = size_whole (from_be_bytes w32 (a ∷ b ∷ c ∷ d ∷ [])) rest more e

-- ---- what is read of a frame that stands there as a whole, with more behind it

ended_more : {A : Type 0} (mark : ℕ) (found : A) (rest more : List ℕ) → ended mark found (rest ++ more) ≡ and_more more (ended mark found rest)
ended_more mark found rest more = elim (mark == 206) as (λ b. cond b (Some (found, rest ++ more)) None ≡ and_more more (cond b (Some (found, rest)) None)) [ true ↦ refl | false ↦ refl ]

mark_more : {A : Type 0} (found : A) (d more : List ℕ) → 1 ≤ length d → (octet_at (d ++ more) >>= λ mark. ended mark.0 found mark.1) ≡ and_more more (octet_at d >>= λ mark. ended mark.0 found mark.1)
mark_more found [] more le = absurd (omega arith)
mark_more found (x ∷ d) more le = ended_more x found d more

piece_more : (kind channel n : ℕ) (rest more : List ℕ) → (n + 1) - length rest ≡ 0
    → (piece_at n (rest ++ more) >>= λ p. octet_at p.1 >>= λ mark. ended {A = ℕ × ℕ × List ℕ} mark.0 (kind, channel, p.0) mark.1) ≡ and_more more (piece_at n rest >>= λ p. octet_at p.1 >>= λ mark. ended {A = ℕ × ℕ × List ℕ} mark.0 (kind, channel, p.0) mark.1)
piece_more kind channel n rest more e =
    let le : n ≤ length rest = omega arith in
    let far : n ≤ length (rest ++ more) = omega (arith, length-append rest more) in
    let left : 1 ≤ length (drop n rest) = omega (arith, length-drop n rest) in
    rw (le-ltb (length (rest ++ more)) n far, le-ltb (length rest) n le, take-append-le n rest more le, drop-append-le n rest more le) (mark_more {A = ℕ × ℕ × List ℕ} (kind, channel, take n rest) (drop n rest) more left)

pub around_more : (bytes more : List ℕ) → wanted_behind bytes ≡ 0 → around_at (bytes ++ more) ≡ and_more more (around_at bytes)
around_more [] more e = cc
around_more (_ ∷ []) more e = cc
around_more (_ ∷ _ ∷ []) more e = cc
around_more (_ ∷ _ ∷ _ ∷ []) more e = cc
around_more (_ ∷ _ ∷ _ ∷ _ ∷ []) more e = cc
around_more (_ ∷ _ ∷ _ ∷ _ ∷ _ ∷ []) more e = cc
around_more (_ ∷ _ ∷ _ ∷ _ ∷ _ ∷ _ ∷ []) more e = cc
around_more (kind ∷ h ∷ l ∷ a ∷ b ∷ c ∷ d ∷ rest) more e = piece_more kind (from_be_bytes w16 (h ∷ l ∷ [])) (from_be_bytes w32 (a ∷ b ∷ c ∷ d ∷ [])) rest more e
