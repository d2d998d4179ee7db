-- Whose message came back: what was passed over, what was found, and one behind the other.
use Rattle.std.proofs.Common.{◌≡◌, ◌∙◌, ℕ, suc, ◌+◌, ◌<◌, Bool, false, true≢false, List, ◌∷◌, ◌++◌, length, take, drop, get_or, sym, ap, subst, arith}
use Rattle.std.specs.Prelude.{set, All}
use Rattle.std.specs.Bool.{Decides}
use Rattle.std.proofs.lemmas.List.{take-append-drop, drop_more, set_split}
use Rattle.std.proofs.lemmas.List.Elements.{All-more}
use Rattle.lapin_types.specs.declared.message.BasicReturnMessage.{BasicReturnMessage}
use Rattle.lapin_types.specs.declared.message.Delivery.{Delivery}
use Rattle.lapin_keeping.specs.declared.kept.Kept.{Kept}
use Rattle.lapin_keeping.specs.Fates.{returned}
use Rattle.lapin_keeping.specs.Returns.{IsOf, IsNotOf, FirstCameBack, IsNoted, AreNoted}

-- one more was passed over
pub passed_over : (exact : Bool) (d : Delivery) (xs : List Kept) (i : ℕ) (x : Kept) (b : Bool) → i < length xs → x ≡ get_or xs i x → Decides b (IsOf exact d x) → b ≡ false
    → All (IsNotOf exact d) (take i xs) → All (IsNotOf exact d) (take (i + 1) xs)
passed_over exact d xs i x b lt is decides fails before =
    All-more (IsNotOf exact d) xs i x lt before (subst (IsNotOf exact d) is (λ of. true≢false (sym (decides.1 of) ∙ fails)))

-- the first was found, and was written back
pub found_back : (exact : Bool) (d : Delivery) (xs ys : List Kept) (i : ℕ) (x : Kept) → i < length xs → All (IsNotOf exact d) (take i xs) → x ≡ get_or xs i x → IsOf exact d x → ys ≡ set xs i (returned x)
    → FirstCameBack exact d xs ys
found_back exact d xs ys i x lt none is of e =
    let on : suc i ≡ i + 1 = omega arith in
    record {
      before = take i xs;
      owner = x;
      behind = drop (i + 1) xs;
      old_is = sym (take-append-drop i xs) ∙ ap (λ (zs : List Kept). take i xs ++ zs) (drop_more xs i x lt ∙ ap (λ (z : Kept). z ∷ drop (i + 1) xs) (sym is));
      new_is = e ∙ set_split xs i (returned x) lt ∙ ap (λ (n : ℕ). take i xs ++ returned x ∷ drop n xs) on;
      none_before = none;
      is_owner = of;
    }

-- one was noted, and those behind it
pub noted_before : (rs : List BasicReturnMessage) (i : ℕ) (r : BasicReturnMessage) (old between new : List Kept) → i < length rs → r ≡ get_or rs i r → IsNoted r.delivery old between
    → AreNoted (drop (i + 1) rs) between new → AreNoted (drop i rs) old new
noted_before rs i r old between new lt is noted rest =
    let cut : drop i rs ≡ r ∷ drop (i + 1) rs = drop_more rs i r lt ∙ ap (λ (z : BasicReturnMessage). z ∷ drop (i + 1) rs) (sym is) in
    subst (λ (zs : List BasicReturnMessage). AreNoted zs old new) (sym cut) (between, (noted, rest))
