-- What one more mark at the end does to the readings of returned messages.
use Rattle.std.proofs.Common.{◌≡◌, ℕ, Bool, true, false, ◌||◌, List, [], ◌∷◌, ◌++◌, refl, sym, ◌∙◌, ap}
use Rattle.lapin_rules.specs.ConfirmMarks.{ConfirmMark}
use Rattle.lapin_rules.specs.ReturnLists.{ReturnLists, no_return_lists}
use Rattle.lapin_rules.specs.ReturnReadings.{return_lists_step, return_lists_from, return_lists_of, goes, goes_from, is_gone}
use Rattle.lapin_rules.proofs.ListLaws.{or_false}

nothing-more : {X : Type 0} (xs : List X) → xs ++ [] ≡ xs
nothing-more [] = refl
nothing-more (x ∷ xs) = ap (λ ys. x ∷ ys) (nothing-more xs)

pub one-by-one : {X : Type 0} (xs : List X) (y : X) (zs : List X) → (xs ++ y ∷ []) ++ zs ≡ xs ++ y ∷ zs
one-by-one [] y zs = refl
one-by-one (x ∷ xs) y zs = ap (λ ys. x ∷ ys) (one-by-one xs y zs)

from-push : (c : ℕ) (seen : List ConfirmMark) (l : ReturnLists) (ms : List ConfirmMark) (m : ConfirmMark) → return_lists_from c seen l (ms ++ m ∷ []) ≡ return_lists_step c (seen ++ ms) m (return_lists_from c seen l ms)
from-push c seen l [] m = ap (λ s. return_lists_step c s m l) (sym (nothing-more seen))
from-push c seen l (n ∷ ms) m =
    from-push c (seen ++ n ∷ []) (return_lists_step c seen n l) ms m
    ∙ ap (λ s. return_lists_step c s m (return_lists_from c (seen ++ n ∷ []) (return_lists_step c seen n l) ms)) (one-by-one seen n ms)

-- a mark does to the lists of a channel what its step says
pub return_lists-push : (c : ℕ) (ms : List ConfirmMark) (m : ConfirmMark) → return_lists_of c (ms ++ m ∷ []) ≡ return_lists_step c ms m (return_lists_of c ms)
return_lists-push c ms m = from-push c [] no_return_lists ms m

or-both : (a b c : Bool) → ((a || b) || c) ≡ (a || (b || c))
or-both true b c = refl
or-both false b c = refl

goes-push : (n : ℕ) (seen ms : List ConfirmMark) (m : ConfirmMark) → goes_from n seen (ms ++ m ∷ []) ≡ (goes_from n seen ms || goes n (seen ++ ms) m)
goes-push n seen [] m = or_false (goes n seen m) ∙ ap (λ s. goes n s m) (sym (nothing-more seen))
goes-push n seen (k ∷ ms) m =
    ap (λ b. goes n seen k || b) (goes-push n (seen ++ k ∷ []) ms m ∙ ap (λ s. goes_from n (seen ++ k ∷ []) ms || goes n s m) (one-by-one seen k ms))
    ∙ sym (or-both (goes n seen k) (goes_from n (seen ++ k ∷ []) ms) (goes n (seen ++ k ∷ ms) m))

pub gone-push : (n : ℕ) (ms : List ConfirmMark) (m : ConfirmMark) → is_gone n (ms ++ m ∷ []) ≡ (is_gone n ms || goes n ms m)
gone-push n ms m = goes-push n [] ms m
