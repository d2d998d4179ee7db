-- What calls at each element of a list leave there.
use Rattle.std.specs.Prelude.{◌≡◌, List, [], ◌∷◌}
use denote.Ref.{MutBor}
use denote.Param.Members.{Shared}

module _ {F T R : Type 0} (g : Shared F (MutBor T × Unit {0}) (R × (MutBor T × Unit {0}))) (f : F) where
  -- f may be called with any element
  abbrev pub Accepts : Type 0
  Accepts = (p : MutBor T) → g.pre f (p, tt)

  -- a call of f with a `&mut` to x may answer r and leave y there
  pub record Leaves (x : T) (r : R) (y : T) : Type 0 where
    pub argument : MutBor T
    pub argument_is : argument.now ≡ x
    pub after_call : MutBor T
    pub call : g.post f (argument, tt) (r, (after_call, tt))
    pub left : after_call.now ≡ y

-- P holds of the elements of two lists one by one, and the lists are equally long
abbrev pub EachLeft : {T : Type 0} → (T → T → Type 0) → List T → List T → Type 0
EachLeft P [] [] = Unit {0}
EachLeft P [] (y ∷ ys) = ⊥
EachLeft P (x ∷ xs) [] = ⊥
EachLeft P (x ∷ xs) (y ∷ ys) = P x y × EachLeft P xs ys
