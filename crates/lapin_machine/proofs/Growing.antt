-- A list grows at its end.
use Rattle.std.proofs.Common.{◌≡◌, ◌∙◌, sym, ap, List, [], ◌∷◌, ◌++◌, append-nil, append_assoc, refl}
use Rattle.lapin_machine.specs.Growing.{IsLonger, IsStarted}

-- by one
pub longer-push : {A : Type 0} (old new new' all rest : List A) (r : A) → IsLonger old new all (r ∷ rest) → new' ≡ new ++ r ∷ [] → IsLonger old new' all rest
longer-push old new new' all rest r l e = record {
  done = l.done ++ r ∷ [];
  whole = append_assoc l.done (r ∷ []) rest ∙ l.whole;
  new_is = e ∙ ap (λ xs. xs ++ r ∷ []) l.new_is ∙ append_assoc old l.done (r ∷ []);
}

-- nothing was appended
pub not_started : {A : Type 0} (old new all : List A) → new ≡ old → IsStarted old new all
not_started old new all e = (all, record { done = []; whole = refl; new_is = e ∙ sym (append-nil old) })
