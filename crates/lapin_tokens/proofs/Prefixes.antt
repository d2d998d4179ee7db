-- What stands behind a text.
use Rattle.std.proofs.Common.{◌≡◌, ◌≢◌, ℕ, List, [], ◌∷◌, ◌++◌, Option, Some, None, refl, sym, ap, ◌∙◌, append_assoc, Bor}
use Rattle.std.specs.Prelude.{IfSome, IfNone}
use Rattle.std.specs.Option.{MatchOption}
use Rattle.lapin_tokens.specs.Cursor.{after_mark, after_text}
use Rattle.lapin_tokens.proofs.MemberLaws.{bind_some, some_is, same_mark, mark_found}

pub text_again : (p rest : List ℕ) → after_text p (p ++ rest) ≡ Some rest
text_again [] rest = refl
text_again (c ∷ cs) rest = rw (same_mark c (cs ++ rest)) (text_again cs rest)

pub text_found : (p s rest : List ℕ) → after_text p s ≡ Some rest → s ≡ p ++ rest
text_found [] s rest e = some_is s rest e
text_found (c ∷ cs) s rest e =
    let a = bind_some (after_mark c s) _ rest e in
    mark_found c s a.0 a.1 ∙ ap (λ (t : List ℕ). c ∷ t) (text_found cs a.0 rest a.2)

pub text_none : (p s : List ℕ) → ((rest : List ℕ) → s ≡ p ++ rest → ⊥) → after_text p s ≡ None
text_none p s h = go (after_text p s) refl
  where
    go : (r : Option (List ℕ)) → after_text p s ≡ r → r ≡ None
    go None e = refl
    go (Some rest) e = absurd (h rest (text_found p s rest e))

pub stripped_some : (p s : List ℕ) (r : Option (Bor (List ℕ))) → MatchOption r ((rest : List ℕ) → s ≢ p ++ rest) (λ x. s ≡ p ++ x.now) → IfSome r (λ x. after_text p s ≡ Some x.now)
stripped_some p s None h = tt
stripped_some p s (Some x) h = ap (after_text p) h ∙ text_again p x.now

pub stripped_none : (p s : List ℕ) (r : Option (Bor (List ℕ))) → MatchOption r ((rest : List ℕ) → s ≢ p ++ rest) (λ x. s ≡ p ++ x.now) → IfNone r (after_text p s ≡ None)
stripped_none p s None h = text_none p s h
stripped_none p s (Some x) h = tt

-- ---- a mark, a name and an equals sign

module _ (mark : ℕ) (name bytes : List ℕ) where
  abbrev Whole : List ℕ
  Whole = mark ∷ name ++ 61 ∷ []

  pub no_mark : ((rest : List ℕ) → bytes ≡ mark ∷ rest → ⊥) → after_text Whole bytes ≡ None
  no_mark h = text_none Whole bytes (λ rest e. h ((name ++ 61 ∷ []) ++ rest) e)

  module _ (named : List ℕ) (is : bytes ≡ mark ∷ named) where
    named_by : (rest : List ℕ) → bytes ≡ Whole ++ rest → named ≡ name ++ 61 ∷ rest
    named_by rest e = let both : mark ∷ named ≡ mark ∷ ((name ++ 61 ∷ []) ++ rest) = sym is ∙ e in tails both ∙ append_assoc name (61 ∷ []) rest
      where
        tails : {x y : ℕ} {xs ys : List ℕ} → x ∷ xs ≡ y ∷ ys → xs ≡ ys
        tails h = cc

    pub no_name : after_text name named ≡ None → after_text Whole bytes ≡ None
    no_name none = text_none Whole bytes (λ rest e. let again = ap (after_text name) (named_by rest e) ∙ text_again name (61 ∷ rest) in cc)

    pub name_some : (rest : List ℕ) → after_text name named ≡ Some rest → (r : Option (Bor (List ℕ))) → IfSome r (λ x. rest ≡ 61 ∷ x.now) → IfSome r (λ x. after_text Whole bytes ≡ Some x.now)
    name_some rest e None h = tt
    name_some rest e (Some x) h =
        let spelled : bytes ≡ Whole ++ x.now = is ∙ ap (λ (t : List ℕ). mark ∷ t) (text_found name named rest e ∙ ap (λ (t : List ℕ). name ++ t) h ∙ sym (append_assoc name (61 ∷ []) x.now)) in
        ap (after_text Whole) spelled ∙ text_again Whole x.now

    pub name_none : (rest : List ℕ) → after_text name named ≡ Some rest → (r : Option (Bor (List ℕ))) → IfNone r ((x : List ℕ) → rest ≡ 61 ∷ x → ⊥) → IfNone r (after_text Whole bytes ≡ None)
    name_none rest e (Some x) h = tt
    name_none rest e None h = text_none Whole bytes (λ x is_whole. let again = ap (after_text name) (named_by x is_whole) ∙ text_again name (61 ∷ x) in h x (some_is rest (61 ∷ x) (sym e ∙ again)))
