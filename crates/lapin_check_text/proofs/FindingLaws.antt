-- The lines of an account, written one after the other, make its text.
use Rattle.std.proofs.Common.{◌≡◌, ℕ, List, [], ◌∷◌, ◌++◌, sym, ap, ◌∙◌, append_assoc}
use Rattle.std.proofs.lemmas.List.{append-nil}
use Rattle.std.proofs.lemmas.List.Concat.{flat_map-cons}
use Rattle.lapin_check.specs.declared.account.Counted.{Counted}
use Rattle.lapin_check.specs.declared.finding.Finding.{Finding}
use Rattle.lapin_check_text.specs.Findings.{counted_line, account_text, account_onto, finding_line, check_text}

account_onto_is : (out : List ℕ) (ks : List Counted) → account_onto out ks ≡ out ++ account_text ks
account_onto_is out [] = sym (append-nil out)
account_onto_is out (k ∷ ks) =
    let one : (out ++ counted_line k) ++ 10 ∷ [] ≡ out ++ (counted_line k ++ 10 ∷ []) = append_assoc out (counted_line k) (10 ∷ []) in
    let whole : out ++ account_text (k ∷ ks) ≡ (out ++ (counted_line k ++ 10 ∷ [])) ++ account_text ks = ap (λ (t : List ℕ). out ++ t) (flat_map-cons (λ k. counted_line k ++ 10 ∷ []) k ks) ∙ sym (append_assoc out (counted_line k ++ 10 ∷ []) (account_text ks)) in
    account_onto_is ((out ++ counted_line k) ++ 10 ∷ []) ks ∙ ap (λ (t : List ℕ). t ++ account_text ks) one ∙ sym whole

-- with the line of a finding behind them they make the text of a check
pub text_from_onto : (out : List ℕ) (ks : List Counted) (f : Finding) → (account_onto out ks ++ finding_line f) ++ 10 ∷ [] ≡ out ++ check_text ks f
text_from_onto out ks f =
    ap (λ (t : List ℕ). (t ++ finding_line f) ++ 10 ∷ []) (account_onto_is out ks)
    ∙ ap (λ (t : List ℕ). t ++ 10 ∷ []) (append_assoc out (account_text ks) (finding_line f))
    ∙ append_assoc out (account_text ks ++ finding_line f) (10 ∷ [])
