-- Reports written one after the other make the text of them all.
use Rattle.std.proofs.Common.{◌≡◌, ℕ, List, [], ◌∷◌, ◌++◌, sym, ap, ◌∙◌, append_assoc}
use Rattle.std.proofs.lemmas.List.{append-nil}
use Rattle.std.proofs.lemmas.List.Concat.{flat_map-cons}
use Rattle.lapin_text.specs.Records.{line_onto}
use Rattle.lapin_text.proofs.Printed.{line_onto_is}
use Rattle.lapin_joint.specs.declared.step.Reported.{Reported}
use Rattle.lapin_joint_text.specs.Reports.{report_tokens, report_line, reports_text, reports_onto}

reports_onto_is : (out : List ℕ) (rs : List Reported) → reports_onto out rs ≡ out ++ reports_text rs
reports_onto_is out [] = sym (append-nil out)
reports_onto_is out (r ∷ rs) =
    let one : line_onto out (report_tokens r) ++ 10 ∷ [] ≡ out ++ (report_line r ++ 10 ∷ []) = ap (λ (l : List ℕ). l ++ 10 ∷ []) (line_onto_is out (report_tokens r)) ∙ append_assoc out (report_line r) (10 ∷ []) in
    let whole : out ++ reports_text (r ∷ rs) ≡ (out ++ (report_line r ++ 10 ∷ [])) ++ reports_text rs = ap (λ (t : List ℕ). out ++ t) (flat_map-cons (λ s. report_line s ++ 10 ∷ []) r rs) ∙ sym (append_assoc out (report_line r ++ 10 ∷ []) (reports_text rs)) in
    reports_onto_is (line_onto out (report_tokens r) ++ 10 ∷ []) rs ∙ ap (λ (t : List ℕ). t ++ reports_text rs) one ∙ sym whole

pub text_from_onto : (rs : List Reported) → reports_onto [] rs ≡ reports_text rs
text_from_onto rs = reports_onto_is [] rs
