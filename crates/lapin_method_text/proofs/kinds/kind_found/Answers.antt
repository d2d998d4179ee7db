use Rattle.std.proofs.Common.{◌≡◌, ◌∙◌, sym, ap, subst, Some, false}
use Rattle.std.specs.Str.{bytes_eq}
use Rattle.lapin_tokens.proofs.FieldLaws.{some_is}
use Rattle.lapin_method_text.specs.Methods.{method_name}
use Rattle.lapin_method_text.specs.Slots.{candidate}
use Rattle.lapin_method_text.proofs.MethodLaws.{kind_is, no_kind}
use Rattle.lapin_method_text.proofs.kinds.kind_found.Goals as goal

pub returns-then-is_word : goal.returns-then-is_word
returns-then-is_word c = kind_is c.args.name.now c.in-Some.kind (sym (ap (λ t. bytes_eq t c.args.name.now) c.name_of.ensures) ∙ sym c.is_word.ensures ∙ c.if-is_word.true)

pub returns-else-is_word : goal.returns-else-is_word
returns-else-is_word c =
    let differs : bytes_eq (method_name c.in-Some.kind) c.args.name.now ≡ false = sym (ap (λ t. bytes_eq t c.args.name.now) c.name_of.ensures) ∙ sym c.is_word.ensures ∙ c.if-is_word.false in
    no_kind c.args.name.now (λ k e.
    let same : c.in-Some.kind ≡ k = some_is c.in-Some.kind k (sym c.in-Some.is ∙ c.candidate.ensures ∙ e) in
    subst (λ j. bytes_eq (method_name j) c.args.name.now ≡ false) same differs)

pub returns-in-None : goal.returns-in-None
returns-in-None c = no_kind c.args.name.now (λ k e. let none = sym c.in-None.is ∙ c.candidate.ensures ∙ e in absurd cc)
