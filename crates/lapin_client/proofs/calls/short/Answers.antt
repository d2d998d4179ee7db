use Rattle.std.proofs.Common.{◌≡◌, ◌≤◌, ◌∙◌, ℕ, List, Result, Ok, Err, length, subst}
use Rattle.std.specs.Prelude.{MatchResult}
use Rattle.std.specs.Str.{IsUtf8}
use Rattle.lapin_client.specs.Calls.{IsText, NoText}
use Rattle.lapin_client.specs.declared.status.Status.{Status}
use Rattle.lapin_client.proofs.calls.short.Goals as goal

text_of : (r : Result (List ℕ) Status) (t bytes : List ℕ) → t ≡ bytes → IsUtf8 bytes → MatchResult r (λ x. (x ≡ t) × (length t ≤ 255)) (λ s. NoText s t) → MatchResult r (λ x. (x ≡ bytes) × IsText bytes) (λ s. NoText s bytes)
text_of (Ok x) t bytes is utf h = (h.0 ∙ is, (utf, subst (λ (l : List ℕ). length l ≤ 255) is h.1))
text_of (Err s) t bytes is utf h = subst (λ (l : List ℕ). NoText s l) is h

pub returns-in-Ok : goal.returns-in-Ok
returns-in-Ok c = text_of c.short_of.result c.in-Ok.text.now c.args.bytes.now c.in-Ok.ensures.cases.0 c.in-Ok.ensures.cases.1 c.short_of.ensures
