-- An acker is used once in a lawful history, since it is once in the run whose records that history holds.
use Rattle.std.proofs.Common.{◌≡◌, ℕ, ◌≤◌, List, [], ◌∷◌, map, zip, refl, sym, ap, ◌∙◌, subst}
use Rattle.lapin_rules.specs.History.{History}
use Rattle.lapin_rules.specs.Words.{many}
use Rattle.lapin_laws.specs.Consumers.{uses_acker}
use Rattle.lapin_laws.proofs.Once.{used_once}
use Rattle.lapin_locked.specs.declared.entry.Entry.{Entry}
use Rattle.lapin_locked.specs.Lawful.{history_of, told_in, event_of, answer_of, IsLawful}
use Rattle.lapin_shared.specs.Ackers.{UsesOnce}

-- the events of entries beside their records
events_beside : (es : List Entry) → zip (map event_of es) (map answer_of es) ≡ history_of es
events_beside [] = refl
events_beside (x ∷ es) = ap (λ (h : History). told_in x ∷ h) (events_beside es)

pub lawful_once : (frame_max : ℕ) (es : List Entry) → IsLawful frame_max es → UsesOnce es
lawful_once frame_max es lawful n =
    let P : History → Type 0 = λ h. many (uses_acker n) h ≤ 1 in
    subst P (ap (zip (map event_of es)) (sym lawful) ∙ events_beside es) (used_once frame_max (map event_of es) n)
