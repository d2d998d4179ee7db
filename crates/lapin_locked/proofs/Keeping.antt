-- What lies under the lock goes on to stand for the history that is stored, step by step.
use Rattle.std.proofs.Common.{◌≡◌, ℕ, ◌+◌, ◌<◌, ◌^◌, ◌++◌, List, [], ◌∷◌, None, length, map, sym, ◌∙◌, ap, arith, length-append, append-nil, append_assoc, subst}
use Rattle.std.proofs.lemmas.List.{map-append, length-map}
use Rattle.lapin_types.specs.declared.event.Event.{Event}
use Rattle.lapin_types.specs.declared.record.Record.{Record}
use Rattle.lapin_rules.specs.History.{History, rec, run_from}
use Rattle.lapin_machine.specs.World.{World}
use Rattle.lapin_machine.specs.Numbers.{HasNumbersFor}
use Rattle.lapin_machine.specs.Stands.{Stands}
use Rattle.lapin_machine.proofs.Counting.{standing_numbers}
use Rattle.lapin_locked.specs.declared.entry.Entry.{Entry}
use Rattle.lapin_locked.specs.Lawful.{history_of, told_in, event_of, answer_of, IsLawful}
use Rattle.lapin_locked.specs.UnderLock.{entry, IsKept}

-- the session under the lock has numbers for one more event
pub kept_numbers : (n : ℕ) (es : List Entry) (w : World) (t : ℕ) → IsKept n es w t → length es + 1 < 2 ^ 64 → HasNumbersFor 1 w
kept_numbers n es w t k room = standing_numbers n 1 (history_of es) w k.stands (omega (arith, room, length-map es told_in))

incoming_snoc : (es : List Entry) (c : ℕ) (e : Event) (r : Record) → history_of (es ++ entry c e r ∷ []) ≡ history_of es ++ (e, r) ∷ []
incoming_snoc es c e r = map-append told_in es (entry c e r ∷ [])

-- a run of one event more
run_snoc : (n : ℕ) (g : History) (es : List Entry) (c : ℕ) (e : Event) (r : Record) → map answer_of es ≡ run_from n g (map event_of es) → r ≡ rec n (g ++ history_of es) e
    → map answer_of (es ++ entry c e r ∷ []) ≡ run_from n g (map event_of (es ++ entry c e r ∷ []))
run_snoc n g [] c e r k is = ap (λ x. x ∷ []) (is ∙ ap (λ h. rec n h e) (append-nil g))
run_snoc n g (x ∷ es) c e r k is =
    let here : x.answer ≡ rec n g x.event = cc in
    let there : map answer_of es ≡ run_from n (g ++ (x.event, rec n g x.event) ∷ []) (map event_of es) = cc in
    let P : Record → Type 0 = λ y. map answer_of es ≡ run_from n (g ++ (x.event, y) ∷ []) (map event_of es) in
    let rest = run_snoc n (g ++ told_in x ∷ []) es c e r (subst P (sym here) there) (is ∙ ap (λ h. rec n h e) (sym (append_assoc g (told_in x ∷ []) (history_of es)))) in
    let Q : Record → Type 0 = λ y. map answer_of (es ++ entry c e r ∷ []) ≡ run_from n (g ++ (x.event, y) ∷ []) (map event_of (es ++ entry c e r ∷ [])) in
    let back = subst Q here rest in
    cc

lawful_snoc : (n : ℕ) (es : List Entry) (c : ℕ) (e : Event) (r : Record) → IsLawful n es → r ≡ rec n (history_of es) e → IsLawful n (es ++ entry c e r ∷ [])
lawful_snoc n es c e r k is = run_snoc n [] es c e r k is

-- one step more
pub kept_step : (n : ℕ) (es fs : List Entry) (w v : World) (t u c : ℕ) (e : Event) (r : Record) → IsKept n es w t
    → ((m : ℕ) (h : History) → Stands m h w → (r ≡ rec m h e) × Stands m (h ++ (e, r) ∷ []) v)
    → v.returned ≡ None → fs ≡ es ++ entry c e r ∷ [] → u ≡ t + 1 → IsKept n fs v u
kept_step n es fs w v t u c e r k step none longer more =
    let s = step n (history_of es) k.stands in
    let is : history_of fs ≡ history_of es ++ (e, r) ∷ [] = ap history_of longer ∙ incoming_snoc es c e r in
    let Lawful : List Entry → Type 0 = λ l. IsLawful n l in
    let Standing : History → Type 0 = λ h. Stands n h v in
    record {
      lawful = subst Lawful (sym longer) (lawful_snoc n es c e r k.lawful s.0);
      stands = subst Standing (sym is) s.1;
      counted = omega (arith, k.counted, more, ap length longer, length-append es (entry c e r ∷ []));
      steady = none;
    }
