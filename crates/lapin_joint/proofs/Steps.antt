-- One step more at the end of a list of steps, and the numbers that it uses.
use Rattle.std.proofs.Common.{◌≡◌, ◌∙◌, ℕ, suc, ◌+◌, ◌-◌, ◌^◌, ◌≤◌, ◌<◌, Bool, true, false, cond, None, List, [], ◌∷◌, ◌++◌, length, refl, sym, ap, subst, arith, length-append}
use Rattle.std.specs.Prelude.{Result, Ok, Err, IfOk, OnOk, OnErr}
use Rattle.lapin_types.specs.declared.event.Event.TheVariants as event
use Rattle.lapin_types.specs.declared.leaving.Left.{Left}
use Rattle.lapin_types.specs.Types.{Frame}
use Rattle.lapin_rules.specs.History.{History}
use Rattle.lapin_machine.specs.World.{World, new_world}
use Rattle.lapin_machine.specs.Numbers.{HasNumbersFor}
use Rattle.lapin_machine.proofs.Counting.{numbers-next}
use Rattle.lapin_machine.proofs.Ways.{fewer}
use Rattle.lapin_broker.specs.Sends.{may}
use Rattle.lapin_joint.specs.declared.step.Step.{Step}
use Rattle.lapin_joint.specs.declared.step.Step.TheVariants as step
use Rattle.lapin_joint.specs.declared.step.Reported.{Reported}
use Rattle.lapin_joint.specs.Joint.{Joint, new_joint, is_lawful, after, report, reports, run, joined, joined_to}
use Rattle.lapin_machine.specs.Way.{Way, by_history, by_machine}
use Rattle.lapin_joint.specs.JoinedRun.{JoinedRun, AreAlike, StandsFor, GoesOn, CanTake}
use Rattle.lapin_joint.proofs.Alike.{alike-next, unreturned-next, new_alike}

-- ---- lists of steps

-- one step more
pub run-push : {S : Type 0} (m : Way S) (ss : List Step) (s : Step) (j : Joint S) → run m (ss ++ s ∷ []) j ≡ after m s (run m ss j)
run-push m [] s j = refl
run-push m (t ∷ ss) s j = run-push m ss s (after m t j)

pub reports-push : {S : Type 0} (m : Way S) (ss : List Step) (s : Step) (j : Joint S) → reports m (ss ++ s ∷ []) j ≡ reports m ss j ++ report m s (run m ss j) ∷ []
reports-push m [] s j = refl
reports-push m (t ∷ ss) s j = ap (λ rs. report m t j ∷ rs) (reports-push m ss s (after m t j))

-- what a step told and left, where the run isn't stopped
abbrev Made : Step → Reported → JoinedRun → JoinedRun → Type 0
Made s r old new = (r ≡ report by_machine s old.joint) × (new ≡ record { joint = after by_machine s old.joint; steps = old.steps + 1; stopped = false })

stands_after : (n : ℕ) (ss : List Step) (s : Step) (r : Reported) (old new : JoinedRun) → old.stopped ≡ false → old.joint.session.returned ≡ None → r ≡ report by_machine s old.joint → new ≡ record { joint = after by_machine s old.joint; steps = old.steps + 1; stopped = false } → StandsFor n ss old → (joined n (ss ++ s ∷ []) ≡ joined n ss ++ r ∷ []) × StandsFor n (ss ++ s ∷ []) new
stands_after n ss s r old new running none told is stands =
    let one = alike-next n s (joined_to n ss) old.joint none (stands.alike running) in
    let long : length (ss ++ s ∷ []) ≡ length ss + length (s ∷ []) = length-append ss (s ∷ []) in
    let count : new.steps ≡ old.steps + 1 = ap (λ (k : JoinedRun). k.steps) is in
    let there : after by_machine s old.joint ≡ new.joint = sym (ap (λ (k : JoinedRun). k.joint) is) in
    let here : after (by_history n) s (joined_to n ss) ≡ joined_to n (ss ++ s ∷ []) = sym (run-push (by_history n) ss s (new_joint [] n)) in
    let first : AreAlike n (joined_to n (ss ++ s ∷ [])) (after by_machine s old.joint) = subst (λ (j : Joint History). AreAlike n j (after by_machine s old.joint)) here one.1 in (
      reports-push (by_history n) ss s (new_joint [] n) ∙ ap (λ (x : Reported). joined n ss ++ x ∷ []) (sym one.0 ∙ sym told),
      record {
        count = omega (arith, stands.count);
        alike = λ _. subst (λ (k : Joint World). AreAlike n (joined_to n (ss ++ s ∷ [])) k) there first;
      },
    )

pub stands-next : {E : Type 0} (res : Result Reported E) (s : Step) (old new : JoinedRun) → IfOk res (λ r. r ≡ report by_machine s old.joint) → OnOk res (new ≡ record { joint = after by_machine s old.joint; steps = old.steps + 1; stopped = false }) → OnOk res (old.stopped ≡ false) → OnOk res (old.joint.session.returned ≡ None) → IfOk res (λ r. (n : ℕ) (ss : List Step) → StandsFor n ss old → (joined n (ss ++ s ∷ []) ≡ joined n ss ++ r ∷ []) × StandsFor n (ss ++ s ∷ []) new)
stands-next (Ok r) s old new told is running none = λ n ss stands. stands_after n ss s r old new running none told is stands
stands-next (Err e) s old new told is running none = tt

-- a run that stopped has its steps alone
stands_stopped : (n : ℕ) (ss : List Step) (old new : JoinedRun) → new.stopped ≡ true → new.steps ≡ old.steps → StandsFor n ss old → StandsFor n ss new
stands_stopped n ss old new stopped steps stands = record {
  count = steps ∙ stands.count;
  alike = λ running. absurd cc;
}

pub stays : {E : Type 0} (res : Result Reported E) (old new : JoinedRun) → OnErr res ((new.stopped ≡ true) × (new.steps ≡ old.steps)) → OnErr res ((n : ℕ) (ss : List Step) → StandsFor n ss old → StandsFor n ss new)
stays (Ok r) old new h = tt
stays (Err e) old new h = λ n ss stands. stands_stopped n ss old new h.0 h.1 stands

pub new_stands : (n : ℕ) (k : JoinedRun) → k ≡ record { joint = new_joint (new_world n) n; steps = 0; stopped = false } → StandsFor n [] k
new_stands n k is =
    let first : StandsFor n [] (record { joint = new_joint (new_world n) n; steps = 0; stopped = false }) = record { count = refl; alike = λ _. new_alike n } in
    subst (λ (x : JoinedRun). StandsFor n [] x) (sym is) first

-- ---- numbers

chosen_numbers : (n : ℕ) (b : Bool) (j k : Joint World) → HasNumbersFor n j.session → HasNumbersFor n k.session → HasNumbersFor n (cond b j k).session
chosen_numbers n true j k one other = one
chosen_numbers n false j k one other = other

read_numbers : (n : ℕ) (ls : List Left) (j : Joint World) → HasNumbersFor n j.session → HasNumbersFor n (after by_machine step.Read (record j { up = ls })).session
read_numbers n [] j h = h
read_numbers n (l ∷ ls) j h = h

deliver_numbers : (n : ℕ) (fs : List Frame) (j : Joint World) → HasNumbersFor (suc n) j.session → HasNumbersFor n (after by_machine step.Deliver (record j { down = fs })).session
deliver_numbers n [] j h = fewer (suc n) n j.session h (omega arith)
deliver_numbers n (f ∷ fs) j h = numbers-next n j.session (event.Receive f) h

-- a step uses at most one number of each counter
numbers_after : (n : ℕ) (s : Step) (j : Joint World) → HasNumbersFor (suc n) j.session → HasNumbersFor n (after by_machine s j).session
numbers_after n (step.Client e) j h = chosen_numbers n (is_lawful e) _ j (numbers-next n j.session e h) (fewer (suc n) n j.session h (omega arith))
numbers_after n step.Read j h = read_numbers n j.up j (fewer (suc n) n j.session h (omega arith))
numbers_after n (step.Send f) j h = chosen_numbers n (may j.broker f) _ j (fewer (suc n) n j.session h (omega arith)) (fewer (suc n) n j.session h (omega arith))
numbers_after n step.Deliver j h = deliver_numbers n j.down j h
numbers_after n step.Lose j h = numbers-next n j.session event.Lost h

-- where a step was made, one less may still be made
pub can_take_rest : (n : ℕ) (s : Step) (j k : Joint World) → k ≡ after by_machine s j → CanTake (suc n) j → CanTake n k
can_take_rest n s j k is can = subst (λ (x : Joint World). CanTake n x) (sym is) (numbers_after n s j can.0, unreturned-next s j can.1)

pub can_take_fewer : (n m : ℕ) (j : Joint World) → CanTake n j → m ≤ n → CanTake m j
can_take_fewer n m j can le = (fewer n m j.session can.0 le, can.1)

-- the next step has a number
pub number_left : (steps : ℕ) (w : World) → HasNumbersFor (2 ^ 64 - 1 - steps) w → steps + 1 < 2 ^ 64 → HasNumbersFor 1 w
number_left steps w h lt = fewer (2 ^ 64 - 1 - steps) 1 w h (omega arith)

-- and so has each that may follow it
numbers_left : (s : Step) (j k : Joint World) (steps more : ℕ) → HasNumbersFor (2 ^ 64 - 1 - steps) j.session → steps + 1 < 2 ^ 64 → k ≡ after by_machine s j → more ≡ steps + 1 → HasNumbersFor (2 ^ 64 - 1 - more) k.session
numbers_left s j k steps more h lt is one =
    let all : 2 ^ 64 - 1 - steps ≡ suc (2 ^ 64 - 1 - more) = omega arith in
    let next : HasNumbersFor (2 ^ 64 - 1 - more) (after by_machine s j).session = numbers_after (2 ^ 64 - 1 - more) s j (subst (λ (n : ℕ). HasNumbersFor n j.session) all h) in
    subst (λ (x : Joint World). HasNumbersFor (2 ^ 64 - 1 - more) x.session) (sym is) next

-- the session may go on
pub goes_on : (s : Step) (j k : Joint World) (steps more : ℕ) → GoesOn steps j.session → steps + 1 < 2 ^ 64 → k ≡ after by_machine s j → more ≡ steps + 1 → GoesOn more k.session
goes_on s j k steps more h lt is one = record {
  numbers = numbers_left s j k steps more h.numbers lt is one;
  unreturned = ap (λ (x : Joint World). x.session.returned) is ∙ unreturned-next s j h.unreturned;
}

new_numbers : (n : ℕ) (w : World) → w ≡ new_world n → HasNumbersFor (2 ^ 64 - 1 - 0) w
new_numbers n w is =
    let first : HasNumbersFor (2 ^ 64 - 1 - 0) (new_world n) = record { tickets = omega arith; confirms = omega arith; consumers = omega arith; ackers = omega arith } in
    subst (λ (x : World). HasNumbersFor (2 ^ 64 - 1 - 0) x) (sym is) first

pub new_goes_on : (n : ℕ) (w : World) → w ≡ new_world n → GoesOn 0 w
new_goes_on n w is = record { numbers = new_numbers n w is; unreturned = ap (λ (x : World). x.returned) is }
