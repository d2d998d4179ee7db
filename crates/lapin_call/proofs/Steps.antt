-- One step more at the end of a list of steps, and the numbers that it uses.
use Rattle.std.proofs.Common.{◌≡◌, ◌∙◌, ℕ, zero, suc, ◌+◌, ◌-◌, ◌*◌, ◌^◌, ◌<◌, Bool, true, false, cond, not, ◌&&◌, Option, Some, None, List, [], ◌∷◌, ◌++◌, length, refl, sym, ap, subst, arith, length-append}
use Rattle.std.specs.Prelude.{Result, Ok, Err, IfOk, OnOk, OnErr}
use Rattle.lapin_types.specs.declared.event.Event.{Event}
use Rattle.lapin_types.specs.declared.event.Event.TheVariants as event
use Rattle.lapin_types.specs.declared.call.Call.TheVariants as call
use Rattle.lapin_types.specs.declared.message.Delivery.{Delivery}
use Rattle.lapin_types.specs.Types.{Error}
use Rattle.lapin_rules.specs.History.{History}
use Rattle.lapin_machine.specs.World.{World, told_by, new_world}
use Rattle.lapin_machine.specs.World as world
use Rattle.lapin_machine.specs.Numbers.{HasNumbersFor}
use Rattle.lapin_machine.proofs.Back.{still_none}
use Rattle.lapin_machine.proofs.Counting.{numbers-next}
use Rattle.lapin_machine.proofs.Ways.{fewer, Goes, goes_fewer, goes_next}
use Rattle.lapin_call.specs.declared.step.CallStep.{CallStep}
use Rattle.lapin_call.specs.declared.step.CallStep.TheVariants as step
use Rattle.lapin_call.specs.declared.step.CallReport.{CallReport}
use Rattle.lapin_machine.specs.Way.{Way, by_history, by_machine}
use Rattle.lapin_call.specs.Calls.{Requester, met, begun, is_ready, consuming, requesting, next_call, item_of, is_item, Gathered, heard, polled, polls, waiting_for, gather_from, new_requester, after, report, reports, run, calls, calls_to}
use Rattle.lapin_call.specs.CallRun.{CallRun, AreAlike, StandsFor, GoesOn}
use Rattle.lapin_call.proofs.Alike.{alike-next, new_alike}
use Rattle.lapin_call.proofs.Items.{numbers_polled}

-- ---- lists of steps

pub run-push : {S : Type 0} (m : Way S) (ss : List CallStep) (s : CallStep) (j : Requester S) → run m (ss ++ s ∷ []) j ≡ after m s (run m ss j)
run-push m [] s j = refl
run-push m (t ∷ ss) s j = run-push m ss s (after m t j)

reports-push : {S : Type 0} (m : Way S) (ss : List CallStep) (s : CallStep) (j : Requester S) → reports m (ss ++ s ∷ []) j ≡ reports m ss j ++ report m s (run m ss j) ∷ []
reports-push m [] s j = refl
reports-push m (t ∷ ss) s j = ap (λ rs. report m t j ∷ rs) (reports-push m ss s (after m t j))

-- what a step told and left, where the calls aren't stopped
stands_after : (n : ℕ) (q : List ℕ) (ss : List CallStep) (s : CallStep) (r : CallReport) (old new : CallRun) → old.stopped ≡ false → old.requester.session.returned ≡ None → r ≡ report by_machine s old.requester → new ≡ record { requester = after by_machine s old.requester; steps = old.steps + 1; stopped = false } → StandsFor n q ss old → (calls n q (ss ++ s ∷ []) ≡ calls n q ss ++ r ∷ []) × StandsFor n q (ss ++ s ∷ []) new
stands_after n q ss s r old new running none told is stands =
    let first : Requester History = new_requester (by_history n) [] q in
    let one = alike-next n s (calls_to n q ss) old.requester none (stands.alike running) in
    let long : length (ss ++ s ∷ []) ≡ length ss + length (s ∷ []) = length-append ss (s ∷ []) in
    let count : new.steps ≡ old.steps + 1 = ap (λ (k : CallRun). k.steps) is in
    let there : after by_machine s old.requester ≡ new.requester = sym (ap (λ (k : CallRun). k.requester) is) in
    let here : after (by_history n) s (calls_to n q ss) ≡ calls_to n q (ss ++ s ∷ []) = sym (run-push (by_history n) ss s first) in
    let alike : AreAlike n (calls_to n q (ss ++ s ∷ [])) (after by_machine s old.requester) = subst (λ (d : Requester History). AreAlike n d (after by_machine s old.requester)) here one.1.are in (
      reports-push (by_history n) ss s first ∙ ap (λ (x : CallReport). calls n q ss ++ x ∷ []) (sym one.0 ∙ sym told),
      record {
        count = omega (arith, stands.count);
        alike = λ _. subst (λ (k : Requester World). AreAlike n (calls_to n q (ss ++ s ∷ [])) k) there alike;
      },
    )

pub stands-next : {E : Type 0} (res : Result CallReport E) (s : CallStep) (old new : CallRun) → IfOk res (λ r. r ≡ report by_machine s old.requester) → OnOk res (new ≡ record { requester = after by_machine s old.requester; steps = old.steps + 1; stopped = false }) → OnOk res (old.stopped ≡ false) → OnOk res (old.requester.session.returned ≡ None) → IfOk res (λ r. (n : ℕ) (q : List ℕ) (ss : List CallStep) → StandsFor n q ss old → (calls n q (ss ++ s ∷ []) ≡ calls n q ss ++ r ∷ []) × StandsFor n q (ss ++ s ∷ []) new)
stands-next (Ok r) s old new told is running none = λ n q ss stands. stands_after n q ss s r old new running none told is stands
stands-next (Err e) s old new told is running none = tt

-- calls that stopped have their steps alone
stands_stopped : (n : ℕ) (q : List ℕ) (ss : List CallStep) (old new : CallRun) → new.stopped ≡ true → new.steps ≡ old.steps → StandsFor n q ss old → StandsFor n q ss new
stands_stopped n q ss old new stopped steps stands = record {
  count = steps ∙ stands.count;
  alike = λ running. absurd cc;
}

pub stays : {E : Type 0} (res : Result CallReport E) (old new : CallRun) → OnErr res ((new.stopped ≡ true) × (new.steps ≡ old.steps)) → OnErr res ((n : ℕ) (q : List ℕ) (ss : List CallStep) → StandsFor n q ss old → StandsFor n q ss new)
stays (Ok r) old new h = tt
stays (Err e) old new h = λ n q ss stands. stands_stopped n q ss old new h.0 h.1 stands

pub new_stands : (n : ℕ) (q : List ℕ) (k : CallRun) → k ≡ record { requester = new_requester by_machine (new_world n) q; steps = 0; stopped = false } → StandsFor n q [] k
new_stands n q k is =
    let first : StandsFor n q [] (record { requester = new_requester by_machine (new_world n) q; steps = 0; stopped = false }) = record { count = refl; alike = λ _. (new_alike n q).are } in
    subst (λ (x : CallRun). StandsFor n q [] x) (sym is) first

-- ---- numbers

chosen_goes : (n : ℕ) (b : Bool) (d k : Requester World) → Goes n d.session → Goes n k.session → Goes n (cond b d k).session
chosen_goes n true d k one other = one
chosen_goes n false d k one other = other

begun_goes : (n : ℕ) (d : Requester World) → Goes (suc n) d.session → Goes n (begun by_machine d).session
begun_goes n d h = chosen_goes n (not d.consumes && is_ready d.session.wire) _ d (goes_next n d.session (consuming d.queue) h) (goes_fewer (suc n) n d.session h (omega arith))

event_goes : (n : ℕ) (e : Event) (d : Requester World) → Goes (suc (suc n)) d.session → Goes n (begun by_machine (met by_machine e d)).session
event_goes n e d h = begun_goes n (met by_machine e d) (goes_next (suc n) d.session e h)

heard_session : (o : Option (Result Delivery Error)) (w : World) (g : Gathered World) → (heard o w g).session ≡ w
heard_session None w g = refl
heard_session (Some (Ok d)) w g = refl
heard_session (Some (Err e)) w g = refl

polled_goes : (n c : ℕ) (g : Gathered World) → Goes n g.session → Goes n (polled by_machine c g).session
polled_goes n c g h =
    let e : Event = event.PollConsumer c in
    subst (λ (w : World). Goes n w) (sym (heard_session (item_of (told_by g.session e)) (world.next g.session e) g)) (numbers_polled c n g.session h.0, still_none g.session e h.1)

chosen_gathered : (n : ℕ) (b : Bool) (d k : Gathered World) → Goes n d.session → Goes n k.session → Goes n (cond b d k).session
chosen_gathered n true d k one other = one
chosen_gathered n false d k one other = other

polls_goes : (n c m : ℕ) (g : Gathered World) → Goes n g.session → Goes n (polls by_machine c m g).session
polls_goes n c zero g h = h
polls_goes n c (suc m) g h =
    let one = polled_goes n c g h in
    chosen_gathered n (is_item (item_of (told_by g.session (event.PollConsumer c)))) _ _ (polls_goes n c m (polled by_machine c g) one) one

gather_goes : (n : ℕ) (o : Option ℕ) (g : Gathered World) → Goes n g.session → Goes n (gather_from by_machine o g).session
gather_goes n None g h = h
gather_goes n (Some c) g h = polls_goes n c (suc (waiting_for c g.session.wire)) g h

-- a step uses at most two numbers of each counter
step_goes : (n : ℕ) (s : CallStep) (d : Requester World) → Goes (suc (suc n)) d.session → Goes n (after by_machine s d).session
step_goes n (step.Next flow) d h = event_goes n (event.Next flow) d h
step_goes n (step.Receive f) d h = event_goes n (event.Receive f) d h
step_goes n step.Lost d h = event_goes n event.Lost d h
step_goes n (step.Ask x key p) d h =
    chosen_goes n (is_ready d.session.wire) _ d (goes_fewer (suc n) n _ (goes_next (suc n) d.session (requesting (next_call d) d.queue x key p) h) (omega arith)) (goes_fewer (suc (suc n)) n d.session h (omega arith))
step_goes n step.Collect d h = goes_fewer (suc (suc n)) n _ (gather_goes (suc (suc n)) d.consumer _ h) (omega arith)
step_goes n (step.Take m) d h = goes_fewer (suc (suc n)) n d.session h (omega arith)

-- the next step has its numbers
pub numbers_left : (steps : ℕ) (w : World) → HasNumbersFor (2 ^ 64 - 2 - 2 * steps) w → steps < 2 ^ 62 → HasNumbersFor 2 w
numbers_left steps w h lt = fewer (2 ^ 64 - 2 - 2 * steps) 2 w h (omega arith)

-- behind an event there is one fewer
pub numbers_after : (d : Requester World) (w v : World) (e : Event) → d.session ≡ w → v ≡ world.next w e → HasNumbersFor 2 d.session → HasNumbersFor 1 v
numbers_after d w v e same stepped h = subst (HasNumbersFor 1) (sym stepped) (numbers-next 1 w e (subst (HasNumbersFor 2) same h))

-- and so has each that may follow it
pub goes_on : (s : CallStep) (d k : Requester World) (steps more : ℕ) → GoesOn steps d.session → steps < 2 ^ 62 → k ≡ after by_machine s d → more ≡ steps + 1 → GoesOn more k.session
goes_on s d k steps more h lt is one =
    let all : 2 ^ 64 - 2 - 2 * steps ≡ suc (suc (2 ^ 64 - 2 - 2 * more)) = omega arith in
    let first : Goes (suc (suc (2 ^ 64 - 2 - 2 * more))) d.session = (subst (λ (n : ℕ). HasNumbersFor n d.session) all h.numbers, h.unreturned) in
    let next : Goes (2 ^ 64 - 2 - 2 * more) k.session = subst (λ (x : Requester World). Goes (2 ^ 64 - 2 - 2 * more) x.session) (sym is) (step_goes (2 ^ 64 - 2 - 2 * more) s d first) in
    record { numbers = next.0; unreturned = next.1 }

pub new_goes_on : (n : ℕ) (q : List ℕ) (d : Requester World) → d ≡ new_requester by_machine (new_world n) q → GoesOn 0 d.session
new_goes_on n q d is =
    let first : HasNumbersFor (2 ^ 64 - 1) (new_world n) = record { tickets = omega arith; confirms = omega arith; consumers = omega arith; ackers = omega arith } in
    let open_ : Goes (2 ^ 64 - 2 - 2 * 0) (new_requester by_machine (new_world n) q).session = goes_next (2 ^ 64 - 2 - 2 * 0) (new_world n) (event.Call 1 call.OpenChannel) (first, refl) in
    let here : Goes (2 ^ 64 - 2 - 2 * 0) d.session = subst (λ (x : Requester World). Goes (2 ^ 64 - 2 - 2 * 0) x.session) (sym is) open_ in
    record { numbers = here.0; unreturned = here.1 }
