-- What a step adds to the history of its session, and what becomes of a call by what is heard there.
use Rattle.std.proofs.Common.{◌≡◌, ◌≢◌, ◌∙◌, ℕ, zero, suc, ◌+◌, Bool, true, false, cond, not, ◌&&◌, List, [], ◌∷◌, ◌++◌, length, Option, Some, None, refl, sym, ap, arith, append_assoc, append-nil, add-one, slice_get, inl, inr}
use Rattle.std.specs.Prelude.{Ok, Err}
use Rattle.std.proofs.lemmas.Bool.Decides.{eqb_tells}
use Rattle.lapin_types.specs.declared.event.Event.{Event}
use Rattle.lapin_types.specs.declared.event.Event.TheVariants as event
use Rattle.lapin_types.specs.declared.record.Record.{Record}
use Rattle.lapin_rules.specs.Wire.{state_of}
use Rattle.lapin_rules.specs.History.{History, past, rec}
use Rattle.lapin_machine.specs.Way.{Way, by_history}
use Rattle.lapin_call.specs.declared.step.CallStep.{CallStep}
use Rattle.lapin_call.specs.declared.step.CallStep.TheVariants as step
use Rattle.lapin_call.specs.declared.step.CallReport.{CallReport}
use Rattle.lapin_call.specs.declared.step.CallReport.TheVariants as reported
use Rattle.lapin_call.specs.declared.fates.Fate.{Fate}
use Rattle.lapin_call.specs.declared.fates.Fate.TheVariants as fate
use Rattle.lapin_call.specs.declared.fates.Tally.{Tally}
use Rattle.lapin_call.specs.Fates.{no_tally, named_by, match_in, counted, fate_at, with_fate, after_delivery, after_error, take_report, after_take, taken}
use Rattle.lapin_call.specs.Calls.{Requester, met, is_ready, consuming, consumed, begun, requesting, next_call, asked, item_of, is_item, Gathered, heard, polled, polls, waiting_for, gather_from, gathered, collect_report, new_requester, after, report, reports, run, calls, calls_to}
use Rattle.lapin_call.specs.Outcome.{Item, is_number, outcome, after_items, counted_items, sum_of, deliveries}
use Rattle.lapin_call.specs.Heard.{listed, heard_of, heard_in, WaitedAtTakes, HasFirstReply, counted_in}
use Rattle.lapin_call.proofs.Outcomes.{counted_once, is_settled, settled_stays, first_answers, put_same, put_other}
use Rattle.lapin_call.proofs.Steps.{run-push}

-- ---- lists

heard_in-append : (h k : History) → heard_in (h ++ k) ≡ heard_in h ++ heard_in k
heard_in-append [] k = refl
heard_in-append (x ∷ h) k = ap (λ (ys : List Item). heard_of x.0 x.1 ++ ys) (heard_in-append h k) ∙ sym (append_assoc (heard_of x.0 x.1) (heard_in h) (heard_in k))

after_items-append : (xs ys : List Item) (fates : List Fate) → after_items (xs ++ ys) fates ≡ after_items ys (after_items xs fates)
after_items-append [] ys fates = refl
after_items-append (Ok d ∷ xs) ys fates = after_items-append xs ys (after_delivery d fates)
after_items-append (Err e ∷ xs) ys fates = after_items-append xs ys (after_error e fates)

counted_items-append : (xs ys : List Item) (fates : List Fate) (t : Tally) → counted_items (xs ++ ys) fates t ≡ counted_items ys (after_items xs fates) (counted_items xs fates t)
counted_items-append [] ys fates t = refl
counted_items-append (Ok d ∷ xs) ys fates t = counted_items-append xs ys (after_delivery d fates) (counted (match_in d fates) t)
counted_items-append (Err e ∷ xs) ys fates t = counted_items-append xs ys (after_error e fates) t

deliveries-append : (xs ys : List Item) → deliveries (xs ++ ys) ≡ deliveries xs + deliveries ys
deliveries-append [] ys = omega arith
deliveries-append (Ok d ∷ xs) ys = omega (arith, deliveries-append xs ys)
deliveries-append (Err e ∷ xs) ys = deliveries-append xs ys

-- ---- replies are collected

-- the history grew by so much, these items were heard in it, and the calls and the count are what they make of them
record Grew (g k : Gathered History) : Type 0 where
  more : History
  items : List Item
  are : heard_in more ≡ items
  session : k.session ≡ g.session ++ more
  fates : k.fates ≡ after_items items g.fates
  tally : k.tally ≡ counted_items items g.fates g.tally

grew_none : (g : Gathered History) → Grew g g
grew_none g = record { more = []; items = []; are = refl; session = sym (append-nil g.session); fates = refl; tally = refl }

grew_then : (g k l : Gathered History) → Grew g k → Grew k l → Grew g l
grew_then g k l a b = record {
  more = a.more ++ b.more;
  items = a.items ++ b.items;
  are = heard_in-append a.more b.more ∙ ap (λ (xs : List Item). xs ++ heard_in b.more) a.are ∙ ap (λ (ys : List Item). a.items ++ ys) b.are;
  session = b.session ∙ ap (λ (h : History). h ++ b.more) a.session ∙ append_assoc g.session a.more b.more;
  fates = b.fates ∙ ap (after_items b.items) a.fates ∙ sym (after_items-append a.items b.items g.fates);
  tally = b.tally ∙ ap (λ (fs : List Fate). counted_items b.items fs k.tally) a.fates ∙ ap (counted_items b.items (after_items a.items g.fates)) a.tally ∙ sym (counted_items-append a.items b.items g.fates g.tally);
}

grew_either : (b : Bool) (g k l : Gathered History) → Grew g k → Grew g l → Grew g (cond b k l)
grew_either true g k l one other = one
grew_either false g k l one other = other

one_heard : (c : ℕ) (r : Record) (g : Gathered History) (o : Option Item) → item_of r ≡ o → Grew g (heard o (g.session ++ (event.PollConsumer c, r) ∷ []) g)
one_heard c r g None is = record { more = (event.PollConsumer c, r) ∷ []; items = []; are = ap (λ (o : Option Item). listed o ++ []) is; session = refl; fates = refl; tally = refl }
one_heard c r g (Some (Ok d)) is = record { more = (event.PollConsumer c, r) ∷ []; items = Ok d ∷ []; are = ap (λ (o : Option Item). listed o ++ []) is; session = refl; fates = refl; tally = refl }
one_heard c r g (Some (Err e)) is = record { more = (event.PollConsumer c, r) ∷ []; items = Err e ∷ []; are = ap (λ (o : Option Item). listed o ++ []) is; session = refl; fates = refl; tally = refl }

polled_grew : (m c : ℕ) (g : Gathered History) → Grew g (polled (by_history m) c g)
polled_grew m c g = one_heard c (rec m g.session (event.PollConsumer c)) g (item_of (rec m g.session (event.PollConsumer c))) refl

polls_grew : (m c k : ℕ) (g : Gathered History) → Grew g (polls (by_history m) c k g)
polls_grew m c zero g = grew_none g
polls_grew m c (suc k) g =
    let one = polled_grew m c g in
    grew_either (is_item (item_of (rec m g.session (event.PollConsumer c)))) g _ _ (grew_then g (polled (by_history m) c g) _ one (polls_grew m c k (polled (by_history m) c g))) one

gather_grew : (m : ℕ) (o : Option ℕ) (g : Gathered History) → Grew g (gather_from (by_history m) o g)
gather_grew m None g = grew_none g
gather_grew m (Some c) g = polls_grew m c (suc (waiting_for c (past m g.session).wire)) g

gathered_grew : (m : ℕ) (d : Requester History) → Grew (record { session = d.session; fates = d.fates; tally = no_tally }) (gathered (by_history m) d)
gathered_grew m d = gather_grew m d.consumer (record { session = d.session; fates = d.fates; tally = no_tally })

-- ---- a step that hears nothing

record Quiet (d k : Requester History) : Type 0 where
  more : History
  session : k.session ≡ d.session ++ more
  silent : heard_in more ≡ []
  fates : k.fates ≡ d.fates

quiet_none : (d : Requester History) → Quiet d d
quiet_none d = record { more = []; session = sym (append-nil d.session); silent = refl; fates = refl }

quiet_then : (d k l : Requester History) → Quiet d k → Quiet k l → Quiet d l
quiet_then d k l a b = record {
  more = a.more ++ b.more;
  session = b.session ∙ ap (λ (h : History). h ++ b.more) a.session ∙ append_assoc d.session a.more b.more;
  silent = heard_in-append a.more b.more ∙ ap (λ (xs : List Item). xs ++ heard_in b.more) a.silent ∙ b.silent;
  fates = b.fates ∙ a.fates;
}

quiet_either : (b : Bool) (d k l : Requester History) → Quiet d k → Quiet d l → Quiet d (cond b k l)
quiet_either true d k l one other = one
quiet_either false d k l one other = other

met_quiet : (m : ℕ) (e : Event) (d : Requester History) → ((r : Record) → heard_of e r ≡ []) → Quiet d (met (by_history m) e d)
met_quiet m e d none = record { more = (e, rec m d.session e) ∷ []; session = refl; silent = append-nil (heard_of e (rec m d.session e)) ∙ none (rec m d.session e); fates = refl }

begun_quiet : (m : ℕ) (d : Requester History) → Quiet d (begun (by_history m) d)
begun_quiet m d =
    let e : Event = consuming d.queue in
    quiet_either (not d.consumes && is_ready (past m d.session).wire) d (consumed (by_history m) (d.session ++ (e, rec m d.session e) ∷ []) d) d
    (record { more = (e, rec m d.session e) ∷ []; session = refl; silent = refl; fates = refl })
    (quiet_none d)

event_quiet : (m : ℕ) (e : Event) (d : Requester History) → ((r : Record) → heard_of e r ≡ []) → Quiet d (begun (by_history m) (met (by_history m) e d))
event_quiet m e d none = quiet_then d (met (by_history m) e d) _ (met_quiet m e d none) (begun_quiet m (met (by_history m) e d))

-- ---- one call among all, while items come

get_more : (xs ys : List Fate) (p : ℕ) (x : Fate) → slice_get xs p ≡ Some x → slice_get (xs ++ ys) p ≡ Some x
get_more [] ys p x there = absurd cc
get_more (z ∷ zs) ys zero x there = there
get_more (z ∷ zs) ys (suc p) x there = get_more zs ys p x there

fate_more : (n : ℕ) (fates more : List Fate) (f : Fate) → fate_at n fates ≡ Some f → fate_at n (fates ++ more) ≡ Some f
fate_more zero fates more f there = absurd cc
fate_more (suc p) fates more f there = get_more fates more p f there

get_last : (xs : List Fate) (x : Fate) → slice_get (xs ++ x ∷ []) (length xs) ≡ Some x
get_last [] x = refl
get_last (z ∷ zs) x = get_last zs x

outcome_waits : (n : ℕ) (xs ys : List Item) → outcome n xs ≡ fate.Waiting → outcome n (xs ++ ys) ≡ outcome n ys
outcome_waits n [] ys waits = refl
outcome_waits n (Err e ∷ xs) ys waits = absurd cc
outcome_waits n (Ok d ∷ xs) ys waits = by_name (λ h. outcome_waits n xs ys h) (is_number n (named_by d)) waits
  where
    by_name : (outcome n xs ≡ fate.Waiting → outcome n (xs ++ ys) ≡ outcome n ys) → (b : Bool) → cond b (fate.Answered d.payload) (outcome n xs) ≡ fate.Waiting → cond b (fate.Answered d.payload) (outcome n (xs ++ ys)) ≡ outcome n ys
    by_name rest true h = absurd cc
    by_name rest false h = rest h

outcome_settled : (n : ℕ) (xs ys : List Item) → is_settled (outcome n xs) ≡ true → outcome n (xs ++ ys) ≡ outcome n xs
outcome_settled n [] ys settled = absurd cc
outcome_settled n (Err e ∷ xs) ys settled = refl
outcome_settled n (Ok d ∷ xs) ys settled = by_name (λ h. outcome_settled n xs ys h) (is_number n (named_by d)) settled
  where
    by_name : (is_settled (outcome n xs) ≡ true → outcome n (xs ++ ys) ≡ outcome n xs) → (b : Bool) → is_settled (cond b (fate.Answered d.payload) (outcome n xs)) ≡ true → cond b (fate.Answered d.payload) (outcome n (xs ++ ys)) ≡ cond b (fate.Answered d.payload) (outcome n xs)
    by_name rest true h = refl
    by_name rest false h = rest h

-- more items come
outcome_on : (n : ℕ) (xs ys : List Item) (fates : List Fate) → fate_at n fates ≡ Some (outcome n xs) → fate_at n (after_items ys fates) ≡ Some (outcome n (xs ++ ys))
outcome_on n xs ys fates there = by_outcome (outcome n xs) refl
  where
    settled : (f : Fate) → outcome n xs ≡ f → is_settled f ≡ true → fate_at n (after_items ys fates) ≡ Some (outcome n (xs ++ ys))
    settled f is s = settled_stays n f ys fates s (there ∙ ap (λ (x : Fate). Some x) is) ∙ ap (λ (x : Fate). Some x) (sym is ∙ sym (outcome_settled n xs ys (ap is_settled is ∙ s)))

    by_outcome : (f : Fate) → outcome n xs ≡ f → fate_at n (after_items ys fates) ≡ Some (outcome n (xs ++ ys))
    by_outcome fate.Waiting is = first_answers n ys fates (there ∙ ap (λ (x : Fate). Some x) is) ∙ ap (λ (x : Fate). Some x) (sym (outcome_waits n xs ys is))
    by_outcome (fate.Answered p) is = settled (fate.Answered p) is refl
    by_outcome (fate.Ended e) is = settled (fate.Ended e) is refl
    by_outcome (fate.Given b) is = settled (fate.Given b) is refl

-- ---- a step, for a call that was asked

-- the history grew by so much, and the call is what the items heard so far and there make of it
record Stood (n : ℕ) (xs : List Item) (d k : Requester History) : Type 0 where
  more : History
  session : k.session ≡ d.session ++ more
  call : fate_at n k.fates ≡ Some (outcome n (xs ++ heard_in more))

stood_quiet : (n : ℕ) (xs : List Item) (d k : Requester History) → fate_at n d.fates ≡ Some (outcome n xs) → Quiet d k → Stood n xs d k
stood_quiet n xs d k there q = record {
  more = q.more;
  session = q.session;
  call = ap (fate_at n) q.fates ∙ there ∙ ap (λ (ys : List Item). Some (outcome n ys)) (sym (append-nil xs) ∙ ap (λ (ys : List Item). xs ++ ys) (sym q.silent));
}

stood_either : (b : Bool) (n : ℕ) (xs : List Item) (d k l : Requester History) → Stood n xs d k → Stood n xs d l → Stood n xs d (cond b k l)
stood_either true n xs d k l one other = one
stood_either false n xs d k l one other = other

stood_asked : (m n : ℕ) (xs : List Item) (x key p : List ℕ) (d : Requester History) → fate_at n d.fates ≡ Some (outcome n xs) → Stood n xs d (asked (by_history m) x key p d)
stood_asked m n xs x key p d there =
    let e : Event = requesting (next_call d) d.queue x key p in
    record {
      more = (e, rec m d.session e) ∷ [];
      session = refl;
      call = fate_more n d.fates (fate.Waiting ∷ []) (outcome n xs) there ∙ ap (λ (ys : List Item). Some (outcome n ys)) (sym (append-nil xs));
    }

is_waiting : (f : Fate) → take_report (Some f) ≡ reported.Waiting → f ≡ fate.Waiting
is_waiting fate.Waiting told = refl
is_waiting (fate.Answered p) told = absurd cc
is_waiting (fate.Ended e) told = absurd cc
is_waiting (fate.Given b) told = absurd cc

-- another call is taken
other_taken : (n k : ℕ) (fates : List Fate) (o : Option Fate) → k ≢ n → fate_at n (after_take o k fates) ≡ fate_at n fates
other_taken n k fates None ne = refl
other_taken n k fates (Some f) ne = put_other n k fates (taken f) ne

-- this one is, and waits
this_taken : (n : ℕ) (fates : List Fate) (f : Fate) → fate_at n fates ≡ Some f → f ≡ fate.Waiting → fate_at n (after_take (Some f) n fates) ≡ Some f
this_taken n fates f there waits = ap (λ (x : Fate). fate_at n (with_fate n (taken x) fates)) waits ∙ put_same n fates f fate.Waiting there ∙ ap (λ (x : Fate). Some x) (sym waits)

taken_there : (n k : ℕ) (xs : List Item) (fates : List Fate) → fate_at n fates ≡ Some (outcome n xs) → (step.Take k ≡ step.Take n → take_report (fate_at k fates) ≡ reported.Waiting) → fate_at n (after_take (fate_at k fates) k fates) ≡ Some (outcome n xs)
taken_there n k xs fates there waited = elim (eqb_tells k n) [
  | inl same ↦
      let told : take_report (Some (outcome n xs)) ≡ reported.Waiting = ap take_report (sym there) ∙ ap (λ (i : ℕ). take_report (fate_at i fates)) (sym same.1) ∙ waited (ap step.Take same.1) in
      ap (λ (i : ℕ). fate_at n (after_take (fate_at i fates) i fates)) same.1 ∙ ap (λ (o : Option Fate). fate_at n (after_take o n fates)) there ∙ this_taken n fates (outcome n xs) there (is_waiting (outcome n xs) told)
  | inr other ↦ other_taken n k fates (fate_at k fates) other.1 ∙ there
]

stood_step : (m n : ℕ) (xs : List Item) (s : CallStep) (d : Requester History) → fate_at n d.fates ≡ Some (outcome n xs) → (s ≡ step.Take n → report (by_history m) s d ≡ reported.Waiting) → Stood n xs d (after (by_history m) s d)
stood_step m n xs (step.Next flow) d there waited = stood_quiet n xs d _ there (event_quiet m (event.Next flow) d (λ r. refl))
stood_step m n xs (step.Receive f) d there waited = stood_quiet n xs d _ there (event_quiet m (event.Receive f) d (λ r. refl))
stood_step m n xs step.Lost d there waited = stood_quiet n xs d _ there (event_quiet m event.Lost d (λ r. refl))
stood_step m n xs (step.Ask x key p) d there waited = stood_either (is_ready (past m d.session).wire) n xs d _ d (stood_asked m n xs x key p d there) (stood_quiet n xs d d there (quiet_none d))
stood_step m n xs step.Collect d there waited =
    let g = gathered_grew m d in
    record {
      more = g.more;
      session = g.session;
      call = ap (fate_at n) g.fates ∙ outcome_on n xs g.items d.fates there ∙ ap (λ (ys : List Item). Some (outcome n (xs ++ ys))) (sym g.are);
    }
stood_step m n xs (step.Take k) d there waited = record {
  more = [];
  session = sym (append-nil d.session);
  call = taken_there n k xs d.fates there waited ∙ ap (λ (ys : List Item). Some (outcome n ys)) (sym (append-nil xs));
}

stood_then : (n : ℕ) (xs : List Item) (d k l : Requester History) (a : Stood n xs d k) → Stood n (xs ++ heard_in a.more) k l → Stood n xs d l
stood_then n xs d k l a b = record {
  more = a.more ++ b.more;
  session = b.session ∙ ap (λ (h : History). h ++ b.more) a.session ∙ append_assoc d.session a.more b.more;
  call = b.call ∙ ap (λ (ys : List Item). Some (outcome n ys)) (append_assoc xs (heard_in a.more) (heard_in b.more) ∙ ap (λ (ys : List Item). xs ++ ys) (sym (heard_in-append a.more b.more)));
}

stood_run : (m n : ℕ) (xs : List Item) (ss : List CallStep) (d : Requester History) → fate_at n d.fates ≡ Some (outcome n xs) → WaitedAtTakes m n ss d → Stood n xs d (run (by_history m) ss d)
stood_run m n xs [] d there waited = stood_quiet n xs d d there (quiet_none d)
stood_run m n xs (s ∷ ss) d there waited =
    let one = stood_step m n xs s d there waited.0 in
    stood_then n xs d (after (by_history m) s d) _ one (stood_run m n (xs ++ heard_in one.more) ss (after (by_history m) s d) one.call waited.1)

-- ---- the call is asked

asked_number : (b : Bool) (k n : ℕ) (r : CallReport) → cond b (reported.Asked k) r ≡ reported.Asked n → ((j : ℕ) → r ≡ reported.Asked j → ⊥) → (b ≡ true) × (k ≡ n)
asked_number true k n r told none = (refl, cc)
asked_number false k n r told none = absurd (none n told)

asked_last : (m : ℕ) (x key p : List ℕ) (d : Requester History) (n : ℕ) → report (by_history m) (step.Ask x key p) d ≡ reported.Asked n → fate_at n (after (by_history m) (step.Ask x key p) d).fates ≡ Some (outcome n [])
asked_last m x key p d n told =
    let b : Bool = is_ready (past m d.session).wire in
    let is = asked_number b (next_call d) n (reported.NotOpen (state_of 1 (past m d.session).wire)) told (λ j same. absurd cc) in
    let last : fate_at (length d.fates + 1) (d.fates ++ fate.Waiting ∷ []) ≡ Some fate.Waiting = rw add-one (get_last d.fates fate.Waiting) in
    ap (λ (v : Bool). fate_at n (cond v (asked (by_history m) x key p d) d).fates) is.0 ∙ ap (λ (i : ℕ). fate_at i (d.fates ++ fate.Waiting ∷ [])) (sym is.1) ∙ last

run-append : {S : Type 0} (m : Way S) (ss ts : List CallStep) (d : Requester S) → run m (ss ++ ts) d ≡ run m ts (run m ss d)
run-append m [] ts d = refl
run-append m (s ∷ ss) ts d = run-append m ss ts (after m s d)

pub first_reply : (m : ℕ) (q x key p : List ℕ) (before later : List CallStep) (n : ℕ) → report (by_history m) (step.Ask x key p) (calls_to m q before) ≡ reported.Asked n → WaitedAtTakes m n later (calls_to m q (before ++ step.Ask x key p ∷ [])) → HasFirstReply m q before (step.Ask x key p) later n
first_reply m q x key p before later n told waited =
    let ask : CallStep = step.Ask x key p in
    let start : Requester History = new_requester (by_history m) [] q in
    let first : Requester History = calls_to m q (before ++ ask ∷ []) in
    let pushed : first ≡ after (by_history m) ask (calls_to m q before) = run-push (by_history m) before ask start in
    let there : fate_at n first.fates ≡ Some (outcome n []) = ap (λ (d : Requester History). fate_at n d.fates) pushed ∙ asked_last m x key p (calls_to m q before) n told in
    let stood = stood_run m n [] later first there waited in
    let whole : calls_to m q ((before ++ ask ∷ []) ++ later) ≡ run (by_history m) later first = run-append (by_history m) (before ++ ask ∷ []) later start in (
      stood.more,
      ap (λ (d : Requester History). d.session) whole ∙ stood.session,
      ap (λ (d : Requester History). take_report (fate_at n d.fates)) whole ∙ ap take_report stood.call,
    )

-- ---- deliveries are counted

-- the history grew by so much, and as many deliveries were counted as were heard in it
record Counts (rs : List CallReport) (d k : Requester History) : Type 0 where
  more : History
  session : k.session ≡ d.session ++ more
  counted : counted_in rs ≡ deliveries (heard_in more)

counts_quiet : (r : CallReport) (d k : Requester History) → counted_in (r ∷ []) ≡ 0 → Quiet d k → Counts (r ∷ []) d k
counts_quiet r d k none q = record { more = q.more; session = q.session; counted = none ∙ ap deliveries (sym q.silent) }

ask_counts : (b : Bool) (r s : CallReport) → counted_in (r ∷ []) ≡ 0 → counted_in (s ∷ []) ≡ 0 → counted_in (cond b r s ∷ []) ≡ 0
ask_counts true r s one other = one
ask_counts false r s one other = other

take_counts : (o : Option Fate) → counted_in (take_report o ∷ []) ≡ 0
take_counts None = refl
take_counts (Some fate.Waiting) = refl
take_counts (Some (fate.Answered p)) = refl
take_counts (Some (fate.Ended e)) = refl
take_counts (Some (fate.Given b)) = refl

asked_quiet_history : (m : ℕ) (x key p : List ℕ) (d : Requester History) (r : CallReport) → counted_in (r ∷ []) ≡ 0 → Counts (r ∷ []) d (asked (by_history m) x key p d)
asked_quiet_history m x key p d r none =
    let e : Event = requesting (next_call d) d.queue x key p in
    record { more = (e, rec m d.session e) ∷ []; session = refl; counted = none }

counts_either : (b : Bool) (rs : List CallReport) (d k l : Requester History) → Counts rs d k → Counts rs d l → Counts rs d (cond b k l)
counts_either true rs d k l one other = one
counts_either false rs d k l one other = other

step_counts : (m : ℕ) (s : CallStep) (d : Requester History) → Counts (report (by_history m) s d ∷ []) d (after (by_history m) s d)
step_counts m (step.Next flow) d = counts_quiet _ d _ refl (event_quiet m (event.Next flow) d (λ r. refl))
step_counts m (step.Receive f) d = counts_quiet _ d _ refl (event_quiet m (event.Receive f) d (λ r. refl))
step_counts m step.Lost d = counts_quiet _ d _ refl (event_quiet m event.Lost d (λ r. refl))
step_counts m (step.Ask x key p) d =
    let b : Bool = is_ready (past m d.session).wire in
    let none = ask_counts b (reported.Asked (next_call d)) (reported.NotOpen (state_of 1 (past m d.session).wire)) refl refl in
    counts_either b _ d _ d (asked_quiet_history m x key p d _ none) (counts_quiet _ d d none (quiet_none d))
step_counts m step.Collect d =
    let g = gathered_grew m d in
    let t : Tally = (gathered (by_history m) d).tally in
    let all : sum_of t ≡ 0 + deliveries g.items = ap sum_of g.tally ∙ counted_once g.items d.fates no_tally in
    let here : counted_in (collect_report t ∷ []) ≡ sum_of t = omega arith in
    record { more = g.more; session = g.session; counted = here ∙ all ∙ omega arith ∙ ap deliveries (sym g.are) }
step_counts m (step.Take n) d = record { more = []; session = sym (append-nil d.session); counted = take_counts (fate_at n d.fates) }

counted_in-cons : (r : CallReport) (rs : List CallReport) → counted_in (r ∷ rs) ≡ counted_in (r ∷ []) + counted_in rs
counted_in-cons (reported.Session x) rs = omega arith
counted_in-cons (reported.Asked n) rs = omega arith
counted_in-cons (reported.NotOpen s) rs = omega arith
counted_in-cons (reported.Collected a b c) rs = omega arith
counted_in-cons reported.Waiting rs = omega arith
counted_in-cons (reported.Reply p) rs = omega arith
counted_in-cons (reported.Ended e) rs = omega arith
counted_in-cons reported.Taken rs = omega arith
counted_in-cons reported.Unknown rs = omega arith

run_counts : (m : ℕ) (ss : List CallStep) (d : Requester History) → Counts (reports (by_history m) ss d) d (run (by_history m) ss d)
run_counts m [] d = record { more = []; session = sym (append-nil d.session); counted = refl }
run_counts m (s ∷ ss) d =
    let one = step_counts m s d in
    let rest = run_counts m ss (after (by_history m) s d) in
    let both : counted_in (report (by_history m) s d ∷ reports (by_history m) ss (after (by_history m) s d)) ≡ deliveries (heard_in one.more) + deliveries (heard_in rest.more) =
    omega (arith, counted_in-cons (report (by_history m) s d) (reports (by_history m) ss (after (by_history m) s d)), one.counted, rest.counted) in
    record {
      more = one.more ++ rest.more;
      session = rest.session ∙ ap (λ (h : History). h ++ rest.more) one.session ∙ append_assoc d.session one.more rest.more;
      counted = both ∙ sym (deliveries-append (heard_in one.more) (heard_in rest.more)) ∙ ap deliveries (sym (heard_in-append one.more rest.more));
    }

pub all_counted : (m : ℕ) (q : List ℕ) (ss : List CallStep) → counted_in (calls m q ss) ≡ deliveries (heard_in (calls_to m q ss).session)
all_counted m q ss =
    let start : Requester History = new_requester (by_history m) [] q in
    let all = run_counts m ss start in
    all.counted ∙ ap deliveries (sym (ap heard_in all.session ∙ heard_in-append start.session all.more))
