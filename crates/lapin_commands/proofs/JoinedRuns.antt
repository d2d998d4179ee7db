-- What a joined run owes as a run that an input drives.
use Rattle.std.proofs.Common.{◌≡◌, ◌≢◌, ◌∙◌, ℕ, suc, ◌≤◌, ◌^◌, Bool, true, false, true≢false, List, [], ◌∷◌, ◌++◌, Option, Some, None, get_or, refl, sym, ap, subst, arith, append-nil, append_assoc}
use Rattle.std.specs.Prelude.{Result, Ok, Err, IfOk, OnOk, codes, if◌then◌else◌}
use Rattle.lapin_types.specs.declared.event.Event.{Event}
use Rattle.lapin_types.specs.declared.event.Event.TheVariants as event
use Rattle.lapin_types.specs.declared.record.Record.{Record}
use Rattle.lapin_types.specs.Types.{Frame, Error}
use Rattle.lapin_types.specs.Types.frame
use Rattle.lapin_machine.specs.World.{World, new_world, next, told_by}
use Rattle.lapin_machine.specs.Way.{by_machine}
use Rattle.lapin_machine.specs.declared.channel.Heard.{Heard}
use Rattle.lapin_text.specs.Events.{line_of}
use Rattle.lapin_text.specs.Input.{lines_of, max_line, IsMax, AreSteps, LinesSay}
use Rattle.lapin_text.specs.LineReading.{line_at}
use Rattle.lapin_text.specs.Records.{line_onto, record_tokens}
use Rattle.lapin_text.proofs.LineLaws.{line_found, refused}
use Rattle.lapin_lines.specs.Lines.{IsTaken}
use Rattle.lapin_joint.specs.declared.step.Step.{Step}
use Rattle.lapin_joint.specs.declared.step.Step.TheVariants as step
use Rattle.lapin_joint.specs.declared.step.Reported.{Reported}
use Rattle.lapin_joint.specs.Joint.{Joint, new_joint, is_lawful, handed_by, after, report, reports, IsDelivered, handed_record}
use Rattle.lapin_joint.specs.JoinedRun.{CanTake}
use Rattle.lapin_joint.proofs.Alike.{reports_joined}
use Rattle.lapin_joint.proofs.Steps.{can_take_rest, can_take_fewer}
use Rattle.lapin_joint_text.specs.Steps.{step_line, HasLine, IsLineOf, NoLine}
use Rattle.lapin_joint_text.specs.Reports.{report_tokens, report_line, reports_text}
use Rattle.lapin_joint_text.proofs.StepLaws.{client_found, client_none}
use Rattle.lapin_inputs.specs.Printing.{Adds, bad_line_text}
use Rattle.lapin_inputs.proofs.Streaming.{adds_by, prints_by}
use Rattle.lapin_commands.specs.Joined.{joined_text, PrintsJoined, JoinedGoesOn, IsMade, IsStepMade}
use Rattle.lapin_commands.proofs.Runs.{line_grown, numbers_first}

-- ---- an event of the client that its line says

-- what begins with none of these letters is no line of a frame request, of a broker's frame or of the loss
quiet_event : (e : Event) (w : World) (said : List ℕ) → said ≡ line_of e → get_or said 0 0 ≢ 110 → get_or said 0 0 ≢ 114 → get_or said 0 0 ≢ 108 → (is_lawful e ≡ true) × (handed_by by_machine e w ≡ [])
quiet_event (event.Next flow) w said is request broker loss = absurd (request (ap (λ (l : List ℕ). get_or l 0 0) is))
quiet_event (event.Receive (frame.Method c m)) w said is request broker loss = absurd (broker (ap (λ (l : List ℕ). get_or l 0 0) is))
quiet_event (event.Receive (frame.Header c h)) w said is request broker loss = absurd (broker (ap (λ (l : List ℕ). get_or l 0 0) is))
quiet_event (event.Receive (frame.Body c b)) w said is request broker loss = absurd (broker (ap (λ (l : List ℕ). get_or l 0 0) is))
quiet_event event.Lost w said is request broker loss = absurd (loss (ap (λ (l : List ℕ). get_or l 0 0) is))
quiet_event _ w said is request broker loss = (refl, refl)

-- such an event is a step that moves the session alone
quiet_step : (e : Event) (j : Joint World) (v : World) → is_lawful e ≡ true → handed_by by_machine e j.session ≡ [] → v ≡ next j.session e → record j { session = v } ≡ after by_machine (step.Client e) j
quiet_step e j v lawful none met =
    let up : j.up ≡ j.up ++ handed_by by_machine e j.session = sym (ap (λ ls. j.up ++ ls) none ∙ append-nil j.up) in
    rw lawful (ap (λ (w : World). record j { session = w }) met ∙ ap (λ ls. record j { session = next j.session e; up = ls }) up)

quiet_report : (e : Event) (j : Joint World) → is_lawful e ≡ true → record_tokens (told_by j.session e) ≡ report_tokens (report by_machine (step.Client e) j)
quiet_report e j lawful = rw lawful refl

-- so a line of the client that says one makes its step
event_taken : {E : Type 0} (r : Result Bool E) (line said : List ℕ) (j k : Joint World) (v : World) (t u : List ℕ) → line ≡ codes "client " ++ said → get_or said 0 0 ≢ 110 → get_or said 0 0 ≢ 114 → get_or said 0 0 ≢ 108 → k ≡ record j { session = v } → IfOk r (IsTaken (line_at said) j.session v t u) → IfOk r (IsStepMade line j k t u)
event_taken (Err e) line said j k v t u is request broker loss moved h = h
event_taken (Ok good) line said j k v t u is request broker loss moved h = with_event (line_at said) refl h
  where
    with_event : (o : Option Event) → line_at said ≡ o → IsTaken o j.session v t u good → IsStepMade line j k t u good
    with_event None says h =
        let none : NoLine line = client_none line said is (λ e fit same. refused said e fit same says) in
        subst (λ (b : Bool). IsStepMade line j k t u b) (sym h.0) (none, moved ∙ ap (λ (w : World). record j { session = w }) h.1, h.2)
    with_event (Some e) says h =
        let found = line_found said e says in
        let quiet = quiet_event e j.session said found.0 request broker loss in
        let made : IsMade (step.Client e) j k t u = (moved ∙ quiet_step e j v quiet.0 quiet.1 h.1.0, h.1.1 ∙ ap (λ tokens. line_onto t tokens ++ 10 ∷ []) (quiet_report e j quiet.0)) in
        subst (λ (b : Bool). IsStepMade line j k t u b) (sym h.0) (step.Client e, client_found line said e is found, made)

-- the same where the session is that of a run that is this one
pub event_made : {E : Type 0} (r : Result Bool E) (line said : List ℕ) (i j : Joint World) (v : World) (t u : List ℕ) → i ≡ j → line ≡ codes "client " ++ said → get_or said 0 0 ≢ 110 → get_or said 0 0 ≢ 114 → get_or said 0 0 ≢ 108 → IfOk r (IsTaken (line_at said) i.session v t u) → IfOk r (IsStepMade line j (record i { session = v }) t u)
event_made r line said i j v t u same is request broker loss h =
    subst (λ (x : Joint World). IfOk r (IsStepMade line x (record i { session = v }) t u)) same (event_taken r line said i (record i { session = v }) v t u is request broker loss refl h)

-- a line that says a frame request makes that step
pub request_made : (line said : List ℕ) (flow : Bool) (j k : Joint World) (t u : List ℕ) → line ≡ codes "client " ++ said → said ≡ line_of (event.Next flow) → IsMade (step.Client (event.Next flow)) j k t u → IsStepMade line j k t u true
request_made line said flow j k t u is says made = (step.Client (event.Next flow), client_found line said (event.Next flow) is (says, refl), made)

-- a step that a line says was made
pub step_made : (line : List ℕ) (s : Step) (j k : Joint World) (t u : List ℕ) → IsLineOf line s → IsMade s j k t u → IsStepMade line j k t u true
step_made line s j k t u said made = (s, said, made)

-- a step was made where its report's line was written
pub made_reported : {E : Type 0} (res : Result (Unit {0}) E) (s : Step) (j k : Joint World) (r : Reported) (t u : List ℕ) → k ≡ after by_machine s j → r ≡ report by_machine s j → OnOk res (u ≡ line_onto t (report_tokens r) ++ 10 ∷ []) → OnOk res (IsMade s j k t u)
made_reported (Ok x) s j k r t u moved told put = (moved, put ∙ ap (λ (y : Reported). line_onto t (report_tokens y) ++ 10 ∷ []) told)
made_reported (Err e) s j k r t u moved told put = tt

-- where it is one of two, and the line of that was written
pub made_either : {E : Type 0} (res : Result (Unit {0}) E) (s : Step) (j k : Joint World) (first : Bool) (x y : Reported) (one other t u : List ℕ) → k ≡ after by_machine s j → report by_machine s j ≡ (if first then x else y) → t ++ one ≡ line_onto t (report_tokens x) ++ 10 ∷ [] → t ++ other ≡ line_onto t (report_tokens y) ++ 10 ∷ [] → OnOk res (u ≡ t ++ (if first then one else other)) → OnOk res (IsMade s j k t u)
made_either (Err e) s j k first x y one other t u moved told p q put = tt
made_either (Ok v) s j k true x y one other t u moved told p q put = (moved, put ∙ p ∙ ap (λ (z : Reported). line_onto t (report_tokens z) ++ 10 ∷ []) (sym told))
made_either (Ok v) s j k false x y one other t u moved told p q put = (moved, put ∙ q ∙ ap (λ (z : Reported). line_onto t (report_tokens z) ++ 10 ∷ []) (sym told))

-- where it tells what became of a frame
pub made_delivered : {E : Type 0} (res : Result (Unit {0}) E) (h : Option (Result Heard Error)) (j k : Joint World) (t u : List ℕ) → k ≡ after by_machine step.Deliver j → IsDelivered h (report by_machine step.Deliver j) → OnOk res ((r : Reported) → IsDelivered h r → u ≡ line_onto t (report_tokens r) ++ 10 ∷ []) → OnOk res (IsMade step.Deliver j k t u)
made_delivered (Ok x) h j k t u moved told put = (moved, put (report by_machine step.Deliver j) told)
made_delivered (Err e) h j k t u moved told put = tt

-- where it tells the frame that was handed out
pub made_handed : {E : Type 0} (res : Result (Unit {0}) E) (flow : Bool) (j k : Joint World) (f : Option Frame) (t u : List ℕ) → k ≡ after by_machine (step.Client (event.Next flow)) j → told_by j.session (event.Next flow) ≡ handed_record f → OnOk res (u ≡ line_onto t (record_tokens (handed_record f)) ++ 10 ∷ []) → OnOk res (IsMade (step.Client (event.Next flow)) j k t u)
made_handed (Ok x) flow j k f t u moved told put = (moved, put ∙ ap (λ (r : Record). line_onto t (record_tokens r) ++ 10 ∷ []) (sym told))
made_handed (Err e) flow j k f t u moved told put = tt

-- a word and the end of its line, behind a text
pub word_line : (t word : List ℕ) → t ++ (word ++ 10 ∷ []) ≡ (t ++ word) ++ 10 ∷ []
word_line t word = sym (append_assoc t word (10 ∷ []))

-- ---- what a run owes

pub can_one : (j : Joint World) → ((n : ℕ) × CanTake (suc n) j) → CanTake 1 j
can_one j can = can_take_fewer (suc can.0) 1 j can.1 (omega arith)

joined_adds : (j k : Joint World) (s : Step) (line old new : List ℕ) → IsLineOf line s → IsMade s j k old new → Adds (JoinedGoesOn j) (JoinedGoesOn k) line old new
joined_adds j k s line old new said made =
    subst (λ (x : Joint World). Adds (JoinedGoesOn j) (JoinedGoesOn x) line old new) (sym made.0)
    (adds_by (AreSteps step_line HasLine) report_line (λ ss. reports by_machine ss j) (λ ss. reports by_machine ss (after by_machine s j)) s (report by_machine s j) line old new (λ n lines ss bad are. (said.1, said.0, are)) (λ ss. refl) (made.1 ∙ line_grown old (report_tokens (report by_machine s j))))

pub made_adds : (j k : Joint World) (line old new : List ℕ) (good : Bool) → IsStepMade line j k old new good → good ≡ true → (past : Joint World) → past ≡ j → (now : Joint World) × (now ≡ k) × Adds (JoinedGoesOn past) (JoinedGoesOn now) line old new
made_adds j k line old new true made is past here = (k, refl, subst (λ (x : Joint World). Adds (JoinedGoesOn x) (JoinedGoesOn k) line old new) (sym here) (joined_adds j k made.0 line old new made.1 made.2))
made_adds j k line old new false made is past here = absurd (true≢false (sym is))

pub made_takes : (j k : Joint World) (line old new : List ℕ) (good : Bool) → IsStepMade line j k old new good → good ≡ true → (n : ℕ) → CanTake (suc n) j → CanTake n k
made_takes j k line old new true made is n can = can_take_rest n made.0 j k made.2.0 can
made_takes j k line old new false made is n can = absurd (true≢false (sym is))

pub made_stops : (j k : Joint World) (line old new : List ℕ) (good : Bool) → IsStepMade line j k old new good → good ≡ false → (past : Joint World) (n : ℕ) (lines : List (List ℕ)) → past ≡ j → JoinedGoesOn past n (line ∷ lines) (Some n) []
made_stops j k line old new true made is past n lines here = absurd (true≢false is)
made_stops j k line old new false made is past n lines here = record { steps = []; are = (refl, made.0); printed = refl }

pub made_same : (j k : Joint World) (line old new : List ℕ) (good : Bool) → IsStepMade line j k old new good → good ≡ false → new ≡ old
made_same j k line old new true made is = absurd (true≢false is)
made_same j k line old new false made is = made.2

joined_whole : (m : ℕ) (j : Joint World) (input : List ℕ) (lines : List (List ℕ)) (bad : Option ℕ) (text : List ℕ) → j ≡ new_joint (new_world m) m → IsMax m → lines_of input ≡ max_line m ∷ lines → JoinedGoesOn j 2 lines bad text → PrintsJoined input bad (text ++ bad_line_text bad)
joined_whole m j input lines bad text new ok is p =
    prints_by (LinesSay step_line HasLine) (AreSteps step_line HasLine) joined_text (λ ss. reports_text (reports by_machine ss j)) m input lines bad text
    (λ ss are. subst (λ (ls : List (List ℕ)). LinesSay step_line HasLine ls (Some m) ss bad) (sym is) (ok, refl, are))
    (λ ss. ap reports_text (ap (λ (x : Joint World). reports by_machine ss x) new ∙ reports_joined m ss))
    p

pub joined_begins : {E : Type 0} (r : Result (Joint World) E) (m : ℕ) → IfOk r (λ j. j ≡ new_joint (new_world m) m) → IfOk r (λ j. (past : Joint World) × (past ≡ j) × ((input : List ℕ) (lines : List (List ℕ)) (bad : Option ℕ) (text : List ℕ) → IsMax m → lines_of input ≡ max_line m ∷ lines → JoinedGoesOn past 2 lines bad text → PrintsJoined input bad (text ++ bad_line_text bad)))
joined_begins (Ok j) m new = (j, refl, λ input lines bad text ok is p. joined_whole m j input lines bad text new ok is p)
joined_begins (Err e) m new = tt

pub joined_takes : {E : Type 0} (r : Result (Joint World) E) (m : ℕ) → IfOk r (λ j. j ≡ new_joint (new_world m) m) → IfOk r (λ j. (n : ℕ) → n ≤ 2 ^ 31 → CanTake n j)
joined_takes (Ok j) m new = λ n few. (numbers_first m n j.session (ap (λ (x : Joint World). x.session) new) few, ap (λ (x : Joint World). x.session.returned) new)
joined_takes (Err e) m new = tt
