-- A ticket is of one call: so no frame of the broker answers that of a call without wait, and that of a close is answered by its own
-- close-ok alone.
use Rattle.std.proofs.Common.{◌≡◌, ◌∙◌, ℕ, ◌≤◌, Bool, true, false, cond, List, [], ◌∷◌, ◌++◌, Some, None, Ok, inl, inr, refl, sym, ap, subst, append-nil, append_assoc}
use Rattle.std.specs.Option.{is_some}
use Rattle.lapin_types.specs.declared.answer.Answer.{Answer}
use Rattle.lapin_types.specs.declared.call.Call.{Call}
use Rattle.lapin_types.specs.declared.event.Event.{Event}
use Rattle.lapin_types.specs.declared.event.Event.TheVariants as event
use Rattle.lapin_types.specs.declared.leaving.Left.{Left}
use Rattle.lapin_types.specs.declared.record.Record.{Record}
use Rattle.lapin_types.specs.Types.{Frame, Method}
use Rattle.lapin_rules.specs.declared.calls.Asked.{Asked}
use Rattle.lapin_rules.specs.declared.calls.Asked.TheVariants as ask
use Rattle.lapin_rules.specs.Calls.{asked, awaited_by}
use Rattle.lapin_rules.specs.ChannelClose.{own_close}
use Rattle.lapin_rules.specs.ConnectionClose.{own_connection_close}
use Rattle.lapin_rules.specs.History.{History, rec}
use Rattle.lapin_rules.specs.TicketReadings.{answer_of}
use Rattle.lapin_broker.specs.Frames.{channel_of}
use Rattle.lapin_broker.specs.Sends.{may}
use Rattle.lapin_joint.specs.declared.step.Step.{Step}
use Rattle.lapin_joint.specs.declared.step.Step.TheVariants as step
use Rattle.lapin_joint.specs.Joint.{Joint, is_lawful, client, read_first, send_down, deliver_first, after, joined_to}
use Rattle.lapin_machine.specs.Way.{by_history}
use Rattle.lapin_verdicts.specs.Deeds.{deeds}
use Rattle.lapin_verdicts.specs.Session.{past_of}
use Rattle.lapin_verdicts.proofs.Runs.{joined-push}
use Rattle.lapin_answers.specs.Calls.{ticket_in, awaits_reply, awaits_by, IsCallOf, IsUnwaitedOf, IsAwaitedOf}
use Rattle.lapin_answers.specs.Causes.{Resolves, AsReply, AsContent, AsOpenOk, AsCloseOk, AsEndOk, AsEnd}
use Rattle.lapin_answers.specs.Closes.{IsCloseOf, IsClosed, IsEndOf, IsEnded}
use Rattle.lapin_answers.specs.Opens.{IsOpeningOf}
use Rattle.lapin_answers.specs.Truth.{UnwaitedAreNotReplied, ClosesAreByCloseOk, EndIsByCloseOk}
use Rattle.lapin_answers.proofs.Awaited.{awaited, before_delivery}
use Rattle.lapin_answers.proofs.Cancels.{cancel_call}
use Rattle.lapin_answers.proofs.Causes.{resolved}
use Rattle.lapin_answers.proofs.Closed.{closed}
use Rattle.lapin_answers.proofs.Ended.{ended}
use Rattle.lapin_answers.proofs.Received.{none_after}
use Rattle.lapin_answers.proofs.Ticketed.{one_call, numbered_in}

-- ---- calls

-- what a call is to the broker's answers: it awaits none, opens, closes its channel or the connection, or queues a method that awaits one
data Sort : Type 0 where
  Idle Opens Closes Ends Waits : Sort

abbrev sort_method : Bool → Sort
sort_method true = Waits
sort_method false = Idle

abbrev sort_asked : Asked → Sort
sort_asked ask.Open = Opens
sort_asked (ask.CloseChannel code text) = Closes
sort_asked (ask.CloseConnection code text) = Ends
sort_asked (ask.Method row) = sort_method (is_some (awaited_by row.answered))
sort_asked _ = Idle

abbrev sort_event : Event → Sort
sort_event (event.Call c k) = sort_asked (asked k)
sort_event _ = Idle

-- an event of a history that was given the ticket, of this sort
record Called (k : ℕ) (h : History) (z : Sort) : Type 0 where
  pub before : History
  pub behind : History
  pub event : Event
  pub told : Record
  pub all : h ≡ before ++ (event, told) ∷ behind
  pub given : ticket_in told ≡ Some k
  pub sort : sort_event event ≡ z

idle_method : (v : Bool) → v ≡ false → sort_method v ≡ Idle
idle_method v h = ap sort_method h

idle_asked : (a : Asked) → awaits_reply a ≡ false → sort_asked a ≡ Idle
idle_asked ask.Open h = absurd cc
idle_asked (ask.CloseChannel code text) h = absurd cc
idle_asked (ask.CloseConnection code text) h = absurd cc
idle_asked (ask.Method row) h = idle_method (is_some (awaited_by row.answered)) h
idle_asked _ h = refl

idle_event : (e : Event) → awaits_by e ≡ false → sort_event e ≡ Idle
idle_event (event.Call c k) h = idle_asked (asked k) h
idle_event _ h = refl

of_unwaited : (k : ℕ) (h : History) → IsUnwaitedOf k h → Called k h Idle
of_unwaited k h u = record { before = u.before; behind = u.behind; event = u.event; told = u.told; all = u.all; given = u.given; sort = idle_event u.event u.unwaited }

of_call : (k c : ℕ) (m : Method) (h : History) → IsCallOf k c m h → Called k h Waits
of_call k c m h y = record { before = y.before; behind = y.behind; event = y.event; told = y.told; all = y.all; given = ap ticket_in y.is.given; sort = ap sort_event y.is.is ∙ ap sort_asked y.is.asks }

of_open : (k c : ℕ) (h : History) → IsOpeningOf k c h → Called k h Opens
of_open k c h y = record { before = y.before; behind = y.behind; event = y.event; told = y.told; all = y.all; given = ap ticket_in y.is.given; sort = ap sort_event y.is.is ∙ ap sort_asked y.is.asks }

abbrev of_close : (k c : ℕ) (m : Method) (h : History) → IsCloseOf k c m h → Called k h Closes
of_close k c m h y = record { before = y.before; behind = y.behind; event = y.event; told = y.told; all = y.all; given = ap ticket_in y.is.given; sort = ap sort_event y.is.is ∙ ap sort_asked y.is.asks }

abbrev of_end : (k c : ℕ) (m : Method) (h : History) → IsEndOf k c m h → Called k h Ends
of_end k c m h y = record { before = y.before; behind = y.behind; event = y.event; told = y.told; all = y.all; given = ap ticket_in y.is.given; sort = ap sort_event y.is.is ∙ ap sort_asked y.is.asks }

same_event : (x y : Event × Record) → x ≡ y → x.0 ≡ y.0
same_event x y h = ap (λ (z : Event × Record). z.0) h

-- both are one event
one_event : (n k : ℕ) (ss : List Step) (z w : Sort) (x : Called k (joined_to n ss).session z) (y : Called k (joined_to n ss).session w) → x.event ≡ y.event
one_event n k ss z w x y = same_event (x.event, x.told) (y.event, y.told) (one_call (joined_to n ss).session (numbered_in n ss) x.before x.behind y.before y.behind (x.event, x.told) (y.event, y.told) k x.all y.all x.given y.given)

one_sort : (n k : ℕ) (ss : List Step) (z w : Sort) → Called k (joined_to n ss).session z → Called k (joined_to n ss).session w → z ≡ w
one_sort n k ss z w x y = sym x.sort ∙ (ap sort_event (one_event n k ss z w x y) ∙ y.sort)

-- ---- what resolves it

-- nothing is resolved where nothing comes
none_comes : {P : Type 0} (n k : ℕ) (a : Answer) (ss : List Step) → (joined_to n ss).down ≡ [] → answer_of k (past_of n ss).tickets ≡ None → answer_of k (past_of n (ss ++ step.Deliver ∷ [])).tickets ≡ Some (Ok a) → P
none_comes n k a ss down was now = let w : None ≡ Some (Ok a) = sym was ∙ (ap (answer_of k) (sym (none_after n ss down)) ∙ now) in absurd cc

sort_of : (n k : ℕ) (a : Answer) (ss : List Step) (f : Frame) → Resolves (joined_to n ss).session (past_of n ss).wire k a f → (z : Sort) × Called k (joined_to n ss).session z × (z ≡ Idle → ⊥)
sort_of n k a ss f (AsReply m call is) = (Waits, of_call k (channel_of f) m (joined_to n ss).session call, λ e. cc)
sort_of n k a ss f (AsContent c m call message is) = (Waits, of_call k c m (joined_to n ss).session call, λ e. cc)
sort_of n k a ss f (AsOpenOk call is) = (Opens, of_open k (channel_of f) (joined_to n ss).session call, λ e. cc)
sort_of n k a ss f (AsCloseOk m call is) = (Closes, of_close k (channel_of f) m (joined_to n ss).session call, λ e. cc)
sort_of n k a ss f (AsEndOk c m call is) = (Ends, of_end k c m (joined_to n ss).session call, λ e. cc)
sort_of n k a ss f (AsEnd c m call open_ done is) = (Waits, of_call k c m (joined_to n ss).session call, λ e. cc)

-- ---- calls without wait

pub unwaited : (n : ℕ) → 4096 ≤ n → (ss : List Step) → UnwaitedAreNotReplied n ss
unwaited n big ss k a u was now = by (joined_to n ss).down refl
  where
    by : (fs : List Frame) → (joined_to n ss).down ≡ fs → ⊥
    by [] down = none_comes n k a ss down was now
    by (f ∷ fs) down =
        let r = sort_of n k a ss f (resolved n big k a ss f fs down was now) in
        r.2 (sym (one_sort n k ss Idle r.0 (of_unwaited k (joined_to n ss).session u) r.1))

-- ---- closes

same_call : (c d : ℕ) (x y : Call) → event.Call c x ≡ event.Call d y → (c ≡ d) × (x ≡ y)
same_call c d x y h = let p : c ≡ d = cc in let q : x ≡ y = cc in (p, q)

same_close : (code code' : ℕ) (text text' : List ℕ) → ask.CloseChannel code text ≡ ask.CloseChannel code' text' → own_close code text ≡ own_close code' text'
same_close code code' text text' h = let p : code ≡ code' = cc in let q : text ≡ text' = cc in ap (λ v. own_close v text) p ∙ ap (own_close code') q

same_end : (code code' : ℕ) (text text' : List ℕ) → ask.CloseConnection code text ≡ ask.CloseConnection code' text' → own_connection_close code text ≡ own_connection_close code' text'
same_end code code' text text' h = let p : code ≡ code' = cc in let q : text ≡ text' = cc in ap (λ v. own_connection_close v text) p ∙ ap (own_connection_close code') q

module _ (n : ℕ) (big : 4096 ≤ n) (ss : List Step) (k c : ℕ) (m : Method) (a : Answer) where
  abbrev h : History
  h = (joined_to n ss).session

  -- the close that the broker answered is this one
  close_is : (x : IsCloseOf k c m h) (d : ℕ) (w : Method) (y : IsCloseOf k d w h) → (d ≡ c) × (w ≡ m)
  close_is x d w y =
      let e : x.event ≡ y.event = one_event n k ss Closes Closes (of_close k c m h x) (of_close k d w h y) in
      let p = same_call c d x.is.call y.is.call (sym x.is.is ∙ (e ∙ y.is.is)) in
      (sym p.0, y.is.queues ∙ (sym (same_close x.is.code y.is.code x.is.text y.is.text (sym x.is.asks ∙ (ap asked p.1 ∙ y.is.asks))) ∙ sym x.is.queues))

  end_is : (x : IsEndOf k c m h) (d : ℕ) (w : Method) (y : IsEndOf k d w h) → (d ≡ c) × (w ≡ m)
  end_is x d w y =
      let e : x.event ≡ y.event = one_event n k ss Ends Ends (of_end k c m h x) (of_end k d w h y) in
      let p = same_call c d x.is.call y.is.call (sym x.is.is ∙ (e ∙ y.is.is)) in
      (sym p.0, y.is.queues ∙ (sym (same_end x.is.code y.is.code x.is.text y.is.text (sym x.is.asks ∙ (ap asked p.1 ∙ y.is.asks))) ∙ sym x.is.queues))

  module _ (f : Frame) (fs : List Frame) (down : (joined_to n ss).down ≡ f ∷ fs) (was : answer_of k (past_of n ss).tickets ≡ None) (now : answer_of k (past_of n (ss ++ step.Deliver ∷ [])).tickets ≡ Some (Ok a)) where
    abbrev ByClose : Type 0
    ByClose = (channel_of f ≡ c) × IsClosed c k m f (deeds n ss)

    other_close : {P : Type 0} (z : Sort) → (z ≡ Closes → ⊥) → IsCloseOf k c m h → Called k h z → P
    other_close z apart x y = absurd (apart (sym (one_sort n k ss Closes z (of_close k c m h x) y)))

    its_close : (x : IsCloseOf k c m h) → Resolves h (past_of n ss).wire k a f → ByClose
    its_close x (AsReply w call is) = other_close Waits (λ e. cc) x (of_call k (channel_of f) w h call)
    its_close x (AsContent d w call message is) = other_close Waits (λ e. cc) x (of_call k d w h call)
    its_close x (AsOpenOk call is) = other_close Opens (λ e. cc) x (of_open k (channel_of f) h call)
    its_close x (AsEndOk d w call is) = other_close Ends (λ e. cc) x (of_end k d w h call)
    its_close x (AsEnd d w call open_ done is) = other_close Waits (λ e. cc) x (of_call k d w h call)
    its_close x (AsCloseOk w call is) = elim (closed n big ss k a f fs down is was now) [
      | inl y ↦ (
          let p = close_is x (channel_of f) y.0 y.1 in
          (p.0, subst (λ v. IsClosed v k m f (deeds n ss)) p.0 (subst (λ v. IsClosed (channel_of f) k v f (deeds n ss)) p.1 y.2)))
      | inr y ↦ (let r = cancel_call n big (channel_of f) k ss y in other_close Waits (λ e. cc) x (of_call k (channel_of f) r.0 h r.1))
    ]

    other_end : {P : Type 0} (z : Sort) → (z ≡ Ends → ⊥) → IsEndOf k c m h → Called k h z → P
    other_end z apart x y = absurd (apart (sym (one_sort n k ss Ends z (of_end k c m h x) y)))

    its_end : (x : IsEndOf k c m h) → Resolves h (past_of n ss).wire k a f → IsEnded c k m f (deeds n ss)
    its_end x (AsReply w call is) = other_end Waits (λ e. cc) x (of_call k (channel_of f) w h call)
    its_end x (AsContent d w call message is) = other_end Waits (λ e. cc) x (of_call k d w h call)
    its_end x (AsOpenOk call is) = other_end Opens (λ e. cc) x (of_open k (channel_of f) h call)
    its_end x (AsCloseOk w call is) = other_end Closes (λ e. cc) x (of_close k (channel_of f) w h call)
    its_end x (AsEnd d w call open_ done is) = other_end Waits (λ e. cc) x (of_call k d w h call)
    its_end x (AsEndOk d w call is) =
        let y = ended n big ss k a f fs down is was now in
        let p = end_is x y.0 y.1 y.2 in
        subst (λ v. IsEnded v k m f (deeds n ss)) p.0 (subst (λ v. IsEnded y.0 k v f (deeds n ss)) p.1 y.3)

close_awaited : (k c : ℕ) (m : Method) (h : History) → IsCloseOf k c m h → IsAwaitedOf k h
close_awaited k c m h y = record { before = y.before; behind = y.behind; event = y.event; told = y.told; all = y.all; given = ap ticket_in y.is.given; awaited = ap awaits_by y.is.is ∙ ap awaits_reply y.is.asks }

end_awaited : (k c : ℕ) (m : Method) (h : History) → IsEndOf k c m h → IsAwaitedOf k h
end_awaited k c m h y = record { before = y.before; behind = y.behind; event = y.event; told = y.told; all = y.all; given = ap ticket_in y.is.given; awaited = ap awaits_by y.is.is ∙ ap awaits_reply y.is.asks }

-- a step leaves the calls that stand
step_grows : (n : ℕ) (s : Step) (j : Joint History) → (more : History) × ((after (by_history n) s j).session ≡ j.session ++ more)
step_grows n (step.Client e) j = elim (is_lawful e) as (λ v. (more : History) × ((cond v (client (by_history n) e j) j).session ≡ j.session ++ more)) [ true ↦ ((e, rec n j.session e) ∷ [], refl) | false ↦ ([], sym (append-nil j.session)) ]
step_grows n step.Read j = by j.up
  where
    by : (ls : List Left) → (more : History) × ((read_first ls j).session ≡ j.session ++ more)
    by [] = ([], sym (append-nil j.session))
    by (l ∷ ls) = ([], sym (append-nil j.session))
step_grows n (step.Send f) j = elim (may j.broker f) as (λ v. (more : History) × ((cond v (send_down f j) j).session ≡ j.session ++ more)) [ true ↦ ([], sym (append-nil j.session)) | false ↦ ([], sym (append-nil j.session)) ]
step_grows n step.Deliver j = by j.down
  where
    by : (fs : List Frame) → (more : History) × ((deliver_first (by_history n) fs j).session ≡ j.session ++ more)
    by [] = ([], sym (append-nil j.session))
    by (f ∷ fs) = ((event.Receive f, rec n j.session (event.Receive f)) ∷ [], refl)
step_grows n step.Lose j = ((event.Lost, rec n j.session event.Lost) ∷ [], refl)

called_on : (k : ℕ) (h more : History) (z : Sort) → Called k h z → Called k (h ++ more) z
called_on k h more z y = record { before = y.before; behind = y.behind ++ more; event = y.event; told = y.told; all = ap (λ v. v ++ more) y.all ∙ append_assoc y.before ((y.event, y.told) ∷ y.behind) more; given = y.given; sort = y.sort }

called_after : (n k : ℕ) (ss : List Step) (s : Step) (z : Sort) → Called k (joined_to n ss).session z → Called k (joined_to n (ss ++ s ∷ [])).session z
called_after n k ss s z y =
    let g = step_grows n s (joined_to n ss) in
    subst (λ (h : History). Called k h z) (sym g.1 ∙ ap (λ (i : Joint History). i.session) (sym (joined-push n ss s))) (called_on k (joined_to n ss).session g.0 z y)

-- no other step than a delivery answers a call of another sort than that of a cancel
by_delivery : (n : ℕ) → 4096 ≤ n → (ss : List Step) (k : ℕ) (a : Answer) (s : Step) (z : Sort) → (z ≡ Waits → ⊥) → Called k (joined_to n (ss ++ s ∷ [])).session z → IsAwaitedOf k (joined_to n (ss ++ s ∷ [])).session → answer_of k (past_of n ss).tickets ≡ None → answer_of k (past_of n (ss ++ s ∷ [])).tickets ≡ Some (Ok a) → s ≡ step.Deliver
by_delivery n big ss k a s z apart x call was now = elim (awaited n ss k a s call was now) [
  | inl is ↦ is
  | inr o ↦ (let r = cancel_call n big o.0 k ss o.1 in absurd (apart (one_sort n k (ss ++ s ∷ []) z Waits x (called_after n k ss s Waits (of_call k o.0 r.0 (joined_to n ss).session r.1)))))
]

pub closes_by_ok : (n : ℕ) → 4096 ≤ n → (ss : List Step) → ClosesAreByCloseOk n ss
closes_by_ok n big ss k c m a s x was now = let r = by (joined_to n ss).down refl in (is, r.0, r.1, r.2, r.3, r.4)
  where
    is : s ≡ step.Deliver
    is = by_delivery n big ss k a s Closes (λ e. cc) (of_close k c m (joined_to n (ss ++ s ∷ [])).session x) (close_awaited k c m (joined_to n (ss ++ s ∷ [])).session x) was now

    later : answer_of k (past_of n (ss ++ step.Deliver ∷ [])).tickets ≡ Some (Ok a)
    later = subst (λ v. answer_of k (past_of n (ss ++ v ∷ [])).tickets ≡ Some (Ok a)) is now

    call : IsCloseOf k c m (joined_to n ss).session
    call =
        let y : IsCloseOf k c m (joined_to n (ss ++ step.Deliver ∷ [])).session = subst (λ v. IsCloseOf k c m (joined_to n (ss ++ v ∷ [])).session) is x in
        let r = before_delivery n ss y.before y.behind (y.event, y.told) c y.is.call y.is.is y.all in
        record { before = y.before; behind = r.0; event = y.event; told = y.told; all = r.1; is = y.is }

    by : (fs : List Frame) → (joined_to n ss).down ≡ fs → (f : Frame) × (way : List Frame) × ((joined_to n ss).down ≡ f ∷ way) × (channel_of f ≡ c) × IsClosed c k m f (deeds n ss)
    by [] down = none_comes n k a ss down was later
    by (f ∷ fs) down = let r = its_close n big ss k c m a f fs down was later call (resolved n big k a ss f fs down was later) in (f, fs, down, r.0, r.1)

pub ends_by_ok : (n : ℕ) → 4096 ≤ n → (ss : List Step) → EndIsByCloseOk n ss
ends_by_ok n big ss k c m a s x was now = let r = by (joined_to n ss).down refl in (is, r.0, r.1, r.2, r.3)
  where
    is : s ≡ step.Deliver
    is = by_delivery n big ss k a s Ends (λ e. cc) (of_end k c m (joined_to n (ss ++ s ∷ [])).session x) (end_awaited k c m (joined_to n (ss ++ s ∷ [])).session x) was now

    later : answer_of k (past_of n (ss ++ step.Deliver ∷ [])).tickets ≡ Some (Ok a)
    later = subst (λ v. answer_of k (past_of n (ss ++ v ∷ [])).tickets ≡ Some (Ok a)) is now

    call : IsEndOf k c m (joined_to n ss).session
    call =
        let y : IsEndOf k c m (joined_to n (ss ++ step.Deliver ∷ [])).session = subst (λ v. IsEndOf k c m (joined_to n (ss ++ v ∷ [])).session) is x in
        let r = before_delivery n ss y.before y.behind (y.event, y.told) c y.is.call y.is.is y.all in
        record { before = y.before; behind = r.0; event = y.event; told = y.told; all = r.1; is = y.is }

    by : (fs : List Frame) → (joined_to n ss).down ≡ fs → (f : Frame) × (way : List Frame) × ((joined_to n ss).down ≡ f ∷ way) × IsEnded c k m f (deeds n ss)
    by [] down = none_comes n k a ss down was later
    by (f ∷ fs) down = (f, fs, down, its_end n big ss k c m a f fs down was later call (resolved n big k a ss f fs down was later))
