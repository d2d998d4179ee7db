-- A server is done with the requests that it is handed in their order, each once.
use Rattle.std.proofs.Common.{◌≡◌, ◌∙◌, ℕ, Bool, true, false, List, [], ◌∷◌, ◌++◌, Option, Some, None, sym, ap, append_assoc, append-nil, inl, inr}
use Rattle.std.specs.Prelude.{Result, Ok, Err}
use Rattle.lapin_types.specs.Types.{Error}
use Rattle.lapin_types.specs.declared.event.Event.TheVariants as event
use Rattle.lapin_rules.specs.Wire.{state_of, is_open}
use Rattle.lapin_machine.specs.World.{World, told_by, next}
use Rattle.lapin_call.specs.declared.server.Served.{Served}
use Rattle.lapin_call.specs.declared.server.Served.TheVariants as served
use Rattle.lapin_call.specs.declared.server.Sent.{Sent}
use Rattle.lapin_call.specs.declared.server.Held.{Held}
use Rattle.lapin_call.specs.declared.server.Polled.{Polled}
use Rattle.lapin_call.specs.declared.server.Polled.TheVariants as polled
use Rattle.lapin_call.specs.declared.server.Server.{Server}
use Rattle.lapin_call.specs.Serving.{address_of, is_taken_on, item_polled, IsAcknowledged, IsAnswered, IsRejected, IsServedTo, IsServedOn, IsDoneWith, IsTried, IsNext, IsTaken}
use Rattle.lapin_call.specs.Turns.{Turn, AreTurns, kept_tags, given_tags, handed_tags, done_tags, all_handed, all_done}

-- what is kept of a request where the call was refused, or else that the call was done with it
abbrev Ends : Held → Result Served Error → Held → Type 0
Ends h (Ok x) k = done_tags (Ok x) ≡ h.delivery.delivery_tag ∷ []
Ends h (Err e) k = k.delivery.delivery_tag ≡ h.delivery.delivery_tag

acknowledged_ends : (s : Sent) (h : Held) (r : Result Served Error) (k : Held) (v w : World) → IsAcknowledged s h r k v w → Ends h r k
acknowledged_ends s h (Ok (served.Answered tag t p)) k v w a = ap (λ (n : ℕ). n ∷ []) a.0
acknowledged_ends s h (Ok served.Nothing) k v w a = absurd a
acknowledged_ends s h (Ok served.End) k v w a = absurd a
acknowledged_ends s h (Ok (served.Failed e)) k v w a = absurd a
acknowledged_ends s h (Ok (served.Stale tag)) k v w a = absurd a
acknowledged_ends s h (Ok (served.NoAddress tag)) k v w a = absurd a
acknowledged_ends s h (Err e) k v w a = ap (λ (x : Held). x.delivery.delivery_tag) a.0

no_answer : (r : Result Served Error) (e : Error) (h k : Held) → r ≡ Err e → k ≡ h → Ends h r k
no_answer (Ok x) e h k is same = absurd cc
no_answer (Err x) e h k is same = ap (λ (y : Held). y.delivery.delivery_tag) same

answered_ends : (may : List ℕ → List ℕ → Type 0) (c : ℕ) (a : List ℕ × List ℕ) (o : Option Sent) (h : Held) (r : Result Served Error) (k : Held) (v w : World) → IsAnswered may c a o h r k v w → Ends h r k
answered_ends may c a (Some s) h r k v w is = acknowledged_ends s h r k v w is
answered_ends may c a None h r k v w (inl (same, inl none)) = no_answer r _ h k none.0 same
answered_ends may c a None h r k v w (inl (same, inr refused)) = no_answer r refused.1 h k refused.3 same
answered_ends may c a None h r k v w (inr new) = acknowledged_ends new.1 h r k new.2 w new.5

rejected_ends : (h : Held) (r : Result Served Error) (k : Held) (v w : World) → IsRejected h r k v w → Ends h r k
rejected_ends h (Ok (served.NoAddress tag)) k v w a = ap (λ (n : ℕ). n ∷ []) a.0
rejected_ends h (Ok served.Nothing) k v w a = absurd a
rejected_ends h (Ok served.End) k v w a = absurd a
rejected_ends h (Ok (served.Failed e)) k v w a = absurd a
rejected_ends h (Ok (served.Stale tag)) k v w a = absurd a
rejected_ends h (Ok (served.Answered tag t p)) k v w a = absurd a
rejected_ends h (Err e) k v w a = ap (λ (x : Held). x.delivery.delivery_tag) a.0

served_ends : (may : List ℕ → List ℕ → Type 0) (c : ℕ) (a : Option (List ℕ × List ℕ)) (h : Held) (r : Result Served Error) (k : Held) (v w : World) → IsServedTo may c a h r k v w → Ends h r k
served_ends may c None h r k v w is = rejected_ends h r k v w is
served_ends may c (Some a) h r k v w is = answered_ends may c a h.sent h r k v w is

open_ends : (may : List ℕ → List ℕ → Type 0) (c : ℕ) (b : Bool) (h : Held) (r : Result Served Error) (k : Held) (v w : World) → IsServedOn may c b h r k v w → Ends h r k
open_ends may c true h r k v w is = served_ends may c (address_of h.delivery.properties) h r k v w is
open_ends may c false h r k v w is = no_answer r _ h k is.0 is.1

stale_ends : (r : Result Served Error) (h k : Held) → r ≡ Ok (served.Stale h.delivery.delivery_tag) → Ends h r k
stale_ends (Ok x) h k is = ap done_tags is
stale_ends (Err e) h k is = absurd cc

done_ends : (may : List ℕ → List ℕ → Type 0) (c : ℕ) (b : Bool) (h : Held) (r : Result Served Error) (k : Held) (v w : World) → IsDoneWith may c b h r k v w → Ends h r k
done_ends may c false h r k v w is = stale_ends r h k is.0
done_ends may c true h r k v w is = open_ends may c (is_open (state_of c v.wire)) h r k v w is

-- ---- a call

-- what it is done with, and what is then kept
abbrev Leaves : List ℕ → Result Served Error → Server → Type 0
Leaves tags r t = done_tags r ++ kept_tags t.held ≡ tags

tried_leaves : (may : List ℕ → List ℕ → Type 0) (s : Server) (h : Held) (r : Result Served Error) (t : Server) (v w : World) → IsTried may s h r t v w → Leaves (h.delivery.delivery_tag ∷ []) r t
tried_leaves may s h (Ok x) t v w tried =
    let ends : done_tags (Ok x) ≡ h.delivery.delivery_tag ∷ [] = done_ends may s.channel (is_taken_on s.channel h.delivery.acker.number v.wire) h (Ok x) tried.0 v w tried.1 in
    ap (λ (o : Option Held). done_tags (Ok x) ++ kept_tags o) tried.2.2 ∙ append-nil (done_tags (Ok x)) ∙ ends
tried_leaves may s h (Err e) t v w tried =
    let ends : tried.0.delivery.delivery_tag ≡ h.delivery.delivery_tag = done_ends may s.channel (is_taken_on s.channel h.delivery.acker.number v.wire) h (Err e) tried.0 v w tried.1 in
    ap kept_tags tried.2.2 ∙ ap (λ (n : ℕ). n ∷ []) ends

next_leaves : (may : List ℕ → List ℕ → Type 0) (s : Server) (p : Polled) (r : Result Served Error) (t : Server) (v w : World) → IsNext may s p r t v w → Leaves (given_tags p) r t
next_leaves may s polled.Nothing r t v w is = ap (λ (x : Result Served Error). done_tags x ++ kept_tags t.held) is.0 ∙ ap kept_tags is.1.2
next_leaves may s polled.End r t v w is = ap (λ (x : Result Served Error). done_tags x ++ kept_tags t.held) is.0 ∙ ap kept_tags is.1.2
next_leaves may s (polled.Failed e) r t v w is = ap (λ (x : Result Served Error). done_tags x ++ kept_tags t.held) is.0 ∙ ap kept_tags is.1.2
next_leaves may s (polled.Request d) r t v w is = tried_leaves may s (record { delivery = d; sent = None }) r t v w is

pub turn_leaves : (may : List ℕ → List ℕ → Type 0) (o : Option Held) (s : Server) (r : Result Served Error) (t : Server) (v w : World) → IsTaken may o s r t v w → Leaves (kept_tags o ++ handed_tags o (item_polled (told_by v (event.PollConsumer s.consumer)))) r t
turn_leaves may None s r t v w is = next_leaves may s (item_polled (told_by v (event.PollConsumer s.consumer))) r t (next v (event.PollConsumer s.consumer)) w is
turn_leaves may (Some h) s r t v w is = tried_leaves may s h r t v w is

-- ---- calls in a row

pub each_once : (may : List ℕ → List ℕ → Type 0) (s t : Server) (xs : List Turn) → AreTurns may s xs t → kept_tags s.held ++ all_handed xs ≡ all_done xs ++ kept_tags t.held
each_once may s t [] are = append-nil (kept_tags s.held) ∙ ap (λ (x : Server). kept_tags x.held) are
each_once may s t (x ∷ xs) are =
    let handed : List ℕ = handed_tags x.before.held (item_polled (told_by x.session (event.PollConsumer x.before.consumer))) in
    let one : done_tags x.result ++ kept_tags x.after.held ≡ kept_tags x.before.held ++ handed = turn_leaves may x.before.held x.before x.result x.after x.session x.left are.1 in
    let rest : kept_tags x.after.held ++ all_handed xs ≡ all_done xs ++ kept_tags t.held = each_once may x.after t xs are.2 in
    ap (λ (y : Server). kept_tags y.held ++ (handed ++ all_handed xs)) are.0
    ∙ sym (append_assoc (kept_tags x.before.held) handed (all_handed xs))
    ∙ ap (λ (ys : List ℕ). ys ++ all_handed xs) (sym one)
    ∙ append_assoc (done_tags x.result) (kept_tags x.after.held) (all_handed xs)
    ∙ ap (λ (ys : List ℕ). done_tags x.result ++ ys) rest
    ∙ sym (append_assoc (done_tags x.result) (all_done xs) (kept_tags t.held))
