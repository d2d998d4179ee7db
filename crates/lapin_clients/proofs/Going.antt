-- What a call does to the session, as steps of the client in a joined run.
use Rattle.std.proofs.Common.{◌≡◌, ℕ, ◌<◌, Bool, true, false, List, [], ◌∷◌, ◌++◌, map, Option, None, refl, sym, ap, subst, ◌∙◌, arith}
use Rattle.std.proofs.lemmas.List.{append-nil, map-append}
use Rattle.lapin_types.specs.declared.event.Event.{Event}
use Rattle.lapin_types.specs.declared.event.Event.TheVariants as event
use Rattle.lapin_types.specs.declared.leaving.Left.{Left}
use Rattle.lapin_types.specs.Types.{Frame}
use Rattle.lapin_joint.specs.declared.step.Step.{Step}
use Rattle.lapin_joint.specs.declared.step.Step.TheVariants as step
use Rattle.lapin_joint.specs.Joint.{Joint, is_lawful, run, after}
use Rattle.lapin_joint.specs.Order.{along}
use Rattle.lapin_joint.proofs.Alike.{unreturned-next}
use Rattle.lapin_verdicts.specs.Deeds.{deed_in}
use Rattle.lapin_machine.specs.Way.{by_machine}
use Rattle.lapin_machine.specs.World.{World, next}
use Rattle.lapin_client.specs.declared.client.Client.{Client}
use Rattle.lapin_client.specs.Clients.{SameBytes}
use Rattle.lapin_clients.specs.Joined.{AreSent, IsJoined, Dealt, as_dealt, hearing, held_frames}
use Rattle.lapin_clients.specs.Nets.{Net}
use Rattle.lapin_clients.specs.Pieces.{ArePieces, frames_left}
use Rattle.lapin_clients.proofs.Deaf.{event_less}
use Rattle.lapin_clients.proofs.Requests.{run_append, along_append}
use Rattle.lapin_clients.proofs.Strays.{HearsLess, coming_so, hears_same, less_then}

pub dead : (n : ℕ) → 0 < n → n ≡ 0 → ⊥
dead n lt e = omega (arith, lt, e)

abbrev pub with_session : World → Joint World → Joint World
with_session w j = record { session = w; broker = j.broker; up = j.up; down = j.down }

-- no frame and no loss
abbrev pub is_inner : Event → Bool
is_inner (event.Next flow) = false
is_inner (event.Receive f) = false
is_inner event.Lost = false
is_inner _ = true

-- after such an event no more contents are heard
own_less : (w : World) (e : Event) → is_inner e ≡ true → HearsLess (hearing w) (hearing (next w e))
own_less w e own = event_less w e (lawful e own)
  where
    lawful : (e : Event) → is_inner e ≡ true → is_lawful e ≡ true
    lawful (event.Receive f) o = absurd cc
    lawful event.Lost o = absurd cc
    lawful _ o = refl

-- such an event moves the session alone
pub own_step : (e : Event) (j : Joint World) → is_inner e ≡ true → after by_machine (step.Client e) j ≡ with_session (next j.session e) j
own_step (event.Next flow) j h = absurd cc
own_step (event.Receive f) j h = absurd cc
own_step event.Lost j h = absurd cc
own_step e j h = nothing_leaves e h
  where
    nothing_leaves : (g : Event) → is_inner g ≡ true → after by_machine (step.Client g) j ≡ with_session (next j.session g) j
    nothing_leaves (event.Next flow) k = absurd cc
    nothing_leaves (event.Receive f) k = absurd cc
    nothing_leaves event.Lost k = absurd cc
    nothing_leaves (event.Call c x) k = ap (λ ls. record { session = next j.session (event.Call c x); broker = j.broker; up = ls; down = j.down }) (append-nil j.up)
    nothing_leaves (event.PollTicket n) k = ap (λ ls. record { session = next j.session (event.PollTicket n); broker = j.broker; up = ls; down = j.down }) (append-nil j.up)
    nothing_leaves (event.PollConfirm n) k = ap (λ ls. record { session = next j.session (event.PollConfirm n); broker = j.broker; up = ls; down = j.down }) (append-nil j.up)
    nothing_leaves (event.PollConsumer n) k = ap (λ ls. record { session = next j.session (event.PollConsumer n); broker = j.broker; up = ls; down = j.down }) (append-nil j.up)
    nothing_leaves (event.PollWait n) k = ap (λ ls. record { session = next j.session (event.PollWait n); broker = j.broker; up = ls; down = j.down }) (append-nil j.up)
    nothing_leaves (event.AsideTicket n) k = ap (λ ls. record { session = next j.session (event.AsideTicket n); broker = j.broker; up = ls; down = j.down }) (append-nil j.up)
    nothing_leaves (event.AsideConfirm n) k = ap (λ ls. record { session = next j.session (event.AsideConfirm n); broker = j.broker; up = ls; down = j.down }) (append-nil j.up)
    nothing_leaves (event.Acker n x) k = ap (λ ls. record { session = next j.session (event.Acker n x); broker = j.broker; up = ls; down = j.down }) (append-nil j.up)
    nothing_leaves (event.Delegate n) k = ap (λ ls. record { session = next j.session (event.Delegate n); broker = j.broker; up = ls; down = j.down }) (append-nil j.up)
    nothing_leaves (event.DropConsumer n) k = ap (λ ls. record { session = next j.session (event.DropConsumer n); broker = j.broker; up = ls; down = j.down }) (append-nil j.up)
    nothing_leaves event.NextJob k = ap (λ ls. record { session = next j.session event.NextJob; broker = j.broker; up = ls; down = j.down }) (append-nil j.up)
    nothing_leaves (event.State n) k = ap (λ ls. record { session = next j.session (event.State n); broker = j.broker; up = ls; down = j.down }) (append-nil j.up)

-- ---- what goes on

-- no frame is given back
pub still_none : (ss : List Step) (j : Joint World) → j.session.returned ≡ None → (run by_machine ss j).session.returned ≡ None
still_none [] j none = none
still_none (s ∷ ss) j none = still_none ss (after by_machine s j) (unreturned-next s j none)

-- what the broker deals with in these steps
abbrev pub deals : List Step → Joint World → List Dealt
deals ss j = map as_dealt (along by_machine deed_in ss j)

-- steps lead on to where the net is, in which the broker deals with these frames
pub record GoesOn (n : ℕ) (ds : List Dealt) (y : Net) (j : Joint World) : Type 0 where
  pub steps : List Step
  pub joined : IsJoined n y (run by_machine steps j)
  pub dealt_is : deals steps j ≡ ds

pub deals_append : (ss ts : List Step) (j : Joint World) → deals (ss ++ ts) j ≡ deals ss j ++ deals ts (run by_machine ss j)
deals_append ss ts j = ap (map as_dealt) (along_append by_machine deed_in ss ts j) ∙ map-append as_dealt (along by_machine deed_in ss j) (along by_machine deed_in ts (run by_machine ss j))

-- one after the other
pub goes_both : (n : ℕ) (ds es : List Dealt) (y z : Net) (j : Joint World) (one : GoesOn n ds y j) → GoesOn n es z (run by_machine one.steps j) → GoesOn n (ds ++ es) z j
goes_both n ds es y z j one two = record {
  steps = one.steps ++ two.steps;
  joined = subst (IsJoined n z) (sym (run_append by_machine one.steps two.steps j)) two.joined;
  dealt_is = deals_append one.steps two.steps j ∙ (ap (λ xs. xs ++ deals two.steps (run by_machine one.steps j)) one.dealt_is ∙ ap (λ xs. ds ++ xs) two.dealt_is);
}

-- the same octets and the same held frame
pub sent_so : (most : ℕ) (fs : List Frame) {os os' : List ℕ} {u u' : Option Left} → os' ≡ os → u' ≡ u → AreSent most os u fs → AreSent most os' u' fs
sent_so most fs e h a = record { on_way = a.on_way; written = subst (λ o. ArePieces most o a.on_way) (sym e) a.written; all = a.all ∙ ap (λ v. a.on_way ++ held_frames v) (sym h) }

-- broker and streams are the same
pub record SameNet (x y : Net) : Type 0 where
  pub broker : y.broker ≡ x.broker
  pub up : y.up ≡ x.up
  pub down : y.down ≡ x.down
  pub besides : y.besides ≡ x.besides

-- what a client has of the streams is the same
pub record SameOctets (c d : Client) : Type 0 where
  pub leaving : d.leaving.items ≡ c.leaving.items
  pub came : d.came ≡ c.came
  pub most : d.frame_max ≡ c.frame_max
  pub unsent : d.unsent ≡ c.unsent

of_bytes : (c d : Client) → SameBytes c d → SameOctets c d
of_bytes c d h = record { leaving = h.0; came = h.1; most = h.2; unsent = h.5 }

module _ (n : ℕ) (x y : Net) (j : Joint World) (is : IsJoined n x j) (same : SameNet x y) where
  stays_as : (w : World) → HearsLess (hearing j.session) (hearing w) → SameOctets x.client y.client → y.client.session ≡ w → IsJoined n y (with_session w j)
  stays_as w less octets session =
      let up : y.up ++ y.client.leaving.items ≡ x.up ++ x.client.leaving.items = ap (λ u. u ++ y.client.leaving.items) same.up ∙ ap (λ l. x.up ++ l) octets.leaving in
      let down : y.client.came ++ y.down ≡ x.client.came ++ x.down = ap (λ c. c ++ y.down) octets.came ∙ ap (λ d. x.client.came ++ d) same.down in
      record {
        most = octets.most ∙ is.most;
        session = session;
        broker = same.broker ∙ is.broker;
        up = sent_so n (frames_left j.up) up octets.unsent is.up;
        down = coming_so n (x.client.came ++ x.down) (y.client.came ++ y.down) (hearing j.session) (hearing w) x.besides y.besides j.down down same.besides less is.down;
      }

  -- nothing happened to the session
  pub no_move : SameOctets x.client y.client → y.client.session ≡ x.client.session → GoesOn n [] y j
  no_move octets session = record { steps = []; joined = stays_as j.session (hears_same (hearing j.session)) octets (session ∙ is.session); dealt_is = refl }

  pub no_step : SameBytes x.client y.client → y.client.session ≡ x.client.session → GoesOn n [] y j
  no_step bytes session = no_move (of_bytes x.client y.client bytes) session

  -- it met one event, or two
  pub one_joined : (e : Event) → is_inner e ≡ true → SameBytes x.client y.client → y.client.session ≡ next x.client.session e → IsJoined n y (run by_machine (step.Client e ∷ []) j)
  one_joined e own bytes session = subst (IsJoined n y) (sym (own_step e j own)) (stays_as (next j.session e) (own_less j.session e own) (of_bytes x.client y.client bytes) (session ∙ ap (λ w. next w e) is.session))

  pub one_step : (e : Event) → is_inner e ≡ true → SameBytes x.client y.client → y.client.session ≡ next x.client.session e → GoesOn n [] y j
  one_step e own bytes session = record { steps = step.Client e ∷ []; joined = one_joined e own bytes session; dealt_is = refl }

  pub two_joined : (e f : Event) → is_inner e ≡ true → is_inner f ≡ true → SameBytes x.client y.client → y.client.session ≡ next (next x.client.session e) f → IsJoined n y (run by_machine (step.Client e ∷ step.Client f ∷ []) j)
  two_joined e f own too bytes session = subst (IsJoined n y) (sym (ap (after by_machine (step.Client f)) (own_step e j own) ∙ own_step f (with_session (next j.session e) j) too))
      (stays_as (next (next j.session e) f) (less_then (hearing j.session) (hearing (next j.session e)) (hearing (next (next j.session e) f)) (own_less j.session e own) (own_less (next j.session e) f too)) (of_bytes x.client y.client bytes) (session ∙ ap (λ w. next (next w e) f) is.session))

  pub two_steps : (e f : Event) → is_inner e ≡ true → is_inner f ≡ true → SameBytes x.client y.client → y.client.session ≡ next (next x.client.session e) f → GoesOn n [] y j
  two_steps e f own too bytes session = record { steps = step.Client e ∷ step.Client f ∷ []; joined = two_joined e f own too bytes session; dealt_is = refl }
