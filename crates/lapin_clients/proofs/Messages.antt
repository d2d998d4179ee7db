-- A message that a client tells, as the history of the joined run shows it.
use Rattle.std.proofs.Common.{◌≡◌, ℕ, zero, suc, ◌+◌, ◌≤◌, Bool, true, false, cond, List, [], ◌∷◌, ◌++◌, length, map, Option, Some, None, Ok, refl, sym, ap, subst, ◌∙◌, arith, slice_get}
use Rattle.std.specs.Prelude.{filter_map}
use Rattle.std.proofs.lemmas.List.Elements.{filter_map-append}
use Rattle.lapin_types.specs.declared.event.Event.TheVariants as event
use Rattle.lapin_types.specs.declared.message.Delivery.{Delivery}
use Rattle.lapin_types.specs.declared.record.Record.TheVariants as record_
use Rattle.lapin_consumer.specs.declared.state.ConsumerState.{ConsumerState}
use Rattle.lapin_consumer.specs.Readings.{Story, Entry, Waiting, Given, MadeJob, Void, arrivals, waiting, seen}
use Rattle.lapin_consumer.specs.Subscriptions.{Consumer, Handed, Subscriptions, answered, consumer_at, is_canceled, poll_in}
use Rattle.lapin_rules.specs.Consumers.{item_record, item_told}
use Rattle.lapin_joint.specs.declared.step.Step.{Step}
use Rattle.lapin_machine.specs.World.{told_by}
use Rattle.lapin_messages.specs.Deliveries.{consumers_of}
use Rattle.lapin_messages.proofs.Facts.{shows_at}
use Rattle.lapin_verdicts.specs.Deeds.{Deed}
use Rattle.lapin_verdicts.specs.Messages.{Whole, ArePrefix, AreThese, message_of, messages, sent_to}
use Rattle.lapin_verdicts.specs.Session.{past_of}
use Rattle.lapin_answers.specs.Truth.{IsTrue}
use Rattle.lapin_clients.specs.Nets.{Act}
use Rattle.lapin_clients.specs.Truth.{IsContent, MessagesAreSent}
use Rattle.lapin_clients.proofs.Published.{run_is}
use Rattle.lapin_clients.proofs.Told.{told_is}

-- ---- what a poll gave is the first thing that waits

-- a consumer whose first item that is
record HasFirst (o : Option Consumer) (y : Handed) : Type 0 where
  consumer : Consumer
  others : List Handed
  is : o ≡ Some consumer
  items : consumer.items ≡ y ∷ others

ended_told : (s : ConsumerState) (d : Delivery) → item_record (Ok (poll_in s [])) ≡ record_.Item (Ok (Some d)) → ⊥
ended_told s d h = by (is_canceled s) h
  where
    by : (b : Bool) → item_record (Ok (cond b (Some (Ok None)) None)) ≡ record_.Item (Ok (Some d)) → ⊥
    by true g = cc
    by false g = cc

first_given : (s : ConsumerState) (ys : List Handed) (d : Delivery) → item_record (Ok (poll_in s ys)) ≡ record_.Item (Ok (Some d)) → (others : List Handed) × (ys ≡ Ok (Some d) ∷ others)
first_given s [] d h = absurd (ended_told s d h)
first_given s (y ∷ ys) d h = (ys, (let e : y ≡ Ok (Some d) = cc in ap (λ z. z ∷ ys) e))

has_first : (o : Option Consumer) (d : Delivery) → item_record (answered o) ≡ record_.Item (Ok (Some d)) → HasFirst o (Ok (Some d))
has_first None d h = absurd cc
has_first (Some x) d h = let g = first_given x.state x.items d h in record { consumer = x; others = g.0; is = refl; items = g.1 }

-- a consumer of this history, whose first thing that waits it is
record Told (ss : List Story) (n : ℕ) (y : Handed) : Type 0 where
  place : ℕ
  number : n ≡ suc place
  story : Story
  there : slice_get ss place ≡ Some story
  others : List Handed
  waits : waiting story.log ≡ y ∷ others

seen_at : (ss : List Story) (p : ℕ) (x : Consumer) → slice_get (map seen ss) p ≡ Some x → (s : Story) × (slice_get ss p ≡ Some s) × (seen s ≡ x)
seen_at [] p x h = absurd cc
seen_at (s ∷ ss) zero x h = (s, refl, (let e : seen s ≡ x = cc in e))
seen_at (s ∷ ss) (suc p) x h = seen_at ss p x h

poll_told : (ss : List Story) (r : Subscriptions) (n : ℕ) (d : Delivery) → r.consumers ≡ map seen ss → item_record (answered (consumer_at n r)) ≡ record_.Item (Ok (Some d)) → Told ss n (Ok (Some d))
poll_told ss r zero d shows h = absurd cc
poll_told ss r (suc p) d shows h =
    let f : HasFirst (slice_get r.consumers p) (Ok (Some d)) = has_first (slice_get r.consumers p) d h in
    let s = seen_at ss p f.consumer (ap (λ xs. slice_get xs p) (sym shows) ∙ f.is) in
    record { place = p; number = refl; story = s.0; there = s.1; others = f.others; waits = ap (λ (x : Consumer). x.items) s.2 ∙ f.items }

-- ---- its place in the log

record Split (es : List Entry) (y : Handed) : Type 0 where
  before : List Entry
  behind : List Entry
  is : es ≡ before ++ Waiting y ∷ behind
  first : waiting before ≡ []

behind_one : (e : Entry) (es : List Entry) (y : Handed) → waiting (e ∷ []) ≡ [] → Split es y → Split (e ∷ es) y
behind_one (Given x) es y h s = record { before = Given x ∷ s.before; behind = s.behind; is = ap (λ v. Given x ∷ v) s.is; first = s.first }
behind_one (MadeJob x) es y h s = record { before = MadeJob x ∷ s.before; behind = s.behind; is = ap (λ v. MadeJob x ∷ v) s.is; first = s.first }
behind_one (Void x) es y h s = record { before = Void x ∷ s.before; behind = s.behind; is = ap (λ v. Void x ∷ v) s.is; first = s.first }
behind_one (Waiting x) es y h s = absurd cc

split : (es : List Entry) (y : Handed) (others : List Handed) → waiting es ≡ y ∷ others → Split es y
split [] y others h = absurd cc
split (Waiting x ∷ es) y others h = record { before = []; behind = es; is = (let e : x ≡ y = cc in ap (λ v. Waiting v ∷ es) e); first = refl }
split (Given x ∷ es) y others h = behind_one (Given x) es y refl (split es y others h)
split (MadeJob x ∷ es) y others h = behind_one (MadeJob x) es y refl (split es y others h)
split (Void x ∷ es) y others h = behind_one (Void x) es y refl (split es y others h)

arrivals_both : (es fs : List Entry) → arrivals (es ++ fs) ≡ arrivals es ++ arrivals fs
arrivals_both [] fs = refl
arrivals_both (Waiting x ∷ es) fs = ap (λ v. x ∷ v) (arrivals_both es fs)
arrivals_both (Given x ∷ es) fs = ap (λ v. x ∷ v) (arrivals_both es fs)
arrivals_both (MadeJob x ∷ es) fs = ap (λ v. x ∷ v) (arrivals_both es fs)
arrivals_both (Void x ∷ es) fs = ap (λ v. x ∷ v) (arrivals_both es fs)

messages_both : (es fs : List Entry) → messages (es ++ fs) ≡ messages es ++ messages fs
messages_both es fs = ap (filter_map message_of) (arrivals_both es fs) ∙ filter_map-append message_of (arrivals es) (arrivals fs)

-- ---- and among what was sent

these_at : (before : List Delivery) (d : Delivery) (behind : List Delivery) (ws more : List Whole) → AreThese (before ++ d ∷ behind) ws → IsContent d (suc (length before)) (ws ++ more)
these_at [] d behind [] more h = absurd h
these_at [] d behind (w ∷ ws) more h = record { content = w; there = refl; is_it = h.0 }
these_at (b ∷ before) d behind [] more h = absurd h
these_at (b ∷ before) d behind (w ∷ ws) more h =
    let c : IsContent d (suc (length before)) (ws ++ more) = these_at before d behind ws more h.1 in
    record { content = c.content; there = c.there; is_it = c.is_it }

sent_at : (log before behind : List Entry) (d : Delivery) (tag : List ℕ) (opened : List Deed) → log ≡ before ++ Waiting (Ok (Some d)) ∷ behind → ArePrefix log tag opened → IsContent d (suc (length (messages before))) (sent_to tag opened)
sent_at log before behind d tag opened is prefix =
    let all : messages log ≡ messages before ++ d ∷ messages behind = ap messages is ∙ messages_both before (Waiting (Ok (Some d)) ∷ behind) in
    subst (IsContent d (suc (length (messages before)))) (sym prefix.all) (these_at (messages before) d (messages behind) prefix.first prefix.more (subst (λ ds. AreThese ds prefix.first) all prefix.are))

-- ---- what the client told

module _ (n : ℕ) (is_law : 4096 ≤ n → (ss : List Step) → IsTrue n ss) (acts : List Act) where
  pub messages_told : MessagesAreSent n acts
  messages_told x y z consumer numbers octets new leads does =
      let count : z.client.left + 1 ≡ y.client.left = does.0.1 in
      let g = run_is n acts x y new leads (omega (arith, count)) in
      let ss : List Step = g.0 in
      let d : Delivery = does.0.0.0.0 in
      let polled : item_told consumer (past_of n ss).wire ≡ record_.Item (Ok (Some d)) = sym (told_is n ss (event.PollConsumer consumer)) ∙ (ap (λ w. told_by w (event.PollConsumer consumer)) (sym g.1.joined.session) ∙ does.0.0.0.1) in
      let told : Told (consumers_of n ss) consumer (Ok (Some d)) = poll_told (consumers_of n ss) (past_of n ss).wire.deliveries.subscriptions consumer d (shows_at n ss) polled in
      let part : Split told.story.log (Ok (Some d)) = split told.story.log (Ok (Some d)) told.others told.waits in
      let is_true : IsTrue n ss = is_law new.large ss in (
        ss,
        record { run = g.1; is_true = is_true },
        record {
          message = d;
          numbers_are = does.0.0.0.2;
          octets_are = does.0.2 ∙ does.0.0.0.3;
          place = told.place;
          number = told.number;
          story = told.story;
          is_its = told.there;
          before = part.before;
          behind = part.behind;
          log = part.is;
          first = part.first;
          sent = λ once. sent_at told.story.log part.before part.behind d told.story.tag _ part.is (is_true.logs told.place told.story told.there once);
        },
      )
