-- Of every joined run: what the broker keeps of a channel is what the tally of its last opening says.
use Rattle.std.proofs.Common.{◌≡◌, ◌∙◌, ℕ, ◌==◌, Bool, true, false, cond, List, [], ◌∷◌, ◌++◌, inl, inr, refl, sym, ap, subst, append-nil, append_assoc}
use Rattle.std.specs.List.{fold, filter}
use Rattle.std.proofs.lemmas.List.Sums.{fold-append}
use Rattle.std.proofs.lemmas.List.Elements.{filter-append}
use Rattle.std.proofs.lemmas.Bool.Decides.{eqb_tells}
use Rattle.lapin_types.specs.declared.leaving.Left.{Left}
use Rattle.lapin_types.specs.Types.{Frame}
use Rattle.lapin_broker.specs.Frames.{channel_of}
use Rattle.lapin_broker.specs.States.{Broker, is_up, connection_after_loss}
use Rattle.lapin_broker.specs.declared.peer.Connection.{Connection}
use Rattle.lapin_broker.specs.declared.peer.Connection.TheVariants as connection
use Rattle.lapin_broker.specs.Reads.{read}
use Rattle.lapin_broker.specs.Sends.{may, send}
use Rattle.lapin_joint.specs.declared.step.Step.{Step}
use Rattle.lapin_joint.specs.declared.step.Step.TheVariants as step
use Rattle.lapin_joint.specs.Joint.{Joint, new_joint, is_lawful, after, run, joined_to, read_first, deliver_first, client, send_down}
use Rattle.lapin_machine.specs.Way.{Way, by_history}
use Rattle.lapin_joint.specs.Order.{front, along}
use Rattle.lapin_verdicts.specs.Deeds.{Deed, Read, Sent, is_open, is_on, on_channel, joined_opening, last_opening, reads, sents, deed_in, reads_of, deeds}
use Rattle.lapin_verdicts.specs.Publishes.{Tally, no_tally, tally_after, tally}
use Rattle.lapin_verdicts.specs.Verdicts.{settlement_in}
use Rattle.lapin_verdicts.specs.Session.{told, next_tally}
use Rattle.lapin_verdicts.proofs.Reading.{Keeps, read_keeps}
use Rattle.lapin_verdicts.proofs.Sending.{RangeBy, send_keeps, settlement_range}
use Rattle.lapin_tables.proofs.Bools.{not_both}

-- ---- lists of deeds, one longer

pub reads-append : (xs ys : List Deed) → reads (xs ++ ys) ≡ reads xs ++ reads ys
reads-append [] ys = refl
reads-append (Read l ∷ xs) ys = ap (λ v. l.frame ∷ v) (reads-append xs ys)
reads-append (Sent f ∷ xs) ys = reads-append xs ys

pub sents-append : (xs ys : List Deed) → sents (xs ++ ys) ≡ sents xs ++ sents ys
sents-append [] ys = refl
sents-append (Read l ∷ xs) ys = sents-append xs ys
sents-append (Sent f ∷ xs) ys = ap (λ v. f ∷ v) (sents-append xs ys)

pub last-push : (c : ℕ) (ds : List Deed) (d : Deed) → last_opening c (ds ++ d ∷ []) ≡ cond (is_on c d) (joined_opening (last_opening c ds) d) (last_opening c ds)
last-push c ds d =
    ap (fold joined_opening []) (filter-append (is_on c) ds (d ∷ [])) ∙ (fold-append joined_opening [] (on_channel c ds) (filter (is_on c) (d ∷ [])) ∙ elim (is_on c d) as (λ b. fold joined_opening (last_opening c ds) (cond b (d ∷ []) []) ≡ cond b (joined_opening (last_opening c ds) d) (last_opening c ds)) [ true ↦ refl | false ↦ refl ])

-- the tally of the channel's last opening
abbrev pub tally_on : ℕ → List Deed → Tally
tally_on c ds = tally (reads (last_opening c ds))

pub tally-grown : (o : List Deed) (l : Left) → tally (reads (o ++ Read l ∷ [])) ≡ tally_after (tally (reads o)) l.frame
tally-grown o l = ap tally (reads-append o (Read l ∷ [])) ∙ fold-append tally_after no_tally (reads o) (l.frame ∷ [])

pub tally-read : (c : ℕ) (ds : List Deed) (l : Left) → tally_on c (ds ++ Read l ∷ []) ≡ next_tally c l.frame (tally_on c ds)
tally-read c ds l = ap (λ o. tally (reads o)) (last-push c ds (Read l)) ∙ elim (channel_of l.frame == c) as (λ b. tally (reads (cond b (joined_opening (last_opening c ds) (Read l)) (last_opening c ds))) ≡ cond b (told l.frame (tally_on c ds)) (tally_on c ds)) [
  | true ↦ elim (is_open l.frame) as (λ b. tally (reads (cond b [] (last_opening c ds ++ Read l ∷ []))) ≡ cond b no_tally (tally_after (tally_on c ds) l.frame)) [ true ↦ refl | false ↦ tally-grown (last_opening c ds) l ]
  | false ↦ refl
]

pub last-sent : (c : ℕ) (ds : List Deed) (f : Frame) → last_opening c (ds ++ Sent f ∷ []) ≡ cond (channel_of f == c) (last_opening c ds ++ Sent f ∷ []) (last_opening c ds)
last-sent c ds f = last-push c ds (Sent f)

pub reads-sent : (o : List Deed) (f : Frame) → reads (o ++ Sent f ∷ []) ≡ reads o
reads-sent o f = reads-append o (Sent f ∷ []) ∙ append-nil (reads o)

pub tally-sent : (c : ℕ) (ds : List Deed) (f : Frame) → tally_on c (ds ++ Sent f ∷ []) ≡ tally_on c ds
tally-sent c ds f = ap (λ o. tally (reads o)) (last-sent c ds f) ∙ elim (channel_of f == c) as (λ b. tally (reads (cond b (last_opening c ds ++ Sent f ∷ []) (last_opening c ds))) ≡ tally_on c ds) [ true ↦ ap tally (reads-sent (last_opening c ds) f) | false ↦ refl ]

-- ---- every settlement is of what was counted by then

abbrev pub deed_tally : Tally → Deed → Tally
deed_tally y (Read l) = tally_after y l.frame
deed_tally y (Sent f) = y

abbrev pub IsDue : Deed → Tally → Type 0
IsDue (Read l) y = Unit {0}
IsDue (Sent f) y = RangeBy (settlement_in f) y

abbrev pub AreDue : Tally → List Deed → Type 0
AreDue y [] = Unit {0}
AreDue y (d ∷ ds) = IsDue d y × AreDue (deed_tally y d) ds

due-push : (y : Tally) (o : List Deed) (d : Deed) → AreDue y o → IsDue d (fold tally_after y (reads o)) → AreDue y (o ++ d ∷ [])
due-push y [] d h i = (i, tt)
due-push y (Read l ∷ o) d h i = (tt, due-push (tally_after y l.frame) o d h.1 i)
due-push y (Sent f ∷ o) d h i = (h.0, due-push y o d h.1 i)

-- ---- the tag count of a channel

pub record TagCount (c : ℕ) (b : Broker) (ds : List Deed) : Type 0 where
  pub keeps : Keeps c b (tally_on c ds)
  pub due : AreDue no_tally (last_opening c ds)

due_read : (c : ℕ) (ds : List Deed) (l : Left) → AreDue no_tally (last_opening c ds) → AreDue no_tally (last_opening c (ds ++ Read l ∷ []))
due_read c ds l h = subst (AreDue no_tally) (sym (last-push c ds (Read l))) (elim (channel_of l.frame == c) as (λ b. AreDue no_tally (cond b (joined_opening (last_opening c ds) (Read l)) (last_opening c ds))) [
  | true ↦ elim (is_open l.frame) as (λ b. AreDue no_tally (cond b [] (last_opening c ds ++ Read l ∷ []))) [ true ↦ tt | false ↦ due-push no_tally (last_opening c ds) (Read l) h tt ]
  | false ↦ h
])

pub tag_count_read : (c : ℕ) (b : Broker) (ds : List Deed) (l : Left) → TagCount c b ds → TagCount c (read b l.frame) (ds ++ Read l ∷ [])
tag_count_read c b ds l k = record {
  keeps = subst (Keeps c (read b l.frame)) (sym (tally-read c ds l)) (read_keeps c l.frame b (tally_on c ds) k.keeps);
  due = due_read c ds l k.due;
}

due_sent : (c : ℕ) (b : Broker) (ds : List Deed) (f : Frame) → may b f ≡ true → TagCount c b ds → AreDue no_tally (last_opening c (ds ++ Sent f ∷ []))
due_sent c b ds f m k = subst (AreDue no_tally) (sym (last-sent c ds f)) (elim (eqb_tells (channel_of f) c) [
  | inl z ↦ rw z.0 (due-push no_tally (last_opening c ds) (Sent f) k.due (settlement_range f b (tally_on c ds) (subst (λ v. Keeps v b (tally_on c ds)) (sym z.1) k.keeps) m))
  | inr z ↦ rw z.0 k.due
])

pub tag_count_send : (c : ℕ) (b : Broker) (ds : List Deed) (f : Frame) → may b f ≡ true → TagCount c b ds → TagCount c (send b f) (ds ++ Sent f ∷ [])
tag_count_send c b ds f m k = record {
  keeps = subst (Keeps c (send b f)) (sym (tally-sent c ds f)) (send_keeps c f b (tally_on c ds) k.keeps m);
  due = due_sent c b ds f m k;
}

pub lost_down : (k : Connection) → is_up (connection_after_loss k) ≡ false
lost_down connection.Broken = refl
lost_down _ = refl

-- ---- every step of a run

more_none : (c : ℕ) (b : Broker) (ds : List Deed) → TagCount c b ds → TagCount c b (ds ++ [])
more_none c b ds k = subst (TagCount c b) (sym (append-nil ds)) k

client_tag_count : {S : Type 0} (c : ℕ) (v : Bool) (j k : Joint S) (ds : List Deed) → k.broker ≡ j.broker → TagCount c j.broker ds → TagCount c (cond v k j).broker (ds ++ [])
client_tag_count c true j k ds e h = more_none c _ ds (subst (λ b. TagCount c b ds) (sym e) h)
client_tag_count c false j k ds e h = more_none c _ ds h

read_tag_count : {S : Type 0} (c : ℕ) (ls : List Left) (j : Joint S) (ds : List Deed) → TagCount c j.broker ds → TagCount c (read_first ls j).broker (ds ++ reads_of (front ls))
read_tag_count c [] j ds h = more_none c _ ds h
read_tag_count c (l ∷ ls) j ds h = tag_count_read c j.broker ds l h

send_tag_count : {S : Type 0} (c : ℕ) (f : Frame) (j : Joint S) (ds : List Deed) → TagCount c j.broker ds → TagCount c (cond (may j.broker f) (send_down f j) j).broker (ds ++ cond (may j.broker f) (Sent f ∷ []) [])
send_tag_count c f j ds h = elim (may j.broker f) as (λ v. may j.broker f ≡ v → TagCount c (cond v (send_down f j) j).broker (ds ++ cond v (Sent f ∷ []) [])) [ true ↦ λ m. tag_count_send c j.broker ds f m h | false ↦ λ m. more_none c _ ds h ] refl

deliver_tag_count : {S : Type 0} (c : ℕ) (m : Way S) (fs : List Frame) (j : Joint S) (ds : List Deed) → TagCount c j.broker ds → TagCount c (deliver_first m fs j).broker (ds ++ [])
deliver_tag_count c m [] j ds h = more_none c _ ds h
deliver_tag_count c m (f ∷ fs) j ds h = more_none c _ ds h

tag_count_after : {S : Type 0} (c : ℕ) (m : Way S) (s : Step) (j : Joint S) (ds : List Deed) → TagCount c j.broker ds → TagCount c (after m s j).broker (ds ++ deed_in s j)
tag_count_after c m (step.Client e) j ds h = client_tag_count c (is_lawful e) j (client m e j) ds refl h
tag_count_after c m step.Read j ds h = read_tag_count c j.up j ds h
tag_count_after c m (step.Send f) j ds h = send_tag_count c f j ds h
tag_count_after c m step.Deliver j ds h = deliver_tag_count c m j.down j ds h
tag_count_after c m step.Lose j ds h = more_none c _ ds (record { keeps = λ up. absurd (not_both _ up (lost_down j.broker.connection)); due = h.due })

tag_count_all : {S : Type 0} (c : ℕ) (m : Way S) (ss : List Step) (j : Joint S) (ds : List Deed) → TagCount c j.broker ds → TagCount c (run m ss j).broker (ds ++ along m deed_in ss j)
tag_count_all c m [] j ds h = more_none c _ ds h
tag_count_all c m (s ∷ ss) j ds h = subst (TagCount c _) (append_assoc ds (deed_in s j) (along m deed_in ss (after m s j))) (tag_count_all c m ss (after m s j) (ds ++ deed_in s j) (tag_count_after c m s j ds h))

pub tag_count_of : (n c : ℕ) (ss : List Step) → TagCount c (joined_to n ss).broker (deeds n ss)
tag_count_of n c ss = tag_count_all c (by_history n) ss (new_joint [] n) [] (record { keeps = λ up. (refl, refl); due = tt })
