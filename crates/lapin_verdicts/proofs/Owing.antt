-- The broker sends each reply as the answer to the request at its place: what it keeps of a channel's waiting requests are those of the
-- last opening that it read, without as many as it sent replies.
use Rattle.std.proofs.Common.{◌≡◌, ◌∙◌, ℕ, ◌==◌, Bool, true, false, cond, List, [], ◌∷◌, ◌++◌, length, Option, Some, None, inl, inr, refl, sym, ap, subst, append-nil, append_assoc, eq-eqb}
use Rattle.std.specs.List.{filter}
use Rattle.std.specs.Option.{option_map}
use Rattle.std.proofs.lemmas.Bool.Decides.{eqb_tells}
use Rattle.std.proofs.lemmas.List.Elements.{filter-append}
use Rattle.lapin_types.specs.declared.leaving.Left.{Left}
use Rattle.lapin_types.specs.Types.{Frame}
use Rattle.lapin_tables.specs.ByChannel.{at_channel}
use Rattle.lapin_tables.proofs.Channels.{at-on_same, at-on_other}
use Rattle.lapin_broker.specs.declared.content.Content.{Content}
use Rattle.lapin_broker.specs.declared.content.Content.TheVariants as content
use Rattle.lapin_broker.specs.declared.frames.ClientFrame.{ClientFrame}
use Rattle.lapin_broker.specs.declared.frames.ClientFrame.TheVariants as client
use Rattle.lapin_broker.specs.declared.request.Request.{Request}
use Rattle.lapin_broker.specs.declared.request.RequestKind.{RequestKind}
use Rattle.lapin_broker.specs.declared.request.RequestKind.TheVariants as kind
use Rattle.lapin_broker.specs.declared.peer.Peer.{Peer}
use Rattle.lapin_broker.specs.declared.peer.Peer.TheVariants as peer
use Rattle.lapin_broker.specs.Contents.{is_idle}
use Rattle.lapin_broker.specs.Frames.{channel_of, client_frame}
use Rattle.lapin_broker.specs.States.{Channel, Broker, free_channel, channel_in, channel_at, with_channel, is_up, is_leaving, after_break}
use Rattle.lapin_broker.specs.Reads.{read, read_up, read_channel, with_piece, number_on, read_in, read_open, request_of, breaks_in, breaks_open, begins_in, content_after, admits, with_next_number, is_connection_close, is_connection_close_ok, after_client_close, after_client_close_ok}
use Rattle.lapin_verdicts.specs.Deeds.{Deed, Read, Sent, is_open, joined_opening, lefts, sents}
use Rattle.lapin_verdicts.specs.Publishes.{no_tally}
use Rattle.lapin_verdicts.specs.Answers.{awaits_as, awaits, replies, requests_in, replies_in, kind_asked}
use Rattle.lapin_verdicts.proofs.Sorting.{Sorts, sorted}
use Rattle.lapin_verdicts.proofs.TagCounts.{sents-append}
use Rattle.lapin_verdicts.proofs.Reading.{of_if, closed_down, answered_down}
use Rattle.lapin_tables.proofs.Bools.{not_both}
use Rattle.lapin_broker.proofs.SoundLaw.{at_with}
use Rattle.lapin_concord.proofs.Sides.{at_away}

-- ---- what waits

-- these requests were read, one for one
abbrev pub AreOf : List Left → List Request → Type 0
AreOf [] [] = Unit {0}
AreOf (l ∷ ls) (r ∷ rs) = (kind_asked (client_frame l.frame) ≡ Some r.kind) × AreOf ls rs
AreOf _ _ = ⊥

of-push : (ls : List Left) (rs : List Request) (l : Left) (r : Request) → AreOf ls rs → kind_asked (client_frame l.frame) ≡ Some r.kind → AreOf (ls ++ l ∷ []) (rs ++ r ∷ [])
of-push [] [] l r a e = (e, tt)
of-push (x ∷ ls) (y ∷ rs) l r a e = (a.0, of-push ls rs l r a.1 e)
of-push [] (y ∷ rs) l r a e = absurd a
of-push (x ∷ ls) [] l r a e = absurd a

-- of the requests read the first n were answered, and the others wait
pub record Waiting (x : Channel) (rs : List Left) (n : ℕ) : Type 0 where
  pub done : List Left
  pub rest : List Left
  pub all : rs ≡ done ++ rest
  pub count : length done ≡ n
  pub are : AreOf rest x.waiting

abbrev pub Owes : Peer → Channel → List Left → ℕ → Type 0
Owes peer.Free x rs n = x ≡ free_channel
Owes peer.Asked x rs n = (x ≡ record free_channel { peer = peer.Asked }) × (rs ≡ []) × (n ≡ 0)
Owes peer.Open x rs n = Waiting x rs n
Owes peer.Leaving x rs n = Waiting x rs n
Owes _ x rs n = Unit {0}

abbrev pub Goes : Channel → List Left → ℕ → Type 0
Goes x rs n = Owes x.peer x rs n

pub goes_at : (x : Channel) (rs : List Left) (n : ℕ) (q : Peer) → x.peer ≡ q → Owes q x rs n → Goes x rs n
goes_at x rs n q e w = subst (λ p. Owes p x rs n) (sym e) w

-- what it keeps of the channel, while it is up
abbrev pub Owing : ℕ → Broker → List Deed → Type 0
Owing c b o = is_up b.connection ≡ true → Goes (channel_at b c) (requests_in o) (length (replies_in o))

-- ---- deeds, one longer

pub lefts-append : (xs ys : List Deed) → lefts (xs ++ ys) ≡ lefts xs ++ lefts ys
lefts-append [] ys = refl
lefts-append (Read l ∷ xs) ys = ap (λ v. l ∷ v) (lefts-append xs ys)
lefts-append (Sent f ∷ xs) ys = lefts-append xs ys

pub requests-append : (xs ys : List Deed) → requests_in (xs ++ ys) ≡ requests_in xs ++ requests_in ys
requests-append xs ys = ap (filter awaits) (lefts-append xs ys) ∙ filter-append awaits (lefts xs) (lefts ys)

pub replies-append : (xs ys : List Deed) → replies_in (xs ++ ys) ≡ replies_in xs ++ replies_in ys
replies-append xs ys = ap (filter replies) (sents-append xs ys) ∙ filter-append replies (sents xs) (sents ys)

read_goes : (x : Channel) (o : List Deed) (l : Left) → is_open l.frame ≡ false → Goes x (requests_in o ++ filter awaits (l ∷ [])) (length (replies_in o)) → Goes x (requests_in (joined_opening o (Read l))) (length (replies_in (joined_opening o (Read l))))
read_goes x o l e g = rw e (subst (λ v. Goes x v (length (replies_in (o ++ Read l ∷ [])))) (sym (requests-append o (Read l ∷ []))) (subst (λ v. Goes x (requests_in o ++ filter awaits (l ∷ [])) (length v)) (sym (replies-append o (Read l ∷ []) ∙ append-nil (replies_in o))) g))

-- ---- one channel reads

with_one : (x : Channel) (rs : List Left) (n : ℕ) (k : RequestKind) (l : Left) → kind_asked (client_frame l.frame) ≡ Some k → awaits l ≡ true → Waiting x rs n → (ws : List Request) → ws ≡ x.waiting ++ request_of k l.frame ∷ [] → (x' : Channel) → x'.waiting ≡ ws → Waiting x' (rs ++ filter awaits (l ∷ [])) n
with_one x rs n k l e a w ws f x' g = record {
  done = w.done;
  rest = w.rest ++ l ∷ [];
  all = ap (λ v. rs ++ cond v (l ∷ []) []) a ∙ (ap (λ v. v ++ l ∷ []) w.all ∙ append_assoc w.done w.rest (l ∷ []));
  count = w.count;
  are = subst (AreOf (w.rest ++ l ∷ [])) (sym (g ∙ f)) (of-push w.rest x.waiting l (request_of k l.frame) w.are e);
}

no_more : (rs : List Left) (l : Left) → awaits l ≡ false → rs ++ filter awaits (l ∷ []) ≡ rs
no_more rs l a = ap (λ v. rs ++ cond v (l ∷ []) []) a ∙ append-nil rs

pub same_waiting : (x z : Channel) (rs : List Left) (n : ℕ) → z.waiting ≡ x.waiting → Waiting x rs n → Waiting z rs n
same_waiting x z rs n e w = record { done = w.done; rest = w.rest; all = w.all; count = w.count; are = subst (AreOf w.rest) (sym e) w.are }

still : (x x' : Channel) (rs : List Left) (n : ℕ) (l : Left) → awaits l ≡ false → x'.waiting ≡ x.waiting → Waiting x rs n → Waiting x' (rs ++ filter awaits (l ∷ [])) n
still x x' rs n l a e w = subst (λ v. Waiting x' v n) (sym (no_more rs l a)) (record { done = w.done; rest = w.rest; all = w.all; count = w.count; are = subst (AreOf w.rest) (sym e) w.are })

open_owes : (l : Left) (u : ClientFrame) (x : Channel) (rs : List Left) (n : ℕ) → client_frame l.frame ≡ u → x.peer ≡ peer.Open → Waiting x rs n → breaks_open u ≡ false → Goes (read_open l.frame x u) (rs ++ filter awaits (l ∷ [])) n
open_owes l (client.Ask k) x rs n e p w h = goes_at (read_open l.frame x (client.Ask k)) _ n peer.Open p (with_one x rs n k l (ap kind_asked e) (ap awaits_as e) w _ refl (read_open l.frame x (client.Ask k)) refl)
open_owes l (client.Select true) x rs n e p w h = goes_at (read_open l.frame x (client.Select true)) _ n peer.Open p (with_one x rs n kind.Select l (ap kind_asked e) (ap awaits_as e) w _ refl (read_open l.frame x (client.Select true)) refl)
open_owes l (client.Select false) x rs n e p w h = goes_at (read_open l.frame x (client.Select false)) _ n peer.Open p (still x (read_open l.frame x (client.Select false)) rs n l (ap awaits_as e) refl w)
open_owes l client.Publish x rs n e p w h = goes_at x _ n peer.Open p (still x x rs n l (ap awaits_as e) refl w)
open_owes l client.Consume x rs n e p w h = goes_at (read_open l.frame x client.Consume) _ n peer.Open p (still x (read_open l.frame x client.Consume) rs n l (ap awaits_as e) refl w)
open_owes l client.Cancel x rs n e p w h = goes_at (read_open l.frame x client.Cancel) _ n peer.Open p (still x (read_open l.frame x client.Cancel) rs n l (ap awaits_as e) refl w)
open_owes l client.Tell x rs n e p w h = goes_at x _ n peer.Open p (still x x rs n l (ap awaits_as e) refl w)
open_owes l client.Close x rs n e p w h = still x (read_open l.frame x client.Close) rs n l (ap awaits_as e) refl w
open_owes l _ x rs n e p w h = absurd cc

-- a frame that doesn't break an open channel opens none
pub open_shut : (f : Frame) (u : ClientFrame) → Sorts u f no_tally → breaks_open u ≡ false → is_open f ≡ false
open_shut f (client.Ask k) s h = s.0
open_shut f (client.Select waits) s h = s.0
open_shut f client.Publish s h = s.0
open_shut f client.Consume s h = s.0
open_shut f client.Cancel s h = s.0
open_shut f client.Tell s h = s.0
open_shut f client.Close s h = s.0
open_shut f _ s h = absurd cc

sorts_as : (f : Frame) (u : ClientFrame) → client_frame f ≡ u → Sorts u f no_tally
sorts_as f u e = subst (λ v. Sorts v f no_tally) e (sorted f no_tally)

free_owes : (l : Left) (u : ClientFrame) (x : Channel) (o : List Deed) → client_frame l.frame ≡ u → x ≡ free_channel → breaks_in peer.Free u ≡ false → Goes (read_in peer.Free l.frame x u) (requests_in (joined_opening o (Read l))) (length (replies_in (joined_opening o (Read l))))
free_owes l client.Open x o e f h = let opens = sorts_as l.frame client.Open e in rw opens (ap (λ (v : Channel). record v { peer = peer.Asked }) f, refl, refl)
free_owes l _ x o e f h = absurd cc

stopping_owes : (f : Frame) (u : ClientFrame) (x : Channel) (rs : List Left) (n : ℕ) → x.peer ≡ peer.Stopping → Goes (read_in peer.Stopping f x u) rs n
stopping_owes f client.Close x rs n e = tt
stopping_owes f client.CloseOk x rs n e = refl
stopping_owes f _ x rs n e = rw e tt

owing_owes : (f : Frame) (u : ClientFrame) (x : Channel) (rs : List Left) (n : ℕ) → x.peer ≡ peer.StoppingOwes → Goes (read_in peer.StoppingOwes f x u) rs n
owing_owes f client.CloseOk x rs n e = tt
owing_owes f _ x rs n e = rw e tt

here_owes : (p : Peer) (l : Left) (x : Channel) (o : List Deed) → x.peer ≡ p → Owes p x (requests_in o) (length (replies_in o)) → breaks_in p (client_frame l.frame) ≡ false → Goes (read_in p l.frame x (client_frame l.frame)) (requests_in (joined_opening o (Read l))) (length (replies_in (joined_opening o (Read l))))
here_owes peer.Free l x o e w h = free_owes l (client_frame l.frame) x o refl w h
here_owes peer.Asked l x o e w h = absurd cc
here_owes peer.Open l x o e w h = read_goes (read_open l.frame x (client_frame l.frame)) o l (open_shut l.frame (client_frame l.frame) (sorted l.frame no_tally) h) (open_owes l (client_frame l.frame) x (requests_in o) (length (replies_in o)) refl e w h)
here_owes peer.Leaving l x o e w h = absurd cc
here_owes peer.Stopping l x o e w h = stopping_owes l.frame (client_frame l.frame) x _ _ e
here_owes peer.StoppingOwes l x o e w h = owing_owes l.frame (client_frame l.frame) x _ _ e
here_owes peer.StoppingAnswered l x o e w h = rw e tt

-- ---- the broker reads

numbered : (p : Peer) (x : Channel) (rs : List Left) (n : ℕ) → x.peer ≡ p → Owes p x rs n → Goes (with_next_number x) rs n
numbered p x rs n e w = by p e w
  where
    same : (v : Bool) (q : Peer) → x.peer ≡ q → ((z : Channel) → z.waiting ≡ x.waiting → Owes q z rs n) → Goes (cond v (record x { numbers = x.numbers ++ Some tt ∷ [] }) x) rs n
    same true q f g = goes_at (record x { numbers = x.numbers ++ Some tt ∷ [] }) rs n q f (g (record x { numbers = x.numbers ++ Some tt ∷ [] }) refl)
    same false q f g = goes_at x rs n q f (g x refl)

    waiting : Waiting x rs n → (z : Channel) → z.waiting ≡ x.waiting → Waiting z rs n
    waiting w z f = record { done = w.done; rest = w.rest; all = w.all; count = w.count; are = subst (AreOf w.rest) (sym f) w.are }

    by : (p : Peer) → x.peer ≡ p → Owes p x rs n → Goes (with_next_number x) rs n
    by peer.Free e w = subst (λ z. Goes (with_next_number z) rs n) (sym w) refl
    by peer.Asked e w = subst (λ z. Goes (with_next_number z) rs n) (sym w.0) (refl, w.1, w.2)
    by peer.Open e w = same x.selected peer.Open e (waiting w)
    by peer.Leaving e w = same x.selected peer.Leaving e (waiting w)
    by peer.Stopping e w = same x.selected peer.Stopping e (λ z f. tt)
    by peer.StoppingOwes e w = same x.selected peer.StoppingOwes e (λ z f. tt)
    by peer.StoppingAnswered e w = same x.selected peer.StoppingAnswered e (λ z f. tt)

numbered_in : (o : Option Channel) (rs : List Left) (n : ℕ) → Goes (channel_in o) rs n → Goes (channel_in (option_map with_next_number o)) rs n
numbered_in None rs n w = w
numbered_in (Some x) rs n w = numbered x.peer x rs n refl w

number_owes : (c d : ℕ) (b : Broker) (rs : List Left) (n : ℕ) → Goes (channel_at b c) rs n → Goes (channel_at (number_on d b) c) rs n
number_owes c d b rs n w = elim (eqb_tells d c) [
  | inl z ↦ subst (λ v. Goes (channel_at (number_on v b) c) rs n) (sym z.1) (subst (λ v. Goes (channel_in v) rs n) (sym (at-on_same c with_next_number b.channels)) (numbered_in (at_channel c b.channels) rs n w))
  | inr z ↦ subst (λ v. Goes (channel_in v) rs n) (sym (at-on_other d c with_next_number b.channels (λ e. not_both (d == c) (eq-eqb d c e) z.0))) w
]

piece_owes : (c d : ℕ) (x : Content) (b : Broker) (o : List Deed) → Goes (channel_at b c) (requests_in o) (length (replies_in o)) → Owing c (with_piece d x b) o
piece_owes c d x b o w up = elim (is_idle x) as (λ v. Goes (channel_at (cond v (record (number_on d b) { reading = None }) (record b { reading = Some (d, x) })) c) (requests_in o) (length (replies_in o))) [
  | true ↦ number_owes c d b (requests_in o) (length (replies_in o)) w
  | false ↦ w
]

piece_quiet : (most : ℕ) (x : Content) (l : Left) (u : ClientFrame) → client_frame l.frame ≡ u → admits most x u ≡ true → (is_open l.frame ≡ false) × (awaits l ≡ false)
piece_quiet most x l (client.Header class size) e a = ((sorts_as l.frame (client.Header class size) e).0, ap awaits_as e)
piece_quiet most x l (client.Body n) e a = ((sorts_as l.frame (client.Body n) e).0, ap awaits_as e)
piece_quiet most x l _ e a = absurd cc

pub broken : (c : ℕ) (b : Broker) (o : List Deed) → is_up b.connection ≡ false → Owing c b o
broken c b o h up = absurd (not_both _ up h)

-- what it owes after a frame on a channel
abbrev pub next_opening : ℕ → List Deed → Left → List Deed
next_opening c o l = cond (channel_of l.frame == c) (joined_opening o (Read l)) o

up_owes : (c : ℕ) (l : Left) (b : Broker) (o : List Deed) (r : Option (ℕ × Content)) → is_up b.connection ≡ true → Owing c b o → Owing c (read_up r (channel_of l.frame) l.frame (client_frame l.frame) b) (next_opening c o l)
up_owes c l b o (Some r) up k =
    let d : ℕ = channel_of l.frame in
    let u : ClientFrame = client_frame l.frame in
    of_if (λ v. Owing c v (next_opening c o l)) (r.0 == d) _ _
    (λ _. of_if (λ v. Owing c v (next_opening c o l)) (admits b.frame_max r.1 u) _ _
    (λ a.
    let q = piece_quiet b.frame_max r.1 l u refl a in
    let g : Owing c (with_piece d (content_after r.1 u) b) o = piece_owes c d (content_after r.1 u) b o (k up) in
    elim (d == c) as (λ v. Owing c (with_piece d (content_after r.1 u) b) (cond v (joined_opening o (Read l)) o)) [
      | true ↦ λ still_up. read_goes (channel_at (with_piece d (content_after r.1 u) b) c) o l q.0 (subst (λ v. Goes (channel_at (with_piece d (content_after r.1 u) b) c) v (length (replies_in o))) (sym (no_more (requests_in o) l q.1)) (g still_up))
      | false ↦ g
    ])
    (λ _. broken c (after_break b) (next_opening c o l) refl))
    (λ _. broken c (after_break b) (next_opening c o l) refl)
up_owes c l b o None up k =
    let d : ℕ = channel_of l.frame in
    let u : ClientFrame = client_frame l.frame in
    of_if (λ v. Owing c v (next_opening c o l)) (breaks_in (channel_at b d).peer u) _ _ (λ _. broken c (after_break b) (next_opening c o l) refl)
    (λ goes. elim (eqb_tells d c) [
      | inl z ↦
          let goes' : breaks_in (channel_at b c).peer u ≡ false = subst (λ v. breaks_in (channel_at b v).peer u ≡ false) z.1 goes in
          let x' : Channel = read_in (channel_at b c).peer l.frame (channel_at b c) u in
          let g = here_owes (channel_at b c).peer l (channel_at b c) o refl (k up) goes' in
          let at : at_channel c (with_channel c x' b.channels) ≡ Some x' = at_with c x' b.channels in
          let K : ℕ → Type 0 = λ v. Owing c (record (read_channel v l.frame u b) { reading = cond (begins_in (channel_at b v).peer u) (Some (v, content.Begun)) b.reading }) (joined_opening o (Read l)) in
          let here : K c = λ _. subst (λ v. Goes (channel_in v) (requests_in (joined_opening o (Read l))) (length (replies_in (joined_opening o (Read l))))) (sym at) g in
          rw z.0 (subst K (sym z.1) here)
      | inr z ↦
          let x' : Channel = read_in (channel_at b d).peer l.frame (channel_at b d) u in
          let same : at_channel c (with_channel d x' b.channels) ≡ at_channel c b.channels = at_away d c x' b.channels z.0 in
          rw z.0 (λ _. subst (λ v. Goes (channel_in v) (requests_in o) (length (replies_in o))) (sym same) (k up))
    ])

pub read_owes : (c : ℕ) (l : Left) (b : Broker) (o : List Deed) → Owing c b o → Owing c (read b l.frame) (next_opening c o l)
read_owes c l b o k =
    let P : Broker → Type 0 = λ v. Owing c v (next_opening c o l) in
    of_if P (is_connection_close (client_frame l.frame)) _ _ (λ _. broken c (record b { connection = after_client_close b.connection }) (next_opening c o l) (closed_down b.connection))
    (λ _. of_if P (is_connection_close_ok (client_frame l.frame)) _ _ (λ _. broken c (record b { connection = after_client_close_ok b.connection }) (next_opening c o l) (answered_down b.connection))
    (λ _. of_if P (is_up b.connection) _ _ (λ up. up_owes c l b o b.reading up k)
    (λ down. of_if P (is_leaving b.connection) _ _ (λ _. broken c (after_break b) (next_opening c o l) refl) (λ _. broken c b (next_opening c o l) down))))
