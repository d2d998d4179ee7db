-- What calls, frames of the broker and a loss do to the lists that wait, to the openings and to the connection.
use Rattle.std.proofs.Common.{◌≡◌, ℕ, ◌+◌, Bool, true, false, cond, ◌==◌, ◌||◌, List, [], ◌∷◌, ◌++◌, refl, sym, ◌∙◌, ap, subst, inl, inr, Option, None}
use Rattle.std.specs.List.{filter, list_any}
use Rattle.std.proofs.lemmas.Bool.Decides.{eqb_tells}
use Rattle.lapin_types.specs.declared.record.Record.TheVariants as record_
use Rattle.lapin_types.specs.declared.leaving.Publish.{Publish}
use Rattle.lapin_types.specs.declared.request.Reply.{Reply}
use Rattle.lapin_types.specs.Types.{Method, ChannelState, Error}
use Rattle.lapin_types.specs.Types.channel_state as state
use Rattle.lapin_types.specs.Types.error
use Rattle.lapin_types.specs.Types.frame
use Rattle.lapin_rules.specs.declared.calls.Asked.{Asked}
use Rattle.lapin_rules.specs.declared.calls.Asked.TheVariants as ask
use Rattle.lapin_rules.specs.declared.phases.ChannelPhase.{ChannelPhase}
use Rattle.lapin_rules.specs.declared.phases.ChannelPhase.TheVariants as phase
use Rattle.lapin_rules.specs.declared.phases.ConnectionPhase.{ConnectionPhase}
use Rattle.lapin_rules.specs.declared.phases.ConnectionPhase.TheVariants as link
use Rattle.lapin_rules.specs.declared.phases.Closer.TheVariants as closer
use Rattle.lapin_rules.specs.declared.phases.Closer.{Closer}
use Rattle.lapin_rules.specs.ConfirmMarks as mark
use Rattle.lapin_rules.specs.Words.{with_channel}
use Rattle.lapin_rules.specs.Phases.{is_up, is_lost, is_live, channel_state}
use Rattle.lapin_rules.specs.Frames.{MethodEntry, RestEntry}
use Rattle.lapin_rules.specs.Drops.{is_off, is_rest_of, publish_channel}
use Rattle.lapin_rules.specs.Ends.{live_channels, ends_all}
use Rattle.lapin_rules.specs.Wire.{Wire, start, queued, state_of, phase_of, is_open, with_deliveries}
use Rattle.lapin_rules.specs.Calls.{awaited_by}
use Rattle.lapin_rules.specs.Select.{is_select}
use Rattle.lapin_rules.specs.Asking.{is_allowed, accepted_record, call_record, after_call, asked_wire, call_marks, asking_marks}
use Rattle.lapin_delivery.specs.Marks.{DeliveryMark}
use Rattle.lapin_laws.specs.Closes.{is_channel_close, is_unsent}
use Rattle.lapin_laws.specs.Outgoing.{published_by, ended_in, is_channel}
use Rattle.lapin_laws.specs.Unbroken.{is_publish}
use Rattle.lapin_laws.proofs.Alive.{live_at, live-with, Grows, grows-with, AreAlive, alive-grows, alive-filter, alive-off, alive-push, none_alive, IsRestAlive, rest-grows, rest-off, none_begun, Alive}
use Rattle.lapin_laws.proofs.Closes.{AreMarked, marks_noted, marks_moved, marks_closing, closed_unsent, open_unsent}
use Rattle.lapin_laws.proofs.Parts.{IsPart, part-filter, part-push, part-same}
use Rattle.lapin_laws.proofs.Cuts.{frames_of, cut_at, cut-rest, cut-nil, cut-all, ended-ends, live-in}
use Rattle.lapin_laws.proofs.Rows.{IsPlain, IsLine}
use Rattle.lapin_rules.proofs.PhaseLaws.{lost_down, allowed_up}

-- ---- what is kept

-- no method that waits is a publish
abbrev pub ArePlain : List MethodEntry → Type 0
ArePlain [] = Unit {0}
ArePlain (m ∷ ms) = (is_publish (frame.Method m.channel m.method) ≡ false) × ArePlain ms

pub plain-push : (ms : List MethodEntry) (m : MethodEntry) → is_publish (frame.Method m.channel m.method) ≡ false → ArePlain ms → ArePlain (ms ++ m ∷ [])
plain-push [] m p h = (p, tt)
plain-push (x ∷ xs) m p h = (h.0, plain-push xs m p h.1)

pub plain-filter : (f : MethodEntry → Bool) (ms : List MethodEntry) → ArePlain ms → ArePlain (filter f ms)
plain-filter f [] h = tt
plain-filter f (m ∷ ms) h = elim (f m) as (λ b. ArePlain (cond b (m ∷ filter f ms) (filter f ms))) [ true ↦ (h.0, plain-filter f ms h.1) | false ↦ plain-filter f ms h.1 ]

pub record Sound (n : ℕ) (b : Wire) : Type 0 where
  pub max : b.frame_max ≡ n
  pub plain : ArePlain b.methods
  pub publishes : AreAlive b.link b.phases b.publishes
  pub rest : IsRestAlive b.link b.phases b.rest
  pub lost : is_lost b.link ≡ true → b.methods ≡ []
  pub closes : is_up b.link ≡ true → AreMarked b.phases b.methods
  pub contents : is_up b.link ≡ false → b.contents ≡ []

over_at : (c d : ℕ) (p : ChannelPhase) (ps : List (ℕ × ChannelPhase)) → is_live p ≡ false → ((c == d) || false) ≡ true → live_at d (with_channel c p ps) ≡ true → ⊥
over_at c d p ps over h live = elim (eqb_tells c d) [
  | inl y ↦ let here : live_at d (with_channel c p ps) ≡ is_live p = live-with c d p ps ∙ rw y.0 refl in let z : true ≡ false = sym live ∙ (here ∙ over) in cc
  | inr n ↦ let z : false ≡ true = rw n.0 at h in cc
]

-- an event leaves b' of b, ends the openings of these channels, and accepts these publishes
pub record Moves (n : ℕ) (b b' : Wire) (cs : List ℕ) (qs : List Publish) : Type 0 where
  pub sound : Sound n b'
  pub part : (calls : List Publish) → IsPart b.publishes calls → IsPart b'.publishes (calls ++ qs)
  pub cut : frames_of b'.rest ≡ cut_at cs (frames_of b.rest)
  pub down : is_up b.link ≡ false → is_up b'.link ≡ false
  pub dead : (c : ℕ) → list_any (is_channel c) cs ≡ true → Alive b'.link b'.phases c → ⊥

-- consumers and ackers move nothing else
pub inboxed : (n : ℕ) (ms : List DeliveryMark) (b b' : Wire) (cs : List ℕ) (qs : List Publish) → Moves n b b' cs qs → Moves n b (with_deliveries ms b') cs qs
inboxed n ms b b' cs qs m = record {
  sound = record {
    max = m.sound.max;
    plain = m.sound.plain;
    publishes = m.sound.publishes;
    rest = m.sound.rest;
    lost = m.sound.lost;
    closes = m.sound.closes;
    contents = m.sound.contents;
  };
  part = m.part;
  cut = m.cut;
  down = m.down;
  dead = m.dead;
}

pub same : (n : ℕ) (b : Wire) → Sound n b → Moves n b b [] []
same n b s = record { sound = s; part = λ calls p. part-same b.publishes calls p; cut = refl; down = λ d. d; dead = λ d h a. let z : false ≡ true = h in cc }

up_not_lost : (l : ConnectionPhase) → l ≡ link.Open → is_lost l ≡ true → ⊥
up_not_lost l e h = let x : is_lost link.Open ≡ true = rw e at h in cc

up_not_down : (l : ConnectionPhase) → l ≡ link.Open → is_up l ≡ false → ⊥
up_not_down l e h = let x : is_up link.Open ≡ false = rw e at h in cc

-- nothing ends, and the connection stays open
pub keeps : (n : ℕ) (b b' : Wire) → b.link ≡ link.Open → b'.link ≡ b.link → b'.frame_max ≡ b.frame_max → b'.publishes ≡ b.publishes → b'.rest ≡ b.rest → (ArePlain b.methods → ArePlain b'.methods) → Grows b.link b.phases b'.link b'.phases → (AreMarked b.phases b.methods → AreMarked b'.phases b'.methods) → Sound n b → Moves n b b' [] []
keeps n b b' e l m p r plain g marks s = record {
  sound = record {
    max = m ∙ s.max;
    plain = plain s.plain;
    publishes = subst (AreAlive b'.link b'.phases) (sym p) (alive-grows b.link b'.link b.phases b'.phases b.publishes g s.publishes);
    rest = subst (IsRestAlive b'.link b'.phases) (sym r) (rest-grows b.link b'.link b.phases b'.phases b.rest g s.rest);
    lost = λ h. absurd (up_not_lost b'.link (l ∙ e) h);
    closes = λ u. marks (s.closes (ap is_up e));
    contents = λ d. absurd (up_not_down b'.link (l ∙ e) d);
  };
  part = λ calls h. let P : List Publish → Type 0 = λ xs. IsPart xs (calls ++ []) in subst P (sym p) (part-same b.publishes calls h);
  cut = ap frames_of r;
  down = λ d. ap is_up l ∙ d;
  dead = λ d h a. let z : false ≡ true = h in cc;
}

pub same_grows : (l : ConnectionPhase) (ps : List (ℕ × ChannelPhase)) → Grows l ps l ps
same_grows l ps c a = a

-- this side closes a channel
pub closes : (n c : ℕ) (who : Closer) (b b' : Wire) → b.link ≡ link.Open → b'.link ≡ b.link → b'.frame_max ≡ b.frame_max → b'.publishes ≡ filter (is_off publish_channel c) b.publishes → b'.rest ≡ b.rest → b'.phases ≡ with_channel c (phase.Closing who false) b.phases → (ArePlain b.methods → ArePlain b'.methods) → (m : MethodEntry) → b'.methods ≡ b.methods ++ m ∷ [] → m.channel ≡ c → is_channel_close m.method ≡ true → is_unsent (phase_of c b) ≡ false → Sound n b → Moves n b b' [] []
closes n c who b b' e l m p r ph plain entry ms on is unsent s =
    let g : Grows b.link b.phases b'.link b'.phases = rw (l, ph) (grows-with c (phase.Closing who false) b.link b.phases refl) in
    record {
      sound = record {
        max = m ∙ s.max;
        plain = plain s.plain;
        publishes = subst (AreAlive b'.link b'.phases) (sym p) (alive-filter (is_off publish_channel c) b'.link b'.phases b.publishes (alive-grows b.link b'.link b.phases b'.phases b.publishes g s.publishes));
        rest = subst (IsRestAlive b'.link b'.phases) (sym r) (rest-grows b.link b'.link b.phases b'.phases b.rest g s.rest);
        lost = λ h. absurd (up_not_lost b'.link (l ∙ e) h);
        contents = λ d. absurd (up_not_down b'.link (l ∙ e) d);
        closes = λ u. rw (ph, ms) (marks_closing c (phase.Closing who false) b.phases b.methods entry unsent refl on is (s.closes (ap is_up e)));
      };
      part = λ calls h. let P : List Publish → Type 0 = λ xs. IsPart xs (calls ++ []) in subst P (sym p) (part-same _ calls (part-filter (is_off publish_channel c) b.publishes calls h));
      cut = ap frames_of r;
      down = λ d. ap is_up l ∙ d;
      dead = λ d h a. let z : false ≡ true = h in cc;
    }

-- an opening ends
pub ends_one : (n c : ℕ) (p : ChannelPhase) (b b' : Wire) → b.link ≡ link.Open → b'.link ≡ b.link → b'.frame_max ≡ b.frame_max → b'.publishes ≡ filter (is_off publish_channel c) b.publishes → b'.rest ≡ cond (is_rest_of c b.rest) [] b.rest → b'.phases ≡ with_channel c p b.phases → (ArePlain b.methods → ArePlain b'.methods) → (AreMarked b.phases b.methods → AreMarked b'.phases b'.methods) → is_live p ≡ false → Sound n b → Moves n b b' (c ∷ []) []
ends_one n c p b b' e l m q r ph plain marks over s = record {
  sound = record {
    max = m ∙ s.max;
    plain = plain s.plain;
    publishes = rw (l, ph, q) (alive-off c p b.link b.phases b.publishes s.publishes);
    rest = rw (l, ph, r) (rest-off c p b.link b.phases b.rest s.rest);
    lost = λ h. absurd (up_not_lost b'.link (l ∙ e) h);
    closes = λ u. marks (s.closes (ap is_up e));
    contents = λ d. absurd (up_not_down b'.link (l ∙ e) d);
  };
  part = λ calls h. let P : List Publish → Type 0 = λ xs. IsPart xs (calls ++ []) in subst P (sym q) (part-same _ calls (part-filter (is_off publish_channel c) b.publishes calls h));
  cut = ap frames_of r ∙ cut-rest c b.rest;
  down = λ d. ap is_up l ∙ d;
  dead = λ d h a. over_at c d p b.phases over h (subst (λ ps. live_at d ps ≡ true) ph a.1);
}

-- the connection leaves the open state, or is lost
cut_down : (b : Wire) (rest : List RestEntry) → IsRestAlive b.link b.phases rest → [] ≡ cut_at (live_channels b.phases) (frames_of rest)
cut_down b [] h = sym (cut-nil (live_channels b.phases))
cut_down b (f ∷ fs) h = sym (cut-all f.frame (frames_of fs) (live_channels b.phases) (live-in _ b.phases h.0.1))

pub falls : (n : ℕ) (x : Error) (b b' : Wire) → is_up b'.link ≡ false → b'.frame_max ≡ b.frame_max → b'.publishes ≡ [] → b'.rest ≡ [] → b'.contents ≡ [] → ArePlain b'.methods → (is_lost b'.link ≡ true → b'.methods ≡ []) → Sound n b → Moves n b b' (ended_in (ends_all x b)) []
falls n x b b' d m p r none plain lost s = record {
  sound = record {
    max = m ∙ s.max;
    plain = plain;
    publishes = rw p tt;
    rest = rw r tt;
    lost = lost;
    closes = λ u. let z : true ≡ false = sym u ∙ d in absurd cc;
    contents = λ _. none;
  };
  part = λ calls h. rw p tt;
  cut = ap frames_of r ∙ (cut_down b b.rest s.rest ∙ ap (λ cs. cut_at cs (frames_of b.rest)) (sym (ended-ends x (live_channels b.phases))));
  down = λ _. d;
  dead = λ c h a. let z : true ≡ false = sym a.0 ∙ d in cc;
}

-- the connection is closing already
pub sinks : (n : ℕ) (b b' : Wire) → is_up b.link ≡ false → is_up b'.link ≡ false → is_lost b'.link ≡ false → b'.frame_max ≡ b.frame_max → (b.publishes ≡ [] → b'.publishes ≡ []) → (b.rest ≡ [] → b'.rest ≡ []) → (ArePlain b.methods → ArePlain b'.methods) → b'.contents ≡ b.contents → Sound n b → Moves n b b' [] []
sinks n b b' d d' live m p r plain cs s =
    let was : b.rest ≡ [] = none_begun b.link b.phases b.rest d s.rest in
    let none : b'.rest ≡ [] = r was in
    let was_empty : b.publishes ≡ [] = none_alive b.link b.phases b.publishes d s.publishes in
    let empty : b'.publishes ≡ [] = p was_empty in
    record {
      sound = record { max = m ∙ s.max; plain = plain s.plain; publishes = rw empty tt; rest = rw none tt; lost = λ h. let z : true ≡ false = sym h ∙ live in absurd cc; closes = λ u. let z : true ≡ false = sym u ∙ d' in absurd cc; contents = λ _. cs ∙ s.contents d };
      part = λ calls h. rw empty tt;
      cut = ap frames_of none ∙ ap frames_of (sym was);
      down = λ _. d';
      dead = λ c h a. let z : true ≡ false = sym a.0 ∙ d' in cc;
    }

-- ---- calls

pub open_here : (t : Bool) (p : ChannelPhase) → is_open (cond t state.Base (channel_state p)) ≡ true → is_live p ≡ true
open_here true p h = absurd cc
open_here false phase.Closed h = absurd cc
open_here false phase.Opening h = absurd cc
open_here false (phase.Open paused) h = refl
open_here false (phase.Closing who sent) h = absurd cc
open_here false phase.Crossed h = absurd cc

pub open_up : (l : ConnectionPhase) (s : ChannelState) → is_open (cond (is_up l) s state.Down) ≡ true → l ≡ link.Open
open_up link.Open s h = refl
open_up (link.Closing x) s h = absurd cc
open_up link.Closed s h = absurd cc
open_up link.Lost s h = absurd cc

pub state_up : (c : ℕ) (b : Wire) → b.link ≡ link.Open → state_of c b ≡ cond (c == 0) state.Base (channel_state (phase_of c b))
state_up c b e = rw e refl

joins : (n : ℕ) (b b' : Wire) (q : Publish) → b.link ≡ link.Open → b'.link ≡ b.link → b'.frame_max ≡ b.frame_max → b'.publishes ≡ b.publishes ++ q ∷ [] → b'.rest ≡ b.rest → b'.methods ≡ b.methods → b'.phases ≡ b.phases → live_at q.channel b.phases ≡ true → Sound n b → Moves n b b' [] (q ∷ [])
joins n b b' q e l m p r ms ph live s = record {
  sound = record {
    max = m ∙ s.max;
    plain = rw ms s.plain;
    publishes = rw (l, ph, p) (alive-push b.link b.phases b.publishes q s.publishes (ap is_up e, live));
    rest = rw (l, ph, r) s.rest;
    lost = λ h. absurd (up_not_lost b'.link (l ∙ e) h);
    closes = λ u. rw (ph, ms) (s.closes (ap is_up e));
    contents = λ d. absurd (up_not_down b'.link (l ∙ e) d);
  };
  part = λ calls h. rw p (part-push b.publishes calls q h);
  cut = ap frames_of r;
  down = λ d. ap is_up l ∙ d;
  dead = λ d h a. let z : false ≡ true = h in cc;
}

pub queued_quiet : (t : Bool) (c : ℕ) → ended_in (cond t (mark.SelectCalled c ∷ []) []) ≡ []
queued_quiet true c = refl
queued_quiet false c = refl

-- a line's method is queued
pub queued_up : (n c : ℕ) (m : Method) (o : Option Reply) (b : Wire) → b.link ≡ link.Open → IsPlain c m → Sound n b → Moves n b (queued c m o b) [] []
queued_up n c m o b e plain s = keeps n b _ e refl refl refl refl (plain-push b.methods _ plain.0) (same_grows b.link b.phases) (marks_noted b.phases b.methods _ plain.1) s

-- a ticket is given, and nothing is queued
given_up : (n : ℕ) (b : Wire) → b.link ≡ link.Open → Sound n b → Moves n b (record b { tickets = b.tickets + 1 }) [] []
given_up n b e s = keeps n b _ e refl refl refl refl (λ h. h) (same_grows b.link b.phases) (λ h. h) s

abbrev CallMoves : ℕ → ℕ → Asked → Wire → Type 0
CallMoves n c k b = Moves n b (after_call c k b) (ended_in (call_marks c k b)) (published_by c k (accepted_record k b))

call_up : (n c : ℕ) (k : Asked) (b : Wire) → b.link ≡ link.Open → is_allowed k (cond (c == 0) state.Base (channel_state (phase_of c b))) ≡ true → IsLine c k → Sound n b → CallMoves n c k b
call_up n c ask.Open b e a plain s = keeps n b _ e refl refl refl refl (plain-push b.methods _ refl) (grows-with c phase.Opening b.link b.phases refl) (λ h. marks_noted _ b.methods _ refl (marks_moved c phase.Opening b.phases b.methods (closed_unsent (c == 0) (phase_of c b) a) refl h)) s
call_up n c (ask.CloseChannel code text) b e a plain s = closes n c closer.Application b _ e refl refl refl refl refl (plain-push b.methods _ refl) _ refl refl refl (open_unsent (c == 0) (phase_of c b) a) s
call_up n c (ask.CloseConnection code text) b e a plain s = falls n _ b _ refl refl refl refl refl (refl, tt) (λ h. cc) s
call_up n c (ask.Publish exchange key o payload properties) b e a plain s = joins n b _ _ e refl refl refl refl refl refl (open_here (c == 0) (phase_of c b) a) s
call_up n c (ask.Consume m tag queue o) b e a plain s = queued_up n c m None b e plain s
call_up n c (ask.Limit limit) b e a plain s = given_up n b e s
call_up n c ask.Nothing b e a plain s = given_up n b e s
call_up n c (ask.Method row) b e a plain s = subst (λ cs. Moves n b (after_call c (ask.Method row) b) cs []) (sym (queued_quiet (is_select row.method) c)) (queued_up n c row.method (awaited_by row.answered) b e plain.0 s)

pub refused_none : (c : ℕ) (k : Asked) (x : Error) → published_by c k (record_.Refused x) ≡ []
refused_none c ask.Open x = refl
refused_none c (ask.CloseChannel code text) x = refl
refused_none c (ask.CloseConnection code text) x = refl
refused_none c (ask.Publish exchange key o payload properties) x = refl
refused_none c (ask.Method row) x = refl
refused_none c (ask.Consume m tag queue o) x = refl
refused_none c (ask.Limit limit) x = refl
refused_none c ask.Nothing x = refl

pub asked_moves : (n c : ℕ) (k : Asked) (b : Wire) → IsLine c k → Sound n b → Moves n b (asked_wire c k b) (ended_in (asking_marks c k b)) (published_by c k (call_record c k b))
asked_moves n c k b plain s = elim (is_allowed k (state_of c b)) as (λ t. is_allowed k (state_of c b) ≡ t → Moves n b (cond t (after_call c k b) b) (ended_in (cond t (call_marks c k b) [])) (published_by c k (cond t (accepted_record k b) (record_.Refused (error.InvalidChannelState (state_of c b)))))) [
  | true ↦ λ a. let e = allowed_up b.link k (cond (c == 0) state.Base (channel_state (phase_of c b))) a in call_up n c k b e (rw e at a) plain s
  | false ↦ λ a. subst (Moves n b b []) (sym (refused_none c k (error.InvalidChannelState (state_of c b)))) (same n b s)
] refl

-- ---- a new session

pub start_sound : (n : ℕ) → Sound n (start n)
start_sound n = record { max = refl; plain = tt; publishes = tt; rest = tt; lost = λ h. cc; closes = λ u c. refl; contents = λ _. refl }
