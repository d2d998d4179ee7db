-- A method is queued on an open channel: a call of the pair of machines.
use Rattle.std.proofs.Common.{◌≡◌, ℕ, Bool, true, false, ◌==◌, ◌&&◌, List, [], ◌∷◌, ◌++◌, map, refl, sym, ◌∙◌, ap, ap₂, subst, subst₂, append_assoc, Option}
use Rattle.lapin_types.specs.declared.leaving.Left.{Left}
use Rattle.lapin_types.specs.declared.request.Reply.{Reply}
use Rattle.lapin_types.specs.Types.{Frame, Method}
use Rattle.lapin_types.specs.Types.frame
use Rattle.lapin_content.specs.Channels.{expected_on}
use Rattle.lapin_rules.specs.declared.phases.ChannelPhase.{ChannelPhase}
use Rattle.lapin_rules.specs.declared.phases.ChannelPhase.TheVariants as phase
use Rattle.lapin_rules.specs.declared.phases.ConnectionPhase.TheVariants as link
use Rattle.lapin_rules.specs.Phases.{is_up}
use Rattle.lapin_rules.specs.Frames.{MethodEntry, RestEntry}
use Rattle.lapin_rules.specs.Wire.{Wire, phase_of, requests_of}
use Rattle.lapin_broker.specs.States.{Broker}
use Rattle.lapin_broker.specs.Frames.{client_frame}
use Rattle.lapin_pairs.specs.Machine.{Up, UOther, UClose, UOpen, UCloseOk, Opened, has_close}
use Rattle.lapin_pairs.specs.Channel as kept
use Rattle.lapin_pairs.specs.Channel.{kind_up}
use Rattle.lapin_pairs.specs.Every.{UpOn, OnU, of_u, put, has_any, All, CallA, calls_a, called_a, happens_a}
use Rattle.lapin_pairs.specs.Asking.{U2, S2, flats, call2, needs2, asking}
use Rattle.lapin_pairs.proofs.Erase.{map-append}
use Rattle.lapin_pairs.proofs.Every.{of_more, of_away}
use Rattle.lapin_pairs.proofs.Asking.{flats-append}
use Rattle.lapin_concord.specs.Frames.{down_frame, IsSent}
use Rattle.lapin_concord.specs.Wires.{link_as, asked_in, contents_as, chan_as, chans_as, chans_up, rest_as, entry_as, waits_as, pair_as}
use Rattle.lapin_concord.specs.Held.{way, IsMarked, IsLinked, is_open_phase, AreOpen, IsWhole, IsOneContent, HeldUp, Held, AreRestSent, AreMethodsSent}
use Rattle.lapin_concord.proofs.Views.{told_call, told_once, Follows, one_step, Same, HeldOn, held_moved, chans_moved}
use Rattle.lapin_concord.proofs.Queues.{opened, asked_with, are_others, Queues}

-- ---- states

pub record IsOpened (p : ChannelPhase) : Type 0 where
  pub paused : Bool
  pub is : p ≡ phase.Open paused

pub open_is : (p : ChannelPhase) → is_open_phase p ≡ true → IsOpened p
open_is (phase.Open t) h = record { paused = t; is = refl }
open_is phase.Closed h = cc
open_is phase.Opening h = cc
open_is (phase.Closing who sent) h = cc
open_is phase.Crossed h = cc

-- ---- ways

pub way-append : (us vs : List U2) → way (us ++ vs) ≡ way us ++ way vs
way-append us vs = ap (map kind_up) (flats-append us vs) ∙ map-append kind_up (flats us) (flats vs)

pub others_after : (us vs : List Up) → has_close us ≡ false → are_others vs ≡ true → has_close (us ++ vs) ≡ false
others_after [] [] h k = refl
others_after [] (UOther ∷ vs) h k = others_after [] vs refl k
others_after [] (UOpen ∷ vs) h k = cc
others_after [] (UClose ∷ vs) h k = cc
others_after [] (UCloseOk ∷ vs) h k = cc
others_after (UClose ∷ us) vs h k = cc
others_after (UOpen ∷ us) vs h k = others_after us vs h k
others_after (UCloseOk ∷ us) vs h k = others_after us vs h k
others_after (UOther ∷ us) vs h k = others_after us vs h k

-- ---- lists

pub methods-push : (most : ℕ) (ms : List MethodEntry) (m : MethodEntry) → AreMethodsSent most ms → IsSent most (client_frame (frame.Method m.channel m.method)) → AreMethodsSent most (ms ++ m ∷ [])
methods-push most [] m h k = (k, tt)
methods-push most (x ∷ xs) m h k = (h.0, methods-push most xs m h.1 k)

pub waits_more : (rest : List RestEntry) (methods : List MethodEntry) (m : MethodEntry) (x : UpOn U2) → entry_as m ≡ x → map rest_as rest ++ map entry_as (methods ++ m ∷ []) ≡ (map rest_as rest ++ map entry_as methods) ++ x ∷ []
waits_more rest methods m x e = ap (λ xs. map rest_as rest ++ xs) (map-append entry_as methods (m ∷ [])) ∙ (ap (λ k. map rest_as rest ++ (map entry_as methods ++ k ∷ [])) e ∙ sym (append_assoc (map rest_as rest) (map entry_as methods) (x ∷ [])))

-- ---- the pair's state after a move of one channel

pub moved_pair : (b d : Wire) (br : Broker) (us : List Left) (ds es : List Frame) (c : ℕ) (s : S2) (vs : List (UpOn U2)) → b.link ≡ link.Open → d.link ≡ link.Open → chans_as d.phases d.requests d.contents ≡ put c s (chans_as b.phases b.requests b.contents) → waits_as d ≡ vs
    → record (pair_as b br us ds) { chans = put c s (pair_as b br us ds).chans; unsent = vs; down = map down_frame es } ≡ pair_as d br us es
moved_pair b d br us ds es c s vs e f h k =
    let one : chans_up (is_up b.link) b.phases b.requests b.contents ≡ chans_as b.phases b.requests b.contents = ap (λ l. chans_up (is_up l) b.phases b.requests b.contents) e in
    let two : chans_up (is_up d.link) d.phases d.requests d.contents ≡ chans_as d.phases d.requests d.contents = ap (λ l. chans_up (is_up l) d.phases d.requests d.contents) f in
    let cs : put c s (pair_as b br us ds).chans ≡ chans_up (is_up d.link) d.phases d.requests d.contents = ap (put c s) one ∙ (sym h ∙ sym two) in
    let ls : link_as b.link ≡ link_as d.link = ap link_as (e ∙ sym f) in
    λ i. record (pair_as b br us ds) { conn = ls i; chans = cs i; unsent = sym k i; down = map down_frame es }

-- ---- a method is queued

pub record Queued (c : ℕ) (m : Method) (w : Option Reply) (b d : Wire) : Type 0 where
  pub link_ : d.link ≡ b.link
  pub phases : d.phases ≡ b.phases
  pub rest : d.rest ≡ b.rest
  pub ticket : Option ℕ
  pub methods : d.methods ≡ b.methods ++ record { channel = c; method = m; ticket = ticket } ∷ []
  pub publishes : d.publishes ≡ b.publishes
  pub contents : d.contents ≡ b.contents
  pub here : asked_in (requests_of c d) ≡ asked_with w (asked_in (requests_of c b))
  pub away : (e : ℕ) → (c == e) ≡ false → requests_of e d ≡ requests_of e b
  pub most : d.frame_max ≡ b.frame_max

module _ (c : ℕ) (m : Method) (w : Option Reply) (b d : Wire) (q : Queues c m w) (h : Queued c m w b d) where
  queued_waits : waits_as d ≡ waits_as b ++ OnU c q.small ∷ []
  queued_waits = ap₂ (λ x y. map rest_as x ++ map entry_as y) h.rest h.methods ∙ waits_more b.rest b.methods (record { channel = c; method = m; ticket = h.ticket }) (OnU c q.small) q.up

  queued_phase : (e : ℕ) → phase_of e d ≡ phase_of e b
  queued_phase e = ap (λ ps. phase_of e (record b { phases = ps })) h.phases

  queued_contents : (e : ℕ) → expected_on e d.contents ≡ expected_on e b.contents
  queued_contents e = ap (expected_on e) h.contents

  queued_away : (e : ℕ) → (c == e) ≡ false → Same e b d
  queued_away e n = record { phase = queued_phase e; requests = h.away e n; contents = queued_contents e; way = ap (of_u e) queued_waits ∙ of_away c e (q.small ∷ []) (waits_as b) n }

  queued_here : is_open_phase (phase_of c b) ≡ true → HeldOn c b → HeldOn c d
  queued_here o k =
      let p = open_is (phase_of c b) o in
      let e : phase_of c d ≡ phase.Open p.paused = queued_phase c ∙ p.is in
      let was : has_close (way (of_u c (waits_as b))) ≡ false = subst (λ x. IsMarked x (of_u c (waits_as b))) p.is k.marks in
      let us : of_u c (waits_as d) ≡ of_u c (waits_as b) ++ q.small ∷ [] = ap (of_u c) queued_waits ∙ of_more c (q.small ∷ []) (waits_as b) in
      let now : has_close (way (of_u c (waits_as d))) ≡ false = ap (λ x. has_close (way x)) us ∙ (ap has_close (way-append (of_u c (waits_as b)) (q.small ∷ [])) ∙ others_after (way (of_u c (waits_as b))) (way (q.small ∷ [])) was q.others) in
      record {
        opening = λ x. let y : phase.Open p.paused ≡ phase.Opening = sym e ∙ x in cc;
        crossed = λ x. let y : phase.Open p.paused ≡ phase.Crossed = sym e ∙ x in cc;
        marks = subst (λ x. IsMarked x (of_u c (waits_as d))) (sym e) now;
        contents = subst (λ x. IsOneContent x) (sym (queued_contents c)) k.contents;
      }

  queued_up : is_open_phase (phase_of c b) ≡ true → HeldUp b → HeldUp d
  queued_up o k = record {
    zero = queued_phase 0 ∙ k.zero;
    each = held_moved c b d queued_away (queued_here o (k.each c)) k.each;
    publishes = subst₂ AreOpen (sym h.phases) (sym h.publishes) k.publishes;
    rest = subst IsWhole (sym h.rest) k.rest;
  }

  pub queued_held : b.link ≡ link.Open → is_open_phase (phase_of c b) ≡ true → Held b → Held d
  queued_held e o k =
      let f : d.link ≡ link.Open = h.link_ ∙ e in
      record {
        up = λ x. queued_up o (k.up e);
        shut = λ x. let y : true ≡ false = ap is_up (sym f) ∙ x in cc;
        linked = subst (λ l. IsLinked l (waits_as d)) (sym f) tt;
        rest = subst₂ AreRestSent (sym h.most) (sym h.rest) k.rest;
        methods = subst₂ AreMethodsSent (sym h.most) (sym h.methods) (methods-push b.frame_max b.methods (record { channel = c; method = m; ticket = h.ticket }) k.methods (q.sent b.frame_max));
      }

  pub queued_follows : (br : Broker) (us : List Left) (ds : List Frame) → b.link ≡ link.Open → is_open_phase (phase_of c b) ≡ true → Follows (told_call c q.call) (pair_as b br us ds) (pair_as d br us ds)
  queued_follows br us ds e o =
      let p = open_is (phase_of c b) o in
      let v : All asking = pair_as b br us ds in
      let xs : List ℕ = asked_in (requests_of c b) in
      let z : kept.Content = contents_as (expected_on c b.contents) in
      let there : v.chans c ≡ opened xs z = ap (λ l. chans_up (is_up l) b.phases b.requests b.contents c) e ∙ ap (λ x. chan_as x (requests_of c b) (expected_on c b.contents)) p.is in
      let made : chan_as (phase_of c d) (requests_of c d) (expected_on c d.contents) ≡ opened (asked_with w xs) z =
      ap (λ x. chan_as x (requests_of c d) (expected_on c d.contents)) (queued_phase c ∙ p.is) ∙ ap₂ opened h.here (ap contents_as (queued_contents c)) in
      let goes : happens_a asking v (CallA c q.call) ≡ record v { chans = put c (opened (asked_with w xs) z) v.chans; unsent = waits_as b ++ OnU c q.small ∷ [] } =
      ap (λ s. calls_a asking v s c q.call (needs2 q.call && has_any v.unsent)) (ap link_as e)
      ∙ (ap (λ t. calls_a asking v Opened c q.call (t && has_any v.unsent)) q.needs
      ∙ (ap (λ s. called_a asking v c (call2 q.call s)) there
      ∙ ap (called_a asking v c) (q.makes xs z))) in
      one_step (told_call c q.call) v _ (CallA c q.call) refl (told_once c q.call q.needs) (goes ∙ moved_pair b d br us ds ds c (opened (asked_with w xs) z) (waits_as b ++ OnU c q.small ∷ []) e (h.link_ ∙ e) (chans_moved c (opened (asked_with w xs) z) b d made queued_away) queued_waits)
