-- A frame comes to a channel that the pair of machines lets have it: what the session makes of it.
use Rattle.std.proofs.Common.{◌≡◌, ◌≢◌, ℕ, Bool, true, false, cond, ◌==◌, List, [], ◌∷◌, ◌++◌, map, refl, sym, ◌∙◌, ap, ap₂, subst, subst₂, append-nil, Option, Some, None, inl, inr, eq-eqb}
use Rattle.std.proofs.lemmas.Bool.Decides.{eqb_tells}
use Rattle.std.specs.Option.{option_or}
use Rattle.lapin_tables.specs.ByChannel.{at_channel}
use Rattle.lapin_tables.proofs.Channels.{at-push, at-on_same, at-on_other, or-none}
use Rattle.lapin_types.specs.declared.leaving.Left.{Left}
use Rattle.lapin_types.specs.Types.{Frame}
use Rattle.lapin_content.specs.Contents.{Begun, Expected}
use Rattle.lapin_content.specs.Channels.{Channels, expected_on, listed, joined, joined_at}
use Rattle.lapin_rules.specs.declared.phases.ChannelPhase.{ChannelPhase}
use Rattle.lapin_rules.specs.declared.phases.ChannelPhase.TheVariants as phase
use Rattle.lapin_rules.specs.declared.phases.ConnectionPhase.TheVariants as link
use Rattle.lapin_rules.specs.Phases.{is_up, channel_state}
use Rattle.lapin_rules.specs.Wire.{Wire, phase_of, requests_of, state_of, receives_on}
use Rattle.lapin_broker.specs.States.{Broker}
use Rattle.lapin_pairs.specs.Machine.{Up, Opened, Closing, DOther, has_close, state_after, is_refused}
use Rattle.lapin_pairs.specs.Channel as kept
use Rattle.lapin_pairs.specs.Channel.{DownF, kind_down, takes, is_none}
use Rattle.lapin_pairs.specs.Every.{Push, of_u, left_all, DownOn, ToD, put, All, DeliverA, received_a, happens_a}
use Rattle.lapin_pairs.specs.Asking.{S2, take2, left_at, left2, asking}
use Rattle.lapin_pairs.proofs.Asking.{asks_sess, asks_data}
use Rattle.lapin_concord.specs.Frames.{down_frame}
use Rattle.lapin_concord.specs.Wires.{phase_as, link_as, asked_in, begun_as, contents_as, chan_as, chans_up, waiting_as, waits_as, pair_as}
use Rattle.lapin_concord.specs.Held.{way, IsMarked, IsLinked, AreOpen, IsWhole, IsOneContent, Held, AreRestSent, AreMethodsSent}
use Rattle.lapin_concord.proofs.Views.{J, Delivers, Follows, one_step, Same, HeldOn, held_moved, chans_moved}
use Rattle.lapin_concord.proofs.Queueing.{moved_pair}

-- ---- what the pair lets come

-- the session's side of a channel
abbrev pub side : ℕ → Wire → S2
side c b = chan_as (phase_of c b) (requests_of c b) (expected_on c b.contents)

-- the frame d to channel c was refused neither by the state nor for want of a request or a content
pub record Let (c : ℕ) (b : Wire) (d : DownF) : Type 0 where
  pub sess : is_refused (state_after (phase_as (phase_of c b)) (way (of_u c (waits_as b))) (kind_down d)) ≡ false
  pub data_ : is_none (takes (record { asked_for = asked_in (requests_of c b); content = contents_as (expected_on c b.contents) }) d) ≡ false

pub let_of : (c : ℕ) (d : DownF) (b : Wire) (br : Broker) (us : List Left) (fs : List (DownOn DownF)) (ds : List Frame) → b.link ≡ link.Open → J (received_a asking (pair_as b br us ds) Opened (ToD c d) fs) → Let c b d
let_of c d b br us fs ds e g =
    let v : All asking = pair_as b br us ds in
    let s : S2 = take2 (v.chans c) (of_u c v.unsent) d in
    let k = g.chans (ap link_as e) c in
    let here : put c s v.chans c ≡ s = rw (eq-eqb c c refl) refl in
    let side_is : v.chans c ≡ side c b = ap (λ l. chans_up (is_up l) b.phases b.requests b.contents c) e in
    let both : (is_refused s.sess ≡ false) × (is_none s.open_data ≡ false) = subst (λ (x : S2). (is_refused x.sess ≡ false) × (is_none x.open_data ≡ false)) here (asks_sess _ k.good, asks_data _ k.good) in
    let there : (is_refused (take2 (side c b) (of_u c (waits_as b)) d).sess ≡ false) × (is_none (take2 (side c b) (of_u c (waits_as b)) d).open_data ≡ false) = subst (λ (x : S2). (is_refused (take2 x (of_u c (waits_as b)) d).sess ≡ false) × (is_none (take2 x (of_u c (waits_as b)) d).open_data ≡ false)) side_is both in
    record { sess = there.0; data_ = there.1 }

-- ---- a frame that changes no phase comes on an open and on a closing channel

pub record Others (p : ChannelPhase) (us : List Up) : Type 0 where
  pub receives : receives_on (channel_state p) ≡ true
  pub state : state_after (phase_as p) us DOther ≡ phase_as p
  pub left : (b : Bool) (d : DownF) → kind_down d ≡ DOther → left_at (phase_as p) b d ≡ Push []
  pub not_closed : p ≡ phase.Closed → ⊥
  pub not_opening : p ≡ phase.Opening → ⊥
  pub not_crossed : p ≡ phase.Crossed → ⊥

left_other : (b : Bool) (d : DownF) → kind_down d ≡ DOther → left_at Closing b d ≡ Push []
left_other true kept.BClose h = cc
left_other false kept.BClose h = cc
left_other true kept.BCloseOk h = cc
left_other false kept.BCloseOk h = cc
left_other true d h = refl
left_other false d h = refl

left_open : (b : Bool) (d : DownF) → kind_down d ≡ DOther → left_at Opened b d ≡ Push []
left_open b kept.BClose h = cc
left_open b d h = refl

pub others_only : (p : ChannelPhase) (us : List Up) → is_refused (state_after (phase_as p) us DOther) ≡ false → Others p us
others_only phase.Closed us h = absurd cc
others_only phase.Opening us h = absurd cc
others_only (phase.Open t) us h = record { receives = refl; state = refl; left = left_open; not_closed = λ e. cc; not_opening = λ e. cc; not_crossed = λ e. cc }
others_only (phase.Closing who sent) us h = record { receives = refl; state = refl; left = left_other; not_closed = λ e. cc; not_opening = λ e. cc; not_crossed = λ e. cc }
others_only phase.Crossed us h = absurd cc

pub above_zero : (c : ℕ) (b : Wire) → phase_of 0 b ≡ phase.Closed → (phase_of c b ≡ phase.Closed → ⊥) → (c == 0) ≡ false
above_zero c b z n = elim (eqb_tells c 0) [ inl y ↦ absurd (n (ap (λ k. phase_of k b) y.1 ∙ z)) | inr y ↦ y.0 ]

pub state_here : (c : ℕ) (b : Wire) → b.link ≡ link.Open → (c == 0) ≡ false → state_of c b ≡ channel_state (phase_of c b)
state_here c b e z = rw (e, z) refl

-- ---- the wire after a delivery

pub record Comes (b d : Wire) (f : Frame) (br : Broker) (us : List Left) (ds : List Frame) : Type 0 where
  pub held : Held d
  pub follows : Follows Delivers (pair_as b br us (f ∷ ds)) (pair_as d br us ds)

-- the pair's delivery to a channel
pub deliver_to : (c : ℕ) (x : DownF) (b d : Wire) (f : Frame) (br : Broker) (us : List Left) (ds : List Frame) → b.link ≡ link.Open → d.link ≡ link.Open → down_frame f ≡ ToD c x → side c d ≡ take2 (side c b) (of_u c (waits_as b)) x → ((e : ℕ) → (c == e) ≡ false → Same e b d)
    → waits_as d ≡ left_all c (left2 (side c b) (of_u c (waits_as b)) x) (waits_as b) → Follows Delivers (pair_as b br us (f ∷ ds)) (pair_as d br us ds)
deliver_to c x b d f br us ds e k n s a w =
    let v : All asking = pair_as b br us (f ∷ ds) in
    let fs : List (DownOn DownF) = map down_frame ds in
    let side_is : v.chans c ≡ side c b = ap (λ l. chans_up (is_up l) b.phases b.requests b.contents c) e in
    let got : happens_a asking v DeliverA ≡ received_a asking v Opened (ToD c x) fs = ap₂ (λ s q. received_a asking v s q fs) (ap link_as e) n in
    let became : received_a asking v Opened (ToD c x) fs ≡ record v { chans = put c (take2 (side c b) (of_u c (waits_as b)) x) v.chans; unsent = left_all c (left2 (side c b) (of_u c (waits_as b)) x) (waits_as b); down = fs } =
    ap (λ (q : S2). record v { chans = put c (take2 q (of_u c (waits_as b)) x) v.chans; unsent = left_all c (left2 q (of_u c (waits_as b)) x) (waits_as b); down = fs }) side_is in
    let opened_link : link_as b.link ≡ Opened = ap link_as e in
    one_step Delivers v _ DeliverA refl (refl, tt) (got ∙ (became ∙ moved_pair b d br us (f ∷ ds) ds c (take2 (side c b) (of_u c (waits_as b)) x) _ e k (chans_moved c _ b d s a) w))

-- ---- a frame that leaves phases and lists as they are

pub record Receives (c : ℕ) (b d : Wire) : Type 0 where
  pub link_ : d.link ≡ b.link
  pub phases : d.phases ≡ b.phases
  pub rest : d.rest ≡ b.rest
  pub methods : d.methods ≡ b.methods
  pub publishes : d.publishes ≡ b.publishes
  pub most : d.frame_max ≡ b.frame_max
  pub requests : (e : ℕ) → (c == e) ≡ false → requests_of e d ≡ requests_of e b
  pub contents : (e : ℕ) → (c == e) ≡ false → expected_on e d.contents ≡ expected_on e b.contents

pub received : (c : ℕ) (x : DownF) (b d : Wire) (f : Frame) (br : Broker) (us : List Left) (ds : List Frame) → b.link ≡ link.Open → down_frame f ≡ ToD c x → kind_down x ≡ DOther → Others (phase_of c b) (way (of_u c (waits_as b)))
    → Receives c b d → IsOneContent (expected_on c d.contents)
    → takes (record { asked_for = asked_in (requests_of c b); content = contents_as (expected_on c b.contents) }) x ≡ Some (record { asked_for = asked_in (requests_of c d); content = contents_as (expected_on c d.contents) })
    → Held b → Comes b d f br us ds
received c x b d f br us ds e n k o r i t h =
    let ways : waits_as d ≡ waits_as b = ap₂ (λ y z. waiting_as y z) r.rest r.methods in
    let phase_is : (y : ℕ) → phase_of y d ≡ phase_of y b = λ y. ap (λ ps. phase_of y (record b { phases = ps })) r.phases in
    let l : d.link ≡ link.Open = r.link_ ∙ e in
    let away : (y : ℕ) → (c == y) ≡ false → Same y b d = λ y m. record { phase = phase_is y; requests = r.requests y m; contents = r.contents y m; way = ap (of_u y) ways } in
    let u = h.up e in
    let was = u.each c in
    let here : HeldOn c d = record {
      opening = λ y. absurd (o.not_opening (sym (phase_is c) ∙ y));
      crossed = λ y. absurd (o.not_crossed (sym (phase_is c) ∙ y));
      marks = subst₂ IsMarked (sym (phase_is c)) (sym (ap (of_u c) ways)) was.marks;
      contents = i;
    } in
    record {
      held = record {
        up = λ y. record { zero = phase_is 0 ∙ u.zero; each = held_moved c b d away here u.each; publishes = subst₂ AreOpen (sym r.phases) (sym r.publishes) u.publishes; rest = subst IsWhole (sym r.rest) u.rest };
        shut = λ y. let z : true ≡ false = ap is_up (sym l) ∙ y in cc;
        linked = subst (λ q. IsLinked q (waits_as d)) (sym l) tt;
        rest = subst₂ AreRestSent (sym r.most) (sym r.rest) h.rest;
        methods = subst₂ AreMethodsSent (sym r.most) (sym r.methods) h.methods;
      };
      follows = deliver_to c x b d f br us ds e l n
          ((λ j. record { sess = phase_as (phase_is c j); open_data = sym t j })
          ∙ ap (λ q. record { sess = q; open_data = takes (record { asked_for = asked_in (requests_of c b); content = contents_as (expected_on c b.contents) }) x }) (sym o.state ∙ ap (state_after (phase_as (phase_of c b)) (way (of_u c (waits_as b)))) (sym k)))
          away
          (ways ∙ (sym (append-nil (waits_as b)) ∙ ap (λ q. left_all c q (waits_as b)) (sym (o.left (has_close (way (of_u c (waits_as b)))) x k))));
    }

-- ---- contents

pub begun_only : (es : List Expected) → contents_as es ≡ kept.Idle → es ≡ []
begun_only [] h = refl
begun_only (e ∷ es) h = none e.begun h
  where
    none : (o : Option Begun) → begun_as o ≡ kept.Idle → (e ∷ es) ≡ []
    none None h = cc
    none (Some b) h = cc

pub joined_here : (c : ℕ) (e : Expected) (all : Channels) → expected_on c (joined c e all) ≡ expected_on c all ++ e ∷ []
joined_here c e all = by_entry (at_channel c all) refl
  where
    by_entry : (o : Option (List Expected)) → at_channel c all ≡ o → expected_on c (joined_at o c e all) ≡ listed o ++ e ∷ []
    by_entry None h = ap listed (at-push c c (e ∷ []) all) ∙ rw (h, eq-eqb c c refl) refl
    by_entry (Some es) h = ap listed (at-on_same c (λ es. es ++ e ∷ []) all) ∙ rw h refl

pub joined_away : (c y : ℕ) (e : Expected) (all : Channels) → (c == y) ≡ false → expected_on y (joined c e all) ≡ expected_on y all
joined_away c y e all n = by_entry (at_channel c all)
  where
    apart : c ≢ y
    apart h = let z : true ≡ false = sym (eq-eqb c y h) ∙ n in cc

    by_entry : (o : Option (List Expected)) → expected_on y (joined_at o c e all) ≡ expected_on y all
    by_entry None = ap listed (at-push c y (e ∷ []) all ∙ (ap (λ t. option_or (at_channel y all) (cond t (Some (e ∷ [])) None)) n ∙ or-none (at_channel y all)))
    by_entry (Some es) = ap listed (at-on_other c y (λ es. es ++ e ∷ []) all apart)
