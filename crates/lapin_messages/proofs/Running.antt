-- In every joined run the logs of consumers are what the broker sent.
use Rattle.std.proofs.Common.{◌≡◌, ◌∙◌, ℕ, Bool, true, false, List, [], ◌∷◌, ◌++◌, Option, refl, sym, ap, subst, append-nil, append_assoc}
use Rattle.lapin_types.specs.declared.event.Event.{Event}
use Rattle.lapin_types.specs.declared.event.Event.TheVariants as event
use Rattle.lapin_types.specs.declared.leaving.Left.{Left}
use Rattle.lapin_types.specs.declared.record.Record.{Record}
use Rattle.lapin_types.specs.Types.{Frame}
use Rattle.lapin_rules.specs.ConfirmMarks.{ConfirmMark}
use Rattle.lapin_rules.specs.ConfirmReadings.{is_full}
use Rattle.lapin_rules.specs.Events.{after_event, delivery_marks, confirm_marks}
use Rattle.lapin_rules.specs.Flow.{begins_on}
use Rattle.lapin_rules.specs.Handing.{handed, handed_out, began_on, after_handing, left_marks}
use Rattle.lapin_rules.specs.History.{History, Past, longer, past, rec, readings_of}
use Rattle.lapin_rules.specs.Phases.{is_up}
use Rattle.lapin_rules.specs.Wire.{Wire}
use Rattle.lapin_delivery.specs.Marks.{DeliveryMark}
use Rattle.lapin_delivery.specs.Marks as deliveries
use Rattle.lapin_broker.specs.States.{Broker}
use Rattle.lapin_machine.specs.Way.{by_history}
use Rattle.lapin_joint.specs.Joint.{Joint, is_lawful, handed_by, left_alone, client}
use Rattle.lapin_laws.specs.Consumers.{deliveries_history}
use Rattle.lapin_verdicts.specs.Deeds.{Deed, last_opening, reads}
use Rattle.lapin_types.specs.declared.leaving.Publish.{Publish}
use Rattle.lapin_verdicts.specs.Session.{frames_of}
use Rattle.lapin_effects.specs.Effects.{publish_by}
use Rattle.lapin_effects.specs.Effects.{is_next}
use Rattle.lapin_effects.proofs.Events.{has_effect}
use Rattle.lapin_verdicts.proofs.Assembly.{as_handed}
use Rattle.lapin_effects.specs.Effects.{hears, Effect}
use Rattle.lapin_verdicts.proofs.Numbering.{AreRest}
use Rattle.lapin_verdicts.proofs.Opens.{stays_down}
use Rattle.lapin_verdicts.proofs.Runs.{past-push}
use Rattle.lapin_verdicts.proofs.Unread.{is_unread}
use Rattle.lapin_messages.proofs.Dealing.{brings}
use Rattle.lapin_messages.proofs.Facts.{history-push}
use Rattle.lapin_messages.proofs.Hearing.{client_hearing}
use Rattle.lapin_messages.proofs.Logs.{Logs}
use Rattle.lapin_messages.proofs.Requests.{ways_request, channels_request}
use Rattle.lapin_messages.proofs.State.{Ways, Channels}
use Rattle.lapin_messages.proofs.Tags.{Kept}
use Rattle.lapin_messages.proofs.Turn.{plain_logs, plain_ways, plain_channels}

module _ (n : ℕ) where
  abbrev pub wire : Joint History → Wire
  wire j = (past n j.session).wire

  abbrev pub marks : Joint History → List DeliveryMark
  marks j = deliveries_history n j.session

  -- what goes with a run
  pub record Good (j : Joint History) (ds : List Deed) : Type 0 where
    pub logs : Logs (marks j) ds
    pub ways : Ways (wire j) (past n j.session).confirms (marks j) (reads ds ++ frames_of j.up)
    pub channels : Channels (wire j) (marks j) j.up j.down ds
    pub tags : (c : ℕ) → Kept c j.broker (last_opening c ds)

  -- ---- the session goes on

  abbrev pub on_event : History → Event → History
  on_event h e = h ++ (e, rec n h e) ∷ []

  -- what goes with the session after an event
  abbrev pub Then : Joint History → Event → List Left → List Frame → List Deed → List Frame → Type 0
  Then j e up down ds handed =
      Logs (marks j ++ delivery_marks (wire j) e (rec n j.session e)) ds
      × Ways (after_event (wire j) e (rec n j.session e)) ((past n j.session).confirms ++ confirm_marks (wire j) e (rec n j.session e)) (marks j ++ delivery_marks (wire j) e (rec n j.session e)) handed
      × Channels (after_event (wire j) e (rec n j.session e)) (marks j ++ delivery_marks (wire j) e (rec n j.session e)) up down ds

  pub turned : (j : Joint History) (e : Event) (br : Broker) (up : List Left) (down : List Frame) (ds : List Deed) → Then j e up down ds (reads ds ++ frames_of up) → ((c : ℕ) → Kept c br (last_opening c ds)) → Good (record { session = on_event j.session e; broker = br; up = up; down = down }) (ds ++ [])
  turned j e br up down ds t tags =
      let there : past n (on_event j.session e) ≡ longer (past n j.session) e (rec n j.session e) = past-push n j.session e (rec n j.session e) in
      let ms : marks (record { session = on_event j.session e; broker = br; up = up; down = down }) ≡ marks j ++ delivery_marks (wire j) e (rec n j.session e) = history-push n j.session e (rec n j.session e) in
      let P : Past → List DeliveryMark → List Deed → Type 0 = λ p m d. Ways p.wire p.confirms m (reads d ++ frames_of up) in
      let Q : Past → List DeliveryMark → List Deed → Type 0 = λ p m d. Channels p.wire m up down d in
      let same : ds ≡ ds ++ [] = sym (append-nil ds) in
      record {
        logs = subst (λ m. Logs m (ds ++ [])) (sym ms) (subst (Logs (marks j ++ delivery_marks (wire j) e (rec n j.session e))) same t.0);
        ways = subst (λ p. P p (deliveries_history n (on_event j.session e)) (ds ++ [])) (sym there) (subst (λ m. P (longer (past n j.session) e (rec n j.session e)) m (ds ++ [])) (sym ms) (subst (P (longer (past n j.session) e (rec n j.session e)) (marks j ++ delivery_marks (wire j) e (rec n j.session e))) same t.1));
        channels = subst (λ p. Q p (deliveries_history n (on_event j.session e)) (ds ++ [])) (sym there) (subst (λ m. Q (longer (past n j.session) e (rec n j.session e)) m (ds ++ [])) (sym ms) (subst (Q (longer (past n j.session) e (rec n j.session e)) (marks j ++ delivery_marks (wire j) e (rec n j.session e))) same t.2));
        tags = λ c. subst (λ d. Kept c br (last_opening c d)) same (tags c);
      }

  -- the effect of an event
  pub effect : (j : Joint History) (e : Event) → is_next e ≡ false → Effect (wire j) (after_event (wire j) e (rec n j.session e)) (confirm_marks (wire j) e (rec n j.session e)) (publish_by (wire j) e (rec n j.session e))
  effect j e apart = has_effect (wire j) (readings_of (past n j.session).confirms (past n j.session).tickets) e apart

  -- one that brings no part of a content
  pub plain_turn : (j : Joint History) (e : Event) (down : List Frame) (ds : List Deed) → is_next e ≡ false → brings e ≡ false → ((c : ℕ) (t q : List ℕ) → delivery_marks (wire j) e (rec n j.session e) ≡ deliveries.Consumed c t q ∷ [] → hears c (wire j) ≡ true) → ((c : ℕ) → hears c (wire j) ≡ true → is_unread c (wire j) j.up ≡ false) → Logs (marks j) ds → Ways (wire j) (past n j.session).confirms (marks j) (reads ds ++ frames_of j.up) → Channels (wire j) (marks j) j.up down ds → Then j e j.up down ds (reads ds ++ frames_of j.up)
  plain_turn j e down ds apart plain hearing opened l w h =
      let E = effect j e apart in
      let cs : List ConfirmMark = (past n j.session).confirms in
      let new : List Publish = publish_by (wire j) e (rec n j.session e) in
      let r : Record = rec n j.session e in
      let back = λ (u : is_up (after_event (wire j) e r).link ≡ true). stays_down E u in (
        plain_logs (wire j) cs (marks j) j.up down ds (reads ds ++ frames_of j.up) e r new apart E back hearing opened plain w l,
        plain_ways (wire j) cs (marks j) j.up down ds (reads ds ++ frames_of j.up) e r new apart E back hearing opened plain w,
        plain_channels (wire j) cs (marks j) j.up down ds (reads ds ++ frames_of j.up) e r new apart E back hearing opened plain w h,
      )

  -- ---- an event of the client

  calm : (e : Event) (j : Joint History) (ds : List Deed) → is_lawful e ≡ true → is_next e ≡ false → brings e ≡ false → handed_by (by_history n) e j.session ≡ [] → ((c : ℕ) → hears c (wire j) ≡ true → is_unread c (wire j) j.up ≡ false) → Good j ds → Good (client (by_history n) e j) (ds ++ [])
  calm e j ds lawful apart plain none opened g =
      let t = plain_turn j e j.down ds apart plain (client_hearing (wire j) e (rec n j.session e) lawful) opened g.logs g.ways g.channels in
      subst (λ up. Good (record { session = on_event j.session e; broker = j.broker; up = up; down = j.down }) (ds ++ [])) (sym (append-nil j.up) ∙ ap (λ v. j.up ++ v) (sym none)) (turned j e j.broker j.up j.down ds t g.tags)

  request : (flow : Bool) (j : Joint History) (ds : List Deed) (d : ℕ) → AreRest d (wire j).rest → Good j ds → Good (client (by_history n) (event.Next flow) j) (ds ++ [])
  request flow j ds d a g =
      let b : Wire = wire j in
      let r : Record = rec n j.session (event.Next flow) in
      let o : Option Left = handed flow (λ k. is_full k (past n j.session).confirms) b in
      let same : handed_out (began_on r) b ≡ o = as_handed (begins_on flow (λ k. is_full k (past n j.session).confirms) b) b in
      let cs : List ConfirmMark = (past n j.session).confirms in
      let handed' : reads ds ++ frames_of (j.up ++ left_alone o) ≡ (reads ds ++ frames_of j.up) ++ frames_of (left_alone o) = ap (λ v. reads ds ++ v) (frames-append j.up (left_alone o)) ∙ sym (append_assoc (reads ds) (frames_of j.up) (frames_of (left_alone o))) in
      let W : Option Left → List Frame → Type 0 = λ v fs. Ways (after_handing (began_on r) b) (cs ++ left_marks (handed_out (began_on r) b)) (marks j) fs in
      let w : W o (reads ds ++ frames_of (j.up ++ left_alone o)) = subst (W o) (sym handed') (subst (λ v. W o ((reads ds ++ frames_of j.up) ++ frames_of (left_alone v))) same (ways_request (began_on r) b d a cs (marks j) (reads ds ++ frames_of j.up) g.ways)) in
      let k : Channels (after_handing (began_on r) b) (marks j) (j.up ++ left_alone o) j.down ds = subst (λ v. Channels (after_handing (began_on r) b) (marks j) (j.up ++ left_alone v) j.down ds) same (channels_request (began_on r) b d a (marks j) j.up j.down ds g.channels) in
      let nothing : marks j ≡ marks j ++ [] = sym (append-nil (marks j)) in
      turned j (event.Next flow) j.broker (j.up ++ left_alone o) j.down ds
      (subst (λ m. Logs m ds) nothing g.logs, subst (λ m. Ways (after_handing (began_on r) b) (cs ++ left_marks (handed_out (began_on r) b)) m (reads ds ++ frames_of (j.up ++ left_alone o))) nothing w, subst (λ m. Channels (after_handing (began_on r) b) m (j.up ++ left_alone o) j.down ds) nothing k)
      g.tags
    where
      frames-append : (xs ys : List Left) → frames_of (xs ++ ys) ≡ frames_of xs ++ frames_of ys
      frames-append [] ys = refl
      frames-append (x ∷ xs) ys = ap (λ v. x.frame ∷ v) (frames-append xs ys)

  pub client_good : (e : Event) (j : Joint History) (ds : List Deed) → is_lawful e ≡ true → (d : ℕ) → AreRest d (wire j).rest → ((c : ℕ) → hears c (wire j) ≡ true → is_unread c (wire j) j.up ≡ false) → Good j ds → Good (client (by_history n) e j) (ds ++ [])
  client_good (event.Next flow) j ds l d a o g = request flow j ds d a g
  client_good (event.Receive f) j ds l d a o g = absurd cc
  client_good event.Lost j ds l d a o g = absurd cc
  client_good (event.Call x k) j ds l d a o g = calm (event.Call x k) j ds refl refl refl refl o g
  client_good (event.PollTicket k) j ds l d a o g = calm (event.PollTicket k) j ds refl refl refl refl o g
  client_good (event.PollConfirm k) j ds l d a o g = calm (event.PollConfirm k) j ds refl refl refl refl o g
  client_good (event.PollConsumer k) j ds l d a o g = calm (event.PollConsumer k) j ds refl refl refl refl o g
  client_good (event.PollWait k) j ds l d a o g = calm (event.PollWait k) j ds refl refl refl refl o g
  client_good (event.AsideTicket k) j ds l d a o g = calm (event.AsideTicket k) j ds refl refl refl refl o g
  client_good (event.AsideConfirm k) j ds l d a o g = calm (event.AsideConfirm k) j ds refl refl refl refl o g
  client_good (event.Acker k x) j ds l d a o g = calm (event.Acker k x) j ds refl refl refl refl o g
  client_good (event.Delegate k) j ds l d a o g = calm (event.Delegate k) j ds refl refl refl refl o g
  client_good (event.DropConsumer k) j ds l d a o g = calm (event.DropConsumer k) j ds refl refl refl refl o g
  client_good event.NextJob j ds l d a o g = calm event.NextJob j ds refl refl refl refl o g
  client_good (event.State k) j ds l d a o g = calm (event.State k) j ds refl refl refl refl o g
