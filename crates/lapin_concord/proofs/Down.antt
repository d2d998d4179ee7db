-- The closes of the connection, and frames that come once it is not open.
use Rattle.std.proofs.Common.{◌≡◌, ℕ, Bool, true, false, cond, List, [], ◌∷◌, ◌++◌, map, refl, sym, ◌∙◌, ap, ap₂, subst, None}
use Rattle.lapin_tables.specs.ByChannel.{on_channel}
use Rattle.lapin_types.specs.declared.leaving.Left.{Left}
use Rattle.lapin_types.specs.declared.request.ReplyKind.TheVariants as reply_kind
use Rattle.lapin_types.specs.Types.{Frame}
use Rattle.lapin_types.specs.Types.method
use Rattle.lapin_types.specs.Types.connection
use Rattle.lapin_rules.specs.declared.phases.ConnectionPhase.{ConnectionPhase}
use Rattle.lapin_rules.specs.declared.phases.CloseStage.{CloseStage}
use Rattle.lapin_rules.specs.declared.phases.ConnectionPhase.TheVariants as link
use Rattle.lapin_rules.specs.declared.phases.CloseStage.TheVariants as stage
use Rattle.lapin_rules.specs.Phases.{is_up, is_lost, is_crossed}
use Rattle.lapin_rules.specs.Requests.{without_kind}
use Rattle.lapin_rules.specs.Wire.{Wire, lists_of, with_lists}
use Rattle.lapin_rules.specs.ConnectionClose.{after_connection_close, unless_sent, has_sent, after_connection_close_ok}
use Rattle.lapin_rules.specs.Loss.{after_lost}
use Rattle.lapin_rules.specs.Ends.{down}
use Rattle.lapin_broker.specs.States.{Broker, after_loss}
use Rattle.lapin_broker.specs.declared.peer.Connection.{Connection}
use Rattle.lapin_broker.specs.declared.peer.Connection.TheVariants as connection_
use Rattle.lapin_broker.specs.States.{connection_after_loss}
use Rattle.lapin_pairs.specs.Machine as pair
use Rattle.lapin_pairs.specs.Machine.{Sess, Closed, Opened, Closing, Crossed, has_close, state_after, is_refused}
use Rattle.lapin_pairs.specs.Channel.{DownF}
use Rattle.lapin_pairs.specs.Every.{CloseU, CloseOkU, DownOn, ToD, CloseD, CloseOkD, conn_u, conn_d, conn_left, All, DeliverA, LoseA, received_a, happens_a}
use Rattle.lapin_pairs.specs.Asking.{begun2, asking}
use Rattle.lapin_pairs.proofs.Pairs.{not_refused, not_broken}
use Rattle.lapin_concord.specs.Frames.{down_frame}
use Rattle.lapin_concord.specs.Peers.{connection_as}
use Rattle.lapin_concord.specs.Wires.{link_as, chans_up, waits_as, pair_as}
use Rattle.lapin_concord.specs.Held.{IsLinked, Held, AreRestSent, AreMethodsSent}
use Rattle.lapin_concord.proofs.Views.{J, Resets, Delivers, Follows, one_step}
use Rattle.lapin_concord.proofs.Queueing.{methods-push, waits_more}
use Rattle.lapin_concord.proofs.Coming.{Comes}

-- ---- what the connection refuses

conn_free : (w : All asking) (s : Sess) (k : DownOn DownF) (ks : List (DownOn DownF)) → J (record w { conn = state_after s (map conn_u w.unsent) (conn_d k); unsent = conn_left s w.unsent k; down = ks }) → is_refused (state_after s (map conn_u w.unsent) (conn_d k)) ≡ false
conn_free w s k ks g = not_refused _ g.conn

shut_dead : (w : All asking) (k : DownOn DownF) (ks : List (DownOn DownF)) → J (received_a asking w Closed k ks) → ⊥
shut_dead w (ToD c d) ks g = let n : true ≡ false = conn_free w Closed (ToD c d) ks g in cc
shut_dead w CloseD ks g = let n : true ≡ false = conn_free w Closed CloseD ks g in cc
shut_dead w CloseOkD ks g = let n : true ≡ false = conn_free w Closed CloseOkD ks g in cc

crossed_dead : (w : All asking) (k : DownOn DownF) (ks : List (DownOn DownF)) → (k ≡ CloseOkD → ⊥) → J (received_a asking w Crossed k ks) → ⊥
crossed_dead w (ToD c d) ks n g = let n : true ≡ false = conn_free w Crossed (ToD c d) ks g in cc
crossed_dead w CloseD ks n g = let n : true ≡ false = conn_free w Crossed CloseD ks g in cc
crossed_dead w CloseOkD ks n g = n refl

pub open_dead : (w : All asking) (ks : List (DownOn DownF)) → J (received_a asking w Opened CloseOkD ks) → ⊥
open_dead w ks g = let n : true ≡ false = conn_free w Opened CloseOkD ks g in cc

-- ---- held, once the connection is not open

shut_held : (d : Wire) → is_up d.link ≡ false → d.publishes ≡ [] → IsLinked d.link (waits_as d) → AreRestSent d.frame_max d.rest → AreMethodsSent d.frame_max d.methods → Held d
shut_held d n p l r m = record {
  up = λ e. let y : true ≡ false = ap is_up (sym e) ∙ n in absurd cc;
  shut = λ _. p;
  linked = l;
  rest = r;
  methods = m;
}

-- ---- the broker's close of an open connection

pub close_up : (code : ℕ) (b : Wire) (f : Frame) (br : Broker) (us : List Left) (ds : List Frame) → b.link ≡ link.Open → down_frame f ≡ CloseD → Held b → Comes b (after_connection_close b.link b) f br us ds
close_up code b f br us ds e n h =
    let v : All asking = pair_as b br us (f ∷ ds) in
    subst (λ l. Comes b (after_connection_close l b) f br us ds) (sym e) (record {
      held = shut_held _ refl refl tt tt (tt, tt);
      follows = one_step Delivers v _ DeliverA refl (refl, tt) (ap₂ (λ s q. received_a asking v s q (map down_frame ds)) (ap link_as e) n);
    })

-- ---- once it is not open

module _ (b : Wire) (f : Frame) (br : Broker) (us : List Left) (ds : List Frame) (h : Held b) where
  abbrev v : All asking
  v = pair_as b br us (f ∷ ds)

  abbrev vs : List (DownOn DownF)
  vs = map down_frame ds

  got : (l : ConnectionPhase) (k : DownOn DownF) → b.link ≡ l → down_frame f ≡ k → happens_a asking v DeliverA ≡ received_a asking v (link_as l) k vs
  got l k e n = ap₂ (λ s q. received_a asking v s q vs) (ap link_as e) n

  chans_shut : (l : ConnectionPhase) → b.link ≡ l → is_up l ≡ false → v.chans ≡ (λ c. begun2)
  chans_shut l e n = ap (λ t. chans_up t b.phases b.requests b.contents) (ap is_up e ∙ n)

  shut_publishes : (l : ConnectionPhase) → b.link ≡ l → is_up l ≡ false → b.publishes ≡ []
  shut_publishes l e n = h.shut (ap is_up e ∙ n)

  -- both closes
  pub crosses : (s : CloseStage) → is_crossed s ≡ false → b.link ≡ link.Closing s → down_frame f ≡ CloseD → Comes b (after_connection_close b.link b) f br us ds
  crosses stage.Sent z e n =
      let k : waits_as b ≡ [] = subst (λ l. IsLinked l (waits_as b)) e h.linked in
      let c = chans_shut (link.Closing stage.Sent) e refl in
      subst (λ l. Comes b (after_connection_close l b) f br us ds) (sym e) (record {
        held = shut_held _ refl (shut_publishes (link.Closing stage.Sent) e refl) tt h.rest (methods-push b.frame_max b.methods _ h.methods tt);
        follows = one_step Delivers v _ DeliverA refl (refl, tt) (got (link.Closing stage.Sent) CloseD e n
            ∙ (ap (λ fs. record v { conn = cond (has_close (map conn_u fs)) Closed Crossed; unsent = cond (has_close (map conn_u fs)) (CloseOkU ∷ []) (waits_as b ++ CloseOkU ∷ []); down = vs }) k
            ∙ (λ i. record v { conn = Crossed; chans = c i; unsent = sym (waits_more b.rest b.methods (record { channel = 0; method = method.Connection connection.CloseOk; ticket = None }) CloseOkU refl) i; down = vs })));
      })
  crosses stage.Crossed z e n = absurd cc
  crosses stage.Queued z e n =
      let k : waits_as b ≡ CloseU ∷ [] = subst (λ l. IsLinked l (waits_as b)) e h.linked in
      let c = chans_shut (link.Closing stage.Queued) e refl in
      subst (λ l. Comes b (after_connection_close l b) f br us ds) (sym e) (record {
        held = shut_held _ refl refl tt tt (tt, tt);
        follows = one_step Delivers v _ DeliverA refl (refl, tt) (got (link.Closing stage.Queued) CloseD e n
            ∙ (ap (λ fs. record v { conn = cond (has_close (map conn_u fs)) Closed Crossed; unsent = cond (has_close (map conn_u fs)) (CloseOkU ∷ []) (waits_as b ++ CloseOkU ∷ []); down = vs }) k
            ∙ (λ i. record v { conn = Closed; chans = c i; unsent = CloseOkU ∷ []; down = vs })));
      })

  abbrev over : ConnectionPhase → Wire
  over l = record (with_lists (unless_sent (has_sent l) (lists_of b)) b) { link = link.Closed; requests = on_channel 0 (without_kind reply_kind.ConnectionCloseOk) b.requests }

  pub ended_by : (s : CloseStage) → b.link ≡ link.Closing s → down_frame f ≡ CloseOkD → Comes b (after_connection_close_ok b) f br us ds
  ended_by stage.Crossed e n =
      let c = chans_shut (link.Closing stage.Crossed) e refl in
      subst (λ l. Comes b (over l) f br us ds) (sym e) (record {
        held = shut_held _ refl (shut_publishes (link.Closing stage.Crossed) e refl) tt h.rest h.methods;
        follows = one_step Delivers v _ DeliverA refl (refl, tt) (got (link.Closing stage.Crossed) CloseOkD e n ∙ (λ i. record v { conn = Closed; chans = c i; down = vs }));
      })
  ended_by stage.Sent e n =
      let k : waits_as b ≡ [] = subst (λ l. IsLinked l (waits_as b)) e h.linked in
      let c = chans_shut (link.Closing stage.Sent) e refl in
      subst (λ l. Comes b (over l) f br us ds) (sym e) (record {
        held = shut_held _ refl (shut_publishes (link.Closing stage.Sent) e refl) tt h.rest h.methods;
        follows = one_step Delivers v _ DeliverA refl (refl, tt) (got (link.Closing stage.Sent) CloseOkD e n ∙ (λ i. record v { conn = Closed; chans = c i; unsent = sym k i; down = vs }));
      })
  ended_by stage.Queued e n =
      let c = chans_shut (link.Closing stage.Queued) e refl in
      subst (λ l. Comes b (over l) f br us ds) (sym e) (record {
        held = shut_held _ refl refl tt tt tt;
        follows = one_step Delivers v _ DeliverA refl (refl, tt) (got (link.Closing stage.Queued) CloseOkD e n ∙ (λ i. record v { conn = Closed; chans = c i; unsent = []; down = vs }));
      })

  -- a frame of a channel is passed over
  pub passed : (s : CloseStage) (c : ℕ) (d : DownF) → is_crossed s ≡ false → b.link ≡ link.Closing s → down_frame f ≡ ToD c d → Comes b b f br us ds
  passed stage.Queued c d z e n = record { held = h; follows = one_step Delivers v _ DeliverA refl (refl, tt) (got (link.Closing stage.Queued) (ToD c d) e n ∙ (λ i. record v { conn = link_as (sym e i); down = vs })) }
  passed stage.Sent c d z e n = record { held = h; follows = one_step Delivers v _ DeliverA refl (refl, tt) (got (link.Closing stage.Sent) (ToD c d) e n ∙ (λ i. record v { conn = link_as (sym e i); down = vs })) }
  passed stage.Crossed c d z e n = absurd cc

  at_link : (l : ConnectionPhase) (k : DownOn DownF) → b.link ≡ l → down_frame f ≡ k → J (happens_a asking v DeliverA) → J (received_a asking v (link_as l) k vs)
  at_link l k e n g = subst J (got l k e n) g

-- where it is shut nothing comes any more; where the closes crossed close-ok alone
pub gone_dead : (b : Wire) (f : Frame) (br : Broker) (us : List Left) (ds : List Frame) (l : ConnectionPhase) → link_as l ≡ Closed → b.link ≡ l → J (happens_a asking (pair_as b br us (f ∷ ds)) DeliverA) → ⊥
gone_dead b f br us ds l c e g = shut_dead (pair_as b br us (f ∷ ds)) (down_frame f) (map down_frame ds) (subst (λ s. J (received_a asking (pair_as b br us (f ∷ ds)) s (down_frame f) (map down_frame ds))) (ap link_as e ∙ c) g)

pub cross_dead : (b : Wire) (f : Frame) (br : Broker) (us : List Left) (ds : List Frame) → b.link ≡ link.Closing stage.Crossed → (down_frame f ≡ CloseOkD → ⊥) → J (happens_a asking (pair_as b br us (f ∷ ds)) DeliverA) → ⊥
cross_dead b f br us ds e n g = crossed_dead (pair_as b br us (f ∷ ds)) (down_frame f) (map down_frame ds) n (subst (λ s. J (received_a asking (pair_as b br us (f ∷ ds)) s (down_frame f) (map down_frame ds))) (ap link_as e) g)

-- ---- a loss

pub record Loses (b d : Wire) (br : Broker) (us : List Left) (ds : List Frame) : Type 0 where
  pub held : Held d
  pub follows : Follows Resets (pair_as b br us ds) (pair_as d (after_loss br) [] [])

pub lost_link : (l : ConnectionPhase) → is_lost l ≡ true → l ≡ link.Lost
lost_link link.Lost e = refl
lost_link link.Open e = cc
lost_link (link.Closing s) e = cc
lost_link link.Closed e = cc

lost_broker : (p : Connection) → pair.is_broken (connection_as p) ≡ false → connection_as (connection_after_loss p) ≡ pair.Free
lost_broker connection_.Broken h = cc
lost_broker connection_.Up h = refl
lost_broker connection_.Leaving h = refl
lost_broker connection_.Stopped h = refl
lost_broker connection_.StoppedOwes h = refl
lost_broker connection_.LeavingStopped h = refl
lost_broker connection_.Done h = refl

pub lose_loses : (b : Wire) (br : Broker) (us : List Left) (ds : List Frame) → Held b → J (pair_as b br us ds) → Loses b (after_lost b) br us ds
lose_loses b br us ds h g = by_loss (is_lost b.link) refl
  where
    free : connection_as (after_loss br).connection ≡ pair.Free
    free = lost_broker br.connection (not_broken _ g.conn)

    by_loss : (t : Bool) → is_lost b.link ≡ t → Loses b (after_lost b) br us ds
    by_loss true e =
        let k : b.link ≡ link.Lost = lost_link b.link e in
        let n : waits_as b ≡ [] = subst (λ l. IsLinked l (waits_as b)) k h.linked in
        let c : (pair_as b br us ds).chans ≡ (λ c. begun2) = ap (λ t. chans_up t b.phases b.requests b.contents) (ap is_up k) in
        subst (λ d. Loses b d br us ds) (sym (ap (λ t. cond t b (down link.Lost b)) e)) (record {
          held = h;
          follows = one_step Resets (pair_as b br us ds) _ LoseA refl (refl, tt) (λ i. record (pair_as b br us ds) { conn = link_as (sym k i); chans = sym c i; unsent = sym n i; up = []; broker = sym free i; down = [] });
        })
    by_loss false e = subst (λ d. Loses b d br us ds) (sym (ap (λ t. cond t b (down link.Lost b)) e)) (record {
      held = shut_held _ refl refl refl tt tt;
      follows = one_step Resets (pair_as b br us ds) _ LoseA refl (refl, tt) (λ i. record (pair_as b br us ds) { conn = Closed; chans = λ c. begun2; unsent = []; up = []; broker = sym free i; down = [] });
    })
