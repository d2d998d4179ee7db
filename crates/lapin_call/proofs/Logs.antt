-- A call of a server, in the words of its session's history.
use Rattle.std.proofs.Common.{◌≡◌, ◌∙◌, ℕ, Bool, true, false, cond, List, [], ◌∷◌, ◌++◌, Option, Some, None, refl, sym, ap, subst, append_assoc, append-nil, inl, inr}
use Rattle.std.specs.Prelude.{Result, Ok, Err}
use Rattle.std.proofs.lemmas.Bool.{eq-eqb}
use Rattle.lapin_types.specs.Types.{Error}
use Rattle.lapin_types.specs.declared.event.Event.{Event}
use Rattle.lapin_types.specs.declared.event.Event.TheVariants as event
use Rattle.lapin_types.specs.declared.record.Record.{Record}
use Rattle.lapin_rules.specs.Wire.{state_of, is_open}
use Rattle.lapin_rules.specs.History.{History, rec}
use Rattle.lapin_machine.specs.World.{World, told_by, next}
use Rattle.lapin_machine.specs.Stands.{Stands}
use Rattle.lapin_machine.proofs.Back.{still_none}
use Rattle.lapin_machine.proofs.Ways.{told_same, stands_on}
use Rattle.lapin_call.specs.declared.server.Served.{Served}
use Rattle.lapin_call.specs.declared.server.Served.TheVariants as served
use Rattle.lapin_call.specs.declared.server.Sent.{Sent}
use Rattle.lapin_call.specs.declared.server.Held.{Held}
use Rattle.lapin_call.specs.declared.server.Polled.{Polled}
use Rattle.lapin_call.specs.declared.server.Polled.TheVariants as polled
use Rattle.lapin_call.specs.declared.server.Server.{Server}
use Rattle.lapin_call.specs.Serving.{address_of, is_taken_on, item_polled, answering, acknowledging, rejecting, IsQueued, IsPublished, IsAcknowledged, IsAnswered, IsRejected, IsServedTo, IsServedOn, IsDoneWith, IsTried, IsNext, IsTaken, IsServed}
use Rattle.lapin_call.specs.Turns.{kept_tags, given_tags, handed_tags}
use Rattle.lapin_call.specs.Log.{handed_at, handed_in, IsLogged}
use Rattle.lapin_call.proofs.Turns.{turn_leaves}

handed_in-append : (c : ℕ) (h k : History) → handed_in c (h ++ k) ≡ handed_in c h ++ handed_in c k
handed_in-append c [] k = refl
handed_in-append c (x ∷ h) k = ap (λ (ys : List ℕ). handed_at c x.0 x.1 ++ ys) (handed_in-append c h k) ∙ sym (append_assoc (handed_at c x.0 x.1) (handed_in c h) (handed_in c k))

-- the history grew by so much, in which consumer c handed these out
record Grown (m c : ℕ) (tags : List ℕ) (h : History) (w : World) : Type 0 where
  more : History
  stands : Stands m (h ++ more) w
  unreturned : w.returned ≡ None
  handed : handed_in c more ≡ tags

stays : (m c : ℕ) (h : History) (v w : World) → Stands m h v → v.returned ≡ None → w ≡ v → Grown m c [] h w
stays m c h v w s none same = record {
  more = [];
  stands = subst (λ (x : World). Stands m (h ++ []) x) (sym same) (subst (λ (k : History). Stands m k v) (sym (append-nil h)) s);
  unreturned = ap (λ (x : World). x.returned) same ∙ none;
  handed = refl;
}

happens : (m c : ℕ) (tags : List ℕ) (e : Event) (h : History) (v w : World) → Stands m h v → v.returned ≡ None → w ≡ next v e → handed_at c e (rec m h e) ≡ tags → Grown m c tags h w
happens m c tags e h v w s none stepped what = record {
  more = (e, rec m h e) ∷ [];
  stands = subst (λ (x : World). Stands m (h ++ (e, rec m h e) ∷ []) x) (sym stepped) (stands_on m h v e none s);
  unreturned = ap (λ (x : World). x.returned) stepped ∙ still_none v e none;
  handed = append-nil (handed_at c e (rec m h e)) ∙ what;
}

-- something happens, and then nothing more is handed out
and_then : (m c : ℕ) (tags : List ℕ) (h : History) (u w : World) (a : Grown m c tags h u) → Grown m c [] (h ++ a.more) w → Grown m c tags h w
and_then m c tags h u w a b = record {
  more = a.more ++ b.more;
  stands = subst (λ (k : History). Stands m k w) (append_assoc h a.more b.more) b.stands;
  unreturned = b.unreturned;
  handed = handed_in-append c a.more b.more ∙ ap (λ (xs : List ℕ). xs ++ handed_in c b.more) a.handed ∙ ap (λ (ys : List ℕ). tags ++ ys) b.handed ∙ append-nil tags;
}

-- ---- what is queued for a request

queued : (m c n : ℕ) (e : Event) (r : Result (Unit {0}) Error) (h : History) (v w : World) → ((x : Record) → handed_at c e x ≡ []) → Stands m h v → v.returned ≡ None → IsQueued e r v w → Grown m c [] h w
queued m c n e (Ok u) h v w none_at s none q = happens m c [] e h v w s none q.2 (none_at (rec m h e))
queued m c n e (Err x) h v w none_at s none q = stays m c h v w s none q.1

published : (m c : ℕ) (e : Event) (r : Result Sent Error) (h : History) (v w : World) → ((x : Record) → handed_at c e x ≡ []) → Stands m h v → v.returned ≡ None → IsPublished e r v w → Grown m c [] h w
published m c e (Ok x) h v w none_at s none q = happens m c [] e h v w s none q.1 (none_at (rec m h e))
published m c e (Err x) h v w none_at s none q = stays m c h v w s none q.1

acknowledged : (m c : ℕ) (x : Sent) (d : Held) (r : Result Served Error) (k : Held) (h : History) (v w : World) → Stands m h v → v.returned ≡ None → IsAcknowledged x d r k v w → Grown m c [] h w
acknowledged m c x d (Ok (served.Answered tag t p)) k h v w s none a = queued m c 0 (acknowledging d.delivery.acker.number) (Ok tt) h v w (λ _. refl) s none a.3
acknowledged m c x d (Ok served.Nothing) k h v w s none a = absurd a
acknowledged m c x d (Ok served.End) k h v w s none a = absurd a
acknowledged m c x d (Ok (served.Failed e)) k h v w s none a = absurd a
acknowledged m c x d (Ok (served.Stale tag)) k h v w s none a = absurd a
acknowledged m c x d (Ok (served.NoAddress tag)) k h v w s none a = absurd a
acknowledged m c x d (Err e) k h v w s none a = queued m c 0 (acknowledging d.delivery.acker.number) (Err e) h v w (λ _. refl) s none a.1

answered : (may : List ℕ → List ℕ → Type 0) (m c n : ℕ) (a : List ℕ × List ℕ) (o : Option Sent) (d : Held) (r : Result Served Error) (k : Held) (h : History) (v w : World) → Stands m h v → v.returned ≡ None → IsAnswered may n a o d r k v w → Grown m c [] h w
answered may m c n a (Some x) d r k h v w s none is = acknowledged m c x d r k h v w s none is
answered may m c n a None d r k h v w s none (inl (same, inl without)) = stays m c h v w s none without.1
answered may m c n a None d r k h v w s none (inl (same, inr refused)) = published m c (answering n a refused.0) (Err refused.1) h v w (λ _. refl) s none refused.4
answered may m c n a None d r k h v w s none (inr new) =
    let first : Grown m c [] h new.2 = published m c (answering n a new.0) (Ok new.1) h v new.2 (λ _. refl) s none new.4 in
    and_then m c [] h new.2 w first (acknowledged m c new.1 d r k (h ++ first.more) new.2 w first.stands first.unreturned new.5)

rejected : (m c : ℕ) (d : Held) (r : Result Served Error) (k : Held) (h : History) (v w : World) → Stands m h v → v.returned ≡ None → IsRejected d r k v w → Grown m c [] h w
rejected m c d (Ok (served.NoAddress tag)) k h v w s none a = queued m c 0 (rejecting d.delivery.acker.number) (Ok tt) h v w (λ _. refl) s none a.1
rejected m c d (Ok served.Nothing) k h v w s none a = absurd a
rejected m c d (Ok served.End) k h v w s none a = absurd a
rejected m c d (Ok (served.Failed e)) k h v w s none a = absurd a
rejected m c d (Ok (served.Stale tag)) k h v w s none a = absurd a
rejected m c d (Ok (served.Answered tag t p)) k h v w s none a = absurd a
rejected m c d (Err e) k h v w s none a = queued m c 0 (rejecting d.delivery.acker.number) (Err e) h v w (λ _. refl) s none a.1

served_to : (may : List ℕ → List ℕ → Type 0) (m c n : ℕ) (a : Option (List ℕ × List ℕ)) (d : Held) (r : Result Served Error) (k : Held) (h : History) (v w : World) → Stands m h v → v.returned ≡ None → IsServedTo may n a d r k v w → Grown m c [] h w
served_to may m c n None d r k h v w s none is = rejected m c d r k h v w s none is
served_to may m c n (Some a) d r k h v w s none is = answered may m c n a d.sent d r k h v w s none is

served_on : (may : List ℕ → List ℕ → Type 0) (m c n : ℕ) (b : Bool) (d : Held) (r : Result Served Error) (k : Held) (h : History) (v w : World) → Stands m h v → v.returned ≡ None → IsServedOn may n b d r k v w → Grown m c [] h w
served_on may m c n true d r k h v w s none is = served_to may m c n (address_of d.delivery.properties) d r k h v w s none is
served_on may m c n false d r k h v w s none is = stays m c h v w s none is.2

done_with : (may : List ℕ → List ℕ → Type 0) (m c n : ℕ) (b : Bool) (d : Held) (r : Result Served Error) (k : Held) (h : History) (v w : World) → Stands m h v → v.returned ≡ None → IsDoneWith may n b d r k v w → Grown m c [] h w
done_with may m c n false d r k h v w s none is = stays m c h v w s none is.1
done_with may m c n true d r k h v w s none is = served_on may m c n (is_open (state_of n v.wire)) d r k h v w s none is

-- ---- a call

tried : (may : List ℕ → List ℕ → Type 0) (m c : ℕ) (x : Server) (d : Held) (r : Result Served Error) (t : Server) (h : History) (v w : World) → Stands m h v → v.returned ≡ None → IsTried may x d r t v w → Grown m c [] h w
tried may m c x d (Ok y) t h v w s none is = done_with may m c x.channel (is_taken_on x.channel d.delivery.acker.number v.wire) d (Ok y) is.0 h v w s none is.1
tried may m c x d (Err e) t h v w s none is = done_with may m c x.channel (is_taken_on x.channel d.delivery.acker.number v.wire) d (Err e) is.0 h v w s none is.1

after_poll : (may : List ℕ → List ℕ → Type 0) (m c : ℕ) (x : Server) (p : Polled) (r : Result Served Error) (t : Server) (h : History) (v w : World) → Stands m h v → v.returned ≡ None → IsNext may x p r t v w → Grown m c [] h w
after_poll may m c x polled.Nothing r t h v w s none is = stays m c h v w s none is.2
after_poll may m c x polled.End r t h v w s none is = stays m c h v w s none is.2
after_poll may m c x (polled.Failed e) r t h v w s none is = stays m c h v w s none is.2
after_poll may m c x (polled.Request d) r t h v w s none is = tried may m c x (record { delivery = d; sent = None }) r t h v w s none is

grown : (may : List ℕ → List ℕ → Type 0) (m : ℕ) (o : Option Held) (x : Server) (r : Result Served Error) (t : Server) (h : History) (v w : World) → Stands m h v → v.returned ≡ None → IsTaken may o x r t v w → Grown m x.consumer (handed_tags o (item_polled (told_by v (event.PollConsumer x.consumer)))) h w
grown may m (Some d) x r t h v w s none is = tried may m x.consumer x d r t h v w s none is
grown may m None x r t h v w s none is =
    let c : ℕ = x.consumer in
    let e : Event = event.PollConsumer c in
    let told : told_by v e ≡ rec m h e = told_same m h v e none s in
    let here : handed_at c e (rec m h e) ≡ given_tags (item_polled (told_by v e)) = ap (λ (b : Bool). cond b (given_tags (item_polled (rec m h e))) []) (eq-eqb c c refl) ∙ ap (λ (y : Record). given_tags (item_polled y)) (sym told) in
    let first : Grown m c (given_tags (item_polled (told_by v e))) h (next v e) = happens m c _ e h v (next v e) s none refl here in
    and_then m c _ h (next v e) w first (after_poll may m c x (item_polled (told_by v e)) r t (h ++ first.more) (next v e) w first.stands first.unreturned is)

pub logged : (may : List ℕ → List ℕ → Type 0) (x : Server) (r : Result Served Error) (t : Server) (v w : World) → IsServed may x r t v w → (m : ℕ) (h : History) → Stands m h v → v.returned ≡ None → IsLogged m h x r t w
logged may x r t v w is m h s none =
    let g = grown may m x.held x r t h v w s none is in
    record {
      more = g.more;
      stands = g.stands;
      unreturned = g.unreturned;
      once = ap (λ (ys : List ℕ). kept_tags x.held ++ ys) g.handed ∙ sym (turn_leaves may x.held x r t v w is);
    }
