-- What holds of a channel's requests: those that were handed out since its open, and those that wait, are the answered ones and then the
-- open ones, each with the ticket of its call.
use Rattle.std.proofs.Common.{◌≡◌, ◌∙◌, ℕ, ◌+◌, ◌==◌, true, false, cond, ◌&&◌, List, [], ◌∷◌, ◌++◌, length, Option, Some, inl, inr, refl, sym, ap, subst, append_assoc, arith, eq-eqb}
use Rattle.std.specs.List.{filter, fold}
use Rattle.std.proofs.lemmas.Bool.Decides.{eqb_tells}
use Rattle.lapin_types.specs.declared.event.Event.{Event}
use Rattle.lapin_types.specs.declared.leaving.Left.{Left}
use Rattle.lapin_types.specs.declared.leaving.Publish.{Publish}
use Rattle.lapin_types.specs.declared.record.Record.{Record}
use Rattle.lapin_types.specs.declared.request.Request.{Request}
use Rattle.lapin_types.specs.declared.request.ReplyKind.{ReplyKind}
use Rattle.lapin_types.specs.Requests.{kind_of}
use Rattle.lapin_types.specs.Types.{Frame, Method}
use Rattle.lapin_types.specs.Types.frame
use Rattle.lapin_rules.specs.ConfirmMarks.{ConfirmMark}
use Rattle.lapin_rules.specs.Drops.{is_off, method_channel}
use Rattle.lapin_rules.specs.Frames.{MethodEntry}
use Rattle.lapin_rules.specs.History.{History}
use Rattle.lapin_rules.specs.Requests.{without_kind}
use Rattle.lapin_rules.specs.Words.{many}
use Rattle.lapin_rules.specs.Wire.{Wire}
use Rattle.lapin_rules.specs.declared.broker_frames.Incoming.{Incoming}
use Rattle.lapin_broker.specs.declared.request.RequestKind.{RequestKind}
use Rattle.lapin_broker.specs.Frames.{channel_of, client_frame}
use Rattle.lapin_concord.specs.Frames.{number}
use Rattle.lapin_concord.specs.Wires.{reply_number, is_asked}
use Rattle.lapin_effects.specs.Effects.{live, hears, open_entry, Effect, Stays, Closes, Opens, Adds, Ends, Falls, Sinks}
use Rattle.lapin_verdicts.specs.Answers.{awaits, replies, kind_asked}
use Rattle.lapin_verdicts.specs.Deeds.{is_open}
use Rattle.lapin_verdicts.specs.InStep.{is_frame_on, is_open_waiting}
use Rattle.lapin_verdicts.proofs.Keeping.{no_live}
use Rattle.lapin_verdicts.proofs.Marks.{many-append}
use Rattle.lapin_verdicts.proofs.Numbering.{hears_back}
use Rattle.lapin_verdicts.proofs.Opens.{unsent, off_same}
use Rattle.lapin_answers.specs.Calls.{IsCall, IsCallOf}
use Rattle.lapin_answers.proofs.Lists.{open_asks, waiting_asks}
use Rattle.lapin_answers.proofs.Turns as turn
use Rattle.lapin_answers.proofs.Turns.{Calm, Comes, IsFresh, Turns}
use Rattle.lapin_tables.proofs.Bools.{not_both}

-- ---- what is handed out

-- the frames of a channel that ask, since its open, with one frame more
abbrev pub next_ask : ℕ → List Left → Left → List Left
next_ask c xs l = cond (channel_of l.frame == c) (cond (is_open l.frame) [] (cond (awaits l) (xs ++ l ∷ []) xs)) xs

abbrev pub handed_asks : ℕ → List Left → List Left
handed_asks c ls = fold (next_ask c) [] ls

-- how many replies these are on the channel
abbrev pub reply_count : ℕ → List Frame → ℕ
reply_count c fs = length (filter replies (filter (is_frame_on c) fs))

-- ---- what stands

-- the frame asks for the request's reply, under its ticket; where somebody holds that, it is the frame of that very call
pub record IsAsk (h : History) (c : ℕ) (l : Left) (r : Request) : Type 0 where
  pub ticket : l.ticket ≡ r.ticket
  pub kind : RequestKind
  pub kind_is : kind_asked (client_frame l.frame) ≡ Some kind
  pub same : number kind ≡ reply_number (kind_of r.reply)
  pub call : (n : ℕ) → r.ticket ≡ Some n → (m : Method) × IsCallOf n c m h × (l.frame ≡ frame.Method c m)

abbrev pub AreAsks : History → ℕ → List Left → List Request → Type 0
AreAsks h c [] [] = Unit {0}
AreAsks h c (l ∷ ls) (r ∷ rs) = IsAsk h c l r × AreAsks h c ls rs
AreAsks h c _ _ = ⊥

pub record Going (c : ℕ) (h : History) (b : Wire) (ls : List Left) (down : List Frame) (sent : ℕ) : Type 0 where
  pub done : List Left
  pub rest : List Left
  pub all : handed_asks c ls ++ waiting_asks c b ≡ done ++ rest
  pub are : AreAsks h c rest (open_asks c b)
  pub count : length done + reply_count c down ≡ sent

pub record Standing (c : ℕ) (h : History) (b : Wire) (ls : List Left) (down : List Frame) (sent : ℕ) : Type 0 where
  pub quiet : hears c b ≡ false → (open_asks c b ≡ []) × (waiting_asks c b ≡ [])
  pub begun : live c b ≡ true → hears c b ≡ false → unsent c b ≡ 0 → handed_asks c ls ≡ []
  pub going : hears c b ≡ true → Going c h b ls down sent

-- ---- a history goes on

pub call_more : (n c : ℕ) (m : Method) (h : History) (e : Event) (x : Record) → IsCallOf n c m h → IsCallOf n c m (h ++ (e, x) ∷ [])
call_more n c m h e x k = record { before = k.before; behind = k.behind ++ (e, x) ∷ []; event = k.event; told = k.told; all = ap (λ v. v ++ (e, x) ∷ []) k.all ∙ append_assoc k.before ((k.event, k.told) ∷ k.behind) ((e, x) ∷ []); is = k.is }

call_last : (n c : ℕ) (m : Method) (h : History) (e : Event) (x : Record) → IsCall n c m e x → IsCallOf n c m (h ++ (e, x) ∷ [])
call_last n c m h e x k = record { before = h; behind = []; event = e; told = x; all = refl; is = k }

ask_more : (h : History) (c : ℕ) (l : Left) (r : Request) (e : Event) (x : Record) → IsAsk h c l r → IsAsk (h ++ (e, x) ∷ []) c l r
ask_more h c l r e x k = record { ticket = k.ticket; kind = k.kind; kind_is = k.kind_is; same = k.same; call = λ n t. (let was = k.call n t in (was.0, call_more n c was.0 h e x was.1, was.2)) }

pub asks_more : (h : History) (c : ℕ) (ls : List Left) (rs : List Request) (e : Event) (x : Record) → AreAsks h c ls rs → AreAsks (h ++ (e, x) ∷ []) c ls rs
asks_more h c [] [] e x k = tt
asks_more h c (l ∷ ls) (r ∷ rs) e x k = (ask_more h c l r e x k.0, asks_more h c ls rs e x k.1)
asks_more h c [] (r ∷ rs) e x k = absurd k
asks_more h c (l ∷ ls) [] e x k = absurd k

fresh_ask : (h : History) (c : ℕ) (l : Left) (r : Request) (e : Event) (x : Record) → IsFresh c e x l r → IsAsk (h ++ (e, x) ∷ []) c l r
fresh_ask h c l r e x f = record { ticket = f.ticket; kind = f.kind; kind_is = f.kind_is; same = f.same; call = λ n t. (let was = f.call n t in (was.0, call_last n c was.0 h e x was.1, was.2)) }

asks-push : (h : History) (c : ℕ) (ls : List Left) (rs : List Request) (l : Left) (r : Request) → AreAsks h c ls rs → IsAsk h c l r → AreAsks h c (ls ++ l ∷ []) (rs ++ r ∷ [])
asks-push h c [] [] l r k i = (i, tt)
asks-push h c (x ∷ ls) (y ∷ rs) l r k i = (k.0, asks-push h c ls rs l r k.1 i)
asks-push h c [] (y ∷ rs) l r k i = absurd k
asks-push h c (x ∷ ls) [] l r k i = absurd k

-- ---- an event

module _ (c : ℕ) (h : History) (e : Event) (x : Record) (i : Option Incoming) (b b' : Wire) (ls : List Left) (down down' : List Frame) (sent : ℕ) where
  abbrev h' : History
  h' = h ++ (e, x) ∷ []

  same_going : open_asks c b' ≡ open_asks c b → waiting_asks c b' ≡ waiting_asks c b → reply_count c down' ≡ reply_count c down → Going c h b ls down sent → Going c h' b' ls down' sent
  same_going o w n g = record {
    done = g.done;
    rest = g.rest;
    all = ap (λ v. handed_asks c ls ++ v) w ∙ g.all;
    are = subst (AreAsks h' c g.rest) (sym o) (asks_more h c g.rest (open_asks c b) e x g.are);
    count = ap (λ v. length g.done + v) n ∙ g.count;
  }

  more_going : (l : Left) (r : Request) → open_asks c b' ≡ open_asks c b ++ r ∷ [] → waiting_asks c b' ≡ waiting_asks c b ++ l ∷ [] → IsFresh c e x l r → reply_count c down' ≡ reply_count c down → Going c h b ls down sent → Going c h' b' ls down' sent
  more_going l r o w f n g = record {
    done = g.done;
    rest = g.rest ++ l ∷ [];
    all = ap (λ v. handed_asks c ls ++ v) w ∙ (sym (append_assoc (handed_asks c ls) (waiting_asks c b) (l ∷ [])) ∙ (ap (λ v. v ++ l ∷ []) g.all ∙ append_assoc g.done g.rest (l ∷ [])));
    are = subst (AreAsks h' c (g.rest ++ l ∷ [])) (sym o) (asks-push h' c g.rest (open_asks c b) l r (asks_more h c g.rest (open_asks c b) e x g.are) (fresh_ask h c l r e x f));
    count = ap (λ v. length g.done + v) n ∙ g.count;
  }

  -- what stands after the event, where it is known what a reply and what open-ok do
  pub turn_kept : Turns c e x i b b' → (live c b' ≡ true → hears c b' ≡ false → unsent c b' ≡ 0 → handed_asks c ls ≡ []) → (Calm c i → reply_count c down' ≡ reply_count c down) → ((k : ReplyKind) → Comes c k i → is_asked k ≡ true → hears c b ≡ true → open_asks c b' ≡ without_kind k (open_asks c b) → waiting_asks c b' ≡ waiting_asks c b → Going c h' b' ls down' sent) → (turn.Opens c i → live c b ≡ true → hears c b ≡ false → open_asks c b' ≡ open_asks c b → waiting_asks c b' ≡ waiting_asks c b → Going c h' b' ls down' sent) → Standing c h b ls down sent → Standing c h' b' ls down' sent
  turn_kept (turn.Stays calm hear o w) begun counts takes starts s = record {
    quiet = λ d. (let q = s.quiet (sym hear ∙ d) in (o ∙ q.0, w ∙ q.1));
    begun = begun;
    going = λ u. same_going o w (counts calm) (s.going (sym hear ∙ u));
  }
  turn_kept (turn.Grows calm heard hear l r o w f) begun counts takes starts s = record {
    quiet = λ d. absurd (not_both _ hear d);
    begun = begun;
    going = λ u. more_going l r o w f (counts calm) (s.going heard);
  }
  turn_kept (turn.Shrinks k on a heard hear o w) begun counts takes starts s = record {
    quiet = λ d. absurd (not_both _ hear d);
    begun = begun;
    going = λ u. takes k on a heard o w;
  }
  turn_kept (turn.Begins on alive heard hear o w) begun counts takes starts s = record {
    quiet = λ d. absurd (not_both _ hear d);
    begun = begun;
    going = λ u. starts on alive heard o w;
  }
  turn_kept (turn.Ends over o w es) begun counts takes starts s = record {
    quiet = λ d. (o, w);
    begun = begun;
    going = λ u. absurd (not_both _ u over);
  }
  turn_kept (turn.Sinks heard over o w) begun counts takes starts s = record {
    quiet = λ d. (let q = s.quiet heard in (o q.0, w q.1));
    begun = begun;
    going = λ u. absurd (not_both _ u over);
  }

-- ---- an opening whose open has left

none_left : (c : ℕ) (ms es : List MethodEntry) → many (is_open_waiting c) (ms ++ es) ≡ 0 → many (is_open_waiting c) ms ≡ 0
none_left c ms es h = let a = many-append (is_open_waiting c) ms es in omega (arith, a, h)

one_open : (d t : ℕ) → many (is_open_waiting d) (open_entry d t ∷ []) ≡ 1
one_open d t = ap (λ v. cond (v && true) 1 0) (eq-eqb d d refl)

opens_not : (c : ℕ) (ms : List MethodEntry) (d t : ℕ) → d ≡ c → many (is_open_waiting c) (ms ++ open_entry d t ∷ []) ≡ 0 → ⊥
opens_not c ms d t e h =
    let a = many-append (is_open_waiting c) ms (open_entry d t ∷ []) in
    let o : many (is_open_waiting c) (open_entry d t ∷ []) ≡ 1 = subst (λ v. many (is_open_waiting v) (open_entry d t ∷ []) ≡ 1) e (one_open d t) in
    omega (arith, a, h, o)

pub begun_kept : (c : ℕ) (P : Type 0) (b b' : Wire) (xs : List ConfirmMark) (new : List Publish) → Effect b b' xs new → (live c b ≡ true → hears c b ≡ false → unsent c b ≡ 0 → P) → live c b' ≡ true → hears c b' ≡ false → unsent c b' ≡ 0 → P
begun_kept c P b b' xs new (Stays s p es m f i k) was l d z = was (sym (s.lives c) ∙ l) (hears_back c b b' (s.hear c) d) (none_left c b.methods es (ap (many (is_open_waiting c)) (sym m) ∙ z))
begun_kept c P b b' xs new (Closes a e s p m ms f i k) was l d z = was (sym (s.lives c) ∙ l) (hears_back c b b' (s.hear c) d) (none_left c b.methods (m ∷ []) (ap (many (is_open_waiting c)) (sym ms) ∙ z))
begun_kept c P b b' xs new (Opens a t s w now r p m i k) was l d z = elim (eqb_tells a c) [
  | inl y ↦ absurd (opens_not c b.methods a t y.1 (ap (many (is_open_waiting c)) (sym m) ∙ z))
  | inr n ↦ was (sym (s.lives c n.0) ∙ l) (hears_back c b b' (s.hear c n.0) d) (none_left c b.methods (open_entry a t ∷ []) (ap (many (is_open_waiting c)) (sym m) ∙ z))
]
begun_kept c P b b' xs new (Adds q u mx r lv h p m here n pub_ i k) was l d z = was (sym (lv c) ∙ l) (sym (h c) ∙ d) (ap (many (is_open_waiting c)) (sym m) ∙ z)
begun_kept c P b b' xs new (Ends a e s now r p es m q i k) was l d z = elim (eqb_tells a c) [
  | inl y ↦ let w : true ≡ false = sym l ∙ (ap (λ v. live v b') (sym y.1) ∙ now) in absurd cc
  | inr n ↦ was (sym (s.lives c n.0) ∙ l) (hears_back c b b' (s.hear c n.0) d) (sym (off_same c a b.methods n.0) ∙ none_left c (filter (is_off method_channel a) b.methods) es (ap (many (is_open_waiting c)) (sym m) ∙ z))
]
begun_kept c P b b' xs new (Falls e mx n dn r p q i k) was l d z = let w : true ≡ false = sym l ∙ no_live c b' dn in absurd cc
begun_kept c P b b' xs new (Sinks mx n w dn r p q i k) was l d z = let v : true ≡ false = sym l ∙ no_live c b' dn in absurd cc
