-- In every joined run: of the opens of a channel that were handed out and those that wait, the last is that of the request which awaits
-- open-ok, if one does.
use Rattle.std.proofs.Common.{◌≡◌, ◌∙◌, ℕ, ◌≤◌, ◌==◌, Bool, true, false, cond, ◌&&◌, List, [], ◌∷◌, ◌++◌, Option, Some, None, refl, sym, ap, subst, append-nil, append_assoc, arith}
use Rattle.std.specs.List.{filter, find}
use Rattle.std.specs.Option.{option_map}
use Rattle.std.proofs.lemmas.List.Elements.{filter-append}
use Rattle.lapin_types.specs.declared.event.Event.{Event}
use Rattle.lapin_types.specs.declared.event.Event.TheVariants as event
use Rattle.lapin_types.specs.declared.leaving.Left.{Left}
use Rattle.lapin_types.specs.declared.leaving.Publish.{Publish}
use Rattle.lapin_types.specs.declared.record.Record.{Record}
use Rattle.lapin_types.specs.declared.request.Request.{Request}
use Rattle.lapin_types.specs.declared.request.ReplyKind.TheVariants as reply_kind
use Rattle.lapin_types.specs.Types.{Frame}
use Rattle.lapin_types.specs.Types.frame
use Rattle.lapin_types.specs.Types.method
use Rattle.lapin_types.specs.Types.channel
use Rattle.lapin_rules.specs.ConfirmReadings.{is_full}
use Rattle.lapin_rules.specs.Events.{after_event}
use Rattle.lapin_rules.specs.Flow.{begins_on}
use Rattle.lapin_rules.specs.Frames.{MethodEntry, RestEntry, left_method, left_rest, left_publish}
use Rattle.lapin_rules.specs.Handing.{handed, handed_out, began_on, after_handing}
use Rattle.lapin_rules.specs.History.{History, Past, past, rec, readings_of}
use Rattle.lapin_rules.specs.Leaving.{left_of, left_lists, handed_of, may_begin}
use Rattle.lapin_rules.specs.Phases.{is_live, is_up}
use Rattle.lapin_rules.specs.Readings.{Readings}
use Rattle.lapin_rules.specs.Wire.{Wire, lists_of, with_lists, phase_of}
use Rattle.lapin_broker.specs.Sends.{may}
use Rattle.lapin_joint.specs.declared.step.Step.{Step}
use Rattle.lapin_joint.specs.declared.step.Step.TheVariants as step
use Rattle.lapin_joint.specs.Joint.{Joint, is_lawful, handed_by, left_alone, client, read_first, send_down, deliver_first, after, joined_to}
use Rattle.lapin_machine.specs.Way.{by_history}
use Rattle.lapin_joint.specs.Order.{front}
use Rattle.lapin_effects.specs.Effects.{is_next, live}
use Rattle.lapin_verdicts.specs.Deeds.{Deed, Read, Sent, lefts, reads_of, deed_in, deeds}
use Rattle.lapin_verdicts.specs.InStep.{is_frame_on, is_open_on}
use Rattle.lapin_verdicts.specs.Session.{past_of}
use Rattle.lapin_verdicts.proofs.Assembly.{as_handed, in_run}
use Rattle.lapin_verdicts.proofs.Numbering.{AreRest, is_content}
use Rattle.lapin_verdicts.proofs.Opens.{sent_methods, content_open}
use Rattle.lapin_verdicts.proofs.Owing.{lefts-append}
use Rattle.lapin_verdicts.proofs.Runs.{past-push, joined-push, deeds-push}
use Rattle.lapin_verdicts.proofs.Leaving.{still_live}
use Rattle.lapin_answers.specs.Opens.{IsOpeningOf}
use Rattle.lapin_answers.proofs.Lets.{handing_still, sent_requests}
use Rattle.lapin_answers.proofs.Lists.{lefts_of}
use Rattle.lapin_answers.proofs.OneKind.{kind_at}
use Rattle.lapin_answers.proofs.OpenMoves.{Move, Stays, Begins, Takes, Ends, Idles, open_requests, waiting_opens, event_move}
use Rattle.lapin_answers.proofs.Shuts.{rest_of}
use Rattle.lapin_tables.proofs.Bools.{and_false}
use Rattle.lapin_verdicts.proofs.Together.{lost_down}

-- ---- what stands

-- the last of these opens is that of the request: under its ticket, which is that of the call
pub record IsLast (h : History) (c : ℕ) (r : Request) (ls : List Left) : Type 0 where
  pub done : List Left
  pub opener : Left
  pub all : ls ≡ done ++ opener ∷ []
  pub ticket : opener.ticket ≡ r.ticket
  pub method : opener.frame ≡ frame.Method c (method.Channel channel.Open)
  pub call : (n : ℕ) → r.ticket ≡ Some n → IsOpeningOf n c h

-- no request of an open is open; or one alone, while the channel has a live opening, and it is that of the last open
pub data Standing (h : History) (c : ℕ) (alive : Bool) (rs : List Request) (ls : List Left) : Type 0 where
  NoneOpens : (none : rs ≡ []) → Standing h c alive rs ls
  OneOpens : (lives : alive ≡ true) (r : Request) (alone : rs ≡ r ∷ []) (last : IsLast h c r ls) → Standing h c alive rs ls

-- ---- an event

opening_more : (n c : ℕ) (h : History) (e : Event) (x : Record) → IsOpeningOf n c h → IsOpeningOf n c (h ++ (e, x) ∷ [])
opening_more n c h e x k = record { before = k.before; behind = k.behind ++ (e, x) ∷ []; event = k.event; told = k.told; all = ap (λ v. v ++ (e, x) ∷ []) k.all ∙ append_assoc k.before ((k.event, k.told) ∷ k.behind) ((e, x) ∷ []); is = k.is }

last_more : (h : History) (c : ℕ) (r : Request) (ls ls' : List Left) (e : Event) (x : Record) → ls' ≡ ls → IsLast h c r ls → IsLast (h ++ (e, x) ∷ []) c r ls'
last_more h c r ls ls' e x same k = record { done = k.done; opener = k.opener; all = same ∙ k.all; ticket = k.ticket; method = k.method; call = λ n t. opening_more n c h e x (k.call n t) }

standing_more : (h : History) (c : ℕ) (a a' : Bool) (rs rs' : List Request) (ls ls' : List Left) (e : Event) (x : Record) → a' ≡ a → rs' ≡ rs → ls' ≡ ls → Standing h c a rs ls → Standing (h ++ (e, x) ∷ []) c a' rs' ls'
standing_more h c a a' rs rs' ls ls' e x alive requests same (NoneOpens none) = NoneOpens (requests ∙ none)
standing_more h c a a' rs rs' ls ls' e x alive requests same (OneOpens lives r alone last) = OneOpens (alive ∙ lives) r (requests ∙ alone) (last_more h c r ls ls' e x same last)

-- without a live opening no such request is open
none_opens : (h : History) (c : ℕ) (a : Bool) (rs : List Request) (ls : List Left) → a ≡ false → Standing h c a rs ls → rs ≡ []
none_opens h c a rs ls dead (NoneOpens none) = none
none_opens h c a rs ls dead (OneOpens lives r alone last) = let w : true ≡ false = sym lives ∙ dead in absurd cc

rest_none : (h : History) (c : ℕ) (a : Bool) (rs : List Request) (ls : List Left) → Standing h c a rs ls → rest_of rs ≡ []
rest_none h c a rs ls (NoneOpens none) = ap rest_of none
rest_none h c a rs ls (OneOpens lives r alone last) = ap rest_of alone

move_stands : (h : History) (c : ℕ) (e : Event) (x : Record) (a a' : Bool) (rs rs' : List Request) (ws ws' hs : List Left) → Move c e x a a' rs rs' ws ws' → Standing h c a rs (hs ++ ws) → Standing (h ++ (e, x) ∷ []) c a' rs' (hs ++ ws')
move_stands h c e x a a' rs rs' ws ws' hs (Stays alive requests waits) s = standing_more h c a a' rs rs' (hs ++ ws) (hs ++ ws') e x alive requests (ap (λ v. hs ++ v) waits) s
move_stands h c e x a a' rs rs' ws ws' hs (Begins was now l r requests waits is) s = OneOpens now r (requests ∙ ap (λ v. v ++ r ∷ []) (none_opens h c a rs (hs ++ ws) was s)) (record {
  done = hs ++ ws;
  opener = l;
  all = ap (λ v. hs ++ v) waits ∙ sym (append_assoc hs ws (l ∷ []));
  ticket = is.ticket;
  method = is.method;
  call = λ n t. record { before = h; behind = []; event = e; told = x; all = refl; is = is.call n t };
})
move_stands h c e x a a' rs rs' ws ws' hs (Takes requests) s = NoneOpens (requests ∙ rest_none h c a rs (hs ++ ws) s)
move_stands h c e x a a' rs rs' ws ws' hs (Ends requests) s = NoneOpens requests
move_stands h c e x a a' rs rs' ws ws' hs (Idles was requests) s = NoneOpens (requests ∙ none_opens h c a rs (hs ++ ws) was s)

-- ---- a frame request

-- the opens of a channel that were handed out, and those that wait
abbrev pub all_opens : ℕ → Wire → List Left → List Left
all_opens c b ls = filter (is_open_on c) ls ++ waiting_opens c b

-- what holds of a session's states and lists, and of what was handed out
abbrev pub Opening : ℕ → History → Wire → List Left → Type 0
Opening c h b ls = Standing h c (live c b) (open_requests c b) (all_opens c b ls)

one_left : (c : ℕ) (ls : List Left) (l : Left) → filter (is_open_on c) (ls ++ l ∷ []) ≡ filter (is_open_on c) ls ++ cond (is_open_on c l) (l ∷ []) []
one_left c ls l = filter-append (is_open_on c) ls (l ∷ [])

other_left : (c : ℕ) (ls : List Left) (l : Left) → is_open_on c l ≡ false → filter (is_open_on c) (ls ++ l ∷ []) ≡ filter (is_open_on c) ls
other_left c ls l h = one_left c ls l ∙ (ap (λ v. filter (is_open_on c) ls ++ cond v (l ∷ []) []) h ∙ append-nil (filter (is_open_on c) ls))

content_calm : (c : ℕ) (l : Left) → is_content l.frame ≡ true → is_open_on c l ≡ false
content_calm c l h = ap (λ v. is_frame_on c l.frame && v) (content_open l.frame h) ∙ and_false (is_frame_on c l.frame)

-- what leaves goes from those that wait to those that were handed out
left_opens : (c n : ℕ) (t : ℕ → Bool) (ls : List Left) (rs : List RestEntry) (es : List MethodEntry) (ps : List Publish) (d : ℕ) → AreRest d rs → filter (is_open_on c) (ls ++ left_alone (handed_of t rs es ps)) ++ filter (is_open_on c) (lefts_of (left_of n t rs es ps).methods) ≡ filter (is_open_on c) ls ++ filter (is_open_on c) (lefts_of es)
left_opens c n t ls (f ∷ rs) es ps d a = ap (λ v. v ++ filter (is_open_on c) (lefts_of es)) (other_left c ls (left_rest f) (content_calm c (left_rest f) a.1))
left_opens c n t ls [] (m ∷ es) ps d a =
    let l : Left = left_method m in
    ap (λ v. v ++ filter (is_open_on c) (lefts_of es)) (one_left c ls l)
    ∙ (append_assoc (filter (is_open_on c) ls) (cond (is_open_on c l) (l ∷ []) []) (filter (is_open_on c) (lefts_of es))
    ∙ ap (λ v. filter (is_open_on c) ls ++ v) (elim (is_open_on c l) as (λ v. cond v (l ∷ []) [] ++ filter (is_open_on c) (lefts_of es) ≡ cond v (l ∷ filter (is_open_on c) (lefts_of es)) (filter (is_open_on c) (lefts_of es))) [ true ↦ refl | false ↦ refl ]))
left_opens c n t ls [] [] ps d a = by (find (may_begin t) ps)
  where
    by : (q : Option Publish) → filter (is_open_on c) (ls ++ left_alone (option_map left_publish q)) ++ [] ≡ filter (is_open_on c) ls ++ []
    by None = ap (λ v. filter (is_open_on c) v ++ []) (append-nil ls)
    by (Some q) = ap (λ v. v ++ []) (other_left c ls (left_publish q) (and_false (q.channel == c)))

next_stands : (c d : ℕ) (t : ℕ → Bool) (h : History) (e : Event) (x : Record) (b : Wire) (ls : List Left) → AreRest d b.rest → Opening c h b ls → Opening c (h ++ (e, x) ∷ []) (after_handing t b) (ls ++ left_alone (handed_out t b))
next_stands c d t h e x b ls rest s =
    let b' : Wire = after_handing t b in
    let o : Option Left = handed_out t b in
    let v : Wire = with_lists (left_lists b.frame_max t (lists_of b)) b in
    let ws : waiting_opens c b' ≡ filter (is_open_on c) (lefts_of (left_of b.frame_max t b.rest b.methods b.publishes).methods) = ap (λ y. filter (is_open_on c) (lefts_of y)) (sent_methods o v) in
    let rs : open_requests c b' ≡ open_requests c b = ap (kind_at reply_kind.ChannelOpenOk c) (sent_requests o v) in
    let all : all_opens c b' (ls ++ left_alone o) ≡ all_opens c b ls = ap (λ y. filter (is_open_on c) (ls ++ left_alone o) ++ y) ws ∙ left_opens c b.frame_max t ls b.rest b.methods b.publishes d rest in
    standing_more h c (live c b) (live c b') (open_requests c b) (open_requests c b') (all_opens c b ls) (all_opens c b' (ls ++ left_alone o)) e x (still_live c b b' (handing_still t b)) rs all s

-- ---- a run

module _ (n c : ℕ) where
  abbrev see : History → Readings
  see h = readings_of (past n h).confirms (past n h).tickets

  abbrev on_event : History → Event → History
  on_event h e = h ++ (e, rec n h e) ∷ []

  abbrev At : History → List Left → Type 0
  At h ls = Opening c h (past n h).wire ls

  wire-push : (h : History) (e : Event) → (past n (on_event h e)).wire ≡ after_event (past n h).wire e (rec n h e)
  wire-push h e = ap (λ (p : Past). p.wire) (past-push n h e (rec n h e))

  to_event : (h : History) (e : Event) (ls : List Left) → Opening c (on_event h e) (after_event (past n h).wire e (rec n h e)) ls → At (on_event h e) ls
  to_event h e ls s = subst (λ b. Opening c (on_event h e) b ls) (sym (wire-push h e)) s

  other_kept : (h : History) (e : Event) (ls : List Left) → is_next e ≡ false → At h ls → At (on_event h e) ls
  other_kept h e ls apart s = to_event h e ls (move_stands h c e (rec n h e) _ _ _ _ _ _ (filter (is_open_on c) ls) (event_move c (past n h).wire (see h) e apart) s)

  next_kept : (h : History) (flow : Bool) (ls : List Left) (d : ℕ) → AreRest d (past n h).wire.rest → At h ls → At (on_event h (event.Next flow)) (ls ++ left_alone (handed flow (λ v. is_full v (past n h).confirms) (past n h).wire))
  next_kept h flow ls d rest s =
      let b : Wire = (past n h).wire in
      let r : Record = rec n h (event.Next flow) in
      let same : handed_out (began_on r) b ≡ handed flow (λ v. is_full v (past n h).confirms) b = as_handed (begins_on flow (λ v. is_full v (past n h).confirms) b) b in
      to_event h (event.Next flow) (ls ++ left_alone (handed flow (λ v. is_full v (past n h).confirms) b)) (subst (λ o. Opening c (on_event h (event.Next flow)) (after_handing (began_on r) b) (ls ++ left_alone o)) same (next_stands c d (began_on r) h (event.Next flow) r b ls rest s))

  abbrev InRun : Joint History → List Deed → Type 0
  InRun j ds = At j.session (lefts ds ++ j.up)

  same_run : (j : Joint History) (ds : List Deed) → InRun j ds → InRun j (ds ++ [])
  same_run j ds s = subst (InRun j) (sym (append-nil ds)) s

  hands_none : (e : Event) (h : History) → is_next e ≡ false → handed_by (by_history n) e h ≡ []
  hands_none (event.Next flow) h apart = absurd cc
  hands_none _ h apart = refl

  calm : (e : Event) (j : Joint History) (ds : List Deed) → is_next e ≡ false → InRun j ds → InRun (client (by_history n) e j) (ds ++ [])
  calm e j ds apart s = subst (InRun (client (by_history n) e j)) (sym (append-nil ds)) (subst (λ v. At (on_event j.session e) (lefts ds ++ v)) (sym (append-nil j.up) ∙ ap (λ v. j.up ++ v) (sym (hands_none e j.session apart))) (other_kept j.session e (lefts ds ++ j.up) apart s))

  client_run : (e : Event) (j : Joint History) (ds : List Deed) (d : ℕ) → AreRest d (past n j.session).wire.rest → InRun j ds → InRun (client (by_history n) e j) (ds ++ [])
  client_run (event.Next flow) j ds d rest s =
      let o : Option Left = handed flow (λ v. is_full v (past n j.session).confirms) (past n j.session).wire in
      subst (InRun (client (by_history n) (event.Next flow) j)) (sym (append-nil ds)) (subst (At (on_event j.session (event.Next flow))) (append_assoc (lefts ds) j.up (left_alone o)) (next_kept j.session flow (lefts ds ++ j.up) d rest s))
  client_run (event.Receive f) j ds d rest s = calm (event.Receive f) j ds refl s
  client_run event.Lost j ds d rest s = calm event.Lost j ds refl s
  client_run (event.Call z k) j ds d rest s = calm (event.Call z k) j ds refl s
  client_run (event.PollTicket k) j ds d rest s = calm (event.PollTicket k) j ds refl s
  client_run (event.PollConfirm k) j ds d rest s = calm (event.PollConfirm k) j ds refl s
  client_run (event.PollConsumer k) j ds d rest s = calm (event.PollConsumer k) j ds refl s
  client_run (event.PollWait z) j ds d rest s = calm (event.PollWait z) j ds refl s
  client_run (event.AsideTicket k) j ds d rest s = calm (event.AsideTicket k) j ds refl s
  client_run (event.AsideConfirm k) j ds d rest s = calm (event.AsideConfirm k) j ds refl s
  client_run (event.Acker k z) j ds d rest s = calm (event.Acker k z) j ds refl s
  client_run (event.Delegate k) j ds d rest s = calm (event.Delegate k) j ds refl s
  client_run (event.DropConsumer k) j ds d rest s = calm (event.DropConsumer k) j ds refl s
  client_run event.NextJob j ds d rest s = calm event.NextJob j ds refl s
  client_run (event.State z) j ds d rest s = calm (event.State z) j ds refl s

  read_run : (j : Joint History) (l : Left) (ls : List Left) (ds : List Deed) → At j.session (lefts ds ++ l ∷ ls) → InRun (read_first (l ∷ ls) j) (ds ++ Read l ∷ [])
  read_run j l ls ds s = subst (At j.session) (sym (append_assoc (lefts ds) (l ∷ []) ls) ∙ ap (λ v. v ++ ls) (sym (lefts-append ds (Read l ∷ [])))) s

  send_run : (j : Joint History) (f : Frame) (ds : List Deed) → InRun j ds → InRun (send_down f j) (ds ++ Sent f ∷ [])
  send_run j f ds s = subst (λ v. At j.session (v ++ j.up)) (sym (lefts-append ds (Sent f ∷ []) ∙ append-nil (lefts ds))) s

  lost_run : (j : Joint History) (ds : List Deed) → InRun j ds → At (on_event j.session event.Lost) (lefts (ds ++ []) ++ [])
  lost_run j ds s =
      let b' : Wire = (past n (on_event j.session event.Lost)).wire in
      let gone : is_up b'.link ≡ false = ap (λ (v : Wire). is_up v.link) (wire-push j.session event.Lost) ∙ lost_down (past n j.session).wire (rec n j.session event.Lost) in
      let dead : live c b' ≡ false = ap (λ v. v && is_live (phase_of c b')) gone in
      NoneOpens (none_opens (on_event j.session event.Lost) c (live c b') (open_requests c b') (all_opens c b' (lefts ds ++ j.up)) dead (other_kept j.session event.Lost (lefts ds ++ j.up) refl s))

  step_run : (s : Step) (j : Joint History) (ds : List Deed) (d : ℕ) → AreRest d (past n j.session).wire.rest → InRun j ds → InRun (after (by_history n) s j) (ds ++ deed_in s j)
  step_run (step.Client e) j ds d rest i = elim (is_lawful e) as (λ v. InRun (cond v (client (by_history n) e j) j) (ds ++ [])) [
    | true ↦ client_run e j ds d rest i
    | false ↦ same_run j ds i
  ]
  step_run step.Read j ds d rest i = by j.up i
    where
      by : (ls : List Left) → At j.session (lefts ds ++ ls) → InRun (read_first ls (record j { up = ls })) (ds ++ reads_of (front ls))
      by [] i = subst (λ v. At j.session (lefts v ++ [])) (sym (append-nil ds)) i
      by (l ∷ ls) i = read_run j l ls ds i
  step_run (step.Send f) j ds d rest i = elim (may j.broker f) as (λ v. InRun (cond v (send_down f j) j) (ds ++ cond v (Sent f ∷ []) [])) [
    | true ↦ send_run j f ds i
    | false ↦ same_run j ds i
  ]
  step_run step.Deliver j ds d rest i = by j.down
    where
      by : (fs : List Frame) → InRun (deliver_first (by_history n) fs (record j { down = fs })) (ds ++ [])
      by [] = same_run j ds i
      by (f ∷ fs) = subst (λ v. At (on_event j.session (event.Receive f)) (lefts v ++ j.up)) (sym (append-nil ds)) (other_kept j.session (event.Receive f) (lefts ds ++ j.up) refl i)
  step_run step.Lose j ds d rest i = lost_run j ds i

  first_run : InRun (joined_to n []) (deeds n [])
  first_run = NoneOpens refl

  from_run : 4096 ≤ n → (pre ss : List Step) → InRun (joined_to n pre) (deeds n pre) → InRun (joined_to n (pre ++ ss)) (deeds n (pre ++ ss))
  from_run r pre [] i = subst (λ v. InRun (joined_to n v) (deeds n v)) (sym (append-nil pre)) i
  from_run r pre (s ∷ ss) i =
      let k = (in_run n c (omega (arith, r)) pre).contents in
      let one : InRun (joined_to n (pre ++ s ∷ [])) (deeds n (pre ++ s ∷ [])) = subst (λ v. InRun (joined_to n (pre ++ s ∷ [])) v) (sym (deeds-push n pre s)) (subst (λ j. InRun j (deeds n pre ++ deed_in s (joined_to n pre))) (sym (joined-push n pre s)) (step_run s (joined_to n pre) (deeds n pre) k.0 k.1 i)) in
      subst (λ v. InRun (joined_to n v) (deeds n v)) (append_assoc pre (s ∷ []) ss) (from_run r (pre ++ s ∷ []) ss one)

  pub opens_stand : 4096 ≤ n → (ss : List Step) → Opening c (joined_to n ss).session (past_of n ss).wire (lefts (deeds n ss) ++ (joined_to n ss).up)
  opens_stand r ss = from_run r [] ss first_run
