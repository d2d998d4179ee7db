-- What holds of a channel's closes: of those that were handed out and those that wait none is open, or one alone, with the ticket of its
-- call, while that is under way.
use Rattle.std.proofs.Common.{◌≡◌, ◌∙◌, ℕ, ◌+◌, ◌≤◌, ◌==◌, Bool, true, false, cond, ◌&&◌, List, [], ◌∷◌, ◌++◌, length, length-append, Option, Some, None, inl, inr, refl, sym, ap, subst, append-nil, append_assoc, arith}
use Rattle.std.specs.List.{filter, find}
use Rattle.std.specs.Option.{option_map}
use Rattle.std.proofs.lemmas.Bool.Decides.{eqb_tells}
use Rattle.std.proofs.lemmas.List.Elements.{filter-append}
use Rattle.lapin_types.specs.declared.event.Event.{Event}
use Rattle.lapin_types.specs.declared.leaving.Left.{Left}
use Rattle.lapin_types.specs.declared.leaving.Publish.{Publish}
use Rattle.lapin_types.specs.declared.record.Record.{Record}
use Rattle.lapin_types.specs.declared.request.Request.{Request}
use Rattle.lapin_types.specs.Types.{Frame, Method}
use Rattle.lapin_types.specs.Types.frame
use Rattle.lapin_types.specs.Types.method
use Rattle.lapin_types.specs.Types.channel
use Rattle.lapin_rules.specs.declared.broker_frames.Incoming.{Incoming}
use Rattle.lapin_rules.specs.declared.phases.ChannelPhase.{ChannelPhase}
use Rattle.lapin_rules.specs.declared.phases.ChannelPhase.TheVariants as phase
use Rattle.lapin_rules.specs.declared.phases.Closer.{Closer}
use Rattle.lapin_rules.specs.declared.phases.Closer.TheVariants as closer
use Rattle.lapin_rules.specs.ChannelClose.{phases_sent, close_sent, after_broker_close, has_sent_close}
use Rattle.lapin_rules.specs.Frames.{MethodEntry, RestEntry, left_method, left_rest, left_publish}
use Rattle.lapin_rules.specs.Handing.{after_handing, handed_out, sent}
use Rattle.lapin_rules.specs.History.{History}
use Rattle.lapin_rules.specs.Leaving.{left_of, left_lists, handed_of, may_begin}
use Rattle.lapin_rules.specs.Phases.{is_up}
use Rattle.lapin_rules.specs.Wire.{Wire, lists_of, with_lists, phase_of}
use Rattle.lapin_broker.specs.Frames.{channel_of}
use Rattle.lapin_joint.specs.Joint.{left_alone}
use Rattle.lapin_tables.specs.ByChannel.{on_channel}
use Rattle.lapin_concord.proofs.Views.{phase_at, requests_at, phase_on_here, phase_on_away}
use Rattle.lapin_verdicts.proofs.Numbering.{AreRest, is_content}
use Rattle.lapin_verdicts.proofs.Opens.{sent_methods}
use Rattle.lapin_answers.specs.Closes.{closes, is_close_on, IsCloseOf}
use Rattle.lapin_answers.proofs.Lets.{handing_still}
use Rattle.lapin_answers.proofs.Lists.{lefts_of}
use Rattle.lapin_answers.proofs.Shuts.{close_requests, waiting_closes, first_of, rest_of, shuts}
use Rattle.lapin_answers.proofs.Moving.{Move, Stays, Passes, Shuts, Breaks, Ends, Closes, Uncrosses, Falls, is_crossed_at, is_unshut, is_close_ok_in, place_of, place_in}

-- ---- what is handed out

abbrev pub handed_closes : ℕ → List Left → List Left
handed_closes c ls = filter (is_close_on c) ls

-- ---- what stands

-- the request is that of this close, and where somebody holds its ticket, the frame is of that very call
pub record IsShutOf (h : History) (c : ℕ) (l : Left) (r : Request) : Type 0 where
  pub ticket : l.ticket ≡ r.ticket
  pub call : (n : ℕ) → r.ticket ≡ Some n → (m : Method) × IsCloseOf n c m h × (l.frame ≡ frame.Method c m)

-- none is open, or that of this close alone
abbrev pub AreShut : History → ℕ → Left → List Request → Type 0
AreShut h c l [] = Unit {0}
AreShut h c l (r ∷ []) = IsShutOf h c l r
AreShut h c l _ = ⊥

-- a close waits, and all that were handed out are answered: k
pub record Waits (h : History) (c : ℕ) (rs : List Request) (ws hs : List Left) (k : ℕ) : Type 0 where
  pub close : Left
  pub waits : ws ≡ close ∷ []
  pub count : length hs ≡ k
  pub are : AreShut h c close rs

-- the last close that was handed out is not answered, but all before it
pub record Owed (h : History) (c : ℕ) (rs : List Request) (ws hs : List Left) (k : ℕ) : Type 0 where
  pub close : Left
  pub done : List Left
  pub waits : ws ≡ []
  pub handed : hs ≡ done ++ close ∷ []
  pub count : length done ≡ k
  pub are : AreShut h c close rs

-- none is under way
pub record NoneIs (rs : List Request) (ws hs : List Left) (k : ℕ) : Type 0 where
  pub requests : rs ≡ []
  pub waits : ws ≡ []
  pub count : length hs ≡ k

abbrev pub HeldAt : History → ℕ → ChannelPhase → List Request → List Left → List Left → ℕ → Type 0
HeldAt h c (phase.Closing who false) rs ws hs k = Waits h c rs ws hs k
HeldAt h c (phase.Closing who true) rs ws hs k = Owed h c rs ws hs k
HeldAt h c phase.Crossed rs ws hs k = Owed h c rs ws hs k
HeldAt h c _ rs ws hs k = NoneIs rs ws hs k

-- nothing is said once the connection isn't open any more
abbrev pub Held : History → ℕ → Option ChannelPhase → List Request → List Left → List Left → ℕ → Type 0
Held h c None rs ws hs k = Unit {0}
Held h c (Some p) rs ws hs k = HeldAt h c p rs ws hs k

unshut_at : (h : History) (c : ℕ) (p : ChannelPhase) (rs : List Request) (ws hs : List Left) (k : ℕ) → is_unshut p ≡ true → HeldAt h c p rs ws hs k → NoneIs rs ws hs k
unshut_at h c phase.Closed rs ws hs k u x = x
unshut_at h c phase.Opening rs ws hs k u x = x
unshut_at h c (phase.Open v) rs ws hs k u x = x
unshut_at h c (phase.Closing who sent) rs ws hs k u x = absurd cc
unshut_at h c phase.Crossed rs ws hs k u x = absurd cc

at_unshut : (h : History) (c : ℕ) (p : ChannelPhase) (rs : List Request) (ws hs : List Left) (k : ℕ) → is_unshut p ≡ true → NoneIs rs ws hs k → HeldAt h c p rs ws hs k
at_unshut h c phase.Closed rs ws hs k u x = x
at_unshut h c phase.Opening rs ws hs k u x = x
at_unshut h c (phase.Open v) rs ws hs k u x = x
at_unshut h c (phase.Closing who sent) rs ws hs k u x = absurd cc
at_unshut h c phase.Crossed rs ws hs k u x = absurd cc

-- ---- a history goes on

close_more : (n c : ℕ) (m : Method) (h : History) (e : Event) (x : Record) → IsCloseOf n c m h → IsCloseOf n c m (h ++ (e, x) ∷ [])
close_more n c m h e x k = record { before = k.before; behind = k.behind ++ (e, x) ∷ []; event = k.event; told = k.told; all = ap (λ v. v ++ (e, x) ∷ []) k.all ∙ append_assoc k.before ((k.event, k.told) ∷ k.behind) ((e, x) ∷ []); is = k.is }

shut_more : (h : History) (c : ℕ) (l : Left) (rs : List Request) (e : Event) (x : Record) → AreShut h c l rs → AreShut (h ++ (e, x) ∷ []) c l rs
shut_more h c l [] e x a = tt
shut_more h c l (r ∷ []) e x a = record { ticket = a.ticket; call = λ n t. (let was = a.call n t in (was.0, close_more n c was.0 h e x was.1, was.2)) }
shut_more h c l (r ∷ s ∷ rs) e x a = absurd a

held_more : (h : History) (c : ℕ) (o : Option ChannelPhase) (rs : List Request) (ws hs : List Left) (k : ℕ) (e : Event) (x : Record) → Held h c o rs ws hs k → Held (h ++ (e, x) ∷ []) c o rs ws hs k
held_more h c None rs ws hs k e x s = tt
held_more h c (Some phase.Closed) rs ws hs k e x s = s
held_more h c (Some phase.Opening) rs ws hs k e x s = s
held_more h c (Some (phase.Open v)) rs ws hs k e x s = s
held_more h c (Some (phase.Closing who false)) rs ws hs k e x s = record { close = s.close; waits = s.waits; count = s.count; are = shut_more h c s.close rs e x s.are }
held_more h c (Some (phase.Closing who true)) rs ws hs k e x s = record { close = s.close; done = s.done; waits = s.waits; handed = s.handed; count = s.count; are = shut_more h c s.close rs e x s.are }
held_more h c (Some phase.Crossed) rs ws hs k e x s = record { close = s.close; done = s.done; waits = s.waits; handed = s.handed; count = s.count; are = shut_more h c s.close rs e x s.are }

first_shut : (h : History) (c : ℕ) (l : Left) (rs : List Request) → AreShut h c l rs → AreShut h c l (first_of rs)
first_shut h c l [] a = tt
first_shut h c l (r ∷ []) a = a
first_shut h c l (r ∷ s ∷ rs) a = absurd a

rest_shut : (h : History) (c : ℕ) (l : Left) (rs : List Request) → AreShut h c l rs → rest_of rs ≡ []
rest_shut h c l [] a = refl
rest_shut h c l (r ∷ []) a = refl
rest_shut h c l (r ∷ s ∷ rs) a = absurd a

-- ---- an event

-- one close-ok more has come, where one comes
abbrev pub count_after : Bool → ℕ → ℕ
count_after true k = k + 1
count_after false k = k

module _ (h : History) (c : ℕ) (e : Event) (x : Record) (hs : List Left) (k : ℕ) where
  abbrev h' : History
  h' = h ++ (e, x) ∷ []

  to : (v : Bool) (z : Bool) (o' q : Option ChannelPhase) (rs' rs : List Request) (ws' ws : List Left) → v ≡ z → o' ≡ q → rs' ≡ rs → ws' ≡ ws → Held h' c q rs ws hs (count_after z k) → Held h' c o' rs' ws' hs (count_after v k)
  to v z o' q rs' rs ws' ws a b d f s = subst (λ y. Held h' c o' rs' ws' hs (count_after y k)) (sym a) (subst (λ y. Held h' c y rs' ws' hs (count_after z k)) (sym b) (subst (λ y. Held h' c q y ws' hs (count_after z k)) (sym d) (subst (λ y. Held h' c q rs y hs (count_after z k)) (sym f) s)))

  at : (o : Option ChannelPhase) (p : ChannelPhase) (rs : List Request) (ws : List Left) → o ≡ Some p → Held h c o rs ws hs k → HeldAt h c p rs ws hs k
  at o p rs ws q s = subst (λ y. Held h c y rs ws hs k) q s

  one_more : (l : Left) (done : List Left) → hs ≡ done ++ l ∷ [] → length done ≡ k → length hs ≡ k + 1
  one_more l done q d = ap length q ∙ (length-append done (l ∷ []) ∙ ap (λ v. v + 1) d)

  ended : (p : ChannelPhase) (rs : List Request) (ws : List Left) → is_crossed_at p ≡ false → HeldAt h c p rs ws hs k → HeldAt h' c (after_broker_close p) (cond (has_sent_close p) (first_of rs) []) [] hs k
  ended phase.Closed rs ws a s = record { requests = refl; waits = refl; count = s.count }
  ended phase.Opening rs ws a s = record { requests = refl; waits = refl; count = s.count }
  ended (phase.Open v) rs ws a s = record { requests = refl; waits = refl; count = s.count }
  ended (phase.Closing who false) rs ws a s = record { requests = refl; waits = refl; count = s.count }
  ended (phase.Closing who true) rs ws a s = record { close = s.close; done = s.done; waits = refl; handed = s.handed; count = s.count; are = shut_more h c s.close (first_of rs) e x (first_shut h c s.close rs s.are) }
  ended phase.Crossed rs ws a s = absurd cc

  answered : (who : Closer) (sent : Bool) (rs : List Request) (ws : List Left) → k + 1 ≤ length hs → HeldAt h c (phase.Closing who sent) rs ws hs k → NoneIs [] [] hs (k + 1)
  answered who true rs ws le s = record { requests = refl; waits = refl; count = one_more s.close s.done s.handed s.count }
  answered who false rs ws le s = let n = s.count in let z : ⊥ = omega (arith, n, le) in absurd z

  pub move_held : (i : Option Incoming) (o o' : Option ChannelPhase) (rs rs' : List Request) (ws ws' : List Left) → Move c e x i o o' rs rs' ws ws' → (is_close_ok_in c i ≡ true → k + 1 ≤ length hs) → Held h c o rs ws hs k → Held h' c o' rs' ws' hs (count_after (is_close_ok_in c i) k)
  move_held i o o' rs rs' ws ws' (Stays calm place requests waits) le s = to (is_close_ok_in c i) false o' o rs' rs ws' ws calm place requests waits (held_more h c o rs ws hs k e x s)
  move_held i o o' rs rs' ws ws' (Passes calm p q was now before after requests waits) le s =
      let n : NoneIs rs ws hs k = unshut_at h c p rs ws hs k before (at o p rs ws was s) in
      to (is_close_ok_in c i) false o' (Some q) rs' rs ws' ws calm now requests waits (at_unshut h' c q rs ws hs k after n)
  move_held i o o' rs rs' ws ws' (Shuts calm v l r was now requests waits is) le s =
      let n : NoneIs rs ws hs k = at o (phase.Open v) rs ws was s in
      to (is_close_ok_in c i) false o' (Some (phase.Closing closer.Application false)) rs' (r ∷ []) ws' (l ∷ []) calm now (requests ∙ ap (λ y. y ++ r ∷ []) n.requests) (waits ∙ ap (λ y. y ++ l ∷ []) n.waits) (record {
        close = l;
        waits = refl;
        count = n.count;
        are = record { ticket = is.ticket; call = λ t q. (let was = is.call t q in (was.0, record { before = h; behind = []; event = e; told = x; all = refl; is = was.1 }, was.2)) };
      })
  move_held i o o' rs rs' ws ws' (Breaks calm v l was now requests waits) le s =
      let n : NoneIs rs ws hs k = at o (phase.Open v) rs ws was s in
      to (is_close_ok_in c i) false o' (Some (phase.Closing closer.Session false)) rs' [] ws' (l ∷ []) calm now (requests ∙ n.requests) (waits ∙ ap (λ y. y ++ l ∷ []) n.waits) (record { close = l; waits = refl; count = n.count; are = tt })
  move_held i o o' rs rs' ws ws' (Ends calm p apart was now requests waits) le s =
      to (is_close_ok_in c i) false o' (Some (after_broker_close p)) rs' (cond (has_sent_close p) (first_of rs) []) ws' [] calm now requests waits (ended p rs ws apart (at o p rs ws was s))
  move_held i o o' rs rs' ws ws' (Closes comes who sent was now requests waits) le s =
      to (is_close_ok_in c i) true o' (Some phase.Closed) rs' [] ws' [] comes now requests waits (answered who sent rs ws (le comes) (at o (phase.Closing who sent) rs ws was s))
  move_held i o o' rs rs' ws ws' (Uncrosses comes was now requests waits) le s =
      let n : Owed h c rs ws hs k = at o phase.Crossed rs ws was s in
      to (is_close_ok_in c i) true o' (Some phase.Closed) rs' [] ws' [] comes now (requests ∙ rest_shut h c n.close rs n.are) (waits ∙ n.waits) (record { requests = refl; waits = refl; count = one_more n.close n.done n.handed n.count })
  move_held i o o' rs rs' ws ws' (Falls now) le s = subst (λ y. Held h' c y rs' ws' hs (count_after (is_close_ok_in c i) k)) (sym now) tt

-- ---- a frame request

-- what leaves is no close of the channel, or it is the one that waits
pub data Leaves (c : ℕ) (p p' : ChannelPhase) (ws ws' hs hs' : List Left) : Type 0 where
  Other : (place : p' ≡ p) (waits : ws' ≡ ws) (handed : hs' ≡ hs) → Leaves c p p' ws ws' hs hs'
  Close : (l : Left) (place : p' ≡ close_sent p) (waits : ws ≡ l ∷ ws') (handed : hs' ≡ hs ++ l ∷ []) → Leaves c p p' ws ws' hs hs'

phases_apart : (c : ℕ) (f : Frame) (all : List (ℕ × ChannelPhase)) → ((channel_of f == c) && closes f) ≡ false → phase_at c (phases_sent f all) ≡ phase_at c all
phases_apart c (frame.Method d (method.Channel (channel.Close code text class number))) all h = phase_on_away d c close_sent all (off (d == c) h)
  where
    off : (v : Bool) → (v && true) ≡ false → v ≡ false
    off true h = absurd cc
    off false h = refl
phases_apart c _ all h = refl

none_closes : (v : Bool) → (v && false) ≡ true → ⊥
none_closes true h = cc
none_closes false h = cc

phases_shut : (c : ℕ) (f : Frame) (all : List (ℕ × ChannelPhase)) → ((channel_of f == c) && closes f) ≡ true → phase_at c (phases_sent f all) ≡ close_sent (phase_at c all)
phases_shut c (frame.Method d (method.Channel (channel.Close code text class number))) all h = elim (eqb_tells d c) [
  | inl y ↦ subst (λ v. phase_at c (on_channel v close_sent all) ≡ close_sent (phase_at c all)) (sym y.1) (phase_on_here c close_sent all refl)
  | inr n ↦ let w : false ≡ true = ap (λ v. v && true) (sym n.0) ∙ h in absurd cc
]
phases_shut c f all h = absurd (none_closes (channel_of f == c) h)

one_left : (c : ℕ) (ls : List Left) (l : Left) (v : Bool) → is_close_on c l ≡ v → handed_closes c (ls ++ l ∷ []) ≡ handed_closes c ls ++ cond v (l ∷ []) []
one_left c ls l v h = filter-append (is_close_on c) ls (l ∷ []) ∙ ap (λ y. handed_closes c ls ++ cond y (l ∷ []) []) h

other_left : (c : ℕ) (ls : List Left) (l : Left) → is_close_on c l ≡ false → handed_closes c (ls ++ l ∷ []) ≡ handed_closes c ls
other_left c ls l h = one_left c ls l false h ∙ append-nil (handed_closes c ls)

content_calm : (c : ℕ) (f : Frame) → is_content f ≡ true → ((channel_of f == c) && closes f) ≡ false
content_calm c (frame.Method d m) h = absurd cc
content_calm c (frame.Header d h) e = elim (d == c) as (λ v. (v && false) ≡ false) [ true ↦ refl | false ↦ refl ]
content_calm c (frame.Body d bytes) e = elim (d == c) as (λ v. (v && false) ≡ false) [ true ↦ refl | false ↦ refl ]

abbrev phases_after : Option Left → List (ℕ × ChannelPhase) → List (ℕ × ChannelPhase)
phases_after None all = all
phases_after (Some l) all = phases_sent l.frame all

leaving : (c n : ℕ) (t : ℕ → Bool) (ls : List Left) (rs : List RestEntry) (es : List MethodEntry) (ps : List Publish) (d : ℕ) (all : List (ℕ × ChannelPhase)) → AreRest d rs → Leaves c (phase_at c all) (phase_at c (phases_after (handed_of t rs es ps) all)) (filter (is_close_on c) (lefts_of es)) (filter (is_close_on c) (lefts_of (left_of n t rs es ps).methods)) (handed_closes c ls) (handed_closes c (ls ++ left_alone (handed_of t rs es ps)))
leaving c n t ls (f ∷ rs) es ps d all a = let calm = content_calm c f.frame a.1 in Other (phases_apart c f.frame all calm) refl (other_left c ls (left_rest f) calm)
leaving c n t ls [] (m ∷ es) ps d all a = by (is_close_on c (left_method m)) refl
  where
    l : Left
    l = left_method m

    by : (v : Bool) → is_close_on c l ≡ v → Leaves c (phase_at c all) (phase_at c (phases_sent l.frame all)) (cond (is_close_on c l) (l ∷ filter (is_close_on c) (lefts_of es)) (filter (is_close_on c) (lefts_of es))) (filter (is_close_on c) (lefts_of es)) (handed_closes c ls) (handed_closes c (ls ++ l ∷ []))
    by true e = Close l (phases_shut c l.frame all e) (ap (λ v. cond v (l ∷ filter (is_close_on c) (lefts_of es)) (filter (is_close_on c) (lefts_of es))) e) (one_left c ls l true e)
    by false e = Other (phases_apart c l.frame all e) (sym (ap (λ v. cond v (l ∷ filter (is_close_on c) (lefts_of es)) (filter (is_close_on c) (lefts_of es))) e)) (other_left c ls l e)
leaving c n t ls [] [] ps d all a = by (find (may_begin t) ps)
  where
    by : (q : Option Publish) → Leaves c (phase_at c all) (phase_at c (phases_after (option_map left_publish q) all)) [] [] (handed_closes c ls) (handed_closes c (ls ++ left_alone (option_map left_publish q)))
    by None = Other refl refl (ap (handed_closes c) (append-nil ls))
    by (Some q) = let calm : is_close_on c (left_publish q) ≡ false = elim (q.channel == c) as (λ v. (v && false) ≡ false) [ true ↦ refl | false ↦ refl ] in Other refl refl (other_left c ls (left_publish q) calm)

module _ (h : History) (c : ℕ) (e : Event) (x : Record) (rs : List Request) (ws ws' hs hs' : List Left) (k : ℕ) where
  same_left : (p p' : ChannelPhase) → p' ≡ p → ws' ≡ ws → hs' ≡ hs → HeldAt h c p rs ws hs k → HeldAt (h ++ (e, x) ∷ []) c p' rs ws' hs' k
  same_left p p' a b d s = subst (λ y. HeldAt (h ++ (e, x) ∷ []) c y rs ws' hs' k) (sym a) (subst (λ y. HeldAt (h ++ (e, x) ∷ []) c p rs y hs' k) (sym b) (subst (λ y. HeldAt (h ++ (e, x) ∷ []) c p rs ws y k) (sym d) (held_more h c (Some p) rs ws hs k e x s)))

  none_waits : (l : Left) → ws ≡ l ∷ ws' → ws ≡ [] → ⊥
  none_waits l a b = let w : l ∷ ws' ≡ [] = sym a ∙ b in cc

  close_left : (p : ChannelPhase) (l : Left) → ws ≡ l ∷ ws' → hs' ≡ hs ++ l ∷ [] → HeldAt h c p rs ws hs k → HeldAt (h ++ (e, x) ∷ []) c (close_sent p) rs ws' hs' k
  close_left phase.Closed l a b s = absurd (none_waits l a s.waits)
  close_left phase.Opening l a b s = absurd (none_waits l a s.waits)
  close_left (phase.Open v) l a b s = absurd (none_waits l a s.waits)
  close_left (phase.Closing who true) l a b s = absurd (none_waits l a s.waits)
  close_left phase.Crossed l a b s = absurd (none_waits l a s.waits)
  close_left (phase.Closing who false) l a b s =
      let w : l ∷ ws' ≡ s.close ∷ [] = sym a ∙ s.waits in
      let front : l ≡ s.close = cc in
      let none : ws' ≡ [] = cc in
      record { close = s.close; done = hs; waits = none; handed = b ∙ ap (λ y. hs ++ y ∷ []) front; count = s.count; are = shut_more h c s.close rs e x s.are }

  left_held : (p p' : ChannelPhase) → Leaves c p p' ws ws' hs hs' → HeldAt h c p rs ws hs k → HeldAt (h ++ (e, x) ∷ []) c p' rs ws' hs' k
  left_held p p' (Other place waits handed) s = same_left p p' place waits handed s
  left_held p p' (Close l place waits handed) s = subst (λ y. HeldAt (h ++ (e, x) ∷ []) c y rs ws' hs' k) (sym place) (close_left p l waits handed s)

-- what holds of a session's states and lists, and of what was handed out
abbrev pub Shutting : ℕ → History → Wire → List Left → ℕ → Type 0
Shutting c h b ls k = Held h c (place_of c b) (close_requests c b) (waiting_closes c b) (handed_closes c ls) k

sent_requests : (o : Option Left) (b : Wire) → (sent o b).requests ≡ b.requests
sent_requests None b = refl
sent_requests (Some l) b = refl

sent_phases : (o : Option Left) (b : Wire) → (sent o b).phases ≡ phases_after o b.phases
sent_phases None b = refl
sent_phases (Some l) b = refl

pub next_shutting : (c d : ℕ) (t : ℕ → Bool) (h : History) (e : Event) (x : Record) (b : Wire) (ls : List Left) (k : ℕ) → AreRest d b.rest → Shutting c h b ls k → Shutting c (h ++ (e, x) ∷ []) (after_handing t b) (ls ++ left_alone (handed_out t b)) k
next_shutting c d t h e x b ls k rest s =
    let b' : Wire = after_handing t b in
    let o : Option Left = handed_out t b in
    let v : Wire = with_lists (left_lists b.frame_max t (lists_of b)) b in
    let ws : waiting_closes c b' ≡ filter (is_close_on c) (lefts_of (left_of b.frame_max t b.rest b.methods b.publishes).methods) = ap (λ y. filter (is_close_on c) (lefts_of y)) (sent_methods o v) in
    let rs : close_requests c b' ≡ close_requests c b = ap (λ y. filter shuts (requests_at c y)) (sent_requests o v) in
    let ph : phase_of c b' ≡ phase_at c (phases_after o b.phases) = ap (phase_at c) (sent_phases o v) in
    let go = leaving c b.frame_max t ls b.rest b.methods b.publishes d b.phases rest in
    let P : Bool → Type 0 = λ y. Held h c (place_in y (phase_of c b)) (close_requests c b) (waiting_closes c b) (handed_closes c ls) k → Held (h ++ (e, x) ∷ []) c (place_in y (phase_of c b')) (close_requests c b') (waiting_closes c b') (handed_closes c (ls ++ left_alone o)) k in
    let moves : P (is_up b.link) = elim (is_up b.link) as P [
      | true ↦ λ s. subst (λ y. HeldAt (h ++ (e, x) ∷ []) c y (close_requests c b') (waiting_closes c b') (handed_closes c (ls ++ left_alone o)) k) (sym ph)
          (subst (λ y. HeldAt (h ++ (e, x) ∷ []) c (phase_at c (phases_after o b.phases)) y (waiting_closes c b') (handed_closes c (ls ++ left_alone o)) k) (sym rs)
          (subst (λ y. HeldAt (h ++ (e, x) ∷ []) c (phase_at c (phases_after o b.phases)) (close_requests c b) y (handed_closes c (ls ++ left_alone o)) k) (sym ws)
          (left_held h c e x (close_requests c b) (waiting_closes c b) (filter (is_close_on c) (lefts_of (left_of b.frame_max t b.rest b.methods b.publishes).methods)) (handed_closes c ls) (handed_closes c (ls ++ left_alone o)) k (phase_of c b) (phase_at c (phases_after o b.phases)) go s)))
      | false ↦ λ s. tt
    ] in
    subst (λ y. Held (h ++ (e, x) ∷ []) c (place_in y (phase_of c b')) (close_requests c b') (waiting_closes c b') (handed_closes c (ls ++ left_alone o)) k) (sym (handing_still t b).up) (moves s)
