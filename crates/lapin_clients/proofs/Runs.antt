-- One act of a run of a client, as steps of a joined run.
use Rattle.std.proofs.Common.{◌≡◌, ℕ, zero, suc, ◌<◌, true, false, cond, List, [], ◌∷◌, ◌++◌, drop, map, length, Option, Some, None, refl, sym, ap, subst, ◌∙◌, inl, inr, arith}
use Rattle.std.proofs.lemmas.List.{append_assoc, append-nil}
use Rattle.lapin_types.specs.declared.event.Event.TheVariants as event
use Rattle.lapin_types.specs.Types.{Frame}
use Rattle.lapin_broker.specs.Frames.{channel_of}
use Rattle.lapin_fields.specs.Around.{around}
use Rattle.lapin_frames.specs.Carried.{frame_again}
use Rattle.lapin_frames.specs.FrameReading.{read_at}
use Rattle.lapin_frames.specs.declared.frames.Read.TheVariants as head
use Rattle.lapin_frames.proofs.AgainLaws.{carried_again}
use Rattle.lapin_joint.specs.declared.step.Step.TheVariants as step
use Rattle.lapin_joint.specs.Joint.{Joint, run, after, deliver_first, new_joint}
use Rattle.lapin_machine.specs.Way.{by_machine}
use Rattle.lapin_machine.specs.World.{World, new_world, next}
use Rattle.lapin_client.specs.declared.client.Client.{Client}
use Rattle.lapin_client.specs.declared.status.Status.{Status}
use Rattle.lapin_client.specs.declared.status.Status.TheVariants as status
use Rattle.lapin_client.specs.Receiving.{Comes as ComeAll, IsHead, IsLonger, IsTurnOf, Receives, Runs, TurnLeaves, Turns, heard, is_stray}
use Rattle.lapin_client.specs.Sending.{SameElse, Stops, after_requests}
use Rattle.lapin_concord.proofs.Running.{Sound, sound_run}
use Rattle.lapin_clients.specs.Joined.{AreSent, IsJoined, as_dealt, dealt_in, hearing, held_frames}
use Rattle.lapin_clients.specs.Nets.{Net, Act, Calls, Leaves, Beats, Comes, Reads, Sends, Strays, Does, IsNewNet, kept_by}
use Rattle.lapin_clients.specs.Pieces.{Piece, Of, Beat, Notice, ArePieces, AreCarried, octets_of, frames_in, frames_left, AllFit}
use Rattle.lapin_clients.specs.Strays.{AreWithStrays, hear_behind, hears_on, is_part}
use Rattle.lapin_clients.proofs.Deaf.{frame_less, part_heard}
use Rattle.lapin_clients.proofs.Ended.{IsQuiet, quiet_both}
use Rattle.lapin_clients.proofs.Strays.{coming_as, less_behind, less_on, less_then, strays_less}
use Rattle.lapin_clients.proofs.Heads.{frame_first, beat_first}
use Rattle.lapin_clients.proofs.Requests.{run_append, asks, asks_less, asks_run, asks_quiet, with_asked, lefts_of}
use Rattle.lapin_clients.proofs.Going.{deals_append, GoesOn, goes_both, no_step, sent_so}
use Rattle.lapin_clients.proofs.Acting.{call_goes, sent_on, stops_go, with_piece}
use Rattle.lapin_clients.proofs.Stray.{unstray}
use Rattle.lapin_clients.proofs.Wires.{notice_first, reads_goes, sends_goes, strays_joined}

-- the same net with another client
abbrev pub with_client : Client → Net → Net
with_client c x = record { client = c; broker = x.broker; up = x.up; down = x.down; besides = x.besides }

-- ---- one turn

-- of carried pieces the first is the frame that is read
first_carried : (f g : Frame) (others ps : List Piece) → AreCarried (frames_in ps) → frame_again g ≡ f → ps ≡ Of g ∷ others → ps ≡ Of f ∷ others
first_carried f g others ps carried again is =
    let first : AreCarried (frames_in (Of g ∷ others)) = subst (λ qs. AreCarried (frames_in qs)) is carried in
    is ∙ ap (λ x. Of x ∷ others) (sym (carried_again g first.0) ∙ again)

-- what stands whole at the head of what came is the first frame of the broker that is on its way
pub came_first : (n : ℕ) (x : Net) (j : Joint World) (is : IsJoined n x j) (f : Frame) (k : ℕ) → read_at x.client.came ≡ Some (head.Frame f k) → (others : List Piece) × (is.down.written.pieces ≡ Of f ∷ others) × (drop k x.client.came ++ x.down ≡ octets_of others)
came_first n x j is f k h =
    let first = frame_first n x.client.came x.down is.down.written.pieces f k is.down.written.fit is.down.written.are h in
    (first.1, first_carried f first.0 first.1 is.down.written.pieces (subst AreCarried (sym is.down.written.frames_are) is.down.carried) first.2 first.3, first.4)

module _ (n : ℕ) (x : Net) (j : Joint World) (sound : Sound j) (is : IsJoined n x j) (d : Client) where
  -- a heartbeat or a notice
  passed : (others : List Piece) (k : ℕ) (p : Piece) → is.down.written.pieces ≡ p ∷ others → frames_in (p ∷ others) ≡ frames_in others → drop k x.client.came ++ x.down ≡ octets_of others → d.came ≡ drop k x.client.came → d.frame_max ≡ x.client.frame_max → d.session ≡ x.client.session → d.leaving.items ≡ x.client.leaving.items → d.unsent ≡ x.client.unsent → GoesOn n [] (with_client d x) j
  passed others k p first beside left came most session leaving unsent =
      let fit : AllFit n (p ∷ others) = subst (AllFit n) first is.down.written.fit in
      record {
        steps = [];
        dealt_is = refl;
        joined = record {
          most = most ∙ is.most;
          session = session ∙ is.session;
          broker = is.broker;
          up = sent_so n (frames_left j.up) (ap (λ l. x.up ++ l) leaving) unsent is.up;
          down = record {
            way = is.down.way;
            written = record { pieces = others; are = ap (λ c. c ++ x.down) came ∙ left; frames_are = sym beside ∙ (sym (ap frames_in first) ∙ is.down.written.frames_are); fit = fit.1 };
            carried = is.down.carried;
            strays = is.down.strays;
            few = is.down.few;
          };
        };
      }

  -- a frame: what waits leaves, and then it is delivered, or passed over
  module _ (f : Frame) (k : ℕ) (others : List Piece) (first : is.down.written.pieces ≡ Of f ∷ others) (left : drop k x.client.came ++ x.down ≡ octets_of others) (came : d.came ≡ drop k x.client.came) (most : d.frame_max ≡ x.client.frame_max) (h : TurnLeaves (Some f) x.client d) where
    abbrev m : ℕ
    m = suc h.0

    abbrev w : World
    w = after_requests m false j.session

    way_is : f ∷ frames_in others ≡ is.down.way
    way_is = sym (ap frames_in first) ∙ is.down.written.frames_are

    others_written : ArePieces n (d.came ++ x.down) (frames_in others)
    others_written = record { pieces = others; are = ap (λ c. c ++ x.down) came ∙ left; frames_are = refl; fit = (subst (AllFit n) first is.down.written.fit).1 }

    others_carried : AreCarried (frames_in others)
    others_carried = (let all : AreCarried (f ∷ frames_in others) = subst AreCarried (sym way_is) is.down.carried in all.1)

    still_sent : AreSent n (x.up ++ d.leaving.items) d.unsent (frames_left (j.up ++ lefts_of m false j.session))
    still_sent = sent_so n (frames_left (j.up ++ lefts_of m false j.session)) refl h.7 (sent_on n m false x j sound.unreturned is d.leaving.items h.3 h.5 h.6 h.8)

    delivers : (fs : List Frame) → j.down ≡ f ∷ fs → AreWithStrays (hear_behind f (hearing j.session)) (frames_in others) fs → GoesOn n [] (with_client d x) j
    delivers fs list strays =
        let sound_too : Sound (with_asked m false j) = subst Sound (asks_run m false j) (sound_run (asks m false) j sound) in
        let taken : is_stray f w ≡ false = unstray (with_asked m false j) f fs list sound_too in
        let is_next : heard f w ≡ next w (event.Receive f) = ap (λ b. cond b w (next w (event.Receive f))) taken in
        let here : IsJoined n (with_client d x) (deliver_first by_machine (f ∷ fs) (with_asked m false j)) = record {
          most = most ∙ is.most;
          session = h.2 ∙ (ap (λ v. heard f (after_requests m false v)) is.session ∙ is_next);
          broker = is.broker;
          up = still_sent;
          down = record {
            way = frames_in others;
            written = others_written;
            carried = others_carried;
            strays = strays_less (frames_in others) fs (hear_behind f (hearing j.session)) (hearing (next w (event.Receive f))) (less_then (hear_behind f (hearing j.session)) (hear_behind f (hearing w)) (hearing (next w (event.Receive f))) (less_behind f (hearing j.session) (hearing w) (asks_less m false j.session)) (frame_less w f)) strays;
            few = let all = is.down.few in let long = ap length way_is in let shorter = ap length list in omega (arith, all, long, shorter);
          };
        } in
        let delivered : IsJoined n (with_client d x) (after by_machine step.Deliver (with_asked m false j)) = subst (λ fs. IsJoined n (with_client d x) (deliver_first by_machine fs (with_asked m false j))) (sym list) here in
        record {
          steps = asks m false ++ step.Deliver ∷ [];
          joined = subst (IsJoined n (with_client d x)) (sym (run_append by_machine (asks m false) (step.Deliver ∷ []) j ∙ ap (after by_machine step.Deliver) (asks_run m false j))) delivered;
          dealt_is = deals_append (asks m false) (step.Deliver ∷ []) j ∙ ap (λ ds. map as_dealt ds ++ []) (asks_quiet m false j);
        }

    passes_by : is_part f ≡ true → hears_on (hearing j.session) (channel_of f) ≡ false → AreWithStrays (hearing j.session) (frames_in others) j.down → GoesOn n [] (with_client d x) j
    passes_by part deaf strays =
        let here : IsJoined n (with_client d x) (with_asked m false j) = record {
          most = most ∙ is.most;
          session = h.2 ∙ (ap (λ v. heard f (after_requests m false v)) is.session ∙ part_heard f w part (less_on (hearing j.session) (hearing w) (channel_of f) (asks_less m false j.session) deaf));
          broker = is.broker;
          up = still_sent;
          down = record { way = frames_in others; written = others_written; carried = others_carried; strays = strays_less (frames_in others) j.down (hearing j.session) (hearing w) (asks_less m false j.session) strays; few = let all = is.down.few in let long = ap length way_is in omega (arith, all, long) };
        } in
        record {
          steps = asks m false;
          joined = subst (IsJoined n (with_client d x)) (sym (asks_run m false j)) here;
          dealt_is = ap (map as_dealt) (asks_quiet m false j);
        }

    comes_in : GoesOn n [] (with_client d x) j
    comes_in =
        let strays : AreWithStrays (hearing j.session) (f ∷ frames_in others) j.down = subst (λ v. AreWithStrays (hearing j.session) v j.down) (sym way_is) is.down.strays in
        elim strays [ inl s ↦ passes_by s.0 s.1 s.2 | inr s ↦ delivers s.0 s.1 s.2 ]

  turn_goes : (o : Option Frame) → IsTurnOf o x.client d → GoesOn n [] (with_client d x) j
  turn_goes o t = by o t.1 t.4
    where
      by : (o : Option Frame) → IsHead x.client.came o t.0 x.client.blocked d.blocked → TurnLeaves o x.client d → GoesOn n [] (with_client d x) j
      by None (inl beat) l = let first = beat_first n x.client.came x.down is.down.written.pieces t.0 is.down.written.fit is.down.written.are beat.0 in passed first.0 t.0 Beat first.1 refl first.2 t.2 t.3 l.0 l.1 l.3
      by None (inr says) l = let first = notice_first n x.client.came x.down is.down.written.pieces d.blocked t.0 is.down.written.fit is.down.written.are says in passed first.others t.0 (Notice first.blocked first.octets) first.is refl first.left t.2 t.3 l.0 l.1 l.3
      by (Some f) frame l = let first = came_first n x j is f t.0 frame.0 in comes_in f t.0 first.0 first.1 first.2 t.2 t.3 l

  still_goes : d ≡ x.client → GoesOn n [] (with_client d x) j
  still_goes e = record { steps = []; dealt_is = refl; joined = subst (λ c. IsJoined n (with_client c x) j) (sym e) is }

  stop_goes : (s : Status) → Stops s false x.client d → SameElse x.client d → 0 < d.left → GoesOn n [] (with_client d x) j
  stop_goes s h e alive = stops_go n x (with_client d x) j sound.unreturned is (record { broker = refl; up = refl; down = refl; besides = refl }) alive s false h e

  -- the last turn, whatever its status
  last_goes : (s : Status) → Turns s x.client d → 0 < d.left → GoesOn n [] (with_client d x) j
  last_goes status.Done h alive = turn_goes h.0 h.1
  last_goes status.Refused h alive = turn_goes (Some h.0) h.1
  last_goes status.Pending h alive = still_goes h.2
  last_goes status.Malformed h alive = still_goes h.2
  last_goes status.TooLong (inl h) alive = still_goes h.1
  last_goes status.TooLong (inr h) alive = stop_goes status.TooLong h.0 h.1 alive
  last_goes status.Kept h alive = stop_goes status.NoMemory h.0 h.1 alive
  last_goes status.Ended h alive = stop_goes status.Ended h.0 h.1 alive
  last_goes _ h alive = absurd h

-- ---- all turns

pub turns_go : (n k : ℕ) (x : Net) (j : Joint World) → Sound j → IsJoined n x j → (d : Client) → ComeAll k x.client d → GoesOn n [] (with_client d x) j
unfolding ComeAll
turns_go n zero x j sound is d h = record { steps = []; dealt_is = refl; joined = subst (λ c. IsJoined n (with_client c x) j) (sym h) is }
turns_go n (suc k) x j sound is d h =
    let more : GoesOn n [] (with_client h.0 x) j = turns_go n k x j sound is h.0 h.1 in
    let one : GoesOn n [] (with_client d x) (run by_machine more.steps j) = turn_goes n (with_client h.0 x) (run by_machine more.steps j) (sound_run more.steps j sound) more.joined d h.2.0 h.2.1 in
    goes_both n [] [] (with_client h.0 x) (with_client d x) j more one

module _ (n : ℕ) (x : Net) (j : Joint World) (sound : Sound j) (is : IsJoined n x j) (d : Client) (alive : 0 < d.left) where
  cut_goes : (s : Status) → (k : ℕ) × ((e : Client) × (ComeAll k x.client e × Turns s e d)) → GoesOn n [] (with_client d x) j
  cut_goes s h =
      let first : GoesOn n [] (with_client h.1.0 x) j = turns_go n h.0 x j sound is h.1.0 h.1.1.0 in
      let last : GoesOn n [] (with_client d x) (run by_machine first.steps j) = last_goes n (with_client h.1.0 x) (run by_machine first.steps j) (sound_run first.steps j sound) first.joined d s h.1.1.1 alive in
      goes_both n [] [] (with_client h.1.0 x) (with_client d x) j first last

  runs_go : (s : Status) → Runs s x.client d → GoesOn n [] (with_client d x) j
  runs_go status.Done h = turns_go n h.0 x j sound is d h.1.0
  runs_go status.Refused h = cut_goes status.Refused h
  runs_go status.NotInGrammar h = cut_goes status.NotInGrammar h
  runs_go status.NoMemory h = cut_goes status.NoMemory h
  runs_go status.Ended h = cut_goes status.Ended h
  runs_go status.Malformed h = cut_goes status.Malformed h
  runs_go status.TooLong h = cut_goes status.TooLong h
  runs_go status.Closed h = cut_goes status.Closed h
  runs_go status.Pending h = cut_goes status.Pending h
  runs_go status.Gone h = cut_goes status.Gone h
  runs_go status.Kept h = cut_goes status.Kept h

-- ---- one act

module _ (n : ℕ) (x y : Net) (j : Joint World) (sound : Sound j) (is : IsJoined n x j) where
  -- once more came
  pub longer_joined : (octets : List ℕ) (b : Client) (down : List ℕ) → IsLonger octets x.client b → x.down ≡ octets ++ down → IsJoined n (record { client = b; broker = x.broker; up = x.up; down = down; besides = x.besides }) j
  longer_joined octets b down longer is_down =
      let all : b.came ++ down ≡ x.client.came ++ x.down = ap (λ c. c ++ down) longer.1 ∙ (append_assoc x.client.came octets down ∙ ap (λ d. x.client.came ++ d) (sym is_down)) in
      record {
        most = longer.4 ∙ is.most;
        session = longer.2 ∙ is.session;
        broker = is.broker;
        up = sent_so n (frames_left j.up) (ap (λ l. x.up ++ l) longer.3) longer.7 is.up;
        down = coming_as n (x.client.came ++ x.down) (b.came ++ down) (hearing j.session) x.besides x.besides j.down all refl is.down;
      }

  kept_goes : (octets : List ℕ) (s : Status) → (b : Client) × (IsLonger octets x.client b × Runs s b y.client) → y.broker ≡ x.broker → y.up ≡ x.up → x.down ≡ octets ++ y.down → y.besides ≡ x.besides → 0 < y.client.left → GoesOn n [] y j
  kept_goes octets s h broker up down besides alive =
      let between : Net = record { client = h.0; broker = x.broker; up = x.up; down = y.down; besides = x.besides } in
      let g : GoesOn n [] (with_client y.client between) j = runs_go n between j sound (longer_joined octets h.0 y.down h.1.0 down) y.client alive s h.1.1 in
      record {
        steps = g.steps;
        dealt_is = g.dealt_is;
        joined = record {
          most = g.joined.most;
          session = g.joined.session;
          broker = broker ∙ g.joined.broker;
          up = sent_so n (frames_left (run by_machine g.steps j).up) (ap (λ u. u ++ y.client.leaving.items) up) refl g.joined.up;
          down = coming_as n (y.client.came ++ y.down) (y.client.came ++ y.down) (hearing (run by_machine g.steps j).session) x.besides y.besides (run by_machine g.steps j).down refl besides g.joined.down;
        };
      }

  handed_goes : (octets : List ℕ) (s : Status) → Receives s octets x.client y.client → y.broker ≡ x.broker → y.up ≡ x.up → x.down ≡ kept_by s octets ++ y.down → y.besides ≡ x.besides → 0 < y.client.left → GoesOn n [] y j
  handed_goes octets status.NoMemory h broker up down besides alive = no_step n x y j is (record { broker = broker; up = up; down = sym down; besides = besides }) h.3 h.0
  handed_goes octets status.Done h broker up down besides alive = kept_goes octets status.Done h broker up down besides alive
  handed_goes octets status.Refused h broker up down besides alive = kept_goes octets status.Refused h broker up down besides alive
  handed_goes octets status.NotInGrammar h broker up down besides alive = kept_goes octets status.NotInGrammar h broker up down besides alive
  handed_goes octets status.Ended h broker up down besides alive = kept_goes octets status.Ended h broker up down besides alive
  handed_goes octets status.Malformed h broker up down besides alive = kept_goes octets status.Malformed h broker up down besides alive
  handed_goes octets status.TooLong h broker up down besides alive = kept_goes octets status.TooLong h broker up down besides alive
  handed_goes octets status.Closed h broker up down besides alive = kept_goes octets status.Closed h broker up down besides alive
  handed_goes octets status.Pending h broker up down besides alive = kept_goes octets status.Pending h broker up down besides alive
  handed_goes octets status.Gone h broker up down besides alive = kept_goes octets status.Gone h broker up down besides alive
  handed_goes octets status.Kept h broker up down besides alive = kept_goes octets status.Kept h broker up down besides alive

  pub act_goes : IsQuiet j → (a : Act) → Does a x y → 0 < y.client.left → GoesOn n (dealt_in a) y j
  act_goes quiet (Calls k) h alive = call_goes n x y j sound.unreturned is (record { broker = h.1; up = h.2; down = h.3; besides = h.4 }) alive k h.0
  act_goes quiet Leaves h alive = record {
    steps = [];
    dealt_is = refl;
    joined = record {
      most = h.0.4 ∙ is.most;
      session = h.0.1 ∙ is.session;
      broker = h.1 ∙ is.broker;
      up = sent_so n (frames_left j.up) (ap (λ l. y.up ++ l) h.0.0 ∙ (append-nil y.up ∙ h.2)) h.0.7 is.up;
      down = coming_as n (x.client.came ++ x.down) (y.client.came ++ y.down) (hearing j.session) x.besides y.besides j.down (ap (λ c. c ++ y.down) h.0.3 ∙ ap (λ d. x.client.came ++ d) h.3) h.4 is.down;
    };
  }
  act_goes quiet Beats h alive =
      let all : y.up ++ y.client.leaving.items ≡ (x.up ++ x.client.leaving.items) ++ around 8 0 [] =
      ap (λ (c : Client). y.up ++ c.leaving.items) h.1 ∙ (ap (λ l. y.up ++ l) h.0 ∙ (append-nil y.up ∙ (h.3 ∙ ap (λ u. u ++ around 8 0 []) (sym (ap (λ l. x.up ++ l) h.0 ∙ append-nil x.up))))) in
      record {
        steps = [];
        dealt_is = refl;
        joined = record {
          most = ap (λ (c : Client). c.frame_max) h.1 ∙ is.most;
          session = ap (λ (c : Client). c.session) h.1 ∙ is.session;
          broker = h.2 ∙ is.broker;
          up = record {
            on_way = is.up.on_way;
            written = subst (λ fs. ArePieces n (y.up ++ y.client.leaving.items) fs) (append-nil is.up.on_way) (subst (λ os. ArePieces n os (is.up.on_way ++ [])) (sym all) (with_piece n (x.up ++ x.client.leaving.items) is.up.on_way Beat is.up.written tt));
            all = is.up.all ∙ ap (λ (c : Client). is.up.on_way ++ held_frames c.unsent) (sym h.1);
          };
          down = coming_as n (x.client.came ++ x.down) (y.client.came ++ y.down) (hearing j.session) x.besides y.besides j.down (ap (λ (c : Client). c.came ++ y.down) h.1 ∙ ap (λ d. x.client.came ++ d) h.4) h.5 is.down;
        };
      }
  act_goes quiet (Comes octets s) h alive = handed_goes octets s h.0 h.1 h.2 h.3 h.4 alive
  act_goes quiet (Reads p) h alive = reads_goes n x y j is p h.0 h.1 h.2 h.3
  act_goes quiet (Sends p) h alive = sends_goes n x y j is h.1 h.2 p h.0 h.3 h.4
  act_goes quiet (Strays f) h alive = record { steps = []; dealt_is = refl; joined = strays_joined n x y j is h.1 h.3 f (quiet_both j sound quiet) h.0.0 h.0.1 h.2 h.4 h.5 }

-- ---- where a run begins

pub new_joined : (n : ℕ) (x : Net) → IsNewNet n x → IsJoined n x (new_joint (new_world n) n)
new_joined n x new = record {
  most = new.client.1;
  session = new.client.0;
  broker = new.broker;
  up = record { on_way = []; written = record { pieces = []; are = ap (λ u. u ++ x.client.leaving.items) new.up ∙ new.client.2; frames_are = refl; fit = tt }; all = ap (λ v. held_frames v) (sym new.client.7) };
  down = record { way = []; written = record { pieces = []; are = ap (λ c. c ++ x.down) new.client.3 ∙ new.down; frames_are = refl; fit = tt }; carried = tt; strays = refl; few = omega arith };
}
