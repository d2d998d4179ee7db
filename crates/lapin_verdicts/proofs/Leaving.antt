-- A frame request keeps what a session keeps of a channel: what leaves is numbered as its tag is.
use Rattle.std.proofs.Common.{◌≡◌, ◌∙◌, ℕ, ◌≤◌, ◌<◌, ◌==◌, Bool, true, false, cond, ◌&&◌, List, [], ◌∷◌, ◌++◌, map, length, Option, Some, None, ◌⊎◌, inl, inr, refl, sym, ap, subst, append-nil, arith, eq-eqb}
use Rattle.std.specs.List.{list_any, fold, filter, count_by}
use Rattle.std.specs.Option.{option_map}
use Rattle.std.proofs.lemmas.Bool.Decides.{eqb_tells}
use Rattle.std.proofs.lemmas.List.Sums.{fold-append}
use Rattle.std.proofs.lemmas.List.Folds.{list_any-append}
use Rattle.lapin_types.specs.declared.leaving.Publish.{Publish}
use Rattle.lapin_types.specs.Types.{Frame, Method}
use Rattle.lapin_types.specs.Types.frame
use Rattle.lapin_types.specs.Types.method
use Rattle.lapin_types.specs.Types.basic
use Rattle.lapin_types.specs.Types.channel
use Rattle.lapin_types.specs.Types.connection
use Rattle.lapin_types.specs.Types.confirm
use Rattle.lapin_types.specs.Types.channel_state as state
use Rattle.lapin_rules.specs.declared.phases.ChannelPhase.{ChannelPhase}
use Rattle.lapin_rules.specs.declared.phases.ChannelPhase.TheVariants as phase
use Rattle.lapin_rules.specs.declared.phases.ConnectionPhase.{ConnectionPhase}
use Rattle.lapin_rules.specs.ConfirmMarks.{ConfirmMark}
use Rattle.lapin_rules.specs.ConfirmMarks as mark
use Rattle.lapin_rules.specs.Select.{is_select}
use Rattle.lapin_rules.specs.Words.{after}
use Rattle.lapin_rules.specs.ConfirmReadings.{adds, begins, selects, leaves_on, opening, added, channel_of, has_left, outcome_at, is_selected, place}
use Rattle.lapin_rules.specs.Phases.{is_up, is_live, channel_state, phase_in}
use Rattle.lapin_rules.specs.Frames.{MethodEntry, RestEntry}
use Rattle.lapin_rules.specs.Handing.{after_handing, sent}
use Rattle.lapin_rules.specs.ChannelClose.{close_sent, phases_sent}
use Rattle.lapin_rules.specs.ConnectionClose.{link_sent}
use Rattle.lapin_rules.specs.Drops.{is_on, is_rest_of, publish_channel, frame_channel}
use Rattle.lapin_rules.specs.Wire.{Wire, phase_of, receives_on}
use Rattle.lapin_tables.specs.ByChannel.{at_channel, on_channel}
use Rattle.lapin_tables.proofs.Channels.{at-on_same, at-on_other}
use Rattle.lapin_broker.specs.Frames.{channel_of as broker_channel}
use Rattle.lapin_verdicts.specs.Deeds.{is_open}
use Rattle.lapin_verdicts.specs.Publishes.{Message, Tally, no_tally, with_method, tally_after}
use Rattle.lapin_verdicts.specs.Verdicts.{at_place}
use Rattle.lapin_verdicts.specs.Session.{IsPending, whole_tally, rest_on, next_on}
use Rattle.lapin_verdicts.proofs.Marks.{pending_back, channel-append, many-append}
use Rattle.lapin_effects.specs.Effects.{live, hears, AreQuiet, open_entry}
use Rattle.lapin_verdicts.proofs.Turns.{is_left, turns_on, left-same, waits_back, opening-longer, count-append}
use Rattle.lapin_verdicts.proofs.Numbering.{ArePlain, is_own, own, is_opener, is_publish, is_content, Queue, AreRest, Unsent, Going, Inv, stands_more, queue-more}
use Rattle.std.proofs.lemmas.Bool.{or_parts}
use Rattle.lapin_tables.proofs.Bools.{or_true}
use Rattle.lapin_rules.proofs.PhaseLaws.{close_leaves_up}
use Rattle.lapin_verdicts.proofs.Opens.{content_open}

-- ---- what leaves moves no channel's liveness

closed_alike : (p : ChannelPhase) → (is_live (close_sent p) ≡ is_live p) × (channel_state (close_sent p) ≡ channel_state p)
closed_alike (phase.Closing who sent) = (refl, refl)
closed_alike phase.Closed = (refl, refl)
closed_alike phase.Opening = (refl, refl)
closed_alike (phase.Open paused) = (refl, refl)
closed_alike phase.Crossed = (refl, refl)

-- the channel's phase in a table, and in another
pub record Alike (c : ℕ) (all other : List (ℕ × ChannelPhase)) : Type 0 where
  pub lives : is_live (phase_in (at_channel c other)) ≡ is_live (phase_in (at_channel c all))
  pub state : channel_state (phase_in (at_channel c other)) ≡ channel_state (phase_in (at_channel c all))

pub alike_same : (c : ℕ) (all : List (ℕ × ChannelPhase)) → Alike c all all
alike_same c all = record { lives = refl; state = refl }

alike_in : (c : ℕ) (all : List (ℕ × ChannelPhase)) (o : Option ChannelPhase) → (is_live (phase_in (option_map close_sent o)) ≡ is_live (phase_in o)) × (channel_state (phase_in (option_map close_sent o)) ≡ channel_state (phase_in o))
alike_in c all None = (refl, refl)
alike_in c all (Some p) = closed_alike p

pub alike_closed : (c d : ℕ) (all : List (ℕ × ChannelPhase)) → Alike c all (on_channel d close_sent all)
alike_closed c d all = elim (eqb_tells d c) [
  | inl y ↦
      let at : at_channel c (on_channel d close_sent all) ≡ option_map close_sent (at_channel c all) = subst (λ v. at_channel c (on_channel v close_sent all) ≡ option_map close_sent (at_channel c all)) (sym y.1) (at-on_same c close_sent all) in
      let z = alike_in c all (at_channel c all) in
      record { lives = ap (λ o. is_live (phase_in o)) at ∙ z.0; state = ap (λ o. channel_state (phase_in o)) at ∙ z.1 }
  | inr y ↦
      let at : at_channel c (on_channel d close_sent all) ≡ at_channel c all = at-on_other d c close_sent all y.1 in
      record { lives = ap (λ o. is_live (phase_in o)) at; state = ap (λ o. channel_state (phase_in o)) at }
]

sent_alike : (c d : ℕ) (m : Method) (all : List (ℕ × ChannelPhase)) → Alike c all (phases_sent (frame.Method d m) all)
sent_alike c d (method.Channel (channel.Close code text class number)) all = alike_closed c d all
sent_alike c d _ all = alike_same c all

link_up : (d : ℕ) (m : Method) (l : ConnectionPhase) → is_up (link_sent (frame.Method d m) l) ≡ is_up l
link_up d (method.Connection (connection.Close code text class number)) l = close_leaves_up l
link_up d _ l = refl

-- what stays where neither the connection's nor a channel's liveness moves
pub record Still (b b' : Wire) : Type 0 where
  pub up : is_up b'.link ≡ is_up b.link
  pub alike : (c : ℕ) → Alike c b.phases b'.phases

pub still_live : (c : ℕ) (b b' : Wire) → Still b b' → live c b' ≡ live c b
still_live c b b' s = ap (λ v. v && is_live (phase_of c b')) s.up ∙ ap (λ v. is_up b.link && v) (s.alike c).lives

pub still_hears : (c : ℕ) (b b' : Wire) → Still b b' → hears c b' ≡ hears c b
still_hears c b b' s = ap (λ v. receives_on (cond v (cond (c == 0) state.Base (channel_state (phase_of c b'))) state.Down)) s.up ∙ ap (λ v. receives_on (cond (is_up b.link) (cond (c == 0) state.Base v) state.Down)) (s.alike c).state

-- ---- what keeps all but what stands of the opening

pub record Moved (n c : ℕ) (msgs : List Message) (b b' : Wire) (ms xs : List ConfirmMark) : Type 0 where
  pub still : Still b b'
  pub max : b'.frame_max ≡ b.frame_max
  pub published : b'.published ≡ b.published
  pub plain : ArePlain b'.methods
  pub contents : (d : ℕ) × AreRest d b'.rest
  pub added_same : added (ms ++ xs) ≡ added ms
  pub queue : Queue msgs (ms ++ xs) 0 b'.publishes
  pub accepted : (k : ℕ) → has_left k (ms ++ xs) ≡ true → (0 < k) × (k ≤ added ms)
  pub opens : (k : ℕ) → 0 < k → k ≤ added ms → channel_of k ms ≡ c → outcome_at k (ms ++ xs) ≡ None → hears c b ≡ true
  pub shut_down : is_up b.link ≡ false → (b'.publishes ≡ []) × (b'.rest ≡ []) × AreQuiet b'.methods
  pub publishes : hears c b ≡ false → list_any (is_on publish_channel c) b'.publishes ≡ false
  pub begun_rest : live c b ≡ false → is_rest_of c b'.rest ≡ false
  pub quiet : live c b ≡ false → AreQuiet (own c b')

pub moved_inv : (n c : ℕ) (msgs : List Message) (b b' : Wire) (ms xs : List ConfirmMark) (fs fs' : List Frame) → Moved n c msgs b b' ms xs → Inv n c msgs b ms fs → (live c b ≡ true → Unsent c (ms ++ xs) b' ⊎ Going c msgs (ms ++ xs) b' fs') → Inv n c msgs b' (ms ++ xs) fs'
moved_inv n c msgs b b' ms xs fs fs' m i stands =
    let lives = still_live c b b' m.still in
    let more = m.added_same in
    record {
      max = m.max ∙ i.max;
      plain = m.plain;
      contents = m.contents;
      counted = more ∙ (i.counted ∙ sym m.published);
      written = i.written ∙ sym m.published;
      queue = m.queue;
      accepted = λ k l. (let a = m.accepted k l in let z = a.0 in let le = a.1 in (z, omega (arith, le, more)));
      opens = λ k z le on w. (let le' : k ≤ added ms = omega (arith, le, more) in still_hears c b b' m.still ∙ m.opens k z le' (sym (channel-append k ms xs z le') ∙ on) w);
      shut_down = λ d. m.shut_down (sym m.still.up ∙ d);
      publishes = λ l. m.publishes (sym (still_hears c b b' m.still) ∙ l);
      begun_rest = λ l. m.begun_rest (sym lives ∙ l);
      quiet = λ l. m.quiet (sym lives ∙ l);
      begun = λ l. list_any-append (begins c) ms xs ∙ rw (i.begun (sym lives ∙ l)) refl;
      stands = λ l. stands (sym lives ∙ l);
    }

pub nil_marks : (n c : ℕ) (msgs : List Message) (b : Wire) (ms : List ConfirmMark) (fs : List Frame) → Inv n c msgs b ms fs → Inv n c msgs b (ms ++ []) fs
nil_marks n c msgs b ms fs i = subst (λ v. Inv n c msgs b v fs) (sym (append-nil ms)) i

-- a wire with these lists
abbrev pub Lay : List RestEntry → List MethodEntry → List Publish → Wire → Wire
Lay rs es ps b = record b { rest = rs; methods = es; publishes = ps }

-- ---- a frame of the begun publish leaves

same_channel : (g : Frame) → broker_channel g ≡ frame_channel g
same_channel (frame.Method c m) = refl
same_channel (frame.Header c x) = refl
same_channel (frame.Body c bytes) = refl

rest_tail : (c d : ℕ) (fs : List RestEntry) → AreRest d fs → (d == c) ≡ true → rest_on c fs ≡ map (λ (f : RestEntry). f.frame) fs
rest_tail c d [] h e = refl
rest_tail c d (f ∷ fs) h e = rw (ap (λ v. v == c) h.0 ∙ e) refl

rest_away : (c d : ℕ) (fs : List RestEntry) → AreRest d fs → (d == c) ≡ false → (rest_on c fs ≡ []) × (is_rest_of c fs ≡ false)
rest_away c d [] h e = (refl, refl)
rest_away c d (f ∷ fs) h e = rw (ap (λ v. v == c) h.0 ∙ e) (refl, refl)

-- the tally is the same, whether a frame waits or has left
tally_rest : (c d : ℕ) (f : RestEntry) (rs : List RestEntry) (fs : List Frame) → AreRest d (f ∷ rs) → fold tally_after (fold (next_on c) no_tally (fs ++ f.frame ∷ [])) (rest_on c rs) ≡ fold tally_after (fold (next_on c) no_tally fs) (rest_on c (f ∷ rs))
tally_rest c d f rs fs h =
    let y : Tally = fold (next_on c) no_tally fs in
    let one : fold (next_on c) no_tally (fs ++ f.frame ∷ []) ≡ next_on c y f.frame = fold-append (next_on c) no_tally fs (f.frame ∷ []) in
    let on : broker_channel f.frame ≡ d = same_channel f.frame ∙ h.0 in
    ap (λ v. fold tally_after v (rest_on c rs)) one ∙ elim (eqb_tells d c) [
      | inl z ↦
          let here : (broker_channel f.frame == c) ≡ true = ap (λ v. v == c) on ∙ z.0 in
          let step : next_on c y f.frame ≡ tally_after y f.frame = rw (here, content_open f.frame h.1) refl in
          ap (λ v. fold tally_after v (rest_on c rs)) step ∙ (ap (fold tally_after (tally_after y f.frame)) (rest_tail c d rs h.2 z.0) ∙ ap (fold tally_after y) (sym (rest_tail c d (f ∷ rs) h z.0)))
      | inr z ↦
          let there : (broker_channel f.frame == c) ≡ false = ap (λ v. v == c) on ∙ z.0 in
          let step : next_on c y f.frame ≡ y = rw there refl in
          ap (λ v. fold tally_after v (rest_on c rs)) step ∙ (ap (fold tally_after y) (rest_away c d rs h.2 z.0).0 ∙ ap (fold tally_after y) (sym (rest_away c d (f ∷ rs) h z.0).0))
    ]

-- what the frame leaves of the wire
content_stays : (g : Frame) (b : Wire) → is_content g ≡ true → (link_sent g b.link ≡ b.link) × (phases_sent g b.phases ≡ b.phases)
content_stays (frame.Method c m) b h = absurd cc
content_stays (frame.Header c x) b h = (refl, refl)
content_stays (frame.Body c bytes) b h = (refl, refl)

pub still_by : (b b' : Wire) → b'.link ≡ b.link → b'.phases ≡ b.phases → Still b b'
still_by b b' l p = record { up = ap is_up l; alike = λ c. subst (Alike c b.phases) (sym p) (alike_same c b.phases) }

pub rest_kept : (n c : ℕ) (t : ℕ → Bool) (msgs : List Message) (f : RestEntry) (rs : List RestEntry) (es : List MethodEntry) (ps : List Publish) (b : Wire) (ms : List ConfirmMark) (fs : List Frame) → Inv n c msgs (Lay (f ∷ rs) es ps b) ms fs → Inv n c msgs (after_handing t (Lay (f ∷ rs) es ps b)) (ms ++ []) (fs ++ f.frame ∷ [])
rest_kept n c t msgs f rs es ps b ms fs i =
    let B : Wire = Lay (f ∷ rs) es ps b in
    let B' : Wire = after_handing t B in
    let d : ℕ = i.contents.0 in
    let all : AreRest d (f ∷ rs) = i.contents.1 in
    let stay = content_stays f.frame b all.1 in
    let off : is_rest_of c (f ∷ rs) ≡ false → is_rest_of c rs ≡ false = λ o. elim (eqb_tells d c) [
      | inl z ↦ (let w : true ≡ false = sym (ap (λ v. v == c) all.0 ∙ z.0) ∙ o in absurd cc)
      | inr z ↦ (rest_away c d rs all.2 z.0).1
    ] in
    nil_marks n c msgs B' ms (fs ++ f.frame ∷ []) (subst (λ v. Inv n c msgs B' v (fs ++ f.frame ∷ [])) (append-nil ms) (moved_inv n c msgs B B' ms [] fs (fs ++ f.frame ∷ []) (record {
      still = still_by B B' stay.0 stay.1;
      max = refl;
      published = refl;
      plain = i.plain;
      contents = (d, all.2);
      added_same = ap added (append-nil ms);
      queue = subst (λ v. Queue msgs v 0 ps) (sym (append-nil ms)) i.queue;
      accepted = λ k l. i.accepted k (ap (has_left k) (sym (append-nil ms)) ∙ l);
      opens = λ k z le on w. i.opens k z le on (ap (outcome_at k) (sym (append-nil ms)) ∙ w);
      shut_down = λ dn. (let x = (i.shut_down dn).1 in absurd cc);
      publishes = i.publishes;
      begun_rest = λ l. off (i.begun_rest l);
      quiet = i.quiet;
    }) i (λ l. subst (λ v. Unsent c v B' ⊎ Going c msgs v B' (fs ++ f.frame ∷ [])) (sym (append-nil ms)) (elim (i.stands l) [
      | inl u ↦ inl (record { before = u.before; behind = u.behind; ticket = u.ticket; is = u.is; quiet = u.quiet; shut = u.shut; unselected = u.unselected; unplaced = u.unplaced; none = u.none; rest = off u.rest })
      | inr g ↦
          let same : whole_tally c B' (fs ++ f.frame ∷ []) ≡ whole_tally c B fs = tally_rest c d f rs fs all in
          inr (record {
            shut = g.shut;
            selected = ap (λ (y : Tally). y.selected) same ∙ g.selected;
            idle = ap (λ (y : Tally). y.coming) same ∙ g.idle;
            count = ap (λ (y : Tally). length y.numbered) same ∙ g.count;
            taken = λ k u p. (let was = g.taken k u p in (was.0, ap (λ (y : Tally). at_place u y.numbered) same ∙ was.1, was.2));
          })
    ]))))

-- ---- a method leaves

abbrev Marks : ℕ → Bool → List ConfirmMark
Marks d v = cond v (mark.SelectLeft d ∷ []) []

marks_unleft : (d : ℕ) (v : Bool) → list_any is_left (Marks d v) ≡ false
marks_unleft d true = refl
marks_unleft d false = refl

marks_added : (d : ℕ) (v : Bool) (ms : List ConfirmMark) → added (ms ++ Marks d v) ≡ added ms
marks_added d true ms = let e = many-append adds ms (mark.SelectLeft d ∷ []) in omega (arith, e)
marks_added d false ms = ap added (append-nil ms)

marks_turn : (c d : ℕ) (v : Bool) → (d == c) ≡ false → list_any (turns_on c) (Marks d v) ≡ false
marks_turn c d true h = rw h refl
marks_turn c d false h = refl

with_method_is : (m : Method) (y : Tally) → is_publish m ≡ false → with_method m y ≡ cond (is_select m) (record y { selected = true }) y
with_method_is (method.Basic (basic.Publish exchange key mandatory immediate)) y h = absurd cc
with_method_is (method.Confirm (confirm.Select nowait)) y h = refl
with_method_is _ y h = refl

-- a select that leaves selects the opening, and takes no place
select_selected : (c : ℕ) (ms : List ConfirmMark) → list_any (begins c) ms ≡ true → is_selected c (ms ++ mark.SelectLeft c ∷ []) ≡ true
select_selected c ms b = ap (list_any (selects c)) (opening-longer c ms (mark.SelectLeft c ∷ []) refl b) ∙ (list_any-append (selects c) (opening c ms) (mark.SelectLeft c ∷ []) ∙ rw (eq-eqb c c refl) (or_true (list_any (selects c) (opening c ms))))

after-select : (c : ℕ) (o : List ConfirmMark) → count_by (leaves_on c) (after (selects c) (o ++ mark.SelectLeft c ∷ [])) ≡ count_by (leaves_on c) (after (selects c) o)
after-select c [] = rw (eq-eqb c c refl) refl
after-select c (m ∷ o) = elim (selects c m) as (λ b. count_by (leaves_on c) (cond b (o ++ mark.SelectLeft c ∷ []) (after (selects c) (o ++ mark.SelectLeft c ∷ []))) ≡ count_by (leaves_on c) (cond b o (after (selects c) o))) [
  | true ↦ count-append (leaves_on c) o (mark.SelectLeft c ∷ []) refl
  | false ↦ after-select c o
]

select_place : (c : ℕ) (ms : List ConfirmMark) → list_any (begins c) ms ≡ true → place c (ms ++ mark.SelectLeft c ∷ []) ≡ place c ms
select_place c ms b = ap (λ o. count_by (leaves_on c) (after (selects c) o)) (opening-longer c ms (mark.SelectLeft c ∷ []) refl b) ∙ after-select c (opening c ms)

pending_then : (c k t : ℕ) (ms xs : List ConfirmMark) → list_any is_left xs ≡ false → ((k : ℕ) → has_left k ms ≡ true → (0 < k) × (k ≤ added ms)) → IsPending c k t (ms ++ xs) → IsPending c k t ms
pending_then c k t ms xs u a p =
    let l : has_left k ms ≡ true = sym (left-same k ms xs u) ∙ p.left in
    pending_back c k t ms xs p (a k l).1 l

quiet_tail : (c : ℕ) (m : MethodEntry) (es : List MethodEntry) → AreQuiet (filter (is_own c) (m ∷ es)) → AreQuiet (filter (is_own c) es)
quiet_tail c m es = elim (m.channel == c) as (λ v. AreQuiet (cond v (m ∷ filter (is_own c) es) (filter (is_own c) es)) → AreQuiet (filter (is_own c) es)) [ true ↦ λ h. h.1 | false ↦ λ h. h ]

module _ (n c : ℕ) (t : ℕ → Bool) (msgs : List Message) (m : MethodEntry) (es : List MethodEntry) (ps : List Publish) (b : Wire) (ms : List ConfirmMark) (fs : List Frame) where
  abbrev B : Wire
  B = Lay [] (m ∷ es) ps b

  abbrev B2 : Wire
  B2 = after_handing t B

  abbrev g : Frame
  g = frame.Method m.channel m.method

  abbrev xs : List ConfirmMark
  xs = Marks m.channel (is_select m.method)

  abbrev y : Tally
  y = fold (next_on c) no_tally fs

  abbrev Stands : Type 0
  Stands = Unsent c (ms ++ xs) B2 ⊎ Going c msgs (ms ++ xs) B2 (fs ++ g ∷ [])

  one : whole_tally c B2 (fs ++ g ∷ []) ≡ next_on c y g
  one = fold-append (next_on c) no_tally fs (g ∷ [])

  -- on another channel
  away : Inv n c msgs B ms fs → (m.channel == c) ≡ false → live c B ≡ true → Stands
  away i off l =
      let own_is : own c B2 ≡ own c B ++ [] = sym (ap (λ v. cond v (m ∷ filter (is_own c) es) (filter (is_own c) es)) off) ∙ sym (append-nil (own c B)) in
      let step : next_on c y g ≡ y = rw off refl in
      elim (stands_more c msgs [] B B2 ms xs fs (record {
        extra = [];
        own_is = own_is;
        shut = refl;
        left = refl;
        off = λ o. o;
        turn = marks_turn c m.channel (is_select m.method) off;
        unleft = marks_unleft m.channel (is_select m.method);
        begun = i.begun l;
        accepted = i.accepted;
      }) (i.stands l)) [
        | inl u ↦ inl u
        | inr w ↦
            let same : whole_tally c B2 (fs ++ g ∷ []) ≡ whole_tally c B2 fs = one ∙ step in
            inr (record {
              shut = w.shut;
              selected = ap (λ (z : Tally). z.selected) same ∙ w.selected;
              idle = ap (λ (z : Tally). z.coming) same ∙ w.idle;
              count = ap (λ (z : Tally). length z.numbered) same ∙ w.count;
              taken = λ k u p. (let was = w.taken k u p in (was.0, ap (λ (z : Tally). at_place u z.numbered) same ∙ was.1, ap (at_place k) (sym (append-nil msgs)) ∙ was.2));
            })
      ]

  -- on this one, where its `channel.open` still waits
  unsent_here : Inv n c msgs B ms fs → (m.channel == c) ≡ true → Unsent c ms B → Stands
  unsent_here i on u = by u.before (sym (ap (λ v. cond v (m ∷ filter (is_own c) es) (filter (is_own c) es)) on) ∙ u.is) u.quiet
    where
      none : (k u' : ℕ) → IsPending c k u' (ms ++ xs) → ⊥
      none k u' p = u.none k u' (pending_then c k u' ms xs (marks_unleft m.channel (is_select m.method)) i.accepted p)

      by : (before : List MethodEntry) → m ∷ filter (is_own c) es ≡ before ++ open_entry c u.ticket ∷ u.behind → AreQuiet before → Stands
      by [] e q =
          let first : m ≡ open_entry c u.ticket = cc in
          let rest : filter (is_own c) es ≡ u.behind = cc in
          let plain : is_select m.method ≡ false = ap (λ (z : MethodEntry). is_select z.method) first in
          let none_marked : ms ++ xs ≡ ms = ap (λ v. ms ++ Marks m.channel v) plain ∙ append-nil ms in
          let opens : is_open g ≡ true = ap (λ (z : MethodEntry). is_open (frame.Method z.channel z.method)) first in
          let step : next_on c y g ≡ no_tally = rw (on, opens) refl in
          let same : whole_tally c B2 (fs ++ g ∷ []) ≡ no_tally = one ∙ step in
          inr (record {
            shut = ap (list_any is_opener) rest ∙ u.shut;
            selected = ap (λ (z : Tally). z.selected) same ∙ sym (ap (is_selected c) none_marked ∙ u.unselected);
            idle = ap (λ (z : Tally). z.coming) same;
            count = ap (λ (z : Tally). length z.numbered) same ∙ sym (ap (place c) none_marked ∙ u.unplaced);
            taken = λ k u' p. absurd (none k u' p);
          })
      by (x ∷ bs) e q =
          let first : m ≡ x = cc in
          let rest : filter (is_own c) es ≡ bs ++ open_entry c u.ticket ∷ u.behind = cc in
          let plain : is_select m.method ≡ false = ap (λ (z : MethodEntry). is_select z.method) first ∙ q.0.select in
          let none_marked : ms ++ xs ≡ ms = ap (λ v. ms ++ Marks m.channel v) plain ∙ append-nil ms in
          inl (record {
            before = bs;
            behind = u.behind;
            ticket = u.ticket;
            is = rest;
            quiet = q.1;
            shut = u.shut;
            unselected = ap (is_selected c) none_marked ∙ u.unselected;
            unplaced = ap (place c) none_marked ∙ u.unplaced;
            none = none;
            rest = refl;
          })

  -- and where it has left
  going_here : Inv n c msgs B ms fs → (m.channel == c) ≡ true → live c B ≡ true → Going c msgs ms B fs → Stands
  going_here i on l w =
      let own_is : m ∷ filter (is_own c) es ≡ own c B = sym (ap (λ v. cond v (m ∷ filter (is_own c) es) (filter (is_own c) es)) on) in
      let shut : list_any is_opener (m ∷ filter (is_own c) es) ≡ false = ap (list_any is_opener) own_is ∙ w.shut in
      let parts = or_parts (is_open g) (list_any is_opener (filter (is_own c) es)) shut in
      let step : next_on c y g ≡ cond (is_select m.method) (record y { selected = true }) y = told_on (broker_channel g == c) (is_open g) on parts.0 ∙ with_method_is m.method y i.plain.0 in
      let same : whole_tally c B2 (fs ++ g ∷ []) ≡ cond (is_select m.method) (record y { selected = true }) y = one ∙ step in
      inr (record {
        shut = parts.1;
        selected = ap (λ (z : Tally). z.selected) same ∙ chosen (is_select m.method);
        idle = ap (λ (z : Tally). z.coming) same ∙ (idle (is_select m.method) ∙ w.idle);
        count = ap (λ (z : Tally). length z.numbered) same ∙ (number (is_select m.method) ∙ (w.count ∙ sym (placed (is_select m.method))));
        taken = λ k u p. (let was = w.taken k u (pending_then c k u ms xs (marks_unleft m.channel (is_select m.method)) i.accepted p) in (was.0, ap (λ (z : Tally). at_place u z.numbered) same ∙ (place_at u (is_select m.method) ∙ was.1), was.2));
      })
    where
      told_on : (v o : Bool) → v ≡ true → o ≡ false → cond v (cond o no_tally (with_method m.method y)) y ≡ with_method m.method y
      told_on v o a e = rw (a, e) refl

      here : m.channel ≡ c
      here = elim (eqb_tells m.channel c) [ inl z ↦ z.1 | inr z ↦ (let q : true ≡ false = sym on ∙ z.0 in absurd cc) ]

      chosen : (v : Bool) → (cond v (record y { selected = true }) y).selected ≡ is_selected c (ms ++ Marks m.channel v)
      chosen true = sym (ap (λ d. is_selected c (ms ++ mark.SelectLeft d ∷ [])) here ∙ select_selected c ms (i.begun l))
      chosen false = w.selected ∙ ap (is_selected c) (sym (append-nil ms))

      idle : (v : Bool) → (cond v (record y { selected = true }) y).coming ≡ y.coming
      idle true = refl
      idle false = refl

      number : (v : Bool) → length (cond v (record y { selected = true }) y).numbered ≡ length y.numbered
      number true = refl
      number false = refl

      place_at : (u : ℕ) (v : Bool) → at_place u (cond v (record y { selected = true }) y).numbered ≡ at_place u y.numbered
      place_at u true = refl
      place_at u false = refl

      placed : (v : Bool) → place c (ms ++ Marks m.channel v) ≡ place c ms
      placed true = ap (λ d. place c (ms ++ mark.SelectLeft d ∷ [])) here ∙ select_place c ms (i.begun l)
      placed false = ap (place c) (append-nil ms)

  pub method_kept : Inv n c msgs B ms fs → Inv n c msgs B2 (ms ++ xs) (fs ++ g ∷ [])
  method_kept i =
      let u = marks_unleft m.channel (is_select m.method) in
      let more = marks_added m.channel (is_select m.method) ms in
      moved_inv n c msgs B B2 ms xs fs (fs ++ g ∷ []) (record {
        still = record { up = link_up m.channel m.method b.link; alike = λ d. sent_alike d m.channel m.method b.phases };
        max = refl;
        published = refl;
        plain = i.plain.1;
        contents = (0, tt);
        added_same = more;
        queue = subst (λ v. Queue v (ms ++ xs) 0 ps) (append-nil msgs) (queue-more msgs [] ms xs 0 ps u (omega (arith, more)) i.queue);
        accepted = λ k l. i.accepted k (sym (left-same k ms xs u) ∙ l);
        opens = λ k z le on w. i.opens k z le on (waits_back k ms xs z le u w).before;
        shut_down = λ d. (let x = i.shut_down d in (x.0, refl, x.2.1));
        publishes = i.publishes;
        begun_rest = λ _. refl;
        quiet = λ l. quiet_tail c m es (i.quiet l);
      }) i (λ l. elim (eqb_tells m.channel c) [
        | inl z ↦ elim (i.stands l) [ inl w ↦ unsent_here i z.0 w | inr w ↦ going_here i z.0 l w ]
        | inr z ↦ away i z.0 l
      ])
