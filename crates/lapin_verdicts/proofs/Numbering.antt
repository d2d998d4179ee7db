-- What a session keeps, whatever its broker does: the publishes that left a channel's opening are numbered as their tags are.
use Rattle.std.proofs.Common.{◌≡◌, ◌∙◌, ℕ, zero, suc, ◌≤◌, ◌<◌, ◌==◌, Bool, true, false, cond, ◌&&◌, List, [], ◌∷◌, ◌++◌, length, Some, None, ◌⊎◌, inl, inr, refl, sym, ap, subst, append-nil, append_assoc, arith}
use Rattle.std.specs.List.{list_any, fold, filter}
use Rattle.std.proofs.lemmas.Bool.{and_parts, or_parts}
use Rattle.std.proofs.lemmas.Bool.Decides.{eqb_tells}
use Rattle.std.proofs.lemmas.List.Folds.{list_any-append}
use Rattle.std.proofs.lemmas.List.Elements.{filter-append}
use Rattle.lapin_types.specs.declared.leaving.Publish.{Publish}
use Rattle.lapin_types.specs.Types.{Frame, Method}
use Rattle.lapin_types.specs.Types.frame
use Rattle.lapin_types.specs.Types.method
use Rattle.lapin_types.specs.Types.basic
use Rattle.lapin_types.specs.Types.channel
use Rattle.lapin_types.specs.Types.channel_state as state
use Rattle.lapin_rules.specs.declared.phases.ChannelPhase.{ChannelPhase}
use Rattle.lapin_rules.specs.declared.phases.ChannelPhase.TheVariants as phase
use Rattle.lapin_rules.specs.ConfirmMarks.{ConfirmMark}
use Rattle.lapin_rules.specs.ConfirmMarks as mark
use Rattle.lapin_rules.specs.ConfirmReadings.{adds, opening, begins, added, channel_of, has_left, outcome_at, is_selected, place}
use Rattle.lapin_rules.specs.Phases.{is_up, is_live, channel_state}
use Rattle.lapin_rules.specs.Frames.{MethodEntry, RestEntry}
use Rattle.lapin_rules.specs.Drops.{is_on, is_rest_of, publish_channel, frame_channel}
use Rattle.lapin_rules.specs.Select.{is_select}
use Rattle.lapin_rules.specs.Wire.{Wire, phase_of, receives_on}
use Rattle.lapin_verdicts.specs.Deeds.{is_open}
use Rattle.lapin_verdicts.specs.Publishes.{Message, Idle, Tally, no_tally, tally_after}
use Rattle.lapin_verdicts.specs.Verdicts.{at_place}
use Rattle.lapin_verdicts.specs.Session.{IsPending, whole_tally, rest_on, next_on}
use Rattle.lapin_verdicts.proofs.Cutting.{message_in}
use Rattle.lapin_verdicts.proofs.Marks.{pending_back, channel-append, many-append}
use Rattle.lapin_effects.specs.Effects.{live, hears, is_special, AreFit, AreQuiet, grows, Same, SameBut, open_entry}
use Rattle.lapin_verdicts.proofs.Turns.{is_left, turns_on, grow_unleft, grow_turns, grow_added, left-same, turn_selected, turn_place, waits_back}
use Rattle.lapin_tables.proofs.Bools.{or_true}

-- ---- what is kept

-- the method opens a channel, or begins a publish
abbrev pub is_opener : MethodEntry → Bool
is_opener m = is_open (frame.Method m.channel m.method)

abbrev pub is_publish : Method → Bool
is_publish (method.Basic (basic.Publish exchange key mandatory immediate)) = true
is_publish _ = false

abbrev pub ArePlain : List MethodEntry → Type 0
ArePlain [] = Unit {0}
ArePlain (m ∷ ms) = (is_publish m.method ≡ false) × ArePlain ms

-- the methods of the channel that wait
abbrev pub is_own : ℕ → MethodEntry → Bool
is_own c m = m.channel == c

abbrev pub own : ℕ → Wire → List MethodEntry
own c b = filter (is_own c) b.methods

-- the publishes that wait are accepted ones that have not left, in the order of their numbers
abbrev pub Queue : List Message → List ConfirmMark → ℕ → List Publish → Type 0
Queue msgs ms low [] = Unit {0}
Queue msgs ms low (q ∷ qs) = (low < q.confirm) × (q.confirm ≤ added ms) × (has_left q.confirm ms ≡ false) × (channel_of q.confirm ms ≡ q.channel) × (at_place q.confirm msgs ≡ Some (message_in q)) × Queue msgs ms q.confirm qs

-- what is left of a begun publish is its header and bodies, on one channel
abbrev pub is_content : Frame → Bool
is_content (frame.Method c m) = false
is_content _ = true

abbrev pub AreRest : ℕ → List RestEntry → Type 0
AreRest d [] = Unit {0}
AreRest d (f ∷ fs) = (frame_channel f.frame ≡ d) × (is_content f.frame ≡ true) × AreRest d fs

-- the opening's `channel.open` still waits
pub record Unsent (c : ℕ) (ms : List ConfirmMark) (b : Wire) : Type 0 where
  pub before : List MethodEntry
  pub behind : List MethodEntry
  pub ticket : ℕ
  pub is : own c b ≡ before ++ open_entry c ticket ∷ behind
  pub quiet : AreQuiet before
  pub shut : list_any is_opener behind ≡ false
  pub unselected : is_selected c ms ≡ false
  pub unplaced : place c ms ≡ 0
  pub none : (k t : ℕ) → IsPending c k t ms → ⊥
  pub rest : is_rest_of c b.rest ≡ false

-- it has left
pub record Going (c : ℕ) (msgs : List Message) (ms : List ConfirmMark) (b : Wire) (fs : List Frame) : Type 0 where
  pub shut : list_any is_opener (own c b) ≡ false
  pub selected : (whole_tally c b fs).selected ≡ is_selected c ms
  pub idle : (whole_tally c b fs).coming ≡ Idle
  pub count : length (whole_tally c b fs).numbered ≡ place c ms
  pub taken : (k t : ℕ) → IsPending c k t ms → (m : Message) × (at_place t (whole_tally c b fs).numbered ≡ Some m) × (at_place k msgs ≡ Some m)

pub record Inv (n c : ℕ) (msgs : List Message) (b : Wire) (ms : List ConfirmMark) (fs : List Frame) : Type 0 where
  pub max : b.frame_max ≡ n
  pub plain : ArePlain b.methods
  pub contents : (d : ℕ) × AreRest d b.rest
  pub counted : added ms ≡ b.published
  pub written : length msgs ≡ b.published
  pub queue : Queue msgs ms 0 b.publishes
  pub accepted : (k : ℕ) → has_left k ms ≡ true → (0 < k) × (k ≤ added ms)
  pub opens : (k : ℕ) → 0 < k → k ≤ added ms → channel_of k ms ≡ c → outcome_at k ms ≡ None → hears c b ≡ true
  pub shut_down : is_up b.link ≡ false → (b.publishes ≡ []) × (b.rest ≡ []) × AreQuiet b.methods
  pub publishes : hears c b ≡ false → list_any (is_on publish_channel c) b.publishes ≡ false
  pub begun_rest : live c b ≡ false → is_rest_of c b.rest ≡ false
  pub quiet : live c b ≡ false → AreQuiet (own c b)
  pub begun : live c b ≡ true → list_any (begins c) ms ≡ true
  pub stands : live c b ≡ true → Unsent c ms b ⊎ Going c msgs ms b fs

-- ---- lists

special_parts : (d : ℕ) (m : Method) → is_special m ≡ false → (is_publish m ≡ false) × (is_open (frame.Method d m) ≡ false)
special_parts d (method.Basic (basic.Publish exchange key mandatory immediate)) h = absurd cc
special_parts d (method.Channel channel.Open) h = absurd cc
special_parts d _ h = (refl, refl)

pub plain-append : (xs ys : List MethodEntry) → ArePlain xs → ArePlain ys → ArePlain (xs ++ ys)
plain-append [] ys h g = g
plain-append (x ∷ xs) ys h g = (h.0, plain-append xs ys h.1 g)

pub plain-filter : (p : MethodEntry → Bool) (xs : List MethodEntry) → ArePlain xs → ArePlain (filter p xs)
plain-filter p [] h = tt
plain-filter p (x ∷ xs) h = elim (p x) as (λ b. ArePlain (cond b (x ∷ filter p xs) (filter p xs))) [ true ↦ (h.0, plain-filter p xs h.1) | false ↦ plain-filter p xs h.1 ]

fit_plain : (b : Wire) (es : List MethodEntry) → AreFit b es → ArePlain es
fit_plain b [] h = tt
fit_plain b (m ∷ ms) h = ((special_parts m.channel m.method h.0.plain).0, fit_plain b ms h.1)

pub quiet_plain : (es : List MethodEntry) → AreQuiet es → ArePlain es
quiet_plain [] h = tt
quiet_plain (m ∷ ms) h = ((special_parts m.channel m.method h.0.plain).0, quiet_plain ms h.1)

pub quiet-append : (xs ys : List MethodEntry) → AreQuiet xs → AreQuiet ys → AreQuiet (xs ++ ys)
quiet-append [] ys h g = g
quiet-append (x ∷ xs) ys h g = (h.0, quiet-append xs ys h.1 g)

pub quiet-filter : (p : MethodEntry → Bool) (xs : List MethodEntry) → AreQuiet xs → AreQuiet (filter p xs)
quiet-filter p [] h = tt
quiet-filter p (x ∷ xs) h = elim (p x) as (λ b. AreQuiet (cond b (x ∷ filter p xs) (filter p xs))) [ true ↦ (h.0, quiet-filter p xs h.1) | false ↦ quiet-filter p xs h.1 ]

-- of a channel without a live opening what joins is quiet
pub fit_quiet : (c : ℕ) (b : Wire) (es : List MethodEntry) → live c b ≡ false → AreFit b es → AreQuiet (filter (is_own c) es)
fit_quiet c b [] l h = tt
fit_quiet c b (m ∷ ms) l h = elim (eqb_tells m.channel c) [
  | inl z ↦
      let quiet : is_select m.method ≡ false = elim (is_select m.method) as (λ v. is_select m.method ≡ v → v ≡ false) [
        | true ↦ λ s. (let w : true ≡ false = sym (h.0.select s) ∙ (ap (λ d. live d b) z.1 ∙ l) in absurd cc)
        | false ↦ λ s. refl
      ] refl in
      rw z.0 (record { plain = h.0.plain; select = quiet }, fit_quiet c b ms l h.1)
  | inr z ↦ rw z.0 (fit_quiet c b ms l h.1)
]

-- where the connection is down all of it is
down_quiet : (b : Wire) (es : List MethodEntry) → is_up b.link ≡ false → AreFit b es → AreQuiet es
down_quiet b [] l h = tt
down_quiet b (m ∷ ms) l h =
    let quiet : is_select m.method ≡ false = elim (is_select m.method) as (λ v. is_select m.method ≡ v → v ≡ false) [
      | true ↦ λ s. (let w : true ≡ false = sym (h.0.select s) ∙ rw l refl in absurd cc)
      | false ↦ λ s. refl
    ] refl in
    (record { plain = h.0.plain; select = quiet }, down_quiet b ms l h.1)

pub fit_shut : (c : ℕ) (b : Wire) (es : List MethodEntry) → AreFit b es → list_any is_opener (filter (is_own c) es) ≡ false
fit_shut c b [] h = refl
fit_shut c b (m ∷ ms) h = elim (m.channel == c) as (λ v. list_any is_opener (cond v (m ∷ filter (is_own c) ms) (filter (is_own c) ms)) ≡ false) [
  | true ↦ rw (special_parts m.channel m.method h.0.plain).1 (fit_shut c b ms h.1)
  | false ↦ fit_shut c b ms h.1
]

pub quiet_fit : (b : Wire) (es : List MethodEntry) → AreQuiet es → AreFit b es
quiet_fit b [] h = tt
quiet_fit b (m ∷ ms) h = (record { plain = h.0.plain; select = λ s. let z : true ≡ false = sym s ∙ h.0.select in absurd cc }, quiet_fit b ms h.1)

-- ---- the queue

queue-low : (msgs : List Message) (ms : List ConfirmMark) (low low' : ℕ) (qs : List Publish) → low' ≤ low → Queue msgs ms low qs → Queue msgs ms low' qs
queue-low msgs ms low low' [] le h = tt
queue-low msgs ms low low' (q ∷ qs) le h = ((let lt = h.0 in omega (arith, lt, le)), h.1, h.2, h.3, h.4, h.5)

pub queue-filter : (msgs : List Message) (ms : List ConfirmMark) (p : Publish → Bool) (low : ℕ) (qs : List Publish) → Queue msgs ms low qs → Queue msgs ms low (filter p qs)
queue-filter msgs ms p low [] h = tt
queue-filter msgs ms p low (q ∷ qs) h = elim (p q) as (λ b. Queue msgs ms low (cond b (q ∷ filter p qs) (filter p qs))) [
  | true ↦ (h.0, h.1, h.2, h.3, h.4, queue-filter msgs ms p q.confirm qs h.5)
  | false ↦ queue-low msgs ms q.confirm low (filter p qs) (let lt = h.0 in omega (arith, lt)) (queue-filter msgs ms p q.confirm qs h.5)
]

pub place-more : {X : Type 0} (k : ℕ) (xs ys : List X) (m : X) → at_place k xs ≡ Some m → at_place k (xs ++ ys) ≡ Some m
place-more k [] ys m h = absurd cc
place-more zero (x ∷ xs) ys m h = absurd cc
place-more (suc zero) (x ∷ xs) ys m h = h
place-more (suc (suc k)) (x ∷ xs) ys m h = place-more (suc k) xs ys m h

-- marks that grow nothing and messages behind leave the queue
pub queue-more : (msgs new : List Message) (ms xs : List ConfirmMark) (low : ℕ) (qs : List Publish) → list_any is_left xs ≡ false → added ms ≤ added (ms ++ xs) → Queue msgs ms low qs → Queue (msgs ++ new) (ms ++ xs) low qs
queue-more msgs new ms xs low [] u le h = tt
queue-more msgs new ms xs low (q ∷ qs) u le h =
    let z : 0 < q.confirm = (let lt = h.0 in omega (arith, lt)) in
    (h.0, (let w = h.1 in omega (arith, w, le)), left-same q.confirm ms xs u ∙ h.2, channel-append q.confirm ms xs z h.1 ∙ h.3, place-more q.confirm msgs new (message_in q) h.4, queue-more msgs new ms xs q.confirm qs u le h.5)

-- ---- a channel that hears has a live opening

hears_at : (u z : Bool) (p : ChannelPhase) → receives_on (cond u (cond z state.Base (channel_state p)) state.Down) ≡ true → (u && is_live p) ≡ true
hears_at true false (phase.Open paused) h = refl
hears_at true false (phase.Closing who sent) h = refl
hears_at true false phase.Closed h = absurd cc
hears_at true false phase.Opening h = absurd cc
hears_at true false phase.Crossed h = absurd cc
hears_at true true p h = absurd cc
hears_at false z p h = absurd cc

pub hears_live : (c : ℕ) (b : Wire) → hears c b ≡ true → live c b ≡ true
hears_live c b h = hears_at (is_up b.link) (c == 0) (phase_of c b) h

pub not_hears : (c : ℕ) (b : Wire) → live c b ≡ false → hears c b ≡ false
not_hears c b l = elim (hears c b) as (λ v. hears c b ≡ v → v ≡ false) [ true ↦ λ h. (let w : true ≡ false = sym (hears_live c b h) ∙ l in absurd cc) | false ↦ λ h. refl ] refl

pub hears_back : (c : ℕ) (b b' : Wire) → (hears c b ≡ true → hears c b' ≡ true) → hears c b' ≡ false → hears c b ≡ false
hears_back c b b' s l = elim (hears c b) as (λ v. hears c b ≡ v → v ≡ false) [ true ↦ λ h. (let w : true ≡ false = sym (s h) ∙ l in absurd cc) | false ↦ λ h. refl ] refl

-- ---- what stands of an opening, where nothing of it turns

pub record More (c : ℕ) (b b' : Wire) (ms xs : List ConfirmMark) : Type 0 where
  pub extra : List MethodEntry
  pub own_is : own c b' ≡ own c b ++ extra
  pub shut : list_any is_opener extra ≡ false
  pub left : rest_on c b'.rest ≡ rest_on c b.rest
  pub off : is_rest_of c b.rest ≡ false → is_rest_of c b'.rest ≡ false
  pub turn : list_any (turns_on c) xs ≡ false
  pub unleft : list_any is_left xs ≡ false
  pub begun : list_any (begins c) ms ≡ true
  pub accepted : (k : ℕ) → has_left k ms ≡ true → (0 < k) × (k ≤ added ms)

pending_was : (c k t : ℕ) (ms xs : List ConfirmMark) → list_any is_left xs ≡ false → ((k : ℕ) → has_left k ms ≡ true → (0 < k) × (k ≤ added ms)) → IsPending c k t (ms ++ xs) → IsPending c k t ms
pending_was c k t ms xs u a p =
    let l : has_left k ms ≡ true = sym (left-same k ms xs u) ∙ p.left in
    pending_back c k t ms xs p (a k l).1 l

pub stands_more : (c : ℕ) (msgs new : List Message) (b b' : Wire) (ms xs : List ConfirmMark) (fs : List Frame) → More c b b' ms xs → Unsent c ms b ⊎ Going c msgs ms b fs → Unsent c (ms ++ xs) b' ⊎ Going c (msgs ++ new) (ms ++ xs) b' fs
stands_more c msgs new b b' ms xs fs r s = elim s [
  | inl u ↦ inl (record {
    before = u.before;
    behind = u.behind ++ r.extra;
    ticket = u.ticket;
    is = r.own_is ∙ (ap (λ v. v ++ r.extra) u.is ∙ append_assoc u.before (open_entry c u.ticket ∷ u.behind) r.extra);
    quiet = u.quiet;
    shut = list_any-append is_opener u.behind r.extra ∙ rw (u.shut, r.shut) refl;
    unselected = turn_selected c ms xs r.turn r.begun ∙ u.unselected;
    unplaced = turn_place c ms xs r.turn r.begun ∙ u.unplaced;
    none = λ k t p. u.none k t (pending_was c k t ms xs r.unleft r.accepted p);
    rest = r.off u.rest;
  })
  | inr g ↦
      let same : whole_tally c b' fs ≡ whole_tally c b fs = ap (λ v. fold tally_after (fold (next_on c) no_tally fs) v) r.left in
      inr (record {
        shut = ap (list_any is_opener) r.own_is ∙ (list_any-append is_opener (own c b) r.extra ∙ rw (g.shut, r.shut) refl);
        selected = ap (λ (y : Tally). y.selected) same ∙ (g.selected ∙ sym (turn_selected c ms xs r.turn r.begun));
        idle = ap (λ (y : Tally). y.coming) same ∙ g.idle;
        count = ap (λ (y : Tally). length y.numbered) same ∙ (g.count ∙ sym (turn_place c ms xs r.turn r.begun));
        taken = λ k t p. (let was = g.taken k t (pending_was c k t ms xs r.unleft r.accepted p) in (was.0, ap (λ (y : Tally). at_place t y.numbered) same ∙ was.1, place-more k msgs new was.0 was.2));
      })
]

pub own_more : (c : ℕ) (b b' : Wire) (es : List MethodEntry) → b'.methods ≡ b.methods ++ es → own c b' ≡ own c b ++ filter (is_own c) es
own_more c b b' es e = ap (filter (is_own c)) e ∙ filter-append (is_own c) b.methods es

-- ---- an event that keeps all openings as live as they were

pub same_kept : (n c : ℕ) (msgs : List Message) (b b' : Wire) (ms xs : List ConfirmMark) (fs : List Frame) (es : List MethodEntry) → Same b b' → b'.methods ≡ b.methods ++ es → AreFit b es → list_any grows xs ≡ false → Queue msgs ms 0 b'.publishes → (list_any (is_on publish_channel c) b.publishes ≡ false → list_any (is_on publish_channel c) b'.publishes ≡ false) → (b.publishes ≡ [] → b'.publishes ≡ []) → Inv n c msgs b ms fs → Inv n c (msgs ++ []) b' (ms ++ xs) fs
same_kept n c msgs b b' ms xs fs es s methods fit grow queue pubs nil i =
    let u = grow_unleft xs grow in
    let more : added (ms ++ xs) ≡ added ms = grow_added ms xs grow in
    let was : live c b' ≡ false → live c b ≡ false = λ l. sym (s.lives c) ∙ l in
    record {
      max = s.max ∙ i.max;
      plain = subst ArePlain (sym methods) (plain-append b.methods es i.plain (fit_plain b es fit));
      contents = (i.contents.0, subst (AreRest i.contents.0) (sym s.rest) i.contents.1);
      counted = more ∙ (i.counted ∙ sym s.published);
      written = ap length (append-nil msgs) ∙ (i.written ∙ sym s.published);
      queue = queue-more msgs [] ms xs 0 b'.publishes u (omega (arith, more)) queue;
      accepted = λ k l. (let a = i.accepted k (sym (left-same k ms xs u) ∙ l) in let z = a.0 in let le = a.1 in (z, omega (arith, le, more)));
      opens = λ k z le on w. (let le' : k ≤ added ms = omega (arith, le, more) in s.hear c (i.opens k z le' (sym (channel-append k ms xs z le') ∙ on) (waits_back k ms xs z le' u w).before));
      shut_down = λ d. (let d' : is_up b.link ≡ false = sym s.up ∙ d in let x = i.shut_down d' in (nil x.0, s.rest ∙ x.1, subst AreQuiet (sym methods) (quiet-append b.methods es x.2 (down_quiet b es d' fit))));
      publishes = λ l. pubs (i.publishes (hears_back c b b' (s.hear c) l));
      begun_rest = λ l. ap (is_rest_of c) s.rest ∙ i.begun_rest (was l);
      quiet = λ l. subst AreQuiet (sym (own_more c b b' es methods)) (quiet-append (own c b) (filter (is_own c) es) (i.quiet (was l)) (fit_quiet c b es (was l) fit));
      begun = λ l. list_any-append (begins c) ms xs ∙ rw (i.begun (sym (s.lives c) ∙ l)) refl;
      stands = λ l. (let l' : live c b ≡ true = sym (s.lives c) ∙ l in stands_more c msgs [] b b' ms xs fs (record {
        extra = filter (is_own c) es;
        own_is = own_more c b b' es methods;
        shut = fit_shut c b es fit;
        left = ap (rest_on c) s.rest;
        off = λ o. ap (is_rest_of c) s.rest ∙ o;
        turn = grow_turns c xs grow;
        unleft = u;
        begun = i.begun l';
        accepted = i.accepted;
      }) (i.stands l'));
    }

pub any-filter : {X : Type 0} (q p : X → Bool) (xs : List X) → list_any q xs ≡ false → list_any q (filter p xs) ≡ false
any-filter q p [] h = refl
any-filter q p (x ∷ xs) h = elim (p x) as (λ b. list_any q (cond b (x ∷ filter p xs) (filter p xs)) ≡ false) [
  | true ↦ (let parts = or_parts (q x) (list_any q xs) h in rw parts.0 (any-filter q p xs parts.1))
  | false ↦ any-filter q p xs (or_parts (q x) (list_any q xs) h).1
]

begun_empty : (ms : List ConfirmMark) (d c : ℕ) → (d == c) ≡ true → opening c (ms ++ mark.Begun d ∷ []) ≡ []
begun_empty [] d c h = rw h refl
begun_empty (m ∷ ms) d c h =
    let any : list_any (begins c) (ms ++ mark.Begun d ∷ []) ≡ true = list_any-append (begins c) ms (mark.Begun d ∷ []) ∙ rw h (or_true (list_any (begins c) ms)) in
    ap (λ v. cond v (opening c (ms ++ mark.Begun d ∷ [])) (cond (begins c m) (ms ++ mark.Begun d ∷ []) [])) any ∙ begun_empty ms d c h

-- ---- an opening begins

pub opens_kept : (n c : ℕ) (msgs : List Message) (b b' : Wire) (ms : List ConfirmMark) (fs : List Frame) (d t : ℕ) → SameBut d b b' → live d b ≡ false → live d b' ≡ true → b'.rest ≡ b.rest → b'.publishes ≡ b.publishes → b'.methods ≡ b.methods ++ open_entry d t ∷ [] → Inv n c msgs b ms fs → Inv n c (msgs ++ []) b' (ms ++ mark.Begun d ∷ []) fs
opens_kept n c msgs b b' ms fs d t s was now rest publishes methods i =
    let xs : List ConfirmMark = mark.Begun d ∷ [] in
    let more : added (ms ++ xs) ≡ added ms = added-begun ms d in
    let up : is_up b'.link ≡ true = (and_parts (is_up b'.link) (is_live (phase_of d b')) now).0 in
    let left : (k : ℕ) → has_left k (ms ++ xs) ≡ true → has_left k ms ≡ true = λ k l. sym (left-same k ms xs refl) ∙ l in
    let acc : (k : ℕ) → has_left k ms ≡ true → (0 < k) × (k ≤ added ms) = i.accepted in
    let pend : (k u : ℕ) → IsPending c k u (ms ++ xs) → IsPending c k u ms = λ k u p. pending_was c k u ms xs refl acc p in
    record {
      max = s.max ∙ i.max;
      plain = subst ArePlain (sym methods) (plain-append b.methods (open_entry d t ∷ []) i.plain (refl, tt));
      contents = (i.contents.0, subst (AreRest i.contents.0) (sym rest) i.contents.1);
      counted = more ∙ (i.counted ∙ sym s.published);
      written = ap length (append-nil msgs) ∙ (i.written ∙ sym s.published);
      queue = queue-more msgs [] ms xs 0 b'.publishes refl (omega (arith, more)) (subst (Queue msgs ms 0) (sym publishes) i.queue);
      accepted = λ k l. (let a = i.accepted k (left k l) in let z = a.0 in let le = a.1 in (z, omega (arith, le, more)));
      opens = λ k z le on w. (let le' : k ≤ added ms = omega (arith, le, more) in
          let h : hears c b ≡ true = i.opens k z le' (sym (channel-append k ms xs z le') ∙ on) (waits_back k ms xs z le' refl w).before in
          elim (eqb_tells d c) [
            | inl y ↦ (let w : true ≡ false = sym (hears_live c b h) ∙ (ap (λ v. live v b) (sym y.1) ∙ was) in absurd cc)
            | inr y ↦ s.hear c y.0 h
          ]);
      shut_down = λ dn. (let w : true ≡ false = sym up ∙ dn in absurd cc);
      publishes = λ l. ap (list_any (is_on publish_channel c)) publishes ∙ elim (eqb_tells d c) [
        | inl y ↦ i.publishes (not_hears c b (ap (λ v. live v b) (sym y.1) ∙ was))
        | inr y ↦ i.publishes (hears_back c b b' (s.hear c y.0) l)
      ];
      begun_rest = λ l. elim (eqb_tells d c) [
        | inl y ↦ (let w : true ≡ false = sym now ∙ (ap (λ v. live v b') y.1 ∙ l) in absurd cc)
        | inr y ↦ ap (is_rest_of c) rest ∙ i.begun_rest (sym (s.lives c y.0) ∙ l)
      ];
      quiet = λ l. elim (eqb_tells d c) [
        | inl y ↦ (let w : true ≡ false = sym now ∙ (ap (λ v. live v b') y.1 ∙ l) in absurd cc)
        | inr y ↦ subst AreQuiet (sym (own_more c b b' (open_entry d t ∷ []) methods ∙ (ap (λ v. own c b ++ cond v (open_entry d t ∷ []) []) y.0 ∙ append-nil (own c b)))) (i.quiet (sym (s.lives c y.0) ∙ l))
      ];
      begun = λ l. list_any-append (begins c) ms xs ∙ elim (eqb_tells d c) [
        | inl y ↦ rw y.0 (or_true (list_any (begins c) ms))
        | inr y ↦ rw (i.begun (sym (s.lives c y.0) ∙ l)) refl
      ];
      stands = λ l. elim (eqb_tells d c) [
        | inl y ↦
            let off : live c b ≡ false = ap (λ v. live v b) (sym y.1) ∙ was in
            let C : ℕ → Type 0 = λ v. own c b' ≡ own c b ++ open_entry v t ∷ [] in
            let here : own c b' ≡ own c b ++ open_entry d t ∷ [] = own_more c b b' (open_entry d t ∷ []) methods ∙ ap (λ v. own c b ++ cond v (open_entry d t ∷ []) []) y.0 in
            inl (record {
              before = own c b;
              behind = [];
              ticket = t;
              is = subst C y.1 here;
              quiet = i.quiet off;
              shut = refl;
              unselected = rw (begun_empty ms d c y.0) refl;
              unplaced = rw (begun_empty ms d c y.0) refl;
              none = λ k u p. (let q = pend k u p in let h : hears c b ≡ true = i.opens k q.added.0 q.added.1 q.on q.waits in let w : true ≡ false = sym (hears_live c b h) ∙ off in cc);
              rest = ap (is_rest_of c) rest ∙ i.begun_rest off;
            })
        | inr y ↦
            let l' : live c b ≡ true = sym (s.lives c y.0) ∙ l in
            stands_more c msgs [] b b' ms xs fs (record {
              extra = [];
              own_is = own_more c b b' (open_entry d t ∷ []) methods ∙ ap (λ v. own c b ++ cond v (open_entry d t ∷ []) []) y.0;
              shut = refl;
              left = ap (rest_on c) rest;
              off = λ o. ap (is_rest_of c) rest ∙ o;
              turn = rw y.0 refl;
              unleft = refl;
              begun = i.begun l';
              accepted = i.accepted;
            }) (i.stands l')
      ];
    }
  where
    added-begun : (ms : List ConfirmMark) (d : ℕ) → added (ms ++ mark.Begun d ∷ []) ≡ added ms
    added-begun ms d = (let e = many-append adds ms (mark.Begun d ∷ []) in omega (arith, e))
