-- Every event but a frame request keeps what a session keeps of a channel.
use Rattle.std.proofs.Common.{◌≡◌, ◌∙◌, ℕ, zero, suc, ◌+◌, ◌≤◌, ◌<◌, ◌==◌, true, false, cond, not, List, [], ◌∷◌, ◌++◌, map, length, Some, None, inl, inr, refl, sym, ap, subst, append-nil, arith, eq-eqb, length-append}
use Rattle.std.specs.List.{list_any, filter}
use Rattle.std.proofs.lemmas.Bool.{and_parts}
use Rattle.std.proofs.lemmas.Bool.Decides.{eqb_tells}
use Rattle.std.proofs.lemmas.List.Folds.{list_any-append}
use Rattle.std.proofs.lemmas.List.Elements.{filter-append}
use Rattle.lapin_types.specs.declared.leaving.Publish.{Publish}
use Rattle.lapin_types.specs.Types.{Frame, Error}
use Rattle.lapin_rules.specs.ConfirmMarks.{ConfirmMark}
use Rattle.lapin_rules.specs.ConfirmMarks as mark
use Rattle.lapin_rules.specs.ConfirmReadings.{adds, begins, added, channel_of, channel_in, has_left, outcome_at}
use Rattle.lapin_rules.specs.Phases.{is_up, is_live}
use Rattle.lapin_rules.specs.Frames.{MethodEntry, RestEntry}
use Rattle.lapin_rules.specs.Drops.{is_off, is_on, is_rest_of, publish_channel, method_channel, frame_channel}
use Rattle.lapin_rules.specs.Wire.{Wire, phase_of}
use Rattle.lapin_verdicts.specs.Publishes.{Message}
use Rattle.lapin_verdicts.specs.Verdicts.{at_place}
use Rattle.lapin_verdicts.specs.Session.{rest_on}
use Rattle.lapin_verdicts.proofs.Cutting.{message_in}
use Rattle.lapin_verdicts.proofs.Marks.{channel-append, many-append}
use Rattle.lapin_effects.specs.Effects.{live, hears, AreQuiet, grows, SameBut, Effect, Stays, Closes, Opens, Adds, Ends, Falls, Sinks}
use Rattle.lapin_verdicts.proofs.Turns.{ends_on, still_grow, grow_unleft, grow_added, left-same, waits_back, live_ends}
use Rattle.lapin_effects.proofs.Comes.{all_grow}
use Rattle.lapin_verdicts.proofs.Numbering.{ArePlain, is_own, own, Queue, AreRest, Inv, stands_more, same_kept, opens_kept, queue-more, queue-filter, quiet-append, quiet-filter, plain-append, plain-filter, quiet_plain, quiet_fit, fit_shut, any-filter, hears_live, hears_back, place-more}
use Rattle.lapin_rules.proofs.ListLaws.{one_new}

-- ---- a publish is accepted

pub added-one : (ms : List ConfirmMark) (d : ℕ) → added (ms ++ mark.Added d ∷ []) ≡ added ms + 1
added-one ms d = let e = many-append adds ms (mark.Added d ∷ []) in omega (arith, e)

-- the next publish is of the channel of its mark
pub added_channel : (ms : List ConfirmMark) (d k : ℕ) → k ≡ added ms + 1 → channel_of k (ms ++ mark.Added d ∷ []) ≡ d
added_channel ms d zero e = let z : ⊥ = omega (arith, e) in absurd z
added_channel ms d (suc k) e = ap channel_in (one_new adds k ms (mark.Added d) refl (omega (arith, e)))

pub place-last : {X : Type 0} (k : ℕ) (xs : List X) (x : X) → k ≡ length xs + 1 → at_place k (xs ++ x ∷ []) ≡ Some x
place-last zero xs x e = let z : ⊥ = omega (arith, e) in absurd z
place-last (suc zero) [] x e = refl
place-last (suc (suc k)) [] x e = let z : ⊥ = omega (arith, e) in absurd z
place-last (suc zero) (y ∷ xs) x e = let l : length (y ∷ xs) ≡ suc (length xs) = refl in let z : ⊥ = omega (arith, e, l) in absurd z
place-last (suc (suc k)) (y ∷ xs) x e = let l : length (y ∷ xs) ≡ suc (length xs) = refl in place-last (suc k) xs x (omega (arith, e, l))

-- it goes behind the others
queue-push : (msgs : List Message) (ms : List ConfirmMark) (low : ℕ) (qs : List Publish) (q : Publish) → Queue msgs ms low qs → low < q.confirm → ((k : ℕ) → k ≤ added ms → k < q.confirm) → (q.confirm ≤ added (ms ++ mark.Added q.channel ∷ [])) → added ms ≤ added (ms ++ mark.Added q.channel ∷ []) → has_left q.confirm (ms ++ mark.Added q.channel ∷ []) ≡ false → channel_of q.confirm (ms ++ mark.Added q.channel ∷ []) ≡ q.channel → at_place q.confirm (msgs ++ message_in q ∷ []) ≡ Some (message_in q) → Queue (msgs ++ message_in q ∷ []) (ms ++ mark.Added q.channel ∷ []) low (qs ++ q ∷ [])
queue-push msgs ms low [] q h lt above le mono unleft on at = (lt, le, unleft, on, at, tt)
queue-push msgs ms low (x ∷ qs) q h lt above le mono unleft on at =
    let z : 0 < x.confirm = (let g = h.0 in omega (arith, g)) in
    (h.0, (let w = h.1 in omega (arith, w, mono)), left-same x.confirm ms (mark.Added q.channel ∷ []) refl ∙ h.2, channel-append x.confirm ms (mark.Added q.channel ∷ []) z h.1 ∙ h.3, place-more x.confirm msgs (message_in q ∷ []) (message_in x) h.4, queue-push msgs ms x.confirm qs q h.5 (above x.confirm h.1) above le mono unleft on at)

adds_kept : (n c : ℕ) (msgs : List Message) (b b' : Wire) (ms : List ConfirmMark) (fs : List Frame) (q : Publish) → is_up b'.link ≡ is_up b.link → b'.frame_max ≡ b.frame_max → b'.rest ≡ b.rest → ((c : ℕ) → live c b' ≡ live c b) → ((c : ℕ) → hears c b' ≡ hears c b) → b'.publishes ≡ b.publishes ++ q ∷ [] → b'.methods ≡ b.methods → hears q.channel b ≡ true → q.confirm ≡ b.published + 1 → b'.published ≡ b.published + 1 → Inv n c msgs b ms fs → Inv n c (msgs ++ message_in q ∷ []) b' (ms ++ mark.Added q.channel ∷ []) fs
adds_kept n c msgs b b' ms fs q up max rest lives hear publishes methods here number published i =
    let xs : List ConfirmMark = mark.Added q.channel ∷ [] in
    let more : added (ms ++ xs) ≡ added ms + 1 = added-one ms q.channel in
    let counted = i.counted in
    let next : q.confirm ≡ added ms + 1 = omega (arith, number, counted) in
    let unleft_at : has_left q.confirm ms ≡ false = elim (has_left q.confirm ms) as (λ v. has_left q.confirm ms ≡ v → v ≡ false) [ true ↦ λ l. (let a = (i.accepted q.confirm l).1 in let z : ⊥ = omega (arith, a, next) in absurd z) | false ↦ λ l. refl ] refl in
    let length_more : length (msgs ++ message_in q ∷ []) ≡ length msgs + 1 = length-append msgs (message_in q ∷ []) in
    let written = i.written in
    record {
      max = max ∙ i.max;
      plain = subst ArePlain (sym methods) i.plain;
      contents = (i.contents.0, subst (AreRest i.contents.0) (sym rest) i.contents.1);
      counted = omega (arith, more, counted, published);
      written = omega (arith, length_more, written, published);
      queue = subst (Queue (msgs ++ message_in q ∷ []) (ms ++ xs) 0) (sym publishes) (queue-push msgs ms 0 b.publishes q i.queue (omega (arith, next)) (λ k le. omega (arith, le, next)) (omega (arith, more, next)) (omega (arith, more)) (left-same q.confirm ms xs refl ∙ unleft_at) (added_channel ms q.channel q.confirm next) (place-last q.confirm msgs (message_in q) (omega (arith, next, counted, written))));
      accepted = λ k l. (let a = i.accepted k (sym (left-same k ms xs refl) ∙ l) in let z = a.0 in let le = a.1 in (z, omega (arith, le, more)));
      opens = λ k z le on w. elim (eqb_tells k q.confirm) [
        | inl y ↦
            let on' : q.channel ≡ c = sym (added_channel ms q.channel k (y.1 ∙ next)) ∙ on in
            hear c ∙ (ap (λ v. hears v b) (sym on') ∙ here)
        | inr y ↦
            let le' : k ≤ added ms = (let d = y.1 in omega (arith, le, more, d, next)) in
            hear c ∙ i.opens k z le' (sym (channel-append k ms xs z le') ∙ on) (waits_back k ms xs z le' refl w).before
      ];
      shut_down = λ d. (let l = hears_live q.channel b here in let u : is_up b.link ≡ true = (and_parts (is_up b.link) (is_live (phase_of q.channel b)) l).0 in let w : true ≡ false = sym u ∙ (sym up ∙ d) in absurd cc);
      publishes = λ l. (let l' : hears c b ≡ false = sym (hear c) ∙ l in
          let off : (q.channel == c) ≡ false = elim (eqb_tells q.channel c) as (λ _. (q.channel == c) ≡ false) [
            | inl y ↦ (let w : true ≡ false = sym here ∙ (ap (λ v. hears v b) y.1 ∙ l') in absurd cc)
            | inr y ↦ y.0
          ] in
          ap (list_any (is_on publish_channel c)) publishes ∙ (list_any-append (is_on publish_channel c) b.publishes (q ∷ []) ∙ rw (i.publishes l', off) refl));
      begun_rest = λ l. ap (is_rest_of c) rest ∙ i.begun_rest (sym (lives c) ∙ l);
      quiet = λ l. subst (λ v. AreQuiet (filter (is_own c) v)) (sym methods) (i.quiet (sym (lives c) ∙ l));
      begun = λ l. list_any-append (begins c) ms xs ∙ rw (i.begun (sym (lives c) ∙ l)) refl;
      stands = λ l. (let l' : live c b ≡ true = sym (lives c) ∙ l in stands_more c msgs (message_in q ∷ []) b b' ms xs fs (record {
        extra = [];
        own_is = ap (filter (is_own c)) methods ∙ sym (append-nil (own c b));
        shut = refl;
        left = ap (rest_on c) rest;
        off = λ o. ap (is_rest_of c) rest ∙ o;
        turn = refl;
        unleft = refl;
        begun = i.begun l';
        accepted = i.accepted;
      }) (i.stands l'));
    }

-- ---- an opening ends

own-off : (d c : ℕ) (ms : List MethodEntry) → (d == c) ≡ false → filter (is_own c) (filter (is_off method_channel d) ms) ≡ filter (is_own c) ms
own-off d c [] h = refl
own-off d c (m ∷ ms) h = elim (eqb_tells m.channel d) [
  | inl y ↦
      let off : (m.channel == c) ≡ false = ap (λ v. v == c) y.1 ∙ h in
      rw (y.0, off) (own-off d c ms h)
  | inr y ↦ elim (m.channel == c) as (λ v. filter (is_own c) (cond (not (m.channel == d)) (m ∷ filter (is_off method_channel d) ms) (filter (is_off method_channel d) ms)) ≡ cond v (m ∷ filter (is_own c) ms) (filter (is_own c) ms) → filter (is_own c) (cond (not (m.channel == d)) (m ∷ filter (is_off method_channel d) ms) (filter (is_off method_channel d) ms)) ≡ cond v (m ∷ filter (is_own c) ms) (filter (is_own c) ms)) [ true ↦ λ z. z | false ↦ λ z. z ] (rw y.0 (ap (λ v. cond (m.channel == c) (m ∷ v) v) (own-off d c ms h)))
]

own-gone : (c : ℕ) (ms : List MethodEntry) → filter (is_own c) (filter (is_off method_channel c) ms) ≡ []
own-gone c [] = refl
own-gone c (m ∷ ms) = elim (m.channel == c) as (λ v. m.channel == c ≡ v → filter (is_own c) (cond (not v) (m ∷ filter (is_off method_channel c) ms) (filter (is_off method_channel c) ms)) ≡ []) [
  | true ↦ λ _. own-gone c ms
  | false ↦ λ e. rw e (own-gone c ms)
] refl

for-gone : (c : ℕ) (qs : List Publish) → list_any (is_on publish_channel c) (filter (is_off publish_channel c) qs) ≡ false
for-gone c [] = refl
for-gone c (q ∷ qs) = elim (q.channel == c) as (λ v. q.channel == c ≡ v → list_any (is_on publish_channel c) (cond (not v) (q ∷ filter (is_off publish_channel c) qs) (filter (is_off publish_channel c) qs)) ≡ false) [
  | true ↦ λ _. for-gone c qs
  | false ↦ λ e. rw e (for-gone c qs)
] refl

cut_rest : (d e : ℕ) (fs : List RestEntry) → AreRest e fs → AreRest e (cond (is_rest_of d fs) [] fs)
cut_rest d e fs h = elim (is_rest_of d fs) as (λ b. AreRest e (cond b [] fs)) [ true ↦ tt | false ↦ h ]

-- the begun publish of another channel is none of this one
other_rest : (d c : ℕ) (fs : List RestEntry) → (d == c) ≡ false → (is_rest_of c (cond (is_rest_of d fs) [] fs) ≡ is_rest_of c fs) × (rest_on c (cond (is_rest_of d fs) [] fs) ≡ rest_on c fs)
other_rest d c [] h = (refl, refl)
other_rest d c (f ∷ fs) h = elim (eqb_tells (frame_channel f.frame) d) [
  | inl y ↦
      let off : (frame_channel f.frame == c) ≡ false = ap (λ v. v == c) y.1 ∙ h in
      rw (y.0, off) (refl, refl)
  | inr y ↦ rw y.0 (refl, refl)
]

own_rest : (c : ℕ) (fs : List RestEntry) → is_rest_of c (cond (is_rest_of c fs) [] fs) ≡ false
own_rest c fs = elim (is_rest_of c fs) as (λ v. is_rest_of c fs ≡ v → is_rest_of c (cond v [] fs) ≡ false) [ true ↦ λ _. refl | false ↦ λ e. e ] refl

own_after : (d c : ℕ) (b b' : Wire) (es : List MethodEntry) → b'.methods ≡ filter (is_off method_channel d) b.methods ++ es → own c b' ≡ filter (is_own c) (filter (is_off method_channel d) b.methods) ++ filter (is_own c) es
own_after d c b b' es e = ap (filter (is_own c)) e ∙ filter-append (is_own c) (filter (is_off method_channel d) b.methods) es

not_ended : (d : ℕ) (e : Error) → list_any (ends_on d) (mark.Ended d e ∷ []) ≡ true
not_ended d e = rw (eq-eqb d d refl) refl

ends_kept : (n c : ℕ) (msgs : List Message) (b b' : Wire) (ms : List ConfirmMark) (fs : List Frame) (d : ℕ) (e : Error) (es : List MethodEntry) → SameBut d b b' → live d b' ≡ false → b'.rest ≡ cond (is_rest_of d b.rest) [] b.rest → b'.publishes ≡ filter (is_off publish_channel d) b.publishes → b'.methods ≡ filter (is_off method_channel d) b.methods ++ es → AreQuiet es → Inv n c msgs b ms fs → Inv n c (msgs ++ []) b' (ms ++ mark.Ended d e ∷ []) fs
ends_kept n c msgs b b' ms fs d e es s now rest publishes methods quiet i =
    let xs : List ConfirmMark = mark.Ended d e ∷ [] in
    let more : added (ms ++ xs) ≡ added ms = grow_added ms xs refl in
    let gone : (l : live c b' ≡ true) → (d == c) ≡ false = λ l. elim (eqb_tells d c) as (λ _. (d == c) ≡ false) [
      | inl y ↦ (let w : true ≡ false = sym l ∙ (ap (λ v. live v b') (sym y.1) ∙ now) in absurd cc)
      | inr y ↦ y.0
    ] in
    record {
      max = s.max ∙ i.max;
      plain = subst ArePlain (sym methods) (plain-append (filter (is_off method_channel d) b.methods) es (plain-filter (is_off method_channel d) b.methods i.plain) (quiet_plain es quiet));
      contents = (i.contents.0, subst (AreRest i.contents.0) (sym rest) (cut_rest d i.contents.0 b.rest i.contents.1));
      counted = more ∙ (i.counted ∙ sym s.published);
      written = ap length (append-nil msgs) ∙ (i.written ∙ sym s.published);
      queue = queue-more msgs [] ms xs 0 b'.publishes refl (omega (arith, more)) (subst (Queue msgs ms 0) (sym publishes) (queue-filter msgs ms (is_off publish_channel d) 0 b.publishes i.queue));
      accepted = λ k l. (let a = i.accepted k (sym (left-same k ms xs refl) ∙ l) in let z = a.0 in let le = a.1 in (z, omega (arith, le, more)));
      opens = λ k z le on w. (let le' : k ≤ added ms = omega (arith, le, more) in
          let on' : channel_of k ms ≡ c = sym (channel-append k ms xs z le') ∙ on in
          let was = waits_back k ms xs z le' refl w in
          elim (eqb_tells d c) [
            | inl y ↦ absurd (was.ends (ap (λ v. list_any (ends_on v) xs) (on' ∙ sym y.1) ∙ not_ended d e))
            | inr y ↦ s.hear c y.0 (i.opens k z le' on' was.before)
          ]);
      shut_down = λ dn. (let dn' : is_up b.link ≡ false = sym s.up ∙ dn in let x = i.shut_down dn' in
          (publishes ∙ ap (filter (is_off publish_channel d)) x.0, rest ∙ (ap (λ v. cond (is_rest_of d v) [] v) x.1), subst AreQuiet (sym methods) (quiet-append (filter (is_off method_channel d) b.methods) es (quiet-filter (is_off method_channel d) b.methods x.2) quiet)));
      publishes = λ l. ap (list_any (is_on publish_channel c)) publishes ∙ elim (eqb_tells d c) [
        | inl y ↦ subst (λ v. list_any (is_on publish_channel c) (filter (is_off publish_channel v) b.publishes) ≡ false) (sym y.1) (for-gone c b.publishes)
        | inr y ↦ any-filter (is_on publish_channel c) (is_off publish_channel d) b.publishes (i.publishes (hears_back c b b' (s.hear c y.0) l))
      ];
      begun_rest = λ l. ap (is_rest_of c) rest ∙ elim (eqb_tells d c) [
        | inl y ↦ subst (λ v. is_rest_of c (cond (is_rest_of v b.rest) [] b.rest) ≡ false) (sym y.1) (own_rest c b.rest)
        | inr y ↦ (other_rest d c b.rest y.0).0 ∙ i.begun_rest (sym (s.lives c y.0) ∙ l)
      ];
      quiet = λ l. subst AreQuiet (sym (own_after d c b b' es methods)) (elim (eqb_tells d c) [
        | inl y ↦ subst (λ v. AreQuiet (filter (is_own c) (filter (is_off method_channel v) b.methods) ++ filter (is_own c) es)) (sym y.1) (subst (λ v. AreQuiet (v ++ filter (is_own c) es)) (sym (own-gone c b.methods)) (quiet-filter (is_own c) es quiet))
        | inr y ↦ subst (λ v. AreQuiet (v ++ filter (is_own c) es)) (sym (own-off d c b.methods y.0)) (quiet-append (own c b) (filter (is_own c) es) (i.quiet (sym (s.lives c y.0) ∙ l)) (quiet-filter (is_own c) es quiet))
      ]);
      begun = λ l. list_any-append (begins c) ms xs ∙ rw (i.begun (sym (s.lives c (gone l)) ∙ l)) refl;
      stands = λ l. (let off = gone l in let l' : live c b ≡ true = sym (s.lives c off) ∙ l in stands_more c msgs [] b b' ms xs fs (record {
        extra = filter (is_own c) es;
        own_is = own_after d c b b' es methods ∙ ap (λ v. v ++ filter (is_own c) es) (own-off d c b.methods off);
        shut = fit_shut c b es (quiet_fit b es quiet);
        left = ap (rest_on c) rest ∙ (other_rest d c b.rest off).1;
        off = λ o. ap (is_rest_of c) rest ∙ ((other_rest d c b.rest off).0 ∙ o);
        turn = refl;
        unleft = refl;
        begun = i.begun l';
        accepted = i.accepted;
      }) (i.stands l'));
    }

-- ---- the connection is no longer open, or was not

pub no_live : (c : ℕ) (b : Wire) → is_up b.link ≡ false → live c b ≡ false
no_live c b h = rw h refl

down_kept : (n c : ℕ) (msgs : List Message) (b b' : Wire) (ms xs : List ConfirmMark) (fs : List Frame) → b'.frame_max ≡ b.frame_max → b'.published ≡ b.published → is_up b'.link ≡ false → b'.rest ≡ [] → b'.publishes ≡ [] → AreQuiet b'.methods → list_any grows xs ≡ false → ((k : ℕ) → 0 < k → k ≤ added ms → channel_of k ms ≡ c → outcome_at k (ms ++ xs) ≡ None → ⊥) → Inv n c msgs b ms fs → Inv n c (msgs ++ []) b' (ms ++ xs) fs
down_kept n c msgs b b' ms xs fs max published down rest publishes quiet grow none i =
    let u = grow_unleft xs grow in
    let more : added (ms ++ xs) ≡ added ms = grow_added ms xs grow in
    let dead : live c b' ≡ true → ⊥ = λ l. (let w : true ≡ false = sym l ∙ no_live c b' down in cc) in
    record {
      max = max ∙ i.max;
      plain = quiet_plain b'.methods quiet;
      contents = (0, subst (AreRest 0) (sym rest) tt);
      counted = more ∙ (i.counted ∙ sym published);
      written = ap length (append-nil msgs) ∙ (i.written ∙ sym published);
      queue = subst (Queue (msgs ++ []) (ms ++ xs) 0) (sym publishes) tt;
      accepted = λ k l. (let a = i.accepted k (sym (left-same k ms xs u) ∙ l) in let z = a.0 in let le = a.1 in (z, omega (arith, le, more)));
      opens = λ k z le on w. (let le' : k ≤ added ms = omega (arith, le, more) in absurd (none k z le' (sym (channel-append k ms xs z le') ∙ on) w));
      shut_down = λ _. (publishes, rest, quiet);
      publishes = λ _. ap (list_any (is_on publish_channel c)) publishes;
      begun_rest = λ _. ap (is_rest_of c) rest;
      quiet = λ _. quiet-filter (is_own c) b'.methods quiet;
      begun = λ l. absurd (dead l);
      stands = λ l. absurd (dead l);
    }

-- ---- every event

pub kept : (n c : ℕ) (msgs : List Message) (new : List Publish) (b b' : Wire) (ms xs : List ConfirmMark) (fs : List Frame) → Effect b b' xs new → Inv n c msgs b ms fs → Inv n c (msgs ++ map message_in new) b' (ms ++ xs) fs
kept n c msgs new b b' ms xs fs (Stays s p es m f still none) i =
    subst (λ v. Inv n c (msgs ++ v) b' (ms ++ xs) fs) (sym (ap (map message_in) none)) (same_kept n c msgs b b' ms xs fs es s m f (still_grow xs still) (subst (Queue msgs ms 0) (sym p) i.queue) (λ h. ap (list_any (is_on publish_channel c)) p ∙ h) (λ h. p ∙ h) i)
kept n c msgs new b b' ms xs fs (Closes d e s p m methods f marks none) i =
    let grow : list_any grows xs ≡ false = ap (list_any grows) marks in
    subst (λ v. Inv n c (msgs ++ v) b' (ms ++ xs) fs) (sym (ap (map message_in) none)) (same_kept n c msgs b b' ms xs fs (m ∷ []) s methods (f, tt) grow (subst (Queue msgs ms 0) (sym p) (queue-filter msgs ms (is_off publish_channel d) 0 b.publishes i.queue)) (λ h. ap (list_any (is_on publish_channel c)) p ∙ any-filter (is_on publish_channel c) (is_off publish_channel d) b.publishes h) (λ h. p ∙ ap (filter (is_off publish_channel d)) h) i)
kept n c msgs new b b' ms xs fs (Opens d t s was now r p m marks none) i =
    subst (λ v. Inv n c (msgs ++ v) b' (ms ++ xs) fs) (sym (ap (map message_in) none)) (subst (λ v. Inv n c (msgs ++ []) b' (ms ++ v) fs) (sym marks) (opens_kept n c msgs b b' ms fs d t s was now r p m i))
kept n c msgs new b b' ms xs fs (Adds q up mx r l h p m here nm pb marks is) i =
    subst (λ v. Inv n c (msgs ++ v) b' (ms ++ xs) fs) (sym (ap (map message_in) is)) (subst (λ v. Inv n c (msgs ++ message_in q ∷ []) b' (ms ++ v) fs) (sym marks) (adds_kept n c msgs b b' ms fs q up mx r l h p m here nm pb i))
kept n c msgs new b b' ms xs fs (Ends d e s now r p es m q marks none) i =
    subst (λ v. Inv n c (msgs ++ v) b' (ms ++ xs) fs) (sym (ap (map message_in) none)) (subst (λ v. Inv n c (msgs ++ []) b' (ms ++ v) fs) (sym marks) (ends_kept n c msgs b b' ms fs d e es s now r p m q i))
kept n c msgs new b b' ms xs fs (Falls e mx pb down r p q marks none) i =
    let grow : list_any grows xs ≡ false = ap (list_any grows) marks ∙ all_grow e b in
    let resolved : (k : ℕ) → 0 < k → k ≤ added ms → channel_of k ms ≡ c → outcome_at k (ms ++ xs) ≡ None → ⊥ = λ k z le on w.
    (let was = waits_back k ms xs z le (grow_unleft xs grow) w in
    let l = hears_live c b (i.opens k z le on was.before) in
    let lives : is_live (phase_of c b) ≡ true = (and_parts (is_up b.link) (is_live (phase_of c b)) l).1 in
    was.ends (ap (λ v. list_any (ends_on v) xs) on ∙ (ap (list_any (ends_on c)) marks ∙ live_ends e c b lives))) in
    subst (λ v. Inv n c (msgs ++ v) b' (ms ++ xs) fs) (sym (ap (map message_in) none)) (down_kept n c msgs b b' ms xs fs mx pb down r p q grow resolved i)
kept n c msgs new b b' ms xs fs (Sinks mx pb was down r p q grow none) i =
    let x = i.shut_down was in
    let resolved : (k : ℕ) → 0 < k → k ≤ added ms → channel_of k ms ≡ c → outcome_at k (ms ++ xs) ≡ None → ⊥ = λ k z le on w.
    (let w' = waits_back k ms xs z le (grow_unleft xs grow) w in
    let l = hears_live c b (i.opens k z le on w'.before) in
    let z : true ≡ false = sym l ∙ no_live c b was in cc) in
    subst (λ v. Inv n c (msgs ++ v) b' (ms ++ xs) fs) (sym (ap (map message_in) none)) (down_kept n c msgs b b' ms xs fs mx pb down (r x.1) (p x.0) (q x.2) grow resolved i)
