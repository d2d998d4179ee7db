-- A publish begins: its method leaves, and it takes the next tag where its opening is selected.
use Rattle.std.proofs.Common.{◌≡◌, ◌∙◌, ℕ, ◌+◌, ◌≤◌, ◌<◌, ◌==◌, Bool, true, false, cond, ◌||◌, List, [], ◌∷◌, ◌++◌, map, length, Option, Some, None, ◌⊎◌, inl, inr, refl, sym, ap, subst, append-nil, arith, eq-eqb, ne_eqb, length-append}
use Rattle.std.specs.List.{list_any, fold, find, count_by}
use Rattle.std.specs.Option.{option_map}
use Rattle.std.proofs.lemmas.Bool.Decides.{eqb_tells}
use Rattle.std.proofs.lemmas.List.Sums.{fold-append}
use Rattle.std.proofs.lemmas.List.Folds.{list_any-append}
use Rattle.lapin_types.specs.declared.leaving.Publish.{Publish}
use Rattle.lapin_types.specs.declared.leaving.Left.{Left}
use Rattle.lapin_types.specs.Types.{Frame}
use Rattle.lapin_types.specs.Types.frame
use Rattle.lapin_rules.specs.ConfirmMarks.{ConfirmMark}
use Rattle.lapin_rules.specs.ConfirmMarks as mark
use Rattle.lapin_rules.specs.Words.{after, through, without_first}
use Rattle.lapin_rules.specs.ConfirmReadings.{adds, begins, selects, leaves, leaves_on, opening, added, channel_of, has_left, tag_of, tag_on, is_selected, place}
use Rattle.lapin_rules.specs.Frames.{MethodEntry, RestEntry, cut, room_for_body, publish_method, contents as contents_of, behind, rest_of, left_publish}
use Rattle.lapin_rules.specs.Leaving.{may_begin, begun_rest}
use Rattle.lapin_rules.specs.Handing.{handed_out, after_handing, left_marks, sent}
use Rattle.lapin_rules.specs.Drops.{is_on, publish_channel}
use Rattle.lapin_rules.specs.Wire.{Wire, with_lists}
use Rattle.lapin_verdicts.specs.Publishes.{Message, Tally, no_tally, with_whole, tally_after}
use Rattle.lapin_verdicts.specs.Verdicts.{at_place}
use Rattle.lapin_verdicts.specs.Session.{IsPending, whole_tally, rest_on, next_on}
use Rattle.lapin_verdicts.proofs.Cutting.{message_in, publish_comes, behind_frames}
use Rattle.lapin_verdicts.proofs.Marks.{pending_back, channel-append, many-append}
use Rattle.lapin_effects.specs.Effects.{hears, open_entry}
use Rattle.lapin_verdicts.proofs.Turns.{turns_on, turn_selected, turn_place, waits_one, opening-longer, after-quiet, after-never}
use Rattle.lapin_verdicts.proofs.Numbering.{Queue, AreRest, Going, Inv, not_hears, place-more}
use Rattle.lapin_verdicts.proofs.Keeping.{place-last}
use Rattle.lapin_verdicts.proofs.Leaving.{Lay, still_by, moved_inv, rest_kept, method_kept}
use Rattle.std.proofs.lemmas.Bool.{or_parts}
use Rattle.lapin_tables.proofs.Bools.{or_true}
use Rattle.lapin_concord.proofs.Leaving.{none_stays}
use Rattle.lapin_rules.proofs.ListLaws.{or_false}
use Rattle.std.proofs.lemmas.Option.{same_Some}

-- ---- the publish that begins, among those that wait

pub record Taken (msgs : List Message) (ms : List ConfirmMark) (low : ℕ) (q : Publish) : Type 0 where
  pub above : low < q.confirm
  pub accepted : q.confirm ≤ added ms
  pub unleft : has_left q.confirm ms ≡ false
  pub on : channel_of q.confirm ms ≡ q.channel
  pub at : at_place q.confirm msgs ≡ Some (message_in q)

abbrev Mark : Publish → List ConfirmMark
Mark q = mark.Left q.channel q.confirm ∷ []

pub find_taken : (p : Publish → Bool) (msgs : List Message) (ms : List ConfirmMark) (low : ℕ) (qs : List Publish) (q : Publish) → find p qs ≡ Some q → Queue msgs ms low qs → Taken msgs ms low q
find_taken p msgs ms low [] q f h = absurd cc
find_taken p msgs ms low (x ∷ qs) q f h = elim (p x) as (λ b. cond b (Some x) (find p qs) ≡ Some q → Taken msgs ms low q) [
  | true ↦ λ e. subst (Taken msgs ms low) (same_Some x q e) (record { above = h.0; accepted = h.1; unleft = h.2; on = h.3; at = h.4 })
  | false ↦ λ e. (let r = find_taken p msgs ms x.confirm qs q e h.5 in let lt = h.0 in let up = r.above in record { above = omega (arith, lt, up); accepted = r.accepted; unleft = r.unleft; on = r.on; at = r.at })
] f

left_other : (k : ℕ) (q : Publish) (ms : List ConfirmMark) → (q.confirm == k) ≡ false → has_left k (ms ++ Mark q) ≡ has_left k ms
left_other k q ms h = list_any-append (leaves k) ms (Mark q) ∙ (rw h (or_false (has_left k ms)))

added_mark : (ms : List ConfirmMark) (q : Publish) → added (ms ++ Mark q) ≡ added ms
added_mark ms q = let e = many-append adds ms (Mark q) in omega (arith, e)

queue_one : (msgs : List Message) (ms : List ConfirmMark) (q x : Publish) → 0 < x.confirm → x.confirm ≤ added ms → (q.confirm == x.confirm) ≡ false → has_left x.confirm ms ≡ false → channel_of x.confirm ms ≡ x.channel → (x.confirm ≤ added (ms ++ Mark q)) × (has_left x.confirm (ms ++ Mark q) ≡ false) × (channel_of x.confirm (ms ++ Mark q) ≡ x.channel)
queue_one msgs ms q x z le off u on = ((let e = added_mark ms q in omega (arith, e, le)), left_other x.confirm q ms off ∙ u, channel-append x.confirm ms (Mark q) z le ∙ on)

-- those behind it are higher
queue_above : (msgs : List Message) (ms : List ConfirmMark) (q : Publish) (low : ℕ) (qs : List Publish) → q.confirm ≤ low → Queue msgs ms low qs → Queue msgs (ms ++ Mark q) low qs
queue_above msgs ms q low [] le h = tt
queue_above msgs ms q low (x ∷ qs) le h =
    let lt = h.0 in
    let off : (q.confirm == x.confirm) ≡ false = ne_eqb q.confirm x.confirm (λ e. let w : ⊥ = omega (arith, lt, le, e) in w) in
    let one = queue_one msgs ms q x (omega (arith, lt)) h.1 off h.2 h.3 in
    (h.0, one.0, one.1, one.2, h.4, queue_above msgs ms q x.confirm qs (omega (arith, lt, le)) h.5)

-- those that stay wait on
pub queue_left : (p : Publish → Bool) (msgs : List Message) (ms : List ConfirmMark) (low : ℕ) (qs : List Publish) (q : Publish) → find p qs ≡ Some q → Queue msgs ms low qs → Queue msgs (ms ++ Mark q) low (without_first p qs)
queue_left p msgs ms low [] q f h = absurd cc
queue_left p msgs ms low (x ∷ qs) q f h = elim (p x) as (λ b. cond b (Some x) (find p qs) ≡ Some q → Queue msgs (ms ++ Mark q) low (cond b qs (x ∷ without_first p qs))) [
  | true ↦ λ e. (let same : x ≡ q = same_Some x q e in let le : q.confirm ≤ x.confirm = subst (λ (v : Publish). v.confirm ≤ x.confirm) same (omega arith) in let lt = h.0 in weaken low x.confirm qs (omega (arith, lt)) (queue_above msgs ms q x.confirm qs le h.5))
  | false ↦ λ e.
      (let r = find_taken p msgs ms x.confirm qs q e h.5 in
      let up = r.above in let lt = h.0 in
      let off : (q.confirm == x.confirm) ≡ false = ne_eqb q.confirm x.confirm (λ g. let w : ⊥ = omega (arith, up, g) in w) in
      let one = queue_one msgs ms q x (omega (arith, lt)) h.1 off h.2 h.3 in
      (h.0, one.0, one.1, one.2, h.4, queue_left p msgs ms x.confirm qs q e h.5))
] f
  where
    weaken : (low high : ℕ) (qs : List Publish) → low < high → Queue msgs (ms ++ Mark q) high qs → Queue msgs (ms ++ Mark q) low qs
    weaken low high [] lt h = tt
    weaken low high (x ∷ qs) lt h = ((let up = h.0 in omega (arith, up, lt)), h.1, h.2, h.3, h.4, h.5)

pub find_on : (p : Publish → Bool) (c : ℕ) (qs : List Publish) (q : Publish) → find p qs ≡ Some q → q.channel ≡ c → list_any (is_on publish_channel c) qs ≡ true
find_on p c [] q f e = absurd cc
find_on p c (x ∷ qs) q f e = elim (p x) as (λ b. cond b (Some x) (find p qs) ≡ Some q → ((x.channel == c) || list_any (is_on publish_channel c) qs) ≡ true) [
  | true ↦ λ g. (let on : (x.channel == c) ≡ true = eq-eqb x.channel c (ap (λ (v : Publish). v.channel) (same_Some x q g) ∙ e) in rw on refl)
  | false ↦ λ g. rw (find_on p c qs q g e) (or_true (x.channel == c))
] f

without_on : (q p : Publish → Bool) (qs : List Publish) → list_any q qs ≡ false → list_any q (without_first p qs) ≡ false
without_on q p [] h = refl
without_on q p (x ∷ qs) h = elim (p x) as (λ b. list_any q (cond b qs (x ∷ without_first p qs)) ≡ false) [
  | true ↦ (or_parts (q x) (list_any q qs) h).1
  | false ↦ (let parts = or_parts (q x) (list_any q qs) h in rw parts.0 (without_on q p qs parts.1))
]

-- ---- its frames

bodies_are : (q : Publish) (ps : List (List ℕ)) → AreRest q.channel (behind q (map (λ piece. frame.Body q.channel piece) ps))
bodies_are q [] = tt
bodies_are q (p ∷ ps) = (refl, refl, bodies_are q ps)

rest_are : (n : ℕ) (q : Publish) → AreRest q.channel (rest_of n q)
rest_are n q = (refl, refl, bodies_are q (cut (room_for_body n) q.payload))

-- ---- its mark

pub through-new : {X : Type 0} (p : X → Bool) (xs : List X) (x : X) → list_any p xs ≡ false → through p (xs ++ x ∷ []) ≡ xs ++ x ∷ []
through-new p [] x h = elim (p x) as (λ b. cond b (x ∷ []) (x ∷ []) ≡ x ∷ []) [ true ↦ refl | false ↦ refl ]
through-new p (y ∷ xs) x h = elim (p y) as (λ b. (b || list_any p xs) ≡ false → cond b (y ∷ []) (y ∷ through p (xs ++ x ∷ [])) ≡ y ∷ (xs ++ x ∷ [])) [ true ↦ λ e. absurd cc | false ↦ λ e. ap (λ v. y ∷ v) (through-new p xs x e) ] h

left_selected : (c d k : ℕ) (ms : List ConfirmMark) → list_any (begins c) ms ≡ true → is_selected c (ms ++ mark.Left d k ∷ []) ≡ is_selected c ms
left_selected c d k ms b = ap (list_any (selects c)) (opening-longer c ms (mark.Left d k ∷ []) refl b) ∙ (list_any-append (selects c) (opening c ms) (mark.Left d k ∷ []) ∙ or_false (list_any (selects c) (opening c ms)))

left_place : (c k : ℕ) (ms : List ConfirmMark) → list_any (begins c) ms ≡ true → place c (ms ++ mark.Left c k ∷ []) ≡ cond (is_selected c ms) (place c ms + 1) (place c ms)
left_place c k ms b =
    ap (λ o. count_by (leaves_on c) (after (selects c) o)) (opening-longer c ms (mark.Left c k ∷ []) refl b)
    ∙ (ap (count_by (leaves_on c)) (after-quiet (selects c) (opening c ms) (mark.Left c k ∷ []) refl) ∙ by (list_any (selects c) (opening c ms)) refl)
  where
    by : (v : Bool) → list_any (selects c) (opening c ms) ≡ v → count_by (leaves_on c) (cond v (after (selects c) (opening c ms) ++ mark.Left c k ∷ []) []) ≡ cond v (place c ms + 1) (place c ms)
    by true e = fold-append (λ a x. a + cond (leaves_on c x) 1 0) 0 (after (selects c) (opening c ms)) (mark.Left c k ∷ []) ∙ rw (eq-eqb c c refl) refl
    by false e = ap (count_by (leaves_on c)) (sym (after-never (selects c) (opening c ms) e))

-- the tag that it takes
pub next_tag : (c k t : ℕ) (ms : List ConfirmMark) → has_left k ms ≡ false → channel_of k (ms ++ mark.Left c k ∷ []) ≡ c → list_any (begins c) ms ≡ true → tag_of k (ms ++ mark.Left c k ∷ []) ≡ Some t → (is_selected c ms ≡ true) × (t ≡ place c ms + 1)
next_tag c k t ms u on b h =
    let now : tag_on c (ms ++ mark.Left c k ∷ []) ≡ Some t = ap (tag_on c) (sym (through-new (leaves k) ms (mark.Left c k) u)) ∙ (ap (λ d. tag_on d (through (leaves k) (ms ++ mark.Left c k ∷ []))) (sym on) ∙ h) in
    by (is_selected c ms) refl (ap (λ v. cond v (Some (place c (ms ++ mark.Left c k ∷ []))) None) (sym (left_selected c c k ms b)) ∙ now)
  where
    by : (v : Bool) → is_selected c ms ≡ v → cond v (Some (place c (ms ++ mark.Left c k ∷ []))) None ≡ Some t → (v ≡ true) × (t ≡ place c ms + 1)
    by true e g = (refl, (let same : place c (ms ++ mark.Left c k ∷ []) ≡ t = cc in sym same ∙ (left_place c k ms b ∙ ap (λ w. cond w (place c ms + 1) (place c ms)) e)))
    by false e g = absurd cc

-- ---- a publish begins

module _ (n c : ℕ) (t : ℕ → Bool) (msgs : List Message) (ps : List Publish) (b : Wire) (ms : List ConfirmMark) (fs : List Frame) (q : Publish) where
  abbrev B : Wire
  B = Lay [] [] ps b

  abbrev B2 : Wire
  B2 = record b { rest = rest_of b.frame_max q; methods = []; publishes = without_first (may_begin t) ps }

  abbrev g : Frame
  g = frame.Method q.channel (publish_method q)

  abbrev xs : List ConfirmMark
  xs = Mark q

  abbrev y : Tally
  y = fold (next_on c) no_tally fs

  one : fold (next_on c) no_tally (fs ++ g ∷ []) ≡ next_on c y g
  one = fold-append (next_on c) no_tally fs (g ∷ [])

  -- a publish that is pending then was before, or is this one
  pending_or : Inv n c msgs B ms fs → (k u : ℕ) → IsPending c k u (ms ++ xs) → IsPending c k u ms ⊎ (q.confirm ≡ k)
  pending_or i k u p = elim (eqb_tells q.confirm k) [
    | inl z ↦ inr z.1
    | inr z ↦
        let l : has_left k ms ≡ true = sym (left_other k q ms z.0) ∙ p.left in
        inl (pending_back c k u ms xs p (i.accepted k l).1 l)
  ]

  -- on another channel
  away : Inv n c msgs B ms fs → Taken msgs ms 0 q → (q.channel == c) ≡ false → list_any (begins c) ms ≡ true → Going c msgs ms B fs → Going c msgs (ms ++ xs) B2 (fs ++ g ∷ [])
  away i k off begun w =
      let step : next_on c y g ≡ y = rw off refl in
      let left : rest_on c (rest_of b.frame_max q) ≡ [] = rw off refl in
      let same : whole_tally c B2 (fs ++ g ∷ []) ≡ y = ap (λ v. fold tally_after (fold (next_on c) no_tally (fs ++ g ∷ [])) v) left ∙ (one ∙ step) in
      let turn : list_any (turns_on c) xs ≡ false = rw off refl in
      record {
        shut = refl;
        selected = ap (λ (z : Tally). z.selected) same ∙ (w.selected ∙ sym (turn_selected c ms xs turn begun));
        idle = ap (λ (z : Tally). z.coming) same ∙ w.idle;
        count = ap (λ (z : Tally). length z.numbered) same ∙ (w.count ∙ sym (turn_place c ms xs turn begun));
        taken = λ j u p. elim (pending_or i j u p) [
          | inl was ↦ (let r = w.taken j u was in (r.0, ap (λ (z : Tally). at_place u z.numbered) same ∙ r.1, r.2))
          | inr e ↦
              let here : q.channel ≡ c = sym k.on ∙ (ap (λ v. channel_of v ms) e ∙ (sym (channel-append j ms xs (subst (λ v. 0 < v) e k.above) (subst (λ v. v ≤ added ms) e k.accepted)) ∙ p.on)) in
              let no : true ≡ false = sym (eq-eqb q.channel c here) ∙ off in
              absurd cc
        ];
      }

  -- on this one
  here : 8 < n → Inv n c msgs B ms fs → Taken msgs ms 0 q → q.channel ≡ c → list_any (begins c) ms ≡ true → Going c msgs ms B fs → Going c msgs (ms ++ xs) B2 (fs ++ g ∷ [])
  here big i k on begun w =
      let on' : (q.channel == c) ≡ true = eq-eqb q.channel c on in
      let big' : 8 < b.frame_max = subst (λ v. 8 < v) (sym i.max) big in
      let step : next_on c y g ≡ tally_after y g = rw on' refl in
      let left : rest_on c (rest_of b.frame_max q) ≡ contents_of b.frame_max q = ap (λ v. cond v (map (λ (f : RestEntry). f.frame) (rest_of b.frame_max q)) []) on' ∙ behind_frames q (contents_of b.frame_max q) in
      let same : whole_tally c B2 (fs ++ g ∷ []) ≡ with_whole (message_in q) y =
      ap (λ v. fold tally_after v (rest_on c (rest_of b.frame_max q))) (one ∙ step) ∙ (ap (fold tally_after (tally_after y g)) left ∙ publish_comes b.frame_max q y big') in
      let C : ℕ → Type 0 = λ v. (is_selected c (ms ++ mark.Left v q.confirm ∷ []) ≡ is_selected c ms) × (place c (ms ++ mark.Left v q.confirm ∷ []) ≡ cond (is_selected c ms) (place c ms + 1) (place c ms)) in
      let turned : C q.channel = subst C (sym on) (left_selected c c q.confirm ms begun, left_place c q.confirm ms begun) in
      record {
        shut = refl;
        selected = ap (λ (z : Tally). z.selected) same ∙ (w.selected ∙ sym turned.0);
        idle = ap (λ (z : Tally). z.coming) same;
        count = ap (λ (z : Tally). length z.numbered) same ∙ (counts y.selected ∙ (ap (λ v. cond v (length y.numbered + 1) (length y.numbered)) w.selected ∙ (ap (λ v. cond (is_selected c ms) (v + 1) v) w.count ∙ sym turned.1)));
        taken = λ j u p. elim (pending_or i j u p) [
          | inl was ↦ (let r = w.taken j u was in (r.0, ap (λ (z : Tally). at_place u z.numbered) same ∙ grown y.selected u r.0 r.1, r.2))
          | inr e ↦
              let tags : tag_of q.confirm (ms ++ mark.Left c q.confirm ∷ []) ≡ Some u = ap (λ v. tag_of q.confirm (ms ++ mark.Left v q.confirm ∷ [])) (sym on) ∙ (ap (λ v. tag_of v (ms ++ xs)) e ∙ p.tag) in
              let chan : channel_of q.confirm (ms ++ mark.Left c q.confirm ∷ []) ≡ c = ap (λ v. channel_of q.confirm (ms ++ mark.Left v q.confirm ∷ [])) (sym on) ∙ (ap (λ v. channel_of v (ms ++ xs)) e ∙ p.on) in
              let next = next_tag c q.confirm u ms k.unleft chan begun tags in
              let at : at_place u (y.numbered ++ message_in q ∷ []) ≡ Some (message_in q) = place-last u y.numbered (message_in q) (let cnt = w.count in let is = next.1 in omega (arith, cnt, is)) in
              (message_in q, ap (λ (z : Tally). at_place u z.numbered) same ∙ (ap (λ v. at_place u (cond v (y.numbered ++ message_in q ∷ []) y.numbered)) (w.selected ∙ next.0) ∙ at), ap (λ v. at_place v msgs) (sym e) ∙ k.at)
        ];
      }
    where
      counts : (v : Bool) → length (cond v (y.numbered ++ message_in q ∷ []) y.numbered) ≡ cond v (length y.numbered + 1) (length y.numbered)
      counts true = length-append y.numbered (message_in q ∷ [])
      counts false = refl

      grown : (v : Bool) (u : ℕ) (m : Message) → at_place u y.numbered ≡ Some m → at_place u (cond v (y.numbered ++ message_in q ∷ []) y.numbered) ≡ Some m
      grown true u m e = place-more u y.numbered (message_in q ∷ []) m e
      grown false u m e = e

  begun_kept : 8 < n → find (may_begin t) ps ≡ Some q → Inv n c msgs B ms fs → Inv n c msgs B2 (ms ++ xs) (fs ++ g ∷ [])
  begun_kept big f i =
      let k = find_taken (may_begin t) msgs ms 0 ps q f i.queue in
      let more = added_mark ms q in
      moved_inv n c msgs B B2 ms xs fs (fs ++ g ∷ []) (record {
        still = still_by B B2 refl refl;
        max = refl;
        published = refl;
        plain = tt;
        contents = (q.channel, rest_are b.frame_max q);
        added_same = more;
        queue = queue_left (may_begin t) msgs ms 0 ps q f i.queue;
        accepted = λ j l. elim (eqb_tells q.confirm j) [
          | inl z ↦ (let up = k.above in let le = k.accepted in let e = z.1 in (omega (arith, up, e), omega (arith, le, e)))
          | inr z ↦ i.accepted j (sym (left_other j q ms z.0) ∙ l)
        ];
        opens = λ j z le on w. elim (eqb_tells q.confirm j) [
          | inl e ↦
              let here : q.channel ≡ c = sym k.on ∙ (ap (λ v. channel_of v ms) e.1 ∙ on) in
              elim (hears c B) as (λ v. hears c B ≡ v → v ≡ true) [
                | true ↦ λ h. refl
                | false ↦ λ h. (let no : true ≡ false = sym (find_on (may_begin t) c ps q f here) ∙ i.publishes h in absurd cc)
              ] refl
          | inr e ↦ i.opens j z le on (waits_one j ms xs z le (left_other j q ms e.0) w).before
        ];
        shut_down = λ d. (let none : ps ≡ [] = (i.shut_down d).0 in let no : find (may_begin t) [] ≡ Some q = subst (λ v. find (may_begin t) v ≡ Some q) none f in absurd cc);
        publishes = λ l. without_on (is_on publish_channel c) (may_begin t) ps (i.publishes l);
        begun_rest = λ l. elim (eqb_tells q.channel c) [
          | inl z ↦ (let no : true ≡ false = sym (find_on (may_begin t) c ps q f z.1) ∙ i.publishes (not_hears c B l) in absurd cc)
          | inr z ↦ z.0
        ];
        quiet = λ _. tt;
      }) i (λ l. elim (i.stands l) [
        | inl u ↦ absurd (never u.before (open_entry c u.ticket) u.behind u.is)
        | inr w ↦ inr (elim (eqb_tells q.channel c) [ inl z ↦ here big i k z.1 (i.begun l) w | inr z ↦ away i k z.0 (i.begun l) w ])
      ])
    where
      never : (xs : List MethodEntry) (m : MethodEntry) (ys : List MethodEntry) → [] ≡ xs ++ m ∷ ys → ⊥
      never [] m ys e = cc
      never (x ∷ xs) m ys e = cc

-- ---- a frame request

abbrev pub left_frames : Option Left → List Frame
left_frames None = []
left_frames (Some l) = l.frame ∷ []

abbrev IsKept : ℕ → ℕ → (ℕ → Bool) → List Message → Wire → List ConfirmMark → List Frame → Type 0
IsKept n c t msgs b ms fs = Inv n c msgs (after_handing t b) (ms ++ left_marks (handed_out t b)) (fs ++ left_frames (handed_out t b))

publish_by : (n c : ℕ) (t : ℕ → Bool) (msgs : List Message) (ps : List Publish) (b : Wire) (ms : List ConfirmMark) (fs : List Frame) → 8 < n → Inv n c msgs (Lay [] [] ps b) ms fs → (o : Option Publish) → find (may_begin t) ps ≡ o → Inv n c msgs (sent (option_map left_publish o) (with_lists (record { rest = begun_rest b.frame_max o; methods = []; publishes = without_first (may_begin t) ps }) (Lay [] [] ps b))) (ms ++ left_marks (option_map left_publish o)) (fs ++ left_frames (option_map left_publish o))
publish_by n c t msgs ps b ms fs big i None e =
    let I : List Publish → List ConfirmMark → List Frame → Type 0 = λ qs xs gs. Inv n c msgs (Lay [] [] qs b) xs gs in
    subst (λ v. I (without_first (may_begin t) ps) (ms ++ []) v) (sym (append-nil fs)) (subst (λ v. I (without_first (may_begin t) ps) v fs) (sym (append-nil ms)) (subst (λ v. I v ms fs) (sym (none_stays (may_begin t) ps e)) i))
publish_by n c t msgs ps b ms fs big i (Some q) e = begun_kept n c t msgs ps b ms fs q big e i

next_by : (n c : ℕ) (t : ℕ → Bool) (msgs : List Message) (rs : List RestEntry) (es : List MethodEntry) (ps : List Publish) (b : Wire) (ms : List ConfirmMark) (fs : List Frame) → 8 < n → Inv n c msgs (Lay rs es ps b) ms fs → IsKept n c t msgs (Lay rs es ps b) ms fs
next_by n c t msgs (f ∷ rs) es ps b ms fs big i = rest_kept n c t msgs f rs es ps b ms fs i
next_by n c t msgs [] (m ∷ es) ps b ms fs big i = method_kept n c t msgs m es ps b ms fs i
next_by n c t msgs [] [] ps b ms fs big i = publish_by n c t msgs ps b ms fs big i (find (may_begin t) ps) refl

pub next_kept : (n c : ℕ) (t : ℕ → Bool) (msgs : List Message) (b : Wire) (ms : List ConfirmMark) (fs : List Frame) → 8 < n → Inv n c msgs b ms fs → IsKept n c t msgs b ms fs
next_kept n c t msgs b ms fs big i = next_by n c t msgs b.rest b.methods b.publishes b ms fs big i
