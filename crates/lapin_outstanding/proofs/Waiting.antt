-- What has not left waits: after one publish joins, leaves or is taken out, and after others are resolved.
use Rattle.std.proofs.Common.{◌≡◌, ◌≢◌, ℕ, zero, suc, ◌+◌, ◌==◌, ◌||◌, ◌&&◌, Bool, true, false, cond, not, List, [], ◌∷◌, ◌++◌, map, length, Option, Some, None, refl, sym, ◌∙◌, ap, subst, arith, get_or, slice_get, inl, inr, eq-eqb, ne_eqb}
use Rattle.std.specs.List.{list_any, find, filter}
use Rattle.std.specs.Option.{option_map}
use Rattle.std.proofs.lemmas.Bool.Decides.{eqb_tells}
use Rattle.lapin_types.specs.declared.Error.{Error}
use Rattle.lapin_types.specs.declared.leaving.Publish.{Publish}
use Rattle.lapin_tables.specs.Numbered.{under, with_under}
use Rattle.lapin_tables.proofs.SlotLaws.{under-other, map-kept}
use Rattle.lapin_types.specs.declared.outcome.Outcome.{Outcome}
use Rattle.lapin_types.specs.declared.outcome.Outcome.TheVariants as outcome
use Rattle.lapin_rules.specs.Words.{without_first}
use Rattle.lapin_rules.specs.Drops.{is_on, is_off, publish_channel, unbegun}
use Rattle.lapin_rules.proofs.ListLaws.{any-push}
use Rattle.lapin_outbox.specs.declared.dropped.Dropped.{Dropped}
use Rattle.lapin_outbox.specs.Drops.{told_publish}
use Rattle.lapin_confirm.specs.declared.cell.Cell.{Cell}
use Rattle.lapin_confirm.specs.declared.cell.Cell.TheVariants as cell
use Rattle.lapin_rules.specs.ConfirmMarks as mark
use Rattle.lapin_confirm.specs.PublishStates.{PublishStates, is_queued_on, is_open_on, is_resolved, settled_cell, closed_cell, ended_cell, closed_here}
use Rattle.lapin_confirm.specs.Machine.{after_mark, rejected, with_publish_states}
use Rattle.lapin_confirm.specs.ConfirmState.{ConfirmState}
use Rattle.lapin_confirm.proofs.ConfirmModes.{same-publish_states}
use Rattle.lapin_confirm.proofs.Closing.{close-next}
use Rattle.lapin_outstanding.specs.Queued.{EachQueued, AllWait, AreQueued, is_publish_of, rejected_told}
use Rattle.lapin_outstanding.proofs.Queueing.{under-last, under-map, queued-kept, queued-push, queued-written, resolved_apart, still-queued, queued-ended, closed-queued, first-of}
use Rattle.lapin_tables.proofs.Bools.{or_true, and_false, same_number}

-- ---- whether a list has an element that passes

-- one that does not pass is taken out
any-out : {X : Type 0} (t q : X → Bool) (xs : List X) (x : X) → find t xs ≡ Some x → q x ≡ false → list_any q (without_first t xs) ≡ list_any q xs
any-out t q [] x e fails = cc
any-out {X} t q (y ∷ ys) x e fails = elim (t y) as (λ b. cond b (Some y) (find t ys) ≡ Some x → list_any q (cond b ys (y ∷ without_first t ys)) ≡ (q y || list_any q ys)) [
  | true ↦ λ here. let same : y ≡ x = cc in rw (ap q same ∙ fails) refl
  | false ↦ λ later. ap (λ b. q y || b) (any-out t q ys x later fails)
] e

pub any-off : (c d n : ℕ) (ps : List Publish) → c ≢ d → list_any (is_publish_of d n) (filter (is_off publish_channel c) ps) ≡ list_any (is_publish_of d n) ps
any-off c d n [] apart = refl
any-off c d n (p ∷ ps) apart = elim (eqb_tells p.channel c) [
  | inl here ↦ let away : p.channel ≢ d = λ e. apart (sym here.1 ∙ e) in rw (here.0, ne_eqb p.channel d away) (any-off c d n ps apart)
  | inr other ↦ rw other.0 (ap (λ b. is_publish_of d n p || b) (any-off c d n ps apart))
]

any-off_none : (c n : ℕ) (ps : List Publish) → list_any (is_publish_of c n) (filter (is_off publish_channel c) ps) ≡ false
any-off_none c n [] = refl
any-off_none c n (p ∷ ps) = elim (p.channel == c) as (λ b. (p.channel == c) ≡ b → list_any (is_publish_of c n) (cond (not b) (p ∷ filter (is_off publish_channel c) ps) (filter (is_off publish_channel c) ps)) ≡ false) [
  | true ↦ λ on. any-off_none c n ps
  | false ↦ λ off. rw off (any-off_none c n ps)
] refl

-- ---- what stands under a number

get_or-beyond : {X : Type 0} (xs : List X) (k : ℕ) (y d : X) → k ≢ length xs → get_or (xs ++ y ∷ []) k d ≡ get_or xs k d
get_or-beyond [] zero y d h = absurd (h refl)
get_or-beyond [] (suc k) y d h = refl
get_or-beyond (x ∷ xs) zero y d h = refl
get_or-beyond (x ∷ xs) (suc k) y d h = get_or-beyond xs k y d (λ e. h (ap (λ i. suc i) e))

under-beyond : (n : ℕ) (cells : List (Option Cell)) (y : Option Cell) → n ≢ length cells + 1 → under n (cells ++ y ∷ []) ≡ under n cells
under-beyond zero cells y h = refl
under-beyond (suc k) cells y h = get_or-beyond cells k y None (λ e. h (omega arith))

-- none passes where one that does not was written
written-fails : (P : Option Cell → Bool) (n : ℕ) (o : Option Cell) (cells : List (Option Cell)) → P None ≡ false → P o ≡ false → P (under n (with_under n o cells)) ≡ false
written-fails P zero o cells none fails = none
written-fails P (suc k) o [] none fails = none
written-fails P (suc zero) o (x ∷ cells) none fails = fails
written-fails P (suc (suc k)) o (x ∷ cells) none fails = written-fails P (suc k) o cells none fails

passes-other : (P : Option Cell → Bool) (n m : ℕ) (o : Option Cell) (cells : List (Option Cell)) → P None ≡ false → P o ≡ false → P (under m (with_under n o cells)) ≡ true → (m ≢ n) × (P (under m cells) ≡ true)
passes-other P n m o cells none fails h =
    elim (eqb_tells m n) [
      | inl here ↦
          let Q : ℕ → Type 0 = λ i. P (under i (with_under n o cells)) ≡ true in
          let yes : P (under n (with_under n o cells)) ≡ true = subst Q here.1 h in
          let no = written-fails P n o cells none fails in
          cc
      | inr other ↦ (other.1, ap P (sym (under-other m n o cells other.1)) ∙ h)
    ]

-- ---- what has not left waits

waits-push : (c : ℕ) (cells : List (Option Cell)) (ps : List Publish) (p : Publish) → p.confirm ≡ length cells + 1 → p.channel ≡ c → AllWait cells ps → AllWait (cells ++ Some (cell.Queued c) ∷ []) (ps ++ p ∷ [])
waits-push c cells ps p at on all = λ d n h. any-push (is_publish_of d n) ps p ∙ joined d n h
  where
    joined : (d n : ℕ) → is_queued_on d (under n (cells ++ Some (cell.Queued c) ∷ [])) ≡ true → (list_any (is_publish_of d n) ps || is_publish_of d n p) ≡ true
    joined d n h =
        elim (eqb_tells n (length cells + 1)) [
          | inl here ↦
              let queued : (c == d) ≡ true = sym (ap (is_queued_on d) (under-last n cells (Some (cell.Queued c)) here.1)) ∙ h in
              let channel : (p.channel == d) ≡ true = ap (λ k. k == d) on ∙ queued in
              let number : (p.confirm == n) ≡ true = eq-eqb p.confirm n (at ∙ sym here.1) in
              rw (channel, number) (or_true (list_any (is_publish_of d n) ps))
          | inr other ↦
              let was : list_any (is_publish_of d n) ps ≡ true = all d n (sym (ap (is_queued_on d) (under-beyond n cells (Some (cell.Queued c)) other.1)) ∙ h) in
              rw was refl
        ]

-- one is written that now has left
waits-written : (n : ℕ) (o : Option Cell) (cells : List (Option Cell)) (ps qs : List Publish) → ((d : ℕ) → is_queued_on d o ≡ false) → ((d m : ℕ) → m ≢ n → list_any (is_publish_of d m) ps ≡ true → list_any (is_publish_of d m) qs ≡ true) → AllWait cells ps → AllWait (with_under n o cells) qs
waits-written n o cells ps qs gone keeps all = λ d m h. let was = passes-other (is_queued_on d) n m o cells refl (gone d) h in keeps d m was.0 (all d m was.1)

-- what had left has left
waits-mapped : (g : Cell → Cell) (cells : List (Option Cell)) (ps : List Publish) → ((d : ℕ) (x : Cell) → is_queued_on d (Some (g x)) ≡ true → is_queued_on d (Some x) ≡ true) → AllWait cells ps → AllWait (map (option_map g) cells) ps
waits-mapped g cells ps back all = λ d n h. all d n (at d (under n cells) (sym (ap (is_queued_on d) (under-map n g cells)) ∙ h))
  where
    at : (d : ℕ) (o : Option Cell) → is_queued_on d (option_map g o) ≡ true → is_queued_on d o ≡ true
    at d None h = cc
    at d (Some x) h = back d x h

settled-back : (c d : ℕ) (covered : ℕ → Bool) (o : Outcome) (x : Cell) → is_queued_on d (Some (settled_cell c covered o x)) ≡ true → is_queued_on d (Some x) ≡ true
settled-back c d covered o (cell.Queued e) h = h
settled-back c d covered o (cell.Pending e t) h = elim (e == c && covered t) as (λ b. is_queued_on d (Some (cond b (cell.Resolved o) (cell.Pending e t))) ≡ true → is_queued_on d (Some (cell.Pending e t)) ≡ true) [ true ↦ λ h. cc | false ↦ λ h. cc ] h
settled-back c d covered o (cell.Resolved y) h = cc

ended-back : (c d : ℕ) (e : Error) (x : Cell) → is_queued_on d (Some (ended_cell c e x)) ≡ true → is_queued_on d (Some x) ≡ true
ended-back c d e (cell.Queued k) h = elim (k == c) as (λ b. is_queued_on d (Some (cond b (cell.Resolved (outcome.Failed e)) (cell.Queued k))) ≡ true → (k == d) ≡ true) [ true ↦ λ h. cc | false ↦ λ h. h ] h
ended-back c d e (cell.Pending k t) h = elim (k == c) as (λ b. is_queued_on d (Some (cond b (cell.Resolved (outcome.Failed e)) (cell.Pending k t))) ≡ true → is_queued_on d (Some (cell.Pending k t)) ≡ true) [ true ↦ λ h. cc | false ↦ λ h. cc ] h
ended-back c d e (cell.Resolved y) h = cc

-- ---- publishes that wait and confirms, after each change

-- the same cells and publishes
pub queue-same : (cells after : List (Option Cell)) (ps qs : List Publish) → after ≡ cells → qs ≡ ps → AreQueued cells ps → AreQueued after qs
queue-same cells after ps qs same left q =
    let P : List Publish → Type 0 = λ xs. AreQueued cells xs in
    let Q : List (Option Cell) → Type 0 = λ xs. AreQueued xs qs in
    subst Q (sym same) (subst P (sym left) q)

pub queue-push : (c : ℕ) (cells : List (Option Cell)) (ps : List Publish) (p : Publish) → p.confirm ≡ length cells + 1 → p.channel ≡ c → AreQueued cells ps → AreQueued (cells ++ Some (cell.Queued c) ∷ []) (ps ++ p ∷ [])
queue-push c cells ps p at on q = record { each = queued-push c cells ps p at on q.each; all = waits-push c cells ps p at on q.all }

-- the first publish leaves
pub queue-left : (o : Option Cell) (cells : List (Option Cell)) (p : Publish) (ps : List Publish) → ((d : ℕ) → is_queued_on d o ≡ false) → AreQueued cells (p ∷ ps) → AreQueued (with_under p.confirm o cells) ps
queue-left o cells p ps gone q = record {
  each = queued-written p.confirm o cells ps q.each.1 q.each.2;
  all = waits-written p.confirm o cells (p ∷ ps) ps gone later q.all;
}
  where
    later : (d m : ℕ) → m ≢ p.confirm → list_any (is_publish_of d m) (p ∷ ps) ≡ true → list_any (is_publish_of d m) ps ≡ true
    later d m apart h = let no : is_publish_of d m p ≡ false = rw (ne_eqb p.confirm m (λ e. apart (sym e))) (and_false (p.channel == d)) in rw no at h

pub queue-settled : (c : ℕ) (covered : ℕ → Bool) (o : Outcome) (cells : List (Option Cell)) (ps : List Publish) → AreQueued cells ps → AreQueued (map (option_map (settled_cell c covered o)) cells) ps
queue-settled c covered o cells ps q = record {
  each = queued-kept cells _ ps (λ n d is. under-map n (settled_cell c covered o) cells ∙ ap (option_map (settled_cell c covered o)) is) q.each;
  all = waits-mapped (settled_cell c covered o) cells ps (λ d x. settled-back c d covered o x) q.all;
}

-- a result is given
pub queue-taken : (n : ℕ) (cells : List (Option Cell)) (ps : List Publish) → is_resolved (under n cells) ≡ true → AreQueued cells ps → AreQueued (with_under n None cells) ps
queue-taken n cells ps h q = record {
  each = queued-written n None cells ps (resolved_apart n cells ps h q.each) q.each;
  all = waits-written n None cells ps ps (λ d. refl) (λ d m apart waits. waits) q.all;
}

-- the opening of the channel of those that were taken out ends
pub queue-ended : (c : ℕ) (e : Error) (ps stay : List Publish) (p after : ConfirmState) → stay ≡ filter (is_off publish_channel c) ps → after ≡ after_mark p (mark.Ended c e) → AreQueued p.publish_states.cells stay → AreQueued after.publish_states.cells stay
queue-ended c e ps stay p after left ends q = record {
  each = queued-ended c e ps stay p after left ends q.each;
  all = let P : ConfirmState → Type 0 = λ x. AllWait x.publish_states.cells stay in subst P (sym ends) (waits-mapped (ended_cell c e) p.publish_states.cells stay (λ d x. ended-back c d e x) q.all);
}

-- this side closes a channel, and its publishes are taken out
pub queue-closed : (c : ℕ) (e : Error) (cells : List (Option Cell)) (ps : List Publish) → AreQueued cells ps → AreQueued (map (option_map (closed_cell c e)) cells) (filter (is_off publish_channel c) ps)
queue-closed c e cells ps q = record {
  each = closed-queued c e cells ps q.each;
  all = λ d n h.
      let was = still (under n cells) d (sym (ap (is_queued_on d) (under-map n (closed_cell c e) cells)) ∙ h) in
      any-off c d n ps was.0 ∙ q.all d n was.1;
}
  where
    still : (o : Option Cell) (d : ℕ) → is_queued_on d (option_map (closed_cell c e) o) ≡ true → (c ≢ d) × (is_queued_on d o ≡ true)
    still None d h = cc
    still (Some (cell.Queued k)) d h = elim (eqb_tells k c) [
      | inl here ↦ let none : is_queued_on d (option_map (closed_cell c e) (Some (cell.Queued k))) ≡ false = rw here.0 refl in cc
      | inr away ↦
          let same : (k == d) ≡ true = rw away.0 at h in
          ((λ x. away.1 (same_number k d same ∙ sym x)), same)
    ]
    still (Some (cell.Pending k t)) d h = cc
    still (Some (cell.Resolved x)) d h = cc

-- nothing waits where nothing is open
pub queue-none : (cells : List (Option Cell)) → ((c : ℕ) → list_any (is_open_on c) cells ≡ false) → AreQueued cells []
queue-none cells none = record {
  each = tt;
  all = λ c n h. let open_ : is_open_on c (under n cells) ≡ true = queued-open c (under n cells) h in let no = any-under c n cells (none c) in cc;
}
  where
    queued-open : (c : ℕ) (o : Option Cell) → is_queued_on c o ≡ true → is_open_on c o ≡ true
    queued-open c None h = cc
    queued-open c (Some (cell.Queued d)) h = h
    queued-open c (Some (cell.Pending d t)) h = cc
    queued-open c (Some (cell.Resolved x)) h = cc

    any-get : (p : Option Cell → Bool) (xs : List (Option Cell)) (k : ℕ) → p None ≡ false → list_any p xs ≡ false → p (get_or xs k None) ≡ false
    any-get p [] k fails h = fails
    any-get p (x ∷ xs) zero fails h = elim (p x) as (λ b. (b || list_any p xs) ≡ false → b ≡ false) [ true ↦ λ h. cc | false ↦ λ h. refl ] h
    any-get p (x ∷ xs) (suc k) fails h = any-get p xs k fails (elim (p x) as (λ b. (b || list_any p xs) ≡ false → list_any p xs ≡ false) [ true ↦ λ h. cc | false ↦ λ h. h ] h)

    any-under : (c n : ℕ) (cells : List (Option Cell)) → list_any (is_open_on c) cells ≡ false → is_open_on c (under n cells) ≡ false
    any-under c zero cells h = refl
    any-under c (suc k) cells h = any-get (is_open_on c) cells k refl h

-- a drop took out the first publish of a channel, and it was rejected
pub queue-rejected : (c : ℕ) (ps stay : List Publish) (d : Dropped) (e : Error) (b after : ConfirmState) → Some d ≡ slice_get (map told_publish (unbegun c ps)) 0 → stay ≡ without_first (is_on publish_channel c) ps → after ≡ rejected_told e d.publish b → AreQueued b.publish_states.cells ps → AreQueued after.publish_states.cells stay
queue-rejected c ps stay d e b after told left rejected_ q =
    let is = first-of c ps d told in
    let others : List Publish = without_first (is_on publish_channel c) ps in
    let gone : (k m : ℕ) → m ≢ is.first.confirm → is_publish_of k m is.first ≡ false = λ k m apart. rw (ne_eqb is.first.confirm m (λ x. apart (sym x))) (and_false (is.first.channel == k)) in
    let all : AllWait (rejected is.first.confirm e b).publish_states.cells others =
    waits-written is.first.confirm (Some (cell.Resolved (outcome.Failed e))) b.publish_states.cells ps others (λ k. refl) (λ k m apart h. any-out (is_on publish_channel c) (is_publish_of k m) ps is.first is.found (gone k m apart) ∙ h) q.all in
    let P : Dropped → Type 0 = λ x. AllWait (rejected_told e x.publish b).publish_states.cells others in
    let Q : ConfirmState → Type 0 = λ x. AllWait x.publish_states.cells others in
    let R : List Publish → Type 0 = λ xs. AllWait after.publish_states.cells xs in
    record { each = still-queued c ps stay d e b after told left rejected_ q.each; all = subst R (sym left) (subst Q (sym rejected_) (subst P (sym is.told) all)) }

-- a drop found no publish of the channel
pub queue-without : (c : ℕ) (cells : List (Option Cell)) (ps : List Publish) → unbegun c ps ≡ [] → AreQueued cells ps → AreQueued cells (without_first (is_on publish_channel c) ps)
queue-without c cells ps none q = let P : List Publish → Type 0 = λ xs. AreQueued cells xs in subst P (sym (without-none ps none)) q
  where
    without-none : (ps : List Publish) → unbegun c ps ≡ [] → without_first (is_on publish_channel c) ps ≡ ps
    without-none [] h = refl
    without-none (p ∷ ps) h = elim (is_on publish_channel c p) as (λ b. cond b (p ∷ unbegun c ps) (unbegun c ps) ≡ [] → cond b ps (p ∷ without_first (is_on publish_channel c) ps) ≡ p ∷ ps) [
      | true ↦ λ h. cc
      | false ↦ λ h. ap (λ qs. p ∷ qs) (without-none ps h)
    ] h

-- ---- a close of this side

-- a rejection leaves what the close comes to
pub close-rejected : (c : ℕ) (ps : List Publish) (d : Dropped) (e : Error) (b after : ConfirmState) → Some d ≡ slice_get (map told_publish (unbegun c ps)) 0 → after ≡ rejected_told e d.publish b → AreQueued b.publish_states.cells ps → after_mark after (mark.ClosedHere c e) ≡ after_mark b (mark.ClosedHere c e)
close-rejected c ps d e b after told rejected_ q =
    let is = first-of c ps d told in
    let P : Option ℕ → Type 0 = λ o. after_mark (rejected_told e o b) (mark.ClosedHere c e) ≡ after_mark b (mark.ClosedHere c e) in
    ap (λ (x : ConfirmState). after_mark x (mark.ClosedHere c e)) rejected_
    ∙ subst P (sym (ap (λ (x : Dropped). x.publish) is.told)) (ap (λ (x : PublishStates). with_publish_states x b) (close-next c is.first.confirm e b.publish_states (first-queued ps is.first is.found q.each)))
  where
    on_is : (p : Publish) → is_on publish_channel c p ≡ true → p.channel ≡ c
    on_is p h = elim (eqb_tells p.channel c) [ inl same ↦ same.1 | inr other ↦ cc ]

    first-queued : (ps : List Publish) (q : Publish) → find (is_on publish_channel c) ps ≡ Some q → EachQueued b.publish_states.cells ps → under q.confirm b.publish_states.cells ≡ Some (cell.Queued c)
    first-queued [] q h each = cc
    first-queued (p ∷ ps) q h each = elim (is_on publish_channel c p) as (λ t. is_on publish_channel c p ≡ t → cond t (Some p) (find (is_on publish_channel c) ps) ≡ Some q → under q.confirm b.publish_states.cells ≡ Some (cell.Queued c)) [
      | true ↦ λ on here.
          let same : p ≡ q = cc in
          let P : Publish → Type 0 = λ r. under r.confirm b.publish_states.cells ≡ Some (cell.Queued c) in
          subst P same (each.0 ∙ ap (λ k. Some (cell.Queued k)) (on_is p on))
      | false ↦ λ off later. first-queued ps q later each.2
    ] refl h

-- where no publish of the channel waits the close is done
pub close-over : (c : ℕ) (e : Error) (ps stay : List Publish) (p : ConfirmState) → stay ≡ filter (is_off publish_channel c) ps → AllWait p.publish_states.cells stay → after_mark p (mark.ClosedHere c e) ≡ p
close-over c e ps stay p left all =
    let same : closed_here c e p.publish_states ≡ p.publish_states = same-publish_states _ _ _ _ refl (map-kept (closed_cell c e) p.publish_states.cells stays) in
    ap (λ (x : PublishStates). with_publish_states x p) same
  where
    stays : (k : ℕ) (x : Cell) → under (suc k) p.publish_states.cells ≡ Some x → closed_cell c e x ≡ x
    stays k (cell.Queued d) there =
        elim (eqb_tells d c) [
          | inl here ↦
              let waits : list_any (is_publish_of c (suc k)) stay ≡ true = all c (suc k) (ap (is_queued_on c) there ∙ here.0) in
              let no : list_any (is_publish_of c (suc k)) stay ≡ false = ap (list_any (is_publish_of c (suc k))) left ∙ any-off_none c (suc k) ps in
              cc
          | inr away ↦ rw away.0 refl
        ]
    stays k (cell.Pending d t) there = refl
    stays k (cell.Resolved o) there = refl
