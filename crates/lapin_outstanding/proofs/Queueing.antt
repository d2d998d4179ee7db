-- Publishes that wait are different ones and queued: after one is taken out, and after others are resolved.
use Rattle.std.proofs.Common.{◌≡◌, ◌≢◌, ℕ, zero, suc, ◌+◌, ◌<◌, ◌≤◌, ◌==◌, Bool, true, false, cond, not, List, [], ◌∷◌, ◌++◌, map, length, Option, Some, None, refl, sym, ◌∙◌, ap, subst, arith, get_or, slice_get}
use Rattle.std.specs.List.{AllByRecursion, find, filter}
use Rattle.std.specs.Option.{option_map}
use Rattle.std.proofs.lemmas.List.{get_or-set_other}
use Rattle.lapin_types.specs.declared.Error.{Error}
use Rattle.lapin_types.specs.declared.leaving.Publish.{Publish}
use Rattle.lapin_tables.specs.Numbered.{under, with_under}
use Rattle.lapin_rules.specs.Words.{without_first}
use Rattle.lapin_rules.specs.Drops.{is_on, is_off, publish_channel, unbegun}
use Rattle.lapin_outbox.specs.declared.dropped.Dropped.{Dropped}
use Rattle.lapin_outbox.specs.Drops.{told_publish}
use Rattle.lapin_confirm.specs.declared.cell.Cell.{Cell}
use Rattle.lapin_confirm.specs.declared.cell.Cell.TheVariants as cell
use Rattle.lapin_rules.specs.ConfirmMarks as mark
use Rattle.lapin_confirm.specs.PublishStates.{is_queued, is_resolved, ended_cell, closed_cell}
use Rattle.lapin_confirm.specs.Machine.{after_mark}
use Rattle.lapin_confirm.specs.ConfirmState.{ConfirmState}
use Rattle.lapin_outstanding.specs.Queued.{EachQueued, MayReject, rejected_told}

-- ---- what stands under a number

get_or-within : {X : Type 0} (xs : List (Option X)) (k : ℕ) (x : X) → get_or xs k None ≡ Some x → k < length xs
get_or-within [] k x e = cc
get_or-within (y ∷ ys) zero x e = omega arith
get_or-within (y ∷ ys) (suc k) x e = let lt : k < length ys = get_or-within ys k x e in omega arith

get_or-push : {X : Type 0} (xs : List X) (k : ℕ) (y d : X) → k < length xs → get_or (xs ++ y ∷ []) k d ≡ get_or xs k d
get_or-push [] k y d h = absurd (omega arith)
get_or-push (x ∷ xs) zero y d h = refl
get_or-push (x ∷ xs) (suc k) y d h = get_or-push xs k y d (omega arith)

get_or-last : {X : Type 0} (xs : List X) (k : ℕ) (y d : X) → k ≡ length xs → get_or (xs ++ y ∷ []) k d ≡ y
get_or-last [] zero y d h = refl
get_or-last [] (suc k) y d h = absurd (omega arith)
get_or-last (x ∷ xs) zero y d h = absurd (omega arith)
get_or-last (x ∷ xs) (suc k) y d h = get_or-last xs k y d (omega arith)

get_or-map : {X Y : Type 0} (g : X → Y) (xs : List (Option X)) (k : ℕ) → get_or (map (option_map g) xs) k None ≡ option_map g (get_or xs k None)
get_or-map g [] k = refl
get_or-map g (x ∷ xs) zero = refl
get_or-map g (x ∷ xs) (suc k) = get_or-map g xs k

pub number-within : (n : ℕ) (cells : List (Option Cell)) (x : Cell) → under n cells ≡ Some x → (0 < n) × (n ≤ length cells)
number-within zero cells x e = cc
number-within (suc k) cells x e = let lt : k < length cells = get_or-within cells k x e in (omega arith, omega arith)

pub under-push : (n : ℕ) (cells : List (Option Cell)) (y : Option Cell) (x : Cell) → under n cells ≡ Some x → under n (cells ++ y ∷ []) ≡ Some x
under-push zero cells y x e = e
under-push (suc k) cells y x e = get_or-push cells k y None (get_or-within cells k x e) ∙ e

pub under-last : (n : ℕ) (cells : List (Option Cell)) (y : Option Cell) → n ≡ length cells + 1 → under n (cells ++ y ∷ []) ≡ y
under-last zero cells y e = absurd (omega arith)
under-last (suc k) cells y e = get_or-last cells k y None (omega arith)

pub under-other : (n m : ℕ) (o : Option Cell) (cells : List (Option Cell)) → n ≢ m → under n (with_under m o cells) ≡ under n cells
under-other zero m o cells ne = refl
under-other (suc k) zero o cells ne = refl
under-other (suc k) (suc j) o cells ne = get_or-set_other cells j k o None (λ e. ne (ap (λ i. suc i) e))

pub under-map : (n : ℕ) (g : Cell → Cell) (cells : List (Option Cell)) → under n (map (option_map g) cells) ≡ option_map g (under n cells)
under-map zero g cells = refl
under-map (suc k) g cells = get_or-map g cells k

-- ---- publishes that wait stay queued

-- what is queued stays so
pub queued-kept : (cells new : List (Option Cell)) (ps : List Publish) → ((n c : ℕ) → under n cells ≡ Some (cell.Queued c) → under n new ≡ Some (cell.Queued c)) → EachQueued cells ps → EachQueued new ps
queued-kept cells new [] keeps h = tt
queued-kept cells new (p ∷ ps) keeps h = (keeps p.confirm p.channel h.0, h.1, queued-kept cells new ps keeps h.2)

-- another cell is written
pub queued-written : (n : ℕ) (o : Option Cell) (cells : List (Option Cell)) (ps : List Publish) → AllByRecursion (λ q. n ≢ q.confirm) ps → EachQueued cells ps → EachQueued (with_under n o cells) ps
queued-written n o cells [] other h = tt
queued-written n o cells (p ∷ ps) other h = (under-other p.confirm n o cells (λ e. other.0 (sym e)) ∙ h.0, h.1, queued-written n o cells ps other.1 h.2)

-- one more publish waits
pub queued-push : (c : ℕ) (cells : List (Option Cell)) (ps : List Publish) (p : Publish) → p.confirm ≡ length cells + 1 → p.channel ≡ c → EachQueued cells ps → EachQueued (cells ++ Some (cell.Queued c) ∷ []) (ps ++ p ∷ [])
queued-push c cells [] p at on h = (under-last p.confirm cells (Some (cell.Queued c)) at ∙ ap (λ d. Some (cell.Queued d)) (sym on), tt, tt)
queued-push c cells (q ∷ ps) p at on h =
    let within = number-within q.confirm cells (cell.Queued q.channel) h.0 in
    let le : q.confirm ≤ length cells = within.1 in
    (under-push q.confirm cells (Some (cell.Queued c)) (cell.Queued q.channel) h.0, apart q.confirm ps (omega arith) h.1, queued-push c cells ps p at on h.2)
  where
    apart : (k : ℕ) (ps : List Publish) → k ≢ p.confirm → AllByRecursion (λ r. k ≢ r.confirm) ps → AllByRecursion (λ r. k ≢ r.confirm) (ps ++ p ∷ [])
    apart k [] ne h = (ne, tt)
    apart k (r ∷ rs) ne h = (h.0, apart k rs ne h.1)

-- a publish that waits isn't one whose result is there
pub resolved_apart : (n : ℕ) (cells : List (Option Cell)) (ps : List Publish) → is_resolved (under n cells) ≡ true → EachQueued cells ps → AllByRecursion (λ q. n ≢ q.confirm) ps
resolved_apart n cells [] h q = tt
resolved_apart n cells (p ∷ ps) h q = (
  λ e.
      let P : ℕ → Type 0 = λ k. is_resolved (under k cells) ≡ true in
      let here : is_resolved (under p.confirm cells) ≡ true = subst P e h in
      let not_ : is_resolved (under p.confirm cells) ≡ false = ap is_resolved q.0 in
      cc,
  resolved_apart n cells ps h q.2,
)

-- ---- one that is taken out

module _ {X : Type 0} (P : X → Type 0) (t : X → Bool) where
  pub all-without : (xs : List X) → AllByRecursion P xs → AllByRecursion P (without_first t xs)
  all-without [] h = tt
  all-without (x ∷ xs) h = elim (t x) as (λ b. AllByRecursion P (cond b xs (x ∷ without_first t xs))) [ true ↦ h.1 | false ↦ (h.0, all-without xs h.1) ]

  all-filter : (xs : List X) → AllByRecursion P xs → AllByRecursion P (filter t xs)
  all-filter [] h = tt
  all-filter (x ∷ xs) h = elim (t x) as (λ b. AllByRecursion P (cond b (x ∷ filter t xs) (filter t xs))) [ true ↦ (h.0, all-filter xs h.1) | false ↦ all-filter xs h.1 ]

  pub all-found : (xs : List X) (y : X) → AllByRecursion P xs → find t xs ≡ Some y → P y
  all-found [] y h e = cc
  all-found (x ∷ xs) y h e = elim (t x) as (λ b. cond b (Some x) (find t xs) ≡ Some y → P y) [
    | true ↦ λ here. let same : x ≡ y = cc in subst P same h.0
    | false ↦ λ later. all-found xs y h.1 later
  ] e

-- the publish that is taken out is queued, and another than each that stays
pub record TakenOut (cells : List (Option Cell)) (q : Publish) (stay : List Publish) : Type 0 where
  pub queued : under q.confirm cells ≡ Some (cell.Queued q.channel)
  pub other : AllByRecursion (λ r. q.confirm ≢ r.confirm) stay
  pub still : EachQueued cells stay

module _ (cells : List (Option Cell)) (t : Publish → Bool) where
  pub taken-out : (ps : List Publish) (q : Publish) → find t ps ≡ Some q → EachQueued cells ps → TakenOut cells q (without_first t ps)
  taken-out [] q e h = cc
  taken-out (p ∷ ps) q e h = elim (t p) as (λ b. cond b (Some p) (find t ps) ≡ Some q → TakenOut cells q (cond b ps (p ∷ without_first t ps))) [
    | true ↦ λ here.
        let same : p ≡ q = cc in
        let P : Publish → Type 0 = λ r. TakenOut cells r ps in
        subst P same (record { queued = h.0; other = h.1; still = h.2 })
    | false ↦ λ later.
        let behind = taken-out ps q later h.2 in
        let apart : p.confirm ≢ q.confirm = all-found (λ r. p.confirm ≢ r.confirm) t ps q h.1 later in
        record {
          queued = behind.queued;
          other = ((λ e. apart (sym e)), behind.other);
          still = (h.0, all-without (λ r. p.confirm ≢ r.confirm) t ps h.1, behind.still);
        }
  ] e

  pub queued-filter : (ps : List Publish) → EachQueued cells ps → EachQueued cells (filter t ps)
  queued-filter [] h = tt
  queued-filter (p ∷ ps) h = elim (t p) as (λ b. EachQueued cells (cond b (p ∷ filter t ps) (filter t ps))) [
    | true ↦ (h.0, all-filter (λ r. p.confirm ≢ r.confirm) t ps h.1, queued-filter ps h.2)
    | false ↦ queued-filter ps h.2
  ]

-- ---- the first publish of a channel, of which a drop tells

pub record FirstOf (c : ℕ) (ps : List Publish) (d : Dropped) : Type 0 where
  pub first : Publish
  pub told : d ≡ told_publish first
  pub found : find (is_on publish_channel c) ps ≡ Some first
  pub unbegun : unbegun c ps ≡ first ∷ unbegun c (without_first (is_on publish_channel c) ps)

pub first-of : (c : ℕ) (ps : List Publish) (d : Dropped) → Some d ≡ slice_get (map told_publish (unbegun c ps)) 0 → FirstOf c ps d
first-of c [] d e = cc
first-of c (p ∷ ps) d e = elim (is_on publish_channel c p) as (λ b. is_on publish_channel c p ≡ b → Some d ≡ slice_get (map told_publish (cond b (p ∷ unbegun c ps) (unbegun c ps))) 0 → FirstOf c (p ∷ ps) d) [
  | true ↦ λ on here. record { first = p; told = cc; found = rw on refl; unbegun = rw on refl }
  | false ↦ λ off later.
      let behind = first-of c ps d later in
      record { first = behind.first; told = behind.told; found = rw off behind.found; unbegun = rw (off, off) behind.unbegun }
] refl e

pub may-reject : (c : ℕ) (cells : List (Option Cell)) (ps : List Publish) (d : Dropped) → Some d ≡ slice_get (map told_publish (unbegun c ps)) 0 → EachQueued cells ps → MayReject d.publish cells
may-reject c cells ps d told q =
    let is = first-of c ps d told in
    let out = taken-out cells (is_on publish_channel c) ps is.first is.found q in
    let here : is_queued (under is.first.confirm cells) ≡ true = ap is_queued out.queued in
    let P : Dropped → Type 0 = λ x. MayReject x.publish cells in
    subst P (sym is.told) here

-- the same publishes
pub queued-by : (cells : List (Option Cell)) (ps qs : List Publish) → ps ≡ qs → EachQueued cells ps → EachQueued cells qs
queued-by cells ps qs same q = let P : List Publish → Type 0 = λ xs. EachQueued cells xs in subst P same q

pub still-queued : (c : ℕ) (ps stay : List Publish) (d : Dropped) (e : Error) (b after : ConfirmState) → Some d ≡ slice_get (map told_publish (unbegun c ps)) 0 → stay ≡ without_first (is_on publish_channel c) ps → after ≡ rejected_told e d.publish b → EachQueued b.publish_states.cells ps → EachQueued after.publish_states.cells stay
still-queued c ps stay d e b after told left rejected q =
    let is = first-of c ps d told in
    let out = taken-out b.publish_states.cells (is_on publish_channel c) ps is.first is.found q in
    let P : Dropped → Type 0 = λ x. EachQueued (rejected_told e x.publish b).publish_states.cells (without_first (is_on publish_channel c) ps) in
    let here = subst P (sym is.told) (queued-written is.first.confirm _ b.publish_states.cells (without_first (is_on publish_channel c) ps) out.other out.still) in
    let Q : ConfirmState → Type 0 = λ x. EachQueued x.publish_states.cells stay in
    subst Q (sym rejected) (queued-by (rejected_told e d.publish b).publish_states.cells _ _ (sym left) here)

pub queued-without : (c : ℕ) (cells : List (Option Cell)) (ps : List Publish) → EachQueued cells ps → EachQueued cells (without_first (is_on publish_channel c) ps)
queued-without c cells [] q = tt
queued-without c cells (p ∷ ps) q = elim (is_on publish_channel c p) as (λ b. EachQueued cells (cond b ps (p ∷ without_first (is_on publish_channel c) ps))) [
  | true ↦ q.2
  | false ↦ (q.0, all-without (λ r. p.confirm ≢ r.confirm) (is_on publish_channel c) ps q.1, queued-without c cells ps q.2)
]

-- ---- an end of another channel

ended-other : (c d : ℕ) (e : Error) → (d == c) ≡ false → ended_cell c e (cell.Queued d) ≡ cell.Queued d
ended-other c d e off = rw off refl

-- what is queued on another channel stays queued
pub ended-queued : (c : ℕ) (e : Error) (cells : List (Option Cell)) (ps : List Publish) → EachQueued cells (filter (is_off publish_channel c) ps) → EachQueued (map (option_map (ended_cell c e)) cells) (filter (is_off publish_channel c) ps)
ended-queued c e cells [] h = tt
ended-queued c e cells (p ∷ ps) h = elim (p.channel == c) as (λ b. (p.channel == c) ≡ b → EachQueued cells (cond (not b) (p ∷ filter (is_off publish_channel c) ps) (filter (is_off publish_channel c) ps)) → EachQueued (map (option_map (ended_cell c e)) cells) (cond (not b) (p ∷ filter (is_off publish_channel c) ps) (filter (is_off publish_channel c) ps))) [
  | true ↦ λ on h. ended-queued c e cells ps h
  | false ↦ λ off h. (
    under-map p.confirm (ended_cell c e) cells ∙ ap (option_map (ended_cell c e)) h.0 ∙ ap Some (ended-other c p.channel e off),
    h.1,
    ended-queued c e cells ps h.2,
  )
] refl h

-- a close of this side
pub closed-queued : (c : ℕ) (e : Error) (cells : List (Option Cell)) (ps : List Publish) → EachQueued cells ps → EachQueued (map (option_map (closed_cell c e)) cells) (filter (is_off publish_channel c) ps)
closed-queued c e cells [] h = tt
closed-queued c e cells (p ∷ ps) h = elim (p.channel == c) as (λ b. (p.channel == c) ≡ b → EachQueued (map (option_map (closed_cell c e)) cells) (cond (not b) (p ∷ filter (is_off publish_channel c) ps) (filter (is_off publish_channel c) ps))) [
  | true ↦ λ on. closed-queued c e cells ps h.2
  | false ↦ λ off. (
    under-map p.confirm (closed_cell c e) cells ∙ ap (option_map (closed_cell c e)) h.0 ∙ ap Some (closed-other p.channel off),
    all-filter (λ r. p.confirm ≢ r.confirm) (is_off publish_channel c) ps h.1,
    closed-queued c e cells ps h.2,
  )
] refl
  where
    closed-other : (d : ℕ) → (d == c) ≡ false → closed_cell c e (cell.Queued d) ≡ cell.Queued d
    closed-other d off = rw off refl

pub queued-ended : (c : ℕ) (e : Error) (ps stay : List Publish) (p after : ConfirmState) → stay ≡ filter (is_off publish_channel c) ps → after ≡ after_mark p (mark.Ended c e) → EachQueued p.publish_states.cells stay → EachQueued after.publish_states.cells stay
queued-ended c e ps stay p after left ends q =
    let Q : ConfirmState → Type 0 = λ x. EachQueued x.publish_states.cells stay in
    subst Q (sym ends) (queued-by (after_mark p (mark.Ended c e)).publish_states.cells _ _ (sym left) (ended-queued c e p.publish_states.cells ps (queued-by p.publish_states.cells _ _ left q)))
