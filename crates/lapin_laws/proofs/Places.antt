-- The publish that begins, in its place among those that wait: what stands before it may not begin, and all but it waits on.
use Rattle.std.proofs.Common.{◌≡◌, ℕ, ◌==◌, Bool, true, false, cond, not, List, [], ◌∷◌, ◌++◌, Some, refl, sym, ◌∙◌, ap, subst, ne_eqb}
use Rattle.std.specs.List.{find, filter, AllByRecursion}
use Rattle.lapin_types.specs.declared.leaving.Publish.{Publish}
use Rattle.lapin_rules.specs.declared.phases.ChannelPhase.{ChannelPhase}
use Rattle.lapin_rules.specs.declared.phases.ConnectionPhase.{ConnectionPhase}
use Rattle.lapin_rules.specs.Words.{without_first}
use Rattle.lapin_rules.specs.Leaving.{may_begin}
use Rattle.lapin_rules.specs.Drops.{is_off, publish_channel}
use Rattle.lapin_laws.specs.Queue.{numbered, waiting}
use Rattle.lapin_laws.proofs.Alive.{Alive, AreAlive}
use Rattle.lapin_laws.proofs.Parts.{IsPart, part-append, part-kept, Around, part-around}

module _ {X : Type 0} where
  -- the first that passes, what stands before it, and what behind it
  pub record Place (t : X → Bool) (x : X) (xs : List X) : Type 0 where
    pub before : List X
    pub behind : List X
    pub all : xs ≡ before ++ x ∷ behind
    pub stay : without_first t xs ≡ before ++ behind
    pub held : AllByRecursion (λ y. t y ≡ false) before
    pub passes : t x ≡ true

  pub place_of : (t : X → Bool) (x : X) (xs : List X) → find t xs ≡ Some x → Place t x xs
  place_of t x [] e = cc
  place_of t x (y ∷ ys) e = elim (t y) as (λ b. t y ≡ b → cond b (Some y) (find t ys) ≡ Some x → Place t x (y ∷ ys)) [
    | true ↦ λ on here.
        let same : y ≡ x = cc in
        record { before = []; behind = ys; all = ap (λ z. z ∷ ys) same; stay = rw on refl; held = tt; passes = ap t (sym same) ∙ on }
    | false ↦ λ off later.
        let p : Place t x ys = place_of t x ys later in
        record { before = y ∷ p.before; behind = p.behind; all = ap (λ zs. y ∷ zs) p.all; stay = rw off (ap (λ zs. y ∷ zs) p.stay); held = (off, p.held); passes = p.passes }
  ] refl e

-- ---- what is known of those that wait

pub waiting-both : (ps qs : List Publish) → waiting (ps ++ qs) ≡ waiting ps ++ waiting qs
waiting-both [] qs = refl
waiting-both (p ∷ ps) qs = ap (λ xs. numbered p ∷ xs) (waiting-both ps qs)

-- those that stand before it are on other channels
pub held_off : (t : ℕ → Bool) (p : Publish) (ps : List Publish) → t p.channel ≡ true → AllByRecursion (λ q. may_begin t q ≡ false) ps → AllByRecursion (λ q. is_off publish_channel p.channel q ≡ true) ps
held_off t p [] on h = tt
held_off t p (q ∷ qs) on h =
    let other : (q.channel == p.channel) ≡ false = ne_eqb q.channel p.channel (λ same. let no : false ≡ true = sym h.0 ∙ ap t same ∙ on in cc) in
    (ap not other, held_off t p qs on h.1)

-- the calls behind it may begin yet, and of those before it the ones on other channels
pub record Begun (p : Publish) (stay calls : List Publish) : Type 0 where
  pub passed : List Publish
  pub later : List Publish
  pub all : calls ≡ passed ++ p ∷ later
  pub part : IsPart stay (filter (is_off publish_channel p.channel) passed ++ later)

pub begun_of : (t : ℕ → Bool) (p : Publish) (ps calls : List Publish) → find (may_begin t) ps ≡ Some p → IsPart ps calls → Begun p (without_first (may_begin t) ps) calls
begun_of t p ps calls e h =
    let place : Place (may_begin t) p ps = place_of (may_begin t) p ps e in
    let P : List Publish → Type 0 = λ qs. IsPart qs calls in
    let at : Around p place.before place.behind calls = part-around p place.before place.behind calls (subst P place.all h) in
    let off : List Publish = filter (is_off publish_channel p.channel) at.passed in
    let before : IsPart place.before off = part-kept (is_off publish_channel p.channel) place.before at.passed (held_off t p place.before place.passes place.held) at.before in
    let Q : List Publish → Type 0 = λ qs. IsPart qs (off ++ at.later) in
    record { passed = at.passed; later = at.later; all = at.all; part = subst Q (sym place.stay) (part-append place.before place.behind off at.later before at.behind) }

-- its opening lives, and those of the others
pub alive_begun : (t : Publish → Bool) (l : ConnectionPhase) (phases : List (ℕ × ChannelPhase)) (ps : List Publish) (p : Publish) → find t ps ≡ Some p → AreAlive l phases ps → Alive l phases p.channel × AreAlive l phases (without_first t ps)
alive_begun t l phases [] p e a = cc
alive_begun t l phases (q ∷ qs) p e a = elim (t q) as (λ b. cond b (Some q) (find t qs) ≡ Some p → Alive l phases p.channel × AreAlive l phases (cond b qs (q ∷ without_first t qs))) [
  | true ↦ λ here. let same : q ≡ p = cc in let P : Publish → Type 0 = λ r. Alive l phases r.channel in (subst P same a.0, a.1)
  | false ↦ λ later. let behind = alive_begun t l phases qs p later a.1 in (behind.0, (a.0, behind.1))
] e
