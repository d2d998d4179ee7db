-- The publish that begins, brought to the front of those that wait: what holds of them holds of them in that order too.
use Rattle.std.proofs.Common.{◌≡◌, ◌≢◌, ℕ, Bool, true, false, cond, ◌||◌, List, [], ◌∷◌, Option, Some, None, refl, sym, ap, subst}
use Rattle.std.specs.List.{find, list_any}
use Rattle.std.specs.Option.{option_map}
use Rattle.std.proofs.Math.Bool.{or-true}
use Rattle.lapin_types.specs.declared.leaving.Publish.{Publish}
use Rattle.lapin_rules.specs.ConfirmMarks.{ConfirmMark}
use Rattle.lapin_rules.specs.Words.{without_first}
use Rattle.lapin_rules.specs.Frames.{RestEntry, MethodEntry, left_publish}
use Rattle.lapin_rules.specs.Leaving.{may_begin, handed_of}
use Rattle.lapin_rules.specs.Wire.{Wire}
use Rattle.lapin_rules.specs.Handing.{handed_out}
use Rattle.lapin_rules.specs.declared.phases.ChannelPhase.{ChannelPhase}
use Rattle.lapin_rules.specs.declared.phases.ConnectionPhase.{ConnectionPhase}
use Rattle.lapin_outstanding.specs.Queued.{AreQueued, is_publish_of}
use Rattle.lapin_outstanding.proofs.Queueing.{taken-out, all-without, all-found}
use Rattle.lapin_confirm.specs.PublishStates.{PublishStates}
use Rattle.lapin_confirm.specs.declared.cell.Cell.{Cell}
use Rattle.lapin_machine.specs.Stands.{AreFresh}
use Rattle.lapin_machine.specs.Tied.{IsTied}

-- none begins: all wait on
pub none_begins : {X : Type 0} (t : X → Bool) (ps : List X) → find t ps ≡ None → without_first t ps ≡ ps
none_begins t [] e = refl
none_begins t (p ∷ ps) e = elim (t p) as (λ b. cond b (Some p) (find t ps) ≡ None → cond b ps (p ∷ without_first t ps) ≡ p ∷ ps) [ true ↦ λ h. cc | false ↦ λ h. ap (λ xs. p ∷ xs) (none_begins t ps h) ] e

-- where none may begin, none does
pub never_begins : {X : Type 0} (ps : List X) → find (λ _. false) ps ≡ None
never_begins [] = refl
never_begins (p ∷ ps) = never_begins ps

-- where publishes may begin on the same channels, the same frame leaves
find_same : {X : Type 0} (t u : X → Bool) (ps : List X) → ((p : X) → t p ≡ u p) → find t ps ≡ find u ps
find_same t u [] same = refl
find_same t u (p ∷ ps) same = rw (same p) (ap (λ o. cond (u p) (Some p) o) (find_same t u ps same))

handed_as_of : (t u : ℕ → Bool) (rest : List RestEntry) (methods : List MethodEntry) (ps : List Publish) → ((c : ℕ) → t c ≡ u c) → handed_of t rest methods ps ≡ handed_of u rest methods ps
handed_as_of t u (f ∷ fs) methods ps same = refl
handed_as_of t u [] (m ∷ ms) ps same = refl
handed_as_of t u [] [] ps same = ap (option_map left_publish) (find_same (may_begin t) (may_begin u) ps (λ p. same p.channel))

pub handed_same : (t u : ℕ → Bool) (b : Wire) → ((c : ℕ) → t c ≡ u c) → handed_out t b ≡ handed_out u b
handed_same t u b same = handed_as_of t u b.rest b.methods b.publishes same

-- ---- one begins

module _ (t : Publish → Bool) where
  any_brought : (g : Publish → Bool) (ps : List Publish) (q : Publish) → find t ps ≡ Some q → list_any g ps ≡ true → list_any g (q ∷ without_first t ps) ≡ true
  any_brought g [] q e h = cc
  any_brought g (p ∷ ps) q e h = elim (t p) as (λ b. cond b (Some p) (find t ps) ≡ Some q → list_any g (q ∷ cond b ps (p ∷ without_first t ps)) ≡ true) [
    | true ↦ λ here. let same : p ≡ q = cc in let P : Publish → Type 0 = λ r. list_any g (r ∷ ps) ≡ true in subst P same h
    | false ↦ λ later. elim (g p) as (λ x. (x || list_any g ps) ≡ true → (g q || (x || list_any g (without_first t ps))) ≡ true) [
      | true ↦ λ _. or-true (g q)
      | false ↦ λ k. any_brought g ps q later k
    ] h
  ] e

  pub queue_brought : (cells : List (Option Cell)) (ps : List Publish) (q : Publish) → find t ps ≡ Some q → AreQueued cells ps → AreQueued cells (q ∷ without_first t ps)
  queue_brought cells ps q e h =
      let out = taken-out cells t ps q e h.each in
      record { each = (out.queued, out.other, out.still); all = λ c n x. any_brought (is_publish_of c n) ps q e (h.all c n x) }

  pub tied_brought : (l : ConnectionPhase) (phases : List (ℕ × ChannelPhase)) (ps : List Publish) (q : Publish) (b : PublishStates) → find t ps ≡ Some q → IsTied l phases ps b → IsTied l phases (q ∷ without_first t ps) b
  tied_brought l phases ps q b e h = record { queued = queue_brought b.cells ps q e h.queued; confirm_modes = h.confirm_modes; done = h.done; down = h.down }

  pub fresh_brought : (ms : List ConfirmMark) (ps : List Publish) (q : Publish) → find t ps ≡ Some q → AreFresh ms ps → AreFresh ms (q ∷ without_first t ps)
  fresh_brought ms [] q e h = cc
  fresh_brought ms (p ∷ ps) q e h = elim (t p) as (λ b. cond b (Some p) (find t ps) ≡ Some q → AreFresh ms (q ∷ cond b ps (p ∷ without_first t ps))) [
    | true ↦ λ here. let same : p ≡ q = cc in let P : Publish → Type 0 = λ r. AreFresh ms (r ∷ ps) in subst P same h
    | false ↦ λ later.
        let behind : AreFresh ms (q ∷ without_first t ps) = fresh_brought ms ps q later h.2 in
        let apart : p.confirm ≢ q.confirm = all-found (λ r. p.confirm ≢ r.confirm) t ps q h.1 later in
        (behind.0, ((λ e. apart (sym e)), behind.1), (h.0, all-without (λ r. p.confirm ≢ r.confirm) t ps h.1, behind.2))
  ] e
