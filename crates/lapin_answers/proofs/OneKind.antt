-- The open requests of one kind, and the methods that wait: lists of them, one longer and one shorter.
use Rattle.std.proofs.Common.{◌≡◌, ◌∙◌, ℕ, ◌==◌, Bool, true, false, cond, List, [], ◌∷◌, ◌++◌, Some, None, inl, inr, refl, sym, ap, subst, append-nil}
use Rattle.std.specs.List.{filter, find}
use Rattle.std.proofs.lemmas.Bool.Decides.{eqb_tells}
use Rattle.std.proofs.lemmas.List.{map-append}
use Rattle.std.proofs.lemmas.List.Elements.{filter-append}
use Rattle.lapin_tables.specs.ByChannel.{on_channel}
use Rattle.lapin_types.specs.declared.leaving.Left.{Left}
use Rattle.lapin_types.specs.declared.request.Request.{Request}
use Rattle.lapin_types.specs.declared.request.ReplyKind.{ReplyKind}
use Rattle.lapin_types.specs.Requests.{kind_of}
use Rattle.lapin_rules.specs.Frames.{MethodEntry, left_method}
use Rattle.lapin_rules.specs.Requests.{requests_in, is_kind, with_request, without_request, without_kind, first_request, no_requests}
use Rattle.lapin_rules.specs.Wire.{Wire, requests_of}
use Rattle.lapin_concord.specs.Wires.{reply_number}
use Rattle.lapin_concord.proofs.Incomes.{kinds_tell}
use Rattle.lapin_concord.proofs.Views.{requests_at, requests_with_here, requests_away, requests_on_here, requests_on_away}
use Rattle.lapin_answers.proofs.Lists.{lefts_of, number_same}
use Rattle.lapin_answers.proofs.Shuts.{first_in, rest_of}

module _ (k : ReplyKind) where
  -- those of a channel
  abbrev pub kind_requests : ℕ → Wire → List Request
  kind_requests c b = filter (is_kind k) (requests_of c b)

  -- the same of a table of all channels
  abbrev pub kind_at : ℕ → List (ℕ × List Request) → List Request
  kind_at c all = filter (is_kind k) (requests_at c all)

  -- a request of another kind is none of these
  kind_apart : (j : ReplyKind) (r : Request) → (reply_number j == reply_number k) ≡ false → is_kind j r ≡ true → is_kind k r ≡ false
  kind_apart j r n h = sym (kinds_tell (kind_of r.reply) k) ∙ (ap (λ v. v == reply_number k) (number_same (kind_of r.reply) j h) ∙ n)

  -- ---- one list

  kind_more : (rs : List Request) (r : Request) → is_kind k r ≡ true → filter (is_kind k) (rs ++ r ∷ []) ≡ filter (is_kind k) rs ++ r ∷ []
  kind_more rs r h = filter-append (is_kind k) rs (r ∷ []) ∙ ap (λ v. filter (is_kind k) rs ++ cond v (r ∷ []) []) h

  kind_same : (rs : List Request) (r : Request) → is_kind k r ≡ false → filter (is_kind k) (rs ++ r ∷ []) ≡ filter (is_kind k) rs
  kind_same rs r h = filter-append (is_kind k) rs (r ∷ []) ∙ (ap (λ v. filter (is_kind k) rs ++ cond v (r ∷ []) []) h ∙ append-nil (filter (is_kind k) rs))

  kind-without : (j : ReplyKind) (rs : List Request) → (reply_number j == reply_number k) ≡ false → filter (is_kind k) (without_kind j rs) ≡ filter (is_kind k) rs
  kind-without j [] n = refl
  kind-without j (r ∷ rs) n = elim (is_kind j r) as (λ v. is_kind j r ≡ v → filter (is_kind k) (cond v rs (r ∷ without_kind j rs)) ≡ cond (is_kind k r) (r ∷ filter (is_kind k) rs) (filter (is_kind k) rs)) [
    | true ↦ λ e. ap (λ v. cond v (r ∷ filter (is_kind k) rs) (filter (is_kind k) rs)) (sym (kind_apart j r n e))
    | false ↦ λ e. ap (λ v. cond (is_kind k r) (r ∷ v) v) (kind-without j rs n)
  ] refl

  kind-taken : (rs : List Request) → filter (is_kind k) (without_kind k rs) ≡ rest_of (filter (is_kind k) rs)
  kind-taken [] = refl
  kind-taken (r ∷ rs) = elim (is_kind k r) as (λ v. is_kind k r ≡ v → filter (is_kind k) (cond v rs (r ∷ without_kind k rs)) ≡ rest_of (cond v (r ∷ filter (is_kind k) rs) (filter (is_kind k) rs))) [
    | true ↦ λ e. refl
    | false ↦ λ e. rw e (kind-taken rs)
  ] refl

  -- the oldest that is open is the first of these
  pub kind_found : (rs : List Request) → first_request k rs ≡ first_in (filter (is_kind k) rs)
  kind_found [] = refl
  kind_found (r ∷ rs) = elim (is_kind k r) as (λ v. cond v (Some r) (find (is_kind k) rs) ≡ first_in (cond v (r ∷ filter (is_kind k) rs) (filter (is_kind k) rs))) [ true ↦ refl | false ↦ kind_found rs ]

  -- ---- the requests of all channels

  pub kind_with_away : (c d : ℕ) (r : Request) (all : List (ℕ × List Request)) → (d == c) ≡ false → kind_at c (with_request d r all) ≡ kind_at c all
  kind_with_away c d r all n = ap (filter (is_kind k)) (requests_away d c (requests_at d all ++ r ∷ []) all n)

  pub kind_with_here : (c : ℕ) (r : Request) (all : List (ℕ × List Request)) → is_kind k r ≡ true → kind_at c (with_request c r all) ≡ kind_at c all ++ r ∷ []
  kind_with_here c r all h = ap (filter (is_kind k)) (requests_with_here c (requests_at c all ++ r ∷ []) all) ∙ kind_more (requests_at c all) r h

  pub kind_with_other : (c d : ℕ) (r : Request) (all : List (ℕ × List Request)) → is_kind k r ≡ false → kind_at c (with_request d r all) ≡ kind_at c all
  kind_with_other c d r all h = elim (eqb_tells d c) [
    | inl y ↦ subst (λ v. kind_at c (with_request v r all) ≡ kind_at c all) (sym y.1) (ap (filter (is_kind k)) (requests_with_here c (requests_at c all ++ r ∷ []) all) ∙ kind_same (requests_at c all) r h)
    | inr n ↦ kind_with_away c d r all n.0
  ]

  pub kind_without : (c d : ℕ) (j : ReplyKind) (all : List (ℕ × List Request)) → (reply_number j == reply_number k) ≡ false → kind_at c (without_request d j all) ≡ kind_at c all
  kind_without c d j all h = elim (eqb_tells d c) [
    | inl y ↦ subst (λ v. kind_at c (without_request v j all) ≡ kind_at c all) (sym y.1) (ap (filter (is_kind k)) (requests_with_here c (without_kind j (requests_at c all)) all) ∙ kind-without j (requests_at c all) h)
    | inr n ↦ ap (filter (is_kind k)) (requests_away d c (without_kind j (requests_at d all)) all n.0)
  ]

  pub kind_without_away : (c d : ℕ) (j : ReplyKind) (all : List (ℕ × List Request)) → (d == c) ≡ false → kind_at c (without_request d j all) ≡ kind_at c all
  kind_without_away c d j all n = ap (filter (is_kind k)) (requests_away d c (without_kind j (requests_at d all)) all n)

  pub kind_taken : (c : ℕ) (all : List (ℕ × List Request)) → kind_at c (without_request c k all) ≡ rest_of (kind_at c all)
  kind_taken c all = ap (filter (is_kind k)) (requests_with_here c (without_kind k (requests_at c all)) all) ∙ kind-taken (requests_at c all)

  pub kind_on_away : (c d : ℕ) (f : List Request → List Request) (all : List (ℕ × List Request)) → (d == c) ≡ false → kind_at c (on_channel d f all) ≡ kind_at c all
  kind_on_away c d f all n = ap (filter (is_kind k)) (requests_on_away d c f all n)

  pub kind_on_other : (c d : ℕ) (j : ReplyKind) (all : List (ℕ × List Request)) → (reply_number j == reply_number k) ≡ false → kind_at c (on_channel d (without_kind j) all) ≡ kind_at c all
  kind_on_other c d j all h = elim (eqb_tells d c) [
    | inl y ↦ subst (λ v. kind_at c (on_channel v (without_kind j) all) ≡ kind_at c all) (sym y.1) (ap (filter (is_kind k)) (requests_on_here c (without_kind j) all refl) ∙ kind-without j (requests_at c all) h)
    | inr n ↦ kind_on_away c d (without_kind j) all n.0
  ]

  pub kind_none : (c : ℕ) (all : List (ℕ × List Request)) → kind_at c (on_channel c no_requests all) ≡ []
  kind_none c all = ap (filter (is_kind k)) (requests_on_here c no_requests all refl)

  -- a request alone among all channels, of another kind
  pub kind_lone : (c d : ℕ) (r : Request) → is_kind k r ≡ false → kind_at c ((d, r ∷ []) ∷ []) ≡ []
  kind_lone c d r h = elim (d == c) as (λ v. filter (is_kind k) (requests_in (cond v (Some (r ∷ [])) None)) ≡ []) [ true ↦ rw h refl | false ↦ refl ]

-- ---- methods that wait

pub lefts_more : (p : Left → Bool) (ms : List MethodEntry) (m : MethodEntry) → filter p (lefts_of (ms ++ m ∷ [])) ≡ filter p (lefts_of ms) ++ cond (p (left_method m)) (left_method m ∷ []) []
lefts_more p ms m = ap (filter p) (map-append left_method ms (m ∷ [])) ∙ filter-append p (lefts_of ms) (left_method m ∷ [])

pub lefts_same : (p : Left → Bool) (ms : List MethodEntry) (m : MethodEntry) → p (left_method m) ≡ false → filter p (lefts_of (ms ++ m ∷ [])) ≡ filter p (lefts_of ms)
lefts_same p ms m h = lefts_more p ms m ∙ (ap (λ v. filter p (lefts_of ms) ++ cond v (left_method m ∷ []) []) h ∙ append-nil (filter p (lefts_of ms)))

pub lefts_grow : (p : Left → Bool) (ms : List MethodEntry) (m : MethodEntry) → p (left_method m) ≡ true → filter p (lefts_of (ms ++ m ∷ [])) ≡ filter p (lefts_of ms) ++ left_method m ∷ []
lefts_grow p ms m h = lefts_more p ms m ∙ ap (λ v. filter p (lefts_of ms) ++ cond v (left_method m ∷ []) []) h
