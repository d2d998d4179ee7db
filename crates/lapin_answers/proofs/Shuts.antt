-- Open requests of closes, and closes that wait: lists of them, one longer and one shorter.
use Rattle.std.proofs.Common.{◌≡◌, ◌∙◌, ℕ, ◌==◌, Bool, true, false, cond, not, ◌&&◌, List, [], ◌∷◌, ◌++◌, Option, Some, None, inl, inr, refl, sym, ap, subst, append-nil, eq-eqb}
use Rattle.std.specs.List.{filter, find}
use Rattle.std.proofs.lemmas.Bool.Decides.{eqb_tells}
use Rattle.std.proofs.lemmas.List.{map-append}
use Rattle.std.proofs.lemmas.List.Elements.{filter-append}
use Rattle.lapin_tables.specs.ByChannel.{on_channel}
use Rattle.lapin_types.specs.declared.leaving.Left.{Left}
use Rattle.lapin_types.specs.declared.request.Request.{Request}
use Rattle.lapin_types.specs.declared.request.ReplyKind.{ReplyKind}
use Rattle.lapin_types.specs.declared.request.ReplyKind.TheVariants as reply_kind
use Rattle.lapin_types.specs.Requests.{kind_of}
use Rattle.lapin_rules.specs.declared.phases.ChannelPhase.{ChannelPhase}
use Rattle.lapin_rules.specs.ChannelClose.{has_sent_close, kept_at}
use Rattle.lapin_rules.specs.Drops.{is_off, method_channel}
use Rattle.lapin_rules.specs.Frames.{MethodEntry, left_method}
use Rattle.lapin_rules.specs.Requests.{is_kind, with_request, without_request, without_kind, first_request, close_alone, no_requests, request_alone}
use Rattle.lapin_rules.specs.Wire.{Wire, requests_of}
use Rattle.lapin_concord.specs.Wires.{reply_number, is_asked}
use Rattle.lapin_concord.proofs.Incomes.{kinds_tell}
use Rattle.lapin_concord.proofs.Views.{requests_at, requests_with_here, requests_away, requests_on_here, requests_on_away}
use Rattle.lapin_answers.specs.Closes.{is_close, is_close_on}
use Rattle.lapin_answers.proofs.Lists.{lefts_of, number_same}
use Rattle.lapin_tables.proofs.Bools.{and_false}
use Rattle.lapin_rules.proofs.PhaseLaws.{kept_none}

-- ---- what is looked at

-- the request is that of a close of a channel
abbrev pub shuts : Request → Bool
shuts r = is_kind reply_kind.ChannelCloseOk r

abbrev pub close_requests : ℕ → Wire → List Request
close_requests c b = filter shuts (requests_of c b)

-- the closes of a channel that wait
abbrev pub waiting_closes : ℕ → Wire → List Left
waiting_closes c b = filter (is_close_on c) (lefts_of b.methods)

-- ---- kinds

pub asked_apart : (k : ReplyKind) → is_asked k ≡ true → (reply_number k == 21) ≡ false
asked_apart reply_kind.ChannelOpenOk h = absurd cc
asked_apart reply_kind.ChannelCloseOk h = absurd cc
asked_apart reply_kind.ConnectionCloseOk h = absurd cc
asked_apart _ h = refl

-- a request of another kind is none of these
kind_apart : (k : ReplyKind) (r : Request) → (reply_number k == 21) ≡ false → is_kind k r ≡ true → shuts r ≡ false
kind_apart k r n h = sym (kinds_tell (kind_of r.reply) reply_kind.ChannelCloseOk) ∙ (ap (λ v. v == 21) (number_same (kind_of r.reply) k h) ∙ n)

-- ---- requests

shut_more : (rs : List Request) (r : Request) → shuts r ≡ true → filter shuts (rs ++ r ∷ []) ≡ filter shuts rs ++ r ∷ []
shut_more rs r h = filter-append shuts rs (r ∷ []) ∙ ap (λ v. filter shuts rs ++ cond v (r ∷ []) []) h

shut_same : (rs : List Request) (r : Request) → shuts r ≡ false → filter shuts (rs ++ r ∷ []) ≡ filter shuts rs
shut_same rs r h = filter-append shuts rs (r ∷ []) ∙ (ap (λ v. filter shuts rs ++ cond v (r ∷ []) []) h ∙ append-nil (filter shuts rs))

shut-without : (k : ReplyKind) (rs : List Request) → (reply_number k == 21) ≡ false → filter shuts (without_kind k rs) ≡ filter shuts rs
shut-without k [] n = refl
shut-without k (r ∷ rs) n = elim (is_kind k r) as (λ v. is_kind k r ≡ v → filter shuts (cond v rs (r ∷ without_kind k rs)) ≡ cond (shuts r) (r ∷ filter shuts rs) (filter shuts rs)) [
  | true ↦ λ e. ap (λ v. cond v (r ∷ filter shuts rs) (filter shuts rs)) (sym (kind_apart k r n e))
  | false ↦ λ e. ap (λ v. cond (shuts r) (r ∷ v) v) (shut-without k rs n)
] refl

-- the first of them alone
abbrev pub first_of : List Request → List Request
first_of [] = []
first_of (r ∷ rs) = r ∷ []

abbrev pub rest_of : List Request → List Request
rest_of [] = []
rest_of (r ∷ rs) = rs

shut-taken : (rs : List Request) → filter shuts (without_kind reply_kind.ChannelCloseOk rs) ≡ rest_of (filter shuts rs)
shut-taken [] = refl
shut-taken (r ∷ rs) = elim (shuts r) as (λ v. shuts r ≡ v → filter shuts (cond v rs (r ∷ without_kind reply_kind.ChannelCloseOk rs)) ≡ rest_of (cond v (r ∷ filter shuts rs) (filter shuts rs))) [
  | true ↦ λ e. refl
  | false ↦ λ e. rw e (shut-taken rs)
] refl

shut-first : (rs : List Request) → filter shuts (close_alone rs) ≡ first_of (filter shuts rs)
shut-first [] = refl
shut-first (r ∷ rs) = elim (shuts r) as (λ v. shuts r ≡ v → filter shuts (request_alone (cond v (Some r) (find shuts rs))) ≡ first_of (cond v (r ∷ filter shuts rs) (filter shuts rs))) [
  | true ↦ λ e. rw e refl
  | false ↦ λ e. shut-first rs
] refl

abbrev pub first_in : List Request → Option Request
first_in [] = None
first_in (r ∷ rs) = Some r

-- the oldest that is open is the first of these
pub shut_found : (rs : List Request) → first_request reply_kind.ChannelCloseOk rs ≡ first_in (filter shuts rs)
shut_found [] = refl
shut_found (r ∷ rs) = elim (shuts r) as (λ v. cond v (Some r) (find shuts rs) ≡ first_in (cond v (r ∷ filter shuts rs) (filter shuts rs))) [ true ↦ refl | false ↦ shut_found rs ]

-- ---- the requests of all channels

pub shut_with_away : (c d : ℕ) (r : Request) (all : List (ℕ × List Request)) → (d == c) ≡ false → filter shuts (requests_at c (with_request d r all)) ≡ filter shuts (requests_at c all)
shut_with_away c d r all n = ap (filter shuts) (requests_away d c (requests_at d all ++ r ∷ []) all n)

pub shut_with_here : (c : ℕ) (r : Request) (all : List (ℕ × List Request)) → shuts r ≡ true → filter shuts (requests_at c (with_request c r all)) ≡ filter shuts (requests_at c all) ++ r ∷ []
shut_with_here c r all h = ap (filter shuts) (requests_with_here c (requests_at c all ++ r ∷ []) all) ∙ shut_more (requests_at c all) r h

pub shut_with_other : (c d : ℕ) (r : Request) (all : List (ℕ × List Request)) → shuts r ≡ false → filter shuts (requests_at c (with_request d r all)) ≡ filter shuts (requests_at c all)
shut_with_other c d r all h = elim (eqb_tells d c) [
  | inl y ↦ subst (λ v. filter shuts (requests_at c (with_request v r all)) ≡ filter shuts (requests_at c all)) (sym y.1) (ap (filter shuts) (requests_with_here c (requests_at c all ++ r ∷ []) all) ∙ shut_same (requests_at c all) r h)
  | inr n ↦ shut_with_away c d r all n.0
]

pub shut_without : (c d : ℕ) (k : ReplyKind) (all : List (ℕ × List Request)) → (reply_number k == 21) ≡ false → filter shuts (requests_at c (without_request d k all)) ≡ filter shuts (requests_at c all)
shut_without c d k all h = elim (eqb_tells d c) [
  | inl y ↦ subst (λ v. filter shuts (requests_at c (without_request v k all)) ≡ filter shuts (requests_at c all)) (sym y.1) (ap (filter shuts) (requests_with_here c (without_kind k (requests_at c all)) all) ∙ shut-without k (requests_at c all) h)
  | inr n ↦ ap (filter shuts) (requests_away d c (without_kind k (requests_at d all)) all n.0)
]

pub shut_taken_here : (c : ℕ) (all : List (ℕ × List Request)) → filter shuts (requests_at c (on_channel c (without_kind reply_kind.ChannelCloseOk) all)) ≡ rest_of (filter shuts (requests_at c all))
shut_taken_here c all = ap (filter shuts) (requests_on_here c (without_kind reply_kind.ChannelCloseOk) all refl) ∙ shut-taken (requests_at c all)

pub shut_on_away : (c d : ℕ) (f : List Request → List Request) (all : List (ℕ × List Request)) → (d == c) ≡ false → filter shuts (requests_at c (on_channel d f all)) ≡ filter shuts (requests_at c all)
shut_on_away c d f all n = ap (filter shuts) (requests_on_away d c f all n)

-- an end of an opening leaves that of a close that has left
pub shut_kept : (c : ℕ) (p : ChannelPhase) (all : List (ℕ × List Request)) → filter shuts (requests_at c (on_channel c (kept_at p) all)) ≡ cond (has_sent_close p) (first_of (filter shuts (requests_at c all))) []
shut_kept c p all = ap (filter shuts) (requests_on_here c (kept_at p) all (kept_none p)) ∙ elim (has_sent_close p) as (λ v. filter shuts (cond v (close_alone (requests_at c all)) (no_requests (requests_at c all))) ≡ cond v (first_of (filter shuts (requests_at c all))) []) [ true ↦ shut-first (requests_at c all) | false ↦ refl ]

pub shut_none : (c : ℕ) (all : List (ℕ × List Request)) → filter shuts (requests_at c (on_channel c no_requests all)) ≡ []
shut_none c all = ap (filter shuts) (requests_on_here c no_requests all refl)

-- ---- methods

pub closes_more : (c : ℕ) (ms : List MethodEntry) (m : MethodEntry) → filter (is_close_on c) (lefts_of (ms ++ m ∷ [])) ≡ filter (is_close_on c) (lefts_of ms) ++ cond (is_close_on c (left_method m)) (left_method m ∷ []) []
closes_more c ms m = ap (filter (is_close_on c)) (map-append left_method ms (m ∷ [])) ∙ filter-append (is_close_on c) (lefts_of ms) (left_method m ∷ [])

pub closes_same : (c : ℕ) (ms : List MethodEntry) (m : MethodEntry) → is_close_on c (left_method m) ≡ false → filter (is_close_on c) (lefts_of (ms ++ m ∷ [])) ≡ filter (is_close_on c) (lefts_of ms)
closes_same c ms m h = closes_more c ms m ∙ (ap (λ v. filter (is_close_on c) (lefts_of ms) ++ cond v (left_method m ∷ []) []) h ∙ append-nil (filter (is_close_on c) (lefts_of ms)))

pub closes_grow : (c : ℕ) (ms : List MethodEntry) (m : MethodEntry) → is_close_on c (left_method m) ≡ true → filter (is_close_on c) (lefts_of (ms ++ m ∷ [])) ≡ filter (is_close_on c) (lefts_of ms) ++ left_method m ∷ []
closes_grow c ms m h = closes_more c ms m ∙ ap (λ v. filter (is_close_on c) (lefts_of ms) ++ cond v (left_method m ∷ []) []) h

pub no_close : (c : ℕ) (m : MethodEntry) → is_close m.method ≡ false → is_close_on c (left_method m) ≡ false
no_close c m h = ap (λ v. (m.channel == c) && v) h ∙ and_false (m.channel == c)

pub close_off : (c : ℕ) (m : MethodEntry) → (m.channel == c) ≡ false → is_close_on c (left_method m) ≡ false
close_off c m h = ap (λ v. v && is_close m.method) h

pub close_on : (c : ℕ) (m : MethodEntry) → m.channel ≡ c → is_close m.method ≡ true → is_close_on c (left_method m) ≡ true
close_on c m e h = ap (λ v. (m.channel == c) && v) h ∙ ap (λ v. v && true) (eq-eqb m.channel c e)

pub closes_gone : (c : ℕ) (ms : List MethodEntry) → filter (is_close_on c) (lefts_of (filter (is_off method_channel c) ms)) ≡ []
closes_gone c [] = refl
closes_gone c (m ∷ ms) = elim (m.channel == c) as (λ v. m.channel == c ≡ v → filter (is_close_on c) (lefts_of (cond (not v) (m ∷ filter (is_off method_channel c) ms) (filter (is_off method_channel c) ms))) ≡ []) [
  | true ↦ λ _. closes_gone c ms
  | false ↦ λ e. rw e (closes_gone c ms)
] refl

pub closes_away : (d c : ℕ) (ms : List MethodEntry) → (d == c) ≡ false → filter (is_close_on c) (lefts_of (filter (is_off method_channel d) ms)) ≡ filter (is_close_on c) (lefts_of ms)
closes_away d c [] h = refl
closes_away d c (m ∷ ms) h = elim (eqb_tells m.channel d) [
  | inl y ↦
      let off : (m.channel == c) ≡ false = ap (λ v. v == c) y.1 ∙ h in
      rw (y.0, off) (closes_away d c ms h)
  | inr y ↦ rw y.0 (ap (λ v. cond (is_close_on c (left_method m)) (left_method m ∷ v) v) (closes_away d c ms h))
]
