-- Open requests and methods that wait, as far as they ask for a reply: lists of them, one longer and one shorter.
use Rattle.std.proofs.Common.{◌≡◌, ◌∙◌, ℕ, ◌==◌, Bool, true, false, cond, not, ◌&&◌, nat_lt, List, [], ◌∷◌, ◌++◌, map, Option, Some, None, inl, inr, refl, sym, ap, subst, append-nil, eq-eqb}
use Rattle.std.specs.List.{filter, find}
use Rattle.std.proofs.lemmas.Bool.Decides.{eqb_tells}
use Rattle.std.proofs.lemmas.List.{map-append}
use Rattle.std.proofs.lemmas.List.Elements.{filter-append}
use Rattle.lapin_tables.specs.ByChannel.{on_channel}
use Rattle.lapin_types.specs.declared.leaving.Left.{Left}
use Rattle.lapin_types.specs.declared.request.Request.{Request}
use Rattle.lapin_types.specs.declared.request.ReplyKind.{ReplyKind}
use Rattle.lapin_types.specs.declared.request.ReplyKind.TheVariants as reply_kind
use Rattle.lapin_types.specs.Requests.{kind_of}
use Rattle.lapin_types.specs.Types.frame
use Rattle.lapin_rules.specs.Drops.{is_off, method_channel}
use Rattle.lapin_rules.specs.Frames.{MethodEntry, left_method}
use Rattle.lapin_rules.specs.Requests.{same_kind, is_kind, with_request, without_request, without_kind, first_request, close_alone, no_requests, request_alone}
use Rattle.lapin_rules.specs.Wire.{Wire, requests_of}
use Rattle.lapin_rules.specs.declared.phases.ChannelPhase.{ChannelPhase}
use Rattle.lapin_rules.specs.ChannelClose.{has_sent_close, kept_at}
use Rattle.lapin_broker.specs.Frames.{channel_of, client_frame}
use Rattle.lapin_concord.specs.Wires.{reply_number, is_asked}
use Rattle.lapin_concord.proofs.Incomes.{kinds_tell}
use Rattle.lapin_concord.proofs.Views.{requests_at, requests_with_here, requests_away, requests_on_here, requests_on_away}
use Rattle.lapin_verdicts.specs.Answers.{awaits_as, awaits}
use Rattle.lapin_tables.proofs.Bools.{and_false}
use Rattle.lapin_concord.proofs.Ending.{first_is}

-- ---- what asks

-- the request is neither that of an open nor that of a close
abbrev pub asks : Request → Bool
asks r = is_asked (kind_of r.reply)

-- the open requests of a channel that ask, the oldest first
abbrev pub open_asks : ℕ → Wire → List Request
open_asks c b = filter asks (requests_of c b)

-- the frame is of this channel and awaits a reply
abbrev pub is_ask_on : ℕ → Left → Bool
is_ask_on c l = (channel_of l.frame == c) && awaits l

abbrev pub lefts_of : List MethodEntry → List Left
lefts_of ms = map left_method ms

-- the methods that wait on a channel and await a reply
abbrev pub waiting_asks : ℕ → Wire → List Left
waiting_asks c b = filter (is_ask_on c) (lefts_of b.methods)

-- ---- kinds of replies

asked_number : (a : ReplyKind) → is_asked a ≡ nat_lt (reply_number a) 20
asked_number reply_kind.ChannelFlowOk = refl
asked_number _ = refl

pub number_same : (a b : ReplyKind) → same_kind a b ≡ true → reply_number a ≡ reply_number b
number_same a b h =
    let t : (reply_number a == reply_number b) ≡ true = kinds_tell a b ∙ h in
    elim (eqb_tells (reply_number a) (reply_number b)) [ inl y ↦ y.1 | inr y ↦ let w : true ≡ false = sym t ∙ y.0 in absurd cc ]

pub kind_same : (a b : ReplyKind) → reply_number a ≡ reply_number b → same_kind a b ≡ true
kind_same a b h = sym (kinds_tell a b) ∙ eq-eqb (reply_number a) (reply_number b) h

pub asked_same : (a b : ReplyKind) → same_kind a b ≡ true → is_asked a ≡ is_asked b
asked_same a b h = asked_number a ∙ (ap (λ n. nat_lt n 20) (number_same a b h) ∙ sym (asked_number b))

-- a request of a kind that asks asks
kind_asks : (k : ReplyKind) (r : Request) → is_kind k r ≡ true → asks r ≡ is_asked k
kind_asks k r h = asked_same (kind_of r.reply) k h

-- ---- requests

pub more_other : (rs : List Request) (r : Request) → asks r ≡ false → filter asks (rs ++ r ∷ []) ≡ filter asks rs
more_other rs r h = filter-append asks rs (r ∷ []) ∙ (ap (λ v. filter asks rs ++ cond v (r ∷ []) []) h ∙ append-nil (filter asks rs))

pub more_ask : (rs : List Request) (r : Request) → asks r ≡ true → filter asks (rs ++ r ∷ []) ≡ filter asks rs ++ r ∷ []
more_ask rs r h = filter-append asks rs (r ∷ []) ∙ ap (λ v. filter asks rs ++ cond v (r ∷ []) []) h

-- the oldest of a kind that doesn't ask is open no more
pub asks-without : (k : ReplyKind) (rs : List Request) → is_asked k ≡ false → filter asks (without_kind k rs) ≡ filter asks rs
asks-without k [] a = refl
asks-without k (r ∷ rs) a = elim (is_kind k r) as (λ v. is_kind k r ≡ v → filter asks (cond v rs (r ∷ without_kind k rs)) ≡ cond (asks r) (r ∷ filter asks rs) (filter asks rs)) [
  | true ↦ λ e. ap (λ v. cond v (r ∷ filter asks rs) (filter asks rs)) (sym (kind_asks k r e ∙ a))
  | false ↦ λ e. ap (λ v. cond (asks r) (r ∷ v) v) (asks-without k rs a)
] refl

-- the oldest of a kind that asks is open no more
pub asks-taken : (k : ReplyKind) (rs : List Request) → is_asked k ≡ true → filter asks (without_kind k rs) ≡ without_kind k (filter asks rs)
asks-taken k [] a = refl
asks-taken k (r ∷ rs) a = by (asks-taken k rs a) (is_kind k r) (asks r) refl refl
  where
    by : filter asks (without_kind k rs) ≡ without_kind k (filter asks rs) → (v w : Bool) → is_kind k r ≡ v → asks r ≡ w → filter asks (cond (is_kind k r) rs (r ∷ without_kind k rs)) ≡ without_kind k (cond (asks r) (r ∷ filter asks rs) (filter asks rs))
    by i true true e f = rw (e, f, e) refl
    by i true false e f = let w : true ≡ false = sym (kind_asks k r e ∙ a) ∙ f in absurd cc
    by i false true e f = rw (e, f, e) (ap (λ v. r ∷ v) i)
    by i false false e f = rw (e, f) i

-- the oldest of a kind that asks stands among those that ask
pub asks-first : (k : ReplyKind) (rs : List Request) → is_asked k ≡ true → first_request k rs ≡ first_request k (filter asks rs)
asks-first k [] a = refl
asks-first k (r ∷ rs) a = by (asks-first k rs a) (is_kind k r) (asks r) refl refl
  where
    by : first_request k rs ≡ first_request k (filter asks rs) → (v w : Bool) → is_kind k r ≡ v → asks r ≡ w → cond (is_kind k r) (Some r) (find (is_kind k) rs) ≡ first_request k (cond (asks r) (r ∷ filter asks rs) (filter asks rs))
    by i true true e f = rw (e, f, e) refl
    by i true false e f = let w : true ≡ false = sym (kind_asks k r e ∙ a) ∙ f in absurd cc
    by i false true e f = rw (e, f, e) i
    by i false false e f = rw (e, f) i

-- where closes crossed no request stays open that asks
pub kept_none : (p : ChannelPhase) (rs : List Request) → filter asks (kept_at p rs) ≡ []
kept_none p rs = elim (has_sent_close p) as (λ b. filter asks (cond b (close_alone rs) (no_requests rs)) ≡ []) [
  | true ↦ alone (first_request reply_kind.ChannelCloseOk rs) refl
  | false ↦ refl
]
  where
    alone : (o : Option Request) → first_request reply_kind.ChannelCloseOk rs ≡ o → filter asks (request_alone o) ≡ []
    alone None h = refl
    alone (Some r) h = rw (kind_asks reply_kind.ChannelCloseOk r (first_is reply_kind.ChannelCloseOk rs r h)) refl

-- ---- the requests of all channels

pub with_other : (c d : ℕ) (r : Request) (all : List (ℕ × List Request)) → asks r ≡ false → filter asks (requests_at c (with_request d r all)) ≡ filter asks (requests_at c all)
with_other c d r all h = elim (eqb_tells d c) [
  | inl y ↦ subst (λ v. filter asks (requests_at c (with_request v r all)) ≡ filter asks (requests_at c all)) (sym y.1) (ap (filter asks) (requests_with_here c (requests_at c all ++ r ∷ []) all) ∙ more_other (requests_at c all) r h)
  | inr n ↦ ap (filter asks) (requests_away d c (requests_at d all ++ r ∷ []) all n.0)
]

pub with_away : (c d : ℕ) (r : Request) (all : List (ℕ × List Request)) → (d == c) ≡ false → filter asks (requests_at c (with_request d r all)) ≡ filter asks (requests_at c all)
with_away c d r all n = ap (filter asks) (requests_away d c (requests_at d all ++ r ∷ []) all n)

pub with_here : (c : ℕ) (r : Request) (all : List (ℕ × List Request)) → asks r ≡ true → filter asks (requests_at c (with_request c r all)) ≡ filter asks (requests_at c all) ++ r ∷ []
with_here c r all h = ap (filter asks) (requests_with_here c (requests_at c all ++ r ∷ []) all) ∙ more_ask (requests_at c all) r h

pub without_other : (c d : ℕ) (k : ReplyKind) (all : List (ℕ × List Request)) → is_asked k ≡ false → filter asks (requests_at c (without_request d k all)) ≡ filter asks (requests_at c all)
without_other c d k all h = elim (eqb_tells d c) [
  | inl y ↦ subst (λ v. filter asks (requests_at c (without_request v k all)) ≡ filter asks (requests_at c all)) (sym y.1) (ap (filter asks) (requests_with_here c (without_kind k (requests_at c all)) all) ∙ asks-without k (requests_at c all) h)
  | inr n ↦ ap (filter asks) (requests_away d c (without_kind k (requests_at d all)) all n.0)
]

pub without_away : (c d : ℕ) (k : ReplyKind) (all : List (ℕ × List Request)) → (d == c) ≡ false → filter asks (requests_at c (without_request d k all)) ≡ filter asks (requests_at c all)
without_away c d k all n = ap (filter asks) (requests_away d c (without_kind k (requests_at d all)) all n)

pub without_here : (c : ℕ) (k : ReplyKind) (all : List (ℕ × List Request)) → is_asked k ≡ true → filter asks (requests_at c (without_request c k all)) ≡ without_kind k (filter asks (requests_at c all))
without_here c k all h = ap (filter asks) (requests_with_here c (without_kind k (requests_at c all)) all) ∙ asks-taken k (requests_at c all) h

pub on_other : (c d : ℕ) (k : ReplyKind) (all : List (ℕ × List Request)) → is_asked k ≡ false → filter asks (requests_at c (on_channel d (without_kind k) all)) ≡ filter asks (requests_at c all)
on_other c d k all h = elim (eqb_tells d c) [
  | inl y ↦ subst (λ v. filter asks (requests_at c (on_channel v (without_kind k) all)) ≡ filter asks (requests_at c all)) (sym y.1) (ap (filter asks) (requests_on_here c (without_kind k) all refl) ∙ asks-without k (requests_at c all) h)
  | inr n ↦ ap (filter asks) (requests_on_away d c (without_kind k) all n.0)
]

-- an end of an opening leaves none
pub ended_here : (c : ℕ) (p : ChannelPhase) (all : List (ℕ × List Request)) → filter asks (requests_at c (on_channel c (kept_at p) all)) ≡ []
ended_here c p all = ap (filter asks) (requests_on_here c (kept_at p) all (empty p)) ∙ kept_none p (requests_at c all)
  where
    empty : (p : ChannelPhase) → kept_at p [] ≡ []
    empty p = elim (has_sent_close p) as (λ v. cond v (close_alone []) (no_requests []) ≡ []) [ true ↦ refl | false ↦ refl ]

pub ended_none : (c : ℕ) (all : List (ℕ × List Request)) → filter asks (requests_at c (on_channel c no_requests all)) ≡ []
ended_none c all = ap (filter asks) (requests_on_here c no_requests all refl)

-- ---- methods

pub quiet_ask : (c : ℕ) (m : MethodEntry) → awaits_as (client_frame (frame.Method m.channel m.method)) ≡ false → is_ask_on c (left_method m) ≡ false
quiet_ask c m h = ap (λ v. (m.channel == c) && v) h ∙ and_false (m.channel == c)

pub away_ask : (c : ℕ) (m : MethodEntry) → (m.channel == c) ≡ false → is_ask_on c (left_method m) ≡ false
away_ask c m h = ap (λ v. v && awaits (left_method m)) h

pub waits_more : (c : ℕ) (ms : List MethodEntry) (m : MethodEntry) → filter (is_ask_on c) (lefts_of (ms ++ m ∷ [])) ≡ filter (is_ask_on c) (lefts_of ms) ++ cond (is_ask_on c (left_method m)) (left_method m ∷ []) []
waits_more c ms m = ap (filter (is_ask_on c)) (map-append left_method ms (m ∷ [])) ∙ filter-append (is_ask_on c) (lefts_of ms) (left_method m ∷ [])

pub waits_same : (c : ℕ) (ms : List MethodEntry) (m : MethodEntry) → is_ask_on c (left_method m) ≡ false → filter (is_ask_on c) (lefts_of (ms ++ m ∷ [])) ≡ filter (is_ask_on c) (lefts_of ms)
waits_same c ms m h = waits_more c ms m ∙ (ap (λ v. filter (is_ask_on c) (lefts_of ms) ++ cond v (left_method m ∷ []) []) h ∙ append-nil (filter (is_ask_on c) (lefts_of ms)))

pub waits_grow : (c : ℕ) (ms : List MethodEntry) (m : MethodEntry) → is_ask_on c (left_method m) ≡ true → filter (is_ask_on c) (lefts_of (ms ++ m ∷ [])) ≡ filter (is_ask_on c) (lefts_of ms) ++ left_method m ∷ []
waits_grow c ms m h = waits_more c ms m ∙ ap (λ v. filter (is_ask_on c) (lefts_of ms) ++ cond v (left_method m ∷ []) []) h

pub waits_gone : (c : ℕ) (ms : List MethodEntry) → filter (is_ask_on c) (lefts_of (filter (is_off method_channel c) ms)) ≡ []
waits_gone c [] = refl
waits_gone c (m ∷ ms) = elim (m.channel == c) as (λ v. m.channel == c ≡ v → filter (is_ask_on c) (lefts_of (cond (not v) (m ∷ filter (is_off method_channel c) ms) (filter (is_off method_channel c) ms))) ≡ []) [
  | true ↦ λ _. waits_gone c ms
  | false ↦ λ e. rw e (waits_gone c ms)
] refl

pub waits_away : (d c : ℕ) (ms : List MethodEntry) → (d == c) ≡ false → filter (is_ask_on c) (lefts_of (filter (is_off method_channel d) ms)) ≡ filter (is_ask_on c) (lefts_of ms)
waits_away d c [] h = refl
waits_away d c (m ∷ ms) h = elim (eqb_tells m.channel d) [
  | inl y ↦
      let off : (m.channel == c) ≡ false = ap (λ v. v == c) y.1 ∙ h in
      rw (y.0, off) (waits_away d c ms h)
  | inr y ↦ rw y.0 (ap (λ v. cond (is_ask_on c (left_method m)) (left_method m ∷ v) v) (waits_away d c ms h))
]
