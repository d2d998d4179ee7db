-- An open `basic.cancel` is done as the opening of its channel ends: request by request, and channel by channel.
use Rattle.std.proofs.Common.{◌≡◌, ℕ, ◌+◌, Bool, true, false, cond, List, [], ◌∷◌, ◌++◌, drop, Option, Some, None, refl, sym, ◌∙◌, ap, slice_get, append-nil, append_assoc}
use Rattle.std.specs.List.{fold, filter}
use Rattle.std.specs.Option.{option_map}
use Rattle.std.proofs.lemmas.List.Sums.{fold-append}
use Rattle.lapin_types.specs.declared.request.Request.{Request}
use Rattle.lapin_types.specs.declared.request.ReplyKind.{ReplyKind}
use Rattle.lapin_types.specs.declared.request.ReplyKind.TheVariants as reply_kind
use Rattle.lapin_types.specs.Requests.{kind_of}
use Rattle.lapin_tables.specs.ByChannel.{at_channel, on_channel}
use Rattle.lapin_tables.proofs.Channels.{at-on_same, at-on_other}
use Rattle.lapin_rules.specs.declared.phases.ChannelPhase.{ChannelPhase}
use Rattle.lapin_rules.specs.Words.{without_first}
use Rattle.lapin_rules.specs.Phases.{is_live, phase_in}
use Rattle.lapin_rules.specs.Requests.{requests_in, same_kind, is_kind, without_kind, no_requests}
use Rattle.lapin_rules.specs.TicketReadings.{TicketMark}
use Rattle.lapin_rules.specs.Ends.{live_below, done_with, cancels_in, cancels_at, cancels_on}
use Rattle.lapin_rules.proofs.EndLaws.{live-next}
use Rattle.lapin_outbox.specs.Open.{requests_at, without_oldest}
use Rattle.lapin_ticket.specs.declared.Slot.{Slot}
use Rattle.lapin_ticket.specs.Slots.{after_mark}
use Rattle.lapin_outstanding.specs.Live.{live_at}
use Rattle.lapin_outstanding.specs.Ended.{KeepsOtherRequests}
use Rattle.lapin_outstanding.proofs.Dropped.{requests-behind}

-- ---- request by request

cancels-cons : (r : Request) (rs : List Request) → cancels_in (r ∷ rs) ≡ cancels_in (r ∷ []) ++ cancels_in rs
cancels-cons r rs = elim (is_kind reply_kind.BasicCancelOk r) as (λ b. done_with (cond b (r ∷ filter (is_kind reply_kind.BasicCancelOk) rs) (filter (is_kind reply_kind.BasicCancelOk) rs)) ≡ done_with (cond b (r ∷ []) []) ++ cancels_in rs) [
  | true ↦ sym (ap (λ ms. ms ++ cancels_in rs) (append-nil _))
  | false ↦ refl
]

cancels-oldest : (rs : List Request) (r : Request) → Some r ≡ slice_get rs 0 → cancels_in rs ≡ cancels_in (r ∷ []) ++ cancels_in (drop 1 rs)
cancels-oldest [] r h = cc
cancels-oldest (q ∷ qs) r h = let same : r ≡ q = cc in rw same (cancels-cons q qs)

-- the oldest request of a channel has ended: what is left comes to what all came to
pub cancel-next : (c : ℕ) (all new : List (ℕ × List Request)) (r : Request) (slots after : List (Option Slot)) → Some r ≡ slice_get (requests_at c all) 0 → new ≡ without_oldest c all → after ≡ fold after_mark slots (cancels_in (r ∷ [])) → fold after_mark after (cancels_at c new) ≡ fold after_mark slots (cancels_at c all)
cancel-next c all new r slots after oldest left ended =
    ap (λ xs. fold after_mark xs (cancels_at c new)) ended
    ∙ ap (λ rs. fold after_mark (fold after_mark slots (cancels_in (r ∷ []))) (cancels_in rs)) (ap (requests_at c) left ∙ requests-behind c all)
    ∙ sym (fold-append after_mark slots (cancels_in (r ∷ [])) (cancels_in (drop 1 (requests_at c all))))
    ∙ ap (fold after_mark slots) (sym (cancels-oldest (requests_at c all) r oldest))

-- none is left
pub cancel-end : (c : ℕ) (all : List (ℕ × List Request)) (slots : List (Option Slot)) → requests_at c all ≡ [] → slots ≡ fold after_mark slots (cancels_at c all)
cancel-end c all slots none = ap (λ rs. fold after_mark slots (cancels_in rs)) (sym none)

-- all of an opening's, and then what else its end does
pub cancels-then : (start slots after : List (Option Slot)) (ms : List TicketMark) (m : TicketMark) → slots ≡ fold after_mark start ms → after ≡ after_mark slots m → after ≡ fold after_mark start (ms ++ m ∷ [])
cancels-then start slots after ms m before is = is ∙ ap (λ xs. after_mark xs m) before ∙ sym (fold-append after_mark start ms (m ∷ []))

-- ---- channel by channel

cancels-join : (cs ds : List ℕ) (all : List (ℕ × List Request)) → cancels_on (cs ++ ds) all ≡ cancels_on cs all ++ cancels_on ds all
cancels-join [] ds all = refl
cancels-join (c ∷ cs) ds all = ap (λ ms. cancels_at c all ++ ms) (cancels-join cs ds all) ∙ sym (append_assoc (cancels_at c all) (cancels_on cs all) (cancels_on ds all))

-- one channel alone
cancels-alone : (c : ℕ) (all : List (ℕ × List Request)) → cancels_on (c ∷ []) all ≡ cancels_at c all
cancels-alone c all = append-nil (cancels_at c all)

others-left : (c : ℕ) (all new : List (ℕ × List Request)) → new ≡ on_channel c no_requests all → KeepsOtherRequests c all new
others-left c all new left d apart = ap (requests_at d) left ∙ ap requests_in (at-on_other c d no_requests all apart)

cancels-now : (n : ℕ) (phases : List (ℕ × ChannelPhase)) (all now : List (ℕ × List Request)) → requests_at n now ≡ requests_at n all → cancels_on (live_at n phases) now ≡ cancels_on (live_at n phases) all
cancels-now n phases all now same = elim (is_live (phase_in (at_channel n phases))) as (λ b. cancels_on (cond b (n ∷ []) []) now ≡ cancels_on (cond b (n ∷ []) []) all) [
  | true ↦ ap (λ rs. cancels_in rs ++ []) same
  | false ↦ refl
]

-- the channel of one more number
pub cancels-next : (n : ℕ) (phases : List (ℕ × ChannelPhase)) (all now : List (ℕ × List Request)) (start slots after : List (Option Slot)) → requests_at n now ≡ requests_at n all → slots ≡ fold after_mark start (cancels_on (live_below n phases) all) → after ≡ fold after_mark slots (cancels_on (live_at n phases) now) → after ≡ fold after_mark start (cancels_on (live_below (n + 1) phases) all)
cancels-next n phases all now start slots after same before is =
    is
    ∙ ap (fold after_mark slots) (cancels-now n phases all now same)
    ∙ ap (λ xs. fold after_mark xs (cancels_on (live_at n phases) all)) before
    ∙ sym (fold-append after_mark start (cancels_on (live_below n phases) all) (cancels_on (live_at n phases) all))
    ∙ ap (fold after_mark start) (sym (cancels-join (live_below n phases) (live_at n phases) all) ∙ ap (λ cs. cancels_on cs all) (sym (live-next n phases)))

-- a number that was found is that of a channel with a live opening
pub found-cancels : (n c : ℕ) (phases : List (ℕ × ChannelPhase)) (all : List (ℕ × List Request)) (slots : List (Option Slot)) → Some c ≡ cond (is_live (phase_in (at_channel n phases))) (Some n) None → fold after_mark slots (cancels_at c all) ≡ fold after_mark slots (cancels_on (live_at n phases) all)
found-cancels n c phases all slots = elim (is_live (phase_in (at_channel n phases))) as (λ t. Some c ≡ cond t (Some n) None → fold after_mark slots (cancels_at c all) ≡ fold after_mark slots (cancels_on (cond t (n ∷ []) []) all)) [
  | true ↦ λ h. let same : c ≡ n = cc in ap (λ d. fold after_mark slots (cancels_at d all)) same ∙ ap (fold after_mark slots) (sym (cancels-alone n all))
  | false ↦ λ h. cc
]

pub found-others : (n c : ℕ) (phases : List (ℕ × ChannelPhase)) (all new : List (ℕ × List Request)) → Some c ≡ cond (is_live (phase_in (at_channel n phases))) (Some n) None → new ≡ on_channel c no_requests all → KeepsOtherRequests n all new
found-others n c phases all new = elim (is_live (phase_in (at_channel n phases))) as (λ t. Some c ≡ cond t (Some n) None → new ≡ on_channel c no_requests all → KeepsOtherRequests n all new) [
  | true ↦ λ h left. let same : c ≡ n = cc in others-left n all new (left ∙ ap (λ d. on_channel d no_requests all) same)
  | false ↦ λ h left. cc
]

pub none-cancels : (n : ℕ) (phases : List (ℕ × ChannelPhase)) (all : List (ℕ × List Request)) (slots : List (Option Slot)) → None ≡ cond (is_live (phase_in (at_channel n phases))) (Some n) None → slots ≡ fold after_mark slots (cancels_on (live_at n phases) all)
none-cancels n phases all slots = elim (is_live (phase_in (at_channel n phases))) as (λ t. None ≡ cond t (Some n) None → slots ≡ fold after_mark slots (cancels_on (cond t (n ∷ []) []) all)) [
  | true ↦ λ h. cc
  | false ↦ λ h. refl
]

-- ---- beside the request of a close

close_is_no_cancel : (k : ReplyKind) → same_kind k reply_kind.ChannelCloseOk ≡ true → same_kind k reply_kind.BasicCancelOk ≡ false
close_is_no_cancel reply_kind.BasicCancelOk h = cc
close_is_no_cancel _ h = refl

-- what does not pass is not missed
filter-without : {X : Type 0} (p q : X → Bool) (xs : List X) → ((x : X) → p x ≡ true → q x ≡ false) → filter q (without_first p xs) ≡ filter q xs
filter-without p q [] apart = refl
filter-without p q (x ∷ xs) apart = elim (p x) as (λ b. p x ≡ b → filter q (cond b xs (x ∷ without_first p xs)) ≡ cond (q x) (x ∷ filter q xs) (filter q xs)) [
  | true ↦ λ h. rw (apart x h) refl
  | false ↦ λ h. ap (λ ys. cond (q x) (x ∷ ys) ys) (filter-without p q xs apart)
] refl

cancels-without : (rs : List Request) → cancels_in (without_kind reply_kind.ChannelCloseOk rs) ≡ cancels_in rs
cancels-without rs = ap done_with (filter-without (is_kind reply_kind.ChannelCloseOk) (is_kind reply_kind.BasicCancelOk) rs (λ r h. close_is_no_cancel (kind_of r.reply) h))

-- the request of a close is taken out of a channel: its open cancels stay
pub cancels-beside_close : (c : ℕ) (all : List (ℕ × List Request)) → cancels_at c (on_channel c (without_kind reply_kind.ChannelCloseOk) all) ≡ cancels_at c all
cancels-beside_close c all =
    ap (λ o. cancels_in (requests_in o)) (at-on_same c (without_kind reply_kind.ChannelCloseOk) all)
    ∙ elim (at_channel c all) as (λ o. cancels_in (requests_in (option_map (without_kind reply_kind.ChannelCloseOk) o)) ≡ cancels_in (requests_in o)) [ None ↦ refl | Some rs ↦ cancels-without rs ]
