-- A reply that comes is to the request that is open longest on its channel; open-ok comes where nothing was asked yet.
use Rattle.std.proofs.Common.{◌≡◌, ◌∙◌, ℕ, suc, ◌+◌, ◌==◌, Bool, true, false, cond, List, [], ◌∷◌, ◌++◌, length, drop, Option, Some, inl, inr, refl, sym, ap, subst, append-nil, append_assoc, length-append, arith}
use Rattle.std.specs.List.{filter, fold, list_any}
use Rattle.std.proofs.lemmas.Bool.Decides.{eqb_tells}
use Rattle.std.proofs.lemmas.List.Sums.{fold-append}
use Rattle.lapin_types.specs.declared.leaving.Left.{Left}
use Rattle.lapin_types.specs.declared.request.Request.{Request}
use Rattle.lapin_types.specs.declared.request.ReplyKind.{ReplyKind}
use Rattle.lapin_types.specs.Requests.{kind_of}
use Rattle.lapin_types.specs.Types.{Frame}
use Rattle.lapin_rules.specs.History.{History}
use Rattle.lapin_rules.specs.Requests.{is_kind}
use Rattle.lapin_rules.specs.Wire.{Wire}
use Rattle.lapin_broker.specs.declared.request.RequestKind.{RequestKind}
use Rattle.lapin_broker.specs.Frames.{channel_of, client_frame, broker_frame}
use Rattle.lapin_broker.specs.Requests.{same_kind}
use Rattle.lapin_concord.specs.Frames.{number}
use Rattle.lapin_concord.specs.Wires.{reply_number}
use Rattle.lapin_concord.proofs.Sending.{same_number}
use Rattle.lapin_verdicts.specs.Answers.{awaits, replies, requests_in, replies_in, kind_asked, kind_answered, are_same, IsAnswer}
use Rattle.lapin_verdicts.specs.Deeds.{Deed, Read, Sent, is_open, on_channel, joined_opening, last_opening, lefts, sents}
use Rattle.lapin_verdicts.specs.InStep.{is_frame_on, is_open_on}
use Rattle.lapin_verdicts.specs.Verdicts.{at_place}
use Rattle.lapin_verdicts.proofs.Numbering.{place-more}
use Rattle.lapin_verdicts.proofs.Owing.{requests-append, replies-append}
use Rattle.lapin_answers.proofs.Rows.{IsReplyOf}
use Rattle.lapin_answers.proofs.Lists.{is_ask_on, open_asks, waiting_asks, kind_same}
use Rattle.lapin_answers.proofs.Standing.{next_ask, handed_asks, reply_count, IsAsk, AreAsks, Going}
use Rattle.lapin_answers.proofs.Lets.{next_more}
use Rattle.std.proofs.lemmas.Bool.{or_parts}

-- ---- requests that were read, and those that are on the way

-- the requests of an opening with one frame more
joined_asks : (c : ℕ) (o : List Deed) (l : Left) → (channel_of l.frame == c) ≡ true → requests_in (joined_opening o (Read l)) ≡ next_ask c (requests_in o) l
joined_asks c o l on = by (is_open l.frame) (awaits l) refl refl
  where
    by : (v w : Bool) → is_open l.frame ≡ v → awaits l ≡ w → requests_in (joined_opening o (Read l)) ≡ next_ask c (requests_in o) l
    by true w e f = rw (on, e) refl
    by false true e f = rw (on, e, f) (requests-append o (Read l ∷ []) ∙ ap (λ v. requests_in o ++ cond v (l ∷ []) []) f)
    by false false e f = rw (on, e, f) (requests-append o (Read l ∷ []) ∙ (ap (λ v. requests_in o ++ cond v (l ∷ []) []) f ∙ append-nil (requests_in o)))

folds : (c : ℕ) (o ds : List Deed) → fold (next_ask c) (requests_in o) (lefts ds) ≡ requests_in (fold joined_opening o (on_channel c ds))
folds c o [] = refl
folds c o (Read l ∷ ds) = by (folds c (joined_opening o (Read l)) ds) (folds c o ds) (channel_of l.frame == c) refl
  where
    by : fold (next_ask c) (requests_in (joined_opening o (Read l))) (lefts ds) ≡ requests_in (fold joined_opening (joined_opening o (Read l)) (on_channel c ds)) → fold (next_ask c) (requests_in o) (lefts ds) ≡ requests_in (fold joined_opening o (on_channel c ds)) → (v : Bool) → (channel_of l.frame == c) ≡ v → fold (next_ask c) (next_ask c (requests_in o) l) (lefts ds) ≡ requests_in (fold joined_opening o (cond (channel_of l.frame == c) (Read l ∷ on_channel c ds) (on_channel c ds)))
    by here there true e = ap (λ v. fold (next_ask c) v (lefts ds)) (sym (joined_asks c o l e)) ∙ (here ∙ ap (λ v. requests_in (fold joined_opening o (cond v (Read l ∷ on_channel c ds) (on_channel c ds)))) (sym e))
    by here there false e = ap (λ v. fold (next_ask c) (cond v (cond (is_open l.frame) [] (cond (awaits l) (requests_in o ++ l ∷ []) (requests_in o))) (requests_in o)) (lefts ds)) e ∙ (there ∙ ap (λ v. requests_in (fold joined_opening o (cond v (Read l ∷ on_channel c ds) (on_channel c ds)))) (sym e))
folds c o (Sent f ∷ ds) = by (folds c (o ++ Sent f ∷ []) ds) (folds c o ds) (channel_of f == c)
  where
    same : requests_in (o ++ Sent f ∷ []) ≡ requests_in o
    same = requests-append o (Sent f ∷ []) ∙ append-nil (requests_in o)

    by : fold (next_ask c) (requests_in (o ++ Sent f ∷ [])) (lefts ds) ≡ requests_in (fold joined_opening (o ++ Sent f ∷ []) (on_channel c ds)) → fold (next_ask c) (requests_in o) (lefts ds) ≡ requests_in (fold joined_opening o (on_channel c ds)) → (v : Bool) → fold (next_ask c) (requests_in o) (lefts ds) ≡ requests_in (fold joined_opening o (cond v (Sent f ∷ on_channel c ds) (on_channel c ds)))
    by here there true = ap (λ v. fold (next_ask c) v (lefts ds)) (sym same) ∙ here
    by here there false = there

-- those that the broker read are the requests of its last opening
read_asks : (c : ℕ) (ds : List Deed) → handed_asks c (lefts ds) ≡ requests_in (last_opening c ds)
read_asks c ds = folds c [] ds

-- where no open is on the way, those on the way are behind them
way_asks : (c : ℕ) (ls : List Left) (xs : List Left) → list_any (is_open_on c) ls ≡ false → fold (next_ask c) xs ls ≡ xs ++ filter (is_ask_on c) ls
way_asks c [] xs h = sym (append-nil xs)
way_asks c (l ∷ ls) xs h =
    let p = or_parts (is_open_on c l) (list_any (is_open_on c) ls) h in
    ap (λ v. fold (next_ask c) v ls) (next_more c xs l p.0) ∙ (way_asks c ls (xs ++ cond (is_ask_on c l) (l ∷ []) []) p.1 ∙ (append_assoc xs (cond (is_ask_on c l) (l ∷ []) []) (filter (is_ask_on c) ls) ∙ ap (λ v. xs ++ v) (elim (is_ask_on c l) as (λ v. cond v (l ∷ []) [] ++ filter (is_ask_on c) ls ≡ cond v (l ∷ filter (is_ask_on c) ls) (filter (is_ask_on c) ls)) [ true ↦ refl | false ↦ refl ])))

pub all_asks : (c : ℕ) (ds : List Deed) (up : List Left) → list_any (is_open_on c) up ≡ false → handed_asks c (lefts ds ++ up) ≡ requests_in (last_opening c ds) ++ filter (is_ask_on c) up
all_asks c ds up h = fold-append (next_ask c) [] (lefts ds) up ∙ (ap (λ v. fold (next_ask c) v up) (read_asks c ds) ∙ way_asks c up (requests_in (last_opening c ds)) h)

-- ---- the request at the reply's place

-- what stands behind as many as these is the next
place_cut : {X : Type 0} (xs ys : List X) (z : X) → at_place (suc (length xs)) (xs ++ ys) ≡ Some z → ys ≡ z ∷ drop 1 ys
place_cut [] [] z h = absurd cc
place_cut [] (y ∷ ys) z h = let w : y ≡ z = cc in ap (λ v. v ∷ ys) w
place_cut (x ∷ xs) ys z h = place_cut xs ys z h

-- the frame that comes next on the channel, a reply, is to the request that is open longest there
pub record Meets (c : ℕ) (h : History) (b : Wire) (k : ReplyKind) (f : Frame) (fs : List Frame) (opened : List Deed) : Type 0 where
  pub before : List Deed
  pub behind : List Deed
  pub all : opened ≡ before ++ Sent f ∷ behind
  pub way : sents behind ≡ filter (is_frame_on c) fs
  pub answer : IsAnswer before f
  pub request : Request
  pub rest : List Request
  pub open_is : open_asks c b ≡ request ∷ rest
  pub is : IsAsk h c answer.request request
  pub kind : is_kind k request ≡ true

kinds_meet : (u v : Option RequestKind) (a b : RequestKind) → u ≡ Some a → v ≡ Some b → are_same u v ≡ true → same_kind a b ≡ true
kinds_meet u v a b e f h = ap (λ x. are_same x (Some b)) (sym e) ∙ (ap (are_same u) (sym f) ∙ h)

numbers_meet : (a b : RequestKind) → same_kind a b ≡ true → number a ≡ number b
numbers_meet a b h = elim (eqb_tells (number a) (number b)) [ inl y ↦ y.1 | inr y ↦ let w : true ≡ false = sym (same_number a b h) ∙ y.0 in absurd cc ]

module _ (c : ℕ) (h : History) (b : Wire) (k : ReplyKind) (f : Frame) (fs : List Frame) (ds : List Deed) (up : List Left) where
  abbrev opened : List Deed
  opened = last_opening c ds

  -- the open requests behind the first
  heads : (l : Left) (ls : List Left) (rs : List Request) → AreAsks h c (l ∷ ls) rs → (r : Request) × (rest : List Request) × (rs ≡ r ∷ rest) × IsAsk h c l r × AreAsks h c ls rest
  heads l ls [] k = absurd k
  heads l ls (r ∷ rs) k = (r, rs, refl, k.0, k.1)

  -- what was sent before the frame, by what came
  pub record Cut : Type 0 where
    pub before : List Deed
    pub behind : List Deed
    pub all : opened ≡ before ++ Sent f ∷ behind
    pub way : sents behind ≡ filter (is_frame_on c) fs

  replies_before : (x : Cut) → replies f ≡ true → length (replies_in opened) ≡ length (replies_in x.before) + (reply_count c fs + 1)
  replies_before x r =
      ap (λ v. length (replies_in v)) x.all
      ∙ (ap length (replies-append x.before (Sent f ∷ x.behind))
      ∙ (length-append (replies_in x.before) (replies_in (Sent f ∷ x.behind))
      ∙ ap (λ n. length (replies_in x.before) + n) (ap (λ v. length (cond v (f ∷ replies_in x.behind) (replies_in x.behind))) r ∙ (ap (λ v. length (f ∷ filter replies v)) x.way ∙ one (filter replies (filter (is_frame_on c) fs))))))
    where
      one : (xs : List Frame) → length (f ∷ xs) ≡ length xs + 1
      one xs = omega arith

  -- the requests read before it are among all
  asks_before : (x : Cut) (r : Left) (n : ℕ) → at_place n (requests_in x.before) ≡ Some r → at_place n (requests_in opened) ≡ Some r
  asks_before x r n e = ap (λ v. at_place n (requests_in v)) x.all ∙ (ap (at_place n) (requests-append x.before (Sent f ∷ x.behind)) ∙ place-more n (requests_in x.before) (requests_in (Sent f ∷ x.behind)) r e)

  pub meets : (x : Cut) → IsAnswer x.before f → list_any (is_open_on c) up ≡ false → IsReplyOf c (reply_number k) (channel_of f) (broker_frame f) → (g : Going c h b (lefts ds ++ up) (f ∷ fs) (length (replies_in opened))) → reply_count c (f ∷ fs) ≡ reply_count c fs + 1 → (m : Meets c h b k f fs opened) × (ls : List Left) × (g.rest ≡ m.answer.request ∷ ls) × AreAsks h c ls m.rest
  meets x a none o g one =
      let sent = replies_before x o.replies in
      let count = g.count in
      let place : length (replies_in x.before) ≡ length g.done = omega (arith, sent, count, one) in
      let r : Left = a.request in
      let at : at_place (suc (length g.done)) (requests_in x.before) ≡ Some r = ap (λ v. at_place (suc v) (requests_in x.before)) (sym place) ∙ a.was_read in
      let in_all : at_place (suc (length g.done)) ((requests_in opened ++ filter (is_ask_on c) up) ++ waiting_asks c b) ≡ Some r =
      place-more (suc (length g.done)) (requests_in opened ++ filter (is_ask_on c) up) (waiting_asks c b) r (place-more (suc (length g.done)) (requests_in opened) (filter (is_ask_on c) up) r (asks_before x r (suc (length g.done)) at)) in
      let in_parts : at_place (suc (length g.done)) (g.done ++ g.rest) ≡ Some r = ap (at_place (suc (length g.done))) (sym g.all) ∙ (ap (λ v. at_place (suc (length g.done)) (v ++ waiting_asks c b)) (all_asks c ds up none) ∙ in_all) in
      let cut : g.rest ≡ r ∷ drop 1 g.rest = place_cut g.done g.rest r in_parts in
      let ask = heads r (drop 1 g.rest) (open_asks c b) (subst (λ v. AreAsks h c v (open_asks c b)) cut g.are) in
      let same : same_kind ask.3.kind o.kind ≡ true = kinds_meet (kind_asked (client_frame r.frame)) (kind_answered (broker_frame f)) ask.3.kind o.kind ask.3.kind_is o.kind_is a.kind in
      let numbers : reply_number (kind_of ask.0.reply) ≡ reply_number k = sym ask.3.same ∙ (numbers_meet ask.3.kind o.kind same ∙ o.same) in (
        record {
          before = x.before;
          behind = x.behind;
          all = x.all;
          way = x.way;
          answer = a;
          request = ask.0;
          rest = ask.1;
          open_is = ask.2;
          is = ask.3;
          kind = kind_same (kind_of ask.0.reply) k numbers;
        },
        drop 1 g.rest,
        cut,
        ask.4,
      )
