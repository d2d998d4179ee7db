-- A frame request: what leaves goes from what waits to what was handed out.
use Rattle.std.proofs.Common.{◌≡◌, ◌∙◌, ℕ, ◌+◌, ◌==◌, Bool, true, false, cond, ◌&&◌, ◌||◌, List, [], ◌∷◌, ◌++◌, Option, Some, None, refl, sym, ap, subst, append-nil, append_assoc, arith}
use Rattle.std.specs.List.{filter, find, list_any}
use Rattle.std.specs.Option.{option_map}
use Rattle.std.proofs.lemmas.List.Sums.{fold-append}
use Rattle.lapin_types.specs.declared.event.Event.{Event}
use Rattle.lapin_types.specs.declared.leaving.Left.{Left}
use Rattle.lapin_types.specs.declared.leaving.Publish.{Publish}
use Rattle.lapin_types.specs.declared.record.Record.{Record}
use Rattle.lapin_types.specs.Types.{Frame}
use Rattle.lapin_types.specs.Types.frame
use Rattle.lapin_types.specs.Types.method
use Rattle.lapin_types.specs.Types.channel
use Rattle.lapin_rules.specs.declared.phases.ChannelPhase.{ChannelPhase}
use Rattle.lapin_rules.specs.Frames.{MethodEntry, RestEntry, left_method, left_rest, left_publish}
use Rattle.lapin_rules.specs.ChannelClose.{phases_sent}
use Rattle.lapin_rules.specs.Handing.{after_handing, handed_out, sent}
use Rattle.lapin_rules.specs.History.{History}
use Rattle.lapin_rules.specs.Leaving.{left_of, left_lists, handed_of, may_begin}
use Rattle.lapin_rules.specs.Words.{many}
use Rattle.lapin_rules.specs.Wire.{Wire, lists_of, with_lists}
use Rattle.lapin_broker.specs.Frames.{channel_of, client_frame}
use Rattle.lapin_joint.specs.Joint.{left_alone}
use Rattle.lapin_concord.proofs.Views.{requests_at}
use Rattle.lapin_effects.specs.Effects.{live, hears}
use Rattle.lapin_verdicts.specs.Answers.{awaits, awaits_as}
use Rattle.lapin_verdicts.specs.Deeds.{is_open}
use Rattle.lapin_verdicts.specs.InStep.{is_open_on}
use Rattle.lapin_verdicts.proofs.Leaving.{Alike, alike_same, alike_closed, Still, still_live, still_hears}
use Rattle.lapin_verdicts.proofs.Numbering.{AreRest, is_content}
use Rattle.lapin_verdicts.proofs.Opens.{unsent, content_open, sent_methods, sent_up, next_waits}
use Rattle.lapin_answers.proofs.Lists.{asks, open_asks, is_ask_on, lefts_of, waiting_asks}
use Rattle.lapin_answers.proofs.Standing.{next_ask, handed_asks, AreAsks, asks_more, Standing}
use Rattle.lapin_rules.proofs.ListLaws.{many-none}

-- ---- frames

pub handed-more : (c : ℕ) (ls : List Left) (l : Left) → handed_asks c (ls ++ l ∷ []) ≡ next_ask c (handed_asks c ls) l
handed-more c ls l = fold-append (next_ask c) [] ls (l ∷ [])

content_awaits : (f : Frame) → is_content f ≡ true → awaits_as (client_frame f) ≡ false
content_awaits (frame.Method c m) h = absurd cc
content_awaits (frame.Header c h) e = refl
content_awaits (frame.Body c bytes) e = refl

-- a frame that asks nothing and opens nothing is none of these
pub next_same : (c : ℕ) (xs : List Left) (l : Left) → is_open l.frame ≡ false → awaits l ≡ false → next_ask c xs l ≡ xs
next_same c xs l o a = elim (channel_of l.frame == c) as (λ v. cond v (cond (is_open l.frame) [] (cond (awaits l) (xs ++ l ∷ []) xs)) xs ≡ xs) [ true ↦ rw (o, a) refl | false ↦ refl ]

-- one that opens no channel joins them where it asks
pub next_more : (c : ℕ) (xs : List Left) (l : Left) → is_open_on c l ≡ false → next_ask c xs l ≡ xs ++ cond (is_ask_on c l) (l ∷ []) []
next_more c xs l o = by (channel_of l.frame == c) (is_open l.frame) (awaits l) refl refl refl o
  where
    by : (v w a : Bool) → (channel_of l.frame == c) ≡ v → is_open l.frame ≡ w → awaits l ≡ a → (v && w) ≡ false → next_ask c xs l ≡ xs ++ cond (is_ask_on c l) (l ∷ []) []
    by true true a e f g h = absurd cc
    by true false true e f g h = rw (e, f, g) refl
    by true false false e f g h = rw (e, f, g) (sym (append-nil xs))
    by false w a e f g h = rw e (sym (append-nil xs))

publish_opens : (q : Publish) → is_open (left_publish q).frame ≡ false
publish_opens q = refl

-- what leaves goes over, where it opens nothing
left_asks : (c n : ℕ) (t : ℕ → Bool) (ls : List Left) (rs : List RestEntry) (es : List MethodEntry) (ps : List Publish) (d : ℕ) → AreRest d rs → list_any (is_open_on c) (left_alone (handed_of t rs es ps)) ≡ false → handed_asks c (ls ++ left_alone (handed_of t rs es ps)) ++ filter (is_ask_on c) (lefts_of (left_of n t rs es ps).methods) ≡ handed_asks c ls ++ filter (is_ask_on c) (lefts_of es)
left_asks c n t ls (f ∷ rs) es ps d a o = ap (λ v. v ++ filter (is_ask_on c) (lefts_of es)) (handed-more c ls (left_rest f) ∙ next_same c (handed_asks c ls) (left_rest f) (content_open f.frame a.1) (content_awaits f.frame a.1))
left_asks c n t ls [] (m ∷ es) ps d a o =
    let l : Left = left_method m in
    let none : is_open_on c l ≡ false = or_first (is_open_on c l) o in
    ap (λ v. v ++ filter (is_ask_on c) (lefts_of es)) (handed-more c ls l ∙ next_more c (handed_asks c ls) l none)
    ∙ (append_assoc (handed_asks c ls) (cond (is_ask_on c l) (l ∷ []) []) (filter (is_ask_on c) (lefts_of es))
    ∙ ap (λ v. handed_asks c ls ++ v) (elim (is_ask_on c l) as (λ v. cond v (l ∷ []) [] ++ filter (is_ask_on c) (lefts_of es) ≡ cond v (l ∷ filter (is_ask_on c) (lefts_of es)) (filter (is_ask_on c) (lefts_of es))) [ true ↦ refl | false ↦ refl ]))
  where
    or_first : (v : Bool) → (v || false) ≡ false → v ≡ false
    or_first true h = absurd cc
    or_first false h = refl
left_asks c n t ls [] [] ps d a o = by (find (may_begin t) ps)
  where
    by : (q : Option Publish) → handed_asks c (ls ++ left_alone (option_map left_publish q)) ++ [] ≡ handed_asks c ls ++ []
    by None = ap (λ v. handed_asks c v ++ []) (append-nil ls)
    by (Some q) = ap (λ v. v ++ []) (handed-more c ls (left_publish q) ∙ next_same c (handed_asks c ls) (left_publish q) refl refl)

-- what waits afterwards waited before
left_fewer : (c n : ℕ) (t : ℕ → Bool) (rs : List RestEntry) (es : List MethodEntry) (ps : List Publish) → filter (is_ask_on c) (lefts_of es) ≡ [] → filter (is_ask_on c) (lefts_of (left_of n t rs es ps).methods) ≡ []
left_fewer c n t (f ∷ rs) es ps h = h
left_fewer c n t [] [] ps h = refl
left_fewer c n t [] (m ∷ es) ps h = by (is_ask_on c (left_method m)) h
  where
    by : (v : Bool) → cond v (left_method m ∷ filter (is_ask_on c) (lefts_of es)) (filter (is_ask_on c) (lefts_of es)) ≡ [] → filter (is_ask_on c) (lefts_of es) ≡ []
    by true h = absurd cc
    by false h = h

-- where the channel's open leaves, it is what is handed out anew
open_leaves : (c : ℕ) (ls : List Left) (o : Option Left) → list_any (is_open_on c) (left_alone o) ≡ true → handed_asks c (ls ++ left_alone o) ≡ []
open_leaves c ls None h = absurd cc
open_leaves c ls (Some l) h = handed-more c ls l ∙ by (channel_of l.frame == c) (is_open l.frame) refl refl h
  where
    by : (v w : Bool) → (channel_of l.frame == c) ≡ v → is_open l.frame ≡ w → (is_open_on c l || false) ≡ true → next_ask c (handed_asks c ls) l ≡ []
    by true true e f h = rw (e, f) refl
    by true false e f h = absurd (no h)
      where
        no : (is_open_on c l || false) ≡ true → ⊥
        no h = let w : false ≡ true = rw (e, f) at h in cc
    by false w e f h = absurd (no h)
      where
        no : (is_open_on c l || false) ≡ true → ⊥
        no h = let w : false ≡ true = rw e at h in cc

-- ---- the request

pub sent_requests : (o : Option Left) (b : Wire) → (sent o b).requests ≡ b.requests
sent_requests None b = refl
sent_requests (Some l) b = refl

none_in : {X : Type 0} (p : X → Bool) (xs : List X) → many p xs ≡ 0 → list_any p xs ≡ false
none_in p [] h = refl
none_in p (x ∷ xs) h = elim (p x) as (λ v. cond v (many p xs + 1) (many p xs) ≡ 0 → (v || list_any p xs) ≡ false) [ true ↦ λ e. (let z : ⊥ = omega (arith, e) in absurd z) | false ↦ λ e. none_in p xs e ] h

phases_alike : (c : ℕ) (f : Frame) (all : List (ℕ × ChannelPhase)) → Alike c all (phases_sent f all)
phases_alike c (frame.Method d (method.Channel (channel.Close code text class number))) all = alike_closed c d all
phases_alike c _ all = alike_same c all

sent_still : (o : Option Left) (b : Wire) → Still b (sent o b)
sent_still None b = record { up = refl; alike = λ c. alike_same c b.phases }
sent_still (Some l) b = record { up = sent_up (Some l) b; alike = λ c. phases_alike c l.frame b.phases }

-- what leaves moves nobody's hearing
pub handing_still : (t : ℕ → Bool) (b : Wire) → Still b (after_handing t b)
handing_still t b = let s = sent_still (handed_out t b) (with_lists (left_lists b.frame_max t (lists_of b)) b) in record { up = s.up; alike = s.alike }

pub next_kept : (c d : ℕ) (t : ℕ → Bool) (h : History) (e : Event) (x : Record) (b : Wire) (ls : List Left) (down : List Frame) (k : ℕ) → AreRest d b.rest → (hears c b ≡ true → unsent c b ≡ 0) → Standing c h b ls down k → Standing c (h ++ (e, x) ∷ []) (after_handing t b) (ls ++ left_alone (handed_out t b)) down k
next_kept c d t h e x b ls down k rest shut s =
    let b' : Wire = after_handing t b in
    let o : Option Left = handed_out t b in
    let still : Still b b' = handing_still t b in
    let hear : hears c b' ≡ hears c b = still_hears c b b' still in
    let alive : live c b' ≡ live c b = still_live c b b' still in
    let opened : open_asks c b' ≡ open_asks c b = ap (λ v. filter asks (requests_at c v)) (sent_requests o (with_lists (left_lists b.frame_max t (lists_of b)) b)) in
    let methods : b'.methods ≡ (left_of b.frame_max t b.rest b.methods b.publishes).methods = sent_methods o (with_lists (left_lists b.frame_max t (lists_of b)) b) in
    let w : waiting_asks c b' ≡ filter (is_ask_on c) (lefts_of (left_of b.frame_max t b.rest b.methods b.publishes).methods) = ap (λ v. filter (is_ask_on c) (lefts_of v)) methods in
    let gone = (next_waits c d t b rest).1 in
    let none_leaves : unsent c b ≡ 0 → list_any (is_open_on c) (left_alone o) ≡ false = λ z. none_in (is_open_on c) (left_alone o) (omega (arith, gone, z)) in
    let over : list_any (is_open_on c) (left_alone o) ≡ false → handed_asks c (ls ++ left_alone o) ++ waiting_asks c b' ≡ handed_asks c ls ++ waiting_asks c b = λ n. ap (λ v. handed_asks c (ls ++ left_alone o) ++ v) w ∙ left_asks c b.frame_max t ls b.rest b.methods b.publishes d rest n in
    record {
      quiet = λ f. (let q = s.quiet (sym hear ∙ f) in (opened ∙ q.0, w ∙ left_fewer c b.frame_max t b.rest b.methods b.publishes q.1));
      begun = λ l f z. by (list_any (is_open_on c) (left_alone o)) refl l f z;
      going = λ u. (let g = s.going (sym hear ∙ u) in record {
        done = g.done;
        rest = g.rest;
        all = over (none_leaves (shut (sym hear ∙ u))) ∙ g.all;
        are = subst (AreAsks (h ++ (e, x) ∷ []) c g.rest) (sym opened) (asks_more h c g.rest (open_asks c b) e x g.are);
        count = g.count;
      });
    }
  where
    nil_parts : (xs ys : List Left) → xs ++ ys ≡ [] → xs ≡ []
    nil_parts [] ys h = refl
    nil_parts (z ∷ xs) ys h = absurd cc

    by : (v : Bool) → list_any (is_open_on c) (left_alone (handed_out t b)) ≡ v → live c (after_handing t b) ≡ true → hears c (after_handing t b) ≡ false → unsent c (after_handing t b) ≡ 0 → handed_asks c (ls ++ left_alone (handed_out t b)) ≡ []
    by true n l f z = open_leaves c ls (handed_out t b) n
    by false n l f z =
        let o : Option Left = handed_out t b in
        let b' : Wire = after_handing t b in
        let still : Still b b' = handing_still t b in
        let f' : hears c b ≡ false = sym (still_hears c b b' still) ∙ f in
        let l' : live c b ≡ true = sym (still_live c b b' still) ∙ l in
        let gone = (next_waits c d t b rest).1 in
        let none = many-none (is_open_on c) (left_alone o) n in
        let z' : unsent c b ≡ 0 = omega (arith, gone, none, z) in
        let q = s.quiet f' in
        let was : handed_asks c ls ≡ [] = s.begun l' f' z' in
        let over = left_asks c b.frame_max t ls b.rest b.methods b.publishes d rest n in
        nil_parts (handed_asks c (ls ++ left_alone o)) _ (over ∙ (ap (λ v. v ++ waiting_asks c b) was ∙ q.1))
