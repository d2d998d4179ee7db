-- The account that goes on frame by frame is, with the settlements that come later filled in, the account that the frames determine.
use Rattle.std.proofs.Common.{◌≡◌, ℕ, suc, ◌+◌, ◌<◌, ◌≤◌, take, drop, get_or, add-one, Bool, true, false, cond, List, [], ◌∷◌, ◌++◌, length, map, Option, Some, None, refl, sym, ap, subst, ◌∙◌, append_assoc, append-nil}
use Rattle.std.specs.Prelude.{nat_lt}
use Rattle.std.specs.Option.{is_some}
use Rattle.std.proofs.lemmas.List.{map-append, take_more, drop_more, drop_all}
use Rattle.lapin_types.specs.Types.{Frame}
use Rattle.lapin_broker.specs.States.{Broker}
use Rattle.lapin_broker.specs.Frames.{channel_of}
use Rattle.lapin_broker.specs.Reads.{read}
use Rattle.lapin_check.specs.declared.seen.Seen.{Seen}
use Rattle.lapin_check.specs.declared.seen.Seen.TheVariants as seen
use Rattle.lapin_check.specs.declared.seen.Settlement.{Settlement}
use Rattle.lapin_check.specs.declared.account.Settled.{Settled}
use Rattle.lapin_check.specs.declared.account.Counted.{Counted}
use Rattle.lapin_check.specs.declared.finding.Finding.TheVariants as found
use Rattle.lapin_check.specs.Finding.{after_seen, fits, fault, finding_from, finding, fitting}
use Rattle.lapin_check.specs.Openings.{opened}
use Rattle.lapin_check.specs.Settlements.{settlement_in, covers}
use Rattle.lapin_check.specs.Account.{numbered, place_after, told_of, first_covering, counted_at, with_settlement, account_from, account_of}
use Rattle.lapin_check.specs.Marks.{Watch, count_at, opens_after, IsAfter, mark, marked, counted_by, account_after, new_watch}
use Rattle.lapin_check.specs.Pointing.{IsKept}
use Rattle.lapin_check.proofs.Following.{Follows, follows-next, follows-new}
use Rattle.lapin_check.proofs.Keeping.{kept-new}

-- a publish with the first settlement behind this past that covers it, where it isn't settled before
abbrev pub fill : ℕ → List Seen → List Seen → Counted → Counted
fill m past xs k = cond (is_some k.settled) k (with_settlement m past xs k)

-- ---- nothing comes behind

fill-none : (m : ℕ) (past : List Seen) (k : Counted) → fill m past [] k ≡ k
fill-none m past k = nothing k.channel k.opening k.number k.place k.settled
  where
    nothing : (c o n p : ℕ) (s : Option Settled) → fill m past [] (record { channel = c; opening = o; number = n; place = p; settled = s }) ≡ record { channel = c; opening = o; number = n; place = p; settled = s }
    nothing c o n p None = refl
    nothing c o n p (Some s) = refl

filled-none : (m : ℕ) (past : List Seen) (account : List Counted) → map (fill m past []) account ≡ account
filled-none m past [] = refl
filled-none m past (k ∷ ks) = ap (λ (x : Counted). x ∷ map (fill m past []) ks) (fill-none m past k) ∙ ap (λ (xs : List Counted). k ∷ xs) (filled-none m past ks)

-- ---- a frame up

joins : (g : Counted → Counted) (b : Bool) (k : Counted) (account rest : List Counted) → map g (cond b (account ++ k ∷ []) account) ++ rest ≡ map g account ++ cond b (g k ∷ rest) rest
joins g true k account rest = ap (λ (xs : List Counted). xs ++ rest) (map-append g account (k ∷ [])) ∙ append_assoc (map g account) (g k ∷ []) rest
joins g false k account rest = refl

-- ---- a settlement down

settles_one : (m : ℕ) (past xs : List Seen) (place : ℕ) (s : Settlement) (c o n p : ℕ) (b : Bool) →
    fill m past xs (cond b (record { channel = c; opening = o; number = n; place = p; settled = Some (told_of place s) }) (record { channel = c; opening = o; number = n; place = p; settled = None }))
    ≡ record { channel = c; opening = o; number = n; place = p; settled = cond b (Some (told_of place s)) (first_covering m past xs (record { channel = c; opening = o; number = n; place = p; settled = None })) }
settles_one m past xs place s c o n p true = refl
settles_one m past xs place s c o n p false = refl

marks_one : (m : ℕ) (past xs : List Seen) (f : Seen) (place now : ℕ) (s : Settlement) (c o n p : ℕ) (settled : Option Settled) →
    now ≡ opened m past s.channel →
    fill m (past ++ f ∷ []) xs (mark place now s (record { channel = c; opening = o; number = n; place = p; settled = settled }))
    ≡ cond (is_some settled) (record { channel = c; opening = o; number = n; place = p; settled = settled })
    (record { channel = c; opening = o; number = n; place = p; settled = cond (covers s (opened m past s.channel) (record { channel = c; opening = o; number = n; place = p; settled = settled })) (Some (told_of place s)) (first_covering m (past ++ f ∷ []) xs (record { channel = c; opening = o; number = n; place = p; settled = settled })) })
marks_one m past xs f place now s c o n p None is =
    rw is (settles_one m (past ++ f ∷ []) xs place s c o n p (covers s (opened m past s.channel) (record { channel = c; opening = o; number = n; place = p; settled = None })))
marks_one m past xs f place now s c o n p (Some t) is = refl

-- what a frame down, which is this settlement or none, and those behind it do to a publish
abbrev pub filled_by : ℕ → List Seen → List Seen → Seen → Option Settlement → Counted → Counted
filled_by m past xs x None k = fill m (past ++ x ∷ []) xs k
filled_by m past xs x (Some s) k = cond (is_some k.settled) k (record k { settled = cond (covers s (opened m past s.channel) k) (Some (told_of (place_after past) s)) (first_covering m (past ++ x ∷ []) xs k) })

marks_all : (m : ℕ) (past xs : List Seen) (x : Seen) (opens : List (ℕ × ℕ)) (o : Option Settlement) (account : List Counted) → ((c : ℕ) → count_at c opens ≡ opened m past c) → map (fill m (past ++ x ∷ []) xs) (marked (place_after past) o opens account) ≡ map (filled_by m past xs x o) account
marks_all m past xs x opens None account counts = refl
marks_all m past xs x opens (Some s) [] counts = refl
marks_all m past xs x opens (Some s) (k ∷ ks) counts =
    ap (λ (y : Counted). y ∷ map (fill m (past ++ x ∷ []) xs) (marked (place_after past) (Some s) opens ks)) (marks_one m past xs x (place_after past) (count_at s.channel opens) s k.channel k.opening k.number k.place k.settled (counts s.channel))
    ∙ ap (λ (ys : List Counted). filled_by m past xs x (Some s) k ∷ ys) (marks_all m past xs x opens (Some s) ks counts)

filled_down : (m : ℕ) (past xs : List Seen) (f : Frame) (o : Option Settlement) → settlement_in f ≡ o → (account : List Counted) → map (filled_by m past xs (seen.Down f) o) account ≡ map (fill m past (seen.Down f ∷ xs)) account
filled_down m past xs f None is account = ap (λ (g : Counted → Counted). map g account) (λ i k. by_none k i)
  where
    by_none : (k : Counted) → filled_by m past xs (seen.Down f) None k ≡ fill m past (seen.Down f ∷ xs) k
    by_none k = rw is refl
filled_down m past xs f (Some s) is account = ap (λ (g : Counted → Counted). map g account) (λ i k. by_some k i)
  where
    by_some : (k : Counted) → filled_by m past xs (seen.Down f) (Some s) k ≡ fill m past (seen.Down f ∷ xs) k
    by_some k = rw is refl

-- ---- any frame

-- what is told at a place goes on to tell what was told before it
pub account-next : (m : ℕ) (past xs : List Seen) (x : Seen) (w : Watch) (account : List Counted) → Follows m past w →
    map (fill m (past ++ x ∷ []) xs) (account_after (place_after past) x w account) ++ account_from m (past ++ x ∷ []) xs
    ≡ map (fill m past (x ∷ xs)) account ++ account_from m past (x ∷ xs)
account-next m past xs (seen.Up f) w account h =
    let g : Counted → Counted = fill m (past ++ seen.Up f ∷ []) xs in
    let rest : List Counted = account_from m (past ++ seen.Up f ∷ []) xs in
    let c : ℕ = channel_of f in
    let after : Watch = record w { broker = read w.broker f; opens = opens_after (seen.Up f) w } in
    let next : Follows m (past ++ seen.Up f ∷ []) after = follows-next m past (seen.Up f) w after h (record { broker = refl; opens = refl }) in
    let entry : counted_by (place_after past) c (read w.broker f) (opens_after (seen.Up f) w) ≡ counted_at m past (seen.Up f) =
    ap (λ (o : ℕ). record { channel = c; opening = o; number = numbered c (read w.broker f); place = place_after past; settled = None }) (next.opens c)
    ∙ ap (λ (b : Broker). record { channel = c; opening = opened m (past ++ seen.Up f ∷ []) c; number = numbered c b; place = place_after past; settled = None }) next.broker in
    joins g (nat_lt (numbered c w.broker) (numbered c (read w.broker f))) (counted_by (place_after past) c (read w.broker f) (opens_after (seen.Up f) w)) account rest
    ∙ ap (λ (k : Counted). map g account ++ cond (nat_lt (numbered c w.broker) (numbered c (read w.broker f))) (g k ∷ rest) rest) entry
    ∙ ap (λ (b : Broker). map g account ++ cond (nat_lt (numbered c b) (numbered c (read b f))) (g (counted_at m past (seen.Up f)) ∷ rest) rest) h.broker
account-next m past xs (seen.Down f) w account h =
    ap (λ (ks : List Counted). ks ++ account_from m (past ++ seen.Down f ∷ []) xs)
    (marks_all m past xs (seen.Down f) w.opens (settlement_in f) account h.opens ∙ filled_down m past xs f (settlement_in f) refl account)

-- ---- a whole transcript

-- The frames before a place led to this watch and account, and what is found behind it is what is found in all.
pub record AtPlace (m : ℕ) (all past rest : List Seen) (place : ℕ) (w : Watch) (account : List Counted) : Type 0 where
  pub place_is : place ≡ length past
  pub follows : Follows m past w
  pub kept : IsKept place w account
  pub finds : finding_from place w.broker rest ≡ finding m all
  pub told : map (fill m past (fitting w.broker rest)) account ++ account_from m past (fitting w.broker rest) ≡ account_of m all

pub at_start : (m : ℕ) (all : List Seen) → AtPlace m all [] all 0 (new_watch m) []
at_start m all = record { place_is = refl; follows = follows-new m; kept = kept-new m; finds = refl; told = refl }

longer : (past : List Seen) (x : Seen) → length (past ++ x ∷ []) ≡ suc (length past)
longer [] x = refl
longer (y ∷ ys) x = ap suc (longer ys x)

-- what a frame that fits leads to
pub record Goes (place : ℕ) (x : Seen) (w v : Watch) (account new : List Counted) : Type 0 where
  pub fits_so : fits w.broker x ≡ true
  pub after : IsAfter x w v
  pub account_is : new ≡ account_after place x w account
  pub kept : IsKept place v new

pub at_next : (m : ℕ) (all past rest : List Seen) (x : Seen) (place : ℕ) (w v : Watch) (account new : List Counted) → AtPlace m all past (x ∷ rest) place w account → Goes (suc place) x w v account new → AtPlace m all (past ++ x ∷ []) rest (suc place) v new
at_next m all past rest x place w v account new h goes =
    let said : cond (fits w.broker x) (finding_from (suc place) (after_seen x w.broker) rest) (fault (suc place) w.broker x) ≡ finding m all = h.finds in
    let T : Bool → Type 0 = λ b. map (fill m past (cond b (x ∷ fitting (after_seen x w.broker) rest) [])) account ++ account_from m past (cond b (x ∷ fitting (after_seen x w.broker) rest) []) ≡ account_of m all in
    let told : T true = subst T goes.fits_so h.told in
    let finds : finding_from (suc place) (after_seen x w.broker) rest ≡ finding m all = rw goes.fits_so at said in
    let grown : map (fill m (past ++ x ∷ []) (fitting (after_seen x w.broker) rest)) (account_after (suc place) x w account) ++ account_from m (past ++ x ∷ []) (fitting (after_seen x w.broker) rest) ≡ account_of m all =
    ap (λ (p : ℕ). map (fill m (past ++ x ∷ []) (fitting (after_seen x w.broker) rest)) (account_after p x w account) ++ account_from m (past ++ x ∷ []) (fitting (after_seen x w.broker) rest)) (ap suc h.place_is)
    ∙ account-next m past (fitting (after_seen x w.broker) rest) x w account h.follows
    ∙ told in
    record {
      place_is = ap suc h.place_is ∙ sym (longer past x);
      follows = follows-next m past x w v h.follows goes.after;
      kept = goes.kept;
      finds = ap (λ (b : Broker). finding_from (suc place) b rest) goes.after.broker ∙ finds;
      told = ap (λ (b : Broker). map (fill m (past ++ x ∷ []) (fitting b rest)) new ++ account_from m (past ++ x ∷ []) (fitting b rest)) goes.after.broker
          ∙ ap (λ (ks : List Counted). map (fill m (past ++ x ∷ []) (fitting (after_seen x w.broker) rest)) ks ++ account_from m (past ++ x ∷ []) (fitting (after_seen x w.broker) rest)) goes.account_is
          ∙ grown;
    }

-- a frame doesn't fit: that is found, and the account is whole
pub at_fault : (m : ℕ) (all past rest : List Seen) (x : Seen) (place : ℕ) (w : Watch) (account : List Counted) → AtPlace m all past (x ∷ rest) place w account → fits w.broker x ≡ false → (fault (suc place) w.broker x ≡ finding m all) × (account ≡ account_of m all)
at_fault m all past rest x place w account h bad =
    let said : cond (fits w.broker x) (finding_from (suc place) (after_seen x w.broker) rest) (fault (suc place) w.broker x) ≡ finding m all = h.finds in
    let T : Bool → Type 0 = λ b. map (fill m past (cond b (x ∷ fitting (after_seen x w.broker) rest) [])) account ++ account_from m past (cond b (x ∷ fitting (after_seen x w.broker) rest) []) ≡ account_of m all in
    let told : T false = subst T bad h.told in
    (rw bad at said, sym (filled-none m past account) ∙ sym (append-nil (map (fill m past []) account)) ∙ told)

-- no frame is left: all is fine, and the account is whole
pub at_end : (m : ℕ) (all past : List Seen) (place : ℕ) (w : Watch) (account : List Counted) → AtPlace m all past [] place w account → (found.Fine ≡ finding m all) × (account ≡ account_of m all)
at_end m all past place w account h = (h.finds, sym (filled-none m past account) ∙ sym (append-nil (map (fill m past []) account)) ∙ h.told)

-- ---- the loop over a transcript

module _ (m : ℕ) (all : List Seen) (i place : ℕ) (w : Watch) (account : List Counted) (x : Seen) (h : AtPlace m all (take i all) (drop i all) place w account) (lt : i < length all) (is : x ≡ get_or all i x) where
  here : AtPlace m all (take i all) (x ∷ drop (i + 1) all) place w account
  here =
      let cut : drop i all ≡ x ∷ drop (i + 1) all = drop_more all i x lt ∙ ap (λ (y : Seen). y ∷ drop (i + 1) all) (sym is) in
      subst (λ (rest : List Seen). AtPlace m all (take i all) rest place w account) cut h

  pub seen_next : (v : Watch) (new : List Counted) → Goes (place + 1) x w v account new → AtPlace m all (take (i + 1) all) (drop (i + 1) all) (place + 1) v new
  seen_next v new goes =
      let grown : take (i + 1) all ≡ take i all ++ x ∷ [] = take_more all i x lt ∙ ap (λ (y : Seen). take i all ++ y ∷ []) (sym is) in
      let placed : Goes (suc place) x w v account new = subst (λ (p : ℕ). Goes p x w v account new) (add-one place) goes in
      let next : AtPlace m all (take i all ++ x ∷ []) (drop (i + 1) all) (suc place) v new = at_next m all (take i all) (drop (i + 1) all) x place w v account new here placed in
      let counted : AtPlace m all (take i all ++ x ∷ []) (drop (i + 1) all) (place + 1) v new = subst (λ (p : ℕ). AtPlace m all (take i all ++ x ∷ []) (drop (i + 1) all) p v new) (sym (add-one place)) next in
      subst (λ (xs : List Seen). AtPlace m all xs (drop (i + 1) all) (place + 1) v new) (sym grown) counted

  pub seen_fault : fits w.broker x ≡ false → (fault (place + 1) w.broker x ≡ finding m all) × (account ≡ account_of m all)
  seen_fault bad =
      let wrong = at_fault m all (take i all) (drop (i + 1) all) x place w account here bad in
      (ap (λ (p : ℕ). fault p w.broker x) (add-one place) ∙ wrong.0, wrong.1)

pub seen_all : (m : ℕ) (all : List Seen) (i place : ℕ) (w : Watch) (account : List Counted) → AtPlace m all (take i all) (drop i all) place w account → length all ≤ i → (found.Fine ≡ finding m all) × (account ≡ account_of m all)
seen_all m all i place w account h le = at_end m all (take i all) place w account (subst (λ (rest : List Seen). AtPlace m all (take i all) rest place w account) (drop_all i all le) h)
