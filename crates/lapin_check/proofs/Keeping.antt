-- The places that are kept of each channel go on pointing at what isn't settled, whatever is read and sent.
use Rattle.std.proofs.Common.{◌≡◌, ◌≢◌, ℕ, zero, suc, ◌+◌, ◌<◌, ◌≤◌, ◌==◌, Bool, true, false, true≢false, ◌&&◌, cond, List, [], ◌∷◌, ◌++◌, length, map, slice_get, Option, Some, None, refl, sym, ap, subst, ◌∙◌, arith, inl, inr, eq-eqb, length-append}
use Rattle.std.specs.Prelude.{nat_lt}
use Rattle.std.proofs.lemmas.Bool.Decides.{eqb_tells, nat_tests}
use Rattle.std.proofs.lemmas.Option.{slice_get-map}
use Rattle.lapin_types.specs.Types.{Frame}
use Rattle.lapin_tables.specs.Numbered.{Slots}
use Rattle.lapin_broker.specs.States.{Broker, Channel, free_channel, channel_at}
use Rattle.lapin_broker.specs.Frames.{channel_of}
use Rattle.lapin_broker.specs.Reads.{read}
use Rattle.lapin_broker.specs.Sends.{may, send}
use Rattle.lapin_check.specs.declared.seen.Seen.TheVariants as seen
use Rattle.lapin_check.specs.declared.seen.Settlement.{Settlement}
use Rattle.lapin_check.specs.declared.account.Counted.{Counted}
use Rattle.lapin_check.specs.Openings.{opens}
use Rattle.lapin_check.specs.Settlements.{settlement_in}
use Rattle.lapin_check.specs.Account.{numbered}
use Rattle.lapin_check.specs.Marks.{Watch, new_watch, count_at, with_count, opens_after, IsAfter, mark, counted_by, account_after}
use Rattle.lapin_check.specs.Pointing.{IsUnsettled, Points, Stands, IsKept, places_of, emptied, joined_by, places_read, AreRead, AreSettledBy, AreFound}
use Rattle.lapin_check.proofs.Counts.{more_if, counted_if}
use Rattle.lapin_check.proofs.Pointing.{get_either, mapped, mark_channel, mark_opening, points_joined, points_aside, points_other, points_none}
use Rattle.lapin_check.proofs.Numbering.{rests, Moves, read_other, read_moves, Sent, send_other, send_moves, settler_busy}
use Rattle.lapin_tables.proofs.Bools.{and_false}

-- nothing is kept at first
pub kept-new : (m : ℕ) → IsKept 0 (new_watch m) []
kept-new m = record {
  stands = λ c. record { free = λ _. refl; long = λ no. absurd (true≢false no); points = λ no. absurd (true≢false no) };
  past = λ i k here. absurd (nowhere i k here);
  opened = λ c. omega arith;
  given = λ c. omega arith;
}
  where
    nowhere : (i : ℕ) (k : Counted) → slice_get [] i ≡ Some k → ⊥
    nowhere zero k h = cc
    nowhere (suc i) k h = cc

not_less : (m n : ℕ) → n ≡ m → nat_lt m n ≡ false
not_less m n same = grind (arith, nat_tests)

less : (m n : ℕ) → n ≡ m + 1 → nat_lt m n ≡ true
less m n more = grind (arith, nat_tests)

-- ---- a frame up

module _ (p : ℕ) (f : Frame) (w v : Watch) (account new : List Counted) (h : IsKept p w account) (after : IsAfter (seen.Up f) w v) (are : AreRead f (length account) w v) (is : new ≡ account_after (suc p) (seen.Up f) w account) where
  abbrev uc : ℕ
  uc = channel_of f

  -- the count of a channel's opens
  count_is : (d : ℕ) → count_at d v.opens ≡ more_if ((uc == d) && opens w.broker f) (count_at d w.opens)
  count_is d = ap (count_at d) after.opens ∙ counted_if (opens w.broker f) uc d w.opens

  more_le : (b : Bool) (n : ℕ) → (n ≤ more_if b n) × (more_if b n ≤ suc n)
  more_le true n = (omega arith, omega arith)
  more_le false n = (omega arith, omega arith)

  count_rises : (d : ℕ) → count_at d w.opens ≤ count_at d v.opens
  count_rises d = omega (arith, count_is d, (more_le ((uc == d) && opens w.broker f) (count_at d w.opens)).0)

  -- whether a publish is numbered
  abbrev counts : Bool
  counts = nat_lt (numbered uc w.broker) (numbered uc (read w.broker f))

  abbrev entry : Counted
  entry = counted_by (suc p) uc (read w.broker f) (opens_after (seen.Up f) w)

  abbrev old_places : List (Option ℕ)
  old_places = places_of uc w.unsettled

  -- another channel: its broker's side, its count and its places stay, and the new entry isn't its
  stands_other : (d : ℕ) → uc ≢ d → Stands d v new
  stands_other d apart =
      let before = h.stands d in
      let same : channel_at v.broker d ≡ channel_at w.broker d = ap (λ (b : Broker). channel_at b d) after.broker ∙ read_other f w.broker d apart in
      let places : places_of d v.unsettled ≡ places_of d w.unsettled = are.others d (λ e. apart (sym e)) in
      let count : count_at d v.opens ≡ count_at d w.opens = count_is d ∙ other_count in
      record {
        free = λ free. same ∙ before.free (ap rests (sym same) ∙ free);
        long = λ busy. ap length places ∙ before.long (ap rests (sym same) ∙ busy) ∙ ap (λ (x : Channel). length x.numbers) (sym same);
        points = λ busy. moved count places (before.points (ap rests (sym same) ∙ busy));
      }
    where
      other_count : more_if ((uc == d) && opens w.broker f) (count_at d w.opens) ≡ count_at d w.opens
      other_count = elim (eqb_tells uc d) [ inl same ↦ absurd (apart same.1) | inr other ↦ rw other.0 refl ]

      aside : (b : Bool) → Points d (count_at d w.opens) (places_of d w.unsettled) account → Points d (count_at d w.opens) (places_of d w.unsettled) (cond b (account ++ entry ∷ []) account)
      aside true old = points_aside d (count_at d w.opens) (places_of d w.unsettled) account old entry apart
      aside false old = old

      moved : count_at d v.opens ≡ count_at d w.opens → places_of d v.unsettled ≡ places_of d w.unsettled → Points d (count_at d w.opens) (places_of d w.unsettled) account → Points d (count_at d v.opens) (places_of d v.unsettled) new
      moved count places old =
          let here : Points d (count_at d w.opens) (places_of d w.unsettled) new = subst (λ (ks : List Counted). Points d (count_at d w.opens) (places_of d w.unsettled) ks) (sym is) (aside counts old) in
          subst (λ (n : ℕ). Points d n (places_of d v.unsettled) new) (sym count) (subst (λ (ps : List (Option ℕ)). Points d (count_at d w.opens) ps new) (sym places) here)

  -- ---- the frame's channel

  broker_is : channel_at v.broker uc ≡ channel_at (read w.broker f) uc
  broker_is = ap (λ (b : Broker). channel_at b uc) after.broker

  not_opened : rests (channel_at w.broker uc) ≡ false → opens w.broker f ≡ false
  not_opened busy = rw busy (and_false _)

  -- the channel has this opening, these places and this account
  here : (n : ℕ) (places : List (Option ℕ)) (ks : List Counted) → count_at uc v.opens ≡ n → places_of uc v.unsettled ≡ places → new ≡ ks → Points uc n places ks → Points uc (count_at uc v.opens) (places_of uc v.unsettled) new
  here n places ks count places_is ks_is points =
      subst (λ (m : ℕ). Points uc m (places_of uc v.unsettled) new) (sym count)
      (subst (λ (ps : List (Option ℕ)). Points uc n ps new) (sym places_is) (subst (λ (xs : List Counted). Points uc n places xs) (sym ks_is) points))

  -- one that isn't free
  busy_stands : (y : Channel) → y ≡ channel_at (read w.broker f) uc → rests y ≡ false → length (places_of uc v.unsettled) ≡ length y.numbers → Points uc (count_at uc v.opens) (places_of uc v.unsettled) new → Stands uc v new
  busy_stands y is_y busy long points = record {
    free = λ free. absurd (true≢false (sym free ∙ ap rests (broker_is ∙ sym is_y) ∙ busy));
    long = λ _. long ∙ ap (λ (x : Channel). length x.numbers) (is_y ∙ sym broker_is);
    points = λ _. points;
  }

  numbers_of : (y : Channel) → y ≡ channel_at (read w.broker f) uc → numbered uc (read w.broker f) ≡ length y.numbers
  numbers_of y is_y = ap (λ (x : Channel). length x.numbers) (sym is_y)

  -- its side in the broker, its places and the account, by how the channel moved
  stands_by : (y : Channel) → y ≡ channel_at (read w.broker f) uc → Moves f w.broker y → Stands uc v new
  stands_by y is_y (inl freed) =
      let at_rest : channel_at v.broker uc ≡ free_channel = broker_is ∙ sym is_y ∙ freed in
      record {
        free = λ _. at_rest;
        long = λ busy. absurd (true≢false (ap rests (sym at_rest) ∙ busy));
        points = λ busy. absurd (true≢false (ap rests (sym at_rest) ∙ busy));
      }
  stands_by y is_y (inr (inl held)) =
      let same : numbered uc (read w.broker f) ≡ numbered uc w.broker = numbers_of y is_y ∙ ap length held.numbers in
      let closed : opens w.broker f ≡ false = not_opened held.before in
      let silent : counts ≡ false = not_less (numbered uc w.broker) (numbered uc (read w.broker f)) same in
      let places : places_of uc v.unsettled ≡ old_places = are.here ∙ ap (λ (b : Bool). joined_by b (length account) (emptied (opens w.broker f) old_places)) silent ∙ ap (λ (b : Bool). emptied b old_places) closed in
      let account_is : new ≡ account = is ∙ ap (λ (b : Bool). cond b (account ++ entry ∷ []) account) silent in
      let count : count_at uc v.opens ≡ count_at uc w.opens = count_is uc ∙ ap (λ (b : Bool). more_if ((uc == uc) && b) (count_at uc w.opens)) closed ∙ ap (λ (b : Bool). more_if b (count_at uc w.opens)) (and_false (uc == uc)) in
      busy_stands y is_y held.after
      (ap length places ∙ (h.stands uc).long held.before ∙ ap length (sym held.numbers))
      (here (count_at uc w.opens) old_places account count places account_is ((h.stands uc).points held.before))
  stands_by y is_y (inr (inr (inl held))) =
      let one : length (channel_at w.broker uc).numbers + 1 ≡ length y.numbers = sym (length-append (channel_at w.broker uc).numbers (Some tt ∷ [])) ∙ ap length (sym held.numbers) in
      let more : numbered uc (read w.broker f) ≡ numbered uc w.broker + 1 = numbers_of y is_y ∙ sym one in
      let closed : opens w.broker f ≡ false = not_opened held.before in
      let counted : counts ≡ true = less (numbered uc w.broker) (numbered uc (read w.broker f)) more in
      let places : places_of uc v.unsettled ≡ old_places ++ Some (length account) ∷ [] =
      are.here
      ∙ ap (λ (b : Bool). joined_by b (length account) (emptied (opens w.broker f) old_places)) counted
      ∙ ap (λ (b : Bool). emptied b old_places ++ Some (length account) ∷ []) closed in
      let account_is : new ≡ account ++ entry ∷ [] = is ∙ ap (λ (b : Bool). cond b (account ++ entry ∷ []) account) counted in
      let count : count_at uc v.opens ≡ count_at uc w.opens = count_is uc ∙ ap (λ (b : Bool). more_if ((uc == uc) && b) (count_at uc w.opens)) closed ∙ ap (λ (b : Bool). more_if b (count_at uc w.opens)) (and_false (uc == uc)) in
      let long : length old_places ≡ numbered uc w.broker = (h.stands uc).long held.before in
      let unsettled : IsUnsettled uc (count_at uc w.opens) (length old_places + 1) entry = record {
        channel = refl;
        opening = ap (count_at uc) (sym after.opens) ∙ count;
        number = more ∙ ap (λ (n : ℕ). n + 1) (sym long);
        settled = refl;
      } in
      busy_stands y is_y held.after
      (ap length places ∙ length-append old_places (Some (length account) ∷ []) ∙ ap (λ (n : ℕ). n + 1) long ∙ one)
      (here (count_at uc w.opens) (old_places ++ Some (length account) ∷ []) (account ++ entry ∷ []) count places account_is
      (points_joined uc (count_at uc w.opens) old_places account ((h.stands uc).points held.before) entry unsettled))
  stands_by y is_y (inr (inr (inr opened))) =
      let none : numbered uc (read w.broker f) ≡ 0 = numbers_of y is_y ∙ ap length opened.numbers in
      let silent : counts ≡ false = none_less (numbered uc w.broker) (numbered uc (read w.broker f)) none in
      let places : places_of uc v.unsettled ≡ [] = are.here ∙ ap (λ (b : Bool). joined_by b (length account) (emptied (opens w.broker f) old_places)) silent ∙ ap (λ (b : Bool). emptied b old_places) opened.opened in
      let account_is : new ≡ account = is ∙ ap (λ (b : Bool). cond b (account ++ entry ∷ []) account) silent in
      let count : count_at uc v.opens ≡ suc (count_at uc w.opens) = count_is uc ∙ ap (λ (b : Bool). more_if ((uc == uc) && b) (count_at uc w.opens)) opened.opened ∙ ap (λ (b : Bool). more_if (b && true) (count_at uc w.opens)) (eq-eqb uc uc refl) in
      busy_stands y is_y opened.after
      (ap length places ∙ ap length (sym opened.numbers))
      (here (suc (count_at uc w.opens)) [] account count places account_is (points_none uc (suc (count_at uc w.opens)) account before))
    where
      none_less : (m n : ℕ) → n ≡ 0 → nat_lt m n ≡ false
      none_less m n none = grind (arith, nat_tests)

      before : (i : ℕ) (k : Counted) → slice_get account i ≡ Some k → k.channel ≡ uc → k.opening < suc (count_at uc w.opens)
      before i k found on =
          let old : k.opening ≤ count_at k.channel w.opens = h.past i k found in
          let same : count_at k.channel w.opens ≡ count_at uc w.opens = ap (λ (c : ℕ). count_at c w.opens) on in
          omega arith

  -- ---- all

  stands_up : (d : ℕ) → Stands d v new
  stands_up d =
      elim (eqb_tells uc d) [
        | inl same ↦ subst (λ (c : ℕ). Stands c v new) same.1 (stands_by (channel_at (read w.broker f) uc) refl (read_moves f w.broker (h.stands uc).free))
        | inr other ↦ stands_other d other.1
      ]

  past_up : (i : ℕ) (k : Counted) → slice_get new i ≡ Some k → k.opening ≤ count_at k.channel v.opens
  past_up i k found = at counts (subst (λ (ks : List Counted). slice_get ks i ≡ Some k) is found)
    where
      old_past : slice_get account i ≡ Some k → k.opening ≤ count_at k.channel v.opens
      old_past there = omega (arith, h.past i k there, count_rises k.channel)

      at : (b : Bool) → slice_get (cond b (account ++ entry ∷ []) account) i ≡ Some k → k.opening ≤ count_at k.channel v.opens
      at true there =
          elim (get_either account entry k i there) [
            | inl old ↦ old_past old
            | inr last ↦
                let opening : k.opening ≡ count_at uc (opens_after (seen.Up f) w) = ap (λ (z : Counted). z.opening) (sym last.1) in
                let channel : k.channel ≡ uc = ap (λ (z : Counted). z.channel) (sym last.1) in
                let count : count_at k.channel v.opens ≡ count_at uc (opens_after (seen.Up f) w) = ap (λ (c : ℕ). count_at c v.opens) channel ∙ ap (count_at uc) after.opens in
                omega arith
          ]
      at false there = old_past there

  opened_up : (d : ℕ) → count_at d v.opens ≤ suc p
  opened_up d = omega (arith, count_is d, (more_le ((uc == d) && opens w.broker f) (count_at d w.opens)).1, h.opened d)

  given_up : (d : ℕ) → length (places_of d v.unsettled) ≤ suc p
  given_up d =
      elim (eqb_tells uc d) [
        | inl same ↦ subst (λ (c : ℕ). length (places_of c v.unsettled) ≤ suc p) same.1 mine
        | inr other ↦
            let kept : length (places_of d v.unsettled) ≡ length (places_of d w.unsettled) = ap length (are.others d (λ e. other.1 (sym e))) in
            omega (arith, h.given d)
      ]
    where
      long_joined : (b c : Bool) (ps : List (Option ℕ)) → length (joined_by b (length account) (emptied c ps)) ≤ length ps + 1
      long_joined true true ps = omega arith
      long_joined false true ps = omega arith
      long_joined true false ps = omega (arith, length-append ps (Some (length account) ∷ []))
      long_joined false false ps = omega arith

      mine : length (places_of uc v.unsettled) ≤ suc p
      mine =
          let now : length (places_of uc v.unsettled) ≡ length (places_read f w (length account) old_places) = ap length are.here in
          omega (arith, long_joined counts (opens w.broker f) old_places, h.given uc)

  pub kept_up : IsKept (suc p) v new
  kept_up = record { stands = stands_up; past = past_up; opened = opened_up; given = given_up }

-- what the calls that read a frame on channel c do in turn: m is the watch once the channel was opened, if it was, and v once a publish
-- was numbered, if one was
pub record ReadBy (c place n : ℕ) (o : Bool) (f : Frame) (w m v : Watch) (account new : List Counted) : Type 0 where
  pub broker_one : m.broker ≡ read w.broker f
  pub opens_one : m.opens ≡ cond o (with_count c w.opens) w.opens
  pub here_one : places_of c m.unsettled ≡ emptied o (places_of c w.unsettled)
  pub others_one : (d : ℕ) → d ≢ c → places_of d m.unsettled ≡ places_of d w.unsettled
  pub broker_two : v.broker ≡ m.broker
  pub opens_two : v.opens ≡ m.opens
  pub account_two : new ≡ cond (nat_lt n (numbered c m.broker)) (account ++ counted_by place c m.broker m.opens ∷ []) account
  pub here_two : places_of c v.unsettled ≡ joined_by (nat_lt n (numbered c m.broker)) (length account) (places_of c m.unsettled)
  pub others_two : (d : ℕ) → d ≢ c → places_of d v.unsettled ≡ places_of d m.unsettled

read_kept : (p : ℕ) (f : Frame) (w m v : Watch) (account new : List Counted) → IsKept p w account → ReadBy (channel_of f) (suc p) (numbered (channel_of f) w.broker) (opens w.broker f) f w m v account new → IsKept (suc p) v new
read_kept p f w m v account new h by =
    let c : ℕ = channel_of f in
    let n : ℕ = numbered c w.broker in
    kept_up p f w v account new h
    (record { broker = by.broker_two ∙ by.broker_one; opens = by.opens_two ∙ by.opens_one })
    (record {
      here =
          by.here_two
          ∙ ap (λ (b : Broker). joined_by (nat_lt n (numbered c b)) (length account) (places_of c m.unsettled)) by.broker_one
          ∙ ap (joined_by (nat_lt n (numbered c (read w.broker f))) (length account)) by.here_one;
      others = λ d apart. by.others_two d apart ∙ by.others_one d apart;
    })
    (by.account_two
    ∙ ap (λ (b : Broker). cond (nat_lt n (numbered c b)) (account ++ counted_by (suc p) c b m.opens ∷ []) account) by.broker_one
    ∙ ap (λ (os : List (ℕ × ℕ)). cond (nat_lt n (numbered c (read w.broker f))) (account ++ counted_by (suc p) c (read w.broker f) os ∷ []) account) by.opens_one)

pub kept_read : (p place c n : ℕ) (o : Bool) (f : Frame) (w m v : Watch) (account new : List Counted) → IsKept p w account → place ≡ suc p → c ≡ channel_of f → n ≡ numbered c w.broker → o ≡ opens w.broker f → ReadBy c place n o f w m v account new → IsKept place v new
kept_read p place c n o f w m v account new h place_is c_is n_is o_is by =
    let one : ReadBy c place (numbered c w.broker) o f w m v account new = subst (λ (k : ℕ). ReadBy c place k o f w m v account new) n_is by in
    let two : ReadBy c place (numbered c w.broker) (opens w.broker f) f w m v account new = subst (λ (b : Bool). ReadBy c place (numbered c w.broker) b f w m v account new) o_is one in
    let three : ReadBy (channel_of f) place (numbered (channel_of f) w.broker) (opens w.broker f) f w m v account new = subst (λ (d : ℕ). ReadBy d place (numbered d w.broker) (opens w.broker f) f w m v account new) c_is two in
    let four : ReadBy (channel_of f) (suc p) (numbered (channel_of f) w.broker) (opens w.broker f) f w m v account new = subst (λ (k : ℕ). ReadBy (channel_of f) k (numbered (channel_of f) w.broker) (opens w.broker f) f w m v account new) place_is three in
    subst (λ (k : ℕ). IsKept k v new) (sym place_is) (read_kept p f w m v account new h four)

-- no more places are kept as an opening begins
pub emptied_short : (b : Bool) (places : List (Option ℕ)) → length (emptied b places) ≤ length places
emptied_short true places = omega arith
emptied_short false places = omega arith

-- ---- a frame down

-- the publishes that it may settle are found
pub found_down : (p : ℕ) (f : Frame) (w : Watch) (account : List Counted) → IsKept p w account → may w.broker f ≡ true → AreFound (settlement_in f) w account
found_down p f w account h allowed = at (settlement_in f) refl
  where
    at : (o : Option Settlement) → settlement_in f ≡ o → AreFound o w account
    at None is = tt
    at (Some s) is = (h.stands s.channel).points (settler_busy f w.broker s is allowed)

module _ (p : ℕ) (f : Frame) (w v : Watch) (account new : List Counted) (h : IsKept p w account) (allowed : may w.broker f ≡ true) (after : IsAfter (seen.Down f) w v) where
  -- of each channel as many places are kept, and they point at what isn't settled
  places_down : (o : Option Settlement) → AreSettledBy o (suc p) w v account new → (d : ℕ) → (length (places_of d v.unsettled) ≡ length (places_of d w.unsettled)) × (Points d (count_at d w.opens) (places_of d w.unsettled) account → Points d (count_at d w.opens) (places_of d v.unsettled) new)
  places_down None are d = (
    ap (λ (es : List (ℕ × Slots ℕ)). length (places_of d es)) are.0,
    λ points. subst (λ (ks : List Counted). Points d (count_at d w.opens) (places_of d v.unsettled) ks) (sym are.1) (subst (λ (es : List (ℕ × Slots ℕ)). Points d (count_at d w.opens) (places_of d es) account) (sym are.0) points),
  )
  places_down (Some s) are d =
      elim (eqb_tells s.channel d) [
        | inl same ↦ (
          subst (λ (c : ℕ). length (places_of c v.unsettled) ≡ length (places_of c w.unsettled)) same.1 are.long,
          λ points. subst (λ (c : ℕ). Points c (count_at c w.opens) (places_of c v.unsettled) new) same.1 are.points,
        )
        | inr other ↦
            let places : places_of d v.unsettled ≡ places_of d w.unsettled = are.others d (λ e. other.1 (sym e)) in (
              ap length places,
              λ points.
                  let marked : Points d (count_at d w.opens) (places_of d w.unsettled) new = subst (λ (ks : List Counted). Points d (count_at d w.opens) (places_of d w.unsettled) ks) (sym are.marked) (points_other d (count_at d w.opens) (places_of d w.unsettled) account points (suc p) (count_at s.channel w.opens) s other.1) in
                  subst (λ (ps : List (Option ℕ)). Points d (count_at d w.opens) ps new) (sym places) marked,
            )
      ]

  -- each entry is an old one, of the same channel and opening
  entries_down : (o : Option Settlement) → AreSettledBy o (suc p) w v account new → (i : ℕ) (k : Counted) → slice_get new i ≡ Some k → (e : Counted) × (slice_get account i ≡ Some e) × (e.channel ≡ k.channel) × (e.opening ≡ k.opening)
  entries_down None are i k found = (k, subst (λ (ks : List Counted). slice_get ks i ≡ Some k) are.1 found, refl, refl)
  entries_down (Some s) are i k found =
      let m : Counted → Counted = mark (suc p) (count_at s.channel w.opens) s in
      let there : slice_get (map m account) i ≡ Some k = subst (λ (ks : List Counted). slice_get ks i ≡ Some k) are.marked found in
      let old = mapped m (slice_get account i) k (sym (slice_get-map m account i) ∙ there) in (
        old.0,
        old.1,
        sym (mark_channel (suc p) (count_at s.channel w.opens) s old.0) ∙ ap (λ (z : Counted). z.channel) old.2,
        sym (mark_opening (suc p) (count_at s.channel w.opens) s old.0) ∙ ap (λ (z : Counted). z.opening) old.2,
      )

  module _ (are : AreSettledBy (settlement_in f) (suc p) w v account new) where
    abbrev dc : ℕ
    dc = channel_of f

    points_down : (d : ℕ) → Points d (count_at d w.opens) (places_of d w.unsettled) account → Points d (count_at d v.opens) (places_of d v.unsettled) new
    points_down d points = subst (λ (os : List (ℕ × ℕ)). Points d (count_at d os) (places_of d v.unsettled) new) (sym after.opens) ((places_down (settlement_in f) are d).1 points)

    stands_aside : (d : ℕ) → dc ≢ d → Stands d v new
    stands_aside d apart =
        let before = h.stands d in
        let same : channel_at v.broker d ≡ channel_at w.broker d = ap (λ (b : Broker). channel_at b d) after.broker ∙ send_other f w.broker d apart allowed in
        record {
          free = λ free. same ∙ before.free (ap rests (sym same) ∙ free);
          long = λ busy. (places_down (settlement_in f) are d).0 ∙ before.long (ap rests (sym same) ∙ busy) ∙ ap (λ (x : Channel). length x.numbers) (sym same);
          points = λ busy. points_down d (before.points (ap rests (sym same) ∙ busy));
        }

    stands_sent : (y : Channel) → y ≡ channel_at (send w.broker f) dc → Sent f w.broker y → Stands dc v new
    stands_sent y is_y (inl freed) =
        let at_rest : channel_at v.broker dc ≡ free_channel = ap (λ (b : Broker). channel_at b dc) after.broker ∙ sym is_y ∙ freed in
        record {
          free = λ _. at_rest;
          long = λ busy. absurd (true≢false (ap rests (sym at_rest) ∙ busy));
          points = λ busy. absurd (true≢false (ap rests (sym at_rest) ∙ busy));
        }
    stands_sent y is_y (inr held) =
        let now : channel_at v.broker dc ≡ y = ap (λ (b : Broker). channel_at b dc) after.broker ∙ sym is_y in
        record {
          free = λ free. absurd (true≢false (sym free ∙ ap rests now ∙ held.after));
          long = λ _. (places_down (settlement_in f) are dc).0 ∙ (h.stands dc).long held.before ∙ sym held.numbers ∙ ap (λ (x : Channel). length x.numbers) (sym now);
          points = λ _. points_down dc ((h.stands dc).points held.before);
        }

    stands_down : (d : ℕ) → Stands d v new
    stands_down d =
        elim (eqb_tells dc d) [
          | inl same ↦ subst (λ (c : ℕ). Stands c v new) same.1 (stands_sent (channel_at (send w.broker f) dc) refl (send_moves f w.broker (h.stands dc).free allowed))
          | inr other ↦ stands_aside d other.1
        ]

    past_down : (i : ℕ) (k : Counted) → slice_get new i ≡ Some k → k.opening ≤ count_at k.channel v.opens
    past_down i k found =
        let old = entries_down (settlement_in f) are i k found in
        let before : old.0.opening ≤ count_at old.0.channel w.opens = h.past i old.0 old.1 in
        let count : count_at k.channel v.opens ≡ count_at old.0.channel w.opens = ap (λ (os : List (ℕ × ℕ)). count_at k.channel os) after.opens ∙ ap (λ (c : ℕ). count_at c w.opens) (sym old.2) in
        omega (arith, old.3)

    opened_down : (d : ℕ) → count_at d v.opens ≤ suc p
    opened_down d = let same : count_at d v.opens ≡ count_at d w.opens = ap (count_at d) after.opens in omega (arith, h.opened d)

    given_down : (d : ℕ) → length (places_of d v.unsettled) ≤ suc p
    given_down d = omega (arith, (places_down (settlement_in f) are d).0, h.given d)

    pub kept_down : IsKept (suc p) v new
    kept_down = record { stands = stands_down; past = past_down; opened = opened_down; given = given_down }

-- what a settlement asks of a watch and does to it is no matter of its broker
found_from : (o : Option Settlement) (b : Broker) (w : Watch) (account : List Counted) → AreFound o w account → AreFound o (record w { broker = b }) account
found_from None b w account h = tt
found_from (Some s) b w account h = h

settled_from : (o : Option Settlement) (place : ℕ) (b : Broker) (w v : Watch) (account new : List Counted) → AreSettledBy o place (record w { broker = b }) v account new → AreSettledBy o place w v account new
settled_from None place b w v account new h = h
settled_from (Some s) place b w v account new h = h

-- what the calls that send a frame need and do
module _ (p place : ℕ) (f : Frame) (o : Option Settlement) (w : Watch) (b : Broker) (account : List Counted) (h : IsKept p w account) (place_is : place ≡ suc p) (allowed : may w.broker f ≡ true) (sent : b ≡ send w.broker f) (o_is : o ≡ settlement_in f) where
  pub found_send : AreFound o (record w { broker = b }) account
  found_send = found_from o b w account (subst (λ (x : Option Settlement). AreFound x w account) (sym o_is) (found_down p f w account h allowed))

  pub kept_send : (v : Watch) (new : List Counted) → v.broker ≡ b → v.opens ≡ w.opens → AreSettledBy o place (record w { broker = b }) v account new → IsKept place v new
  kept_send v new broker opens are =
      let one : AreSettledBy o (suc p) w v account new = subst (λ (k : ℕ). AreSettledBy o k w v account new) place_is (settled_from o place b w v account new are) in
      let two : AreSettledBy (settlement_in f) (suc p) w v account new = subst (λ (x : Option Settlement). AreSettledBy x (suc p) w v account new) o_is one in
      subst (λ (k : ℕ). IsKept k v new) (sym place_is) (kept_down p f w v account new h allowed (record { broker = broker ∙ sent; opens = opens }) two)
