-- A settlement that comes to an open session is received or passed over, where the session has the tags pending that the pair's has.
use Rattle.std.proofs.Common.{◌≡◌, ℕ, Bool, true, false, cond, not, ◌&&◌, ◌||◌, nat_lt, nat_le, List, ◌∷◌, length, refl, sym, ◌∙◌, ap, eq-eqb}
use Rattle.std.specs.List.{list_any}
use Rattle.lapin_types.specs.declared.record.Record.{Record}
use Rattle.lapin_types.specs.declared.record.Record.TheVariants as record_
use Rattle.lapin_types.specs.Types.error
use Rattle.lapin_rules.specs.declared.marks.Settlement.{Settlement}
use Rattle.lapin_rules.specs.Readings.{Readings}
use Rattle.lapin_rules.specs.Settlement.{settlement_record}
use Rattle.lapin_pairs.specs.Machine.{Opened}
use Rattle.lapin_pairs.specs.Channel.{Settle, DownF, BSettle}
use Rattle.lapin_pairs.specs.Every.{DownOn, ToD, All, DeliverA, received_a, delivers_a, happens_a}
use Rattle.lapin_pairs.specs.Tags.{covers}
use Rattle.lapin_pairs.specs.Tagging.{S3, odd_at, tagging}
use Rattle.lapin_pairs.proofs.Every.{joint_keeps}
use Rattle.lapin_pairs.proofs.Tagging.{Tagged, Calm3, tags_fact, tags_settled}
use Rattle.lapin_concord.specs.Refusals.{is_refusal}
use Rattle.lapin_concord.proofs.Tallies.{J3}

-- the tag is one that the pair's session took and no settlement covered
abbrev pub pends : S3 → ℕ → Bool
pends s n = nat_lt 0 n && nat_le n (length s.tagged) && not (list_any (covers n) s.received)

-- what is pending in the pair's session is pending in the session, where the opening is selected
pub record IsNoted (s : S3) (see : Readings) (c : ℕ) : Type 0 where
  pub pending : (n : ℕ) → see.selected c ≡ true → pends s n ≡ true → see.pending c n ≡ true

or_right : (a b : Bool) → (a || b) ≡ false → b ≡ false
or_right true b h = cc
or_right false b h = h

-- the settlement that comes next is no single one of a tag that isn't pending
pub not_odd : (t : All tagging) (c : ℕ) (x : Settle) (ds : List (DownOn DownF)) → t.down ≡ ToD c (BSettle x) ∷ ds → t.conn ≡ Opened → J3 t → odd_at (t.chans c).tagged (t.chans c).received (BSettle x) ≡ false
not_odd t c x ds n o g =
    let v : All tagging = happens_a tagging t DeliverA in
    let r : v ≡ received_a tagging t Opened (ToD c (BSettle x)) ds = ap (delivers_a tagging t) n ∙ ap (λ s. received_a tagging t s (ToD c (BSettle x)) ds) o in
    let conn : v.conn ≡ Opened = ap (λ (z : All tagging). z.conn) r ∙ o in
    let never : (v.chans c).refusals ≡ false = tags_settled _ ((joint_keeps tagging Tagged Calm3 tags_fact t DeliverA g).chans conn c).good in
    let is : (v.chans c).refusals ≡ ((t.chans c).refusals || odd_at (t.chans c).tagged (t.chans c).received (BSettle x)) = ap (λ (z : All tagging). (z.chans c).refusals) r ∙ rw (eq-eqb c c refl) refl in
    or_right (t.chans c).refusals _ (sym is ∙ never)

pub settled_fine : (t : All tagging) (see : Readings) (c : ℕ) (x : Settlement) (ds : List (DownOn DownF)) → t.down ≡ ToD c (BSettle (record { tag = x.tag; multiple = x.multiple })) ∷ ds → t.conn ≡ Opened → J3 t → IsNoted (t.chans c) see c → is_refusal (settlement_record see c x) ≡ false
settled_fine t see c x ds n o g h = by_select (see.selected c) refl
  where
    odd : (not x.multiple && not (pends (t.chans c) x.tag)) ≡ false
    odd = not_odd t c (record { tag = x.tag; multiple = x.multiple }) ds n o g

    right : (m p : Bool) → (not m && not p) ≡ false → m ≡ false → p ≡ true
    right true p k e = cc
    right false true k e = refl
    right false false k e = cc

    refused : Record
    refused = record_.Refused (error.PreconditionFailed x.tag (see.last c))

    by_kind : (m : Bool) → x.multiple ≡ m → see.selected c ≡ true → is_refusal (cond (x.multiple || see.pending c x.tag) record_.Received refused) ≡ false
    by_kind true e y = ap (λ m. is_refusal (cond (m || see.pending c x.tag) record_.Received refused)) e
    by_kind false e y = ap (λ m. is_refusal (cond (m || see.pending c x.tag) record_.Received refused)) e
        ∙ ap (λ p. is_refusal (cond p record_.Received refused)) (h.pending x.tag y (right x.multiple (pends (t.chans c) x.tag) odd e))

    by_select : (b : Bool) → see.selected c ≡ b → is_refusal (settlement_record see c x) ≡ false
    by_select true y = ap (λ b. is_refusal (cond b (cond (x.multiple || see.pending c x.tag) record_.Received refused) record_.Passed)) y ∙ by_kind x.multiple refl y
    by_select false y = ap (λ b. is_refusal (cond b (cond (x.multiple || see.pending c x.tag) record_.Received refused) record_.Passed)) y
