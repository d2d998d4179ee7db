-- A confirm of which nothing is kept any more, or that stands aside: confirm modes, cells and origins still agree.
use Rattle.std.proofs.Common.{◌≡◌, ◌∙◌, ◌≤◌, ℕ, zero, suc, Bool, true, false, cond, ◌||◌, [], ◌∷◌, slice_set, List, Option, Some, None, length, ap, sym, refl, arith}
use Rattle.lapin_tables.specs.ByChannel.{at_channel}
use Rattle.lapin_tables.specs.Numbered.{Slots, under, with_under}
use Rattle.lapin_tables.proofs.SlotLaws.{length-with}
use Rattle.lapin_confirm.specs.declared.cell.Cell.{Cell}
use Rattle.lapin_confirm.specs.declared.cell.Cell.TheVariants as cell
use Rattle.lapin_confirm.specs.declared.origin.Origin.{Origin}
use Rattle.lapin_confirm.specs.declared.confirm_mode.ConfirmMode.{ConfirmMode}
use Rattle.lapin_confirm.specs.PublishStates.{is_resolved, is_open_on}
use Rattle.lapin_confirm.specs.Drain.{Remains, is_over, remaining, less_one, less_all}
use Rattle.std.specs.List.{list_any}
use Rattle.lapin_confirm.specs.Aside.{marked}
use Rattle.lapin_confirm.specs.ReturnedMessages.{ReturnedMessages}
use Rattle.lapin_confirm.specs.Ties.{AllTied, AllKept, MessagesFit, promised}
use Rattle.lapin_confirm.proofs.Tying.{tied_at-other}

-- a resolved confirm is forgotten
pub forget-tied : (n : ℕ) (es : List (ℕ × ConfirmMode)) (cells : List (Option Cell)) → is_resolved (under n cells) ≡ true → AllTied es cells → AllTied es (with_under n None cells)
forget-tied n es cells over tied = by (under n cells) refl over
  where
    by : (o : Option Cell) → under n cells ≡ o → is_resolved o ≡ true → AllTied es (with_under n None cells)
    by None is h = cc
    by (Some (cell.Queued d)) is h = cc
    by (Some (cell.Pending d t)) is h = cc
    by (Some (cell.Resolved x)) is h = λ d. tied_at-other d n (cell.Resolved x) None (at_channel d es) cells is refl refl (tied d)

-- so all that is kept agrees still, whatever became of its message
pub forget-kept : {early : ℕ} {full : List ℕ} (n : ℕ) (rooms : List (ℕ × Bool)) (es : List (ℕ × ConfirmMode)) (old-returned_by_channel returned_by_channel : List (ℕ × ReturnedMessages)) (old-cells cells : Slots Cell) (old-origins origins : Slots Origin) → is_resolved (under n old-cells.slots) ≡ true → cells.slots ≡ with_under n None old-cells.slots → old-cells.spare ≤ cells.spare → origins.slots ≡ with_under n None old-origins.slots → old-origins.spare ≤ origins.spare → (MessagesFit rooms old-returned_by_channel → MessagesFit rooms returned_by_channel) → AllKept rooms es old-returned_by_channel early old-cells old-origins full → AllKept rooms es returned_by_channel early cells origins full
forget-kept n rooms es old-returned_by_channel returned_by_channel old-cells cells old-origins origins over cell more origin places fit kept =
    let room : promised rooms ≤ cells.spare = omega (arith, kept.room.cells, more) in
    record {
      tied = rw cell (forget-tied n es old-cells.slots over kept.tied);
      room = record { cells = room; tags = kept.room.tags; messages = fit kept.room.messages };
      origins = record {
        count = ap length origin ∙ length-with n None old-origins.slots ∙ kept.origins.count ∙ sym (ap length cell ∙ length-with n None old-cells.slots);
        room = omega (arith, kept.origins.room, places);
      };
      early = kept.early;
      full = kept.full;
    }

pub length-marked : (n : ℕ) (o : Option Origin) (hs : List (Option Origin)) → length (marked n o hs) ≡ length hs
length-marked n None hs = refl
length-marked n (Some h) hs = length-with n (Some (record h { aside = true })) hs

-- nothing is open that was not

any-written : (c : ℕ) (k : ℕ) (cells : List (Option Cell)) → list_any (is_open_on c) cells ≡ false → list_any (is_open_on c) (slice_set cells k None) ≡ false
any-written c k [] none = none
any-written c zero (o ∷ cells) none = elim (is_open_on c o) as (λ b. (b || list_any (is_open_on c) cells) ≡ false → list_any (is_open_on c) cells ≡ false) [ true ↦ λ h. cc | false ↦ λ h. h ] none
any-written c (suc k) (o ∷ cells) none = elim (is_open_on c o) as (λ b. (b || list_any (is_open_on c) cells) ≡ false → (b || list_any (is_open_on c) (slice_set cells k None)) ≡ false) [ true ↦ λ h. cc | false ↦ λ h. any-written c k cells h ] none

any-under : (c n : ℕ) (cells : List (Option Cell)) → list_any (is_open_on c) cells ≡ false → list_any (is_open_on c) (with_under n None cells) ≡ false
any-under c zero cells none = none
any-under c (suc k) cells none = any-written c k cells none

any-less : (c n : ℕ) (r : Remains) → list_any (is_open_on c) r.cells ≡ false → list_any (is_open_on c) (less_one n r).cells ≡ false
any-less c n r none = elim (is_over r.cells n) as (λ (b : Bool). list_any (is_open_on c) (cond b (remaining (with_under n None r.cells) (with_under n None r.origins)) r).cells ≡ false) [ true ↦ any-under c n r.cells none | false ↦ none ]

pub none-open : (c : ℕ) (ns : List ℕ) (r : Remains) → list_any (is_open_on c) r.cells ≡ false → list_any (is_open_on c) (less_all ns r).cells ≡ false
none-open c [] r none = none
none-open c (n ∷ ns) r none = none-open c ns (less_one n r) (any-less c n r none)
