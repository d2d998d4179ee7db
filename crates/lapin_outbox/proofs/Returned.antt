-- Drops of an outbox to which a frame was given back.
use Rattle.std.proofs.Common.{◌≡◌, ℕ, Option, Some, None, drop, refl, inl, inr}
use Rattle.std.proofs.lemmas.Bool.Decides.{eqb_tells}
use Rattle.lapin_types.specs.declared.leaving.Left.{Left}
use Rattle.lapin_rules.specs.Drops.{frame_channel}
use Rattle.lapin_outbox.specs.Outgoing.{OutboxState}
use Rattle.lapin_outbox.specs.Returned.{with_returned, channel_entries, after_drop_channel}
use Rattle.lapin_outbox.proofs.Dropping.{channel-told}

pub returned-told : (c : ℕ) (o : OutboxState) → channel_entries c (after_drop_channel c o) ≡ drop 1 (channel_entries c o)
returned-told c o = told o.returned
  where
    told : (r : Option Left) → channel_entries c (after_drop_channel c (with_returned r o)) ≡ drop 1 (channel_entries c (with_returned r o))
    told None = channel-told c o.lists
    told (Some l) =
        elim (eqb_tells (frame_channel l.frame) c) [
          | inl same ↦ rw same.0 refl
          | inr other ↦ rw other.0 (rw other.0 (channel-told c o.lists))
        ]
