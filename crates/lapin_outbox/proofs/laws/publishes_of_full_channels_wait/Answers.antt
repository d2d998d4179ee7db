use Rattle.lapin_rules.specs.Drops.{publish_channel}
use Rattle.lapin_outbox.proofs.Beginning.{none-begins, may-begin, first-of-channel, front-of}
use Rattle.lapin_outbox.proofs.laws.publishes_of_full_channels_wait.Goals as goal

pub returns-clause-none : goal.returns-clause-none
returns-clause-none c = none-begins publish_channel

pub returns-clause-first : goal.returns-clause-first
returns-clause-first c = first-of-channel publish_channel

pub returns-clause-front : goal.returns-clause-front
returns-clause-front c t p ps h =
    let parts = front-of publish_channel t p ps h in
    record { front = parts.0; behind = parts.1; stands = parts.2; may = may-begin publish_channel t p ps h; none = parts.3; stays = parts.4 }
