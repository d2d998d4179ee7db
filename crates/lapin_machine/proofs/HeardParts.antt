-- A part of a content that was received is one that is.
use Rattle.std.proofs.Common.{◌≡◌, ℕ, Bool, true, false, cond, refl, sym}
use Rattle.lapin_types.specs.declared.record.Record.{Record}
use Rattle.lapin_types.specs.declared.record.Record.TheVariants as record_
use Rattle.lapin_rules.specs.declared.broker_frames.ContentPart.{ContentPart}
use Rattle.lapin_rules.specs.declared.broker_frames.Incoming.{Incoming}
use Rattle.lapin_rules.specs.declared.broker_frames.Incoming.TheVariants as incoming
use Rattle.lapin_rules.specs.declared.phases.ConnectionPhase.{ConnectionPhase}
use Rattle.lapin_rules.specs.declared.phases.ConnectionPhase.TheVariants as link
use Rattle.lapin_rules.specs.Phases.{is_up}
use Rattle.lapin_rules.specs.Readings.{Readings}
use Rattle.lapin_rules.specs.Unexpected.{refused}
use Rattle.lapin_rules.specs.ConnectionClose.{receives_down}
use Rattle.lapin_rules.specs.Content.{receives_part}
use Rattle.lapin_rules.specs.Receiving.{when, incoming_record}
use Rattle.lapin_rules.specs.Wire.{Wire}

abbrev pub IsHeard : Incoming → Record → Wire → Type 0
IsHeard (incoming.Content c p) record_.Received b = receives_part c p b ≡ true
IsHeard _ r b = Unit {0}

heard_content : (l : ConnectionPhase) (x : Bool) (class number : ℕ) (c : ℕ) (p : ContentPart) → cond (is_up l) (when x (refused class number)) (cond (receives_down l (incoming.Content c p)) record_.Received record_.Passed) ≡ record_.Received → x ≡ true
heard_content link.Open true class number c p h = refl
heard_content link.Open false class number c p h = cc
heard_content (link.Closing _) x class number c p h = cc
heard_content link.Closed x class number c p h = cc
heard_content link.Lost x class number c p h = cc

pub is_heard : (i : Incoming) (r : Record) (b : Wire) (readings : Readings) (class number : ℕ) → r ≡ incoming_record b readings (refused class number) i → IsHeard i r b
is_heard (incoming.Content c p) record_.Received b readings class number is = heard_content b.link (receives_part c p b) class number c p (sym is)
is_heard i r b readings class number is = tt
