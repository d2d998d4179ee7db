-- The steps of a generated run: publishes on channel 1, each to its ack.
use Rattle.std.specs.Prelude.{ℕ, zero, suc, ◌+◌, ◌-◌, ◌*◌, ◌/◌, ◌%◌, true, false, codes, List, [], ◌∷◌, ◌++◌, replicate}
use Rattle.lapin_types.specs.declared.call.Call.{Call}
use Rattle.lapin_types.specs.declared.call.Call.TheVariants as call
use Rattle.lapin_types.specs.declared.event.Event.TheVariants as event
use Rattle.lapin_types.specs.Types.{Method}
use Rattle.lapin_types.specs.Types.frame
use Rattle.lapin_types.specs.Types.method
use Rattle.lapin_types.specs.Types.channel
use Rattle.lapin_types.specs.Types.basic
use Rattle.lapin_types.specs.Types.confirm
use Rattle.lapin_values.specs.Properties.{no_properties}
use Rattle.lapin_joint.specs.declared.step.Step.{Step}
use Rattle.lapin_joint.specs.declared.step.Step.TheVariants as step

-- the most publishes that a generated run is asked to make
abbrev pub most_publishes : ℕ
most_publishes = 10000

-- the longest body of a frame of 4096 bytes, 8 of which are not the payload's (AMQP 0-9-1, section 4.2.3)
abbrev pub longest_body : ℕ
longest_body = 4088

-- publish i has (37 i) mod 9000 bytes, each of them i mod 256
abbrev pub payload_of : ℕ → List ℕ
payload_of i = replicate (i * 37 % 9000) (i % 256)

-- its method, its header, and as many bodies as its bytes take, rounded up
abbrev pub frames_of : ℕ → ℕ
frames_of i = 2 + (i * 37 % 9000 + longest_body - 1) / longest_body

-- a method leaves and is read; the broker's answer to it is sent and delivered
abbrev pub answered : Method → List Step
answered m = step.Client (event.Next true) ∷ step.Read ∷ step.Send (frame.Method 1 m) ∷ step.Deliver ∷ []

-- channel 1 is opened: `channel.open` is called, leaves and is read; open-ok is sent and delivered
abbrev pub opening : List Step
opening = step.Client (event.Call 1 call.OpenChannel) ∷ answered (method.Channel channel.OpenOk)

-- `confirm.select` is called on channel 1 with wait, leaves and is read; select-ok is sent and delivered
abbrev pub selecting : List Step
selecting = step.Client (event.Call 1 (call.ConfirmSelect (record { nowait = false }))) ∷ answered (method.Confirm confirm.SelectOk)

-- to the default exchange under the key `hello`, with default options and no properties
abbrev pub publish_call : ℕ → Call
publish_call i = call.BasicPublish (codes "") (codes "hello") (record { mandatory = false; immediate = false }) (payload_of i) no_properties

-- the broker sends a single `basic.ack` of i, which is delivered, and the confirm i is polled
abbrev pub acked : ℕ → List Step
acked i = step.Send (frame.Method 1 (method.Basic (basic.Ack i false))) ∷ step.Deliver ∷ step.Client (event.PollConfirm i) ∷ []

-- publish i is called; its frames leave, and are read; it is acked, and its confirm polled
abbrev pub publish_steps : ℕ → List Step
publish_steps i = step.Client (event.Call 1 (publish_call i)) ∷ replicate (frames_of i) (step.Client (event.Next true)) ++ replicate (frames_of i) step.Read ++ acked i

-- the publishes from 1 to n
abbrev pub published : ℕ → List Step
published zero = []
published (suc n) = published n ++ publish_steps (suc n)

-- the steps of a generated run: channel 1 is opened, confirms are asked for, and the publishes from 1 to n are made
abbrev pub generated : ℕ → List Step
generated n = opening ++ selecting ++ published n
