-- What a history does to consumers and ackers, in the words of `lapin_consumer` and `lapin_acker`; and which calls use an acker.
use Rattle.std.specs.Prelude.{ℕ, ◌==◌, ◌&&◌, Bool, true, false, not, List, [], ◌∷◌, ◌++◌, filter_map, Option, Some, None}
use Rattle.lapin_types.specs.declared.event.Event.{Event}
use Rattle.lapin_types.specs.declared.event.Event.TheVariants as event
use Rattle.lapin_types.specs.declared.record.Record.{Record}
use Rattle.lapin_types.specs.declared.record.Record.TheVariants as record_
use Rattle.lapin_types.specs.declared.job.Job.{Job}
use Rattle.lapin_acker.specs.Marks.{AckerMark}
use Rattle.lapin_consumer.specs.Marks.{ConsumerMark}
use Rattle.lapin_delivery.specs.Deliveries.{empty_deliveries, all_consumer_marks, all_acker_marks}
use Rattle.lapin_delivery.specs.Marks.{DeliveryMark}
use Rattle.lapin_rules.specs.Events.{delivery_marks}
use Rattle.lapin_rules.specs.History.{History, Past, longer, past}

-- what happens to consumers and ackers, and to what was declared, in a history that goes on from this past
abbrev pub deliveries_on : Past → History → List DeliveryMark
deliveries_on p [] = []
deliveries_on p (x ∷ h) = delivery_marks p.wire x.0 x.1 ++ deliveries_on (longer p x.0 x.1) h

-- all that happened to consumers and ackers, and to what was declared
abbrev pub deliveries_history : ℕ → History → List DeliveryMark
deliveries_history frame_max h = deliveries_on (past frame_max []) h

-- all that happened to consumers
abbrev pub consumer_history : ℕ → History → List ConsumerMark
consumer_history frame_max h = all_consumer_marks (deliveries_history frame_max h)

-- all that happened to ackers
abbrev pub acker_history : ℕ → History → List AckerMark
acker_history frame_max h = all_acker_marks empty_deliveries (deliveries_history frame_max h)

-- ---- jobs that were given

-- the job that a record gives, if it gives one
abbrev pub job_in : Record → Option Job
job_in (record_.Job j) = Some j
job_in _ = None

-- the jobs among records, in order
abbrev pub jobs_in : List Record → List Job
jobs_in rs = filter_map job_in rs

-- ---- uses of an acker

-- the event is a call of the acker of number n
abbrev pub calls_acker : ℕ → Event → Bool
calls_acker n (event.Acker m k) = m == n
calls_acker n _ = false

-- the record is the answer `no` of an acker that isn't usable
abbrev pub is_no : Record → Bool
is_no record_.No = true
is_no _ = false

-- such a call that is answered otherwise than no, and so uses the acker up
abbrev pub uses_acker : ℕ → Event × Record → Bool
uses_acker n x = calls_acker n x.0 && not (is_no x.1)
