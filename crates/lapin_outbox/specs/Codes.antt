-- How the values that contracts see are stored as tuples of their fields, by which a proof tells two of them apart. No clause
-- cites this.
use Rattle.std.specs.Prelude.{ℕ, Bool, List, Option, refl}
use Rattle.std.specs.Coded.{Coded, code_by, coded×, coded_ℕ, coded_bool, coded_list, coded_option}
use Rattle.lapin_types.specs.Types.{Frame, Method}
use Rattle.lapin_types.specs.declared.leaving.Publish.{Publish}
use Rattle.lapin_methods.specs.contracts.frame.Frame as frame_row
use Rattle.lapin_methods.specs.contracts.method.Method as method_row
use Rattle.lapin_types.specs.contracts.leaving.Publish as publish_row
use Rattle.lapin_types.specs.Types.{Error}
use Rattle.lapin_types.specs.declared.leaving.Left.{Left}
use Rattle.lapin_types.specs.contracts.leaving.Left as left_row
use Rattle.lapin_methods.specs.contracts.error.Error as error_row
use Rattle.lapin_types.specs.declared.request.Request.{Request}
use Rattle.lapin_types.specs.contracts.request.Request as request_row
use Rattle.lapin_rules.specs.Frames.{MethodEntry, RestEntry}
use Rattle.lapin_rules.specs.Leaving.{Lists}
use Rattle.lapin_outbox.specs.Outgoing.{InQueues, OutboxState, Outgoing}
use Rattle.lapin_outbox.specs.Open.{OpenOnChannel, OpenRequests}

-- a frame of the begun publish
abbrev pub rest_entry_code : Coded RestEntry
rest_entry_code =
    code_by
    (Frame × (ℕ × (ℕ × Bool)))
    (coded× frame_row.the_row.coded (coded× coded_ℕ (coded× coded_ℕ coded_bool)))
    (λ e. (e.frame, (e.ticket, (e.publish, e.last))))
    (λ p. record { frame = p.0; ticket = p.1.0; publish = p.1.1.0; last = p.1.1.1 })
    (λ _. refl)

-- a method that waits
abbrev pub method_entry_code : Coded MethodEntry
method_entry_code =
    code_by
    (ℕ × (Method × Option ℕ))
    (coded× coded_ℕ (coded× method_row.the_row.coded (coded_option coded_ℕ)))
    (λ e. (e.channel, (e.method, e.ticket)))
    (λ p. record { channel = p.0; method = p.1.0; ticket = p.1.1 })
    (λ _. refl)

-- the three lists
abbrev pub lists_code : Coded Lists
lists_code =
    code_by
    (List RestEntry × (List MethodEntry × List Publish))
    (coded× (coded_list rest_entry_code) (coded× (coded_list method_entry_code) (coded_list publish_row.the_row.coded)))
    (λ l. (l.rest, (l.methods, l.publishes)))
    (λ p. record { rest = p.0; methods = p.1.0; publishes = p.1.1 })
    (λ _. refl)

-- the three lists with their room
abbrev pub queues_code : Coded InQueues
queues_code =
    code_by
    (Lists × ℕ)
    (coded× lists_code coded_ℕ)
    (λ q. (q.lists, q.spare))
    (λ p. record { lists = p.0; spare = p.1 })
    (λ _. refl)

-- what an outbox holds
abbrev pub state_code : Coded OutboxState
state_code =
    code_by
    (ℕ × (Lists × (Option Left × (Option Error × List (ℕ × Option Error)))))
    (coded× coded_ℕ (coded× lists_code (coded× (coded_option left_row.the_row.coded) (coded× (coded_option error_row.the_row.coded) (coded_list (coded× coded_ℕ (coded_option error_row.the_row.coded)))))))
    (λ o. (o.frame_max, (o.lists, (o.returned, (o.poison, o.errors)))))
    (λ p. record { frame_max = p.0; lists = p.1.0; returned = p.1.1.0; poison = p.1.1.1.0; errors = p.1.1.1.1 })
    (λ _. refl)

-- the outbox
abbrev pub outgoing_code : Coded Outgoing
outgoing_code =
    code_by
    (OutboxState × ℕ)
    (coded× state_code coded_ℕ)
    (λ o. (o.what, o.spare))
    (λ p. record { what = p.0; spare = p.1 })
    (λ _. refl)

-- the open requests of a channel
abbrev pub open_code : Coded OpenOnChannel
open_code =
    code_by
    (List Request × ℕ)
    (coded× (coded_list request_row.the_row.coded) coded_ℕ)
    (λ o. (o.open_requests, o.spare))
    (λ p. record { open_requests = p.0; spare = p.1 })
    (λ _. refl)

-- the open requests of all channels
abbrev pub requests_code : Coded OpenRequests
requests_code =
    code_by
    (List (ℕ × List Request) × List (ℕ × ℕ))
    (coded× (coded_list (coded× coded_ℕ (coded_list request_row.the_row.coded))) (coded_list (coded× coded_ℕ coded_ℕ)))
    (λ o. (o.what, o.spare))
    (λ p. record { what = p.0; spare = p.1 })
    (λ _. refl)
