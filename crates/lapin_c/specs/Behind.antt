-- What a call leaves behind a handle.
use Rattle.std.specs.Prelude.{◌≡◌, ◌<◌, ◌≤◌, ◌⊎◌, ℕ, Bool, false, List, [], Option, Some, None, Result, Ok, Err}
use Rattle.lapin_client.specs.declared.client.Client.{Client}
use Rattle.lapin_client.specs.declared.status.Status.{Status}
use Rattle.lapin_client.specs.declared.status.Status.TheVariants as status
use Rattle.lapin_client.specs.Clients.{IsNew, IsSent}
use Rattle.lapin_client.specs.Ready.{IsFirstReady}
use Rattle.lapin_client.specs.Refusals.{refusal_of}
use Rattle.lapin_client.specs.States.{states_of}
use Rattle.lapin_client.specs.declared.refusals.Refusal.{Refusal}
use Rattle.lapin_client.specs.declared.states.States.{States}
use Rattle.std.specs.Option.{option_map}
use Rattle.lapin_client.specs.Statuses.{code_of}
use Rattle.lapin_types.specs.declared.event.Event.{Event}

-- where there is a client behind the handle, what the call of the client says; and where there is none, there is none, and p
abbrev pub Behind : (Client → Client → Type 0) → Type 0 → Option Client → Option Client → Type 0
Behind says p None after = p × (after ≡ None)
Behind says p (Some c) after = (d : Client) × (after ≡ Some d) × says c d

-- the number is that of a status of which p holds
abbrev pub Coded : ℕ → (Status → Type 0) → Type 0
Coded n p = (s : Status) × (n ≡ code_of s) × p s

-- the same of a call that gives something where it is done: it is written then, and else the place is as it was
abbrev pub Gave : {A : Type 0} → ℕ → A → A → (Result A Status → Type 0) → Type 0
Gave n old new p = ((n ≡ 0) × p (Ok new)) ⊎ ((s : Status) × (n ≡ code_of s) × (new ≡ old) × p (Err s))

-- the number of what was done is written, and else the place is as it was; and the number of the status
abbrev pub IsNumbered : Result ℕ Status → ℕ → ℕ → ℕ → Type 0
IsNumbered (Ok number) n old new = (n ≡ code_of status.Done) × (new ≡ number)
IsNumbered (Err s) n old new = (n ≡ code_of s) × (new ≡ old)

-- the last error that the client told, if it told one
abbrev pub Errs : ℕ → Refusal → Refusal → Option Refusal → Type 0
Errs n old new None = (n ≡ code_of status.Pending) × (new ≡ old)
Errs n old new (Some r) = (n ≡ code_of status.Done) × (new ≡ r)

-- the same where there is a client behind the handle
abbrev pub Why : ℕ → Refusal → Refusal → Option Client → Type 0
Why n old new None = (n ≡ code_of status.Closed) × (new ≡ old)
Why n old new (Some c) = Errs n old new (option_map (λ e. refusal_of e) c.refused)

-- the states of the connection and of a channel, where there is a client behind the handle
abbrev pub Stands : ℕ → ℕ → States → States → Option Client → Type 0
Stands n channel old new None = (n ≡ code_of status.Closed) × (new ≡ old)
Stands n channel old new (Some c) = (n ≡ code_of status.Done) × (new ≡ states_of channel c.session.wire)

-- the place that was found is written, and else it is as it was
abbrev pub Placed : ℕ → Option ℕ → ℕ → ℕ → Type 0
Placed n None old new = (n ≡ code_of status.Pending) × (new ≡ old)
Placed n (Some place) old new = (n ≡ code_of status.Done) × (new ≡ place)

-- the first place at which one has something, where there is a client behind the handle: it is written, or there is none and it is as it was
abbrev pub Ready : ℕ → (ℕ → Event) → ℕ → List ℕ → ℕ → ℕ → Option Client → Type 0
Ready n poll from numbers old new None = (n ≡ code_of status.Closed) × (new ≡ old)
Ready n poll from numbers old new (Some c) = (found : Option ℕ) × Placed n found old new × IsFirstReady found poll from numbers c.session

-- a client of a new session is behind the handle; or nothing is, since frames are too small, or since there was no memory
abbrev pub Opened : ℕ → ℕ → Option Client → Type 0
Opened code frame_max None = ((code ≡ code_of status.NotInGrammar) × (frame_max < 4096)) ⊎ ((code ≡ code_of status.NoMemory) × (4096 ≤ frame_max))
Opened code frame_max (Some c) = (code ≡ code_of status.Done) × IsNew frame_max c

-- something of the client; nothing where there is none
abbrev pub octets_of : (Client → List ℕ) → Option Client → List ℕ
octets_of part None = []
octets_of part (Some c) = part c

-- whether the broker said last that it takes no messages; not so where there is no client
abbrev pub blocked_of : Option Client → Bool
blocked_of None = false
blocked_of (Some c) = c.blocked

-- the octets that were to be sent are the caller's where any were written, and else the client is the same
abbrev pub Taken : ℕ → Client → Client → Type 0
Taken written c d = (IsSent c d × (0 < written)) ⊎ ((d ≡ c) × (written ≡ 0))
