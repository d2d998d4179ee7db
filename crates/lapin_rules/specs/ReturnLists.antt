-- The returned messages of a channel: four lists, and the messages that resolved confirms took.
use Rattle.std.specs.Prelude.{ℕ, ◌==◌, Bool, not, if◌then◌else◌, List, [], ◌∷◌, ◌++◌, Option, Some, None}
use Rattle.std.specs.List.{filter}
use Rattle.lapin_types.specs.declared.message.BasicReturnMessage.{BasicReturnMessage}

-- The messages that resolved confirms took, each with the confirm's number; those that wait for a settlement; those of an opening
-- that was not selected; those of confirms that were set aside as they were resolved; and the confirms that were set aside
-- unresolved. Oldest first.
pub record ReturnLists : Type 0 where
  pub attached : List (ℕ × BasicReturnMessage)
  pub waiting : List BasicReturnMessage
  pub unconfirmed : List BasicReturnMessage
  pub kept : List BasicReturnMessage
  pub aside : List ℕ

-- a channel that no message came back to, and of which no confirm stands aside
abbrev pub no_return_lists : ReturnLists
no_return_lists = record { attached = []; waiting = []; unconfirmed = []; kept = []; aside = [] }

-- one more message arrives: it waits where the opening is selected
abbrev pub arrived_in : Bool → BasicReturnMessage → ReturnLists → ReturnLists
arrived_in selected m l = if selected then record l { waiting = l.waiting ++ m ∷ [] } else record l { unconfirmed = l.unconfirmed ++ m ∷ [] }

-- a confirm that is resolved by a settlement takes the oldest waiting message, if there is one
abbrev pub given_first : ℕ → List BasicReturnMessage → ReturnLists → ReturnLists
given_first n [] l = l
given_first n (m ∷ ms) l = record l { attached = l.attached ++ (n, m) ∷ []; waiting = ms }

-- confirm n, which a settlement resolves, takes the oldest message that waits, if there is one
abbrev pub attached_to : ℕ → ReturnLists → ReturnLists
attached_to n l = given_first n l.waiting l

-- these confirms, which a settlement resolves, take the messages that wait: each in turn the oldest, while there is one
abbrev pub attached_to_all : List ℕ → ReturnLists → ReturnLists
attached_to_all [] l = l
attached_to_all (n ∷ ns) l = attached_to_all ns (attached_to n l)

-- the message that confirm n took
abbrev pub message_at : ℕ → List (ℕ × BasicReturnMessage) → Option BasicReturnMessage
message_at n [] = None
message_at n (x ∷ xs) = if x.0 == n then Some x.1 else message_at n xs

-- the messages that confirms took, without that of confirm n
abbrev pub without : ℕ → List (ℕ × BasicReturnMessage) → List (ℕ × BasicReturnMessage)
without n [] = []
without n (x ∷ xs) = if x.0 == n then xs else x ∷ without n xs

-- the message that confirm n took and still has, if there is one
abbrev pub return_of : ℕ → ReturnLists → Option BasicReturnMessage
return_of n l = message_at n l.attached

-- confirm n has its message no more, as where it was given
abbrev pub taken_out : ℕ → ReturnLists → ReturnLists
taken_out n l = record l { attached = without n l.attached }

-- a confirm is set aside: resolved, its message is kept; unresolved, its number stands aside
abbrev pub kept_of : Option BasicReturnMessage → ReturnLists → ReturnLists
kept_of None l = l
kept_of (Some m) l = record l { kept = l.kept ++ m ∷ [] }

-- confirm n is set aside, resolved or not by then
abbrev pub set_by : ℕ → Bool → ReturnLists → ReturnLists
set_by n resolved l = if resolved then kept_of (return_of n l) (taken_out n l) else record l { aside = l.aside ++ n ∷ [] }

-- ---- the confirms that were set aside and are resolved by now

-- the message alone, if there is one
abbrev pub opt_list : Option BasicReturnMessage → List BasicReturnMessage
opt_list None = []
opt_list (Some m) = m ∷ []

-- their messages, in the order of setting aside, and what they leave
abbrev pub messages_of : List ℕ → List (ℕ × BasicReturnMessage) → List BasicReturnMessage
messages_of [] a = []
messages_of (n ∷ ns) a = opt_list (message_at n a) ++ messages_of ns (without n a)

-- the messages that confirms took, without those of these confirms
abbrev pub without_all : List ℕ → List (ℕ × BasicReturnMessage) → List (ℕ × BasicReturnMessage)
without_all [] a = a
without_all (n ∷ ns) a = without_all ns (without n a)

-- what a drain gives: the unconfirmed messages, then the kept ones, then those of resolved confirms that were set aside
abbrev pub drained_messages : (ℕ → Bool) → ReturnLists → List BasicReturnMessage
drained_messages done l = l.unconfirmed ++ (l.kept ++ messages_of (filter done l.aside) l.attached)

-- what a drain leaves: the messages that wait, those of all other confirms, and the unresolved confirms that stand aside
abbrev pub drained_return_lists : (ℕ → Bool) → ReturnLists → ReturnLists
drained_return_lists done l = record {
  attached = without_all (filter done l.aside) l.attached;
  waiting = l.waiting;
  unconfirmed = [];
  kept = [];
  aside = filter (λ n. not (done n)) l.aside;
}

-- a new opening begins: nothing waits, is kept or stands aside
abbrev pub renewed : ReturnLists → ReturnLists
renewed l = record no_return_lists { attached = without_all l.aside l.attached }
