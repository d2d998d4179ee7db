-- The returned messages of a channel fit, and there are no more than marks that count.
use Rattle.std.proofs.Common.{◌≡◌, ℕ, ◌+◌, ◌≤◌, ◌==◌, Bool, true, false, cond, List, [], ◌∷◌, ◌++◌, length, length-append, Option, Some, None, suc, refl, ap, subst, arith}
use Rattle.std.specs.List.{AllByRecursion as Each, filter}
use Rattle.lapin_types.specs.declared.message.BasicReturnMessage.{BasicReturnMessage}
use Rattle.lapin_rules.specs.ConfirmMarks.{ConfirmMark}
use Rattle.lapin_rules.specs.ConfirmMarks as mark
use Rattle.lapin_rules.specs.ConfirmReadings.{channel_of, is_selected}
use Rattle.lapin_rules.specs.ReturnLists.{ReturnLists, no_return_lists, arrived_in, given_first, attached_to, attached_to_all, message_at, without, return_of, taken_out, kept_of, set_by, opt_list, messages_of, without_all, drained_return_lists, renewed}
use Rattle.lapin_rules.specs.ReturnReadings.{covered, drained, is_done, message_of, return_lists_from, return_lists_of, return_lists_step}
use Rattle.lapin_rules.specs.Words.{many}
use Rattle.lapin_lines.specs.KeptLines.{MessageFits, MessagesFit, HeldFits}
use Rattle.lapin_told.proofs.Each.{Of, chosen, each_append}
use Rattle.lapin_told.proofs.Fitting.{ConfirmFits, counts}

abbrev Taken : ℕ × BasicReturnMessage → Type 0
Taken x = MessageFits x.1

-- all messages of the lists fit, and there are at most so many
record Hold (most : ℕ) (l : ReturnLists) : Type 0 where
  pub attached : Each Taken l.attached
  pub waiting : Each MessageFits l.waiting
  pub unconfirmed : Each MessageFits l.unconfirmed
  pub kept : Each MessageFits l.kept
  pub size : length l.attached + length l.waiting + length l.unconfirmed + length l.kept ≤ most

-- ---- what confirms took

found_fits : (n : ℕ) (xs : List (ℕ × BasicReturnMessage)) → Each Taken xs → Of MessageFits (message_at n xs)
found_fits n [] h = tt
found_fits n (x ∷ xs) h = chosen (Of MessageFits) (x.0 == n) (Some x.1) (message_at n xs) h.0 (found_fits n xs h.1)

without_fits : (n : ℕ) (xs : List (ℕ × BasicReturnMessage)) → Each Taken xs → Each Taken (without n xs)
without_fits n [] h = tt
without_fits n (x ∷ xs) h = chosen (Each Taken) (x.0 == n) xs (x ∷ without n xs) h.1 (h.0, without_fits n xs h.1)

all_without : (ns : List ℕ) (xs : List (ℕ × BasicReturnMessage)) → Each Taken xs → Each Taken (without_all ns xs)
all_without [] xs h = h
all_without (n ∷ ns) xs h = all_without ns (without n xs) (without_fits n xs h)

-- what is taken out, and what stays
apart : (n : ℕ) (xs : List (ℕ × BasicReturnMessage)) → length (opt_list (message_at n xs)) + length (without n xs) ≡ length xs
apart n [] = refl
apart n (x ∷ xs) = let h = apart n xs in elim (x.0 == n) as (λ t. length (opt_list (cond t (Some x.1) (message_at n xs))) + length (cond t xs (x ∷ without n xs)) ≡ suc (length xs)) [ true ↦ omega arith | false ↦ omega (arith, h) ]

fewer : (ns : List ℕ) (xs : List (ℕ × BasicReturnMessage)) → length (messages_of ns xs) + length (without_all ns xs) ≡ length xs
fewer [] xs = omega arith
fewer (n ∷ ns) xs =
    let a = apart n xs in
    let h = fewer ns (without n xs) in
    let l = length-append (opt_list (message_at n xs)) (messages_of ns (without n xs)) in
    omega (arith, a, h, l)

option_fits : (o : Option BasicReturnMessage) → Of MessageFits o → Each MessageFits (opt_list o)
option_fits None h = tt
option_fits (Some m) h = (h, tt)

drawn_fits : (ns : List ℕ) (xs : List (ℕ × BasicReturnMessage)) → Each Taken xs → Each MessageFits (messages_of ns xs)
drawn_fits [] xs h = tt
drawn_fits (n ∷ ns) xs h = each_append MessageFits (opt_list (message_at n xs)) (messages_of ns (without n xs)) (option_fits (message_at n xs) (found_fits n xs h)) (drawn_fits ns (without n xs) (without_fits n xs h))

-- ---- one mark

module _ (most : ℕ) where
  give_fits : (n : ℕ) (ms : List BasicReturnMessage) (l : ReturnLists) → l.waiting ≡ ms → Hold most l → Hold most (given_first n ms l)
  give_fits n [] l is h = h
  give_fits n (m ∷ ms) l is h =
      let w : Each MessageFits (m ∷ ms) = subst (Each MessageFits) is h.waiting in
      let long : length l.waiting ≡ suc (length ms) = ap (λ (xs : List BasicReturnMessage). length xs) is in
      let more = length-append l.attached ((n, m) ∷ []) in
      let s = h.size in
      record {
        attached = each_append Taken l.attached ((n, m) ∷ []) h.attached (w.0, tt);
        waiting = w.1;
        unconfirmed = h.unconfirmed;
        kept = h.kept;
        size = omega (arith, long, more, s);
      }

  attach_all : (ns : List ℕ) (l : ReturnLists) → Hold most l → Hold most (attached_to_all ns l)
  attach_all [] l h = h
  attach_all (n ∷ ns) l h = attach_all ns (attached_to n l) (give_fits n l.waiting l refl h)

  take_fits : (n : ℕ) (l : ReturnLists) → Hold most l → Hold most (taken_out n l)
  take_fits n l h = let a = apart n l.attached in let s = h.size in record { attached = without_fits n l.attached h.attached; waiting = h.waiting; unconfirmed = h.unconfirmed; kept = h.kept; size = omega (arith, a, s) }

  keep_fits : (n : ℕ) (o : Option BasicReturnMessage) (l : ReturnLists) → message_at n l.attached ≡ o → Hold most l → Hold most (kept_of o (taken_out n l))
  keep_fits n None l is h = take_fits n l h
  keep_fits n (Some m) l is h =
      let f : Of MessageFits (Some m) = subst (Of MessageFits) is (found_fits n l.attached h.attached) in
      let a : length (opt_list (Some m)) + length (without n l.attached) ≡ length l.attached = subst (λ o. length (opt_list o) + length (without n l.attached) ≡ length l.attached) is (apart n l.attached) in
      let more = length-append l.kept (m ∷ []) in
      let s = h.size in
      record {
        attached = without_fits n l.attached h.attached;
        waiting = h.waiting;
        unconfirmed = h.unconfirmed;
        kept = each_append MessageFits l.kept (m ∷ []) h.kept (f, tt);
        size = omega (arith, a, more, s);
      }

  set_fits : (n : ℕ) (done : Bool) (l : ReturnLists) → Hold most l → Hold most (set_by n done l)
  set_fits n true l h = keep_fits n (return_of n l) l refl h
  set_fits n false l h = record { attached = h.attached; waiting = h.waiting; unconfirmed = h.unconfirmed; kept = h.kept; size = h.size }

  drain_fits : (done : ℕ → Bool) (l : ReturnLists) → Hold most l → Hold most (drained_return_lists done l)
  drain_fits done l h =
      let a = fewer (filter done l.aside) l.attached in
      let s = h.size in
      record { attached = all_without (filter done l.aside) l.attached h.attached; waiting = h.waiting; unconfirmed = tt; kept = tt; size = omega (arith, a, s) }

  renew_fits : (l : ReturnLists) → Hold most l → Hold most (renewed l)
  renew_fits l h = let a = fewer l.aside l.attached in let s = h.size in record { attached = all_without l.aside l.attached h.attached; waiting = tt; unconfirmed = tt; kept = tt; size = omega (arith, a, s) }

  arrive_fits : (selected : Bool) (m : BasicReturnMessage) (l : ReturnLists) → MessageFits m → Hold most l → Hold (most + 1) (arrived_in selected m l)
  arrive_fits true m l f h = let more = length-append l.waiting (m ∷ []) in let s = h.size in record { attached = h.attached; waiting = each_append MessageFits l.waiting (m ∷ []) h.waiting (f, tt); unconfirmed = h.unconfirmed; kept = h.kept; size = omega (arith, more, s) }
  arrive_fits false m l f h = let more = length-append l.unconfirmed (m ∷ []) in let s = h.size in record { attached = h.attached; waiting = h.waiting; unconfirmed = each_append MessageFits l.unconfirmed (m ∷ []) h.unconfirmed (f, tt); kept = h.kept; size = omega (arith, more, s) }

  further : (l : ReturnLists) → Hold most l → Hold (most + 1) l
  further l h = let s = h.size in record { attached = h.attached; waiting = h.waiting; unconfirmed = h.unconfirmed; kept = h.kept; size = omega (arith, s) }

  step_fits : (c : ℕ) (before : List ConfirmMark) (m : ConfirmMark) (l : ReturnLists) → ConfirmFits m → Hold most l → Hold (cond (counts m) (most + 1) most) (return_lists_step c before m l)
  step_fits c before (mark.Begun d) l f h = chosen (Hold most) (d == c) (renewed l) l (renew_fits l h) h
  step_fits c before (mark.Settled d s) l f h = chosen (Hold most) (d == c) (attached_to_all (covered c s before) l) l (attach_all (covered c s before) l h) h
  step_fits c before (mark.Arrived d m) l f h = chosen (Hold (most + 1)) (d == c) (arrived_in (is_selected c before) m l) l (arrive_fits (is_selected c before) m l f h) (further l h)
  step_fits c before (mark.Taken n) l f h = chosen (Hold most) (channel_of n before == c) (taken_out n l) l (take_fits n l h) h
  step_fits c before (mark.SetAside n) l f h = chosen (Hold most) (channel_of n before == c) (set_by n (is_done before n) l) l (set_fits n (is_done before n) l h) h
  step_fits c before (mark.Drained d) l f h = chosen (Hold most) (d == c) (drained_return_lists (is_done before) l) l (drain_fits (is_done before) l h) h
  step_fits c before (mark.Added d) l f h = further l h
  step_fits c before (mark.Left d n) l f h = further l h
  step_fits c before _ l f h = h

-- ---- all marks

same_most : (a b : ℕ) (l : ReturnLists) → a ≡ b → Hold a l → Hold b l
same_most a b l e h = subst (λ n. Hold n l) e h

lists_from : (c most : ℕ) (before : List ConfirmMark) (l : ReturnLists) (ms : List ConfirmMark) → Each ConfirmFits ms → Hold most l → Hold (most + many counts ms) (return_lists_from c before l ms)
lists_from c most before l [] f h = same_most most (most + 0) l (omega arith) h
lists_from c most before l (m ∷ ms) f h =
    let rest = lists_from c (cond (counts m) (most + 1) most) (before ++ m ∷ []) (return_lists_step c before m l) ms f.1 (step_fits most c before m l f.0 h) in
    let same : cond (counts m) (most + 1) most + many counts ms ≡ most + cond (counts m) (many counts ms + 1) (many counts ms) = elim (counts m) as (λ t. cond t (most + 1) most + many counts ms ≡ most + cond t (many counts ms + 1) (many counts ms)) [ true ↦ omega arith | false ↦ refl ] in
    same_most _ _ _ same rest

held : (c : ℕ) (ms : List ConfirmMark) → Each ConfirmFits ms → Hold (many counts ms) (return_lists_of c ms)
held c ms f = same_most _ _ _ (omega arith) (lists_from c 0 [] no_return_lists ms f (record { attached = tt; waiting = tt; unconfirmed = tt; kept = tt; size = omega arith }))

option_held : (o : Option BasicReturnMessage) → Of MessageFits o → HeldFits o
option_held None h = tt
option_held (Some m) h = h

pub message_fits : (n : ℕ) (ms : List ConfirmMark) → Each ConfirmFits ms → HeldFits (message_of n ms)
message_fits n ms f = option_held (message_of n ms) (found_fits n (return_lists_of (channel_of n ms) ms).attached (held (channel_of n ms) ms f).attached)

messages_fit : (ms : List BasicReturnMessage) → Each MessageFits ms → MessagesFit ms
messages_fit [] h = tt
messages_fit (m ∷ ms) h = (h.0, messages_fit ms h.1)

-- what a drain gives
pub drained_fits : (c : ℕ) (ms : List ConfirmMark) → Each ConfirmFits ms → MessagesFit (drained c ms) × (length (drained c ms) ≤ many counts ms)
drained_fits c ms f =
    let l : ReturnLists = return_lists_of c ms in
    let h : Hold (many counts ms) l = held c ms f in
    let ns : List ℕ = filter (is_done ms) l.aside in
    let first = length-append l.unconfirmed (l.kept ++ messages_of ns l.attached) in
    let second = length-append l.kept (messages_of ns l.attached) in
    let a = fewer ns l.attached in
    let s = h.size in
    (messages_fit (drained c ms) (each_append MessageFits l.unconfirmed (l.kept ++ messages_of ns l.attached) h.unconfirmed (each_append MessageFits l.kept (messages_of ns l.attached) h.kept (drawn_fits ns l.attached h.attached))), omega (arith, first, second, a, s))
