-- Any calls of a publisher are steps of its account.
use Rattle.std.proofs.Common.{◌≡◌, ◌∙◌, ◌⊎◌, inl, inr, ℕ, zero, suc, Bool, false, List, [], ◌∷◌, ◌++◌, map, refl, sym, ap, subst, append_assoc, add-one}
use Rattle.std.specs.List.Sorted.{IsPermutation}
use Rattle.lapin_machine.specs.World.{World}
use Rattle.lapin_keeping.specs.declared.fate.Fate.{Fate}
use Rattle.lapin_keeping.specs.declared.kept.Kept.{Kept}
use Rattle.lapin_keeping.specs.declared.keeping.Keeping.{Keeping}
use Rattle.lapin_keeping.specs.declared.run.Run.{Run}
use Rattle.lapin_keeping.specs.Accounts.{Account, new_account, number_of, number_told, IsStep, Reaches, from_one, RiseWithin}
use Rattle.lapin_keeping.specs.Keepings.{new_kept, fates}
use Rattle.lapin_keeping.specs.Runs.{told, of_run}
use Rattle.lapin_keeping.proofs.AccountLaws.{each_once, in_order}
use Rattle.lapin_keeping.proofs.NumberLaws.{same_anew, same_by_returns}
use Rattle.lapin_publisher.specs.Courses.{Course, IsNew, IsHandedOver, IsTaken, IsCall, IsAnyTurn, Follows, all_told}
use Rattle.lapin_publisher.specs.declared.turn.Turn.{Turn}
use Rattle.lapin_publisher.specs.Polls.{IsPolled, IsPolledInPart, PollsEnded, all_polled, poll_one}
use Rattle.lapin_publisher.specs.Publishes.{placed}
use Rattle.lapin_publisher.specs.Turns.{IsTurn, IsTurnInPart, IsLeft, IsAsked, EndedAt, EndedBehind, opening_of}
use Rattle.lapin_publisher.proofs.SameNumbers.{each_numbers, until_numbers, poll_number, placed_number, published_numbers}

abbrev Leads : Account → Account → Type 0
Leads a b = (n : ℕ) × Reaches n a b

one_step : (a b : Account) → IsStep a b → Leads a b
one_step a b s = (suc zero, (b, (s, refl)))

joined : (n : ℕ) (a b c : Account) → Reaches n a b → Leads b c → Leads a c
joined zero a b c e rest = subst (λ (x : Account). Leads x c) e rest
joined (suc n) a b c steps rest = let r : Leads steps.0 c = joined n steps.0 b c steps.1.1 rest in (suc r.0, (steps.0, (steps.1.0, r.1)))

behind : (a b c : Account) → Leads a b → Leads b c → Leads a c
behind a b c x y = joined x.0 a b c x.1 y

account_is : (a b : Account) → a.kept ≡ b.kept → a.told ≡ b.told → a.handed ≡ b.handed → a ≡ b
account_is a b kept told handed =
    let one : a ≡ record { kept = b.kept; told = a.told; handed = a.handed } = ap (λ (ks : List Kept). record { kept = ks; told = a.told; handed = a.handed }) kept in
    let two : record { kept = b.kept; told = a.told; handed = a.handed } ≡ record { kept = b.kept; told = b.told; handed = a.handed } = ap (λ (ts : List (ℕ × Fate)). record { kept = b.kept; told = ts; handed = a.handed }) told in
    let three : record { kept = b.kept; told = b.told; handed = a.handed } ≡ b = ap (λ (n : ℕ). record { kept = b.kept; told = b.told; handed = n }) handed in
    one ∙ two ∙ three

-- ---- the account of what is kept, where so much was taken

abbrev account : List (ℕ × Fate) → Keeping → Account
account taken k = record { kept = k.kept.items; told = taken ++ told k.settled.items; handed = k.handed }

changed : (taken : List (ℕ × Fate)) (a b : Keeping) → map number_of b.kept.items ≡ map number_of a.kept.items → b.settled.items ≡ a.settled.items → b.handed ≡ a.handed → Leads (account taken a) (account taken b)
changed taken a b numbers settled handed =
    one_step (account taken a) (account taken b) (inr (inr (numbers, (ap (λ (rs : List Run). taken ++ told rs) settled, handed))))

polled_leads : (taken : List (ℕ × Fate)) (w v : World) (old new : Keeping) → IsPolled w v old new → Leads (account taken old) (account taken new)
polled_leads taken w v old new i =
    let between : Account = record { kept = i.noted; told = taken ++ told old.settled.items; handed = old.handed } in
    let numbers : map number_of i.noted ≡ map number_of old.kept.items =
    same_by_returns (all_polled w old).1.1 (all_polled w old).0 i.noted i.is_noted ∙ each_numbers poll_one poll_number (w, old.back.items) old.kept.items in
    let all : taken ++ told new.settled.items ≡ (taken ++ told old.settled.items) ++ fates i.noted =
    ap (λ (ts : List (ℕ × Fate)). taken ++ ts) i.told_now ∙ sym (append_assoc taken (told old.settled.items) (fates i.noted)) in
    behind (account taken old) between (account taken new) (one_step (account taken old) between (inr (inr (numbers, (refl, refl)))))
    (one_step between (account taken new) (inr (inl (account_is (account taken new) _ i.kept all i.handed))))

part_leads : (taken : List (ℕ × Fate)) (w v : World) (old new : Keeping) → IsPolledInPart w v old new → Leads (account taken old) (account taken new)
part_leads taken w v old new i = changed taken old new (at i.polls) i.settled i.handed
  where
    at : PollsEnded w v old new → map number_of new.kept.items ≡ map number_of old.kept.items
    at (inl until) = until_numbers poll_one poll_number (w, old.back.items) (v, new.back.items) old.kept.items new.kept.items until
    at (inr all) = same_by_returns (all_polled w old).1.1 (all_polled w old).0 new.kept.items all.1.1 ∙ each_numbers poll_one poll_number (w, old.back.items) old.kept.items

turn_leads : (taken : List (ℕ × Fate)) (t : Turn) (w v : World) (old new : Keeping) (s u : Bool) → IsTurn t w v old new s u → Leads (account taken old) (account taken new)
turn_leads taken t w v old new s u i =
    let numbers : map number_of new.kept.items ≡ map number_of i.polled.kept.items =
    ap (λ (p : List Kept × World). map number_of p.0) i.kept ∙ published_numbers t (opening_of t s i.session) i.polled.kept.items in
    behind (account taken old) (account taken i.polled) (account taken new) (polled_leads taken w i.session old i.polled i.is_polled) (changed taken i.polled new numbers i.others.settled i.others.handed)

stopped_leads : (taken : List (ℕ × Fate)) (t : Turn) (w v : World) (old new : Keeping) (s u : Bool) → IsTurnInPart t w v old new s u → Leads (account taken old) (account taken new)
stopped_leads taken t w v old new s u i = at i.ended
  where
    ends : (x : World) (polled : Keeping) → EndedAt t x v s u polled.kept.items new.kept.items → map number_of new.kept.items ≡ map number_of polled.kept.items
    ends x polled (inl same) = ap (map number_of) same.0
    ends x polled (inr stop) =
        until_numbers (placed t) (placed_number t) ((opening_of t s x).1, record { left = t.window; taken = false }) (v, stop.1.0) polled.kept.items new.kept.items stop.1.1

    at : (IsPolledInPart w v old new × (u ≡ s)) ⊎ EndedBehind t w v old new s u → Leads (account taken old) (account taken new)
    at (inl polls) = part_leads taken w v old new polls.0
    at (inr more) =
        behind (account taken old) (account taken more.polled) (account taken new) (polled_leads taken w more.session old more.polled more.is_polled)
        (changed taken more.polled new (ends more.session more.polled more.ended) more.others.settled more.others.handed)

left_leads : (taken : List (ℕ × Fate)) (w v : World) (old new : Keeping) → IsLeft w v old new → Leads (account taken old) (account taken new)
left_leads taken w v old new i =
    behind (account taken old) (account taken i.asked) (account taken new) (at i.is_asked)
    (changed taken i.asked new (ap (map number_of) i.kept ∙ same_anew i.asked.kept.items) i.others.settled i.others.handed)
  where
    at : IsAsked w v old i.asked → Leads (account taken old) (account taken i.asked)
    at (inl whole) = polled_leads taken w v old i.asked whole
    at (inr part) = part_leads taken w v old i.asked part

-- ---- one call, and any number

abbrev account_of : Course → Account
account_of p = record { kept = p.keeping.kept.items; told = all_told p; handed = p.keeping.handed }

moved : (p q : Course) → q.taken ≡ p.taken → Leads (account p.taken p.keeping) (account p.taken q.keeping) → Leads (account_of p) (account_of q)
moved p q same leads = subst (λ (ts : List (ℕ × Fate)). Leads (account_of p) (account ts q.keeping)) (sym same) leads

handed_leads : (p q : Course) → IsHandedOver p q → Leads (account_of p) (account_of q)
handed_leads p q h =
    let kept : q.keeping.kept.items ≡ p.keeping.kept.items ++ new_kept (suc p.keeping.handed) h.message h.most ∷ [] =
    h.kept ∙ ap (λ (n : ℕ). p.keeping.kept.items ++ new_kept n h.message h.most ∷ []) (add-one p.keeping.handed) in
    let all : all_told q ≡ all_told p =
    ap (λ (ts : List (ℕ × Fate)). ts ++ told q.keeping.settled.items) h.taken ∙ ap (λ (rs : List Run). p.taken ++ told rs) h.settled in
    one_step (account_of p) (account_of q) (inl (h.message, (h.most, account_is (account_of q) _ kept all (h.handed ∙ add-one p.keeping.handed))))

taken_leads : (p q : Course) → IsTaken p q → Leads (account_of p) (account_of q)
taken_leads p q h =
    let all : all_told q ≡ all_told p =
    ap (λ (ts : List (ℕ × Fate)). ts ++ told q.keeping.settled.items) h.taken
    ∙ append_assoc p.taken (of_run h.run) (told q.keeping.settled.items)
    ∙ ap (λ (rs : List Run). p.taken ++ told rs) (sym h.settled) in
    one_step (account_of p) (account_of q) (inr (inr (ap (map number_of) h.kept, (all, h.handed))))

call_leads : (p q : Course) → IsCall p q → Leads (account_of p) (account_of q)
call_leads p q (inl handed) = handed_leads p q handed
call_leads p q (inr (inl taken)) = taken_leads p q taken
call_leads p q (inr (inr (inl tended))) = moved p q tended.taken (at tended.tended)
  where
    at : IsAnyTurn tended.turn p.session q.session p.keeping q.keeping p.selects q.selects → Leads (account p.taken p.keeping) (account p.taken q.keeping)
    at (inl whole) = turn_leads p.taken tended.turn p.session q.session p.keeping q.keeping p.selects q.selects whole
    at (inr part) = stopped_leads p.taken tended.turn p.session q.session p.keeping q.keeping p.selects q.selects part
call_leads p q (inr (inr (inr (inl on)))) =
    moved p q on.messages.taken (changed p.taken p.keeping q.keeping (ap (map number_of) on.messages.kept) on.messages.settled on.messages.handed)
call_leads p q (inr (inr (inr (inr away)))) = moved p q away.taken (left_leads p.taken p.session away.last p.keeping q.keeping away.left)

follows_leads : (n : ℕ) (p q : Course) → Follows n p q → Leads (account_of p) (account_of q)
follows_leads zero p q e = (zero, ap account_of e)
follows_leads (suc n) p q calls = behind (account_of p) (account_of calls.0) (account_of q) (call_leads p calls.0 calls.1.0) (follows_leads n calls.0 q calls.1.1)

from_new : (n : ℕ) (p q : Course) → IsNew p → Follows n p q → Leads new_account (account_of q)
from_new n p q new calls =
    let all : all_told p ≡ [] = ap (λ (ts : List (ℕ × Fate)). ts ++ told p.keeping.settled.items) new.taken ∙ ap told new.settled in
    let begins : account_of p ≡ new_account = account_is (account_of p) new_account new.kept all new.handed in
    subst (λ (a : Account). Leads a (account_of q)) begins (follows_leads n p q calls)

pub kept_or_told : (n : ℕ) (p q : Course) → IsNew p → Follows n p q → IsPermutation (from_one q.keeping.handed) (map number_of q.keeping.kept.items ++ map number_told (all_told q))
kept_or_told n p q new calls = let l : Leads new_account (account_of q) = from_new n p q new calls in each_once l.0 (account_of q) l.1

pub kept_in_order : (n : ℕ) (p q : Course) → IsNew p → Follows n p q → RiseWithin 0 q.keeping.handed (map number_of q.keeping.kept.items)
kept_in_order n p q new calls = let l : Leads new_account (account_of q) = from_new n p q new calls in in_order l.0 (account_of q) l.1
