-- Two records of one event that may be told and have one line: where both are kept, what is kept of them is the same, whatever the two
-- histories.
use Rattle.std.proofs.Common.{◌≡◌, Bool, true, false, cond, [], Some, None, sym, ◌∙◌}
use Rattle.lapin_types.specs.declared.event.Event.{Event}
use Rattle.lapin_types.specs.declared.event.Event.TheVariants as event
use Rattle.lapin_types.specs.declared.record.Record.{Record}
use Rattle.lapin_text.specs.Records.{record_line}
use Rattle.lapin_rules.specs.History.{History}
use Rattle.lapin_rules.specs.Machine.{given_by, is_known_in, kept}
use Rattle.lapin_lines.specs.KeptLines.{MayTell, OfKnownAside, OfTicket}
use Rattle.std.proofs.lemmas.Option.{same_Some}

-- after one history a line fixes what is kept
abbrev pub Fixes : Type 0
Fixes = (h : History) (e : Event) (r s : Record) → MayTell h e r → MayTell h e s → record_line r ≡ record_line s → kept h e r ≡ kept h e s

-- two records of a ticket, each kept where its history knows the ticket
both_known : (P : Bool → Record → Type 0) (t u : Bool) (r s a b : Record) → (P true r → P true s → Some r ≡ Some s) → P t r → P u s → cond t (Some r) None ≡ Some a → cond u (Some s) None ≡ Some b → a ≡ b
both_known P true true r s a b fix p q x y = same_Some a b (sym x ∙ (fix p q ∙ y))
both_known P true false r s a b fix p q x y = absurd cc
both_known P false u r s a b fix p q x y = absurd cc

pub kept_alike : Fixes → (h g : History) (e : Event) (r s a b : Record) → MayTell h e r → MayTell g e s → record_line r ≡ record_line s → kept h e r ≡ Some a → kept g e s ≡ Some b → a ≡ b
kept_alike fix h g (event.Call c k) r s a b p q line x y = same_Some a b (sym x ∙ (fix h (event.Call c k) r s p q line ∙ y))
kept_alike fix h g (event.Next flow) r s a b p q line x y = same_Some a b (sym x ∙ (fix h (event.Next flow) r s p q line ∙ y))
kept_alike fix h g (event.Receive f) r s a b p q line x y = same_Some a b (sym x ∙ (fix h (event.Receive f) r s p q line ∙ y))
kept_alike fix h g (event.PollTicket n) r s a b p q line x y = both_known OfTicket (is_known_in (given_by n h)) (is_known_in (given_by n g)) r s a b (λ v w. fix [] (event.PollTicket 0) r s v w line) p q x y
kept_alike fix h g (event.PollConfirm n) r s a b p q line x y = same_Some a b (sym x ∙ (fix h (event.PollConfirm n) r s p q line ∙ y))
kept_alike fix h g (event.PollWait c) r s a b p q line x y = same_Some a b (sym x ∙ (fix h (event.PollWait c) r s p q line ∙ y))
kept_alike fix h g (event.AsideTicket n) r s a b p q line x y = both_known OfKnownAside (is_known_in (given_by n h)) (is_known_in (given_by n g)) r s a b (λ v w. fix [] (event.AsideTicket 0) r s v w line) p q x y
kept_alike fix h g (event.AsideConfirm n) r s a b p q line x y = same_Some a b (sym x ∙ (fix h (event.AsideConfirm n) r s p q line ∙ y))
kept_alike fix h g (event.State c) r s a b p q line x y = same_Some a b (sym x ∙ (fix h (event.State c) r s p q line ∙ y))
kept_alike fix h g event.Lost r s a b p q line x y = same_Some a b (sym x ∙ (fix h event.Lost r s p q line ∙ y))
kept_alike fix h g _ r s a b p q line x y = absurd cc
