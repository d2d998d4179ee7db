-- The broker's last close of each channel.
use Rattle.std.proofs.Common.{◌≡◌, ℕ, ◌==◌, Bool, true, false, cond, if◌then◌else◌, List, [], ◌∷◌, ◌++◌, Option, Some, None, inl, inr, refl, sym, ap, ◌∙◌, eq-eqb}
use Rattle.std.proofs.lemmas.Bool.Decides.{eqb_tells}
use Rattle.std.specs.Option.{option_map}
use Rattle.lapin_client.specs.declared.client.Client.{Client}
use Rattle.lapin_client.specs.declared.closes.Close.{Close}
use Rattle.lapin_client.specs.declared.status.Status.{Status}
use Rattle.lapin_client.specs.declared.status.Status.TheVariants as status
use Rattle.lapin_client.specs.Closes.{Notes, channel_close, close_on, close_said, connection_close, or_before}
use Rattle.lapin_client.specs.Receiving.{Hears, NotesHeard, is_stray}
use Rattle.lapin_machine.specs.World.{World}
use Rattle.lapin_methods.specs.declared.method.Method.TheVariants as method
use Rattle.lapin_rules.specs.Words.{is_some, with_channel}
use Rattle.lapin_tables.specs.ByChannel.{Table, at_channel, on_channel}
use Rattle.lapin_tables.proofs.Channels.{at-push, at-on_same, at-on_other, or-none}
use Rattle.lapin_types.specs.Types.{Frame}
use Rattle.lapin_types.specs.Types.frame

-- what stands at each channel once one is set anew
set_same : (c : ℕ) (x : Close) (es : List (ℕ × Close)) (o : Option Close) → at_channel c es ≡ o → at_channel c (cond (is_some o) (on_channel c (λ _. x) es) (es ++ (c, x) ∷ [])) ≡ Some x
set_same c x es None h =
    let here : (c == c) ≡ true = eq-eqb c c refl in
    at-push c c x es ∙ rw (h, here) refl
set_same c x es (Some z) h = at-on_same c (λ _. x) es ∙ ap (λ o. option_map (λ _. x) o) h

set_apart : (c d : ℕ) (x : Close) (es : List (ℕ × Close)) (b : Bool) → (c == d) ≡ false → at_channel d (cond b (on_channel c (λ _. x) es) (es ++ (c, x) ∷ [])) ≡ at_channel d es
set_apart c d x es true h = at-on_other c d (λ _. x) es (λ e. let z : (c == d) ≡ true = eq-eqb c d e in let w : true ≡ false = sym z ∙ h in cc)
set_apart c d x es false h = at-push c d x es ∙ rw h (or-none (at_channel d es))

close_set : (c d : ℕ) (x : Close) (es : List (ℕ × Close)) → at_channel d (with_channel c x es) ≡ (if c == d then Some x else at_channel d es)
close_set c d x es = elim (eqb_tells c d) [
  | inl y ↦ ap (λ (k : ℕ). at_channel k (with_channel c x es)) (sym y.1) ∙ set_same c x es (at_channel c es) refl ∙ rw y.0 refl
  | inr n ↦ set_apart c d x es (is_some (at_channel c es)) n.0 ∙ rw n.0 refl
]

-- a content says no close
pub stray_says_none : (f : Frame) (w : World) → is_stray f w ≡ true → close_said f ≡ None
stray_says_none (frame.Method c (method.Basic m)) w is =
    elim (c == 0) as (λ b. (if b then connection_close (method.Basic m) else channel_close c (method.Basic m)) ≡ None) [ true ↦ refl | false ↦ refl ]
stray_says_none (frame.Method c (method.Connection m)) w is = absurd cc
stray_says_none (frame.Method c (method.Channel m)) w is = absurd cc
stray_says_none (frame.Method c (method.Access m)) w is = absurd cc
stray_says_none (frame.Method c (method.Exchange m)) w is = absurd cc
stray_says_none (frame.Method c (method.Queue m)) w is = absurd cc
stray_says_none (frame.Method c (method.Confirm m)) w is = absurd cc
stray_says_none (frame.Method c (method.Tx m)) w is = absurd cc
stray_says_none (frame.Header c h) w is = refl
stray_says_none (frame.Body c p) w is = refl

-- a frame that says none
notes_none : (f : Frame) (b d : Client) → close_said f ≡ None → d.closes.entries ≡ b.closes.entries → Notes (Some f) b d
notes_none f b d said same = λ c. ap (λ (es : List (ℕ × Close)). at_channel c es) same ∙ ap (λ (s : Option (ℕ × Close)). or_before c s (close_on c b)) (sym said)

pub notes_stray : (f : Frame) (b : Client) → is_stray f b.session ≡ true → Notes (Some f) b b
notes_stray f b is = notes_none f b b (stray_says_none f b.session is) refl

pub noted_none : (r : Status) (f : Frame) (b d : Client) → close_said f ≡ None → Hears r f b d → NotesHeard r f b d
noted_none status.Done f b d said h = (h.0, h.1, h.2, notes_none f b d said (ap (λ (t : Table Close). t.entries) h.3))
noted_none status.Refused f b d said h = (h.0, h.1, h.2, notes_none f b d said (ap (λ (t : Table Close). t.entries) h.3))
noted_none status.NotInGrammar f b d said h = h
noted_none status.NoMemory f b d said h = h
noted_none status.Ended f b d said h = h
noted_none status.Malformed f b d said h = h
noted_none status.TooLong f b d said h = h
noted_none status.Closed f b d said h = h
noted_none status.Pending f b d said h = h
noted_none status.Gone f b d said h = h
noted_none status.Kept f b d said h = h

-- and one that says one
notes_some : (f : Frame) (ch : ℕ) (k : Close) (b : Client) (es fs : List (ℕ × Close)) → close_said f ≡ Some (ch, k) → es ≡ b.closes.entries → fs ≡ with_channel ch k es → (c : ℕ) → at_channel c fs ≡ or_before c (close_said f) (close_on c b)
notes_some f ch k b es fs said same put c =
    ap (λ (l : List (ℕ × Close)). at_channel c l) put ∙ close_set ch c k es ∙ ap (λ (l : List (ℕ × Close)). if ch == c then Some k else at_channel c l) same ∙ ap (λ (s : Option (ℕ × Close)). or_before c s (close_on c b)) (sym said)

pub noted_some : (r : Status) (f : Frame) (ch : ℕ) (k : Close) (b q : Client) (x : Table Close) → (r ≡ status.Kept → ⊥) → (r ≡ status.Ended → ⊥) → close_said f ≡ Some (ch, k) → Hears r f b q →
    x.entries ≡ with_channel ch k q.closes.entries → NotesHeard r f b (record q { closes = x })
noted_some status.Done f ch k b q x not end said h put = (h.0, h.1, h.2, notes_some f ch k b q.closes.entries x.entries said (ap (λ (t : Table Close). t.entries) h.3) put)
noted_some status.Refused f ch k b q x not end said h put = (h.0, h.1, h.2, notes_some f ch k b q.closes.entries x.entries said (ap (λ (t : Table Close). t.entries) h.3) put)
noted_some status.Kept f ch k b q x not end said h put = absurd (not refl)
noted_some status.Ended f ch k b q x not end said h put = absurd (end refl)
noted_some status.NotInGrammar f ch k b q x not end said h put = absurd h
noted_some status.NoMemory f ch k b q x not end said h put = absurd h
noted_some status.Malformed f ch k b q x not end said h put = absurd h
noted_some status.TooLong f ch k b q x not end said h put = absurd h
noted_some status.Closed f ch k b q x not end said h put = absurd h
noted_some status.Pending f ch k b q x not end said h put = absurd h
noted_some status.Gone f ch k b q x not end said h put = absurd h

-- the table stays that a frame was heard beside
pub same_table : (r : Status) (f : Frame) (b q : Client) → (r ≡ status.Kept → ⊥) → (r ≡ status.Ended → ⊥) → Hears r f b q → q.closes ≡ b.closes
same_table status.Done f b q not end h = h.3
same_table status.Refused f b q not end h = h.3
same_table status.Kept f b q not end h = absurd (not refl)
same_table status.Ended f b q not end h = absurd (end refl)
same_table status.NotInGrammar f b q not end h = absurd h
same_table status.NoMemory f b q not end h = absurd h
same_table status.Malformed f b q not end h = absurd h
same_table status.TooLong f b q not end h = absurd h
same_table status.Closed f b q not end h = absurd h
same_table status.Pending f b q not end h = absurd h
same_table status.Gone f b q not end h = absurd h

-- where room was made before
notes_reserved : (f : Frame) (b d : Client) (es : List (ℕ × Close)) → es ≡ b.closes.entries → ((c : ℕ) → close_on c d ≡ or_before c (close_said f) (at_channel c es)) → Notes (Some f) b d
notes_reserved f b d es same n = λ c. n c ∙ ap (λ (l : List (ℕ × Close)). or_before c (close_said f) (at_channel c l)) same

pub noted_reserved : (r : Status) (f : Frame) (b d : Client) (y : Table Close) → y.entries ≡ b.closes.entries → NotesHeard r f (record b { closes = y }) d → NotesHeard r f b d
noted_reserved status.Done f b d y same h = (h.0, h.1, h.2, notes_reserved f b d y.entries same h.3)
noted_reserved status.Refused f b d y same h = (h.0, h.1, h.2, notes_reserved f b d y.entries same h.3)
noted_reserved status.Kept f b d y same h = (h.0, (h.1.0, h.1.1, h.1.2, h.1.3, h.1.4 ∙ same, h.1.5, h.1.6))
noted_reserved status.Ended f b d y same h = ((h.0.0, (h.0.1.0, h.0.1.1, h.0.1.2, h.0.1.3, h.0.1.4 ∙ same, h.0.1.5, h.0.1.6)), h.1)
noted_reserved status.NotInGrammar f b d y same h = h
noted_reserved status.NoMemory f b d y same h = h
noted_reserved status.Malformed f b d y same h = h
noted_reserved status.TooLong f b d y same h = h
noted_reserved status.Closed f b d y same h = h
noted_reserved status.Pending f b d y same h = h
noted_reserved status.Gone f b d y same h = h
