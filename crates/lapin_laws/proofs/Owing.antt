-- Each event leaves only tickets open that are owed.
use Rattle.std.proofs.Common.{◌≡◌, ◌≢◌, ℕ, ◌+◌, ◌==◌, Bool, true, false, cond, List, [], ◌∷◌, ◌++◌, length, Option, Some, None, Result, refl, sym, ◌∙◌, ap, subst, ◌⊎◌, inl, inr, eq-eqb}
use Rattle.std.specs.Prelude.{find}
use Rattle.std.specs.List.{fold}
use Rattle.std.proofs.lemmas.Bool.Decides.{eqb_tells}
use Rattle.lapin_tables.specs.ByChannel.{at_channel, on_channel}
use Rattle.lapin_tables.proofs.SlotLaws.{under-pushed}
use Rattle.lapin_types.specs.declared.request.Request.{Request}
use Rattle.lapin_types.specs.declared.request.Reply.{Reply}
use Rattle.lapin_types.specs.declared.answer.Answer.{Answer}
use Rattle.lapin_types.specs.Types.{Error}
use Rattle.lapin_rules.proofs.ChannelLaws.{at-with}
use Rattle.lapin_rules.specs.declared.marks.AtLeaving.{AtLeaving}
use Rattle.lapin_rules.specs.declared.marks.AtLeaving.TheVariants as leaving
use Rattle.lapin_rules.specs.TicketReadings as ticket
use Rattle.lapin_rules.specs.Words.{without_first, with_channel}
use Rattle.lapin_rules.specs.Requests.{requests_in, ticket_of, with_request, resolved_with, request_alone}
use Rattle.lapin_ticket.specs.declared.Slot.{Slot}
use Rattle.lapin_ticket.specs.Slots.{after_mark}
use Rattle.lapin_content.specs.declared.start.Start.{Start}
use Rattle.lapin_content.specs.declared.start.Start.TheVariants as start
use Rattle.lapin_content.specs.declared.start.Whole.{Whole}
use Rattle.lapin_content.specs.Contents.{Expected, expected}
use Rattle.lapin_content.specs.Channels.{Channels, expected_on, joined}
use Rattle.lapin_rules.specs.Content.{start_tickets, whole_tickets}
use Rattle.lapin_laws.specs.Owed.{IsIn, request_tickets, start_ticket, content_tickets}
use Rattle.lapin_laws.proofs.Expecting.{HasContent, content_new, content_joined, content_away, content_here, whole_ticket}
use Rattle.lapin_laws.proofs.Settled.{requests-away, on-here, on-away}
use Rattle.lapin_laws.proofs.Opens.{IsOpen, open_answered, open_resolved, open_failed, open_none}

abbrev pub Table : Type 0
Table = List (ℕ × List Request)

abbrev pub Has : ℕ → ℕ → Table → Type 0
Has n c rs = IsIn (Some n) (request_tickets (requests_in (at_channel c rs)))

-- each open ticket that awaits a reply has its request, or a content that is expected
abbrev pub Owed : Table → Channels → List (Option Slot) → Type 0
Owed rs cs slots = (n c : ℕ) (g : Bool) → IsOpen n slots c leaving.Nothing g → Has n c rs ⊎ HasContent n c cs

-- the requests change
requested : {A B C : Type 0} → (A → B) → A ⊎ C → B ⊎ C
requested f (inl x) = inl (f x)
requested f (inr y) = inr y

expected_still : {A B C : Type 0} → (B → C) → A ⊎ B → A ⊎ C
expected_still f (inl x) = inl x
expected_still f (inr y) = inr (f y)

in_pushed : (n : ℕ) (r : Request) (rs : List Request) → IsIn (Some n) (request_tickets rs) → IsIn (Some n) (request_tickets (rs ++ r ∷ []))
in_pushed n r [] h = absurd h
in_pushed n r (x ∷ xs) (inl h) = inl h
in_pushed n r (x ∷ xs) (inr h) = inr (in_pushed n r xs h)

in_last : (n : ℕ) (r : Request) (rs : List Request) → Some n ≡ r.ticket → IsIn (Some n) (request_tickets (rs ++ r ∷ []))
in_last n r [] e = inl e
in_last n r (x ∷ xs) e = inr (in_last n r xs e)

-- a request's ticket is that of the first that passes, or of one that stays without it
in_first : (f : Request → Bool) (n : ℕ) (rs : List Request) → IsIn (Some n) (request_tickets rs) → (Some n ≡ ticket_of (find f rs)) ⊎ IsIn (Some n) (request_tickets (without_first f rs))
in_first f n [] h = absurd h
in_first f n (r ∷ rs) h = elim (f r) as (λ b. (Some n ≡ ticket_of (cond b (Some r) (find f rs))) ⊎ IsIn (Some n) (request_tickets (cond b rs (r ∷ without_first f rs)))) [
  | true ↦ elim h [ inl x ↦ inl x | inr x ↦ inr x ]
  | false ↦ elim h [ inl x ↦ inr (inl x) | inr x ↦ elim (in_first f n rs x) [ inl y ↦ inl y | inr y ↦ inr (inr y) ] ]
]

pub in_alone : (n : ℕ) (o : Option Request) → Some n ≡ ticket_of o → IsIn (Some n) (request_tickets (request_alone o))
in_alone n None e = absurd cc
in_alone n (Some r) e = inl e

requests-here : (c : ℕ) (xs : List Request) (rs : Table) → requests_in (at_channel c (with_channel c xs rs)) ≡ xs
requests-here c xs rs = ap requests_in (at-with c c xs rs) ∙ (let here : (c == c) ≡ true = eq-eqb c c refl in rw here refl)

-- one channel's requests change
module _ (n c d : ℕ) (rs ss : Table) where
  at_one : (xs : List Request) → requests_in (at_channel c ss) ≡ xs → (c ≢ d → requests_in (at_channel d ss) ≡ requests_in (at_channel d rs)) → ((c ≡ d) → Has n c rs → IsIn (Some n) (request_tickets xs)) → Has n d rs → Has n d ss
  at_one xs here away k h = elim (eqb_tells c d) [
    | inl y ↦
        let P : ℕ → Type 0 = λ i. Has n i ss in
        let Q : ℕ → Type 0 = λ i. Has n i rs in
        subst P y.1 (subst (λ ys. IsIn (Some n) (request_tickets ys)) (sym here) (k y.1 (subst Q (sym y.1) h)))
    | inr x ↦ subst (λ ys. IsIn (Some n) (request_tickets ys)) (sym (away x.1)) h
  ]

pub has_with : (n c d : ℕ) (xs : List Request) (rs : Table) → (Has n c rs → IsIn (Some n) (request_tickets xs)) → Has n d rs → Has n d (with_channel c xs rs)
has_with n c d xs rs k h = at_one n c d rs (with_channel c xs rs) xs (requests-here c xs rs) (λ x. requests-away c d xs rs x) (λ e. k) h

pub has_on : (n c d : ℕ) (f : List Request → List Request) (rs : Table) → f [] ≡ [] → (c ≡ d → Has n c rs → IsIn (Some n) (request_tickets (f (requests_in (at_channel c rs))))) → Has n d rs → Has n d (on_channel c f rs)
has_on n c d f rs e k h = at_one n c d rs (on_channel c f rs) (f (requests_in (at_channel c rs))) (on-here c f rs e) (λ x. on-away c d f rs x) k h

-- ---- each kind of change

-- the open tickets are among those that were
abbrev pub Fewer : List (Option Slot) → List (Option Slot) → Type 0
Fewer was now = (n c : ℕ) (a : AtLeaving) (g : Bool) → IsOpen n now c a g → (h : Bool) × IsOpen n was c a h

pub same : (rs : Table) (cs : Channels) (was now : List (Option Slot)) → Fewer was now → Owed rs cs was → Owed rs cs now
same rs cs was now f h = λ n c g x. let y = f n c leaving.Nothing g x in h n c y.0 y.1

-- a call opens a request under the next ticket
module _ (rs : Table) (cs : Channels) (slots : List (Option Slot)) (t c : ℕ) (count : t ≡ length slots) (h : Owed rs cs slots) where
  pub asks : (r : Reply) → Owed (with_request c (record { ticket = Some (t + 1); reply = r }) rs) cs (after_mark slots (ticket.Given c leaving.Nothing))
  asks r = λ n d g x. elim (under-pushed n _ _ slots x) [
    | inl o ↦ requested (has_with n c d _ rs (λ i. in_pushed n _ (requests_in (at_channel c rs)) i)) (h n d g o)
    | inr y ↦
        let number : n ≡ t + 1 = y.0 ∙ ap (λ k. k + 1) (sym count) in
        let channel : c ≡ d = cc in
        let new : List Request = requests_in (at_channel c rs) ++ record { ticket = Some (t + 1); reply = r } ∷ [] in
        let P : ℕ → Type 0 = λ i. Has n i (with_channel c new rs) in
        inl (subst P channel (subst (λ ys. IsIn (Some n) (request_tickets ys)) (sym (requests-here c new rs)) (in_last n (record { ticket = Some (t + 1); reply = r }) (requests_in (at_channel c rs)) (ap (λ k. Some k) number))))
  ]

  -- or gives a ticket that its leaving answers
  pub gives : (a : AtLeaving) → a ≢ leaving.Nothing → Owed rs cs (after_mark slots (ticket.Given c a))
  gives a no_reply = λ n d g x. elim (under-pushed n _ _ slots x) [
    | inl o ↦ h n d g o
    | inr y ↦ absurd (no_reply cc)
  ]

  -- or answers it itself
  pub makes : (a : AtLeaving) (x : Result Answer Error) → Owed rs cs (after_mark (after_mark slots (ticket.Given c a)) (ticket.Answered (t + 1) x))
  makes a x = λ n d g o.
      let was = open_answered d leaving.Nothing g n (after_mark slots (ticket.Given c a)) (t + 1) x o in
      elim (under-pushed n _ _ slots was.1) [
        | inl y ↦ h n d g y
        | inr y ↦ let number : n ≡ t + 1 = y.0 ∙ ap (λ k. k + 1) (sym count) in absurd (was.0 (sym number))
      ]

-- or opens a request that nobody holds a ticket of
pub notes : (c : ℕ) (r : Reply) (rs : Table) (cs : Channels) (slots : List (Option Slot)) → Owed rs cs slots → Owed (with_request c (record { ticket = None; reply = r }) rs) cs slots
notes c r rs cs slots h = λ n d g x. requested (has_with n c d _ rs (λ i. in_pushed n _ (requests_in (at_channel c rs)) i)) (h n d g x)

-- the oldest request of a kind is answered
pub answers : (c : ℕ) (f : Request → Bool) (x : Result Answer Error) (rs : Table) (cs : Channels) (slots : List (Option Slot)) → Owed rs cs slots → Owed (with_channel c (without_first f (requests_in (at_channel c rs))) rs) cs (fold after_mark slots (resolved_with x (ticket_of (find f (requests_in (at_channel c rs))))))
answers c f x rs cs slots h = λ n d g o.
    let was = open_resolved d leaving.Nothing g n slots x (ticket_of (find f (requests_in (at_channel c rs)))) o in
    requested (has_with n c d _ rs (λ i. elim (in_first f n (requests_in (at_channel c rs)) i) [ inl y ↦ absurd (was.0 y) | inr y ↦ y ])) (h n d g was.1)

pub answers_on : (c : ℕ) (f : Request → Bool) (x : Result Answer Error) (rs : Table) (cs : Channels) (slots : List (Option Slot)) → Owed rs cs slots → Owed (on_channel c (without_first f) rs) cs (fold after_mark slots (resolved_with x (ticket_of (find f (requests_in (at_channel c rs))))))
answers_on c f x rs cs slots h = λ n d g o.
    let was = open_resolved d leaving.Nothing g n slots x (ticket_of (find f (requests_in (at_channel c rs)))) o in
    requested (has_on n c d (without_first f) rs refl (λ e i. elim (in_first f n (requests_in (at_channel c rs)) i) [ inl y ↦ absurd (was.0 y) | inr y ↦ y ])) (h n d g was.1)

-- an opening ends, and a request may be kept with its ticket
pub ends_one : (c : ℕ) (kept : Option ℕ) (e : Error) (f : List Request → List Request) (rs : Table) (cs : Channels) (slots : List (Option Slot)) → f [] ≡ [] → ((n : ℕ) → kept ≡ Some n → IsIn (Some n) (request_tickets (f (requests_in (at_channel c rs))))) → Owed rs cs slots → Owed (on_channel c f rs) (on_channel c (λ _. []) cs) (after_mark slots (ticket.OpeningFailed c kept e))
ends_one c kept e f rs cs slots none keeps h = λ n d g o.
    let was = open_failed d leaving.Nothing g n slots c kept e o in
    elim (h n d g was.0) [
      | inl r ↦ inl (has_on n c d f rs none (λ y i. elim was.1 [ inl off ↦ let on : (c == d) ≡ true = eq-eqb c d y in let z : true ≡ false = sym on ∙ off in absurd cc | inr k ↦ keeps n k ]) r)
      | inr i ↦ elim (eqb_tells c d) [
        | inl y ↦ elim was.1 [
          | inl off ↦ let z : true ≡ false = sym y.0 ∙ off in absurd cc
          | inr k ↦ let P : ℕ → Type 0 = λ j. Has n j (on_channel c f rs) in inl (subst P y.1 (subst (λ ys. IsIn (Some n) (request_tickets ys)) (sym (on-here c f rs none)) (keeps n k)))
        ]
        | inr x ↦ inr (content_away n c d (λ _. []) cs x.1 i)
      ]
    ]

-- every ticket fails
pub falls : (e : Error) (rs : Table) (cs : Channels) (slots : List (Option Slot)) → Owed rs cs (after_mark slots (ticket.AllFailed e))
falls e rs cs slots = λ n c g o. absurd (open_none c leaving.Nothing g n slots e o)

-- ---- contents

-- the answer to a get takes its request, and begins the content that answers its ticket
pub begins : (c k : ℕ) (f : Request → Bool) (s : Start) (rs : Table) (cs : Channels) (slots : List (Option Slot)) → start_ticket s ≡ ticket_of (find f (requests_in (at_channel c rs))) → Owed rs cs slots → Owed (with_channel c (without_first f (requests_in (at_channel c rs))) rs) (joined c (expected k s) cs) slots
begins c k f s rs cs slots names h = λ n d g o.
    let left : List Request = without_first f (requests_in (at_channel c rs)) in
    elim (h n d g o) [
      | inl r ↦ elim (eqb_tells c d) [
        | inl y ↦
            let P : ℕ → Type 0 = λ i. Has n i rs in
            let Q : ℕ → Type 0 = λ i. Has n i (with_channel c left rs) in
            let R : ℕ → Type 0 = λ i. HasContent n i (joined c (expected k s) cs) in
            elim (in_first f n (requests_in (at_channel c rs)) (subst P (sym y.1) r)) [
              | inl first ↦ inr (subst R y.1 (content_new n c (expected k s) cs (first ∙ sym names)))
              | inr later ↦ inl (subst Q y.1 (subst (λ ys. IsIn (Some n) (request_tickets ys)) (sym (requests-here c left rs)) later))
            ]
        | inr x ↦ inl (subst (λ ys. IsIn (Some n) (request_tickets ys)) (sym (requests-away c d left rs x.1)) r)
      ]
      | inr i ↦ inr (content_joined n c (expected k s) cs d i)
    ]

-- another content begins
pub expects : (c : ℕ) (e : Expected) (rs : Table) (cs : Channels) (slots : List (Option Slot)) → Owed rs cs slots → Owed rs (joined c e cs) slots
expects c e rs cs slots h = λ n d g o. expected_still (content_joined n c e cs d) (h n d g o)

-- what a whole content answers was open
module _ (c m : ℕ) (slots : List (Option Slot)) (n d : ℕ) (g : Bool) where
  open_start : (s : Start) (w : Whole) → IsOpen n (fold after_mark slots (start_tickets c m s w)) d leaving.Nothing g → (Some n ≢ start_ticket s) × IsOpen n slots d leaving.Nothing g
  open_start (start.Get ticket tag exchange key redelivered count) w o = open_resolved d leaving.Nothing g n slots _ ticket o
  open_start (start.Return code text exchange key) w o = (λ e. cc, o)
  open_start (start.Deliver consumer tag exchange key redelivered) w o = (λ e. cc, o)

  open_whole : (w : Option Whole) → IsOpen n (fold after_mark slots (whole_tickets c m w)) d leaving.Nothing g → (Some n ≢ whole_ticket w) × IsOpen n slots d leaving.Nothing g
  open_whole None o = (λ e. cc, o)
  open_whole (Some w) o = open_start w.start w o

-- a header or a body comes, which may make the front whole
pub hears : (c m : ℕ) (f : List Expected → List Expected) (w : Option Whole) (rs : Table) (cs : Channels) (slots : List (Option Slot)) → f [] ≡ [] → ((n : ℕ) → HasContent n c cs → (Some n ≡ whole_ticket w) ⊎ IsIn (Some n) (content_tickets (f (expected_on c cs)))) → Owed rs cs slots → Owed rs (on_channel c f cs) (fold after_mark slots (whole_tickets c m w))
hears c m f w rs cs slots none keeps h = λ n d g o.
    let was = open_whole c m slots n d g w o in
    expected_still (λ i. elim (eqb_tells c d) [
      | inl y ↦
          let P : ℕ → Type 0 = λ j. HasContent n j cs in
          let Q : ℕ → Type 0 = λ j. HasContent n j (on_channel c f cs) in
          elim (keeps n (subst P (sym y.1) i)) [ inl whole ↦ absurd (was.0 whole) | inr stays ↦ subst Q y.1 (content_here n c f cs none stays) ]
      | inr x ↦ content_away n c d f cs x.1 i
    ]) (h n d g was.1)
