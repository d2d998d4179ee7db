-- Which gets have a content that is expected: after one more begins, after a header or a body, and as an opening ends.
use Rattle.std.proofs.Common.{◌≡◌, ◌≢◌, ℕ, ◌==◌, true, false, cond, List, [], ◌∷◌, ◌++◌, Option, Some, None, refl, sym, ◌∙◌, ap, subst, ◌⊎◌, inl, inr, eq-eqb, ne_eqb, Bool}
use Rattle.std.specs.Option.{option_map}
use Rattle.std.proofs.lemmas.Bool.Decides.{eqb_tells}
use Rattle.lapin_methods.specs.declared.frame.ContentHeader.{ContentHeader}
use Rattle.lapin_tables.specs.ByChannel.{at_channel, on_channel}
use Rattle.lapin_tables.proofs.Channels.{at-push, or-none}
use Rattle.lapin_content.specs.declared.start.Start.{Start}
use Rattle.lapin_content.specs.declared.start.Start.TheVariants as start
use Rattle.lapin_content.specs.declared.start.Whole.{Whole}
use Rattle.lapin_content.specs.Contents.{Expected, Begun, grown, has_place_for, waits_for, takes_body, front_waits, front_takes, if_whole, unless_whole, after_header, after_body, for_ticket}
use Rattle.lapin_content.specs.Channels.{Channels, listed, expected_on, joined, joined_at}
use Rattle.lapin_rules.specs.declared.broker_frames.ContentPart.TheVariants as part
use Rattle.lapin_rules.specs.Content.{whole_by}
use Rattle.lapin_rules.proofs.ChannelLaws.{at-on}
use Rattle.lapin_laws.specs.Owed.{IsIn, start_ticket, content_tickets}

-- a content is expected on the channel that a get of this ticket began
abbrev pub HasContent : ℕ → ℕ → Channels → Type 0
HasContent n c cs = IsIn (Some n) (content_tickets (expected_on c cs))

-- ---- what a channel expects after a write

mapped : (g : List Expected → List Expected) (o : Option (List Expected)) → g [] ≡ [] → listed (option_map g o) ≡ g (listed o)
mapped g None none = sym none
mapped g (Some es) none = refl

pub expected-here : (c : ℕ) (g : List Expected → List Expected) (cs : Channels) → g [] ≡ [] → expected_on c (on_channel c g cs) ≡ g (expected_on c cs)
expected-here c g cs none = ap listed (at-on c c g cs) ∙ (let here : (c == c) ≡ true = eq-eqb c c refl in rw here (mapped g (at_channel c cs) none))

pub expected-away : (c d : ℕ) (g : List Expected → List Expected) (cs : Channels) → c ≢ d → expected_on d (on_channel c g cs) ≡ expected_on d cs
expected-away c d g cs apart = ap listed (at-on c d g cs) ∙ (let off : (c == d) ≡ false = ne_eqb c d apart in rw off refl)

joined-here : (c : ℕ) (e : Expected) (cs : Channels) (o : Option (List Expected)) → at_channel c cs ≡ o → expected_on c (joined_at o c e cs) ≡ expected_on c cs ++ e ∷ []
joined-here c e cs None is = let here : (c == c) ≡ true = eq-eqb c c refl in rw (at-push c c (e ∷ []) cs, here, is) refl
joined-here c e cs (Some es) is = let here : (c == c) ≡ true = eq-eqb c c refl in ap listed (at-on c c (λ xs. xs ++ e ∷ []) cs) ∙ rw (here, is) refl

pub joined-away : (c d : ℕ) (e : Expected) (cs : Channels) (o : Option (List Expected)) → c ≢ d → expected_on d (joined_at o c e cs) ≡ expected_on d cs
joined-away c d e cs None apart = let off : (c == d) ≡ false = ne_eqb c d apart in rw (at-push c d (e ∷ []) cs, off) (ap listed (or-none (at_channel d cs)))
joined-away c d e cs (Some es) apart = expected-away c d (λ xs. xs ++ e ∷ []) cs apart

-- ---- one more content

in_front : (n : ℕ) (e : Expected) (es : List Expected) → IsIn (Some n) (content_tickets es) → IsIn (Some n) (content_tickets (es ++ e ∷ []))
in_front n e [] h = absurd h
in_front n e (x ∷ xs) (inl h) = inl h
in_front n e (x ∷ xs) (inr h) = inr (in_front n e xs h)

in_last : (n : ℕ) (e : Expected) (es : List Expected) → Some n ≡ start_ticket e.start → IsIn (Some n) (content_tickets (es ++ e ∷ []))
in_last n e [] h = inl h
in_last n e (x ∷ xs) h = inr (in_last n e xs h)

module _ (n : ℕ) (c : ℕ) (e : Expected) (cs : Channels) where
  pub content_new : Some n ≡ start_ticket e.start → HasContent n c (joined c e cs)
  content_new h = subst (λ es. IsIn (Some n) (content_tickets es)) (sym (joined-here c e cs (at_channel c cs) refl)) (in_last n e (expected_on c cs) h)

  pub content_joined : (d : ℕ) → HasContent n d cs → HasContent n d (joined c e cs)
  content_joined d h = elim (eqb_tells c d) [
    | inl same ↦
        let P : ℕ → Type 0 = λ i. HasContent n i (joined c e cs) in
        let Q : ℕ → Type 0 = λ i. HasContent n i cs in
        subst P same.1 (subst (λ es. IsIn (Some n) (content_tickets es)) (sym (joined-here c e cs (at_channel c cs) refl)) (in_front n e (expected_on c cs) (subst Q (sym same.1) h)))
    | inr other ↦ subst (λ es. IsIn (Some n) (content_tickets es)) (sym (joined-away c d e cs (at_channel c cs) other.1)) h
  ]

-- ---- a header or a body, and the end of an opening

pub content_away : (n c d : ℕ) (g : List Expected → List Expected) (cs : Channels) → c ≢ d → HasContent n d cs → HasContent n d (on_channel c g cs)
content_away n c d g cs apart h = subst (λ es. IsIn (Some n) (content_tickets es)) (sym (expected-away c d g cs apart)) h

pub content_here : (n c : ℕ) (g : List Expected → List Expected) (cs : Channels) → g [] ≡ [] → IsIn (Some n) (content_tickets (g (expected_on c cs))) → HasContent n c (on_channel c g cs)
content_here n c g cs none h = subst (λ es. IsIn (Some n) (content_tickets es)) (sym (expected-here c g cs none)) h

-- the ticket that a whole content answers
abbrev pub whole_ticket : Option Whole → Option ℕ
whole_ticket None = None
whole_ticket (Some w) = start_ticket w.start

-- a content that is whole answers the ticket of its get, and another is still expected
or_whole : (n k : ℕ) (s : Start) (x : Begun) (es : List Expected) → (Some n ≡ start_ticket s) ⊎ IsIn (Some n) (content_tickets es)
    → (Some n ≡ whole_ticket (if_whole (record { class_id = k; start = s; begun = Some x }))) ⊎ IsIn (Some n) (content_tickets (unless_whole (record { class_id = k; start = s; begun = Some x }) es))
or_whole n k s x es i =
    let y : Expected = record { class_id = k; start = s; begun = Some x } in
    let w : Whole = record { start = s; properties = x.properties; payload = x.bytes } in
    elim (x.left == 0) as (λ b. (Some n ≡ whole_ticket (cond b (Some w) None)) ⊎ IsIn (Some n) (content_tickets (cond b es (y ∷ es)))) [ true ↦ i | false ↦ inr i ]

pub header_keeps : (n : ℕ) (h : ContentHeader) (es : List Expected) → front_waits h.class_id es ≡ true → IsIn (Some n) (content_tickets es)
    → (Some n ≡ whole_ticket (whole_by (part.Header h) es)) ⊎ IsIn (Some n) (content_tickets (after_header h es))
header_keeps n h [] waits i = absurd i
header_keeps n h (e ∷ es) waits i =
    let front : waits_for h.class_id e ≡ true = waits in
    rw front (or_whole n e.class_id e.start (record { properties = h.properties; left = h.body_size; bytes = [] }) es i)

module _ (n : ℕ) (bytes : List ℕ) (k : ℕ) (s : Start) (es : List Expected) where
  abbrev grown_to : Option Begun → Expected
  grown_to o = record { class_id = k; start = s; begun = option_map (grown bytes) o }

  grows : (o : Option Begun) → has_place_for bytes o ≡ true → (Some n ≡ start_ticket s) ⊎ IsIn (Some n) (content_tickets es) → (Some n ≡ whole_ticket (if_whole (grown_to o))) ⊎ IsIn (Some n) (content_tickets (unless_whole (grown_to o) es))
  grows None h i = cc
  grows (Some x) h i = or_whole n k s (grown bytes x) es i

pub body_keeps : (n : ℕ) (bytes : List ℕ) (es : List Expected) → front_takes bytes es ≡ true → IsIn (Some n) (content_tickets es)
    → (Some n ≡ whole_ticket (whole_by (part.Body bytes) es)) ⊎ IsIn (Some n) (content_tickets (after_body bytes es))
body_keeps n bytes [] takes i = absurd i
body_keeps n bytes (e ∷ es) takes i =
    let front : takes_body bytes e ≡ true = takes in
    rw front (grows n bytes e.class_id e.start es e.begun takes i)

-- what begins a get's content names its get
abbrev pub is_get : Start → Bool
is_get (start.Get ticket tag exchange key redelivered count) = true
is_get _ = false

pub names_its_get : (s : Start) (t : Option ℕ) → is_get s ≡ true → start_ticket (for_ticket t s) ≡ t
names_its_get (start.Get ticket tag exchange key redelivered count) t h = refl
names_its_get (start.Return code text exchange key) t h = cc
names_its_get (start.Deliver consumer tag exchange key redelivered) t h = cc
