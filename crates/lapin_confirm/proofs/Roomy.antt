-- What is promised keeps its room, as one channel's confirm mode, returned messages or promise changes.
use Rattle.std.proofs.Common.{◌≡◌, ◌≢◌, ℕ, ◌+◌, ◌<◌, ◌≤◌, ◌==◌, Bool, true, false, cond, List, [], ◌∷◌, ◌++◌, Option, Some, None, length, refl, sym, ◌∙◌, ap, subst, arith, inl, inr, eq-eqb}
use Rattle.std.specs.Option.{option_map, option_or, IsSome}
use Rattle.std.proofs.lemmas.Bool.Decides.{eqb_tells}
use Rattle.lapin_rules.specs.Words.{is_some, with_channel}
use Rattle.lapin_tables.specs.ByChannel.{at_channel, on_channel}
use Rattle.lapin_tables.proofs.Channels.{at-push, at-on_same, at-on_other, on-absent}
use Rattle.lapin_tables.proofs.Counts.{count-cons}
use Rattle.lapin_confirm.specs.declared.cell.Cell.{Cell}
use Rattle.lapin_confirm.specs.declared.origin.Origin.{Origin}
use Rattle.lapin_confirm.specs.declared.confirm_mode.ConfirmMode.{ConfirmMode}
use Rattle.lapin_confirm.specs.ReturnedMessages.{ReturnedMessages, HasPlace}
use Rattle.lapin_tables.specs.Numbered.{Slots}
use Rattle.lapin_confirm.specs.WithRoom.{spare_in}
use Rattle.lapin_confirm.specs.Ties.{KeepsTags, promised, TagFits, MessageFits, TagsFit, MessagesFit, HaveRoom, HasMore, OriginsKept, Tied, TiedAt, AllTied}
use Rattle.lapin_confirm.proofs.Whole.{tied-of, all-on, tied-roomier}

-- ---- a table whose entries all fit

module _ {X : Type 0} (P : ℕ → Option X → Type 0) where
  -- one entry changes
  pub each-on : (c : ℕ) (x y : X) (es : List (ℕ × X)) → at_channel c es ≡ Some x → ((d : ℕ) → P d (at_channel d es)) → P c (Some y) → (d : ℕ) → P d (at_channel d (on_channel c (λ _. y) es))
  each-on c x y es is all here d =
      elim (eqb_tells c d) [
        | inl same ↦
            let Q : ℕ → Type 0 = λ e. P e (at_channel e (on_channel c (λ _. y) es)) in
            subst Q same.1 (subst (P c) (sym (at-on_same c (λ _. y) es ∙ ap (option_map (λ _. y)) is)) here)
        | inr other ↦ subst (P d) (sym (at-on_other c d (λ _. y) es other.1)) (all d)
      ]

  -- one entry joins
  pub each-push : (c : ℕ) (y : X) (es : List (ℕ × X)) → at_channel c es ≡ None → ((d : ℕ) → P d (at_channel d es)) → P c (Some y) → (d : ℕ) → P d (at_channel d (es ++ (c, y) ∷ []))
  each-push c y es none all here d =
      elim (eqb_tells c d) [
        | inl same ↦
            let Q : ℕ → Type 0 = λ e. P e (at_channel e (es ++ (c, y) ∷ [])) in
            subst Q same.1 (subst (P c) (sym (at-push c c y es ∙ joined)) here)
        | inr other ↦ subst (P d) (sym (at-push c d y es ∙ apart d other.0)) (all d)
      ]
    where
      or-none : (o : Option X) → option_or o None ≡ o
      or-none None = refl
      or-none (Some x) = refl

      joined : option_or (at_channel c es) (cond (c == c) (Some y) None) ≡ Some y
      joined = rw (none, eq-eqb c c refl) refl

      apart : (d : ℕ) → (c == d) ≡ false → option_or (at_channel d es) (cond (c == d) (Some y) None) ≡ at_channel d es
      apart d other = rw other (or-none (at_channel d es))

  -- an entry is put
  pub each-with : (c : ℕ) (y : X) (es : List (ℕ × X)) → ((d : ℕ) → P d (at_channel d es)) → P c (Some y) → (d : ℕ) → P d (at_channel d (with_channel c y es))
  each-with c y es all here d = by (at_channel c es) refl
    where
      by : (o : Option X) → at_channel c es ≡ o → P d (at_channel d (with_channel c y es))
      by None none = subst (λ b. P d (at_channel d (cond b (on_channel c (λ _. y) es) (es ++ (c, y) ∷ [])))) (sym (ap is_some none)) (each-push c y es none all here d)
      by (Some x) is = subst (λ b. P d (at_channel d (cond b (on_channel c (λ _. y) es) (es ++ (c, y) ∷ [])))) (sym (ap is_some is)) (each-on c x y es is all here d)

-- ---- less is promised

fewer-tags : (m n : ℕ) (o : Option ConfirmMode) → m ≤ n → TagFits n o → TagFits m o
fewer-tags m n None less fits = tt
fewer-tags m n (Some l) less fits = let room : n + l.queued ≤ l.tags.spare = fits in omega arith

fewer-messages : (m n : ℕ) (o : Option ReturnedMessages) → m ≤ n → MessageFits n o → MessageFits m o
fewer-messages m n None less fits = tt
fewer-messages m n (Some t) less fits = λ more. fits (omega arith)

-- other promises, none of them more
pub room-less : (rooms after : List (ℕ × Bool)) (es : List (ℕ × ConfirmMode)) (ts : List (ℕ × ReturnedMessages)) (s t : ℕ) → HaveRoom rooms es ts s → ((c : ℕ) → spare_in (at_channel c after) ≤ spare_in (at_channel c rooms)) → promised after ≤ t → HaveRoom after es ts t
room-less rooms after es ts s t room less cells = record {
  cells = cells;
  tags = λ c. fewer-tags (spare_in (at_channel c after)) (spare_in (at_channel c rooms)) (at_channel c es) (less c) (room.tags c);
  messages = λ c. fewer-messages (spare_in (at_channel c after)) (spare_in (at_channel c rooms)) (at_channel c ts) (less c) (room.messages c);
}

-- ---- a confirm mode changes

tag-kept : (n : ℕ) (l k : ConfirmMode) → TagFits n (Some l) → KeepsTags l k → TagFits n (Some k)
tag-kept n l k fits keeps =
    let before : n + l.queued ≤ l.tags.spare = fits in
    let stays : l.tags.spare + k.queued ≤ k.tags.spare + l.queued = keeps in
    omega arith

pub tags-kept : (c : ℕ) (l k : ConfirmMode) (rooms : List (ℕ × Bool)) (es : List (ℕ × ConfirmMode)) → at_channel c es ≡ Some l → TagsFit rooms es → KeepsTags l k → TagsFit rooms (on_channel c (λ _. k) es)
tags-kept c l k rooms es is fit keeps =
    let here : TagFits (spare_in (at_channel c rooms)) (Some l) = subst (TagFits (spare_in (at_channel c rooms))) is (fit c) in
    each-on (λ d o. TagFits (spare_in (at_channel d rooms)) o) c l k es is fit (tag-kept (spare_in (at_channel c rooms)) l k here keeps)

pub room-kept : (c : ℕ) (l k : ConfirmMode) (rooms : List (ℕ × Bool)) (es : List (ℕ × ConfirmMode)) (ts : List (ℕ × ReturnedMessages)) (s t : ℕ) → at_channel c es ≡ Some l → HaveRoom rooms es ts s → KeepsTags l k → s ≤ t → HaveRoom rooms (on_channel c (λ _. k) es) ts t
room-kept c l k rooms es ts s t is room keeps more =
    let cells : promised rooms ≤ s = room.cells in
    record {
      cells = omega arith;
      tags = tags-kept c l k rooms es is room.tags keeps;
      messages = room.messages;
    }

-- ---- a promise changes

-- the promise of a channel that may have one, from x to b
pub promise-count : (c : ℕ) (b x : Bool) (rooms : List (ℕ × Bool)) → at_channel c rooms ≡ Some x → promised (on_channel c (λ _. b) rooms) + cond x 1 0 ≡ promised rooms + cond b 1 0
promise-count c b x [] is = cc
promise-count c b x (r ∷ rooms) is =
    elim (r.0 == c) as (λ h. cond h (Some r.1) (at_channel c rooms) ≡ Some x → promised (cond h ((r.0, b) ∷ rooms) (r ∷ on_channel c (λ _. b) rooms)) + cond x 1 0 ≡ promised (r ∷ rooms) + cond b 1 0) [
      | true ↦ λ here.
          let same : r.1 ≡ x = cc in
          let counts : ◌≡◌ {A = ℕ} (cond r.1 1 0) (cond x 1 0) = ap (λ (y : Bool). cond y 1 0) same in
          omega (arith, count-cons (λ (e : ℕ × Bool). e.1) (r.0, b) rooms, count-cons (λ (e : ℕ × Bool). e.1) r rooms, counts)
      | false ↦ λ later.
          let rest : promised (on_channel c (λ _. b) rooms) + cond x 1 0 ≡ promised rooms + cond b 1 0 = promise-count c b x rooms later in
          omega (arith, rest, count-cons (λ (e : ℕ × Bool). e.1) r (on_channel c (λ _. b) rooms), count-cons (λ (e : ℕ × Bool). e.1) r rooms)
    ] is

-- as many are promised at most as channels may have a promise
pub promised-few : (rooms : List (ℕ × Bool)) → promised rooms ≤ length rooms
promised-few [] = omega arith
promised-few (r ∷ rooms) =
    let rest : promised rooms ≤ length rooms = promised-few rooms in
    let one : cond r.1 1 0 ≤ 1 = elim r.1 as (λ b. cond b 1 0 ≤ 1) [ true ↦ omega arith | false ↦ omega arith ] in
    omega (arith, count-cons (λ (e : ℕ × Bool). e.1) r rooms, rest, one)

pub spare-one : (o : Option Bool) → spare_in o ≤ 1
spare-one None = omega arith
spare-one (Some true) = omega arith
spare-one (Some false) = omega arith

spare-map : (b : Bool) (o : Option Bool) → IsSome o → spare_in (option_map (λ _. b) o) ≡ cond b 1 0
spare-map b None has = absurd (let never : false ≡ true = has in cc)
spare-map b (Some x) has = refl

-- a channel joins those that may have a promise
pub spare-joined : (c d : ℕ) (rooms : List (ℕ × Bool)) → spare_in (at_channel d (rooms ++ (c, false) ∷ [])) ≡ spare_in (at_channel d rooms)
spare-joined c d rooms = ap spare_in (at-push c d false rooms) ∙ by (at_channel d rooms) (c == d)
  where
    by : (o : Option Bool) (b : Bool) → spare_in (option_or o (cond b (Some false) None)) ≡ spare_in o
    by None true = refl
    by None false = refl
    by (Some x) b = refl

pub known-joined : (c : ℕ) (rooms : List (ℕ × Bool)) → IsSome (at_channel c (rooms ++ (c, false) ∷ []))
known-joined c rooms = subst IsSome (sym (at-push c c false rooms ∙ ap (λ (b : Bool). option_or (at_channel c rooms) (cond b (Some false) None)) (eq-eqb c c refl))) (by (at_channel c rooms))
  where
    by : (o : Option Bool) → IsSome (option_or o (Some false))
    by None = refl
    by (Some x) = refl

pub given-none : (c : ℕ) (rooms : List (ℕ × Bool)) → spare_in (at_channel c (on_channel c (λ _. false) rooms)) ≡ 0
given-none c rooms = ap spare_in (at-on_same c (λ _. false) rooms) ∙ none (at_channel c rooms)
  where
    none : (o : Option Bool) → spare_in (option_map (λ _. false) o) ≡ 0
    none None = refl
    none (Some x) = refl

-- the promise of a channel is given up
pub given-count : (c : ℕ) (rooms : List (ℕ × Bool)) (n : ℕ) → spare_in (at_channel c rooms) ≡ n → promised (on_channel c (λ _. false) rooms) + n ≡ promised rooms
given-count c rooms n is = by (at_channel c rooms) refl is
  where
    by : (o : Option Bool) → at_channel c rooms ≡ o → spare_in o ≡ n → promised (on_channel c (λ _. false) rooms) + n ≡ promised rooms
    by None there none = let zero_ : 0 ≡ n = none in omega (arith, ap promised (absent there), zero_)
      where
        absent : at_channel c rooms ≡ None → on_channel c (λ _. false) rooms ≡ rooms
        absent h = on-absent c (λ _. false) rooms h
    by (Some x) there some = let count : promised (on_channel c (λ _. false) rooms) + cond x 1 0 ≡ promised rooms + 0 = promise-count c false x rooms there in let same : cond x 1 0 ≡ n = some in omega (arith, count, same)

pub given-less : (c d : ℕ) (rooms : List (ℕ × Bool)) → spare_in (at_channel d (on_channel c (λ _. false) rooms)) ≤ spare_in (at_channel d rooms)
given-less c d rooms =
    elim (eqb_tells c d) [
      | inl same ↦
          let P : ℕ → Type 0 = λ e. spare_in (at_channel e (on_channel c (λ _. false) rooms)) ≤ spare_in (at_channel e rooms) in
          subst P same.1 (omega (arith, given-none c rooms))
      | inr other ↦ omega (arith, ap spare_in (at-on_other c d (λ _. false) rooms other.1))
    ]

-- the promise of a channel that may have one is made
pub promise-one : (c : ℕ) (rooms : List (ℕ × Bool)) → IsSome (at_channel c rooms) → spare_in (at_channel c (on_channel c (λ _. true) rooms)) ≡ 1
promise-one c rooms has = ap spare_in (at-on_same c (λ _. true) rooms) ∙ spare-map true (at_channel c rooms) has

-- what is promised fits as a promise is made or given up
pub promise-fits : (c : ℕ) (rooms : List (ℕ × Bool)) (s : ℕ) → IsSome (at_channel c rooms) → promised rooms < s → promised (on_channel c (λ _. true) rooms) ≤ s
promise-fits c rooms s known beside = by (at_channel c rooms) refl known
  where
    by : (o : Option Bool) → at_channel c rooms ≡ o → IsSome o → promised (on_channel c (λ _. true) rooms) ≤ s
    by None there has = absurd (let never : false ≡ true = has in cc)
    by (Some x) there has =
        let count : promised (on_channel c (λ _. true) rooms) + cond x 1 0 ≡ promised rooms + 1 = promise-count c true x rooms there in
        omega arith

pub given-fits : (c : ℕ) (rooms : List (ℕ × Bool)) (s : ℕ) → promised rooms ≤ s → promised (on_channel c (λ _. false) rooms) ≤ s
given-fits c rooms s fits = omega (arith, given-count c rooms (spare_in (at_channel c rooms)) refl)

-- a channel with room beside what is promised gets its promise
pub room-more : (c : ℕ) (rooms : List (ℕ × Bool)) (es : List (ℕ × ConfirmMode)) (ts : List (ℕ × ReturnedMessages)) (s : ℕ) → HaveRoom rooms es ts s → HasMore c rooms es ts s → HaveRoom (on_channel c (λ _. true) rooms) es ts s
room-more c rooms es ts s room more = record {
  cells = promise-fits c rooms s more.known more.cells;
  tags = λ d.
      elim (eqb_tells c d) [
        | inl same ↦
            let P : ℕ → Type 0 = λ e. TagFits (spare_in (at_channel e (on_channel c (λ _. true) rooms))) (at_channel e es) in
            subst P same.1 (subst (λ n. TagFits n (at_channel c es)) (sym (promise-one c rooms more.known)) more.tags)
        | inr other ↦ subst (λ (o : Option Bool). TagFits (spare_in o) (at_channel d es)) (sym (at-on_other c d (λ _. true) rooms other.1)) (room.tags d)
      ];
  messages = λ d.
      elim (eqb_tells c d) [
        | inl same ↦
            let P : ℕ → Type 0 = λ e. MessageFits (spare_in (at_channel e (on_channel c (λ _. true) rooms))) (at_channel e ts) in
            subst P same.1 (subst (λ n. MessageFits n (at_channel c ts)) (sym (promise-one c rooms more.known)) more.messages)
        | inr other ↦ subst (λ (o : Option Bool). MessageFits (spare_in o) (at_channel d ts)) (sym (at-on_other c d (λ _. true) rooms other.1)) (room.messages d)
      ];
}

pub promise-keeps : (c d : ℕ) (rooms : List (ℕ × Bool)) → IsSome (at_channel c rooms) → spare_in (at_channel d rooms) ≤ spare_in (at_channel d (on_channel c (λ _. true) rooms))
promise-keeps c d rooms has =
    elim (eqb_tells c d) [
      | inl same ↦
          let P : ℕ → Type 0 = λ e. spare_in (at_channel e rooms) ≤ spare_in (at_channel e (on_channel c (λ _. true) rooms)) in
          subst P same.1 (omega (arith, promise-one c rooms has, spare-one (at_channel c rooms)))
      | inr other ↦ omega (arith, ap spare_in (at-on_other c d (λ _. true) rooms other.1))
    ]

-- a confirm mode with the same tags and as many queued publishes
pub keeps-same : (l k : ConfirmMode) → k.tags ≡ l.tags → k.queued ≡ l.queued → KeepsTags l k
keeps-same l k tags queued = let spare : k.tags.spare ≡ l.tags.spare = ap (λ (x : Slots ℕ). x.spare) tags in omega arith

-- the promise of a channel is used, and its confirm mode changes
pub room-used : (c : ℕ) (l k : ConfirmMode) (rooms after : List (ℕ × Bool)) (es : List (ℕ × ConfirmMode)) (ts : List (ℕ × ReturnedMessages)) (s t : ℕ) → at_channel c es ≡ Some l → HaveRoom rooms es ts s → ((d : ℕ) → d ≢ c → at_channel d after ≡ at_channel d rooms) → spare_in (at_channel c after) ≡ 0 → promised after ≤ t → k.queued ≤ k.tags.spare → HaveRoom after (on_channel c (λ _. k) es) ts t
room-used c l k rooms after es ts s t is room others none cells fits =
    let before : HaveRoom after es ts t = room-less rooms after es ts s t room less cells in
    let free : 0 + k.queued ≤ k.tags.spare = omega arith in
    record {
      cells = cells;
      tags = each-on (λ d o. TagFits (spare_in (at_channel d after)) o) c l k es is before.tags (subst (λ n. TagFits n (Some k)) (sym none) free);
      messages = before.messages;
    }
  where
    less : (d : ℕ) → spare_in (at_channel d after) ≤ spare_in (at_channel d rooms)
    less d =
        elim (eqb_tells d c) [
          | inl same ↦
              let P : ℕ → Type 0 = λ e. spare_in (at_channel e after) ≤ spare_in (at_channel e rooms) in
              subst P (sym same.1) (omega (arith, none))
          | inr other ↦ omega (arith, ap spare_in (others d other.1))
        ]

-- ---- a returned messages changes

message-kept : (n : ℕ) (t u : ReturnedMessages) → MessageFits n (Some t) → (HasPlace t → HasPlace u) → MessageFits n (Some u)
message-kept n t u fits keeps = λ more. keeps (fits more)

pub messages-kept : (c : ℕ) (t u : ReturnedMessages) (rooms : List (ℕ × Bool)) (ts : List (ℕ × ReturnedMessages)) → at_channel c ts ≡ Some t → MessagesFit rooms ts → (HasPlace t → HasPlace u) → MessagesFit rooms (on_channel c (λ _. u) ts)
messages-kept c t u rooms ts is fit keeps =
    let here : MessageFits (spare_in (at_channel c rooms)) (Some t) = subst (MessageFits (spare_in (at_channel c rooms))) is (fit c) in
    each-on (λ d o. MessageFits (spare_in (at_channel d rooms)) o) c t u ts is fit (message-kept (spare_in (at_channel c rooms)) t u here keeps)

-- ---- room grows

-- a confirm mode with more room for tags alone
pub grown-tied : (c : ℕ) (l k : ConfirmMode) (es : List (ℕ × ConfirmMode)) (cells : List (Option Cell)) → at_channel c es ≡ Some l → k ≡ record l { tags = k.tags } → k.tags.slots ≡ l.tags.slots → l.tags.spare ≤ k.tags.spare → AllTied es cells → AllTied (on_channel c (λ _. k) es) cells
grown-tied c l k es cells is rest tags more all =
    let tied = tied-of c l es cells is all in
    let queued : k.queued ≡ l.queued = ap (λ (x : ConfirmMode). x.queued) rest in
    let room : l.queued ≤ l.tags.spare = tied.room in
    all-on c l k es cells cells is all (tied-roomier c l k cells cells tied rest tags (omega arith) refl) (λ d o other still. still)

pub grown-tags : (c : ℕ) (l k : ConfirmMode) (rooms : List (ℕ × Bool)) (es : List (ℕ × ConfirmMode)) → at_channel c es ≡ Some l → k.queued ≡ l.queued → l.tags.spare ≤ k.tags.spare → TagsFit rooms es → TagsFit rooms (on_channel c (λ _. k) es)
grown-tags c l k rooms es is queued more fit = tags-kept c l k rooms es is fit (omega arith)

-- what fits at a channel whose confirm mode or returned messages changed
pub tag-there : (n c : ℕ) (l k : ConfirmMode) (es : List (ℕ × ConfirmMode)) → at_channel c es ≡ Some l → n + k.queued ≤ k.tags.spare → TagFits n (at_channel c (on_channel c (λ _. k) es))
tag-there n c l k es is fits = subst (TagFits n) (sym (at-on_same c (λ _. k) es ∙ ap (option_map (λ _. k)) is)) fits

pub message-there : (n c : ℕ) (t u : ReturnedMessages) (ts : List (ℕ × ReturnedMessages)) → at_channel c ts ≡ Some t → HasPlace u → MessageFits n (at_channel c (on_channel c (λ _. u) ts))
message-there n c t u ts is has = subst (MessageFits n) (sym (at-on_same c (λ _. u) ts ∙ ap (option_map (λ _. u)) is)) (λ more. has)

-- ---- a message arrives, a new opening begins

-- a returned messages changes as the promise of its channel is given up
pub room-received : (c : ℕ) (t u : ReturnedMessages) (rooms : List (ℕ × Bool)) (es : List (ℕ × ConfirmMode)) (ts : List (ℕ × ReturnedMessages)) (s : ℕ) → at_channel c ts ≡ Some t → HaveRoom rooms es ts s → HaveRoom (on_channel c (λ _. false) rooms) es (on_channel c (λ _. u) ts) s
room-received c t u rooms es ts s is room =
    let after = on_channel c (λ (b : Bool). false) rooms in
    let cells : promised after ≤ s = given-fits c rooms s room.cells in
    let base : HaveRoom after es ts s = room-less rooms after es ts s s room (λ d. given-less c d rooms) cells in
    record {
      cells = cells;
      tags = base.tags;
      messages = each-on (λ d o. MessageFits (spare_in (at_channel d after)) o) c t u ts is base.messages (λ more. absurd (let none : 0 < 0 = subst (λ n. 0 < n) (given-none c rooms) more in omega arith));
    }

-- the confirm mode of a new opening, with room where that is promised
pub room-begun : (c n : ℕ) (k : ConfirmMode) (rooms : List (ℕ × Bool)) (es : List (ℕ × ConfirmMode)) → TagsFit rooms es → k.queued ≡ 0 → n ≤ k.tags.spare → spare_in (at_channel c rooms) ≡ n → TagsFit rooms (with_channel c k es)
room-begun c n k rooms es fit none more is =
    let here : spare_in (at_channel c rooms) + k.queued ≤ k.tags.spare = omega (arith, none, more, is) in
    each-with (λ d o. TagFits (spare_in (at_channel d rooms)) o) c k es fit here

pub all-begun : (c : ℕ) (k : ConfirmMode) (es : List (ℕ × ConfirmMode)) (cells : List (Option Cell)) → AllTied es cells → Tied c k cells → AllTied (with_channel c k es) cells
all-begun c k es cells all tied = each-with (λ d o. TiedAt d o cells) c k es all tied

-- a first returned messages, with room for a message where that is promised
pub messages-begun : (c : ℕ) (b : Bool) (t : ReturnedMessages) (rooms : List (ℕ × Bool)) (ts : List (ℕ × ReturnedMessages)) → at_channel c ts ≡ None → MessagesFit rooms ts → spare_in (at_channel c rooms) ≡ cond b 1 0 → (b ≡ true → HasPlace t) → MessagesFit rooms (ts ++ (c, t) ∷ [])
messages-begun c b t rooms ts none fit is has = each-push (λ d o. MessageFits (spare_in (at_channel d rooms)) o) c t ts none fit (λ more. has (by b (subst (λ n. 0 < n) is more)))
  where
    by : (x : Bool) → 0 < cond x 1 0 → x ≡ true
    by true more = refl
    by false more = absurd (omega arith)

-- other returned by channel that have the same room
pub with-messages : (rooms : List (ℕ × Bool)) (es : List (ℕ × ConfirmMode)) (ts us : List (ℕ × ReturnedMessages)) (s : ℕ) → HaveRoom rooms es ts s → MessagesFit rooms us → HaveRoom rooms es us s
with-messages rooms es ts us s room fit = record { cells = room.cells; tags = room.tags; messages = fit }

-- ---- where publishes belong

pub same-origins : (rooms : List (ℕ × Bool)) (cells after : List (Option Cell)) (origins : Slots Origin) → OriginsKept rooms cells origins → length after ≡ length cells → OriginsKept rooms after origins
same-origins rooms cells after origins kept same = record { count = kept.count ∙ sym same; room = kept.room }
