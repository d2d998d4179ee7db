-- A loop over all messages: what it did and what is left to do is what the definition makes of them all.
use Rattle.std.proofs.Common.{◌≡◌, ◌∙◌, ℕ, ◌+◌, ◌<◌, ◌≤◌, Bool, false, cond, List, [], ◌∷◌, ◌++◌, length, map, take, drop, get_or, refl, sym, ap, subst, append_assoc, append-nil, arith}
use Rattle.std.specs.Prelude.{set}
use Rattle.std.proofs.lemmas.List.{map-append, drop-set-lt, take_more_set, drop_more, drop_all, take_all}
use Rattle.lapin_joint.specs.JoinedRun.{JoinedRun, StandsFor}
use Rattle.lapin_resend.specs.declared.message.Submitted.{Submitted}
use Rattle.lapin_resend.specs.Messages.{Standing, waits, confirm_of}
use Rattle.lapin_resend.specs.Publisher.{Steps, Met, All, told, with_event, in_front, publishing, publish_one, each}
use Rattle.lapin_resend.specs.Follows.{standing, Meets, MeetEach}

-- messages in front of those behind them
abbrev pub after_front : List Standing → All → All
after_front xs a = (xs ++ a.0, a.1)

module _ (meet : ℕ → Steps → Standing → Met) where
  -- the messages below place i are done, and the joined run came to now
  pub record Going (all : List Submitted) (start now : JoinedRun) (items : List Submitted) (i : ℕ) : Type 0 where
    pub leads : (n : ℕ) (made : Steps) → StandsFor n made start → (mid : Steps) × StandsFor n mid now × (each (meet n) made (map standing all) ≡ after_front (map standing (take i items)) (each (meet n) mid (map standing (drop i items))))

  pub going_start : (all : List Submitted) (start : JoinedRun) → Going all start start all 0
  going_start all start = record { leads = λ n made h. (made, h, refl) }

  -- one more is done
  pub going_next : (all : List Submitted) (start old new : JoinedRun) (items : List Submitted) (i : ℕ) (x y : Submitted) → Going all start old items i → i < length items → x ≡ get_or items i x → Meets meet old new x y → Going all start new (set items i y) (i + 1)
  going_next all start old new items i x y going lt is met = record {
    leads = λ n made h.
        let before = going.leads n made h in
        let mid : Steps = before.0 in
        let one = met n mid before.1 in
        let next : Steps = (meet n mid (standing x)).1 in
        let cut : drop i items ≡ x ∷ drop (i + 1) items = drop_more items i x lt ∙ ap (λ (z : Submitted). z ∷ drop (i + 1) items) (sym is) in
        let rest : List Standing = map standing (drop (i + 1) items) in
        let later : All = each (meet n) next rest in
        let behind : each (meet n) mid (map standing (drop i items)) ≡ in_front (standing y) later =
        ap (λ (zs : List Submitted). each (meet n) mid (map standing zs)) cut
        ∙ ap (λ (z : Standing). in_front z later) (sym one.0) in
        let grown : map standing (take i items) ++ standing y ∷ [] ≡ map standing (take (i + 1) (set items i y)) =
        sym (map-append standing (take i items) (y ∷ [])) ∙ ap (map standing) (sym (take_more_set items i y lt)) in
        let same : rest ≡ map standing (drop (i + 1) (set items i y)) = ap (map standing) (sym (drop-set-lt (i + 1) items i y (omega arith))) in
        let regrouped : after_front (map standing (take i items)) (in_front (standing y) later) ≡ after_front (map standing (take i items) ++ standing y ∷ []) later =
        ap (λ (zs : List Standing). (zs, later.1)) (sym (append_assoc (map standing (take i items)) (standing y ∷ []) later.0)) in (
          next,
          one.1,
          before.2
              ∙ ap (after_front (map standing (take i items))) behind
              ∙ regrouped
              ∙ ap (λ (zs : List Standing). after_front zs later) grown
              ∙ ap (λ (zs : List Standing). after_front (map standing (take (i + 1) (set items i y))) (each (meet n) next zs)) same,
        );
  }

  -- all are done
  pub going_end : (all : List Submitted) (start now : JoinedRun) (items : List Submitted) (i : ℕ) → Going all start now items i → length items ≤ i → MeetEach meet start now all items
  going_end all start now items i going le n made h =
      let last = going.leads n made h in
      let whole : each (meet n) made (map standing all) ≡ (map standing items, last.0) =
      last.2
      ∙ ap (λ (zs : List Submitted). after_front (map standing (take i items)) (each (meet n) last.0 (map standing zs))) (drop_all i items le)
      ∙ ap (λ (zs : List Submitted). (map standing zs ++ [], last.0)) (take_all i items le)
      ∙ ap (λ (zs : List Standing). (zs, last.0)) (append-nil (map standing items)) in
      (sym (ap (λ (a : All). a.0) whole), subst (λ (ss : Steps). StandsFor n ss now) (sym (ap (λ (a : All). a.1) whole)) last.1)

-- one that doesn't wait isn't published
pub publish_none : (s : Submitted) (k : JoinedRun) → waits (standing s) ≡ false → Meets publish_one k k s s
publish_none s k still n made h =
    let P : Bool → Type 0 = λ b.
    (standing s ≡ (cond {A = Met} b (record (standing s) { outstanding = confirm_of (told n made (publishing (standing s))) }, with_event (publishing (standing s)) made) (standing s, made)).0)
    × StandsFor n (cond {A = Met} b (record (standing s) { outstanding = confirm_of (told n made (publishing (standing s))) }, with_event (publishing (standing s)) made) (standing s, made)).1 k in
    subst P (sym still) (refl, h)

-- what a loop wrote back
pub written_back : (k : ℕ) (xs ys : List Submitted) → length xs ≤ length ys → length ys ≤ k → take k (ys ++ drop (length ys) xs) ≡ ys
written_back k xs ys le within =
    ap (λ (zs : List Submitted). take k (ys ++ zs)) (drop_all (length ys) xs le)
    ∙ ap (take k) (append-nil ys)
    ∙ take_all k ys within
