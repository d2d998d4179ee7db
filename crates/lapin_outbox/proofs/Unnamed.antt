-- The first channel of a set that isn't named, as one after another is looked at.
use Rattle.std.proofs.Common.{◌≡◌, ◌≢◌, ℕ, ◌+◌, ◌<◌, ◌≤◌, Bool, true, false, List, sym, ◌∙◌, ap, arith, inl, inr}
use Rattle.std.proofs.lemmas.Bool.{true≢false, cases_lt}
use Rattle.std.proofs.lemmas.Bool.Decides.{eqb_tells}
use Rattle.lapin_full.specs.ChannelSet.{is_in}
use Rattle.lapin_full.specs.FullChannels.{AllFull, IsFirstOpen}

module _ (t : ℕ → Bool) (set : List ℕ) (from number : ℕ) (done : (c : ℕ) → from ≤ c → c < number → is_in c set ≡ true → t c ≡ true) where
  -- those in front of the next one are named
  before : (n c : ℕ) → IsFirstOpen (λ _. false) set number n → from ≤ c → c < n → is_in c set ≡ true → t c ≡ true
  before n c next on lt inside = elim (cases_lt c number) [
    | inl old ↦ done c on old inside
    | inr new ↦ absurd (true≢false (sym (next.first c new lt inside)))
  ]

  -- the next one isn't named: it is the first
  pub unnamed-first : (n : ℕ) → from ≤ number → IsFirstOpen (λ _. false) set number n → t n ≡ false → IsFirstOpen t set from n
  unnamed-first n less next open_ = record {
    from_on = let there : number ≤ n = next.from_on in omega arith;
    inside = next.inside;
    open_ = open_;
    first = λ c on lt inside. before n c next on lt inside;
  }

  -- the next one is named too
  pub named-next : (n : ℕ) → IsFirstOpen (λ _. false) set number n → t n ≡ true → (c : ℕ) → from ≤ c → c < n + 1 → is_in c set ≡ true → t c ≡ true
  named-next n next named c on lt inside = elim (eqb_tells c n) [
    | inl same ↦ ap t same.1 ∙ named
    | inr other ↦ let apart : c ≢ n = other.1 in before n c next on (omega arith) inside
  ]

  -- there is no next one
  pub all-named : AllFull (λ _. false) set number → AllFull t set from
  all-named all c on inside = elim (cases_lt c number) [
    | inl old ↦ done c on old inside
    | inr new ↦ absurd (true≢false (sym (all c new inside)))
  ]
