-- The texts of a message: what each property is once one is put before the others, and that equal properties have equal texts.
use Rattle.std.proofs.Common.{ℕ, zero, suc, ◌<◌, arith, ◌≡◌, Bool, true, false, List, [], ◌∷◌, refl, sym, ap, ◌∙◌, Option, Some, eqb-true, ◌==◌}
use Rattle.std.specs.Prelude.{if◌then◌else◌}
use Rattle.lapin_values.specs.Data.{Data}
use Rattle.lapin_values.specs.Texts.{text_of, without, seen}
use Rattle.lapin_values.specs.Chain.{Chain}

falls : (b : Bool) (x y : Option (List ℕ)) → b ≡ false → (if b then x else y) ≡ y
falls true x y e = cc
falls false x y e = refl

chosen : (b : Bool) (x y z : Option (List ℕ)) → (b ≡ false → y ≡ z) → (if b then x else y) ≡ (if b then x else z)
chosen true x y z h = refl
chosen false x y z h = h refl

past : (b : Bool) (n : ℕ) (t : ℕ × List ℕ) (ws ts : List (ℕ × List ℕ)) → (b ≡ true → (n == t.0) ≡ false) → text_of n ws ≡ text_of n ts
    → text_of n (if b then ws else t ∷ ws) ≡ text_of n (t ∷ ts)
past true n t ws ts h e = e ∙ sym (falls (n == t.0) (Some t.1) (text_of n ts) (h refl))
past false n t ws ts h e = ap (λ z. if n == t.0 then Some t.1 else z) e

-- without one property the others are as they were
others : (k n : ℕ) (ts : List (ℕ × List ℕ)) → (n == k) ≡ false → text_of n (without k ts) ≡ text_of n ts
others k n [] h = refl
others k n (t ∷ ts) h = past (k == t.0) n t (without k ts) ts (λ e. ap (λ z. n == z) (sym (eqb-true k t.0 e)) ∙ h) (others k n ts h)

pub put_over : (k n : ℕ) (v : List ℕ) (ts : List (ℕ × List ℕ)) → text_of n ((k, v) ∷ without k ts) ≡ (if n == k then Some v else text_of n ts)
put_over k n v ts = chosen (n == k) (Some v) (text_of n (without k ts)) (text_of n ts) (others k n ts)

-- equal properties have equal texts
module _ (s t : Chain) (x y : List (List ℕ × Data)) (e : seen s x ≡ seen t y) where
  pub same_slots : (n : ℕ) → n < 10 → text_of n s.texts ≡ text_of n t.texts
  same_slots zero l = ap (λ q. q.content_type) e
  same_slots (suc zero) l = ap (λ q. q.content_encoding) e
  same_slots (suc (suc zero)) l = ap (λ q. q.correlation_id) e
  same_slots (suc (suc (suc zero))) l = ap (λ q. q.reply_to) e
  same_slots (suc (suc (suc (suc zero)))) l = ap (λ q. q.expiration) e
  same_slots (suc (suc (suc (suc (suc zero))))) l = ap (λ q. q.message_id) e
  same_slots (suc (suc (suc (suc (suc (suc zero)))))) l = ap (λ q. q.kind) e
  same_slots (suc (suc (suc (suc (suc (suc (suc zero))))))) l = ap (λ q. q.user_id) e
  same_slots (suc (suc (suc (suc (suc (suc (suc (suc zero)))))))) l = ap (λ q. q.app_id) e
  same_slots (suc (suc (suc (suc (suc (suc (suc (suc (suc zero))))))))) l = ap (λ q. q.cluster_id) e
  same_slots (suc (suc (suc (suc (suc (suc (suc (suc (suc (suc n)))))))))) l = absurd (omega arith)
