-- What stands under other names stays, whatever is done under one.
use Rattle.std.proofs.Common.{◌≡◌, ℕ, true, false, cond, List, [], ◌∷◌, Some, refl, sym, ap, ◌∙◌}
use Rattle.std.specs.Prelude.{nat_eq}
use Rattle.std.specs.Cmp.Lexicographic.{pointwise, texts_ties}
use Rattle.std.specs.declared.cmp.Ordering.TheVariants.{Less, Equal, Greater}
use Rattle.std.specs.FinMap.Entries as entries
use Rattle.std.proofs.lemmas.Map.Lookups.{exact_bytes}
use Rattle.lapin_registry.specs.declared.exchanges.ExchangeDefinition.{ExchangeDefinition}
use Rattle.lapin_registry.specs.declared.queues.QueueDefinition.{QueueDefinition}
use Rattle.lapin_registry.specs.ByName.{name_cmp, is_named, named, amended, changed, without}
use Rattle.lapin_registry.specs.Marks.{RegistryMark, name_in}
use Rattle.lapin_registry.specs.Marks as mark
use Rattle.lapin_registry.specs.Topology.{exchange_name, undeclared_exchange, declared_exchange, bound_exchange, unbound_exchange, queue_name, undeclared_queue, declared_queue, bound_queue, unbound_queue, binding, exchanges_after, queues_after}
use Rattle.std.proofs.lemmas.Bool.{cond-false}
use Rattle.lapin_registry.proofs.Names.{is_equal}

module _ {X : Type 0} (name_of : X → List ℕ) (n m : List ℕ) (differs : pointwise nat_eq n m ≡ false) where
  -- one that has the name hasn't the other
  hasnt : (x : X) → name_of x ≡ n → is_named name_of m x ≡ false
  hasnt x e = ap (λ l. pointwise nat_eq l m) e ∙ differs

  named_it : (x : X) → is_named name_of n x ≡ true → name_of x ≡ n
  named_it x e = exact_bytes (name_of x) n (is_equal _ (sym (texts_ties (name_of x) n) ∙ e))

  -- one more or less of another name at the front
  passed : (x : X) (xs : List X) → is_named name_of m x ≡ false → named name_of m (x ∷ xs) ≡ named name_of m xs
  passed x xs e = cond-false (is_named name_of m x) (Some x) (named name_of m xs) e

  behind : (x : X) (xs ys : List X) → named name_of m xs ≡ named name_of m ys → named name_of m (x ∷ xs) ≡ named name_of m (x ∷ ys)
  behind x xs ys e = ap (λ o. cond (is_named name_of m x) (Some x) o) e

  pub other_amended : (fresh : X) (f : X → X) → name_of (f fresh) ≡ n → ((x : X) → name_of (f x) ≡ name_of x) → (xs : List X) → named name_of m (amended name_of n fresh f xs) ≡ named name_of m xs
  other_amended fresh f fits keeps [] = passed (f fresh) [] (hasnt (f fresh) fits)
  other_amended fresh f fits keeps (x ∷ xs) =
      elim (name_cmp n (name_of x)) as (λ o. name_cmp n (name_of x) ≡ o → named name_of m (entries.by_order o (f fresh ∷ x ∷ xs) (f x ∷ xs) (x ∷ amended name_of n fresh f xs)) ≡ named name_of m (x ∷ xs)) [
        | Less ↦ λ e. passed (f fresh) (x ∷ xs) (hasnt (f fresh) fits)
        | Equal ↦ λ e. passed (f x) xs (hasnt (f x) (keeps x ∙ sym (exact_bytes n (name_of x) e))) ∙ sym (passed x xs (hasnt x (sym (exact_bytes n (name_of x) e))))
        | Greater ↦ λ e. behind x (amended name_of n fresh f xs) xs (other_amended fresh f fits keeps xs)
      ] refl

  pub other_changed : (f : X → X) → ((x : X) → name_of (f x) ≡ name_of x) → (xs : List X) → named name_of m (changed name_of n f xs) ≡ named name_of m xs
  other_changed f keeps [] = refl
  other_changed f keeps (x ∷ xs) =
      elim (is_named name_of n x) as (λ b. is_named name_of n x ≡ b → named name_of m (cond b (f x) x ∷ changed name_of n f xs) ≡ named name_of m (x ∷ xs)) [
        | true ↦ λ e. passed (f x) (changed name_of n f xs) (hasnt (f x) (keeps x ∙ named_it x e)) ∙ other_changed f keeps xs ∙ sym (passed x xs (hasnt x (named_it x e)))
        | false ↦ λ e. behind x (changed name_of n f xs) xs (other_changed f keeps xs)
      ] refl

  pub other_without : (xs : List X) → named name_of m (without name_of n xs) ≡ named name_of m xs
  other_without [] = refl
  other_without (x ∷ xs) =
      elim (is_named name_of n x) as (λ b. is_named name_of n x ≡ b → named name_of m (cond b (without name_of n xs) (x ∷ without name_of n xs)) ≡ named name_of m (x ∷ xs)) [
        | true ↦ λ e. other_without xs ∙ sym (passed x xs (hasnt x (named_it x e)))
        | false ↦ λ e. behind x (without name_of n xs) xs (other_without xs)
      ] refl

pub exchanges_stay : (k : RegistryMark) (m : List ℕ) (xs : List ExchangeDefinition) → pointwise nat_eq (name_in k) m ≡ false → named exchange_name m (exchanges_after k xs) ≡ named exchange_name m xs
exchanges_stay (mark.ExchangeDeclared n k o a) m xs e = other_amended exchange_name n m e (undeclared_exchange n) (declared_exchange k o a) refl (λ x. refl) xs
exchanges_stay (mark.ExchangeDeleted n) m xs e = other_without exchange_name n m e xs
exchanges_stay (mark.ExchangeBound n s k a) m xs e = other_amended exchange_name n m e (undeclared_exchange n) (bound_exchange (binding s k a)) refl (λ x. refl) xs
exchanges_stay (mark.ExchangeUnbound n s k a) m xs e = other_changed exchange_name n m e (unbound_exchange s k a) (λ x. refl) xs
exchanges_stay (mark.QueueDeclared n o a) m xs e = refl
exchanges_stay (mark.QueueDeleted n) m xs e = refl
exchanges_stay (mark.QueueBound n s k a) m xs e = refl
exchanges_stay (mark.QueueUnbound n s k a) m xs e = refl

pub queues_stay : (k : RegistryMark) (m : List ℕ) (qs : List QueueDefinition) → pointwise nat_eq (name_in k) m ≡ false → named queue_name m (queues_after k qs) ≡ named queue_name m qs
queues_stay (mark.QueueDeclared n o a) m qs e = other_amended queue_name n m e (undeclared_queue n) (declared_queue o a) refl (λ q. refl) qs
queues_stay (mark.QueueDeleted n) m qs e = other_without queue_name n m e qs
queues_stay (mark.QueueBound n s k a) m qs e = other_amended queue_name n m e (undeclared_queue n) (bound_queue (binding s k a)) refl (λ q. refl) qs
queues_stay (mark.QueueUnbound n s k a) m qs e = other_changed queue_name n m e (unbound_queue s k a) (λ q. refl) qs
queues_stay (mark.ExchangeDeclared n k o a) m qs e = refl
queues_stay (mark.ExchangeDeleted n) m qs e = refl
queues_stay (mark.ExchangeBound n s k a) m qs e = refl
queues_stay (mark.ExchangeUnbound n s k a) m qs e = refl
