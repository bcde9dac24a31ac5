-- The contents of a memory after a table was put into it.
use Rattle.std.proofs.Common.{◌≡◌, ◌≢◌, ⊎_elim, ℕ, ◌==◌, true, false, cond, List, Some, None, refl, sym, ap, ap₂, ◌∙◌, eq-eqb, ne_eqb}
use Rattle.std.proofs.lemmas.Bool.{cases_eq}
use Rattle.std.specs.Cmp.{nat_cmp_total}
use Rattle.std.specs.FinMap.{get, insert, get-insert, same_map, nat_cmp-IsAntisymmetric}
use Rattle.x86_64_model.specs.Memory.{Memory, Places, Distinct, words_of}
use Rattle.x86_64_model.proofs.Lemmas.Hierarchies.Memories.{same_key, other_key}

pub get-put_same : (m : Memory) (a : ℕ) (words : List ℕ) → get (insert m a words) a ≡ Some words
get-put_same m a words = get-insert nat_cmp_total m a words a ∙ ap (λ b. cond b (Some words) (get m a)) (same_key a)

-- the memory's contents at another place
pub get-put : (m : Memory) (a k : ℕ) (words : List ℕ) → k ≢ a → get (insert m a words) k ≡ get m k
get-put m a k words n = get-insert nat_cmp_total m a words k ∙ ap (λ b. cond b (Some words) (get m k)) (other_key k a n)

-- a table that is put back where it was
pub put_back : (m : Memory) (a : ℕ) (words : List ℕ) → get m a ≡ Some words → insert m a words ≡ m
put_back m a words is = same_map nat_cmp_total nat_cmp-IsAntisymmetric _ m (λ k. ⊎_elim
    (λ e. ap (get (insert m a words)) e ∙ get-put_same m a words ∙ sym is ∙ ap (get m) (sym e))
    (λ n. get-put m a k words n)
    (cases_eq k a))

pub there_is : (m : Memory) (places : Places) (f : ℕ) → places.covers f ≡ true → words_of m places f ≡ get m (places.place f)
there_is m places f c = ap (λ b. cond b (get m (places.place f)) None) c

-- the tables after one was put at a covered frame's place
pub words_of-put : (m : Memory) (places : Places) (f : ℕ) (words : List ℕ) → Distinct places → places.covers f ≡ true → (g : ℕ)
    → words_of (insert m (places.place f) words) places g ≡ cond (g == f) (Some words) (words_of m places g)
words_of-put m places f words apart covered g = ⊎_elim
    (λ e. ap₂ (λ c k. cond c (get (insert m (places.place f) words) k) None) (ap places.covers e ∙ covered) (ap places.place e)
    ∙ get-put_same m (places.place f) words
    ∙ sym (ap (λ b. cond b (Some words) (words_of m places g)) (eq-eqb g f e)))
    (λ n. elsewhere n ∙ sym (ap (λ b. cond b (Some words) (words_of m places g)) (ne_eqb g f n)))
    (cases_eq g f)
  where
    elsewhere : g ≢ f → words_of (insert m (places.place f) words) places g ≡ words_of m places g
    elsewhere n = elim (places.covers g) as (λ c. places.covers g ≡ c → cond c (get (insert m (places.place f) words) (places.place g)) None ≡ cond c (get m (places.place g)) None) [
      | true ↦ λ c. get-put m (places.place f) (places.place g) words (λ e. n (apart g f c covered e))
      | false ↦ λ c. refl
    ] refl
