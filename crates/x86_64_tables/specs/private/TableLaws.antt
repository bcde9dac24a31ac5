-- Proofs of the laws of table memories. They are here because a `ghost use` can't name a file of proofs/.
use Rattle.std.specs.Prelude.{◌≡◌, ◌<◌, ◌+◌, ℕ, suc, zero, Bool, true, false, cond, List, [], ◌∷◌, length, Option, Some, IsSome, is_some, slice_set}
use Rattle.std.specs.Cmp.{nat_cmp_total}
use Rattle.std.specs.FinMap.{get, insert, get-empty, get-insert, same_map, nat_cmp-IsAntisymmetric}
use Rattle.std.specs.List.{range_with_len}
use Rattle.std.specs.Ordering.{nat_cmp, eq_by_cmp}
use Rattle.std.proofs.Common.{◌≢◌, ⊎_elim, refl, sym, subst, ap, ◌∙◌, arith}
use Rattle.std.proofs.lemmas.Bool.{cases_eq, false≢true}
use Rattle.std.proofs.lemmas.List.{length-set}
use Rattle.x86_64_model.proofs.Lemmas.Hierarchies.Memories.{same_key, other_key}
use Rattle.x86_64_model.specs.Memory.{Memory}
use Rattle.x86_64_tables.specs.LentMemory.{numbered}
use Rattle.x86_64_tables.specs.PhysMemory.{tables_at}

-- The memory keeps its places when a table is inserted.
pub stays_there : (memory : Memory) (place : ℕ) (table : List ℕ) (other : ℕ)
    → IsSome (get memory other) → IsSome (get (insert memory place table) other)
stays_there memory place table other there =
    let S : Option (List ℕ) → Type 0 = IsSome in subst S (sym (get-insert nat_cmp_total memory place table other)) (at _)
  where
    at : (same : Bool) → IsSome (cond same (Some table) (get memory other))
    at true = refl
    at false = there

-- The memory that has the given tables, in their order, at the consecutive places from k on.
abbrev from : (k : ℕ) → List (List ℕ) → Memory
from k ts = tables_at (range_with_len k (length ts)) ts

-- The last insertion at a place counts.
put_again : (m : Memory) (k : ℕ) (t w : List ℕ) → insert m k w ≡ insert (insert m k t) k w
put_again m k t w = same_map nat_cmp_total nat_cmp-IsAntisymmetric _ _ (λ q.
    get-insert nat_cmp_total m k w q ∙ either q (eq_by_cmp nat_cmp q k) (get-insert nat_cmp_total m k t q)
    ∙ sym (get-insert nat_cmp_total (insert m k t) k w q))
  where
    either : (q : ℕ) (b : Bool) → get (insert m k t) q ≡ cond b (Some t) (get m q)
        → cond b (Some w) (get m q) ≡ cond b (Some w) (get (insert m k t) q)
    either q true e = refl
    either q false e = ap (λ o. o) (sym e)

-- Insertions at two different places can be swapped.
put_swapped : (m : Memory) (k j : ℕ) (t w : List ℕ) → k ≢ j → insert (insert m j w) k t ≡ insert (insert m k t) j w
put_swapped m k j t w apart = same_map nat_cmp_total nat_cmp-IsAntisymmetric _ _ (λ q.
    get-insert nat_cmp_total (insert m j w) k t q ∙ ap (cond (eq_by_cmp nat_cmp q k) (Some t)) (get-insert nat_cmp_total m j w q)
    ∙ ⊎_elim (λ e. here q e) (λ n. there q n) (cases_eq q k)
    ∙ sym (get-insert nat_cmp_total (insert m k t) j w q ∙ ap (cond (eq_by_cmp nat_cmp q j) (Some w)) (get-insert nat_cmp_total m k t q)))
  where
    Same : (q : ℕ) (a b : Bool) → Type 0
    Same q a b = cond a (Some t) (cond b (Some w) (get m q)) ≡ cond b (Some w) (cond a (Some t) (get m q))

    first : (q : ℕ) (a : Bool) → Same q a false
    first q a = refl

    second : (q : ℕ) (b : Bool) → Same q false b
    second q b = refl

    here : (q : ℕ) → q ≡ k → Same q (eq_by_cmp nat_cmp q k) (eq_by_cmp nat_cmp q j)
    here q e = subst (Same q (eq_by_cmp nat_cmp q k)) (sym (other_key q j (λ f. apart (sym e ∙ f)))) (first q _)

    there : (q : ℕ) → q ≢ k → Same q (eq_by_cmp nat_cmp q k) (eq_by_cmp nat_cmp q j)
    there q n = subst (λ (a : Bool). Same q a (eq_by_cmp nat_cmp q j)) (sym (other_key q k n)) (second q _)

-- If tables lie at the places from k on, replacing the i-th of them is an insertion at place k + i.
set-from : (k : ℕ) (ts : List (List ℕ)) (i : ℕ) (w : List ℕ) → i < length ts
    → tables_at (range_with_len k (length ts)) (slice_set ts i w) ≡ insert (from k ts) (k + i) w
set-from k [] i w h = absurd (omega arith)
set-from k (t ∷ ts) zero w h =
    let e : k ≡ k + 0 = omega arith in
    put_again (from (k + 1) ts) k t w ∙ ap (λ j. insert (from k (t ∷ ts)) j w) e
set-from k (t ∷ ts) (suc i) w h =
    let e : (k + 1) + i ≡ k + suc i = omega arith in
    ap (λ m. insert m k t) (set-from (k + 1) ts i w (omega (arith, h)) ∙ ap (λ j. insert (from (k + 1) ts) j w) e)
    ∙ put_swapped (from (k + 1) ts) k (k + suc i) t w (λ f. absurd (omega (arith, f)))

-- If tables lie at the places from k on, the memory has a place for each of them.
there-from : (k : ℕ) (ts : List (List ℕ)) (i : ℕ) → i < length ts → IsSome (get (from k ts) (k + i))
there-from k [] i h = absurd (omega arith)
there-from k (t ∷ ts) zero h =
    let e : k + 0 ≡ k = omega arith in
    ap is_some (get-insert nat_cmp_total (from (k + 1) ts) k t (k + 0)
    ∙ ap (λ b. cond b (Some t) (get (from (k + 1) ts) (k + 0))) (ap (λ j. eq_by_cmp nat_cmp j k) e ∙ same_key k))
there-from k (t ∷ ts) (suc i) h =
    let e : (k + 1) + i ≡ k + suc i = omega arith in
    stays_there (from (k + 1) ts) k t (k + suc i)
    (subst (λ (j : ℕ). IsSome (get (from (k + 1) ts) j)) e (there-from (k + 1) ts i (omega (arith, h))))

-- If tables lie at the places from k on, the memory has no place past the last of them.
within-from : (k : ℕ) (ts : List (List ℕ)) (q : ℕ) → IsSome (get (from k ts) q) → q < k + length ts
within-from k [] q has = absurd (false≢true (ap is_some (sym (get-empty nat_cmp q)) ∙ has))
within-from k (t ∷ ts) q has = ⊎_elim
    (λ e. omega (arith, e))
    (λ n. let far = within-from (k + 1) ts q (ap is_some (sym (get-insert nat_cmp_total (from (k + 1) ts) k t q
    ∙ ap (λ b. cond b (Some t) (get (from (k + 1) ts) q)) (other_key q k n))) ∙ has) in omega (arith, far))
    (cases_eq q k)

-- Replacing a table of a slice inserts it, in the memory over the slice, at the place with its index.
pub numbered_set : (tables : List (List ℕ)) (place : ℕ) (table : List ℕ) → IsSome (get (numbered tables) place)
    → numbered (slice_set tables place table) ≡ insert (numbered tables) place table
numbered_set tables place table there =
    ap (λ n. tables_at (range_with_len 0 n) (slice_set tables place table)) (length-set tables place table)
    ∙ set-from 0 tables place table (let near = within-from 0 tables place there in omega (arith, near))
    ∙ ap (λ q. insert (numbered tables) q table) from_zero
  where
    from_zero : 0 + place ≡ place
    from_zero = omega arith

-- The memory over a slice of tables keeps its places when one of the tables is replaced.
pub stays_numbered : (tables : List (List ℕ)) (place : ℕ) (table : List ℕ) (other : ℕ)
    → IsSome (get (numbered tables) other) → IsSome (get (numbered (slice_set tables place table)) other)
stays_numbered tables place table other there =
    let n = length-set tables place table in let near = within-from 0 tables other there in
    let from_zero : 0 + other ≡ other = omega arith in
    subst (λ (q : ℕ). IsSome (get (numbered (slice_set tables place table)) q)) from_zero
    (there-from 0 (slice_set tables place table) other (omega (arith, n, near)))
