-- What a step with a pool in an array that is lent does, stated of the array.
use Rattle.std.proofs.Common.{◌≡◌, ℕ, Bool, true, List, [], refl, sym, ap, ◌∙◌, subst}
use Rattle.std.specs.Borrow.{GName}
use Rattle.x86_64_model.specs.Hierarchy.{PoolFits}
use Rattle.x86_64_model.specs.Memory.{IsMapping, Memory, Places}
use Rattle.x86_64_model.specs.Store.{Store}
use Rattle.x86_64_model.proofs.Lemmas.Hierarchies.Memories.{covered}
use Rattle.x86_64_mappers.specs.Layouts.{owned_at}
use Rattle.x86_64_tables.specs.LentPool.{is_in, served_by}
use Rattle.x86_64_tables.specs.private.PoolLaws.{served_frame}
use Rattle.x86_64_c.specs.private.Pools.{stack}

-- a pool serves the root if this is one of its own frames
pub serves_root : (own : List ℕ) (array count : GName) (serves : ℕ → Bool) → serves ≡ served_by own array count → (L : ℕ) (places : Places) → IsMapping places → (root : ℕ) (m : Memory) (pool : List ℕ)
    → PoolFits (owned_at {Lent = Unit {0}} L places root m tt) (is_in own) pool → is_in own root ≡ true → serves root ≡ true
serves_root own array count serves same L places maps root m pool fits among =
    let there = fits.valid.valid.holds.in_memory [] root refl in
    let frame = maps.frames root (covered m places root there) in
    ap (λ s. s root) same ∙ served_frame own array count root frame among

-- what is done to pools that serve the names of the loans, too, is done to those that serve their own frames alone
pub lent_step : (P : (pool rest : Store) → Type 0) (own : List ℕ) (serves also : ℕ → Bool) → also ≡ serves
    → ((free rest : List ℕ) → P (stack serves free) (stack serves rest) → P (stack (is_in own) free) (stack (is_in own) rest))
    → (pool rest free left : List ℕ) → pool ≡ free → left ≡ rest → P (stack serves pool) (stack also rest) → P (stack (is_in own) free) (stack (is_in own) left)
lent_step P own serves also alike law pool rest free left had has does =
    subst (λ l. P (stack (is_in own) free) (stack (is_in own) l)) (sym has)
    (subst (λ f. P (stack (is_in own) f) (stack (is_in own) rest)) had
    (law pool rest (subst (λ s. P (stack serves pool) (stack s rest)) alike does)))
