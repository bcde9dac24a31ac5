-- The tables of a hierarchy as a list, in the order of a walk from the root. A hierarchy is valid, and a pool fits it, if and
-- only if the list of its tables and of the pool's frames is sound. So a test can go down the tables and visit each once.
use Rattle.std.specs.Prelude.{◌≡◌, ◌⊎◌, zero, suc, ℕ, Bool, true, false, cond, List, [], ◌∷◌, ◌++◌, length, ◌+◌, ◌≤◌, IsSome, Option, Some, None}
use Rattle.std.specs.List.{flat_map}
use Rattle.x86_64_model.specs.Entry.{huge, address, names_table}
use Rattle.x86_64_model.specs.Path.{indices}
use Rattle.x86_64_model.specs.Memory.{Words, word, set_word}
use Rattle.x86_64_model.specs.Validity.{read_at}
use Rattle.x86_64_model.specs.Lists.{In, EachOnce}

-- The table in a frame and all tables below it, through n levels, each before those below it.
unfoldable pub tables_from : (n : ℕ) → Words → (frame : ℕ) → List ℕ
tables_from zero T f = f ∷ []
tables_from (suc n) T f = f ∷ flat_map (λ i. cond (names_table (word T f i)) (tables_from n T (address (word T f i))) []) indices

-- The words, with word r of the root read as 0, or as they are if r is None.
abbrev pub without_word : (r : Option ℕ) → (root : ℕ) → Words → Words
without_word None root T = T
without_word (Some r) root T = set_word T root r 0

-- From a frame's table with n levels of tables below it, no word above level three is huge.
pub record NoneHuge (n : ℕ) (T : Words) (f : ℕ) : Type 0 where
  pub at : (p : List ℕ) → length p + 3 ≤ suc n → huge (read_at (suc n) T f p) ≡ false

-- The tables from the root and the frames of a pool are each in the memory and visited once, and all but the root are served. No
-- word above level three is huge.
pub record SoundTables (n : ℕ) (T : Words) (root : ℕ) (serves : ℕ → Bool) (pool : List ℕ) : Type 0 where
  pub none_huge : NoneHuge n T root
  pub each_once : EachOnce (tables_from n T root ++ pool)
  pub in_memory : (f : ℕ) → In (tables_from n T root ++ pool) f → IsSome (T f)
  pub served : (f : ℕ) → In (tables_from n T root ++ pool) f → (f ≡ root) ⊎ (serves f ≡ true)
