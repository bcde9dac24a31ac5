-- Two hierarchies to which two mappers reply alike: one with frames at the places of their numbers, and one with a recursive
-- index.
use Rattle.std.specs.Prelude.{◌≡◌, ℕ}
use Rattle.x86_64_model.specs.Alike.{Alike}
use Rattle.x86_64_model.specs.Hierarchy.{◌laid_in◌, PoolFits, paths}
use Rattle.x86_64_model.specs.Pool.{serves_below}
use Rattle.x86_64_model.specs.Memory.{Memory, identity_places}
use Rattle.x86_64_tables.specs.FramePool.{FreeFrames}
use Rattle.x86_64_mappers.specs.Layouts.{direct_at}
use Rattle.x86_64_mappers.specs.Recursive.{recursive_now_at}

-- Both are valid with this number of levels, the second one with the recursive index, and their pools fit them. The path maps are
-- alike, and the free frames equal.
pub record AreAlikePair (levels root index : ℕ) (memory : Memory) (pool : FreeFrames) (walked : Memory) (walked_pool : FreeFrames) : Type 0 where
  pub fits : PoolFits (direct_at levels identity_places root laid_in memory) (serves_below pool.limit) pool.frames
  pub walked_fits : PoolFits (recursive_now_at levels walked root index laid_in walked) (serves_below walked_pool.limit) walked_pool.frames
  pub alike : Alike levels (paths (direct_at levels identity_places root laid_in memory)) (paths (recursive_now_at levels walked root index laid_in walked))
  pub same_free : pool.frames ≡ walked_pool.frames
