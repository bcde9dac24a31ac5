-- The hierarchy that the program reads, or two with one image in a pair, as a machine.
use Rattle.std.specs.Prelude.{◌≡◌, ℕ, ⊤, false, List}
use Rattle.x86_64_model.specs.Call.{Call}
use Rattle.x86_64_model.specs.Layout.{Layout}
use Rattle.x86_64_model.specs.Hierarchy as mapper
use Rattle.x86_64_model.specs.Hierarchy.{◌laid_in◌}
use Rattle.x86_64_model.specs.Machine.{State}
use Rattle.x86_64_model.specs.Memory.{Memory}
use Rattle.x86_64_model.specs.Store.{StoreFits, Keeps}
use Rattle.x86_64_mappers.specs.Offsets.{OffsetFits}
use Rattle.x86_64.specs.FreeFrames.{KeepsFree}
use Rattle.x86_64.specs.Pairs.{AreAlike, pool_store}
use Rattle.x86_64.specs.Runs as runs
use Rattle.x86_64.specs.Replies.{Reply}
use Rattle.pagetab_engine.specs.Arguments.{count}
use Rattle.pagetab_engine.specs.Calls.{IsAnswered}
use Rattle.pagetab_engine.specs.Frames.{direct_layout, recursive_layout}
use Rattle.pagetab_engine.specs.Modes.{image_layout, is_refused, layout}
use Rattle.pagetab_engine.specs.declared.arguments.Mode.{Mode}
use Rattle.pagetab_engine.specs.declared.arguments.Mode.TheVariants.{Offset, Pair}
use Rattle.pagetab_engine.specs.declared.frames.Frames.{Frames}
use Rattle.pagetab_engine.specs.declared.hierarchy.Hierarchy.{Hierarchy}

-- ---- the image

-- In a pair the copy has the same memory, the same free frames and the same limit as these frames.
abbrev pub IsCopy : Mode → (frames copy : Frames) → Type 0
IsCopy (Pair levels index) frames copy = (copy.memory ≡ frames.memory) × (copy.pool.frames ≡ frames.pool.frames) × (copy.pool.limit ≡ frames.pool.limit)
IsCopy mode frames copy = ⊤

-- In a pair both mappers have the same memory, free frames and limit, as long as the image is read.
abbrev pub HasCopy : Hierarchy → Type 0
HasCopy hierarchy = IsCopy hierarchy.mode hierarchy.frames hierarchy.twin

-- The hierarchy of the image is valid, and the free frames fit it.
abbrev pub FitsImage : Hierarchy → Type 0
FitsImage hierarchy = StoreFits (image_layout hierarchy.mode hierarchy.frames.memory laid_in hierarchy.frames.memory) (pool_store hierarchy.frames.pool)

-- ---- the commands

-- The layout of the mapper that executes the commands on the hierarchy, which is the direct one in a pair.
abbrev pub layout_of : Hierarchy → Layout
layout_of hierarchy = layout hierarchy.mode hierarchy.frames.memory

-- The model's hierarchy of the mapper that executes the commands, which is the direct one in a pair.
abbrev pub hierarchy_of : Hierarchy → mapper.Hierarchy (Unit {0})
hierarchy_of hierarchy = layout_of hierarchy laid_in hierarchy.frames.memory

-- The machine's state: the path map that the hierarchy's words hold, and the free frames.
abbrev pub hierarchy_state : Hierarchy → State
hierarchy_state hierarchy = runs.state_with (hierarchy_of hierarchy) (pool_store hierarchy.frames.pool)

-- Free frames keep their words, except that returned frames hold zeros.
abbrev pub KeepsFreeWords : (before : Hierarchy) → (back : List ℕ) → (after : Hierarchy) → Type 0
KeepsFreeWords before back after = KeepsFree (layout_of before) before.frames.memory before.frames.pool.frames back after.frames.memory after.frames.pool.frames

-- The recursive mapper executes the call in these frames, with this reply.
abbrev pub AnswersRecursively : (levels index : ℕ) (before : Frames) → Call → (after : Frames) → Reply → Type 0
AnswersRecursively levels index before call after reply =
    IsAnswered (recursive_layout levels before.memory index laid_in before.memory) (pool_store before.pool) call (recursive_layout levels after.memory index laid_in after.memory) (pool_store after.pool) reply

-- In a pair the recursive mapper executes the call, too, with this reply.
abbrev pub TwinTells : Mode → (call : Call) → (before after : Frames) → Reply → Type 0
TwinTells (Pair levels index) call before after reply = AnswersRecursively (count levels) index before call after reply
TwinTells mode call before after reply = ⊤

-- In a pair the recursive mapper executes the call with this reply, unless no mapper executes it.
abbrev pub BothAnswer : Mode → Call → Reply → (before after : Frames) → Type 0
BothAnswer mode call reply before after = is_refused mode call ≡ false → TwinTells mode call before after reply

-- The mapper of the mode reaches each place of the memory. Only an offset may be such that it doesn't.
abbrev pub ModeReaches : Mode → Memory → Type 0
ModeReaches (Offset offset) memory = OffsetFits 4 memory offset
ModeReaches mode memory = ⊤

-- The hierarchy's mapper reaches each place of its memory.
abbrev pub ReachesAll : Hierarchy → Type 0
ReachesAll hierarchy = ModeReaches hierarchy.mode hierarchy.frames.memory

-- The recursive mapper's hierarchy is valid for the index, and its free frames fit it. Its path map and the direct mapper's are
-- alike, and so are the free frames.
pub record IsTwin (levels index : ℕ) (frames twin : Frames) : Type 0 where
  pub fits : StoreFits (recursive_layout levels twin.memory index laid_in twin.memory) (pool_store twin.pool)
  pub alike : AreAlike levels (direct_layout levels laid_in frames.memory) frames.pool (recursive_layout levels twin.memory index laid_in twin.memory) twin.pool

-- In a pair the hierarchies of both mappers are alike, and the recursive mapper's is valid.
abbrev pub HasTwin : Mode → (frames twin : Frames) → Type 0
HasTwin (Pair levels index) frames twin = IsTwin (count levels) index frames twin
HasTwin mode frames twin = ⊤

-- The hierarchy is valid, the free frames fit it, and the mapper reaches each place. In a pair both hierarchies are so, and
-- alike.
pub record IsHierarchy (hierarchy : Hierarchy) : Type 0 where
  pub fits : StoreFits (hierarchy_of hierarchy) (pool_store hierarchy.frames.pool)
  pub reached : ReachesAll hierarchy
  pub twin : HasTwin hierarchy.mode hierarchy.frames hierarchy.twin

-- The mode is as before, the mapper's hierarchy and free frames keep what calls keep, and `IsHierarchy` holds again.
pub record KeepsHierarchy (before after : Hierarchy) : Type 0 where
  pub mode : after.mode ≡ before.mode
  pub keeps : Keeps (hierarchy_of before) (pool_store before.frames.pool) (hierarchy_of after) (pool_store after.frames.pool)
  pub fits : IsHierarchy after
