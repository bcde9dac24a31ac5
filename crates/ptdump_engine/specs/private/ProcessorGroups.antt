-- Processor groups: the numbers of processors, by the root and the number of levels of their tables.
use Rattle.std.specs.Prelude.{◌≡◌, ℕ, ◌&&◌, Bool, true, false, nat_eq, nat_lt, not, if◌then◌else◌, List, [], ◌∷◌, Vec}
use Rattle.std.specs.Bool.{beq}
use Rattle.std.specs.HashMap.{HashMap, get}
use Rattle.std.specs.List.{list_any}
use Rattle.std.specs.Option.{option_map_or}
use Rattle.std.specs.declared.alloc.Global.{Global}
use Rattle.x86_64_addr.specs.declared.level_count.Levels.{Levels}
use Rattle.x86_64_addr.specs.declared.level_count.Levels.TheVariants.{Four, Five}
use Rattle.ptdump_engine.specs.Processors.{cpus_with, has_tables}
use Rattle.ptdump_engine.specs.declared.processor_groups.ProcessorGroups.{ProcessorGroups}
use Rattle.ptdump_engine.specs.declared.processors.Processor.{Processor}

-- Whether a number of levels of tables is five.
abbrev pub are_five : Levels → Bool
are_five Four = false
are_five Five = true

-- The root of a processor, and whether its tables have five levels, by which processors are grouped.
abbrev pub group_key : Processor → ℕ × Bool
group_key p = (p.start.root, are_five p.start.levels)

-- Whether two keys of groups of processors are equal: the root, and whether there are five levels.
abbrev pub same_key : (one other : ℕ × Bool) → Bool
same_key a b = nat_eq a.0 b.0 && beq a.1 b.1

-- The numbers of processors that a map has at a key, or the empty list if it has none there.
abbrev pub cpus_at : {S : Type 0} → HashMap (ℕ × Bool) (Vec ℕ Global) S → ℕ × Bool → List ℕ
cpus_at cpus k = option_map_or (λ numbers. numbers.items) (get same_key cpus k) []

-- Whether a processor has tables, with the root and the number of levels of a key.
abbrev pub has_key : ℕ × Bool → Processor → Bool
has_key k p = has_tables p && same_key (group_key p) k

-- The list of the number of a processor if it has tables with the root and the number of levels of a key, or else the empty list.
abbrev pub cpu_if : ℕ × Bool → Processor → List ℕ
cpu_if k p = if has_key k p then p.cpu ∷ [] else []

-- The numbers that groups have of the processors with the root and the number of levels of one processor.
abbrev pub cpus_in : ProcessorGroups → Processor → List ℕ
cpus_in groups p = cpus_at groups.cpus (group_key p)

-- Whether groups have a processor with a lower number than this one, and with its root and number of levels.
abbrev pub is_later_in : ProcessorGroups → Processor → Bool
is_later_in groups p = list_any (λ cpu. nat_lt cpu p.cpu) (cpus_in groups p)

-- Whether a processor has tables, and groups have none with a lower number, and with its root and number of levels.
abbrev pub is_first_in : ProcessorGroups → Processor → Bool
is_first_in groups p = has_tables p && not (is_later_in groups p)

-- The groups are those of all processors: for each processor they have the numbers of those that have the same tables, in order.
abbrev pub AreGrouped : ProcessorGroups → Type 0
AreGrouped groups = (p : Processor) → cpus_in groups p ≡ cpus_with groups.processors.now p
