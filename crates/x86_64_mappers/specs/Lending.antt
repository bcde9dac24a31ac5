-- What a mapper becomes when a table that it lent comes back.
use Rattle.std.specs.Prelude.{ℕ, Bool, true, false, cond, List, [], None, IsSome}
use Rattle.std.specs.Borrow.{Lends, MutBor, Fml, RattleType}
use Rattle.std.specs.FinMap.{get}
use mir.Syntax.{named}
use Rattle.x86_64_model.specs.Memory.{Memory, Places}
use Rattle.x86_64_tables.specs.contracts.page_table.table.PageTable.{the_row as table_row}
use Rattle.x86_64_tables.specs.declared.phys_memory.PageTableFrameMapping.{Ghosts}
use Rattle.x86_64_tables.specs.declared.phys_memory.table_memory.TableMemory.{Ghosts as Held}
use Rattle.x86_64_addr.specs.declared.level_count.LevelCount.{Ghosts as Count}
use Rattle.x86_64_mappers.specs.Layouts.{HasRoot}
use Rattle.x86_64_mappers.specs.declared.mapped_page_table.Direct.{Direct}
use Rattle.x86_64_addr.specs.contracts.level_count.FiveLevels as five
use Rattle.x86_64_addr.specs.contracts.level_count.FiveLevelsLevelCount.TheImpl as five_count
use Rattle.x86_64_addr.specs.contracts.level_count.FourLevels as four
use Rattle.x86_64_addr.specs.contracts.level_count.FourLevelsLevelCount.TheImpl as four_count
use Rattle.x86_64_mappers.specs.contracts.mapped_page_table.Direct.{the_row as mapper_row}

-- The root's frame still has its table in a memory that keeps its places (a place is the index of a table in memory).
pub root_stays : (places : Places) (root : ℕ) (before after : Memory) → ((place : ℕ) → IsSome (get before place) → IsSome (get after place))
    → HasRoot places root before → HasRoot places root after
root_stays places root before after stays = by (places.covers root)
  where
    by : (c : Bool) → IsSome (cond c (get before (places.place root)) None) → IsSome (cond c (get after (places.place root)) None)
    by true there = stays (places.place root) there
    by false there = there

-- A mapper that finds tables by a frame mapping lends its root's table behind the reference r. When the loan ends, the mapper has
-- the last words behind r as the table in the root's frame.
abbrev pub LendsDirectRoot : (P L T : RattleType) (G : Ghosts P.Denot) (N : Count L.Denot) (H : Held T.Denot)
    → MutBor (Direct P.Denot L.Denot T.Denot G N H) → MutBor (List ℕ) → Fml
LendsDirectRoot P L T G N H s r = Lends (mapper_row (record { mir = named 1; lft = [] }) P L T G N H) table_row s r
    (λ table. let places = G.places s.now.mapping in let now = s.now.memory.now in
    let after = H.with_table now (places.place s.now.root) table in record s.now {
      memory = record s.now.memory { now = after };
      has_root = root_stays places s.now.root (H.tables now) (H.tables after) (H.keeps_places now (places.place s.now.root) table) s.now.has_root;
    })

-- A mapper of four levels that finds tables by a frame mapping lends its root's table behind the reference r. When the loan ends,
-- the mapper has the last words behind r as the table in the root's frame.
abbrev pub LendsRootTable : (P T : RattleType) (G : Ghosts P.Denot) (H : Held T.Denot)
    → MutBor (Direct P.Denot four.the_row.Denot T.Denot G four_count.ghosts H) → MutBor (List ℕ) → Fml
LendsRootTable P T G H s r = LendsDirectRoot P four.the_row T G four_count.ghosts H s r

-- A mapper of five levels that finds tables by a frame mapping lends its root's table behind the reference r. When the loan ends,
-- the mapper has the last words behind r as the table in the root's frame.
abbrev pub LendsRootTable57 : (P T : RattleType) (G : Ghosts P.Denot) (H : Held T.Denot)
    → MutBor (Direct P.Denot five.the_row.Denot T.Denot G five_count.ghosts H) → MutBor (List ℕ) → Fml
LendsRootTable57 P T G H s r = LendsDirectRoot P five.the_row T G five_count.ghosts H s r
