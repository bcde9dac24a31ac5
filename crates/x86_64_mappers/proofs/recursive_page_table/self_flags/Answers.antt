use Rattle.std.proofs.Common.{◌≡◌, ℕ, [], sym, ap, ap₂, ◌∙◌, slice_index, bit_or}
use Rattle.std.specs.Option.{option_copied}
use Rattle.x86_64_model.specs.Entry.{address}
use Rattle.x86_64_model.specs.Hierarchy.{◌laid_in◌, Valid}
use Rattle.x86_64_model.specs.Memory.{Memory, identity_places, words_of}
use Rattle.x86_64_model.proofs.Lemmas.Entries.Bits.{whole}
use Rattle.x86_64_tables.specs.ActiveMemory.{walked_table}
use Rattle.x86_64_tables.specs.SelfEntries.{window_at}
use Rattle.x86_64_mappers.specs.Recursive.{recursive_now_at}
use Rattle.x86_64_mappers.specs.Windows.{ShowsTable}
use Rattle.x86_64_mappers.proofs.Memory.Lent.{copied_some}
use Rattle.x86_64_mappers.proofs.Way.ReachedSteps.{here_first}
use Rattle.x86_64_mappers.proofs.Window.Windows.{window_table}
use Rattle.x86_64_mappers.proofs.Memory.Words.{entry_is_word}
use Rattle.x86_64_mappers.proofs.recursive_page_table.self_flags.Goals as goal

-- the table at the root's window is the root's
shown : (levels : ℕ) (m : Memory) (root r : ℕ) → Valid (recursive_now_at levels m root r laid_in m) → (p : ℕ) → ShowsTable levels r [] p → walked_table levels (words_of m identity_places) root p ≡ words_of m identity_places root
shown levels m root r valid = window_table levels m root (window_at (words_of m identity_places) root r) [] root (here_first (recursive_now_at levels m root r) m [] valid).reached

pub unwrap-table-requires : goal.unwrap-table-requires
unwrap-table-requires g c =
    let m = g.A.WalkedTables.memory c.args.active.now in
    let root = g.A.WalkedTables.root c.args.active.now in
    copied_some c.table.result _ (c.table.ensures ∙ shown g.L.LevelCount.LEVELS m root c.args.index c.requires c.position.result (rw c.position.ensures.value c.window.ensures.table)) (here_first (recursive_now_at g.L.LevelCount.LEVELS m root c.args.index) m [] c.requires).reached.root_there

pub returns : goal.returns
returns g c =
    let m = g.A.WalkedTables.memory c.args.active.now in
    let root = g.A.WalkedTables.root c.args.active.now in
    let table = c.unwrap-table.result.now in
    let lies = sym (shown g.L.LevelCount.LEVELS m root c.args.index c.requires c.position.result (rw c.position.ensures.value c.window.ensures.table)) ∙ sym c.table.ensures ∙ ap option_copied c.unwrap-table.ensures in
    let is = c.index.ensures.0 ∙ ap (slice_index table) c.from.ensures.0 ∙ entry_is_word (words_of m identity_places) root c.args.index table lies (rw c.from.ensures.0 at c.from.ensures.1) in
    ap₂ bit_or (sym c.requires.self.names_root ∙ ap address (sym is)) c.flags.ensures.value ∙ whole c.index.result.now c.flags.ensures.below ∙ is
