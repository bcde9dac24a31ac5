-- A recorder of flushes: the items so far, in order, and the number of further items that allocate no memory.
use Rattle.std.specs.Prelude.{◌==◌, ◌+◌, ◌*◌, ℕ, List, [], ◌∷◌, if◌then◌else◌, map, nat_lt}
use Rattle.std.specs.List.{range_with_len}
use Rattle.x86_64_tables.specs.declared.tokens.recorder.FlushItem.{FlushItem}
use Rattle.x86_64_tables.specs.declared.tokens.recorder.FlushItem.TheVariants.{Page, Page57, All}

-- What a flush recorder holds: the items so far, in order, and its room, the number of further items that it records without
-- allocating memory.
pub record Recorded : Type 0 where
  pub items : List FlushItem
  pub room : ℕ

-- The item that flushes the page of a size in bytes that starts at a position: `Page` with four levels of page tables, `Page57`
-- otherwise.
abbrev pub page_item : (levels start size : ℕ) → FlushItem
page_item levels start size = if levels == 4 then Page start size else Page57 start size

-- A range of pages of one size: the position of the first page, and the number of pages.
pub record FlushRange : Type 0 where
  pub page : ℕ
  pub count : ℕ

-- The range of `count` pages of one size, the first of which starts at the position `page`.
abbrev pub flush_range : (page count : ℕ) → FlushRange
flush_range page count = record { page = page; count = count }

-- The items that flush `count` pages of a size in bytes, one item for each page, in order. The first page starts at the position
-- `page`.
abbrev pub page_items : (levels size page count : ℕ) → List FlushItem
page_items levels size page count = map (λ k. page_item levels (page + k * size) size) (range_with_len 0 count)

-- The items that flush a range of pages of a size in bytes: one for each page, in order, or the one item `All` if there are more
-- than `most` pages.
abbrev pub range_items : (levels size most : ℕ) → FlushRange → List FlushItem
range_items levels size most range = if nat_lt most range.count then All ∷ [] else page_items levels size range.page range.count
