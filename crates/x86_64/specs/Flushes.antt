-- The flush records of calls: one item for the token of each accepted call, in order, and no others.
use Rattle.std.specs.Prelude.{◌≡◌, ◌==◌, ℕ, false, cond, take, drop, map, List, [], ◌∷◌, ◌++◌, Result, Ok, Err}
use Rattle.std.specs.List.{AllByRecursion}
use Rattle.x86_64_model.specs.Arrivals.{KeepsArrival}
use Rattle.x86_64_model.specs.Call.{Call}
use Rattle.x86_64_model.specs.Flush as flush
use Rattle.x86_64_model.specs.Layout.{Layout}
use Rattle.x86_64_model.specs.Hierarchy.{◌laid_in◌, Hierarchy, words}
use Rattle.x86_64_model.specs.Machine.{State, state_after}
use Rattle.x86_64_model.specs.Memory.{Words}
use Rattle.x86_64_model.specs.PageWalk.{page_walk}
use Rattle.x86_64_model.specs.Path.{path_at}
use Rattle.x86_64_model.specs.Position.{page_path}
use Rattle.x86_64_model.specs.Store.{Store}
use Rattle.x86_64_model.specs.Window.{begins_with, IsValidFor}
use Rattle.x86_64_tables.specs.declared.tokens.recorder.FlushItem.{FlushItem}
use Rattle.x86_64_tables.specs.declared.tokens.recorder.FlushItem.TheVariants.{Page, Page57, All}
use Rattle.x86_64_tables.specs.FlushRecorder.{page_item}
use Rattle.x86_64.specs.Runs.{machine_of, state_with, appended}
use Rattle.x86_64.specs.Replies.{SizeReply, Reply}
use Rattle.x86_64.specs.declared.call_values.PageReply.TheVariants.{Map, Unmap, Update, TableFlags, Frame}
use Rattle.x86_64.specs.declared.call_values.MapperReply.TheVariants as reply

-- The item for the page in a call's result, of this size in bytes, or none if the call was refused.
abbrev pub items_of_page : {E : Type 0} → (levels size : ℕ) → Result ℕ E → List FlushItem
items_of_page levels size (Ok page) = page_item levels page size ∷ []
items_of_page levels size (Err why) = []

-- The item for the page in the result of an `unmap`, of this size in bytes, or none if it was refused. The result holds the frame
-- and the page.
abbrev pub unmapped_items : {E : Type 0} → (levels size : ℕ) → Result (ℕ × ℕ) E → List FlushItem
unmapped_items levels size (Ok unmapped) = page_item levels unmapped.1 size ∷ []
unmapped_items levels size (Err why) = []

-- The item for all pages after a change of a table entry's flags, or none if the change was refused.
abbrev pub every_item : {X E : Type 0} → Result X E → List FlushItem
every_item (Ok done) = All ∷ []
every_item (Err why) = []

-- The items recorded for a call on a page of this size in bytes, by its reply.
abbrev pub size_items : {S : Type 0} → (levels size : ℕ) → SizeReply S → List FlushItem
size_items levels size (Map mapped) = items_of_page levels size mapped
size_items levels size (Unmap unmapped) = unmapped_items levels size unmapped
size_items levels size (Update updated) = items_of_page levels size updated
size_items levels size (TableFlags done) = every_item done
size_items levels size (Frame frame) = []

-- The items recorded for a call of a mapper, by its reply.
abbrev pub flush_items_of : (levels : ℕ) → Reply → List FlushItem
flush_items_of levels (reply.Of4KiB answer) = size_items levels 0x1000 answer
flush_items_of levels (reply.Of2MiB answer) = size_items levels 0x20_0000 answer
flush_items_of levels (reply.Of1GiB answer) = size_items levels 0x4000_0000 answer
flush_items_of levels (reply.Translate result) = []
flush_items_of levels (reply.Address address) = []
flush_items_of levels reply.Cleaned = []
flush_items_of levels reply.NotAllowed = []

-- The items recorded for a list of calls in order, by their replies.
abbrev pub items_told : (levels : ℕ) → List Reply → List FlushItem
items_told levels [] = []
items_told levels (answer ∷ answers) = flush_items_of levels answer ++ items_told levels answers

-- The level of the entries that map pages of this size: one for 4KiB, two for 2MiB, three for 1GiB.
abbrev pub level_of_size : (size : ℕ) → ℕ
level_of_size size = cond (size == 0x1000) 1 (cond (size == 0x20_0000) 2 3)

-- The model's item for a recorded one. It covers the positions of the page of this size that starts there, or all positions.
abbrev pub item_of : FlushItem → flush.Item
item_of (Page start size) = flush.OnePage (path_at 4 (level_of_size size) start)
item_of (Page57 start size) = flush.OnePage (path_at 5 (level_of_size size) start)
item_of All = flush.Everything

-- No recorded item covers the position.
abbrev pub NoFlushItemCovers : (levels : ℕ) → List FlushItem → (position : ℕ) → Type 0
NoFlushItemCovers levels items p = AllByRecursion (λ item. flush.covers levels (item_of item) p ≡ false) items

-- The records cover every walk that a TLB may still hold. Take words V that mean the state after the first k calls, a position
-- outside the recursive index, and suppose that no item of a later call covers it. If a walk in V arrives, the walk in U, the
-- words after all calls, arrives at the same address, with no right lost.
abbrev pub ItemsSuffice : {C : Type 0} → (asks : C → Call) → Layout → (take_back : List ℕ → ℕ → List ℕ) → State → List C → List Reply → Words → Type 0
ItemsSuffice asks l take_back start calls replies U =
    (k : ℕ) (V : Words) (p : ℕ) → let then = state_after (machine_of l take_back) start (map asks (take k calls)) in
    IsValidFor l.levels l.window V l.root then.paths → begins_with l.window (page_path l.levels p) ≡ false → NoFlushItemCovers l.levels (items_told l.levels (drop k replies)) p
    → KeepsArrival (page_walk l.levels V l.root p) (page_walk l.levels U l.root p)

-- After calls the records are those of before and one item for the token of each accepted call, in order, and these items
-- suffice.
pub record Flushed {C Lent : Type 0} (asks : C → Call) (h : Hierarchy Lent) (store : Store) (calls : List C) (replies_before replies_now : List Reply) (before now : List FlushItem) (after : Hierarchy Lent) : Type 0 where
  pub items : now ≡ before ++ items_told h.layout.levels (appended replies_before replies_now)
  pub suffice : ItemsSuffice asks h.layout store.take_back (state_with h store) calls (appended replies_before replies_now) (words (h.layout laid_in after.memory))
