-- The page walk of L levels, 4 or 5, over raw words: where the processor finds an address, and with which rights.
-- Intel SDM vol. 3A, "Linear-Address Translation with 4-Level Paging and 5-Level Paging"; AMD APM vol. 2, "Long-Mode Page
-- Translation".
use Rattle.std.specs.Prelude.{zero, suc, ℕ, ◌+◌, ◌*◌, ◌/◌, ◌%◌, ◌&&◌, nat_le, Bool, true, cond, get_or, Option, Some, None, option_and_then, option_map}
use Rattle.x86_64_model.specs.Position.{span, index}
use Rattle.x86_64_model.specs.Entry.{present, writable, user, huge, address}
use Rattle.x86_64_model.specs.Memory.{Words}

-- The address where a walk arrives, whether all words that it read have WRITABLE, and whether all have USER_ACCESSIBLE.
pub record Walked : Type 0 where
  pub address : ℕ
  pub write : Bool
  pub user : Bool

-- The result of a walk that arrives at this address, with or without the right to write and that of user mode.
abbrev pub arrives : (to : ℕ) (write user : Bool) → Option Walked
arrives to w u = Some (record { address = to; write = w; user = u })

-- Word i of the table in a frame, 0 past its last word, and None if the memory has no table in this frame.
abbrev pub read : Words → (frame i : ℕ) → Option ℕ
read tables frame i = option_map (λ words. get_or words i 0) (tables frame)

-- A huge entry's address, rounded down to the page size of its level.
abbrev pub page_start : (level entry : ℕ) → ℕ
page_start level e = address e / span level * span level

-- The rest of the walk at position p (the number of an address counted without the gap), from a frame's table of a level. Here w
-- and u say whether all words above have WRITABLE and USER_ACCESSIBLE.
-- At level one a present word leads to a 4KiB page, whatever its bit 7. Above, a present word leads to the next table. With
-- HUGE_PAGE it leads to a page at levels two and three, and nowhere above.
unfoldable pub walk_on : Words → (p level : ℕ) → (w u : Bool) → (frame : ℕ) → Option Walked
walk_on tables p zero w u frame = None
walk_on tables p (suc zero) w u frame = option_and_then
    (λ e. cond (present e) (arrives (address e + p % span 1) (w && writable e) (u && user e)) None)
    (read tables frame (index 1 p))
walk_on tables p (suc (suc n)) w u frame = let level = suc (suc n) in option_and_then
    (λ e. cond (present e)
    (cond (huge e)
    (cond (nat_le level 3) (arrives (page_start level e + p % span level) (w && writable e) (u && user e)) None)
    (walk_on tables p (suc n) (w && writable e) (u && user e) (address e))) None)
    (read tables frame (index level p))

-- The page walk of L levels at position p, from the table in the root's frame: the address and the rights with which it
-- arrives, None if it arrives nowhere. A position is the number of an address counted without the gap of the address space.
unfoldable pub page_walk : (L : ℕ) → Words → (root p : ℕ) → Option Walked
page_walk L tables root p = walk_on tables p L true true root
