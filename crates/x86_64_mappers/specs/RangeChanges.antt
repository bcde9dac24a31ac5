-- Ranges of pages of one size, from one page on, and calls that each change at most the entry of one page of them: unmaps, and
-- changes of flags.
use Rattle.std.specs.Prelude.{◌≡◌, ◌<◌, ◌+◌, ◌*◌, ℕ, false, List, [], ◌∷◌, map}
use Rattle.std.specs.List.{range_with_len}
use Rattle.x86_64_model.specs.Call.{Call, Unmap, UpdateFlags, Reply, NotAllowed, Answered, Position, Address, Cleaned}
use Rattle.x86_64_model.specs.Machine.{replies_of, state_after}
use Rattle.x86_64_model.specs.Hierarchy.{Hierarchy, HoldsTable, KeepsBut, SupplyFits, machine_of, state_of, path_of}
use Rattle.x86_64_model.specs.Position.{span, position_count}
use Rattle.x86_64_model.specs.Refusal.{Done, Refused}
use Rattle.x86_64_model.specs.Window.{begins_with}

-- The first `count` pages of a level, from the page at a position (an address counted without the non-canonical gap) on, exist and
-- are outside the recursive window.
pub record IsRange {Lent : Type 0} (h : Hierarchy Lent) (level page count : ℕ) : Type 0 where
  pub there : (k : ℕ) → k < count → page + k * span level < position_count h.layout.levels
  pub outside : (k : ℕ) → k < count → begins_with h.layout.window (path_of h level (page + k * span level)) ≡ false

-- The calls that unmap the first `count` pages of a level, from a page on, in order.
abbrev pub unmaps : (level page count : ℕ) → List Call
unmaps level page count = map (λ k. Unmap level (page + k * span level)) (range_with_len 0 count)

-- The calls that set the flags of the first `count` pages of a level, from a page on, in order.
abbrev pub updates : (level page flags count : ℕ) → List Call
updates level page given count = map (λ k. UpdateFlags level (page + k * span level) given) (range_with_len 0 count)

-- The frames that the replies of done calls name, in order. Other replies are passed over.
abbrev pub frames_done : List Reply → List ℕ
frames_done [] = []
frames_done (Answered (Done f) ∷ rs) = f ∷ frames_done rs
frames_done (Answered (Refused why) ∷ rs) = frames_done rs
frames_done (NotAllowed ∷ rs) = frames_done rs
frames_done (Position t ∷ rs) = frames_done rs
frames_done (Address a ∷ rs) = frames_done rs
frames_done (Cleaned ∷ rs) = frames_done rs

-- What calls that take no frames, such as unmaps and changes of flags, leave if they are made one after another. Replies and state
-- are the machine's for this list of calls, with any pool; refused calls are passed over. The hierarchy is valid, a supply that
-- fitted still fits, and only words in the root and the tables change.
pub record DoesChanges {Lent : Type 0} (h : Hierarchy Lent) (calls : List Call) (answers : List Reply) (after : Hierarchy Lent) : Type 0 where
  pub replies : (pool : List ℕ) (take_back : List ℕ → ℕ → List ℕ) → replies_of (machine_of h.layout take_back) (state_of h pool) calls ≡ answers
  pub state : (pool : List ℕ) (take_back : List ℕ → ℕ → List ℕ) → state_after (machine_of h.layout take_back) (state_of h pool) calls ≡ state_of after pool
  pub fits : (supply : List ℕ) → SupplyFits h supply → SupplyFits after supply
  pub keeps : KeepsBut (HoldsTable h) h after

-- The first pages of a level, from a page on, were unmapped one after another, with these replies.
abbrev pub UnmapsEach : {Lent : Type 0} → Hierarchy Lent → (level page count : ℕ) → (replies : List Reply) → (after : Hierarchy Lent) → Type 0
UnmapsEach h level page count replies after = DoesChanges h (unmaps level page count) replies after

-- The flags of the first pages of a level, from a page on, were set one after another, with these replies.
abbrev pub UpdatesEach : {Lent : Type 0} → Hierarchy Lent → (level page flags count : ℕ) → (replies : List Reply) → (after : Hierarchy Lent) → Type 0
UpdatesEach h level page given count replies after = DoesChanges h (updates level page given count) replies after
