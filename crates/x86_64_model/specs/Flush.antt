-- Items recorded for accepted calls, so that cached translations can be flushed.
-- Intel SDM vol. 3A, "Invalidation of TLBs and Paging-Structure Caches".
use Rattle.std.specs.Prelude.{ℕ, Bool, true, List, [], ◌∷◌, ◌++◌}
use Rattle.x86_64_model.specs.Position.{page_path}
use Rattle.x86_64_model.specs.Path.{begins, path_at}
use Rattle.x86_64_model.specs.Refusal.{Done, Refused}
use Rattle.x86_64_model.specs.Call.{Call, MapTo, MapToWithTableFlags, IdentityMap, Unmap, UpdateFlags, SetFlags, TranslatePage, Translate, TranslateAddress, CleanUp, Reply, NotAllowed, Answered, Position, Address, Cleaned}
use Rattle.x86_64_model.specs.Machine.{Machine, State, step}

-- What is recorded for an accepted call, so that cached translations can be flushed: the page that it changed, or everything.
pub data Item : Type 0 where
  OnePage : (page : List ℕ) → Item
  Everything : Item

-- Whether an item recorded for a flush covers a position (the number of an address counted without the non-canonical gap).
abbrev pub covers : (L : ℕ) → Item → (position : ℕ) → Bool
covers L (OnePage q) p = begins q (page_path L p)
covers L Everything p = true

-- The item, if the reply says that the call was done, otherwise no item.
abbrev pub if_done : Reply → Item → List Item
if_done (Answered (Done frame)) item = item ∷ []
if_done (Answered (Refused why)) item = []
if_done NotAllowed item = []
if_done (Position t) item = []
if_done (Address a) item = []
if_done Cleaned item = []

-- The items that are recorded for a call with this reply, in a hierarchy of L levels, so that they can be flushed.
abbrev pub items_of : (L : ℕ) → Call → Reply → List Item
items_of L (MapTo level page frame given) reply = if_done reply (OnePage (path_at L level page))
items_of L (MapToWithTableFlags level page frame given parent_flags) reply = if_done reply (OnePage (path_at L level page))
items_of L (IdentityMap level frame given) reply = if_done reply (OnePage (path_at L level frame))
items_of L (Unmap level page) reply = if_done reply (OnePage (path_at L level page))
items_of L (UpdateFlags level page given) reply = if_done reply (OnePage (path_at L level page))
items_of L (SetFlags at level page given) reply = if_done reply Everything
items_of L (TranslatePage level page) reply = []
items_of L (Translate p) reply = []
items_of L (TranslateAddress p) reply = []
items_of L (CleanUp low high) reply = []

-- The items that are recorded for a list of calls, made in order from a state of the machine, so that they can be flushed.
abbrev pub all_items : Machine → State → List Call → List Item
all_items m s [] = []
all_items m s (call ∷ calls) = items_of m.levels call (step m s call).reply ++ all_items m (step m s call).state calls
