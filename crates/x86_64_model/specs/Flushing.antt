-- What has to be flushed after each call and exchange, and a processor that caches while a kernel makes calls, exchanges words and
-- flushes.
-- Intel SDM vol. 3A, "Invalidation of TLBs and Paging-Structure Caches".
use Rattle.std.specs.Prelude.{◌≡◌, ◌⊎◌, ◌<◌, ℕ, ◌==◌, ◌&&◌, Bool, true, false, not, cond, List, [], ◌∷◌, ◌++◌, filter, length, nat_lt, take, bit_and, Option, Some, None}
use Rattle.x86_64_model.specs.Lists.{In}
use Rattle.x86_64_model.specs.Position.{page_path}
use Rattle.x86_64_model.specs.Path.{begins, is_below, is_small, front_at, path_at}
use Rattle.x86_64_model.specs.Entry.{has, used, present, writable, user, huge, no_execute, address, names_table}
use Rattle.x86_64_model.specs.Memory.{Words, word}
use Rattle.x86_64_model.specs.Window.{Window, begins_with, IsValidFor}
use Rattle.x86_64_model.specs.Refusal.{Done, Refused}
use Rattle.x86_64_model.specs.PathMap.{PathMap, entry, put, table_at}
use Rattle.x86_64_model.specs.Laws.EntriesInPlace.{NamesNoTable, MayReplace}
use Rattle.x86_64_model.specs.Call.{Call, IsCall, MapTo, MapToWithTableFlags, IdentityMap, Unmap, UpdateFlags, SetFlags, TranslatePage, Translate, TranslateAddress, CleanUp, Reply, NotAllowed, Answered, Position, Address, Cleaned}
use Rattle.x86_64_model.specs.Machine.{Machine, State, step}
use Rattle.x86_64_model.specs.CleanUp.{clean_up}
use Rattle.x86_64_model.specs.Caches.{Cached, Table, Page, Caches}

-- ---- what has to be flushed

-- The TLB items of a page, which was in this frame, all items of tables, since a clean up freed the tables in these frames, the TLB
-- items of all pages in the recursive window, or all items of the paths that begin with this one.
pub data Due : Type 0 where
  PageDue : (page : List ℕ) → (frame : ℕ) → Due
  TablesDue : (freed : List ℕ) → Due
  WindowDue : Due
  BelowDue : (path : List ℕ) → Due

-- An accepted call answers with the address of the entry as it was.
abbrev pub if_accepted : Reply → (ℕ → List Due) → List Due
if_accepted (Answered (Done frame)) due = due frame
if_accepted (Answered (Refused why)) due = []
if_accepted NotAllowed due = []
if_accepted (Position t) due = []
if_accepted (Address a) due = []
if_accepted Cleaned due = []

-- A call that isn't allowed does nothing. A map that is refused may have changed the entries above its page.
abbrev pub if_allowed : Reply → List Due → List Due
if_allowed NotAllowed due = []
if_allowed (Answered answer) due = due
if_allowed (Position t) due = due
if_allowed (Address a) due = due
if_allowed Cleaned due = due

-- What has to be flushed of the recursive window: its pages, if there is a recursive index, and otherwise nothing.
abbrev pub if_window : Option Window → List Due
if_window None = []
if_window (Some w) = WindowDue ∷ []

-- The recursive window shows the entry of a 2MiB or 1GiB page as smaller pages, and tables as pages.
abbrev pub page_due : (L : ℕ) → Option Window → (page : List ℕ) → (frame : ℕ) → List Due
page_due L window q frame = PageDue q frame ∷ cond (is_small L q) [] (if_window window)

-- What has to be flushed if entries on the paths that begin with this one lost rights: all items of these paths, and the pages of the
-- recursive window, if there is one, since they are reached through the same entries.
abbrev pub below_due : Option Window → (path : List ℕ) → List Due
below_due window q = BelowDue q ∷ if_window window

-- A map makes absent entries used, which no cache has, and adds rights to its parents. But it takes the right to execute from
-- them if its parent flags have NO_EXECUTE, even if it is refused: they are below the page's first index. A clean up removes tables
-- that caches may name, and frees their frames.
abbrev pub flush_after : (L : ℕ) → Option Window → (freed : List ℕ) → Call → Reply → List Due
flush_after L window freed (MapTo level page frame given) reply = []
flush_after L window freed (MapToWithTableFlags level page frame given parent_flags) reply = if_allowed reply (cond (no_execute parent_flags) (below_due window (take 1 (path_at L level page))) [])
flush_after L window freed (IdentityMap level frame given) reply = []
flush_after L window freed (Unmap level page) reply = if_accepted reply (λ frame. page_due L window (path_at L level page) frame)
flush_after L window freed (UpdateFlags level page given) reply = if_accepted reply (λ frame. page_due L window (path_at L level page) frame)
flush_after L window freed (SetFlags at level page given) reply = if_accepted reply (λ frame. below_due window (front_at L at (path_at L level page)))
flush_after L window freed (TranslatePage level page) reply = []
flush_after L window freed (Translate p) reply = []
flush_after L window freed (TranslateAddress p) reply = []
flush_after L window freed (CleanUp low high) reply = TablesDue freed ∷ if_window window

-- The frames that a call frees: those of the tables that a clean up removes, and none for any other call.
abbrev pub freed_by : (L : ℕ) → State → Call → List ℕ
freed_by L s (CleanUp low high) = (clean_up L s.paths low high).back
freed_by L s call = []

-- What has to be flushed after a call that is made in this state.
abbrev pub due_after : Machine → State → Call → List Due
due_after m s call = flush_after m.levels m.window (freed_by m.levels s call) call (step m s call).reply

-- Whether the second of two answers is yes, if the first one is.
abbrev pub implies : (first second : Bool) → Bool
implies a b = cond a b true

-- Whether a present entry e may lose something when it becomes f, as `x64_flush_between` in include/x86_64_paging.h tells. It loses
-- nothing if it stays present, its address, HUGE_PAGE, WRITE_THROUGH, NO_CACHE, GLOBAL and its protection key stay, none of WRITABLE,
-- USER_ACCESSIBLE, ACCESSED and DIRTY goes, and neither NO_EXECUTE nor USER_ACCESSIBLE comes: a page that becomes a user's takes
-- rights from ring 0 under SMEP and SMAP. `WordsTellLosses` says the same by `LosesNothing`.
abbrev pub loses_between : (e f : ℕ) → Bool
loses_between e f = not (present f && (address f == address e) && (bit_and f 0x80 == bit_and e 0x80)
    && (bit_and f 0x7800_0000_0000_0118 == bit_and e 0x7800_0000_0000_0118)
    && implies (has e 0x20) (has f 0x20) && implies (has e 0x40) (has f 0x40) && implies (writable e) (writable f)
    && implies (user e) (user f) && implies (no_execute f) (no_execute e) && implies (user f) (user e))

-- After an exchange of an entry at a path nothing is due if the old word isn't present, since no cache holds such a word, or if it
-- loses nothing. Else the page is due that it named, or all items below it if it names a table.
abbrev pub due_between : (L : ℕ) → Option Window → (path : List ℕ) → (old new : ℕ) → List Due
due_between L window q e f = let table = names_table e && nat_lt (length q) L in
    cond (present e && loses_between e f) (cond table (below_due window q) (page_due L window q (address e))) []

-- Whether an access at a position may be wrong as long as this is due. Items of freed tables lead nowhere, since these tables have
-- only words 0.
abbrev pub concerns : (L : ℕ) → Option Window → Due → (position : ℕ) → Bool
concerns L window (PageDue q frame) p = begins q (page_path L p)
concerns L window (TablesDue freed) p = false
concerns L window WindowDue p = begins_with window (page_path L p)
concerns L window (BelowDue q) p = begins q (page_path L p)

-- Whether items on a path may have rights that its entries don't grant any longer, as long as this is due.
abbrev pub loosens : Option Window → Due → (path : List ℕ) → Bool
loosens window (PageDue q frame) x = false
loosens window (TablesDue freed) x = false
loosens window WindowDue x = begins_with window x
loosens window (BelowDue q) x = begins q x

-- All words of a frame are 0.
abbrev pub HasZeros : Words → (frame : ℕ) → Type 0
HasZeros tables f = (i : ℕ) → word tables f i ≡ 0

-- ---- frames of freed tables

-- A clean up freed the table in this frame, and tables aren't flushed since.
abbrev pub IsUnflushed : List Due → (frame : ℕ) → Type 0
IsUnflushed due f = (freed : List ℕ) × In due (TablesDue freed) × In freed f

-- The frame is free and has only words 0, a clean up freed the table in it, and tables aren't flushed since.
abbrev pub IsEmptied : List Due → (pool : List ℕ) → Words → (frame : ℕ) → Type 0
IsEmptied due pool tables f = IsUnflushed due f × In pool f × HasZeros tables f

-- No frame leaves the pool while the table that was in it isn't flushed.
abbrev pub StayFree : List Due → (pool rest : List ℕ) → Type 0
StayFree due pool rest = (f : ℕ) → IsUnflushed due f → In pool f → In rest f

-- If words T become U, each free frame with only words 0 keeps them while the table that was in it isn't flushed.
abbrev pub StayEmpty : List Due → (pool : List ℕ) → (T U : Words) → Type 0
StayEmpty due pool T U = (f : ℕ) → IsUnflushed due f → In pool f → HasZeros T f → HasZeros U f

-- ---- flushes

-- INVLPG of an address, given by its position (its number counted without the gap), a load of CR3, or a flush of everything, global
-- pages too.
pub data Flush : Type 0 where
  Invlpg : (position : ℕ) → Flush
  LoadCr3 : Flush
  FlushAll : Flush

-- Whether an item may be left after a flush. INVLPG drops the TLB items of the address, and all items of tables. A load of CR3 drops
-- all items of tables. It also drops pages that aren't global, which isn't counted on here.
abbrev pub survives : (L : ℕ) → Flush → Cached → Bool
survives L (Invlpg p) (Table t) = false
survives L (Invlpg p) (Page w) = not (begins w.path (page_path L p))
survives L LoadCr3 (Table t) = false
survives L LoadCr3 (Page w) = true
survives L FlushAll c = false

-- Whether this is due no longer after a flush.
abbrev pub settles : (L : ℕ) → Flush → Due → Bool
settles L FlushAll due = true
settles L (Invlpg p) (PageDue q frame) = begins q (page_path L p)
settles L (Invlpg p) (TablesDue freed) = true
settles L (Invlpg p) WindowDue = false
settles L (Invlpg p) (BelowDue q) = false
settles L LoadCr3 (PageDue q frame) = false
settles L LoadCr3 (TablesDue freed) = true
settles L LoadCr3 WindowDue = false
settles L LoadCr3 (BelowDue q) = false

-- ---- a kernel and a processor

-- The machine's state after all calls so far, the path map that the words of memory hold now, which may still be on the way there,
-- these words, the processor's caches, and what has to be flushed.
pub record System : Type 0 where
  pub state : State
  pub paths : PathMap
  pub words : Words
  pub cache : List Cached
  pub due : List Due

-- What happens in a system, one thing after another: the kernel begins a call, words of memory change, the kernel flushes or exchanges
-- an entry's word, or the processor changes what it has cached.
pub data Event : Type 0 where
  -- The kernel begins a call, of which it learns whether a used entry may lose anything.
  Makes : Call → (loses : Bool) → Event
  -- Words of memory change, and hold this path map then.
  Writes : (paths : PathMap) → (words : Words) → Event
  -- The kernel flushes, which leaves these items.
  Flushes : Flush → (after : List Cached) → Event
  -- The processor drops and makes items.
  Changes : (after : List Cached) → Event
  -- The kernel puts this word in the place of the one of the entry at a path by one atomic instruction, after which memory holds
  -- these words.
  Exchanges : (path : List ℕ) → (word : ℕ) → (words : Words) → Event

-- The system after an event. A call and an exchange change the machine's state, and add what has to be flushed; a flush takes away what
-- it settles.
abbrev pub after_event : Machine → System → Event → System
after_event m s (Makes call loses) = let after = step m s.state call in
    record { state = after.state; paths = s.paths; words = s.words; cache = s.cache; due = cond loses (due_after m s.state call) [] ++ s.due }
after_event m s (Writes N U) = record { state = s.state; paths = N; words = U; cache = s.cache; due = s.due }
after_event m s (Flushes f items) = record { state = s.state; paths = s.paths; words = s.words; cache = items; due = filter (λ due. not (settles m.levels f due)) s.due }
after_event m s (Changes items) = record { state = s.state; paths = s.paths; words = s.words; cache = items; due = s.due }
after_event m s (Exchanges q w U) = let due = due_between m.levels m.window q (entry s.paths q) w in
    record { state = record { paths = put s.state.paths q w; pool = s.state.pool }; paths = put s.paths q w; words = U; cache = s.cache; due = due ++ s.due }

-- No call is under way: the words hold the path map of the machine's state.
abbrev pub IsDone : System → Type 0
IsDone s = s.paths ≡ s.state.paths

-- A used entry e that becomes f loses nothing: it leads where it led, and grants what it granted. WRITE_THROUGH, NO_CACHE, GLOBAL and
-- the protection key (bits 3, 4, 8 and 59 to 62) stay, as the PAT bit does, which is HUGE_PAGE at level one and a bit of the address
-- above. What has ACCESSED or DIRTY keeps it, since a processor that has cached the entry doesn't set it again.
pub record LosesNothing (e f : ℕ) : Type 0 where
  pub is_used : used f ≡ true
  pub is_present : present e ≡ true → present f ≡ true
  pub same_huge : huge f ≡ huge e
  pub same_address : address f ≡ address e
  pub same_kind : bit_and f 0x7800_0000_0000_0118 ≡ bit_and e 0x7800_0000_0000_0118
  pub accessed : has e 0x20 ≡ true → has f 0x20 ≡ true
  pub dirty : has e 0x40 ≡ true → has f 0x40 ≡ true
  pub write : writable e ≡ true → writable f ≡ true
  pub user : user e ≡ true → user f ≡ true
  pub execute : no_execute e ≡ false → no_execute f ≡ false

-- The page that a call maps, if it is a map.
abbrev pub mapped_by : (L : ℕ) → Call → Option (List ℕ)
mapped_by L (MapTo level page frame given) = Some (path_at L level page)
mapped_by L (MapToWithTableFlags level page frame given parent_flags) = Some (path_at L level page)
mapped_by L (IdentityMap level frame given) = Some (path_at L level frame)
mapped_by L call = None

-- A call may begin when the last one is done. It takes no frame that a clean up freed before tables are flushed, and maps no smaller
-- page where a larger one is due: a processor may keep the larger one in parts, and one INVLPG drops all of them only as long as no
-- smaller page is mapped there. If the kernel learns that no used entry loses anything, none does.
pub record MayMake (m : Machine) (s : System) (call : Call) (loses : Bool) : Type 0 where
  pub done : IsDone s
  pub is_call : IsCall m.levels call
  pub kept : loses ≡ false → (q : List ℕ) → used (entry s.state.paths q) ≡ true → LosesNothing (entry s.state.paths q) (entry (step m s.state call).state.paths q)
  pub waits : StayFree s.due s.state.pool (step m s.state call).state.pool
  pub apart : (q r : List ℕ) (frame : ℕ) → In s.due (PageDue q frame) → mapped_by m.levels call ≡ Some r → is_below q r ≡ false

-- At each moment of a call the words are a valid hierarchy, in which each entry is as it was or as it will be. A table that is
-- removed has only words 0 and, as a free frame, keeps them until tables are flushed. All other memory may change at any time.
pub record MayWrite (m : Machine) (root : ℕ) (s : System) (N : PathMap) (U : Words) : Type 0 where
  pub valid : IsValidFor m.levels m.window U root N
  pub between : (q : List ℕ) → (entry N q ≡ entry s.paths q) ⊎ (entry N q ≡ entry s.state.paths q)
  pub empty : (q : List ℕ) (f : ℕ) → table_at m.levels root s.paths q ≡ Some f → table_at m.levels root N q ≡ None → HasZeros U f
  pub keeps : StayEmpty s.due s.state.pool s.words U

-- A flush comes after the calls. What is left was there before, and survives.
pub record MayFlush (m : Machine) (s : System) (f : Flush) (after : List Cached) : Type 0 where
  pub done : IsDone s
  pub left : (c : Cached) → In after c → In s.cache c × (survives m.levels f c ≡ true)

-- The entry at a path outside the recursive window is a word of a table of the hierarchy.
pub record IsInTable (m : Machine) (root : ℕ) (paths : PathMap) (path : List ℕ) : Type 0 where
  pub above : List ℕ
  pub index : ℕ
  pub is : path ≡ above ++ index ∷ []
  pub small : index < 512
  pub frame : ℕ
  pub leads : table_at m.levels root paths above ≡ Some frame
  pub outside : begins_with m.window path ≡ false

-- A kernel may put a word in the place of an entry's when all calls are done, if neither names a table, or both name the same one.
-- No present word comes where a larger page is due, as no map does. A page whose entry is used and not present may be cached still,
-- from the time when it was present, where all items on its path are due: there such an entry isn't exchanged before the flush. An
-- exchange takes no free frame, so that it needn't wait for the flush of a clean up's tables.
pub record MayPut (m : Machine) (root : ℕ) (s : System) (q : List ℕ) (w : ℕ) : Type 0 where
  pub done : IsDone s
  pub in_table : IsInTable m root s.paths q
  pub replaces : MayReplace m.levels q (entry s.paths q) w
  pub apart : present w ≡ true → (r : List ℕ) (frame : ℕ) → In s.due (PageDue r frame) → is_below r q ≡ false
  pub settled : NamesNoTable m.levels q (entry s.paths q) → used (entry s.paths q) ≡ true → present (entry s.paths q) ≡ false
      → (r : List ℕ) → In s.due (BelowDue r) → (begins r q ≡ false) × (begins_with m.window r ≡ false)

-- After the exchange memory holds the path map with the new word. The free frames of removed tables keep their words 0 until tables
-- are flushed. All other memory may change, too.
pub record MayExchange (m : Machine) (root : ℕ) (s : System) (q : List ℕ) (w : ℕ) (U : Words) : Type 0 where
  pub may_put : MayPut m root s q w
  pub holds : IsValidFor m.levels m.window U root (put s.paths q w)
  pub keeps : StayEmpty s.due s.state.pool s.words U

-- Whether the event may happen in this system, as the rules of its kind say. The processor's caches change by the rules of caches.
abbrev pub MayHappen : Machine → (root : ℕ) → System → Event → Type 0
MayHappen m root s (Makes call loses) = MayMake m s call loses
MayHappen m root s (Writes N U) = MayWrite m root s N U
MayHappen m root s (Flushes f items) = MayFlush m s f items
MayHappen m root s (Changes items) = Caches m.levels root s.words s.cache items
MayHappen m root s (Exchanges q w U) = MayExchange m root s q w U

-- Each event of the list may happen in the system after those before it.
abbrev pub AllMayHappen : Machine → (root : ℕ) → System → List Event → Type 0
AllMayHappen m root s [] = Unit {0}
AllMayHappen m root s (e ∷ es) = MayHappen m root s e × AllMayHappen m root (after_event m s e) es

-- The system after these events, one after another.
abbrev pub after_events : Machine → System → List Event → System
after_events m s [] = s
after_events m s (e ∷ es) = after_events m (after_event m s e) es

-- The system before any call and any item.
abbrev pub fresh : State → Words → System
fresh s tables = record { state = s; paths = s.paths; words = tables; cache = []; due = [] }
