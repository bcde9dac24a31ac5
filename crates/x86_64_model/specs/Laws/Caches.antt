-- Laws of caches: what has to be flushed after each call suffices.
use Rattle.std.specs.Prelude.{◌≡◌, ◌⊎◌, ◌↔◌, ◌≢◌, ◌<◌, ◌+◌, ◌&&◌, nat_le, nat_lt, ℕ, Bool, true, false, List, [], ◌∷◌, length, replicate, Option, Some, None, IsSome, option_map, ◌-◌, take}
use Rattle.std.specs.FinMap.{empty, insert}
use Rattle.std.specs.Ordering.{nat_cmp}
use Rattle.x86_64_model.specs.Lists.{In}
use Rattle.x86_64_model.specs.Position.{page_path}
use Rattle.x86_64_model.specs.PathMap.{entry, put}
use Rattle.x86_64_model.specs.Path.{level_of, span_size, begins}
use Rattle.x86_64_model.specs.Entry.{used, present, user}
use Rattle.x86_64_model.specs.Mappings.{maps_page}
use Rattle.x86_64_model.specs.Memory.{Words, Memory, word, set_word, words_of, identity_places}
use Rattle.x86_64_model.specs.Pool.{IsTable}
use Rattle.x86_64_model.specs.Window.{Window, begins_with, entry_at, IsValidFor}
use Rattle.x86_64_model.specs.PageWalk.{page_start, page_walk}
use Rattle.x86_64_model.specs.Machine.{Machine, IsMachine, State, step}
use Rattle.x86_64_model.specs.Caches.{PartialWalk, start, AtMost, Cached, Table, Page, cached_item, Caches, MayRead, MayAccess, walk_with_rights_from, walk_with_rights, walked_in}
use Rattle.x86_64_model.specs.Flushing.{Due, PageDue, TablesDue, WindowDue, BelowDue, flush_after, concerns, HasZeros, Invlpg, survives, System, Event, Makes, Exchanges, MayMake, MayWrite, MayPut, MayExchange, LosesNothing, loses_between, due_between, after_event, AllMayHappen, after_events, fresh, freed_by, IsUnflushed, IsEmptied, StayFree}
use Rattle.x86_64_model.specs.MapRule.{map_call}
use Rattle.x86_64_model.specs.Refusal.{Done}
use Rattle.x86_64_model.specs.Call.{Call, IsCall, MapTo, MapToWithTableFlags, CleanUp, Answered, Cleaned, parent_flags_of}
use Rattle.x86_64_model.specs.Flush.{OnePage, items_of}
use Rattle.x86_64_model.specs.Arrivals.{KeepsArrival}
use Rattle.x86_64_model.specs.Laws.Steps.{FitsState}
use Rattle.x86_64_model.specs.Laws.Worked.{small_mapped, small_memory}

-- The page walk arrives if and only if the walk that also says the page's path and its right to execute leads to a page, and then
-- at this page, with the same rights to write and of user mode.
abbrev pub WalksWithRights : Type 0
WalksWithRights = (L : ℕ) (T : Words) (root p : ℕ) → page_walk L T root p ≡ option_map (walked_in L p) (walk_with_rights L T root p)

-- The processor may change its cached items step by step, from those before through each list between, of which the last one is
-- those after.
abbrev pub CachesInTurn : (L root : ℕ) → Words → (before : List Cached) → (between : List (List Cached)) → (after : List Cached) → Type 0
CachesInTurn L root T before [] after = before ≡ after
CachesInTurn L root T before (next ∷ more) after = Caches L root T before next × CachesInTurn L root T next more after

-- From whatever it has cached, the processor may come to cache a page to which a page walk leads, and nothing else.
abbrev pub WalksAreCached : Type 0
WalksAreCached = (L : ℕ) (T : Words) (root p : ℕ) (w : PartialWalk) → walk_with_rights L T root p ≡ Some w → (before : List Cached)
    → (between : List (List Cached)) × CachesInTurn L root T before between (Page w ∷ [])

-- The page walk leads to this page, by the same path and to the same frame, with at least its rights.
abbrev pub WalksThere : Option PartialWalk → (page : PartialWalk) → Type 0
WalksThere found w = (v : PartialWalk) × (found ≡ Some v) × (v.path ≡ w.path) × (v.frame ≡ w.frame) × AtMost w.rights v.rights

-- From a state and words, with empty caches and nothing due, these events may happen in order, and lead to this system: calls,
-- exchanges, writes of words in memory, flushes, and changes of the caches.
pub record Happens (m : Machine) (root : ℕ) (T : Words) (s : State) (events : List Event) (end : System) : Type 0 where
  pub machine : IsMachine m
  pub levels : 0 < m.levels
  pub happen : AllMayHappen m root (fresh s T) events
  pub ends : after_events m (fresh s T) events ≡ end

-- At every moment, also during calls, each access at a position (the number of an address counted without the non-canonical gap)
-- goes to the page to which the page walk in the present words leads, with at most its rights, if nothing that is due concerns the
-- position.
abbrev pub FlushesAreEnough : Type 0
FlushesAreEnough = (m : Machine) (root : ℕ) (T : Words) (serves : ℕ → Bool) (s : State) → FitsState m T root serves s
    → (events : List Event) (now : System) → Happens m root T s events now
    → (p : ℕ) → ((due : Due) → In now.due due → concerns m.levels m.window due p ≡ false)
    → (w : PartialWalk) → MayAccess m.levels root now.words now.cache p w → WalksThere (walk_with_rights m.levels now.words root p) w

-- At every moment, also during calls, if an access at a position goes to a page, and nothing that is due concerns the position, the
-- page walk in the present words arrives at the same address, with the same rights to write and of user mode at least.
abbrev pub AccessesAreWalks : Type 0
AccessesAreWalks = (m : Machine) (root : ℕ) (T : Words) (serves : ℕ → Bool) (s : State) → FitsState m T root serves s
    → (events : List Event) (now : System) → Happens m root T s events now
    → (p : ℕ) → ((due : Due) → In now.due due → concerns m.levels m.window due p ≡ false)
    → (w : PartialWalk) → MayAccess m.levels root now.words now.cache p w → KeepsArrival (Some (walked_in m.levels p w)) (page_walk m.levels now.words root p)

-- At every moment, also during calls, the processor reads only words of tables of the hierarchy, which are in memory. Until a clean
-- up is flushed it may also read words of the frames that this freed, all of them 0.
abbrev pub OnlyTablesAreRead : Type 0
OnlyTablesAreRead = (m : Machine) (root : ℕ) (T : Words) (serves : ℕ → Bool) (s : State) → FitsState m T root serves s
    → (events : List Event) (now : System) → Happens m root T s events now
    → (t : PartialWalk) → MayRead root now.cache t
    → (IsTable m.levels root now.paths t.frame × IsSome (now.words t.frame)) ⊎ IsEmptied now.due now.state.pool now.words t.frame

-- ---- where accesses go while something is due

-- The entry at the path of a page maps it, present or not, to the page's frame.
pub record IsMapped (L : ℕ) (E : List ℕ → ℕ) (page : PartialWalk) : Type 0 where
  pub is_used : used (E page.path) ≡ true
  pub maps : maps_page (level_of L page.path) (E page.path) ≡ true
  pub frame : page.frame ≡ page_start (level_of L page.path) (E page.path)

-- The page may be cached still though entries changed: it is due, and its frame is the one that it had when it was let go, or
-- all items on its path are due, and its entry still maps it, so that at most its rights are wrong, or it lies in the recursive
-- window, which is due.
pub data IsStale (L : ℕ) (window : Option Window) (due : List Due) (E : List ℕ → ℕ) (page : PartialWalk) : Type 0 where
  WasThere : (frame : ℕ) → In due (PageDue page.path frame) → page.frame ≡ page_start (level_of L page.path) frame → IsStale L window due E page
  HadRights : (q : List ℕ) → In due (BelowDue q) → begins q page.path ≡ true → IsMapped L E page → IsStale L window due E page
  InWindow : In due WindowDue → begins_with window page.path ≡ true → IsStale L window due E page

-- At every moment, also during calls, each access goes to the page to which the page walk in the present words leads, with at most
-- its rights, or to a stale page, for which something is due.
abbrev pub StaleAccessesAreOld : Type 0
StaleAccessesAreOld = (m : Machine) (root : ℕ) (T : Words) (serves : ℕ → Bool) (s : State) → FitsState m T root serves s
    → (events : List Event) (now : System) → Happens m root T s events now
    → (p : ℕ) (w : PartialWalk) → MayAccess m.levels root now.words now.cache p w
    → WalksThere (walk_with_rights m.levels now.words root p) w ⊎ IsStale m.levels m.window now.due (entry_at m.window now.paths) w

-- Whether a physical address lies in the page at a path, of L levels, if the page is in this frame.
abbrev pub in_page : (L : ℕ) (path : List ℕ) (frame address : ℕ) → Bool
in_page L q frame a = nat_le frame a && nat_lt a (frame + span_size L q)

-- The physical address lies in no page of a present entry, and in no page that is due, as it was. It lies in no page of a used
-- entry, present or not, below a path of which all items are due, and the recursive window isn't due.
pub record IsLetGo (L : ℕ) (window : Option Window) (due : List Due) (E : List ℕ → ℕ) (address : ℕ) : Type 0 where
  pub unmapped : (q : List ℕ) → present (E q) ≡ true → maps_page (level_of L q) (E q) ≡ true → in_page L q (page_start (level_of L q) (E q)) address ≡ false
  pub none_loose : (q r : List ℕ) → In due (BelowDue q) → begins q r ≡ true → used (E r) ≡ true → maps_page (level_of L r) (E r) ≡ true
      → in_page L r (page_start (level_of L r) (E r)) address ≡ false
  pub not_due : (q : List ℕ) (frame : ℕ) → In due (PageDue q frame) → in_page L q (page_start (level_of L q) frame) address ≡ false
  pub window_flushed : In due WindowDue → ⊥

-- No access reaches a physical address that was let go, which no present entry maps, and whose pages were flushed since: its frame
-- may be used for anything.
abbrev pub LetGoIsUnreached : Type 0
LetGoIsUnreached = (m : Machine) (root : ℕ) (T : Words) (serves : ℕ → Bool) (s : State) → FitsState m T root serves s
    → (events : List Event) (now : System) → Happens m root T s events now
    → (address : ℕ) → IsLetGo m.levels m.window now.due (entry_at m.window now.paths) address
    → (p : ℕ) (w : PartialWalk) → MayAccess m.levels root now.words now.cache p w → (walked_in m.levels p w).address ≢ address

-- ---- calls as a whole

-- A call that is no map takes no frame of the pool. So no frame of a freed table is taken if maps wait until no tables are due.
abbrev pub OnlyMapsTakeFrames : Type 0
OnlyMapsTakeFrames = (m : Machine) → IsMachine m → (root : ℕ) (T : Words) (serves : ℕ → Bool) (s : State) → FitsState m T root serves s
    → (call : Call) → IsCall m.levels call → (due : List Due)
    → ((freed : List ℕ) → In due (TablesDue freed) → parent_flags_of call ≡ None) → StayFree due s.pool (step m s call).state.pool

-- A call takes only the first frames of the pool, one for each level but the first. So no frame of a freed table is taken if none of
-- these is of one that is due.
abbrev pub FirstFramesAreTaken : Type 0
FirstFramesAreTaken = (m : Machine) → IsMachine m → (root : ℕ) (T : Words) (serves : ℕ → Bool) (s : State) → FitsState m T root serves s
    → (call : Call) → IsCall m.levels call → (due : List Due)
    → ((f : ℕ) → In (take (m.levels - 1) s.pool) f → IsUnflushed due f → ⊥) → StayFree due s.pool (step m s call).state.pool

-- The words after a call hold the machine's next state. A frame that is free then was freed by the call and has only words 0, or
-- was free before and kept its words.
pub record IsAfterCall (m : Machine) (root : ℕ) (T U : Words) (s : State) (call : Call) : Type 0 where
  pub valid : IsValidFor m.levels m.window U root (step m s call).state.paths
  pub came_back : (f : ℕ) → In (step m s call).state.pool f → In (freed_by m.levels s call) f → HasZeros U f
  pub was_free : (f : ℕ) → In (step m s call).state.pool f → (In (freed_by m.levels s call) f → ⊥) → In s.pool f
  pub same_words : (f : ℕ) → In (step m s call).state.pool f → (In (freed_by m.levels s call) f → ⊥) → U f ≡ T f

-- A call may happen as one change of the words, if the kernel may make it, and the words after it hold the machine's next state and
-- free frames as a call leaves them.
abbrev pub CallsMayHappen : Type 0
CallsMayHappen = (m : Machine) → IsMachine m → (root : ℕ) (serves : ℕ → Bool) (s : System) → FitsState m s.words root serves s.state
    → (call : Call) (loses : Bool) → MayMake m s call loses → (U : Words) → IsAfterCall m root s.words U s.state call
    → MayWrite m root (after_event m s (Makes call loses)) (step m s.state call).state.paths U

-- ---- exchanges

-- If memory changes by the one word alone, the exchange may happen. The word that was there is the entry, and the state fits memory
-- again.
abbrev pub ExchangesMayHappen : Type 0
ExchangesMayHappen = (m : Machine) (root : ℕ) (serves : ℕ → Bool) (s : System)
    → FitsState m s.words root serves s.state → (q : List ℕ) (w : ℕ) (may : MayPut m root s q w)
    → (table : List ℕ) → s.words may.in_table.frame ≡ Some table → may.in_table.index < length table
    → let U = set_word s.words may.in_table.frame may.in_table.index w in
    (word s.words may.in_table.frame may.in_table.index ≡ entry s.paths q) × MayExchange m root s q w U
    × FitsState m U root serves (after_event m s (Exchanges q w U)).state

-- The test of both words tells of a present entry exactly that it loses nothing, and that it becomes a user's only if it was one.
abbrev pub WordsTellLosses : Type 0
WordsTellLosses = (e f : ℕ) → present e ≡ true → (loses_between e f ≡ false) ↔ (LosesNothing e f × (user f ≡ true → user e ≡ true))

-- If nothing is due after the exchange of a present word, the entry loses nothing.
abbrev pub ExchangesTell : Type 0
ExchangesTell = (L : ℕ) (window : Option Window) (q : List ℕ) (e f : ℕ)
    → present e ≡ true → due_between L window q e f ≡ [] → LosesNothing e f

-- The page [0, 0, 0, 1] is due after it is taken away, or copied to another frame at a write, or may be written no longer. It isn't
-- due after it comes, or may be written. All items below the table [0] are due if it may be written no longer.
pub record ExchangedWords : Type 0 where
  pub taken : due_between 4 None (0 ∷ 0 ∷ 0 ∷ 1 ∷ []) 0x5063 0x7ff_f000 ≡ PageDue (0 ∷ 0 ∷ 0 ∷ 1 ∷ []) 0x5000 ∷ []
  pub copied : due_between 4 None (0 ∷ 0 ∷ 0 ∷ 1 ∷ []) 0x5025 0x6067 ≡ PageDue (0 ∷ 0 ∷ 0 ∷ 1 ∷ []) 0x5000 ∷ []
  pub protected : due_between 4 None (0 ∷ 0 ∷ 0 ∷ 1 ∷ []) 0x5007 0x5005 ≡ PageDue (0 ∷ 0 ∷ 0 ∷ 1 ∷ []) 0x5000 ∷ []
  pub brought : due_between 4 None (0 ∷ 0 ∷ 0 ∷ 1 ∷ []) 0x7ff_f000 0x5063 ≡ []
  pub writable_now : due_between 4 None (0 ∷ 0 ∷ 0 ∷ 1 ∷ []) 0x5025 0x5067 ≡ []
  pub table : due_between 4 None (0 ∷ []) 0x2003 0x2001 ≡ BelowDue (0 ∷ []) ∷ []

-- ---- a clean up that isn't flushed: worked example, root in frame 0x1000, four levels

-- The memory of a worked example, in which the page at path [0, 0, 0, 1] was mapped and unmapped, with its root in frame 0x1000.
-- The tables above the page are left in frames 0x2000, 0x3000 and 0x4000, the last one empty.
unfoldable pub emptied_memory : Memory
emptied_memory = insert (insert (insert (insert (empty {X = List ℕ} {R = nat_cmp})
    1 (0x2003 ∷ replicate 511 0)) 2 (0x3003 ∷ replicate 511 0)) 3 (0x4003 ∷ replicate 511 0)) 4 (replicate 512 0)

-- The memory of a worked example after a clean up freed the tables in frames 0x2000, 0x3000 and 0x4000, and a map of the page at
-- path [1, 0, 0, 5] to frame 0x9000 took these frames again.
unfoldable pub reused_memory : Memory
reused_memory = insert (insert (insert (insert (empty {X = List ℕ} {R = nat_cmp})
    1 (0 ∷ 0x2003 ∷ replicate 510 0)) 2 (0x3003 ∷ replicate 511 0)) 3 (0x4003 ∷ replicate 511 0)) 4 (0 ∷ 0 ∷ 0 ∷ 0 ∷ 0 ∷ 0x9003 ∷ replicate 506 0)

-- A way by this path to this frame, with the rights to write and to execute, but not of user mode.
abbrev pub writable_way : (path : List ℕ) (frame : ℕ) → PartialWalk
writable_way q f = record { path = q; frame = f; rights = record { write = true; user = false; execute = true } }

-- A worked example: the processor caches the table at path [0] in frame 0x2000, a clean up frees it, for which no flush is
-- recorded, and a map of the page [1, 0, 0, 5] to frame 0x9000 uses the frame again. From the cached table the processor finds the
-- page [0, 0, 0, 5], which was never mapped, and the flush of the mapped page doesn't drop it: accesses to 0x5000 go to frame
-- 0x9000, while the page walk arrives nowhere.
pub record UnflushedCleanUp : Type 0 where
  pub cached : cached_item 4 (words_of emptied_memory identity_places) (start 0x1000) 0 ≡ Some (Table (writable_way (0 ∷ []) 0x2000))
  pub none_recorded : (low high : ℕ) → items_of 4 (CleanUp low high) Cleaned ≡ []
  pub goes_on : walk_with_rights_from 4 (words_of reused_memory identity_places) 0x5000 3 (writable_way (0 ∷ []) 0x2000) ≡ Some (writable_way (0 ∷ 0 ∷ 0 ∷ 5 ∷ []) 0x9000)
  pub recorded : items_of 4 (MapTo 1 0x80_0000_5000 0x9000 3) (Answered (Done 0x9000)) ≡ OnePage (1 ∷ 0 ∷ 0 ∷ 5 ∷ []) ∷ []
  pub flushed : page_path 4 0x80_0000_5000 ≡ 1 ∷ 0 ∷ 0 ∷ 5 ∷ []
  pub left : survives 4 (Invlpg 0x80_0000_5000) (Page (writable_way (0 ∷ 0 ∷ 0 ∷ 5 ∷ []) 0x9000)) ≡ true
  pub nowhere : page_walk 4 (words_of reused_memory identity_places) 0x1000 0x5000 ≡ None

-- ---- a map that takes the right to execute

-- The way to the page at path [0, 0, 0, 1] in frame 0x5000, which may be written and executed.
abbrev pub executable_page : PartialWalk
executable_page = writable_way (0 ∷ 0 ∷ 0 ∷ 1 ∷ []) 0x5000

-- A worked example: a map of the page [0, 0, 0, 2] with NO_EXECUTE among its parent flags adds it to the tables above this page and
-- the page [0, 0, 0, 1]. If only the page that was mapped is flushed, the TLB still has the other page with the right to execute.
pub record UnflushedNoExecute : Type 0 where
  pub before : walk_with_rights 4 (words_of small_memory identity_places) 0x1000 0x1000 ≡ Some executable_page
  pub maps : (map_call 4 small_mapped [] 0x8000_0000_0000_0003 0 (0 ∷ 0 ∷ 0 ∷ 2 ∷ []) 0x6000 3).paths
      ≡ put (put (put (put small_mapped (0 ∷ []) 0x8000_0000_0000_2003) (0 ∷ 0 ∷ []) 0x8000_0000_0000_3003) (0 ∷ 0 ∷ 0 ∷ []) 0x8000_0000_0000_4003) (0 ∷ 0 ∷ 0 ∷ 2 ∷ []) 0x6003
  pub left : survives 4 (Invlpg 0x2000) (Page executable_page) ≡ true
  pub due : flush_after 4 None [] (MapToWithTableFlags 1 0x2000 0x6000 3 0x8000_0000_0000_0003) (Answered (Done 0x6000)) ≡ BelowDue (0 ∷ []) ∷ []

-- ---- a table that is named before it is cleared

-- The memory of a worked example in the middle of a map of the page at path [0, 0, 0, 1]: the new tables are named already, and the
-- last one still has an old word of its frame, at index 2.
unfoldable pub uncleared_memory : Memory
uncleared_memory = insert (insert (insert (insert (empty {X = List ℕ} {R = nat_cmp})
    1 (0x2003 ∷ replicate 511 0)) 2 (0x3003 ∷ replicate 511 0)) 3 (0x4003 ∷ replicate 511 0)) 4 (0 ∷ 0 ∷ 0x7003 ∷ replicate 509 0)

-- A worked example: during a map that names a table before it clears it, the processor can find a page in an old word of the
-- table's frame. After the map the page walk arrives nowhere there, and nothing is due.
pub record UnclearedTable : Type 0 where
  pub in_between : walk_with_rights 4 (words_of uncleared_memory identity_places) 0x1000 0x2000 ≡ Some (writable_way (0 ∷ 0 ∷ 0 ∷ 2 ∷ []) 0x7000)
  pub afterwards : page_walk 4 (words_of small_memory identity_places) 0x1000 0x2000 ≡ None
  pub none_due : flush_after 4 None [] (MapTo 1 0x1000 0x5000 3) (Answered (Done 0x5000)) ≡ []
