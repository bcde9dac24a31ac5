-- The machine: the effect of each call, and of a list of calls, on a path map and a pool of free frames.
use Rattle.std.specs.Prelude.{ℕ, if◌then◌else◌, List, [], ◌∷◌, Option}
use Rattle.x86_64_model.specs.Entry.{IsParentFlags}
use Rattle.x86_64_model.specs.Path.{path_at}
use Rattle.x86_64_model.specs.PathMap.{PathMap}
use Rattle.x86_64_model.specs.Window.{Window, entry_at}
use Rattle.x86_64_model.specs.Translation.{translate, address_of}
use Rattle.x86_64_model.specs.MapRule.{AfterMap, map_call, parent_part}
use Rattle.x86_64_model.specs.PageRules.{AfterChange, unmap, update_flags, translate_page, set_flags}
use Rattle.x86_64_model.specs.CleanUp.{AfterCleanUp, clean_up}
use Rattle.x86_64_model.specs.Pool.{TakesBack, with_returned}
use Rattle.x86_64_model.specs.Call.{Call, MapTo, MapToWithTableFlags, IdentityMap, Unmap, UpdateFlags, SetFlags, TranslatePage, Translate, TranslateAddress, CleanUp, Reply, NotAllowed, Answered, Position, Address, Cleaned}
use Rattle.x86_64_model.specs.Allowed.{allowed}

-- The parameters of a machine, which no call changes: the number of levels, the recursive window if there is one, the flags that a
-- new table entry gets in addition to the parent flags, and where the pool puts a returned frame.
pub record Machine : Type 0 where
  pub levels : ℕ
  pub window : Option Window
  pub added_flags : ℕ
  pub take_back : List ℕ → ℕ → List ℕ

-- The machine's added flags have no address bits and no HUGE_PAGE, and its pool neither loses nor doubles a frame when one is
-- returned.
pub record IsMachine (m : Machine) : Type 0 where
  pub adds : IsParentFlags m.added_flags
  pub gives : TakesBack m.take_back

-- The state of a machine: the path map of the hierarchy, and the free frames of the pool, in the order in which it hands them out.
pub record State : Type 0 where
  pub paths : PathMap
  pub pool : List ℕ

-- The result of a call: the state after it, and its reply.
pub record AfterCall : Type 0 where
  pub state : State
  pub reply : Reply

-- The result of a call that changes nothing.
abbrev pub only_reply : State → Reply → AfterCall
only_reply s reply = record { state = s; reply = reply }

-- The result of a map call whose effect on path map and supply, and whose answer, are these.
abbrev pub after_map : AfterMap → AfterCall
after_map a = record { state = record { paths = a.paths; pool = a.supply }; reply = Answered a.answer }

-- The result of a call on one entry whose effect on the path map and whose answer are these. The pool stays.
abbrev pub after_change : (pool : List ℕ) → AfterChange → AfterCall
after_change pool a = record { state = record { paths = a.paths; pool = pool }; reply = Answered a.answer }

-- The result of a clean up that leaves this path map and frees these frames, which return to the pool one at a time.
abbrev pub after_clean_up : (take_back : List ℕ → ℕ → List ℕ) → (pool : List ℕ) → AfterCleanUp → AfterCall
after_clean_up take_back pool a = record { state = record { paths = a.paths; pool = with_returned take_back pool a.back }; reply = Cleaned }

-- The result of an allowed call on a state of the machine: the state after it, and its reply.
unfoldable pub do_call : Machine → State → Call → AfterCall
do_call m s (MapTo level page frame given) = after_map (map_call m.levels s.paths s.pool (parent_part given) m.added_flags (path_at m.levels level page) frame given)
do_call m s (MapToWithTableFlags level page frame given parent_flags) = after_map (map_call m.levels s.paths s.pool parent_flags m.added_flags (path_at m.levels level page) frame given)
do_call m s (IdentityMap level frame given) = after_map (map_call m.levels s.paths s.pool (parent_part given) m.added_flags (path_at m.levels level frame) frame given)
do_call m s (Unmap level page) = after_change s.pool (unmap m.levels (entry_at m.window s.paths) s.paths (path_at m.levels level page))
do_call m s (UpdateFlags level page given) = after_change s.pool (update_flags m.levels (entry_at m.window s.paths) s.paths (path_at m.levels level page) given)
do_call m s (SetFlags at level page given) = after_change s.pool (set_flags m.levels (entry_at m.window s.paths) s.paths at (path_at m.levels level page) given)
do_call m s (TranslatePage level page) = only_reply s (Answered (translate_page m.levels (entry_at m.window s.paths) (path_at m.levels level page)))
do_call m s (Translate p) = only_reply s (Position (translate m.levels (entry_at m.window s.paths) p))
do_call m s (TranslateAddress p) = only_reply s (Address (address_of (translate m.levels (entry_at m.window s.paths) p)))
do_call m s (CleanUp low high) = after_clean_up m.take_back s.pool (clean_up m.levels s.paths low high)

-- The result of any call on a state of the machine. A call that isn't allowed gets the reply `NotAllowed` and changes nothing.
abbrev pub step : Machine → State → Call → AfterCall
step m s call = if allowed m.levels m.window s.paths call then do_call m s call else only_reply s NotAllowed

-- The replies to a list of calls, one for each, made in order from a state of the machine.
abbrev pub replies_of : Machine → State → List Call → List Reply
replies_of m s [] = []
replies_of m s (call ∷ calls) = (step m s call).reply ∷ replies_of m (step m s call).state calls

-- The state of the machine after a list of calls, made in order from a state.
abbrev pub state_after : Machine → State → List Call → State
state_after m s [] = s
state_after m s (call ∷ calls) = state_after m (step m s call).state calls
