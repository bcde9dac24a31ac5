-- Which calls are allowed. A call that isn't allowed gets the reply `NotAllowed` and changes nothing.
use Rattle.std.specs.Prelude.{ℕ, ◌&&◌, ◌||◌, nat_lt, Bool, true, false, not, cond, List, find, Option, Some, None}
use Rattle.x86_64_model.specs.Position.{lower_half}
use Rattle.x86_64_model.specs.Entry.{present, huge, no_address}
use Rattle.x86_64_model.specs.Path.{parents, is_small, front_at, path_at}
use Rattle.x86_64_model.specs.PathMap.{PathMap, entry}
use Rattle.x86_64_model.specs.Window.{Window, begins_with, entry_at}
use Rattle.x86_64_model.specs.Refusal.{Answer, Done, Refused}
use Rattle.x86_64_model.specs.MapRule.{parent_part}
use Rattle.x86_64_model.specs.PageRules.{set_flags}
use Rattle.x86_64_model.specs.Call.{Call, MapTo, MapToWithTableFlags, IdentityMap, Unmap, UpdateFlags, SetFlags, TranslatePage, Translate, TranslateAddress, CleanUp}

-- Whether the entry at a path is present, true too if there is no path.
abbrev pub none_absent : PathMap → Option (List ℕ) → Bool
none_absent paths None = true
none_absent paths (Some p) = present (entry paths p)

-- Whether the parent flags have PRESENT, or each parent of a page is present, down to and including the first one with HUGE_PAGE.
abbrev pub parents_present : PathMap → (parent_flags : ℕ) → List ℕ → Bool
parents_present paths parent_flags q = present parent_flags || none_absent paths (find (λ p. not (present (entry paths p)) || huge (entry paths p)) (parents q))

-- Whether the page at a path may be mapped with these flags and parent flags: neither have address bits, the parent flags lack
-- HUGE_PAGE, as do the flags of a 4KiB page, the parents down to the first one with HUGE_PAGE are present or the parent flags make
-- them so, and the page is outside the recursive window.
abbrev pub map_allowed : (L : ℕ) → Option Window → PathMap → List ℕ → (flags parent_flags : ℕ) → Bool
map_allowed L window paths q given parent_flags =
    no_address given && no_address parent_flags && not (huge parent_flags) && (not (is_small L q) || not (huge given))
    && parents_present paths parent_flags q && not (begins_with window q)

-- Whether a call that maps a page is allowed on the path map of a hierarchy with L levels, and a recursive window if there is one.
-- False for any other call.
abbrev pub map_call_allowed : (L : ℕ) → Option Window → PathMap → Call → Bool
map_call_allowed L window paths (MapTo level page frame given) = map_allowed L window paths (path_at L level page) given (parent_part given)
map_call_allowed L window paths (MapToWithTableFlags level page frame given parent_flags) = map_allowed L window paths (path_at L level page) given parent_flags
map_call_allowed L window paths (IdentityMap level frame given) = nat_lt frame (lower_half L) && map_allowed L window paths (path_at L level frame) given (parent_part given)
map_call_allowed L window paths call = false

-- Whether an answer is a refusal.
abbrev pub refuses : Answer → Bool
refuses (Done f) = false
refuses (Refused why) = true

-- Whether two truth values are equal.
abbrev pub both_or_none : Bool → Bool → Bool
both_or_none a b = cond a b (not b)

-- Whether these flags may be set in the entry of a level on a page's path, as far as HUGE_PAGE is concerned. Above level three they
-- must lack it. At levels three and two they must have it if and only if the entry has it, unless the call is refused.
abbrev pub set_flags_allowed : (L : ℕ) (E : List ℕ → ℕ) → PathMap → (level : ℕ) (page : List ℕ) (flags : ℕ) → Bool
set_flags_allowed L E paths level page given = cond (nat_lt 3 level) (not (huge given))
    (refuses (set_flags L E paths level page given).answer || both_or_none (huge given) (huge (E (front_at L level page))))

-- Whether the flags of the entry at a path may be set to these: they have no address bits, and the path is outside the recursive
-- window.
abbrev pub update_allowed : Option Window → (page : List ℕ) → (flags : ℕ) → Bool
update_allowed window q given = no_address given && not (begins_with window q)

-- Whether the flags of the entry of a level on a page's path may be set to these, in a hierarchy with L levels.
abbrev pub table_flags_allowed : (L : ℕ) → Option Window → PathMap → (level : ℕ) (page : List ℕ) (flags : ℕ) → Bool
table_flags_allowed L window paths level q given = update_allowed window q given && set_flags_allowed L (entry_at window paths) paths level q given

-- Whether a call is allowed on the path map of a hierarchy with L levels, and a recursive window if there is one. A call that isn't
-- allowed gets the reply `NotAllowed` and changes nothing.
abbrev pub allowed : (L : ℕ) → Option Window → PathMap → Call → Bool
allowed L window paths (Unmap level page) = not (begins_with window (path_at L level page))
allowed L window paths (UpdateFlags level page given) = update_allowed window (path_at L level page) given
allowed L window paths (SetFlags at level page given) = table_flags_allowed L window paths at (path_at L level page) given
allowed L window paths (TranslatePage level page) = true
allowed L window paths (Translate p) = true
allowed L window paths (TranslateAddress p) = true
allowed L window paths (CleanUp low high) = true
allowed L window paths map = map_call_allowed L window paths map
