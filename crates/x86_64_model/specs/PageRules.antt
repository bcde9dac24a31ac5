-- The answers and effects of the calls on one entry: `unmap`, `update_flags`, `translate_page` and `set_flags`.
-- E is the entry read at a path. A refused call changes nothing, an accepted one at most one entry.
use Rattle.std.specs.Prelude.{ℕ, ◌%◌, ◌==◌, nat_le, not, cond, List, Option, Some, None, bit_or}
use Rattle.x86_64_model.specs.Entry.{present, used, huge, address}
use Rattle.x86_64_model.specs.Path.{is_small, level_of, front_at, span_size}
use Rattle.x86_64_model.specs.PathMap.{PathMap, put}
use Rattle.x86_64_model.specs.Refusal.{Refusal, PageNotMapped, ParentEntryHugePage, InvalidFrameAddress, Answer, Done, Refused, first_stop, refused_if, answer_unless}
use Rattle.x86_64_model.specs.MapRule.{leaf_entry}

-- The result of a call on one entry: the path map after it, and the answer.
pub record AfterChange : Type 0 where
  pub paths : PathMap
  pub answer : Answer

-- The result of a call that may be refused. A refusal leaves the path map as it is and is the answer. Without one the result is
-- the next one.
abbrev pub refused_or : PathMap → Option Refusal → (next : AfterChange) → AfterChange
refused_or paths None next = next
refused_or paths (Some why) next = record { paths = paths; answer = Refused why }

-- ---- refusals by the page's own entry e, if no parent refuses

-- The refusal of an `unmap` by the page's own entry e, None if it doesn't refuse. The entry must be present. It must be huge if
-- and only if the page is a 2MiB or 1GiB page, and then its address must be a multiple of the page's size.
abbrev pub unmap_refusal : (L : ℕ) (page : List ℕ) (e : ℕ) → Option Refusal
unmap_refusal L q e = refused_if (not (present e)) PageNotMapped
    (cond (is_small L q)
    (refused_if (huge e) ParentEntryHugePage None)
    (refused_if (not (huge e)) ParentEntryHugePage (refused_if (not (address e % span_size L q == 0)) (InvalidFrameAddress (address e)) None)))

-- The refusal of an `update_flags` by the page's own entry e, None if it doesn't refuse. The entry must be used, and huge for a
-- 2MiB or 1GiB page.
abbrev pub update_refusal : (L : ℕ) (page : List ℕ) (e : ℕ) → Option Refusal
update_refusal L q e = refused_if (not (used e)) PageNotMapped (cond (is_small L q) None (refused_if (not (huge e)) PageNotMapped None))

-- The refusal of a `translate_page` by the page's own entry e, None if it doesn't refuse. The entry must be used. For a 2MiB or
-- 1GiB page it must be huge, with an address that is a multiple of the page's size.
abbrev pub translate_refusal : (L : ℕ) (page : List ℕ) (e : ℕ) → Option Refusal
translate_refusal L q e = refused_if (not (used e)) PageNotMapped
    (cond (is_small L q) None (refused_if (not (huge e)) (InvalidFrameAddress (address e)) (refused_if (not (address e % span_size L q == 0)) (InvalidFrameAddress (address e)) None)))

-- ---- the calls

-- The result of `unmap`. Unless the page's parents or its own entry refuse the call, this entry becomes absent, and the answer
-- is the address that it had. E returns the entry read at a path.
unfoldable pub unmap : (L : ℕ) (E : List ℕ → ℕ) → PathMap → (page : List ℕ) → AfterChange
unmap L E paths q = let e = E q in
    refused_or paths (first_stop E q)
    (refused_or paths (unmap_refusal L q e)
    (record { paths = put paths q 0; answer = Done (address e) }))

-- The result of `update_flags`. Unless the page's parents or its own entry refuse the call, the flags of this entry become
-- those given, with HUGE_PAGE for a 2MiB or 1GiB page, and the answer is its address. E returns the entry read at a path.
unfoldable pub update_flags : (L : ℕ) (E : List ℕ → ℕ) → PathMap → (page : List ℕ) (flags : ℕ) → AfterChange
update_flags L E paths q given = let e = E q in
    refused_or paths (first_stop E q)
    (refused_or paths (update_refusal L q e)
    (record { paths = put paths q (leaf_entry L q (address e) given); answer = Done (address e) }))

-- The answer of `translate_page`: the address in the page's entry, unless its parents or this entry refuse the call. E returns
-- the entry read at a path.
unfoldable pub translate_page : (L : ℕ) (E : List ℕ → ℕ) → (page : List ℕ) → Answer
translate_page L E q = let e = E q in
    answer_unless (first_stop E q) (answer_unless (translate_refusal L q e) (Done (address e)))

-- The result of a call that sets the flags of the entry of a level on the page's path. A level that isn't above the page's own
-- is refused, and so is an unused entry. Unless the call is refused, by these or by a parent of the entry, the entry's flags
-- become those given, and the answer is its address. E returns the entry read at a path.
unfoldable pub set_flags : (L : ℕ) (E : List ℕ → ℕ) → PathMap → (level : ℕ) (page : List ℕ) (flags : ℕ) → AfterChange
set_flags L E paths level page given =
    cond (nat_le level (level_of L page)) (record { paths = paths; answer = Refused ParentEntryHugePage })
    (let q = front_at L level page in
    refused_or paths (first_stop E q)
    (refused_or paths (refused_if (not (used (E q))) PageNotMapped None)
    (record { paths = put paths q (bit_or (address (E q)) given); answer = Done (address (E q)) })))
