-- The condition of a map in two parts: its flags, and its page's parents, which must be present if the parent flags lack PRESENT.
use Rattle.std.specs.Prelude.{◌≡◌, ◌≤◌, ◌%◌, ℕ, ◌&&◌, ◌||◌, Bool, true, false, not, List, find, Result, Ok, Err}
use Rattle.x86_64_model.specs.Allowed.{none_absent}
use Rattle.x86_64_model.specs.Entry.{present, huge, no_address}
use Rattle.x86_64_model.specs.Hierarchy.{Hierarchy, path_of}
use Rattle.x86_64_model.specs.Path.{parents}
use Rattle.x86_64_model.specs.PathMap.{PathMap, entry}
use Rattle.x86_64_model.specs.Position.{span}
use Rattle.x86_64_model.specs.Refusal.{Refusal, PageNotMapped, ParentEntryHugePage, InvalidFrameAddress, PageAlreadyMapped, FrameAllocationFailed}
use Rattle.x86_64_model.specs.Window.{begins_with}

-- The part of a map's condition that concerns its flags alone: neither flags have address bits, and HUGE_PAGE is neither in the
-- parent flags nor in the flags of a 4KiB (small) page.
abbrev pub flags_allowed : (small : Bool) (flags parent_flags : ℕ) → Bool
flags_allowed small given more = no_address given && no_address more && not (huge more) && (not small || not (huge given))

-- Whether every parent of a page, which is given by its path, is present, down to and including the first huge one.
abbrev pub are_present : PathMap → (page : List ℕ) → Bool
are_present M q = none_absent M (find (λ p. not (present (entry M p)) || huge (entry M p)) (parents q))

-- Whether a walk down a page's parents, by its result, met none that isn't present.
abbrev pub meets_none_absent : Result ℕ Refusal → Bool
meets_none_absent (Ok frame) = true
meets_none_absent (Err PageNotMapped) = false
meets_none_absent (Err ParentEntryHugePage) = true
meets_none_absent (Err (InvalidFrameAddress address)) = true
meets_none_absent (Err (PageAlreadyMapped frame)) = true
meets_none_absent (Err FrameAllocationFailed) = true

-- Each page of a level between two positions (addresses counted without the non-canonical gap), both included, is outside the
-- recursive window.
abbrev pub AreOutside : {Lent : Type 0} → Hierarchy Lent → (level first last : ℕ) → Type 0
AreOutside h level first last = (p : ℕ) → first ≤ p → p ≤ last → p % span level ≡ 0 → begins_with h.layout.window (path_of h level p) ≡ false
