-- Calls on a hierarchy and their replies.
use Rattle.std.specs.Prelude.{ℕ, ◌≤◌, Option, Some, None}
use Rattle.x86_64_model.specs.Refusal.{Answer}
use Rattle.x86_64_model.specs.MapRule.{parent_part}
use Rattle.x86_64_model.specs.Translation.{Translated}

-- A call on a hierarchy. A page is named by its level, which is that of the entry that maps it, and by its position (the number of
-- its address counted without the non-canonical gap). A frame is its address, and flags are bits.
pub data Call : Type 0 where
  MapTo : (level page frame flags : ℕ) → Call
  MapToWithTableFlags : (level page frame flags parent_flags : ℕ) → Call
  -- Maps the page of the level that starts at the frame's own address.
  IdentityMap : (level frame flags : ℕ) → Call
  Unmap : (level page : ℕ) → Call
  UpdateFlags : (level page flags : ℕ) → Call
  -- Sets the flags of the entry of the level `at` on the path of a page.
  SetFlags : (at level page flags : ℕ) → Call
  TranslatePage : (level page : ℕ) → Call
  Translate : (position : ℕ) → Call
  TranslateAddress : (position : ℕ) → Call
  -- Cleans up the positions from low to high, inclusive.
  CleanUp : (low high : ℕ) → Call

-- What a call returns: that it isn't allowed, the answer of a call on a page, what `translate` says of a position, a physical
-- address if there is one, or nothing for a clean up.
pub data Reply : Type 0 where
  NotAllowed : Reply
  Answered : Answer → Reply
  Position : Translated → Reply
  Address : Option ℕ → Reply
  Cleaned : Reply

-- The level is that of the entry of a 4KiB, 2MiB or 1GiB page, with L levels.
abbrev pub IsPageLevel : (L level : ℕ) → Type 0
IsPageLevel L level = (1 ≤ level) × (level ≤ 3) × (level ≤ L)

-- The call is possible with L levels: it names only 4KiB, 2MiB and 1GiB pages, and only levels that have entries of the kind it
-- needs.
abbrev pub IsCall : (L : ℕ) → Call → Type 0
IsCall L (MapTo level page frame given) = IsPageLevel L level
IsCall L (MapToWithTableFlags level page frame given more) = IsPageLevel L level
IsCall L (IdentityMap level frame given) = IsPageLevel L level
IsCall L (Unmap level page) = IsPageLevel L level
IsCall L (UpdateFlags level page given) = IsPageLevel L level
IsCall L (SetFlags at level page given) = (2 ≤ at) × (at ≤ L) × IsPageLevel L level
IsCall L (TranslatePage level page) = IsPageLevel L level
IsCall L (Translate p) = Unit {0}
IsCall L (TranslateAddress p) = Unit {0}
IsCall L (CleanUp low high) = Unit {0}

-- The parent flags of a call that maps a page, None for any other call.
abbrev pub parent_flags_of : Call → Option ℕ
parent_flags_of (MapTo level page frame given) = Some (parent_part given)
parent_flags_of (MapToWithTableFlags level page frame given parent_flags) = Some parent_flags
parent_flags_of (IdentityMap level frame given) = Some (parent_part given)
parent_flags_of call = None
