-- What the entry of a page says about its frame.
use Rattle.std.specs.Prelude.{◌%◌, ℕ, Bool, ◌==◌, ◌&&◌, ◌||◌, not, cond, Result, Ok, Err}
use Rattle.x86_64_model.specs.Entry.{present, used, huge, address}
use Rattle.x86_64_model.specs.Position.{span}
use Rattle.x86_64_model.specs.Refusal.{Refusal, PageNotMapped, ParentEntryHugePage, InvalidFrameAddress}

-- The frame or the refusal of an unmap by a page's entry: whether the entry is present, the page is one of 4KiB, the entry is huge,
-- and its address is a multiple of the page's size.
abbrev pub leaf_by : (is_present small is_huge aligned : Bool) → (address : ℕ) → Result ℕ Refusal
leaf_by p small h aligned a = cond (not p) (Err PageNotMapped)
    (cond small
    (cond h (Err ParentEntryHugePage) (Ok a))
    (cond (not h) (Err ParentEntryHugePage) (cond (not aligned) (Err (InvalidFrameAddress a)) (Ok a))))

-- The frame that the entry of a page of a level names, or the reason why the page can't be unmapped.
abbrev pub leaf_frame : (level entry : ℕ) → Result ℕ Refusal
leaf_frame level e = leaf_by (present e) (level == 1) (huge e) (address e % span level == 0) (address e)

-- Whether an entry maps a page of a level: it is used, and huge above level one.
abbrev pub is_page_entry : (level entry : ℕ) → Bool
is_page_entry level e = used e && ((level == 1) || huge e)

-- The frame or the refusal of a page's translation by the page's entry: whether the entry is used, it maps a page of its level, and
-- its address is a multiple of the page's size.
abbrev pub named_by : (is_used maps aligned : Bool) → (address : ℕ) → Result ℕ Refusal
named_by u maps aligned a = cond (not u) (Err PageNotMapped) (cond (maps && aligned) (Ok a) (Err (InvalidFrameAddress a)))

-- The frame that the entry of a page of a level names, present or not, or the reason why it names none.
abbrev pub named_frame : (level entry : ℕ) → Result ℕ Refusal
named_frame level e = named_by (used e) (is_page_entry level e) (address e % span level == 0) (address e)
