-- What calls on the parts of larger pages return and write.
use Rattle.std.specs.Prelude.{ℕ, Option, Some, None}
use Rattle.x86_64_c.specs.Status as status
use Rattle.x86_64_live.specs.Parts.{split_refusal}
use Rattle.x86_64_live.specs.declared.parts.SplitError.{SplitError}
use Rattle.x86_64_live.specs.declared.parts.SplitError.TheVariants.{NoSuchLevel, PageNotMapped, HasTable, InvalidFrameAddress}

-- The status for why a page can't be split, if it can't.
abbrev pub error_status : Option SplitError → ℕ
error_status None = status.ok
error_status (Some NoSuchLevel) = status.bad_levels
error_status (Some PageNotMapped) = status.page_not_mapped
error_status (Some HasTable) = status.has_table
error_status (Some InvalidFrameAddress) = status.invalid_frame_address

-- The status that says whether the page that an entry of a level maps can be split, by the entry's word.
abbrev pub split_status : (level entry : ℕ) → ℕ
split_status level e = error_status (split_refusal level e)
