-- What calls that change tables do, and their statuses.
use Rattle.std.specs.Prelude.{◌≡◌, ℕ, Bool, true, false, ◌&&◌, nat_le, List, Option, Some, None, unwrap_or, Result, Ok, Err}
use Rattle.std.specs.Option.{option_or}
use Rattle.x86_64_model.specs.Call as model
use Rattle.x86_64_model.specs.Call.{Call}
use Rattle.x86_64_model.specs.Hierarchy.{Hierarchy, Does, PoolFits, allows}
use Rattle.x86_64_model.specs.Refusal.{Refusal, PageNotMapped, ParentEntryHugePage, InvalidFrameAddress, PageAlreadyMapped, FrameAllocationFailed, Answer, Done, Refused}
use Rattle.x86_64_tables.specs.MapperAnswers.{map_refusal, refusal_of_unmap, refusal_of_update, refusal_of_translate}
use Rattle.x86_64.specs.Replies.{Reply, SizeReply}
use Rattle.x86_64_model.specs.Store.{KeepsPool}
use Rattle.x86_64.specs.declared.call_values.MapperReply.TheVariants.{Of4KiB, Of2MiB, Of1GiB, Translate, Address, Cleaned, NotAllowed}
use Rattle.x86_64.specs.declared.call_values.PageReply.TheVariants.{Map, Unmap, Update, TableFlags, Frame}
use Rattle.x86_64_c.specs.Arguments.{unless, bad_hierarchy, wrong_page}
use Rattle.x86_64_c.specs.Status as status
use Rattle.x86_64_c.specs.declared.arguments.Hierarchy.{Hierarchy as Given}
use Rattle.x86_64_c.specs.declared.arguments.Page.{Page}

-- ---- statuses

-- The status that says why a call is refused.
abbrev pub refusal_status : Refusal → ℕ
refusal_status PageNotMapped = status.page_not_mapped
refusal_status ParentEntryHugePage = status.parent_entry_huge_page
refusal_status (InvalidFrameAddress address) = status.invalid_frame_address
refusal_status (PageAlreadyMapped frame) = status.page_already_mapped
refusal_status FrameAllocationFailed = status.frame_allocation_failed

-- The status of the machine's answer to a call: OK, or the one that says why the call is refused.
abbrev pub answer_status : Answer → ℕ
answer_status (Done frame) = status.ok
answer_status (Refused why) = refusal_status why

-- The status of a call's result: OK, or that of the refusal for which its error stands.
abbrev pub result_status : {X E : Type 0} → (E → Refusal) → Result X E → ℕ
result_status refusal (Ok x) = status.ok
result_status refusal (Err why) = refusal_status (refusal why)

-- The status of a reply to a call on a page.
abbrev pub page_status : {S : Type 0} → SizeReply S → ℕ
page_status (Map mapped) = result_status map_refusal mapped
page_status (Unmap unmapped) = result_status refusal_of_unmap unmapped
page_status (Update updated) = result_status refusal_of_update updated
page_status (TableFlags done) = result_status refusal_of_update done
page_status (Frame frame) = result_status refusal_of_translate frame

-- The status of a mapper's reply to any call.
abbrev pub reply_status : Reply → ℕ
reply_status (Of4KiB reply) = page_status reply
reply_status (Of2MiB reply) = page_status reply
reply_status (Of1GiB reply) = page_status reply
reply_status (Translate result) = status.ok
reply_status (Address address) = status.ok
reply_status Cleaned = status.ok
reply_status NotAllowed = status.not_allowed

-- ---- changes of one entry

-- What is wrong with a hierarchy in an array of so many tables, or else with a page.
abbrev pub bad_on_page : Given → (count : ℕ) → Page → Option ℕ
bad_on_page h count page = option_or (bad_hierarchy h count) (wrong_page h.levels page)

-- Whether entries of a level name tables, with L levels.
abbrev pub is_table_level : (L level : ℕ) → Bool
is_table_level L level = nat_le 2 level && nat_le level L

-- What is wrong with a hierarchy in an array of so many tables, or else with a level of entries that name tables, or else with a
-- page.
abbrev pub bad_on_table : Given → (count level : ℕ) → Page → Option ℕ
bad_on_table h count level page = option_or (bad_hierarchy h count)
    (option_or (unless (is_table_level h.levels level) status.bad_levels) (wrong_page h.levels page))

-- An allowed call on one entry was answered so, as the crate's calls are, with this status. A pool that fitted the hierarchy still
-- fits it.
pub record Changes (h : Hierarchy (Unit {0})) (call : Call) (answer : Answer) (after : Hierarchy (Unit {0})) (status : ℕ) : Type 0 where
  pub does : Does h call answer after
  pub status_is : status ≡ answer_status answer
  pub keeps : (serves : ℕ → Bool) (pool : List ℕ) → PoolFits h serves pool → KeepsPool h.layout serves h.memory pool after.memory pool

-- A call on one entry is refused as not allowed and changes nothing, or it is allowed and answered.
abbrev pub MayChange : (h : Hierarchy (Unit {0})) (call : Call) (after : Hierarchy (Unit {0})) (status : ℕ) → Type 0
MayChange h call after s = (allows h call ≡ false → (s ≡ status.not_allowed) × (after ≡ h))
    × (allows h call ≡ true → (answer : Answer) × Changes h call answer after s)

-- The address that the answer to an unmap names: that of the frame that the page was mapped to, or the one in its entry that is no
-- multiple of its size.
abbrev pub told_by : Answer → Option ℕ
told_by (Done frame) = Some frame
told_by (Refused PageNotMapped) = None
told_by (Refused ParentEntryHugePage) = None
told_by (Refused (InvalidFrameAddress address)) = Some address
told_by (Refused (PageAlreadyMapped frame)) = None
told_by (Refused FrameAllocationFailed) = None

-- The page of a level was unmapped, or an unmap of it was refused, and this is the address that the answer names, if it names one.
abbrev pub TellsUnmap : (h : Hierarchy (Unit {0})) (level page : ℕ) (after : Hierarchy (Unit {0})) (status : ℕ) (address : Option ℕ) → Type 0
TellsUnmap h level page after s address = (answer : Answer) × Changes h (model.Unmap level page) answer after s × (address ≡ told_by answer)

-- The page of a level was unmapped, or an unmap of it was refused. The address that the answer names was written, or nothing if it
-- names none.
abbrev pub Unmaps : (h : Hierarchy (Unit {0})) (level page : ℕ) (after : Hierarchy (Unit {0})) (status before frame : ℕ) → Type 0
Unmaps h level page after s before frame = (answer : Answer) × Changes h (model.Unmap level page) answer after s × (frame ≡ unwrap_or (told_by answer) before)
