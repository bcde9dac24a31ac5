-- What has to be flushed after a call, from its reply.
use Rattle.std.specs.Prelude.{Bool, false, cond, Ok, Err}
use Rattle.x86_64_model.specs.Entry.{no_execute}
use Rattle.x86_64_model.specs.Call.{Call, MapToWithTableFlags}
use Rattle.x86_64.specs.Replies.{SizeReply}
use Rattle.x86_64.specs.declared.call_values.PageReply.TheVariants as reply
use Rattle.x86_64.specs.declared.flushing.Flush.{Flush}
use Rattle.x86_64.specs.declared.flushing.Flush.TheVariants.{Nothing, Page, Everything}

-- Whether a call marks the entries above its page with NO_EXECUTE.
abbrev pub takes : Call → Bool
takes (MapToWithTableFlags level page frame flags parent_flags) = no_execute parent_flags
takes call = false

-- The flush after a call on a page with this reply, by whether it marks the entries above its page with NO_EXECUTE, and whether a
-- recursive window shows the page's entry as smaller pages.
abbrev pub page_flush : {S : Type 0} → (takes_execute is_shown : Bool) → SizeReply S → Flush
page_flush takes shown (reply.Map mapped) = cond takes Everything Nothing
page_flush takes shown (reply.Unmap (Ok unmapped)) = cond shown Everything Page
page_flush takes shown (reply.Unmap (Err why)) = Nothing
page_flush takes shown (reply.Update (Ok page)) = cond shown Everything Page
page_flush takes shown (reply.Update (Err why)) = Nothing
page_flush takes shown (reply.TableFlags (Ok done)) = Everything
page_flush takes shown (reply.TableFlags (Err why)) = Nothing
page_flush takes shown (reply.Frame frame) = Nothing
