-- Notions for calls on pages and for their tokens.
use Rattle.std.specs.Prelude.{◌≡◌, ◌≤◌, ◌+◌, ℕ, Bool, true, false, List, [], Option, Some, None, option_map, Result}
use Rattle.std.proofs.Common.{arith}
use Rattle.x86_64_model.specs.Call as machine
use Rattle.x86_64_model.specs.Call.{Call}
use Rattle.x86_64_model.specs.Machine.{Machine, State, step}
use Rattle.x86_64_model.specs.Hierarchy.{Hierarchy}
use Rattle.x86_64_model.specs.Refusal.{Answer}
use Rattle.x86_64_model.specs.Store.{Store}
use Rattle.x86_64_mappers.specs.PageAnswers.{DoesFlags}
use Rattle.x86_64_tables.specs.declared.errors.FlagUpdateError.{FlagUpdateError}
use Rattle.x86_64_tables.specs.declared.tokens.recorder.FlushItem.{FlushItem}
use Rattle.std.specs.declared.convert.Infallible.{Infallible}
use Rattle.x86_64.specs.declared.call_values.PageReply.TheVariants as page_reply
use Rattle.x86_64.specs.Flushes.{size_items}
use Rattle.x86_64.specs.Replies.{SizeReply, if_on_page, size_changes_nothing}
use Rattle.x86_64.specs.Runs.{AfterStep, machine_with, state_in, state_with}
use Rattle.x86_64.specs.FreeFrames.{KeepsFree}

-- The items if they are recorded, and otherwise none.
abbrev pub recorded : Bool → List FlushItem → List FlushItem
recorded true items = items
recorded false items = []

-- Where there is room for n + 1 items, there is room for n.
pub less_room : (n room : ℕ) → n + 1 ≤ room → n ≤ room
less_room n room h = omega arith

-- The items recorded for a call on a page of this size in bytes, by its reply, or none if the call isn't allowed.
abbrev pub items_where : {S : Type 0} → (levels size : ℕ) → Option (SizeReply S) → List FlushItem
items_where levels size None = []
items_where levels size (Some answer) = size_items levels size answer

-- Whether a call on a page isn't allowed, or its reply shows that no word changed.
abbrev pub changes_nothing_where : {S : Type 0} → Option (SizeReply S) → Bool
changes_nothing_where None = true
changes_nothing_where (Some answer) = size_changes_nothing answer

-- The reply to a call on a page of the size S for the machine's answer, or `None` if the machine never answers this call so.
abbrev pub size_reply : {S : Type 0} → Call → Answer → Option (SizeReply S)
size_reply {S = S} call answer = if_on_page (λ level replies. replies S answer) call

-- The reply to a call on a page of the size S for the machine's reply, or `None` if the machine never replies to such a call so.
-- `Some None` stands for a call that isn't allowed.
abbrev pub size_answer : {S : Type 0} → Call → machine.Reply → Option (Option (SizeReply S))
size_answer call (machine.Answered answer) = option_map Some (size_reply call answer)
size_answer call machine.NotAllowed = Some None
size_answer call r = None

-- The machine's step for a call on a page of the size S: the next state, and the reply, which is `Some None` if the call isn't
-- allowed.
abbrev pub size_step : {S : Type 0} → Machine → State → Call → AfterStep (Option (SizeReply S))
size_step machine state call = let after = step machine state call in record { state = after.state; reply = size_answer call after.reply }

-- A call on a page was executed: what is left is the state after the machine's step, and the reply is the machine's.
abbrev pub PageStepped : {S Lent : Type 0} → (h : Hierarchy Lent) → Store → Call → Option (SizeReply S) → (after : Hierarchy Lent) → (rest : List ℕ) → Type 0
PageStepped h store call reply after rest =
    size_step (machine_with h store) (state_with h store) call ≡ record { state = state_in h.layout after.memory rest; reply = Some reply }

-- A call on a page returns no frame, and the frames that are free afterwards keep their words.
abbrev pub PageLeavesFree : {Lent : Type 0} → (h : Hierarchy Lent) → (pool : List ℕ) → (after : Hierarchy Lent) → (rest : List ℕ) → Type 0
PageLeavesFree h pool after rest = KeepsFree h.layout h.memory pool [] after.memory rest

-- The hierarchy answers a change of a table entry's flags with this reply, and is `after` then.
abbrev pub SetsFlags : {S Lent : Type 0} → Hierarchy Lent → Call → SizeReply S → (after : Hierarchy Lent) → Type 0
SetsFlags h call reply after = (told : Result Unit FlagUpdateError) × (reply ≡ page_reply.TableFlags told) × DoesFlags h call told after

-- With four levels there are no flags of level five, so such flags would make four equal to five.
pub no_flags : (flags : Infallible) → let four : ℕ = 4 in four ≡ 5
no_flags none = elim none [ ]
