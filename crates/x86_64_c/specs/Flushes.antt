-- What has to be flushed after a call, by its kind and its status, and after an exchange of an entry's word, by both words.
use Rattle.std.specs.Prelude.{◌≡◌, ◌≤◌, ℕ, ◌==◌, ◌&&◌, ◌||◌, not, nat_lt, nat_le, Bool, true, cond, List, [], length, Option, Some, None, unwrap_or}
use Rattle.x86_64_model.specs.Call.{Call, MapTo, MapToWithTableFlags, IdentityMap, Unmap, UpdateFlags, SetFlags, TranslatePage, Translate, TranslateAddress, CleanUp, Reply, NotAllowed, Answered, Position, Address, Cleaned, parent_flags_of}
use Rattle.x86_64_model.specs.Entry.{no_execute}
use Rattle.x86_64_model.specs.Flushing.{flush_after, due_between}
use Rattle.x86_64_model.specs.Machine.{Machine, State, step}
use Rattle.x86_64_model.specs.Path.{level_of as level_at}
use Rattle.x86_64.specs.FlushesDue.{rank, flush_for}
use Rattle.x86_64_c.specs.Calls.{answer_status}
use Rattle.x86_64_c.specs.Status as status

-- The number that callers in C have for the kind of a call of the model, or `None` if they can't make it.
abbrev pub call_kind : Call → Option ℕ
call_kind (MapTo level page frame given) = None
call_kind (MapToWithTableFlags level page frame given parent_flags) = Some 0
call_kind (IdentityMap level frame given) = None
call_kind (Unmap level page) = Some 1
call_kind (UpdateFlags level page given) = Some 2
call_kind (SetFlags at level page given) = Some 3
call_kind (TranslatePage level page) = None
call_kind (Translate p) = None
call_kind (TranslateAddress p) = None
call_kind (CleanUp low high) = Some 4

-- The status of a reply of the model's machine.
abbrev pub reply_number : Reply → ℕ
reply_number NotAllowed = status.not_allowed
reply_number (Answered answer) = answer_status answer
reply_number (Position t) = status.ok
reply_number (Address a) = status.ok
reply_number Cleaned = status.ok

-- A call of the model is of this kind, and has these parent flags if it is a map.
pub record IsAsked (kind parent_flags : ℕ) (call : Call) : Type 0 where
  pub kind_is : call_kind call ≡ Some kind
  pub flags_are : unwrap_or (parent_flags_of call) parent_flags ≡ parent_flags

-- The number of the least flush that settles all that is due after a call with this reply, with L levels and no recursive index: 0
-- nothing, 1 tables, 2 the page, 3 everything.
abbrev pub flush_number : (L : ℕ) → Call → Reply → ℕ
flush_number L call reply = rank (flush_for (flush_after L None [] call reply))

-- The answer is the number of the least flush that settles all that is due after each call of this kind, with these parent flags,
-- to which the machine's reply has this status.
abbrev pub TellsFlushNumber : (kind parent_flags status answer : ℕ) → Type 0
TellsFlushNumber kind more s answer = (m : Machine) (state : State) (call : Call) → IsAsked kind more call
    → reply_number (step m state call).reply ≡ s → answer ≡ flush_number m.levels call (step m state call).reply

-- Whether a call of this kind on a range has made calls on pages if it returned this status.
abbrev pub is_made : (kind status : ℕ) → Bool
is_made kind s = (s == status.ok) || ((s == status.more) || ((kind == 0) && (nat_lt s status.bad_levels && not (s == status.not_allowed))))

-- If a call of this kind on a range has made calls on pages, the answer is no less than the number of the flush that is due after
-- each of these, whatever its reply was.
abbrev pub TellsFlushes : (kind parent_flags status answer : ℕ) → Type 0
TellsFlushes kind more s answer = is_made kind s ≡ true → (L : ℕ) (call : Call) (reply : Reply) → IsAsked kind more call → flush_number L call reply ≤ answer

-- The answer is the number of the least flush that settles all that is due after the word of an entry of this level was exchanged for
-- another one, with any number of levels and no recursive index: 0 nothing, 1 tables, 2 the page, 3 everything.
abbrev pub TellsExchange : (level old new answer : ℕ) → Type 0
TellsExchange level old new answer =
    (L : ℕ) (q : List ℕ) → length q ≤ L → level_at L q ≡ level → answer ≡ rank (flush_for (due_between L None q old new))

-- ---- the rule

-- The number of the flush after a map: 3, everything, if its parent flags have NO_EXECUTE, and otherwise 0, nothing.
abbrev pub flush_after_map : (parent_flags : ℕ) → ℕ
flush_after_map more = cond (no_execute more) 3 0

-- The number of a flush after a call that was done, also if it was done for some pages of a range, and otherwise 0, nothing.
abbrev pub if_status_done : (status flush : ℕ) → ℕ
if_status_done s flush = cond ((s == status.ok) || (s == status.more)) flush 0

-- The number of the flush after a call of this kind that was allowed, with this status, and for a map with these parent flags.
abbrev pub by_kind : (kind parent_flags status : ℕ) → ℕ
by_kind kind more s = cond (kind == 0) (flush_after_map more) (cond ((kind == 1) || (kind == 2)) (if_status_done s 2)
    (cond (kind == 3) (if_status_done s 3) (cond (kind == 4) 1 3)))

-- The number of the flush after a call of this kind with this status, and for a map with these parent flags: nothing if it was not
-- allowed or an argument was wrong.
abbrev pub flush_by : (kind parent_flags status : ℕ) → ℕ
flush_by kind more s = cond ((s == status.not_allowed) || nat_le status.bad_levels s) 0 (by_kind kind more s)
