-- What is due after each call is what the rule of flushes says by the status.
use Rattle.std.proofs.Common.{◌≡◌, ◌≤◌, ◌==◌, ◌||◌, ◌&&◌, ℕ, Bool, true, false, true≢false, not, nat_le, nat_lt, cond, Some, List, [], ◌∷◌, take, refl, sym, ap, ◌∙◌, subst, arith}
use Rattle.std.proofs.lemmas.Bool.{eqb-true}
use Rattle.std.proofs.lemmas.Bool.Decides.{nat_tests}
use Rattle.x86_64_model.specs.Call.{Call, MapTo, MapToWithTableFlags, IdentityMap, Unmap, UpdateFlags, SetFlags, TranslatePage, Translate, TranslateAddress, CleanUp, Reply, NotAllowed, Answered, Position, Address, Cleaned}
use Rattle.x86_64_model.specs.Entry.{no_execute}
use Rattle.x86_64_model.specs.Flushing.{PageDue, BelowDue, if_accepted, if_allowed}
use Rattle.x86_64_model.specs.Machine.{Machine, State, do_call, step}
use Rattle.x86_64_model.specs.MapRule.{map_call}
use Rattle.x86_64_model.specs.PageRules.{unmap, update_flags, set_flags}
use Rattle.x86_64_model.specs.Path.{front_at, is_small, path_at}
use Rattle.x86_64_model.specs.Refusal.{Answer, Done, Refused, PageNotMapped, ParentEntryHugePage, InvalidFrameAddress, PageAlreadyMapped, FrameAllocationFailed}
use Rattle.x86_64_model.specs.Window.{entry_at}
use Rattle.x86_64_model.proofs.Lemmas.Machines.Effects.{step_cases}
use Rattle.x86_64.specs.FlushesDue.{rank, flush_for}
use Rattle.x86_64_c.specs.Calls.{answer_status}
use Rattle.x86_64_c.specs.Flushes.{IsAsked, TellsFlushNumber, TellsFlushes, flush_after_map, flush_by, flush_number, is_made, reply_number}

-- ---- by the reply

-- what the rule says by a reply, and what is due
abbrev Agrees : (kind parent_flags L : ℕ) → Call → Reply → Type 0
Agrees kind more L call reply = flush_by kind more (reply_number reply) ≡ flush_number L call reply

of_map : (more : ℕ) (answer : Answer) → flush_by 0 more (answer_status answer) ≡ flush_after_map more
of_map more (Done frame) = refl
of_map more (Refused PageNotMapped) = refl
of_map more (Refused ParentEntryHugePage) = refl
of_map more (Refused (InvalidFrameAddress a)) = refl
of_map more (Refused (PageAlreadyMapped frame)) = refl
of_map more (Refused FrameAllocationFailed) = refl

map_due : (b : Bool) (q : List ℕ) → cond b 3 0 ≡ rank (flush_for (cond b (BelowDue q ∷ []) []))
map_due true q = refl
map_due false q = refl

mapped : (L more frame given level page : ℕ) (answer : Answer) → Agrees 0 more L (MapToWithTableFlags level page frame given more) (Answered answer)
mapped L more frame given level page answer = of_map more answer ∙ map_due (no_execute more) _

page_due : (b : Bool) (q : List ℕ) (frame : ℕ) → 2 ≡ rank (flush_for (PageDue q frame ∷ cond b [] []))
page_due true q frame = refl
page_due false q frame = refl

unmapped : (L more level page : ℕ) (answer : Answer) → Agrees 1 more L (Unmap level page) (Answered answer)
unmapped L more level page (Done frame) = let q = path_at L level page in page_due (is_small L q) q frame
unmapped L more level page (Refused PageNotMapped) = refl
unmapped L more level page (Refused ParentEntryHugePage) = refl
unmapped L more level page (Refused (InvalidFrameAddress a)) = refl
unmapped L more level page (Refused (PageAlreadyMapped frame)) = refl
unmapped L more level page (Refused FrameAllocationFailed) = refl

updated : (L more given level page : ℕ) (answer : Answer) → Agrees 2 more L (UpdateFlags level page given) (Answered answer)
updated L more given level page (Done frame) = let q = path_at L level page in page_due (is_small L q) q frame
updated L more given level page (Refused PageNotMapped) = refl
updated L more given level page (Refused ParentEntryHugePage) = refl
updated L more given level page (Refused (InvalidFrameAddress a)) = refl
updated L more given level page (Refused (PageAlreadyMapped frame)) = refl
updated L more given level page (Refused FrameAllocationFailed) = refl

set : (L more at given level page : ℕ) (answer : Answer) → Agrees 3 more L (SetFlags at level page given) (Answered answer)
set L more at given level page (Done frame) = refl
set L more at given level page (Refused PageNotMapped) = refl
set L more at given level page (Refused ParentEntryHugePage) = refl
set L more at given level page (Refused (InvalidFrameAddress a)) = refl
set L more at given level page (Refused (PageAlreadyMapped frame)) = refl
set L more at given level page (Refused FrameAllocationFailed) = refl

page_most : (b : Bool) (q : List ℕ) (r : Reply) → rank (flush_for (if_accepted r (λ frame. PageDue q frame ∷ cond b [] []))) ≤ 2
page_most b q NotAllowed = omega arith
page_most true q (Answered (Done frame)) = omega arith
page_most false q (Answered (Done frame)) = omega arith
page_most b q (Answered (Refused why)) = omega arith
page_most b q (Position t) = omega arith
page_most b q (Address a) = omega arith
page_most b q Cleaned = omega arith

-- ---- by the call

some_is : (a b : ℕ) → Some a ≡ Some b → a ≡ b
some_is a b same = cc

-- the machine's reply to a call that callers can make
by_call : (m : Machine) (s : State) (call : Call) (kind more : ℕ) → IsAsked kind more call → Agrees kind more m.levels call (step m s call).reply
unfolding do_call
by_call m s (MapTo level page frame given) kind more asked = cc
by_call m s (MapToWithTableFlags level page frame given flags) kind more asked =
    subst (λ k. Agrees k more m.levels (MapToWithTableFlags level page frame given flags) (step m s (MapToWithTableFlags level page frame given flags)).reply) (some_is 0 kind asked.kind_is)
    (subst (λ f. Agrees 0 f m.levels (MapToWithTableFlags level page frame given flags) (step m s (MapToWithTableFlags level page frame given flags)).reply) asked.flags_are
    (step_cases m s (MapToWithTableFlags level page frame given flags) (λ after. Agrees 0 flags m.levels (MapToWithTableFlags level page frame given flags) after.reply)
    (λ _. mapped m.levels flags frame given level page (map_call m.levels s.paths s.pool flags m.added_flags (path_at m.levels level page) frame given).answer) refl))
by_call m s (IdentityMap level frame given) kind more asked = cc
by_call m s (Unmap level page) kind more asked =
    subst (λ k. Agrees k more m.levels (Unmap level page) (step m s (Unmap level page)).reply) (some_is 1 kind asked.kind_is)
    (step_cases m s (Unmap level page) (λ after. Agrees 1 more m.levels (Unmap level page) after.reply)
    (λ _. unmapped m.levels more level page (unmap m.levels (entry_at m.window s.paths) s.paths (path_at m.levels level page)).answer) refl)
by_call m s (UpdateFlags level page given) kind more asked =
    subst (λ k. Agrees k more m.levels (UpdateFlags level page given) (step m s (UpdateFlags level page given)).reply) (some_is 2 kind asked.kind_is)
    (step_cases m s (UpdateFlags level page given) (λ after. Agrees 2 more m.levels (UpdateFlags level page given) after.reply)
    (λ _. updated m.levels more given level page (update_flags m.levels (entry_at m.window s.paths) s.paths (path_at m.levels level page) given).answer) refl)
by_call m s (SetFlags at level page given) kind more asked =
    subst (λ k. Agrees k more m.levels (SetFlags at level page given) (step m s (SetFlags at level page given)).reply) (some_is 3 kind asked.kind_is)
    (step_cases m s (SetFlags at level page given) (λ after. Agrees 3 more m.levels (SetFlags at level page given) after.reply)
    (λ _. set m.levels more at given level page (set_flags m.levels (entry_at m.window s.paths) s.paths at (path_at m.levels level page) given).answer) refl)
by_call m s (TranslatePage level page) kind more asked = cc
by_call m s (Translate p) kind more asked = cc
by_call m s (TranslateAddress p) kind more asked = cc
by_call m s (CleanUp low high) kind more asked = subst (λ k. Agrees k more m.levels (CleanUp low high) (step m s (CleanUp low high)).reply) (some_is 4 kind asked.kind_is) refl

pub tells_flush : (kind more s answer : ℕ) → answer ≡ flush_by kind more s → TellsFlushNumber kind more s answer
tells_flush kind more s answer is m state call asked said = is ∙ ap (flush_by kind more) (sym said) ∙ by_call m state call kind more asked

-- ---- ranges

-- what the rule says for a range of which calls were made
most : (kind more : ℕ) → ℕ
most kind more = cond (kind == 0) (flush_after_map more) (cond ((kind == 1) || (kind == 2)) 2 (cond (kind == 3) 3 (cond (kind == 4) 1 3)))

made : (kind more s : ℕ) → is_made kind s ≡ true → flush_by kind more s ≡ most kind more
unfolding most
made kind more s is = by (s == 0) refl (s == 2) refl
  where
    other : (k : Bool) → (kind == 0) ≡ k → (false || (false || (k && (nat_lt s 16 && not (s == 4))))) ≡ true → flush_by kind more s ≡ most kind more
    other false which kept = absurd (true≢false (sym kept))
    other true which kept =
        let zero_is : kind ≡ 0 = eqb-true kind 0 which in
        let allowed : (s == 4) ≡ false = grind (arith, nat_tests, kept) in
        let low : nat_le 16 s ≡ false = grind (arith, nat_tests, kept) in
        rw (zero_is, allowed, low) refl

    by : (a : Bool) → (s == 0) ≡ a → (b : Bool) → (s == 2) ≡ b → flush_by kind more s ≡ most kind more
    by true zero_is b two_is = rw (eqb-true s 0 zero_is) refl
    by false zero_is true two_is = rw (eqb-true s 2 two_is) refl
    by false zero_is false two_is = other (kind == 0) refl (sym (rw (zero_is, two_is) refl) ∙ is)

-- what is due after a call, whatever its reply
due_most : (L : ℕ) (call : Call) (reply : Reply) (kind more : ℕ) → IsAsked kind more call → flush_number L call reply ≤ most kind more
unfolding most
due_most L (MapTo level page frame given) reply kind more asked = cc
due_most L (MapToWithTableFlags level page frame given flags) reply kind more asked =
    subst (λ k. flush_number L (MapToWithTableFlags level page frame given flags) reply ≤ most k more) (some_is 0 kind asked.kind_is)
    (subst (λ f. flush_number L (MapToWithTableFlags level page frame given flags) reply ≤ flush_after_map f) asked.flags_are (by (no_execute flags) (take 1 (path_at L level page)) reply))
  where
    by : (b : Bool) (path : List ℕ) (r : Reply) → rank (flush_for (if_allowed r (cond b (BelowDue path ∷ []) []))) ≤ cond b 3 0
    by true path NotAllowed = omega arith
    by true path (Answered a) = omega arith
    by true path (Position t) = omega arith
    by true path (Address a) = omega arith
    by true path Cleaned = omega arith
    by false path NotAllowed = omega arith
    by false path (Answered a) = omega arith
    by false path (Position t) = omega arith
    by false path (Address a) = omega arith
    by false path Cleaned = omega arith
due_most L (IdentityMap level frame given) reply kind more asked = cc
due_most L (Unmap level page) reply kind more asked = subst (λ k. flush_number L (Unmap level page) reply ≤ most k more) (some_is 1 kind asked.kind_is) (let q = path_at L level page in page_most (is_small L q) q reply)
due_most L (UpdateFlags level page given) reply kind more asked = subst (λ k. flush_number L (UpdateFlags level page given) reply ≤ most k more) (some_is 2 kind asked.kind_is) (let q = path_at L level page in page_most (is_small L q) q reply)
due_most L (SetFlags at level page given) reply kind more asked = subst (λ k. flush_number L (SetFlags at level page given) reply ≤ most k more) (some_is 3 kind asked.kind_is) (by (front_at L at (path_at L level page)) reply)
  where
    by : (path : List ℕ) (r : Reply) → rank (flush_for (if_accepted r (λ frame. BelowDue path ∷ []))) ≤ 3
    by path NotAllowed = omega arith
    by path (Answered (Done frame)) = omega arith
    by path (Answered (Refused why)) = omega arith
    by path (Position t) = omega arith
    by path (Address a) = omega arith
    by path Cleaned = omega arith
due_most L (TranslatePage level page) reply kind more asked = cc
due_most L (Translate p) reply kind more asked = cc
due_most L (TranslateAddress p) reply kind more asked = cc
due_most L (CleanUp low high) reply kind more asked = subst (λ k. flush_number L (CleanUp low high) reply ≤ most k more) (some_is 4 kind asked.kind_is) (omega arith)

pub tells_flushes : (kind more s answer : ℕ) → answer ≡ flush_by kind more s → TellsFlushes kind more s answer
tells_flushes kind more s answer is done L call reply asked = subst (λ n. flush_number L call reply ≤ n) (sym (is ∙ made kind more s done)) (due_most L call reply kind more asked)
