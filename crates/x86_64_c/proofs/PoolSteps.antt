-- What a mapper did with a pool is the machine's step, stated of the words in the caller's memory.
use Rattle.std.proofs.Common.{zero, suc, ◌≡◌, ◌<◌, ◌≤◌, ℕ, true, false, cond, List, Some, option_map, Result, Ok, Err, refl, sym, ap, ◌∙◌, subst, arith}
use Rattle.std.specs.Result.{IfOk}
use Rattle.x86_64_live.proofs.CleanUpsInWords.{clean_up_did as cleaned_in_words}
use Rattle.x86_64_model.proofs.Lemmas.Machines.Owners.{clean_up_leads, map_leads}
use Rattle.x86_64_model.proofs.Lemmas.Machines.WordsAlone.{in_words, maps_alone}
use Rattle.x86_64_model.specs.Call as machine
use Rattle.x86_64_model.specs.Call.{Call, MapToWithTableFlags}
use Rattle.x86_64_model.specs.Entry.{IsParentFlags}
use Rattle.x86_64_model.specs.Layout.{Layout}
use Rattle.x86_64_model.specs.Machine.{AfterCall, Machine, State, only_reply, do_call, step}
use Rattle.x86_64_model.specs.Hierarchy.{Hierarchy, CleansUp, DoesMap, allows, machine_of, state_in}
use Rattle.x86_64_model.specs.Memory.{IsMapping, Memory}
use Rattle.x86_64_model.specs.Pool.{TakesBack}
use Rattle.x86_64_model.specs.Refusal as refusal
use Rattle.x86_64_model.specs.Refusal.{Answer, Done, Refused}
use Rattle.x86_64_model.specs.Store.{Store, StoreFits}
use Rattle.x86_64_tables.specs.MapperAnswers.{map_answer, map_refusal}
use Rattle.x86_64_tables.specs.declared.errors.MapToError.{MapToError}
use Rattle.x86_64_tables.specs.declared.errors.MapToError.TheVariants.{FrameAllocationFailed, ParentEntryHugePage, PageAlreadyMapped}
use Rattle.x86_64.specs.Replies.{Reply, SizeReply, changes_nothing, map_error, reply_of, result_reply}
use Rattle.x86_64.specs.Runs.{AfterStep}
use Rattle.x86_64.specs.declared.call_values.MapperReply.TheVariants as reply
use Rattle.x86_64.specs.declared.call_values.PageReply.TheVariants.{Map}
use Rattle.x86_64.proofs.CleanUpSteps.{kept_cleaned, free_cleaned}
use Rattle.x86_64.proofs.FreeFrames.{nothing_keeps_free}
use Rattle.x86_64.proofs.Keeping.{keeps_nothing}
use Rattle.x86_64.proofs.PageSteps.{Start, map_with_flags_served}
use Rattle.x86_64_c.specs.Calls.{reply_status, result_status}
use Rattle.x86_64_c.specs.PoolCalls.{RunsCall}
use Rattle.x86_64_c.specs.Status.{ok, not_allowed}
use Rattle.x86_64_c.proofs.EntryChanges.{of}

-- what holds for each of the three levels
pub by_level : (P : ℕ → Type 0) → P 1 → P 2 → P 3 → (level : ℕ) → 1 ≤ level → level ≤ 3 → P level
by_level P one two three zero low high = absurd (omega (arith, low))
by_level P one two three (suc zero) low high = one
by_level P one two three (suc (suc zero)) low high = two
by_level P one two three (suc (suc (suc zero))) low high = three
by_level P one two three (suc (suc (suc (suc n)))) low high = absurd (omega (arith, high))

-- the reply to a call, from the machine's
abbrev replied_to : Call → AfterCall → AfterStep Reply
replied_to on a = record { state = a.state; reply = reply_of on a.reply }

-- ---- maps

-- what a mapper did, of the words alone
pub map_did : {Lent : Type 0} (h after : Hierarchy Lent) (l : Layout) (m n : Memory) → h.layout ≡ l → h.memory ≡ m → after.memory ≡ n
    → (supply : List ℕ) (call : Call) (answer : Answer) (rest : List ℕ) → DoesMap h supply call answer after rest → DoesMap (of l m) supply call answer (of l n) rest
map_did h after l m n layout memory left supply call answer rest does =
    in_words h after l m n layout memory left does.keeps.layout (λ before last. DoesMap before supply call answer last rest) (maps_alone does)

-- whether a call is allowed, of the words alone
pub seen_allows : (k l : Layout) (n m : Memory) → k ≡ l → n ≡ m → (call : Call) → allows (of k n) call ≡ allows (of l m) call
seen_allows k l n m layout memory call = ap (λ k. allows (of k n) call) layout ∙ ap (λ n. allows (of l n) call) memory

module _ (page frame given more : ℕ) where
  abbrev call : (level : ℕ) → Call
  call level = MapToWithTableFlags level page frame given more

  -- the reply to a map of a page of a level, from the machine's answer, with its status
  pub record IsTold (level : ℕ) (answer : Answer) (status : ℕ) : Type 0 where
    pub reply : Reply
    pub replies : reply_of (call level) (machine.Answered answer) ≡ Some reply
    pub status_is : status ≡ reply_status reply
    pub changes : changes_nothing reply ≡ false

  -- if replies to maps of pages of a size are wrapped so
  told_as : {S R : Type 0} (level : ℕ) (wrap : SizeReply R → Reply) → ((answer : Answer) → reply_of (call level) (machine.Answered answer) ≡ option_map wrap (result_reply Map (λ mapped. page) map_error answer))
      → ((told : Result ℕ (MapToError R)) → result_status map_refusal told ≡ reply_status (wrap (Map told))) → ((told : Result ℕ (MapToError R)) → changes_nothing (wrap (Map told)) ≡ false)
      → (r : Result ℕ (MapToError S)) → IsTold level (map_answer frame r) (result_status map_refusal r)
  told_as level wrap replies tells changes (Ok flush) =
      record { reply = wrap (Map (Ok page)); replies = replies (Done frame); status_is = tells (Ok page); changes = changes (Ok page) }
  told_as level wrap replies tells changes (Err FrameAllocationFailed) =
      record { reply = wrap (Map (Err FrameAllocationFailed)); replies = replies (Refused refusal.FrameAllocationFailed); status_is = tells (Err FrameAllocationFailed); changes = changes (Err FrameAllocationFailed) }
  told_as level wrap replies tells changes (Err ParentEntryHugePage) =
      record { reply = wrap (Map (Err ParentEntryHugePage)); replies = replies (Refused refusal.ParentEntryHugePage); status_is = tells (Err ParentEntryHugePage); changes = changes (Err ParentEntryHugePage) }
  told_as level wrap replies tells changes (Err (PageAlreadyMapped there)) =
      record { reply = wrap (Map (Err (PageAlreadyMapped there))); replies = replies (Refused (refusal.PageAlreadyMapped there)); status_is = tells (Err (PageAlreadyMapped there)); changes = changes (Err (PageAlreadyMapped there)) }

  pub map_told : {S : Type 0} (r : Result ℕ (MapToError S)) (level : ℕ) → 1 ≤ level → level ≤ 3 → IsTold level (map_answer frame r) (result_status map_refusal r)
  map_told r = by_level (λ k. IsTold k (map_answer frame r) (result_status map_refusal r))
      (told_as 1 reply.Of4KiB (λ a. refl) (λ t. refl) (λ t. refl) r) (told_as 2 reply.Of2MiB (λ a. refl) (λ t. refl) (λ t. refl) r) (told_as 3 reply.Of1GiB (λ a. refl) (λ t. refl) (λ t. refl) r)

  module _ (l : Layout) (store : Store) (m : Memory) where
    abbrev the_machine : Machine
    the_machine = machine_of l store.take_back

    abbrev before : State
    before = state_in l m store.frames

    -- a map that isn't allowed
    refused_here : StoreFits (of l m) store → (level : ℕ) → allows (of l m) (call level) ≡ false → RunsCall (of l m) store (call level) (of l m) store not_allowed
    refused_here fits level refuses = record {
      reply = reply.NotAllowed;
      step = ap (λ b. replied_to (call level) (cond b (do_call the_machine before (call level)) (only_reply before machine.NotAllowed))) refuses;
      status_is = refl;
      keeps = keeps_nothing l store.serves m store.frames fits;
      serves = refl;
      unchanged = λ same. refl;
      free = nothing_keeps_free l m store.frames;
    }

    pub refused : StoreFits (of l m) store → (level : ℕ) → allows (of l m) (call level) ≡ false → (n : Memory) → n ≡ m → RunsCall (of l m) store (call level) (of l n) store not_allowed
    refused fits level refuses n same = subst (λ n. RunsCall (of l m) store (call level) (of l n) store not_allowed) (sym same) (refused_here fits level refuses)

    -- a map that a mapper did
    pub mapped : (rest : Store) → rest.serves ≡ store.serves → (n : Memory) (status : ℕ) → 3 < l.levels → IsParentFlags l.added_flags → TakesBack store.take_back → IsMapping l.places → StoreFits (of l m) store
        → {S : Type 0} (r : Result ℕ (MapToError S)) → IfOk r (λ flush. flush ≡ page) → status ≡ result_status map_refusal r → (level : ℕ) → 1 ≤ level → level ≤ 3
        → DoesMap (of l m) store.frames (call level) (map_answer frame r) (of l n) rest.frames → allows (of l m) (call level) ≡ true → RunsCall (of l m) store (call level) (of l n) rest status
    mapped rest same_serves n status some adds gives mapping fits {S} r same told level low high does may =
        let start : Start l store.take_back store.serves m store.frames level = record { at_least_four = some; adds = adds; gives = gives; mapping = mapping; fits = fits; low = low; high = high } in
        let serves = map_with_flags_served {S = S} (of l m) start page frame given more r (of l n) rest.frames does same r refl may in
        let tells = map_told r level low high in
        let one : step the_machine before (call level) ≡ record { state = state_in l n rest.frames; reply = machine.Answered (map_answer frame r) } =
        ap (λ b. cond b (do_call the_machine before (call level)) (only_reply before machine.NotAllowed)) may
        ∙ map_leads (of l m) store.frames (call level) (map_answer frame r) (of l n) rest.frames does.outcome store.take_back in
        record {
          reply = tells.reply;
          step = ap (replied_to (call level)) one ∙ ap (λ r. let after : AfterStep Reply = record { state = state_in l n rest.frames; reply = r } in after) tells.replies;
          status_is = told ∙ tells.status_is;
          keeps = serves.keeps;
          serves = same_serves;
          unchanged = λ still. let none : true ≡ false = sym still ∙ tells.changes in cc;
          free = serves.free;
        }

-- ---- clean ups

pub clean_up_did : {Lent : Type 0} (h after : Hierarchy Lent) (l : Layout) (m n : Memory) → h.layout ≡ l → h.memory ≡ m → after.memory ≡ n
    → (take_back : List ℕ → ℕ → List ℕ) (held : List ℕ) (low high : ℕ) (left : List ℕ) → CleansUp h take_back held low high after left → CleansUp (of l m) take_back held low high (of l n) left
clean_up_did h after l m n layout memory gone = cleaned_in_words h l m layout memory after n gone

-- a clean up of a pool whose free frames are those that it holds
pub cleaned : (l : Layout) (store rest : Store) → rest.serves ≡ store.serves → (m n : Memory) (low high : ℕ) (held left : List ℕ) → store.frames ≡ held → rest.frames ≡ left → IsParentFlags l.added_flags → TakesBack store.take_back
    → IsMapping l.places → StoreFits (of l m) store → CleansUp (of l m) store.take_back held low high (of l n) left → RunsCall (of l m) store (machine.CleanUp low high) (of l n) rest ok
cleaned l store rest same_serves m n low high held left same last adds gives mapping fits cleans =
    let the_machine = machine_of l store.take_back in
    let one : step the_machine (state_in l m store.frames) (machine.CleanUp low high) ≡ record { state = state_in l n rest.frames; reply = machine.Cleaned } =
    ap (λ fs. do_call the_machine (state_in l m fs) (machine.CleanUp low high)) same ∙ clean_up_leads (of l m) store.take_back held low high (of l n) left cleans
    ∙ ap (λ fs. let after : AfterCall = record { state = state_in l n fs; reply = machine.Cleaned } in after) (sym last) in
    record {
      reply = reply.Cleaned;
      step = ap (replied_to (machine.CleanUp low high)) one;
      status_is = refl;
      keeps = (kept_cleaned (of l m) store.serves store.frames held same fits store.take_back low high (of l n) rest.frames left last cleans adds gives store.serves refl).keeps;
      serves = same_serves;
      unchanged = λ still. cc;
      free = free_cleaned (of l m) store.serves store.frames held same fits store.take_back low high (of l n) rest.frames left last cleans mapping gives;
    }
