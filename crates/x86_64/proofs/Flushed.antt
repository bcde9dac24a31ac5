-- The flush records of calls are those of the machine, so they suffice.
use Rattle.std.proofs.Common.{zero, suc, inl, inr, ◌≡◌, ◌++◌, ℕ, Bool, List, [], ◌∷◌, map, take, drop, Option, Some, None, option_map, Err, refl, sym, ap, ap₂, ◌∙◌, subst}
use Rattle.std.proofs.lemmas.Option.{same_Some}
use Rattle.std.proofs.lemmas.List.{map-append, take-map, drop-map}
use Rattle.x86_64_model.specs.Call as machine
use Rattle.x86_64_model.specs.Call.{Call, MapTo, MapToWithTableFlags, IdentityMap, Unmap, UpdateFlags, SetFlags, TranslatePage}
use Rattle.x86_64_model.specs.Entry.{IsParentFlags}
use Rattle.x86_64_model.specs.Flush as flush
use Rattle.x86_64_model.specs.Layout.{Layout}
use Rattle.x86_64_model.specs.Hierarchy.{◌laid_in◌, PoolFits, words}
use Rattle.x86_64_model.specs.Machine.{Machine, State, step, state_after}
use Rattle.x86_64_model.specs.Memory.{Memory}
use Rattle.x86_64_model.specs.Path.{path_at}
use Rattle.x86_64_model.specs.Pool.{TakesBack}
use Rattle.x86_64_model.specs.Refusal.{Answer, Done, Refused}
use Rattle.x86_64_model.specs.Window.{IsValidFor}
use Rattle.x86_64_model.specs.Laws.Steps.{NoneCovers as NoItemCovers}
use Rattle.x86_64_model.proofs.Lemmas.Machines.Flushes.{flushes_suffice}
use Rattle.x86_64_addr.specs.Levels.{IsLevelCount}
use Rattle.x86_64_tables.specs.FlushRecorder.{page_item}
use Rattle.x86_64_tables.specs.declared.tokens.recorder.FlushItem.{FlushItem}
use Rattle.x86_64_page.specs.declared.page.Size4KiB.{Size4KiB as Small}
use Rattle.x86_64_page.specs.declared.page.Size2MiB.{Size2MiB as Large}
use Rattle.x86_64_page.specs.declared.page.Size1GiB.{Size1GiB as Giant}
use Rattle.x86_64.specs.declared.call_values.PageReply.TheVariants as page_reply
use Rattle.x86_64.specs.Flushes.{size_items, flush_items_of, items_told, level_of_size, item_of, NoFlushItemCovers, ItemsSuffice}
use Rattle.x86_64.specs.private.Served.{size_reply}
use Rattle.x86_64.specs.Replies.{SizeReply, Reply, map_error, unmap_error, update_error, translate_error, reply_of}
use Rattle.x86_64.specs.Runs.{machine_of, state_in, step_by, replies_to}
use Rattle.x86_64.proofs.AskedCalls.{are_calls}
use Rattle.x86_64.proofs.ReplyCases.{IsOnPage, reply_cases}

-- ---- of one call

module _ (S : Type 0) (L size level : ℕ) (is : (page : ℕ) → item_of (page_item L page size) ≡ flush.OnePage (path_at L level page)) where
  abbrev items : SizeReply S → List flush.Item
  items told = map item_of (size_items L size told)

  one_item : (l page : ℕ) → Some l ≡ Some level → (told : SizeReply S) → items told ≡ item_of (page_item L page size) ∷ [] → (answer : SizeReply S) → Some told ≡ Some answer → items answer ≡ flush.OnePage (path_at L l page) ∷ []
  one_item l page on told here answer e = ap items (sym (same_Some _ _ e)) ∙ here ∙ ap (λ i. i ∷ []) (is page ∙ ap (λ l. flush.OnePage (path_at L l page)) (sym (same_Some _ _ on)))

  none_refused : {E : Type 0} (wrap : E → SizeReply S) → ((why : E) → items (wrap why) ≡ []) → (error : Option E) (answer : SizeReply S) → option_map wrap error ≡ Some answer → items answer ≡ []
  none_refused wrap none None answer e = cc
  none_refused wrap none (Some why) answer e = ap items (sym (same_Some _ _ e)) ∙ none why

  size_items_are : (call : Call) → IsOnPage level call → (a : Answer) (answer : SizeReply S) → size_reply call a ≡ Some answer → items answer ≡ flush.items_of L call (machine.Answered a)
  size_items_are (MapTo l page frame flags) on (Done f) = one_item l page on _ refl
  size_items_are (MapTo l page frame flags) on (Refused why) = none_refused (λ w. page_reply.Map (Err w)) (λ w. refl) (map_error why)
  size_items_are (MapToWithTableFlags l page frame flags more) on (Done f) = one_item l page on _ refl
  size_items_are (MapToWithTableFlags l page frame flags more) on (Refused why) = none_refused (λ w. page_reply.Map (Err w)) (λ w. refl) (map_error why)
  size_items_are (IdentityMap l frame flags) on (Done f) = one_item l frame on _ refl
  size_items_are (IdentityMap l frame flags) on (Refused why) = none_refused (λ w. page_reply.Map (Err w)) (λ w. refl) (map_error why)
  size_items_are (Unmap l page) on (Done f) = one_item l page on _ refl
  size_items_are (Unmap l page) on (Refused why) = none_refused (λ w. page_reply.Unmap (Err w)) (λ w. refl) (unmap_error why)
  size_items_are (UpdateFlags l page flags) on (Done f) = one_item l page on _ refl
  size_items_are (UpdateFlags l page flags) on (Refused why) = none_refused (λ w. page_reply.Update (Err w)) (λ w. refl) (update_error why)
  size_items_are (SetFlags at l page flags) on (Done f) = λ answer e. ap items (sym (same_Some _ _ e))
  size_items_are (SetFlags at l page flags) on (Refused why) = none_refused (λ w. page_reply.TableFlags (Err w)) (λ w. refl) (update_error why)
  size_items_are (TranslatePage l page) on (Done f) = λ answer e. ap items (sym (same_Some _ _ e))
  size_items_are (TranslatePage l page) on (Refused why) = none_refused (λ w. page_reply.Frame (Err w)) (λ w. refl) (translate_error why)
  size_items_are call on a = λ answer e. cc

-- the item of a page of a size
item_is : (L size page : ℕ) → IsLevelCount L → item_of (page_item L page size) ≡ flush.OnePage (path_at L (level_of_size size) page)
item_is L size page (inl four) = rw four refl
item_is L size page (inr five) = rw five refl

none_not_allowed : (L : ℕ) (call : Call) (level : ℕ) → IsOnPage level call → [] ≡ flush.items_of L call machine.NotAllowed
none_not_allowed L (Unmap l page) level on = refl
none_not_allowed L call level on = refl

items_are : (L : ℕ) → IsLevelCount L → (call : Call) (r : machine.Reply) (x : Reply) → reply_of call r ≡ Some x → map item_of (flush_items_of L x) ≡ flush.items_of L call r
items_are L known = reply_cases (λ call r x. map item_of (flush_items_of L x) ≡ flush.items_of L call r) (none_not_allowed L)
    (size_items_are Small L 0x1000 1 (λ page. item_is L 0x1000 page known)) (size_items_are Large L 0x20_0000 2 (λ page. item_is L 0x20_0000 page known)) (size_items_are Giant L 0x4000_0000 3 (λ page. item_is L 0x4000_0000 page known))
    (λ p t told e. refl) (λ p a. refl) (λ low high. refl)

-- ---- of a list

covers_none : (L : ℕ) (items : List FlushItem) (p : ℕ) → NoFlushItemCovers L items p → NoItemCovers L (map item_of items) p
covers_none L [] p none = tt
covers_none L (item ∷ items) p none = (none.0, covers_none L items p none.1)

module _ {C : Type 0} (asks : C → Call) where
  all_items_are : (m : Machine) → IsLevelCount m.levels → (s : State) (calls : List C) (told : List Reply) → map Some told ≡ replies_to asks m s calls
      → map item_of (items_told m.levels told) ≡ flush.all_items m s (map asks calls)
  all_items_are m known s [] [] is = refl
  all_items_are m known s [] (x ∷ told) is = cc
  all_items_are m known s (call ∷ calls) [] is = cc
  all_items_are m known s (call ∷ calls) (x ∷ told) is =
      let after = step m s (asks call) in
      let first : Some x ≡ reply_of (asks call) after.reply = cc in
      let next : map Some told ≡ replies_to asks m after.state calls = cc in
      map-append item_of (flush_items_of m.levels x) (items_told m.levels told)
      ∙ ap₂ (λ xs ys. xs ++ ys) (items_are m.levels known (asks call) after.reply x (sym first)) (all_items_are m known after.state calls told next)

  -- the replies to the calls after the first k
  late_told : (m : Machine) (s : State) (k : ℕ) (calls : List C) (told : List Reply) → map Some told ≡ replies_to asks m s calls
      → map Some (drop k told) ≡ replies_to asks m (state_after m s (map asks (take k calls))) (drop k calls)
  late_told m s zero calls told is = is
  late_told m s (suc k) [] [] is = refl
  late_told m s (suc k) [] (x ∷ told) is = cc
  late_told m s (suc k) (call ∷ calls) [] is = cc
  late_told m s (suc k) (call ∷ calls) (x ∷ told) is =
      let next : map Some told ≡ replies_to asks m (step_by m s (asks call)).state calls = cc in
      late_told m (step_by m s (asks call)).state k calls told next

  -- ---- stale walks

  module _ (l : Layout) (known : IsLevelCount l.levels) (is_call : (call : C) → machine.IsCall l.levels (asks call)) where
    pub flushed : IsParentFlags l.added_flags → (take_back : List ℕ → ℕ → List ℕ) → TakesBack take_back → (serves : ℕ → Bool) (m : Memory) (pool : List ℕ) → PoolFits (l laid_in m) serves pool
        → (calls : List C) (n : Memory) (rest : List ℕ) → IsValidFor l.levels l.window (words (l laid_in n)) l.root (state_in l n rest).paths
        → state_in l n rest ≡ state_after (machine_of l take_back) (state_in l m pool) (map asks calls)
        → (told : List Reply) → map Some told ≡ replies_to asks (machine_of l take_back) (state_in l m pool) calls → ItemsSuffice asks l take_back (state_in l m pool) calls told (words (l laid_in n))
    flushed adds take_back gives serves m pool fits calls n rest valid is told tells k V p first out none =
        let runs = machine_of l take_back in
        let start = state_in l m pool in
        let then = state_after runs start (map asks (take k calls)) in
        let early : take k (map asks calls) ≡ map asks (take k calls) = take-map asks k calls in
        let late : drop k (map asks calls) ≡ map asks (drop k calls) = drop-map asks k calls in
        flushes_suffice l.levels l.window (words (l laid_in m)) V (words (l laid_in n)) l.root serves l.added_flags adds take_back gives start (map asks calls)
        (are_calls l.levels asks is_call calls) fits k
        (subst (λ (cs : List machine.Call). IsValidFor l.levels l.window V l.root (state_after runs start cs).paths) (sym early) first)
        (subst (λ (s : State). IsValidFor l.levels l.window (words (l laid_in n)) l.root s.paths) is valid) p out
        (subst (λ (cs : List machine.Call). NoItemCovers l.levels (flush.all_items runs (state_after runs start cs) (drop k (map asks calls))) p) (sym early)
        (subst (λ (cs : List machine.Call). NoItemCovers l.levels (flush.all_items runs then cs) p) (sym late)
        (subst (λ items. NoItemCovers l.levels items p) (all_items_are runs known then (drop k calls) (drop k told) (late_told runs start k calls told tells)) (covers_none l.levels (items_told l.levels (drop k told)) p none))))
