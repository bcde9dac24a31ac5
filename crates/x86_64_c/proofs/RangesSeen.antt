-- What a mapper did with a range, stated of the words in the caller's memory.
use Rattle.std.proofs.Common.{zero, suc, ◌≡◌, inl, inr, ◌≤◌, ◌<◌, ◌+◌, ◌*◌, ℕ, Bool, false, List, [], ◌∷◌, ◌++◌, length, Option, Some, Result, Ok, Err, IfOk, IfErr, refl, sym, ap, ◌∙◌, subst, arith}
use Rattle.std.proofs.lemmas.List.FromFn.{length-map-range_with_len}
use Rattle.x86_64_model.specs.Call.{Call, IsPageLevel, Reply, NotAllowed, Answered, Position, Address, Cleaned, Unmap, UpdateFlags}
use Rattle.x86_64_model.specs.Entry.{IsParentFlags}
use Rattle.x86_64_model.specs.Layout.{Layout}
use Rattle.x86_64_model.specs.Machine.{Machine, State, step, replies_of}
use Rattle.x86_64_model.proofs.Lemmas.Machines.WordsAlone.{in_words, keeps_alone, maps_alone}
use Rattle.x86_64_model.specs.Hierarchy.{Hierarchy, PoolFits, machine_of, state_in}
use Rattle.x86_64_model.specs.Memory.{Memory, Places}
use Rattle.x86_64_model.specs.Path.{path_at}
use Rattle.x86_64_model.specs.Position.{span, position_count}
use Rattle.x86_64_model.specs.Refusal.{Done, Refused}
use Rattle.x86_64_model.specs.Store.{KeepsPool, Store, put_first}
use Rattle.x86_64_model.specs.Window.{begins_with}
use Rattle.x86_64_model.proofs.Lemmas.Machines.Fitting.{AllCalls, ready_of_fits}
use Rattle.x86_64_model.proofs.Lemmas.Paths.Pages.{span_pos}
use Rattle.x86_64_mappers.specs.Layouts.{direct_at}
use Rattle.x86_64_mappers.specs.RangeChanges.{DoesChanges, IsRange, frames_done, unmaps, updates}
use Rattle.x86_64_mappers.specs.Ranges.{DoesMaps, IsNextMap, MapRange, MapsByResult, MapsEach, MayMapRange, accepted_maps, map_at, maps}
use Rattle.x86_64_mappers.specs.declared.walk.map_range.MapRangeErrorIn.{MapRangeErrorIn}
use Rattle.x86_64_tables.specs.FlushRecorder.{FlushRange, flush_range}
use Rattle.x86_64_tables.specs.MapperAnswers.{map_refusal}
use Rattle.x86_64_c.proofs.EntryChanges.{is_page_level, of}
use Rattle.x86_64_c.proofs.RangeArguments.{page_before}
use Rattle.x86_64_c.proofs.RangeKeeps.{keeps_calls, are_calls}
use Rattle.x86_64_c.specs.Calls.{result_status}
use Rattle.x86_64_c.specs.Ranges.{ChangesRange, Maps}

-- ---- the calls on a range

-- in a layout without recursive index a range is one if its pages end with the address space or before
pub range_is : {Lent : Type 0} (h : Hierarchy Lent) (L : ℕ) (places : Places) (root : ℕ) → h.layout ≡ direct_at L places root
    → (level page count : ℕ) → page + count * span level ≤ position_count L → IsRange h level page count
range_is h L places root is level page count within = record {
  there = λ k less. subst (λ (l : Layout). page + k * span level < position_count l.levels) (sym is) (page_before page count k (span level) (position_count L) (span_pos level) less within);
  outside = λ k less. subst (λ (l : Layout). begins_with l.window (path_at l.levels level (page + k * span level)) ≡ false) (sym is) refl;
}

-- a range may be mapped in a mapper's hierarchy if the words alone say so, and then they do
module _ {Lent : Type 0} (h : Hierarchy Lent) (l : Layout) (m : Memory) (layout : h.layout ≡ l) (memory : h.memory ≡ m)
    (r : MapRange) (count : ℕ) where
  pub range_over : MayMapRange (of l m) r count → MayMapRange h r count
  range_over may =
      let there = subst (λ n. MayMapRange (of h.layout n) r count) (sym memory) (subst (λ k. MayMapRange (of k m) r count) (sym layout) may) in
      record { pages = there.pages; frames = there.frames; allowed = there.allowed }

  pub range_seen : MayMapRange h r count → MayMapRange (of l m) r count
  range_seen may =
      let there : MayMapRange (of h.layout h.memory) r count = record { pages = may.pages; frames = may.frames; allowed = may.allowed } in
      subst (λ k. MayMapRange (of k m) r count) layout (subst (λ n. MayMapRange (of h.layout n) r count) memory there)

module _ (L level : ℕ) (low : 1 ≤ level) (high : level ≤ 3) (some : 3 < L) where
  is_level : IsPageLevel L level
  is_level = is_page_level L some level low high

  pub maps_are : (r : MapRange) → r.level ≡ level → (count : ℕ) → AllCalls L (maps r count)
  maps_are r is count = are_calls L (λ k. map_at r k) (λ k. subst (IsPageLevel L) (sym is) is_level) 0 count

  pub unmaps_are : (page count : ℕ) → AllCalls L (unmaps level page count)
  unmaps_are page count = are_calls L (λ k. Unmap level (page + k * span level)) (λ k. is_level) 0 count

  pub updates_are : (page flags count : ℕ) → AllCalls L (updates level page flags count)
  updates_are page given count = are_calls L (λ k. UpdateFlags level (page + k * span level) given) (λ k. is_level) 0 count

-- ---- changes

pub changes_each : {Lent : Type 0} (h after : Hierarchy Lent) (l : Layout) (m n : Memory) → h.layout ≡ l → h.memory ≡ m → after.memory ≡ n → IsParentFlags l.added_flags
    → (calls : List Call) (replies : List Reply) → AllCalls l.levels calls → DoesChanges h calls replies after → ChangesRange (of l m) calls replies (of l n)
changes_each h after l m n layout memory left adds calls replies are does =
    let did = in_words h after l m n layout memory left does.keeps.layout (λ before last. DoesChanges before calls replies last)
    (record { replies = does.replies; state = does.state; fits = does.fits; keeps = keeps_alone does.keeps }) in
    record {
      does = did;
      keeps = λ serves pool fits. keeps_calls l adds serves m pool fits calls are n pool (did.state pool put_first) (did.fits pool (ready_of_fits l m serves pool fits))
          (λ k none. did.keeps.others k (λ f table. none f (inr table)));
    }

-- ---- how many were done

frames_few : (rs : List Reply) → length (frames_done rs) ≤ length rs
frames_few [] = omega arith
frames_few (Answered (Done f) ∷ rs) = let few = frames_few rs in omega (arith, few)
frames_few (Answered (Refused why) ∷ rs) = let few = frames_few rs in omega (arith, few)
frames_few (NotAllowed ∷ rs) = let few = frames_few rs in omega (arith, few)
frames_few (Position t ∷ rs) = let few = frames_few rs in omega (arith, few)
frames_few (Address a ∷ rs) = let few = frames_few rs in omega (arith, few)
frames_few (Cleaned ∷ rs) = let few = frames_few rs in omega (arith, few)

reply_each : (m : Machine) (s : State) (calls : List Call) → length (replies_of m s calls) ≡ length calls
reply_each m s [] = refl
reply_each m s (call ∷ calls) = ap suc (reply_each m (step m s call).state calls)

pub few_frames : {Lent : Type 0} (h after : Hierarchy Lent) (level page count : ℕ) (replies : List Reply) → DoesChanges h (unmaps level page count) replies after → length (frames_done replies) ≤ count
few_frames h after level page count replies does =
    let all = ap length (does.replies [] put_first) in
    let each = reply_each (machine_of h.layout put_first) (state_in h.layout h.memory []) (unmaps level page count) ∙ length-map-range_with_len (λ k. Unmap level (page + k * span level)) 0 count in
    let few = frames_few replies in
    omega (arith, all, each, few)

-- ---- maps

next_seen : {Lent : Type 0} (h : Hierarchy Lent) (supply : List ℕ) (call : Call) (before answers : List Reply) (after : Hierarchy Lent) (rest : List ℕ)
    → IsNextMap h supply call before answers after rest → IsNextMap (of h.layout h.memory) supply call before answers (of after.layout after.memory) rest
next_seen h supply call before answers after rest next = record {
  answer = next.answer;
  may = record { fits = next.may.fits; allowed = next.may.allowed };
  does = maps_alone next.does;
  last = next.last;
}

each_seen : {Lent : Type 0} (h : Hierarchy Lent) (supply : List ℕ) (r : MapRange) (count : ℕ) (answers : List Reply) (after : Hierarchy Lent) (rest : List ℕ)
    → MapsEach h supply r count answers after rest → MapsEach (of h.layout h.memory) supply r count answers (of after.layout after.memory) rest
each_seen h supply r zero answers after rest each = (each.0, ap (λ (k : Hierarchy _). of k.layout k.memory) each.1, each.2)
each_seen h supply r (suc k) answers after rest each = (
  of each.0.layout each.0.memory,
  each.1,
  each.2,
  each_seen h supply r k each.2 each.0 each.1 each.3,
  next_seen each.0 each.1 (map_at r k) each.2 answers after rest each.4,
)

seen_maps : {Lent : Type 0} (h : Hierarchy Lent) (supply : List ℕ) (r : MapRange) (count : ℕ) (answers : List Reply) (after : Hierarchy Lent) (rest : List ℕ)
    → DoesMaps h supply r count answers after rest → DoesMaps (of h.layout h.memory) supply r count answers (of after.layout after.memory) rest
seen_maps h supply r count answers after rest does = record {
  each = each_seen h supply r count answers after rest does.each;
  replies = does.replies;
  state = does.state;
  fits = does.fits;
  walks = does.walks;
  keeps = keeps_alone does.keeps;
}

module _ {Lent : Type 0} (h after : Hierarchy Lent) (l : Layout) (m n : Memory) (layout : h.layout ≡ l) (memory : h.memory ≡ m) (left : after.memory ≡ n) (supply : List ℕ) (r : MapRange) (rest : List ℕ) where
  pub maps_did : (count : ℕ) (answers : List Reply) → DoesMaps h supply r count answers after rest → DoesMaps (of l m) supply r count answers (of l n) rest
  maps_did count answers does =
      in_words h after l m n layout memory left does.keeps.layout (λ before last. DoesMaps before supply r count answers last rest) (seen_maps h supply r count answers after rest does)

-- a pool that fitted before maps fits after them
pub maps_keep : (l : Layout) (m n : Memory) (serves : ℕ → Bool) (pool : List ℕ) (r : MapRange) (count : ℕ) (answers : List Reply) (rest : List ℕ) → IsParentFlags l.added_flags → AllCalls l.levels (maps r count)
    → PoolFits (of l m) serves pool → DoesMaps (of l m) pool r count answers (of l n) rest → KeepsPool l serves m pool n rest
maps_keep l m n serves pool r count answers rest adds are fits does =
    keeps_calls l adds serves m pool fits (maps r count) are n rest (does.state put_first) does.fits (λ k none. does.keeps.others k (λ f own. none f own.0))

-- what a map of a range returned, and what was told of it
pub mapped : {Lent S V : Type 0} (h after : Hierarchy Lent) (l : Layout) (m n : Memory) → h.layout ≡ l → h.memory ≡ m → after.memory ≡ n → IsParentFlags l.added_flags
    → (pool rest : Store) (r : MapRange) → ((k : ℕ) → AllCalls l.levels (maps r k)) → PoolFits (of l m) pool.serves pool.frames
    → (page count : ℕ) (result : Result FlushRange (MapRangeErrorIn S V)) → MapsByResult h pool.frames r count result after rest.frames → IfOk result (λ flush. flush ≡ flush_range page count)
    → (status : ℕ) (done : Option ℕ) → status ≡ result_status (λ (error : MapRangeErrorIn S V). map_refusal error.why) result → IfOk result (λ flush. done ≡ Some flush.count) → IfErr result (λ error. done ≡ Some error.mapped.count)
    → (number : ℕ) × (done ≡ Some number) × Maps (of l m) pool r count (of l n) rest status number
mapped h after l m n layout memory left adds pool rest r are fits page count (Ok flush) maps pages status number told all some =
    let did = maps_did h after l m n layout memory left pool.frames r rest.frames count (accepted_maps r count) maps in (
      flush.count,
      all,
      record {
        maps = inl (told, ap (λ (f : FlushRange). f.count) pages, did);
        keeps = maps_keep l m n pool.serves pool.frames r count (accepted_maps r count) rest.frames adds (are count) fits did;
      },
    )
mapped h after l m n layout memory left adds pool rest r are fits page count (Err error) maps pages status number told all some =
    let answers : (k : ℕ) → List Reply = λ k. accepted_maps r k ++ Answered (Refused (map_refusal error.why)) ∷ [] in
    let k = error.mapped.count in
    let did = maps_did h after l m n layout memory left pool.frames r rest.frames (k + 1) (answers k) maps.1 in (
      k,
      some,
      record {
        maps = inr (map_refusal error.why, told, (maps.0, did));
        keeps = maps_keep l m n pool.serves pool.frames r (k + 1) (answers k) rest.frames adds (are (k + 1)) fits did;
      },
    )
