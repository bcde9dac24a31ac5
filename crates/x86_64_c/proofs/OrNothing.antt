-- Maps that change nothing if they are refused: their statuses are those of the machine's replies.
use Rattle.std.proofs.Common.{◌≡◌, ◌<◌, ◌≤◌, ℕ, Bool, true, false, true≢false, not, cond, List, Some, None, option_map, Result, Ok, Err, OnErr, refl, sym, ap, ap₂, ◌∙◌, subst, arith}
use Rattle.std.proofs.lemmas.Bool.{ne_eqb}
use Rattle.std.specs.Option.{option_or}
use Rattle.std.specs.Result.{IfOk}
use Rattle.x86_64_live.specs.MapsOrNothing.{MapsOrNothing, by_rule, call_for, or_nothing}
use Rattle.x86_64_live.specs.declared.map.PageMap.{PageMap}
use Rattle.x86_64_mappers.specs.Supplies.{Supply}
use Rattle.x86_64_model.specs.Allowed.{refuses as is_refused}
use Rattle.x86_64_model.specs.Call as machine
use Rattle.x86_64_model.specs.Call.{Call, MapToWithTableFlags}
use Rattle.x86_64_model.specs.Entry.{IsParentFlags}
use Rattle.x86_64_model.specs.Layout.{Layout}
use Rattle.x86_64_model.specs.Machine.{AfterCall, Machine, State, only_reply, do_call, step}
use Rattle.x86_64_model.specs.MapRule.{AfterMap, map_call}
use Rattle.x86_64_model.specs.Hierarchy.{Hierarchy, allows, machine_of, path_of, paths, state_in}
use Rattle.x86_64_model.specs.Memory.{IsMapping, Memory}
use Rattle.x86_64_model.specs.PathMap.{PathMap}
use Rattle.x86_64_model.specs.Pool.{TakesBack}
use Rattle.x86_64_model.specs.Store.{Store, StoreFits}
use Rattle.x86_64_tables.specs.MapperAnswers.{map_answer, map_refusal}
use Rattle.x86_64_tables.specs.PageTableFlags.{bits_of}
use Rattle.x86_64_tables.specs.declared.errors.MapToError.{MapToError}
use Rattle.x86_64_tables.specs.declared.errors.MapToError.TheVariants.{FrameAllocationFailed, ParentEntryHugePage, PageAlreadyMapped}
use Rattle.x86_64.specs.Replies.{Reply, reply_of}
use Rattle.x86_64.specs.Runs.{AfterStep}
use Rattle.x86_64_c.specs.Calls.{refusal_status, reply_status, result_status}
use Rattle.x86_64_c.specs.Arguments.{hierarchy_in}
use Rattle.x86_64_c.specs.PoolCalls.{ExecutesOrNothing, Request, RunsCall, wrong_pool_call, loan, machine_status, pool_in}
use Rattle.x86_64_c.specs.Status.{ok}
use Rattle.x86_64_c.specs.declared.arguments.Hierarchy.{Hierarchy as Given}
use Rattle.x86_64_c.specs.private.OrNothing.{RunsIfOk, is_refusal}
use Rattle.x86_64_c.specs.private.Pools.{TakesStep}
use Rattle.x86_64_c.proofs.ArgumentsGiven.{kept}
use Rattle.x86_64_c.proofs.EntryChanges.{of}
use Rattle.x86_64_c.proofs.Executed.{executes, refuses}
use Rattle.x86_64_c.proofs.PoolSteps.{map_told, mapped}

-- ---- statuses

-- a call that was executed returned the status of the machine's reply
pub if_ok : (h : Hierarchy (Unit {0})) (pool : Store) (call : Call) (after : Hierarchy (Unit {0})) (rest : Store) (status : ℕ) → RunsCall h pool call after rest status → RunsIfOk h pool call after rest status
if_ok h pool call after rest status runs = record {
  status_is = ap Some runs.status_is ∙ sym (ap (λ (a : AfterStep Reply). option_map reply_status a.reply) runs.step);
  done = λ fine. runs;
}

-- a refused map hasn't the status OK
not_ok : {S : Type 0} (why : MapToError S) → refusal_status (map_refusal why) ≡ ok → ⊥
not_ok FrameAllocationFailed is = omega (arith, is)
not_ok ParentEntryHugePage is = omega (arith, is)
not_ok (PageAlreadyMapped frame) is = omega (arith, is)

-- what holds after each error holds after a map whose status isn't OK
pub if_refused : {S X : Type 0} (P : Type 0) (r : Result X (MapToError S)) (status : ℕ) → status ≡ result_status map_refusal r → is_refusal status ≡ true → OnErr r P → P
if_refused P (Ok flush) status told refused holds = absurd (true≢false (sym refused ∙ ap is_refusal told))
if_refused P (Err why) status told refused holds = holds

-- ---- the machine's reply to a map

module _ (l : Layout) (store : Store) (m : Memory) (page frame given more : ℕ) where
  abbrev call : (level : ℕ) → Call
  call level = MapToWithTableFlags level page frame given more

  abbrev rule : (level : ℕ) → AfterMap
  rule level = map_call l.levels (paths (of l m)) store.frames more l.added_flags (path_of (of l m) level page) frame given

  abbrev the_machine : Machine
  the_machine = machine_of l store.take_back

  abbrev before : State
  before = state_in l m store.frames

  -- an allowed map is answered by the rule
  answers : (level : ℕ) → allows (of l m) (call level) ≡ true → (step the_machine before (call level)).reply ≡ machine.Answered (rule level).answer
  unfolding do_call
  answers level may = ap (λ b. let a : AfterCall = cond b (do_call the_machine before (call level)) (only_reply before machine.NotAllowed) in a.reply) may

  -- one whose answer is the rule's has the status of the machine's reply
  pub status_told : {S : Type 0} (r : Result ℕ (MapToError S)) (level : ℕ) → 1 ≤ level → level ≤ 3 → allows (of l m) (call level) ≡ true → map_answer frame r ≡ (rule level).answer
      → Some (result_status map_refusal r) ≡ machine_status (of l m) store (call level)
  status_told r level low high may same =
      let tells = map_told page frame given more r level low high in
      ap Some tells.status_is ∙ sym (ap (option_map reply_status) tells.replies) ∙ ap (λ a. option_map reply_status (reply_of (call level) (machine.Answered a))) same
      ∙ sym (ap (λ r. option_map reply_status (reply_of (call level) r)) (answers level may))

-- ---- maps that are done or change nothing

-- such a map has the rule's answer
rule_answer : (paths : PathMap) (supply : List ℕ) (after : AfterMap) → (or_nothing paths supply after).answer ≡ after.answer
rule_answer paths supply after = by (is_refused after.answer)
  where
    by : (b : Bool) → (let a : AfterMap = cond b (record { paths = paths; supply = supply; answer = after.answer }) after in a.answer) ≡ after.answer
    by true = refl
    by false = refl

-- it leaves a supply that serves the same frames
pub same_serves : {Lent S L E X : Type 0} (h after : Hierarchy Lent) (supply rest : Supply) (level : ℕ) (request : PageMap S L) (r : Result X (MapToError E))
    → MapsOrNothing h supply level request (map_answer request.frame r) after rest → rest.serves ≡ supply.serves
same_serves h after supply rest level request (Ok flush) maps = (maps.done refl).serves
same_serves h after supply rest level request (Err why) maps = ap (λ (s : Supply). s.serves) (maps.refused refl).1

module _ {S L : Type 0} (l : Layout) (store : Store) (m : Memory) (map : PageMap S L) (rest : Store) (n : Memory) (status : ℕ)
    (some : 3 < l.levels) (adds : IsParentFlags l.added_flags) (gives : TakesBack store.take_back) (mapping : IsMapping l.places) (fits : StoreFits (of l m) store) where
  abbrev given : ℕ
  given = bits_of map.flags

  abbrev more : ℕ
  more = bits_of map.parent_flags

  abbrev Allowed : (level : ℕ) → Type 0
  Allowed level = allows (of l m) (call_for level map) ≡ true

  -- the map of a page of a level in another memory had this result
  abbrev MapsFrom : {E : Type 0} → Memory → (level : ℕ) → Result ℕ (MapToError E) → Type 0
  MapsFrom k level r =
      MapsOrNothing (of l k) (record { frames = store.frames; serves = store.serves }) level map (map_answer map.frame r) (of l n) (record { frames = rest.frames; serves = rest.serves })

  runs_if_ok : {E : Type 0} (r : Result ℕ (MapToError E)) → IfOk r (λ flush. flush ≡ map.page) → status ≡ result_status map_refusal r → (level : ℕ) → 1 ≤ level → level ≤ 3
      → MapsFrom m level r → Allowed level → status ≡ ok → RunsCall (of l m) store (call_for level map) (of l n) rest status
  runs_if_ok {E = E} (Ok flush) same told level low high maps may fine =
      let done = maps.done refl in
      mapped map.page map.frame given more l store m rest done.serves n status some adds gives mapping fits {S = E} (Ok flush) same told level low high done.map may
  runs_if_ok (Err why) same told level low high maps may fine = absurd (not_ok why (sym told ∙ fine))

  pub mapped_or_nothing : {E : Type 0} (k : Memory) (r : Result ℕ (MapToError E)) → IfOk r (λ flush. flush ≡ map.page) → status ≡ result_status map_refusal r → (level : ℕ) → 1 ≤ level → level ≤ 3
      → k ≡ m → MapsFrom k level r → Allowed level → RunsIfOk (of l m) store (call_for level map) (of l n) rest status
  mapped_or_nothing k r same told level low high memory maps may =
      let here : MapsFrom m level r = subst (λ k. MapsFrom k level r) memory maps in
      let answer : map_answer map.frame r ≡ (by_rule (of l m) store.frames level map).answer =
      ap (λ (a : AfterMap). a.answer) here.outcome ∙ rule_answer (paths (of l m)) store.frames (by_rule (of l m) store.frames level map) in
      record {
        status_is = ap Some told ∙ status_told l store m map.page map.frame given more r level low high may answer;
        done = runs_if_ok r same told level low high here may;
      }

-- ---- in the caller's tables and pool

module _ (own : List ℕ) (h : Given) (ts us : List (List ℕ)) (array left : List ℕ) (free : ℕ) (request : Request) where
  -- a call with right arguments that was executed, or changed nothing, did so with what the caller lent
  pub executes_or_nothing : (number status : ℕ) → wrong_pool_call h (loan ts array free) request ≡ None
      → TakesStep own (hierarchy_in h ts) array free (λ pool rest. RunsIfOk (hierarchy_in h ts) pool (request.call h.levels) (hierarchy_in h us) rest status) (is_refusal status) (hierarchy_in h us) left number
      → ExecutesOrNothing own h (loan ts array free) request status (loan us left number)
  executes_or_nothing number status good runs = record {
    status_is = runs.0.does.status_is ∙ sym (ap (λ o. option_or o (machine_status (hierarchy_in h ts) (pool_in own array free) (request.call h.levels))) good);
    done = λ fine. executes own h (loan ts array free) (loan us left number) request status good (record { does = runs.0.does.done fine; room = runs.0.room; in_array = runs.0.in_array });
    refused = λ other.
        let stay = runs.1 (ap not (ne_eqb status ok other)) in
        ap (λ ts. loan ts left number) (kept ts us stay.0) ∙ ap (λ a. loan ts a number) stay.1 ∙ ap (loan ts array) stay.2;
  }

  -- one with a wrong argument is refused and changes nothing
  pub refuses_and_stays : (why : ℕ) → wrong_pool_call h (loan ts array free) request ≡ Some why → us ≡ ts → left ≡ array
      → ExecutesOrNothing own h (loan ts array free) request why (loan us left free)
  refuses_and_stays why wrong tables same = record {
    status_is = sym (ap (λ o. option_or o (machine_status (hierarchy_in h ts) (pool_in own array free) (request.call h.levels))) wrong);
    done = λ fine. refuses own h ts us array left free request why wrong tables same;
    refused = λ other. ap₂ (λ us left. loan us left free) tables same;
  }
