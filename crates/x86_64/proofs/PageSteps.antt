-- The result of a mapper's call on a page is the machine's step.
use Rattle.std.proofs.Common.{◌≡◌, ◌<◌, ◌≤◌, ℕ, Bool, true, false, cond, if◌then◌else◌, List, [], ◌++◌, Option, Some, None, option_map, Result, Ok, Err, inr, refl, ap, sym, ◌∙◌, subst, arith}
use Rattle.std.proofs.lemmas.Option.{same_Some}
use Rattle.std.specs.Result.{IfOk, is_err}
use Rattle.x86_64_model.specs.Entry.{IsParentFlags}
use Rattle.x86_64_model.specs.MapRule.{AfterMap, map_call, parent_part}
use Rattle.x86_64_model.specs.Memory.{Memory, IsMapping}
use Rattle.x86_64_model.specs.Layout.{Layout}
use Rattle.x86_64_model.specs.Store.{KeepsPool}
use Rattle.x86_64_model.specs.PageRules.{AfterChange}
use Rattle.x86_64_model.specs.Path.{path_at}
use Rattle.x86_64_model.specs.Refusal.{Answer}
use Rattle.x86_64_model.specs.Pool.{TakesBack}
use Rattle.x86_64_model.specs.Allowed.{allowed, refuses}
use Rattle.x86_64_model.specs.Call as machine
use Rattle.x86_64_model.specs.Call.{Call, IsCall, IsPageLevel, MapTo, MapToWithTableFlags, IdentityMap, Unmap, UpdateFlags, SetFlags, TranslatePage}
use Rattle.x86_64_model.specs.Machine.{Machine, State, AfterCall, only_reply, do_call, step}
use Rattle.x86_64_model.specs.Hierarchy.{◌laid_in◌, Hierarchy, IsStep, Changes, Does, DoesMap, Maps, page_translation, KeepsOthers, Owns, PoolFits, SupplyFits, paths, words}
use Rattle.x86_64_model.proofs.Lemmas.Machines.Effects.{page_of_level}
use Rattle.x86_64_tables.specs.MapperAnswers.{map_answer, map_refusal, unmap_answer, refusal_of_unmap, flags_refusal, flags_answer, refusal_of_update, translate_answer, refusal_of_translate}
use Rattle.x86_64_tables.specs.declared.errors.MapToError.{MapToError}
use Rattle.x86_64_tables.specs.declared.errors.MapToError.TheVariants as map_to
use Rattle.x86_64_tables.specs.declared.errors.UnmapError.{UnmapError}
use Rattle.x86_64_tables.specs.declared.errors.UnmapError.TheVariants as unmap_to
use Rattle.x86_64_tables.specs.declared.errors.FlagUpdateError.{FlagUpdateError}
use Rattle.x86_64_tables.specs.declared.errors.FlagUpdateError.TheVariants as update_to
use Rattle.x86_64_tables.specs.declared.errors.TranslateError.{TranslateError}
use Rattle.x86_64_tables.specs.declared.errors.TranslateError.TheVariants as translate_to
use Rattle.x86_64.specs.declared.call_values.PageReply.TheVariants as reply
use Rattle.x86_64.specs.Replies.{SizeReply, map_error, unmap_error, update_error, translate_error, result_reply, size_changes_nothing}
use Rattle.x86_64.specs.FreeFrames.{KeepsFree}
use Rattle.x86_64.specs.Runs.{AfterStep, machine_of, state_in}
use Rattle.x86_64.specs.private.Served.{SetsFlags, size_reply, size_answer, size_step}
use Rattle.x86_64_model.proofs.Lemmas.Machines.Fitting.{ready_of_fits, sound_of_fits}
use Rattle.x86_64_model.proofs.Lemmas.Machines.Owners.{change_leads, map_leads}
use Rattle.x86_64_model.proofs.Lemmas.Maps.Takes.{map_takes}
use Rattle.x86_64.proofs.FreeFrames.{map_keeps_free, change_keeps_free, nothing_keeps_free}
use Rattle.x86_64.proofs.Keeping.{keeps_step}

-- ---- results from answers

map_error_back : {S : Type 0} (why : MapToError S) → map_error (map_refusal why) ≡ Some why
map_error_back map_to.FrameAllocationFailed = refl
map_error_back map_to.ParentEntryHugePage = refl
map_error_back (map_to.PageAlreadyMapped frame) = refl

unmap_error_back : (why : UnmapError) → unmap_error (refusal_of_unmap why) ≡ Some why
unmap_error_back unmap_to.ParentEntryHugePage = refl
unmap_error_back unmap_to.PageNotMapped = refl
unmap_error_back (unmap_to.InvalidFrameAddress address) = refl

update_error_back : (why : FlagUpdateError) → update_error (refusal_of_update why) ≡ Some why
update_error_back update_to.PageNotMapped = refl
update_error_back update_to.ParentEntryHugePage = refl

translate_error_back : (why : TranslateError) → translate_error (refusal_of_translate why) ≡ Some why
translate_error_back translate_to.PageNotMapped = refl
translate_error_back translate_to.ParentEntryHugePage = refl
translate_error_back (translate_to.InvalidFrameAddress address) = refl

map_result : {S : Type 0} (page frame : ℕ) (r : Result ℕ (MapToError S)) → IfOk r (λ flush. flush ≡ page) → result_reply reply.Map (λ f. page) map_error (map_answer frame r) ≡ Some (reply.Map r)
map_result page frame (Ok flush) same = ap (λ p. Some (reply.Map (Ok p))) (sym same)
map_result page frame (Err why) same = ap (option_map (λ why. reply.Map (Err why))) (map_error_back why)

unmap_result : {S : Type 0} (page : ℕ) (r : Result (ℕ × ℕ) UnmapError) → IfOk r (λ unmapped. unmapped.1 ≡ page) → result_reply {S = S} reply.Unmap (λ f. (f, page)) unmap_error (unmap_answer r) ≡ Some (reply.Unmap r)
unmap_result page (Ok unmapped) same = ap (λ p. Some (reply.Unmap (Ok (unmapped.0, p)))) (sym same)
unmap_result page (Err why) same = ap (option_map (λ why. reply.Unmap (Err why))) (unmap_error_back why)

same_error : (v w : FlagUpdateError) → flags_refusal {X = Unit} (Err v) ≡ flags_refusal {X = Unit} (Err w) → v ≡ w
same_error v w is =
    let same : refusal_of_update v ≡ refusal_of_update w = cc in
    same_Some v w (sym (update_error_back v) ∙ ap update_error same ∙ update_error_back w)

flags_result : {X Y S : Type 0} (wrap : Result X FlagUpdateError → SizeReply S) (done : X) (frame : ℕ) (told : Result X FlagUpdateError) → IfOk told (λ x. x ≡ done) → (r : Result Y FlagUpdateError) → flags_refusal told ≡ flags_refusal r
    → result_reply wrap (λ f. done) update_error (flags_answer frame r) ≡ Some (wrap told)
flags_result wrap done frame (Ok x) same (Ok y) tells = ap (λ p. Some (wrap (Ok p))) (sym same)
flags_result wrap done frame (Ok x) same (Err w) tells = cc
flags_result wrap done frame (Err why) same (Ok y) tells = cc
flags_result wrap done frame (Err why) same (Err w) tells =
    let is : why ≡ w = same_error why w tells in ap (λ w. option_map (λ w. wrap (Err w)) (update_error (refusal_of_update w))) (sym is) ∙ ap (option_map (λ w. wrap (Err w))) (update_error_back why)

any_unit : (r : Result Unit FlagUpdateError) → IfOk r (λ x. x ≡ tt)
any_unit (Ok x) = refl
any_unit (Err why) = tt

translate_result : {S : Type 0} (r : Result ℕ TranslateError) → result_reply {S = S} reply.Frame (λ f. f) translate_error (translate_answer r) ≡ Some (reply.Frame r)
translate_result (Ok frame) = refl
translate_result (Err why) = ap (option_map (λ why. reply.Frame (Err why))) (translate_error_back why)

-- a reply with a refusal comes from an answer that refuses
unmap_refuses : (told r : Result (ℕ × ℕ) UnmapError) → told ≡ r → is_err told ≡ true → refuses (unmap_answer r) ≡ true
unmap_refuses told (Ok x) tells refused = cc
unmap_refuses told (Err why) tells refused = refl

flags_refuse : {X Y : Type 0} (frame : ℕ) (told : Result X FlagUpdateError) (r : Result Y FlagUpdateError) → flags_refusal told ≡ flags_refusal r → is_err told ≡ true → refuses (flags_answer frame r) ≡ true
flags_refuse frame (Ok done) r tells refused = cc
flags_refuse frame (Err why) (Ok x) tells refused = cc
flags_refuse frame (Err why) (Err same) tells refused = refl

-- ---- steps

-- the start of a call on a page that an entry of the level maps: a hierarchy of more than three levels and a pool that fits it
pub record Start (l : Layout) (take_back : List ℕ → ℕ → List ℕ) (serves : ℕ → Bool) (m : Memory) (pool : List ℕ) (level : ℕ) : Type 0 where
  pub at_least_four : 3 < l.levels
  pub adds : IsParentFlags l.added_flags
  pub gives : TakesBack take_back
  pub mapping : IsMapping l.places
  pub fits : PoolFits (l laid_in m) serves pool
  pub low : 1 ≤ level
  pub high : level ≤ 3

-- the call's step in the machine, what it keeps, and that nothing changed if the reply says so
pub record Serves (S : Type 0) (l : Layout) (take_back : List ℕ → ℕ → List ℕ) (serves : ℕ → Bool) (m : Memory) (pool : List ℕ) (call : Call) (n : Memory) (rest : List ℕ) (answer : SizeReply S) : Type 0 where
  pub step : size_step (machine_of l take_back) (state_in l m pool) call ≡ record { state = state_in l n rest; reply = Some (Some answer) }
  pub keeps : KeepsPool l serves m pool n rest
  pub free : KeepsFree l m pool [] n rest
  pub still : size_changes_nothing answer ≡ true → n ≡ m

is_level : {l : Layout} {take_back : List ℕ → ℕ → List ℕ} {serves : ℕ → Bool} {m : Memory} {pool : List ℕ} {level : ℕ} → Start l take_back serves m pool level → IsPageLevel l.levels level
is_level start = (start.low, start.high, omega (arith, start.at_least_four, start.high))

-- the call is served if it is allowed
abbrev pub IsServed : (S : Type 0) (l : Layout) (take_back : List ℕ → ℕ → List ℕ) (serves : ℕ → Bool) (m : Memory) (pool : List ℕ) (call : Call) (n : Memory) (rest : List ℕ) (answer : SizeReply S) → Type 0
IsServed S l take_back serves m pool call n rest answer = allowed l.levels l.window (paths (l laid_in m)) call ≡ true → Serves S l take_back serves m pool call n rest answer

-- the result of a call, in the layout that no call changes
stepped : {Lent : Type 0} (h : Hierarchy Lent) (take_back : List ℕ → ℕ → List ℕ) (pool : List ℕ) (on : Call) (answer : Answer) (after : Hierarchy Lent) (rest : List ℕ) → after.layout ≡ h.layout
    → IsStep h pool on answer after rest → do_call (machine_of h.layout take_back) (state_in h.layout h.memory pool) on ≡ record { state = state_in h.layout after.memory rest; reply = machine.Answered answer }
stepped h take_back pool on answer after rest same steps =
    subst (λ l. do_call (machine_of h.layout take_back) (state_in h.layout h.memory pool) on ≡ record { state = state_in l after.memory rest; reply = machine.Answered answer }) same (steps take_back)

-- ---- frames that a map takes

module _ {Lent : Type 0} (h : Hierarchy Lent) {take_back : List ℕ → ℕ → List ℕ} {serves : ℕ → Bool} {pool : List ℕ} {level : ℕ} (start : Start h.layout take_back serves h.memory pool level) where
  -- the rest of the pool after a map, which took frames from the pool's front
  abbrev Takes : (call : Call) → Type 0
  Takes call = (rest : List ℕ) → (do_call (machine_of h.layout take_back) (state_in h.layout h.memory pool) call).state.pool ≡ rest → (taken : List ℕ) × (pool ≡ taken ++ rest)

  taken_off : (page frame flags more : ℕ) (rest : List ℕ) → (map_call h.layout.levels (paths h) pool more h.layout.added_flags (path_at h.layout.levels level page) frame flags).supply ≡ rest
      → (taken : List ℕ) × (pool ≡ taken ++ rest)
  taken_off page frame flags more rest same =
      let sound = sound_of_fits h.layout.levels h.layout.window (words h) h.layout.root serves (state_in h.layout h.memory pool) start.fits in
      let takes = map_takes h.layout.levels h.layout.root (paths h) pool more h.layout.added_flags (path_at h.layout.levels level page) frame flags sound.hierarchy.tree (page_of_level h.layout.levels level page (is_level start)).at_most in
      (takes.taken, takes.first ∙ ap (λ fs. takes.taken ++ fs) same)

module _ {Lent S : Type 0} (h : Hierarchy Lent) {take_back : List ℕ → ℕ → List ℕ} {serves : ℕ → Bool} {pool : List ℕ} {level : ℕ} (start : Start h.layout take_back serves h.memory pool level) where
  abbrev Is : (call : Call) (n : Memory) (rest : List ℕ) (answer : SizeReply S) → Type 0
  Is = IsServed S h.layout take_back serves h.memory pool

  answered : (call : Call) → IsCall h.layout.levels call → (n : Memory) (rest : List ℕ) (answer : Answer)
      → do_call (machine_of h.layout take_back) (state_in h.layout h.memory pool) call ≡ record { state = state_in h.layout n rest; reply = machine.Answered answer }
      → SupplyFits (h.layout laid_in n) rest → KeepsOthers (Owns h pool) (h.layout laid_in h.memory) (h.layout laid_in n) → KeepsFree h.layout h.memory pool [] n rest
      → (told : SizeReply S) → size_reply call answer ≡ Some told → (size_changes_nothing told ≡ true → n ≡ h.memory) → Is call n rest told
  answered call is n rest answer does ready others free told tells still may =
      let before = state_in h.layout h.memory pool in
      let one : step (machine_of h.layout take_back) before call ≡ record { state = state_in h.layout n rest; reply = machine.Answered answer } = ap (λ b. cond b (do_call (machine_of h.layout take_back) before call) (only_reply before machine.NotAllowed)) may ∙ does in
      record {
        step = ap (λ (x : AfterCall). record { state = x.state; reply = size_answer call x.reply }) one ∙ ap (λ a. record { state = state_in h.layout n rest; reply = option_map Some a }) tells;
        still = still;
        free = free;
        keeps = keeps_step h.layout start.adds take_back start.gives serves h.memory pool start.fits call is n rest (sym (ap (λ (x : AfterCall). x.state) one)) ready others;
      }

  -- ---- maps

  map_served : (call : Call) → IsCall h.layout.levels call → Takes h start call → (page frame : ℕ)
      → ((answer : Answer) → size_reply {S = S} call answer ≡ result_reply reply.Map (λ f. page) map_error answer)
      → (r : Result ℕ (MapToError S)) (after : Hierarchy Lent) (rest : List ℕ) → DoesMap h pool call (map_answer frame r) after rest → IfOk r (λ flush. flush ≡ page)
      → (told : Result ℕ (MapToError S)) → told ≡ r → Is call after.memory rest (reply.Map told)
  map_served call is takes page frame replies r after rest does same told tells =
      let steps = stepped h take_back pool call (map_answer frame r) after rest does.keeps.layout (map_leads h pool call (map_answer frame r) after rest does.outcome) in
      let off = takes rest (ap (λ (x : AfterCall). x.state.pool) steps) in
      answered call is after.memory rest (map_answer frame r) steps
      (subst (λ l. SupplyFits (l laid_in after.memory) rest) does.keeps.layout does.fits) (λ k none. does.keeps.others k (λ f uses. none f uses.0))
      (map_keeps_free h.layout start.mapping serves h.memory pool start.fits after.memory off.0 rest off.1 does.keeps.others)
      (reply.Map told) (replies _ ∙ map_result page frame r same ∙ ap (λ r. Some (reply.Map r)) (sym tells)) (λ unchanged. cc)

  pub map_to_served : (page frame : ℕ) (flags : ℕ) (r : Result ℕ (MapToError S)) (after : Hierarchy Lent) (rest : List ℕ)
      → DoesMap h pool (MapTo level page frame flags) (map_answer frame r) after rest → IfOk r (λ flush. flush ≡ page)
      → (told : Result ℕ (MapToError S)) → told ≡ r → Is (MapTo level page frame flags) after.memory rest (reply.Map told)
  unfolding do_call
  map_to_served page frame flags = map_served (MapTo level page frame flags) (is_level start) (taken_off h start page frame flags (parent_part flags)) page frame (λ a. refl)

  pub map_with_flags_served : (page frame : ℕ) (flags parent_flags : ℕ) (r : Result ℕ (MapToError S)) (after : Hierarchy Lent) (rest : List ℕ)
      → DoesMap h pool (MapToWithTableFlags level page frame flags parent_flags) (map_answer frame r) after rest → IfOk r (λ flush. flush ≡ page)
      → (told : Result ℕ (MapToError S)) → told ≡ r → Is (MapToWithTableFlags level page frame flags parent_flags) after.memory rest (reply.Map told)
  unfolding do_call
  map_with_flags_served page frame flags parent_flags = map_served (MapToWithTableFlags level page frame flags parent_flags) (is_level start) (taken_off h start page frame flags parent_flags) page frame (λ a. refl)

  pub identity_map_served : (frame : ℕ) (flags : ℕ) (r : Result ℕ (MapToError S)) (after : Hierarchy Lent) (rest : List ℕ)
      → DoesMap h pool (IdentityMap level frame flags) (map_answer frame r) after rest → IfOk r (λ flush. flush ≡ frame)
      → (told : Result ℕ (MapToError S)) → told ≡ r → Is (IdentityMap level frame flags) after.memory rest (reply.Map told)
  unfolding do_call
  identity_map_served frame flags = map_served (IdentityMap level frame flags) (is_level start) (taken_off h start frame frame flags (parent_part flags)) frame frame (λ a. refl)

  -- ---- changes of one entry

  change_served : (call : Call) → IsCall h.layout.levels call → (answer : Answer) (after : Hierarchy Lent) → Does h call answer after
      → (told : SizeReply S) → size_reply call answer ≡ Some told → (size_changes_nothing told ≡ true → refuses answer ≡ true) → Is call after.memory pool told
  change_served call is answer after does told tells still =
      answered call is after.memory pool answer (stepped h take_back pool call answer after pool does.keeps.layout (change_leads h call answer after does.outcome pool))
      (subst (λ l. SupplyFits (l laid_in after.memory) pool) does.keeps.layout (does.fits pool (ready_of_fits h.layout h.memory serves pool start.fits))) (λ k none. does.keeps.others k (λ f table. none f (inr table)))
      (change_keeps_free h.layout start.mapping serves h.memory pool start.fits after.memory does.keeps.others) told tells (λ unchanged. does.refused (still unchanged))

  pub unmap_served : (page : ℕ) (r : Result (ℕ × ℕ) UnmapError) (after : Hierarchy Lent) → Does h (Unmap level page) (unmap_answer r) after → IfOk r (λ unmapped. unmapped.1 ≡ page)
      → (told : Result (ℕ × ℕ) UnmapError) → told ≡ r → Is (Unmap level page) after.memory pool (reply.Unmap told)
  unmap_served page r after does same told tells = change_served (Unmap level page) (is_level start) (unmap_answer r) after does (reply.Unmap told)
      (unmap_result page r same ∙ ap (λ r. Some (reply.Unmap r)) (sym tells)) (unmap_refuses told r tells)

  pub update_served : (page : ℕ) (flags : ℕ) (frame : ℕ) (r : Result ℕ FlagUpdateError) (after : Hierarchy Lent)
      → Does h (UpdateFlags level page flags) (flags_answer frame r) after → IfOk r (λ flush. flush ≡ page)
      → (told : Result ℕ FlagUpdateError) → told ≡ r → Is (UpdateFlags level page flags) after.memory pool (reply.Update told)
  update_served page flags frame r after does same told tells = change_served (UpdateFlags level page flags) (is_level start) (flags_answer frame r) after does (reply.Update told)
      (flags_result reply.Update page frame r same r refl ∙ ap (λ r. Some (reply.Update r)) (sym tells)) (flags_refuse frame told r (ap flags_refusal tells))

  -- on the entry of another level
  pub set_flags_served : (at page flags : ℕ) → 2 ≤ at → at ≤ h.layout.levels → (answer : SizeReply S) (after : Hierarchy Lent)
      → SetsFlags h (SetFlags at level page flags) answer after → Is (SetFlags at level page flags) after.memory pool answer
  set_flags_served at page flags above below answer after (told, same, does) =
      rw same (change_served (SetFlags at level page flags) (above, below, is_level start) (flags_answer _ told) after does (reply.TableFlags told)
      (flags_result reply.TableFlags tt _ told (any_unit told) told refl) (flags_refuse _ told told refl))

  -- ---- translations

  pub translate_served : (page : ℕ) (r : Result ℕ TranslateError) → translate_answer r ≡ page_translation h (path_at h.layout.levels level page) → Is (TranslatePage level page) h.memory pool (reply.Frame r)
  unfolding do_call
  translate_served page r answers = answered (TranslatePage level page) (is_level start) h.memory pool (page_translation h (path_at h.layout.levels level page)) refl
      (ready_of_fits h.layout h.memory serves pool start.fits) (λ k none. refl) (nothing_keeps_free h.layout h.memory pool) (reply.Frame r) (ap (result_reply reply.Frame (λ f. f) translate_error) (sym answers) ∙ translate_result r) (λ unchanged. refl)

-- ---- the layout, the loan and what the store serves stay

pub record IsKept {Lent : Type 0} (h after : Hierarchy Lent) (served served_after : ℕ → Bool) : Type 0 where
  pub serves : served_after ≡ served
  pub layout : after.layout ≡ h.layout
  pub lent : after.lent ≡ h.lent

pub map_kept : {Lent : Type 0} (h : Hierarchy Lent) {supply : List ℕ} {rule : Option AfterMap} {flags : Option ℕ} {answer : Answer} {after : Hierarchy Lent} {rest : List ℕ} {served served_after : ℕ → Bool} → Maps h supply rule flags answer after rest → served_after ≡ served → IsKept h after served served_after
map_kept h does same = record { serves = same; layout = does.keeps.layout; lent = does.keeps.lent }

pub change_kept : {Lent : Type 0} (h : Hierarchy Lent) {rule : Option AfterChange} {answer : Answer} {after : Hierarchy Lent} {served : ℕ → Bool} → Changes h rule answer after → IsKept h after served served
change_kept h does = record { serves = refl; layout = does.keeps.layout; lent = does.keeps.lent }

-- a call that isn't allowed changes nothing
pub step_refused : {S : Type 0} (m : Machine) (s : State) (call : Call)
    → allowed m.levels m.window s.paths call ≡ false
    → size_step {S = S} m s call ≡ record { state = s; reply = Some None }
step_refused {S} m s call denied =
    let answered : AfterCall → AfterStep (Option (SizeReply S)) =
    λ after. record { state = after.state; reply = size_answer {S = S} call after.reply } in
    ap (λ (may : Bool). answered (if may then do_call m s call else only_reply s machine.NotAllowed)) denied
