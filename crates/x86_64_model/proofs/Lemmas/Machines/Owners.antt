-- The conditions and effects of a mapper's calls, from those of the rules, and of one call from another.
use Rattle.std.proofs.Common.{◌≡◌, ◌+◌, not, bit_or, ◌≤◌, ◌%◌, ℕ, Bool, true, false, cond, List, Option, Some, None, nat_le, refl, sym, ap, ap₂, ◌∙◌, subst}
use Rattle.std.proofs.lemmas.Option.{same_Some}
use Rattle.x86_64_model.specs.Allowed.{refuses}
use Rattle.x86_64_model.specs.Arrivals.{Arrives}
use Rattle.x86_64_model.specs.Call.{Call, MapTo, MapToWithTableFlags, IdentityMap, Unmap, UpdateFlags, SetFlags, TranslatePage, Translate, TranslateAddress, CleanUp, Cleaned, NotAllowed}
use Rattle.x86_64_model.specs.Entry.{IsParentFlags, present, used, address}
use Rattle.x86_64_model.proofs.Lemmas.Maps.Mapped.{arrives_in_page}
use Rattle.x86_64_model.specs.Laws.Rules.{MapsAreSteps, ChangesAreSteps, CleanUpsAreSteps}
use Rattle.x86_64_model.specs.Machine.{do_call, after_map, after_change, only_reply}
use Rattle.x86_64_model.specs.MapRule.{map_call, parent_part, leaf_entry}
use Rattle.x86_64_model.specs.private.MapperCalls.{ChangesBy, MapsPage, MapsPath, IsChanged, after_unmap, after_update, after_set_flags}
use Rattle.x86_64_model.specs.Memory.{Memory}
use Rattle.x86_64_model.specs.Hierarchy.{◌laid_in◌, Hierarchy, MayMap, DoesMap, ArrivesIn, CleansUp, IsStep, allows, allows_map_call, change_outcome, machine_of, map_outcome, state_of, paths, read_entry, SupplyFits, walk}
use Rattle.x86_64_model.specs.PageRules.{AfterChange, refused_or, update_refusal, update_flags, set_flags}
use Rattle.x86_64_model.specs.Path.{level_of, front_at, path_at}
use Rattle.x86_64_model.specs.PathMap.{PathMap, put}
use Rattle.x86_64_model.specs.Position.{span}
use Rattle.x86_64_model.specs.Refusal.{Refusal, PageNotMapped, ParentEntryHugePage, Answer, Done, Refused, first_stop, refused_if, refusal_of, answer_unless}

-- ---- maps

module _ {Lent : Type 0} (h : Hierarchy Lent) (supply : List ℕ) where
  -- by the map rule
  pub does_map : (q : List ℕ) (frame given more : ℕ) (answer : Answer) (n : Memory) (rest : List ℕ) → MapsPage h.layout h.memory supply q frame given more answer n rest
      → MapsPath h supply q frame given more answer (record h { memory = n }) rest
  does_map q frame given more answer n rest mapped = record {
    outcome = ap Some mapped.outcome;
    fits = mapped.ready;
    walks = λ m is p. subst (λ m. Arrives m (walk h p) (walk (h.layout laid_in n) p)) (same_Some more m is) (mapped.walks p);
    keeps = record { valid = mapped.ready.valid; others = mapped.others; layout = refl; lent = refl };
  }

  -- a map leads the machine to its outcome
  pub map_leads : (call : Call) (answer : Answer) (after : Hierarchy Lent) (rest : List ℕ)
      → map_outcome h.layout.levels h.layout.added_flags (paths h) supply call ≡ Some (record { paths = paths after; supply = rest; answer = answer }) → IsStep h supply call answer after rest
  unfolding do_call
  map_leads (MapTo level page frame given) answer after rest is = λ take_back. ap after_map (same_Some _ _ is)
  map_leads (MapToWithTableFlags level page frame given more) answer after rest is = λ take_back. ap after_map (same_Some _ _ is)
  map_leads (IdentityMap level frame given) answer after rest is = λ take_back. ap after_map (same_Some _ _ is)
  map_leads (Unmap level page) answer after rest is = cc
  map_leads (UpdateFlags level page given) answer after rest is = cc
  map_leads (SetFlags at level page given) answer after rest is = cc
  map_leads (TranslatePage level page) answer after rest is = cc
  map_leads (Translate p) answer after rest is = cc
  map_leads (TranslateAddress p) answer after rest is = cc
  map_leads (CleanUp low high) answer after rest is = cc

  -- a map that is allowed is an allowed call
  pub map_allows : (call : Call) → allows_map_call h call ≡ true → allows h call ≡ true
  map_allows (MapTo level page frame given) is = is
  map_allows (MapToWithTableFlags level page frame given more) is = is
  map_allows (IdentityMap level frame given) is = is
  map_allows (Unmap level page) is = cc
  map_allows (UpdateFlags level page given) is = cc
  map_allows (SetFlags at level page given) is = cc
  map_allows (TranslatePage level page) is = cc
  map_allows (Translate p) is = cc
  map_allows (TranslateAddress p) is = cc
  map_allows (CleanUp low high) is = cc

  pub is_mapped : (q : List ℕ) (frame given more : ℕ) (answer : Answer) (after : Hierarchy Lent) (rest : List ℕ) → MapsPath h supply q frame given more answer after rest
      → MapsPage h.layout h.memory supply q frame given more answer after.memory rest
  is_mapped q frame given more answer after rest does = record {
    outcome = subst (λ l. map_call h.layout.levels (paths h) supply more h.layout.added_flags q frame given ≡ record { paths = paths (l laid_in after.memory); supply = rest; answer = answer }) does.keeps.layout
        (same_Some _ _ does.outcome);
    ready = subst (λ l. SupplyFits (l laid_in after.memory) rest) does.keeps.layout does.fits;
    others = does.keeps.others;
    walks = λ p. subst (λ l. Arrives more (walk h p) (walk (l laid_in after.memory) p)) does.keeps.layout (does.walks more refl p);
  }

  -- where the processor arrives after a `map_to` with PRESENT
  pub map_arrives : (level start frame given : ℕ) → 1 ≤ level → level ≤ 3 → level ≤ h.layout.levels → start % span level ≡ 0 → address frame ≡ frame → frame % span level ≡ 0
      → IsParentFlags h.layout.added_flags → (after : Hierarchy Lent) (rest : List ℕ) → MayMap h supply (MapTo level start frame given)
      → DoesMap h supply (MapTo level start frame given) (Done frame) after rest → present given ≡ true → ArrivesIn after (span level) start frame given
  map_arrives level start frame given low high levels multiple is_frame aligned adds after rest may does is_present =
      let mapped = is_mapped (path_at h.layout.levels level start) frame given (parent_part given) (Done frame) after rest does in
      let arrives = arrives_in_page h.layout level start frame given low high levels multiple is_frame aligned adds h.memory supply after.memory rest may.fits may.allowed mapped is_present in
      λ offset within. ap (λ l. walk (l laid_in after.memory) (start + offset)) does.keeps.layout ∙ arrives offset within

-- ---- changes of one entry

-- the answer of a rule that is done with one frame alone, if at all, from why it refuses
answer_told : (a : Answer) (frame : ℕ) (why : Option Refusal) → (refusal_of a ≡ None → a ≡ Done frame) → why ≡ refusal_of a → answer_unless why (Done frame) ≡ a
answer_told (Done f) frame None done is = sym (done refl)
answer_told (Done f) frame (Some v) done is = cc
answer_told (Refused w) frame None done is = cc
answer_told (Refused w) frame (Some v) done is = let same : v ≡ w = cc in ap Refused same

abbrev IsDoneWith : (frame : ℕ) → AfterChange → Type 0
IsDoneWith frame after = refusal_of after.answer ≡ None → after.answer ≡ Done frame

done_or_refused : (frame : ℕ) (M : PathMap) (o : Option Refusal) (next : AfterChange) → IsDoneWith frame next → IsDoneWith frame (refused_or M o next)
done_or_refused frame M None next done = done
done_or_refused frame M (Some why) next done = λ none. cc

done_or_low : (frame : ℕ) (low : Bool) (first next : AfterChange) → IsDoneWith frame first → IsDoneWith frame next → IsDoneWith frame (cond low first next)
done_or_low frame true first next a b = a
done_or_low frame false first next a b = b

module _ (L : ℕ) (E : List ℕ → ℕ) (M : PathMap) where
  update_done : (q : List ℕ) (given : ℕ) → IsDoneWith (address (E q)) (update_flags L E M q given)
  unfolding update_flags
  update_done q given =
      let e = E q in
      let last : AfterChange = record { paths = put M q (leaf_entry L q (address e) given); answer = Done (address e) } in
      done_or_refused (address e) M (first_stop E q) (refused_or M (update_refusal L q e) last) (done_or_refused (address e) M (update_refusal L q e) last (λ none. refl))

  set_flags_done : (level : ℕ) (page : List ℕ) (given : ℕ) → IsDoneWith (address (E (front_at L level page))) (set_flags L E M level page given)
  unfolding set_flags
  set_flags_done level page given =
      let q = front_at L level page in
      let e = E q in
      let unused = refused_if (not (used e)) PageNotMapped None in
      let last : AfterChange = record { paths = put M q (bit_or (address e) given); answer = Done (address e) } in
      done_or_low (address e) (nat_le level (level_of L page)) (record { paths = M; answer = Refused ParentEntryHugePage }) (refused_or M (first_stop E q) (refused_or M unused last)) (λ none. cc)
      (done_or_refused (address e) M (first_stop E q) (refused_or M unused last) (done_or_refused (address e) M unused last (λ none. refl)))

module _ {Lent : Type 0} (h : Hierarchy Lent) where
  -- a change of one entry leads the machine to its outcome
  pub change_leads : (call : Call) (answer : Answer) (after : Hierarchy Lent) → change_outcome h.layout.levels h.layout.window (paths h) call ≡ Some (record { paths = paths after; answer = answer })
      → (pool : List ℕ) → IsStep h pool call answer after pool
  unfolding do_call
  change_leads (Unmap level page) answer after is = λ pool take_back. ap (after_change pool) (same_Some _ _ is)
  change_leads (UpdateFlags level page given) answer after is = λ pool take_back. ap (after_change pool) (same_Some _ _ is)
  change_leads (SetFlags at level page given) answer after is = λ pool take_back. ap (after_change pool) (same_Some _ _ is)
  change_leads (MapTo level page frame given) answer after is = cc
  change_leads (MapToWithTableFlags level page frame given more) answer after is = cc
  change_leads (IdentityMap level frame given) answer after is = cc
  change_leads (TranslatePage level page) answer after is = cc
  change_leads (Translate p) answer after is = cc
  change_leads (TranslateAddress p) answer after is = cc
  change_leads (CleanUp low high) answer after is = cc

  -- a clean up leads the machine to its outcome
  pub clean_up_leads : (take_back : List ℕ → ℕ → List ℕ) (held : List ℕ) (low high : ℕ) (after : Hierarchy Lent) (rest : List ℕ) → CleansUp h take_back held low high after rest
      → do_call (machine_of h.layout take_back) (state_of h held) (CleanUp low high) ≡ record { state = state_of after rest; reply = Cleaned }
  unfolding do_call
  clean_up_leads take_back held low high after rest cleans =
      ap₂ (λ M pool. record { state = record { paths = M; pool = pool }; reply = Cleaned }) (sym cleans.outcome) (sym cleans.returned)

  changed : (rule : AfterChange) (answer : Answer) (n : Memory) → answer ≡ rule.answer → IsChanged h.layout h.memory rule n → (refuses answer ≡ true → n ≡ h.memory)
      → ChangesBy h rule answer (record h { memory = n })
  changed rule answer n is does still = record {
    outcome = ap₂ (λ M a. Some (record { paths = M; answer = a })) does.meant (sym is);
    fits = does.ready;
    refused = still;
    keeps = record { valid = does.valid; others = does.others; layout = refl; lent = refl };
  }

  pub does_unmap : (q : List ℕ) (answer : Answer) (n : Memory) → answer ≡ (after_unmap h.layout h.memory q).answer → IsChanged h.layout h.memory (after_unmap h.layout h.memory q) n
      → (refuses answer ≡ true → n ≡ h.memory) → ChangesBy h (after_unmap h.layout h.memory q) answer (record h { memory = n })
  does_unmap q = changed (after_unmap h.layout h.memory q)

  -- from why a change of flags is refused, if it is
  pub does_update : (q : List ℕ) (given : ℕ) (why : Option Refusal) (n : Memory) → why ≡ refusal_of (after_update h.layout h.memory q given).answer
      → IsChanged h.layout h.memory (after_update h.layout h.memory q given) n → (refuses (answer_unless why (Done (address (read_entry h q)))) ≡ true → n ≡ h.memory)
      → ChangesBy h (after_update h.layout h.memory q given) (answer_unless why (Done (address (read_entry h q)))) (record h { memory = n })
  does_update q given why n is =
      let frame = address (read_entry h q) in
      let after = after_update h.layout h.memory q given in
      changed after (answer_unless why (Done frame)) n
      (answer_told after.answer frame why (update_done h.layout.levels (read_entry h) (paths h) q given) is)

  pub does_set_flags : (level : ℕ) (q : List ℕ) (given : ℕ) (why : Option Refusal) (n : Memory) → why ≡ refusal_of (after_set_flags h.layout h.memory level q given).answer
      → IsChanged h.layout h.memory (after_set_flags h.layout h.memory level q given) n
      → (refuses (answer_unless why (Done (address (read_entry h (front_at h.layout.levels level q))))) ≡ true → n ≡ h.memory)
      → ChangesBy h (after_set_flags h.layout h.memory level q given) (answer_unless why (Done (address (read_entry h (front_at h.layout.levels level q))))) (record h { memory = n })
  does_set_flags level q given why n is =
      let frame = address (read_entry h (front_at h.layout.levels level q)) in
      let after = after_set_flags h.layout h.memory level q given in
      changed after (answer_unless why (Done frame)) n
      (answer_told after.answer frame why (set_flags_done h.layout.levels (read_entry h) (paths h) level q given) is)

-- ---- steps of the machine

pub maps_are_steps : MapsAreSteps
maps_are_steps h supply call answer after rest may does take_back =
    ap (λ b. cond b (do_call (machine_of h.layout take_back) (state_of h supply) call) (only_reply (state_of h supply) NotAllowed)) (map_allows h supply call may.allowed)
    ∙ map_leads h supply call answer after rest does.outcome take_back

pub changes_are_steps : ChangesAreSteps
changes_are_steps h call answer after may does pool take_back =
    ap (λ b. cond b (do_call (machine_of h.layout take_back) (state_of h pool) call) (only_reply (state_of h pool) NotAllowed)) may.allowed
    ∙ change_leads h call answer after does.outcome pool take_back

pub clean_ups_are_steps : CleanUpsAreSteps
clean_ups_are_steps = clean_up_leads
