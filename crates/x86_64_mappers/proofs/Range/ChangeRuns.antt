-- Runs of calls that each change at most one entry, one call after another.
use Rattle.std.proofs.Common.{◌≡◌, ℕ, true, cond, List, [], ◌∷◌, ◌++◌, refl, sym, ap, ap₂, ◌∙◌, subst}
use Rattle.x86_64_model.specs.Allowed.{allowed}
use Rattle.x86_64_model.specs.Call.{Call, Reply, Answered, NotAllowed}
use Rattle.x86_64_model.specs.Layout.{Layout}
use Rattle.x86_64_model.specs.Machine.{AfterCall, State, do_call, after_change, step, only_reply}
use Rattle.x86_64_model.specs.Hierarchy.{◌laid_in◌, Hierarchy, machine_of, state_in, Valid, paths}
use Rattle.x86_64_model.specs.Memory.{Memory}
use Rattle.x86_64_model.specs.PageRules.{AfterChange}
use Rattle.x86_64_model.specs.PathMap.{table_at}
use Rattle.x86_64_model.specs.Refusal.{Answer}
use Rattle.x86_64_model.proofs.Lemmas.Runs.Runs.{replies_append, state_append}
use Rattle.x86_64_mappers.specs.RangeChanges.{DoesChanges}
use Rattle.x86_64_mappers.specs.private.RangeChangeSteps.{IsChangeRun}
use Rattle.x86_64_mappers.proofs.Entry.EntryEnds.{with_memory}
use Rattle.x86_64_mappers.proofs.Entry.EntryRules.{Ends}

-- before the first call
pub no_changes : (l : Layout) (m : Memory) → Valid (l laid_in m) → IsChangeRun l m [] [] m
no_changes l m valid = record {
  replies = λ pool take_back. refl;
  state = λ pool take_back. refl;
  valid = valid;
  ready = λ s r. r;
  tables = λ q. refl;
  others = λ k none. refl;
}

-- the call has this rule
abbrev pub HasRule : Layout → Memory → Call → AfterChange → Type 0
HasRule l m call after = (pool : List ℕ) (take_back : List ℕ → ℕ → List ℕ) → do_call (machine_of l take_back) (state_in l m pool) call ≡ after_change pool after

-- one call more
module _ (l : Layout) (m : Memory) (calls : List Call) (answers : List Reply) (n : Memory) (run : IsChangeRun l m calls answers n)
    (call : Call) (may : allowed l.levels l.window (paths (l laid_in n)) call ≡ true) (after : AfterChange) (rule : HasRule l n call after) (answer : Answer) (o : Memory) (ends : Ends l n after answer o)
    (same : (q : List ℕ) → table_at l.levels l.root (paths (l laid_in o)) q ≡ table_at l.levels l.root (paths (l laid_in n)) q) where
  one : (pool : List ℕ) (take_back : List ℕ → ℕ → List ℕ) → step (machine_of l take_back) (state_in l n pool) call ≡ record { state = state_in l o pool; reply = Answered answer }
  one pool take_back = ap (λ b. cond b (do_call (machine_of l take_back) (state_in l n pool) call) (only_reply (state_in l n pool) NotAllowed)) may
      ∙ rule pool take_back ∙ ap₂ (λ M a. after_change pool (record { paths = M; answer = a })) ends.changed.meant ends.answers

  pub change_more : IsChangeRun l m (calls ++ call ∷ []) (answers ++ Answered answer ∷ []) o
  change_more = record {
    replies = λ pool take_back.
        let machine = machine_of l take_back in
        let start = state_in l m pool in
        replies_append machine start calls (call ∷ [])
        ∙ ap₂ (λ rs (t : State). rs ++ (step machine t call).reply ∷ []) (run.replies pool take_back) (run.state pool take_back)
        ∙ ap (λ (x : AfterCall). answers ++ x.reply ∷ []) (one pool take_back);
    state = λ pool take_back.
        let machine = machine_of l take_back in
        let start = state_in l m pool in
        state_append machine start calls (call ∷ [])
        ∙ ap (λ (t : State). (step machine t call).state) (run.state pool take_back)
        ∙ ap (λ (x : AfterCall). x.state) (one pool take_back);
    valid = ends.changed.valid;
    ready = λ s r. ends.changed.ready s (run.ready s r);
    tables = λ q. same q ∙ run.tables q;
    others = λ k none. ends.changed.others k (λ f t. none f (t.0, sym (run.tables t.0) ∙ t.1)) ∙ run.others k none;
  }

-- ---- ends

pub ends_changes : {Lent : Type 0} (h after : Hierarchy Lent) (calls : List Call) (answers : List Reply) → after.layout ≡ h.layout → after.lent ≡ h.lent
    → IsChangeRun h.layout h.memory calls answers after.memory → DoesChanges h calls answers after
ends_changes h after calls answers layout lent run = subst (DoesChanges h calls answers) (with_memory h after layout lent) (record {
  replies = run.replies;
  state = run.state;
  fits = run.ready;
  keeps = record { valid = run.valid; others = run.others; layout = refl; lent = refl };
})
