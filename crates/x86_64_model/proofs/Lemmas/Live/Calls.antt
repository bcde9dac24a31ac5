-- What a call leaves is determined by the frames of its own hierarchy and pool.
use Rattle.std.proofs.Common.{◌≡◌, ◌⊎◌, inl, inr, ⊎_elim, ◌<◌, ℕ, Bool, List, [], ◌∷◌, ◌++◌, Some, None, Option, sym, ap, ap₂, ◌∙◌, subst}
use Rattle.std.proofs.lemmas.Bool.{cases_eq}
use Rattle.x86_64_model.specs.Call.{Call, Reply}
use Rattle.x86_64_model.specs.Validity.{entry_in}
use Rattle.x86_64_model.specs.Laws.Caches.{IsAfterCall}
use Rattle.x86_64_model.specs.Flushing.{freed_by}
use Rattle.x86_64_model.specs.Laws.Locality.{SameOwned, Leads, CallsAreLocal}
use Rattle.x86_64_model.specs.Layout.{Layout}
use Rattle.x86_64_model.specs.Lists.{In}
use Rattle.x86_64_model.specs.Machine.{AfterCall, step}
use Rattle.x86_64_model.specs.Hierarchy.{◌laid_in◌, machine_of, state_in, PoolFits, paths, words}
use Rattle.x86_64_model.specs.Memory.{Memory, Words, word}
use Rattle.x86_64_model.specs.PathMap.{PathMap, entry, table_at}
use Rattle.x86_64_model.specs.Window.{Window, IsValidFor, outside_window}
use Rattle.x86_64_model.proofs.Lemmas.Hierarchies.Held.{word-set_frame, word-set_index}
use Rattle.x86_64_model.proofs.Lemmas.Live.Owned.{equal_tables, hierarchies_are_local}
use Rattle.x86_64_model.proofs.Lemmas.Tables.Exact.{inside_window}

pub in_or_not : (fs : List ℕ) (f : ℕ) → In fs f ⊎ (In fs f → ⊥)
in_or_not [] f = inr (λ i. absurd i)
in_or_not (g ∷ fs) f = ⊎_elim (λ e. inl (inl e))
    (λ n. ⊎_elim (λ i. inl (inr i)) (λ k. inr (⊎_elim n k)) (in_or_not fs f)) (cases_eq g f)

-- the words of a table are those of the path map, and the self-entry
module _ (L root : ℕ) (M : PathMap) (q : List ℕ) (f : ℕ) (leads : table_at L root M q ≡ Some f) where
  seen : (window : Option Window) (U : Words) → IsValidFor L window U root M → (i : ℕ)
      → word (outside_window window root U) f i ≡ entry M (q ++ i ∷ [])
  seen window U valid i = sym (valid.valid.holds.entries q i
      ∙ ap (λ t. entry_in (outside_window window root U) t i) leads)

  pub same_table_words : (window : Option Window) (U V : Words) → IsValidFor L window U root M
      → IsValidFor L window V root M → (i : ℕ) → word V f i ≡ word U f i
  same_table_words None U V u v i = seen None V v i ∙ sym (seen None U u i)
  same_table_words (Some w) U V u v i = ⊎_elim
      (λ fe. ⊎_elim
      (λ ie. ap₂ (word V) fe ie ∙ sym v.self.is_word ∙ u.self.is_word ∙ sym (ap₂ (word U) fe ie))
      (λ n. sym (word-set_index V root w.index 0 f i n) ∙ seen (Some w) V v i ∙ sym (seen (Some w) U u i)
      ∙ word-set_index U root w.index 0 f i n)
      (cases_eq i w.index))
      (λ n. sym (word-set_frame V root w.index 0 f i n) ∙ seen (Some w) V v i ∙ sym (seen (Some w) U u i)
      ∙ word-set_frame U root w.index 0 f i n)
      (cases_eq f root)

module _ (l : Layout) (some : 0 < l.levels) (take_back : List ℕ → ℕ → List ℕ) (serves : ℕ → Bool)
    (call : Call) (pool : List ℕ)
    (m n : Memory) (reply : Reply) (rest : List ℕ) (m' n' : Memory) (reply' : Reply) (rest' : List ℕ)
    (fits : PoolFits (l laid_in m) serves pool) (same : SameOwned l pool m m')
    (leads : Leads l take_back serves call m pool reply n rest)
    (leads' : Leads l take_back serves call m' pool reply' n' rest') where
  same_start : state_in l m' pool ≡ state_in l m pool
  same_start = ap (λ M. record { paths = M; pool = pool })
      (hierarchies_are_local l some serves m m' pool fits same).paths

  same_end : ◌≡◌ {A = AfterCall} (record { state = state_in l n' rest'; reply = reply' })
      (record { state = state_in l n rest; reply = reply })
  same_end = sym leads'.outcome ∙ ap (λ s. step (machine_of l take_back) s call) same_start ∙ leads.outcome

  pub same_reply : reply' ≡ reply
  same_reply = ap (λ (x : AfterCall). x.reply) same_end

  pub same_rest : rest' ≡ rest
  same_rest = ap (λ (x : AfterCall). x.state.pool) same_end

  same_paths_after : paths (l laid_in n') ≡ paths (l laid_in n)
  same_paths_after = ap (λ (x : AfterCall). x.state.paths) same_end

  -- the other call, from the same state
  after' : IsAfterCall (machine_of l take_back) l.root (words (l laid_in m')) (words (l laid_in n'))
      (state_in l m pool) call
  after' = subst (λ s. IsAfterCall (machine_of l take_back) l.root (words (l laid_in m'))
      (words (l laid_in n')) s call) same_start leads'.after

  free_now : (f : ℕ) → In rest f → In (step (machine_of l take_back) (state_in l m pool) call).state.pool f
  free_now f i = subst (λ fs. In fs f) (sym (ap (λ (x : AfterCall). x.state.pool) leads.outcome)) i

  free_words : (f : ℕ) → In rest f → (i : ℕ)
      → word (words (l laid_in n')) f i ≡ word (words (l laid_in n)) f i
  free_words f free i = ⊎_elim
      (λ back. after'.came_back f (free_now f free) back i
      ∙ sym (leads.after.came_back f (free_now f free) back i))
      (λ no. (equal_tables (words (l laid_in m')) (words (l laid_in n')) f
      (after'.same_words f (free_now f free) no)).words i
      ∙ (same f (inl (leads.after.was_free f (free_now f free) no))).words i
      ∙ sym ((equal_tables (words (l laid_in m)) (words (l laid_in n)) f
      (leads.after.same_words f (free_now f free) no)).words i))
      (in_or_not (freed_by l.levels (state_in l m pool) call) f)

  valid' : IsValidFor l.levels l.window (words (l laid_in n')) l.root (paths (l laid_in n))
  valid' = subst (λ M. IsValidFor l.levels l.window
      (words (l laid_in n')) l.root M) same_paths_after leads'.keeps.fits.valid

  pub same_owned : SameOwned l rest n n'
  same_owned f (inl free) = record {
    there = λ h. leads'.keeps.fits.in_memory f (subst (λ fs. In fs f) (sym same_rest) free);
    words = free_words f free;
  }
  same_owned f (inr t) = record {
    there = λ h. inside_window l.window l.root (words (l laid_in n')) f
        (valid'.valid.holds.in_memory t.0 f t.1);
    words = same_table_words l.levels l.root (paths (l laid_in n)) t.0 f t.1 l.window (words (l laid_in n))
        (words (l laid_in n')) leads.keeps.fits.valid valid';
  }

pub calls_are_local : CallsAreLocal
calls_are_local l some take_back serves call pool m n reply rest m' n' reply' rest' fits same leads leads' = (
  same_reply l some take_back serves call pool m n reply rest m' n' reply' rest' fits same leads leads',
  same_rest l some take_back serves call pool m n reply rest m' n' reply' rest' fits same leads leads',
  same_owned l some take_back serves call pool m n reply rest m' n' reply' rest' fits same leads leads',
)
