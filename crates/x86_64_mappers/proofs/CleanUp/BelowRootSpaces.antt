-- Address spaces after one of them was cleaned up below its root's entries.
use Rattle.std.proofs.Common.{◌≡◌, ◌≢◌, ◌⊎◌, inl, inr, ⊎_elim, ◌<◌, ℕ, Bool, true, false, List, ◌∷◌, Some, sym, ap, ◌∙◌, subst}
use Rattle.std.proofs.lemmas.Bool.{cases_Bool, cases_eq}
use Rattle.x86_64_model.proofs.Lemmas.CleanUps.Trees.{given_frames}
use Rattle.x86_64_model.proofs.Lemmas.Hierarchies.Trees.{IsTree, tree_of_holds}
use Rattle.x86_64_model.proofs.Lemmas.Lists.Members.{in_append, in_left, in_right}
use Rattle.x86_64_model.proofs.Lemmas.Machines.Fitting.{ready_of_fits}
use Rattle.x86_64_model.proofs.Lemmas.Spaces.Many.{spaces_stay}
use Rattle.x86_64_model.proofs.Lemmas.Spaces.Walks.{shared_walks_are_the_same, walks_stay}
use Rattle.x86_64_model.specs.Hierarchy.{◌laid_in◌, PoolFits, SupplyFits, paths, walk}
use Rattle.x86_64_model.specs.Laws.Spaces.{KeepsRootEntries}
use Rattle.x86_64_model.specs.Layout.{Layout}
use Rattle.x86_64_model.specs.Lists.{In}
use Rattle.x86_64_model.specs.Memory.{IsMapping, Memory}
use Rattle.x86_64_model.specs.PathMap.{PathMap, table_at}
use Rattle.x86_64_model.specs.Pool.{TakesBack}
use Rattle.x86_64_model.specs.Position.{page_path}
use Rattle.x86_64_model.specs.Spaces.{AreSpaces, is_shared}
use Rattle.x86_64_model.specs.Store.{KeepsPool, Store}
use Rattle.x86_64_model.specs.Window.{begins_with}
use Rattle.x86_64_mappers.proofs.CleanUp.BelowRootWhole.{back_was, left_was}
use Rattle.x86_64_mappers.proofs.Memory.WordsRead.{words_read}
use Rattle.x86_64_mappers.specs.CleanUpsBelowRoot.{CleansUpBelowRoot, KeepsSpaces, SpacesStayCleanedBelowRoot, freed_below_root}

-- the pool keeps fitting, and no frame is lost
module _ (l : Layout) (store rest : Store) (gives : TakesBack store.take_back) (m n : Memory) (low high : ℕ) (fits : PoolFits (l laid_in m) store.serves store.frames)
    (did : CleansUpBelowRoot (l laid_in m) store low high (l laid_in n) rest) where
  abbrev M : PathMap
  M = paths (l laid_in m)

  abbrev freed : List ℕ
  freed = freed_below_root (l laid_in m) low high

  tree : IsTree l.levels l.root M
  tree = tree_of_holds l.levels (words_read l m) l.root M fits.valid.valid.holds

  was_free : (f : ℕ) → In rest.frames f → In freed f ⊎ In store.frames f
  was_free f i = in_append freed store.frames f ((given_frames store.take_back gives store.frames freed f).0 (subst (λ fs. In fs f) did.cleans.returned i))

  is_free : (f : ℕ) → In freed f ⊎ In store.frames f → In rest.frames f
  is_free f h = subst (λ fs. In fs f) (sym did.cleans.returned)
      ((given_frames store.take_back gives store.frames freed f).1 (⊎_elim (λ b. in_left freed store.frames f b) (λ s. in_right freed store.frames f s) h))

  was_table : (q : List ℕ) (f : ℕ) → table_at l.levels l.root (paths (l laid_in n)) q ≡ Some f → table_at l.levels l.root M q ≡ Some f
  was_table q f t = left_was l.levels l.root M tree low high q f (ap (λ N. table_at l.levels l.root N q) (sym did.cleans.outcome) ∙ t)

  served : (f : ℕ) → In freed f → store.serves f ≡ true
  served f b = let was = back_was l.levels l.root M tree low high f b in fits.serves_tables was.0 was.1 f was.2

  fits_again : SupplyFits (l laid_in n) rest.frames
  fits_again = subst (SupplyFits (l laid_in n)) (sym did.cleans.returned) (did.cleans.fits store.take_back gives store.frames (ready_of_fits l m store.serves store.frames fits))

  pub keeps : KeepsPool l store.serves m store.frames n rest.frames
  keeps = record {
    fits = record {
      valid = did.cleans.keeps.valid;
      each_once = fits_again.each_once;
      in_memory = fits_again.in_memory;
      are_frames = fits_again.are_frames;
      not_zero = fits_again.not_zero;
      no_table = fits_again.no_table;
      serves_pool = λ f i. ⊎_elim (served f) (fits.serves_pool f) (was_free f i);
      serves_tables = λ i q f t. fits.serves_tables i q f (was_table (i ∷ q) f t);
    };
    conserved = λ f. (
      ⊎_elim (λ s. inl (is_free f (inr s))) (λ t. ⊎_elim (λ left. inr left) (λ b. inl (is_free f (inl b))) (did.conserved f t)),
      ⊎_elim (λ i. ⊎_elim (λ b. let was = back_was l.levels l.root M tree low high f b in inr (was.0 ∷ was.1, was.2)) (λ s. inl s) (was_free f i)) (λ t. inr (t.0, was_table t.0 f t.1)),
    );
    others = λ k h. did.cleans.keeps.others k (λ f t. h f (inr t));
  }

module _ (shared : ℕ → Bool) (spaces : List Layout) (one : Layout) (member : In spaces one) (mapping : IsMapping one.places) (some : 0 < one.levels) (store rest : Store) (gives : TakesBack store.take_back)
    (m n : Memory) (low high : ℕ) (are : AreSpaces shared m store.serves store.frames spaces) (did : CleansUpBelowRoot (one laid_in m) store low high (one laid_in n) rest) where
  fits : PoolFits (one laid_in m) store.serves store.frames
  fits = are.fits one member

  kept : KeepsPool one store.serves m store.frames n rest.frames
  kept = keeps one store rest gives m n low high fits did

  entries_stay : KeepsRootEntries shared one m n
  entries_stay i s = did.root_entries i

  stay : AreSpaces shared n store.serves rest.frames spaces
  stay = spaces_stay shared spaces one member mapping some store.serves m n store.frames rest.frames are kept entries_stay

  -- a walk of another space, below a shared index or elsewhere
  other_walk : (b : Layout) → In spaces b → one.root ≢ b.root → (p : ℕ) → begins_with one.window (page_path one.levels p) ≡ false → begins_with b.window (page_path b.levels p) ≡ false
      → (is_shared shared (page_path one.levels p) ≡ true) ⊎ (is_shared shared (page_path one.levels p) ≡ false) → walk (b laid_in n) p ≡ walk (b laid_in m) p
  other_walk b i other p out_one out_b (inl on) =
      shared_walks_are_the_same shared one b mapping some store.serves n rest.frames kept.fits (stay.share one b member i other) p on out_one out_b
      ∙ did.walks p out_one
      ∙ sym (shared_walks_are_the_same shared one b mapping some store.serves m store.frames fits (are.share one b member i other) p on out_one out_b)
  other_walk b i other p out_one out_b (inr off) =
      let share = are.share one b member i other in
      walks_stay shared one b mapping some store.serves m n store.frames rest.frames fits kept entries_stay share p (ap (λ L. is_shared shared (page_path L p)) share.levels ∙ off) out_b

  pub keeps_spaces : KeepsSpaces shared spaces one store.serves m n rest.frames
  keeps_spaces = record {
    spaces_stay = stay;
    walks_stay = λ b i p out_one out_b. ⊎_elim
        (λ e. subst (λ (l : Layout). walk (l laid_in n) p ≡ walk (l laid_in m) p) (are.own_roots one b member i e) (did.walks p out_one))
        (λ other. other_walk b i other p out_one out_b (cases_Bool (is_shared shared (page_path one.levels p))))
        (cases_eq one.root b.root);
  }

pub spaces_stay_cleaned_below_root : SpacesStayCleanedBelowRoot
spaces_stay_cleaned_below_root shared spaces one member mapping some store rest gives m n low high are did =
    keeps_spaces shared spaces one member mapping some store rest gives m n low high are did
