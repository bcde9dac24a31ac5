-- The result of a clean up of the whole hierarchy, from the changes to its tables.
use Rattle.std.proofs.Common.{◌≡◌, ◌<◌, ℕ, true, List, [], refl, sym, ap, ◌∙◌, subst}
use Rattle.x86_64_model.proofs.Lemmas.CleanUps.Below.{cleaned_below, back_below}
use Rattle.x86_64_model.proofs.Lemmas.CleanUps.Meets.{empty_clean_up}
use Rattle.x86_64_model.proofs.Lemmas.CleanUps.Tables.{cleaned_whole, back_whole}
use Rattle.x86_64_model.proofs.Lemmas.Hierarchies.Trees.{IsTree, tree_of_holds}
use Rattle.x86_64_model.proofs.Lemmas.Machines.Fitting.{step_fits}
use Rattle.x86_64_model.specs.Call.{CleanUp}
use Rattle.x86_64_model.specs.CleanUp.{AfterCleanUp, clean_up}
use Rattle.x86_64_model.specs.Entry.{IsParentFlags}
use Rattle.x86_64_model.specs.Lists.{In}
use Rattle.x86_64_model.specs.Machine.{do_call}
use Rattle.x86_64_model.specs.Memory.{Memory}
use Rattle.x86_64_model.specs.Hierarchy.{Hierarchy, Valid, CleansUp, words, paths, state_of}
use Rattle.x86_64_model.specs.PathMap.{PathMap}
use Rattle.x86_64_model.specs.Pool.{Fits, with_returned}
use Rattle.x86_64_model.specs.Window.{IsValidFor}
use Rattle.x86_64_mappers.proofs.CleanUp.Cleaned.{cleaned_nothing}
use Rattle.x86_64_mappers.specs.private.CleaningUp.{IsCleaned}
use Rattle.x86_64_mappers.proofs.Memory.WordsRead.{words_read}

module _ {Lent : Type 0} (h : Hierarchy Lent) (adds : IsParentFlags h.layout.added_flags) (valid : Valid h) (take_back : List ℕ → ℕ → List ℕ) (held : List ℕ) (low high : ℕ) where
  abbrev L : ℕ
  L = h.layout.levels

  abbrev M : PathMap
  M = paths h

  abbrev after : AfterCleanUp
  after = clean_up L M low high

  tree : IsTree L h.layout.root M
  tree = tree_of_holds L (words_read h.layout h.memory) h.layout.root M valid.valid.holds

  ends : (N : PathMap) (back : List ℕ) → N ≡ after.paths → back ≡ after.back → (n : Memory) (rest : List ℕ) → IsCleaned h.layout take_back h.memory held N back n rest
      → CleansUp h take_back held low high (record h { memory = n }) rest
  unfolding do_call
  ends N back paths_are back_is n rest c = record {
    outcome = is;
    returned = c.given ∙ ap (with_returned take_back held) back_is;
    fits = λ other gives supply fits. subst (λ N. Fits L h.layout.window (words (record h { memory = n })) h.layout.root N (λ f. true) (with_returned other supply after.back)) (sym is)
        (step_fits L h.layout.window (words h) (words (record h { memory = n })) h.layout.root (λ f. true) h.layout.added_flags adds other gives (state_of h supply) (CleanUp low high) tt fits
        (subst (IsValidFor L h.layout.window (words (record h { memory = n })) h.layout.root) is c.valid) c.there);
    empty = λ f i. c.empty f (subst (λ fs. In fs f) (sym back_is) i);
    keeps = record { valid = c.valid; others = c.others; layout = refl; lent = refl };
  }
    where
      is : paths (record h { memory = n }) ≡ after.paths
      is = c.meant ∙ paths_are

  -- all tables were cleaned up
  pub ends_whole : (n : Memory) (rest : List ℕ) → IsCleaned h.layout take_back h.memory held (cleaned_below L M low high []) (back_below L M low high []) n rest
      → CleansUp h take_back held low high (record h { memory = n }) rest
  ends_whole = ends (cleaned_below L M low high []) (back_below L M low high [])
      (cleaned_whole L h.layout.root M tree low high) (back_whole L h.layout.root M tree low high)

  -- the range has no positions
  pub ends_empty : high < low → CleansUp h take_back held low high h held
  ends_empty none = let is = empty_clean_up L M low high none tree.used_alone in
      ends M [] (sym (ap (λ (a : AfterCleanUp). a.paths) is)) (sym (ap (λ (a : AfterCleanUp). a.back) is)) h.memory held (cleaned_nothing h.layout take_back h.memory valid held)
