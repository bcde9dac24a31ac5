-- Clean ups that a mapper does, stated of the words in the memory that it borrows.
use Rattle.std.proofs.Common.{◌≡◌, ℕ, Bool, List, sym, subst, subst₂}
use Rattle.x86_64_mappers.specs.CleanUps.{CleansUpInto}
use Rattle.x86_64_model.proofs.Lemmas.Machines.WordsAlone.{in_words, frees_alone}
use Rattle.x86_64_model.specs.Hierarchy.{◌laid_in◌, Hierarchy, CleansUp, MayCleanUp}
use Rattle.x86_64_model.specs.Layout.{Layout}
use Rattle.x86_64_model.specs.Memory.{Memory}
use Rattle.x86_64_model.specs.Store.{Store}

module _ {Lent : Type 0} (h : Hierarchy Lent) (l : Layout) (m : Memory) (layout : h.layout ≡ l) (memory : h.memory ≡ m) where
  pub may_over : (serves : ℕ → Bool) (held : List ℕ) → MayCleanUp (l laid_in m) serves held → MayCleanUp h serves held
  may_over serves held may = let seen = subst₂ (λ l m. MayCleanUp (l laid_in m) serves held) (sym layout) (sym memory) may in record {
    valid = seen.valid;
    serves_tables = seen.serves_tables;
    none_held = seen.none_held;
  }

  module _ (after : Hierarchy Lent) (n : Memory) (gone : after.memory ≡ n) where
    pub clean_up_did : (take_back : List ℕ → ℕ → List ℕ) (held : List ℕ) (low high : ℕ) (left : List ℕ)
        → CleansUp h take_back held low high after left → CleansUp (l laid_in m) take_back held low high (l laid_in n) left
    clean_up_did take_back held low high left cleans =
        in_words h after l m n layout memory gone cleans.keeps.layout (λ before last. CleansUp before take_back held low high last left) (frees_alone cleans)

    pub cleaned_into : (store rest : Store) (low high : ℕ) → CleansUpInto h store low high after rest → CleansUpInto (l laid_in m) store low high (l laid_in n) rest
    cleaned_into store rest low high cleans = record {
      cleans = clean_up_did store.take_back store.frames low high rest.frames cleans.cleans;
      serves = cleans.serves;
    }
