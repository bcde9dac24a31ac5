-- The path map of a memory without the self-entry is that of the recursive mapper with it, and what fits one fits the other.
use Rattle.std.proofs.Common.{◌≡◌, ◌==◌, ℕ, Bool, true, false, cond, List, ◌∷◌, set, Option, Some, None, IsSome, option_map, inl, refl, sym, ap, ◌∙◌, subst, eqb-true}
use Rattle.std.specs.FinMap.{get}
use Rattle.x86_64_model.proofs.Lemmas.Hierarchies.Held.{is_some-set}
use Rattle.x86_64_model.proofs.Lemmas.Hierarchies.Memories.{words_of-insert, identity_distinct}
use Rattle.x86_64_model.specs.Alike.{Alike}
use Rattle.x86_64_model.specs.Entry.{address}
use Rattle.x86_64_model.specs.Validity.{IsValid, paths_of}
use Rattle.x86_64_model.specs.Hierarchy.{◌laid_in◌, PoolFits, paths}
use Rattle.x86_64_model.specs.Memory.{Memory, Words, identity_places, words_of, set_word}
use Rattle.x86_64_model.specs.PathMap.{PathMap, entry, table_at}
use Rattle.x86_64_model.specs.Pool.{IsTable}
use Rattle.pagetab_engine.specs.Arguments.{count}
use Rattle.pagetab_engine.specs.Frames.{direct_layout, recursive_layout, without_self_entry}
use Rattle.pagetab_engine.specs.Slot.{stored_in}
use Rattle.x86_64_addr.specs.declared.level_count.Levels.{Levels}

module _ (levels : Levels) (m : Memory) (r : ℕ) where
  abbrev T : Words
  T = words_of m identity_places

  -- if there is no root, no word changes
  no_root : T 0x1000 ≡ None → T ≡ set_word T 0x1000 r 0
  unfolding set_word
  no_root none = λ n f. by f (f == 0x1000) refl n
    where
      by : (f : ℕ) (b : Bool) → (f == 0x1000) ≡ b → T f ≡ cond b (option_map (λ words. set words r 0) (T f)) (T f)
      by f false apart = refl
      by f true same = let here = ap T (eqb-true f 0x1000 same) ∙ none in here ∙ sym (ap (option_map (λ words. set words r 0)) here)

  pub cleared_words : words_of (without_self_entry r m) identity_places ≡ set_word T 0x1000 r 0
  unfolding address
  cleared_words = by (get m 1) refl
    where
      by : (o : Option (List ℕ)) → get m 1 ≡ o → words_of (stored_in m 1 r 0 o) identity_places ≡ set_word T 0x1000 r 0
      by (Some table) is = words_of-insert m identity_places 0x1000 r 0 table identity_distinct refl is
      by None is = no_root is

  pub cleared_paths : paths (direct_layout (count levels) laid_in without_self_entry r m) ≡ paths (recursive_layout (count levels) m r laid_in m)
  cleared_paths = ap (λ (T : Words). paths_of (count levels) T 0x1000) cleared_words

  pub cleared_alike : Alike (count levels) (paths (direct_layout (count levels) laid_in without_self_entry r m)) (paths (recursive_layout (count levels) m r laid_in m))
  cleared_alike = λ q. inl (ap (λ (M : PathMap). entry M q) cleared_paths)

  pub cleared_fits : (serves : ℕ → Bool) (free : List ℕ) → PoolFits (recursive_layout (count levels) m r laid_in m) serves free → PoolFits (direct_layout (count levels) laid_in without_self_entry r m) serves free
  cleared_fits serves free fits = record {
    valid = record { valid = subst (λ (T : Words). IsValid (count levels) T 0x1000 (paths_of (count levels) T 0x1000)) (sym cleared_words) fits.valid.valid; self = tt };
    each_once = fits.each_once;
    in_memory = λ f i. subst (λ (T : Words). IsSome (T f)) (sym cleared_words) (is_some-set T 0x1000 r 0 f (fits.in_memory f i));
    are_frames = fits.are_frames;
    not_zero = fits.not_zero;
    no_table = λ f i table. fits.no_table f i (subst (λ (M : PathMap). IsTable (count levels) 0x1000 M f) cleared_paths table);
    serves_pool = fits.serves_pool;
    serves_tables = λ i q f leads. fits.serves_tables i q f (subst (λ (M : PathMap). table_at (count levels) 0x1000 M (i ∷ q) ≡ Some f) cleared_paths leads);
  }
