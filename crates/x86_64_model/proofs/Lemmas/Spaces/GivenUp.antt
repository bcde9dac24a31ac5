-- One address space less, whose root goes back to the pool.
use Rattle.std.proofs.Common.{◌≡◌, ◌≢◌, inl, inr, ⊎_elim, ◌<◌, ◌⊎◌, ℕ, Bool, true, false, List, [], ◌∷◌, Some, None, IsSome, refl, sym, ap, ◌∙◌, subst}
use Rattle.std.proofs.lemmas.Bool.{cases_Bool}
use Rattle.std.proofs.lemmas.Option.{same_Some}
use Rattle.x86_64_model.specs.Entry.{is_frame}
use Rattle.x86_64_model.specs.Hierarchy.{◌laid_in◌, Owns, PoolFits, paths, words}
use Rattle.x86_64_model.specs.Laws.Spaces.{SpacesAreGivenUp, NoFrameIsLost}
use Rattle.x86_64_model.specs.Layout.{Layout}
use Rattle.x86_64_model.specs.Lists.{In}
use Rattle.x86_64_model.specs.Memory.{Memory, Places, IsMapping, words_of}
use Rattle.x86_64_model.specs.PathMap.{entry, table_of, table_at}
use Rattle.x86_64_model.specs.Pool.{TakesBack}
use Rattle.x86_64_model.specs.Spaces.{Shares, AreSpaces}
use Rattle.x86_64_model.proofs.Lemmas.Hierarchies.Changes.{unused_no_table}
use Rattle.x86_64_model.proofs.Lemmas.Hierarchies.Memories.{covered}
use Rattle.x86_64_model.proofs.Lemmas.Hierarchies.Trees.{tree_of_holds, tree_below}
use Rattle.x86_64_model.proofs.Lemmas.Spaces.Many.{shared_table}
use Rattle.x86_64_model.proofs.Lemmas.Spaces.Tables.{shared_entries_are_the_same}
use Rattle.x86_64_model.proofs.Lemmas.Tables.Exact.{inside_window}

module _ (shared : ℕ → Bool) (gone : Layout) (spaces : List Layout) (once : In spaces gone → ⊥) (take_back : List ℕ → ℕ → List ℕ) (gives : TakesBack take_back) (serves : ℕ → Bool)
    (m : Memory) (pool : List ℕ) (are : AreSpaces shared m serves pool (gone ∷ spaces)) where
  abbrev f : ℕ
  f = gone.root

  abbrev rest : List ℕ
  rest = take_back pool f

  its : PoolFits (gone laid_in m) serves pool
  its = are.fits gone (inl refl)

  root_apart : (a : Layout) → In spaces a → f ≢ a.root
  root_apart a i e = once (subst (In spaces) (sym (are.own_roots gone a (inl refl) (inr i) e)) i)

  beside_it : (a : Layout) → In spaces a → Shares shared a m pool gone
  beside_it a i = are.share a gone (inr i) (inl refl) (λ e. root_apart a i (sym e))

  not_own : (a : Layout) → In spaces a → Owns (a laid_in m) pool f → ⊥
  not_own a i = (beside_it a i).apart [] f refl refl

  freed : (g : ℕ) → In rest g → (f ≡ g) ⊎ In pool g
  freed g = (gives.same_frames pool f g).0

  its_root_there : IsSome (words (gone laid_in m) f)
  its_root_there = inside_window gone.window f (words (gone laid_in m)) f (its.valid.valid.holds.in_memory [] f refl)

  module _ (mapping : IsMapping gone.places) (served : serves f ≡ true) (nonzero : f ≢ 0) where
    fits_more : (a : Layout) → In spaces a → PoolFits (a laid_in m) serves rest
    fits_more a i = let was = are.fits a (inr i) in record {
      valid = was.valid;
      each_once = gives.each_once pool f (λ x. its.no_table f x ([], refl), was.each_once);
      in_memory = λ g x. ⊎_elim
          (λ e. subst (λ g. IsSome (words (a laid_in m) g)) e (subst (λ (p : Places). IsSome (words_of m p f)) (beside_it a i).places its_root_there))
          (λ x. was.in_memory g x) (freed g x);
      are_frames = λ g x. ⊎_elim (λ e. subst (λ g. is_frame g ≡ true) e (mapping.frames f (covered m gone.places f its_root_there))) (λ x. was.are_frames g x) (freed g x);
      not_zero = λ x. ⊎_elim nonzero was.not_zero (freed 0 x);
      no_table = λ g x t. ⊎_elim (λ e. not_own a i (inr (t.0, t.1 ∙ ap Some (sym e)))) (λ x. was.no_table g x t) (freed g x);
      serves_pool = λ g x. ⊎_elim (λ e. ap serves (sym e) ∙ served) (λ x. was.serves_pool g x) (freed g x);
      serves_tables = was.serves_tables;
    }

    share_more : (a b : Layout) → In spaces a → In spaces b → a.root ≢ b.root → Shares shared a m rest b
    share_more a b i j apart = let was = are.share a b (inr i) (inr j) apart in record {
      places = was.places;
      levels = was.levels;
      valid = was.valid;
      root_entries = was.root_entries;
      apart = λ q g s leads. ⊎_elim
          (λ x. ⊎_elim (λ e. not_own b j (inr (q, leads ∙ ap Some (sym e)))) (λ x. was.apart q g s leads (inl x)) (freed g x))
          (λ t. was.apart q g s leads (inr t));
    }

    pub given_up : AreSpaces shared m serves rest spaces
    given_up = record { fits = fits_more; own_roots = λ a b i j e. are.own_roots a b (inr i) (inr j) e; share = share_more }

  -- ---- what it owned

  module _ (mapping : IsMapping gone.places) (some : 0 < gone.levels) (empty : (i : ℕ) → shared i ≡ false → entry (paths (gone laid_in m)) (i ∷ []) ≡ 0) (other : Layout) (member : In spaces other) where
    back : (g : ℕ) → (f ≡ g) ⊎ In pool g → In rest g
    back g = (gives.same_frames pool f g).1

    share_it : Shares shared gone m pool other
    share_it = are.share gone other (inl refl) (inr member) (root_apart other member)

    nothing_below : (i : ℕ) → shared i ≡ false → (q : List ℕ) → entry (paths (gone laid_in m)) (i ∷ q) ≡ 0
    nothing_below i s [] = empty i s
    nothing_below i s (j ∷ q) = tree_below gone.levels f (paths (gone laid_in m)) (tree_of_holds gone.levels _ f (paths (gone laid_in m)) its.valid.valid.holds) (i ∷ []) j q
        (ap (table_of gone.levels (i ∷ [])) (empty i s) ∙ unused_no_table gone.levels (i ∷ []))

    table_elsewhere : (q : List ℕ) (g : ℕ) → table_at gone.levels f (paths (gone laid_in m)) q ≡ Some g → Owns (other laid_in m) rest g
    table_elsewhere [] g leads = inl (back g (inl (same_Some f g leads)))
    table_elsewhere (i ∷ q) g leads = ⊎_elim
        (λ s. inr (
          i ∷ q,
          shared_table shared other.levels gone.levels other.root f (paths (other laid_in m)) (paths (gone laid_in m)) (i ∷ q) share_it.levels s
              (shared_entries_are_the_same shared gone other mapping some serves m pool its share_it (i ∷ q) s) ∙ leads,
        ))
        (λ s. let z : None ≡ Some g = sym (ap (table_of gone.levels (i ∷ q)) (nothing_below i s q) ∙ unused_no_table gone.levels (i ∷ q)) ∙ leads in cc)
        (cases_Bool (shared i))

    pub nothing_lost : (g : ℕ) → Owns (gone laid_in m) pool g → Owns (other laid_in m) rest g
    nothing_lost g = ⊎_elim (λ x. inl (back g (inr x))) (λ t. table_elsewhere t.0 g t.1)

pub spaces_are_given_up : SpacesAreGivenUp
spaces_are_given_up shared gone spaces once mapping take_back gives serves served nonzero m pool are = given_up shared gone spaces once take_back gives serves m pool are mapping served nonzero

pub no_frame_is_lost : NoFrameIsLost
no_frame_is_lost shared gone other spaces once member mapping some take_back gives serves m pool are empty g = nothing_lost shared gone spaces once take_back gives serves m pool are mapping some empty other member g
