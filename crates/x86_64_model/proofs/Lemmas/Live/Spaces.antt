-- Calls on two address spaces that avoid the shared indices, in either order.
use Rattle.std.proofs.Common.{◌≡◌, ◌≢◌, inl, inr, ⊎_elim, ℕ, Bool, true, false, List, [], ◌∷◌, ◌++◌, Some, Option, sym, ap, ◌∙◌, subst}
use Rattle.std.proofs.lemmas.Bool.{cases_Bool}
use Rattle.x86_64_model.specs.Call.{Call, Reply, IsCall}
use Rattle.x86_64_model.specs.Entry.{IsParentFlags}
use Rattle.x86_64_model.specs.Validity.{entry_in}
use Rattle.x86_64_model.specs.Laws.Locality.{SameTable, Leads, AreTwoSpaces, CallsOnSpacesCommute}
use Rattle.x86_64_model.specs.Layout.{Layout}
use Rattle.x86_64_model.specs.Machine.{AfterCall}
use Rattle.x86_64_model.specs.Hierarchy.{◌laid_in◌, Owns, PoolFits, paths, words}
use Rattle.x86_64_model.specs.Memory.{Memory, Places, Words, word, words_of}
use Rattle.x86_64_model.specs.PathMap.{PathMap, entry, table_of, table_at}
use Rattle.x86_64_model.specs.Pool.{TakesBack}
use Rattle.x86_64_model.specs.Spaces.{is_shared, Avoids}
use Rattle.x86_64_model.specs.Window.{Window, IsValidFor, outside_window}
use Rattle.x86_64_model.proofs.Lemmas.Hierarchies.Elsewhere.{same_word}
use Rattle.x86_64_model.proofs.Lemmas.Live.Commute.{ends}
use Rattle.x86_64_model.proofs.Lemmas.Live.Split.{seen_beside}
use Rattle.x86_64_model.proofs.Lemmas.Spaces.Calls.{calls_keep_below}
use Rattle.x86_64_model.proofs.Lemmas.Spaces.Tables.{shared_entries_are_the_same}
use Rattle.x86_64_model.proofs.Lemmas.Tables.Exact.{inside_window}

-- a table below the root, whose entry and words stay
kept_table : (L : ℕ) (window : Option Window) (T U : Words) (root : ℕ) (M N : PathMap)
    → IsValidFor L window T root M → IsValidFor L window U root N → (k : ℕ) (r : List ℕ) (f : ℕ)
    → table_at L root M (k ∷ r) ≡ Some f → entry N (k ∷ r) ≡ entry M (k ∷ r)
    → ((j : ℕ) → entry N (k ∷ r ++ j ∷ []) ≡ entry M (k ∷ r ++ j ∷ [])) → SameTable T U f
kept_table L window T U root M N before after k r f leads itself below = record {
  there = λ h. inside_window window root U f (after.valid.holds.in_memory (k ∷ r) f leads_now);
  words = λ j. sym (seen U j) ∙ sym (at U N after leads_now j) ∙ below j ∙ at T M before leads j ∙ seen T j;
}
  where
    leads_now : table_at L root N (k ∷ r) ≡ Some f
    leads_now = ap (table_of L (k ∷ r)) itself ∙ leads

    not_root : f ≢ root
    not_root e = let x : k ∷ r ≡ [] = before.valid.own_frames (k ∷ r) [] f leads (ap Some (sym e)) in cc

    seen : (W : Words) (j : ℕ) → word (outside_window window root W) f j ≡ word W f j
    seen W j = same_word W (outside_window window root W) f j (seen_beside window root W f not_root)

    at : (W : Words) (P : PathMap) → IsValidFor L window W root P → table_at L root P (k ∷ r) ≡ Some f
        → (j : ℕ) → entry P (k ∷ r ++ j ∷ []) ≡ word (outside_window window root W) f j
    at W P valid leads j = valid.valid.holds.entries (k ∷ r) j
        ∙ ap (λ t. entry_in (outside_window window root W) t j) leads

-- a call that avoids the shared indices leaves the tables below them
module _ (shared : ℕ → Bool) (l : Layout) (adds : IsParentFlags l.added_flags)
    (take_back : List ℕ → ℕ → List ℕ) (gives : TakesBack take_back) (serves : ℕ → Bool) (call : Call)
    (is : IsCall l.levels call)
    (off : Avoids l.levels shared call) (m : Memory) (pool : List ℕ) (reply : Reply) (n : Memory)
    (rest : List ℕ) (fits : PoolFits (l laid_in m) serves pool)
    (leads : Leads l take_back serves call m pool reply n rest) where
  pub keeps_below : (q : List ℕ) → is_shared shared q ≡ true
      → entry (paths (l laid_in n)) q ≡ entry (paths (l laid_in m)) q
  keeps_below q on = calls_keep_below shared l adds take_back gives serves m n pool rest (call ∷ [])
      (is, tt) fits (sym (ap (λ (x : AfterCall). x.state) leads.outcome)) (off, tt) q on

  pub leaves_shared : (q : List ℕ) (f : ℕ) → is_shared shared q ≡ true
      → table_at l.levels l.root (paths (l laid_in m)) q ≡ Some f
      → SameTable (words (l laid_in m)) (words (l laid_in n)) f
  leaves_shared [] f on at = absurd (let x : false ≡ true = on in cc)
  leaves_shared (k ∷ r) f on at = kept_table l.levels l.window (words (l laid_in m))
      (words (l laid_in n)) l.root (paths (l laid_in m))
      (paths (l laid_in n)) fits.valid leads.keeps.fits.valid k r f at
      (keeps_below (k ∷ r) on) (λ j. keeps_below (k ∷ r ++ j ∷ []) on)

module _ (shared : ℕ → Bool) (a b : Layout) (m : Memory) (serves_a serves_b : ℕ → Bool)
    (pool_a pool_b : List ℕ) (spaces : AreTwoSpaces shared a b m serves_a serves_b pool_a pool_b) where
  -- what both own is a table of each below a shared index
  pub shared_by_a : (f : ℕ) → Owns (a laid_in m) pool_a f → Owns (b laid_in m) pool_b f → (q : List ℕ)
      × (is_shared shared q ≡ true) × (table_at a.levels a.root (paths (a laid_in m)) q ≡ Some f)
  shared_by_a f (inl x) (inl y) = absurd (spaces.pools f x y)
  shared_by_a f (inl x) (inr y) = absurd (⊎_elim
      (λ on. by y.0 on y.1)
      (λ off. spaces.shares_a.apart y.0 f off y.1 (inl x))
      (cases_Bool (is_shared shared y.0)))
    where
      by : (q : List ℕ) → is_shared shared q ≡ true
          → table_at b.levels b.root (paths (b laid_in m)) q ≡ Some f → ⊥
      by [] on leads = let x : false ≡ true = on in cc
      by (k ∷ r) on leads = spaces.two.fits_a.no_table f x (
        k ∷ r,
        ap (table_of a.levels (k ∷ r)) (sym
            (shared_entries_are_the_same shared a b spaces.two.mapping spaces.two.some_a serves_a m pool_a spaces.two.fits_a spaces.shares_a (k ∷ r) on))
            ∙ ap (λ L. table_of L (k ∷ r) (entry (paths (b laid_in m)) (k ∷ r)))
            (sym spaces.shares_a.levels) ∙ leads,
      )
  shared_by_a f (inr x) other = ⊎_elim
      (λ on. (x.0, on, x.1))
      (λ off. absurd (spaces.shares_b.apart x.0 f off x.1 other))
      (cases_Bool (is_shared shared x.0))

  pub shared_by_b : (f : ℕ) → Owns (a laid_in m) pool_a f → Owns (b laid_in m) pool_b f → (q : List ℕ)
      × (is_shared shared q ≡ true) × (table_at b.levels b.root (paths (b laid_in m)) q ≡ Some f)
  shared_by_b f x y = let at = shared_by_a f x y in by at.0 at.1 at.2
    where
      by : (q : List ℕ) → is_shared shared q ≡ true
          → table_at a.levels a.root (paths (a laid_in m)) q ≡ Some f → (q : List ℕ)
          × (is_shared shared q ≡ true) × (table_at b.levels b.root (paths (b laid_in m)) q ≡ Some f)
      by [] on leads = absurd (let x : false ≡ true = on in cc)
      by (k ∷ r) on leads = (
        k ∷ r,
        on,
        ap (λ L. table_of L (k ∷ r) (entry (paths (b laid_in m)) (k ∷ r))) spaces.shares_a.levels
            ∙ ap (table_of a.levels (k ∷ r))
            (shared_entries_are_the_same shared a b spaces.two.mapping spaces.two.some_a serves_a m pool_a spaces.two.fits_a spaces.shares_a (k ∷ r) on) ∙ leads,
      )

pub calls_on_spaces_commute : CallsOnSpacesCommute
calls_on_spaces_commute shared a b m serves_a serves_b pool_a pool_b spaces take_a take_b gives_a gives_b call_a call_b is_a is_b off_a off_b reply_a reply_b reply_a' reply_b' rest_a rest_b rest_a' rest_b' m_a n m_b n' first_a then_b first_b then_a =
    ends a b m serves_a serves_b pool_a pool_b spaces.two take_a take_b call_a call_b reply_a reply_b reply_a' reply_b' rest_a rest_b rest_a' rest_b' m_a n m_b n' first_a then_b first_b then_a
    (λ f x y. let at = shared_by_a shared a b m serves_a serves_b pool_a pool_b spaces f x y in
    leaves_shared shared a spaces.adds_a take_a gives_a serves_a call_a is_a off_a m pool_a reply_a m_a rest_a spaces.two.fits_a first_a at.0 f at.1 at.2)
    (λ f x y. let at = shared_by_b shared a b m serves_a serves_b pool_a pool_b spaces f x y in
    subst (λ (places : Places). SameTable (words_of m places) (words_of m_b places) f) spaces.two.places
    (leaves_shared shared b spaces.adds_b take_b gives_b serves_b call_b is_b off_b m pool_b reply_b' m_b rest_b' spaces.two.fits_b first_b at.0 f at.1 at.2))
