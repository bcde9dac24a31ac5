-- A hierarchy, and the calls on it, depend on the tables in its own frames alone.
use Rattle.std.proofs.Common.{◌≡◌, inl, inr, ⊎_elim, ◌<◌, ℕ, Bool, List, [], Some, None, Option, IsSome, refl, sym, ap, ap₂, ◌∙◌, subst}
use Rattle.std.proofs.lemmas.Bool.{cases_eq}
use Rattle.x86_64_model.specs.Validity.{entry_in, Holds, paths_of}
use Rattle.x86_64_model.specs.Laws.Locality.{SameTable, HierarchiesAreLocal}
use Rattle.x86_64_model.specs.Machine.{step}
use Rattle.x86_64_model.specs.Hierarchy.{◌laid_in◌, machine_of, paths, words}
use Rattle.x86_64_model.specs.Memory.{Words, word, set_word}
use Rattle.x86_64_model.specs.PathMap.{PathMap, entry, table_at}
use Rattle.x86_64_model.specs.Pool.{IsOwn, Fits}
use Rattle.x86_64_model.specs.Window.{Window, IsValidFor, SelfEntry, outside_window, entry_at}
use Rattle.x86_64_model.specs.PageWalk.{page_walk}
use Rattle.x86_64_model.proofs.Lemmas.Hierarchies.Elsewhere.{same_word}
use Rattle.x86_64_model.proofs.Lemmas.Hierarchies.Exists.{law_paths_of, holds_paths_of, nothing_above_paths_of}
use Rattle.x86_64_model.proofs.Lemmas.Hierarchies.Held.{table_at_same, is_some-set, word-set_frame, word-set_index}
use Rattle.x86_64_model.proofs.Lemmas.Hierarchies.Unset.{is_some-unset, word_unset}
use Rattle.x86_64_model.proofs.Lemmas.Paths.Puts.{by_last, same_paths}
use Rattle.x86_64_model.proofs.Lemmas.Walks.Agrees.{reads}
use Rattle.x86_64_model.proofs.Lemmas.Walks.Walked.{page_walk_is}

pub equal_tables : (T U : Words) (f : ℕ) → U f ≡ T f → SameTable T U f
equal_tables T U f e = record { there = λ h. subst IsSome (sym e) h; words = λ i. same_word T U f i e }

-- the same tables, as the path map sees them
pub same_outside : (window : Option Window) (root : ℕ) (T U : Words) (f : ℕ) → SameTable T U f
    → SameTable (outside_window window root T) (outside_window window root U) f
same_outside None root T U f same = same
same_outside (Some w) root T U f same = record {
  there = λ h. is_some-set U root w.index 0 f (same.there (is_some-unset T root w.index 0 f h));
  words = λ i. ⊎_elim
      (λ ie. ⊎_elim
      (λ fe. ap₂ (word (set_word U root w.index 0)) fe ie ∙ word_unset U root w.index
      ∙ sym (ap₂ (word (set_word T root w.index 0)) fe ie ∙ word_unset T root w.index))
      (λ n. word-set_frame U root w.index 0 f i n ∙ same.words i
      ∙ sym (word-set_frame T root w.index 0 f i n))
      (cases_eq f root))
      (λ n. word-set_index U root w.index 0 f i n ∙ same.words i
      ∙ sym (word-set_index T root w.index 0 f i n))
      (cases_eq i w.index);
}

same_in : (T U : Words) (t : Option ℕ) (i : ℕ) → ((f : ℕ) → t ≡ Some f → word U f i ≡ word T f i)
    → entry_in U t i ≡ entry_in T t i
same_in T U None i same = refl
same_in T U (Some f) i same = same f refl

module _ (L : ℕ) (window : Option Window) (T U : Words) (root : ℕ) (some : 0 < L) (serves : ℕ → Bool)
    (pool : List ℕ)
    (fits : Fits L window T root (paths_of L (outside_window window root T) root) serves pool)
    (same : (f : ℕ) → IsOwn L root (paths_of L (outside_window window root T) root) pool f
    → SameTable T U f) where
  abbrev before : Words
  before = outside_window window root T

  abbrev after : Words
  after = outside_window window root U

  abbrev M : PathMap
  M = paths_of L before root

  abbrev N : PathMap
  N = paths_of L after root

  table_same : (q : List ℕ) (f : ℕ) → table_at L root M q ≡ Some f → SameTable before after f
  table_same q f leads = same_outside window root T U f (same f (inr (q, leads)))

  entries_same : (q : List ℕ) → entry N q ≡ entry M q
  entries_same = by_last (λ q. entry N q ≡ entry M q)
      (nothing_above_paths_of L after root ∙ sym (nothing_above_paths_of L before root))
      (λ q i e. law_paths_of L after root some q i
      ∙ ap (λ t. entry_in after t i) (table_at_same L root N M q e)
      ∙ same_in before after (table_at L root M q) i (λ f leads. (table_same q f leads).words i)
      ∙ sym (law_paths_of L before root some q i))

  held : Holds L after root N
  held = holds_paths_of L after root some
      (λ q f leads. let was : table_at L root M q
      ≡ Some f = sym (table_at_same L root N M q (entries_same q)) ∙ leads in
      (table_same q f was).there (fits.valid.valid.holds.in_memory q f was))

  pub paths_same : N ≡ M
  paths_same = same_paths N M held.used_alone fits.valid.valid.holds.used_alone entries_same

  same_self : (v : Option Window) → SameTable T U root → SelfEntry T root v → SelfEntry U root v
  same_self None is self = tt
  same_self (Some w) is self = record {
    is_word = self.is_word
        ∙ sym (is.words w.index);
    is_present = self.is_present;
    not_huge = self.not_huge;
    names_root = self.names_root;
  }

  valid_same : IsValidFor L window U root M
  valid_same = record {
    valid = record {
      holds = subst (λ P. Holds L after root P) paths_same held;
      own_frames = fits.valid.valid.own_frames;
      not_zero = fits.valid.valid.not_zero;
      none_huge = fits.valid.valid.none_huge;
    };
    self = same_self window (same root (inr ([], refl))) fits.valid.self;
  }

  pub fits_same : Fits L window U root N serves pool
  fits_same = subst (λ P. Fits L window U root P serves pool) (sym paths_same) (record {
    valid = valid_same;
    each_once = fits.each_once;
    in_memory = λ f i. (same f (inl i)).there (fits.in_memory f i);
    are_frames = fits.are_frames;
    not_zero = fits.not_zero;
    no_table = fits.no_table;
    serves_pool = fits.serves_pool;
    serves_tables = fits.serves_tables;
  })

  pub walks_same : (p : ℕ) → page_walk L U root p ≡ page_walk L T root p
  walks_same p = page_walk_is L U root (entry_at window M) (reads L U root M window valid_same) p
      ∙ sym (page_walk_is L T root (entry_at window M) (reads L T root M window fits.valid) p)

pub hierarchies_are_local : HierarchiesAreLocal
hierarchies_are_local l some serves m n pool fits same =
    let is : paths (l laid_in n) ≡ paths (l laid_in m) = paths_same l.levels l.window (words (l laid_in m))
    (words (l laid_in n)) l.root some serves pool fits same in
    record {
      fits = fits_same l.levels l.window (words (l laid_in m))
          (words (l laid_in n)) l.root some serves pool fits same;
      paths = is;
      walks = walks_same l.levels l.window (words (l laid_in m))
          (words (l laid_in n)) l.root some serves pool fits same;
      owned = λ f own. subst (λ M. IsOwn l.levels l.root M pool f) (sym is) own;
      calls = λ take_back call. ap (λ M. step (machine_of l take_back)
          (record { paths = M; pool = pool }) call) is;
    }
