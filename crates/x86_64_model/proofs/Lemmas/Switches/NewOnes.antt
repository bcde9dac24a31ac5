-- One more address space, or one less, as events of a processor that switches between them.
use Rattle.std.proofs.Common.{◌≡◌, ◌≢◌, inl, inr, ⊎_elim, ◌<◌, ◌==◌, ℕ, Bool, true, not, cond, List, [], ◌∷◌, filter, map, Some, refl, sym, ap, ◌∙◌, subst, eq-eqb, ne_eqb}
use Rattle.x86_64_model.specs.Lists.{In}
use Rattle.x86_64_model.specs.Flushing.{IsUnflushed}
use Rattle.x86_64_model.specs.Validity.{paths_of}
use Rattle.x86_64_model.specs.Layout.{Layout}
use Rattle.x86_64_model.specs.Laws.Spaces.{IsNewRoot}
use Rattle.x86_64_model.specs.Laws.SwitchedSpaces.{space_for, MaySwitchIn, between, new_events, NewSpacesMaySwitch, end_events, GivenUpMaySwitch}
use Rattle.x86_64_model.specs.Hierarchy.{◌laid_in◌, paths}
use Rattle.x86_64_model.specs.Memory.{Memory, Words, Places, IsMapping, words_of}
use Rattle.x86_64_model.specs.PathMap.{PathMap, entry, table_at}
use Rattle.x86_64_model.specs.Pool.{TakesBack}
use Rattle.x86_64_model.specs.Spaces.{AreSpaces}
use Rattle.x86_64_model.specs.Window.{outside_window}
use Rattle.x86_64_model.specs.Tags.{Of}
use Rattle.x86_64_model.specs.Switches.{Kernel, Space, AreHeld, Switching, held_by, with_words, Pools, after_switch}
use Rattle.x86_64_model.specs.MaySwitch.{MayWriteAll, AllMaySwitch, after_switches}
use Rattle.x86_64_model.proofs.Lemmas.Hierarchies.Trees.{some_not_none}
use Rattle.x86_64_model.proofs.Lemmas.Lists.Members.{from_map}
use Rattle.x86_64_model.proofs.Lemmas.Caches.Whole.{same_zeros}
use Rattle.x86_64_model.proofs.Lemmas.Spaces.NewOnes.{old_paths, new_spaces, same_words}
use Rattle.x86_64_model.proofs.Lemmas.Spaces.Paired.{spaces_are_paired}
use Rattle.x86_64_model.proofs.Lemmas.Switches.Layouts.{held_in}

-- spaces whose path maps didn't change
still : (k : Kernel) (T U : Words) (layouts : List Layout) → ((l : Layout) → In layouts l → (space_for k T l).paths ≡ (space_for k U l).paths)
    → map (with_words k U) (map (space_for k T) layouts) ≡ map (space_for k U) layouts
still k T U [] same = refl
still k T U (l ∷ layouts) same = let at = same l (inl refl) in let more = still k T U layouts (λ l i. same l (inr i)) in
    λ i. record (space_for k U l) { next = at i } ∷ more i

module _ (k : Kernel) (places : Places) (mapping : IsMapping places) (some : 0 < k.levels) (shared : ℕ → Bool) (all : (i : ℕ) → k.shared i ≡ true → shared i ≡ true) (m n : Memory) (rest : List ℕ)
    (layouts : List Layout) (first new : Layout) (member : In layouts first) (are : AreSpaces shared m k.serves (new.root ∷ rest) layouts) (is : IsNewRoot shared first m n new)
    (before : MaySwitchIn k places (words_of m places) layouts) (later : MaySwitchIn k places (words_of n places) (new ∷ layouts))
    (s : Switching) (none_due : (c : ℕ) → IsUnflushed (s.due (Of c)) new.root → ⊥) (unused : (c : ℕ) → s.holder c ≢ Some new.root) where
  abbrev T : Words
  T = words_of m places

  abbrev U : Words
  U = words_of n places

  -- the path map of a layout is that of its space
  paths_in : (memory : Memory) (l : Layout) → In layouts l → paths (l laid_in memory) ≡ (space_for k (words_of memory places) l).paths
  paths_in memory l il = let at_levels = before.same_levels l il in let at_places = before.mapping l il in
      λ i. paths_of (at_levels i) (outside_window l.window l.root (words_of memory (at_places i))) l.root

  own_mapping : IsMapping first.places
  own_mapping = subst IsMapping (sym (before.mapping first member)) mapping

  own_levels : 0 < first.levels
  own_levels = subst (λ L. 0 < L) (sym (before.same_levels first member)) some

  same_paths : (l : Layout) → In layouts l → (space_for k T l).paths ≡ (space_for k U l).paths
  same_paths l il = sym (paths_in m l il) ∙ old_paths shared layouts first new member own_mapping own_levels k.serves m n rest are is l il ∙ paths_in n l il

  held_now : AreHeld k U (space_for k U new ∷ map (space_for k U) layouts)
  held_now = held_in k places mapping some (λ a b. shared) (λ a b i. all i) n rest (new ∷ layouts)
      (spaces_are_paired shared n k.serves rest (new ∷ layouts) (new_spaces shared layouts first new member own_mapping own_levels k.serves m n rest are is)) later

  -- without the new one
  held_others : AreHeld k U (map (space_for k U) layouts)
  held_others = record {
    valid = λ a i. held_now.valid a (inr i);
    alike = λ a b i j. held_now.alike a b (inr i) (inr j);
    globals = λ a i. held_now.globals a (inr i);
    windows = λ a i. held_now.windows a (inr i);
    all_or_none = λ a b i j. held_now.all_or_none a b (inr i) (inr j);
  }

  abbrev now : Switching
  now = between k T (new.root ∷ rest) layouts s

  abbrev taken : Switching
  taken = after_switch k now (Pools rest)

  -- a space's path map stays
  stays : (b : Space) → In (map (space_for k T) layouts) b → b.paths ≡ held_by k U b
  stays b ib = let o = from_map (space_for k T) layouts b ib in subst (λ (b : Space). b.paths ≡ held_by k U b) o.2 (same_paths o.0 o.1)

  -- a free frame other than the new root keeps its words
  still_there : (f : ℕ) → In rest f → f ≢ new.root → U f ≡ T f
  still_there f free apart = let at = before.mapping first member in
      subst (λ (p : Places). words_of n p f ≡ words_of m p f) at
      (same_words shared layouts first new member own_mapping own_levels k.serves m n rest are is first member f ((are.fits first member).in_memory f (inr free)) apart)

  writes : MayWriteAll k taken U
  writes = record {
    held = subst (AreHeld k U) (sym (still k T U layouts same_paths)) held_others;
    between = λ b ib q. inl (ap (λ (M : PathMap). entry M q) (sym (stays b ib)));
    empty = λ b ib q f t z. absurd (some_not_none f (sym t ∙ ap (λ (M : PathMap). table_at k.levels b.root M q) (stays b ib) ∙ z));
    keeps = λ c f unflushed free zeros. same_zeros T U f (still_there f free (λ e. none_due c (subst (IsUnflushed (s.due (Of c))) e unflushed))) zeros;
  }

  abbrev end : Switching
  end = after_switches k now (new_events k U rest new)

  pub may : AllMaySwitch k now (new_events k U rest new)
  may = (
    record {
      done = λ b ib. let o = from_map (space_for k T) layouts b ib in subst (λ (b : Space). b.paths ≡ b.next) o.2 refl;
      waits = λ c f d i. ⊎_elim (λ e. absurd (none_due c (subst (IsUnflushed (s.due (Of c))) (sym e) d))) (λ i. i) i;
    },
    (
      writes,
      (
        record {
          done = refl;
          held = subst (λ (spaces : List Space). AreHeld k U (space_for k U new ∷ spaces)) (sym (still k T U layouts same_paths)) held_now;
          unused = unused;
        },
        tt,
      ),
    ),
  )

  pub ends : end ≡ between k U rest (new ∷ layouts) end
  ends = let at = still k T U layouts same_paths in λ i. record end { spaces = space_for k U new ∷ at i }

pub new_spaces_may_switch : NewSpacesMaySwitch
new_spaces_may_switch k places mapping some shared all m n rest layouts first new member are is before later s none_due unused = (
  may k places mapping some shared all m n rest layouts first new member are is before later s none_due unused,
  ends k places mapping some shared all m n rest layouts first new member are is before later s none_due unused,
)

-- ---- one less

others_left : (k : Kernel) (T : Words) (root : ℕ) (layouts : List Layout) → ((l : Layout) → In layouts l → l.root ≢ root)
    → filter (λ (a : Space). not (a.root == root)) (map (space_for k T) layouts) ≡ map (space_for k T) layouts
others_left k T root [] other = refl
others_left k T root (l ∷ layouts) other =
    ap (λ b. cond (not b) (space_for k T l ∷ filter (λ (a : Space). not (a.root == root)) (map (space_for k T) layouts)) (filter (λ (a : Space). not (a.root == root)) (map (space_for k T) layouts)))
    (ne_eqb l.root root (other l (inl refl)))
    ∙ ap (λ more. space_for k T l ∷ more) (others_left k T root layouts (λ l i. other l (inr i)))

module _ (k : Kernel) (gives : TakesBack k.take_back) (T : Words) (pool : List ℕ) (gone : Layout) (layouts : List Layout) (other : (l : Layout) → In layouts l → l.root ≢ gone.root)
    (s : Switching) (unused : (c : ℕ) → s.holder c ≢ Some gone.root) where
  abbrev at_first : Switching
  at_first = between k T pool (gone ∷ layouts) s

  left : filter (λ (a : Space). not (a.root == gone.root)) (space_for k T gone ∷ map (space_for k T) layouts) ≡ map (space_for k T) layouts
  left = ap (λ b. cond (not b) (space_for k T gone ∷ filter (λ (a : Space). not (a.root == gone.root)) (map (space_for k T) layouts)) (filter (λ (a : Space). not (a.root == gone.root)) (map (space_for k T) layouts)))
      (eq-eqb gone.root gone.root refl) ∙ others_left k T gone.root layouts other

  pub may_end : AllMaySwitch k at_first (end_events k pool gone)
  may_end = (
    unused,
    (
      record {
        done = λ b ib. let o = from_map (space_for k T) layouts b (subst (λ (spaces : List Space). In spaces b) left ib) in subst (λ (b : Space). b.paths ≡ b.next) o.2 refl;
        waits = λ c f d i. (gives.same_frames pool gone.root f).1 (inr i);
      },
      tt,
    ),
  )

  abbrev at_last : Switching
  at_last = after_switches k at_first (end_events k pool gone)

  pub ended : at_last ≡ between k T (k.take_back pool gone.root) layouts at_last
  ended = let at = left in λ i. record at_last { spaces = at i }

pub given_up_may_switch : GivenUpMaySwitch
given_up_may_switch k gives T pool gone layouts other s unused = (may_end k gives T pool gone layouts other s unused, ended k gives T pool gone layouts other s unused)
