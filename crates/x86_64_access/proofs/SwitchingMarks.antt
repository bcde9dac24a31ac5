-- Marks of address spaces may happen.
use Rattle.std.proofs.Common.{zero, suc, inl, inr, ⊎_elim, ◌≡◌, ◌≢◌, ◌<◌, ◌==◌, ◌&&◌, ◌||◌, ℕ, Bool, true, List, [], ◌∷◌, map, Some, None, Option, refl, sym, ap, subst, ◌∙◌, arith, eq-eqb}
use Rattle.std.proofs.lemmas.Bool.{cases_eq}
use Rattle.x86_64_model.specs.Entry.{LeadAlike}
use Rattle.x86_64_model.specs.Validity.{paths_of, read_at}
use Rattle.x86_64_model.specs.Laws.SwitchedSpaces.{space_for, between, AllShare, MaySwitchIn}
use Rattle.x86_64_model.specs.Layout.{Layout}
use Rattle.x86_64_model.specs.Lists.{In}
use Rattle.x86_64_model.specs.Hierarchy.{◌laid_in◌, PoolFits, paths}
use Rattle.x86_64_model.specs.MaySwitch.{MayMarkAll}
use Rattle.x86_64_model.specs.Memory.{Memory, Places, Words, IsMapping, word, words_of}
use Rattle.x86_64_model.specs.Path.{level_of}
use Rattle.x86_64_model.specs.PathMap.{PathMap, entry}
use Rattle.x86_64_model.specs.Pool.{Fits}
use Rattle.x86_64_model.specs.Spaces.{ArePaired, IsSharing, Shares}
use Rattle.x86_64_model.specs.Switches.{Kernel, Space, Switching, AreHeld, held_by, with_marks}
use Rattle.x86_64_model.specs.Window.{SelfEntry, Window, begins_with, entry_at, outside_window}
use Rattle.x86_64_model.proofs.Lemmas.Hierarchies.Exists.{entry_paths_of}
use Rattle.x86_64_model.proofs.Lemmas.Hierarchies.Held.{word-set_index}
use Rattle.x86_64_model.proofs.Lemmas.Hierarchies.Unset.{word_unset}
use Rattle.x86_64_model.proofs.Lemmas.Lists.Members.{from_map}
use Rattle.x86_64_model.proofs.Lemmas.Switches.Layouts.{like, is_like, fits_like, held_in}
use Rattle.x86_64_access.specs.Marks.{GetsMarks, OnlyMarks, window_now}
use Rattle.x86_64_access.specs.SwitchingMarks.{MarksMaySwitch, RootsStay}
use Rattle.x86_64_access.proofs.MarkedHierarchies.{entries_marked, fits_stay, outside_marked}
use Rattle.x86_64_access.proofs.MarkingProcessors.{alike, led, own_before, own_self, same_outside, seen_marked, zero_stays}
use Rattle.x86_64_access.proofs.Marks.{same_has}

-- ---- one root

-- the word at the root
read_root : (L : ℕ) → 0 < L → (T : Words) (root i : ℕ) → read_at L T root (i ∷ []) ≡ word T root i
read_root zero some T root i = absurd (omega (arith, some))
read_root (suc n) some T root i = refl

outside_stays : (v : Option Window) (T U : Words) (root i : ℕ) → word U root i ≡ word T root i → word (outside_window v root U) root i ≡ word (outside_window v root T) root i
outside_stays None T U root i same = same
outside_stays (Some w) T U root i same = ⊎_elim
    (λ here. subst (λ i. word (outside_window (Some w) root U) root i ≡ word (outside_window (Some w) root T) root i) (sym here) (word_unset U root w.index ∙ sym (word_unset T root w.index)))
    (λ other. word-set_index U root w.index 0 root i other ∙ same ∙ sym (word-set_index T root w.index 0 root i other))
    (cases_eq i w.index)

-- the self-entry gets no mark
same_window : (v : Option Window) (T U : Words) (root : ℕ) → SelfEntry T root v → ((i : ℕ) → begins_with v (i ∷ []) ≡ true → word U root i ≡ word T root i) → window_now U root v ≡ v
same_window None T U root self stays = refl
same_window (Some w) T U root self stays = ap (λ x. Some (record { index = w.index; self_entry = x })) (stays w.index (eq-eqb w.index w.index refl)) ∙ sym (own_self (Some w) T root self)

module _ (L : ℕ) (levels : 0 < L) (v : Option Window) (T U : Words) (root : ℕ) (only : OnlyMarks T U) where
  abbrev M : PathMap
  M = paths_of L (outside_window v root T) root

  abbrev N : PathMap
  N = paths_of L (outside_window v root U) root

  gets : (q : List ℕ) → GetsMarks (entry M q) (entry N q)
  gets q = entries_marked (outside_window v root T) (outside_window v root U)
      (subst (OnlyMarks (outside_window v root T)) (same_outside v U U root) (outside_marked v root T U only)) L root levels q

  root_stays : (i : ℕ) → word U root i ≡ word T root i → entry N (i ∷ []) ≡ entry M (i ∷ [])
  root_stays i same = entry_paths_of L (outside_window v root U) root (i ∷ []) ∙ read_root L levels (outside_window v root U) root i
      ∙ outside_stays v T U root i same
      ∙ sym (entry_paths_of L (outside_window v root T) root (i ∷ []) ∙ read_root L levels (outside_window v root T) root i)

  module _ (same : window_now U root v ≡ v) (serves : ℕ → Bool) (pool : List ℕ) (fits : Fits L v T root M serves pool) where
    fits_marked : Fits L v U root N serves pool
    fits_marked = subst (λ w. Fits L w U root (paths_of L (outside_window w root U) root) serves pool) same (fits_stay L levels v T U root serves pool only fits).0

    seen : (q : List ℕ) → GetsMarks (entry_at v M q) (entry_at v N q)
    seen q = subst (λ w. GetsMarks (entry_at v M q) (entry_at w N q)) same (seen_marked T U root only M N gets v fits.valid.self q)

-- ---- all spaces

with_marks_in : (k : Kernel) (T U : Words) (layouts : List Layout) → map (with_marks k (held_by k U) U) (map (space_for k T) layouts) ≡ map (space_for k U) layouts
with_marks_in k T U [] = refl
with_marks_in k T U (l ∷ layouts) = ap (λ more. space_for k U l ∷ more) (with_marks_in k T U layouts)

module _ (k : Kernel) (places : Places) (mapping : IsMapping places) (levels : 0 < k.levels) (sharing : (root other : ℕ) → ℕ → Bool) (is : IsSharing sharing) (all : AllShare k sharing)
    (m n : Memory) (pool : List ℕ) (layouts : List Layout) (are : ArePaired sharing m k.serves pool layouts) (may : MaySwitchIn k places (words_of m places) layouts)
    (only : OnlyMarks (words_of m places) (words_of n places)) (roots : RootsStay sharing (words_of m places) (words_of n places) layouts) where
  abbrev T : Words
  T = words_of m places

  abbrev U : Words
  U = words_of n places

  module _ (l : Layout) (il : In layouts l) where
    abbrev there : Layout
    there = like k places l

    is_there : l ≡ there
    is_there = is_like k places mapping levels sharing all m pool layouts are may l il

    fits_before : PoolFits (there laid_in m) k.serves pool
    fits_before = fits_like k places mapping levels sharing all m pool layouts are may l il

    stays : window_now U l.root l.window ≡ l.window
    stays = same_window l.window T U l.root fits_before.valid.self (λ i at. roots l il i (inl at))

    fits_after : PoolFits (l laid_in n) k.serves pool
    fits_after = subst (λ (l : Layout). PoolFits (l laid_in n) k.serves pool) (sym is_there) (fits_marked k.levels levels l.window T U l.root only stays k.serves pool fits_before)

    marked : (q : List ℕ) → GetsMarks (entry (paths (l laid_in m)) q) (entry (paths (l laid_in n)) q)
    marked q = subst (λ (l : Layout). GetsMarks (entry (paths (l laid_in m)) q) (entry (paths (l laid_in n)) q)) (sym is_there) (gets k.levels levels l.window T U l.root only q)

    root_entry : (i : ℕ) → word U l.root i ≡ word T l.root i → entry (paths (l laid_in n)) (i ∷ []) ≡ entry (paths (l laid_in m)) (i ∷ [])
    root_entry i same = subst (λ (l : Layout). entry (paths (l laid_in n)) (i ∷ []) ≡ entry (paths (l laid_in m)) (i ∷ [])) (sym is_there)
        (root_stays k.levels levels l.window T U l.root only i same)

    seen_after : (q : List ℕ) → GetsMarks (entry_at l.window (space_for k T l).paths q) (entry_at l.window (space_for k U l).paths q)
    seen_after q = seen k.levels levels l.window T U l.root only stays k.serves pool fits_before q

  shares : (a b : Layout) → In layouts a → In layouts b → a.root ≢ b.root → Shares (sharing a.root b.root) a n pool b
  shares a b ia ib apart = let were = are.share a b ia ib apart in record {
    places = were.places;
    levels = were.levels;
    valid = let fits = fits_after b ib in fits.valid;
    root_entries = λ i on. root_entry b ib i (roots b ib i (inr (a, ia, (λ e. apart (sym e)), is.symmetric a.root b.root i on)))
        ∙ were.root_entries i on ∙ sym (root_entry a ia i (roots a ia i (inr (b, ib, apart, on))));
    apart = λ q f off t own. were.apart q f off (led b.levels b.root (paths (b laid_in m)) (paths (b laid_in n)) (marked b ib) q f t)
        (own_before a.levels a.root (paths (a laid_in m)) (paths (a laid_in n)) (marked a ia) pool f own);
  }

  paired : ArePaired sharing n k.serves pool layouts
  paired = record { fits = fits_after; own_roots = are.own_roots; share = shares }

  may_still : MaySwitchIn k places U layouts
  may_still = record {
    mapping = may.mapping;
    same_levels = may.same_levels;
    globals = λ l il q here page has_global. let g = seen_after l il q in may.globals l il q
        (sym (same_has _ _ 0x1 g refl) ∙ here)
        (sym (ap (λ h. (level_of k.levels q == 1) || (h && ((level_of k.levels q == 2) || (level_of k.levels q == 3)))) (same_has _ _ 0x80 g refl)) ∙ page)
        (sym (same_has _ _ 0x100 g refl) ∙ has_global);
    windows = may.windows;
    all_or_none = may.all_or_none;
  }

  module _ (s : Switching) where
    abbrev now : Switching
    now = between k T pool layouts s

    leads : (a : Space) → In now.spaces a → (q : List ℕ) → LeadAlike (entry a.paths q) (entry (held_by k U a) q)
    leads a ia q = let o = from_map (space_for k T) layouts a ia in
        subst (λ (a : Space). LeadAlike (entry a.paths q) (entry (held_by k U a) q)) o.2 (alike _ _ (gets k.levels levels o.0.window T U o.0.root only q))

    leads_then : (a : Space) → In now.spaces a → (q : List ℕ) → LeadAlike (entry a.next q) (entry (held_by k U a) q)
    leads_then a ia q = let o = from_map (space_for k T) layouts a ia in
        subst (λ (a : Space). LeadAlike (entry a.next q) (entry (held_by k U a) q)) o.2 (alike _ _ (gets k.levels levels o.0.window T U o.0.root only q))

    may_mark : MayMarkAll k now (held_by k U) U
    may_mark = record {
      held = subst (AreHeld k U) (sym (with_marks_in k T U layouts)) (held_in k places mapping levels sharing all n pool layouts paired may_still);
      now = leads;
      then = leads_then;
      keeps = λ f zeros i. zero_stays _ _ (only.words f i) (zeros i);
    }

pub marks_may_switch : MarksMaySwitch
marks_may_switch k places mapping levels sharing is all m n pool layouts are may only roots s = (
  (may_mark k places mapping levels sharing is all m n pool layouts are may only roots s, tt),
  ap (λ spaces. record s { spaces = spaces; pool = pool; words = words_of n places }) (with_marks_in k (words_of m places) (words_of n places) layouts),
  paired k places mapping levels sharing is all m n pool layouts are may only roots,
  may_still k places mapping levels sharing is all m n pool layouts are may only roots,
)
