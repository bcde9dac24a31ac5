-- A 2MiB or 1GiB page that is split: a table of its parts is written into a free frame, and then named.
use Rattle.std.proofs.Common.{◌≡◌, ◌≢◌, inl, ⊎_elim, ◌<◌, ◌≤◌, ◌-◌, ℕ, ◌==◌, ◌&&◌, ◌||◌, nat_lt, Bool, true, false, cond, List, [], ◌∷◌, ◌++◌, length, get_or, Some, None, Option, IsSome, refl, sym, ap, ◌∙◌, subst, arith, lt-ltb, eqb-true}
use Rattle.std.proofs.lemmas.Bool.{and_parts, or_cases, cases_eq, cases_lt, eqb-false}
use Rattle.std.proofs.lemmas.Option.{same_Some}
use Rattle.std.specs.Cmp.{nat_cmp_total}
use Rattle.std.specs.FinMap.{get, insert, get-insert}
use Rattle.x86_64_model.specs.Entry.{huge}
use Rattle.x86_64_model.specs.Laws.EntriesInPlace.{IsInPlace}
use Rattle.x86_64_model.specs.Laws.Splits.{IsInParts, split_memory}
use Rattle.x86_64_model.specs.Layout.{Layout}
use Rattle.x86_64_model.specs.Hierarchy.{◌laid_in◌, PoolFits, paths, words}
use Rattle.x86_64_model.specs.Mappings.{maps_page}
use Rattle.x86_64_model.specs.Memory.{Memory, Words, IsMapping, word, word_in, set_word}
use Rattle.x86_64_model.specs.Path.{level_of}
use Rattle.x86_64_model.specs.PathMap.{PathMap, entry, table_of, table_at}
use Rattle.x86_64_model.specs.Window.{Window, begins_with, outside_window}
use Rattle.x86_64_model.proofs.Lemmas.Hierarchies.Changes.{unused_no_table, unnamed, huge_names_none, leaf_none}
use Rattle.x86_64_model.proofs.Lemmas.Hierarchies.Elsewhere.{same_outside, same_word}
use Rattle.x86_64_model.proofs.Lemmas.Hierarchies.Held.{set_word_other, is_some-set, word_past, word-set_same, word-set_frame, word-set_index}
use Rattle.x86_64_model.proofs.Lemmas.Hierarchies.Memories.{covered, same_key, other_key, outside_set}
use Rattle.x86_64_model.proofs.Lemmas.Hierarchies.Trees.{table_at_is, tree_of_holds, tree_below}
use Rattle.x86_64_model.proofs.Lemmas.Live.Changed.{words_with_word}
use Rattle.x86_64_model.proofs.Lemmas.Live.InPlace.{outside_table}
use Rattle.x86_64_model.proofs.Lemmas.Live.Replaced.{IsReplaced}
use Rattle.x86_64_model.proofs.Lemmas.Machines.Writes.{not_self}
use Rattle.x86_64_model.proofs.Lemmas.Paths.Puts.{no_end}
use Rattle.x86_64_model.proofs.Lemmas.Walks.Agrees.{named}
use Rattle.x86_64_model.proofs.Lemmas.Walks.Walked.{one_more}

pub same_seen : (window : Option Window) (root : ℕ) (T U : Words) (f : ℕ) → U f ≡ T f
    → outside_window window root U f ≡ outside_window window root T f
same_seen None root T U f same = same
same_seen (Some w) root T U f same = same_outside w root T U f same

pub seen_beside : (window : Option Window) (root : ℕ) (T : Words) (f : ℕ) → f ≢ root
    → outside_window window root T f ≡ T f
seen_beside None root T f apart = refl
seen_beside (Some w) root T f apart = set_word_other T root w.index 0 f apart

-- a part of a page names no table
pub part_names_none : (L : ℕ) (q : List ℕ) (j e : ℕ) → 2 ≤ level_of L q → level_of L q ≤ 3
    → maps_page (L - length q) e ≡ true → table_of L (q ++ j ∷ []) e ≡ None
part_names_none L q j e low high page = leaf_none L (q ++ j ∷ []) e (λ n. by (L - length q) page (not_one n))
  where
    not_one : (length (q ++ j ∷ []) == L) ≡ false → L - length q ≢ 1
    not_one n z = eqb-false (length (q ++ j ∷ [])) L n (omega (arith, one_more q j, z, low))

    by : (k : ℕ) → maps_page k e ≡ true → k ≢ 1 → huge e ≡ true
    by k is n = ⊎_elim (λ one. absurd (n (eqb-true k 1 one)))
        (λ rest. (and_parts (huge e) ((k == 2) || (k == 3)) rest).0)
        (or_cases (k == 1) (huge e && ((k == 2) || (k == 3))) is)

module _ (l : Layout) (mapping : IsMapping l.places) (some : 0 < l.levels) (serves : ℕ → Bool) (m : Memory)
    (g : ℕ) (rest : List ℕ) (fits : PoolFits (l laid_in m) serves (g ∷ rest))
    (q : List ℕ) (f i t : ℕ) (table : List ℕ) (place : IsInPlace l m q f i)
    (parts : IsInParts l.levels q (entry (paths (l laid_in m)) q) t g (λ j. get_or table j 0)) where
  abbrev L : ℕ
  L = l.levels

  abbrev T : Words
  T = words (l laid_in m)

  abbrev M : PathMap
  M = paths (l laid_in m)

  -- the memory with the table, and then with the entry
  abbrev filled : Memory
  filled = insert m (l.places.place g) table

  abbrev n : Memory
  n = split_memory l m g table f i t

  abbrev F : Words
  F = words (l laid_in filled)

  free : (r : List ℕ) → table_at L l.root M r ≢ Some g
  free r leads = fits.no_table g (inl refl) (r, leads)

  g_covered : l.places.covers g ≡ true
  g_covered = covered m l.places g (fits.in_memory g (inl refl))

  filled_here : F g ≡ Some table
  filled_here = ap (λ b. cond b (get filled (l.places.place g)) None) g_covered
      ∙ get-insert nat_cmp_total m (l.places.place g) table (l.places.place g)
      ∙ ap (λ b. cond b (Some table) (get m (l.places.place g))) (same_key (l.places.place g))

  pub filled_elsewhere : (h : ℕ) → h ≢ g → F h ≡ T h
  filled_elsewhere h apart = elim (l.places.covers h) as
      (λ b. l.places.covers h ≡ b → cond b (get filled (l.places.place h)) None
      ≡ cond b (get m (l.places.place h)) None) [
        | true ↦ λ c. get-insert nat_cmp_total m (l.places.place g) table (l.places.place h)
            ∙ ap (λ b. cond b (Some table) (get m (l.places.place h)))
            (other_key _ _ (λ e. apart (mapping.distinct h g c g_covered e)))
        | false ↦ λ c. refl
      ] refl

  pub filled_there : (h : ℕ) → IsSome (T h) → IsSome (F h)
  filled_there h there = ⊎_elim (λ e. subst (λ o. IsSome o) (sym (ap F e ∙ filled_here)) refl)
      (λ apart. subst IsSome (sym (filled_elsewhere h apart)) there) (cases_eq h g)

  f_apart : f ≢ g
  f_apart e = free place.above (place.leads ∙ ap Some e)

  root_apart : l.root ≢ g
  root_apart e = free [] (ap Some e)

  pub words_now : words (l laid_in n) ≡ set_word F f i t
  words_now = words_with_word l mapping filled f i t place.table (filled_elsewhere f f_apart ∙ place.there)

  -- as the path map sees them
  abbrev V : Words
  V = outside_window l.window l.root T

  abbrev G : Words
  G = outside_window l.window l.root F

  pub not_the_self_entry : (v : Window) → l.window ≡ Some v → f ≡ l.root → i ≢ v.index
  not_the_self_entry = not_self L l.window T l.root M fits.valid place.above i f place.leads place.small
      (ap (begins_with l.window) (sym place.is) ∙ place.outside)

  pub seen_now : outside_window l.window l.root (words (l laid_in n)) ≡ set_word G f i t
  seen_now = ap (outside_window l.window l.root) words_now
      ∙ outside_set l.window l.root F f i t not_the_self_entry

  seen_here : G g ≡ Some table
  seen_here = seen_beside l.window l.root F g (λ e. root_apart (sym e)) ∙ filled_here

  seen_elsewhere : (h : ℕ) → h ≢ g → G h ≡ V h
  seen_elsewhere h apart = same_seen l.window l.root T F h (filled_elsewhere h apart)

  part_word : (j : ℕ) → word (set_word G f i t) g j ≡ cond (nat_lt j 512) (get_or table j 0) 0
  unfolding word
  part_word j = word-set_frame G f i t g j (λ e. f_apart (sym e))
      ∙ ap (λ o. cond (nat_lt j 512) (word_in o j) 0) seen_here

  pub part_is : (j : ℕ) → j < 512 → word (set_word G f i t) g j ≡ get_or table j 0
  part_is j small = part_word j ∙ ap (λ b. cond b (get_or table j 0) 0) (lt-ltb j 512 small)

  above : length q < L
  above = let low = parts.at_least in omega (arith, low)

  pub no_table_yet : table_at L l.root M q ≡ None
  no_table_yet = table_at_is L l.root M q (λ z. no_end place.above i (sym z ∙ place.is))
      ∙ unnamed L q (entry M q) (huge_names_none (entry M q) parts.is_page)

  pub none_under : (j : ℕ) (s : List ℕ) → entry M (q ++ j ∷ s) ≡ 0
  none_under j s = tree_below L l.root M
      (tree_of_holds L V l.root M fits.valid.valid.holds) q j s no_table_yet

  pub replaced : IsReplaced L V (set_word G f i t) l.root M q f i t (Some g)
  replaced = record {
    above = place.above;
    is = place.is;
    leads = place.leads;
    named = named L q t parts.is_table above ∙ ap Some parts.names;
    fresh = λ h r e leads. free r (leads ∙ sym e);
    not_zero = λ e. fits.not_zero (inl (same_Some g 0 e));
    low = parts.at_most;
    no_tables = λ j. ⊎_elim
        (λ small. ap (table_of L (q ++ j ∷ [])) (part_is j small)
        ∙ part_names_none L q j (get_or table j 0) parts.at_least parts.at_most
        (parts.parts.pages j small))
        (λ past. ap (table_of L (q ++ j ∷ [])) (word_past (set_word G f i t) g j past)
        ∙ unused_no_table L (q ++ j ∷ []))
        (cases_lt j 512);
    none_below = λ j k. none_under j (k ∷ []);
    written = (let seen = outside_table l.window l.root F f i place.table
        (filled_elsewhere f f_apart
        ∙ place.there) place.within in word-set_same G f i t seen.0 seen.1 seen.2 place.small);
    beside = λ j apart. word-set_index G f i t f j apart ∙ same_word V G f j (seen_elsewhere f f_apart);
    others = λ h apart not j. word-set_frame G f i t h j apart
        ∙ same_word V G h j (seen_elsewhere h (λ e. not (ap Some (sym e))));
    there = λ h there. is_some-set G f i t h
        (⊎_elim (λ e. subst (λ o. IsSome o) (sym (ap G e ∙ seen_here)) refl)
        (λ apart. subst IsSome (sym (seen_elsewhere h apart)) there) (cases_eq h g));
    table_there = λ h e. is_some-set G f i t h
        (subst (λ o. IsSome o) (sym (ap G (same_Some h g (sym e)) ∙ seen_here)) refl);
  }
