-- A frame whose table has the shared words of a root, 0 elsewhere, and maybe a self-entry.
use Rattle.std.proofs.Common.{◌≡◌, ◌≢◌, inl, ⊎_elim, ◌<◌, ◌≤◌, ℕ, Bool, true, false, cond, ◌&&◌, bit_or, List, [], ◌∷◌, length, get_or, set, Some, None, Option, IsSome, refl, sym, ap, ap₂, ◌∙◌, subst, lt-ltb, eqb-true, arith}
use Rattle.std.specs.Prelude.{drop}
use Rattle.std.specs.List.{slice_get}
use Rattle.std.proofs.lemmas.Bool.{cases_lt, cases_eq}
use Rattle.std.proofs.lemmas.List.{get_or-set_same, get_or-set_other}
use Rattle.std.specs.FinMap.{get}
use Rattle.x86_64_model.specs.Entry.{has, present, huge, address}
use Rattle.x86_64_model.specs.Hierarchy.{◌laid_in◌, PoolFits, paths}
use Rattle.x86_64_model.specs.Laws.Spaces.{IsNewRoot}
use Rattle.x86_64_model.specs.Layout.{Layout}
use Rattle.x86_64_model.specs.Memory.{Memory, Places, IsMapping, Words, word, word_in, words_of, set_word}
use Rattle.x86_64_model.specs.PathMap.{entry}
use Rattle.x86_64_model.specs.Window.{SelfEntry, outside_window}
use Rattle.x86_64_model.proofs.Lemmas.Entries.Bits.{only_flags, address_or}
use Rattle.x86_64_model.proofs.Lemmas.Hierarchies.Held.{word_past, word-set_index}
use Rattle.x86_64_model.proofs.Lemmas.Hierarchies.Memories.{covered}
use Rattle.x86_64_model.proofs.Lemmas.Hierarchies.Unset.{word_unset}
use Rattle.x86_64_spaces.specs.declared.space.Space.{Space}
use Rattle.x86_64_spaces.specs.SpaceLayouts.{space_layout}
use Rattle.x86_64_spaces.specs.private.SpaceTables.{words_without}
use Rattle.x86_64_spaces.specs.private.Writes.{Stores, HasShared, with_self_entry}
use Rattle.x86_64_spaces.proofs.Sound.{seen_outside}
use Rattle.x86_64_tables.specs.SelfEntries.{window_in}

-- the words of a table in a frame
word_of : (T : Words) (f i : ℕ) (table : List ℕ) → T f ≡ Some table → i < 512 → word T f i ≡ get_or table i 0
unfolding word
word_of T f i table is small = ap₂ (λ b o. cond b (word_in o i) 0) (lt-ltb i 512 small) is

-- the first frame of a pool, and the rest
pub taken : (pool : List ℕ) (f : ℕ) → slice_get pool 0 ≡ Some f → pool ≡ f ∷ drop 1 pool
taken [] f h = cc
taken (g ∷ pool) f h = let e : g ≡ f = cc in ap (λ f. f ∷ pool) e

-- a root has the entries that the words seen by its space are
pub root_entries : (L : ℕ) (places : Places) (m : Memory) (s : Space) (serves : ℕ → Bool) (pool : List ℕ) → PoolFits (space_layout L places m s laid_in m) serves pool
    → (i : ℕ) → entry (paths (space_layout L places m s laid_in m)) (i ∷ []) ≡ word (words_without (words_of m places) s) s.root i
root_entries L places m s serves pool fits i = fits.valid.valid.holds.entries [] i ∙ ap (λ (U : Words). word U s.root i) (seen_outside (words_of m places) s)

module _ (shared : ℕ → Bool) (L : ℕ) (places : Places) (mapping : IsMapping places) (m n' n : Memory) (first : Space) (serves : ℕ → Bool) (root : ℕ) (rest : List ℕ)
    (fits : PoolFits (space_layout L places m first laid_in m) serves (root ∷ rest)) (recursive : Option ℕ)
    (place : ℕ) (at : place ≡ places.place root) (small : (r : ℕ) → recursive ≡ Some r → r < 512)
    (unused : (r : ℕ) → recursive ≡ Some r → shared r ≡ true → entry (paths (space_layout L places m first laid_in m)) (r ∷ []) ≡ 0)
    (copy : HasShared shared (word (words_without (words_of m places) first) first.root) m place 512 n')
    (written : Stores n' place (with_self_entry recursive root copy.table) n) where
  abbrev one : Layout
  one = space_layout L places m first

  abbrev new : Space
  new = record { root = root; recursive = recursive }

  abbrev layout : Layout
  layout = space_layout L places n new

  abbrev U : Words
  U = words_of n places

  is_there : places.covers root ≡ true
  is_there = covered m places root (fits.in_memory root (inl refl))

  root_table : U root ≡ Some (with_self_entry recursive root copy.table)
  root_table = ap (λ b. cond b (get n (places.place root)) None) is_there ∙ ap (get n) (sym at) ∙ written.here

  -- the words of the copy, at indices of a table
  copied_word : (i : ℕ) → i < 512 → (b : Bool) → shared i ≡ b → get_or copy.table i 0 ≡ cond b (entry (paths (one laid_in m)) (i ∷ [])) 0
  copied_word i i_small b is = copy.copied i i_small ∙ ap₂ (λ a b. cond (a && b) (word (words_without (words_of m places) first) first.root i) 0) is (lt-ltb i 512 i_small) ∙ by b
    where
      by : (b : Bool) → cond (b && true) (word (words_without (words_of m places) first) first.root i) 0 ≡ cond b (entry (paths (one laid_in m)) (i ∷ [])) 0
      by true = sym (root_entries L places m first serves (root ∷ rest) fits i)
      by false = refl

  -- the root's words but the self-entry
  outside : (r : Option ℕ) → recursive ≡ r → U root ≡ Some (with_self_entry r root copy.table) → (i : ℕ) → i < 512 → (b : Bool) → shared i ≡ b
      → word (outside_window (window_in U root r) root U) root i ≡ cond b (entry (paths (one laid_in m)) (i ∷ [])) 0
  outside None is table i i_small b on = word_of U root i copy.table table i_small ∙ copied_word i i_small b on
  outside (Some r) is table i i_small b on = ⊎_elim
      (λ e. ap (word (set_word U root r 0) root) e ∙ word_unset U root r ∙ sym (free b (sym (ap shared e) ∙ on)) ∙ ap (λ i. cond b (entry (paths (one laid_in m)) (i ∷ [])) 0) (sym e))
      (λ apart. word-set_index U root r 0 root i apart ∙ word_of U root i (set copy.table r (bit_or root 3)) table i_small
      ∙ get_or-set_other copy.table r i (bit_or root 3) 0 apart ∙ copied_word i i_small b on)
      (cases_eq i r)
    where
      free : (b : Bool) → shared r ≡ b → cond b (entry (paths (one laid_in m)) (r ∷ [])) 0 ≡ 0
      free true on = unused r is on
      free false off = refl

  words_are : (i : ℕ) (b : Bool) → shared i ≡ b → word (outside_window layout.window root U) root i ≡ cond b (entry (paths (one laid_in m)) (i ∷ [])) 0
  words_are i b is = ⊎_elim
      (λ i_small. outside recursive refl root_table i i_small b is)
      (λ large. word_past (outside_window layout.window root U) root i large ∙ sym (past b large))
      (cases_lt i 512)
    where
      past : (b : Bool) → 512 ≤ i → cond b (entry (paths (one laid_in m)) (i ∷ [])) 0 ≡ 0
      past true large = root_entries L places m first serves (root ∷ rest) fits i ∙ word_past (words_without (words_of m places) first) first.root i large
      past false large = refl

  address_is : address root ≡ root
  address_is = let is = fits.are_frames root (inl refl) in eqb-true (address root) root is

  self_word : (r : ℕ) → recursive ≡ Some r → word U root r ≡ bit_or root 3
  self_word r is =
      let within : r < length copy.table = (let s = copy.size in let l = small r is in omega (arith, s, l)) in
      word_of U root r (set copy.table r (bit_or root 3)) (root_table ∙ ap (λ o. Some (with_self_entry o root copy.table)) is) (small r is)
      ∙ get_or-set_same copy.table r (bit_or root 3) 0 within

  self_entry : (r : Option ℕ) → recursive ≡ r → SelfEntry U root (window_in U root r)
  unfolding has address
  self_entry None is = tt
  self_entry (Some r) is = record {
    is_word = refl;
    is_present = ap present (self_word r is) ∙ only_flags root 3 1 address_is refl;
    not_huge = ap huge (self_word r is) ∙ only_flags root 3 0x80 address_is refl;
    names_root = ap address (self_word r is) ∙ address_or root 3 refl ∙ address_is;
  }

  pub new_root : IsNewRoot shared one m n layout
  new_root = record {
    places = refl;
    levels = refl;
    there = subst IsSome (sym root_table) refl;
    copied = λ i on. words_are i true on;
    empty = λ i off. words_are i false off;
    self = self_entry recursive refl;
    others = λ k apart. let other : k ≢ place = λ e. apart root refl (sym at ∙ sym e) in written.others k other ∙ copy.stored.others k other;
  }

  pub self_is : (r : ℕ) → recursive ≡ Some r → word (words_of n places) root r ≡ bit_or root 3
  self_is = self_word
