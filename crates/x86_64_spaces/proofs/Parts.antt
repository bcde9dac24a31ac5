-- The steps of the loop that marks the tables below some indices of a root.
use Rattle.std.proofs.Common.{◌≡◌, ◌<◌, ◌≤◌, ◌+◌, ◌-◌, ℕ, suc, Bool, true, false, cond, List, [], ◌∷◌, ◌++◌, Some, None, Option, option_and_then, refl, sym, ap, ◌∙◌, arith}
use Rattle.std.specs.List.{flat_map, range_with_len}
use Rattle.x86_64_model.specs.Entry.{address, names_table}
use Rattle.x86_64_model.specs.Memory.{Words, word}
use Rattle.x86_64_model.specs.Path.{indices}
use Rattle.x86_64_model.specs.private.Marks.{mark_one, mark_all}
use Rattle.x86_64_model.specs.private.Tables.{tables_from}
use Rattle.x86_64_model.proofs.Lemmas.Tables.Marked.{mark_all-append}
use Rattle.x86_64_spaces.specs.private.SpaceTables.{part, parts_where}

module _ (test : ℕ → Bool) (n : ℕ) (T : Words) (f : ℕ) where
  -- the tables from an index on
  abbrev pub rest : (i : ℕ) → List ℕ
  rest i = flat_map (λ i. cond (test i) (part n T f i) []) (range_with_len i (512 - i))

  pub rest_all : parts_where test n T f ≡ rest 0
  unfolding indices
  rest_all = refl

  rest_more : (i : ℕ) → i < 512 → rest i ≡ cond (test i) (part n T f i) [] ++ rest (i + 1)
  rest_more i h =
      let e : 512 - i ≡ suc (512 - (i + 1)) = omega arith in
      ap (λ k. flat_map (λ i. cond (test i) (part n T f i) []) (range_with_len i k)) e

  module _ (slot : ℕ → Option ℕ) where
    abbrev Marks : Type 0
    Marks = List Bool

    pub rest_named : (i : ℕ) (m : Marks) (o : Option Marks) (w a : ℕ) → i < 512 → test i ≡ true → w ≡ word T f i → names_table w ≡ true → a ≡ address w
        → o ≡ mark_all slot m (tables_from n T a) → mark_all slot m (rest i) ≡ option_and_then (λ m. mark_all slot m (rest (i + 1))) o
    rest_named i m o w a h asked is named at e =
        ap (mark_all slot m) (rest_more i h
        ∙ ap (λ b. cond b (part n T f i) [] ++ rest (i + 1)) asked
        ∙ ap (λ w. cond (names_table w) (tables_from n T (address w)) [] ++ rest (i + 1)) (sym is)
        ∙ ap (λ b. cond b (tables_from n T (address w)) [] ++ rest (i + 1)) named
        ∙ ap (λ a. tables_from n T a ++ rest (i + 1)) (sym at))
        ∙ mark_all-append slot m (tables_from n T a) (rest (i + 1))
        ∙ ap (option_and_then (λ m. mark_all slot m (rest (i + 1)))) (sym e)

    pub rest_other : (i : ℕ) (m : Marks) (w : ℕ) → i < 512 → test i ≡ true → w ≡ word T f i → names_table w ≡ false → mark_all slot m (rest i) ≡ mark_all slot m (rest (i + 1))
    rest_other i m w h asked is other = ap (mark_all slot m) (rest_more i h
        ∙ ap (λ b. cond b (part n T f i) [] ++ rest (i + 1)) asked
        ∙ ap (λ w. cond (names_table w) (tables_from n T (address w)) [] ++ rest (i + 1)) (sym is)
        ∙ ap (λ b. cond b (tables_from n T (address w)) [] ++ rest (i + 1)) other)

    pub rest_passed : (i : ℕ) (m : Marks) → i < 512 → test i ≡ false → mark_all slot m (rest i) ≡ mark_all slot m (rest (i + 1))
    rest_passed i m h passed = ap (mark_all slot m) (rest_more i h ∙ ap (λ b. cond b (part n T f i) [] ++ rest (i + 1)) passed)

    pub rest_done : (i : ℕ) (m : Marks) → 512 ≤ i → mark_all slot m (rest i) ≡ Some m
    unfolding mark_all
    rest_done i m h = let e : 512 - i ≡ 0 = omega arith in ap (λ k. mark_all slot m (flat_map (λ i. cond (test i) (part n T f i) []) (range_with_len i k))) e

-- ---- a root and its own tables

pub root_refused : (slot : ℕ → Option ℕ) (m : List Bool) (f : ℕ) (fs : List ℕ) → None ≡ mark_one slot m f → None ≡ mark_all slot m (f ∷ fs)
unfolding mark_all
root_refused slot m f fs e = ap (option_and_then (λ m. mark_all slot m fs)) e

pub after_root : (slot : ℕ → Option ℕ) (m n : List Bool) (f : ℕ) (fs : List ℕ) → Some n ≡ mark_one slot m f → mark_all slot n fs ≡ mark_all slot m (f ∷ fs)
unfolding mark_all
after_root slot m n f fs e = ap (option_and_then (λ m. mark_all slot m fs)) e
