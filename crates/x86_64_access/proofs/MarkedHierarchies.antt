-- Marks keep a hierarchy valid, and a pool that fits it.
use Rattle.std.proofs.Common.{zero, suc, inl, inr, ◌⊎◌, ◌≡◌, ◌≢◌, ◌<◌, ℕ, ◌&&◌, Bool, true, false, not, cond, nat_lt, Some, None, Option, List, [], ◌∷◌, length, refl, sym, ap, ap₂, subst, subst₂, ◌∙◌}
use Rattle.std.proofs.lemmas.Bool.{cases_eq}
use Rattle.x86_64_model.proofs.Lemmas.Entries.Bits.{used_present}
use Rattle.x86_64_model.proofs.Lemmas.Hierarchies.Exists.{entry_paths_of, holds_paths_of}
use Rattle.x86_64_model.proofs.Lemmas.Hierarchies.Held.{is_some-set, word-set_frame, word-set_index}
use Rattle.x86_64_model.proofs.Lemmas.Hierarchies.Unset.{is_some-unset, word_unset}
use Rattle.x86_64_model.specs.Entry.{present, huge, used, address, names_table}
use Rattle.x86_64_model.specs.Validity.{IsValid, paths_of, read_at}
use Rattle.x86_64_model.specs.Memory.{Words, set_word, word}
use Rattle.x86_64_model.specs.PathMap.{PathMap, entry, table_at, table_of}
use Rattle.x86_64_model.specs.Window.{SelfEntry, Window, outside_window}
use Rattle.x86_64_access.specs.Marks.{GetsMarks, OnlyMarks, FitsStay, window_now}
use Rattle.x86_64_access.proofs.Marks.{same_address, same_has}

-- ---- entries

pub same_used : (e g : ℕ) → GetsMarks e g → used g ≡ used e
same_used e g (inl same) = ap used same
same_used e g (inr (here, bits, marks, is)) =
    used_present g (same_has e g 0x1 (inr (here, bits, marks, is)) refl ∙ here) ∙ sym (used_present e here)

same_names : (e g : ℕ) → GetsMarks e g → names_table g ≡ names_table e
same_names e g gets = ap₂ (λ u h. u && not h) (same_used e g gets) (same_has e g 0x80 gets refl)

pub same_table_of : (L : ℕ) (q : List ℕ) (e g : ℕ) → GetsMarks e g → table_of L q g ≡ table_of L q e
unfolding table_of
same_table_of L q e g gets = ap₂ (λ b x. cond (b && nat_lt (length q) L) (Some x) None) (same_names e g gets) (same_address e g gets)

-- one of two words, or 0
pick : (b c : Bool) (x y : ℕ) → c ≡ b → GetsMarks x y → GetsMarks (cond b x 0) (cond c y 0)
pick b c x y same gets = subst (λ d. GetsMarks (cond b x 0) (cond d y 0)) (sym same) (by b)
  where
    by : (b : Bool) → GetsMarks (cond b x 0) (cond b y 0)
    by true = gets
    by false = inl refl

-- ---- path maps

module _ (T U : Words) (only : OnlyMarks T U) where
  read_marked : (n f : ℕ) (q : List ℕ) → GetsMarks (read_at n T f q) (read_at n U f q)
  read_marked zero f q = inl refl
  read_marked (suc n) f [] = inl refl
  read_marked (suc n) f (i ∷ []) = only.words f i
  read_marked (suc n) f (i ∷ j ∷ q) =
      let gets = only.words f i in
      pick (names_table (word T f i)) (names_table (word U f i)) _ _ (same_names (word T f i) (word U f i) gets)
      (subst (λ a. GetsMarks (read_at n T (address (word T f i)) (j ∷ q)) (read_at n U a (j ∷ q))) (sym (same_address (word T f i) (word U f i) gets))
      (read_marked n (address (word T f i)) (j ∷ q)))

  module _ (L root : ℕ) (levels : 0 < L) where
    abbrev M : PathMap
    M = paths_of L T root

    abbrev N : PathMap
    N = paths_of L U root

    pub entries_marked : (q : List ℕ) → GetsMarks (entry M q) (entry N q)
    entries_marked q = subst₂ GetsMarks (sym (entry_paths_of L T root q)) (sym (entry_paths_of L U root q)) (read_marked L root q)

    same_table : (q : List ℕ) → table_at L root N q ≡ table_at L root M q
    same_table [] = refl
    same_table (i ∷ q) = same_table_of L (i ∷ q) (entry M (i ∷ q)) (entry N (i ∷ q)) (entries_marked (i ∷ q))

    -- what N leads to, M leads to
    pub led : (q : List ℕ) (f : ℕ) → table_at L root N q ≡ Some f → table_at L root M q ≡ Some f
    led q f t = sym (same_table q) ∙ t

    pub valid_still : IsValid L T root M → IsValid L U root N
    valid_still valid = record {
      holds = holds_paths_of L U root levels (λ q f t. (only.there f).1 (valid.holds.in_memory q f (led q f t)));
      own_frames = λ p q f s t. valid.own_frames p q f (led p f s) (led q f t);
      not_zero = λ i q t. valid.not_zero i q (led (i ∷ q) 0 t);
      none_huge = λ q high. same_has (entry M q) (entry N q) 0x80 (entries_marked q) refl ∙ valid.none_huge q high;
    }

-- ---- the recursive index

pub outside_marked : (window : Option Window) (root : ℕ) (T U : Words) → OnlyMarks T U
    → OnlyMarks (outside_window window root T) (outside_window (window_now U root window) root U)
outside_marked None root T U only = only
outside_marked (Some w) root T U only = record {
  there = λ g. (
    λ h. is_some-set T root w.index 0 g ((only.there g).0 (is_some-unset U root w.index 0 g h)),
    λ h. is_some-set U root w.index 0 g ((only.there g).1 (is_some-unset T root w.index 0 g h)),
  );
  words = λ g j. at g j (cases_eq g root) (cases_eq j w.index);
}
  where
    i : ℕ
    i = w.index

    at : (g j : ℕ) → (g ≡ root) ⊎ (g ≢ root) → (j ≡ w.index) ⊎ (j ≢ w.index) → GetsMarks (word (set_word T root w.index 0) g j) (word (set_word U root w.index 0) g j)
    at g j (inr other) _ = subst₂ GetsMarks (sym (word-set_frame T root w.index 0 g j other)) (sym (word-set_frame U root w.index 0 g j other)) (only.words g j)
    at g j (inl same) (inr other) = subst₂ GetsMarks (sym (word-set_index T root w.index 0 g j other)) (sym (word-set_index U root w.index 0 g j other)) (only.words g j)
    at g j (inl one) (inl two) = subst₂ (λ x y. GetsMarks (word (set_word T root w.index 0) x y) (word (set_word U root w.index 0) x y)) (sym one) (sym two)
        (inl (word_unset U root w.index ∙ sym (word_unset T root w.index)))

pub self_still : (window : Option Window) (root : ℕ) (T U : Words) → OnlyMarks T U → SelfEntry T root window → SelfEntry U root (window_now U root window)
self_still None root T U only self = tt
self_still (Some w) root T U only self =
    let gets : GetsMarks (word T root w.index) (word U root w.index) = only.words root w.index in
    record {
      is_word = refl;
      is_present = same_has _ _ 0x1 gets refl ∙ ap present (sym self.is_word) ∙ self.is_present;
      not_huge = same_has _ _ 0x80 gets refl ∙ ap huge (sym self.is_word) ∙ self.not_huge;
      names_root = same_address _ _ gets ∙ ap address (sym self.is_word) ∙ self.names_root;
    }

pub fits_stay : FitsStay
fits_stay L levels window T U root serves pool only fits =
    let outside = outside_marked window root T U only in
    let T' = outside_window window root T in
    let U' = outside_window (window_now U root window) root U in (
      record {
        valid = record { valid = valid_still T' U' outside L root levels fits.valid.valid; self = self_still window root T U only fits.valid.self };
        each_once = fits.each_once;
        in_memory = λ f member. (only.there f).1 (fits.in_memory f member);
        are_frames = fits.are_frames;
        not_zero = fits.not_zero;
        no_table = λ f member (q, t). fits.no_table f member (q, led T' U' outside L root levels q f t);
        serves_pool = fits.serves_pool;
        serves_tables = λ i q f t. fits.serves_tables i q f (led T' U' outside L root levels (i ∷ q) f t);
      },
      entries_marked T' U' outside L root levels,
    )
