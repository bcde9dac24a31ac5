-- A hierarchy depends on its own tables alone.
use Rattle.std.proofs.Common.{◌≡◌, ℕ, ◌==◌, List, set, [], Some, None, Option, IsSome, option_map, cond, nat_lt, refl, sym, ap, ◌∙◌, subst}
use Rattle.x86_64_model.specs.Memory.{Words, word, word_in, set_word}
use Rattle.x86_64_model.specs.PathMap.{PathMap, table_at}
use Rattle.x86_64_model.specs.Validity.{entry_in, IsValid}
use Rattle.x86_64_model.specs.Window.{Window, IsValidFor, outside_window}

pub valid_elsewhere : (L : ℕ) (T U : Words) (root : ℕ) (M : PathMap) → ((q : List ℕ) (f : ℕ) → table_at L root M q ≡ Some f → U f ≡ T f) → IsValid L T root M → IsValid L U root M
unfolding word
valid_elsewhere L T U root M same valid = record {
  holds = record {
    entries = λ q i. valid.holds.entries q i ∙ read (table_at L root M q) i (same q);
    nothing_above = valid.holds.nothing_above;
    used_alone = valid.holds.used_alone;
    in_memory = λ q f h. subst IsSome (sym (same q f h)) (valid.holds.in_memory q f h);
  };
  own_frames = valid.own_frames;
  not_zero = valid.not_zero;
  none_huge = valid.none_huge;
}
  where
    read : (t : Option ℕ) (i : ℕ) → ((f : ℕ) → t ≡ Some f → U f ≡ T f) → entry_in T t i ≡ entry_in U t i
    read None i h = refl
    read (Some f) i h = ap (λ o. cond (nat_lt i 512) (word_in o i) 0) (sym (h f refl))

pub same_outside : (w : Window) (root : ℕ) (T U : Words) (f : ℕ) → U f ≡ T f → outside_window (Some w) root U f ≡ outside_window (Some w) root T f
unfolding set_word
same_outside w root T U f same = ap (λ o. cond (f == root) (option_map (λ words. set words w.index 0) o) o) same

pub same_word : (T U : Words) (f i : ℕ) → U f ≡ T f → word U f i ≡ word T f i
unfolding word
same_word T U f i same = ap (λ o. cond (nat_lt i 512) (word_in o i) 0) same

-- the same with a recursive index, if there is one
pub valid_for_elsewhere : (L : ℕ) (window : Option Window) (T U : Words) (root : ℕ) (M : PathMap) → ((q : List ℕ) (f : ℕ) → table_at L root M q ≡ Some f → U f ≡ T f)
    → IsValidFor L window T root M → IsValidFor L window U root M
valid_for_elsewhere L None T U root M same valid = record { valid = valid_elsewhere L T U root M same valid.valid; self = tt }
valid_for_elsewhere L (Some w) T U root M same valid = record {
  valid = valid_elsewhere L (outside_window (Some w) root T) (outside_window (Some w) root U) root M (λ q f h. same_outside w root T U f (same q f h)) valid.valid;
  self = record {
    is_word = valid.self.is_word ∙ sym (same_word T U root w.index (same [] root refl));
    is_present = valid.self.is_present;
    not_huge = valid.self.not_huge;
    names_root = valid.self.names_root;
  };
}
