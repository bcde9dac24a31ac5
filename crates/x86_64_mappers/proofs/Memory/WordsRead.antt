-- The words that the path map sees: all but the root's word at the recursive index, if there is one.
use Rattle.std.proofs.Common.{◌≡◌, ⊎_elim, ℕ, ◌==◌, Bool, true, false, cond, List, length, set, Option, Some, None, IsSome, option_map, refl, sym, ap, ◌∙◌}
use Rattle.std.proofs.lemmas.Bool.{cases_eq}
use Rattle.std.proofs.lemmas.List.{length-set}
use Rattle.x86_64_model.specs.Layout.{Layout}
use Rattle.x86_64_model.specs.Hierarchy.{◌laid_in◌, words}
use Rattle.x86_64_model.proofs.Lemmas.Hierarchies.Held.{word-set_frame, word-set_index, is_some-set}
use Rattle.x86_64_model.specs.Memory.{Memory, Words, word, set_word}
use Rattle.x86_64_model.specs.Window.{Window, outside_window, SelfEntry}
use Rattle.x86_64_mappers.specs.private.Linked.{Beside}

abbrev pub words_read : Layout → Memory → Words
words_read l m = outside_window l.window l.root (words (l laid_in m))

pub read_word : (window : Option Window) (root : ℕ) (T : Words) (f i : ℕ) → Beside window root f i → word (outside_window window root T) f i ≡ word T f i
read_word None root T f i b = refl
read_word (Some v) root T f i b = ⊎_elim (λ e. word-set_index T root v.index 0 f i (b v refl e)) (λ n. word-set_frame T root v.index 0 f i n) (cases_eq f root)

-- a table, with its length
pub record TableRead (window : Option Window) (root : ℕ) (T : Words) (f n : ℕ) : Type 0 where
  pub table : List ℕ
  pub is : outside_window window root T f ≡ Some table
  pub long : length table ≡ n

pub read_table : (window : Option Window) (root : ℕ) (T : Words) (f : ℕ) (t : List ℕ) → T f ≡ Some t → TableRead window root T f (length t)
unfolding set_word
read_table None root T f t e = record { table = t; is = e; long = refl }
read_table (Some v) root T f t e = by (f == root) refl
  where
    by : (b : Bool) → (f == root) ≡ b → TableRead (Some v) root T f (length t)
    by true h = record {
      table = set t v.index 0;
      is = ap (λ b. cond b (option_map (λ words. set words v.index 0) (T f)) (T f)) h ∙ ap (option_map (λ words. set words v.index 0)) e;
      long = length-set t v.index 0;
    }
    by false h = record { table = t; is = ap (λ b. cond b (option_map (λ words. set words v.index 0) (T f)) (T f)) h ∙ e; long = refl }

pub read_some : (window : Option Window) (root : ℕ) (T : Words) (f : ℕ) → IsSome (T f) → IsSome (outside_window window root T f)
read_some None root T f h = h
read_some (Some v) root T f h = is_some-set T root v.index 0 f h

-- a frame that is seen is in the memory
pub there_read : (window : Option Window) (root : ℕ) (T : Words) (f : ℕ) → IsSome (outside_window window root T f) → IsSome (T f)
unfolding set_word
there_read None root T f h = h
there_read (Some v) root T f h = by (f == root) (T f) h
  where
    by : (b : Bool) (o : Option (List ℕ)) → IsSome (cond b (option_map (λ words. set words v.index 0) o) o) → IsSome o
    by true None h = h
    by true (Some words) h = refl
    by false o h = h

-- a frame's words alone decide what is seen of it
pub read_same : (window : Option Window) (root : ℕ) (T U : Words) (f : ℕ) → U f ≡ T f → outside_window window root U f ≡ outside_window window root T f
unfolding set_word
read_same None root T U f e = e
read_same (Some v) root T U f e = ap (λ o. cond (f == root) (option_map (λ words. set words v.index 0) o) o) e

-- the self-entry stays
pub self_kept : (window : Option Window) (root : ℕ) (T U : Words) → ((v : Window) → window ≡ Some v → word U root v.index ≡ word T root v.index) → SelfEntry T root window → SelfEntry U root window
self_kept None root T U same h = tt
self_kept (Some v) root T U same h = record { is_word = h.is_word ∙ sym (same v refl); is_present = h.is_present; not_huge = h.not_huge; names_root = h.names_root }

pub self-set_word : (window : Option Window) (root : ℕ) (T : Words) (f i w : ℕ) → Beside window root f i → SelfEntry T root window → SelfEntry (set_word T f i w) root window
self-set_word window root T f i w b = self_kept window root T (set_word T f i w) (λ v e.
    ⊎_elim (λ h. word-set_index T f i w root v.index (λ k. b v e (sym h) (sym k))) (λ n. word-set_frame T f i w root v.index n) (cases_eq root f))
