-- The way down to a table stays when the entry of a page in it changes.
use Rattle.std.proofs.Common.{◌≡◌, ◌≢◌, ⊎_elim, ◌<◌, ℕ, false, List, [], ◌∷◌, ◌++◌, length, Ok, sym, ap, ◌∙◌, arith}
use Rattle.std.proofs.lemmas.Bool.{cases_eq}
use Rattle.std.proofs.lemmas.List.{same_from_push}
use Rattle.x86_64_model.specs.Layout.{Layout}
use Rattle.x86_64_model.specs.Hierarchy.{◌laid_in◌, paths, read_entry, words}
use Rattle.x86_64_model.specs.Memory.{Memory, Words, Distinct, word, set_word}
use Rattle.x86_64_model.specs.Path.{parents}
use Rattle.x86_64_model.specs.PathMap.{PathMap, entry, put, table_of}
use Rattle.x86_64_model.specs.Window.{begins_with}
use Rattle.x86_64_model.proofs.Lemmas.Hierarchies.Held.{word-set_same, word-set_index}
use Rattle.x86_64_model.proofs.Lemmas.Lists.All.{all_both}
use Rattle.x86_64_model.proofs.Lemmas.Maps.Arrives.{entry_outside, first_alone}
use Rattle.x86_64_model.proofs.Lemmas.Maps.Trees.{parents_begin, parents_short}
use Rattle.x86_64_model.proofs.Lemmas.Pairs.AlikeEntries.{LikeAt, like_same}
use Rattle.x86_64_model.proofs.Lemmas.Pairs.AlikeRules.{same_stop}
use Rattle.x86_64_model.proofs.Lemmas.Paths.Puts.{append_longer, entry-put_same, entry-put_other}
use Rattle.x86_64_model.proofs.Lemmas.Walks.Walked.{one_more}
use Rattle.x86_64_mappers.specs.private.Stops.{IsFound}
use Rattle.x86_64_mappers.specs.private.Writes.{IsSet}
use Rattle.x86_64_mappers.proofs.Memory.Changed.{set_is, set_keeps}

module _ (l : Layout) (apart : Distinct l.places) (m : Memory) (i : ℕ) (p : List ℕ) (x w g : ℕ) (out : begins_with l.window (i ∷ p) ≡ false) (small : x < 512) (found : IsFound l m (i ∷ p) (Ok g))
    (n : Memory) (set : IsSet l.places m g x w n) (meant : put (paths (l laid_in m)) ((i ∷ p) ++ x ∷ []) w ≡ paths (l laid_in n)) where
  abbrev path : List ℕ
  path = i ∷ p

  abbrev q : List ℕ
  q = i ∷ (p ++ x ∷ [])

  -- what is read at other paths with the first index
  same_read : (r : List ℕ) → i ∷ r ≢ q → read_entry (l laid_in n) (i ∷ r) ≡ read_entry (l laid_in m) (i ∷ r)
  same_read r other =
      let o = first_alone l.window i p r out in
      entry_outside l.window (paths (l laid_in n)) i r o ∙ ap (λ (N : PathMap). entry N (i ∷ r)) (sym meant) ∙ entry-put_other (paths (l laid_in m)) q w (i ∷ r) other ∙ sym (entry_outside l.window (paths (l laid_in m)) i r o)

  own_read : read_entry (l laid_in n) q ≡ w
  own_read = entry_outside l.window (paths (l laid_in n)) i (p ++ x ∷ []) (first_alone l.window i p (p ++ x ∷ []) out)
      ∙ ap (λ (N : PathMap). entry N q) (sym meant) ∙ entry-put_same (paths (l laid_in m)) q w

  words_now : words (l laid_in n) ≡ set_word (words (l laid_in m)) g x w
  words_now = set_is l.places apart m g x w n set

  entries_now : (j : ℕ) → read_entry (l laid_in n) (path ++ j ∷ []) ≡ word (words (l laid_in n)) g j
  entries_now j = ⊎_elim
      (λ e. ap (λ j. read_entry (l laid_in n) (path ++ j ∷ [])) e ∙ own_read
      ∙ sym (ap (word (words (l laid_in n)) g) e ∙ ap (λ (T : Words). word T g x) words_now ∙ word-set_same (words (l laid_in m)) g x w set.table set.is (let long = set.long in omega (arith, small, long)) small))
      (λ other. same_read (p ++ j ∷ []) (λ e. other (same_from_push path path j x e).1) ∙ found.0.entries j
      ∙ sym (ap (λ (T : Words). word T g j) words_now ∙ word-set_index (words (l laid_in m)) g x w g j other))
      (cases_eq j x)

  -- parents keep what is read of them
  at_parent : (last : ℕ) (r : List ℕ) → (s : List ℕ) × (r ≡ i ∷ s) → (0 < length r) × (length r < length (path ++ last ∷ [])) → LikeAt (read_entry (l laid_in m) r) (read_entry (l laid_in n) r)
  at_parent last r (s, is) short = like_same (read_entry (l laid_in m) r) (read_entry (l laid_in n) r)
      (ap (read_entry (l laid_in n)) is
      ∙ same_read s (λ e. absurd (let a : length r ≡ length (path ++ x ∷ []) = ap length (is ∙ e) in let b = one_more path x in let c = one_more path last in let d = short.1 in omega (arith, a, b, c, d)))
      ∙ sym (ap (read_entry (l laid_in m)) is))

  pub found_on : IsFound l n path (Ok g)
  found_on = (
    record {
      table = ap (table_of l.levels path) (same_read p (λ e. append_longer path x [] (sym e))) ∙ found.0.table;
      there = set_keeps l.places apart m g x w n set g found.0.there;
      entries = entries_now;
    },
    λ last. same_stop (read_entry (l laid_in m)) (read_entry (l laid_in n)) (path ++ last ∷ [])
        (all_both (λ r. (s : List ℕ) × (r ≡ i ∷ s)) (λ r. (0 < length r) × (length r < length (path ++ last ∷ []))) (λ r. LikeAt (read_entry (l laid_in m) r) (read_entry (l laid_in n) r)) (at_parent last)
        (parents (path ++ last ∷ [])) (parents_begin i (p ++ last ∷ [])) (parents_short (path ++ last ∷ [])))
        ∙ found.1 last,
  )
