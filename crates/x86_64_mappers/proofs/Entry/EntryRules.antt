-- Calls on one entry. Each is proved in three steps: find the entry's table, compute the entry's new word, write it.
use Rattle.std.proofs.Common.{◌≡◌, ◌<◌, ◌+◌, ℕ, false, List, [], ◌∷◌, ◌++◌, length, take, get_or, Option, Some, None, Result, Ok, Err, refl, sym, ap, ◌∙◌, subst}
use Rattle.x86_64_model.specs.Layout.{Layout}
use Rattle.x86_64_model.specs.Hierarchy.{◌laid_in◌, Valid, paths, read_entry, words}
use Rattle.x86_64_model.proofs.Lemmas.Machines.Changes.{IsChange}
use Rattle.x86_64_model.proofs.Lemmas.Maps.Arrives.{first_alone, entry_outside}
use Rattle.x86_64_model.specs.private.MapperCalls.{IsChanged}
use Rattle.x86_64_model.specs.Memory.{Memory, Distinct, word}
use Rattle.x86_64_model.specs.PageRules.{AfterChange, refused_or}
use Rattle.x86_64_model.specs.PathMap.{PathMap, put, table_of, table_at}
use Rattle.x86_64_model.specs.Refusal.{Refusal, Answer, Done, Refused, first_stop}
use Rattle.x86_64_model.specs.Window.{begins_with}
use Rattle.x86_64_mappers.specs.private.Stops.{table_read, IsFound}
use Rattle.x86_64_mappers.specs.private.Writes.{IsSet}
use Rattle.x86_64_mappers.specs.private.EntryCalls.{word_said, answer_said}
use Rattle.x86_64_mappers.proofs.Memory.Changed.{set_same}
use Rattle.x86_64_mappers.proofs.Memory.EntryChanges.{entry_changed}
use Rattle.x86_64_mappers.proofs.Way.Pages.{path_parted}

-- a claim that need only hold if the answer is a refusal
abbrev pub IfRefused : Answer → Type 0 → Type 0
IfRefused (Done frame) P = Unit {0}
IfRefused (Refused why) P = P

-- the answer and the path map are those of a call's rule, and the memory is as it must be
pub record Ends (l : Layout) (m : Memory) (after : AfterChange) (answer : Answer) (n : Memory) : Type 0 where
  pub answers : after.answer ≡ answer
  pub changed : IsChanged l m after n
  pub unchanged : IfRefused answer (n ≡ m)

-- the rule of a call whose entry says its new word and the frame in the answer, or why the call is refused
abbrev pub after_entry : PathMap → List ℕ → (says : Result (ℕ × ℕ) Refusal) → AfterChange
after_entry M q (Ok done) = record { paths = put M q done.0; answer = Done done.1 }
after_entry M q (Err why) = record { paths = M; answer = Refused why }

-- a refusal changes nothing
pub unchanged_ends : (l : Layout) (m : Memory) → Valid (l laid_in m) → (after : AfterChange) (why : Refusal) → after ≡ record { paths = paths (l laid_in m); answer = Refused why } → Ends l m after (Refused why) m
unchanged_ends l m valid after why is = record {
  answers = ap (λ (a : AfterChange). a.answer) is;
  changed = record { meant = ap (λ (a : AfterChange). a.paths) is; valid = valid; ready = λ s r. r; others = λ k none. refl };
  unchanged = refl;
}

-- A call with this rule on the entry at a path of n + 1 indices. Nothing changes if a parent stops it or the entry refuses it.
module _ (l : Layout) (m : Memory) (valid : Valid (l laid_in m)) (q : List ℕ) (n : ℕ) (long : length q ≡ n + 1) (says : ℕ → Result (ℕ × ℕ) Refusal) (after : AfterChange)
    (rule : after ≡ refused_or (paths (l laid_in m)) (first_stop (read_entry (l laid_in m)) q) (after_entry (paths (l laid_in m)) q (says (read_entry (l laid_in m) q)))) where
  abbrev M : PathMap
  M = paths (l laid_in m)

  abbrev path : List ℕ
  path = take n q

  abbrev last : ℕ
  last = get_or q n 0

  parted : path ++ last ∷ [] ≡ q
  parted = path_parted q n long

  stop_is : (stop : Option Refusal) → first_stop (read_entry (l laid_in m)) (path ++ last ∷ []) ≡ stop → after ≡ refused_or M stop (after_entry M q (says (read_entry (l laid_in m) q)))
  stop_is stop is = rule ∙ ap (λ s. refused_or M s (after_entry M q (says (read_entry (l laid_in m) q)))) (ap (first_stop (read_entry (l laid_in m))) (sym parted) ∙ is)

  -- a parent stops it
  pub stopped : (why : Refusal) → IsFound l m path (Err why) → Ends l m after (Refused why) m
  stopped why found = unchanged_ends l m valid after why (stop_is (Some why) (found last))

  module _ (g : ℕ) (found : IsFound l m path (Ok g)) where
    -- the entry is the word in the table
    pub word_is : read_entry (l laid_in m) q ≡ word (words (l laid_in m)) g last
    word_is = ap (read_entry (l laid_in m)) (sym parted) ∙ found.0.entries last

    said : (r : Result (ℕ × ℕ) Refusal) → says (word (words (l laid_in m)) g last) ≡ r → after ≡ after_entry M q r
    said r is = stop_is None (found.1 last) ∙ ap (λ e. after_entry M q (says e)) word_is ∙ ap (after_entry M q) is

    -- the entry refuses it
    pub refused : (why : Refusal) → says (word (words (l laid_in m)) g last) ≡ Err why → Ends l m after (Refused why) m
    refused why is = unchanged_ends l m valid after why (said (Err why) is)

    -- its word was set
    pub changed : Distinct l.places → 0 < l.levels → (w frame : ℕ) → says (word (words (l laid_in m)) g last) ≡ Ok (w, frame) → IsChange l.levels l.window M q w
        → (o : Memory) → IsSet l.places m g last w o → Ends l m after (Done frame) o
    changed apart at_least_four w frame is change o set =
        let after_is = said (Ok (w, frame)) is in
        let done = entry_changed l apart at_least_four m valid path last w (subst (λ q. IsChange l.levels l.window M q w) (sym parted) change) g (same_table path last (ap (begins_with l.window) parted ∙ change.outside) found.0.table) o set in record {
          answers = ap (λ (a : AfterChange). a.answer) after_is;
          changed = record { meant = ap (λ (a : AfterChange). a.paths) after_is ∙ ap (λ q. put M q w) (sym parted) ∙ done.meant; valid = done.valid; ready = done.ready; others = done.others };
          unchanged = tt;
        }
      where
        -- if the path isn't in the window, it leads to the same table in the path map
        same_table : (path : List ℕ) (last : ℕ) → begins_with l.window (path ++ last ∷ []) ≡ false → table_read l.levels l.root (read_entry (l laid_in m)) path ≡ Some g → table_at l.levels l.root M path ≡ Some g
        same_table [] z out is = is
        same_table (i ∷ p) z out is = ap (table_of l.levels (i ∷ p)) (sym (entry_outside l.window M i p (first_alone l.window i (p ++ z ∷ []) p out))) ∙ is

    -- the memory and the answer are those that the entry's word decides
    pub ended : Distinct l.places → 0 < l.levels → last < 512 → ((w frame : ℕ) → says (read_entry (l laid_in m) q) ≡ Ok (w, frame) → IsChange l.levels l.window M q w)
        → (o : Memory) → let e = word (words (l laid_in m)) g last in IsSet l.places m g last (word_said e (says e)) o → Ends l m after (answer_said (says e)) o
    ended apart at_least_four small change o set = by (says e) refl set
      where
        e : ℕ
        e = word (words (l laid_in m)) g last

        by : (r : Result (ℕ × ℕ) Refusal) → says e ≡ r → IsSet l.places m g last (word_said e r) o → Ends l m after (answer_said r) o
        by (Ok done) is set = changed apart at_least_four done.0 done.1 is (change done.0 done.1 (ap says word_is ∙ is)) o set
        by (Err why) is set = subst (Ends l m after (Refused why)) (sym (set_same l.places apart m g last o small set)) (refused why is)
