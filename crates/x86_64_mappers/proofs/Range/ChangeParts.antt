-- The pages of a run of changes in one table: the run goes on by them, one after another.
use Rattle.std.proofs.Common.{zero, suc, ◌≡◌, ◌⊎◌, ◌<◌, ◌≤◌, ◌+◌, ◌-◌, ◌*◌, ℕ, true, false, List, [], ◌∷◌, ◌++◌, length, take, get_or, map, replicate, Some, Result, Ok, Err, inl, inr, refl, sym, ap, ◌∙◌, subst, subst₂, arith, append-nil, append_assoc}
use Rattle.std.proofs.Math.Nat.{add-mul}
use Rattle.std.proofs.lemmas.List.{same_from_push}
use Rattle.std.proofs.lemmas.List.FromFn.{map-range_with_len_more}
use Rattle.std.specs.FinMap.{insert}
use Rattle.std.specs.List.{range_with_len}
use Rattle.x86_64_model.specs.Allowed.{allowed}
use Rattle.x86_64_model.specs.Call.{Call, Reply, Answered}
use Rattle.x86_64_model.specs.Layout.{Layout}
use Rattle.x86_64_model.specs.Hierarchy.{◌laid_in◌, Valid, paths, read_entry, words}
use Rattle.x86_64_model.specs.Memory.{Memory, Distinct, word, words_of}
use Rattle.x86_64_model.specs.PageRules.{AfterChange, refused_or}
use Rattle.x86_64_model.specs.Path.{path_at}
use Rattle.x86_64_model.specs.PathMap.{PathMap, table_of, table_at}
use Rattle.x86_64_model.specs.Position.{span}
use Rattle.x86_64_model.specs.Refusal.{Refusal, Answer, Refused, first_stop}
use Rattle.x86_64_model.specs.Window.{begins_with}
use Rattle.x86_64_model.proofs.Lemmas.Hierarchies.Held.{table_at_last}
use Rattle.x86_64_model.proofs.Lemmas.Machines.Changes.{IsChange}
use Rattle.x86_64_model.proofs.Lemmas.Maps.Arrives.{entry_outside, first_alone}
use Rattle.x86_64_model.proofs.Lemmas.Paths.Pages.{length_taken}
use Rattle.x86_64_model.proofs.Lemmas.Walks.Walked.{one_more}
use Rattle.x86_64_mappers.specs.private.EntryCalls.{word_said, answer_said}
use Rattle.x86_64_mappers.specs.private.RangeChangeSteps.{AreChanged, AreRefused, AreStoppedIn, IsChangeRun, IsPartChanged, last_index, replies_said, table_path, with_results}
use Rattle.x86_64_mappers.specs.private.Stops.{IsFound}
use Rattle.x86_64_mappers.specs.private.Writes.{IsSet}
use Rattle.x86_64_mappers.proofs.Entry.EntryRules.{Ends, after_entry, ended, stopped}
use Rattle.x86_64_mappers.proofs.Memory.Changed.{set_same}
use Rattle.x86_64_mappers.proofs.Memory.EntryChanges.{entry_changed}
use Rattle.x86_64_mappers.proofs.Memory.Written.{same_tables_last}
use Rattle.x86_64_mappers.proofs.Range.ChangedWords.{after_words, no_word, replies_more, word_set, word_next}
use Rattle.x86_64_mappers.proofs.Range.ChangeRuns.{HasRule, change_more}
use Rattle.x86_64_mappers.proofs.Range.FoundWays.{found_on}
use Rattle.x86_64_mappers.proofs.Range.RunPaths.{path_after}
use Rattle.x86_64_mappers.proofs.Way.Pages.{path_parted}

-- a call on the entry of a page of a level, by what the entry says
pub record IsEntryCall (l : Layout) (level : ℕ) (says : ℕ → Result (ℕ × ℕ) Refusal) (call : ℕ → Call) (after : Memory → List ℕ → AfterChange) : Type 0 where
  pub rule : (m : Memory) (q : List ℕ) → length q + level ≡ l.levels + 1 → after m q ≡ refused_or (paths (l laid_in m)) (first_stop (read_entry (l laid_in m)) q) (after_entry (paths (l laid_in m)) q (says (read_entry (l laid_in m) q)))
  pub does : (m : Memory) (page : ℕ) → HasRule l m (call page) (after m (path_at l.levels level page))
  pub change : (m : Memory) (q : List ℕ) → length q + level ≡ l.levels + 1 → begins_with l.window q ≡ false → 0 < length q → (w frame : ℕ) → says (read_entry (l laid_in m) q) ≡ Ok (w, frame) → IsChange l.levels l.window (paths (l laid_in m)) q w
  pub outside : (m : Memory) (page : ℕ) → allowed l.levels l.window (paths (l laid_in m)) (call page) ≡ true → begins_with l.window (path_at l.levels level page) ≡ false
  pub still : (m n : Memory) (page : ℕ) → allowed l.levels l.window (paths (l laid_in m)) (call page) ≡ true → allowed l.levels l.window (paths (l laid_in n)) (call page) ≡ true

-- what a change of an entry leaves of the way down to it
pub record StaysFound (l : Layout) (m : Memory) (parents : List ℕ) (g : ℕ) (n : Memory) : Type 0 where
  pub found : IsFound l n parents (Ok g)
  pub tables : (q : List ℕ) → table_at l.levels l.root (paths (l laid_in n)) q ≡ table_at l.levels l.root (paths (l laid_in m)) q

module _ (l : Layout) (apart : Distinct l.places) (some : 0 < l.levels) (m : Memory) (valid : Valid (l laid_in m)) (x g : ℕ) (small : x < 512) (n : Memory) where
  -- it was written
  wrote : (parents : List ℕ) → 0 < length parents → IsFound l m parents (Ok g) → (w : ℕ) → IsChange l.levels l.window (paths (l laid_in m)) (parents ++ x ∷ []) w → IsSet l.places m g x w n → StaysFound l m parents g n
  wrote [] above found w change set = absurd (omega (arith, above))
  wrote (i ∷ p) above found w change set =
      let out = first_alone l.window i (p ++ x ∷ []) p change.outside in
      let leads : table_at l.levels l.root (paths (l laid_in m)) (i ∷ p) ≡ Some g = ap (table_of l.levels (i ∷ p)) (sym (entry_outside l.window (paths (l laid_in m)) i p out)) ∙ found.0.table in
      let done = entry_changed l apart some m valid (i ∷ p) x w change g leads n set in record {
        found = found_on l apart m i p x w g out small found n set done.meant;
        tables = λ q. ap (λ (N : PathMap). table_at l.levels l.root N q) (sym done.meant)
            ∙ same_tables_last l.levels l.root (paths (l laid_in m)) (i ∷ p) x w (change.same_table ∙ sym (table_at_last l.levels l.root (paths (l laid_in m)) (i ∷ p) x)) q;
      }

  -- it was written if it says so
  pub stays_found : (parents : List ℕ) → 0 < length parents → IsFound l m parents (Ok g) → (says : ℕ → Result (ℕ × ℕ) Refusal) (e : ℕ) → word (words (l laid_in m)) g x ≡ e
      → ((w frame : ℕ) → says e ≡ Ok (w, frame) → IsChange l.levels l.window (paths (l laid_in m)) (parents ++ x ∷ []) w) → IsSet l.places m g x (word_said e (says e)) n → StaysFound l m parents g n
  stays_found parents above found says e at change set = by (says e) refl set
    where
      by : (r : Result (ℕ × ℕ) Refusal) → says e ≡ r → IsSet l.places m g x (word_said e r) n → StaysFound l m parents g n
      by (Ok done) is set = wrote parents above found done.0 (change done.0 done.1 is) set
      by (Err why) is set =
          let same = set_same l.places apart m g x n small (subst (λ w. IsSet l.places m g x w n) (sym at) set) in
          record { found = subst (λ n. IsFound l n parents (Ok g)) (sym same) found; tables = λ q. ap (λ n. table_at l.levels l.root (paths (l laid_in n)) q) same }

-- ---- a run

-- the calls on the first pages of a run
abbrev pub calls_of : (level page : ℕ) (call : ℕ → Call) (count : ℕ) → List Call
calls_of level page call count = map (λ k. call (page + k * span level)) (range_with_len 0 count)

module _ (l : Layout) (apart : Distinct l.places) (level : ℕ) (low : 1 ≤ level) (high : level ≤ 3) (levels : 3 < l.levels) (says : ℕ → Result (ℕ × ℕ) Refusal) (call : ℕ → Call) (after : Memory → List ℕ → AfterChange)
    (rules : IsEntryCall l level says call after) (m : Memory) (page total : ℕ) (may : (k : ℕ) → k < total → allowed l.levels l.window (paths (l laid_in m)) (call (page + k * span level)) ≡ true)
    (done : ℕ) (now : Memory) (answers : List Reply) (run : IsChangeRun l m (calls_of level page call done) answers now) where
  abbrev L : ℕ
  L = l.levels

  abbrev q : List ℕ
  q = path_at l.levels level (page + done * span level)

  abbrev parents : List ℕ
  parents = take (length q - 1) q

  abbrev i : ℕ
  i = get_or q (length q - 1) 0

  abbrev place : ℕ → ℕ
  place k = page + k * span level

  abbrev path : ℕ → List ℕ
  path k = path_at l.levels level (place k)

  some : 0 < L
  some = omega (arith, levels)

  later_page : (k : ℕ) → page + (done + k) * span level ≡ page + done * span level + k * span level
  later_page k = let e = add-mul done k (span level) in omega (arith, e)

  later_path : (k : ℕ) → i + k < 512 → path (done + k) ≡ parents ++ (i + k) ∷ []
  later_path k small = ap (path_at L level) (later_page k)
      ∙ path_after L level (page + done * span level) low (omega (arith, high, levels)) k small

  long : (k : ℕ) → length (path (done + k)) + level ≡ L + 1
  long k = let size = length_taken (page + (done + k) * span level) (L + 1 - level) L (omega (arith, low)) in omega (arith, size, high, levels)

  calls_more : (k : ℕ) → calls_of level page call (k + 1) ≡ calls_of level page call k ++ call (place k) ∷ []
  calls_more k = map-range_with_len_more (λ k. call (place k)) 0 k k (let e : 0 + k ≡ k = omega arith in e)

  -- one call more, at a page of this table
  module _ (k : ℕ) (small : i + k < 512) (inside : done + k < total) (from : Memory) (told : List Reply) (so_far : IsChangeRun l m (calls_of level page call (done + k)) told from) where
    abbrev p : List ℕ
    p = parents ++ (i + k) ∷ []

    at_page : (P : List ℕ → Type 0) → P (path (done + k)) → P p
    at_page P h = subst P (later_path k small) h

    allowed_now : allowed L l.window (paths (l laid_in from)) (call (place (done + k))) ≡ true
    allowed_now = rules.still m from (place (done + k)) (may (done + k) inside)

    at_level : length p + level ≡ L + 1
    at_level = at_page (λ q. length q + level ≡ L + 1) (long k)

    size : length p ≡ length parents + 1
    size = one_more parents (i + k)

    above : 0 < length parents
    above = omega (arith, at_level, size, high, levels)

    ends_parted : (take (length parents) p ≡ parents) × (get_or p (length parents) 0 ≡ i + k)
    ends_parted = same_from_push (take (length parents) p) parents (get_or p (length parents) 0) (i + k) (path_parted p (length parents) size)

    outside : begins_with l.window p ≡ false
    outside = at_page (λ q. begins_with l.window q ≡ false) (rules.outside from (place (done + k)) allowed_now)

    run_on : (answer : Answer) (o : Memory) → Ends l from (after from p) answer o → ((q : List ℕ) → table_at L l.root (paths (l laid_in o)) q ≡ table_at L l.root (paths (l laid_in from)) q)
        → IsChangeRun l m (calls_of level page call (done + k + 1)) (told ++ Answered answer ∷ []) o
    run_on answer o ends same =
        subst (λ calls. IsChangeRun l m calls (told ++ Answered answer ∷ []) o) (sym (calls_more (done + k)))
        (change_more l m (calls_of level page call (done + k)) told from so_far (call (place (done + k))) allowed_now (after from p)
        (at_page (λ q. HasRule l from (call (place (done + k))) (after from q)) (rules.does from (place (done + k)))) answer o ends same)

    -- its entry decides
    module _ (g e : ℕ) (found : IsFound l from parents (Ok g)) (is : word (words (l laid_in from)) g (i + k) ≡ e) (o : Memory) (set : IsSet l.places from g (i + k) (word_said e (says e)) o) where
      read : read_entry (l laid_in from) p ≡ e
      read = found.0.entries (i + k) ∙ is

      changes : (w frame : ℕ) → says (read_entry (l laid_in from) p) ≡ Ok (w, frame) → IsChange L l.window (paths (l laid_in from)) p w
      changes = rules.change from p at_level outside (omega (arith, size))

      stay : StaysFound l from parents g o
      stay = stays_found l apart some from so_far.valid (i + k) g small o parents above found says e is (λ w frame said. changes w frame (ap says read ∙ said)) set

      ends : Ends l from (after from p) (answer_said (says e)) o
      ends =
          let last = ends_parted.1 in
          let there : word (words (l laid_in from)) g (get_or p (length parents) 0) ≡ e = ap (word (words (l laid_in from)) g) last ∙ is in
          let set' : IsSet l.places from g (get_or p (length parents) 0) (word_said (word (words (l laid_in from)) g (get_or p (length parents) 0)) (says (word (words (l laid_in from)) g (get_or p (length parents) 0)))) o =
          subst₂ (λ j e. IsSet l.places from g j (word_said e (says e)) o) (sym last) (sym there) set in
          subst (λ e. Ends l from (after from p) (answer_said (says e)) o) there
          (ended l from so_far.valid p (length parents) size says (after from p) (rules.rule from p at_level) g (subst (λ q. IsFound l from q (Ok g)) (sym ends_parted.0) found)
          apart some (subst (λ j. j < 512) (sym last) small) changes o set')

      pub run_changed : IsChangeRun l m (calls_of level page call (done + k + 1)) (told ++ Answered (answer_said (says e)) ∷ []) o
      run_changed = run_on (answer_said (says e)) o ends stay.tables

      pub found_changed : IsFound l o parents (Ok g)
      found_changed = stay.found

  -- ---- parents refused all calls of the part

  module _ (count : ℕ) (within : done + count ≤ total) where
    -- one of them
    refuse : (k : ℕ) → k < count → (told : List Reply) → IsChangeRun l m (calls_of level page call (done + k)) told now → (why : Refusal) → IsFound l now (table_path (path (done + k))) (Err why)
        → IsChangeRun l m (calls_of level page call (done + k + 1)) (told ++ Answered (Refused why) ∷ []) now
    refuse k less told so_far why found =
        let p = path (done + k) in
        let at_level = long k in
        let size : length p ≡ length p - 1 + 1 = omega (arith, at_level, high, levels) in
        let may_now = rules.still m now (place (done + k)) (may (done + k) (omega (arith, less, within))) in
        subst (λ calls. IsChangeRun l m calls (told ++ Answered (Refused why) ∷ []) now) (sym (calls_more (done + k)))
        (change_more l m (calls_of level page call (done + k)) told now so_far (call (place (done + k))) may_now (after now p) (rules.does now (place (done + k))) (Refused why) now
        (stopped l now so_far.valid p (length p - 1) size says (after now p) (rules.rule now p at_level) why found) (λ q. refl))

    module _ (why : Refusal) (stop : AreStoppedIn l now level (page + done * span level) count why) where
      refused_so_far : (k : ℕ) → k ≤ count → IsChangeRun l m (calls_of level page call (done + k)) (answers ++ replicate k (Answered (Refused why))) now
      refused_so_far zero most = subst₂ (λ k rs. IsChangeRun l m (calls_of level page call k) rs now) (let e : done ≡ done + 0 = omega arith in e) (sym (append-nil answers)) run
      refused_so_far (suc k) most =
          subst₂ (λ k rs. IsChangeRun l m (calls_of level page call k) rs now) (let e : done + k + 1 ≡ done + suc k = omega arith in e)
          (append_assoc answers (replicate k (Answered (Refused why))) (Answered (Refused why) ∷ []) ∙ ap (λ rs. answers ++ rs) (push (Answered (Refused why)) k))
          (refuse k (omega (arith, most)) (answers ++ replicate k (Answered (Refused why))) (refused_so_far k (omega (arith, most))) why
          (subst (λ p. IsFound l now (table_path (path_at L level p)) (Err why)) (sym (later_page k)) (stop k (omega (arith, most)))))
        where
          push : (x : Reply) (n : ℕ) → replicate n x ++ x ∷ [] ≡ replicate (suc n) x
          push x zero = refl
          push x (suc n) = ap (λ rs. x ∷ rs) (push x n)

    pub part_refused : (more : List Reply) (o : Memory) → AreRefused l now level (page + done * span level) count more o → IsChangeRun l m (calls_of level page call (done + count)) (answers ++ more) o
    part_refused more o part = subst₂ (λ rs o. IsChangeRun l m (calls_of level page call (done + count)) (answers ++ rs) o) (sym part.replies) (sym part.same)
        (refused_so_far part.why part.stopped count (omega arith))

  -- ---- all entries of the part

  module _ (count : ℕ) (fits : i + count ≤ 512) (within : done + count ≤ total) where
    module _ (more : List Reply) (o : Memory) (part : AreChanged l now parents says i count more o) where
      abbrev t : List ℕ
      t = part.table

      abbrev at : ℕ → Memory
      at k = after_words l.places apart now part.frame says i part.table part.is part.long k

      record Here (k : ℕ) : Type 0 where
        so_far : IsChangeRun l m (calls_of level page call (done + k)) (answers ++ replies_said says i t k) (at k)
        found : IsFound l (at k) parents (Ok part.frame)

      reached : (k : ℕ) → k ≤ count → Here k
      reached zero most =
          let same = no_word l.places apart now part.frame says i part.table part.is part.long in record {
            so_far = subst₂ (λ k rs. IsChangeRun l m (calls_of level page call k) rs (at 0)) (let e : done ≡ done + 0 = omega arith in e) (sym (append-nil answers))
                (subst (λ x. IsChangeRun l m (calls_of level page call done) answers x) (sym same) run);
            found = subst (λ x. IsFound l x parents (Ok part.frame)) (sym same) part.found;
          }
      reached (suc k) most =
          let here = reached k (omega (arith, most)) in
          let small : i + k < 512 = omega (arith, most, fits) in
          let inside : done + k < total = omega (arith, most, within) in
          let told = answers ++ replies_said says i t k in
          let e = get_or t (i + k) 0 in
          let is = word_next l.places apart now part.frame says i part.table part.is part.long k small in
          let set = word_set l.places apart now part.frame says i part.table part.is part.long k in record {
            so_far = subst₂ (λ j rs. IsChangeRun l m (calls_of level page call j) rs (at (suc k))) (let same : done + k + 1 ≡ done + suc k = omega arith in same)
                (append_assoc answers (replies_said says i t k) (Answered (answer_said (says e)) ∷ []) ∙ ap (λ rs. answers ++ rs) (sym (replies_more says i t k) ∙ ap (replies_said says i t) (let one : k + 1 ≡ suc k = omega arith in one)))
                (run_changed k small inside (at k) told here.so_far part.frame e here.found is (at (suc k)) set);
            found = found_changed k small inside (at k) told here.so_far part.frame e here.found is (at (suc k)) set;
          }

      pub part_changed : IsChangeRun l m (calls_of level page call (done + count)) (answers ++ more) o
      part_changed = subst₂ (λ rs o. IsChangeRun l m (calls_of level page call (done + count)) (answers ++ rs) o) (sym part.replies) (sym part.put) (reached count (omega arith)).so_far

-- this for either kind of part
module _ (l : Layout) (apart : Distinct l.places) (level : ℕ) (low : 1 ≤ level) (high : level ≤ 3) (levels : 3 < l.levels) (says : ℕ → Result (ℕ × ℕ) Refusal) (call : ℕ → Call) (after : Memory → List ℕ → AfterChange)
    (rules : IsEntryCall l level says call after) (m : Memory) (page total : ℕ) (may : (k : ℕ) → k < total → allowed l.levels l.window (paths (l laid_in m)) (call (page + k * span level)) ≡ true)
    (done : ℕ) (now : Memory) (answers : List Reply) (run : IsChangeRun l m (calls_of level page call done) answers now)
    (count : ℕ) (within : done + count ≤ total) (more : List Reply) (o : Memory) where
  pub pages_changed : IsPartChanged l now level (page + done * span level) says count more o → IsChangeRun l m (calls_of level page call (done + count)) (answers ++ more) o
  pages_changed (inl h) = part_changed l apart level low high levels says call after rules m page total may done now answers run count h.0 within more o h.1
  pages_changed (inr h) = part_refused l apart level low high levels says call after rules m page total may done now answers run count within more o h

-- a part whose table was found, and its entries changed from an index on
pub part_in_table : (l : Layout) (m : Memory) (level page : ℕ) (says : ℕ → Result (ℕ × ℕ) Refusal) (count : ℕ) (n : Memory) (path : List ℕ) → path ≡ path_at l.levels level page → (i : ℕ) → i ≡ last_index path → last_index path + count ≤ 512
    → (frame : ℕ) → IsFound l m (table_path path) (Ok frame) → (t : List ℕ) → words_of m l.places frame ≡ Some t → length t ≡ 512 → n ≡ insert m (l.places.place frame) (with_results says i t count)
    → IsPartChanged l m level page says count (replies_said says i t count) n
part_in_table l m level page says count n path is_path i index fits frame found t is long put =
    subst (λ q. (last_index q + count ≤ 512) × AreChanged l m (table_path q) says (last_index q) count (replies_said says i t count) n ⊎ AreRefused l m level page count (replies_said says i t count) n) is_path
    (inl (
      fits,
      record {
        frame = frame;
        found = found;
        table = t;
        is = is;
        long = long;
        put = put ∙ ap (λ j. insert m (l.places.place frame) (with_results says j t count)) index;
        replies = ap (λ j. replies_said says j t count) index;
      },
    ))
