-- Entries that name no table: a clean up passes over them.
use Rattle.std.proofs.Common.{zero, suc, ◌≡◌, ⊎_elim, ◌≤◌, ◌<◌, ◌+◌, ◌-◌, ℕ, Bool, true, false, not, cond, List, [], ◌∷◌, ◌++◌, Some, Result, Ok, Err, is_ok, refl, sym, ap, ◌∙◌, subst, arith, slice_index}
use Rattle.std.proofs.lemmas.Bool.{cases_lt}
use Rattle.x86_64_model.proofs.Lemmas.CleanUps.Below.{cleaned_before, back_before}
use Rattle.x86_64_model.specs.CleanUp.{in_range}
use Rattle.x86_64_model.specs.Entry.{present, huge, address}
use Rattle.x86_64_model.specs.Layout.{Layout}
use Rattle.x86_64_model.specs.Hierarchy.{◌laid_in◌, Valid, paths, words}
use Rattle.x86_64_model.specs.Memory.{Memory, Distinct, Words, word}
use Rattle.x86_64_model.specs.Refusal.{Refusal, PageNotMapped, ParentEntryHugePage}
use Rattle.x86_64_model.specs.Window.{begins_with}
use Rattle.x86_64_tables.specs.PageTableEntry.{frame_of}
use Rattle.x86_64_tables.specs.declared.page_table.entry.FrameError.{FrameError}
use Rattle.x86_64_tables.specs.declared.page_table.entry.FrameError.TheVariants.{FrameNotPresent, HugeFrame}
use Rattle.x86_64_mappers.proofs.CleanUp.EntriesInRange.{refused_out, recursive_out}
use Rattle.x86_64_mappers.proofs.CleanUp.EntryCleaned.{entry_stays}
use Rattle.x86_64_mappers.proofs.CleanUp.TableCleaned.{before_next}
use Rattle.x86_64_mappers.proofs.CleanUp.Visited.{still_before}
use Rattle.x86_64_mappers.proofs.Memory.Words.{entry_is_word}
use Rattle.x86_64_mappers.specs.private.CleaningUp.{IsVisited, IsCleaned}
use Rattle.x86_64_mappers.specs.private.Stops.{table_below, leads_to_table}

-- ---- which entries name tables

frame_named : (w : ℕ) → is_ok (frame_of w) ≡ leads_to_table w
frame_named w = by (present w) (huge w)
  where
    by : (p h : Bool) → is_ok (cond (not p) (Err FrameNotPresent) (cond h (Err HugeFrame) (Ok (address w)))) ≡ is_ok (cond (not p) (Err PageNotMapped) (cond h (Err ParentEntryHugePage) (Ok (address w))))
    by true true = refl
    by true false = refl
    by false h = refl

-- an entry of a table names a table if it has a frame
pub entry_named : (T : Words) (frame i : ℕ) (table : List ℕ) → T frame ≡ Some table → i < 512 → (r : Result ℕ FrameError) → r ≡ frame_of (slice_index table i) → leads_to_table (word T frame i) ≡ is_ok r
entry_named T frame i table there inside r is = ap leads_to_table (sym (entry_is_word T frame i table there inside)) ∙ sym (ap is_ok is ∙ frame_named (slice_index table i))

-- one more entry names no table
pub none_more : (T : Words) (frame from i : ℕ) → ((k : ℕ) → from ≤ k → k < i → leads_to_table (word T frame k) ≡ false) → leads_to_table (word T frame i) ≡ false
    → (k : ℕ) → from ≤ k → k < i + 1 → leads_to_table (word T frame k) ≡ false
none_more T frame from i before here k low high = ⊎_elim (before k low)
    (λ past. let e : k ≡ i = omega (arith, past, high) in ap (λ k. leads_to_table (word T frame k)) e ∙ here) (cases_lt k i)

-- an index that is at least another one unless it is past the last is at least it, if the other is past the last by at most one
pub not_before : (from last i : ℕ) → (i ≤ last → from ≤ i) → from ≤ last + 1 → from ≤ i
not_before from last i within most = ⊎_elim (λ below. within (omega (arith, below))) (λ past. omega (arith, most, past)) (cases_lt i (last + 1))

-- the refusal by an entry that names no table
refusal_of : (r : Result ℕ Refusal) → is_ok r ≡ false → (why : Refusal) × (Err why ≡ r)
refusal_of (Ok f) none = cc
refusal_of (Err why) none = (why, refl)

-- ---- entries that name no table stay

-- an entry that names no table isn't in range
pub unnamed_out : (l : Layout) (m : Memory) → Valid (l laid_in m) → (low high : ℕ) (q : List ℕ) (f : ℕ) → IsVisited l m low high q f → (i : ℕ) → i < 512 → leads_to_table (word (words (l laid_in m)) f i) ≡ false
    → in_range l.levels (paths (l laid_in m)) low high (q ++ i ∷ []) ≡ false
unnamed_out l m valid low high q f v i small none = by (begins_with l.window (q ++ i ∷ [])) refl
  where
    by : (b : Bool) → begins_with l.window (q ++ i ∷ []) ≡ b → in_range l.levels (paths (l laid_in m)) low high (q ++ i ∷ []) ≡ false
    by true is = recursive_out l m valid low high q i v.outside is
    by false out = let r = refusal_of (table_below (word (words (l laid_in m)) f i)) none in refused_out l m valid low high q f v i small out r.0 r.1

-- If the entries before an index were cleaned up, so are those before a later index with no entry in between that names a table.
module _ (l : Layout) (take_back : List ℕ → ℕ → List ℕ) (m : Memory) (valid : Valid (l laid_in m)) (held : List ℕ) (low high : ℕ) (q : List ℕ) (f : ℕ) (v : IsVisited l m low high q f)
    (apart : Distinct l.places) (n : Memory) (rest : List ℕ) where
  abbrev Before : ℕ → Type 0
  Before i = IsCleaned l take_back m held (cleaned_before l.levels (paths (l laid_in m)) low high q i) (back_before l.levels (paths (l laid_in m)) low high q i) n rest

  pass_one : (i : ℕ) → i < 512 → leads_to_table (word (words (l laid_in n)) f i) ≡ false → Before i → Before (i + 1)
  pass_one i small none here =
      let out = unnamed_out l n here.valid low high q f (still_before l m low high q f v i n here.meant) i small none in
      before_next l take_back m valid held low high q v.visits i apart n rest here n rest (entry_stays l take_back n here.valid rest low high (q ++ i ∷ []) out)

  pass : (i k : ℕ) → i + k ≤ 512 → ((j : ℕ) → i ≤ j → j < i + k → leads_to_table (word (words (l laid_in n)) f j) ≡ false) → Before i → Before (i + k)
  pass i zero most none here = let e : i + zero ≡ i = omega arith in subst Before (sym e) here
  pass i (suc k) most none here =
      let e : i + suc k ≡ i + k + 1 = omega arith in
      subst Before (sym e) (pass_one (i + k) (omega (arith, most)) (none (i + k) (omega arith) (omega arith))
      (pass i k (omega (arith, most)) (λ j from to. none j from (omega (arith, to))) here))

  pub passed_to : (i j : ℕ) → i ≤ j → j ≤ 512 → ((k : ℕ) → i ≤ k → k < j → leads_to_table (word (words (l laid_in n)) f k) ≡ false) → Before i → Before j
  passed_to i j up most none here =
      let e : i + (j - i) ≡ j = omega (arith, up) in
      subst Before e (pass i (j - i) (omega (arith, up, most)) (λ k from to. none k from (omega (arith, to, up))) here)
