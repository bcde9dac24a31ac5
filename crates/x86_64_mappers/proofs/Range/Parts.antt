-- The pages of a run in one table: a run of maps goes on by them, one after another.
use Rattle.std.proofs.Common.{zero, suc, ◌≡◌, ◌<◌, ◌≤◌, ◌+◌, ◌-◌, ◌*◌, ℕ, true, false, cond, List, [], ◌∷◌, ◌++◌, length, take, get_or, Result, Ok, Err, bit_or, refl, sym, ap, ap₂, ◌∙◌, subst, subst₂, arith}
use Rattle.std.proofs.Math.Nat.{add-mul}
use Rattle.x86_64_model.specs.Allowed.{map_allowed}
use Rattle.x86_64_model.specs.Call.{Reply, Answered}
use Rattle.x86_64_model.specs.Entry.{IsParentFlags}
use Rattle.x86_64_model.specs.Layout.{Layout}
use Rattle.x86_64_model.specs.Hierarchy.{◌laid_in◌, paths}
use Rattle.x86_64_model.specs.MapRule.{leaf_entry}
use Rattle.x86_64_model.specs.Memory.{Memory, Distinct}
use Rattle.x86_64_model.specs.Path.{path_at}
use Rattle.x86_64_model.specs.Position.{span}
use Rattle.x86_64_model.specs.Refusal.{Refusal, Answer, Done, Refused, PageAlreadyMapped}
use Rattle.x86_64_model.specs.Window.{begins_with}
use Rattle.x86_64_model.proofs.Lemmas.Machines.Effects.{map_may}
use Rattle.x86_64_model.proofs.Lemmas.Paths.Pages.{length_taken}
use Rattle.x86_64_mappers.specs.Ranges.{MapRange, range_page, range_frame, accepted_maps}
use Rattle.x86_64_mappers.specs.private.MapSteps.{IsAt, IsDown}
use Rattle.x86_64_mappers.specs.private.PageCalls.{page_word}
use Rattle.x86_64_mappers.specs.private.RangeSteps.{IsRangeRun, IsPartMapped, IsPart}
use Rattle.x86_64_mappers.specs.private.Writes.{IsLeafSet}
use Rattle.x86_64_mappers.proofs.Map.Down.{path_mapped, path_refused}
use Rattle.x86_64_mappers.proofs.Map.PageMaps.{page_leaf}
use Rattle.x86_64_mappers.proofs.Map.StepOutcomes.{IsLeaf, IsPathMapped}
use Rattle.x86_64_mappers.proofs.Range.Leaves.{after_leaves, no_leaf, leaf_done, leaf_full}
use Rattle.x86_64_mappers.proofs.Range.RunPaths.{path_after}
use Rattle.x86_64_mappers.proofs.Range.Runs.{allowed_still, accepted_more, one_more}
use Rattle.x86_64_mappers.proofs.Range.Ways.{parents_marked, still_leads, way_there}
use Rattle.x86_64_mappers.proofs.Way.Outside.{beside_on}
use Rattle.x86_64_mappers.proofs.Way.Pages.{small_page}

-- what a run of maps rests on: the first `total` maps are allowed
pub record IsSetUp (l : Layout) (m : Memory) (r : MapRange) (total : ℕ) : Type 0 where
  pub apart : Distinct l.places
  pub adds : IsParentFlags l.added_flags
  pub marks : IsParentFlags r.parent_flags
  pub low : 1 ≤ r.level
  pub high : r.level ≤ 3
  pub levels : 3 < l.levels
  pub allowed : (k : ℕ) → k < total → map_allowed l.levels l.window (paths (l laid_in m)) (path_at l.levels r.level (range_page r k)) r.flags r.parent_flags ≡ true

module _ (l : Layout) (m : Memory) (s : List ℕ) (r : MapRange) (total : ℕ) (given : IsSetUp l m r total) (done : ℕ) (now : Memory) (left : List ℕ) (run : IsRangeRun l m s r done (accepted_maps r done) now left) where
  abbrev L : ℕ
  L = l.levels

  abbrev level : ℕ
  level = r.level

  abbrev more : ℕ
  more = r.parent_flags

  -- the first page of the part
  abbrev q : List ℕ
  q = path_at l.levels r.level (range_page r done)

  abbrev parents : List ℕ
  parents = take (length q - 1) q

  abbrev i : ℕ
  i = get_or q (length q - 1) 0

  abbrev a : ℕ
  a = range_frame r done

  later_page : (k : ℕ) → range_page r (done + k) ≡ range_page r done + k * span level
  later_page k = let e = add-mul done k (span level) in omega (arith, e)

  later_frame : (k : ℕ) → range_frame r (done + k) ≡ a + k * span level
  later_frame k = let e = add-mul done k (span level) in omega (arith, e)

  -- the path of a page of the part
  later_path : (k : ℕ) → i + k < 512 → path_at L level (range_page r (done + k)) ≡ parents ++ (i + k) ∷ []
  later_path k small = ap (path_at L level) (later_page k)
      ∙ path_after L level (range_page r done) given.low (let high = given.high in let levels = given.levels in omega (arith, high, levels)) k small

  long : (k : ℕ) → length (path_at L level (range_page r (done + k))) + level ≡ L + 1
  long k =
      let size = length_taken (range_page r (done + k)) (L + 1 - level) L (let low = given.low in omega (arith, low)) in
      let high = given.high in let levels = given.levels in omega (arith, size, high, levels)

  some : 0 < L
  some = let levels = given.levels in omega (arith, levels)

  -- a map from any state that the run has reached
  module _ (k : ℕ) (small : i + k < 512) (inside : done + k < total) (from : Memory) (supply : List ℕ) (replies : List Reply) (so_far : IsRangeRun l m s r (done + k) replies from supply) where
    abbrev p : List ℕ
    p = path_at L level (range_page r (done + k))

    abbrev frame : ℕ
    frame = range_frame r (done + k)

    may : map_allowed L l.window (paths (l laid_in from)) p r.flags more ≡ true
    may = allowed_still L l.window (paths (l laid_in m)) (paths (l laid_in from)) p r.flags more (so_far.parents p) (given.allowed (done + k) inside)

    outside : begins_with l.window (parents ++ (i + k) ∷ []) ≡ false
    outside = ap (begins_with l.window) (sym (later_path k small)) ∙ (map_may L l.window (paths (l laid_in from)) p r.flags more may).outside

    -- the word of the page's entry is the one that the map asks for
    word_is : page_word level (a + k * span level) r.flags ≡ leaf_entry L p frame r.flags
    word_is = ap₂ (λ f b. bit_or f (cond b r.flags (bit_or r.flags 0x80))) (sym (later_frame k)) (sym (small_page L level p (long k)))

    leaf : IsLeaf L (parents ++ (i + k) ∷ []) (leaf_entry L p frame r.flags)
    leaf = subst (λ p'. IsLeaf L p' (leaf_entry L p frame r.flags)) (later_path k small)
        (page_leaf L p (let size = long k in let high = given.high in omega (arith, size, high)) frame r.flags)

    -- the map ends as the step at its own entry says
    module _ (middle : Memory) (rest : List ℕ) (table : ℕ) (down : IsAt l from supply more parents parents [] middle rest table) (answer : Answer) (o : Memory)
        (set : IsLeafSet l.places middle table (i + k) (page_word level (a + k * span level) r.flags) (a + k * span level) answer o) where
      wrote : IsLeafSet l.places middle table (i + k) (leaf_entry L p frame r.flags) frame answer o
      wrote = subst₂ (λ w f. IsLeafSet l.places middle table (i + k) w f answer o) word_is (sym (later_frame k)) set

      pub mapped : IsPathMapped l from supply more (parents ++ (i + k) ∷ []) (leaf_entry L p frame r.flags) frame answer o rest
      mapped = path_mapped l given.apart from supply more parents (i + k) (leaf_entry L p frame r.flags) frame some outside small leaf middle rest table down answer o wrote

      pub run_more : IsRangeRun l m s r (done + k + 1) (replies ++ Answered answer ∷ []) o rest
      run_more = one_more l m s r (done + k) given.marks from supply replies so_far may answer o rest
          (subst (λ p'. IsPathMapped l from supply more p' (leaf_entry L p frame r.flags) frame answer o rest) (sym (later_path k small)) mapped)

    -- or it was refused on its way down
    pub run_refused : (why : Refusal) (o : Memory) (rest : List ℕ) → IsDown l from supply more parents (Err why) o rest → IsRangeRun l m s r (done + k + 1) (replies ++ Answered (Refused why) ∷ []) o rest
    run_refused why o rest down = one_more l m s r (done + k) given.marks from supply replies so_far may (Refused why) o rest
        (subst (λ p'. IsPathMapped l from supply more p' (leaf_entry L p frame r.flags) frame (Refused why) o rest) (sym (later_path k small))
        (path_refused l given.apart from supply more parents (i + k) (leaf_entry L p frame r.flags) frame o rest why down))

  -- the first map was refused on its way down
  pub part_refused : i < 512 → done < total → (why : Refusal) (o : Memory) (rest : List ℕ) → IsDown l now left more parents (Err why) o rest
      → IsRangeRun l m s r (done + 1) (accepted_maps r done ++ Answered (Refused why) ∷ []) o rest
  part_refused small inside why o rest down =
      let none : done + 0 ≡ done = omega arith in
      subst (λ k. IsRangeRun l m s r (k + 1) (accepted_maps r done ++ Answered (Refused why) ∷ []) o rest) none
      (run_refused 0 (omega (arith, small)) (omega (arith, inside)) now left (accepted_maps r done) (subst (λ k. IsRangeRun l m s r k (accepted_maps r done) now left) (sym none) run) why o rest down)

  -- ---- the entries of the part

  module _ (count n : ℕ) (fits : i + count ≤ 512) (inside : done + count ≤ total) (few : n ≤ count) (after : Memory) (rest : List ℕ) (part : IsPartMapped l now left more parents level i a r.flags count n after rest) where
    abbrev at : ℕ → Memory
    at k = after_leaves l.places given.apart part.middle part.table level i a r.flags part.leaves.table part.leaves.is part.leaves.long k

    -- k pages of the part are mapped, and the way down to its table is open
    record Here (k : ℕ) : Type 0 where
      from : Memory
      supply : List ℕ
      so_far : IsRangeRun l m s r (done + k) (accepted_maps r (done + k)) from supply
      down : IsAt l from supply more parents parents [] (at k) rest part.table

    start : Here 0
    start = record {
      from = now;
      supply = left;
      so_far = subst (λ k. IsRangeRun l m s r k (accepted_maps r k) now left) (let e : done ≡ done + 0 = omega arith in e) run;
      down = subst (λ x. IsAt l now left more parents parents [] x rest part.table)
          (sym (no_leaf l.places given.apart part.middle part.table level i a r.flags part.leaves.table part.leaves.is part.leaves.long)) part.down;
    }

    module _ (k : ℕ) (less : k < n) (here : Here k) where
      set : IsLeafSet l.places (at k) part.table (i + k) (page_word level (a + k * span level) r.flags) (a + k * span level) (Done (a + k * span level)) (at (suc k))
      set = leaf_done l.places given.apart part.middle part.table level i a r.flags part.leaves.table part.leaves.is part.leaves.long k (omega (arith, less, few, fits)) (part.leaves.free.unused k less)

      small : i + k < 512
      small = omega (arith, less, few, fits)

      within : done + k < total
      within = omega (arith, less, few, inside)

      done_at : Done (a + k * span level) ≡ Done (range_frame r (done + k))
      done_at = ap Done (sym (later_frame k))

      this : IsPathMapped l here.from here.supply more (parents ++ (i + k) ∷ []) (leaf_entry L (path_at L level (range_page r (done + k))) (range_frame r (done + k)) r.flags) (range_frame r (done + k)) (Done (range_frame r (done + k))) (at (suc k)) rest
      this = subst (λ x. IsPathMapped l here.from here.supply more (parents ++ (i + k) ∷ []) (leaf_entry L (path_at L level (range_page r (done + k))) (range_frame r (done + k)) r.flags) (range_frame r (done + k)) x (at (suc k)) rest) done_at
          (mapped k small within here.from here.supply (accepted_maps r (done + k)) here.so_far (at k) rest part.table here.down (Done (a + k * span level)) (at (suc k)) set)

      run_on : IsRangeRun l m s r (done + suc k) (accepted_maps r (done + suc k)) (at (suc k)) rest
      run_on = subst (λ j. IsRangeRun l m s r j (accepted_maps r j) (at (suc k)) rest) (let e : done + k + 1 ≡ done + suc k = omega arith in e)
          (subst (λ rs. IsRangeRun l m s r (done + k + 1) rs (at (suc k)) rest) (sym (accepted_more r (done + k)))
          (subst (λ x. IsRangeRun l m s r (done + k + 1) (accepted_maps r (done + k) ++ Answered x ∷ []) (at (suc k)) rest) done_at
          (run_more k small within here.from here.supply (accepted_maps r (done + k)) here.so_far (at k) rest part.table here.down (Done (a + k * span level)) (at (suc k)) set)))

      down_on : IsAt l (at (suc k)) rest more parents parents [] (at (suc k)) rest part.table
      down_on =
          let there = outside k small within here.from here.supply (accepted_maps r (done + k)) here.so_far in
          way_there l (at (suc k)) rest this.owned.ready more parents (i + k) part.table
          (parents_marked l given.adds here.from here.supply here.so_far.owned.ready more given.marks (parents ++ (i + k) ∷ []) _ _ (at (suc k)) rest this)
          (still_leads l given.apart some (at k) parents (i + k) part.table here.down.leads small
          (beside_on l (at k) here.down.owned.ready.valid parents (i + k) [] there part.table here.down.leads)
          rest here.down.owned.ready (leaf_entry L (path_at L level (range_page r (done + k))) (range_frame r (done + k)) r.flags)
          (leaf k small within here.from here.supply (accepted_maps r (done + k)) here.so_far) set.0 (at (suc k))
          (wrote k small within here.from here.supply (accepted_maps r (done + k)) here.so_far (at k) rest part.table here.down (Done (a + k * span level)) (at (suc k)) set).2)

      next : Here (suc k)
      next = record { from = at (suc k); supply = rest; so_far = run_on; down = down_on }

    reached : (k : ℕ) → k ≤ n → Here k
    reached zero most = start
    reached (suc k) most = next k (omega (arith, most)) (reached k (omega (arith, most)))

    -- some pages of the part are mapped
    pub part_mapped : 0 < n → IsRangeRun l m s r (done + n) (accepted_maps r (done + n)) after rest
    part_mapped some = by n refl some
      where
        by : (k : ℕ) → k ≡ n → 0 < k → IsRangeRun l m s r (done + n) (accepted_maps r (done + n)) after rest
        by zero same above = absurd (omega (arith, above))
        by (suc k) same above =
            let less : k < n = omega (arith, same) in
            subst (λ o. IsRangeRun l m s r (done + n) (accepted_maps r (done + n)) o rest) (ap at same ∙ sym part.leaves.put)
            (subst (λ j. IsRangeRun l m s r (done + j) (accepted_maps r (done + j)) (at (suc k)) rest) same (run_on k less (reached k (omega (arith, less)))))

    -- and the next one is refused, if there is one
    pub part_stopped : n < count → IsRangeRun l m s r (done + n + 1) (accepted_maps r (done + n) ++ Answered (Refused (PageAlreadyMapped (range_frame r (done + n)))) ∷ []) after rest
    part_stopped less =
        let small : i + n < 512 = omega (arith, less, fits) in
        let within : done + n < total = omega (arith, less, inside) in
        let here = reached n (omega arith) in
        let full = leaf_full l.places given.apart part.middle part.table level i a r.flags part.leaves.table part.leaves.is part.leaves.long n small (part.leaves.free.stops less) in
        subst (λ o. IsRangeRun l m s r (done + n + 1) (accepted_maps r (done + n) ++ Answered (Refused (PageAlreadyMapped (range_frame r (done + n)))) ∷ []) o rest) (sym part.leaves.put)
        (subst (λ f. IsRangeRun l m s r (done + n + 1) (accepted_maps r (done + n) ++ Answered (Refused (PageAlreadyMapped f)) ∷ []) (at n) rest) (sym (later_frame n))
        (run_more n small within here.from here.supply (accepted_maps r (done + n)) here.so_far (at n) rest part.table here.down (Refused (PageAlreadyMapped (a + n * span level))) (at n) full))

-- this for a part whose first path and frame are given otherwise
module _ (l : Layout) (m : Memory) (s : List ℕ) (r : MapRange) (total : ℕ) (given : IsSetUp l m r total) (done : ℕ) (now : Memory) (left : List ℕ) (run : IsRangeRun l m s r done (accepted_maps r done) now left)
    (q : List ℕ) (is_path : q ≡ path_at l.levels r.level (range_page r done)) (a : ℕ) (is_frame : a ≡ range_frame r done) (count : ℕ) (fits : get_or q (length q - 1) 0 + count ≤ 512) (inside : done + count ≤ total)
    (after : Memory) (rest : List ℕ) where
  abbrev Part : Result ℕ Refusal → Type 0
  Part made = IsPart l now left r.parent_flags (take (length q - 1) q) r.level (get_or q (length q - 1) 0) a r.flags count made after rest

  fits_there : get_or (path_at l.levels r.level (range_page r done)) (length (path_at l.levels r.level (range_page r done)) - 1) 0 + count ≤ 512
  fits_there = subst (λ q. get_or q (length q - 1) 0 + count ≤ 512) is_path fits

  same_part : (n : ℕ) → Part (Ok n) → let q = path_at l.levels r.level (range_page r done) in
      IsPartMapped l now left r.parent_flags (take (length q - 1) q) r.level (get_or q (length q - 1) 0) (range_frame r done) r.flags count n after rest
  same_part n part = subst₂ (λ q a. IsPartMapped l now left r.parent_flags (take (length q - 1) q) r.level (get_or q (length q - 1) 0) a r.flags count n after rest) is_path is_frame part

  pub pages_mapped : (n : ℕ) → 0 < n → n ≤ count → Part (Ok n) → IsRangeRun l m s r (done + n) (accepted_maps r (done + n)) after rest
  pages_mapped n some few part = part_mapped l m s r total given done now left run count n fits_there inside few after rest (same_part n part) some

  pub page_full : (n : ℕ) → n < count → Part (Ok n)
      → IsRangeRun l m s r (done + n + 1) (accepted_maps r (done + n) ++ Answered (Refused (PageAlreadyMapped (range_frame r (done + n)))) ∷ []) after rest
  page_full n less part = part_stopped l m s r total given done now left run count n fits_there inside (omega (arith, less)) after rest (same_part n part) less

  pub way_refused : (why : Refusal) → 0 < count → Part (Err why) → IsRangeRun l m s r (done + 1) (accepted_maps r done ++ Answered (Refused why) ∷ []) after rest
  way_refused why some part = part_refused l m s r total given done now left run (omega (arith, fits_there, some)) (omega (arith, inside, some)) why after rest
      (subst (λ q. IsDown l now left r.parent_flags (take (length q - 1) q) (Err why) after rest) is_path part)
