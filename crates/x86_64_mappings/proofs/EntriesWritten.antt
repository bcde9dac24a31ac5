-- The words that a walk reads are written one by one.
use Rattle.std.proofs.Common.{suc, ◌≡◌, ◌<◌, ◌≤◌, ◌+◌, ℕ, List, [], ◌∷◌, ◌++◌, map, drop, length, slice_set, refl, sym, ap, subst, ◌∙◌, arith}
use Rattle.std.proofs.lemmas.List.{length-append}
use native.Mathlib.Numerals.{unary_clauses}
use Rattle.x86_64_model.specs.Mappings.{Rights}
use Rattle.x86_64_model.specs.Memory.{Words}
use Rattle.x86_64_model.specs.Steps.{Step, steps}
use Rattle.x86_64_tables.proofs.StepsRead.{HaveRead, steps_within}
use Rattle.x86_64_mappings.specs.WalkEntries.{written, Writes}
use Rattle.x86_64_mappings.specs.declared.walk_entries.WalkEntry.{WalkEntry}

filled : (read : List Step) (before : List WalkEntry) (s : Step) → length read < length before
    → slice_set (map written read ++ drop (length read) before) (length read) (written s) ≡ map written (read ++ s ∷ []) ++ drop (suc (length read)) before
filled [] [] s room = absurd (omega (arith, room))
filled [] (e ∷ before) s room = refl
filled (r ∷ read) [] s room = absurd (omega (arith, room))
filled (r ∷ read) (e ∷ before) s room = ap (λ after. written r ∷ after) (filled read before s (omega (arith, room)))

pub writes_more : (read : List Step) (before after : List WalkEntry) (count : ℕ) (s : Step)
    → Writes read before after count → count < length before → Writes (read ++ s ∷ []) before (slice_set after count (written s)) (count + 1)
writes_more read before after count s writes room = record {
  number = let size = length-append read (s ∷ []) in omega (arith, size, writes.number);
  array = simp unary_clauses (ap (λ a. slice_set a count (written s)) writes.array
      ∙ subst (λ n. slice_set (map written read ++ drop n before) n (written s) ≡ map written (read ++ s ∷ []) ++ drop (suc n) before)
      (sym writes.number) (filled read before s (omega (arith, room, writes.number))));
}

-- there is room for one word more
pub room_for_more : (T : Words) (p L root : ℕ) (all read rest left : List Step) (before after : List WalkEntry) (r : Rights) (s : Step) (count n : ℕ)
    → all ≡ steps T p L root → HaveRead all read rest r → Writes read before after count → rest ≡ s ∷ left → L ≤ n → count < n
room_for_more T p L root all read rest left before after r s count n are have writes is room =
    let size = sym (length-append read (s ∷ left)) ∙ ap (λ more. length (read ++ more)) (sym is) ∙ ap length (have.all_are ∙ are) in
    let short = steps_within T p L root in omega (arith, size, short, writes.number, room)

pub writes_all : (all read : List Step) (before after : List WalkEntry) (count : ℕ) → read ≡ all → Writes read before after count → Writes all before after count
writes_all all read before after count same = subst (λ steps. Writes steps before after count) same
