-- Taking blocks in turn from a range that includes its end.
use Rattle.std.specs.Prelude.{◌≡◌, ℕ, ◌+◌, ◌%◌, ◌<◌}
use Rattle.x86_64_page.specs.Blocks.{front_taken_inclusive, back_taken_inclusive, Ends}

-- Taking n + 1 blocks from a range that includes its end equals taking n and then one more, from the front and from the back, if
-- both ends are multiples of the size, and for the front below the limit. Taking no block changes nothing, for the front if the
-- start is below the limit.
pub record AreTakenInTurnInclusive (size limit : ℕ) : Type 0 where
  pub none : (r : Ends) → r.start < limit → front_taken_inclusive size limit 0 r ≡ r
  pub front : (r : Ends) (n : ℕ) → r.start % size ≡ 0 → r.end % size ≡ 0 → r.start < limit → r.end < limit
      → front_taken_inclusive size limit 1 (front_taken_inclusive size limit n r) ≡ front_taken_inclusive size limit (n + 1) r
  pub none_back : (r : Ends) → back_taken_inclusive size 0 r ≡ r
  pub back : (r : Ends) (n : ℕ) → r.start % size ≡ 0 → r.end % size ≡ 0
      → back_taken_inclusive size 1 (back_taken_inclusive size n r) ≡ back_taken_inclusive size (n + 1) r
