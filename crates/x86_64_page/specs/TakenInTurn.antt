-- Taking blocks from a range in turn: taking n + 1 equals taking n and then one more.
use Rattle.std.specs.Prelude.{◌≡◌, ℕ, ◌+◌, ◌%◌}
use Rattle.x86_64_page.specs.Blocks.{Ends, front_taken, back_taken}

-- Taking n + 1 blocks from a range that excludes its end equals taking n and then one more, from the front and from the back, if
-- both ends are multiples of the size. Taking no block changes nothing, whatever the ends are.
pub record AreTakenInTurn (size : ℕ) : Type 0 where
  pub none : (r : Ends) → front_taken size 0 r ≡ r
  pub front : (r : Ends) (n : ℕ) → r.start % size ≡ 0 → r.end % size ≡ 0 → front_taken size 1 (front_taken size n r) ≡ front_taken size (n + 1) r
  pub none_back : (r : Ends) → back_taken size 0 r ≡ r
  pub back : (r : Ends) (n : ℕ) → r.start % size ≡ 0 → r.end % size ≡ 0 → back_taken size 1 (back_taken size n r) ≡ back_taken size (n + 1) r
