-- The effect of a clean up on some paths.
use Rattle.std.specs.Prelude.{◌≡◌, ℕ, ◌^◌, ◌≤◌, ◌||◌, Bool, not, List, Option, MatchOption, filter, map}
use Rattle.x86_64_model.specs.Entry.{address}
use Rattle.x86_64_model.specs.PathMap.{PathMap, entry}
use Rattle.x86_64_model.specs.Path.{is_below}
use Rattle.x86_64_model.specs.CleanUp.{AfterCleanUp, in_range, is_removed}
use Rattle.test_reference.specs.declared.entries.PathEntry.{PathEntry}

-- The word has this number, or is None since the number is 2^64 or more.
abbrev pub FitsOrNone : Option ℕ → ℕ → Type 0
FitsOrNone word number = MatchOption word (2 ^ 64 ≤ number) (λ n. n ≡ number)

-- Whether the path p, if it is below the path q, is that of a present table entry whose span overlaps the range from `low` to
-- `high`.
abbrev pub in_range_if_below : (L : ℕ) → PathMap → (low high : ℕ) → (q p : List ℕ) → Bool
in_range_if_below L paths low high q p = not (is_below q p) || in_range L paths low high p

-- The frames of the tables that entries at some paths name, as far as a clean up of the range from `low` to `high` removes these
-- entries.
abbrev pub frames : (L : ℕ) → PathMap → (low high : ℕ) → List (List ℕ) → List ℕ
frames L paths low high ps = map (λ q. address (entry paths q)) (filter (is_removed L paths low high) ps)

-- Whether a clean up of the range from `low` to `high` keeps the entry of an item.
abbrev pub stays : (L : ℕ) → PathMap → (low high : ℕ) → PathEntry → Bool
stays L paths low high item = not (is_removed L paths low high item.path.items)

-- The path map after a clean up, and the frames that it frees, as the model has them.
abbrev pub plain_clean_up : PathMap → (back : List ℕ) → AfterCleanUp
plain_clean_up paths back = record { paths = paths; back = back }
