-- How an operation on a hierarchy in the caller's tables is entered.
use Rattle.std.specs.Prelude.{◌≡◌, ℕ, List, length, Option, None}
use Rattle.std.specs.Option.{option_or}
use Rattle.x86_64_model.specs.Hierarchy.{Hierarchy}
use Rattle.x86_64_c.specs.Arguments.{bad_hierarchy, hierarchy_in}
use Rattle.x86_64_c.specs.declared.arguments.Hierarchy.{Hierarchy as Given}

-- What is wrong with a hierarchy in an array of so many tables, or else with an operation's own arguments, by its rule for the
-- numbers of levels, of tables and of entries of its array.
abbrev pub wrong_call : (wrong : (levels tables room : ℕ) → Option ℕ) → Given → (tables room : ℕ) → Option ℕ
wrong_call wrong h n room = option_or (bad_hierarchy h n) (wrong h.levels n room)

-- An operation may be entered: if no argument is wrong, its condition on the hierarchy and the array holds.
abbrev pub MayEnter : {E : Type 0} → (wrong : (levels tables room : ℕ) → Option ℕ) → (may : Hierarchy (Unit {0}) → List E → Type 0) → Given
    → (tables : List (List ℕ)) → (array : List E) → Type 0
MayEnter wrong may h tables array = wrong_call wrong h (length tables) (length array) ≡ None → may (hierarchy_in h tables) array
