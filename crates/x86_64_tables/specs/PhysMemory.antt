-- A memory as a map from places to tables.
use Rattle.std.specs.Prelude.{◌≡◌, ℕ, List, [], ◌∷◌, Some, IsSome, length, replicate}
use Rattle.std.specs.Cmp.{Equal-is}
use Rattle.std.specs.FinMap.{empty, insert, get, keys, len, entries, len-entries, contains_key-keys, nat_cmp-IsAntisymmetric}
use Rattle.std.specs.List.{All, slice_get}
use Rattle.std.specs.Ordering.{nat_cmp, eq_by_cmp}
use Rattle.std.proofs.Common.{sym, ap, ◌∙◌, subst}
use Rattle.std.proofs.lemmas.List.{length-map}
use Rattle.std.proofs.lemmas.List.Folds.{Any-from_list_any, list_any_at}
use Rattle.std.proofs.lemmas.Option.{slice_get_within, get_or_from_slice_get}
use Rattle.x86_64_model.proofs.Lemmas.Hierarchies.Memories.{same_key}
use Rattle.x86_64_model.specs.Memory.{Memory}
use Rattle.x86_64_tables.specs.PageTable.{zero_words}

-- The memory that has the n-th of the tables at the n-th of the places, as far as there are both. If a place is there twice, its
-- first table counts.
abbrev pub tables_at : (places : List ℕ) → List (List ℕ) → Memory
tables_at [] tables = empty
tables_at (place ∷ places) [] = empty
tables_at (place ∷ places) (table ∷ tables) = insert (tables_at places tables) place table

-- The memory that has a table of unused entries, 512 words 0, at each of these places.
abbrev pub zero_tables_at : (places : List ℕ) → Memory
zero_tables_at places = tables_at places (replicate (length places) zero_words)

-- A memory has as many keys as places.
pub length_keys : (memory : Memory) → length (keys memory) ≡ len memory
length_keys memory = length-map (entries memory) (λ e. e.0) ∙ sym (len-entries memory)

-- The n-th key of a memory is a place that the memory has.
pub nth_place_there : (memory : Memory) (n place : ℕ) → slice_get (keys memory) n ≡ Some place → IsSome (get memory place)
nth_place_there memory n place is =
    contains_key-keys memory place ∙ list_any_at (eq_by_cmp nat_cmp place) (keys memory) n 0 (slice_get_within (keys memory) n place is)
    (ap (eq_by_cmp nat_cmp place) (get_or_from_slice_get (keys memory) n place 0 is) ∙ same_key place)

-- What holds for all keys of a memory holds for each place that the memory has.
pub all_places_there : (P : ℕ → Type 0) (memory : Memory) → All P (keys memory) → (place : ℕ) → IsSome (get memory place) → P place
all_places_there P memory all place there =
    let found = Any-from_list_any (eq_by_cmp nat_cmp place) (keys memory) (sym (contains_key-keys memory place) ∙ there) in
    let same : place ≡ found.1 = nat_cmp-IsAntisymmetric place found.1 ((Equal-is _).0 found.4) in
    subst P (found.3 ∙ sym same) (all found.0 found.1 found.2)
