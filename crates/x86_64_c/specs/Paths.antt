-- Accesses by the entries of a path that the caller has read.
use Rattle.std.specs.Prelude.{◌≡◌, ℕ, ◌==◌, ◌&&◌, ◌||◌, nat_le, List, map, Option}
use Rattle.std.specs.Option.{option_or}
use Rattle.x86_64_access.specs.Paths.{access_along, step_words}
use Rattle.x86_64_mappings.specs.declared.walk_entries.WalkEntry.{WalkEntry}
use Rattle.x86_64_model.specs.Access as model
use Rattle.x86_64_model.specs.Hierarchy.{Hierarchy}
use Rattle.x86_64_c.specs.Accesses.{WritesOutcome, access_asked, access_outcome, given_controls, wrong_access_request}
use Rattle.x86_64_c.specs.Arguments.{unless, position_of}
use Rattle.x86_64_c.specs.Entries.{steps_walked}
use Rattle.x86_64_c.specs.Status as status
use Rattle.x86_64_c.specs.declared.accesses.AccessRequest.{AccessRequest}
use Rattle.x86_64_c.specs.declared.accesses.Controls.{Controls}
use Rattle.x86_64_c.specs.declared.accesses.Outcome.{Outcome}

-- What is wrong with the request for an access by so many entries with L levels, or else with the number of entries. There is at least
-- the root's, and at most one for each level.
abbrev pub wrong_path : (L count : ℕ) → Controls → AccessRequest → Option ℕ
wrong_path L count c request = option_or (wrong_access_request L c request) (unless (nat_le 1 count && nat_le count L) status.bad_array)

-- What is wrong with the arguments of an access by so many entries: the number of levels, or else the request or the number of entries.
abbrev pub wrong_path_call : (levels count : ℕ) → Controls → AccessRequest → Option ℕ
wrong_path_call levels count c request = option_or (unless ((levels == 4) || (levels == 5)) status.bad_levels) (wrong_path levels count c request)

-- The words of entries.
abbrev pub words_of_entries : List WalkEntry → List ℕ
words_of_entries entries = map (λ e. e.word) entries

-- What comes of the access that a request asks for, if the processor reads the words of these entries one after another, by so many
-- levels of tables below a root.
abbrev pub path_outcome : (levels root : ℕ) → Controls → AccessRequest → List WalkEntry → model.Outcome
path_outcome levels root c request entries =
    access_along levels (given_controls c) root (position_of levels request.address) (access_asked request) (words_of_entries entries)

-- Whatever the root is, what comes of the access along the entries was written, and the status is that of it.
abbrev pub WritesAlong : (levels : ℕ) → Controls → AccessRequest → List WalkEntry → (status : ℕ) → (after : Outcome) → Type 0
WritesAlong levels c request entries s after = (root : ℕ) → WritesOutcome (path_outcome levels root c request entries) s after

-- For each hierarchy of so many levels in which the page walk to the address reads the words of these entries, what comes of the access
-- there was written, and the status is that of it.
abbrev pub WritesWherever : (levels : ℕ) → Controls → AccessRequest → List WalkEntry → (status : ℕ) → (after : Outcome) → Type 0
WritesWherever levels c request entries s after = (h : Hierarchy (Unit {0})) → h.layout.levels ≡ levels
    → step_words (steps_walked h request.address) ≡ words_of_entries entries → WritesOutcome (access_outcome h c request) s after
