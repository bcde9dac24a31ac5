-- What comes of an access by entries that the caller has read, whatever the root is, and in each hierarchy.
use Rattle.std.proofs.Common.{◌≡◌, ◌&&◌, nat_le, Bool, true, false, None, Some, ◌<◌, ◌≤◌, ℕ, List, [], ◌∷◌, length, sym, ap, ◌∙◌, arith, subst}
use Rattle.std.proofs.Math.Bool.{and-false}
use Rattle.std.proofs.lemmas.Bool.{le-leb, lt-leb}
use Rattle.std.specs.Option.{option_or}
use Rattle.x86_64_access.proofs.Along.{is_access, roots_alike}
use Rattle.x86_64_mappings.specs.declared.walk_entries.WalkEntry.{WalkEntry}
use Rattle.x86_64_model.specs.Hierarchy.{words}
use Rattle.x86_64_c.specs.Accesses.{WritesOutcome, access_asked, access_outcome, given_controls, wrong_access}
use Rattle.x86_64_c.specs.Arguments.{position_of, unless, wrong_address}
use Rattle.x86_64_c.specs.Paths.{WritesAlong, WritesWherever, path_outcome, words_of_entries, wrong_path}
use Rattle.x86_64_c.specs.Status as status
use Rattle.x86_64_c.specs.declared.accesses.AccessRequest.{AccessRequest}
use Rattle.x86_64_c.specs.declared.accesses.Controls.{Controls}
use Rattle.x86_64_c.specs.declared.accesses.Outcome.{Outcome}

-- the root doesn't matter if there is an entry
pub any_root : (levels : ℕ) → 1 ≤ levels → (root other : ℕ) (c : Controls) (request : AccessRequest) (entries : List WalkEntry) → 1 ≤ length entries
    → path_outcome levels root c request entries ≡ path_outcome levels other c request entries
any_root levels l root other c request [] some = absurd (omega (arith, some))
any_root levels l root other c request (e ∷ entries) some =
    roots_alike levels l (given_controls c) root other (position_of levels request.address) (access_asked request) e.word (words_of_entries entries)

-- what was written is what comes of the access in each hierarchy in which a walk reads these words
pub wherever : (levels : ℕ) (c : Controls) (request : AccessRequest) (entries : List WalkEntry) (s : ℕ) (after : Outcome)
    → WritesAlong levels c request entries s after → WritesWherever levels c request entries s after
wherever levels c request entries s after along h is reads =
    let there : path_outcome h.layout.levels h.layout.root c request entries ≡ access_outcome h c request =
    is_access h.layout.levels (given_controls c) h.layout.root (position_of h.layout.levels request.address) (access_asked request) (words_of_entries entries) (words h) reads in
    subst (λ came. WritesOutcome came s after) (ap (λ L. path_outcome L h.layout.root c request entries) (sym is) ∙ there) (along h.layout.root)

-- what is wrong with a path, once the request is right
by_count : (levels count : ℕ) (c : Controls) (request : AccessRequest) → wrong_access c request ≡ None → wrong_address levels request.address ≡ None
    → (b : Bool) → (nat_le 1 count && nat_le count levels) ≡ b → wrong_path levels count c request ≡ unless b status.bad_array
by_count levels count c request access address b is =
    ap (λ x. option_or (option_or x (wrong_address levels request.address)) (unless (nat_le 1 count && nat_le count levels) status.bad_array)) access
    ∙ ap (λ x. option_or x (unless (nat_le 1 count && nat_le count levels) status.bad_array)) address ∙ ap (λ b. unless b status.bad_array) is

pub all_right : (levels count : ℕ) (c : Controls) (request : AccessRequest) → wrong_access c request ≡ None → wrong_address levels request.address ≡ None
    → 1 ≤ count → count ≤ levels → wrong_path levels count c request ≡ None
all_right levels count c request access address some within =
    by_count levels count c request access address true (λ i. le-leb 1 count some i && le-leb count levels within i)

pub none_is_bad : (levels count : ℕ) (c : Controls) (request : AccessRequest) → wrong_access c request ≡ None → wrong_address levels request.address ≡ None
    → count ≡ 0 → wrong_path levels count c request ≡ Some status.bad_array
none_is_bad levels count c request access address none =
    by_count levels count c request access address false (ap (λ n. nat_le 1 n && nat_le n levels) none)

pub many_are_bad : (levels count : ℕ) (c : Controls) (request : AccessRequest) → wrong_access c request ≡ None → wrong_address levels request.address ≡ None
    → levels < count → wrong_path levels count c request ≡ Some status.bad_array
many_are_bad levels count c request access address many =
    by_count levels count c request access address false (ap (λ b. nat_le 1 count && b) (lt-leb count levels many) ∙ and-false (nat_le 1 count))
