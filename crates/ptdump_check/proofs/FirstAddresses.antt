-- What a search finds: nothing at first, and after all mappings the first address that leads to each frame.
use Rattle.std.proofs.Common.{◌≡◌, ◌∙◌, ◌+◌, ◌-◌, ◌≤◌, ◌++◌, ℕ, Bool, true, false, not, cond, List, [], ◌∷◌, filter, find, length, map, replicate, None, Option, Some, option_map, refl, ap, ap₂}
use Rattle.std.proofs.Math.Nat.{mod-eq_of_lt}
use Rattle.std.specs.List.{AllByRecursion}
use Rattle.x86_64_mappings.specs.Wanted.{leads_to}
use Rattle.x86_64_mappings.proofs.Tables.{asked_here}
use Rattle.x86_64_model.specs.Mappings.{Mapping, Rights, every_right, mappings_of}
use Rattle.x86_64_model.specs.Memory.{Words, identity_places, words_of}
use Rattle.x86_64_model.specs.Position.{position_count, raw}
use Rattle.x86_64_model.proofs.Lemmas.Mappings.Placed.{mappings_fit}
use Rattle.ptdump_check.specs.ReachedTables.{first_address}
use Rattle.x86_64_mappings.specs.Selections.{includes}
use Rattle.ptdump_check.specs.declared.reached.positions.Positions.{Positions}
use Rattle.ptdump_check.specs.declared.reached.search.Search.{Search}
use Rattle.ptdump_check.specs.private.Reaching.{address_leading_to, are_left_out, first_sought, first_address_of_each, kept, positions_of, searched, sought, sought_by, sought_in}
use Rattle.ptdump_check.proofs.Asked.{all_wanted, inside}

-- what no number has, only None has
pub only_none : (P : Option ℕ → Type 0) → ((a : ℕ) → P (Some a) → ⊥) → (o : Option ℕ) → P o → o ≡ None
only_none P never None h = refl
only_none P never (Some a) h = absurd (never a h)

pub nothing_found : (L : ℕ) (frames : List ℕ) → replicate (length frames) None ≡ first_address_of_each L frames []
nothing_found L [] = refl
nothing_found L (f ∷ fs) = ap (λ (os : List (Option ℕ)). None ∷ os) (nothing_found L fs)

abbrev Fits : (L : ℕ) → Mapping → Type 0
Fits L m = m.start + m.size ≤ position_count L

-- the addresses in the first of some mappings that leads to a frame
abbrev Same : (L f : ℕ) → List Mapping → Type 0
Same L f ms = option_map (address_leading_to L f) (find (leads_to f) ms) ≡ option_map (λ m. raw L (m.start + (f - m.frame))) (find (leads_to f) ms)

-- an address in a mapping that leads to a frame is an address of the mapping
same_address : (L f : ℕ) (ms : List Mapping) → AllByRecursion (Fits L) ms → Same L f ms
same_address L f [] fit = refl
same_address L f (m ∷ ms) fit = by (leads_to f m) refl (same_address L f ms fit.1)
  where
    by : (b : Bool) → leads_to f m ≡ b → Same L f ms
        → option_map (address_leading_to L f) (cond b (Some m) (find (leads_to f) ms)) ≡ option_map (λ m. raw L (m.start + (f - m.frame))) (cond b (Some m) (find (leads_to f) ms))
    by true leads rest = ap (λ p. Some (raw L p)) (mod-eq_of_lt (inside f m (position_count L) leads fit.0))
    by false leads rest = rest

fit_filtered : (L : ℕ) (p : Mapping → Bool) (ms : List Mapping) → AllByRecursion (Fits L) ms → AllByRecursion (Fits L) (filter p ms)
fit_filtered L p [] fit = tt
fit_filtered L p (m ∷ ms) fit = by (p m) (fit_filtered L p ms fit.1)
  where
    by : (b : Bool) → AllByRecursion (Fits L) (filter p ms) → AllByRecursion (Fits L) (cond b (m ∷ filter p ms) (filter p ms))
    by true rest = (fit.0, rest)
    by false rest = rest

first_found : (L : ℕ) (T : Words) (root : ℕ) (needed : Rights) (out : Option Positions) (frames : List ℕ) → first_address_of_each L frames (sought_by needed out (mappings_of L T root)) ≡ map (first_sought L T root needed out) frames
first_found L T root needed out [] = refl
first_found L T root needed out (f ∷ fs) = ap₂ (λ o os. o ∷ os)
    (same_address L f (sought_by needed out (mappings_of L T root))
    (fit_filtered L (λ m. not (are_left_out out (positions_of m))) (kept needed (mappings_of L T root)) (fit_filtered L (λ m. includes m.rights needed) (mappings_of L T root) (mappings_fit L T root))))
    (first_found L T root needed out fs)

-- the mappings that are sought below a root
sought_all : (L : ℕ) (search : Search) (root : ℕ) → sought_in search (record { frame = root; level = L; start = 0; above = every_right })
    ≡ sought search (mappings_of L (words_of search.memory.now identity_places) root)
sought_all L search root = ap (sought search) (asked_here (searched search) L root ∙ all_wanted (mappings_of L (words_of search.memory.now identity_places) root))

-- all is found after a visit of the root
pub all_found : (L : ℕ) (search : Search) (root : ℕ) → first_address_of_each L search.frames.now ([] ++ sought_in search (record { frame = root; level = L; start = 0; above = every_right }))
    ≡ map (first_sought L (words_of search.memory.now identity_places) root search.needed search.left_out) search.frames.now
all_found L search root = ap (first_address_of_each L search.frames.now) (sought_all L search root) ∙ first_found L (words_of search.memory.now identity_places) root search.needed search.left_out search.frames.now

-- where nothing is left out
all_kept : (ms : List Mapping) → filter (λ m. true) ms ≡ ms
all_kept [] = refl
all_kept (m ∷ ms) = ap (λ rest. m ∷ rest) (all_kept ms)

pub none_left_out : (L : ℕ) (T : Words) (root : ℕ) (needed : Rights) (frames : List ℕ) → map (first_sought L T root needed None) frames ≡ map (first_address L T root needed) frames
none_left_out L T root needed [] = refl
none_left_out L T root needed (f ∷ fs) = ap₂ (λ o os. o ∷ os)
    (ap (λ ms. option_map (λ m. raw L (m.start + (f - m.frame))) (find (leads_to f) ms)) (all_kept (kept needed (mappings_of L T root))))
    (none_left_out L T root needed fs)
