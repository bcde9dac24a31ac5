-- The visited mappings are those of the loaded tables.
use Rattle.std.proofs.Common.{◌≡◌, ◌∙◌, ◌+◌, ◌-◌, ◌≤◌, ◌<◌, ℕ, true, List, [], ◌∷◌, None, filter, nat_le, nat_lt, refl, ap, arith}
use Rattle.std.proofs.lemmas.Bool.{ltb-true, leb-true, and_parts}
use Rattle.x86_64_model.specs.Mappings.{Mapping, mappings_of}
use Rattle.x86_64_model.specs.Memory.{identity_places}
use Rattle.x86_64_mappings.specs.Wanted.{asked_mappings, asked_of, is_wanted, leads_to}
use Rattle.ptdump_check.specs.Loaded.{IsLoadedDump, words_loaded}
use Rattle.ptdump_check.specs.declared.loaded.Loaded.{Loaded}

-- all mappings are wanted
pub all_wanted : (ms : List Mapping) → filter (is_wanted None) ms ≡ ms
all_wanted [] = refl
all_wanted (m ∷ ms) = ap (λ rest. m ∷ rest) (all_wanted ms)

-- the mappings of loaded summaries are those of its tables
pub all_asked : {X : Type 0} (loaded : Loaded X) → IsLoadedDump loaded → (L root : ℕ)
    → asked_mappings (asked_of (λ memory. memory) (λ mapping. identity_places) loaded.summaries.now) L root ≡ mappings_of L (words_loaded loaded) root
all_asked loaded is L root =
    ap (λ wanted. asked_mappings (asked_of (λ memory. memory) (λ mapping. identity_places) (record loaded.summaries.now { wanted = wanted })) L root) is.all
    ∙ ap (λ memory. asked_mappings (asked_of (λ memory. memory) (λ mapping. identity_places) (record loaded.summaries.now { memory = memory; wanted = None })) L root) is.memory
    ∙ all_wanted (mappings_of L (words_loaded loaded) root)

-- ---- searches

-- the virtual address in a mapping that leads to a physical address is an address of the mapping
pub inside : (a : ℕ) (m : Mapping) (count : ℕ) → leads_to a m ≡ true → m.start + m.size ≤ count → m.start + (a - m.frame) < count
inside a m count leads fits =
    let parts = and_parts (nat_le m.frame a) (nat_lt a (m.frame + m.size)) leads in
    let low : m.frame ≤ a = leb-true m.frame a parts.0 in
    let high : a < m.frame + m.size = ltb-true a (m.frame + m.size) parts.1 in
    omega arith
