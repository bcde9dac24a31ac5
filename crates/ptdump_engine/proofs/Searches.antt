-- Searches: the lines for the mappings that lead to an address, and whether there are any.
use Rattle.std.proofs.Common.{◌≡◌, ◌∙◌, ◌+◌, ◌-◌, ◌≤◌, ◌++◌, ◌||◌, ℕ, Bool, true, false, cond, List, [], ◌∷◌, filter, refl, ap}
use Rattle.std.proofs.Math.Nat.{mod-eq_of_lt}
use Rattle.std.specs.List.{flat_map, list_any, AllByRecursion}
use Rattle.x86_64_model.specs.Mappings.{Mapping, mappings_of}
use Rattle.x86_64_model.specs.Memory.{Words}
use Rattle.x86_64_model.specs.Position.{position_count, raw}
use Rattle.x86_64_model.proofs.Lemmas.Mappings.Placed.{mappings_fit}
use Rattle.x86_64_mappings.specs.Wanted.{leads_to}
use Rattle.ptdump_check.proofs.Asked.{inside}
use Rattle.ptdump_engine.specs.Reports.{address_line, addresses_text}
use Rattle.ptdump_json.specs.Lines.{found_line}
use Rattle.ptdump_json.specs.declared.options.Form.{Form}
use Rattle.ptdump_engine.specs.private.Finding.{some_there, visited_lines}

same_lines : (form : Form) (L a : ℕ) (ms : List Mapping) → AllByRecursion (λ m. m.start + m.size ≤ position_count L) ms
    → visited_lines form L a (filter (leads_to a) ms) ≡ flat_map (address_line form L a) (filter (leads_to a) ms)
same_lines form L a [] fit = refl
same_lines form L a (m ∷ ms) fit = by (leads_to a m) refl (same_lines form L a ms fit.1)
  where
    by : (b : Bool) → leads_to a m ≡ b
        → visited_lines form L a (filter (leads_to a) ms) ≡ flat_map (address_line form L a) (filter (leads_to a) ms)
        → visited_lines form L a (cond b (m ∷ filter (leads_to a) ms) (filter (leads_to a) ms))
        ≡ flat_map (address_line form L a) (cond b (m ∷ filter (leads_to a) ms) (filter (leads_to a) ms))
    by true leads rest = ap (λ p. found_line form a (raw L p) m.rights ++ visited_lines form L a (filter (leads_to a) ms))
        (mod-eq_of_lt (inside a m (position_count L) leads fit.0))
        ∙ ap (λ lines. address_line form L a m ++ lines) rest
    by false leads rest = rest

pub lines_found : (form : Form) (L : ℕ) (T : Words) (root a : ℕ)
    → visited_lines form L a (filter (leads_to a) (mappings_of L T root)) ≡ addresses_text form L T root a
unfolding addresses_text
lines_found form L T root a = same_lines form L a (mappings_of L T root) (mappings_fit L T root)

-- a mapping is found if and only if one leads to the address
pub some_found : (a : ℕ) (ms : List Mapping) → some_there (filter (leads_to a) ms) ≡ list_any (leads_to a) ms
some_found a [] = refl
some_found a (m ∷ ms) = by (leads_to a m) (some_found a ms)
  where
    by : (b : Bool) → some_there (filter (leads_to a) ms) ≡ list_any (leads_to a) ms → some_there (cond b (m ∷ filter (leads_to a) ms) (filter (leads_to a) ms)) ≡ (b || list_any (leads_to a) ms)
    by true same = refl
    by false same = same
