-- The worked examples of refusals, by computation.
use Rattle.std.proofs.Common.{◌≡◌, [], ◌∷◌, None, refl}
use Rattle.x86_64_model.specs.Entry.{has, used, address}
use Rattle.x86_64_model.specs.PageRules.{unmap, translate_page, set_flags}
use Rattle.x86_64_model.specs.Refusal.{Refused, PageNotMapped, ParentEntryHugePage, first_stop}
use Rattle.x86_64_model.specs.Window.{entry_at}
use Rattle.x86_64_model.specs.Laws.Worked.{nothing_mapped, large_mapped, three_tables, huge_page_absent, huge_below_absent, huge_absent, FirstRefusals}
use Rattle.x86_64_model.proofs.Lemmas.Paths.Puts.{entry-put, entry-empty}

unmap_absent : unmap 4 (entry_at None huge_page_absent) huge_page_absent (0 ∷ 0 ∷ 0 ∷ 1 ∷ []) ≡ record { paths = huge_page_absent; answer = Refused PageNotMapped }
unfolding unmap first_stop huge_page_absent three_tables nothing_mapped entry_at used has address
unmap_absent = simp entry-put

unmap_table : unmap 4 (entry_at None three_tables) three_tables (0 ∷ 0 ∷ 0 ∷ []) ≡ record { paths = three_tables; answer = Refused ParentEntryHugePage }
unfolding unmap first_stop three_tables nothing_mapped entry_at used has address
unmap_table = simp entry-put

translate_unused : translate_page 4 (entry_at None three_tables) (0 ∷ 0 ∷ 1 ∷ []) ≡ Refused PageNotMapped
unfolding translate_page first_stop three_tables nothing_mapped entry_at used has address
translate_unused = simp (entry-put, entry-empty)

parent_first : unmap 4 (entry_at None large_mapped) large_mapped (0 ∷ 0 ∷ 1 ∷ 1 ∷ []) ≡ record { paths = large_mapped; answer = Refused ParentEntryHugePage }
unfolding unmap first_stop large_mapped nothing_mapped entry_at used has address
parent_first = simp entry-put

shortest_parent : unmap 4 (entry_at None huge_below_absent) huge_below_absent (0 ∷ 0 ∷ 0 ∷ []) ≡ record { paths = huge_below_absent; answer = Refused PageNotMapped }
unfolding unmap first_stop huge_below_absent nothing_mapped entry_at used has address
shortest_parent = simp entry-put

absent_parent : unmap 4 (entry_at None huge_absent) huge_absent (0 ∷ 0 ∷ 0 ∷ []) ≡ record { paths = huge_absent; answer = Refused PageNotMapped }
unfolding unmap first_stop huge_absent nothing_mapped entry_at used has address
absent_parent = simp entry-put

level_first : set_flags 4 (entry_at None nothing_mapped) nothing_mapped 2 (0 ∷ 0 ∷ 0 ∷ []) 3 ≡ record { paths = nothing_mapped; answer = Refused ParentEntryHugePage }
unfolding set_flags
level_first = refl

pub first_refusals : FirstRefusals
first_refusals = record {
  unmap_absent = unmap_absent;
  unmap_table = unmap_table;
  translate_unused = translate_unused;
  parent_first = parent_first;
  shortest_parent = shortest_parent;
  absent_parent = absent_parent;
  level_first = level_first;
}
