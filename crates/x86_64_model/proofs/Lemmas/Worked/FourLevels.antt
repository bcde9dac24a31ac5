-- The worked examples of four levels, by computation.
use Rattle.std.proofs.Common.{◌≡◌, ◌≢◌, ℕ, true, false, cond, List, [], ◌∷◌, Some, None, ap, replicate}
use Rattle.std.specs.FinMap.{get, insert, get-insert}
use Rattle.std.specs.Cmp.{nat_cmp_total}
use Rattle.std.specs.Ordering.{nat_cmp, eq_by_cmp}
use Rattle.x86_64_model.specs.Memory.{Memory, word, words_of, identity_places}
use Rattle.x86_64_model.specs.Entry.{has, used, address, flags}
use Rattle.x86_64_model.specs.PathMap.{PathMap, put, table_at, table_of}
use Rattle.x86_64_model.specs.MapRule.{map_rule, map_call}
use Rattle.x86_64_model.specs.PageRules.{update_flags}
use Rattle.x86_64_model.specs.Refusal.{Done, Refused, ParentEntryHugePage, first_stop}
use Rattle.x86_64_model.specs.Position.{index}
use Rattle.x86_64_model.specs.Translation.{translate, translate_on, Mapped as IsMapped}
use Rattle.x86_64_model.specs.PageWalk.{walk_on, page_walk}
use Rattle.x86_64_model.specs.Window.{entry_at}
use Rattle.x86_64_model.specs.Validity.{IsValid}
use Rattle.x86_64_model.specs.Laws.Worked.{nothing_mapped, three_frames, small_mapped, small_memory, large_mapped, shared_table_image, SmallMap, PageWithoutPresent, LargeMap}
use Rattle.x86_64_model.proofs.Lemmas.Paths.Puts.{entry-put, entry-empty}

map_small : map_call 4 nothing_mapped three_frames 3 0 (0 ∷ 0 ∷ 0 ∷ 1 ∷ []) 0x5000 3 ≡ record { paths = small_mapped; supply = []; answer = Done 0x5000 }
unfolding map_rule small_mapped nothing_mapped used
map_small = simp entry-empty

small_translates : translate 4 (entry_at None small_mapped) 0x1abc ≡ IsMapped 4096 0x5000 0xabc 3
unfolding translate translate_on small_mapped nothing_mapped entry_at used has index address flags
small_translates = simp entry-put

-- a 2MiB page
map_large : map_call 4 nothing_mapped three_frames 1 0 (0 ∷ 0 ∷ 1 ∷ []) 0x400000 1 ≡ record { paths = large_mapped; supply = 0x4000 ∷ []; answer = Done 0x400000 }
unfolding map_rule large_mapped nothing_mapped used
map_large = simp entry-empty

large_translates : translate 4 (entry_at None large_mapped) 0x23_4567 ≡ IsMapped 0x20_0000 0x400000 0x34567 0x81
unfolding translate translate_on large_mapped nothing_mapped entry_at used has index address flags
large_translates = simp entry-put

-- a 4KiB page below it. The flags are added to the huge entry that refuses
pub map_below_huge : map_call 4 large_mapped (0x4000 ∷ []) 3 0 (0 ∷ 0 ∷ 1 ∷ 1 ∷ []) 0x9000 3
    ≡ record { paths = put (put (put large_mapped (0 ∷ []) 0x2003) (0 ∷ 0 ∷ []) 0x3003) (0 ∷ 0 ∷ 1 ∷ []) 0x400083; supply = 0x4000 ∷ []; answer = Refused ParentEntryHugePage }
unfolding map_rule large_mapped nothing_mapped used has
map_below_huge = simp entry-put

apart_0_1 : ◌≢◌ {A = List ℕ} (0 ∷ []) (1 ∷ [])
apart_0_1 h = cc

pub shared_table_invalid : (M : PathMap) → IsValid 4 shared_table_image 0x1000 M → ⊥
unfolding shared_table_image word table_of used has address
shared_table_invalid M valid =
    let at_0 : table_at 4 0x1000 M (0 ∷ []) ≡ Some 0x2000 = ap (table_of 4 (0 ∷ [])) (valid.holds.entries [] 0) in
    let at_1 : table_at 4 0x1000 M (1 ∷ []) ≡ Some 0x2000 = ap (table_of 4 (1 ∷ [])) (valid.holds.entries [] 1) in
    apart_0_1 (valid.own_frames (0 ∷ []) (1 ∷ []) 0x2000 at_0 at_1)

-- the walk over the words of the first map
pub get_it : (m : Memory) (k : ℕ) (v : List ℕ) (q : ℕ) → get (insert m k v) q ≡ cond (eq_by_cmp nat_cmp q k) (Some v) (get m q)
get_it m k v q = get-insert nat_cmp_total m k v q

small_walked : page_walk 4 (words_of small_memory identity_places) 0x1000 0x1abc ≡ Some (record { address = 0x5abc; write = true; user = false })
unfolding page_walk walk_on small_memory has index address
small_walked = simp get_it

pub small : SmallMap
small = record { left = map_small; translated = small_translates; walked = small_walked }

-- the page without PRESENT
updated : update_flags 4 (entry_at None small_mapped) small_mapped (0 ∷ 0 ∷ 0 ∷ 1 ∷ []) 2
    ≡ record { paths = put small_mapped (0 ∷ 0 ∷ 0 ∷ 1 ∷ []) 0x5002; answer = Done 0x5000 }
unfolding update_flags first_stop small_mapped nothing_mapped entry_at used has address
updated = simp entry-put

updated_translates : translate 4 (entry_at None (put small_mapped (0 ∷ 0 ∷ 0 ∷ 1 ∷ []) 0x5002)) 0x1000 ≡ IsMapped 0x1000 0x5000 0 2
unfolding translate translate_on small_mapped nothing_mapped entry_at used has index address flags
updated_translates = simp entry-put

updated_walked : page_walk 4 (words_of (insert small_memory 4 (0 ∷ 0x5002 ∷ replicate 510 0)) identity_places) 0x1000 0x1000 ≡ None
unfolding page_walk walk_on small_memory has index address
updated_walked = simp get_it

pub without_present : PageWithoutPresent
without_present = record { left = updated; translated = updated_translates; walked = updated_walked }

pub large : LargeMap
large = record { left = map_large; translated = large_translates }
