-- The worked examples of five levels, by computation.
use Rattle.std.proofs.Common.{◌≡◌, true, false, [], ◌∷◌, Some, None}
use Rattle.x86_64_model.specs.Memory.{words_of, identity_places}
use Rattle.x86_64_model.specs.Entry.{has, used, address, flags}
use Rattle.x86_64_model.specs.MapRule.{map_rule, map_call}
use Rattle.x86_64_model.specs.Refusal.{Done, Refused, FrameAllocationFailed}
use Rattle.x86_64_model.specs.Position.{index}
use Rattle.x86_64_model.specs.Translation.{translate, translate_on, Mapped as IsMapped}
use Rattle.x86_64_model.specs.PageWalk.{walk_on, page_walk}
use Rattle.x86_64_model.specs.Window.{entry_at}
use Rattle.x86_64_model.specs.Laws.Worked.{nothing_mapped, three_frames, four_frames, three_tables, small_mapped_5, small_memory_5, large_mapped_5, huge_memory, SmallMapFive, LargeMapFive, HugeBelowTheRoot}
use Rattle.x86_64_model.proofs.Lemmas.Paths.Puts.{entry-put, entry-empty}
use Rattle.x86_64_model.proofs.Lemmas.Worked.FourLevels.{get_it}

map_small : map_call 5 nothing_mapped four_frames 3 0 (0 ∷ 0 ∷ 0 ∷ 0 ∷ 1 ∷ []) 0x6000 3 ≡ record { paths = small_mapped_5; supply = []; answer = Done 0x6000 }
unfolding map_rule small_mapped_5 three_tables nothing_mapped used
map_small = simp entry-empty

small_translates : translate 5 (entry_at None small_mapped_5) 0x1abc ≡ IsMapped 0x1000 0x6000 0xabc 3
unfolding translate translate_on small_mapped_5 three_tables nothing_mapped entry_at used has index address flags
small_translates = simp entry-put

small_walked : page_walk 5 (words_of small_memory_5 identity_places) 0x1000 0x1abc ≡ Some (record { address = 0x6abc; write = true; user = false })
unfolding page_walk walk_on small_memory_5 has index address
small_walked = simp get_it

-- one frame too few
short_of_frames : map_call 5 nothing_mapped three_frames 3 0 (0 ∷ 0 ∷ 0 ∷ 0 ∷ 1 ∷ []) 0x6000 3 ≡ record { paths = three_tables; supply = []; answer = Refused FrameAllocationFailed }
unfolding map_rule three_tables nothing_mapped used
short_of_frames = simp entry-empty

pub small : SmallMapFive
small = record { left = map_small; translated = small_translates; walked = small_walked; short_of_frames = short_of_frames }

pub large : LargeMapFive
unfolding map_rule large_mapped_5 nothing_mapped used
large = simp entry-empty

huge_of_four : page_walk 4 (words_of huge_memory identity_places) 0x1000 0x1abc ≡ Some (record { address = 0x1abc; write = true; user = false })
unfolding page_walk walk_on huge_memory has index address
huge_of_four = simp get_it

huge_of_five : page_walk 5 (words_of huge_memory identity_places) 0x1000 0x1abc ≡ None
unfolding page_walk walk_on huge_memory has index address
huge_of_five = simp get_it

pub huge_below_root : HugeBelowTheRoot
huge_below_root = record { four_levels = huge_of_four; five_levels = huge_of_five }
