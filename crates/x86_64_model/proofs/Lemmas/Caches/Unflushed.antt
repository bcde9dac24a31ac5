-- The worked examples of what isn't flushed, by computation.
use Rattle.std.proofs.Common.{◌≡◌, true, [], ◌∷◌, Some, None, refl}
use Rattle.x86_64_model.specs.Memory.{word, words_of, identity_places}
use Rattle.x86_64_model.specs.Entry.{has, used, address}
use Rattle.x86_64_model.specs.PathMap.{put}
use Rattle.x86_64_model.specs.MapRule.{map_rule, map_call}
use Rattle.x86_64_model.specs.Position.{index, page_path}
use Rattle.x86_64_model.specs.PageWalk.{walk_on, page_walk}
use Rattle.x86_64_model.specs.Caches.{start, Table, Page, cached_item, walk_with_rights_from, walk_with_rights}
use Rattle.x86_64_model.specs.Flushing.{Invlpg, survives}
use Rattle.x86_64_model.specs.Laws.Worked.{nothing_mapped, small_mapped, small_memory}
use Rattle.x86_64_model.specs.Laws.Caches.{emptied_memory, reused_memory, writable_way, executable_page, uncleared_memory, UnflushedCleanUp, UnflushedNoExecute, UnclearedTable, ExchangedWords}
use Rattle.x86_64_model.proofs.Lemmas.Paths.Puts.{entry-put, entry-empty}
use Rattle.x86_64_model.proofs.Lemmas.Worked.FourLevels.{get_it}

cached : cached_item 4 (words_of emptied_memory identity_places) (start 0x1000) 0 ≡ Some (Table (writable_way (0 ∷ []) 0x2000))
unfolding word emptied_memory has address
cached = simp get_it

goes_on : walk_with_rights_from 4 (words_of reused_memory identity_places) 0x5000 3 (writable_way (0 ∷ []) 0x2000) ≡ Some (writable_way (0 ∷ 0 ∷ 0 ∷ 5 ∷ []) 0x9000)
unfolding walk_with_rights_from word reused_memory has index address
goes_on = simp get_it

nowhere : page_walk 4 (words_of reused_memory identity_places) 0x1000 0x5000 ≡ None
unfolding page_walk walk_on reused_memory has index address
nowhere = simp get_it

flushed : page_path 4 0x80_0000_5000 ≡ 1 ∷ 0 ∷ 0 ∷ 5 ∷ []
unfolding page_path index
flushed = refl

left : survives 4 (Invlpg 0x80_0000_5000) (Page (writable_way (0 ∷ 0 ∷ 0 ∷ 5 ∷ []) 0x9000)) ≡ true
unfolding page_path index
left = refl

pub unflushed_clean_up : UnflushedCleanUp
unfolding page_path index
unflushed_clean_up = record { cached = cached; none_recorded = λ low high. refl; goes_on = goes_on; recorded = refl; flushed = flushed; left = left; nowhere = nowhere }

before : walk_with_rights 4 (words_of small_memory identity_places) 0x1000 0x1000 ≡ Some executable_page
unfolding walk_with_rights_from word small_memory has index address
before = simp get_it

maps : (map_call 4 small_mapped [] 0x8000_0000_0000_0003 0 (0 ∷ 0 ∷ 0 ∷ 2 ∷ []) 0x6000 3).paths
    ≡ put (put (put (put small_mapped (0 ∷ []) 0x8000_0000_0000_2003) (0 ∷ 0 ∷ []) 0x8000_0000_0000_3003) (0 ∷ 0 ∷ 0 ∷ []) 0x8000_0000_0000_4003) (0 ∷ 0 ∷ 0 ∷ 2 ∷ []) 0x6003
unfolding map_rule small_mapped nothing_mapped used has
maps = simp (entry-put, entry-empty)

still : survives 4 (Invlpg 0x2000) (Page executable_page) ≡ true
unfolding page_path index
still = refl

pub unflushed_no_execute : UnflushedNoExecute
unfolding has page_path index
unflushed_no_execute = record { before = before; maps = maps; left = still; due = refl }

in_between : walk_with_rights 4 (words_of uncleared_memory identity_places) 0x1000 0x2000 ≡ Some (writable_way (0 ∷ 0 ∷ 0 ∷ 2 ∷ []) 0x7000)
unfolding walk_with_rights_from word uncleared_memory has index address
in_between = simp get_it

afterwards : page_walk 4 (words_of small_memory identity_places) 0x1000 0x2000 ≡ None
unfolding page_walk walk_on small_memory has index address
afterwards = simp get_it

pub uncleared_table : UnclearedTable
uncleared_table = record { in_between = in_between; afterwards = afterwards; none_due = refl }

pub exchanged_words : ExchangedWords
unfolding has used address
exchanged_words = record { taken = refl; copied = refl; protected = refl; brought = refl; writable_now = refl; table = refl }
