-- Proofs of laws that the impls of mappers need. They are here since a `ghost use` can't name a file of proofs/.
use Rattle.std.proofs.Common.{inl, inr, refl}
use Rattle.std.proofs.lemmas.Bool.{and_parts, false≢true}
use Rattle.std.specs.Prelude.{ℕ, Bool, true, false, cond, None, IsSome}
use Rattle.std.specs.FinMap.{get}
use Rattle.x86_64_model.specs.Entry.{address, is_frame}
use Rattle.x86_64_model.specs.Laws.Pairs.{IsAdded}
use Rattle.x86_64_model.proofs.Lemmas.Entries.Bits.{same_frame}
use Rattle.x86_64_model.proofs.Lemmas.Hierarchies.Memories.{identity_is_mapping}
use Rattle.x86_64_model.specs.Memory.{IsMapping, Memory, Places, identity_places, words_of}
use Rattle.x86_64_mappers.specs.Offsets.{is_reached, offset_places}

-- A mapper may add no flags to a new table entry.
pub no_flags : IsAdded 0
unfolding address
no_flags = record { adds = record { no_address = refl; not_huge = refl }; few = inl refl }

-- A mapper may add PRESENT and WRITABLE to a new table entry.
pub present_writable : IsAdded 3
unfolding address
present_writable = record { adds = record { no_address = refl; not_huge = refl }; few = inr refl }

-- The places by frame number are those of a frame mapping.
pub numbers_are_mapping : IsMapping identity_places
numbers_are_mapping = identity_is_mapping

-- The places of frames in a memory that is mapped at an offset are those of a frame mapping.
pub offset_is_mapping : (L offset : ℕ) → IsMapping (offset_places L offset)
offset_is_mapping L offset = record {
  frames = λ f h. (and_parts (is_frame f) (is_reached L offset f) h).0;
  distinct = λ f g a b e. same_frame f g (and_parts (is_frame f) (is_reached L offset f) a).0 (and_parts (is_frame g) (is_reached L offset g) b).0 e;
}

-- A frame with a table has its place in the memory.
pub place_there : (places : Places) (memory : Memory) (frame : ℕ) → IsSome (words_of memory places frame) → IsSome (get memory (places.place frame))
place_there places memory frame = by (places.covers frame)
  where
    by : (c : Bool) → IsSome (cond c (get memory (places.place frame)) None) → IsSome (get memory (places.place frame))
    by true there = there
    by false there = absurd (false≢true there)
