-- What calls return that read at an address.
use Rattle.std.specs.Prelude.{◌≡◌, ℕ, Option, Some, None, option_map}
use Rattle.x86_64_model.specs.Hierarchy.{Hierarchy, translation, walk}
use Rattle.x86_64_model.specs.PageWalk as model
use Rattle.x86_64_model.specs.Translation.{Translated, NotMapped, Mapped}
use Rattle.x86_64_c.specs.Arguments.{position_of}
use Rattle.x86_64_c.specs.Status as status
use Rattle.x86_64_c.specs.declared.reads.Translation.{Translation}
use Rattle.x86_64_c.specs.declared.reads.Walked.{Walked}

-- Where the page walk of a virtual address arrives, with the rights to write and of users.
abbrev pub walk_to : Hierarchy (Unit {0}) → (address : ℕ) → Option model.Walked
walk_to h a = walk h (position_of h.layout.levels a)

-- An arrival of a page walk as it is written for C: the physical address, and the rights to write and of users.
abbrev pub walked_out : model.Walked → Walked
walked_out w = record { address = w.address; write = w.write; user = w.user }

-- Where the page walk of a virtual address arrives, as it is written for C.
abbrev pub walked_to : Hierarchy (Unit {0}) → (address : ℕ) → Option Walked
walked_to h a = option_map walked_out (walk_to h a)

-- What a virtual address is mapped to, as the mapper translates it: also by an entry of level one without PRESENT.
abbrev pub translation_here : Hierarchy (Unit {0}) → (address : ℕ) → Translated
translation_here h a = translation h (position_of h.layout.levels a)

-- A translation as it is written for C, or none if the address is not mapped.
abbrev pub translation_written : Translated → Option Translation
translation_written NotMapped = None
translation_written (Mapped size frame offset flags) = Some (record { frame = frame; size = size; offset = offset; flags = flags })

-- What a virtual address is mapped to, as it is written for C.
abbrev pub translated_at : Hierarchy (Unit {0}) → (address : ℕ) → Option Translation
translated_at h a = translation_written (translation_here h a)

-- If something was found, it was written, and the status is OK. Otherwise nothing was written, and the status is NOT_MAPPED.
abbrev pub WritesIfFound : {X : Type 0} → Option X → (status : ℕ) → (before after : X) → Type 0
WritesIfFound None s before after = (s ≡ status.not_mapped) × (after ≡ before)
WritesIfFound (Some found) s before after = (s ≡ status.ok) × (after ≡ found)
