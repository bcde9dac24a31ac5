-- Search: which segment has a frame, by stretches of frames in order of their addresses.
use Rattle.std.specs.Prelude.{◌≡◌, ℕ, ◌≤◌, ◌<◌, ◌^◌, ◌+◌, ◌-◌, cond, List, [], ◌∷◌, nat_le, Option, None, ⊤}
use Rattle.std.specs.List.{find, fold}
use Rattle.std.specs.List.Sorted.{IsNonDecreasingBy}
use Rattle.std.specs.Option.{option_map, option_or}
use Rattle.x86_64_dump.specs.Dump.{has_frame}
use Rattle.x86_64_dump.specs.declared.search.Place.{Place}
use Rattle.x86_64_dump.specs.declared.search.Stretch.{Stretch}
use Rattle.x86_64_dump.specs.declared.segment.Segment.{Segment}

-- Where a segment begins, in physical memory and in the file.
abbrev pub place_of : Segment → Place
place_of segment = record { address = segment.address; offset = segment.offset }

-- The offset in the file of an address in the segment that begins at a place.
abbrev pub offset_from : (address : ℕ) → Place → ℕ
offset_from address place = place.offset + (address - place.address)

-- The place of an address after one more stretch: the stretch's if it doesn't begin after the address, or else the place before.
abbrev pub place_after : (address : ℕ) → (before : Option Place) → Stretch → Option Place
place_after address before stretch = cond (nat_le stretch.from address) stretch.place before

-- The place of an address: that of the last of the stretches that doesn't begin after it, or None.
abbrev pub place_at : List Stretch → (address : ℕ) → Option Place
place_at stretches address = fold (place_after address) None stretches

-- The offset in the file of an address by the stretches, or None if they have no place for it.
abbrev pub offset_at : List Stretch → (address : ℕ) → Option ℕ
offset_at stretches address = option_map (offset_from address) (place_at stretches address)

-- The stretches are in order of their addresses, and none begins before this address.
abbrev pub BeginFrom : (address : ℕ) → List Stretch → Type 0
BeginFrom address [] = ⊤
BeginFrom address (stretch ∷ stretches) = (address ≤ stretch.from) × BeginFrom stretch.from stretches

-- The stretches are in order of their addresses, each compared with the one before it.
abbrev pub AreInOrder : List Stretch → Type 0
AreInOrder stretches = BeginFrom 0 stretches

-- The stretches are in order of their addresses, any two compared by their indices.
abbrev pub AreSorted : List Stretch → Type 0
AreSorted stretches = IsNonDecreasingBy (λ stretch. stretch.from) stretches

-- By the stretches, the place of each frame is that of the first of the segments that has the frame, in a file of this length.
abbrev pub FindFirst : (file_length : ℕ) → List Segment → List Stretch → Type 0
FindFirst file_length segments stretches = (frame : ℕ) → frame < 2 ^ 52 →
    place_at stretches frame ≡ option_map place_of (find (has_frame file_length frame) segments)

-- By the merged stretches, the place of an address is that by those in front, or that by those in the back if they have none.
abbrev pub AreMerged : (front back merged : List Stretch) → Type 0
AreMerged front back merged = (address : ℕ) → place_at merged address ≡ option_or (place_at front address) (place_at back address)
