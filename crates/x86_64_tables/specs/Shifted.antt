-- The mapping of the frames from a first one on to the places from 0 on.
use Rattle.std.specs.Prelude.{◌/◌, ◌-◌, ◌&&◌, ℕ, nat_le}
use Rattle.std.proofs.Common.{arith}
use Rattle.std.proofs.lemmas.Bool.{and_parts, leb-true}
use Rattle.x86_64_model.specs.Entry.{is_frame}
use Rattle.x86_64_model.proofs.Lemmas.Entries.Bits.{same_frame}
use Rattle.x86_64_model.specs.Memory.{IsMapping, Places}

-- The mapping of each frame, from the one with number `first` on, to the place with the frame's number minus `first`. Other
-- frames have no place.
abbrev pub shifted_places : (first : ℕ) → Places
shifted_places first = record { covers = λ f. is_frame f && nat_le first (f / 4096); place = λ f. f / 4096 - first }

-- The mapping of the frames from a first one on to the places from 0 on covers only frames, and distinct ones have distinct
-- places.
pub shifted_is_mapping : (first : ℕ) → IsMapping (shifted_places first)
shifted_is_mapping first = record {
  frames = λ f h. (and_parts (is_frame f) (nat_le first (f / 4096)) h).0;
  distinct = λ f g a b e.
      let p = and_parts (is_frame f) (nat_le first (f / 4096)) a in
      let q = and_parts (is_frame g) (nat_le first (g / 4096)) b in
      let l = leb-true first (f / 4096) p.1 in
      let m = leb-true first (g / 4096) q.1 in
      same_frame f g p.0 q.0 (omega (arith, e, l, m));
}
