-- Laws of walks.
use Rattle.std.specs.Prelude.{◌≡◌, ℕ}
use Rattle.x86_64_model.specs.Memory.{Words}
use Rattle.x86_64_model.specs.PageWalk.{page_walk}
use Rattle.ptdump_json.specs.Walks.{arrival_of, walk_of}

-- A written walk arrives if and only if the page walk does, at its address and with its rights.
abbrev pub WrittenWalksArrive : Type 0
WrittenWalksArrive = (L : ℕ) (T : Words) (root p : ℕ) → arrival_of (walk_of L T root p) ≡ page_walk L T root p
