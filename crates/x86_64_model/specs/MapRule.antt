-- The effect and the answer of a map call, stated as one rule. A page is named by the path of its entry, and a frame by its
-- address.
use Rattle.std.specs.Prelude.{ℕ, ◌&&◌, nat_lt, not, cond, List, [], length, drop, filter, fold, zip, bit_and, bit_or}
use Rattle.std.specs.List.{list_any}
use Rattle.x86_64_model.specs.Entry.{used, huge}
use Rattle.x86_64_model.specs.Path.{parents, is_small}
use Rattle.x86_64_model.specs.PathMap.{PathMap, entry, put}
use Rattle.x86_64_model.specs.Refusal.{Answer, Done, Refused, ParentEntryHugePage, PageAlreadyMapped, FrameAllocationFailed}

-- The path map with these flags added to the entries at these paths.
abbrev pub with_flags : PathMap → (given : ℕ) → List (List ℕ) → PathMap
with_flags paths given ps = fold (λ m p. put m p (bit_or (entry m p) given)) paths ps

-- The path map with entries at these paths that name new tables, in these frames in order, as far as they go, and have the given
-- flags.
abbrev pub with_tables : PathMap → (given : ℕ) → List (List ℕ) → (frames : List ℕ) → PathMap
with_tables paths given ps frames = fold (λ m x. put m x.0 (bit_or x.1 given)) paths (zip ps frames)

-- What a map call leaves: the path map, the rest of the supply of frames, and the answer.
pub record AfterMap : Type 0 where
  pub paths : PathMap
  pub supply : List ℕ
  pub answer : Answer

-- The effect and the answer of a map of the page at path q, whose parents are ps, by the entry e, which names the frame. The supply
-- is the frames to hand out, in order. Each used parent gets the parent flags. A parent with HUGE_PAGE refuses the call, and
-- nothing else changes. Otherwise the unused parents become new tables in the first frames of the supply, as far as it goes, with
-- the parent flags and the added flags. The call is refused if the supply runs out or the entry at q is used, otherwise e is
-- written there.
unfoldable pub map_rule : PathMap → (supply : List ℕ) → (parent_flags added_flags : ℕ) → (ps : List (List ℕ)) → (q : List ℕ) (e frame : ℕ) → AfterMap
map_rule paths supply parent_flags added_flags ps q e frame =
    let marked = with_flags paths parent_flags (filter (λ p. used (entry paths p)) ps) in
    let missing = filter (λ p. not (used (entry paths p))) ps in
    cond (list_any (λ p. used (entry paths p) && huge (entry paths p)) ps)
    (record { paths = marked; supply = supply; answer = Refused ParentEntryHugePage })
    (let built = with_tables marked (bit_or parent_flags added_flags) missing supply in
    cond (nat_lt (length supply) (length missing))
    (record { paths = built; supply = []; answer = Refused FrameAllocationFailed })
    (cond (used (entry paths q))
    (record { paths = built; supply = drop (length missing) supply; answer = Refused (PageAlreadyMapped frame) })
    (record { paths = put built q e; supply = drop (length missing) supply; answer = Done frame })))

-- The entry of a page that is mapped at a path: the frame and the flags, with HUGE_PAGE for a 2MiB or 1GiB page.
abbrev pub leaf_entry : (L : ℕ) → List ℕ → (frame flags : ℕ) → ℕ
leaf_entry L q frame given = bit_or frame (cond (is_small L q) given (bit_or given 0x80))

-- The effect and the answer of a map of the page at path q to a frame, with these flags and parent flags, and L levels.
abbrev pub map_call : (L : ℕ) → PathMap → (supply : List ℕ) → (parent_flags added_flags : ℕ) → (q : List ℕ) (frame flags : ℕ) → AfterMap
map_call L paths supply parent_flags added_flags q frame given = map_rule paths supply parent_flags added_flags (parents q) q (leaf_entry L q frame given) frame

-- The parent flags of `map_to`: those of PRESENT, WRITABLE and USER_ACCESSIBLE that the page's flags have.
abbrev pub parent_part : (flags : ℕ) → ℕ
parent_part given = bit_and given 0x7
