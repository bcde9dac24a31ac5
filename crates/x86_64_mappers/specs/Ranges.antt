-- Ranges of pages of one size, from one page on, and their maps to as many frames, from one frame on.
use Rattle.std.specs.Prelude.{zero, suc, ◌≡◌, ◌+◌, ◌*◌, ◌^◌, ◌<◌, ℕ, true, List, [], ◌∷◌, ◌++◌, map, Result, Ok, Err}
use Rattle.std.specs.List.{range_with_len}
use Rattle.x86_64_model.specs.Arrivals.{Arrives}
use Rattle.x86_64_model.specs.Call.{Call, MapToWithTableFlags, Reply, Answered}
use Rattle.x86_64_model.specs.Machine.{replies_of, state_after}
use Rattle.x86_64_model.specs.Hierarchy.{Hierarchy, SupplyFits, MayMap, DoesMap, KeepsBut, Uses, allows_map, machine_of, state_of, path_of, walk}
use Rattle.x86_64_model.specs.Position.{span, position_count}
use Rattle.x86_64_model.specs.Refusal.{Refusal, Answer, Done, Refused}
use Rattle.x86_64_tables.specs.MapperAnswers.{map_refusal}
use Rattle.x86_64_mappers.specs.Supplies.{Supply}
use Rattle.x86_64_mappers.specs.declared.walk.map_range.MapRangeErrorIn.{MapRangeErrorIn}

-- A range of pages of a level that are mapped to frames: the position of the first page (an address counted without the
-- non-canonical gap), the address of the first frame, and the flags and parent flags of each map.
pub record MapRange : Type 0 where
  pub level : ℕ
  pub page : ℕ
  pub frame : ℕ
  pub flags : ℕ
  pub parent_flags : ℕ

-- The range of pages of a level, from a page on, that are mapped to the frames from a frame on with these flags and parent flags.
abbrev pub range_of : (level page frame flags parent_flags : ℕ) → MapRange
range_of level page frame given more = record { level = level; page = page; frame = frame; flags = given; parent_flags = more }

-- The position of page k of a range, counted from 0 (a position is an address counted without the non-canonical gap).
abbrev pub range_page : MapRange → (k : ℕ) → ℕ
range_page r k = r.page + k * span r.level

-- The address of the frame to which page k of a range is mapped, counted from 0.
abbrev pub range_frame : MapRange → (k : ℕ) → ℕ
range_frame r k = r.frame + k * span r.level

-- The call that maps page k of a range, counted from 0, to its frame.
abbrev pub map_at : MapRange → (k : ℕ) → Call
map_at r k = MapToWithTableFlags r.level (range_page r k) (range_frame r k) r.flags r.parent_flags

-- The calls that map the first `count` pages of a range, in order.
abbrev pub maps : MapRange → (count : ℕ) → List Call
maps r count = map (λ k. map_at r k) (range_with_len 0 count)

-- The replies of the maps of the first `count` pages of a range, in order, if all of them are done.
abbrev pub accepted_maps : MapRange → (count : ℕ) → List Reply
accepted_maps r count = map (λ k. Answered (Done (range_frame r k))) (range_with_len 0 count)

-- The first `count` pages of a range may be mapped: each page and its frame exist, and the map's own condition holds.
pub record MayMapRange {Lent : Type 0} (h : Hierarchy Lent) (r : MapRange) (count : ℕ) : Type 0 where
  pub pages : (k : ℕ) → k < count → range_page r k < position_count h.layout.levels
  pub frames : (k : ℕ) → k < count → range_frame r k < 2 ^ 52
  pub allowed : (k : ℕ) → k < count → allows_map h (path_of h r.level (range_page r k)) r.flags r.parent_flags ≡ true

-- A map that may be made was made, and `answers` is the list `before` with its answer at the end.
pub record IsNextMap {Lent : Type 0} (h : Hierarchy Lent) (supply : List ℕ) (call : Call) (before answers : List Reply) (after : Hierarchy Lent) (rest : List ℕ) : Type 0 where
  pub answer : Answer
  pub may : MayMap h supply call
  pub does : DoesMap h supply call answer after rest
  pub last : answers ≡ before ++ Answered answer ∷ []

-- The first `count` pages of a range were mapped one after another with these answers, and each map did what a single one does.
abbrev pub MapsEach : {Lent : Type 0} → Hierarchy Lent → (supply : List ℕ) → MapRange → (count : ℕ) → (answers : List Reply) → (after : Hierarchy Lent) → (rest : List ℕ) → Type 0
MapsEach h supply r zero answers after rest = (answers ≡ []) × (after ≡ h) × (rest ≡ supply)
MapsEach {Lent} h supply r (suc k) answers after rest = (now : Hierarchy Lent) × (left : List ℕ) × (before : List Reply) × MapsEach h supply r k before now left
    × IsNextMap now left (map_at r k) before answers after rest

-- What the maps of the first pages of a range, one after another, leave. Each does what a single map does. Replies and state are
-- the machine's for this list of calls, the rest of the supply fits, and only words in the root, the tables and the taken frames
-- change. Each page walk that arrived still arrives at the same address, loses no right, and gains only rights that the parent
-- flags grant.
pub record DoesMaps {Lent : Type 0} (h : Hierarchy Lent) (supply : List ℕ) (r : MapRange) (count : ℕ) (answers : List Reply) (after : Hierarchy Lent) (rest : List ℕ) : Type 0 where
  pub each : MapsEach h supply r count answers after rest
  pub replies : (take_back : List ℕ → ℕ → List ℕ) → replies_of (machine_of h.layout take_back) (state_of h supply) (maps r count) ≡ answers
  pub state : (take_back : List ℕ → ℕ → List ℕ) → state_after (machine_of h.layout take_back) (state_of h supply) (maps r count) ≡ state_of after rest
  pub fits : SupplyFits after rest
  pub walks : (p : ℕ) → Arrives r.parent_flags (walk h p) (walk after p)
  pub keeps : KeepsBut (Uses h supply rest) h after

-- All of the first `count` pages of a range were mapped one after another, and each map did what a single one does. The rest of the
-- supply is left.
abbrev pub MapsAll : {Lent : Type 0} → Hierarchy Lent → (supply : List ℕ) → MapRange → (count : ℕ) → (after : Hierarchy Lent) → (rest : List ℕ) → Type 0
MapsAll h supply r count after rest = DoesMaps h supply r count (accepted_maps r count) after rest

-- The first `done` pages of a range were mapped, and the map of the next one was refused for this reason. No further one of the
-- first `count` pages was mapped.
abbrev pub StopsAt : {Lent : Type 0} → Hierarchy Lent → (supply : List ℕ) → MapRange → (count done : ℕ) → Refusal → (after : Hierarchy Lent) → (rest : List ℕ) → Type 0
StopsAt h supply r count done why after rest =
    (done < count) × DoesMaps h supply r (done + 1) (accepted_maps r done ++ Answered (Refused why) ∷ []) after rest

-- What maps of the first pages of a range leave, by their result: all were mapped, or the map of one of them was refused.
abbrev pub MapsByResult : {Lent X S L : Type 0} → Hierarchy Lent → (supply : List ℕ) → MapRange → (count : ℕ) → Result X (MapRangeErrorIn S L) → (after : Hierarchy Lent) → (rest : List ℕ) → Type 0
MapsByResult h supply r count (Ok _) after rest = MapsAll h supply r count after rest
MapsByResult h supply r count (Err error) after rest = StopsAt h supply r count error.mapped.count (map_refusal error.why) after rest

-- What a map of the first pages of a range leaves that takes the frames of new tables from a supply. It is `rest` then, and serves
-- the same frames.
pub record MapsRange {Lent X S L : Type 0} (h : Hierarchy Lent) (supply : Supply) (r : MapRange) (count : ℕ) (result : Result X (MapRangeErrorIn S L)) (after : Hierarchy Lent) (rest : Supply) : Type 0 where
  pub maps : MapsByResult h supply.frames r count result after rest.frames
  pub serves : rest.serves ≡ supply.serves
