-- What calls on ranges of pages of all sizes do, whose words come back.
use Rattle.std.specs.Prelude.{◌≡◌, ℕ, Bool, List, Option, option_map, unwrap_or}
use Rattle.std.specs.Option.{option_or}
use Rattle.x86_64_c.specs.Arguments.{bad_hierarchy, position_of, unless, wrong_ends}
use Rattle.x86_64_c.specs.Status as status
use Rattle.x86_64_c.specs.declared.arguments.Hierarchy.{Hierarchy as Given}
use Rattle.x86_64_live.specs.PageRanges.{ExchangesPages, SeesPages, are_flag_masks, goes_on_at, page_entries, reached, stop_of}
use Rattle.x86_64_live.specs.declared.ranges.PageWord.{PageWord}
use Rattle.x86_64_live.specs.declared.ranges.RangeEnd.{RangeEnd}
use Rattle.x86_64_live.specs.declared.ranges.RangeStop.{RangeStop}
use Rattle.x86_64_live.specs.declared.ranges.RangeStop.TheVariants.{All, More, LargerPage}
use Rattle.x86_64_model.specs.Hierarchy.{Hierarchy, paths}
use Rattle.x86_64_model.specs.Memory.{Memory}
use Rattle.x86_64_model.specs.Position.{raw}

-- ---- what is wrong with a range

-- What is wrong with a hierarchy in an array of so many tables, or else with a range.
abbrev pub bad_word_range : Given → (tables first last : ℕ) → Option ℕ
bad_word_range h n first last = option_or (bad_hierarchy h n) (wrong_ends h.levels first last)

-- What is wrong with a change of flags: the range, or else the masks.
abbrev pub wrong_change : (L first last keep set : ℕ) → Option ℕ
wrong_change L first last keep set = option_or (wrong_ends L first last) (unless (are_flag_masks keep set) status.not_allowed)

-- What is wrong with a hierarchy in an array of so many tables, or else with a change of flags.
abbrev pub bad_word_change : Given → (tables first last keep set : ℕ) → Option ℕ
bad_word_change h n first last keep set = option_or (bad_hierarchy h n) (wrong_change h.levels first last keep set)

-- ---- what comes of a range

-- The status that says why a range ends.
abbrev pub range_stop_status : RangeStop → ℕ
range_stop_status All = status.ok
range_stop_status More = status.more
range_stop_status LargerPage = status.parent_entry_huge_page

-- The status of the end of a range.
abbrev pub range_status : {Levels : Type 0} → RangeEnd Levels → ℕ
range_status end = range_stop_status (stop_of end)

-- The address at which a range goes on, with L levels, if it does.
abbrev pub range_next : {Levels : Type 0} → (L : ℕ) → RangeEnd Levels → Option ℕ
range_next L end = option_map (raw L) (goes_on_at end)

-- The array gets the wanted pages of a hierarchy from the page at the address `first` to that at `last`, up to where the range ends, which
-- the status tells, and the address at which it goes on.
pub record TellsPages (h : Hierarchy (Unit {0})) (wanted : ℕ → Bool) (first last : ℕ) (before after : List PageWord)
    (end : RangeEnd (Unit {0})) (status count : ℕ) (next : Option ℕ) : Type 0 where
  pub sees : SeesPages h.layout.levels wanted (paths h) (position_of h.layout.levels first) (position_of h.layout.levels last)
      before after (record { count = count; end = end })
  pub status_is : status ≡ range_status end
  pub next_is : next ≡ range_next h.layout.levels end

-- From a hierarchy to the memory m the entries of the wanted pages of a range, up to where it ends, are exchanged, and nothing else changes.
abbrev pub ExchangesRange : (h : Hierarchy (Unit {0})) → (wanted : ℕ → Bool) → (next : ℕ → ℕ) → (first last : ℕ) → RangeEnd (Unit {0}) → Memory → Type 0
ExchangesRange h wanted next first last end m = let at = position_of h.layout.levels last in
    ExchangesPages h.layout next (page_entries h.layout.levels wanted (paths h) (position_of h.layout.levels first) (reached at end)) h.memory m

-- The wanted pages of a range are told, with the address at which it goes on, if it does.
abbrev pub ListsRange : (h : Hierarchy (Unit {0})) → (wanted : ℕ → Bool) → (first last : ℕ) → (before after : List PageWord) → (status count was next : ℕ) → Type 0
ListsRange h wanted first last before after s count was next = (end : RangeEnd (Unit {0})) × (more : Option ℕ)
    × TellsPages h wanted first last before after end s count more × (next ≡ unwrap_or more was)

-- The wanted pages of a range are told, and their entries are exchanged, to which the hierarchy changes.
abbrev pub ListsAndExchanges : (h : Hierarchy (Unit {0})) → (wanted : ℕ → Bool) → (word : ℕ → ℕ) → (first last : ℕ) → (changed : Hierarchy (Unit {0}))
    → (before after : List PageWord) → (status count was next : ℕ) → Type 0
ListsAndExchanges h wanted word first last changed before after s count was next = (end : RangeEnd (Unit {0})) × (more : Option ℕ)
    × TellsPages h wanted first last before after end s count more × ExchangesRange h wanted word first last end changed.memory × (next ≡ unwrap_or more was)
