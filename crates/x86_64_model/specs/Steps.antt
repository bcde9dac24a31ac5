-- The steps of a page walk: the words that it reads, and where it arrives by them. The words are arbitrary.
-- Intel SDM vol. 3A, "Linear-Address Translation with 4-Level Paging and 5-Level Paging"; AMD APM vol. 2, "Long-Mode Page
-- Translation".
use Rattle.std.specs.Prelude.{zero, suc, ℕ, ◌+◌, ◌%◌, ◌&&◌, Bool, not, cond, List, [], ◌∷◌, map, Option, Some, None, option_map, unwrap_or}
use Rattle.std.specs.List.{last_or}
use Rattle.x86_64_model.specs.Position.{span, index}
use Rattle.x86_64_model.specs.Entry.{present, huge, address}
use Rattle.x86_64_model.specs.Memory.{Words}
use Rattle.x86_64_model.specs.Mappings.{Rights, maps_page, rights_of}
use Rattle.x86_64_model.specs.PageWalk.{Walked, arrives, read, page_start}

-- A word that a page walk reads: the level of its table, the frame with the table, the index there, and the word.
pub record Step : Type 0 where
  pub level : ℕ
  pub frame : ℕ
  pub index : ℕ
  pub word : ℕ

-- Whether a page walk reads on in the table that a word of this level names: the word is present, maps no page, and doesn't have
-- HUGE_PAGE above level three, where no entry maps a page.
abbrev pub leads_on : (level word : ℕ) → Bool
leads_on level e = present e && not (maps_page level e) && not (huge e)

-- The words that the page walk at position p reads (the number of an address counted without the gap), from a frame's table of a
-- level down. They end with the first word that leads to no further table, or before a table that isn't in memory.
unfoldable pub steps : Words → (p level frame : ℕ) → List Step
steps T p zero frame = []
steps T p (suc n) frame = unwrap_or (option_map
    (λ e. record { level = suc n; frame = frame; index = index (suc n) p; word = e } ∷ cond (leads_on (suc n) e) (steps T p n (address e)) [])
    (read T frame (index (suc n) p))) []

-- The rights that the words of steps grant together.
abbrev pub rights_in : List Step → Rights
rights_in steps = rights_of (map (λ s. s.word) steps)

-- The arrival of a page walk at position p with these rights, by the last word that it reads: in the page that this word maps, None
-- if it maps none.
abbrev pub last_arrival : (p : ℕ) → Rights → Option Step → Option Walked
last_arrival p r None = None
last_arrival p r (Some s) = cond (present s.word && maps_page s.level s.word) (arrives (page_start s.level s.word + p % span s.level) r.write r.user) None

-- The arrival of a page walk at position p by the words that it reads, with the rights that all of them grant.
abbrev pub arrival_along : (p : ℕ) → List Step → Option Walked
arrival_along p steps = last_arrival p (rights_in steps) (last_or None steps)
