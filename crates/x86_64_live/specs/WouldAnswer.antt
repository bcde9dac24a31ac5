-- What a map would answer, before anything is changed.
use Rattle.std.specs.Prelude.{◌≡◌, ℕ, List, length, Option}
use Rattle.x86_64_mappers.specs.TablesAbove.{tables_rule}
use Rattle.x86_64_model.specs.Hierarchy.{Hierarchy, paths, path_of, words}
use Rattle.x86_64_model.specs.MapRule.{map_call}
use Rattle.x86_64_model.specs.Path.{parents}
use Rattle.x86_64_model.specs.PathMap.{entry}
use Rattle.x86_64_model.specs.Position.{index}
use Rattle.x86_64_model.specs.Refusal.{Answer, Refusal}
use Rattle.x86_64_model.specs.Validity.{entry_in}

-- With this many free frames, whichever they are, and with any flags, a map of the page of a level to the frame gives this answer.
abbrev pub WouldAnswer : {Lent : Type 0} → Hierarchy Lent → (level page frame free : ℕ) → Answer → Type 0
WouldAnswer h level page frame free answer = (supply : List ℕ) (given more : ℕ) → length supply ≡ free
    → (map_call h.layout.levels (paths h) supply more h.layout.added_flags (path_of h level page) frame given).answer ≡ answer

-- With this many free frames, whichever they are, and with any parent flags, the tables above the page of a level are refused for this
-- reason, or made if there is none.
abbrev pub WouldRefuse : {Lent : Type 0} → Hierarchy Lent → (level page free : ℕ) → Option Refusal → Type 0
WouldRefuse h level page free refusal = (supply : List ℕ) (more : ℕ) → length supply ≡ free
    → (tables_rule (paths h) supply more h.layout.added_flags (parents (path_of h level page))).refusal ≡ refusal

-- The entry of the page of a level is the word at its index in the table in this frame, or 0 if there is no table.
abbrev pub IsEntryIn : {Lent : Type 0} → Hierarchy Lent → (level page : ℕ) → (table : Option ℕ) → Type 0
IsEntryIn h level page table = entry (paths h) (path_of h level page) ≡ entry_in (words h) table (index level page)
