-- Walks: the words that the page walk to a position reads, one below the other, and how it ends. The position of an address is
-- its number counted without the gap of non-canonical addresses. Intel SDM vol. 3A, "Linear-Address Translation with 4-Level
-- Paging and 5-Level Paging"; AMD APM vol. 2, "Long-Mode Page Translation".
use Rattle.std.specs.Prelude.{ℕ, ◌+◌, ◌%◌, ◌++◌, ◌&&◌, Bool, cond, if◌then◌else◌, List, [], ◌∷◌, map, Option, Some, None, codes, decimal}
use Rattle.std.specs.List.{flat_map, last_or}
use Rattle.x86_64_access.specs.Accesses.{controls_of}
use Rattle.x86_64_access.specs.declared.controls.Controls.{Controls}
use Rattle.text.specs.Numbers.{hexadecimal}
use Rattle.x86_64_model.specs.Access.{reserved}
use Rattle.x86_64_model.specs.Entry.{present, huge, address}
use Rattle.x86_64_model.specs.Mappings.{Rights, maps_page, rights_of}
use Rattle.x86_64_model.specs.Memory.{Words}
use Rattle.x86_64_model.specs.PageWalk.{Walked, arrives, page_start}
use Rattle.x86_64_model.specs.Position.{span}
use Rattle.x86_64_model.specs.Steps.{Step, steps}
use Rattle.ptdump_check.specs.FindingTexts.{rights_at_text}
use Rattle.ptdump_json.specs.declared.word_read.WordRead.{WordRead}

-- The end of a walk: it arrives at a physical address in a page of `size` bytes, a word lacks PRESENT, the table in a frame is
-- missing, or a word has HUGE_PAGE at a level at which no entry maps a page.
pub data End : Type 0 where
  arrives_at : (address size : ℕ) → End
  not_present : End
  no_table : (frame : ℕ) → End
  huge_page : (level : ℕ) → End

-- A walk: the words that it reads from the root down, and how it ends.
pub record Walk : Type 0 where
  pub words : List WordRead
  pub end : End

-- The end of a walk to position p, if this is the last word that it reads.
abbrev pub end_by : (p : ℕ) → Step → End
end_by p s = cond (present s.word)
    (cond (maps_page s.level s.word) (arrives_at (page_start s.level s.word + p % span s.level) (span s.level))
    (cond (huge s.word) (huge_page s.level) (no_table (address s.word))))
    not_present

-- The end of a walk to position p from a root, by the last word that it reads. If it reads none, the root's table is missing.
abbrev pub walk_end : (p root : ℕ) → Option Step → End
walk_end p root None = no_table root
walk_end p root (Some s) = end_by p s

-- A word that a page walk reads, as code represents it.
abbrev pub read_word : Step → WordRead
read_word s = record { level = s.level; table = s.frame; index = s.index; word = s.word }

-- The walk to position p from a root, with L levels of tables.
unfoldable pub walk_of : (L : ℕ) → Words → (root p : ℕ) → Walk
walk_of L T root p = let read = steps T p L root in record {
  words = map read_word read;
  end = walk_end p root (last_or None read);
}

-- The rights that all words of a walk allow.
abbrev pub walk_rights : Walk → Rights
walk_rights walk = rights_of (map (λ w. w.word) walk.words)

-- The arrival of a walk with these rights and this end, in the form of the page walk's result, or None if it doesn't arrive.
abbrev pub arrival_with : Rights → End → Option Walked
arrival_with rights (arrives_at to size) = arrives to rights.write rights.user
arrival_with rights end = None

-- The arrival of a walk, in the form of the page walk's result, or None if it doesn't arrive.
abbrev pub arrival_of : Walk → Option Walked
arrival_of walk = arrival_with (walk_rights walk) walk.end

-- ---- texts

-- The text with a line feed behind it.
abbrev pub line : (text : List ℕ) → List ℕ
line text = text ++ 10 ∷ []

-- The text "level L 0xTABLE[INDEX]" of the place of a word.
unfoldable pub word_place_text : WordRead → List ℕ
word_place_text w =
    codes "level " ++ decimal w.level ++ codes " " ++ hexadecimal w.table ++ codes "[" ++ decimal w.index
    ++ codes "]"

-- The text "level L 0xTABLE[INDEX] 0xWORD" of a word.
abbrev pub word_text : WordRead → List ℕ
word_text w = word_place_text w ++ codes " " ++ hexadecimal w.word

-- Whether a processor with these controls faults at a word, since it is present and has a reserved bit.
abbrev pub faults_at : Controls → WordRead → Bool
faults_at c w = present w.word && reserved (controls_of c) w.level w.word

-- The line of a word, and another one if a processor with these controls faults there.
unfoldable pub word_lines : Controls → WordRead → List ℕ
word_lines c w =
    line (word_text w) ++
    (if faults_at c w then line (codes "reserved bits: a processor faults here") else [])

-- The text "table 0xFRAME is not in the dump".
abbrev pub missing_text : (frame : ℕ) → List ℕ
missing_text frame = codes "table " ++ hexadecimal frame ++ codes " is not in the dump"

-- The text of the end of a walk: the address at which it arrives with its rights, or why it doesn't arrive.
abbrev pub end_text : Rights → End → List ℕ
end_text rights (arrives_at to size) = rights_at_text to rights
end_text rights not_present = codes "not present"
end_text rights (no_table frame) = missing_text frame
end_text rights (huge_page level) = codes "HUGE_PAGE at level " ++ decimal level

-- The lines of the words of a walk, and a line for its end.
unfoldable pub walk_text : Controls → Walk → List ℕ
walk_text c walk = flat_map (word_lines c) walk.words ++ line (end_text (walk_rights walk) walk.end)
