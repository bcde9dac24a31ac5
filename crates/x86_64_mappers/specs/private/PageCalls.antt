-- What the entry of a page decides for a call: its new word and the frame in the answer, or why the call is refused.
use Rattle.std.specs.Prelude.{ℕ, ◌==◌, cond, Result, Ok, Err, bit_or}
use Rattle.x86_64_model.specs.Entry.{address}
use Rattle.x86_64_model.specs.Refusal.{Refusal, PageNotMapped}
use Rattle.x86_64_mappers.specs.private.LeafFrames.{leaf_frame, is_page_entry}

-- The decision of an unmap by the frame that the page's entry names, or by a refusal: the entry's new word is 0 and the answer has
-- this frame, or the unmap is refused.
abbrev pub unused_after : Result ℕ Refusal → Result (ℕ × ℕ) Refusal
unused_after (Ok frame) = Ok (0, frame)
unused_after (Err why) = Err why

-- What the entry of a page of a level decides for an unmap: its new word and the frame in the answer, or the refusal.
abbrev pub unmap_says : (level entry : ℕ) → Result (ℕ × ℕ) Refusal
unmap_says level e = unused_after (leaf_frame level e)

-- The word of the entry of a page of a level with an address and flags. It has HUGE_PAGE in addition above level one.
abbrev pub page_word : (level address flags : ℕ) → ℕ
page_word level a given = bit_or a (cond (level == 1) given (bit_or given 0x80))

-- What the entry of a page of a level decides for a change of flags: its new word, which keeps the address, and the frame in the
-- answer, or the refusal.
abbrev pub update_says : (level flags entry : ℕ) → Result (ℕ × ℕ) Refusal
update_says level given e = cond (is_page_entry level e) (Ok (page_word level (address e) given, address e)) (Err PageNotMapped)
