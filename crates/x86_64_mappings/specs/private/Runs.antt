-- Runs of entries of level one.
use Rattle.std.specs.Prelude.{ℕ, Bool, ◌==◌, bit_and}

-- The bits that decide whether an entry of level one maps a page, and with which rights: PRESENT, WRITABLE, USER_ACCESSIBLE and
-- NO_EXECUTE.
abbrev pub page_mask : ℕ
page_mask = 0x8000_0000_0000_0007

-- The bits PRESENT, WRITABLE, USER_ACCESSIBLE and NO_EXECUTE of an entry. All other bits are 0.
abbrev pub page_bits : (entry : ℕ) → ℕ
page_bits e = bit_and e page_mask

-- Whether two entries of level one have the same bits PRESENT, WRITABLE, USER_ACCESSIBLE and NO_EXECUTE.
abbrev pub has_page_bits : (other entry : ℕ) → Bool
has_page_bits f e = page_bits e == page_bits f
