-- Which accesses are allowed, and the error codes of those that fault, as tables of all cases. They are read beside the manual's rules.
-- Intel SDM vol. 3A, "Determination of Access Rights", "Page-Fault Exceptions".
use Rattle.std.specs.Prelude.{◌≡◌, ℕ, ◌+◌, ◌*◌, ◌-◌, ◌^◌, ◌/◌, ◌%◌, ◌==◌, Bool, true, false}
use Rattle.x86_64_model.specs.Access.{Access, Controls, Fetch, Kind, Read, Write, access_allowed, bit_of, code}
use Rattle.x86_64_model.specs.Mappings.{Rights}

-- ---- rights

-- The 256 bits of the rights table for a kind of access by a supervisor (false) or a user (true). From the left, byte n is for the
-- controls that are the bits of n: WP is 16, NXE 8, SMEP 4, SMAP 2, AC 1. In a byte, also from the left, bit n is for the rights
-- that all words on the way grant: write is 4, user 2, execute 1. The bit says whether the access is allowed.
abbrev pub rights_row : Kind → (user : Bool) → ℕ
rights_row Read false = 0xff_ff_cc_ff_ff_ff_cc_ff_ff_ff_cc_ff_ff_ff_cc_ff_ff_ff_cc_ff_ff_ff_cc_ff_ff_ff_cc_ff_ff_ff_cc_ff
rights_row Read true = 0x33_33_33_33_33_33_33_33_33_33_33_33_33_33_33_33_33_33_33_33_33_33_33_33_33_33_33_33_33_33_33_33
rights_row Write false = 0xff_ff_cc_ff_ff_ff_cc_ff_ff_ff_cc_ff_ff_ff_cc_ff_0f_0f_0c_0f_0f_0f_0c_0f_0f_0f_0c_0f_0f_0f_0c_0f
rights_row Write true = 0x03_03_03_03_03_03_03_03_03_03_03_03_03_03_03_03_03_03_03_03_03_03_03_03_03_03_03_03_03_03_03_03
rights_row Fetch false = 0xff_ff_ff_ff_cc_cc_cc_cc_55_55_55_55_44_44_44_44_ff_ff_ff_ff_cc_cc_cc_cc_55_55_55_55_44_44_44_44
rights_row Fetch true = 0x33_33_33_33_33_33_33_33_11_11_11_11_11_11_11_11_33_33_33_33_33_33_33_33_11_11_11_11_11_11_11_11

-- The column of the rights table for these controls and rights: the number of the bit in a row, counted from 0 and from the left.
abbrev pub rights_column : Controls → Rights → ℕ
rights_column c r = 8 * (16 * bit_of c.write_protect + 8 * bit_of c.no_execute + 4 * bit_of c.smep + 2 * bit_of c.smap + bit_of c.ac)
    + (4 * bit_of r.write + 2 * bit_of r.user + bit_of r.execute)

-- Whether the rights table allows an access with these controls and these rights, which are those that all words on the way grant.
abbrev pub in_rights_table : Controls → Access → Rights → Bool
in_rights_table c a r = rights_row a.kind a.user / 2 ^ (255 - rights_column c r) % 2 == 1

-- An access is allowed if and only if the rights table allows it, for all controls and all rights that the words on the way grant.
abbrev pub RightsAreListed : Type 0
RightsAreListed = (c : Controls) (a : Access) (r : Rights) → access_allowed c a r ≡ in_rights_table c a r

-- ---- error codes

-- The 16 bytes of the table of error codes for a kind of access by a supervisor (false) or a user (true). From the left, byte n is
-- for the bits of n: NXE is 8, SMEP 4, a last word that is present 2, and one that has a reserved bit 1, which only happens if it
-- is present. The byte is the code.
abbrev pub codes_row : Kind → (user : Bool) → ℕ
codes_row Read false = 0x00_08_01_09_00_08_01_09_00_08_01_09_00_08_01_09
codes_row Read true = 0x04_0c_05_0d_04_0c_05_0d_04_0c_05_0d_04_0c_05_0d
codes_row Write false = 0x02_0a_03_0b_02_0a_03_0b_02_0a_03_0b_02_0a_03_0b
codes_row Write true = 0x06_0e_07_0f_06_0e_07_0f_06_0e_07_0f_06_0e_07_0f
codes_row Fetch false = 0x00_08_01_09_10_18_11_19_10_18_11_19_10_18_11_19
codes_row Fetch true = 0x04_0c_05_0d_14_1c_15_1d_14_1c_15_1d_14_1c_15_1d

-- The column of the table of error codes for these controls and a last word that may be present and have a reserved bit: the number
-- of the byte in a row, counted from 0 and from the left.
abbrev pub codes_column : Controls → (present reserved : Bool) → ℕ
codes_column c here bad = 8 * bit_of c.no_execute + 4 * bit_of c.smep + 2 * bit_of here + bit_of bad

-- The error code that the table of error codes has for an access with these controls, by whether the last word is present and has a
-- reserved bit.
abbrev pub in_codes_table : Controls → Access → (present reserved : Bool) → ℕ
in_codes_table c a here bad = codes_row a.kind a.user / 256 ^ (15 - codes_column c here bad) % 256

-- The error code of a page fault is that of the table of error codes, for all controls and accesses.
abbrev pub CodesAreListed : Type 0
CodesAreListed = (c : Controls) (a : Access) (present reserved : Bool) → code c a present reserved ≡ in_codes_table c a present reserved
