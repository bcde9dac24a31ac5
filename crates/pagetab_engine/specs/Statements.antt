-- How lines write statements: a name, SIZE for statements about a page of a size, and numbers.
use Rattle.std.specs.Prelude.{◌+◌, ◌-◌, nat_le, ℕ, cond, length, List, [], ◌∷◌, Option, Some, None, option_and_then, option_map}
use Rattle.x86_64_model.specs.Call.{Translate, TranslateAddress, CleanUp}
use Rattle.x86_64_model.specs.Position.{position_count}
use Rattle.pagetab_engine.specs.Commands.{Call, Walk, Show, Pool, Statement, Image, Asks}
use Rattle.pagetab_engine.specs.Fields.{fields_of, parts_in}
use Rattle.pagetab_engine.specs.PageCalls.{call_in, level_of}
use Rattle.pagetab_engine.specs.Slot.{slot_in}
use Rattle.pagetab_engine.specs.Starts.{address_in, page_in, table_in}
use Rattle.pagetab_engine.specs.declared.fields.Name.{Name}
use Rattle.pagetab_engine.specs.declared.fields.Name.TheVariants as name
use Rattle.pagetab_engine.specs.declared.fields.Size.{Size}
use Rattle.pagetab_engine.specs.declared.statement.ImageLine.TheVariants.{Word, Free}

-- The statement that a name and numbers write without a size, for this number of levels and of places, if they write one. A range
-- of pages ends at the last address of its last page.
abbrev pub plain_in : (levels places : ℕ) → Name → (numbers : List ℕ) → Option Statement
plain_in levels places name.Word (frame ∷ index ∷ value ∷ []) = option_map (λ slot. Image (Word slot value)) (slot_in places frame index)
plain_in levels places name.Free (frame ∷ []) = option_map (λ frame. Image (Free frame)) (table_in places frame)
plain_in levels places name.Show (frame ∷ index ∷ []) = option_map (λ slot. Asks (Show slot)) (slot_in places frame index)
plain_in levels places name.Pool [] = Some (Asks Pool)
plain_in levels places name.Walk (addr ∷ []) = option_map (λ address. Asks (Walk address)) (address_in levels addr)
plain_in levels places name.Translate (addr ∷ []) = option_map (λ address. Asks (Call (Translate address))) (address_in levels addr)
plain_in levels places name.Addr (addr ∷ []) = option_map (λ address. Asks (Call (TranslateAddress address))) (address_in levels addr)
plain_in levels places name.CleanUp [] = Some (Asks (Call (CleanUp 0 (position_count levels - 1))))
plain_in levels places name.CleanUpRange (first ∷ last ∷ []) =
    option_and_then (λ first. option_map (λ last. Asks (Call (CleanUp first (last + 0xfff)))) (page_in levels 4096 last)) (page_in levels 4096 first)
plain_in levels places name numbers = None

-- The statement that a name, a size if there is one, and numbers write, for this number of levels and of places, if they write one.
abbrev pub statement_by : (levels places : ℕ) → Name → Option Size → (numbers : List ℕ) → Option Statement
statement_by levels places name None numbers = plain_in levels places name numbers
statement_by levels places name (Some size) numbers = option_map (λ call. Asks (Call call)) (call_in levels (level_of size) name numbers)

-- The statement that the fields of a line write, if they write one for this number of levels and of places.
abbrev pub statement_of_fields : (levels places : ℕ) → (line : List ℕ) → Option Statement
statement_of_fields levels places line = option_and_then (λ parts. statement_by levels places parts.name parts.size parts.numbers) (parts_in (fields_of line))

-- The statement that a line of at most 256 bytes is, if it is one for this number of levels and of places.
abbrev pub statement_in : (levels places : ℕ) → (line : List ℕ) → Option Statement
statement_in levels places line = cond (nat_le (length line) 256) (statement_of_fields levels places line) None
