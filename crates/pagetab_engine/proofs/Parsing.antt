-- What the parser reads of a line is its statement.
use Rattle.std.proofs.Common.{◌≡◌, ◌==◌, ◌≤◌, ◌+◌, ◌-◌, ◌/◌, ◌%◌, ◌^◌, ◌&&◌, ℕ, refl, sym, ap, subst, ◌∙◌, nat_lt, nat_le, Bool, true, false, true≢false, cond, List, [], ◌∷◌, length, Option, Some, None, option_and_then, option_map, arith, leb-true, le-leb, ltb-true}
use Rattle.std.proofs.lemmas.Bool.{and_parts}
use Rattle.std.proofs.lemmas.Option.{cond_some}
use Rattle.std.proofs.lemmas.Bool.Decides.{Decides-and, Decides-or, Decides-ltb}
use Rattle.std.specs.Bool.{Decides}
use Rattle.x86_64_addr.specs.Position.{IsCanonical, lower_half}
use Rattle.x86_64_model.specs.Call.{Translate, TranslateAddress, CleanUp}
use Rattle.pagetab_engine.specs.Commands.{Call, Command, Walk, Show, Statement, Image, Asks}
use Rattle.pagetab_engine.specs.Fields.{Parts, fields_of, parts_in, short_parts}
use Rattle.pagetab_engine.specs.PageCalls.{call_in, level_of}
use Rattle.pagetab_engine.specs.Slot.{slot_at, slot_in}
use Rattle.pagetab_engine.specs.Starts.{address_in, index_in, is_canonical_number, is_frame_start, is_table_start, page_in, table_in}
use Rattle.pagetab_engine.specs.Statements.{plain_in, statement_by, statement_in, statement_of_fields}
use Rattle.pagetab_engine.specs.declared.fields.Name.{Name}
use Rattle.pagetab_engine.specs.declared.fields.Name.TheVariants as name
use Rattle.pagetab_engine.specs.declared.fields.Size.{Size}
use Rattle.pagetab_engine.specs.declared.slot.Slot.{Slot}
use Rattle.pagetab_engine.specs.declared.statement.ImageLine.TheVariants.{Word, Free}
use Rattle.pagetab_engine.specs.private.RunParts.{IsShown}

leb_tells : (a b : ℕ) → Decides (nat_le a b) (a ≤ b)
leb_tells a b = (leb-true a b, le-leb a b)

pub canonical_tells : (levels value : ℕ) → Decides (is_canonical_number levels value) (IsCanonical levels value)
canonical_tells levels value =
    let high = 2 ^ 64 - lower_half levels in
    Decides-or (nat_lt value (lower_half levels)) (nat_le high value && nat_lt value (2 ^ 64)) (Decides-ltb value (lower_half levels))
    (Decides-and (nat_le high value) (nat_lt value (2 ^ 64)) (leb_tells high value) (Decides-ltb value (2 ^ 64)))

-- ---- a statement has at most four numbers

plain_of_more : (levels places : ℕ) (name : Name) (a b c d e : ℕ) (rest : List ℕ) → plain_in levels places name (a ∷ b ∷ c ∷ d ∷ e ∷ rest) ≡ None
plain_of_more levels places name.Word a b c d e rest = refl
plain_of_more levels places name a b c d e rest = refl

paged_of_more : (levels level : ℕ) (name : Name) (a b c d e : ℕ) (rest : List ℕ) → call_in levels level name (a ∷ b ∷ c ∷ d ∷ e ∷ rest) ≡ None
paged_of_more levels level name.Map a b c d e rest = refl
paged_of_more levels level name a b c d e rest = refl

none_of_more : (levels places : ℕ) (name : Name) (size : Option Size) (a b c d e : ℕ) (rest : List ℕ) → statement_by levels places name size (a ∷ b ∷ c ∷ d ∷ e ∷ rest) ≡ None
none_of_more levels places name None a b c d e rest = plain_of_more levels places name a b c d e rest
none_of_more levels places name (Some size) a b c d e rest = ap (option_map (λ call. Asks (Call call))) (paged_of_more levels (level_of size) name a b c d e rest)

few : (numbers : List ℕ) → nat_le (length numbers) 4 ≡ false → length numbers ≤ 4 → ⊥
few numbers many short = true≢false (sym (le-leb (length numbers) 4 short) ∙ many)

none_of_many : (levels places : ℕ) (name : Name) (size : Option Size) (numbers : List ℕ) → nat_le (length numbers) 4 ≡ false → statement_by levels places name size numbers ≡ None
none_of_many levels places name size [] many = absurd (few [] many (omega arith))
none_of_many levels places name size (a ∷ []) many = absurd (few (a ∷ []) many (omega arith))
none_of_many levels places name size (a ∷ b ∷ []) many = absurd (few (a ∷ b ∷ []) many (omega arith))
none_of_many levels places name size (a ∷ b ∷ c ∷ []) many = absurd (few (a ∷ b ∷ c ∷ []) many (omega arith))
none_of_many levels places name size (a ∷ b ∷ c ∷ d ∷ []) many = absurd (few (a ∷ b ∷ c ∷ d ∷ []) many (omega arith))
none_of_many levels places name size (a ∷ b ∷ c ∷ d ∷ e ∷ rest) many = none_of_more levels places name size a b c d e rest

module _ (levels places : ℕ) where
  -- the statement that the parts of a line write
  abbrev pub statement_with : Parts → Option Statement
  statement_with parts = statement_by levels places parts.name parts.size parts.numbers

  -- the parser reads four numbers at most, which suffices
  pub short_suffices : (line : List ℕ) → option_and_then statement_with (short_parts (fields_of line)) ≡ statement_of_fields levels places line
  short_suffices line = by (parts_in (fields_of line))
    where
      tested : (parts : Parts) (b : Bool) → nat_le (length parts.numbers) 4 ≡ b → option_and_then statement_with (cond b (Some parts) None) ≡ statement_with parts
      tested parts true short = refl
      tested parts false many = sym (none_of_many levels places parts.name parts.size parts.numbers many)

      by : (parts : Option Parts) → option_and_then statement_with (option_and_then (λ parts. cond (nat_le (length parts.numbers) 4) (Some parts) None) parts) ≡ option_and_then statement_with parts
      by None = refl
      by (Some parts) = tested parts (nat_le (length parts.numbers) 4) refl

-- ---- a line shows a slot of the memory

-- what is made of a value is no command to show a slot, if none is
no_show : {A : Type 0} (make : A → Statement) (slot : Slot) (made : Option A) → ((a : A) → make a ≡ Asks (Show slot) → ⊥) → option_map make made ≡ Some (Asks (Show slot)) → ⊥
no_show make slot None never is = cc
no_show make slot (Some a) never is = let same : make a ≡ Asks (Show slot) = cc in never a same

slot_shown : (places start index : ℕ) (slot : Slot) → option_map (λ slot. Asks (Show slot)) (slot_in places start index) ≡ Some (Asks (Show slot)) → IsShown (Show slot)
slot_shown places start index slot is = by (table_in places start) refl (index_in index) refl is
  where
    by : (frame : Option ℕ) → table_in places start ≡ frame → (at : Option ℕ) → index_in index ≡ at
        → option_map (λ slot. Asks (Show slot)) (option_and_then (λ frame. option_map (slot_at frame) at) frame) ≡ Some (Asks (Show slot)) → IsShown (Show slot)
    by None none at low is = cc
    by (Some frame) some None none is = cc
    by (Some frame) some (Some at) low is =
        let same : ◌≡◌ {A = Slot} (record { place = frame / 4096; index = at }) slot = cc in
        let table = cond_some (is_table_start places start) start frame some in
        let entry = cond_some (nat_lt index 512) index at low in
        let frame_start = and_parts (is_frame_start 4096 start) (nat_lt (start / 4096) places) table.0 in
        let small = and_parts (nat_lt start (2 ^ 52)) (start % 4096 == 0) frame_start.0 in
        subst (λ (slot : Slot). IsShown (Show slot)) same (omega (arith, table.1, ltb-true start (2 ^ 52) small.0), omega (arith, entry.1, ltb-true index 512 entry.0))

plain_shown : (levels places : ℕ) (name : Name) (numbers : List ℕ) (slot : Slot) → plain_in levels places name numbers ≡ Some (Asks (Show slot)) → IsShown (Show slot)
plain_shown levels places name.Show (frame ∷ index ∷ []) slot is = slot_shown places frame index slot is
plain_shown levels places name.Word (frame ∷ index ∷ value ∷ []) slot is = absurd (no_show (λ slot. Image (Word slot value)) slot (slot_in places frame index) (λ a e. cc) is)
plain_shown levels places name.Free (frame ∷ []) slot is = absurd (no_show (λ frame. Image (Free frame)) slot (table_in places frame) (λ a e. cc) is)
plain_shown levels places name.Pool [] slot is = cc
plain_shown levels places name.Walk (addr ∷ []) slot is = absurd (no_show (λ address. Asks (Walk address)) slot (address_in levels addr) (λ a e. cc) is)
plain_shown levels places name.Translate (addr ∷ []) slot is = absurd (no_show (λ address. Asks (Call (Translate address))) slot (address_in levels addr) (λ a e. cc) is)
plain_shown levels places name.Addr (addr ∷ []) slot is = absurd (no_show (λ address. Asks (Call (TranslateAddress address))) slot (address_in levels addr) (λ a e. cc) is)
plain_shown levels places name.CleanUp [] slot is = cc
plain_shown levels places name.CleanUpRange (first ∷ last ∷ []) slot is = by (page_in levels 4096 first) is
  where
    by : (start : Option ℕ) → option_and_then (λ first. option_map (λ last. Asks (Call (CleanUp first (last + 0xfff)))) (page_in levels 4096 last)) start ≡ Some (Asks (Show slot)) → IsShown (Show slot)
    by None is = cc
    by (Some first) is = absurd (no_show (λ last. Asks (Call (CleanUp first (last + 0xfff)))) slot (page_in levels 4096 last) (λ a e. cc) is)
plain_shown levels places name numbers slot is = cc

shown_by : (levels places : ℕ) (name : Name) (size : Option Size) (numbers : List ℕ) (slot : Slot) → statement_by levels places name size numbers ≡ Some (Asks (Show slot)) → IsShown (Show slot)
shown_by levels places name None numbers slot is = plain_shown levels places name numbers slot is
shown_by levels places name (Some size) numbers slot is = absurd (no_show (λ call. Asks (Call call)) slot (call_in levels (level_of size) name numbers) (λ a e. cc) is)

pub shown : (levels places : ℕ) (line : List ℕ) (command : Command) → statement_in levels places line ≡ Some (Asks command) → IsShown command
shown levels places line (Call call) says = tt
shown levels places line (Show slot) says = by (nat_le (length line) 256) (parts_in (fields_of line)) says
  where
    by : (short : Bool) (parts : Option Parts) → cond short (option_and_then (statement_with levels places) parts) None ≡ Some (Asks (Show slot)) → IsShown (Show slot)
    by false parts says = cc
    by true None says = cc
    by true (Some parts) says = shown_by levels places parts.name parts.size parts.numbers slot says
shown levels places line asked says = tt
