-- Each call that a line writes is possible with this number of levels.
use Rattle.std.proofs.Common.{◌≡◌, ◌==◌, ◌+◌, ◌-◌, ◌≤◌, ◌<◌, ℕ, nat_le, Bool, true, false, cond, List, [], ◌∷◌, length, Option, Some, None, option_and_then, option_map, refl, arith, lit≤, eqb-true}
use Rattle.std.specs.Bool.{⊤}
use Rattle.x86_64_model.specs.Call as model
use Rattle.x86_64_model.specs.Call.{IsCall, IsPageLevel, MapTo, MapToWithTableFlags, IdentityMap, Unmap, UpdateFlags, SetFlags, TranslatePage, Translate, TranslateAddress, CleanUp}
use Rattle.x86_64_model.specs.Position.{position_count, span}
use Rattle.pagetab_engine.specs.Commands.{Command, Call, Walk, Show, Pool, Statement, Image, Asks}
use Rattle.pagetab_engine.specs.Fields.{Parts, fields_of, parts_in}
use Rattle.pagetab_engine.specs.PageCalls.{call_in, level_of}
use Rattle.pagetab_engine.specs.Slot.{slot_in}
use Rattle.pagetab_engine.specs.Starts.{address_in, frame_in, page_in, table_in}
use Rattle.pagetab_engine.specs.Statements.{plain_in, statement_by, statement_in, statement_of_fields}
use Rattle.pagetab_engine.specs.declared.fields.Name.{Name}
use Rattle.pagetab_engine.specs.declared.fields.Name.TheVariants as name
use Rattle.pagetab_engine.specs.declared.fields.Size.{Size}
use Rattle.pagetab_engine.specs.declared.fields.Size.TheVariants.{Size4KiB, Size2MiB, Size1GiB}
use Rattle.pagetab_engine.specs.declared.statement.ImageLine.TheVariants.{Word, Free}

-- what holds of a value, if there is one
abbrev pub Holds : {A : Type 0} → (A → Type 0) → Option A → Type 0
Holds P None = ⊤
Holds P (Some a) = P a

made : {A B : Type 0} (P : B → Type 0) (make : A → B) → ((a : A) → P (make a)) → (o : Option A) → Holds P (option_map make o)
made P make all None = tt
made P make all (Some a) = all a

found : {A B : Type 0} (P : B → Type 0) (make : A → Option B) → ((a : A) → Holds P (make a)) → (o : Option A) → Holds P (option_and_then make o)
found P make all None = tt
found P make all (Some a) = all a

module _ (levels : ℕ) (some : 3 < levels) where
  module _ (level : ℕ) (is : IsPageLevel levels level) where
    abbrev page : ℕ → Option ℕ
    page start = page_in levels (span level) start

    abbrev frame : ℕ → Option ℕ
    frame start = frame_in (span level) start

    of_five : (start flags : ℕ) (five : Bool) → (levels == 5) ≡ five → Holds (IsCall levels) (cond five (option_map (λ page. SetFlags 5 level page flags) (page start)) None)
    of_five start flags false none = tt
    of_five start flags true five = made (IsCall levels) (λ page. SetFlags 5 level page flags) (λ page. (lit≤ tt, (let same = eqb-true levels 5 five in omega (arith, same)), is)) (page start)

    paged : (name : Name) (numbers : List ℕ) → Holds (IsCall levels) (call_in levels level name numbers)
    paged name.Map (start ∷ at ∷ flags ∷ []) = found (IsCall levels) (λ page. option_map (λ frame. MapTo level page frame flags) (frame at))
        (λ page. made (IsCall levels) (λ frame. MapTo level page frame flags) (λ frame. is) (frame at)) (page start)
    paged name.MapWith (start ∷ at ∷ flags ∷ more ∷ []) = found (IsCall levels) (λ page. option_map (λ frame. MapToWithTableFlags level page frame flags more) (frame at))
        (λ page. made (IsCall levels) (λ frame. MapToWithTableFlags level page frame flags more) (λ frame. is) (frame at)) (page start)
    paged name.Identity (at ∷ flags ∷ []) = made (IsCall levels) (λ frame. IdentityMap level frame flags) (λ frame. is) (frame at)
    paged name.Unmap (start ∷ []) = made (IsCall levels) (Unmap level) (λ page. is) (page start)
    paged name.Update (start ∷ flags ∷ []) = made (IsCall levels) (λ page. UpdateFlags level page flags) (λ page. is) (page start)
    paged name.P5 (start ∷ flags ∷ []) = of_five start flags (levels == 5) refl
    paged name.P4 (start ∷ flags ∷ []) = made (IsCall levels) (λ page. SetFlags 4 level page flags) (λ page. (lit≤ tt, omega (arith, some), is)) (page start)
    paged name.P3 (start ∷ flags ∷ []) = made (IsCall levels) (λ page. SetFlags 3 level page flags) (λ page. (lit≤ tt, omega (arith, some), is)) (page start)
    paged name.P2 (start ∷ flags ∷ []) = made (IsCall levels) (λ page. SetFlags 2 level page flags) (λ page. (lit≤ tt, omega (arith, some), is)) (page start)
    paged name.TranslatePage (start ∷ []) = made (IsCall levels) (TranslatePage level) (λ page. is) (page start)
    paged name numbers = tt

  -- the statement is a possible call, if it is a call
  abbrev pub IsMachines : Statement → Type 0
  IsMachines (Asks (Call call)) = IsCall levels call
  IsMachines statement = ⊤

  -- each line that isn't a bad one is such a statement
  abbrev pub AreMachines : List (ℕ × Option Statement) → Type 0
  AreMachines [] = ⊤
  AreMachines ((number, said) ∷ lines) = Holds IsMachines said × AreMachines lines

  page_level : (size : Size) → IsPageLevel levels (level_of size)
  page_level Size4KiB = (lit≤ tt, lit≤ tt, omega (arith, some))
  page_level Size2MiB = (lit≤ tt, lit≤ tt, omega (arith, some))
  page_level Size1GiB = (lit≤ tt, lit≤ tt, omega (arith, some))

  asked : (call : Option model.Call) → Holds (IsCall levels) call → Holds IsMachines (option_map (λ call. Asks (Call call)) call)
  asked None is = tt
  asked (Some call) is = is

  module _ (places : ℕ) where
    plain : (name : Name) (numbers : List ℕ) → Holds IsMachines (plain_in levels places name numbers)
    plain name.Word (frame ∷ index ∷ value ∷ []) = made IsMachines (λ slot. Image (Word slot value)) (λ slot. tt) (slot_in places frame index)
    plain name.Free (frame ∷ []) = made IsMachines (λ frame. Image (Free frame)) (λ frame. tt) (table_in places frame)
    plain name.Show (frame ∷ index ∷ []) = made IsMachines (λ slot. Asks (Show slot)) (λ slot. tt) (slot_in places frame index)
    plain name.Pool [] = tt
    plain name.Walk (addr ∷ []) = made IsMachines (λ address. Asks (Walk address)) (λ address. tt) (address_in levels addr)
    plain name.Translate (addr ∷ []) = made IsMachines (λ address. Asks (Call (Translate address))) (λ address. tt) (address_in levels addr)
    plain name.Addr (addr ∷ []) = made IsMachines (λ address. Asks (Call (TranslateAddress address))) (λ address. tt) (address_in levels addr)
    plain name.CleanUp [] = tt
    plain name.CleanUpRange (first ∷ last ∷ []) = found IsMachines (λ first. option_map (λ last. Asks (Call (CleanUp first (last + 0xfff)))) (page_in levels 4096 last))
        (λ first. made IsMachines (λ last. Asks (Call (CleanUp first (last + 0xfff)))) (λ last. tt) (page_in levels 4096 last)) (page_in levels 4096 first)
    plain name numbers = tt

    written_by : (name : Name) (size : Option Size) (numbers : List ℕ) → Holds IsMachines (statement_by levels places name size numbers)
    written_by name None numbers = plain name numbers
    written_by name (Some size) numbers = asked (call_in levels (level_of size) name numbers) (paged (level_of size) (page_level size) name numbers)

    pub written : (line : List ℕ) → Holds IsMachines (statement_in levels places line)
    written line = by (nat_le (length line) 256)
      where
        by : (short : Bool) → Holds IsMachines (cond short (statement_of_fields levels places line) None)
        by false = tt
        by true = found IsMachines (λ parts. statement_by levels places parts.name parts.size parts.numbers) (λ (parts : Parts). written_by parts.name parts.size parts.numbers) (parts_in (fields_of line))
