-- Lines are counted as they are read, and blank ones are skipped.
use Rattle.std.proofs.Common.{◌≡◌, ◌≤◌, ℕ, refl, sym, ap, subst, ◌∙◌, suc, Bool, true, false, cond, List, [], ◌∷◌, length, nat_le, leb-true, le-leb, Option, Some, None, arith}
use Rattle.std.specs.Bool.{⊤}
use Rattle.std.proofs.lemmas.Bool.Decides.{nat_tests}
use Rattle.std.specs.List.{list_all}
use Rattle.pagetab_engine.specs.Commands.{Statement}
use Rattle.pagetab_engine.specs.Fields.{is_space}
use Rattle.pagetab_engine.specs.Statements.{statement_in, statement_of_fields}
use Rattle.pagetab_engine.specs.Lines.{Numbered, numbered_from, is_blank, lines_of, BeginsBad, BeginsTooLong, ForSome, IsInput, TakesLine, TakesStatement, TracesBack}

-- lines with numbers that may be left after this number of lines
abbrev pub MayFollow : (number : ℕ) (known : Option (List ℕ)) → List Numbered → Type 0
MayFollow number known numbered = (bytes : List ℕ) × IsInput known bytes × (numbered ≡ numbered_from (suc number) (lines_of bytes))

-- there are always some that may be left
pub some_input : (known : Option (List ℕ)) → ForSome (IsInput known) (λ input. ⊤)
some_input None = ([], tt, tt)
some_input (Some known) = (known, refl, tt)

pub some_lines : (number : ℕ) (known : Option (List ℕ)) → ForSome (MayFollow number known) (λ numbered. ⊤)
some_lines number known = let some = some_input known in (numbered_from (suc number) (lines_of some.0), (some.0, some.1, refl), tt)

-- what was skipped was blank: lines that may be left now may have been left before
abbrev pub PassesBlank : (old now : List Numbered → Type 0) → Type 0
PassesBlank old now = (lines : List Numbered) → now lines → old lines

pub behind_blank : (old now new : List Numbered → Type 0) (P : List Numbered → List Numbered → Type 0) → PassesBlank old now → TracesBack now new P → TracesBack old new P
behind_blank old now new P passed next = λ rest may. let lines = next rest may in (lines.0, passed lines.0 lines.1, lines.2)

pub begins_behind : (old now : List Numbered → Type 0) (P : List Numbered → Type 0) → PassesBlank old now → ForSome now P → ForSome old P
begins_behind old now P passed some = (some.0, passed some.0 some.1, some.2)

-- a blank line is skipped
pub blank_passed : (number next : ℕ) (old new : Option (List ℕ)) (line : List ℕ) → next ≡ suc number → is_blank line ≡ true → TracesBack (IsInput old) (IsInput new) (λ bytes rest. TakesLine bytes line rest)
    → PassesBlank (MayFollow number old) (MayFollow next new)
blank_passed number next old new line counted blank takes = λ lines may.
    let rest = may.0 in
    let bytes = takes rest may.1 in
    let numbered : numbered_from (suc number) (lines_of bytes.0) ≡ numbered_from (suc (suc number)) (lines_of rest) =
    ap (numbered_from (suc number)) bytes.2
    ∙ ap (λ b. cond b (numbered_from (suc (suc number)) (lines_of rest)) (record { number = suc number; line = line } ∷ numbered_from (suc (suc number)) (lines_of rest))) blank in
    (bytes.0, bytes.1, may.2 ∙ ap (λ n. numbered_from (suc n) (lines_of rest)) counted ∙ sym numbered)

-- a line that isn't blank is the first one
line_next : (number : ℕ) (bytes line rest : List ℕ) → is_blank line ≡ false → lines_of bytes ≡ line ∷ lines_of rest
    → numbered_from (suc number) (lines_of bytes) ≡ record { number = suc number; line = line } ∷ numbered_from (suc (suc number)) (lines_of rest)
line_next number bytes line rest some takes =
    ap (numbered_from (suc number)) takes
    ∙ ap (λ b. cond b (numbered_from (suc (suc number)) (lines_of rest)) (record { number = suc number; line = line } ∷ numbered_from (suc (suc number)) (lines_of rest))) some

pub statement_taken : (levels places : ℕ) (number next : ℕ) (old new : Option (List ℕ)) (line : List ℕ) (statement : Statement) → next ≡ suc number → is_blank line ≡ false
    → TracesBack (IsInput old) (IsInput new) (λ bytes rest. TakesLine bytes line rest) → statement_in levels places line ≡ Some statement
    → TracesBack (MayFollow number old) (MayFollow next new) (λ lines rest. TakesStatement levels places lines next rest statement)
statement_taken levels places number next old new line statement counted some takes says = λ lines may.
    let rest = may.0 in
    let bytes = takes rest may.1 in (
      numbered_from (suc number) (lines_of bytes.0),
      (bytes.0, bytes.1, refl),
      (
        line,
        line_next number bytes.0 line rest some bytes.2 ∙ ap (λ n. record { number = n; line = line } ∷ numbered_from (suc n) (lines_of rest)) (sym counted)
            ∙ ap (λ more. record { number = next; line = line } ∷ more) (sym may.2),
        says,
      ),
    )

pub bad_taken : (levels places : ℕ) (number next : ℕ) (old new : Option (List ℕ)) (line : List ℕ) → next ≡ suc number → is_blank line ≡ false
    → TracesBack (IsInput old) (IsInput new) (λ bytes rest. TakesLine bytes line rest) → statement_in levels places line ≡ None
    → ForSome (MayFollow number old) (λ lines. BeginsBad levels places lines next)
bad_taken levels places number next old new line counted some takes bad =
    let rest = some_input new in
    let bytes = takes rest.0 rest.1 in (
      numbered_from (suc number) (lines_of bytes.0),
      (bytes.0, bytes.1, refl),
      subst (λ (lines : List Numbered). BeginsBad levels places lines next) (sym (line_next number bytes.0 line rest.0 some bytes.2)) (sym counted, bad),
    )

-- a line that is too long is not blank
long_line : (line : List ℕ) → ¬ (length line ≤ 256) → is_blank line ≡ false
long_line line long = grind (arith, nat_tests)

-- and is no statement
too_long : (levels places : ℕ) (line : List ℕ) → ¬ (length line ≤ 256) → statement_in levels places line ≡ None
too_long levels places line long = by (nat_le (length line) 256) refl
  where
    by : (b : Bool) → nat_le (length line) 256 ≡ b → cond b (statement_of_fields levels places line) None ≡ None
    by false is = refl
    by true is = absurd (long (leb-true (length line) 256 is))

-- a line that isn't too long is the statement of its fields
pub short_line : (levels places : ℕ) (line : List ℕ) → length line ≤ 256 → statement_in levels places line ≡ statement_of_fields levels places line
short_line levels places line short = ap (λ b. cond b (statement_of_fields levels places line) None) (le-leb (length line) 256 short)

-- if the first line is too long, it is bad
pub long_taken : (levels places : ℕ) (number next : ℕ) (old new : Option (List ℕ)) → next ≡ suc number → TracesBack (IsInput old) (IsInput new) (λ bytes rest. BeginsTooLong (lines_of bytes))
    → ForSome (MayFollow number old) (λ lines. BeginsBad levels places lines next)
long_taken levels places number next old new counted long =
    let rest = some_input new in
    let bytes = long rest.0 rest.1 in
    (numbered_from (suc number) (lines_of bytes.0), (bytes.0, bytes.1, refl), begins (lines_of bytes.0) bytes.2)
  where
    begins : (lines : List (List ℕ)) → BeginsTooLong lines → BeginsBad levels places (numbered_from (suc number) lines) next
    begins [] longer = absurd longer
    begins (line ∷ lines) longer =
        let first : numbered_from (suc number) (line ∷ lines) ≡ record { number = suc number; line = line } ∷ numbered_from (suc (suc number)) lines =
        ap (λ b. cond b (numbered_from (suc (suc number)) lines) (record { number = suc number; line = line } ∷ numbered_from (suc (suc number)) lines)) (long_line line longer) in
        subst (λ (numbered : List Numbered). BeginsBad levels places numbered next) (sym first) (sym counted, too_long levels places line longer)

-- if there is no line, none is left
pub none_taken : (number next : ℕ) (old new : Option (List ℕ)) → TracesBack (IsInput old) (IsInput new) (λ bytes rest. lines_of bytes ≡ [])
    → TracesBack (MayFollow number old) (MayFollow next new) (λ lines rest. lines ≡ [])
none_taken number next old new none = λ lines may.
    let bytes = none may.0 may.1 in
    (numbered_from (suc number) (lines_of bytes.0), (bytes.0, bytes.1, refl), ap (numbered_from (suc number)) bytes.2)

-- a line that fits is blank if and only if it has only spaces
pub blank_line : (line : List ℕ) (spaces : Bool) → length line ≤ 256 → spaces ≡ list_all is_space line → is_blank line ≡ spaces
blank_line line spaces fits same = grind (arith, nat_tests)
