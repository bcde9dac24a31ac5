-- Opening: the contents of a file of a format, and how results of calls agree with what a file should give.
use Rattle.std.specs.Prelude.{◌≡◌, ℕ, Bool, true, List, [], Option, Result, Ok, Err, ⊤}
use Rattle.x86_64_dump.specs.Formats.{format_of, segments_of}
use Rattle.x86_64_dump.specs.Placement.{placed_by}
use Rattle.x86_64_dump.specs.Steps.{and_then}
use Rattle.x86_64_dump.specs.declared.placement.Placement.{Placement}
use Rattle.x86_64_dump.specs.Dump.{Contents}
use Rattle.x86_64_dump.specs.declared.formats.Format.{Format}
use Rattle.x86_64_dump.specs.declared.error.Fault.{Fault}
use Rattle.x86_64_dump.specs.declared.error.DumpError.{DumpError}
use Rattle.x86_64_dump.specs.declared.error.DumpError.TheVariants as errors

-- The contents of a file of a format, with no texts of VMCOREINFO and with no bits cleared, or why it isn't a dump.
abbrev pub contents_as : Format → (file : List ℕ) → Placement → Result Contents Fault
contents_as format file placement = and_then (segments_of format file placement) (λ segments. Ok (record { file = file; format = format; segments = segments; texts = []; cleared = 0 }))

-- The contents of a file of the format that its first bytes show, or why it isn't a dump. The base, which may be missing, is the
-- physical address of a raw file's first byte.
abbrev pub contents_of : (file : List ℕ) → (base : Option ℕ) → Result Contents Fault
contents_of file base = contents_as (format_of file) file (placed_by base)

-- The error agrees with the expected result: a fault is the expected one, a read fails only if reads may fail, and memory
-- allocation may always fail.
abbrev pub Fails : {Y : Type 0} → (may_fail : Bool) → DumpError → Result Y Fault → Type 0
Fails may errors.OutOfMemory found = ⊤
Fails may (errors.Read error) found = may ≡ true
Fails may (errors.Fault fault) found = found ≡ Err fault

-- The result, seen by `view`, is the expected one, unless memory allocation fails, or a read, if reads may fail.
abbrev pub OpensAs : {X Y : Type 0} → (may_fail : Bool) → (X → Y) → Result X DumpError → Result Y Fault → Type 0
OpensAs may view (Ok x) found = found ≡ Ok (view x)
OpensAs may view (Err error) found = Fails may error found

-- The result of a call that allocates no memory, seen by `view`, is the expected one, unless a read fails, if reads may fail.
abbrev pub GivesAtOnce : {X Y : Type 0} → (may_fail : Bool) → (X → Y) → Result X DumpError → Result Y Fault → Type 0
GivesAtOnce may view (Ok x) found = found ≡ Ok (view x)
GivesAtOnce may view (Err errors.OutOfMemory) found = ⊥
GivesAtOnce may view (Err (errors.Read error)) found = may ≡ true
GivesAtOnce may view (Err (errors.Fault fault)) found = found ≡ Err fault
