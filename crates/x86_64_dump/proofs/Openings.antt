-- Openings: the segments of an ELF file, step by step, and why they can't be read.
use Rattle.std.proofs.Common.{◌≡◌, ℕ, Bool, false, true≢false, List, Option, Some, None, Result, Ok, Err, ap, sym, ◌∙◌, length}
use Rattle.x86_64_dump.specs.Opening.{OpensAs, GivesAtOnce}
use Rattle.x86_64_dump.specs.Formats.Elf.{elf_segments, header_fault, table_fault, count_of, with_memory}
use Rattle.x86_64_dump.specs.Placement.{unless_fault}
use Rattle.x86_64_dump.specs.Dump.{segments_at}
use Rattle.x86_64_dump.specs.declared.header.Header.{Header}
use Rattle.x86_64_dump.specs.declared.error.DumpError.{DumpError}
use Rattle.x86_64_dump.specs.declared.error.DumpError.TheVariants as errors
use Rattle.x86_64_dump.specs.declared.error.Fault.{Fault}

pub elf_refused : (file : List ℕ) (header : Header) (size : ℕ) (fault : Fault) → size ≡ length file → header_fault size header ≡ Some fault → elf_segments file header ≡ Err fault
unfolding elf_segments
elf_refused file header size fault long told =
    ap (λ first. unless_fault first (unless_fault (table_fault (length file) (count_of file header) header) (with_memory (segments_at file header.headers (count_of file header)))))
    (ap (λ n. header_fault n header) (sym long) ∙ told)

-- if the header has no fault
pub elf_table : (file : List ℕ) (header : Header) (size count : ℕ) (table : Option Fault) → size ≡ length file → header_fault size header ≡ None → count ≡ count_of file header → table_fault size count header ≡ table
    → elf_segments file header ≡ unless_fault table (with_memory (segments_at file header.headers count))
unfolding elf_segments
elf_table file header size count table long told counted tested =
    ap (λ first. unless_fault first (unless_fault (table_fault (length file) (count_of file header) header) (with_memory (segments_at file header.headers (count_of file header)))))
    (ap (λ n. header_fault n header) (sym long) ∙ told)
    ∙ ap (λ n. unless_fault (table_fault (length file) n header) (with_memory (segments_at file header.headers n))) (sym counted)
    ∙ ap (λ fault. unless_fault fault (with_memory (segments_at file header.headers count))) (ap (λ n. table_fault n count header) (sym long) ∙ tested)

-- a call that allocates no memory gives what is expected
pub at_once : {X Y : Type 0} (may : Bool) (view : X → Y) (result : Result X DumpError) (found expected : Result Y Fault) → expected ≡ found → GivesAtOnce false view result found
    → OpensAs may view result expected
at_once may view (Ok x) found expected same is = same ∙ is
at_once may view (Err errors.OutOfMemory) found expected same is = tt
at_once may view (Err (errors.Read error)) found expected same is = absurd (true≢false (sym is))
at_once may view (Err (errors.Fault fault)) found expected same is = same ∙ is

-- likewise for a call that reads nothing
pub without_reads : {X Y : Type 0} (may : Bool) (view : X → Y) (result : Result X DumpError) (found : Result Y Fault) → OpensAs false view result found → OpensAs may view result found
without_reads may view (Ok x) found is = is
without_reads may view (Err errors.OutOfMemory) found is = tt
without_reads may view (Err (errors.Read error)) found is = absurd (true≢false (sym is))
without_reads may view (Err (errors.Fault fault)) found is = is
