-- Each failure to find a root has a text.
use Rattle.std.proofs.Common.{◌≡◌, ◌&&◌, ◌||◌, ℕ, ◌+◌, Bool, true, false, true≢false, cond, List, [], ◌∷◌, Option, None, Some, Result, Ok, Err, is_none, is_some, IfSome, IsSome, slice_get, unwrap_or, sym, refl, subst, length, if◌then◌else◌}
use Rattle.std.specs.Option.{option_map_or}
use Rattle.std.specs.Result.{result_map_both}
use Rattle.x86_64_dump.specs.Dump.{Contents, words_of_dump}
use Rattle.x86_64_dump.specs.FaultTexts.{dump_fault_text}
use Rattle.x86_64_dump.specs.Notes.{is_note_cut, is_of_virtualbox, notes_of, processors_of, register_of}
use Rattle.x86_64_dump.specs.Numbers.{u64_at}
use Rattle.x86_64_dump.specs.VmCoreInfo.{agreed_text, kernel_by, kernel_by_text, kernel_in, kernel_of, text_of}
use Rattle.x86_64_dump.specs.declared.error.Fault.{Fault}
use Rattle.x86_64_dump.specs.declared.error.Fault.TheVariants as faults
use Rattle.x86_64_dump.specs.declared.kernel_text.KernelText.{KernelText}
use Rattle.x86_64_dump.specs.declared.note.Note.{Note}
use Rattle.x86_64_dump.specs.declared.note.NoteKind.TheVariants.{VmCoreInfo}
use Rattle.x86_64_dump.specs.declared.vmcoreinfo.Kernel.{Kernel}
use Rattle.x86_64_dump.specs.declared.vmcoreinfo.KernelFault.{KernelFault}
use Rattle.x86_64_addr.specs.declared.level_count.Levels.{Levels}
use Rattle.x86_64_model.specs.Memory.{Words}
use Rattle.ptdump_engine.specs.FailureTexts.{failure_text}
use Rattle.ptdump_engine.specs.Program.{argument_failure, is_info, is_walk, root_failure, start_for}
use Rattle.ptdump_json.specs.Paging.{mode_of, registers_of}
use Rattle.ptdump_engine.specs.Start.{in_64_bit, kernel_start, levels_in_file, note_needed, note_of, paging_registers, start_by, start_of, start_with}
use Rattle.ptdump_engine.specs.Steps.{FailsBy, MayBeForced, and_then, of_dump, unless_failure}
use Rattle.ptdump_engine.specs.declared.failure.Failure.{Failure}
use Rattle.ptdump_engine.specs.declared.failure.Failure.TheVariants as failures
use Rattle.ptdump_json.specs.declared.mode.Mode.{Mode}
use Rattle.ptdump_json.specs.declared.mode.Mode.TheVariants.{NoPaging, Paging32, Paging64}
use Rattle.ptdump_json.specs.declared.registers.Registers.{Registers}
use Rattle.ptdump_engine.specs.declared.request.Command.{Command}
use Rattle.ptdump_engine.specs.declared.request.Command.TheVariants as commands
use Rattle.ptdump_engine.specs.declared.request.Request.{Request}
use Rattle.ptdump_json.specs.declared.start.Start.{Start}

-- if it is a failure, it has a text
abbrev pub HasText : {A : Type 0} → Result A Failure → Type 0
HasText (Ok a) = Unit {0}
HasText (Err failure) = IsSome (failure_text failure)

abbrev pub FaultHasText : {A : Type 0} → Result A Fault → Type 0
FaultHasText (Ok a) = Unit {0}
FaultHasText (Err fault) = IsSome (dump_fault_text fault)

text_then : {A B : Type 0} (found : Result A Failure) (next : A → Result B Failure) → HasText found → ((a : A) → HasText (next a)) → HasText (and_then found next)
text_then (Ok a) next has more = more a
text_then (Err failure) next has more = has

text_of_dump : {A : Type 0} (found : Result A Fault) → FaultHasText found → HasText (of_dump found)
text_of_dump (Ok a) has = tt
text_of_dump (Err fault) has = has

register_text : (file : List ℕ) (note : Note) (at : ℕ) → FaultHasText (register_of file note at)
unfolding register_of
register_text file note at = by (is_note_cut (length file) note at)
  where
    by : (b : Bool) → FaultHasText (cond b (Err (faults.NoteCut note.offset note.size (at + 8))) (Ok (u64_at file (note.offset + at))))
    by true = refl
    by false = tt

text_after : {A B : Type 0} (found : Result A Fault) (next : A → Result B Fault) → FaultHasText found → ((a : A) → FaultHasText (next a)) → FaultHasText (and_then found next)
text_after (Ok a) next has more = more a
text_after (Err fault) next has more = has

registers_text : (file : List ℕ) (note : Note) → FaultHasText (registers_of file note)
unfolding registers_of
registers_text file note =
    text_after (register_of file note 416) _ (register_text file note 416) (λ cr3.
    text_after (register_of file note 392) _ (register_text file note 392) (λ cr0.
    text_after (register_of file note 424) _ (register_text file note 424) (λ cr4. tt)))

-- ---- Linux's VMCOREINFO

pub kernel_has_text : (dump : Contents) → FaultHasText (kernel_in dump)
kernel_has_text dump = by_text (agreed_text dump.texts)
  where
    of : (found : Result Kernel KernelFault) → FaultHasText (result_map_both Some faults.VmCoreInfo found)
    of (Ok kernel) = tt
    of (Err fault) = refl

    by : (note : Option Note) → FaultHasText (kernel_by dump.file note)
    by None = tt
    by (Some note) = of (kernel_of (text_of dump.file note))

    by_text : (text : Result (Option KernelText) KernelFault) → FaultHasText (kernel_by_text dump text)
    by_text (Ok (Some text)) = tt
    by_text (Ok None) = by (slice_get (notes_of VmCoreInfo dump) 0)
    by_text (Err fault) = refl

kernel_start_text : (dump : Contents) (levels : Option Levels) → HasText (kernel_start dump levels)
unfolding kernel_start
kernel_start_text dump levels = text_then (of_dump (kernel_in dump)) (start_by dump levels) (text_of_dump (kernel_in dump) (kernel_has_text dump)) each
  where
    box : (b : Bool) → IsSome (failure_text (if b then failures.VirtualBox else failures.NoCr3))
    box true = refl
    box false = refl

    each : (kernel : Option Kernel) → HasText (start_by dump levels kernel)
    each (Some kernel) = tt
    each None = box (is_of_virtualbox dump)

-- ---- notes of processors

note_text : (cpu : ℕ) (notes : List Note) → HasText (note_of cpu notes)
note_text cpu [] = tt
note_text cpu (note ∷ notes) = by (slice_get (note ∷ notes) cpu)
  where
    by : (found : Option Note) → HasText (option_map_or (λ n. Ok (Some n)) found (Err (failures.NoProcessor cpu (length (note ∷ notes)))))
    by None = refl
    by (Some found) = tt

needed_text : (request : Request) (dump : Contents) → HasText (note_needed request dump)
needed_text request dump = by ((is_none request.cr3 || is_none request.levels) && is_none request.vmcoreinfo)
  where
    by : (b : Bool) → HasText (cond b (note_of (unwrap_or request.cpu 0) (processors_of dump)) (Ok None))
    by true = note_text (unwrap_or request.cpu 0) (processors_of dump)
    by false = tt

mode_text : (cpu : ℕ) (r : Registers) (mode : Mode) → HasText (in_64_bit cpu r mode)
mode_text cpu r Paging64 = tt
mode_text cpu r NoPaging = refl
mode_text cpu r Paging32 = refl

paging_text : (file : List ℕ) (cpu : ℕ) (note : Note) → HasText (paging_registers file cpu note)
unfolding paging_registers
paging_text file cpu note =
    text_then (of_dump (registers_of file note)) _ (text_of_dump (registers_of file note) (registers_text file note)) (λ r. mode_text cpu r (mode_of r.cr0 r.cr4))

levels_text : (file : List ℕ) (given : Option Levels) (note : Option Note) → HasText (levels_in_file file given note)
levels_text file (Some levels) _ = tt
levels_text file None None = tt
levels_text file None (Some note) = text_then (of_dump (register_of file note 424)) _ (text_of_dump (register_of file note 424) (register_text file note 424)) (λ cr4. tt)

with_text : (request : Request) (dump : Contents) (given : Option ℕ) (note : Option Note) → HasText (start_with request dump given note)
with_text request dump (Some cr3) note = text_then (levels_in_file dump.file request.levels note) _ (levels_text dump.file request.levels note) (λ levels. tt)
with_text request dump None (Some note) = text_then (paging_registers dump.file (unwrap_or request.cpu 0) note) _ (paging_text dump.file (unwrap_or request.cpu 0) note) (λ r. tt)
with_text request dump None None = kernel_start_text dump request.levels

start_text : (request : Request) (dump : Contents) → HasText (start_of request dump)
unfolding start_of
start_text request dump = text_then (note_needed request dump) (start_with request dump request.cr3) (needed_text request dump) (with_text request dump request.cr3)

-- ---- what info finds

no_argument : (levels : Levels) (command : Command) → is_info command ≡ true → argument_failure levels command ≡ None
no_argument levels commands.Info is = refl
no_argument levels (commands.Regions selection) is = absurd (true≢false (sym is))
no_argument levels (commands.Pages selection has_names) is = absurd (true≢false (sym is))
no_argument levels (commands.Walk addresses asked) is = absurd (true≢false (sym is))
no_argument levels (commands.Find addresses) is = absurd (true≢false (sym is))
no_argument levels (commands.Check checking) is = absurd (true≢false (sym is))
no_argument levels commands.Image is = absurd (true≢false (sym is))
no_argument levels commands.Picture is = absurd (true≢false (sym is))

root_text : (command : Command) (T : Words) (root : ℕ) (start : Start) → HasText (unless_failure (root_failure command T root) start)
root_text command T root start = by (is_walk command || is_some (T root))
  where
    by : (b : Bool) → HasText (unless_failure (cond b None (Some (failures.NoRoot root))) start)
    by true = tt
    by false = refl

pub start_has_text : (request : Request) (dump : Contents) → is_info request.command ≡ true → HasText (start_for request dump)
unfolding start_for
start_has_text request dump is = text_then (start_of request dump) _ (start_text request dump) (λ start.
    text_then (unless_failure (argument_failure start.levels request.command) start) _
    (subst (λ failure. HasText (unless_failure failure start)) (sym (no_argument start.levels request.command is)) tt)
    (λ tested. root_text request.command (words_of_dump dump) start.root start))

-- ---- what is told

-- the failure that a call finds is the expected one, if it has a text
pub shown : (fails : Bool) (failure : Failure) (found : Result Start Failure) → FailsBy fails false failure found → IsSome (failure_text failure) → found ≡ Err failure
shown fails failures.OutOfMemory found is has = absurd (true≢false (sym has))
shown fails failures.Output found is has = absurd (true≢false (sym has))
shown fails failures.NoCr3 found is has = is
shown fails failures.VirtualBox found is has = is
shown fails (failures.NoProcessor cpu count) found is has = is
shown fails failures.NoProcessors found is has = is
shown fails (failures.WrongMode cpu mode) found is has = is
shown fails (failures.NotCanonical address levels) found is has = is
shown fails (failures.NotPhysical address) found is has = is
shown fails (failures.FromAboveTo from to) found is has = is
shown fails (failures.DirectMapReversed first last) found is has = is
shown fails (failures.NoRoot root) found is has = is
shown fails (failures.Dump fault) found is has = is
shown fails (failures.Read error) found is has = absurd (true≢false (sym has))

untold : (failure : Failure) (found : Result Start Failure) → HasText found → failure_text failure ≡ None → found ≡ Err failure → ⊥
untold failure found has none is =
    let has_none : IsSome {T = List ℕ} None = subst IsSome none (subst HasText is has) in
    true≢false (sym has_none)

-- if it has none, memory allocation failed, or a read
pub unshown : (fails may : Bool) (failure : Failure) (found : Result Start Failure) → FailsBy fails false failure found → HasText found → failure_text failure ≡ None → MayBeForced fails may failure
unshown fails may failures.OutOfMemory found is has none = tt
unshown fails may failures.Output found is has none = absurd (true≢false (sym is))
unshown fails may failures.NoCr3 found is has none = absurd (untold failures.NoCr3 found has none is)
unshown fails may failures.VirtualBox found is has none = absurd (untold failures.VirtualBox found has none is)
unshown fails may (failures.NoProcessor cpu count) found is has none = absurd (untold (failures.NoProcessor cpu count) found has none is)
unshown fails may failures.NoProcessors found is has none = absurd (untold failures.NoProcessors found has none is)
unshown fails may (failures.WrongMode cpu mode) found is has none = absurd (untold (failures.WrongMode cpu mode) found has none is)
unshown fails may (failures.NotCanonical address levels) found is has none = absurd (untold (failures.NotCanonical address levels) found has none is)
unshown fails may (failures.NotPhysical address) found is has none = absurd (untold (failures.NotPhysical address) found has none is)
unshown fails may (failures.FromAboveTo from to) found is has none = absurd (untold (failures.FromAboveTo from to) found has none is)
unshown fails may (failures.DirectMapReversed first last) found is has none = absurd (untold (failures.DirectMapReversed first last) found has none is)
unshown fails may (failures.NoRoot root) found is has none = absurd (untold (failures.NoRoot root) found has none is)
unshown fails may (failures.Dump fault) found is has none = absurd (untold (failures.Dump fault) found has none is)
unshown fails may (failures.Read error) found is has none = is

-- a text that is there
pub text_or : (text : Option (List ℕ)) (P : List ℕ → Type 0) → IfSome text P → IsSome text → P (unwrap_or text [])
text_or None P puts has = absurd (true≢false (sym has))
text_or (Some text) P puts has = puts
