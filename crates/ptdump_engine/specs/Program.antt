-- The output of the program for a file, or why it fails.
use Rattle.std.specs.Prelude.{◌≡◌, ◌⊎◌, ℕ, ◌-◌, ◌^◌, ◌==◌, ◌++◌, codes, decimal, length, ◌&&◌, ◌||◌, nat_le, nat_lt, not, true, false, Bool, if◌then◌else◌, List, [], ◌∷◌, Option, None, Some, IfSome, is_err, is_some, option_map, unwrap_or, Result, Ok, Err, ⊤}
use Rattle.std.specs.List.{find, flat_map, list_all}
use Rattle.std.specs.Option.{option_or}
use Rattle.std.specs.Io.KnownBytes.{Appends}
use Rattle.linux_areas.specs.declared.layout.Layout.{Layout}
use Rattle.x86_64_dump.specs.Dump.{Contents, is_short, words_of_dump}
use Rattle.x86_64_dump.specs.Loaded.{IsTableCount, up_to}
use Rattle.x86_64_dump.specs.Formats.{format_of, is_raw}
use Rattle.x86_64_dump.specs.KernelTexts.{kernel_texts}
use Rattle.x86_64_dump.specs.Notes.{is_noted, processors_of}
use Rattle.x86_64_dump.specs.Opening.{contents_as}
use Rattle.x86_64_dump.specs.VmCoreInfo.{agreed_text, decrypted, text_at}
use Rattle.x86_64_dump.specs.declared.error.Fault.{Fault}
use Rattle.x86_64_dump.specs.declared.formats.Format.{Format}
use Rattle.x86_64_dump.specs.declared.formats.Format.TheVariants.{Raw}
use Rattle.x86_64_dump.specs.declared.kernel_text.KernelText.{KernelText}
use Rattle.x86_64_dump.specs.declared.segment.Segment.{Segment}
use Rattle.text.specs.Numbers.{hexadecimal}
use Rattle.x86_64_model.specs.Memory.{Words}
use Rattle.x86_64_model.specs.Position.{lower_half}
use Rattle.ptdump_check.specs.declared.checking.AddressRange.{AddressRange}
use Rattle.ptdump_engine.specs.CheckReports.{check_text, finds_nothing}
use Rattle.ptdump_engine.specs.Info.{info_in}
use Rattle.ptdump_json.specs.InfoTexts.{text_told}
pub use Rattle.ptdump_engine.specs.MemoryRanges.{last_address}
use Rattle.ptdump_engine.specs.NamedAreas.{layout_in}
use Rattle.ptdump_engine.specs.NotedLevels.{noted_levels_text}
use Rattle.ptdump_engine.specs.Processors.{cpus_with, firsts_of, heading_text, left_out_text, modes_failure, processors_from}
use Rattle.ptdump_engine.specs.Reports.{regions_text, pages_text, walks_text, find_text, all_arrive, all_found, are_several}
use Rattle.ptdump_engine.specs.Reserved.{reserved_note}
use Rattle.ptdump_engine.specs.Resolved.{resolved}
pub use Rattle.ptdump_json.specs.Paging.{level_count}
use Rattle.ptdump_engine.specs.Start.{start_of}
use Rattle.ptdump_engine.specs.Steps.{FailsBy, InTurn, MayBeForced, and_then, of_dump, unless_failure}
use Rattle.ptdump_engine.specs.Totals.{AreTotals, totals_text}
use Rattle.ptdump_json.specs.Walks.{line}
use Rattle.ptdump_engine.specs.declared.failure.Failure.{Failure}
use Rattle.ptdump_engine.specs.declared.failure.Failure.TheVariants as failures
use Rattle.ptdump_json.specs.declared.options.Columns.{Columns}
use Rattle.ptdump_engine.specs.declared.request.Command.{Command}
use Rattle.ptdump_engine.specs.declared.request.Command.TheVariants as commands
use Rattle.x86_64_addr.specs.declared.level_count.Levels.{Levels}
use Rattle.ptdump_engine.specs.declared.processors.Processor.{Processor}
use Rattle.ptdump_json.specs.declared.options.Form.{Form}
use Rattle.ptdump_engine.specs.declared.request.Outcome.{Outcome}
use Rattle.ptdump_engine.specs.declared.request.Request.{Request}
use Rattle.x86_64_mappings.specs.declared.selection.Selection.{Selection}
use Rattle.ptdump_json.specs.declared.start.Origin.{Origin}
use Rattle.ptdump_json.specs.declared.start.Origin.TheVariants.{ByKernel, ByText}
use Rattle.ptdump_json.specs.declared.start.Start.{Start}
use Rattle.ptdump_engine.specs.declared.totals.Totals.{Totals}

-- ---- tests before anything is written

-- Whether an address is canonical with L levels of tables: it is below 2^64, and all bits above the highest translated bit equal
-- that bit.
abbrev pub is_canonical_address : (L address : ℕ) → Bool
is_canonical_address L a = nat_lt a (lower_half L) || (nat_le (2 ^ 64 - lower_half L) a && nat_lt a (2 ^ 64))

-- The failure that an address isn't canonical with these levels of tables, or None if it is, or if there is no address.
abbrev pub address_failure : Levels → Option ℕ → Option Failure
address_failure levels None = None
address_failure levels (Some a) =
    if is_canonical_address (level_count levels) a then None else Some (failures.NotCanonical a levels)

-- The failure that the first address of a range is above the last one, or None if it isn't, or if one of them is missing.
abbrev pub order_failure : (from to : Option ℕ) → Option Failure
order_failure (Some from) (Some to) = if nat_lt to from then Some (failures.FromAboveTo from to) else None
order_failure from to = None

-- Why a selection can't be used with these levels of tables, or None if it can: one of its addresses isn't canonical, or the first
-- is above the last.
abbrev pub selection_failure : Levels → Selection → Option Failure
selection_failure levels s =
    option_or (address_failure levels s.from)
    (option_or (address_failure levels s.to) (order_failure s.from s.to))

-- The failure that the first address of a direct map is above the last one, or None if it isn't.
abbrev pub reversed_failure : AddressRange → Option Failure
reversed_failure range =
    if nat_lt range.last range.first then Some (failures.DirectMapReversed range.first range.last) else None

-- Why a direct map can't be used with these levels of tables: one of its addresses isn't canonical, or the first is above the last.
-- It is None if the direct map can be used, or if there is none.
abbrev pub direct_map_failure : Levels → Option AddressRange → Option Failure
direct_map_failure levels None = None
direct_map_failure levels (Some range) = option_or (address_failure levels (Some range.first))
    (option_or (address_failure levels (Some range.last)) (reversed_failure range))

-- Why the addresses of a command can't be used with these levels of tables: a virtual one isn't canonical, a physical one is 2^52
-- or more, or the first one of a range is above the last. It is None if they can be used.
abbrev pub argument_failure : Levels → Command → Option Failure
argument_failure levels (commands.Walk addresses asked) =
    option_map (λ a. failures.NotCanonical a levels)
    (find (λ a. not (is_canonical_address (level_count levels) a)) addresses.items)
argument_failure levels (commands.Find addresses) =
    option_map (λ a. failures.NotPhysical a) (find (λ a. nat_le (2 ^ 52) a) addresses.items)
argument_failure levels (commands.Regions selection) = selection_failure levels selection
argument_failure levels (commands.Pages selection has_names) = selection_failure levels selection
argument_failure levels (commands.Check checking) =
    option_or (selection_failure levels checking.selection) (direct_map_failure levels checking.direct_map)
argument_failure levels command = None

-- The physical addresses for which a command searches are all below 2^52.
abbrev pub IsTested : Command → Type 0
IsTested (commands.Find addresses) = find (λ a. nat_le (2 ^ 52) a) addresses.items ≡ None
IsTested command = ⊤

-- Whether a command reports on walks, which say themselves that the table of the root isn't in the dump.
abbrev pub is_walk : Command → Bool
is_walk (commands.Walk addresses asked) = true
is_walk command = false

-- The failure that the table of the root isn't in the dump, or None if it is, or if the command reports on walks, which say that
-- themselves.
abbrev pub root_failure : Command → Words → (root : ℕ) → Option Failure
root_failure command T root =
    if is_walk command || is_some (T root) then None else Some (failures.NoRoot root)

-- The start of page walks in a dump for a request, or why the request can't be used: no root is found, an address of its command
-- can't be used, or the table of the root isn't in the dump.
unfoldable pub start_for : Request → Contents → Result Start Failure
start_for request dump = and_then (start_of request dump) (λ start.
    and_then (unless_failure (argument_failure start.levels request.command) start) (λ tested.
    unless_failure (root_failure request.command (words_of_dump dump) start.root) start))

-- The format as which a file is read: raw if the request says so, and otherwise the one that the file itself shows.
abbrev pub format_for : Request → (file : List ℕ) → Format
format_for request file = if request.is_raw then Raw else format_of file

-- Whether a command is about the dump alone, so that no tables are read.
abbrev pub is_info : Command → Bool
is_info commands.Info = true
is_info command = false

-- Whether the report of a command can be made of each root that the processors have.
abbrev pub has_roots : Command → Bool
has_roots (commands.Regions selection) = true
has_roots (commands.Check checking) = true
has_roots command = false

-- Whether a request is for a report on each root that the processors have, and not on one root.
abbrev pub is_of_processors : Request → Bool
is_of_processors request = request.all_cpus && has_roots request.command

-- Whether memory is searched for texts of VMCOREINFO: no CR3 is given, the report isn't on the roots of all processors, and no note
-- says where the root is.
abbrev pub is_searched : Request → Contents → Bool
is_searched request dump = not (is_some request.cr3 || is_of_processors request) && not (is_noted dump)

-- The texts of VMCOREINFO that say where the kernel's root is: the one at the offset in the file that is given, or those in memory
-- if this is searched. It is a fault if the text that is given can't be read.
abbrev pub texts_by : (offset : Option ℕ) → (searched : Bool) → Contents → Result (List KernelText) Fault
texts_by (Some offset) searched dump = and_then (text_at dump.file offset) (λ text. Ok (text ∷ []))
texts_by None searched dump = Ok (if searched then kernel_texts dump else [])

-- The texts of VMCOREINFO in a dump that say where the kernel's root is for a request, or a fault if the one at the request's
-- offset in the file can't be read.
abbrev pub texts_for : Request → Contents → Result (List KernelText) Fault
texts_for request dump = texts_by request.vmcoreinfo (is_searched request dump) dump

-- A dump with the texts of VMCOREINFO that say where the kernel's root is for a request. In its words the bits are cleared by which
-- the kernel marks encrypted memory. It is a fault if such a text can't be read.
abbrev pub with_texts : Request → Contents → Result Contents Fault
with_texts request dump =
    and_then (texts_for request dump) (λ texts. Ok (decrypted (record dump { texts = texts })))

-- The contents of a file, read as a dump for a request, or the fault why it can't be read so.
abbrev pub contents_for : Request → (file : List ℕ) → Result Contents Fault
contents_for request file =
    and_then (contents_as (format_for request file) file request.placement) (with_texts request)

-- The dump that a file is for a request, or the failure why it is none.
abbrev pub dump_for : Request → (file : List ℕ) → Result Contents Failure
dump_for request file = of_dump (contents_for request file)

-- What is opened for a report on one root: a dump, and the start of page walks in it.
pub record Opened : Type 0 where
  pub dump : Contents
  pub start : Start

-- The dump that a file is for a request, and the start of page walks in it, or why the request or the file can't be used.
unfoldable pub opened_for : Request → (file : List ℕ) → Result Opened Failure
opened_for request file = and_then (dump_for request file) (λ dump.
    and_then (start_for request dump) (λ start. Ok (record { dump = dump; start = start })))

-- ---- all processors

-- Why the tables of a processor can't be reported on: an address of the request's command can't be used with its levels, or the
-- table of its root isn't in the dump. It is None if they can.
abbrev pub tables_failure : Request → Words → Processor → Option Failure
tables_failure request T p =
    option_or (argument_failure p.start.levels request.command) (root_failure request.command T p.start.root)

-- The first reason, in the order of some processors, why the tables of one of them can't be reported on, or None if those of all
-- can.
abbrev pub first_failure : Request → Words → List Processor → Option Failure
first_failure request T [] = None
first_failure request T (p ∷ ps) = option_or (tables_failure request T p) (first_failure request T ps)

-- The processors of a dump by its notes, or why a report on them can't be made for a request: a note can't be read, none of them
-- has tables, or the tables of one can't be reported on.
unfoldable pub processors_for : Request → Contents → Result (List Processor) Failure
processors_for request dump =
    and_then (processors_from dump.file request.levels 0 (processors_of dump)) (λ ps.
    and_then (unless_failure (modes_failure ps) ps) (λ tested.
    unless_failure (first_failure request (words_of_dump dump) (firsts_of ps)) ps))

-- What is opened for a report on all processors: a dump, and its processors by their notes.
pub record DumpedMachine : Type 0 where
  pub dump : Contents
  pub processors : List Processor

-- The dump that a file is for a request, and its processors, or why the request or the file can't be used.
unfoldable pub machine_for : Request → (file : List ℕ) → Result DumpedMachine Failure
machine_for request file = and_then (dump_for request file) (λ dump.
    and_then (processors_for request dump) (λ ps. Ok (record { dump = dump; processors = ps })))

-- ---- the output

-- The report of a command on tables below a root with L levels, in a form and columns, or None if no specification says what it is.
-- It is empty for a command that is about the dump alone.
abbrev pub report_in : Form → Columns → Option Layout → Command → (L : ℕ) → Words → (root : ℕ)
    → Option (List ℕ)
report_in form columns layout (commands.Regions selection) L T root =
    Some (regions_text selection form columns layout L T root)
report_in form columns layout (commands.Pages selection has_names) L T root =
    Some (pages_text selection has_names form columns layout L T root)
report_in form columns layout (commands.Walk addresses asked) L T root =
    Some (walks_text form (are_several addresses.items) L T root asked addresses.items)
report_in form columns layout (commands.Find addresses) L T root =
    Some (find_text form (are_several addresses.items) L T root addresses.items)
report_in form columns layout (commands.Check checking) L T root = Some (check_text form checking L T root)
report_in form columns layout commands.Info L T root = Some []
report_in form columns layout command L T root = None

-- The report of a request on tables below a root with L levels, or None if no specification says what it is.
abbrev pub report_of : Request → (L : ℕ) → Words → (root : ℕ) → Option (List ℕ)
report_of request = report_in request.form request.columns (layout_in request.areas) request.command

-- Whether a command is fulfilled by the tables below a root: each walk or its access arrives, each physical address is found, a
-- check finds nothing. Any other command always is.
abbrev pub completeness_of : Command → (L : ℕ) → Words → (root : ℕ) → Bool
completeness_of (commands.Walk addresses asked) L T root = all_arrive L T root asked addresses.items
completeness_of (commands.Find addresses) L T root = all_found L T root addresses.items
completeness_of (commands.Check checking) L T root = finds_nothing checking L T root
completeness_of command L T root = true

-- The report of a request on words was written, if a specification says what it is, and the outcome says whether the request is
-- fulfilled.
pub record ReportsOnWords (request : Request) (L : ℕ) (T : Words) (root : ℕ) (before after : Option (List ℕ))
    (outcome : Outcome) : Type 0 where
  pub text : IfSome (report_of request L T root) (Appends before after)
  pub complete : outcome.is_complete ≡ completeness_of request.command L T root

-- The report of a request on the tables of a dump that was opened was written, with what the dump says in place of what the request
-- leaves open. The outcome says whether the request is fulfilled.
abbrev pub ReportsOf : Request → (before after : Option (List ℕ)) → Outcome → Opened → Type 0
ReportsOf request before after outcome o =
    ReportsOnWords (resolved request o.dump o.start) (level_count o.start.levels)
    (words_of_dump o.dump) o.start.root before after outcome

-- The result and the output of a run that reports on tables below one root. It fails for its request or its file without writing
-- anything, for a read only if reads may fail, and for a write only if its writers may refuse one.
abbrev pub RunsOnTables : (may_fail may_refuse : Bool) → Request → (file : List ℕ)
    → (before after : Option (List ℕ)) → Result Outcome Failure → Type 0
RunsOnTables may_fail may_refuse request file before after (Ok outcome) =
    (o : Opened) × (opened_for request file ≡ Ok o) × ReportsOf request before after outcome o
RunsOnTables may_fail may_refuse request file before after (Err failure) =
    FailsBy may_fail may_refuse failure (opened_for request file)
    × (MayBeForced may_fail may_refuse failure ⊎ (after ≡ before))

-- The report of a request on the tables of a processor, below a heading with their root and the numbers of the processors that have
-- it.
abbrev pub report_below : Request → Words → List Processor → Processor → List ℕ
report_below request T ps p = heading_text request.form (cpus_with ps p) p.start.root
    ++ unwrap_or (report_of request (level_count p.start.levels) T p.start.root) []

-- The reports of a request on all tables that processors have: one for each root with a number of levels, in the order of the first
-- processors that have them.
abbrev pub all_reports : Request → Words → List Processor → List ℕ
all_reports request T ps = flat_map (report_below request T ps) (firsts_of ps)

-- Whether a request is fulfilled by the tables of a processor.
abbrev pub is_complete_for : Request → Words → Processor → Bool
is_complete_for request T p = completeness_of request.command (level_count p.start.levels) T p.start.root

-- Whether a request is fulfilled by the tables of each processor that has tables.
abbrev pub all_complete : Request → Words → List Processor → Bool
all_complete request T ps = list_all (is_complete_for request T) (firsts_of ps)

-- The reports of a request on the tables of all processors were written, and the outcome says whether the request is fulfilled by
-- all of them.
pub record ReportsAll (request : Request) (T : Words) (ps : List Processor) (before after : Option (List ℕ))
    (outcome : Outcome) : Type 0 where
  pub text : Appends before after (all_reports request T ps)
  pub complete : outcome.is_complete ≡ all_complete request T ps

-- The result and the output of a run that reports on the tables of all processors. It fails for its request or its file without
-- writing anything, for a read only if reads may fail, and for a write only if its writers may refuse one.
abbrev pub RunsOnProcessors : (may_fail may_refuse : Bool) → Request → (file : List ℕ)
    → (before after : Option (List ℕ)) → Result Outcome Failure → Type 0
RunsOnProcessors may_fail may_refuse request file before after (Ok outcome) =
    (m : DumpedMachine) × (machine_for request file ≡ Ok m)
    × ReportsAll request (words_of_dump m.dump) m.processors before after outcome
RunsOnProcessors may_fail may_refuse request file before after (Err failure) =
    FailsBy may_fail may_refuse failure (machine_for request file)
    × (MayBeForced may_fail may_refuse failure ⊎ (after ≡ before))

-- The report of `info` on a dump: what the dump says of its machine, and which root other commands take for the request.
abbrev pub info_of : Request → Contents → List ℕ
info_of request dump = info_in request.form (unwrap_or request.cpu 0) dump (start_for request dump)

-- The result and the output of a run that reports on a dump alone, without tables. It fails for its request or its file without
-- writing anything, for a read only if reads may fail, and for a write only if its writers may refuse one.
abbrev pub RunsOnDump : (may_fail may_refuse : Bool) → Request → (file : List ℕ)
    → (before after : Option (List ℕ)) → Result Outcome Failure → Type 0
RunsOnDump may_fail may_refuse request file before after (Ok outcome) =
    (dump : Contents) × (dump_for request file ≡ Ok dump) × Appends before after (info_of request dump)
    × (outcome.is_complete ≡ true)
RunsOnDump may_fail may_refuse request file before after (Err failure) =
    FailsBy may_fail may_refuse failure (dump_for request file)
    × (MayBeForced may_fail may_refuse failure ⊎ (after ≡ before))

-- The result and the output of a run that reports on a dump alone if `info` is true, and otherwise on the tables of all processors
-- if `all` is true, or on those below one root.
abbrev pub RunsAs : (info all may_fail may_refuse : Bool) → Request → (file : List ℕ)
    → (before after : Option (List ℕ)) → Result Outcome Failure → Type 0
RunsAs true all = RunsOnDump
RunsAs false true = RunsOnProcessors
RunsAs false false = RunsOnTables

-- The result and the output of a run on a file for a request. `before` is what the output had before the run, and `after` what it
-- has after it. It fails for its request or its file without writing anything, for a read only if reads may fail, and for a write
-- only if its writers may refuse one.
abbrev pub Runs : (may_fail may_refuse : Bool) → Request → (file : List ℕ) → (before after : Option (List ℕ))
    → Result Outcome Failure → Type 0
Runs may_fail may_refuse request =
    RunsAs (is_info request.command) (is_of_processors request) may_fail may_refuse request

-- ---- standard error, and the progress

-- The text that a file is read as raw memory, with the first and the last physical address of its bytes.
abbrev pub raw_range_text : (first last : ℕ) → List ℕ
raw_range_text first last =
    codes "the file is read as raw memory: " ++ hexadecimal first ++ codes "-" ++ hexadecimal last

-- The text that a file is read as raw memory, with the physical addresses of a segment of it, or that it is empty.
abbrev pub raw_text : Segment → List ℕ
raw_text segment = if segment.size == 0 then codes "the file is read as raw memory, and is empty"
    else raw_range_text segment.address (last_address segment)

-- The line that the file of a dump is shorter than its headers say, or nothing if it isn't.
abbrev pub short_text : Contents → List ℕ
short_text dump = if is_short (length dump.file) dump.segments
    then line (codes "the file is shorter than its headers say: frames behind its end are missing") else []

-- The lines that the file of a dump is raw and where its bytes lie in physical memory, or the line that it is shorter than its
-- headers say. There are none if it is neither.
abbrev pub file_text : Contents → List ℕ
file_text dump =
    if is_raw dump.format then flat_map (λ segment. line (raw_text segment)) dump.segments
    else short_text dump

-- A line for each of the texts of VMCOREINFO in memory, if they describe different kernels, or else nothing.
abbrev pub differing_text : List KernelText → List ℕ
differing_text texts =
    if is_err (agreed_text texts) then flat_map (λ text. line (text_told text)) texts else []

-- The first lines on standard error: that the file is raw, or shorter than its headers say, and the texts of VMCOREINFO in memory
-- if they differ.
abbrev pub opening_text : Contents → List ℕ
opening_text dump = file_text dump ++ differing_text dump.texts

-- The line on standard error that the root is the kernel's own, with where VMCOREINFO says so, or nothing if the root is from
-- elsewhere.
abbrev pub source_text : Origin → List ℕ
source_text ByKernel = line (codes "the root is the kernel's own, as the note VMCOREINFO says")
source_text (ByText offset) =
    line (codes "the root is the kernel's own, as VMCOREINFO at byte " ++ decimal offset
    ++ codes " of the file says")
source_text origin = []

-- Whether a command writes an image. Standard error then also has a report on it, which no specification describes.
abbrev pub is_image : Command → Bool
is_image commands.Image = true
is_image command = false

-- The last lines on standard error were written for a root: how many words have reserved bits, if there are any and the command
-- lists what is mapped, and the totals of the tables.
abbrev pub EndsByTotals : Command → (L : ℕ) → Words → (root : ℕ) → (before after : Option (List ℕ)) → Type 0
EndsByTotals command L T root before after =
    (totals : Totals) × AreTotals L T root totals
    × Appends before after (reserved_note command L T root ++ line (totals_text totals))

-- What a run on tables below one root wrote to standard error: that the file is raw or short, that the root is the kernel's, that a
-- note says another number of levels than the request, how many words have reserved bits, and the totals of the tables.
abbrev pub NotesOnTables : Request → (file : List ℕ) → (before after : Option (List ℕ)) → Type 0
NotesOnTables request file before after =
    (o : Opened) × (between : Option (List ℕ)) × (opened_for request file ≡ Ok o)
    × Appends before between
    (opening_text o.dump ++ source_text o.start.origin
    ++ noted_levels_text request.levels o.start.noted_levels)
    × EndsByTotals request.command (level_count o.start.levels)
    (words_of_dump o.dump) o.start.root between after

-- The last lines on standard error were written for the tables of a processor: how many words have reserved bits, if there are any
-- and the command lists what is mapped, and the totals of the tables.
abbrev pub EndsByTotalsOf : Command → Words → Processor → (before after : Option (List ℕ)) → Type 0
EndsByTotalsOf command T p = EndsByTotals command (level_count p.start.levels) T p.start.root

-- What a run on the tables of all processors wrote to standard error: that the file is raw or short, which processors have no
-- tables, and for each root how many words have reserved bits, and the totals of its tables.
abbrev pub NotesOnProcessors : Request → (file : List ℕ) → (before after : Option (List ℕ)) → Type 0
NotesOnProcessors request file before after =
    (m : DumpedMachine) × (between : Option (List ℕ)) × (machine_for request file ≡ Ok m)
    × Appends before between (opening_text m.dump ++ left_out_text m.processors)
    × InTurn (EndsByTotalsOf request.command (words_of_dump m.dump)) (firsts_of m.processors) between after

-- What a run wrote to standard error. If `info` is true, it is about the dump alone, and says that the file is raw or short, and
-- which texts of VMCOREINFO differ. Otherwise it is about the tables of all processors if `all` is true, or about those below one
-- root.
abbrev pub NotesAs : (info all : Bool) → Request → (file : List ℕ) → (before after : Option (List ℕ)) → Type 0
NotesAs true all request file before after =
    (dump : Contents) × (dump_for request file ≡ Ok dump) × Appends before after (opening_text dump)
NotesAs false true request file before after = NotesOnProcessors request file before after
NotesAs false false request file before after = NotesOnTables request file before after

-- What a run on a file for a request wrote to standard error, which had `before` before the run, and has `after` after it.
abbrev pub StderrIs : Request → (file : List ℕ) → (before after : Option (List ℕ)) → Type 0
StderrIs request = NotesAs (is_info request.command) (is_of_processors request) request

-- The observer of a run's progress was told of each table that a root leads to, by the numbers from 1 up to their count, and then
-- that there are no more.
abbrev pub ToldOfTables : {G : Type 0} (Told : G → G → List ℕ → Type 0) (Ended : G → G → Type 0) → (L : ℕ)
    → Words → (root : ℕ) → (before after : G) → Type 0
ToldOfTables {G} Told Ended L T root before after =
    (count : ℕ) × (between : G) × IsTableCount L T root count × Told before between (up_to count)
    × Ended between after

-- The observer of a run's progress was told of each table that the root of a processor leads to, by the numbers from 1 up to their
-- count, and then that there are no more.
abbrev pub ToldOfTablesOf : {G : Type 0} (Told : G → G → List ℕ → Type 0) (Ended : G → G → Type 0) → Words
    → Processor → (before after : G) → Type 0
ToldOfTablesOf Told Ended T p = ToldOfTables Told Ended (level_count p.start.levels) T p.start.root

-- The observer of a run's progress was told of the tables of the run: of none if `info` is true, and otherwise of those of each
-- root of the processors in turn if `all` is true, or of those below one root.
abbrev pub ToldAs : {G : Type 0} (info all : Bool) (Told : G → G → List ℕ → Type 0) (Ended : G → G → Type 0)
    → Request → (file : List ℕ) → (before after : G) → Type 0
ToldAs true all Told Ended request file before after = after ≡ before
ToldAs false true Told Ended request file before after =
    (m : DumpedMachine) × (machine_for request file ≡ Ok m)
    × InTurn (ToldOfTablesOf Told Ended (words_of_dump m.dump)) (firsts_of m.processors) before after
ToldAs false false Told Ended request file before after = (o : Opened) × (opened_for request file ≡ Ok o)
    × ToldOfTables Told Ended (level_count o.start.levels) (words_of_dump o.dump) o.start.root before after

-- The observer of a run's progress was told of each table that is read for the request on a file, of which there are none if the
-- command is about the dump alone.
abbrev pub ToldOfRun : {G : Type 0} (Told : G → G → List ℕ → Type 0) (Ended : G → G → Type 0) → Request
    → (file : List ℕ) → (before after : G) → Type 0
ToldOfRun Told Ended request = ToldAs (is_info request.command) (is_of_processors request) Told Ended request

-- An observer of progress was told the numbers from 1 up to a count, and then that there are no more.
abbrev pub ToldUpTo : {G : Type 0} (Told : G → G → List ℕ → Type 0) (Ended : G → G → Type 0) → (count : ℕ)
    → (before after : G) → Type 0
ToldUpTo {G} Told Ended count before after =
    (between : G) × Told before between (up_to count) × Ended between after

-- An observer of progress was told, for each of some counts in turn, the numbers from 1 up to the count and then that there are no
-- more. There may be no counts, so that it was told nothing.
abbrev pub ToldInTurn : {G : Type 0} (Told : G → G → List ℕ → Type 0) (Ended : G → G → Type 0)
    → (before after : G) → Type 0
ToldInTurn Told Ended before after = (counts : List ℕ) × InTurn (ToldUpTo Told Ended) counts before after
