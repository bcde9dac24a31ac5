-- Whole reports: the writer receives all that was put in, and words with equal mappings have equal reports.
use Rattle.std.proofs.Common.{◌≡◌, ◌∙◌, ◌%◌, ◌==◌, ◌++◌, ◌||◌, ℕ, Bool, true, false, List, [], Option, None, Some, String, IfSome, IfOk, IfErr, OnOk, Result, Ok, Err, if◌then◌else◌, codes, filter, length, inl, inr, refl, sym, ap, subst, append-nil}
use Rattle.std.proofs.KnownBytes.{Appends-trans}
use Rattle.std.specs.Io.KnownBytes.{Appends, append_known}
use Rattle.std.specs.List.{flat_map, list_all, list_any}
use Rattle.std.specs.String.{string_bytes}
use Rattle.std.specs.declared.alloc.Global.{Global}
use Rattle.x86_64_dump.specs.Dump.{Contents, words_of_dump}
use Rattle.x86_64_dump.specs.Opening.{Fails}
use Rattle.x86_64_dump.specs.declared.error.DumpError.{DumpError}
use Rattle.x86_64_dump.specs.Reached.{SameBelow}
use Rattle.x86_64_model.specs.Mappings.{mappings_of}
use Rattle.x86_64_model.specs.Memory.{Words}
use Rattle.x86_64_model.specs.PageWalk.{page_walk}
use Rattle.x86_64_model.specs.Position.{position_count, raw}
use Rattle.x86_64_model.specs.Regions.{regions_in}
use Rattle.x86_64_mappings.specs.Wanted.{leads_to}
use Rattle.ptdump_json.specs.Explanations.{explanation_text}
use Rattle.ptdump_engine.specs.Output.{Puts, put_in}
use Rattle.ptdump_engine.specs.Failure.{failure_of}
use Rattle.ptdump_engine.specs.CheckReports.{check_text, line_count, said_of_count}
use Rattle.ptdump_json.specs.Json.{json_line, json_of_access, json_of_asked, json_of_walk}
use Rattle.ptdump_json.specs.Lines.{mapping_line, region_line, walk_lines}
use Rattle.ptdump_engine.specs.Program.{DumpedMachine, Opened, ReportsAll, ReportsOf, RunsAs, RunsOnDump, RunsOnProcessors, RunsOnTables, completeness_of, contents_for, dump_for, info_of, machine_for, opened_for, processors_for, report_in, report_of, start_for}
use Rattle.ptdump_engine.specs.Reports.{address_line, addresses_text, are_several, find_text, heading_line, none_line, pages_text, regions_text, walks_text}
use Rattle.ptdump_engine.specs.Said.{line_of}
use Rattle.x86_64_mappings.specs.Selections.{is_mapping_selected, is_selected}
use Rattle.ptdump_engine.specs.Steps.{FailsBy, MayBeForced, and_then, of_dump}
use Rattle.ptdump_json.specs.Walks.{walk_text}
use Rattle.ptdump_engine.specs.declared.failure.Failure.{Failure}
use Rattle.ptdump_engine.specs.declared.output.Output.{Output}
use Rattle.ptdump_engine.specs.declared.processors.Processor.{Processor}
use Rattle.linux_areas.specs.declared.layout.Layout.{Layout}
use Rattle.ptdump_engine.specs.NamedAreas.{layout_in}
use Rattle.ptdump_json.specs.declared.options.Columns.{Columns}
use Rattle.ptdump_engine.specs.declared.request.Command.{Command}
use Rattle.ptdump_engine.specs.declared.request.Command.TheVariants as commands
use Rattle.ptdump_json.specs.declared.options.ControlsSource.{ControlsSource}
use Rattle.ptdump_json.specs.declared.options.Form.{Form}
use Rattle.ptdump_json.specs.declared.options.Form.TheVariants.{Text, Json}
use Rattle.ptdump_engine.specs.declared.request.Outcome.{Outcome}
use Rattle.ptdump_json.specs.declared.options.WalkOptions.{WalkOptions}
use Rattle.x86_64_access.specs.declared.controls.Controls.{Controls}
use Rattle.x86_64_access.specs.declared.request.Access.{Access}
use Rattle.ptdump_engine.specs.declared.request.Request.{Request}
use Rattle.ptdump_json.specs.declared.start.Start.{Start}
use Rattle.ptdump_json.proofs.AccessLaws.{same_asked, same_outcome, same_there}
use Rattle.ptdump_engine.proofs.Failing.{dump_fails, dump_unread, fails_then, forced_fails, forced_first}
use Rattle.ptdump_engine.proofs.SameLines.{same_lines}
use Rattle.ptdump_json.proofs.WalkLaws.{same_walk}

-- a consequence of a fact about the value of an option
pub if_some : {X : Type 0} {P Q : X → Type 0} (o : Option X) → ((x : X) → P x → Q x) → IfSome o P → IfSome o Q
if_some None f p = tt
if_some (Some x) f p = f x p

-- if nothing is collected
known_alone : (known : Option (List ℕ)) → append_known known [] ≡ known
known_alone None = refl
known_alone (Some bytes) = ap Some (append-nil bytes)

-- all that was put in is written if nothing is collected
pub put_all : {W : Type 0} (contents : W → Option (List ℕ)) (output : Output W (String Global)) → string_bytes output.text ≡ [] → put_in contents output ≡ contents output.writer.now
put_all contents output none = ap (append_known (contents output.writer.now)) none ∙ known_alone (contents output.writer.now)

-- what was put in is written once nothing is collected any more
pub written_rest : {W : Type 0} (contents : W → Option (List ℕ)) (begun ended : Output W (String Global)) (text : List ℕ)
    → string_bytes ended.text ≡ [] → Puts contents begun ended text → Appends (put_in contents begun) (contents ended.writer.now) text
written_rest contents begun ended text all puts =
    subst (λ k. Appends (put_in contents begun) k text) (ap (append_known (contents ended.writer.now)) all ∙ known_alone (contents ended.writer.now)) puts.appends

-- what was put into an output in which nothing was collected
pub put_first : {W : Type 0} (contents : W → Option (List ℕ)) (begun ended : Output W (String Global)) (text : List ℕ)
    → string_bytes begun.text ≡ [] → Puts contents begun ended text → Appends (contents begun.writer.now) (put_in contents ended) text
put_first contents begun ended text none puts =
    subst (λ k. Appends k (put_in contents ended) text) (ap (append_known (contents begun.writer.now)) none ∙ known_alone (contents begun.writer.now)) puts.appends

-- two texts, one after the other
pub puts_both : {W : Type 0} (contents : W → Option (List ℕ)) (begun now ended : Output W (String Global)) (front back : List ℕ)
    → Puts contents begun now front → Puts contents now ended back → Puts contents begun ended (front ++ back)
puts_both contents begun now ended front back first second = record {
  writer = second.writer ∙ first.writer;
  appends = Appends-trans _ _ _ front back first.appends second.appends;
}

-- likewise from an output in which nothing was collected
pub written_at_once : {W : Type 0} (contents : W → Option (List ℕ)) (begun ended : Output W (String Global)) (text : List ℕ)
    → string_bytes begun.text ≡ [] → string_bytes ended.text ≡ [] → Puts contents begun ended text → Appends (contents begun.writer.now) (contents ended.writer.now) text
written_at_once contents begun ended text none all puts =
    subst (λ k. Appends k (contents ended.writer.now) text) (ap (append_known (contents begun.writer.now)) none ∙ known_alone (contents begun.writer.now))
    (written_rest contents begun ended text all puts)

-- likewise in two steps
pub written_whole : {W : Type 0} (contents : W → Option (List ℕ)) (begun now ended : Output W (String Global)) (text : List ℕ)
    → string_bytes begun.text ≡ [] → string_bytes ended.text ≡ [] → Puts contents begun now text → Puts contents now ended []
    → Appends (contents begun.writer.now) (contents ended.writer.now) text
written_whole contents begun now ended text none all puts rest =
    let before : put_in contents begun ≡ contents begun.writer.now = ap (append_known (contents begun.writer.now)) none ∙ known_alone (contents begun.writer.now) in
    let both : Puts contents begun ended text = record {
      writer = rest.writer ∙ puts.writer;
      appends = subst (Appends (put_in contents begun) (put_in contents ended)) (append-nil text) (Appends-trans _ _ _ text [] puts.appends rest.appends);
    } in
    subst (λ k. Appends k (contents ended.writer.now) text) before (written_rest contents begun ended text all both)

-- ---- words with equal mappings

same_json : (c : Controls) (source : ControlsSource) (asked : Option Access) (L : ℕ) (T W : Words) (root p : ℕ) → SameBelow L T W root
    → json_of_asked c source asked L T root p ≡ json_of_asked c source asked L W root p
same_json c source None L T W root p below = refl
same_json c source (Some a) L T W root p below = ap (λ o. Some (json_of_access a c source o)) (same_outcome c a L T W root p below)

same_walks : (form : Form) (L : ℕ) (T W : Words) (root : ℕ) (asked : WalkOptions) (p : ℕ) → SameBelow L T W root → walk_lines form L T root asked p ≡ walk_lines form L W root asked p
same_walks Text L T W root asked p below = λ i. let walk = same_walk T W p L root below i in walk_text asked.controls walk
    ++ (if asked.explains then explanation_text walk else []) ++ same_asked asked.controls asked.source asked.access L T W root p below i
same_walks Json L T W root asked p below = λ i. json_line (json_of_walk (raw L p) (same_walk T W p L root below i) (same_json asked.controls asked.source asked.access L T W root p below i))

same_of : (form : Form) (columns : Columns) (layout : Option Layout) (command : Command) (L : ℕ) (T W : Words) (root : ℕ) → mappings_of L T root ≡ mappings_of L W root → SameBelow L T W root
    → report_in form columns layout command L T root ≡ report_in form columns layout command L W root
unfolding regions_text pages_text walks_text find_text addresses_text check_text
same_of form columns layout (commands.Regions s) L T W root same below = ap (λ ms. Some (flat_map (region_line form columns layout L) (filter (is_selected L s) (regions_in L ms)))) same
same_of form columns layout (commands.Pages s has_names) L T W root same below = ap (λ ms. Some (flat_map (mapping_line form columns has_names layout L) (filter (is_mapping_selected L s) ms))) same
same_of form columns layout (commands.Walk addresses asked) L T W root same below =
    λ i. Some (flat_map (λ a. heading_line form (are_several addresses.items) (codes "address") a ++ same_walks form L T W root asked (a % position_count L) below i) addresses.items)
same_of form columns layout (commands.Find addresses) L T W root same below =
    ap (λ ms. Some (flat_map (λ a. heading_line form (are_several addresses.items) (codes "physical") a ++ flat_map (address_line form L a) (filter (leads_to a) ms)
    ++ none_line form (are_several addresses.items) (list_any (leads_to a) ms)) addresses.items)) same
same_of form columns layout (commands.Check checking) L T W root same below =
    ap (λ lines. Some (flat_map (line_of form) lines ++ line_of form (said_of_count (line_count lines)))) (same_lines T W checking L root same below)
same_of form columns layout commands.Image L T W root same below = refl
same_of form columns layout commands.Picture L T W root same below = refl
same_of form columns layout commands.Info L T W root same below = refl

pub same_report : (request : Request) (L : ℕ) (T W : Words) (root : ℕ) → mappings_of L T root ≡ mappings_of L W root → SameBelow L T W root
    → report_of request L T root ≡ report_of request L W root
same_report request = same_of request.form request.columns (layout_in request.areas) request.command

pub same_completeness : (command : Command) (L : ℕ) (T W : Words) (root : ℕ) → mappings_of L T root ≡ mappings_of L W root
    → SameBelow L T W root → ((p : ℕ) → page_walk L T root p ≡ page_walk L W root p) → completeness_of command L T root ≡ completeness_of command L W root
same_completeness (commands.Regions s) L T W root same below walks = refl
same_completeness (commands.Pages s has_names) L T W root same below walks = refl
same_completeness (commands.Walk addresses asked) L T W root same below walks =
    λ i. list_all (λ a. same_there asked.controls asked.access L T W root (a % position_count L) (walks (a % position_count L)) below i) addresses.items
same_completeness (commands.Find addresses) L T W root same below walks = ap (λ ms. list_all (λ a. list_any (leads_to a) ms) addresses.items) same
same_completeness (commands.Check checking) L T W root same below walks = ap (λ lines. length lines == 0) (same_lines T W checking L root same below)
same_completeness commands.Image L T W root same below walks = refl
same_completeness commands.Picture L T W root same below walks = refl
same_completeness commands.Info L T W root same below walks = refl

-- ---- the run

-- what is opened if the file is a dump and the start of page walks is found
pub opens : (request : Request) (file : List ℕ) (dump : Contents) (start : Start) → contents_for request file ≡ Ok dump → start_for request dump ≡ Ok start
    → opened_for request file ≡ Ok (record { dump = dump; start = start })
unfolding opened_for
opens request file dump start contents starts =
    ap (λ found. and_then (of_dump found) (λ dump. and_then (start_for request dump) (λ start. Ok (record { dump = dump; start = start })))) contents
    ∙ ap (λ found. and_then found (λ start. Ok (record { dump = dump; start = start }))) starts

-- why nothing is opened
pub no_dump : (fails may : Bool) (request : Request) (file : List ℕ) (error : DumpError) → Fails fails error (contents_for request file) → FailsBy fails may (failure_of error) (opened_for request file)
unfolding opened_for
no_dump fails may request file error is = dump_fails fails may error (contents_for request file) _ is

pub no_start : (fails may : Bool) (request : Request) (file : List ℕ) (dump : Contents) (failure : Failure) → contents_for request file ≡ Ok dump
    → FailsBy fails false failure (start_for request dump) → FailsBy fails may failure (opened_for request file)
unfolding opened_for
no_start fails may request file dump failure contents is =
    subst (λ found. FailsBy {A = Opened} fails may failure (and_then (of_dump found) (λ dump. and_then (start_for request dump) (λ start. Ok (record { dump = dump; start = start }))))) (sym contents)
    (fails_then fails may failure (start_for request dump) (λ start. Ok (record { dump = dump; start = start })) is)

-- likewise for the processors of a dump
pub shows : (request : Request) (file : List ℕ) (dump : Contents) (ps : List Processor) → contents_for request file ≡ Ok dump → processors_for request dump ≡ Ok ps
    → machine_for request file ≡ Ok (record { dump = dump; processors = ps })
unfolding machine_for
shows request file dump ps contents are =
    ap (λ found. and_then (of_dump found) (λ dump. and_then (processors_for request dump) (λ ps. Ok (record { dump = dump; processors = ps })))) contents
    ∙ ap (λ found. and_then found (λ ps. Ok (record { dump = dump; processors = ps }))) are

shows_none : (fails may : Bool) (request : Request) (file : List ℕ) (error : DumpError) → Fails fails error (contents_for request file) → FailsBy fails may (failure_of error) (machine_for request file)
unfolding machine_for
shows_none fails may request file error is = dump_fails fails may error (contents_for request file) _ is

pub no_processors : (fails may : Bool) (request : Request) (file : List ℕ) (dump : Contents) (failure : Failure) → contents_for request file ≡ Ok dump
    → FailsBy fails false failure (processors_for request dump) → FailsBy fails may failure (machine_for request file)
unfolding machine_for
no_processors fails may request file dump failure contents is =
    subst (λ found. FailsBy {A = DumpedMachine} fails may failure (and_then (of_dump found) (λ dump. and_then (processors_for request dump) (λ ps. Ok (record { dump = dump; processors = ps }))))) (sym contents)
    (fails_then fails may failure (processors_for request dump) (λ ps. Ok (record { dump = dump; processors = ps })) is)

-- a run that opened what was asked for reports on it, or fails because of memory, a read or a write
pub runs_by : (fails may : Bool) (request : Request) (file : List ℕ) (before after : Option (List ℕ)) (o : Opened) (result : Result Outcome Failure) → opened_for request file ≡ Ok o
    → IfOk result (λ outcome. ReportsOf request before after outcome o) → IfErr result (MayBeForced fails may) → RunsOnTables fails may request file before after result
runs_by fails may request file before after o (Ok outcome) opened reports forced = (o, opened, reports)
runs_by fails may request file before after o (Err failure) opened reports forced = (forced_fails fails may failure (opened_for request file) forced, inl forced)

-- likewise for the processors of a dump
pub runs_on_all : (fails may : Bool) (request : Request) (file : List ℕ) (before after : Option (List ℕ)) (m : DumpedMachine) (result : Result Outcome Failure) → machine_for request file ≡ Ok m
    → IfOk result (ReportsAll request (words_of_dump m.dump) m.processors before after) → IfErr result (MayBeForced fails may) → RunsOnProcessors fails may request file before after result
runs_on_all fails may request file before after m (Ok outcome) shown reports forced = (m, shown, reports)
runs_on_all fails may request file before after m (Err failure) shown reports forced = (forced_fails fails may failure (machine_for request file) forced, inl forced)

-- likewise if what was asked for is about the dump alone
pub tells_of : (fails a b : Bool) (request : Request) (file : List ℕ) (before after : Option (List ℕ)) (dump : Contents) (result : Result Outcome Failure)
    → dump_for request file ≡ Ok dump → OnOk result (Appends before after (info_of request dump)) → IfOk result (λ outcome. outcome.is_complete ≡ true)
    → IfErr result (MayBeForced fails a) → RunsOnDump fails (a || b) request file before after result
tells_of fails a b request file before after dump (Ok outcome) opened written complete forced = (dump, opened, written, complete)
tells_of fails a b request file before after dump (Err failure) opened written complete forced =
    let either = forced_first fails a b failure forced in
    (forced_fails fails (a || b) failure (dump_for request file) either, inl either)

-- a run fails because of memory, a read or a write, whatever was asked for
pub forced_run : (info all fails may : Bool) (request : Request) (file : List ℕ) (before after : Option (List ℕ)) (failure : Failure) → MayBeForced fails may failure
    → RunsAs info all fails may request file before after (Err failure)
forced_run true all fails may request file before after failure forced = (forced_fails fails may failure (dump_for request file) forced, inl forced)
forced_run false true fails may request file before after failure forced = (forced_fails fails may failure (machine_for request file) forced, inl forced)
forced_run false false fails may request file before after failure forced = (forced_fails fails may failure (opened_for request file) forced, inl forced)

-- or because the file is no dump
pub unopened : (info all fails may : Bool) (request : Request) (file : List ℕ) (contents : Option (List ℕ)) (error : DumpError) → Fails fails error (contents_for request file)
    → RunsAs info all fails may request file contents contents (Err (failure_of error))
unopened true all fails may request file contents error is = (dump_unread fails may error (contents_for request file) is, inr refl)
unopened false true fails may request file contents error is = (shows_none fails may request file error is, inr refl)
unopened false false fails may request file contents error is = (no_dump fails may request file error is, inr refl)
