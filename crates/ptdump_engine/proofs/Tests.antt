-- Tests of the request: none of them fails by a read or a write.
use Rattle.std.proofs.Common.{◌≡◌, ◌∙◌, ◌^◌, ◌||◌, ℕ, Bool, true, false, not, List, [], ◌∷◌, Option, None, Some, IfSome, is_some, option_map, Result, Ok, Err, cond, nat_le, nat_lt, ap, subst}
use Rattle.std.specs.Bool.{⊤}
use Rattle.std.specs.List.{find}
use Rattle.std.specs.Option.{option_or}
use Rattle.x86_64_addr.specs.declared.level_count.Levels.{Levels}
use Rattle.x86_64_dump.specs.Dump.{Contents, words_of_dump}
use Rattle.x86_64_dump.specs.Notes.{processors_of}
use Rattle.x86_64_model.specs.Memory.{Words}
use Rattle.ptdump_check.specs.declared.checking.AddressRange.{AddressRange}
use Rattle.ptdump_engine.specs.Processors.{firsts_of, modes_failure, processors_from}
use Rattle.ptdump_engine.specs.Program.{address_failure, argument_failure, direct_map_failure, first_failure, is_canonical_address, is_walk, level_count, order_failure, processors_for, root_failure, reversed_failure, selection_failure, start_for, tables_failure}
use Rattle.ptdump_engine.specs.Start.{start_of}
use Rattle.ptdump_engine.specs.Steps.{FailsBy, and_then, unless_failure}
use Rattle.ptdump_engine.specs.declared.failure.Failure.{Failure}
use Rattle.ptdump_engine.specs.declared.failure.Failure.TheVariants as failures
use Rattle.ptdump_engine.specs.declared.processors.Processor.{Processor}
use Rattle.ptdump_engine.specs.declared.request.Command.{Command}
use Rattle.ptdump_engine.specs.declared.request.Command.TheVariants as commands
use Rattle.ptdump_engine.specs.declared.request.Request.{Request}
use Rattle.x86_64_mappings.specs.declared.selection.Selection.{Selection}
use Rattle.ptdump_json.specs.declared.start.Start.{Start}

-- it isn't that of a read or a write
abbrev IsOfTest : Failure → Type 0
IsOfTest failures.Output = ⊥
IsOfTest (failures.Read error) = ⊥
IsOfTest failure = ⊤

fails_so : {A : Type 0} (fails : Bool) (failure : Failure) (found : Result A Failure) → IsOfTest failure → found ≡ Err failure → FailsBy fails false failure found
fails_so fails failures.OutOfMemory found test is = tt
fails_so fails failures.Output found test is = absurd test
fails_so fails failures.NoCr3 found test is = is
fails_so fails failures.VirtualBox found test is = is
fails_so fails (failures.NoProcessor cpu count) found test is = is
fails_so fails failures.NoProcessors found test is = is
fails_so fails (failures.WrongMode cpu mode) found test is = is
fails_so fails (failures.NotCanonical address levels) found test is = is
fails_so fails (failures.NotPhysical address) found test is = is
fails_so fails (failures.FromAboveTo from to) found test is = is
fails_so fails (failures.DirectMapReversed first last) found test is = is
fails_so fails (failures.NoRoot root) found test is = is
fails_so fails (failures.Dump fault) found test is = is
fails_so fails (failures.Read error) found test is = absurd test

either : (one other : Option Failure) → IfSome one IsOfTest → IfSome other IsOfTest → IfSome (option_or one other) IsOfTest
either None other first second = second
either (Some failure) other first second = first

found_so : (failure_at : ℕ → Failure) → ((a : ℕ) → IsOfTest (failure_at a)) → (found : Option ℕ) → IfSome (option_map failure_at found) IsOfTest
found_so failure_at none None = tt
found_so failure_at none (Some a) = none a

address_so : (levels : Levels) (address : Option ℕ) → IfSome (address_failure levels address) IsOfTest
address_so levels None = tt
address_so levels (Some a) = by (is_canonical_address (level_count levels) a)
  where
    by : (b : Bool) → IfSome (cond b None (Some (failures.NotCanonical a levels))) IsOfTest
    by true = tt
    by false = tt

order_so : (from to : Option ℕ) → IfSome (order_failure from to) IsOfTest
order_so None to = tt
order_so (Some from) None = tt
order_so (Some from) (Some to) = by (nat_lt to from)
  where
    by : (b : Bool) → IfSome (cond b (Some (failures.FromAboveTo from to)) None) IsOfTest
    by true = tt
    by false = tt

selection_so : (levels : Levels) (s : Selection) → IfSome (selection_failure levels s) IsOfTest
selection_so levels s = either (address_failure levels s.from) _ (address_so levels s.from) (either (address_failure levels s.to) _ (address_so levels s.to) (order_so s.from s.to))

reversed_so : (range : AddressRange) → IfSome (reversed_failure range) IsOfTest
reversed_so range = by (nat_lt range.last range.first)
  where
    by : (b : Bool) → IfSome (cond b (Some (failures.DirectMapReversed range.first range.last)) None) IsOfTest
    by true = tt
    by false = tt

direct_map_so : (levels : Levels) (range : Option AddressRange) → IfSome (direct_map_failure levels range) IsOfTest
direct_map_so levels None = tt
direct_map_so levels (Some range) = either (address_failure levels (Some range.first)) _ (address_so levels (Some range.first))
    (either (address_failure levels (Some range.last)) _ (address_so levels (Some range.last)) (reversed_so range))

argument_so : (levels : Levels) (command : Command) → IfSome (argument_failure levels command) IsOfTest
argument_so levels (commands.Walk addresses asked) = found_so (λ a. failures.NotCanonical a levels) (λ a. tt) (find (λ a. not (is_canonical_address (level_count levels) a)) addresses.items)
argument_so levels (commands.Find addresses) = found_so (λ a. failures.NotPhysical a) (λ a. tt) (find (λ a. nat_le (2 ^ 52) a) addresses.items)
argument_so levels (commands.Regions selection) = selection_so levels selection
argument_so levels (commands.Pages selection has_names) = selection_so levels selection
argument_so levels (commands.Check checking) = either (selection_failure levels checking.selection) _ (selection_so levels checking.selection) (direct_map_so levels checking.direct_map)
argument_so levels commands.Image = tt
argument_so levels commands.Picture = tt
argument_so levels commands.Info = tt

root_so : (command : Command) (T : Words) (root : ℕ) → IfSome (root_failure command T root) IsOfTest
root_so command T root = by (is_walk command || is_some (T root))
  where
    by : (b : Bool) → IfSome (cond b None (Some (failures.NoRoot root))) IsOfTest
    by true = tt
    by false = tt

-- why a request is refused whose arguments are invalid
pub refused : (fails : Bool) (request : Request) (dump : Contents) (start : Start) (failure : Failure) → start_of request dump ≡ Ok start
    → argument_failure start.levels request.command ≡ Some failure → FailsBy fails false failure (start_for request dump)
unfolding start_for
refused fails request dump start failure starts is =
    let tested : Start → Result Start Failure = λ start. unless_failure (root_failure request.command (words_of_dump dump) start.root) start in
    let OfTest : Option Failure → Type 0 = λ found. IfSome found IsOfTest in
    fails_so fails failure (start_for request dump) (subst OfTest is (argument_so start.levels request.command))
    (ap (λ found. and_then found (λ start. and_then (unless_failure (argument_failure start.levels request.command) start) (λ _. tested start))) starts
    ∙ ap (λ found. and_then (unless_failure found start) (λ _. tested start)) is)

first_so : (request : Request) (T : Words) (ps : List Processor) → IfSome (first_failure request T ps) IsOfTest
first_so request T [] = tt
first_so request T (p ∷ ps) = either (tables_failure request T p) _
    (either (argument_failure p.start.levels request.command) _ (argument_so p.start.levels request.command) (root_so request.command T p.start.root))
    (first_so request T ps)

fails_with : (request : Request) (dump : Contents) (ps : List Processor) (failure : Failure) → processors_from dump.file request.levels 0 (processors_of dump) ≡ Ok ps → modes_failure ps ≡ None
    → first_failure request (words_of_dump dump) (firsts_of ps) ≡ Some failure → processors_for request dump ≡ Err failure
unfolding processors_for
fails_with request dump ps failure are modes first =
    ap (λ found. and_then found (λ ps. and_then (unless_failure (modes_failure ps) ps) (λ tested. unless_failure (first_failure request (words_of_dump dump) (firsts_of ps)) ps))) are
    ∙ ap (λ o. and_then (unless_failure o ps) (λ tested. unless_failure (first_failure request (words_of_dump dump) (firsts_of ps)) ps)) modes
    ∙ ap (λ o. unless_failure o ps) first

-- the tables of a processor can't be reported on
pub no_tables : (fails : Bool) (request : Request) (dump : Contents) (ps : List Processor) (failure : Failure) → processors_from dump.file request.levels 0 (processors_of dump) ≡ Ok ps → modes_failure ps ≡ None
    → first_failure request (words_of_dump dump) (firsts_of ps) ≡ Some failure → FailsBy fails false failure (processors_for request dump)
no_tables fails request dump ps failure are modes first =
    fails_so fails failure (processors_for request dump) (subst (λ o. IfSome o IsOfTest) first (first_so request (words_of_dump dump) (firsts_of ps)))
    (fails_with request dump ps failure are modes first)
