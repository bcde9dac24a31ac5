-- Requests for reports on the tables of all processors.
use Rattle.std.proofs.Common.{◌≡◌, ◌&&◌, ℕ, Bool, true, false, true≢false, Option, None, Some, IfSome, IsSome, unwrap_or, refl, sym}
use Rattle.x86_64_model.specs.Memory.{Words}
use Rattle.ptdump_engine.specs.Program.{IsTested, has_roots, is_image, is_of_processors, report_in, report_of}
use Rattle.ptdump_engine.specs.declared.request.Command.{Command}
use Rattle.ptdump_engine.specs.declared.request.Command.TheVariants as commands
use Rattle.linux_areas.specs.declared.layout.Layout.{Layout}
use Rattle.ptdump_engine.specs.NamedAreas.{layout_in}
use Rattle.ptdump_json.specs.declared.options.Columns.{Columns}
use Rattle.ptdump_json.specs.declared.options.Form.{Form}
use Rattle.ptdump_engine.specs.declared.request.Request.{Request}

-- a fact about the value of an option that has one
pub some_or : {X : Type 0} (o : Option X) (P : X → Type 0) (default : X) → IfSome o P → IsSome o → P (unwrap_or o default)
some_or None P default holds has = absurd (true≢false (sym has))
some_or (Some x) P default holds has = holds

second : (a b : Bool) → (a && b) ≡ true → b ≡ true
second true b is = is
second false b is = absurd (true≢false (sym is))

roots_of : (request : Request) → is_of_processors request ≡ true → has_roots request.command ≡ true
roots_of request is = second request.all_cpus (has_roots request.command) is

tested : (command : Command) → has_roots command ≡ true → IsTested command
tested (commands.Regions selection) is = tt
tested (commands.Check checking) is = tt
tested command is = absurd (true≢false (sym is))

-- their command needs no test
pub is_tested : (request : Request) → is_of_processors request ≡ true → IsTested request.command
is_tested request is = tested request.command (roots_of request is)

other : (command : Command) → has_roots command ≡ true → is_image command ≡ false
other (commands.Regions selection) is = refl
other (commands.Check checking) is = refl
other command is = absurd (true≢false (sym is))

-- it isn't that of an image
pub no_image : (request : Request) → is_of_processors request ≡ true → is_image request.command ≡ false
no_image request is = other request.command (roots_of request is)

reported : (form : Form) (columns : Columns) (layout : Option Layout) (command : Command) (L : ℕ) (T : Words) (root : ℕ) → has_roots command ≡ true → IsSome (report_in form columns layout command L T root)
reported form columns layout (commands.Regions selection) L T root is = refl
reported form columns layout (commands.Check checking) L T root is = refl
reported form columns layout command L T root is = absurd (true≢false (sym is))

-- its report is specified
pub has_report : (request : Request) (L : ℕ) (T : Words) (root : ℕ) → is_of_processors request ≡ true → IsSome (report_of request L T root)
has_report request L T root is = reported request.form request.columns (layout_in request.areas) request.command L T root (roots_of request is)
