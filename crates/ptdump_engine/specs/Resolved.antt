-- Resolved: a request with what the dump tells in place of what it leaves open.
use Rattle.x86_64_dump.specs.Dump.{Contents}
use Rattle.ptdump_engine.specs.NamedAreas.{names_for}
use Rattle.ptdump_engine.specs.NotedControls.{with_noted_controls}
use Rattle.ptdump_engine.specs.declared.request.Request.{Request}
use Rattle.ptdump_json.specs.declared.start.Start.{Start}

-- A request with what the dump says in place of what the request leaves open: the controls of its walk by the processor's note
-- instead of assumed ones, and where the areas lie by which lines are named.
abbrev pub resolved : Request → Contents → Start → Request
resolved request dump start = record (with_noted_controls request dump start.registers) { areas = names_for request.areas dump start }
