-- The results of a mapper's steps, with refusals in place of the Rust errors.
use Rattle.std.specs.Prelude.{Result, Ok, Err}
use Rattle.x86_64_model.specs.Refusal.{Refusal}
use Rattle.x86_64_model.specs.Refusal as refusal
use Rattle.x86_64_tables.specs.MapperAnswers.{refusal_of_unmap, refusal_of_translate}
use Rattle.x86_64_tables.specs.declared.errors.UnmapError.{UnmapError}
use Rattle.x86_64_tables.specs.declared.errors.TranslateError.{TranslateError}
use Rattle.x86_64_mappers.specs.declared.walk.parents.PageTableWalkError.{PageTableWalkError}
use Rattle.x86_64_mappers.specs.declared.walk.map.PageTableCreateError.{PageTableCreateError}
use Rattle.x86_64_mappers.specs.declared.walk.map.PageTableCreateError.TheVariants.{MappedToHugePage, FrameAllocationFailed}
use Rattle.x86_64_mappers.specs.declared.walk.parents.PageTableWalkError.TheVariants as walk

-- The refusal for the Rust error of a step of a map that goes down to a table and creates it if it is missing.
abbrev pub create_refusal : PageTableCreateError → Refusal
create_refusal MappedToHugePage = refusal.ParentEntryHugePage
create_refusal FrameAllocationFailed = refusal.FrameAllocationFailed

-- The result of a step of a map that goes down to a table and creates it if it is missing, with the refusal in place of the Rust
-- error.
abbrev pub create_result : {X : Type 0} → Result X PageTableCreateError → Result X Refusal
create_result (Ok x) = Ok x
create_result (Err why) = Err (create_refusal why)

-- The refusal for the Rust error of a step down to a table that has to exist.
abbrev pub walk_refusal : PageTableWalkError → Refusal
walk_refusal walk.NotMapped = refusal.PageNotMapped
walk_refusal walk.MappedToHugePage = refusal.ParentEntryHugePage

-- The result of a step down to a table that has to exist, with the refusal in place of the Rust error.
abbrev pub walk_result : {X : Type 0} → Result X PageTableWalkError → Result X Refusal
walk_result (Ok x) = Ok x
walk_result (Err why) = Err (walk_refusal why)

-- The result of a step of a page's translation, with the refusal in place of the Rust error.
abbrev pub translation_answer : {X : Type 0} → Result X TranslateError → Result X Refusal
translation_answer (Ok x) = Ok x
translation_answer (Err why) = Err (refusal_of_translate why)

-- The result of a step of an unmap, with the refusal in place of the Rust error.
abbrev pub unmap_result : {X : Type 0} → Result X UnmapError → Result X Refusal
unmap_result (Ok x) = Ok x
unmap_result (Err why) = Err (refusal_of_unmap why)
