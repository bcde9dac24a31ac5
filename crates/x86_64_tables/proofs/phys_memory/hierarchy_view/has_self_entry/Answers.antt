use Rattle.std.proofs.Common.{◌∙◌, ap}
use Rattle.std.specs.Prelude.{unwrap_or}
use Rattle.x86_64_model.specs.Memory.{word, words_of}
use Rattle.x86_64_tables.specs.SelfEntries.{names_frame}
use Rattle.x86_64_tables.proofs.WordsSeen.{word-read, zero_names_no_frame}
use Rattle.x86_64_tables.proofs.phys_memory.hierarchy_view.has_self_entry.Goals as goal

pub returns-in-Some : goal.returns-in-Some
returns-in-Some g c =
    let words = words_of (g.T.TableMemory.tables c.args.memory.now) (g.P.PageTableFrameMapping.places c.args.mapping.now) in
    let root = c.args.root in
    c.names_frame.ensures ∙ ap (λ w. names_frame w root)
    (ap (λ read. unwrap_or read 0) c.in-Some.ensures ∙ word-read words root c.from.result c.from.ensures.1 ∙ ap (word words root) c.from.ensures.0)

pub returns-in-None : goal.returns-in-None
returns-in-None g c =
    let words = words_of (g.T.TableMemory.tables c.args.memory.now) (g.P.PageTableFrameMapping.places c.args.mapping.now) in
    let root = c.args.root in
    zero_names_no_frame root ∙ ap (λ w. names_frame w root)
    (ap (λ read. unwrap_or read 0) c.in-None.ensures ∙ word-read words root c.from.result c.from.ensures.1 ∙ ap (word words root) c.from.ensures.0)
