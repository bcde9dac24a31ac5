use Rattle.std.proofs.Common.{All}
use Rattle.x86_64_model.specs.Memory.{words_of}
use Rattle.ptdump_picture.specs.Links.{IsLink}
use Rattle.ptdump_picture.proofs.links.listing.table_links.Given as goal

-- all links so far are links of the memory
abbrev pub invariant-loop-frame : goal.invariant-loop-frame
invariant-loop-frame g l =
    All (IsLink (words_of (g.T.TableMemory.tables l.memory) (g.P.PageTableFrameMapping.places l.mapping))) l.links.items

abbrev pub invariant-loop-index : goal.invariant-loop-index
invariant-loop-index g l =
    All (IsLink (words_of (g.T.TableMemory.tables l.memory) (g.P.PageTableFrameMapping.places l.mapping))) l.links.items
