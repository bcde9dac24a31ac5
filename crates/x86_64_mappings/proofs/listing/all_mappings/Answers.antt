use Rattle.std.proofs.Common.{◌∙◌, ap}
use Rattle.x86_64_model.specs.Memory.{words_of}
use Rattle.x86_64_model.specs.Mappings.{mappings_of, mappings_from}
use Rattle.x86_64_model.proofs.Lemmas.Mappings.Listing.{from_first}
use Rattle.x86_64_mappings.proofs.listing.all_mappings.Goals as goal

pub returns : goal.returns
returns g c =
    let L = g.L.LevelCount.LEVELS in
    let words = words_of (g.T.TableMemory.tables c.args.memory.now) (g.P.PageTableFrameMapping.places c.args.mapping.now) in
    c.mappings_from.ensures ∙ ap (λ p. mappings_from p (mappings_of L words c.args.root)) c.zero.ensures ∙ from_first L words c.args.root
