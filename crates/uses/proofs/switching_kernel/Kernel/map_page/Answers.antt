use Rattle.std.proofs.Common.{rules}
use Rattle.x86_64_model.specs.Entry.{has}
use Rattle.x86_64_tables.specs.PageTableFlags.{bits_of}
use Rattle.x86_64_mappers.proofs.Map.MapArrivals.{frame_address}
use Rattle.uses.proofs.KernelCalls.{own_map_call}
use Rattle.uses.proofs.switching_kernel.Kernel.map_page.Goals as goal

pub call-requires-clause-own : goal.call-requires-clause-own
unfolding has
call-requires-clause-own g c = own_map_call _ c.args.process.now c.args.page c.args.frame (bits_of c.args.flags) (search rules)
    (frame_address c.args.frame c.start_address-start.ensures.below c.start_address-start.ensures.aligned_to_4kib) (search rules)
