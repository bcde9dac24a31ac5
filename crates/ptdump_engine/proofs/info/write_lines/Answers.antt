use Rattle.std.proofs.Common.{◌≡◌, ◌∙◌, ◌++◌, Ok, subst, unwrap_or}
use Rattle.std.specs.List.{flat_map}
use Rattle.x86_64_dump.specs.Notes.{processors_of}
use Rattle.x86_64_dump.specs.Opened.{opened}
use Rattle.x86_64_dump.specs.VmCoreInfo.{kernel_in}
use Rattle.ptdump_engine.specs.Info.{format_line, info_in, kernel_line, memory_line, processor_lines, root_line}
use Rattle.ptdump_engine.specs.Output.{Puts}
use Rattle.ptdump_engine.specs.Program.{start_for}
use Rattle.ptdump_engine.specs.private.Puts.{puts_both}
use Rattle.ptdump_json.proofs.Results.{on_ok}
use Rattle.ptdump_engine.proofs.info.write_lines.Goals as goal

pub returns-clause-text : goal.returns-clause-text
unfolding info_in
returns-clause-text g c = λ known.
    let contents = g.W.Destination.contents in
    let dump = opened g.S.ByteSource.bytes c.args.dump.now in
    let found : Ok (processors_of dump) ≡ Ok c.in_ok-processors.processors.items = c.in_ok-processors.ensures known in
    let listed : c.in_ok-processors.processors.items ≡ processors_of dump = cc in
    let notes : c.deref.result.now ≡ processors_of dump = c.deref.ensures.value ∙ listed in
    let form = c.args.request.now.form in
    let kernel = kernel_line form (kernel_in dump) in
    let root = root_line form (unwrap_or c.args.request.now.cpu 0) (start_for c.args.request.now dump) in
    let begun = puts_both contents c.args.output.now c.write_format.new.output c.write_memory.new.output _ _ c.in_ok-write_format.ensures c.in_ok-write_memory.ensures in
    let told = puts_both contents c.args.output.now c.write_memory.new.output c.write_processors.new.output _ _ begun (c.in_ok-write_processors.ensures.text known) in
    let known_kernel = puts_both contents c.args.output.now c.write_processors.new.output c.write_kernel.new.output _ _ told (c.in_ok-write_kernel.ensures.text known) in
    on_ok c.write_root.result (λ rooted.
    subst (Puts contents c.args.output.now c.write_root.new.output)
    (λ i. format_line form (c.format.ensures i) ++ flat_map (memory_line form) (c.segments.ensures i) ++ processor_lines form dump.file (notes i) ++ kernel ++ root)
    (puts_both contents c.args.output.now c.write_kernel.new.output c.write_root.new.output _ _ known_kernel rooted))
    (c.write_root.ensures.text known)
