use Rattle.std.proofs.Common.{◌∙◌, sym}
use Rattle.x86_64_tables.proofs.FrameAddresses.{no_address, frame_of}
use Rattle.x86_64_tables.proofs.phys_memory.lent_marks.frame_at.Goals as goal

pub returns-in_err-address : goal.returns-in_err-address
returns-in_err-address c =
    c.from_residual.ensures ∙ no_address c.try_new.result c.args.address c.try_new.ensures.below.1 (sym c.ok.ensures.value ∙ c.in_err-address.was)

pub returns : goal.returns
returns c =
    c.ok-2.ensures.value ∙ frame_of c.try_new.result c.args.address c.in_ok-address.address c.from_start_address.result c.try_new.ensures.below c.try_new.ensures.value
    (sym c.ok.ensures.value ∙ c.in_ok-address.was) c.from_start_address.ensures.aligned c.from_start_address.ensures.value
