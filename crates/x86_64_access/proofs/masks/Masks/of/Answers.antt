use Rattle.std.proofs.Common.{refl}
use Rattle.x86_64_access.specs.Accesses.{access_of, controls_of}
use Rattle.x86_64_access.proofs.Deciding.{decides, page_decides, suffices}
use Rattle.x86_64_access.proofs.masks.Masks.of.Goals as goal

pub returns : goal.returns
returns c =
    let controls = controls_of c.args.controls.now in
    rw (c.high_bits.ensures, c.off_bits.ensures, c.global_bits.ensures, c.kind_bits-kind.ensures, c.user_bits-user.ensures, c.kept_bits.ensures)
    (record {
      table = decides controls c.requires;
      page = page_decides controls c.requires;
      giant = refl;
      rights = suffices controls (access_of c.args.access);
    })
