use Rattle.std.proofs.lemmas.Str.Ascii.{IsAscii-nil}
use Rattle.x86_64_mappings.proofs.region.RegionIn.text_in.Goals as goal

pub text_from-requires-clause-ascii : goal.text_from-requires-clause-ascii
text_from-requires-clause-ascii g c =
    c.put_hexadecimal-start-2.ensures.ascii (c.put-start-3.ensures.ascii (c.put_hexadecimal-start.ensures.ascii
    (c.put-start-2.ensures.ascii (c.put_size-start.ensures.ascii (c.put-start.ensures.ascii
    (c.put_rights-start.ensures.ascii IsAscii-nil))))))
