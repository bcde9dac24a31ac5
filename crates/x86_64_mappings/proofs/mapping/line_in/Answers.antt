use Rattle.std.proofs.lemmas.Str.Ascii.{IsAscii-nil}
use Rattle.x86_64_mappings.proofs.mapping.line_in.Goals as goal

pub text_from-requires-clause-ascii : goal.text_from-requires-clause-ascii
text_from-requires-clause-ascii c =
    c.put_place-first.ensures.ascii (c.put-first-2.ensures.ascii (c.put_rights-first.ensures.ascii (c.put-first.ensures.ascii
    (c.put_hexadecimal-first.ensures.ascii IsAscii-nil))))
