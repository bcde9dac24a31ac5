use Rattle.std.proofs.Common.{◌≡◌, ℕ, Bool, true, false, List, Option, None, Some, codes, ap, refl}
use Rattle.clap.specs.Matches.{found_of, one_text}
use Rattle.ptdump.specs.Options.{IsFlag}
use Rattle.ptdump.proofs.flags.is_given.Goals as goal

flag_as : (text : Option (List ℕ)) (flag : Bool) → (text ≡ None → flag ≡ false) → (text ≡ Some (codes "true") → flag ≡ true) → (text ≡ Some (codes "false") → flag ≡ false) → IsFlag text flag
flag_as None flag none on off = none refl
flag_as (Some text) flag none on off = (λ is. on (ap Some is), λ is. off (ap Some is))

pub returns : goal.returns
returns c = flag_as (one_text (found_of c.args.arguments.now) c.args.name.now) c.get_flag.result c.get_flag.ensures.none c.get_flag.ensures.value c.get_flag.ensures.other
