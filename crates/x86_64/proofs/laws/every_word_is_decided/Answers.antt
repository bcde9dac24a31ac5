use Rattle.x86_64.proofs.EveryWord.{every_word_is_decided}
use Rattle.x86_64.proofs.laws.every_word_is_decided.Goals as goal

pub returns : goal.returns
returns c = every_word_is_decided
