-- The replies to commands.
use Rattle.std.specs.Prelude.{ℕ, List, Option, option_map}
use Rattle.x86_64_model.specs.PageWalk.{Walked}
use Rattle.x86_64.specs.Replies.{Reply as CallReply}
use Rattle.x86_64_tables.specs.Walks.{walked_of}
use Rattle.pagetab_engine.specs.declared.reply.Reply as rust
use Rattle.pagetab_engine.specs.declared.reply.Reply.TheVariants as reply

-- The reply to a command: the reply to a call, where a page walk arrives, a word, or the free frames.
pub data Reply : Type 0 where
  Answered : CallReply → Reply
  Arrival : Option Walked → Reply
  Word : ℕ → Reply
  Pool : (frames : List ℕ) → Reply

-- A reply of the program in numbers, for any number of levels.
abbrev pub reply_of : {L : Type 0} → rust.Reply L → Reply
reply_of (reply.Answered answer) = Answered answer
reply_of (reply.Arrival walked) = Arrival (option_map walked_of walked)
reply_of (reply.Word word) = Word word
reply_of (reply.Pool frames) = Pool frames.items
