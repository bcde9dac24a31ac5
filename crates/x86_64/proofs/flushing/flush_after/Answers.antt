use Rattle.std.proofs.Common.{false, Some, sym, ap, ap₂, ◌∙◌}
use Rattle.x86_64.specs.Calls.{to_call}
use Rattle.x86_64.specs.declared.call_values.MapperReply.TheVariants as reply
use Rattle.x86_64.specs.private.FlushReplies.{page_flush}
use Rattle.x86_64.proofs.FlushesTold.{told_by, is_some_index}
use Rattle.x86_64.proofs.flushing.flush_after.Goals as goal

pub returns-in-Of4KiB : goal.returns-in-Of4KiB
returns-in-Of4KiB g c = λ window freed r index stands.
    c.after_page.ensures ∙ ap (λ t. page_flush t false c.in-Of4KiB.reply) c.takes_execute-takes_execute.ensures
    ∙ sym (told_by g.L.LevelCount.LEVELS g.L.LevelCount.at_least_four window freed (to_call g.L.LevelCount.LEVELS g.P5.LevelFiveFlags.bits c.args.call.now) r (reply.Of4KiB c.in-Of4KiB.reply) (stands ∙ ap Some c.in-Of4KiB.is))

pub returns-in-Of2MiB : goal.returns-in-Of2MiB
returns-in-Of2MiB g c = λ window freed r index stands.
    c.after_page-in-Of2MiB.ensures ∙ ap₂ (λ t s. page_flush t s c.in-Of2MiB.reply) c.takes_execute-takes_execute.ensures (c.is_some-recursive.ensures ∙ is_some_index window _ index)
    ∙ sym (told_by g.L.LevelCount.LEVELS g.L.LevelCount.at_least_four window freed (to_call g.L.LevelCount.LEVELS g.P5.LevelFiveFlags.bits c.args.call.now) r (reply.Of2MiB c.in-Of2MiB.reply) (stands ∙ ap Some c.in-Of2MiB.is))

pub returns-in-Of1GiB : goal.returns-in-Of1GiB
returns-in-Of1GiB g c = λ window freed r index stands.
    c.after_page-in-Of1GiB.ensures ∙ ap₂ (λ t s. page_flush t s c.in-Of1GiB.reply) c.takes_execute-takes_execute.ensures (c.is_some-recursive.ensures ∙ is_some_index window _ index)
    ∙ sym (told_by g.L.LevelCount.LEVELS g.L.LevelCount.at_least_four window freed (to_call g.L.LevelCount.LEVELS g.P5.LevelFiveFlags.bits c.args.call.now) r (reply.Of1GiB c.in-Of1GiB.reply) (stands ∙ ap Some c.in-Of1GiB.is))
