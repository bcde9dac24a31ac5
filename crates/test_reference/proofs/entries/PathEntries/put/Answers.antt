use Rattle.std.proofs.Common.{◌++◌, [], ◌∷◌, ap, ◌∙◌}
use Rattle.test_reference.specs.PathEntries.{paths_of_items}
use Rattle.x86_64_model.specs.PathMap.{put as put_of}
use Rattle.test_reference.proofs.Lists.{put-used, put-unused}
use Rattle.test_reference.proofs.entries.PathEntries.put.Goals as goal

pub returns-in_ok-push : goal.returns-in_ok-push
returns-in_ok-push c = ap paths_of_items (c.in_ok-push.ensures.items ∙ ap (λ xs. xs ++ (record { path = c.in_ok-path.path; word = c.args.word }) ∷ []) c.leave_out.ensures) ∙ put-used c.self.inside.items.items c.args.path.now (record { path = c.in_ok-path.path; word = c.args.word }) c.in_ok-path.ensures.items c.if-word-ne0.true ∙ ap (λ M. put_of M c.args.path.now c.args.word) c.self.view_is

pub returns-else-word-ne0 : goal.returns-else-word-ne0
returns-else-word-ne0 c = ap paths_of_items c.leave_out.ensures ∙ put-unused c.self.inside.items.items c.args.path.now c.args.word c.if-word-ne0.false ∙ ap (λ M. put_of M c.args.path.now c.args.word) c.self.view_is
