use Rattle.std.proofs.Common.{◌≡◌, None, Some, IfSome, Option, List, ℕ, true, ◌∙◌, ap, subst, sym}
use Rattle.x86_64_dump.specs.Dump.{words_of_dump}
use Rattle.x86_64_dump.specs.Opened.{holds, opened}
use Rattle.x86_64_dump.specs.private.FrameNumbers.{HasAll}
use Rattle.x86_64_dump.specs.Tables.{table_named}
use Rattle.x86_64_dump.proofs.Held.{met_held}
use Rattle.x86_64_dump.proofs.Listing.{named_more}
use Rattle.x86_64_dump.proofs.tables.levels.add_named.Goals as goal
use Rattle.x86_64_dump.proofs.tables.levels.add_named.Goals.{in-Some+in_ok-insert, in_default}

pub loop-word-preserved : goal.loop-word-preserved
loop-word-preserved g c = record {
  named = λ known.
      let W = words_of_dump (opened g.S.ByteSource.bytes c.args.dump.now) in
      let more = named_more W c.args.below.now c.loop-word.below c.args.words.now c.loop-word.word-index c.word-item.result c.loop-word-test.true (c.loop-word.invariant.named known) in
      let named = c.table_named.ensures.named known ∙ ap (table_named W) c.word-item.is in
      elim c.match-table_named.branch [
        | in-Some+in_ok-insert w ↦ w.below-is ∙ w.in_ok-insert.ensures ∙ more (Some w.in-Some.named) (sym w.in-Some.is ∙ named)
        | in_default w ↦ w.below-is ∙ more None (sym w.in_default.is ∙ named)
      ];
  held = λ old.
      let has = holds g.S.ByteSource.size c.args.dump.now in
      let Held : List ℕ → Type 0 = HasAll has in
      let Has : Option ℕ → Type 0 = λ named. IfSome named (λ f. has f ≡ true) in
      elim c.match-table_named.branch [
        | in-Some+in_ok-insert w ↦ subst Held (sym (w.below-is ∙ w.in_ok-insert.ensures))
            (met_held has c.loop-word.below w.in-Some.named (c.loop-word.invariant.held old) (subst Has w.in-Some.is c.table_named.ensures.held))
        | in_default w ↦ subst Held (sym w.below-is) (c.loop-word.invariant.held old)
      ];
}
