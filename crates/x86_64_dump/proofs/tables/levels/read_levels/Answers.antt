use Rattle.std.proofs.Common.{arith}
use Rattle.x86_64_dump.specs.Dump.{words_of_dump}
use Rattle.x86_64_dump.specs.Opened.{holds, opened}
use Rattle.x86_64_dump.specs.Tables.{tables_of_levels, if_there}
use Rattle.x86_64_dump.proofs.Held.{more_held, turned_held}
use Rattle.x86_64_dump.proofs.Listing.{level_more, all_levels}
use Rattle.x86_64_dump.proofs.tables.levels.read_levels.Goals as goal

pub loop-preserved : goal.loop-preserved
loop-preserved g c =
    let W = words_of_dump (opened g.S.ByteSource.bytes c.args.dump.now) in
    record {
      read = c.in_ok-below.ensures.read;
      frames = λ known. level_more W c.loop.frames.items c.push.new.self.items c.loop.level c.in_ok-below.below c.deref.result.now c.args.levels c.loop.counter (tables_of_levels c.args.levels W (if_there W c.args.root))
          c.loop-test.true c.in_ok-push.ensures.items (c.loop.invariant.frames known) c.deref.ensures.value (c.in_ok-below.ensures.frames known);
      level = c.in_ok-below.ensures.held;
      above = more_held (holds g.S.ByteSource.size c.args.dump.now) c.loop.frames.items c.push.new.self.items c.loop.level c.in_ok-push.ensures.items c.loop.invariant.above c.loop.invariant.level;
    }

pub returns-clause-frames : goal.returns-clause-frames
returns-clause-frames g c known =
    let W = words_of_dump (opened g.S.ByteSource.bytes c.args.dump.now) in
    all_levels W c.loop.frames.items c.push-2.new.self.items c.reverse.new.self.items c.loop.level c.args.levels c.loop.counter c.args.root
    c.loop-test.false (c.loop.auto.counter-end (omega (arith, c.requires.some))) c.in_ok-push-2.ensures.items c.reverse.ensures.items (c.loop.invariant.frames known)

pub returns-clause-there : goal.returns-clause-there
returns-clause-there g c =
    let has = holds g.S.ByteSource.size c.args.dump.now in
    turned_held has c.push-2.new.self.items c.reverse.new.self.items c.reverse.ensures.items
    (more_held has c.loop.frames.items c.push-2.new.self.items c.loop.level c.in_ok-push-2.ensures.items c.loop.invariant.above c.loop.invariant.level)
