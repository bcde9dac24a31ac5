use Rattle.std.proofs.Common.{rules}
use Rattle.x86_64.specs.Calls.{to_call}
use Rattle.x86_64.proofs.AskedCalls.{is_call}
use Rattle.x86_64.proofs.Keeping.{kept_none}
use Rattle.x86_64.proofs.Pairs.{IsPair, IsPairAfter, still_pair, from_none}
use Rattle.x86_64.proofs.runs.pair.run_pair.Given.{Over}
use Rattle.x86_64.proofs.runs.pair.run_pair.Goals as goal

pub serve_all-requires-clause-fits : goal.serve_all-requires-clause-fits
serve_all-requires-clause-fits g c = c.requires.one.fits

pub serve_all-requires-2-clause-fits : goal.serve_all-requires-2-clause-fits
serve_all-requires-2-clause-fits g c = c.requires.other.fits

pub returns-in_err-replies-clause-one : goal.returns-in_err-replies-clause-one
returns-in_err-replies-clause-one g c = record { ran = search rules; keeps = kept_none _ _ c.requires.one.fits }

pub returns-in_err-replies-clause-other : goal.returns-in_err-replies-clause-other
returns-in_err-replies-clause-other g c = record { ran = search rules; keeps = kept_none _ _ c.requires.other.fits }

pub returns-in_err-same_replies-clause-one : goal.returns-in_err-same_replies-clause-one
returns-in_err-same_replies-clause-one g c = record { ran = search rules; keeps = kept_none _ _ c.requires.one.fits }

pub returns-in_err-same_replies-clause-other : goal.returns-in_err-same_replies-clause-other
returns-in_err-same_replies-clause-other g c = record { ran = search rules; keeps = kept_none _ _ c.requires.other.fits }

pair_after : (g : Over) (c : goal.After-drop-same_replies g) → IsPairAfter (to_call g.L.LevelCount.LEVELS g.P5.LevelFiveFlags.bits) g.L.LevelCount.LEVELS (g.B.Tables.hierarchy c.args.b.now) c.args.pool_b.now c.args.calls.now c.serve_all.new.replies.items
    (g.A.Tables.hierarchy c.serve_all.new.mapper) c.serve_all.new.frames (g.B.Tables.hierarchy c.serve_all-2.new.mapper) c.serve_all-2.new.frames
pair_after g c =
    let h = g.A.Tables.hierarchy c.args.a.now in
    let k = g.B.Tables.hierarchy c.args.b.now in
    let asks = to_call g.L.LevelCount.LEVELS g.P5.LevelFiveFlags.bits in
    let pair : IsPair asks g.L.LevelCount.LEVELS h c.args.pool_a.now k c.args.pool_b.now c.args.calls.now = record {
      levels = g.met.A.TablesIn.level_count c.args.a.now;
      other_levels = g.met.B.TablesIn.level_count c.args.b.now;
      adds = g.A.Tables.added_flags c.args.a.now;
      other_adds = g.B.Tables.added_flags c.args.b.now;
      one = c.requires.one;
      other = c.requires.other;
      alike = c.requires.alike;
    } in
    let ran = from_none asks h c.args.pool_a.now c.args.calls.now _ _ _ _ c.in_ok-replies.ensures.items c.serve_all.ensures.ran in
    let other_ran = from_none asks k c.args.pool_b.now c.args.calls.now _ _ _ _ c.in_ok-same_replies.ensures.items c.serve_all-2.ensures.ran in
    still_pair asks g.L.LevelCount.LEVELS (is_call g.L.LevelCount.LEVELS g.L.LevelCount.at_least_four g.P5.LevelFiveFlags.bits g.met.P5.LevelFiveFlags.five g.L.LevelCount.LEVELS) g.L.LevelCount.at_least_four h _ k _ _ pair _ _ _ c.serve_all.ensures.keeps.layout ran _ _ _ c.serve_all-2.ensures.keeps.layout other_ran

pub returns-clause-other : goal.returns-clause-other
returns-clause-other g c = record { ran = (pair_after g c).ran; keeps = c.serve_all-2.ensures.keeps }

pub returns-clause-alike : goal.returns-clause-alike
returns-clause-alike g c = (pair_after g c).alike

pub returns-clause-one : goal.returns-clause-one
returns-clause-one g c =
    let h = g.A.Tables.hierarchy c.args.a.now in
    let asks = to_call g.L.LevelCount.LEVELS g.P5.LevelFiveFlags.bits in
    record {
      ran = from_none asks h c.args.pool_a.now c.args.calls.now _ _ _ _ c.in_ok-replies.ensures.items c.serve_all.ensures.ran;
      keeps = c.serve_all.ensures.keeps;
    }

pub returns-clause-refused : goal.returns-clause-refused
returns-clause-refused g c = tt

pub returns-in_err-replies-clause-alike : goal.returns-in_err-replies-clause-alike
returns-in_err-replies-clause-alike g c = c.requires.alike

pub returns-in_err-same_replies-clause-alike : goal.returns-in_err-same_replies-clause-alike
returns-in_err-same_replies-clause-alike g c = c.requires.alike
