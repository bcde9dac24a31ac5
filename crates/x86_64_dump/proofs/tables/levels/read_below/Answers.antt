use Rattle.std.proofs.Common.{◌≡◌, ◌∙◌, ◌<◌, ◌+◌, ℕ, List, [], length, take, get_or, sym, ap, ap₂, subst}
use Rattle.std.specs.List.{filter_map, flat_map, fold}
use Rattle.std.specs.Option.{option_copied, unwrap_or}
use Rattle.std.proofs.lemmas.List.{flat_map_more, take_all, take_more}
use Rattle.std.proofs.lemmas.List.Sums.{fold-append}
use Rattle.x86_64_model.specs.Memory.{Words}
use Rattle.x86_64_dump.specs.Dump.{words_of_dump}
use Rattle.x86_64_dump.specs.Opened.{holds, opened}
use Rattle.x86_64_dump.specs.Tables.{table_named, tables_named, met}
use Rattle.x86_64_dump.specs.private.FrameNumbers.{HasAll}
use Rattle.x86_64_dump.proofs.tables.levels.read_below.Goals as goal
use Rattle.x86_64_dump.proofs.tables.levels.read_below.Goals.{in-Some+in_ok-add_named, in_default}

-- the tables that one more frame names
frame_more : (W : Words) (before now frames words : List ℕ) (i d : ℕ) → i < length frames → before ≡ fold met [] (flat_map (tables_named W) (take i frames))
    → words ≡ unwrap_or (W (get_or frames i d)) [] → now ≡ fold met before (filter_map (table_named W) words) → now ≡ fold met [] (flat_map (tables_named W) (take (i + 1) frames))
frame_more W before now frames words i d below is read added =
    added
    ∙ ap₂ (λ seen ws. fold met seen (filter_map (table_named W) ws)) is read
    ∙ sym (fold-append met [] (flat_map (tables_named W) (take i frames)) (tables_named W (get_or frames i d)))
    ∙ ap (fold met []) (flat_map_more (tables_named W) [] (take i frames) (get_or frames i d) ∙ ap (flat_map (tables_named W)) (sym (take_more frames i d below)))

pub loop-frame-preserved : goal.loop-frame-preserved
loop-frame-preserved g c = record {
  read = λ known. c.in_ok-read.ensures.kept known (c.loop-frame.invariant.read known);
  below = λ known.
      let W = words_of_dump (opened g.S.ByteSource.bytes c.args.dump.now) in
      let frame = c.frame-item.result in
      let more = λ (words : List ℕ). frame_more W c.loop-frame.below c.match-table.below c.args.frames.now words c.loop-frame.frame-index frame
      c.loop-frame-test.true (c.loop-frame.invariant.below known) in
      let there = c.table.ensures ∙ c.in_ok-read.ensures.read known (c.loop-frame.invariant.read known) ∙ ap W c.frame-item.is in
      elim c.match-table.branch [
        | in-Some+in_ok-add_named w ↦ more w.as_slice.result.now
            (w.as_slice.ensures.words ∙ ap (λ o. unwrap_or o []) (ap option_copied (sym w.in-Some.is) ∙ there)) (w.below-is ∙ w.in_ok-add_named.ensures.named known)
        | in_default w ↦ more [] (ap (λ o. unwrap_or o []) (ap option_copied (sym w.in_default.is) ∙ there)) w.below-is
      ];
  held =
      let Held : List ℕ → Type 0 = HasAll (holds g.S.ByteSource.size c.args.dump.now) in
      elim c.match-table.branch [
        | in-Some+in_ok-add_named w ↦ subst Held (sym w.below-is) (w.in_ok-add_named.ensures.held c.loop-frame.invariant.held)
        | in_default w ↦ subst Held (sym w.below-is) c.loop-frame.invariant.held
      ];
}

pub returns-clause-frames : goal.returns-clause-frames
returns-clause-frames g c known =
    let W = words_of_dump (opened g.S.ByteSource.bytes c.args.dump.now) in
    c.into_frames.ensures ∙ c.loop-frame.invariant.below known
    ∙ ap (λ frames. fold met [] (flat_map (tables_named W) frames)) (take_all c.loop-frame.frame-index c.args.frames.now c.loop-frame-test.false)
