use Rattle.std.proofs.Common.{rules, ◌≡◌, ◌∙◌, ◌++◌, ◌==◌, [], true, not, bit_and, get_or, take, map, ap, sym, refl}
use Rattle.std.proofs.lemmas.Grind.{put_three}
use Rattle.ptdump_json.specs.Names.{set_text}
use Rattle.ptdump_json.specs.declared.names.Flag.{Flag}
use Rattle.ptdump_json.specs.private.Flags.{named_flag}
use Rattle.ptdump_json.proofs.Named.{is_set, separator_set, text_set}
use Rattle.ptdump_json.proofs.names.write_set.Goals as goal

abbrev nothing : Flag
nothing = record { bit = 0; name = record { ref_ptr = (0, 0); now = [] } }

pub loop-flag-preserved : goal.loop-flag-preserved
loop-flag-preserved g c =
    let w = c.args.word in
    let fs = c.args.flags.now in
    let i = c.loop-flag.flag-index in
    let flag = get_or fs i nothing in
    let below = c.loop-flag-test.true in
    let is : not (bit_and w flag.bit == 0) ≡ true = is_set (bit_and w flag.bit) c.if-word-flag-eq0.false in (
      search rules,
      λ plain.
          let before = c.loop-flag.invariant.1 plain in
          let one = c.in_ok-write_str.ensures.writes before.plain (refl {a = true}) in
          let two = c.in_ok-write_str-2.ensures.writes one.plain (refl {a = true}) in
          put_three g.W.Write.write_str_gives _ _ _ _ _ _ _ _ before one two
          (ap (λ s. set_text w (map named_flag (take i fs)) ++ (s ++ flag.name.now)) c.loop-flag.invariant.2 ∙ sym (text_set w fs i nothing below is)),
      sym (separator_set w fs i nothing below is),
    )
