use Rattle.std.proofs.Common.{◌≡◌, map, take}
use denote.Text.{Utf8}
use denote.Shadow.{shadow}
use Rattle.std.specs.Fmt.{HasWritten, IsPlainFormatter}
use Rattle.ptdump_json.specs.Names.{set_text}
use Rattle.ptdump_json.specs.private.Flags.{named_flag, separator_after, set_in}
use Rattle.ptdump_json.proofs.names.write_set.Given as goal

-- the names so far are written
abbrev pub invariant-loop-flag : goal.invariant-loop-flag
invariant-loop-flag g l =
    let before = map named_flag (take l.flag-index l.flags) in
    shadow (Utf8 l.separator) × (IsPlainFormatter l.fn.f → HasWritten g.W.Write.write_str_gives l.fn.f (set_text l.word before) l.f) × (l.separator ≡ separator_after (set_in l.word before))
