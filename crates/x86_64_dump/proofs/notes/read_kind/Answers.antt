use Rattle.std.proofs.Common.{◌≡◌, ◌∙◌, ◌+◌, ℕ, ap, length, replicate, take}
use Rattle.std.proofs.lemmas.List.{length-take}
use Rattle.std.proofs.Math.Nat.{min-eq_left}
use Rattle.x86_64_dump.specs.Source.{bytes_at}
use Rattle.x86_64_dump.proofs.NotesRead.{long_name, name_read}
use Rattle.x86_64_dump.proofs.notes.read_kind.Goals as goal

pub returns-then-name_size-gt-LONGEST_NAME-clause-value : goal.returns-then-name_size-gt-LONGEST_NAME-clause-value
returns-then-name_size-gt-LONGEST_NAME-clause-value g c known read = long_name (g.S.ByteSource.bytes c.args.source.now) c.args.at c.args.name_size read c.if-name_size-gt-LONGEST_NAME.true

pub returns-clause-value : goal.returns-clause-value
returns-clause-value g c known read =
    let file = g.S.ByteSource.bytes c.args.source.now in
    let at = c.args.at in
    let size = c.args.name_size in
    let name = c.read_exact_at.new.buffer in
    let short = c.if-name_size-gt-LONGEST_NAME.false in
    let counted : length {A = ℕ} (take size (replicate 11 0)) ≡ size = length-take size (replicate {A = ℕ} 11 0) ∙ min-eq_left {n = size} {m = 11} short in
    let given : name ≡ bytes_at file (at + 12) (length {A = ℕ} (take size (replicate 11 0))) = c.in_ok-read_exact_at.ensures.bytes known in
    c.named.ensures ∙ name_read file name at size read short (given ∙ ap (bytes_at file (at + 12)) counted)
