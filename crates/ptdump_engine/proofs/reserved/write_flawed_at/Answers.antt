use Rattle.std.proofs.Common.{◌≡◌, ◌∙◌, ◌+◌, ◌<◌, ◌++◌, ℕ, List, [], ◌∷◌, map, take, get_or, length, sym, ap, append-nil}
use Rattle.std.proofs.lemmas.Grind.{flat_map-append}
use Rattle.std.proofs.lemmas.List.{map-append, take_more}
use Rattle.std.specs.List.{filter_map, flat_map}
use Rattle.x86_64_model.specs.Memory.{identity_places, words_of}
use Rattle.ptdump_check.specs.Findings.{entries_in, flaw_in, flawed_entries}
use Rattle.ptdump_check.specs.declared.findings.entry.Table.{Table}
use Rattle.ptdump_check.specs.declared.findings.finding.Finding.{Finding}
use Rattle.ptdump_engine.specs.CheckReports.{said_of}
use Rattle.ptdump_engine.proofs.BothLines.{both_lines}
use Rattle.ptdump_engine.proofs.reserved.write_flawed_at.Goals as goal

-- what one more frame's table gives
frame_more : (found : Table → List Finding) (table : ℕ → Table) (frames : List ℕ) (i f : ℕ) → i < length frames → f ≡ get_or frames i f
    → flat_map found (map table (take (i + 1) frames)) ≡ flat_map found (map table (take i frames)) ++ found (table f)
frame_more found table frames i f below is =
    let so_far = map table (take i frames) in
    ap (λ fs. flat_map found (map table fs)) (take_more frames i f below ∙ ap (λ g. take i frames ++ g ∷ []) (sym is))
    ∙ ap (flat_map found) (map-append table (take i frames) (f ∷ []))
    ∙ flat_map-append found so_far (table f ∷ [])
    ∙ ap (λ found_there. flat_map found so_far ++ found_there) (append-nil (found (table f)))

pub loop-frame-preserved : goal.loop-frame-preserved
loop-frame-preserved g c =
    let T = words_of c.args.memory.now identity_places in
    let flaw = c.args.flaw in
    let i = c.loop-frame.frame-index in
    let frames = c.args.frames.now in
    let f = c.frame-item.result in
    let table : ℕ → Table = λ f. record { frame = f; level = c.args.level } in
    let found : Table → List Finding = λ t. filter_map (flaw_in flaw) (entries_in T t) in
    both_lines g.O.LineOutput.Lines g.O.LineOutput.parts said_of c.args.output.now c.loop-frame.output c.write_flawed_in.new.output
    (flawed_entries flaw T (map table (take i frames))) (found (table f)) (flawed_entries flaw T (map table (take (i + 1) frames)))
    (frame_more found table frames i f c.loop-frame-test.true c.frame-item.is)
    c.loop-frame.invariant c.in_ok-write_flawed_in.ensures
