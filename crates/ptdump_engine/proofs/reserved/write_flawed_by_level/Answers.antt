use Rattle.std.proofs.Common.{◌≡◌, ◌∙◌, ◌+◌, ◌<◌, ◌++◌, ℕ, List, Vec, [], ◌∷◌, map, drop, get_or, length, refl, sym, ap, subst, append_assoc, append-nil, arith}
use Rattle.std.proofs.lemmas.Grind.{flat_map-append}
use Rattle.std.proofs.lemmas.List.{drop_all, drop_more}
use Rattle.std.specs.List.{filter_map}
use Rattle.x86_64_dump.specs.Loaded.{frames_of, loaded_words}
use Rattle.x86_64_model.specs.Memory.{Words, identity_places, words_of}
use Rattle.ptdump_check.specs.Findings.{entries_in, flaw_in, flawed_entries, tables_from_level}
use Rattle.ptdump_check.specs.declared.findings.entry.Table.{Table}
use Rattle.ptdump_check.specs.declared.findings.finding.EntryFlaw.{EntryFlaw}
use Rattle.ptdump_check.specs.declared.findings.finding.Finding.{Finding}
use Rattle.ptdump_engine.specs.CheckReports.{said_of}
use Rattle.ptdump_engine.proofs.BothLines.{both_lines}
use Rattle.ptdump_engine.proofs.reserved.write_flawed_by_level.Goals as goal

-- the findings of one more level
level_more : {A : Type 0} (flaw : EntryFlaw) (T : Words) (done : List Finding) (levels : List (Vec ℕ A)) (level : Vec ℕ A) (i n : ℕ) → i < length levels → level ≡ get_or levels i level
    → (done ++ flawed_entries flaw T (map (λ f. record { frame = f; level = n + 1 }) level.items)) ++ flawed_entries flaw T (tables_from_level (n + 1 + 1) (frames_of (drop (i + 1) levels)))
    ≡ done ++ flawed_entries flaw T (tables_from_level (n + 1) (frames_of (drop i levels)))
level_more flaw T done levels level i n below is =
    let here = map (λ f. record { frame = f; level = n + 1 }) level.items in
    let rest = tables_from_level (n + 1 + 1) (frames_of (drop (i + 1) levels)) in
    append_assoc done (flawed_entries flaw T here) (flawed_entries flaw T rest)
    ∙ ap (λ fs. done ++ fs) (sym (flat_map-append (λ t. filter_map (flaw_in flaw) (entries_in T t)) here rest))
    ∙ ap (λ v. done ++ flawed_entries flaw T (tables_from_level (n + 1) (frames_of (v ∷ drop (i + 1) levels)))) is
    ∙ ap (λ vs. done ++ flawed_entries flaw T (tables_from_level (n + 1) (frames_of vs))) (sym (drop_more levels i level below))

pub loop-frames-preserved : goal.loop-frames-preserved
loop-frames-preserved g c =
    let T = loaded_words c.args.tables.now in
    let flaw = c.args.flaw in
    let n = c.loop-frames.level in
    let levels = c.frames-levels.result.now in
    let level = c.frames-item.result in
    let (same, (done, lines, all)) = c.loop-frames.invariant in
    let at : List ℕ → List Table = λ fs. map (λ f. record { frame = f; level = n + 1 }) fs in
    let Found : List Finding → Type 0 = λ fs. g.O.LineOutput.Lines c.loop-frames.output c.write_flawed_at.new.output (map said_of fs) in
    let found = flawed_entries flaw T (at level.items) in
    let more : Found found = subst (λ fs. Found (flawed_entries flaw T (at fs))) c.deref.ensures.value
    (subst (λ m. Found (flawed_entries flaw (words_of m identity_places) (at c.deref.result.now))) c.memory-memory.ensures c.in_ok-write_flawed_at.ensures) in (
      omega (arith, same),
      (
        done ++ found,
        both_lines g.O.LineOutput.Lines g.O.LineOutput.parts said_of c.args.output.now c.loop-frames.output c.write_flawed_at.new.output done found (done ++ found) refl lines more,
        level_more flaw T done levels level c.loop-frames.frames-index n c.loop-frames-test.true c.frames-item.is ∙ all,
      ),
    )

pub returns : goal.returns
returns g c =
    let T = loaded_words c.args.tables.now in
    let flaw = c.args.flaw in
    let levels = c.frames-levels.result.now in
    let (same, (done, lines, all)) = c.loop-frames.invariant in
    let none : flawed_entries flaw T (tables_from_level (c.loop-frames.level + 1) (frames_of (drop c.loop-frames.frames-index levels))) ≡ [] =
    ap (λ vs. flawed_entries flaw T (tables_from_level (c.loop-frames.level + 1) (frames_of vs))) (drop_all c.loop-frames.frames-index levels c.loop-frames-test.false) in
    let whole : done ≡ flawed_entries flaw T (tables_from_level 1 (frames_of c.args.tables.now.frames.items)) =
    sym (append-nil done) ∙ ap (λ fs. done ++ fs) (sym none) ∙ all ∙ ap (λ vs. flawed_entries flaw T (tables_from_level 1 (frames_of vs))) c.frames-levels.ensures in
    subst (λ fs. g.O.LineOutput.Lines c.args.output.now c.loop-frames.output (map said_of fs)) whole lines
