use Rattle.std.proofs.Common.{◌≡◌, ◌∙◌, ◌+◌, ◌<◌, ◌++◌, ℕ, List, Vec, ◌∷◌, map, drop, get_or, length, sym, ap, append-nil, append_assoc, arith}
use Rattle.std.proofs.lemmas.List.{drop_all, drop_more}
use Rattle.x86_64_dump.specs.Loaded.{frames_of}
use Rattle.ptdump_check.specs.Findings.{tables_from_level}
use Rattle.ptdump_check.specs.declared.findings.entry.Table.{Table}
use Rattle.ptdump_check.proofs.findings.tables.tables_by_level.Goals as goal

-- the tables of one more level
level_more : {A : Type 0} (items more : List Table) (levels : List (Vec ℕ A)) (level : Vec ℕ A) (i n : ℕ) → i < length levels → level ≡ get_or levels i level
    → more ≡ items ++ map (λ f. record { frame = f; level = n + 1 }) level.items
    → more ++ tables_from_level (n + 1 + 1) (frames_of (drop (i + 1) levels)) ≡ items ++ tables_from_level (n + 1) (frames_of (drop i levels))
level_more items more levels level i n below is added =
    ap (λ ts. ts ++ tables_from_level (n + 1 + 1) (frames_of (drop (i + 1) levels))) added
    ∙ append_assoc items (map (λ f. record { frame = f; level = n + 1 }) level.items) (tables_from_level (n + 1 + 1) (frames_of (drop (i + 1) levels)))
    ∙ ap (λ v. items ++ tables_from_level (n + 1) (frames_of (v ∷ drop (i + 1) levels))) is
    ∙ ap (λ vs. items ++ tables_from_level (n + 1) (frames_of vs)) (sym (drop_more levels i level below))

pub loop-of_level-preserved : goal.loop-of_level-preserved
loop-of_level-preserved c =
    let n = c.loop-of_level.level in (
      omega (arith, c.loop-of_level.invariant.0),
      level_more c.loop-of_level.tables.items c.add_tables.new.tables.items c.args.frames.now c.of_level-item.result c.loop-of_level.of_level-index n c.loop-of_level-test.true c.of_level-item.is
          (c.in_ok-add_tables.ensures ∙ ap (λ fs. c.loop-of_level.tables.items ++ map (λ f. record { frame = f; level = n + 1 }) fs) c.deref.ensures.value) ∙ c.loop-of_level.invariant.1,
    )

pub returns : goal.returns
returns c =
    let items = c.loop-of_level.tables.items in
    sym (append-nil items) ∙ ap (λ levels. items ++ tables_from_level (c.loop-of_level.level + 1) (frames_of levels))
    (sym (drop_all c.loop-of_level.of_level-index c.args.frames.now c.loop-of_level-test.false)) ∙ c.loop-of_level.invariant.1
