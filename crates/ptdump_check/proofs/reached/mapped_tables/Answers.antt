use Rattle.std.proofs.Common.{◌≡◌, ◌∙◌, ◌++◌, ℕ, [], List, None, Some, refl, sym, ap, append-nil}
use Rattle.x86_64_model.specs.Memory.{Words, identity_places, words_of}
use Rattle.ptdump_check.specs.ReachedTables.{all_reached}
use Rattle.ptdump_check.specs.WritableTables.{all_writable}
use Rattle.ptdump_check.specs.declared.findings.entry.Table.{Table}
use Rattle.ptdump_check.proofs.reached.mapped_tables.Goals as goal
use Rattle.ptdump_check.proofs.reached.mapped_tables.Goals.{in-Some+in_ok-add_writable, in_default}

none_writable : (L : ℕ) (T : Words) (root : ℕ) (tables : List Table) → all_writable L T root None tables ≡ []
unfolding all_writable
none_writable L T root tables = refl

pub returns : goal.returns
returns g c =
    let L = g.L.LevelCount.LEVELS in
    let T = words_of c.args.memory.now identity_places in
    let root = c.args.root in
    let tables = c.args.tables.now in
    elim c.match-direct_map.branch [
      | in-Some+in_ok-add_writable w ↦
          ap (λ v. v.items) w.findings-is
          ∙ w.in_ok-add_writable.ensures
          ∙ ap (λ fs. fs ++ all_writable L T root (Some w.in-Some.direct_map) tables) c.in_ok-findings.ensures
          ∙ ap (λ o. all_reached L T root tables ++ all_writable L T root o tables) (sym w.in-Some.is)
      | in_default w ↦
          ap (λ v. v.items) w.findings-is
          ∙ c.in_ok-findings.ensures
          ∙ sym (append-nil (all_reached L T root tables))
          ∙ ap (λ fs. all_reached L T root tables ++ fs) (sym (none_writable L T root tables))
          ∙ ap (λ o. all_reached L T root tables ++ all_writable L T root o tables) (sym w.in_default.is)
    ]
