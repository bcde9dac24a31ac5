use Rattle.std.proofs.Common.{sym, ap, ◌∙◌, inl, inr, ◌≡◌, subst, IfOk}
use Rattle.x86_64_model.specs.Translation.{translate_on}
use Rattle.x86_64_model.specs.Window.{entry_at}
use Rattle.test_reference.specs.Windows.{window_of}
use Rattle.test_reference.specs.Calls.{translated_of}
use Rattle.test_reference.proofs.TranslationLevels.{at_zero, one_used, one_unused, above_absent, above_huge, above_table}
use Rattle.test_reference.proofs.translations.+translate_on.Goals as goal
use Rattle.test_reference.proofs.translations.+translate_on.Goals.{else-level-le3-via-then-level-le3+else-is_huge, else-level-le3-via-else-level-le3}

pub returns-then-level-eq0 : goal.returns-then-level-eq0
returns-then-level-eq0 t c = sym (at_zero _ _ _ _ c.if-level-eq0.true)

pub returns-then-is_used : goal.returns-then-is_used
returns-then-is_used t c = let e = one_used (entry_at (window_of c.args.window) c.args.paths.now) c.args.position c.args.level c.args.path.now.items c.in_ok-word.word c.if-level-eq1.true c.in_ok-word.ensures.word (sym c.if-is_used.ensures) in
    cc (e, c.mapped.ensures, c.address.ensures, c.flags.ensures)

pub returns-then-level-eq1 : goal.returns-then-level-eq1
returns-then-level-eq1 t c = one_unused _ _ _ _ _ c.if-level-eq1.true c.in_ok-word.ensures.word (sym c.if-is_used.ensures)

pub returns-then-not-is_present : goal.returns-then-not-is_present
returns-then-not-is_present t c = above_absent _ _ _ _ _ c.if-level-eq0.false c.if-level-eq1.false c.in_ok-word.ensures.word (sym c.if-not-is_present.ensures)

pub returns-then-is_huge : goal.returns-then-is_huge
returns-then-is_huge t c = let e = above_huge (entry_at (window_of c.args.window) c.args.paths.now) c.args.position c.args.level c.args.path.now.items c.in_ok-word.word c.if-level-eq0.false c.if-level-eq1.false c.in_ok-word.ensures.word (sym c.if-not-is_present.ensures) c.if-level-le3.true (sym c.if-is_huge.ensures) in
    cc (e, c.mapped-then-is_huge.ensures, c.page_start.ensures, c.flags-then-is_huge.ensures)

pub returns : goal.returns
returns t c =
    let e = above_table (entry_at (window_of c.args.window) c.args.paths.now) c.args.position c.args.level c.args.path.now.items c.in_ok-word.word c.if-level-eq0.false c.if-level-eq1.false c.in_ok-word.ensures.word (sym c.if-not-is_present.ensures)
    (elim c.else-level-le3.branch [ else-level-le3-via-then-level-le3+else-is_huge w ↦ inr (sym w.if-is_huge.ensures) | else-level-le3-via-else-level-le3 w ↦ inl w.if-level-le3.false ]) in
    subst (λ x. IfOk c.translate_on.result (λ t. translated_of t ≡ x)) (ap (translate_on (entry_at (window_of c.args.window) c.args.paths.now) c.args.position _) c.in_ok-word.ensures.path ∙ e) c.translate_on.ensures
