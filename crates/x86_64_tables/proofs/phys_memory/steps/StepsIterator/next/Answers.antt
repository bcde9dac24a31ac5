use Rattle.std.proofs.Common.{rules, ◌≡◌, ◌∙◌, None, Some, ◌∷◌, refl, sym, ap, arith}
use Rattle.x86_64_model.specs.Memory.{words_of}
use Rattle.x86_64_model.specs.PageWalk.{read}
use Rattle.x86_64_model.specs.Position.{index}
use Rattle.x86_64_model.proofs.Lemmas.Walks.Steps.{step, steps_done, steps_none}
use Rattle.x86_64_tables.specs.EntryTargets.{target_of}
use Rattle.x86_64_page.proofs.Blocks.{goes_first}
use Rattle.x86_64_tables.proofs.StepsRead.{reads_one, nothing_below, steps_below}
use Rattle.x86_64_tables.proofs.phys_memory.steps.StepsIterator.next.Goals as goal
use Rattle.x86_64_tables.proofs.phys_memory.steps.StepsIterator.next.Goals.{in-Table, in_default}

pub returns-then-self-eq0-clause-steps : goal.returns-then-self-eq0-clause-steps
returns-then-self-eq0-clause-steps g c =
    let s = c.self.inside in
    let none = sym c.self.view_is ∙ steps_done (words_of (g.T.TableMemory.tables s.memory.now) (g.P.PageTableFrameMapping.places s.mapping.now)) s.position s.level s.frame (search rules) in
    (none, none)

pub returns-in_err-entry-clause-steps : goal.returns-in_err-entry-clause-steps
returns-in_err-entry-clause-steps g c =
    let s = c.self.inside in
    let words = words_of (g.T.TableMemory.tables s.memory.now) (g.P.PageTableFrameMapping.places s.mapping.now) in
    let nothing : None ≡ read words s.frame (index s.level s.position) = search rules in
    let none = sym c.self.view_is ∙ steps_none words s.position s.level s.frame (omega (arith, c.if-self-eq0.false)) nothing in
    let is : c.from_residual.result ≡ None = search rules in
    rw is (none, none)

pub returns-clause-steps : goal.returns-clause-steps
returns-clause-steps g c =
    let s = c.self.inside in
    let words = words_of (g.T.TableMemory.tables s.memory.now) (g.P.PageTableFrameMapping.places s.mapping.now) in
    let e = c.in_ok-entry.entry.now in
    let is : Some e ≡ read words s.frame (index s.level s.position) = search rules in
    let here = reads_one words s.position s.level s.frame e (omega (arith, c.if-self-eq0.false)) is in
    let target : c.target.result ≡ target_of s.level e = search rules in
    rw (c.index_of-index.ensures.value, c.word.ensures) (sym c.self.view_is ∙ here ∙ ap (λ rest. step s.position s.level s.frame e ∷ rest) (elim c.match-target.branch [
      | in-Table w ↦ ap (steps_below words s.position s.level) (sym target ∙ w.in-Table.is) ∙ sym w.self-is
      | in_default w ↦ nothing_below words s.position s.level _ (λ x is. w.in_default.not-Table x (target ∙ is)) ∙ sym (w.self-is ∙ steps_done words s.position 0 s.frame refl)
    ]))

pub returns-clause-goes : goal.returns-clause-goes
returns-clause-goes g c = goes_first (λ s. s) _ _ _ _ (returns-clause-steps g c)
