use Rattle.std.proofs.Common.{◌≡◌, ◌≤◌, ◌<◌, ◌-◌, ◌+◌, ℕ, List, Some, Ok, Err, rules, length, take, get_or, refl, sym, ap, ◌∙◌, subst, arith}
use Rattle.std.proofs.lemmas.Result.{err_from_is_err_and}
use Rattle.x86_64_model.specs.Hierarchy.{◌laid_in◌, words}
use Rattle.x86_64_model.specs.private.MapperCalls.{after_set_flags}
use Rattle.x86_64_model.specs.Memory.{word}
use Rattle.x86_64_model.specs.Path.{front_at}
use Rattle.x86_64_model.specs.Refusal.{Refused, ParentEntryHugePage, refusal_of}
use Rattle.x86_64_tables.specs.MapperAnswers.{flags_refusal}
use Rattle.x86_64_tables.specs.PageTableFlags.{bits_of}
use Rattle.x86_64_mappers.proofs.Entry.EntryRules.{Ends}
use Rattle.x86_64_mappers.specs.private.EntryCalls.{word_said, answer_said}
use Rattle.x86_64_mappers.specs.private.Results.{walk_refusal}
use Rattle.x86_64_mappers.specs.private.Stops.{IsFound}
use Rattle.x86_64_mappers.proofs.Entry.TableFlagConditions.{front_length}
use Rattle.x86_64_mappers.proofs.Entry.TableFlagRules.{flags_too_low, flags_stopped, flags_ended}
use Rattle.x86_64_mappers.specs.private.TableFlags.{flags_say}
use Rattle.x86_64_mappers.specs.private.Writes.{IsSet}
use Rattle.x86_64_mappers.proofs.Way.Paths.{has_last_index}
use Rattle.x86_64_mappers.proofs.Entry.EntryEnds.{ends_set_flags}
use Rattle.x86_64_mappers.proofs.walk.change.set_table_flags.Given.{Over}
use Rattle.x86_64_mappers.proofs.walk.change.set_table_flags.Goals as goal

pub returns-then-level-LEVEL : goal.returns-then-level-LEVEL
returns-then-level-LEVEL g c =
    let l = (g.M.Tables.hierarchy c.args.mapper.now).layout in
    let m = (g.M.Tables.hierarchy c.args.mapper.now).memory in
    let low : c.args.level ≤ g.S.PageSize.LEVEL = omega (arith, c.if-level-LEVEL.true, c.LEVEL.ensures) in
    let ends = flags_too_low l m c.requires.may.valid c.args.level c.args.path.now (bits_of c.args.flags) g.S.PageSize.LEVEL c.requires.levels low in
    let h = g.M.Tables.hierarchy c.args.mapper.now in
    ends_set_flags h h refl refl c.args.path.now c.args.level (bits_of c.args.flags) (Some ParentEntryHugePage) _ refl ends

-- the path of the entry has a last index
has_front : (L level own : ℕ) (q : List ℕ) → length q + own ≡ L + 1 → own < level → level ≤ L → length (front_at L level q) ≡ length (front_at L level q) - 1 + 1
has_front L level own q at_level above high = has_last_index (front_at L level q) (omega (arith, front_length L level own q at_level above))

ends_stopped : (g : Over) (c : goal.After-from_residual g) → let l = (g.M.Tables.hierarchy c.args.mapper.now).layout in let m = (g.M.Tables.hierarchy c.args.mapper.now).memory in
    Ends l m (after_set_flags l m c.args.level c.args.path.now (bits_of c.args.flags)) (Refused (walk_refusal c.in_err-change_entry.field-0.0)) (g.M.Tables.hierarchy c.change_entry.new.mapper).memory
ends_stopped g c =
    let l = (g.M.Tables.hierarchy c.args.mapper.now).layout in
    let m = (g.M.Tables.hierarchy c.args.mapper.now).memory in
    let n = (g.M.Tables.hierarchy c.change_entry.new.mapper).memory in
    let q = c.args.path.now in
    let level = c.args.level in
    let given = bits_of c.args.flags in
    let own = g.S.PageSize.LEVEL in
    let why = walk_refusal c.in_err-change_entry.field-0.0 in
    let above : own < level = omega (arith, c.if-level-LEVEL.false, c.LEVEL.ensures) in
    let changed = c.in_err-change_entry.ensures.changed in
    let same = c.path_to_level.ensures ∙ ap (λ n. take (n - level) q) c.requires.levels in
    subst (Ends l m (after_set_flags l m level q given) (Refused why)) (sym changed.1)
    (flags_stopped l m c.requires.may.valid level q given own c.requires.levels above c.requires.low c.requires.high c.requires.may.allowed
    (length (front_at l.levels level q) - 1) (has_front l.levels level own q c.requires.levels above c.requires.high) why
    (subst (λ p. IsFound l m (take (length p - 1) p) (Err why)) same changed.0))

pub returns-in_err-change_entry : goal.returns-in_err-change_entry
returns-in_err-change_entry g c =
    let kept = c.change_entry.ensures in
    let e = err_from_is_err_and c.from_residual.result c.from_residual.ensures.1 in
    ends_set_flags (g.M.Tables.hierarchy c.args.mapper.now) (g.M.Tables.hierarchy c.change_entry.new.mapper) kept.layout kept.lent c.args.path.now c.args.level (bits_of c.args.flags)
    (flags_refusal c.from_residual.result) _ (rw (e.1, e.2) refl) (ends_stopped g c)

-- what is known about the entry that was found
record Asked (g : Over) (c : goal.In_ok-change_entry g) : Type 0 where
  pub entry : ℕ
  pub answer : flags_refusal c.in_ok-change_entry.field-0 ≡ refusal_of (answer_said (flags_say (bits_of c.args.flags) entry))
  pub ends : let l = (g.M.Tables.hierarchy c.args.mapper.now).layout in let m = (g.M.Tables.hierarchy c.args.mapper.now).memory in
      Ends l m (after_set_flags l m c.args.level c.args.path.now (bits_of c.args.flags)) (answer_said (flags_say (bits_of c.args.flags) entry)) (g.M.Tables.hierarchy c.change_entry.new.mapper).memory

asked : (g : Over) (c : goal.In_ok-change_entry g) → Asked g c
asked g c =
    let s = c.args.mapper.now in
    let l = (g.M.Tables.hierarchy s).layout in
    let m = (g.M.Tables.hierarchy s).memory in
    let n = (g.M.Tables.hierarchy c.change_entry.new.mapper).memory in
    let q = c.args.path.now in
    let level = c.args.level in
    let given = bits_of c.args.flags in
    let own = g.S.PageSize.LEVEL in
    let above : own < level = omega (arith, c.if-level-LEVEL.false, c.LEVEL.ensures) in
    let changed = c.in_ok-change_entry.ensures.changed in
    let front = c.path_to_level.result.now in
    let same : front ≡ front_at l.levels level q = c.path_to_level.ensures ∙ ap (λ n. take (n - level) q) c.requires.levels in
    let last : List ℕ → ℕ = λ p. get_or p (length p - 1) 0 in
    let e : List ℕ → ℕ = λ p. word (words (l laid_in m)) changed.frame (last p) in
    let called = changed.called in
    let wrote : changed.word ≡ word_said (e front) (flags_say given (e front)) = search rules in
    let answered : flags_refusal c.in_ok-change_entry.field-0 ≡ refusal_of (answer_said (flags_say given (e front))) = search rules in
    record {
      entry = e (front_at l.levels level q);
      answer = subst (λ p. flags_refusal c.in_ok-change_entry.field-0 ≡ refusal_of (answer_said (flags_say given (e p)))) same answered;
      ends = flags_ended l m c.requires.may.valid level q given own c.requires.levels above c.requires.low c.requires.high c.requires.may.allowed
          (length (front_at l.levels level q) - 1) (has_front l.levels level own q c.requires.levels above c.requires.high) (g.met.M.Tables.is_mapping s).distinct changed.frame
          (subst (λ p. IsFound l m (take (length p - 1) p) (Ok changed.frame)) same changed.found)
          (subst (λ p. last p < 512) same changed.inside) n
          (subst (λ p. IsSet l.places m changed.frame (last p) (word_said (e p) (flags_say given (e p))) n) same
          (subst (λ w. IsSet l.places m changed.frame (last front) w n) wrote changed.set));
    }

pub returns : goal.returns
returns g c =
    let a = asked g c in
    let kept = c.change_entry.ensures in
    ends_set_flags (g.M.Tables.hierarchy c.args.mapper.now) (g.M.Tables.hierarchy c.change_entry.new.mapper) kept.layout kept.lent c.args.path.now c.args.level (bits_of c.args.flags)
    (flags_refusal c.in_ok-change_entry.field-0) _ a.answer a.ends
