use Rattle.std.proofs.Common.{Bool, ℕ, Result, Ok, Err, cond, bit_or, ap, sym, ◌∙◌}
use Rattle.x86_64_model.specs.Entry.{address}
use Rattle.x86_64_model.specs.Refusal.{Refusal, PageNotMapped, refusal_of}
use Rattle.x86_64_mappers.specs.private.EntryCalls.{answer_said, word_said}
use Rattle.x86_64_mappers.specs.private.PageCalls.{page_word}
use Rattle.x86_64_mappers.proofs.walk.change.update_entry.Goals as goal

abbrev says : (level given entry : ℕ) (is_page : Bool) → Result (ℕ × ℕ) Refusal
says level given e is_page = cond is_page (Ok (page_word level (address e) given, address e)) (Err PageNotMapped)

pub returns-clause-refusal : goal.returns-clause-refusal
returns-clause-refusal g c =
    let e = c.args.entry.now in
    ap (λ is_page. refusal_of (answer_said (says g.S.PageSize.LEVEL c.args.flags.0 e is_page))) (sym c.if-not-maps_page.false ∙ c.maps_page.ensures)

pub returns-clause-word : goal.returns-clause-word
returns-clause-word g c =
    let e = c.args.entry.now in
    c.set_flags.ensures ∙ ap (bit_or (address e)) c.leaf_flags.ensures
    ∙ ap (λ is_page. word_said e (says g.S.PageSize.LEVEL c.args.flags.0 e is_page)) (sym c.if-not-maps_page.false ∙ c.maps_page.ensures)
