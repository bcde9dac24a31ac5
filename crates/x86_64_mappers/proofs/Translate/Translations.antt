-- A translation and the page walk arrive at the same address.
use Rattle.std.proofs.Common.{◌≡◌, ℕ, Some, option_map, option_and_then, sym, ap, ◌∙◌}
use Rattle.x86_64_model.specs.Layout.{Layout}
use Rattle.x86_64_model.specs.Hierarchy.{◌laid_in◌, Valid, paths, read_entry, words}
use Rattle.x86_64_model.proofs.Lemmas.Walks.Agrees.{translate_agrees}
use Rattle.x86_64_model.specs.Memory.{Memory}
use Rattle.x86_64_model.specs.PageWalk.{page_walk}
use Rattle.x86_64_model.specs.Translation.{translate, present_to}
use Rattle.x86_64_tables.specs.Translations.{translation_of, reaches}
use Rattle.x86_64_tables.specs.declared.translation.TranslateResult.{TranslateResult}

pub leads_where_the_walk_does : (l : Layout) (m : Memory) (p : ℕ) (answer : TranslateResult) → Valid (l laid_in m)
    → translation_of answer ≡ Some (translate l.levels (read_entry (l laid_in m)) p)
    → reaches answer ≡ option_map (λ walked. walked.address) (page_walk l.levels (words (l laid_in m)) l.root p)
leads_where_the_walk_does l m p answer valid is =
    ap (option_and_then present_to) is ∙ sym (translate_agrees l.levels (words (l laid_in m)) l.root (paths (l laid_in m)) l.window valid p)
