-- Used entries are words in place.
use Rattle.std.proofs.Common.{◌≡◌, sym, ap, ◌∙◌}
use Rattle.x86_64_model.specs.Entry.{used}
use Rattle.x86_64_model.specs.Laws.EntriesInPlace.{UsedEntriesAreInPlace}
use Rattle.x86_64_model.specs.Hierarchy.{◌laid_in◌, paths, words}
use Rattle.x86_64_model.specs.Memory.{word}
use Rattle.x86_64_model.specs.PathMap.{entry}
use Rattle.x86_64_model.specs.Window.{begins_with, outside_window}
use Rattle.x86_64_model.proofs.Lemmas.Machines.Writes.{IsWord, word_of_used, within_words, word_is_entry}
use Rattle.x86_64_model.proofs.Lemmas.Hierarchies.Trees.{some_is}
use Rattle.x86_64_model.proofs.Lemmas.Tables.Exact.{inside_window}

pub used_entries_are_in_place : UsedEntriesAreInPlace
used_entries_are_in_place l serves m pool fits q is_used out =
    let T = words (l laid_in m) in let M = paths (l laid_in m) in
    let at = word_of_used l.levels
    (outside_window l.window l.root T) l.root M fits.valid.valid.holds q is_used in
    let place : IsWord l.levels l.root M q at.0 at.1 = at.2 in
    let table = some_is (T at.0) (inside_window l.window l.root T at.0
    (fits.valid.valid.holds.in_memory place.above at.0 place.leads)) in
    let its : word T at.0 at.1
    ≡ entry M q = word_is_entry l.levels l.window T l.root M fits.valid place.above at.1 at.0 place.leads place.small (ap (begins_with l.window) (sym place.path) ∙ out) ∙ ap (entry M) (sym place.path) in (
      at.0,
      at.1,
      record {
        above = place.above;
        is = place.path;
        leads = place.leads;
        table = table.0;
        there = table.1;
        within = within_words T at.0 at.1 table.0 table.1 (ap used its ∙ is_used);
        small = place.small;
        outside = out;
      },
    )
