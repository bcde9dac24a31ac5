use Rattle.std.proofs.Common.{◌∙◌, refl, sym, codes}
use Rattle.ptdump.proofs.Settings.{bad_setting, known_texts, listed_texts, unknown_texts}
use Rattle.ptdump.proofs.asked.controls_named.Goals as goal

pub returns-in-Some-clause-err : goal.returns-in-Some-clause-err
returns-in-Some-clause-err c = λ controls are.
    unknown_texts c.args.words.now c.in-Some.word (sym c.unknown_of.ensures ∙ c.in-Some.is) controls are

pub returns-in-Some-clause-reason : goal.returns-in-Some-clause-reason
returns-in-Some-clause-reason c = bad_setting c.args.words.now c.in-Some.word (sym c.unknown_of.ensures ∙ c.in-Some.is)

pub returns-clause-words : goal.returns-clause-words
returns-clause-words c =
    let words = c.args.words.now in
    record {
      known = known_texts words (sym c.unknown_of.ensures ∙ c.in_default.is);
      write_protect = c.is_listed.ensures ∙ listed_texts words (codes "wp");
      no_execute = c.is_listed-2.ensures ∙ listed_texts words (codes "nxe");
      smep = c.is_listed-3.ensures ∙ listed_texts words (codes "smep");
      smap = c.is_listed-4.ensures ∙ listed_texts words (codes "smap");
      ac = c.is_listed-5.ensures ∙ listed_texts words (codes "ac");
      giant_pages = refl;
      global_ignored = refl;
    }
