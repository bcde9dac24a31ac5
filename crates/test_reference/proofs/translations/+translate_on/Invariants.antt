use Rattle.test_reference.proofs.translations.+translate_on.Given as goal

abbrev pub decreases-translate_on : goal.decreases-translate_on
decreases-translate_on l = l.level
