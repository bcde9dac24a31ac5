-- A map call conserves frames.
use Rattle.std.proofs.Common.{◌∷◌, arith}
use Rattle.x86_64_model.specs.Path.{parents}
use Rattle.x86_64_model.specs.Window.{outside_window}
use Rattle.x86_64_model.specs.MapRule.{leaf_entry}
use Rattle.x86_64_model.proofs.Lemmas.Maps.Frames.{map_conserves}
use Rattle.x86_64_model.specs.Laws.Maps.{MapConserves, MapKeepsWalks}
use Rattle.x86_64_model.proofs.Lemmas.Maps.Rights.{map_keeps_walks}
use Rattle.x86_64_model.proofs.Lemmas.Maps.Trees.{page_descends, parents_are}
use Rattle.x86_64_model.proofs.Lemmas.Maps.Leaves.{none_at_leaf}
use Rattle.x86_64_model.proofs.Lemmas.Hierarchies.Trees.{tree_of_holds}

-- the set of free and table frames stays the same, and each frame has one use
pub map_call_conserves : MapConserves
map_call_conserves L T root M supply more added i q frame given marks adds frames l holds =
    map_conserves L root more added marks adds i q (leaf_entry L (i ∷ q) frame given) frame (none_at_leaf L (i ∷ q) frame given) M supply (parents (i ∷ q))
    (page_descends L root M (tree_of_holds L T root M holds) (i ∷ q)) (parents_are L (i ∷ q) (omega (arith, l))) frames

-- a map call keeps walks
pub map_call_keeps_walks : MapKeepsWalks
map_call_keeps_walks L window T U root M supply more added q frame given marks words =
    map_keeps_walks L window T U root M supply more added (parents q) q (leaf_entry L q frame given) frame marks
    (page_descends L root M (tree_of_holds L (outside_window window root T) root M words.before.valid.holds) q) words.before words.after
