-- Several processors that switch between the same spaces.
use Rattle.std.proofs.Common.{◌≡◌, ◌==◌, ◌||◌, Bool, true, false, cond, [], ◌∷◌, filter, map, not, refl, sym, ap, ◌∙◌}
use Rattle.x86_64_model.specs.Laws.Switches.{is_seen_by_all, seen_by, SeeTheSame, EachIsFlushedHere, AllSeeTheSame}
use Rattle.x86_64_model.specs.Machine.{step}
use Rattle.x86_64_model.specs.Switches.{Kernel, Space, Switching, SwitchEvent, Makes, Writes, Marks, Returns, Pools, Begins, Ends, Loads, Abandons, Flushes, Changes, machine_at, with_next, with_words, with_marks, after_switch}
use Rattle.x86_64_model.specs.MaySwitch.{after_switches}
use Rattle.x86_64_model.proofs.Lemmas.Switches.Runs.{switches_are_flushed}

pub each_is_flushed_here : EachIsFlushedHere
each_is_flushed_here k events j start now ran = switches_are_flushed k start (seen_by j events) now ran

-- an event that both see
both : (k : Kernel) (e : SwitchEvent) (a b : Switching) → SeeTheSame a b → SeeTheSame (after_switch k a e) (after_switch k b e)
both k (Makes one call loses reaches everywhere next) a b same = record {
  spaces = ap (map (with_next next)) same.spaces;
  pool = ap (λ pool. (step (machine_at k one) (record { paths = one.paths; pool = pool }) call).state.pool) same.pool;
  words = same.words;
}
both k (Writes U) a b same = record { spaces = ap (map (with_words k U)) same.spaces; pool = same.pool; words = refl }
both k (Marks next U) a b same = record { spaces = ap (map (with_marks k next U)) same.spaces; pool = same.pool; words = refl }
both k Returns a b same = record { spaces = same.spaces; pool = same.pool; words = same.words }
both k (Pools pool) a b same = record { spaces = same.spaces; pool = refl; words = same.words }
both k (Begins new) a b same = record { spaces = ap (λ spaces. new ∷ spaces) same.spaces; pool = same.pool; words = same.words }
both k (Ends root) a b same = record { spaces = ap (filter (λ (one : Space). not (one.root == root))) same.spaces; pool = same.pool; words = same.words }
both k (Loads root pcid keeps after) a b same = record { spaces = same.spaces; pool = same.pool; words = same.words }
both k (Abandons pcid) a b same = record { spaces = same.spaces; pool = same.pool; words = same.words }
both k (Flushes f after) a b same = record { spaces = same.spaces; pool = same.pool; words = same.words }
both k (Changes after) a b same = record { spaces = same.spaces; pool = same.pool; words = same.words }

-- an event that only one sees
alone : (k : Kernel) (e : SwitchEvent) (a : Switching) → is_seen_by_all e ≡ false → SeeTheSame (after_switch k a e) a
alone k (Makes one call loses reaches everywhere next) a own = cc
alone k (Writes U) a own = cc
alone k (Marks next U) a own = cc
alone k Returns a own = cc
alone k (Pools pool) a own = cc
alone k (Begins new) a own = cc
alone k (Ends root) a own = cc
alone k (Loads root pcid keeps after) a own = record { spaces = refl; pool = refl; words = refl }
alone k (Abandons pcid) a own = record { spaces = refl; pool = refl; words = refl }
alone k (Flushes f after) a own = record { spaces = refl; pool = refl; words = refl }
alone k (Changes after) a own = record { spaces = refl; pool = refl; words = refl }

then : (a b c : Switching) → SeeTheSame a b → SeeTheSame b c → SeeTheSame a c
then a b c x y = record { spaces = x.spaces ∙ y.spaces; pool = x.pool ∙ y.pool; words = x.words ∙ y.words }

back : (a b : Switching) → SeeTheSame a b → SeeTheSame b a
back a b x = record { spaces = sym x.spaces; pool = sym x.pool; words = sym x.words }

pub all_see_the_same : AllSeeTheSame
all_see_the_same k [] i j a b same = same
all_see_the_same k (e ∷ more) i j a b same = by (is_seen_by_all e.1) (e.0 == i) (e.0 == j) refl (λ a b same. all_see_the_same k more i j a b same)
  where
    by : (all x y : Bool) → is_seen_by_all e.1 ≡ all
        → ((a b : Switching) → SeeTheSame a b → SeeTheSame (after_switches k a (seen_by i more)) (after_switches k b (seen_by j more)))
        → SeeTheSame (after_switches k a (cond (x || all) (e.1 ∷ seen_by i more) (seen_by i more))) (after_switches k b (cond (y || all) (e.1 ∷ seen_by j more) (seen_by j more)))
    by true true true is go = go _ _ (both k e.1 a b same)
    by true true false is go = go _ _ (both k e.1 a b same)
    by true false true is go = go _ _ (both k e.1 a b same)
    by true false false is go = go _ _ (both k e.1 a b same)
    by false true true is go = go _ _ (both k e.1 a b same)
    by false true false is go = go _ _ (then _ a b (alone k e.1 a is) same)
    by false false true is go = go _ _ (then a b _ same (back _ b (alone k e.1 b is)))
    by false false false is go = go a b same
