-- Processors that use one hierarchy see the same words, and the theorem of caches holds on each.
use Rattle.std.proofs.Common.{◌≡◌, ℕ, ◌==◌, Bool, true, false, cond, List, [], ◌∷◌, refl, sym, ap, ◌∙◌}
use Rattle.x86_64_model.specs.Flushing as kernel
use Rattle.x86_64_model.specs.Flushing.{Event, Flush, System, after_event, after_events, fresh}
use Rattle.x86_64_model.specs.Machine.{Machine, State, step}
use Rattle.x86_64_model.proofs.Lemmas.Caches.Runs.{flushes_are_enough}
use Rattle.x86_64.specs.SeveralProcessors.{SharedEvent, Makes, Writes, Flushes, Changes, events_seen, SystemsSeeTheSame, EachIsFlushed, ProcessorsSeeTheSame}

pub each_is_flushed : EachIsFlushed
each_is_flushed m root T serves s fits events k now happens p none w access = flushes_are_enough m root T serves s fits (events_seen k events) now happens p none w access

same : (a b c : System) → SystemsSeeTheSame a b → SystemsSeeTheSame b c → SystemsSeeTheSame a c
same a b c first second = record { state = first.state ∙ second.state; paths = first.paths ∙ second.paths; words = first.words ∙ second.words }

turned : (a b : System) → SystemsSeeTheSame a b → SystemsSeeTheSame b a
turned a b is = record { state = sym is.state; paths = sym is.paths; words = sym is.words }

module _ (m : Machine) where
  -- a flush or a change of caches, if the processor sees it
  only_if : (seen : Bool) (s : System) (e : Event) → SystemsSeeTheSame (after_event m s e) s → SystemsSeeTheSame (cond seen (after_event m s e) s) s
  only_if true s e own = own
  only_if false s e own = record { state = refl; paths = refl; words = refl }

  then_more : (seen : Bool) (s : System) (e : Event) (more : List Event) → after_events m s (cond seen (e ∷ more) more) ≡ after_events m (cond seen (after_event m s e) s) more
  then_more true s e more = refl
  then_more false s e more = refl

  module _ (j k : ℕ) where
    see_the_same : (events : List SharedEvent) (a b : System) → SystemsSeeTheSame a b → SystemsSeeTheSame (after_events m a (events_seen j events)) (after_events m b (events_seen k events))
    see_the_same [] a b is = is
    see_the_same (Makes call loses ∷ more) a b is = see_the_same more _ _ (record { state = ap (λ (s : State). (step m s call).state) is.state; paths = is.paths; words = is.words })
    see_the_same (Writes N U ∷ more) a b is = see_the_same more _ _ (record { state = is.state; paths = refl; words = refl })
    see_the_same (Flushes i f after ∷ more) a b is =
        let e = kernel.Flushes f after in
        let first = only_if (i == j) a e (record { state = refl; paths = refl; words = refl }) in
        let second = only_if (i == k) b e (record { state = refl; paths = refl; words = refl }) in
        rw (then_more (i == j) a e (events_seen j more), then_more (i == k) b e (events_seen k more)) (see_the_same more _ _ (same _ a _ first (same a b _ is (turned _ b second))))
    see_the_same (Changes i after ∷ more) a b is =
        let e = kernel.Changes after in
        let first = only_if (i == j) a e (record { state = refl; paths = refl; words = refl }) in
        let second = only_if (i == k) b e (record { state = refl; paths = refl; words = refl }) in
        rw (then_more (i == j) a e (events_seen j more), then_more (i == k) b e (events_seen k more)) (see_the_same more _ _ (same _ a _ first (same a b _ is (turned _ b second))))

pub all_see_the_same : ProcessorsSeeTheSame
all_see_the_same m root T s events j k here there first second = rw (sym first.ends, sym second.ends)
    (see_the_same m j k events (fresh s T) (fresh s T) (record { state = refl; paths = refl; words = refl }))
