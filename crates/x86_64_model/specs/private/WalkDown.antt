-- A map call as a walk down the page's parents, one at a time, as a mapper goes. Its outcome is that of the map rule.
use Rattle.std.specs.Prelude.{ℕ, cond, List, [], ◌∷◌, bit_or}
use Rattle.x86_64_model.specs.Entry.{used, huge}
use Rattle.x86_64_model.specs.PathMap.{PathMap, entry, put}
use Rattle.x86_64_model.specs.Refusal.{Done, Refused, ParentEntryHugePage, PageAlreadyMapped, FrameAllocationFailed}
use Rattle.x86_64_model.specs.MapRule.{AfterMap}

-- The result from the first frame and the others, or `none` if there is no frame.
abbrev pub with_first : {X : Type 0} → List ℕ → (none : X) → (some : ℕ → List ℕ → X) → X
with_first [] none some = none
with_first (f ∷ fs) none some = some f fs

-- The result of a map call to `frame`, with the requested entry e at path q, if the parents ps of q are still to be handled,
-- from the first to the last. A used parent gets the parent flags `more`, and refuses the call if it is huge. An unused one
-- becomes a new table in the first frame of the supply, and refuses the call if there is none.
abbrev pub walk_down : (parent_flags added_flags : ℕ) (q : List ℕ) (e frame : ℕ) → PathMap → (supply : List ℕ) → (ps : List (List ℕ)) → AfterMap
walk_down more added q e frame M supply [] = cond (used (entry M q))
    (record { paths = M; supply = supply; answer = Refused (PageAlreadyMapped frame) })
    (record { paths = put M q e; supply = supply; answer = Done frame })
walk_down more added q e frame M supply (p ∷ ps) = cond (used (entry M p))
    (cond (huge (entry M p)) (record { paths = put M p (bit_or (entry M p) more); supply = supply; answer = Refused ParentEntryHugePage })
    (walk_down more added q e frame (put M p (bit_or (entry M p) more)) supply ps))
    (with_first supply (record { paths = M; supply = []; answer = Refused FrameAllocationFailed })
    (λ f fs. walk_down more added q e frame (put M p (bit_or f (bit_or more added))) fs ps))
