-- The texts of walks, put into an output.
use Rattle.std.proofs.Common.{◌++◌, ℕ, Bool, List, [], String, Option, if◌then◌else◌, ap₂, subst}
use Rattle.std.specs.declared.alloc.Global.{Global}
use Rattle.x86_64_access.specs.declared.controls.Controls.{Controls}
use Rattle.ptdump_json.specs.Explanations.{explained, explanation_text}
use Rattle.ptdump_json.specs.Walked.{IsWalk, end_said, text_of_value}
use Rattle.ptdump_json.specs.Walks.{Walk, walk_text}
use Rattle.ptdump_json.specs.declared.walked.Walk.{Walk as WalkValue}
use Rattle.ptdump_json.proofs.WalkValues.{explanation_of_walk, text_of_walk}
use Rattle.ptdump_engine.specs.Output.{Puts}
use Rattle.ptdump_engine.specs.declared.output.Output.{Output}
use Rattle.ptdump_engine.specs.private.Puts.{puts_both}

pub puts_walk : {W : Type 0} (contents : W → Option (List ℕ)) (old between new : Output W (String Global)) (c : Controls) (explains : Bool) (walk : Walk) (value : WalkValue) → IsWalk walk value
    → Puts contents old between (text_of_value c value) → Puts contents between new (if explains then explained (end_said value.end) value.words.items else [])
    → Puts contents old new (walk_text c walk ++ (if explains then explanation_text walk else []))
puts_walk contents old between new c explains walk value is written told =
    subst (Puts contents old new) (ap₂ (λ text explanation. text ++ (if explains then explanation else [])) (text_of_walk c walk value is) (explanation_of_walk walk value is))
    (puts_both contents old between new _ _ written told)
