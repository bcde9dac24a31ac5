-- Text that is put into an output in parts.
use Rattle.std.proofs.Common.{◌∙◌, ℕ, List, [], ◌++◌, Option, String, refl}
use Rattle.std.proofs.KnownBytes.{Appends-nil, Appends-trans}
use Rattle.std.specs.declared.alloc.Global.{Global}
use Rattle.ptdump_engine.specs.Output.{Puts}
use Rattle.ptdump_engine.specs.declared.output.Output.{Output}

pub puts_nothing : {W : Type 0} (contents : W → Option (List ℕ)) (output : Output W (String Global)) → Puts contents output output []
puts_nothing contents output = record { writer = refl; appends = Appends-nil _ }

pub puts_both : {W : Type 0} (contents : W → Option (List ℕ)) (before between after : Output W (String Global)) (front back : List ℕ)
    → Puts contents before between front → Puts contents between after back → Puts contents before after (front ++ back)
puts_both contents before between after front back first second = record {
  writer = second.writer ∙ first.writer;
  appends = Appends-trans _ _ _ front back first.appends second.appends;
}
