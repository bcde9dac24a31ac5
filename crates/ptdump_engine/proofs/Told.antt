-- What is said of the items that visitors visit.
use Rattle.std.proofs.Common.{◌≡◌, ◌∙◌, ◌+◌, ◌-◌, ◌^◌, ◌++◌, ℕ, Bool, true, false, cond, min, nat_lt, List, [], ◌∷◌, Option, Some, None, filter, length, map, refl, ap, subst, arith}
use Rattle.std.specs.List.{cons_option, filter_map, flat_map}
use Rattle.x86_64_model.specs.Mappings.{Mapping}
use Rattle.ptdump_engine.specs.Said.{Said, line_of}
use Rattle.ptdump_engine.specs.declared.counted_lines.CountedLines.{CountedLines}
use Rattle.ptdump_json.specs.declared.options.Form.{Form}
use Rattle.ptdump_engine.specs.declared.telling.Teller.{Teller}
use Rattle.ptdump_engine.specs.private.Counting.{AreCounted}
use Rattle.ptdump_engine.specs.private.Finding.{some_there}
use Rattle.ptdump_engine.specs.private.Telling.{AreTold}

-- what a visitor has put in since it began
pub told_since : {T O X : Type 0} (Lines : O → O → List Said → Type 0) (said : T → X → Option Said) (old new : Teller T O) (xs : List X) (telling : T) (output : O)
    → old.telling.now ≡ telling → old.output.now ≡ output → AreTold Lines said old new xs → Lines output new.output.now (filter_map (said telling) xs)
told_since Lines said old new xs telling output is begun told =
    subst (λ o. Lines o new.output.now (filter_map (said telling) xs)) begun
    (subst (λ t. Lines old.output.now new.output.now (filter_map (said t) xs)) is told.lines)

-- nothing is said of items that don't pass a test
pub said_of_passing : {X : Type 0} (p : X → Bool) (said : X → Option Said) (xs : List X) → filter_map (λ x. cond (p x) (said x) None) xs ≡ filter_map said (filter p xs)
said_of_passing p said [] = refl
said_of_passing p said (x ∷ xs) = by (p x) (said_of_passing p said xs)
  where
    by : (b : Bool) → filter_map (λ x. cond (p x) (said x) None) xs ≡ filter_map said (filter p xs)
        → cons_option (cond b (said x) None) (filter_map (λ x. cond (p x) (said x) None) xs) ≡ filter_map said (cond b (x ∷ filter p xs) (filter p xs))
    by true rest = ap (cons_option (said x)) rest
    by false rest = rest

-- something is said of each item
pub said_of_each : {X : Type 0} (said : X → Said) (xs : List X) → filter_map (λ x. Some (said x)) xs ≡ map said xs
said_of_each said [] = refl
said_of_each said (x ∷ xs) = ap (λ rest. said x ∷ rest) (said_of_each said xs)

-- each item has a line
pub lines_of_each : {X : Type 0} (form : Form) (said : X → Said) (xs : List X) → flat_map (line_of form) (map said xs) ≡ flat_map (λ x. line_of form (said x)) xs
lines_of_each form said [] = refl
lines_of_each form said (x ∷ xs) = ap (λ rest. line_of form (said x) ++ rest) (lines_of_each form said xs)

-- ---- lines that are counted

-- the lines that have been put in since the count began
pub put_since : {O : Type 0} (puts : O → O → List ℕ → Type 0) (old new : CountedLines O) (lines : List Said) (form : Form) (output : O)
    → old.form ≡ form → old.output.now ≡ output → AreCounted puts old new lines → puts output new.output.now (flat_map (line_of form) lines)
put_since puts old new lines form output is begun counted =
    subst (λ o. puts o new.output.now (flat_map (line_of form) lines)) begun
    (subst (λ f. puts old.output.now new.output.now (flat_map (line_of f) lines)) is counted.put)

-- a line is counted if and only if there is a mapping
pub some_counted : (said : Mapping → Said) (ms : List Mapping) (begun count : ℕ) → begun ≡ 0
    → min count (2 ^ 64 - 1) ≡ min (begun + length (map said ms)) (2 ^ 64 - 1) → nat_lt 0 count ≡ some_there ms
some_counted said [] begun count none is = grind (arith, none, is)
some_counted said (m ∷ ms) begun count none is = grind (arith, none, is)
