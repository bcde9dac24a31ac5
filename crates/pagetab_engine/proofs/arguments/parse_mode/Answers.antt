use Rattle.std.proofs.Common.{◌≡◌, ◌∙◌, ℕ, List, [], ◌∷◌, true, false, bytes_eq, codes, Option, Some, None, option_and_then, option_map, refl, sym, ap, subst}
use Rattle.x86_64_addr.specs.declared.level_count.Levels.TheVariants.{Four, Five}
use Rattle.pagetab_engine.specs.Arguments.{mode_in, mode_named, modes_with}
use Rattle.pagetab_engine.specs.Fields.{number_in}
use Rattle.pagetab_engine.specs.Starts.{index_in}
use Rattle.pagetab_engine.specs.declared.arguments.Mode.{Mode}
use Rattle.pagetab_engine.specs.declared.arguments.Mode.TheVariants.{Recursive, Pair}
use Rattle.pagetab_engine.proofs.arguments.parse_mode.Goals as goal

abbrev Is : (word name : List ℕ) → Type 0
Is word name = true ≡ bytes_eq word name

abbrev Isnt : (word name : List ℕ) → Type 0
Isnt word name = false ≡ bytes_eq word name

-- the mode that a word chooses with the number that a text is
module _ (word text : List ℕ) (number : ℕ) (is_number : Some number ≡ number_in text) where
  chosen : (mode : Option Mode) → mode ≡ mode_named word (modes_with number) → mode ≡ mode_in word (text ∷ [])
  chosen mode = subst (λ number. mode ≡ option_and_then (λ number. mode_named word (modes_with number)) number) is_number

  recursive : Isnt word (codes "offset") → Is word (codes "recursive") → (index : Option ℕ) → index ≡ index_in number → option_map
      (Recursive Four) index ≡ mode_in word (text ∷ [])
  recursive a b index is = chosen (option_map (Recursive Four) index) (ap (option_map (Recursive Four)) is ∙ rw (sym a, sym b) refl)

  recursive_in_five : Isnt word (codes "offset") → Isnt word (codes "recursive") → Is word (codes "recursive5") → (index : Option ℕ) → index
      ≡ index_in number → option_map (Recursive Five) index ≡ mode_in word (text ∷ [])
  recursive_in_five a b c index is = chosen (option_map (Recursive Five) index) (ap (option_map (Recursive Five)) is ∙ rw (sym a, sym b, sym c) refl)

  pair : Isnt word (codes "offset") → Isnt word (codes "recursive") → Isnt word (codes "recursive5") → Is word (codes "pair") → (index : Option ℕ)
      → index ≡ index_in number → option_map (Pair Four) index ≡ mode_in word (text ∷ [])
  pair a b c d index is = chosen (option_map (Pair Four) index) (ap (option_map (Pair Four)) is ∙ rw (sym a, sym b, sym c, sym d) refl)

  pair_in_five : Isnt word (codes "offset") → Isnt word (codes "recursive") → Isnt word (codes "recursive5") → Isnt word (codes "pair") → Is word
      (codes "pair5") → (index : Option ℕ) → index ≡ index_in number → option_map (Pair Five) index ≡ mode_in word (text ∷ [])
  pair_in_five a b c d e index is = chosen (option_map (Pair Five) index) (ap (option_map (Pair Five)) is ∙ rw
      (sym a, sym b, sym c, sym d, sym e) refl)

  none : Isnt word (codes "offset") → Isnt word (codes "recursive") → Isnt word (codes "recursive5") → Isnt word (codes "pair") → Isnt word
      (codes "pair5") → None ≡ mode_in word (text ∷ [])
  none a b c d e = chosen None (rw (sym a, sym b, sym c, sym d, sym e) refl)

pub returns-in_ok-index_at : goal.returns-in_ok-index_at
returns-in_ok-index_at c =
    recursive c.args.word.now c.args.number.now c.in_ok-number.number c.in_ok-number.ensures c.if-eq.ensures c.if-eq-2.ensures _
    c.in_ok-index_at.ensures

pub returns-in_ok-index_at-2 : goal.returns-in_ok-index_at-2
returns-in_ok-index_at-2 c =
    recursive_in_five c.args.word.now c.args.number.now c.in_ok-number.number c.in_ok-number.ensures c.if-eq.ensures c.if-eq-2.ensures
    c.if-eq-3.ensures _ c.in_ok-index_at-2.ensures

pub returns-in_ok-index_at-3 : goal.returns-in_ok-index_at-3
returns-in_ok-index_at-3 c =
    pair c.args.word.now c.args.number.now c.in_ok-number.number c.in_ok-number.ensures c.if-eq.ensures c.if-eq-2.ensures c.if-eq-3.ensures
    c.if-eq-4.ensures _ c.in_ok-index_at-3.ensures

pub returns-in_ok-index_at-4 : goal.returns-in_ok-index_at-4
returns-in_ok-index_at-4 c =
    pair_in_five c.args.word.now c.args.number.now c.in_ok-number.number c.in_ok-number.ensures c.if-eq.ensures c.if-eq-2.ensures c.if-eq-3.ensures
    c.if-eq-4.ensures c.if-eq-5.ensures _ c.in_ok-index_at-4.ensures

pub returns-else-eq-5 : goal.returns-else-eq-5
returns-else-eq-5 c = none c.args.word.now c.args.number.now c.in_ok-number.number c.in_ok-number.ensures c.if-eq.ensures c.if-eq-2.ensures
    c.if-eq-3.ensures c.if-eq-4.ensures c.if-eq-5.ensures
