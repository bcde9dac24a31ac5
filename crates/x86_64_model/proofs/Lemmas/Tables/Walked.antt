-- The list of a hierarchy's tables has the table that each path leads to, and each path's in its own place.
use Rattle.std.proofs.Common.{◌≡◌, inl, inr, ⊎_elim, ◌<◌, ℕ, zero, suc, ◌&&◌, not, Bool, true, false, cond, List, [], ◌∷◌, length, Some, None, Option, nat_lt, refl, sym, ap, ap₂, ◌∙◌, subst, arith, lt-ltb}
use Rattle.std.specs.List.{flat_map}
use Rattle.std.proofs.lemmas.Bool.{cases_lt}
use Rattle.std.proofs.lemmas.Option.{none-some, same_Some}
use Rattle.x86_64_model.specs.Entry.{huge, address, names_table}
use Rattle.x86_64_model.specs.Memory.{Words, word}
use Rattle.x86_64_model.specs.Path.{indices}
use Rattle.x86_64_model.specs.PathMap.{table_of, table_at}
use Rattle.x86_64_model.specs.Validity.{read_at, paths_of}
use Rattle.x86_64_model.specs.Lists.{In, EachOnce}
use Rattle.x86_64_model.proofs.Lemmas.Hierarchies.Changes.{unused_no_table, zero_not_used}
use Rattle.x86_64_model.proofs.Lemmas.Maps.Down.{nat_lt-suc}
use Rattle.x86_64_model.proofs.Lemmas.Hierarchies.Exists.{entry_paths_of}
use Rattle.x86_64_model.proofs.Lemmas.Hierarchies.Held.{word_past}
use Rattle.x86_64_model.specs.private.Tables.{tables_from}
use Rattle.x86_64_model.proofs.Lemmas.Lists.Members.{in_flat_map, from_flat_map, in_indices}
use Rattle.x86_64_model.proofs.Lemmas.Lists.Once.{once_flat_map, once_part, same_part, once_indices}

-- the frame of the table that a path leads to from a frame's table, through n levels
abbrev pub frame_at : ℕ → Words → ℕ → List ℕ → Option ℕ
frame_at zero T f [] = Some f
frame_at zero T f (i ∷ p) = None
frame_at (suc n) T f [] = Some f
frame_at (suc n) T f (i ∷ p) = cond (names_table (word T f i)) (frame_at n T (address (word T f i)) p) None

start : (n : ℕ) (T : Words) (f : ℕ) → frame_at n T f [] ≡ Some f
start zero T f = refl
start (suc n) T f = refl

named : (n : ℕ) (T : Words) (f i : ℕ) (p : List ℕ) → table_of (suc n) (i ∷ p) (read_at (suc n) T f (i ∷ p)) ≡ frame_at n T f (i ∷ p)
unfolding table_of
named zero T f i [] = elim (names_table (word T f i)) as (λ b. cond (b && nat_lt 1 1) (Some (address (word T f i))) None ≡ None) [ true ↦ refl | false ↦ refl ]
named zero T f i (j ∷ p) = elim (names_table (word T f i)) as (λ b. table_of 1 (i ∷ j ∷ p) (cond b 0 0) ≡ None) [ true ↦ unused_no_table 1 (i ∷ j ∷ p) | false ↦ unused_no_table 1 (i ∷ j ∷ p) ]
named (suc n) T f i [] =
    let a = address (word T f i) in
    elim (names_table (word T f i)) as (λ b. cond (b && nat_lt 1 (suc (suc n))) (Some a) None ≡ cond b (frame_at n T a []) None) [
      | true ↦ ap (λ b. cond b (Some a) None) (lt-ltb 1 (suc (suc n)) (omega arith)) ∙ sym (start n T a)
      | false ↦ refl
    ]
named (suc n) T f i (j ∷ p) =
    let a = address (word T f i) in
    let x = read_at (suc n) T a (j ∷ p) in
    elim (names_table (word T f i)) as (λ b. table_of (suc (suc n)) (i ∷ j ∷ p) (cond b x 0) ≡ cond b (frame_at n T a (j ∷ p)) None) [
      | true ↦ ap (λ b. cond (names_table x && b) (Some (address x)) None) (nat_lt-suc (length (j ∷ p)) (suc n)) ∙ named n T a j p
      | false ↦ unused_no_table (suc (suc n)) (i ∷ j ∷ p)
    ]

-- the tables that the paths of the words' path map lead to
pub table_at_frame : (n : ℕ) (T : Words) (root : ℕ) (q : List ℕ) → table_at (suc n) root (paths_of (suc n) T root) q ≡ frame_at n T root q
table_at_frame n T root [] = sym (start n T root)
table_at_frame n T root (i ∷ q) = ap (table_of (suc n) (i ∷ q)) (entry_paths_of (suc n) T root (i ∷ q)) ∙ named n T root i q

-- ---- the list has what the paths lead to

abbrev pub part : ℕ → Words → ℕ → ℕ → List ℕ
part n T f i = cond (names_table (word T f i)) (tables_from n T (address (word T f i))) []

pub small_index : (T : Words) (f i : ℕ) → names_table (word T f i) ≡ true → i < 512
small_index T f i h = ⊎_elim (λ l. l) (λ l. absurd (let t : names_table 0 ≡ true = sym (ap names_table (word_past T f i l)) ∙ h in
    let u : names_table 0 ≡ false = ap (λ b. b && not (huge 0)) zero_not_used in cc)) (cases_lt i 512)

in_part : (n : ℕ) (T : Words) (f i : ℕ) (p : List ℕ) (g : ℕ) → ((a : ℕ) → frame_at n T a p ≡ Some g → In (tables_from n T a) g) → frame_at (suc n) T f (i ∷ p) ≡ Some g → (i < 512) × In (part n T f i) g
in_part n T f i p g on = elim (names_table (word T f i)) as (λ b. names_table (word T f i) ≡ b → cond b (frame_at n T (address (word T f i)) p) None ≡ Some g → (i < 512) × In (cond b (tables_from n T (address (word T f i))) []) g) [
  | true ↦ λ b e. (small_index T f i b, on (address (word T f i)) e)
  | false ↦ λ b e. absurd (none-some g e)
] refl

pub in_tables : (n : ℕ) (T : Words) (f : ℕ) (p : List ℕ) (g : ℕ) → frame_at n T f p ≡ Some g → In (tables_from n T f) g
unfolding tables_from
in_tables zero T f [] g e = inl (same_Some _ _ e)
in_tables zero T f (i ∷ p) g e = absurd (none-some g e)
in_tables (suc n) T f [] g e = inl (same_Some _ _ e)
in_tables (suc n) T f (i ∷ p) g e = let h = in_part n T f i p g (λ a. in_tables n T a p g) e in inr (in_flat_map (part n T f) indices i g (in_indices i h.0) h.1)

pub in_below : (n : ℕ) (T : Words) (f i : ℕ) (p : List ℕ) (g : ℕ) → frame_at (suc n) T f (i ∷ p) ≡ Some g → (i < 512) × In (part n T f i) g
in_below n T f i p g = in_part n T f i p g (λ a. in_tables n T a p g)

from_part : (n : ℕ) (T : Words) (f i g : ℕ) → ((a : ℕ) → In (tables_from n T a) g → (p : List ℕ) × (frame_at n T a p ≡ Some g)) → In (part n T f i) g → (p : List ℕ) × (frame_at (suc n) T f (i ∷ p) ≡ Some g)
from_part n T f i g on = elim (names_table (word T f i)) as (λ b. In (cond b (tables_from n T (address (word T f i))) []) g → (p : List ℕ) × (cond b (frame_at n T (address (word T f i)) p) None ≡ Some g)) [
  | true ↦ λ h. on (address (word T f i)) h
  | false ↦ λ h. absurd h
]

pub from_tables : (n : ℕ) (T : Words) (f g : ℕ) → In (tables_from n T f) g → (p : List ℕ) × (frame_at n T f p ≡ Some g)
unfolding tables_from
from_tables zero T f g (inl e) = ([], ap Some e)
from_tables zero T f g (inr h) = absurd h
from_tables (suc n) T f g (inl e) = ([], ap Some e)
from_tables (suc n) T f g (inr h) =
    let r = from_flat_map (part n T f) indices g h in
    let s = from_part n T f r.0 g (λ a. from_tables n T a g) r.2 in
    (r.0 ∷ s.0, s.1)

pub from_below : (n : ℕ) (T : Words) (f i g : ℕ) → In (part n T f i) g → (p : List ℕ) × (frame_at (suc n) T f (i ∷ p) ≡ Some g)
from_below n T f i g = from_part n T f i g (λ a. from_tables n T a g)

-- ---- each path leads to a table of its own if and only if the list has each frame once

abbrev pub Own : ℕ → Words → ℕ → Type 0
Own n T f = (p q : List ℕ) (g : ℕ) → frame_at n T f p ≡ Some g → frame_at n T f q ≡ Some g → p ≡ q

pub once_tables : (n : ℕ) (T : Words) (f : ℕ) → Own n T f → EachOnce (tables_from n T f)
unfolding tables_from
once_tables zero T f own = (λ h. h, tt)
once_tables (suc n) T f own = (
  λ h. let r = from_flat_map (part n T f) indices f h in let s = from_below n T f r.0 f r.2 in let t : [] ≡ r.0 ∷ s.0 = own [] (r.0 ∷ s.0) f refl s.1 in cc,
  once_flat_map (part n T f) indices once_indices
      (λ i. elim (names_table (word T f i)) as (λ b. names_table (word T f i) ≡ b → EachOnce (cond b (tables_from n T (address (word T f i))) [])) [
        | true ↦ λ b. once_tables n T (address (word T f i)) (λ p q g x y. let t : i ∷ p ≡ i ∷ q = own (i ∷ p) (i ∷ q) g (on i b p ∙ x) (on i b q ∙ y) in cc)
        | false ↦ λ b. tt
      ] refl)
      (λ i j g h k. let r = from_below n T f i g h in let s = from_below n T f j g k in let t : i ∷ r.0 ≡ j ∷ s.0 = own (i ∷ r.0) (j ∷ s.0) g r.1 s.1 in cc),
)
  where
    on : (i : ℕ) → names_table (word T f i) ≡ true → (p : List ℕ) → frame_at (suc n) T f (i ∷ p) ≡ frame_at n T (address (word T f i)) p
    on i b p = ap (λ b. cond b (frame_at n T (address (word T f i)) p) None) b

pub own_tables : (n : ℕ) (T : Words) (f : ℕ) → EachOnce (tables_from n T f) → Own n T f
unfolding tables_from
own_tables zero T f once [] [] g x y = refl
own_tables zero T f once [] (j ∷ q) g x y = absurd (none-some g y)
own_tables zero T f once (i ∷ p) q g x y = absurd (none-some g x)
own_tables (suc n) T f once [] [] g x y = refl
own_tables (suc n) T f once [] (j ∷ q) g x y = let h = in_below n T f j q g y in absurd (once.0 (subst (In (flat_map (part n T f) indices)) (sym (same_Some _ _ x)) (in_flat_map (part n T f) indices j g (in_indices j h.0) h.1)))
own_tables (suc n) T f once (i ∷ p) [] g x y = let h = in_below n T f i p g x in absurd (once.0 (subst (In (flat_map (part n T f) indices)) (sym (same_Some _ _ y)) (in_flat_map (part n T f) indices i g (in_indices i h.0) h.1)))
own_tables (suc n) T f once (i ∷ p) (j ∷ q) g x y =
    let h = in_below n T f i p g x in
    let k = in_below n T f j q g y in
    let e : i ≡ j = same_part (part n T f) indices once.1 i j g (in_indices i h.0) (in_indices j k.0) h.1 k.1 in
    ap₂ (λ i p. i ∷ p) e (rest (own_tables n T (address (word T f i))) (names_table (word T f i)) (once_part (part n T f) indices once.1 i (in_indices i h.0)) x (subst (λ j. frame_at (suc n) T f (j ∷ q) ≡ Some g) (sym e) y))
  where
    rest : (EachOnce (tables_from n T (address (word T f i))) → Own n T (address (word T f i))) → (b : Bool) → EachOnce (cond b (tables_from n T (address (word T f i))) []) → cond b (frame_at n T (address (word T f i)) p) None ≡ Some g → cond b (frame_at n T (address (word T f i)) q) None ≡ Some g → p ≡ q
    rest own true o x y = own o p q g x y
    rest own false o x y = absurd (none-some g x)
