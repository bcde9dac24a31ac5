-- The walk and `translate` with four levels equal those that are written out, and with five they are one level above four.
use Rattle.std.proofs.Common.{zero, suc, ◌≡◌, ◌+◌, ◌%◌, ◌^◌, ℕ, ◌&&◌, Bool, true, false, not, cond, List, Some, None, Option, option_and_then, refl, ap, ap₂, ◌∙◌, sym}
use Rattle.std.proofs.Math.Bool.{and_assoc, and-true}
use Rattle.x86_64_model.specs.Entry.{present, writable, user, huge, address}
use Rattle.x86_64_model.specs.Memory.{Words}
use Rattle.x86_64_model.specs.Position.{index, span}
use Rattle.x86_64_model.specs.PageWalk.{page_start, Walked, arrives, read, walk_on, page_walk}
use Rattle.x86_64_model.specs.Translation.{translate_on, translate}
use Rattle.x86_64_model.specs.WrittenOut.{walk_1, walk_2, walk_3, walk_4, translate_4, narrowed, walk_5, translate_5}

two : (a b : Bool) → (a && b) ≡ (a && (b && true))
two true true = refl
two true false = refl
two false b = refl

three : (a b c : Bool) → ((a && b) && c) ≡ (a && (b && (c && true)))
three true b c = two b c
three false b c = refl

four : (a b c d : Bool) → (((a && b) && c) && d) ≡ (a && (b && (c && (d && true))))
four true b c d = three b c d
four false b c d = refl

then_same : (f g : ℕ → Option Walked) → ((e : ℕ) → f e ≡ g e) → (o : Option ℕ) → option_and_then f o ≡ option_and_then g o
then_same f g h o = ap (λ f. option_and_then f o) (λ i e. h e i)

pub translate_is : (E : List ℕ → ℕ) (p : ℕ) → translate 4 E p ≡ translate_4 E p
unfolding translate translate_on translate_4
translate_is E p = refl

pub translate_5_is : (E : List ℕ → ℕ) (p : ℕ) → translate 5 E p ≡ translate_5 E p
unfolding translate translate_on translate_4 translate_5
translate_5_is E p = refl

module _ (T : Words) (p : ℕ) where
  from_1 : (w4 w3 w2 : ℕ) → walk_on T p 1 ((writable w4 && writable w3) && writable w2) ((user w4 && user w3) && user w2) (address w2) ≡ walk_1 T p w4 w3 w2
  unfolding walk_on
  from_1 w4 w3 w2 = then_same _ _ (λ e. ap₂ (λ w u. cond (present e) (arrives (address e + p % 2 ^ 12) w u) None)
      (four (writable w4) (writable w3) (writable w2) (writable e)) (four (user w4) (user w3) (user w2) (user e))) (read T (address w2) (index 1 p))

  from_2 : (w4 w3 : ℕ) → walk_on T p 2 (writable w4 && writable w3) (user w4 && user w3) (address w3) ≡ walk_2 T p w4 w3
  unfolding walk_on
  from_2 w4 w3 = then_same _ _ (λ e. λ i. cond (present e) (cond (huge e) (arrives (page_start 2 e + p % span 2)
      (three (writable w4) (writable w3) (writable e) i) (three (user w4) (user w3) (user e) i)) (from_1 w4 w3 e i)) None) (read T (address w3) (index 2 p))

  from_3 : (w4 : ℕ) → walk_on T p 3 (writable w4) (user w4) (address w4) ≡ walk_3 T p w4
  unfolding walk_on
  from_3 w4 = then_same _ _ (λ e. λ i. cond (present e) (cond (huge e) (arrives (page_start 3 e + p % span 3)
      (two (writable w4) (writable e) i) (two (user w4) (user e) i)) (from_2 w4 e i)) None) (read T (address w4) (index 3 p))

  top : (h g : Bool) (x y : Option Walked) → x ≡ y → cond h (cond g None x) None ≡ cond (h && not g) y None
  top true true x y e = refl
  top true false x y e = e
  top false g x y e = refl

  pub walk_is : (root : ℕ) → page_walk 4 T root p ≡ walk_4 T root p
  unfolding page_walk walk_on walk_4
  walk_is root = then_same _ _ (λ e. top (present e) (huge e) _ _ (from_3 e)) (read T root (index 4 p))

  -- ---- what was granted above narrows what is granted below

  narrowed_at : (w u x y : Bool) (e to : ℕ) → arrives to ((w && x) && writable e) ((u && y) && user e) ≡ narrowed w u (arrives to (x && writable e) (y && user e))
  narrowed_at w u x y e to = ap₂ (λ a b. arrives to a b) (and_assoc w x (writable e)) (and_assoc u y (user e))

  narrowed_then : (w u : Bool) (f g : ℕ → Option Walked) → ((e : ℕ) → f e ≡ narrowed w u (g e)) → (o : Option ℕ) → option_and_then f o ≡ narrowed w u (option_and_then g o)
  narrowed_then w u f g h None = refl
  narrowed_then w u f g h (Some e) = h e

  narrowed_when : (w u b : Bool) (x y : Option Walked) → x ≡ narrowed w u y → cond b x None ≡ narrowed w u (cond b y None)
  narrowed_when w u true x y e = e
  narrowed_when w u false x y e = refl

  narrowed_if : (w u b : Bool) (x y x' y' : Option Walked) → x ≡ narrowed w u y → x' ≡ narrowed w u y' → cond b x x' ≡ narrowed w u (cond b y y')
  narrowed_if w u true x y x' y' e e' = e
  narrowed_if w u false x y x' y' e e' = e'

  pub walk_narrowed : (level : ℕ) (w u x y : Bool) (f : ℕ) → walk_on T p level (w && x) (u && y) f ≡ narrowed w u (walk_on T p level x y f)
  unfolding walk_on
  walk_narrowed zero w u x y f = refl
  walk_narrowed (suc zero) w u x y f = narrowed_then w u _ _ (λ e. narrowed_when w u (present e) _ _ (narrowed_at w u x y e _)) (read T f (index 1 p))
  walk_narrowed (suc (suc n)) w u x y f = narrowed_then w u _ _ (λ e. narrowed_when w u (present e) _ _ (narrowed_if w u (huge e) _ _ _ _
      (narrowed_when w u _ _ _ (narrowed_at w u x y e _))
      (ap₂ (λ a b. walk_on T p (suc n) a b (address e)) (and_assoc w x (writable e)) (and_assoc u y (user e)) ∙ walk_narrowed (suc n) w u (x && writable e) (y && user e) (address e)))) (read T f (index (suc (suc n)) p))

  pub walk_5_is : (root : ℕ) → page_walk 5 T root p ≡ walk_5 T root p
  unfolding page_walk walk_on walk_5
  walk_5_is root = then_same _ _ (λ e. top (present e) (huge e) _ _
      (ap₂ (λ w u. walk_on T p 4 w u (address e)) (sym (and-true (writable e))) (sym (and-true (user e))) ∙ walk_narrowed 4 (writable e) (user e) true true (address e) ∙ ap (narrowed (writable e) (user e)) (walk_is (address e)))) (read T root (index 5 p))
