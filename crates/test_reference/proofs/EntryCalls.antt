-- The refusal of a call on one entry: the first of two refusals.
use Rattle.std.proofs.Common.{◌≡◌, ℕ, ◌<◌, ◌≤◌, not, cond, List, Option, Some, None, bit_or, refl, sym, ap, ◌∙◌, IfOk, Result, subst}
use Rattle.std.specs.declared.alloc.AllocError.{AllocError}
use Rattle.std.proofs.lemmas.Bool.{le-leb, lt-leb}
use Rattle.std.specs.Option.{option_or}
use Rattle.x86_64_model.specs.Entry.{address, used}
use Rattle.x86_64_model.specs.Path.{level_of, front_at}
use Rattle.x86_64_model.specs.PathMap.{PathMap, put}
use Rattle.x86_64_model.specs.MapRule.{leaf_entry}
use Rattle.x86_64_model.specs.Refusal as refusal
use Rattle.x86_64_model.specs.Refusal.{first_stop, refused_if, answer_unless, Done, Refused, PageNotMapped, ParentEntryHugePage}
use Rattle.x86_64_model.specs.PageRules.{AfterChange, refused_or, unmap_refusal, update_refusal, translate_refusal, unmap, update_flags, translate_page, set_flags}
use Rattle.test_reference.specs.Calls.{refusals_of, answer_of}
use Rattle.test_reference.specs.declared.plain_calls.Refusal.{Refusal}
use Rattle.test_reference.specs.declared.plain_calls.Answer.{Answer}

-- the expected change of a call may be replaced by an equal one
pub changed_along : (r : Result Answer AllocError) (after : PathMap) (x y : AfterChange) → x ≡ y → IfOk r (λ answer. ◌≡◌ {A = AfterChange} (record { paths = after; answer = answer_of answer }) x) → IfOk r (λ answer. ◌≡◌ {A = AfterChange} (record { paths = after; answer = answer_of answer }) y)
changed_along r after x y e h = subst (λ x. IfOk r (λ answer. ◌≡◌ {A = AfterChange} (record { paths = after; answer = answer_of answer }) x)) e h

first_of_two : (a b : Option Refusal) → refusals_of (option_or a b) ≡ option_or (refusals_of a) (refusals_of b)
first_of_two None b = refl
first_of_two (Some why) b = refl

in_turn : (paths : PathMap) (a b : Option refusal.Refusal) (next : AfterChange) → refused_or paths (option_or a b) next ≡ refused_or paths a (refused_or paths b next)
in_turn paths None b next = refl
in_turn paths (Some why) b next = refl

answers_in_turn : (a b : Option refusal.Refusal) (next : refusal.Answer) → answer_unless (option_or a b) next ≡ answer_unless a (answer_unless b next)
answers_in_turn None b next = refl
answers_in_turn (Some why) b next = refl

both : (r a b : Option Refusal) (first second : Option refusal.Refusal) → r ≡ option_or a b → refusals_of a ≡ first → refusals_of b ≡ second → refusals_of r ≡ option_or first second
both r a b first second is x y = ap refusals_of is ∙ first_of_two a b ∙ ap (λ o. option_or o (refusals_of b)) x ∙ ap (option_or first) y

joined : (paths : PathMap) (r a b : Option Refusal) (first second : Option refusal.Refusal) (next : AfterChange) → r ≡ option_or a b → refusals_of a ≡ first → refusals_of b ≡ second → refused_or paths (refusals_of r) next ≡ refused_or paths first (refused_or paths second next)
joined paths r a b first second next is x y = ap (λ o. refused_or paths o next) (both r a b first second is x y) ∙ in_turn paths first second next

module _ (L : ℕ) (E : List ℕ → ℕ) (paths : PathMap) (r a b : Option Refusal) (is : r ≡ option_or a b) where
  pub unmap_is : (q : List ℕ) (e frame : ℕ) → e ≡ E q → frame ≡ address e → refusals_of a ≡ first_stop E q → refusals_of b ≡ unmap_refusal L q e → refused_or paths (refusals_of r) (record { paths = put paths q 0; answer = Done frame }) ≡ unmap L E paths q
  unfolding unmap
  unmap_is q e frame at f x y = joined paths r a b _ _ _ is x y ∙ ap (λ f. refused_or paths (first_stop E q) (refused_or paths (unmap_refusal L q e) (record { paths = put paths q 0; answer = Done f }))) f
      ∙ ap (λ e. refused_or paths (first_stop E q) (refused_or paths (unmap_refusal L q e) (record { paths = put paths q 0; answer = Done (address e) }))) at

  pub update_flags_is : (q : List ℕ) (given e frame word : ℕ) → e ≡ E q → frame ≡ address e → word ≡ leaf_entry L q frame given → refusals_of a ≡ first_stop E q → refusals_of b ≡ update_refusal L q e
      → refused_or paths (refusals_of r) (record { paths = put paths q word; answer = Done frame }) ≡ update_flags L E paths q given
  unfolding update_flags
  update_flags_is q given e frame word at f w x y = joined paths r a b _ _ _ is x y ∙ ap (λ w. refused_or paths (first_stop E q) (refused_or paths (update_refusal L q e) (record { paths = put paths q w; answer = Done frame }))) w
      ∙ ap (λ f. refused_or paths (first_stop E q) (refused_or paths (update_refusal L q e) (record { paths = put paths q (leaf_entry L q f given); answer = Done f }))) f
      ∙ ap (λ e. refused_or paths (first_stop E q) (refused_or paths (update_refusal L q e) (record { paths = put paths q (leaf_entry L q (address e) given); answer = Done (address e) }))) at

  pub translate_page_is : (q : List ℕ) (e frame : ℕ) → e ≡ E q → frame ≡ address e → refusals_of a ≡ first_stop E q → refusals_of b ≡ translate_refusal L q e → answer_unless (refusals_of r) (Done frame) ≡ translate_page L E q
  unfolding translate_page
  translate_page_is q e frame at f x y = ap (λ o. answer_unless o (Done frame)) (both r a b _ _ is x y) ∙ answers_in_turn (first_stop E q) (translate_refusal L q e) (Done frame) ∙ ap (λ f. answer_unless (first_stop E q) (answer_unless (translate_refusal L q e) (Done f))) f
      ∙ ap (λ e. answer_unless (first_stop E q) (answer_unless (translate_refusal L q e) (Done (address e)))) at

  pub set_flags_is : (level : ℕ) (page q : List ℕ) (given e frame word : ℕ) → level_of L page < level → q ≡ front_at L level page → e ≡ E q → frame ≡ address e → word ≡ bit_or frame given → refusals_of a ≡ first_stop E q → refusals_of b ≡ refused_if (not (used e)) PageNotMapped None
      → refused_or paths (refusals_of r) (record { paths = put paths q word; answer = Done frame }) ≡ set_flags L E paths level page given
  unfolding set_flags
  set_flags_is level page q given e frame word high way at f w x y = joined paths r a b _ _ _ is x y ∙ ap (λ w. refused_or paths (first_stop E q) (refused_or paths (refused_if (not (used e)) PageNotMapped None) (record { paths = put paths q w; answer = Done frame }))) w
      ∙ ap (λ f. refused_or paths (first_stop E q) (refused_or paths (refused_if (not (used e)) PageNotMapped None) (record { paths = put paths q (bit_or f given); answer = Done f }))) f
      ∙ ap (λ e. refused_or paths (first_stop E q) (refused_or paths (refused_if (not (used e)) PageNotMapped None) (record { paths = put paths q (bit_or (address e) given); answer = Done (address e) }))) at
      ∙ ap (λ q. refused_or paths (first_stop E q) (refused_or paths (refused_if (not (used (E q))) PageNotMapped None) (record { paths = put paths q (bit_or (address (E q)) given); answer = Done (address (E q)) }))) way
      ∙ sym (ap (λ b. cond b (record { paths = paths; answer = Refused ParentEntryHugePage }) (let q = front_at L level page in refused_or paths (first_stop E q) (refused_or paths (refused_if (not (used (E q))) PageNotMapped None) (record { paths = put paths q (bit_or (address (E q)) given); answer = Done (address (E q)) })))) (lt-leb level (level_of L page) high))

pub set_flags_low : (L : ℕ) (E : List ℕ → ℕ) (paths : PathMap) (level : ℕ) (page : List ℕ) (given : ℕ) → level ≤ level_of L page → ◌≡◌ {A = AfterChange} (record { paths = paths; answer = Refused ParentEntryHugePage }) (set_flags L E paths level page given)
unfolding set_flags
set_flags_low L E paths level page given low = sym (ap (λ b. cond b (record { paths = paths; answer = Refused ParentEntryHugePage }) (let q = front_at L level page in refused_or paths (first_stop E q) (refused_or paths (refused_if (not (used (E q))) PageNotMapped None) (record { paths = put paths q (bit_or (address (E q)) given); answer = Done (address (E q)) })))) (le-leb level (level_of L page) low))
