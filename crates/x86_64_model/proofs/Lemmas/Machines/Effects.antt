-- What one step writes: nothing, one entry, a map, or a clean up.
use Rattle.std.proofs.Common.{◌≡◌, ⊎_elim, ◌≤◌, ◌*◌, ◌^◌, ℕ, zero, suc, true, false, cond, List, [], ◌∷◌, length, take, Option, bit_and, refl, sym, ap, ◌∙◌, subst, arith, eqb-true, ◌+◌, ◌-◌}
use Rattle.std.proofs.lemmas.Nat.Bits.{bit_at-lt, and_pow}
use Rattle.std.proofs.lemmas.Bool.{and_parts, not-true}
use Rattle.std.specs.Int.{bit_at}
use Rattle.x86_64_model.specs.Entry.{IsParentFlags, huge, address}
use Rattle.x86_64_model.specs.PathMap.{PathMap, put}
use Rattle.x86_64_model.specs.Window.{Window, begins_with}
use Rattle.x86_64_model.specs.Position.{page_path}
use Rattle.x86_64_model.specs.MapRule.{map_call, parent_part}
use Rattle.x86_64_model.specs.CleanUp.{clean_up}
use Rattle.x86_64_model.specs.Path.{AllBelow, front_at, IsPage, path_at, begins}
use Rattle.x86_64_model.specs.Call.{IsCall, IsPageLevel, Call, MapTo, MapToWithTableFlags, IdentityMap, Unmap, UpdateFlags, SetFlags, TranslatePage, Translate, TranslateAddress, CleanUp, NotAllowed}
use Rattle.x86_64_model.specs.Machine.{Machine, State, AfterCall, only_reply, after_map, after_change, do_call, step}
use Rattle.x86_64_model.specs.Allowed.{parents_present, map_allowed, allowed}
use Rattle.x86_64_model.specs.Pool.{with_returned}
use Rattle.x86_64_model.specs.Flush.{Item, OnePage, Everything, covers, if_done, items_of}
use Rattle.x86_64_model.proofs.Lemmas.Maps.Flags.{has_bit, zero_or_one}
use Rattle.x86_64_model.proofs.Lemmas.Walks.Walked.{index_small}
use Rattle.x86_64_model.proofs.Lemmas.Hierarchies.Trees.{IsHierarchy}
use Rattle.x86_64_model.proofs.Lemmas.Paths.Pages.{length_taken}
use Rattle.x86_64_model.proofs.Lemmas.Machines.Changes.{IsChange, unmap_change, update_change, set_flags_change}

-- ---- the cases of a step

pub no_bit : (m : ℕ) → huge m ≡ false → bit_and m 0x80 ≡ 0
no_bit m h = ⊎_elim (λ z. and_pow m 7 ∙ ap (λ x. x * 2 ^ 7) z) (λ o. absurd (let t : true ≡ false = sym (has_bit m 7 o) ∙ h in cc)) (zero_or_one (bit_at m 7) (bit_at-lt m 7))

pub record MapMay (window : Option Window) (M : PathMap) (q : List ℕ) (given more : ℕ) : Type 0 where
  pub no_address_given : address given ≡ 0
  pub marks : IsParentFlags more
  pub parents : parents_present M more q ≡ true
  pub outside : begins_with window q ≡ false

pub map_may : (L : ℕ) (window : Option Window) (M : PathMap) (q : List ℕ) (given more : ℕ) → map_allowed L window M q given more ≡ true → MapMay window M q given more
map_may L window M q given more h =
    let p5 = and_parts _ _ h in let p4 = and_parts _ _ p5.0 in let p3 = and_parts _ _ p4.0 in let p2 = and_parts _ _ p3.0 in let p1 = and_parts _ _ p2.0 in record {
      no_address_given = eqb-true (address given) 0 p1.0;
      marks = record { no_address = eqb-true (address more) 0 p1.1; not_huge = no_bit more (not-true _ p2.1) };
      parents = p4.1;
      outside = not-true _ p5.1;
    }

pub below_taken : (p k n : ℕ) → AllBelow (take k (page_path n p))
unfolding page_path
below_taken p zero n = tt
below_taken p (suc k) zero = tt
below_taken p (suc k) (suc n) = (index_small (suc n) p, below_taken p k n)

pub page_at_level : (L level position : ℕ) → 1 ≤ level → level ≤ 3 → level ≤ L → IsPage L (path_at L level position)
page_at_level L level p a b c =
    let long : length (path_at L level p) ≡ L + 1 - level = length_taken p (L + 1 - level) L (omega arith) in
    record { nonempty = omega arith; at_least = omega arith; at_most = omega arith; below = below_taken p (L + 1 - level) L }

pub page_of_level : (L level position : ℕ) → IsPageLevel L level → IsPage L (path_at L level position)
page_of_level L level p is = page_at_level L level p is.0 is.1 is.2

-- what holds of an allowed call, and of the reply that a call isn't allowed, holds of a step
pub step_cases : (m : Machine) (s : State) (call : Call) (P : AfterCall → Type 0) → (allowed m.levels m.window s.paths call ≡ true → P (do_call m s call)) → P (only_reply s NotAllowed) → P (step m s call)
step_cases m s call P done otherwise = elim (allowed m.levels m.window s.paths call) as (λ b. allowed m.levels m.window s.paths call ≡ b → P (cond b (do_call m s call) (only_reply s NotAllowed))) [
  | true ↦ done
  | false ↦ λ h. otherwise
] refl

-- a machine by its parts
abbrev pub machine : (L : ℕ) → Option Window → (added : ℕ) → (List ℕ → ℕ → List ℕ) → Machine
machine L window added take_back = record { levels = L; window = window; added_flags = added; take_back = take_back }

pub no_items : (L : ℕ) (call : Call) → items_of L call NotAllowed ≡ []
no_items L (MapTo level page frame given) = refl
no_items L (MapToWithTableFlags level page frame given more) = refl
no_items L (IdentityMap n frame given) = refl
no_items L (Unmap level page) = refl
no_items L (UpdateFlags level page given) = refl
no_items L (SetFlags at level page given) = refl
no_items L (TranslatePage level page) = refl
no_items L (Translate p) = refl
no_items L (TranslateAddress p) = refl
no_items L (CleanUp low high) = refl

-- what holds of the state after a step, and of what is recorded of it
module _ (L : ℕ) (window : Option Window) (added : ℕ) (take_back : List ℕ → ℕ → List ℕ) (root : ℕ) (s : State) (hierarchy : IsHierarchy L root s.paths) (P : State → List Item → Type 0)
    (nothing : P s [])
    (maps : (q : List ℕ) (frame given more : ℕ) (items : List Item) → IsPage L q → MapMay window s.paths q given more → P (after_map (map_call L s.paths s.pool more added q frame given)).state items)
    (changes : (q : List ℕ) (w : ℕ) (item : Item) → IsChange L window s.paths q w → ((p : ℕ) → covers L item p ≡ false → begins q (page_path L p) ≡ false) → P (record { paths = put s.paths q w; pool = s.pool }) (item ∷ []))
    (cleans : (low high : ℕ) → P (record { paths = (clean_up L s.paths low high).paths; pool = with_returned take_back s.pool (clean_up L s.paths low high).back }) []) where
  pub done_ind : (call : Call) → IsCall L call → allowed L window s.paths call ≡ true → P (do_call (machine L window added take_back) s call).state (items_of L call (do_call (machine L window added take_back) s call).reply)
  unfolding do_call
  done_ind (MapTo level page frame given) is h = let q = path_at L level page in maps q frame given (parent_part given) _ (page_of_level L level page is) (map_may L window s.paths q given _ h)
  done_ind (MapToWithTableFlags level page frame given more) is h = let q = path_at L level page in maps q frame given more _ (page_of_level L level page is) (map_may L window s.paths q given _ h)
  done_ind (IdentityMap level frame given) is h = maps (path_at L level frame) frame given (parent_part given) _ (page_of_level L level frame is) (map_may L window s.paths (path_at L level frame) given _ (and_parts _ _ h).1)
  done_ind (Unmap level page) is h = let q = path_at L level page in unmap_change L window s.paths q (page_of_level L level page is) (not-true _ h) (λ c. P (after_change s.pool c).state (if_done (after_change s.pool c).reply (OnePage q)))
      (λ why. nothing) (λ c. changes q 0 (OnePage q) c (λ p o. o))
  done_ind (UpdateFlags level page given) is h = let q = path_at L level page in update_change L window s.paths q (page_of_level L level page is) (not-true _ (and_parts _ _ h).1) given (λ c. P (after_change s.pool c).state (if_done (after_change s.pool c).reply (OnePage q)))
      (λ why. nothing) (λ c. changes q _ (OnePage q) c (λ p o. o))
  done_ind (SetFlags at level page given) is h = let q = path_at L level page in let a = and_parts _ _ h in let b = and_parts _ _ a.0 in
      set_flags_change L window root s.paths hierarchy at q given is.0 is.1 (page_of_level L level page is.2) (not-true _ b.1) b.0 a.1 (λ c. P (after_change s.pool c).state (if_done (after_change s.pool c).reply Everything))
      (λ why. nothing) (λ c. changes (front_at L at q) _ Everything c (λ p o. cc))
  done_ind (TranslatePage level page) is h = nothing
  done_ind (Translate p) is h = nothing
  done_ind (TranslateAddress p) is h = nothing
  done_ind (CleanUp low high) is h = cleans low high

  pub step_ind : (call : Call) → IsCall L call → P (step (machine L window added take_back) s call).state (items_of L call (step (machine L window added take_back) s call).reply)
  step_ind call is = step_cases (machine L window added take_back) s call (λ after. P after.state (items_of L call after.reply)) (done_ind call is) (subst (P s) (sym (no_items L call)) nothing)
