-- A call that names no recursive index is one of the machine that names none.
use Rattle.std.proofs.Common.{◌≡◌, ◌<◌, ◌&&◌, ◌==◌, ℕ, Bool, true, false, cond, nat_lt, List, [], ◌∷◌, map, Option, Some, None, option_map, unwrap_or, refl, ap, ◌∙◌}
use Rattle.x86_64_model.specs.Alike.{names_index}
use Rattle.x86_64_model.specs.Call.{Call, IsCall, MapTo, MapToWithTableFlags, IdentityMap, Unmap, UpdateFlags, SetFlags, TranslatePage, Translate, TranslateAddress, CleanUp}
use Rattle.x86_64_model.specs.Laws.Pairs as machine
use Rattle.x86_64_model.specs.Position.{index, lower_half}
use Rattle.x86_64_model.specs.Window.{Window}
use Rattle.x86_64.specs.Calls.{names_by}
use Rattle.x86_64.specs.Pairs.{NoCallNames}
use Rattle.x86_64_mappers.proofs.Way.FirstIndex.{first_index, first_of_all}

module _ (L : ℕ) (some : 3 < L) where
  -- ---- with a recursive index

  in_lower_half : (b : Bool) (frame i : ℕ) → (b && (index L frame == i)) ≡ unwrap_or (option_map (λ page. index L page == i) (cond b (Some frame) None)) false
  in_lower_half true frame i = refl
  in_lower_half false frame i = refl

  named : (w : Window) (call : Call) → IsCall L call → names_index L (Some w) call ≡ names_by L call w.index
  named w (MapTo level page frame flags) is = first_index (Some w) L level page some is.1
  named w (MapToWithTableFlags level page frame flags more) is = first_index (Some w) L level page some is.1
  named w (IdentityMap level frame flags) is = ap (λ named. nat_lt frame (lower_half L) && named) (first_index (Some w) L level frame some is.1) ∙ in_lower_half (nat_lt frame (lower_half L)) frame w.index
  named w (Unmap level page) is = first_index (Some w) L level page some is.1
  named w (UpdateFlags level page flags) is = first_index (Some w) L level page some is.1
  named w (SetFlags at level page flags) is = first_index (Some w) L level page some is.2.1
  named w (TranslatePage level page) is = first_index (Some w) L level page some is.1
  named w (Translate position) is = first_of_all (Some w) L position some
  named w (TranslateAddress position) is = first_of_all (Some w) L position some
  named w (CleanUp low high) is = refl

  -- ---- without one

  and_false : (b : Bool) → (b && false) ≡ false
  and_false true = refl
  and_false false = refl

  unnamed : (call : Call) → names_index L None call ≡ false
  unnamed (IdentityMap level frame flags) = and_false (nat_lt frame (lower_half L))
  unnamed call = refl

-- ---- of a list

module _ {C : Type 0} (asks : C → Call) (L : ℕ) (some : 3 < L) (is_call : (call : C) → IsCall L (asks call)) where
  pub none_named : (window : Option Window) (calls : List C) → NoCallNames asks L window calls → machine.NoneNames L window (map asks calls)
  none_named None [] none = tt
  none_named None (call ∷ calls) none = (unnamed L some (asks call), none_named None calls tt)
  none_named (Some w) [] none = tt
  none_named (Some w) (call ∷ calls) none = (named L some w (asks call) (is_call call) ∙ none.0, none_named (Some w) calls none.1)
