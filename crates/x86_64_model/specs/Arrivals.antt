-- Comparisons of page walks: if one arrives, another arrives too, and no worse.
use Rattle.std.specs.Prelude.{◌≡◌, ◌⊎◌, ◌+◌, ◌%◌, ◌≤◌, ℕ, Bool, true, List, [], ◌∷◌, length, Option, Some, None, option_and_then, cond, ◌&&◌, not}
use Rattle.x86_64_model.specs.Position.{span}
use Rattle.x86_64_model.specs.Entry.{present, huge, writable, user, address}
use Rattle.x86_64_model.specs.Memory.{Words}
use Rattle.x86_64_model.specs.PageWalk.{Walked, read}

-- Page walk v arrives at the address of page walk w, and has each right that w has.
pub record NoWorse (w v : Walked) : Type 0 where
  pub same_place : v.address ≡ w.address
  pub write_kept : w.write ≡ true → v.write ≡ true
  pub user_kept : w.user ≡ true → v.user ≡ true

-- If page walk x arrives, y arrives at the same address, and has each right that x has.
abbrev pub KeepsArrival : Option Walked → Option Walked → Type 0
KeepsArrival x y = (w : Walked) → x ≡ Some w → (v : Walked) × (y ≡ Some v) × NoWorse w v

-- Page walk v arrives at the address of page walk w, has each right that w has, and has more only if the parent flags grant them.
pub record Better (parent_flags : ℕ) (w v : Walked) : Type 0 where
  pub no_worse : NoWorse w v
  pub write_gained : v.write ≡ true → (w.write ≡ true) ⊎ (writable parent_flags ≡ true)
  pub user_gained : v.user ≡ true → (w.user ≡ true) ⊎ (user parent_flags ≡ true)

-- If page walk x arrives, y arrives at the same address, has each right that x has, and has more only if the parent flags grant
-- them.
abbrev pub Arrives : (parent_flags : ℕ) → Option Walked → Option Walked → Type 0
Arrives parent_flags x y = (w : Walked) → x ≡ Some w → (v : Walked) × (y ≡ Some v) × Better parent_flags w v

-- The page walk arrives at this physical address, with whatever rights.
abbrev pub Reaches : Option Walked → (to : ℕ) → Type 0
Reaches walk to = (w : Bool) × (u : Bool) × (walk ≡ Some (record { address = to; write = w; user = u }))

-- The frame reached from a frame by following the words at these indices, if each word is in memory, present and without HUGE_PAGE.
abbrev pub leads : Words → (frame : ℕ) → List ℕ → Option ℕ
leads T f [] = Some f
leads T f (i ∷ q) = option_and_then (λ e. cond (present e && not (huge e)) (leads T (address e) q) None) (read T f i)

-- What a `map_to` asks for at the path of a page of level one, two or three: flags with PRESENT and no address bits, and a frame of
-- the page's size.
pub record Asks (L level : ℕ) (q : List ℕ) (frame flags : ℕ) : Type 0 where
  pub is_present : present flags ≡ true
  pub no_address : address flags ≡ 0
  pub at_level : length q + level ≡ L + 1
  pub nonempty : 1 ≤ length q
  pub low : 1 ≤ level
  pub high : level ≤ 3
  pub is_frame : address frame ≡ frame
  pub aligned : frame % span level ≡ 0
