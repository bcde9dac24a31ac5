-- How lines write calls on a page of a size: a name, the size, and numbers.
use Rattle.std.specs.Prelude.{◌==◌, ℕ, cond, List, [], ◌∷◌, Option, None, option_and_then, option_map}
use Rattle.x86_64_model.specs.Call.{Call, MapTo, MapToWithTableFlags, IdentityMap, Unmap, UpdateFlags, SetFlags, TranslatePage}
use Rattle.x86_64_model.specs.Position.{span}
use Rattle.pagetab_engine.specs.Starts.{frame_in, page_in}
use Rattle.pagetab_engine.specs.declared.fields.Name.{Name}
use Rattle.pagetab_engine.specs.declared.fields.Name.TheVariants as name
use Rattle.pagetab_engine.specs.declared.fields.Size.{Size}
use Rattle.pagetab_engine.specs.declared.fields.Size.TheVariants.{Size4KiB, Size2MiB, Size1GiB}

-- The level of the entry that maps a page of this size.
abbrev pub level_of : Size → ℕ
level_of Size4KiB = 1
level_of Size2MiB = 2
level_of Size1GiB = 3

-- The call on a page of this level that a name and the numbers after the size write, with these levels of tables, if they write
-- one: start addresses suit the size, and any flags are accepted.
abbrev pub call_in : (levels level : ℕ) → Name → (numbers : List ℕ) → Option Call
call_in levels level name.Map (page ∷ frame ∷ flags ∷ []) =
    option_and_then (λ page. option_map (λ frame. MapTo level page frame flags) (frame_in (span level) frame)) (page_in levels (span level) page)
call_in levels level name.MapWith (page ∷ frame ∷ flags ∷ parent_flags ∷ []) =
    option_and_then (λ page. option_map (λ frame. MapToWithTableFlags level page frame flags parent_flags) (frame_in (span level) frame)) (page_in levels (span level) page)
call_in levels level name.Identity (frame ∷ flags ∷ []) = option_map (λ frame. IdentityMap level frame flags) (frame_in (span level) frame)
call_in levels level name.Unmap (page ∷ []) = option_map (Unmap level) (page_in levels (span level) page)
call_in levels level name.Update (page ∷ flags ∷ []) = option_map (λ page. UpdateFlags level page flags) (page_in levels (span level) page)
call_in levels level name.P5 (page ∷ flags ∷ []) = cond (levels == 5) (option_map (λ page. SetFlags 5 level page flags) (page_in levels (span level) page)) None
call_in levels level name.P4 (page ∷ flags ∷ []) = option_map (λ page. SetFlags 4 level page flags) (page_in levels (span level) page)
call_in levels level name.P3 (page ∷ flags ∷ []) = option_map (λ page. SetFlags 3 level page flags) (page_in levels (span level) page)
call_in levels level name.P2 (page ∷ flags ∷ []) = option_map (λ page. SetFlags 2 level page flags) (page_in levels (span level) page)
call_in levels level name.TranslatePage (page ∷ []) = option_map (TranslatePage level) (page_in levels (span level) page)
call_in levels level name numbers = None
