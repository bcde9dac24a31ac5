-- Rust calls as the model's calls, for any number of levels, and the page and the index of the highest level that a call names.
use Rattle.std.specs.Prelude.{ℕ, ◌==◌, ◌+◌, ◌-◌, nat_lt, Bool, false, cond, Option, Some, None, option_map, unwrap_or}
use Rattle.x86_64_model.specs.Call as machine
use Rattle.x86_64_model.specs.Call.{Call}
use Rattle.x86_64_model.specs.Hierarchy.{Hierarchy, path_of}
use Rattle.x86_64_model.specs.Position.{index, lower_half, position_count}
use Rattle.x86_64_model.specs.Window.{begins_with}
use Rattle.x86_64_tables.specs.PageTableFlags.{bits_of}
use Rattle.x86_64.specs.declared.call_values.SizeCallIn.{SizeCallIn}
use Rattle.x86_64.specs.declared.call_values.SizeCallIn.TheVariants.{MapTo, MapToWithTableFlags, IdentityMap, Unmap, UpdateFlags, SetFlagsP5, SetFlagsP4, SetFlagsP3, SetFlagsP2, TranslatePage}
use Rattle.std.specs.declared.convert.Infallible.{Infallible}
use Rattle.x86_64.specs.declared.call_values.CallIn.{CallIn}
use Rattle.x86_64.specs.declared.call_values.CallIn.TheVariants.{Of4KiB, Of2MiB, Of1GiB, Translate, TranslateAddr, CleanUp, CleanUpRange}

-- The bits of the flags of an entry of level five with four levels, where there are no such flags.
abbrev pub no_bits : Infallible → ℕ
no_bits = elim [ ]

-- The model's call for a call on a page of a level. `bits` returns the bits of flags of level five.
abbrev pub page_call : {S L P5 : Type 0} → (level : ℕ) → (bits : P5 → ℕ) → SizeCallIn S L P5 → Call
page_call level bits (MapTo page frame flags) = machine.MapTo level page frame (bits_of flags)
page_call level bits (MapToWithTableFlags page frame flags parent_flags) = machine.MapToWithTableFlags level page frame (bits_of flags) (bits_of parent_flags)
page_call level bits (IdentityMap frame flags) = machine.IdentityMap level frame (bits_of flags)
page_call level bits (Unmap page) = machine.Unmap level page
page_call level bits (UpdateFlags page flags) = machine.UpdateFlags level page (bits_of flags)
page_call level bits (SetFlagsP5 page flags) = machine.SetFlags 5 level page (bits flags)
page_call level bits (SetFlagsP4 page flags) = machine.SetFlags 4 level page (bits_of flags)
page_call level bits (SetFlagsP3 page flags) = machine.SetFlags 3 level page (bits_of flags)
page_call level bits (SetFlagsP2 page flags) = machine.SetFlags 2 level page (bits_of flags)
page_call level bits (TranslatePage page) = machine.TranslatePage level page

-- The model's call for a call of a mapper. `bits` returns the bits of flags of level five. A clean up of a range goes up to the
-- last byte of its last page, and one of everything from the first position to the last.
abbrev pub to_call : {L P5 : Type 0} → (levels : ℕ) → (bits : P5 → ℕ) → CallIn L P5 → Call
to_call levels bits (Of4KiB call) = page_call 1 bits call
to_call levels bits (Of2MiB call) = page_call 2 bits call
to_call levels bits (Of1GiB call) = page_call 3 bits call
to_call levels bits (Translate addr) = machine.Translate addr
to_call levels bits (TranslateAddr addr) = machine.TranslateAddress addr
to_call levels bits CleanUp = machine.CleanUp 0 (position_count levels - 1)
to_call levels bits (CleanUpRange range) = machine.CleanUp range.start (range.end + 0xfff)

-- The position of the page at a frame's own address, if there is such a page. In the lower half an address is its own position,
-- and no other frame's address is canonical.
abbrev pub identity_page : (L frame : ℕ) → Option ℕ
identity_page L frame = cond (nat_lt frame (lower_half L)) (Some frame) None

-- The position where the page of a call starts, if the call has a page. Translations of an address and clean ups have none, nor
-- has an identity map if there is no page at the frame's address.
abbrev pub page_of_call : (L : ℕ) → Call → Option ℕ
page_of_call L (machine.MapTo level page frame flags) = Some page
page_of_call L (machine.MapToWithTableFlags level page frame flags parent_flags) = Some page
page_of_call L (machine.IdentityMap level frame flags) = identity_page L frame
page_of_call L (machine.Unmap level page) = Some page
page_of_call L (machine.UpdateFlags level page flags) = Some page
page_of_call L (machine.SetFlags at level page flags) = Some page
page_of_call L (machine.TranslatePage level page) = Some page
page_of_call L other = None

-- Whether the page or address of a call has the index i of the highest level. A clean up names no index, nor does an identity map
-- if there is no page at the frame's address.
abbrev pub names_by : (L : ℕ) → Call → (i : ℕ) → Bool
names_by L (machine.Translate position) i = index L position == i
names_by L (machine.TranslateAddress position) i = index L position == i
names_by L call i = unwrap_or (option_map (λ page. index L page == i) (page_of_call L call)) false

-- Whether the page or address of a call of a mapper has the index i of the highest level. A clean up names no index.
abbrev pub names : {L P5 : Type 0} → (levels : ℕ) → (bits : P5 → ℕ) → CallIn L P5 → (i : ℕ) → Bool
names levels bits call i = names_by levels (to_call levels bits call) i

-- Whether the page of a level at a position lies in the hierarchy's recursive window: its index of the highest level is the
-- recursive index.
abbrev pub in_window : {Lent : Type 0} → Hierarchy Lent → (level page : ℕ) → Bool
in_window h level page = begins_with h.layout.window (path_of h level page)
