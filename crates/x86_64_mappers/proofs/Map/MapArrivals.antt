-- Where a page walk arrives after a successful map.
use Rattle.std.proofs.Common.{zero, suc, ◌≡◌, ◌<◌, ◌≤◌, ◌%◌, ◌^◌, ℕ, true, List, Result, Ok, Err, sym, ap, ◌∙◌, subst, arith}
use Rattle.std.specs.Result.{IfOk}
use Rattle.x86_64_model.specs.Entry.{IsParentFlags, present, address}
use Rattle.x86_64_model.specs.MapRule.{parent_part}
use Rattle.x86_64_model.specs.Hierarchy.{Hierarchy, MayMap, DoesMap, ArrivesIn}
use Rattle.x86_64_model.specs.Call.{MapTo, MapToWithTableFlags}
use Rattle.x86_64_model.specs.Refusal.{Done}
use Rattle.x86_64_model.specs.Position.{span}
use Rattle.x86_64_model.proofs.Lemmas.Entries.Bits.{address_is}
use Rattle.x86_64_model.proofs.Lemmas.Machines.Owners.{map_arrives as model_arrives}
use Rattle.x86_64_tables.specs.MapperAnswers.{map_answer}
use Rattle.x86_64_tables.specs.declared.errors.MapToError.{MapToError}

-- a frame's start has address bits alone
pub frame_address : (frame : ℕ) → frame < 2 ^ 52 → frame % 4096 ≡ 0 → address frame ≡ frame
frame_address frame below aligned = let is = address_is frame in omega (arith, is, below, aligned)

-- a multiple of a size is one of 4KiB
pub small_multiple : (level frame : ℕ) → 1 ≤ level → level ≤ 3 → frame % span level ≡ 0 → frame % 4096 ≡ 0
small_multiple zero frame low high multiple = absurd (omega arith)
small_multiple (suc zero) frame low high multiple = multiple
small_multiple (suc (suc zero)) frame low high multiple = let at : frame % 0x20_0000 ≡ 0 = multiple in omega (arith, at)
small_multiple (suc (suc (suc zero))) frame low high multiple = let at : frame % 0x4000_0000 ≡ 0 = multiple in omega (arith, at)
small_multiple (suc (suc (suc (suc n)))) frame low high multiple = absurd (omega arith)

pub map_arrives : {Lent S : Type 0} (h : Hierarchy Lent) (supply : List ℕ) (level size start frame given more : ℕ) → size ≡ span level → 1 ≤ level → level ≤ 3 → 3 < h.layout.levels
    → IsParentFlags h.layout.added_flags → start % size ≡ 0 → frame < 2 ^ 52 → frame % size ≡ 0 → (after : Hierarchy Lent) (rest : List ℕ) → MayMap h supply (MapTo level start frame given)
    → more ≡ parent_part given → (r : Result ℕ (MapToError S)) → DoesMap h supply (MapToWithTableFlags level start frame given more) (map_answer frame r) after rest
    → IfOk r (λ flush. present given ≡ true → ArrivesIn after size start frame given)
map_arrives h supply level size start frame given more spans low high levels adds starts below multiple after rest may parts (Ok flush) does = λ is_present.
    let start_at : start % span level ≡ 0 = ap (λ k. start % k) (sym spans) ∙ starts in
    let frame_at : frame % span level ≡ 0 = ap (λ k. frame % k) (sym spans) ∙ multiple in
    subst (λ k. ArrivesIn after k start frame given) (sym spans)
    (model_arrives h supply level start frame given low high (omega (arith, levels, high)) start_at (frame_address frame below (small_multiple level frame low high frame_at)) frame_at adds after rest may (subst (λ (k : ℕ). DoesMap h supply (MapToWithTableFlags level start frame given k) (Done frame) after rest) parts does) is_present)
map_arrives h supply level size start frame given more spans low high levels adds starts below multiple after rest may parts (Err why) does = tt
