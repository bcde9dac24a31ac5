-- The mapping by an entry, part by part.
use Rattle.std.proofs.Common.{◌≡◌, ◌≢◌, ◌<◌, ◌-◌, ◌*◌, ◌/◌, ◌%◌, ◌==◌, ◌&&◌, ◌||◌, ℕ, Bool, true, false, sym, ap, ◌∙◌, arith, eqb-true, ne_eqb}
use Rattle.std.proofs.Math.Nat.{div-add-mod, div-mul-le_self, mod-eq_of_lt, mul_comm}
use Rattle.x86_64_model.specs.Entry.{huge, address, flags}
use Rattle.x86_64_model.specs.PageWalk.{page_start}
use Rattle.x86_64_model.specs.Position.{span, position_count}
use Rattle.x86_64_model.specs.Mappings.{Rights, maps_page, granted}
use Rattle.x86_64_model.specs.private.Found.{page_at}
use Rattle.x86_64_tables.specs.PageTableFlags.{bits_of}
use Rattle.x86_64_tables.specs.Translations.{frame_start, frame_size}
use Rattle.x86_64_tables.specs.declared.translation.MappedFrame.{MappedFrame}
use Rattle.x86_64_tables.specs.declared.page_table.flags.PageTableFlags.{PageTableFlags}
use Rattle.x86_64_mappings.specs.Views.{mapping_to}

-- pages are of levels one to three
pub third : (level e : ℕ) → maps_page level e ≡ true → level ≢ 1 → level ≢ 2 → level ≡ 3
third level e page one two = by (level == 1) (level == 2) (level == 3) (huge e) page (ne_eqb level 1 one) (ne_eqb level 2 two) (eqb-true level 3)
  where
    by : (a b t h : Bool) → (a || (h && (b || t))) ≡ true → a ≡ false → b ≡ false → (t ≡ true → level ≡ 3) → level ≡ 3
    by true b t h is no_a no_b yes_t = absurd (let e : true ≡ false = no_a in cc)
    by false true t h is no_a no_b yes_t = absurd (let e : true ≡ false = no_b in cc)
    by false false true h is no_a no_b yes_t = yes_t (λ i. true)
    by false false false true is no_a no_b yes_t = absurd (let e : false ≡ true = is in cc)
    by false false false false is no_a no_b yes_t = absurd (let e : false ≡ true = is in cc)

-- the frame that contains the address of an entry starts where the page starts
pub sized : (level n size start e : ℕ) → level ≡ n → size ≡ span n → start ≡ address e - address e % size → (size ≡ span level) × (start ≡ page_start level e)
sized level n size start e is_level is_size is =
    let same : size ≡ span level = is_size ∙ ap span (sym is_level) in
    (same, is ∙ (let all = div-add-mod (address e) size in let turn = mul_comm size (address e / size) in let e : address e - address e % size ≡ address e / size * size = omega (arith, all, turn) in e) ∙ ap (λ s. address e / s * s) same)

module _ (L level position e : ℕ) (r : Rights) (start : ℕ) (frame : MappedFrame) (given : PageTableFlags) (rights : Rights) where
  pub page_made : position < position_count L → start ≡ (position / frame_size frame * frame_size frame) % position_count L
      → frame_size frame ≡ span level → frame_start frame ≡ page_start level e → bits_of given ≡ flags e
      → rights ≡ granted r e → mapping_to start frame given rights ≡ page_at position level r e
  page_made inside at size from bits allowed =
      let down = div-mul-le_self position (frame_size frame) in
      let start_is : start ≡ position / span level * span level = at ∙ mod-eq_of_lt (omega (arith, down, inside)) ∙ ap (λ s. position / s * s) size in
      λ i. record {
        start = start_is i;
        size = size i;
        frame = from i;
        flags = bits i;
        rights = allowed i;
      }
