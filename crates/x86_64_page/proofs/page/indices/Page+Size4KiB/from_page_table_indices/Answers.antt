use Rattle.std.specs.Prelude.{◌≡◌, ℕ, ◌+◌, ◌*◌, ◌<◌}
use Rattle.std.proofs.Common.{◌∙◌, ap, arith}
use Rattle.std.proofs.lemmas.Grind.{common_steps}
use Rattle.x86_64_addr.specs.Position.{span, index}
use Rattle.x86_64_page.proofs.Indices.{start_has_indices}
use Rattle.x86_64_page.proofs.page.indices.Page+Size4KiB.from_page_table_indices.Goals as goal

-- a number that an index became is below 512, and so is the index
below : {n i : ℕ} → (n ≡ i) × (n < 512) → i < 512
below h = rw h.0 at h.1

pub returns : goal.returns
returns c =
    let start : c.from_start_address_unchecked.result ≡ c.args.p4_index * span 4 + c.args.p3_index * span 3 + c.args.p2_index * span 2 + c.args.p1_index * span 1 = grind (arith, common_steps) in
    let has = start_has_indices c.args.p4_index c.args.p3_index c.args.p2_index c.args.p1_index
    (below c.from-p4_start.ensures) (below c.from-p3_start.ensures) (below c.from-p2_start.ensures) (below c.from-p1_start.ensures) in
    record {
      start = start;
      level_four = ap (index 4) start ∙ has.level_four;
      level_three = ap (index 3) start ∙ has.level_three;
      level_two = ap (index 2) start ∙ has.level_two;
      level_one = ap (index 1) start ∙ has.level_one;
    }
