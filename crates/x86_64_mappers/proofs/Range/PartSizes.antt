-- The number of pages of a run that lie in one table.
use Rattle.std.proofs.Common.{◌≡◌, ◌<◌, ◌≤◌, ◌+◌, ◌-◌, ◌*◌, ℕ, List, length, get_or, min, sym, subst₂, arith}
use Rattle.std.proofs.Math.Nat.{add-mul}
use Rattle.std.proofs.lemmas.List.{get_or_read}
use Rattle.x86_64_model.specs.Position.{span, position_count}

-- a place that many further on
pub later : (a done k size : ℕ) → a + (done + k) * size ≡ a + done * size + k * size
later a done k size = let e = add-mul done k size in omega (arith, e)

-- a part ends with the run or before
pub few_left : (done k count room part : ℕ) → done < count → part ≡ min room (count - done) → k < part → done + k < count
few_left done k count room part less is within = omega (arith, less, is, within)

pub part_inside : (done count room part : ℕ) → done < count → part ≡ min room (count - done) → done + part ≤ count
part_inside done count room part less is = omega (arith, less, is)

pub part_some : (done count i part : ℕ) → done < count → i < 512 → part ≡ min (512 - i) (count - done) → 0 < part
part_some done count i part less small is = omega (arith, less, small, is)

-- and with its table
pub part_fits : (q : List ℕ) (L level i x rest part : ℕ) → length q ≡ L + 1 - level → level ≤ 3 → 3 < L → i ≡ get_or q (length q - 1) i → x ≡ i → part ≡ min (512 - x) rest → x < 512 → get_or q (length q - 1) 0 + part ≤ 512
part_fits q L level i x rest part long high levels item same is small =
    let read = get_or_read q (length q - 1) i (omega (arith, long, high, levels)) item 0 in omega (arith, read, same, is, small)

-- a page of a range exists
pub page_there : (n L level size page k : ℕ) → size ≡ span level → n ≡ L → page + k * span level < position_count n → page + k * size < position_count L
page_there n L level size page k spans levels there = subst₂ (λ z L. page + k * z < position_count L) (sym spans) levels there
