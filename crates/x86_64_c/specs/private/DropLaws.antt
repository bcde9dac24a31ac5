-- A drop does the same to a pool that also serves the names of its loans, and to one that serves its own frames alone.
use Rattle.std.specs.Prelude.{◌≡◌, ◌+◌, ℕ, Bool, List, Option}
use Rattle.std.specs.Borrow.{GName}
use Rattle.x86_64_c.specs.Drops.{DropsPages}
use Rattle.x86_64_c.specs.Status.{ok}
use Rattle.x86_64_c.specs.private.PoolLaws.{own_runs}
use Rattle.x86_64_c.specs.private.Pools.{stack}
use Rattle.x86_64_model.specs.Call.{CleanUp}
use Rattle.x86_64_model.specs.Hierarchy.{◌laid_in◌, Hierarchy}
use Rattle.x86_64_tables.specs.LentPool.{is_in, served_by}

pub own_drops : (own : List ℕ) (array count : GName) {serves : ℕ → Bool} (same : serves ≡ served_by own array count) (h after : Hierarchy (Unit {0})) (pool rest : List ℕ) (first last status : ℕ) (next : Option ℕ)
    → DropsPages h (stack serves pool) first last after (stack serves rest) status next → DropsPages h (stack (is_in own) pool) first last after (stack (is_in own) rest) status next
own_drops own array count same h after pool rest first last status next drops = record {
  end = drops.end;
  whole = drops.whole;
  end_is = drops.end_is;
  status_is = drops.status_is;
  next_is = drops.next_is;
  between = drops.between;
  taken = drops.taken;
  cleaned = own_runs own array count same (h.layout laid_in drops.between) after pool rest (CleanUp first (last + 0xfff)) ok drops.cleaned;
  gone = drops.gone;
}
