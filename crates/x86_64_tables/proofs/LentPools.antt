-- A pool in a lent array fits a hierarchy: by the list of its own frames, and by what it serves.
use Rattle.std.proofs.Common.{◌≡◌, ◌∙◌, ℕ, ◌&&◌, nat_lt, Bool, true, false, cond, List, ◌∷◌, length, Option, Some, None, sym, subst, ap}
use Rattle.std.specs.Borrow.{GName}
use Rattle.x86_64_model.specs.Entry.{is_frame, address, names_table}
use Rattle.x86_64_model.specs.Memory.{Words}
use Rattle.x86_64_model.specs.PathMap.{PathMap, entry, table_of, table_at}
use Rattle.x86_64_model.specs.Pool.{Fits}
use Rattle.x86_64_model.specs.Window.{Window}
use Rattle.x86_64_model.proofs.Lemmas.Entries.Bits.{is_frame_address}
use Rattle.x86_64_tables.specs.LentPool.{is_in, served_by}
use Rattle.x86_64_tables.specs.private.PoolLaws.{frame_aligned, served_aligned, served_frame}

-- a table below the root stands in a frame
named : (b : Bool) (e f : ℕ) → cond b (Some (address e)) None ≡ Some f → is_frame f ≡ true
named true e f is = let same : address e ≡ f = cc in subst (λ f. is_frame f ≡ true) same (is_frame_address e)
named false e f is = cc

pub table_is_frame : (L root : ℕ) (paths : PathMap) (i : ℕ) (q : List ℕ) (f : ℕ) → table_at L root paths (i ∷ q) ≡ Some f → is_frame f ≡ true
unfolding table_of
table_is_frame L root paths i q f leads = named (names_table (entry paths (i ∷ q)) && nat_lt (length (i ∷ q)) L) (entry paths (i ∷ q)) f leads

-- a pool that fits by some frames fits by others that serve the same
fits_by : (L : ℕ) (window : Option Window) (T : Words) (root : ℕ) (paths : PathMap) (pool : List ℕ) (serves serves' : ℕ → Bool)
    → ((f : ℕ) → is_frame f ≡ true → serves f ≡ true → serves' f ≡ true)
    → Fits L window T root paths serves pool → Fits L window T root paths serves' pool
fits_by L window T root paths pool serves serves' also fits = record {
  valid = fits.valid;
  each_once = fits.each_once;
  in_memory = fits.in_memory;
  are_frames = fits.are_frames;
  not_zero = fits.not_zero;
  no_table = fits.no_table;
  serves_pool = λ f is. also f (fits.are_frames f is) (fits.serves_pool f is);
  serves_tables = λ i q f leads. also f (table_is_frame L root paths i q f leads) (fits.serves_tables i q f leads);
}

-- a store that serves what such a pool serves fits where its own frames do
pub fits_served : {L : ℕ} {window : Option Window} {T : Words} {root : ℕ} {paths : PathMap} {pool : List ℕ} {serves : ℕ → Bool} (own : List ℕ) (array count : GName)
    → serves ≡ served_by own array count → Fits L window T root paths (is_in own) pool → Fits L window T root paths serves pool
fits_served {L} {window} {T} {root} {paths} {pool} {serves} own array count same = fits_by L window T root paths pool (is_in own) serves
    (λ f is among. ap (λ s. s f) same ∙ served_frame own array count f is among)

-- and its own frames fit where it does
pub fits_own : {L : ℕ} {window : Option Window} {T : Words} {root : ℕ} {paths : PathMap} {pool : List ℕ} {serves : ℕ → Bool} (own : List ℕ) (array count : GName)
    → serves ≡ served_by own array count → Fits L window T root paths serves pool → Fits L window T root paths (is_in own) pool
fits_own {L} {window} {T} {root} {paths} {pool} {serves} own array count same = fits_by L window T root paths pool serves (is_in own)
    (λ f is served. sym (ap (λ s. s f) same ∙ served_aligned own array count f (frame_aligned f is)) ∙ served)
