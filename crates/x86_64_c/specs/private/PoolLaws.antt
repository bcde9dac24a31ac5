-- What steps do to a pool that serves the names of its loans, too, they do to one that serves its own frames alone.
use Rattle.std.specs.Prelude.{◌≡◌, ℕ, Bool, List, Option, Some, None, IfSome, Result, Ok, Err, IfErr, OnOk, refl}
use Rattle.std.proofs.Common.{ap}
use Rattle.std.specs.Borrow.{GName}
use Rattle.x86_64_model.specs.Call.{Call}
use Rattle.x86_64_model.specs.Layout.{Layout}
use Rattle.x86_64_model.specs.Hierarchy.{Hierarchy}
use Rattle.x86_64_model.specs.Memory.{Memory}
use Rattle.x86_64_model.specs.Spaces.{AreSpaces}
use Rattle.x86_64_mappers.specs.Ranges.{MapRange}
use Rattle.x86_64_mappers.specs.Supplies.{Supply}
use Rattle.x86_64_spaces.specs.declared.giving_up.GiveUpError.{GiveUpError}
use Rattle.x86_64_spaces.specs.declared.space.Space.{Space}
use Rattle.x86_64_spaces.specs.SpaceCalls.{TakesFirst, IsMade, IsGivenUp, IsReason}
use Rattle.x86_64_tables.specs.LentPool.{is_in, served_by}
use Rattle.x86_64_tables.proofs.LentPools.{fits_own, fits_served}
use Rattle.x86_64_c.specs.AddressSpaces.{space_at}
use Rattle.x86_64_c.specs.PoolCalls.{RunsCall}
use Rattle.x86_64_c.specs.Preparations.{PreparesPage}
use Rattle.x86_64_c.specs.Ranges.{Maps}
use Rattle.x86_64_c.specs.declared.ranges.Mapped.{Mapped}
use Rattle.x86_64_c.specs.private.OrNothing.{RunsIfOk}
use Rattle.x86_64_c.specs.private.Pools.{stack}
use Rattle.x86_64_c.specs.private.RangeMaps.{TellsMaps}

module _ (own : List ℕ) (array count : GName) {serves : ℕ → Bool} (same : serves ≡ served_by own array count) where
  pub own_runs : (h after : Hierarchy (Unit {0})) (pool rest : List ℕ) (call : Call) (status : ℕ)
      → RunsCall h (stack serves pool) call after (stack serves rest) status → RunsCall h (stack (is_in own) pool) call after (stack (is_in own) rest) status
  own_runs h after pool rest call status runs = record {
    reply = runs.reply;
    step = runs.step;
    status_is = runs.status_is;
    keeps = record { fits = fits_own own array count same runs.keeps.fits; conserved = runs.keeps.conserved; others = runs.keeps.others };
    serves = refl;
    unchanged = runs.unchanged;
    free = runs.free;
  }

  pub own_runs_if_ok : (h after : Hierarchy (Unit {0})) (pool rest : List ℕ) (call : Call) (status : ℕ)
      → RunsIfOk h (stack serves pool) call after (stack serves rest) status → RunsIfOk h (stack (is_in own) pool) call after (stack (is_in own) rest) status
  own_runs_if_ok h after pool rest call status runs = record {
    status_is = runs.status_is;
    done = λ fine. own_runs h after pool rest call status (runs.done fine);
  }

  pub own_prepares : (h after : Hierarchy (Unit {0})) (pool rest : List ℕ) (level page more status : ℕ)
      → PreparesPage h (stack serves pool) level page more after (stack serves rest) status → PreparesPage h (stack (is_in own) pool) level page more after (stack (is_in own) rest) status
  own_prepares h after pool rest level page more status did = record {
    status_is = did.status_is;
    prepares = λ may.
        let prepares = did.prepares may in record {
          outcome = prepares.outcome;
          done = λ none.
              let made = prepares.done none in record {
                outcome = made.outcome;
                made = made.made;
                entries = made.entries;
                fits = made.fits;
                conserved = made.conserved;
                walks = made.walks;
                keeps = made.keeps;
                serves = refl;
              };
          refused = λ some. let same = prepares.refused some in (same.0, ap (λ (s : Supply). record { frames = s.frames; serves = is_in own }) same.1);
        };
    keeps = record { fits = fits_own own array count same did.keeps.fits; conserved = did.keeps.conserved; others = did.keeps.others };
    serves = refl;
  }

  pub own_maps : (h after : Hierarchy (Unit {0})) (pool rest : List ℕ) (r : MapRange) (number status done : ℕ)
      → Maps h (stack serves pool) r number after (stack serves rest) status done → Maps h (stack (is_in own) pool) r number after (stack (is_in own) rest) status done
  own_maps h after pool rest r number status done maps = record {
    maps = maps.maps;
    keeps = record { fits = fits_own own array count same maps.keeps.fits; conserved = maps.keeps.conserved; others = maps.keeps.others };
  }

  spaces_served : {shared : ℕ → Bool} {m : Memory} {pool : List ℕ} {spaces : List Layout} → AreSpaces shared m (is_in own) pool spaces → AreSpaces shared m serves pool spaces
  spaces_served are = record { fits = λ a i. fits_served own array count same (are.fits a i); own_roots = are.own_roots; share = are.share }

  spaces_own : {shared : ℕ → Bool} {m : Memory} {pool : List ℕ} {spaces : List Layout} → AreSpaces shared m serves pool spaces → AreSpaces shared m (is_in own) pool spaces
  spaces_own are = record { fits = λ a i. fits_own own array count same (are.fits a i); own_roots = are.own_roots; share = are.share }

  pub own_made : (shared : ℕ → Bool) (h : Hierarchy (Unit {0})) (pool rest : List ℕ) (new : Space) (n : Memory)
      → IsMade shared h (stack serves pool) new n (stack serves rest) → IsMade shared h (stack (is_in own) pool) new n (stack (is_in own) rest)
  own_made shared h pool rest new n made = record {
    root = made.root;
    self_entry = made.self_entry;
    spaces = λ spaces member are. spaces_own (made.spaces spaces member (spaces_served are));
  }

  pub own_given_up : (shared : ℕ → Bool) (h : Hierarchy (Unit {0})) (pool rest : List ℕ) (n : Memory)
      → IsGivenUp shared h (stack serves pool) n (stack serves rest) → IsGivenUp shared h (stack (is_in own) pool) n (stack (is_in own) rest)
  own_given_up shared h pool rest n gone = record {
    none_used = gone.none_used;
    not_zero = gone.not_zero;
    given_back = gone.given_back;
    serves = refl;
    cleared = gone.cleared;
    others = gone.others;
    spaces = λ spaces apart are. spaces_own (gone.spaces spaces apart (spaces_served are));
    none_lost = λ spaces other apart member are. gone.none_lost spaces other apart member (spaces_served are);
  }

  pub own_tells : (h after : Hierarchy (Unit {0})) (pool rest : List ℕ) (r : MapRange) (number : ℕ) (mapped : Mapped)
      → TellsMaps h (stack serves pool) r number after (stack serves rest) mapped → TellsMaps h (stack (is_in own) pool) r number after (stack (is_in own) rest) mapped
  own_tells h after pool rest r number mapped tells =
      (tells.0, λ may. let done = tells.1 may in (done.0, done.1, own_maps h after pool rest r number mapped.status done.0 done.2))

  pub own_root : (shared : ℕ → Bool) (h : Hierarchy (Unit {0})) (n : Memory) (pool rest : List ℕ) (root : Option ℕ)
      → TakesFirst (stack serves pool) root (stack serves rest) × IfSome root (λ root. IsMade shared h (stack serves pool) (space_at root) n (stack serves rest))
      → TakesFirst (stack (is_in own) pool) root (stack (is_in own) rest) × IfSome root (λ root. IsMade shared h (stack (is_in own) pool) (space_at root) n (stack (is_in own) rest))
  own_root shared h n pool rest None made = ((made.0.0, made.0.1, refl), tt)
  own_root shared h n pool rest (Some root) made = ((made.0.0, made.0.1, refl), own_made shared h pool rest (space_at root) n made.1)

  pub own_gone : (shared : ℕ → Bool) (h : Hierarchy (Unit {0})) (n : Memory) (pool rest : List ℕ) (gone : Result (Unit {0}) GiveUpError)
      → IfErr gone (λ why. IsReason shared h why) × OnOk gone (IsGivenUp shared h (stack serves pool) n (stack serves rest))
      → IfErr gone (λ why. IsReason shared h why) × OnOk gone (IsGivenUp shared h (stack (is_in own) pool) n (stack (is_in own) rest))
  own_gone shared h n pool rest (Ok x) gone = (gone.0, own_given_up shared h pool rest n gone.1)
  own_gone shared h n pool rest (Err why) gone = gone
