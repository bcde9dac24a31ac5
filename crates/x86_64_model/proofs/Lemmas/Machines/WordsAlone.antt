-- What a call did to the hierarchy that a mapper owns, stated of its words alone, whatever was lent.
use Rattle.std.proofs.Common.{◌≡◌, ℕ, List, Option, refl, subst}
use Rattle.x86_64_model.specs.CleanUp.{AfterCleanUp}
use Rattle.x86_64_model.specs.Hierarchy.{◌laid_in◌, Hierarchy, Changes, FreesTables, KeepsBut, Maps}
use Rattle.x86_64_model.specs.Layout.{Layout}
use Rattle.x86_64_model.specs.MapRule.{AfterMap}
use Rattle.x86_64_model.specs.Memory.{Memory}
use Rattle.x86_64_model.specs.PageRules.{AfterChange}
use Rattle.x86_64_model.specs.Refusal.{Answer}

-- the hierarchy with nothing lent
abbrev pub alone : {Lent : Type 0} → Hierarchy Lent → Hierarchy (Unit {0})
alone h = h.layout laid_in h.memory

module _ {Lent : Type 0} {h after : Hierarchy Lent} where
  pub keeps_alone : {frames : ℕ → Type 0} → KeepsBut frames h after → KeepsBut frames (alone h) (alone after)
  keeps_alone keeps = record { valid = keeps.valid; others = keeps.others; layout = keeps.layout; lent = refl }

  pub changes_alone : {rule : Option AfterChange} {answer : Answer} → Changes h rule answer after → Changes (alone h) rule answer (alone after)
  changes_alone does = record { outcome = does.outcome; fits = does.fits; refused = does.refused; keeps = keeps_alone does.keeps }

  pub maps_alone : {supply : List ℕ} {rule : Option AfterMap} {flags : Option ℕ} {answer : Answer} {rest : List ℕ} → Maps h supply rule flags answer after rest → Maps (alone h) supply rule flags answer (alone after) rest
  maps_alone does = record { outcome = does.outcome; fits = does.fits; walks = does.walks; keeps = keeps_alone does.keeps }

  pub frees_alone : {take_back : List ℕ → ℕ → List ℕ} {held : List ℕ} {rule : AfterCleanUp} {rest : List ℕ} → FreesTables h take_back held rule after rest → FreesTables (alone h) take_back held rule (alone after) rest
  frees_alone cleans = record { outcome = cleans.outcome; returned = cleans.returned; fits = cleans.fits; empty = cleans.empty; keeps = keeps_alone cleans.keeps }

-- what holds of the hierarchy alone, under other names for its layout and its memories
pub in_words : {Lent : Type 0} (h after : Hierarchy Lent) (l : Layout) (m n : Memory) → h.layout ≡ l → h.memory ≡ m → after.memory ≡ n → after.layout ≡ h.layout → (P : (before last : Hierarchy (Unit {0})) → Type 0)
    → P (alone h) (alone after) → P (l laid_in m) (l laid_in n)
in_words h after l m n layout memory left same P holds =
    subst (λ l. P (l laid_in m) (l laid_in n)) layout
    (subst (λ m. P (h.layout laid_in m) (h.layout laid_in n)) memory
    (subst (λ n. P (alone h) (h.layout laid_in n)) left
    (subst (λ k. P (alone h) (k laid_in after.memory)) same holds)))
