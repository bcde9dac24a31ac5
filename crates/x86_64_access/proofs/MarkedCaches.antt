-- Marks change nothing of what a processor may cache.
use Rattle.std.proofs.Common.{inl, inr, ◌⊎◌, ◌≡◌, ℕ, Some, refl, sym, ◌∙◌, List}
use Rattle.x86_64_model.specs.Caches.{Cached, Caches, MayRead, PartialWalk, cached_item}
use Rattle.x86_64_model.specs.Lists.{In}
use Rattle.x86_64_model.specs.Memory.{Words, word}
use Rattle.x86_64_access.specs.Marks.{CachesStay, GetsMarks, OnlyMarks}
use Rattle.x86_64_access.proofs.Marks.{same_address, same_has}

same_found : (L : ℕ) (T U : Words) → OnlyMarks T U → (t : PartialWalk) (i : ℕ) → cached_item L U t i ≡ cached_item L T t i
same_found L T U only t i =
    let e = word T t.frame i in
    let g = word U t.frame i in
    let gets : GetsMarks (word T t.frame i) (word U t.frame i) = only.words t.frame i in
    rw (
      same_has e g 0x1 gets refl,
      same_has e g 0x2 gets refl,
      same_has e g 0x4 gets refl,
      same_has e g 0x80 gets refl,
      same_has e g 0x8000_0000_0000_0000 gets refl,
      same_address e g gets,
    ) refl

module _ (L root : ℕ) (T U : Words) (same : (t : PartialWalk) (i : ℕ) → cached_item L U t i ≡ cached_item L T t i) (these those : List Cached) where
  goes : Caches L root U these those → Caches L root T these those
  goes caches c member = by (caches c member)
    where
      by : In these c ⊎ ((t : PartialWalk) × (i : ℕ) × MayRead root these t × (cached_item L U t i ≡ Some c))
          → In these c ⊎ ((t : PartialWalk) × (i : ℕ) × MayRead root these t × (cached_item L T t i ≡ Some c))
      by (inl there) = inl there
      by (inr (t, i, may, is)) = inr (t, i, may, sym (same t i) ∙ is)

pub caches_stay : CachesStay
caches_stay L root T U only these those = (
  goes L root T U (same_found L T U only) these those,
  goes L root U T (λ t i. sym (same_found L T U only t i)) these those,
)
