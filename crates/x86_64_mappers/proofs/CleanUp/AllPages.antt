-- The range of all pages ends with the last position of the address space.
use Rattle.std.proofs.Common.{◌≡◌, ◌+◌, ◌-◌, ℕ, inl, inr, ap, refl, sym, ◌∙◌, subst}
use Rattle.x86_64_addr.specs.Levels.{IsLevelCount}
use Rattle.x86_64_model.specs.Position.{position_count}

last_position : (L : ℕ) → IsLevelCount L → position_count L - 0x1000 + 0xfff ≡ position_count L - 1
last_position L (inl four) = subst (λ L. position_count L - 0x1000 + 0xfff ≡ position_count L - 1) (sym four) refl
last_position L (inr five) = subst (λ L. position_count L - 0x1000 + 0xfff ≡ position_count L - 1) (sym five) refl

pub to_the_last : (L last : ℕ) → IsLevelCount L → last ≡ position_count L - 0x1000 → last + 0xfff ≡ position_count L - 1
to_the_last L last known is = ap (λ n. n + 0xfff) is ∙ last_position L known
