-- What is known about a mapper and its memory is known about the memory that was lent to it.
use Rattle.std.specs.Prelude.{◌≡◌}
use Rattle.std.proofs.Common.{sym, subst}
use Rattle.x86_64_model.specs.Memory.{Memory}
use Rattle.x86_64_model.specs.Layout.{Layout}

-- a mapper's layout and its memory before and after, if it was created with the layout k and a memory m that ends as n
pub moved : (Fact : Layout → Memory → Memory → Type 0) (l k : Layout) (before m after n : Memory) → l ≡ k → before ≡ m → n ≡ after → Fact l before after → Fact k m n
moved Fact l k before m after n layout first last h = subst (λ l. Fact l m n) layout (subst (λ m. Fact l m n) first (subst (λ n. Fact l before n) (sym last) h))
