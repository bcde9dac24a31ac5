use Rattle.std.proofs.Common.{◌≡◌, ◌<◌, ◌-◌, ◌*◌, ◌/◌, ◌%◌, ◌^◌, ap, ap₂, ◌∙◌, subst₂, arith}
use Rattle.std.proofs.Math.Nat.{mod-eq_of_lt}
use Rattle.std.proofs.Math.Pow.{pow-lt}
use Rattle.x86_64_model.specs.Position.{span}
use Rattle.x86_64_mappers.proofs.Range.StoppedParts.{to_the_end}
use Rattle.x86_64_mappers.proofs.walk.change_range.pages_below.Goals as goal

pub returns-clause-same : goal.returns-clause-same
returns-clause-same g c = λ k less.
    let level = g.S.PageSize.LEVEL in
    let e = c.args.level in
    let above = c.requires.above in
    let low = c.requires.low in
    let exponent : 9 * (e - level) < 64 = omega (arith, above, low) in
    let shifted : 1 * 2 ^ (9 * (e - c.LEVEL.result)) % 2 ^ 64 ≡ 2 ^ (9 * (e - level)) =
    ap (λ l. 1 * 2 ^ (9 * (e - l)) % 2 ^ 64) c.LEVEL.ensures ∙ ap (λ n. n % 2 ^ 64) (let one : 1 * 2 ^ (9 * (e - level)) ≡ 2 ^ (9 * (e - level)) = omega arith in one) ∙ mod-eq_of_lt (pow-lt {j = 64} exponent) in
    let number : c.position.result / c.SIZE.result ≡ c.args.page / span level =
    ap₂ (λ p z. p / z) (c.position.ensures.value ∙ c.start_address.ensures.value) (c.SIZE.ensures ∙ g.S.PageSize.size) in
    to_the_end level e g.S.PageSize.low above c.args.page k (subst₂ (λ n v. k < n - v % n) shifted number less)
