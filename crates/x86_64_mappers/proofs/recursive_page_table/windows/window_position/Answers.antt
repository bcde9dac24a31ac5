use Rattle.std.proofs.Common.{◌≡◌, ◌<◌, ◌+◌, ◌*◌, ◌%◌, ◌^◌, length, take, fold, ap, ap₂, ◌∙◌, subst, arith}
use Rattle.std.proofs.Math.Seq.{take-length}
use Rattle.x86_64_model.specs.Path.{AllBelow}
use Rattle.x86_64_model.specs.Position.{page_path}
use Rattle.x86_64_mappers.proofs.Window.Numbers.{window_number_path}
use Rattle.x86_64_mappers.proofs.recursive_page_table.windows.window_position.Goals as goal

pub returns-clause-path : goal.returns-clause-path
returns-clause-path g c =
    let L = g.L.LevelCount.LEVELS in
    let r = c.args.index in
    let path = c.args.path.now in
    let end = c.loop-index.auto.index-index-end in
    let over = c.loop-index-test.false in
    let at : c.loop-index.index-index ≡ length path = omega (arith, end, over) in
    let all = ap (λ k. take k path) at ∙ take-length path in
    let small = subst (λ n. n < 512) c.from-number.ensures.0 c.from-number.ensures.1 in
    let number = c.loop-index.invariant.number ∙ ap (λ q. fold (λ n i. n * 512 + i) (r * 0x1008040201) q % 2 ^ 64) all in
    ap₂ (λ n m. page_path L (n * 4096 % 2 ^ 64 % m)) number (c.POSITION_COUNT.ensures ∙ g.L.LevelCount.known_count)
    ∙ window_number_path L r path g.L.LevelCount.known_levels c.requires small (subst AllBelow all c.loop-index.invariant.below)
