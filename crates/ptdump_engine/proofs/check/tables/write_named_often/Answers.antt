use Rattle.std.proofs.Common.{rules, ◌≡◌, ◌∙◌, ◌≤◌, ◌+◌, ◌-◌, ◌<◌, ◌==◌, ◌++◌, if◌then◌else◌, ℕ, List, [], ◌∷◌, Option, None, Some, drop, get_or, length, map, take, refl, sym, ap, subst, append_assoc, append-nil, drop-drop, arith}
use Rattle.std.proofs.lemmas.List.{drop_all, drop_more, length-drop, take_all}
use Rattle.std.specs.List.{cons_option}
use Rattle.ptdump_check.specs.Findings.{all_named_often, often}
use Rattle.ptdump_check.specs.declared.findings.finding.Finding.{Finding}
use Rattle.ptdump_check.specs.declared.findings.names.Name.{Name}
use Rattle.ptdump_check.specs.Ascending.{Ascend}
use Rattle.ptdump_engine.specs.CheckReports.{said_of}
use Rattle.ptdump_engine.specs.private.Alike.{alike}
use Rattle.ptdump_engine.proofs.BothLines.{both_lines}
use Rattle.ptdump_engine.proofs.Grouped.{grouped_more, rest_ascends}
use Rattle.ptdump_engine.proofs.check.tables.write_named_often.Goals as goal

-- how often a frame is named, if so many entries name it
abbrev counted : (root count frame : ℕ) → ℕ
counted root count f = count + (if f == root then 1 else 0)

-- the findings of names that ascend: that of the first frame, and those of the others
named_next : (names : List Name) (root s count : ℕ) (x : Name) → s < length names → x ≡ get_or names s x → Ascend (λ n. n.frame) (drop s names)
    → count ≡ alike (λ n. n.frame) x.frame (drop s names)
    → all_named_often (drop s names) root ≡ cons_option (often x.frame (counted root count x.frame)) (all_named_often (drop (s + count) names) root)
unfolding all_named_often
named_next names root s count x below is up same =
    let rest : drop s names ≡ x ∷ drop (s + 1) names = drop_more names s x below ∙ ap (λ y. y ∷ drop (s + 1) names) (sym is) in
    let first = grouped_more (λ n. n.frame) (λ f c. often f (counted root c f)) x (drop (s + 1) names) (subst (Ascend (λ n. n.frame)) rest up) in
    let so_many : count ≡ alike (λ n. n.frame) x.frame (x ∷ drop (s + 1) names) = same ∙ ap (alike (λ n. n.frame) x.frame) rest in
    ap (λ ns. all_named_often ns root) rest ∙ first
    ∙ ap (λ c. cons_option (often x.frame (counted root c x.frame)) (all_named_often (drop c (x ∷ drop (s + 1) names)) root)) (sym so_many)
    ∙ ap (λ ns. cons_option (often x.frame (counted root count x.frame)) (all_named_often (drop count ns) root)) (sym rest)
    ∙ ap (λ ns. cons_option (often x.frame (counted root count x.frame)) (all_named_often ns root)) (drop-drop count s names)

in_front : (o : Option Finding) (rest : List Finding) → cons_option o [] ++ rest ≡ cons_option o rest
in_front None rest = refl
in_front (Some finding) rest = refl

ascends_on : (names : List Name) (s count f : ℕ) → Ascend (λ n. n.frame) (drop s names) → count ≡ alike (λ n. n.frame) f (drop s names) → Ascend (λ n. n.frame) (drop (s + count) names)
ascends_on names s count f up same =
    subst (Ascend (λ n. n.frame)) (ap (λ c. drop c (drop s names)) (sym same) ∙ drop-drop count s names) (rest_ascends (λ n. n.frame) f (drop s names) up)

pub loop-start-preserved : goal.loop-start-preserved
loop-start-preserved g c =
    let names = c.args.names.now in
    let root = c.args.root in
    let s = c.loop-start.start in
    let x = c.index-names-start.result in
    let count = c.count_alike-count.result in
    let (within, up, (done, lines, all)) = c.loop-start.invariant in
    let long = length-drop s names in
    let whole : take (length names - s) (drop s names) ≡ drop s names = take_all (length names - s) (drop s names) (omega (arith, long)) in
    let same : count ≡ alike (λ n. n.frame) x.frame (drop s names) = c.count_alike-count.ensures.count ∙ ap (λ (y : Name). alike (λ n. n.frame) y.frame (take (length names - s) (drop s names))) (sym c.index-names-start.is) ∙ ap (alike (λ n. n.frame) x.frame) whole in
    let bound : count ≤ length (drop s names) = subst (λ ns. count ≤ length ns) whole c.count_alike-count.ensures.bound in
    let finding : c.of_frame.result ≡ often x.frame (counted root count x.frame) = search (rules, c.of_frame.ensures) in
    let next = named_next names root s count x c.loop-start-test.true c.index-names-start.is up same in
    let others = all_named_often (drop (s + count) names) root in (
      omega (arith, bound, long, c.loop-start-test.true),
      ascends_on names s count x.frame up same,
      (
        done ++ cons_option c.of_frame.result [],
        both_lines g.O.LineOutput.Lines g.O.LineOutput.parts said_of c.args.output.now c.loop-start.output c.write_finding.new.output done (cons_option c.of_frame.result [])
            (done ++ cons_option c.of_frame.result []) refl lines c.in_ok-write_finding.ensures,
        append_assoc done (cons_option c.of_frame.result []) others
            ∙ ap (λ fs. done ++ fs) (in_front c.of_frame.result others ∙ ap (λ o. cons_option o others) finding ∙ sym next)
            ∙ all,
      ),
    )

pub returns : goal.returns
unfolding all_named_often
returns g c =
    let (within, up, (done, lines, all)) = c.loop-start.invariant in
    let none : drop c.loop-start.start c.args.names.now ≡ [] = drop_all c.loop-start.start c.args.names.now c.loop-start-test.false in
    let whole : done ≡ all_named_often c.args.names.now c.args.root = sym (append-nil done) ∙ ap (λ ns. done ++ all_named_often ns c.args.root) (sym none) ∙ all in
    subst (λ fs. g.O.LineOutput.Lines c.args.output.now c.loop-start.output (map said_of fs)) whole lines
