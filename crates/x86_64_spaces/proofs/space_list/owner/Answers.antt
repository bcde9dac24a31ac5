use Rattle.std.proofs.Common.{◌≡◌, add-one, drop, true, false, sym, ap, ◌∙◌, arith}
use Rattle.x86_64_spaces.specs.SpaceGroups.{Grouped}
use Rattle.x86_64_spaces.specs.private.SpaceTables.{grouped_at, first_in}
use Rattle.x86_64_spaces.proofs.Groups.{compared, one_of, first_here, first_later, owner_alone}
use Rattle.x86_64_spaces.proofs.space_list.owner.Goals as goal
use Rattle.x86_64_spaces.proofs.space_list.owner.Goals.{in-Some+else-loop-k-test, in_default}

pub returns-then-eq : goal.returns-then-eq
returns-then-eq g c =
    let list = g.S.SpaceList.spaces c.args.spaces.now in let s = grouped_at list c.args.n in let i = c.args.index in let k = c.loop-k.k in
    let group = sym c.in-Some.is ∙ c.group_at.ensures in
    let here = compared c.group_at-in-loop-k.result ((grouped_at list k).group i) (s.group i) c.in-Some.group true (sym c.eq.ensures ∙ c.if-eq.true) c.group_at-in-loop-k.ensures group in
    let small = c.loop-k-test.true in let within = c.requires in
    c.space_at.ensures ∙ ap (λ (s : Grouped). s.space) (sym (c.loop-k.invariant ∙ first_here list (s.group i) i s k (omega (arith, small, within)) here))

pub loop-k-preserved : goal.loop-k-preserved
loop-k-preserved g c =
    let list = g.S.SpaceList.spaces c.args.spaces.now in let s = grouped_at list c.args.n in let i = c.args.index in let k = c.loop-k.k in
    let group = sym c.in-Some.is ∙ c.group_at.ensures in
    let not_here = compared c.group_at-in-loop-k.result ((grouped_at list k).group i) (s.group i) c.in-Some.group false (sym c.eq.ensures ∙ c.if-eq.false) c.group_at-in-loop-k.ensures group in
    let small = c.loop-k-test.true in let within = c.requires in
    c.loop-k.invariant ∙ first_later list (s.group i) i s k (omega (arith, small, within)) not_here ∙ ap (λ j. first_in (drop j list) (s.group i) i s) (sym (add-one k))

pub returns : goal.returns
returns g c =
    let list = g.S.SpaceList.spaces c.args.spaces.now in let s = grouped_at list c.args.n in let i = c.args.index in
    c.space_at-2.ensures ∙ ap (λ (s : Grouped). s.space) (sym (elim c.match-group_at.branch [
      | in-Some+else-loop-k-test w ↦
          let group = sym w.in-Some.is ∙ c.group_at.ensures in
          let most = w.loop-k.auto.k-end in let past = w.loop-k-test.false in
          let last : w.loop-k.k ≡ c.args.n = omega (arith, most, past) in
          w.loop-k.invariant ∙ ap (λ j. first_in (drop j list) (s.group i) i s) last
          ∙ first_here list (s.group i) i s c.args.n c.requires (one_of (s.group i) (s.group i) w.in-Some.group (sym group) (sym group))
      | in_default w ↦ owner_alone list i s (sym c.group_at.ensures ∙ w.in_default.is)
    ]))
