use Rattle.std.proofs.Common.{◌≡◌, ◌-◌, ◌<◌, ◌≤◌, false, cond, length, arith}
use Rattle.std.specs.Ordering.{is_gt}
use Rattle.std.proofs.lemmas.List.Elements.{All-set}
use Rattle.reh_tally.proofs.LineLaws.{All-added, All-set_kind, InOrder-added, InOrder-set_kind, alike-last, less-last, sum-last, sum-set_kind}
use Rattle.reh_tally.proofs.joins.add_line.Goals as goal
use Rattle.reh_tally.proofs.joins.add_line.Goals.{else-len-gt0-via-then-len-gt0+else-is_eq, else-len-gt0-via-else-len-gt0}

pub returns-then-is_eq-clause-counts : goal.returns-then-is_eq-clause-counts
returns-then-is_eq-clause-counts g c test =
    let within : c.len-len.result - 1 < length c.args.lines.now.items = omega arith in
    sum-set_kind g.L.Line.kind c.args.lines.now.items (c.len-len.result - 1) c.index_mut.result.now c.add.new.self within
    c.index_mut.ensures.value c.add.ensures.kind g.L.Line.count test c.args.line
    c.count-count.result
    (alike-last g.L.Line.kind g.L.Line.cmp g.met.L.Line.exact c.args.lines.now.items (c.len-len.result - 1) c.index.result.now
    c.index_mut.result.now c.args.line c.cmp_kind.result within c.index.ensures c.index_mut.ensures.value c.cmp_kind.ensures c.if-is_eq.ensures)
    c.add.ensures.count c.count-count.ensures

pub returns-then-is_eq-clause-order : goal.returns-then-is_eq-clause-order
returns-then-is_eq-clause-order g c =
    InOrder-set_kind g.L.Line.kind c.args.lines.now.items (c.len-len.result - 1) c.index_mut.result.now c.add.new.self (omega arith)
    c.index_mut.ensures.value c.add.ensures.kind g.L.Line.cmp c.requires.order

pub returns-then-is_eq-clause-behind : goal.returns-then-is_eq-clause-behind
returns-then-is_eq-clause-behind g c next behind after =
    All-set_kind g.L.Line.kind c.args.lines.now.items (c.len-len.result - 1) c.index_mut.result.now c.add.new.self (omega arith)
    c.index_mut.ensures.value c.add.ensures.kind (λ one. is_gt (g.L.Line.cmp one next) ≡ false) behind

pub returns-then-is_eq-clause-some : goal.returns-then-is_eq-clause-some
returns-then-is_eq-clause-some g c =
    All-set (λ one. 1 ≤ g.L.Line.count one) c.args.lines.now.items (c.len-len.result - 1) c.add.new.self
    (omega (arith, c.add.ensures.count)) c.requires.some

pub returns-then-is_eq-clause-fit : goal.returns-then-is_eq-clause-fit
returns-then-is_eq-clause-fit g c =
    All-set_kind g.L.Line.kind c.args.lines.now.items (c.len-len.result - 1) c.index_mut.result.now c.add.new.self (omega arith)
    c.index_mut.ensures.value c.add.ensures.kind g.L.Line.IsFit c.requires.fit

pub returns-clause-counts : goal.returns-clause-counts
returns-clause-counts g c test =
    sum-last (λ one. cond (test (g.L.Line.kind one)) (g.L.Line.count one) 0) c.args.lines.now.items c.push.new.self.items c.args.line
    c.in_ok-push.ensures.items

pub returns-clause-order : goal.returns-clause-order
returns-clause-order g c =
    InOrder-added (λ one next. g.L.Line.cmp (g.L.Line.kind one) (g.L.Line.kind next)) c.args.lines.now.items c.push.new.self.items c.args.line
    c.in_ok-push.ensures.items c.requires.order
    (λ k d last.
    elim c.else-len-gt0.branch [
      | else-len-gt0-via-then-len-gt0+else-is_eq w ↦
          less-last g.L.Line.kind g.L.Line.cmp c.args.lines.now.items (c.len-len.result - 1) w.index.result.now c.args.line w.cmp_kind.result
          (omega (arith, last)) w.index.ensures w.cmp_kind.ensures w.if-is_eq.ensures c.requires.behind k d last
      | else-len-gt0-via-else-len-gt0 w ↦ absurd (omega (arith, last, w.if-len-gt0.false))
    ])

pub returns-clause-behind : goal.returns-clause-behind
returns-clause-behind g c next behind after =
    All-added (λ one. is_gt (g.L.Line.cmp (g.L.Line.kind one) next) ≡ false) c.args.lines.now.items c.push.new.self.items c.args.line
    c.in_ok-push.ensures.items behind after

pub returns-clause-some : goal.returns-clause-some
returns-clause-some g c =
    All-added (λ one. 1 ≤ g.L.Line.count one) c.args.lines.now.items c.push.new.self.items c.args.line c.in_ok-push.ensures.items
    c.requires.some (omega arith)

pub returns-clause-fit : goal.returns-clause-fit
returns-clause-fit g c =
    All-added (λ one. g.L.Line.IsFit (g.L.Line.kind one)) c.args.lines.now.items c.push.new.self.items c.args.line c.in_ok-push.ensures.items
    c.requires.fit c.requires.fits
