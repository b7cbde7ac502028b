-- Where ten are kept, the last of them goes, or the new one.
use Rattle.std.proofs.Common.{◌∙◌, ◌++◌, ◌∷◌, [], List, sym, subst, arith}
use Rattle.std.specs.Prelude.{All, Contains}
use Rattle.reh_against.specs.declared.kept.Kept.{Kept}
use Rattle.reh_against.proofs.WorstLaws.{among-in-place, among-kept, among-same, kept-in-place, kept-left-out, kept-with-room}
use Rattle.reh_against.proofs.kept.keep.Goals as goal

pub returns-then-len-lt-MOST-clause-worst : goal.returns-then-len-lt-MOST-clause-worst
returns-then-len-lt-MOST-clause-worst c =
    kept-with-room c.args.kept.now.items c.insert.new.kept.items c.args.more (omega (arith, c.if-len-lt-MOST.true, c.len.ensures))
    c.in_ok-insert.ensures.same c.in_ok-insert.ensures.sorted

pub returns-then-len-lt-MOST-clause-among : goal.returns-then-len-lt-MOST-clause-among
returns-then-len-lt-MOST-clause-among c =
    among-same c.args.kept.now.items c.insert.new.kept.items c.args.more c.in_ok-insert.ensures.same

pub returns-then-comes_before-clause-worst : goal.returns-then-comes_before-clause-worst
returns-then-comes_before-clause-worst c =
    kept-in-place c.args.kept.now.items c.pop.new.self.items c.insert-then-comes_before.new.kept.items c.in-Some.last c.args.more
    c.in-Some.ensures.items (omega (arith, c.if-len-lt-MOST.false, c.len.ensures))
    (sym c.comes_before.ensures ∙ c.if-comes_before.true) c.in_ok-insert-2.ensures.same c.in_ok-insert-2.ensures.sorted

pub returns-then-comes_before-clause-among : goal.returns-then-comes_before-clause-among
returns-then-comes_before-clause-among c =
    among-in-place c.args.kept.now.items c.pop.new.self.items c.insert-then-comes_before.new.kept.items c.in-Some.last c.args.more
    c.in-Some.ensures.items c.in_ok-insert-2.ensures.same

pub returns-clause-worst : goal.returns-clause-worst
returns-clause-worst c =
    kept-left-out c.args.kept.now.items c.pop.new.self.items c.push.new.self.items c.in-Some.last c.args.more
    c.in-Some.ensures.items (omega (arith, c.if-len-lt-MOST.false, c.len.ensures))
    (sym c.comes_before.ensures ∙ c.if-comes_before.false) c.in_ok-push.ensures.items

pub returns-clause-among : goal.returns-clause-among
returns-clause-among c =
    let kept : List Kept = c.args.kept.now.items in
    subst (λ (ks : List Kept). All (Contains (kept ++ c.args.more ∷ [])) ks) (c.in-Some.ensures.items ∙ sym c.in_ok-push.ensures.items)
    (among-kept kept c.args.more)
