-- A member more, as far as there is such a bookie.
use Rattle.std.proofs.Common.{◌≡◌, ◌∙◌, ◌+◌, ◌||◌, ℕ, Bool, List, ap, arith, subst, sym, take}
use Rattle.std.proofs.lemmas.List.{take_all}
use Rattle.reh_types.specs.Sets as set
use Rattle.reh_types.specs.Sets.{Set, numbers}
use Rattle.reh_plan.proofs.MemberLaws.{is_one_of, member_past, member_put, none_put}
use Rattle.reh_plan.proofs.workers.add_members.Goals as goal
use Rattle.reh_plan.proofs.workers.add_members.Goals.{then-member-lt-MAX_BOOKIES, else-member-lt-MAX_BOOKIES}

pub loop-member-init : goal.loop-member-init
loop-member-init c = λ b few. none_put (set.contains c.args.members.now b) c.args.ensemble.now b

pub loop-member-preserved : goal.loop-member-preserved
loop-member-preserved c =
    let bs : List ℕ = c.args.ensemble.now in
    let i : ℕ = c.loop-member.member-index in
    let start : ℕ → Bool = λ b. set.contains c.args.members.now b in
    elim c.if-member-lt-MAX_BOOKIES.branch [
      | then-member-lt-MAX_BOOKIES w ↦ λ b few.
          subst (λ (s : Set numbers). set.contains s b ≡ (start b || is_one_of (take (i + 1) bs) b)) (sym w.members-is)
          (member_put c.loop-member.members w.insert.new.self bs i c.member-item.result b (start b) c.loop-member-test.true
          c.member-item.is (w.insert.ensures ∙ ap (set.insert c.loop-member.members) c.member.view_is)
          (c.loop-member.invariant b few))
      | else-member-lt-MAX_BOOKIES w ↦ λ b few.
          subst (λ (s : Set numbers). set.contains s b ≡ (start b || is_one_of (take (i + 1) bs) b)) (sym w.members-is)
          (member_past c.loop-member.members bs i c.member-item.result b (start b) c.loop-member-test.true
          c.member-item.is (omega (arith, few, c.member.view_is, w.if-member-lt-MAX_BOOKIES.false)) (c.loop-member.invariant b few))
    ]

pub returns : goal.returns
returns c = λ b few.
    c.loop-member.invariant b few
    ∙ ap (λ (bs : List ℕ). set.contains c.args.members.now b || is_one_of bs b)
    (take_all c.loop-member.member-index c.args.ensemble.now c.loop-member-test.false)
