-- A member joins the set exactly where it is lost so, up to the last of the ensemble.
use Rattle.std.proofs.Common.{◌≡◌, ◌∙◌, ℕ, Bool, List, ap, sym, get_or}
use Rattle.std.specs.List.{filter}
use Rattle.std.proofs.lemmas.List.{take_all}
use Rattle.reh_types.specs.Sets.{numbers, insert, from_list}
use Rattle.reh_types.proofs.SetLaws.{from_list-nil}
use Rattle.reh_audit.specs.Members.{is_lost}
use Rattle.reh_audit.proofs.LostLaws.{more-fails, more-passes}
use Rattle.reh_audit.proofs.members.lost_among.Goals as goal
use Rattle.reh_audit.proofs.members.lost_among.Goals.{then-is_lost, else-is_lost}

pub loop-member-init : goal.loop-member-init
loop-member-init c = c.new-lost.ensures ∙ sym (from_list-nil numbers)

pub loop-member-preserved : goal.loop-member-preserved
loop-member-preserved c =
    let bs : List ℕ = c.args.ensemble.now in
    let b : ℕ = c.member-item.result in
    let wanted : ℕ → Bool = is_lost c.args.loss c.args.state.now in
    let asked : wanted (get_or bs c.loop-member.member-index b) ≡ c.is_lost.result =
    ap wanted (sym c.member-item.is) ∙ sym c.is_lost.ensures in
    elim c.if-is_lost.branch [
      | then-is_lost w ↦
          w.lost-is ∙ w.insert.ensures ∙ (λ i. insert (c.loop-member.invariant i) (c.member-item.is i))
          ∙ sym (more-passes wanted bs c.loop-member.member-index b c.loop-member-test.true (asked ∙ w.if-is_lost.true))
      | else-is_lost w ↦
          w.lost-is ∙ c.loop-member.invariant
          ∙ sym (more-fails wanted bs c.loop-member.member-index b c.loop-member-test.true (asked ∙ w.if-is_lost.false))
    ]

pub returns : goal.returns
returns c =
    c.loop-member.invariant
    ∙ ap (λ (bs : List ℕ). from_list {o = numbers} (filter (is_lost c.args.loss c.args.state.now) bs))
    (take_all c.loop-member.member-index c.args.ensemble.now c.loop-member-test.false)
