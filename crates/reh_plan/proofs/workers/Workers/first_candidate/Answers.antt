-- A bookie more, that could take the place, or couldn't.
use Rattle.std.proofs.Common.{◌≡◌, ◌<◌, ◌≤◌, ◌+◌, ◌∙◌, ℕ, List, Option, ap, arith, length, refl, subst, sym}
use Rattle.std.specs.List.{flat_map}
use Rattle.reh_types.specs.declared.limits.TheConstants.{MAX_BOOKIES}
use Rattle.reh_model.specs.Cluster.{Cluster, Ledger}
use Rattle.reh_model.specs.Metadata.{Fragment, Metadata}
use Rattle.reh_plan.specs.Choices.{IsChoice}
use Rattle.reh_plan.specs.Workers.{Workers}
use Rattle.reh_plan.specs.declared.workers.Candidate.{Candidate}
use Rattle.reh_plan.proofs.ChoiceLaws.{IsFirstSoFar, first_chosen, first_kept, first_more, nobody_chosen}
use Rattle.reh_plan.proofs.MemberLaws.{is_one_of}
use Rattle.reh_plan.proofs.workers.Workers.first_candidate.Goals as goal
use Rattle.reh_plan.proofs.workers.Workers.first_candidate.Goals.{then-could_join, else-could_join}

pub loop-number-preserved : goal.loop-number-preserved
loop-number-preserved c =
    let w : Workers = c.args.self.now in
    let s : Cluster = c.args.state.now in
    let g : Ledger = c.args.place.now.ledger.now in
    let f : ℕ = c.args.place.now.fragment in
    let i : ℕ = c.args.place.now.index in
    let n : ℕ = c.loop-number.number in
    elim c.if-could_join.branch [
      | then-could_join v ↦
          let d : Candidate = record { bookie = n; ranks = v.ranks-ranks.result } in
          subst (λ (o : Option Candidate). IsFirstSoFar w s g f i (n + 1) o) (sym v.first-is)
          (first_more w s g f i n c.loop-number.first d v.earlier.result refl v.ranks-ranks.ensures
          (sym c.could_join.ensures ∙ v.if-could_join.true) v.earlier.ensures c.loop-number.invariant)
      | else-could_join v ↦
          subst (λ (o : Option Candidate). IsFirstSoFar w s g f i (n + 1) o) (sym v.first-is)
          (first_kept w s g f i n c.loop-number.first (sym c.could_join.ensures ∙ v.if-could_join.false)
          c.loop-number.invariant)
    ]

pub ranks-ranks-requires : goal.ranks-ranks-requires
ranks-ranks-requires c =
    let k : ℕ = c.loop-number.number in
    let few : k < MAX_BOOKIES =
    omega (arith, c.loop-number-test.true, c.len-number-end.ensures.count, c.len-number-end.ensures.limit) in
    c.members_of-members.ensures k few
    ∙ ap (λ (fs : List Fragment). is_one_of (flat_map (λ (x : Fragment). x.ensemble) fs) k)
    (c.fragments.ensures.fragments ∙ ap (λ (m : Metadata). m.fragments) c.metadata.ensures)

pub returns-in_err-first : goal.returns-in_err-first
returns-in_err-first c =
    let w : Workers = c.args.self.now in
    let s : Cluster = c.args.state.now in
    let g : Ledger = c.args.place.now.ledger.now in
    let f : ℕ = c.args.place.now.fragment in
    let i : ℕ = c.args.place.now.index in
    let n : ℕ = c.loop-number.number in
    let names : length c.names.result.now ≡ length s.names = ap length c.names.ensures.names in
    let all : length s.names ≤ n =
    omega (arith, names, c.len-number-end.ensures.count, c.len-number-end.ensures.limit, c.loop-number-test.false) in
    subst (λ (o : Option ℕ). IsChoice w s g f i o) (sym c.from_residual.ensures)
    (nobody_chosen w s g f n c.names.ensures.well_formed all
    (subst (λ (o : Option Candidate). IsFirstSoFar w s g f i n o) c.in_err-first.was c.loop-number.invariant))

pub returns : goal.returns
returns c =
    let w : Workers = c.args.self.now in
    let s : Cluster = c.args.state.now in
    let g : Ledger = c.args.place.now.ledger.now in
    let f : ℕ = c.args.place.now.fragment in
    let i : ℕ = c.args.place.now.index in
    let n : ℕ = c.loop-number.number in
    let names : length c.names.result.now ≡ length s.names = ap length c.names.ensures.names in
    let all : length s.names ≤ n =
    omega (arith, names, c.len-number-end.ensures.count, c.len-number-end.ensures.limit, c.loop-number-test.false) in
    first_chosen w s g f i n c.in_ok-first.field-0 c.names.ensures.well_formed all
    (subst (λ (o : Option Candidate). IsFirstSoFar w s g f i n o) c.in_ok-first.was c.loop-number.invariant)
