use Rattle.std.proofs.Common.{◌≡◌, ◌∙◌, ◌+◌, ◌<◌, ℕ, List, ap, sym, subst, take, length, get_or, arith}
use Rattle.std.specs.Prelude.{sum_by}
use Rattle.std.proofs.lemmas.List.Sums.{sum_by_more}
use Rattle.reh_census.specs.declared.ledgers.Fragment.{Fragment}
use Rattle.reh_census.specs.Counting.{count_fragment}
use Rattle.reh_census.specs.Ledgers.{IsFragment}
use Rattle.reh_tally.specs.Members.{names_of}
use Rattle.reh_tally.proofs.segments.count_ledger.Goals as goal

pub count_fragment-requires-clause-fragment : goal.count_fragment-requires-clause-fragment
count_fragment-requires-clause-fragment c =
    let all : List Fragment = c.args.ledger.now.fragments in
    let same : c.fragments-fragment-items.result.now ≡ all = c.fragments-fragment-items.ensures.fragments in
    let within : c.loop-fragment.fragment-index < length all = omega (arith, c.loop-fragment-test.true, ap length same) in
    let is : c.fragment-item.result ≡ get_or all c.loop-fragment.fragment-index c.fragment-item.result =
    c.fragment-item.is ∙ ap (λ (items : List Fragment). get_or items c.loop-fragment.fragment-index c.fragment-item.result) same in
    subst (λ (fragment : Fragment). IsFragment c.args.ledger.now.size fragment) (sym is)
    (c.fragments-fragment-items.ensures.well_formed.fragments c.loop-fragment.fragment-index c.fragment-item.result within)

pub loop-fragment-preserved : goal.loop-fragment-preserved
loop-fragment-preserved c test =
    let items : List Fragment = c.fragments-fragment-items.result.now in
    let n : ℕ = c.loop-fragment.fragment-index in
    let f : Fragment → ℕ = count_fragment (names_of c.args.bookies.now) c.args.ledger.now test in
    let more : sum_by f (take (n + 1) items) ≡ sum_by f (take n items) + f (get_or items n c.fragment-item.result) =
    sum_by_more f items n c.fragment-item.result c.loop-fragment-test.true in
    omega (arith, more, c.loop-fragment.invariant test, c.in_ok-count_fragment.ensures test, ap f c.fragment-item.is)
