-- A word more.
use Rattle.std.proofs.Common.{◌≡◌, ◌∙◌, true, false, ◌+◌, ap, sym, subst, arith}
use Rattle.std.proofs.lemmas.Option.{slice_get-get_or}
use Rattle.reh_types.specs.Sets as set
use Rattle.reh_types.specs.Sets.{Set, numbers}
use Rattle.reh_model.specs.Cluster.{bookie_named}
use Rattle.reh_plan.proofs.NamesLaws.{AreNamedBelow, named-none, named-none_more, named-more, named-all, named-twice}
use Rattle.reh_plan.proofs.named.find_bookies.Goals as goal

pub loop-number-init : goal.loop-number-init
loop-number-init c =
    subst (λ (bookies : Set numbers). AreNamedBelow c.args.names.now c.args.words.now 0 bookies)
    (sym c.new-bookies.ensures) (named-none c.args.names.now c.args.words.now)

pub loop-number-preserved-in_default : goal.loop-number-preserved-in_default
loop-number-preserved-in_default c =
    named-none_more c.args.names.now c.args.words.now c.loop-number.number _ c.loop-number.bookies
    (slice_get-get_or c.args.words.now c.loop-number.number _ c.loop-number-test.true)
    (ap (bookie_named c.args.names.now) (sym c.as_bytes.ensures.value) ∙ sym c.find.ensures ∙ c.in_default.is)
    c.loop-number.invariant

pub returns-then-not-add-clause-fault : goal.returns-then-not-add-clause-fault
returns-then-not-add-clause-fault c =
    let again : set.contains c.loop-number.bookies c.in-Some.bookie ≡ true =
    grind (arith, c.add.ensures.new, c.if-not-add.true) in
    named-twice c.args.names.now c.args.words.now c.loop-number.number c.in-Some.bookie _ c.loop-number.bookies
    (slice_get-get_or c.args.words.now c.loop-number.number _ c.loop-number-test.true)
    (ap (bookie_named c.args.names.now) (sym c.as_bytes.ensures.value) ∙ sym c.find.ensures ∙ c.in-Some.is)
    again c.loop-number.invariant

pub loop-number-preserved : goal.loop-number-preserved
loop-number-preserved c =
    let fresh : set.contains c.loop-number.bookies c.in-Some.bookie ≡ false =
    grind (arith, c.add.ensures.new, c.if-not-add.false) in
    subst
    (λ (bookies : Set numbers). AreNamedBelow c.args.names.now c.args.words.now (c.loop-number.number + 1) bookies)
    (sym c.add.ensures.added)
    (named-more c.args.names.now c.args.words.now c.loop-number.number c.in-Some.bookie _ c.loop-number.bookies
    (slice_get-get_or c.args.words.now c.loop-number.number _ c.loop-number-test.true)
    (ap (bookie_named c.args.names.now) (sym c.as_bytes.ensures.value) ∙ sym c.find.ensures ∙ c.in-Some.is)
    fresh c.loop-number.invariant)

pub returns-clause-named : goal.returns-clause-named
returns-clause-named c =
    named-all c.args.names.now c.args.words.now c.loop-number.number c.loop-number.bookies
    (omega (arith, c.loop-number-test.false)) c.loop-number.invariant
