use Rattle.std.proofs.Common.{◌≡◌, ◌∙◌, ◌+◌, ℕ, List, Result, Ok, Err, OnOk, ap, sym, arith}
use Rattle.std.specs.declared.alloc.AllocError.{AllocError}
use Rattle.reh_census.specs.Counting.{count_fragment, count_in}
use Rattle.reh_tally.specs.Members.{members_of}
use Rattle.reh_tally.specs.Segments.{count_classes}
use Rattle.reh_tally.proofs.MemberLaws.{count_fragment-members}
use Rattle.reh_tally.proofs.segments.count_fragment.Goals as goal

-- what follows where there was memory
on-ok : {P Q : Type 0} (r : Result (Unit {0}) AllocError) → OnOk r P → (P → Q) → OnOk r Q
on-ok (Ok u) is follows = follows is
on-ok (Err e) is follows = tt

pub returns : goal.returns
returns c = on-ok c.add_lines.result c.add_lines.ensures λ added test.
    let members : c.deref.result.now ≡ members_of c.args.bookies.now c.args.fragment.now.ensemble =
    c.deref.ensures.value ∙ c.in_ok-members.ensures.members in
    added test
    ∙ ap (λ n. count_in c.args.census.now.items test + n)
    ((λ i. count_classes ((c.deref-2.ensures.value ∙ sym c.deref.ensures.value) i) c.args.ledger.now (c.as_slice.ensures i) test)
    ∙ c.in_ok-lines.ensures test
    ∙ ap (λ (names : List ℕ). count_fragment names c.args.ledger.now test c.args.fragment.now) members
    ∙ count_fragment-members c.args.bookies.now c.args.ledger.now c.args.fragment.now test c.requires.fragment.whole (omega (arith, c.requires.fragment.some)))
