-- One bookie more is read, with its name and its registration.
use Rattle.std.proofs.Common.{ℕ, List, map, length, take_all, sym, ap, ◌∙◌, arith}
use Rattle.std.proofs.lemmas.List.{length-map}
use Rattle.serde_json.specs.View.{view}
use Rattle.serde_json.specs.declared.value.Value.{Value}
use Rattle.reh_fields.specs.declared.fields.Field.TheVariants as field
use Rattle.reh_fields.specs.Members.{text_of}
use Rattle.reh_picture.specs.declared.places.Place.TheVariants as place
use Rattle.reh_picture.specs.Places.{fault_at}
use Rattle.reh_picture.specs.Bookies.{bookie_fault, each_bookie_fault, names_in, registrations_in}
use Rattle.reh_picture.proofs.BookiesLemmas.{HasRead-none, HasRead-next, judge}
use Rattle.reh_picture.proofs.Walks.{IsLeft-all, IsLeft-fails}
use Rattle.reh_picture.proofs.bookies.read_each_bookie.Goals as goal

pub loop-i-init : goal.loop-i-init
loop-i-init c = rw (c.new-names.ensures, c.in_ok-lost_at.ensures.items) (HasRead-none c.args.bookies.now)

pub add_bookie-requires : goal.add_bookie-requires
add_bookie-requires c = omega (arith, c.loop-i.invariant.count, c.loop-i-test.true, c.requires)

pub loop-i-preserved : goal.loop-i-preserved
loop-i-preserved c =
    let read = c.in_ok-add_bookie.ensures in
    HasRead-next c.args.bookies.now c.loop-i.i c.loop-i.names c.loop-i.lost_at.items
    c.index-bookies-i.result c.loop-i.invariant c.loop-i-test.true c.index-bookies-i.is _ _ read.fault read.named
    read.registered

pub returns-in_err-add_bookie-clause-fault : goal.returns-in_err-add_bookie-clause-fault
unfolding each_bookie_fault
returns-in_err-add_bookie-clause-fault c =
    let i = c.loop-i.i in
    let bookie = c.index-bookies-i.result in
    let read = c.loop-i.invariant in
    IsLeft-fails judge c.args.bookies.now i bookie c.loop-i-test.true c.index-bookies-i.is read.left
    c.from_residual-in_err-add_bookie.result c.in_err-add_bookie.field-0.0
    c.from_residual-in_err-add_bookie.ensures.1
    (λ known. ap (λ names. fault_at (place.Bookie i) (bookie_fault names (view bookie))) (sym read.names_are)
    ∙ c.in_err-add_bookie.ensures.fault known)

pub returns-clause-count : goal.returns-clause-count
returns-clause-count c =
    let bookies = c.args.bookies.now in
    ap (λ (names : List (List ℕ)). length names)
    (c.loop-i.invariant.names_are
    ∙ ap (λ (bs : List Value). names_in (map view bs)) (take_all c.loop-i.i bookies c.loop-i-test.false))
    ∙ length-map (map view bookies) (λ d. text_of d field.Name) ∙ length-map bookies view

pub returns-clause-names : goal.returns-clause-names
returns-clause-names c =
    c.loop-i.invariant.names_are
    ∙ ap (λ (bs : List Value). names_in (map view bs)) (take_all c.loop-i.i c.args.bookies.now c.loop-i-test.false)

pub returns-clause-registrations : goal.returns-clause-registrations
returns-clause-registrations c =
    c.loop-i.invariant.lost_are
    ∙ ap (λ (bs : List Value). registrations_in (map view bs))
    (take_all c.loop-i.i c.args.bookies.now c.loop-i-test.false)

pub returns-clause-fault : goal.returns-clause-fault
unfolding each_bookie_fault
returns-clause-fault c =
    IsLeft-all judge c.args.bookies.now c.loop-i.i c.loop-i-test.false c.loop-i.invariant.left
