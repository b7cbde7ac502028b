-- One bookie more, or none that has a name.
use Rattle.std.proofs.Common.{◌≡◌, ◌∙◌, List, ℕ, Some, ap, sym, subst, option_map, arith}
use Rattle.std.specs.List.{zip}
use Rattle.std.specs.Prelude.{flat_map, slice_get}
use Rattle.json.specs.Tree.{json_tokens}
use Rattle.reh_census.specs.declared.bookies.Bookie.{Bookie}
use Rattle.reh_answer.specs.Objects.{Adds}
use Rattle.reh_census_json.specs.Objects.{named_json}
use Rattle.reh_census_json.proofs.BookieLaws.{named-all, named-more, named-none, no_bookie}
use Rattle.reh_census_json.proofs.objects.add_each_bookie.Goals as goal

pub returns-in_default : goal.returns-in_default
returns-in_default c =
    let names = c.args.names.now in
    let listed = c.as_slice-listed.result.now in
    let none = sym c.name.ensures ∙ ap (option_map (λ name. name.now)) c.in_default.is in
    subst (λ (bookies : List Bookie).
    Adds (flat_map (λ b. json_tokens (named_json c.args.racks.now b)) (zip names bookies)) c.args.json.now c.loop-number.json)
    c.as_slice-listed.ensures.bookies
    (subst (λ (bookies : List (List ℕ × Bookie)).
    Adds (flat_map (λ b. json_tokens (named_json c.args.racks.now b)) bookies) c.args.json.now c.loop-number.json)
    (named-none names listed c.loop-number.number none) c.loop-number.invariant)

pub loop-number-preserved : goal.loop-number-preserved
loop-number-preserved c =
    let named : slice_get c.args.names.now c.loop-number.number ≡ Some c.in-Some.name.now =
    sym c.name.ensures ∙ ap (option_map (λ name. name.now)) c.in-Some.is in
    named-more c.args.names.now c.as_slice-listed.result.now c.args.racks.now c.loop-number.number c.in-Some.name.now no_bookie
    c.args.json.now c.loop-number.json c.add_bookie.new.json (omega (arith, c.loop-number-test.true)) named c.loop-number.invariant
    c.in_ok-add_bookie.ensures

pub returns : goal.returns
returns c =
    let names = c.args.names.now in
    let listed = c.as_slice-listed.result.now in
    subst (λ (bookies : List Bookie).
    Adds (flat_map (λ b. json_tokens (named_json c.args.racks.now b)) (zip names bookies)) c.args.json.now c.loop-number.json)
    c.as_slice-listed.ensures.bookies
    (subst (λ (bookies : List (List ℕ × Bookie)).
    Adds (flat_map (λ b. json_tokens (named_json c.args.racks.now b)) bookies) c.args.json.now c.loop-number.json)
    (named-all names listed c.loop-number.number (omega (arith, c.loop-number-test.false))) c.loop-number.invariant)
