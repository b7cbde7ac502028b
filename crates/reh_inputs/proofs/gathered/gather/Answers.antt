-- There are as many ids as ledgers; and all together is what the inputs show.
use Rattle.std.proofs.Common.{◌≡◌, ◌∙◌, All, ap, sym, subst, length, map, refl}
use Rattle.std.proofs.lemmas.List.{length-map}
use Rattle.reh_inputs.specs.declared.inputs.Input.{Input}
use Rattle.reh_inputs.specs.declared.inputs.Input.TheVariants.{Picture, Census}
use Rattle.reh_inputs.specs.Cluster.{Cluster, bookies_of}
use Rattle.reh_inputs.specs.Gathered.{ids_in, ledger_in, ledgers_in, reading_of}
use Rattle.reh_inputs.specs.Inputs.{of_picture}
use Rattle.reh_inputs.specs.United.{AreAlike, number_of, united}
use Rattle.reh_inputs.proofs.FaultLaws.{passed_on}
use Rattle.reh_inputs.proofs.UnitedLaws.{InOrder-united}
use Rattle.reh_inputs.proofs.RangeLaws.{same_lengths}
use Rattle.reh_inputs.proofs.gathered.gather.Goals as goal

pub census_in-requires-clause-bookies : goal.census_in-requires-clause-bookies
census_in-requires-clause-bookies g c κs within = c.in_ok-bookies.ensures ∙ ap bookies_of c.in_ok-cluster.ensures.united

pub census_in-requires-clause-names : goal.census_in-requires-clause-names
census_in-requires-clause-names g c κs within = c.names.ensures ∙ ap (λ (k : Cluster). k.names) c.in_ok-cluster.ensures.united

pub invariant_of-result : goal.invariant_of-result
invariant_of-result g c =
    let names = (united c.args.inputs.now).names in
    let made = ledgers_in names (reading_of c.args.strict) in
    let each : (input : Input) → length (of_picture ids_in input) ≡ length (of_picture made input) =
    λ input. elim input as (λ (one : Input). length (of_picture ids_in one) ≡ length (of_picture made one)) [
      | Picture l ↦
          length-map l.listing.ledgers.items (λ g. g.id)
          ∙ sym (length-map l.listing.ledgers.items
          (ledger_in (map (number_of names) l.listing.names) (reading_of c.args.strict) l))
      | Census census ↦ refl
    ] in
    record {
      each = ap length c.in_ok-ids.ensures.ids ∙ same_lengths (of_picture ids_in) (of_picture made) each c.args.inputs.now
          ∙ sym (ap length c.in_ok-ledgers.ensures.ledgers);
    }

pub returns-clause-gathers : goal.returns-clause-gathers
returns-clause-gathers g c =
    let inputs = c.args.inputs.now in
    let cluster : c.in_ok-cluster.cluster ≡ united inputs = c.in_ok-cluster.ensures.united in
    record {
      cluster = cluster;
      names = InOrder-united inputs;
      agree = subst (λ (k : Cluster). All (AreAlike k) inputs) cluster c.in_ok-cluster.ensures.agree;
      bookies = c.in_ok-bookies.ensures ∙ ap bookies_of cluster;
      ids = c.in_ok-ids.ensures.ids;
      each_once = c.in_ok-ids.ensures.each_once;
      ledgers = c.in_ok-ledgers.ensures.ledgers;
      counts = c.in_ok-ledgers.ensures.counts;
      order = c.in_ok-ledgers.ensures.order;
      judged = c.in_ok-ledgers.ensures.judged;
      alike = c.in_ok-cluster.ensures.alike;
    }

pub returns-clause-empties : goal.returns-clause-empties
returns-clause-empties g c = c.in_ok-cluster.ensures.nothing

pub returns-clause-few : goal.returns-clause-few
returns-clause-few g c = c.in_ok-ledgers.ensures.few

pub returns-in_err-cluster-clause-fault : goal.returns-in_err-cluster-clause-fault
returns-in_err-cluster-clause-fault g c =
    passed_on _ _ c.from_residual.result c.in_err-cluster.field-0.0 c.from_residual.ensures.1 c.in_err-cluster.ensures.fault

pub returns-in_err-ids-clause-fault : goal.returns-in_err-ids-clause-fault
returns-in_err-ids-clause-fault g c =
    passed_on _ _ c.from_residual-in_err-ids.result c.in_err-ids.field-0.0 c.from_residual-in_err-ids.ensures.1
    (c.in_err-ids.ensures.fault c.args.strict)

pub returns-in_err-ledgers-clause-fault : goal.returns-in_err-ledgers-clause-fault
returns-in_err-ledgers-clause-fault g c =
    passed_on _ _ c.from_residual-in_err-ledgers.result c.in_err-ledgers.field-0.0 c.from_residual-in_err-ledgers.ensures.1
    c.in_err-ledgers.ensures.fault
