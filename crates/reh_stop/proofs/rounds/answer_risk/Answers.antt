-- The names, the racks, their order, the cost and the text.
use Rattle.std.proofs.Common.{◌≡◌, ◌∙◌, ap, sym, subst, ℕ, List, String, Global, length, string_bytes, arith}
use Rattle.std.proofs.lemmas.List.{length-map}
use Rattle.std.specs.List.Sorted.{IsPermutation}
use Rattle.reh_census.specs.Striping.{range}
use Rattle.reh_inputs.specs.Cluster.{rack_name}
use Rattle.reh_waves.specs.Json.{ArePrintable}
use Rattle.reh_stop.specs.Rounds.{AreRacks, IsCost, IsUnprintable, IsUnsaidCost, risk_by}
use Rattle.reh_stop.proofs.FaultLaws.{if_err, unsaid-cost}
use Rattle.reh_stop.proofs.rounds.answer_risk.Goals as goal

pub racks_in_order-requires : goal.racks_in_order-requires
racks_in_order-requires c =
    let racks = c.in_ok-racks.racks.items in
    omega (
      arith,
      c.names_of-names.ensures.few,
      c.names_of-names.ensures.each,
      ap length c.deref.ensures.value,
      length-map racks string_bytes,
      ap length c.in_ok-racks.ensures,
      length-map c.args.gathered.now.cluster.shown rack_name,
    )

pub cost_of-requires : goal.cost_of-requires
cost_of-requires c =
    let names = c.names_of-names.result.now in
    let count : length names ≡ length c.args.gathered.now.bookies = c.names_of-names.ensures.each ∙ sym c.requires in
    subst (λ (n : ℕ). IsPermutation (range 0 n) c.deref-2.result.now) count
    (subst (λ (order : List ℕ). IsPermutation (range 0 (length names)) order) (sym c.deref-2.ensures.value)
    c.in_ok-order.ensures.permutation)

pub returns-in_err-text-clause-fault : goal.returns-in_err-text-clause-fault
returns-in_err-text-clause-fault c =
    let g = c.args.gathered.now in
    let asked = c.args.asked.now in
    let names = c.names_of-names.result.now in
    let fault = c.in_err-text.field-0.0 in
    if_err (IsUnsaidCost g asked) _ fault c.from_residual-in_err-text.ensures.1
    (unsaid-cost g asked names c.in_ok-racks.racks.items c.names_of-names.ensures.names c.in_ok-racks.ensures fault
    (subst (λ (racks : List (String Global)). IsUnprintable asked.as_json (ArePrintable names × ArePrintable racks) fault)
    c.deref-4.ensures.value c.in_err-text.ensures.fault))

pub returns-clause-said : goal.returns-clause-said
returns-clause-said c =
    let g = c.args.gathered.now in
    let asked = c.args.asked.now in
    let names = c.names_of-names.result.now in
    record {
      names = names;
      are_names = c.names_of-names.ensures.names;
      racks = c.in_ok-racks.racks.items;
      are_racks = c.in_ok-racks.ensures;
      order = c.in_ok-order.order.items;
      in_order = c.in_ok-order.ensures;
      rack_numbers = c.in_ok-numbers.numbers.items;
      are_rack_numbers =
          subst (λ (racks : List (String Global)). AreRacks g.cluster racks c.in_ok-numbers.numbers.items) c.deref.ensures.value
          c.in_ok-numbers.ensures;
      risk = c.in_ok-risk.risk;
      is_cost =
          subst (λ (order : List ℕ). IsCost g asked order c.in_ok-numbers.numbers.items c.in_ok-risk.risk) c.deref-2.ensures.value
          (subst (λ (numbers : List ℕ). IsCost g asked c.deref-2.result.now numbers c.in_ok-risk.risk) c.deref-3.ensures.value
          c.in_ok-risk.ensures);
      says = c.in_ok-text.ensures.text ∙ ap (λ racks. risk_by asked.as_json names racks c.in_ok-risk.risk) c.deref-4.ensures.value;
      printable = λ json.
          let p = c.in_ok-text.ensures.printable json in
          (p.0, subst (λ (racks : List (String Global)). ArePrintable racks) c.deref-4.ensures.value p.1);
    }
