-- What two runs of inputs show is what the inputs of both show.
use Rattle.std.proofs.Common.{◌≡◌, ◌∙◌, ◌<◌, ◌+◌, ◌^◌, ◌++◌, ℕ, Bool, true, false, cond, List, All, ap, length, refl, sym, subst, arith}
use Rattle.std.specs.Prelude.{count_by}
use Rattle.std.proofs.lemmas.List.Concat.{flat_map-append}
use Rattle.std.proofs.lemmas.List.Elements.{All-append}
use Rattle.std.proofs.lemmas.List.Sums.{sum_by-append}
use Rattle.reh_census.specs.declared.censuses.CountedEnsemble.{CountedEnsemble}
use Rattle.reh_census.specs.declared.censuses.CountedTail.{CountedTail}
use Rattle.reh_census.specs.declared.classes.Counted.{Counted}
use Rattle.reh_census.specs.Copies.{in_order}
use Rattle.reh_census.specs.Counting.{count_ensembles, count_ensembles_in, count_entries, count_in, count_ledger, count_tails, count_tails_in, tail_of}
use Rattle.reh_census.specs.Ledgers.{Ledger}
use Rattle.reh_census.specs.Tails.{IsTail}
use Rattle.reh_tally.specs.Few.{AreFew}
use Rattle.reh_inputs.specs.declared.gathered.GatherFault.{GatherFault}
use Rattle.reh_inputs.specs.declared.inputs.Input.{Input}
use Rattle.reh_inputs.specs.declared.ledgers.Reading.{Reading}
use Rattle.reh_inputs.specs.declared.ledgers.Reading.TheVariants.{Assumed}
use Rattle.reh_inputs.specs.declared.parts.Part.{Part}
use Rattle.reh_inputs.specs.Gathered.{assumed_of, is_held, ledgers_among, ledgers_in, reading_of}
use Rattle.reh_inputs.specs.Inputs.{of_picture}
use Rattle.reh_inputs.specs.Parts.{IsPart}
use Rattle.reh_inputs.specs.Uncounted.{AreFewIn, InputHasUnfit, IsPartFault, IsUnfitAt}
use Rattle.reh_inputs.proofs.FaultLaws.{IsCountFault-weaker, in_back, in_front}

-- where ledgers are no more than a census counts, some of them aren't
few_both : (holders : List ℕ) (gs hs : List Ledger) → AreFew holders (gs ++ hs) → AreFew holders gs × AreFew holders hs
few_both holders gs hs are =
    let entries : count_entries holders (gs ++ hs) (λ class. true)
    ≡ count_entries holders gs (λ class. true) + count_entries holders hs (λ class. true) =
    sum_by-append (count_ledger holders (λ class. true)) gs hs in
    let tails : count_tails (gs ++ hs) (λ tail. true) ≡ count_tails gs (λ tail. true) + count_tails hs (λ tail. true) =
    sum_by-append (λ (g : Ledger). count_by (λ tail. true) (tail_of g)) gs hs in
    let ensembles : count_ensembles (gs ++ hs) (λ members. true)
    ≡ count_ensembles gs (λ members. true) + count_ensembles hs (λ members. true) =
    sum_by-append (λ (g : Ledger). count_by (λ fragment. true) g.fragments) gs hs in (
      record {
        entries = omega (arith, are.entries, entries);
        tails = omega (arith, are.tails, tails);
        ensembles = omega (arith, are.ensembles, ensembles);
      },
      record {
        entries = omega (arith, are.entries, entries);
        tails = omega (arith, are.tails, tails);
        ensembles = omega (arith, are.ensembles, ensembles);
      },
    )

module _ (holders : List ℕ) (names : List (List ℕ)) (before behind : List Input) where
  ledgers_split : (reading : Reading)
      → ledgers_among names reading (before ++ behind) ≡ ledgers_among names reading before ++ ledgers_among names reading behind
  ledgers_split reading = flat_map-append (of_picture (ledgers_in names reading)) before behind

  assumed_split : (strict : Bool) → assumed_of strict holders names (before ++ behind)
      ≡ assumed_of strict holders names before + assumed_of strict holders names behind
  assumed_split true = refl
  assumed_split false =
      ap (λ (gs : List Ledger). count_entries holders gs is_held) (ledgers_split Assumed)
      ∙ sum_by-append (count_ledger holders is_held) (ledgers_among names Assumed before) (ledgers_among names Assumed behind)

  module _ (strict : Bool) (low high part : Part) (one : IsPart holders names strict before low)
      (other : IsPart holders names strict behind high) where
    pub IsPart-append : part.ledgers.items ≡ low.ledgers.items ++ high.ledgers.items
        → part.counts.entries.items ≡ low.counts.entries.items ++ high.counts.entries.items
        → part.counts.tails.items ≡ low.counts.tails.items ++ high.counts.tails.items
        → part.counts.ensembles.items ≡ low.counts.ensembles.items ++ high.counts.ensembles.items
        → part.assumed ≡ low.assumed + high.assumed → IsPart holders names strict (before ++ behind) part
    IsPart-append ledgers entries tails ensembles assumed =
        let gs = ledgers_among names (reading_of strict) before in
        let hs = ledgers_among names (reading_of strict) behind in
        let split = ledgers_split (reading_of strict) in
        record {
          ledgers = ledgers ∙ (λ i. one.ledgers i ++ other.ledgers i) ∙ sym split;
          entries = λ test.
              ap (λ (xs : List Counted). count_in xs test) entries
              ∙ sum_by-append (λ (c : Counted). cond (test c.class) c.count 0) low.counts.entries.items high.counts.entries.items
              ∙ (λ i. one.entries test i + other.entries test i)
              ∙ sym (ap (λ (xs : List Ledger). count_entries holders xs test) split
              ∙ sum_by-append (count_ledger holders test) gs hs);
          tails = λ test.
              ap (λ (xs : List CountedTail). count_tails_in xs test) tails
              ∙ sum_by-append (λ (c : CountedTail). cond (test c.tail) c.count 0) low.counts.tails.items high.counts.tails.items
              ∙ (λ i. one.tails test i + other.tails test i)
              ∙ sym (ap (λ (xs : List Ledger). count_tails xs test) split
              ∙ sum_by-append (λ (g : Ledger). count_by test (tail_of g)) gs hs);
          ensembles = λ test.
              ap (λ (xs : List CountedEnsemble). count_ensembles_in xs test) ensembles
              ∙ sum_by-append (λ (c : CountedEnsemble). cond (test c.members) c.count 0) low.counts.ensembles.items
              high.counts.ensembles.items
              ∙ (λ i. one.ensembles test i + other.ensembles test i)
              ∙ sym (ap (λ (xs : List Ledger). count_ensembles xs test) split
              ∙ sum_by-append (λ (g : Ledger). count_by (λ fragment. test (in_order fragment.ensemble)) g.fragments) gs hs);
          well_formed =
              subst (λ (xs : List CountedTail). All (λ t. IsTail t.tail) xs) (sym tails)
              (All-append (λ (t : CountedTail). IsTail t.tail) low.counts.tails.items high.counts.tails.items one.well_formed
              other.well_formed);
          assumed = assumed ∙ (λ i. one.assumed i + other.assumed i) ∙ sym (assumed_split strict);
        }

  -- Why the inputs of both can't be counted

  module _ (strict : Bool) where
    few_ledgers : AreFewIn holders names strict (before ++ behind)
        → AreFew holders (ledgers_among names (reading_of strict) before)
        × AreFew holders (ledgers_among names (reading_of strict) behind)
    few_ledgers are =
        few_both holders (ledgers_among names (reading_of strict) before) (ledgers_among names (reading_of strict) behind)
        (subst (λ (gs : List Ledger). AreFew holders gs) (ledgers_split (reading_of strict)) are.counts)

    few_front : AreFewIn holders names strict (before ++ behind) → AreFewIn holders names strict before
    few_front are = record {
      counts = (few_ledgers are).0;
      assumed = omega (arith, are.assumed, assumed_split strict);
    }

    few_back : AreFewIn holders names strict (before ++ behind) → AreFewIn holders names strict behind
    few_back are = record {
      counts = (few_ledgers are).1;
      assumed = omega (arith, are.assumed, assumed_split strict);
    }

    pub fault_front : (first : ℕ) (fault : GatherFault) → IsPartFault holders names strict first before fault
        → IsPartFault holders names strict first (before ++ behind) fault
    fault_front first =
        IsCountFault-weaker (AreFewIn holders names strict before) (AreFewIn holders names strict (before ++ behind))
        (IsUnfitAt names (reading_of strict) first before)
        (IsUnfitAt names (reading_of strict) first (before ++ behind)) few_front
        (λ input id is. (
          is.0,
          is.1,
          in_front (λ one. InputHasUnfit names (reading_of strict) one id) before behind is.0 is.2,
        ))

    pub fault_back : (first next : ℕ) → next ≡ first + length before → (fault : GatherFault)
        → IsPartFault holders names strict next behind fault
        → IsPartFault holders names strict first (before ++ behind) fault
    fault_back first next from =
        IsCountFault-weaker (AreFewIn holders names strict behind) (AreFewIn holders names strict (before ++ behind))
        (IsUnfitAt names (reading_of strict) next behind)
        (IsUnfitAt names (reading_of strict) first (before ++ behind)) few_back
        (λ input id is. (
          length before + is.0,
          omega (arith, from, is.1),
          in_back (λ one. InputHasUnfit names (reading_of strict) one id) before behind is.0 (length before + is.0) refl is.2,
        ))

    -- more rest on an assumption than a census counts
    pub too_many_assumed : (low high : Part) → IsPart holders names strict before low → IsPart holders names strict behind high
        → 2 ^ 63 < low.assumed + high.assumed → AreFewIn holders names strict (before ++ behind) → ⊥
    too_many_assumed low high one other over are =
        omega (arith, over, are.assumed, assumed_split strict, one.assumed, other.assumed)
