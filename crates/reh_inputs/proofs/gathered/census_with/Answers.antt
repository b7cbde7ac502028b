-- What was counted of the ledgers and of the files adds up.
use Rattle.std.proofs.Common.{◌∙◌, ◌++◌, Err, List, cond, ap, subst, sym}
use Rattle.std.proofs.lemmas.List.Sums.{sum_by-append}
use Rattle.reh_census.specs.declared.censuses.CountedEnsemble.{CountedEnsemble}
use Rattle.reh_census.specs.declared.censuses.CountedTail.{CountedTail}
use Rattle.reh_census.specs.declared.classes.Counted.{Counted}
use Rattle.reh_census.specs.Counting.{Census as Counts, count_ensembles_in, count_in, count_tails_in, judged_sum}
use Rattle.reh_tally.specs.Few.{AreFewCounts}
use Rattle.reh_inputs.specs.Gathered.{fault_of_tally}
use Rattle.reh_inputs.specs.Renumbered.{files_of}
use Rattle.reh_inputs.specs.Uncounted.{AreFewWith, IsFewJudged}
use Rattle.reh_inputs.proofs.FaultLaws.{IsCountFault-tally, IsCountFault-weaker, not_too_many, passed_on}
use Rattle.reh_inputs.proofs.gathered.census_with.Goals as goal

pub returns-clause-entries : goal.returns-clause-entries
returns-clause-entries c test =
    c.in_ok-census.ensures.entries test
    ∙ ap (λ (xs : List Counted). count_in xs test) c.in_ok-add_files.ensures.entries
    ∙ sum_by-append (λ (x : Counted). cond (test x.class) x.count 0) c.args.own.entries.items
    (files_of c.args.names.now c.args.inputs.now).entries

pub returns-clause-tails : goal.returns-clause-tails
returns-clause-tails c test =
    c.in_ok-census.ensures.tails test
    ∙ ap (λ (xs : List CountedTail). count_tails_in xs test) c.in_ok-add_files.ensures.tails
    ∙ sum_by-append (λ (x : CountedTail). cond (test x.tail) x.count 0) c.args.own.tails.items
    (files_of c.args.names.now c.args.inputs.now).tails

pub returns-clause-ensembles : goal.returns-clause-ensembles
returns-clause-ensembles c test =
    c.in_ok-census.ensures.ensembles test
    ∙ ap (λ (xs : List CountedEnsemble). count_ensembles_in xs test) c.in_ok-add_files.ensures.ensembles
    ∙ sum_by-append (λ (x : CountedEnsemble). cond (test x.members) x.count 0) c.args.own.ensembles.items
    (files_of c.args.names.now c.args.inputs.now).ensembles

pub returns-in_err-judged-clause-fault : goal.returns-in_err-judged-clause-fault
returns-in_err-judged-clause-fault c =
    let fault = c.in_err-judged.field-0.0 in
    passed_on _ _ c.from_residual.result fault c.from_residual.ensures.1
    (IsCountFault-weaker (IsFewJudged (judged_sum c.args.judged (files_of c.args.names.now c.args.inputs.now).judged))
    (AreFewWith c.args.own.entries.items c.args.own.tails.items c.args.own.ensembles.items c.args.judged
    (files_of c.args.names.now c.args.inputs.now))
    (λ input id. ⊥) (λ input id. ⊥) (λ are. are.judged) (λ input id no. no) fault
    c.in_err-judged.ensures.fault)

pub returns-in_err-census-clause-fault : goal.returns-in_err-census-clause-fault
returns-in_err-census-clause-fault c =
    let tally = c.in_err-census.field-0.0 in
    let added = c.in_ok-add_files.ensures in
    passed_on _ _ c.from_residual-in_err-census.result (fault_of_tally tally) c.from_residual-in_err-census.ensures.1
    (IsCountFault-tally
    (AreFewWith c.args.own.entries.items c.args.own.tails.items c.args.own.ensembles.items c.args.judged
    (files_of c.args.names.now c.args.inputs.now))
    (λ input id. ⊥) tally
    (λ same are.
    (c.in_err-census.ensures.too_many).0 (ap Err same)
    (subst (λ (tails : List CountedTail). AreFewCounts c.add_files.new.counts.entries.items tails c.add_files.new.counts.ensembles.items)
    (sym added.tails)
    (subst (λ (entries : List Counted).
    AreFewCounts entries (c.args.own.tails.items ++ (files_of c.args.names.now c.args.inputs.now).tails)
    c.add_files.new.counts.ensembles.items)
    (sym added.entries)
    (subst (λ (ensembles : List CountedEnsemble).
    AreFewCounts (c.args.own.entries.items ++ (files_of c.args.names.now c.args.inputs.now).entries)
    (c.args.own.tails.items ++ (files_of c.args.names.now c.args.inputs.now).tails) ensembles)
    (sym added.ensembles) are.counts)))))

pub returns-clause-few : goal.returns-clause-few
returns-clause-few c =
    let added = c.in_ok-add_files.ensures in
    let files : Counts = files_of c.args.names.now c.args.inputs.now in
    record {
      counts =
          subst (λ (entries : List Counted).
          AreFewCounts entries (c.args.own.tails.items ++ files.tails) (c.args.own.ensembles.items ++ files.ensembles))
          added.entries
          (subst (λ (tails : List CountedTail).
          AreFewCounts c.add_files.new.counts.entries.items tails (c.args.own.ensembles.items ++ files.ensembles))
          added.tails
          (subst (λ (ensembles : List CountedEnsemble).
          AreFewCounts c.add_files.new.counts.entries.items c.add_files.new.counts.tails.items ensembles)
          added.ensembles
          (not_too_many c.add_files.new.counts.entries.items c.add_files.new.counts.tails.items
          c.add_files.new.counts.ensembles.items
          (λ too_many. let never = (c.in_ok-census.ensures.too_many).1 too_many in cc))));
      judged = subst IsFewJudged c.in_ok-judged.ensures.sum c.in_ok-judged.ensures.few;
    }
