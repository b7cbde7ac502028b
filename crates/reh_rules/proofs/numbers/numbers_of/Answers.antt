use Rattle.std.proofs.Common.{◌≡◌, ◌∙◌, ◌+◌, ◌≤◌, ℕ, Bool, List, cond, ap, arith}
use Rattle.std.specs.List.{list_any}
use Rattle.std.proofs.lemmas.List.Sums.{sum_by-le-sum_by}
use Rattle.reh_census.specs.declared.censuses.CountedEnsemble.{CountedEnsemble}
use Rattle.reh_census.specs.declared.censuses.CountedTail.{CountedTail}
use Rattle.reh_census.specs.declared.questions.Question.{Question}
use Rattle.reh_census.specs.Bookies.{Bookies, bookies_of, holders, is_flagged}
use Rattle.reh_census.specs.Counting.{count_ensembles_in, count_in, count_tails_in, not_judged, tails_in}
use Rattle.reh_census.specs.Tails.{breaks_new_ledgers, breaks_replaceable, breaks_writable, takes_disk}
use Rattle.reh_census.proofs.CountingLaws.{census-numbers}
use Rattle.reh_rules.specs.declared.entries.Entries.{Entries}
use Rattle.reh_rules.specs.declared.tails.Tails.{Tails}
use Rattle.reh_rules.specs.declared.writers.Room.{Room}
use Rattle.reh_rules.specs.Entries.{entries_of}
use Rattle.reh_rules.specs.Room as rooms
use Rattle.reh_rules.proofs.RangeTests.{some_count}
use Rattle.reh_rules.proofs.numbers.numbers_of.Goals as goal

pub overflow_add-writable : goal.overflow_add-writable
overflow_add-writable c =
    let test : CountedTail → Bool =
    λ x. breaks_writable (bookies_of c.args.bookies.now) c.args.question.now (is_flagged c.args.stopped.now) x.tail in
    let within : count_tails_in c.tails.result.now (breaks_writable (bookies_of c.args.bookies.now) c.args.question.now (is_flagged c.args.stopped.now))
    ≤ tails_in c.tails.result.now =
    sum_by-le-sum_by (λ x. cond (test x) x.count 0) (λ x. x.count) c.tails.result.now (λ x. some_count (test x) x.count) in
    omega (arith, within, ap (λ (t : Tails). t.writable) c.count_tails-tails.ensures, c.tails.ensures.within, c.one_if-new_ledgers.ensures.within)

pub returns-clause-census : goal.returns-clause-census
returns-clause-census c =
    let s : ℕ → Bool = is_flagged c.args.stopped.now in
    let bookies : Bookies = bookies_of c.args.bookies.now in
    let question : Question = c.args.question.now in
    let entries : c.count_entries-entries.result
    ≡ entries_of (count_in c.args.census.now.entries) question.keep (list_any (takes_disk bookies question s) bookies.names) s =
    c.count_entries-entries.ensures
    ∙ (λ i. entries_of (count_in (c.entries.ensures.entries i)) question.keep (c.takes_some_disk-takes_disk.ensures i) s) in
    let tails : c.count_tails-tails.result ≡ rooms.tails_of (count_tails_in c.args.census.now.tails) bookies question s =
    c.count_tails-tails.ensures
    ∙ (λ i. rooms.tails_of (count_tails_in (c.tails.ensures.tails i)) bookies question s) in
    let new_ledgers : c.one_if-new_ledgers.result ≡ cond (breaks_new_ledgers bookies question s) 1 0 =
    c.one_if-new_ledgers.ensures.value
    ∙ ap (λ (b : Bool). cond {A = ℕ} b 1 0)
    (c.loses_new_ledgers.ensures ∙ ap (λ (room : Room). rooms.breaks_new_ledgers room question) c.room_of-room.ensures) in
    let places : c.count_places-replaceable.result
    ≡ count_ensembles_in c.args.census.now.ensembles (breaks_replaceable bookies question s) =
    c.count_places-replaceable.ensures
    ∙ ap (λ (es : List CountedEnsemble). count_ensembles_in es (breaks_replaceable bookies question s)) c.ensembles.ensures.ensembles in
    λ i. record {
      readable = record { no = (ap (λ (e : Entries). e.lost) entries) i; unknown = (ap (λ (e : Entries). e.may_be_lost) entries) i };
      kept = record { no = (ap (λ (e : Entries). e.fallen) entries) i; unknown = (ap (λ (e : Entries). e.may_be_fallen) entries) i };
      recoverable = (ap (λ (t : Tails). t.recoverable) tails) i;
      writable = (ap (λ (t : Tails). t.writable) tails) i + new_ledgers i;
      replaceable = places i;
      disks = (ap (λ (e : Entries). e.on_disk) entries) i;
      not_judged = c.not_judged.ensures i;
    }

pub returns-clause-ledgers : goal.returns-clause-ledgers
returns-clause-ledgers c ledgers counts =
    returns-clause-census c
    ∙ census-numbers c.args.census.now (holders (bookies_of c.args.bookies.now)) ledgers (bookies_of c.args.bookies.now) c.args.question.now
    (not_judged c.args.census.now.judged) (is_flagged c.args.stopped.now) counts
