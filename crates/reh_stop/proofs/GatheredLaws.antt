-- What inputs show together: each bookie is shown, and the census counts the ledgers of all.
use Rattle.std.proofs.Common.{◌≡◌, ◌∙◌, ◌++◌, ap, sym, subst, Bool, List, length}
use Rattle.std.proofs.lemmas.List.{length-map}
use Rattle.reh_census.specs.declared.bookies.Bookie.{Bookie}
use Rattle.reh_census.specs.Bookies.{bookies_of, holders}
use Rattle.reh_census.specs.Counting.{IsCensus}
use Rattle.reh_census.specs.Ledgers.{Ledger}
use Rattle.reh_inputs.specs.Cluster.{Cluster, bookie_of}
use Rattle.reh_inputs.specs.Gathered.{Gathers, assumed_of, holders_of, ledgers_of, reading_of}
use Rattle.reh_inputs.specs.Renumbered.{files_of}
use Rattle.reh_inputs.specs.United.{united}
use Rattle.reh_inputs.specs.declared.inputs.Input.{Input}
use Rattle.reh_inputs.specs.declared.together.Gathered.{Gathered}
use Rattle.reh_inputs.proofs.AddLaws.{IsCensus-adds}
use Rattle.reh_stop.specs.Together.{AreLedgersOf}

pub each_shown : (inputs : List Input) (strict : Bool) (g : Gathered) → Gathers inputs strict g
    → length g.bookies ≡ length g.cluster.shown
each_shown inputs strict g gathers =
    ap length gathers.bookies ∙ length-map (united inputs).shown (bookie_of (united inputs).shown)
    ∙ sym (ap (λ (cluster : Cluster). length cluster.shown) gathers.cluster)

pub all_counted : (g : Gathered) (ledgers : List Ledger) → AreLedgersOf g ledgers
    → IsCensus g.census (holders (bookies_of g.bookies)) ledgers
all_counted g ledgers are =
    let inputs = are.inputs in
    let own = ledgers_of (reading_of are.strict) inputs in
    let assumed = assumed_of are.strict (holders_of inputs) (united inputs).names inputs in
    let named : IsCensus (files_of (united inputs).names inputs) (holders (bookies_of g.bookies)) are.others =
    subst (λ (cluster : Cluster). IsCensus (files_of cluster.names inputs) (holders (bookies_of g.bookies)) are.others)
    are.gathers.cluster are.counted in
    let held : IsCensus (files_of (united inputs).names inputs) (holders_of inputs) are.others =
    subst (λ (bookies : List Bookie). IsCensus (files_of (united inputs).names inputs) (holders (bookies_of bookies)) are.others)
    are.gathers.bookies named in
    let all : IsCensus g.census (holders_of inputs) (own ++ are.others) =
    IsCensus-adds g.census (files_of (united inputs).names inputs) (holders_of inputs) own are.others assumed are.gathers.counts
    are.gathers.judged held in
    subst (λ (gs : List Ledger). IsCensus g.census (holders (bookies_of g.bookies)) gs) (sym are.all)
    (subst (λ (bookies : List Bookie). IsCensus g.census (holders (bookies_of bookies)) (own ++ are.others))
    (sym are.gathers.bookies) all)
