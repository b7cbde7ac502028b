use Rattle.std.proofs.Common.{◌≡◌, ◌∙◌, ◌<◌, ◌++◌, ap, sym, refl, subst, ℕ, List, [], Option, length, get_or}
use Rattle.std.specs.Prelude.{OnOk, slice_get, string_bytes}
use Rattle.std.specs.Option.{option_map_or}
use Rattle.std.proofs.lemmas.Option.{slice_get_read}
use Rattle.reh_model.specs.Cluster.{Cluster, Ledger}
use Rattle.reh_model.specs.Places.{Change, IsThere}
use Rattle.reh_changes.specs.Changes.{lines_of, metadata_lines, of_ledger, task_line}
use Rattle.reh_changes.proofs.places.push_change.Goals as goal

-- what is printed of a ledger that is there
there : (s : Cluster) (place : ℕ) (ledgers : List Ledger) (g : Ledger) (text : Ledger → List ℕ)
    → ledgers ≡ s.parts.ledgers → place < length ledgers → g ≡ get_or ledgers place g → text g ≡ of_ledger s place text
there s place ledgers g text same within is =
    sym (ap (λ (ledgers : List Ledger). option_map_or text (slice_get ledgers place) []) (sym same)
    ∙ ap (λ (found : Option Ledger). option_map_or text found [])
    (slice_get_read ledgers (length ledgers) place g refl within is))

pub returns-in-Some : goal.returns-in-Some
returns-in-Some c =
    let s : Cluster = c.args.state.now in
    let g : Ledger = c.in-Some.ledger.now in
    subst (λ (lines : List ℕ). OnOk c.push_metadata.result
    (string_bytes c.push_metadata.new.text ≡ string_bytes c.args.text.now ++ lines))
    (ap (λ (names : List (List ℕ)). metadata_lines names g.id c.in-Metadata.metadata g.metadata) c.names.ensures.names
    ∙ there s c.in-Metadata.place c.ledgers.result.now g
    (λ g. metadata_lines s.names g.id c.in-Metadata.metadata g.metadata) c.ledgers.ensures.ledgers
    c.in-Some.ensures.lookup.3.0 c.in-Some.ensures.lookup.1
    ∙ ap (lines_of s) (sym c.in-Metadata.is)) c.push_metadata.ensures

pub returns-in-Some-get : goal.returns-in-Some-get
returns-in-Some-get c =
    let s : Cluster = c.args.state.now in
    let g : Ledger = c.in-Some-get.ledger.now in
    subst (λ (lines : List ℕ). OnOk c.push_task.result
    (string_bytes c.push_task.new.text ≡ string_bytes c.args.text.now ++ lines))
    ((λ i. task_line (c.names-in-Some-get.ensures.names i) (c.as_ref.ensures.value i) g)
    ∙ there s c.in-Task.place c.ledgers-in-Task.result.now g (task_line s.names c.in-Task.task)
    c.ledgers-in-Task.ensures.ledgers c.in-Some-get.ensures.lookup.3.0 c.in-Some-get.ensures.lookup.1
    ∙ ap (lines_of s) (sym c.in-Task.is)) c.push_task.ensures

pub push_word-requires : goal.push_word-requires
push_word-requires c =
    (subst (λ (change : Change). IsThere c.args.state.now change) c.in-Word.is c.requires).1
