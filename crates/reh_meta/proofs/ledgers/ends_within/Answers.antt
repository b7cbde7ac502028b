-- Where the ledger is closed and has a last fragment, the test compares its first entry with the end.
use Rattle.std.proofs.Common.{◌≡◌, Option, Some, true, ◌∙◌, ap, nat_le, ℕ}
use Rattle.std.specs.Option.{option_map_or}
use Rattle.reh_model.specs.Metadata.{Fragment, last_of}
use Rattle.reh_meta.proofs.ledgers.ends_within.Goals as goal

pub returns-in-Some-Some : goal.returns-in-Some-Some
returns-in-Some-Some c =
    let found : Some c.in-Some-Some.last.now ≡ last_of c.args.fragments.now = c.in-Some-Some.ensures'.value in
    ap (λ (last : Fragment). nat_le last.first c.in-Some-Some.end) c.last-in-Some-Some.view_is
    ∙ ap (λ (o : Option Fragment). option_map_or (λ last. nat_le last.first c.in-Some-Some.end) o true) found
    ∙ ap (λ (o : Option ℕ).
    option_map_or (λ end. option_map_or (λ last. nat_le last.first end) (last_of c.args.fragments.now) true) o true)
    c.in-Some-Some.ensures
