-- None of the sources that are left is lost, where no entry or no source is left.
use Rattle.std.proofs.Common.{◌≡◌, ◌∙◌, ℕ, List, Option, None, map, inl, inr}
use Rattle.std.specs.List.{zip}
use Rattle.std.specs.Iterator.Adapters.{zip_first, zip_second}
use Rattle.std.specs.Slice.Iter.{iter_rest}
use Rattle.reh_types.specs.declared.refusals.Refusal.{Refusal}
use Rattle.reh_model.specs.Checks.{first_reason}
use Rattle.reh_scan.specs.Posts.{lost_bit}
use Rattle.reh_scan.proofs.PostLaws.{lost-no_entry, lost-no_source}
use Rattle.reh_scan.proofs.posts.check_word.Goals as goal

pub returns : goal.returns
returns c =
    let lost : ℕ × Option ℕ → Option Refusal = lost_bit c.args.copies.now in
    let entries : List ℕ = zip_first c.loop-entry.entry-iterator in
    let sources : List (Option ℕ) = iter_rest (zip_second c.loop-entry.entry-iterator) in
    let none : first_reason (map lost (zip entries sources)) ≡ None = elim c.in-None.ensures.steps [
      | inl ended ↦ lost-no_entry lost entries sources ended.1.0
      | inr ended ↦ lost-no_source lost entries sources ended.1.0
    ] in
    c.loop-entry.invariant ∙ none
