-- One entry more, or one that fails.
use Rattle.std.proofs.Common.{◌∙◌, ◌-◌, ◌≡◌, ℕ, Bool, ap, arith, inl, inr, sym}
use Rattle.std.specs.Prelude.{option_copied}
use Rattle.std.specs.List.{list_all, range_with_len}
use Rattle.std.proofs.lemmas.Bool.{cases_lt}
use Rattle.reh_census.proofs.RangeLaws.{one_fails}
use Rattle.reh_cut.specs.Cuts.{shows_entry}
use Rattle.reh_cut.proofs.RangeLaws.{next_from}
use Rattle.reh_cut.proofs.checks.show_entries.Goals as goal

pub loop-entry-preserved : goal.loop-entry-preserved
loop-entry-preserved c =
    next_from (shows_entry c.args.rules c.args.striping.now (option_copied c.args.content) (option_copied c.args.holding))
    c.args.first c.loop-entry.entry c.loop-entry.auto.entry c.loop-entry.invariant
    (sym c.shows_entry.ensures ∙ c.if-not-shows_entry.false)

pub returns-then-not-shows_entry : goal.returns-then-not-shows_entry
returns-then-not-shows_entry c =
    sym (one_fails
    (shows_entry c.args.rules c.args.striping.now (option_copied c.args.content) (option_copied c.args.holding))
    c.args.first (c.args.end - c.args.first) c.loop-entry.entry c.loop-entry.auto.entry
    (omega (arith, c.loop-entry-test.true, c.loop-entry.auto.entry))
    (sym c.shows_entry.ensures ∙ c.if-not-shows_entry.true))

-- where the end is below the first entry, there is none
pub returns : goal.returns
returns c =
    let passes : ℕ → Bool =
    shows_entry c.args.rules c.args.striping.now (option_copied c.args.content) (option_copied c.args.holding) in
    elim (cases_lt c.args.end c.args.first) [
      | inl below ↦
          let none : c.args.end - c.args.first ≡ 0 = omega (arith, below) in
          sym (ap (λ n. list_all passes (range_with_len c.args.first n)) none)
      | inr above ↦
          let all : c.loop-entry.entry ≡ c.args.end = omega (arith, c.loop-entry-test.false, c.loop-entry.auto.entry-end above) in
          sym c.loop-entry.invariant ∙ ap (λ n. list_all passes (range_with_len c.args.first (n - c.args.first))) all
    ]
