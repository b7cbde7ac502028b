-- The metadata that a writer's ensemble change makes.
use Rattle.std.proofs.Common.{◌≡◌, ◌≢◌, ◌-◌, ℕ, Bool, true, false, not, length, sym, ap, ◌∙◌, arith, if◌then◌else◌}
use Rattle.std.specs.Prelude.{◌==◌}
use Rattle.std.proofs.lemmas.Bool.Decides.{nat_tests}
use Rattle.reh_model.specs.Metadata.{Metadata, last_fragment, with_member_at, with_fragment_at, next_version}
use Rattle.reh_model.specs.Cluster.{Cluster, Ledger}
use Rattle.reh_model.specs.Recovery.{next_entry, is_rolling_over}
use Rattle.reh_model.specs.Step.{rolled_metadata}

module _ (s : Cluster) (g : Ledger) (next first : ℕ) (is : next ≡ next_entry s g) (last : first ≡ (last_fragment g.metadata).first) where
  -- a new fragment is needed where the next entry is not the last one's first,
  rolls_over : next ≢ first → is_rolling_over s g ≡ true
  rolls_over apart =
      let other : (next_entry s g == (last_fragment g.metadata).first) ≡ false =
      grind (arith, nat_tests) in ap not other

  -- and none where it is
  rolls_in_place : next ≡ first → is_rolling_over s g ≡ false
  rolls_in_place tied =
      let same : (next_entry s g == (last_fragment g.metadata).first) ≡ true = grind (arith, nat_tests) in ap not same

  module _ (i b : ℕ) (m n : Metadata) (stored : m ≡ g.metadata) where
    abbrev made : Bool → Metadata
    made over =
        next_version (if over then with_fragment_at g.metadata (next_entry s g) i b else with_member_at g.metadata (length g.metadata.fragments - 1) i b)

    -- the metadata that is made with a new fragment,
    pub rolled_over : next ≢ first → n ≡ next_version (with_fragment_at m next i b)
        → n ≡ next_version (rolled_metadata s i b g)
    rolled_over apart new =
        new ∙ (λ j. next_version (with_fragment_at (stored j) (is j) i b)) ∙ sym (ap made (rolls_over apart))

    -- and without one
    pub rolled_in_place : (last : ℕ) → last ≡ length g.metadata.fragments - 1 → next ≡ first
        → n ≡ next_version (with_member_at m last i b) → n ≡ next_version (rolled_metadata s i b g)
    rolled_in_place k there tied new =
        new ∙ (λ j. next_version (with_member_at (stored j) (there j) i b)) ∙ sym (ap made (rolls_in_place tied))
