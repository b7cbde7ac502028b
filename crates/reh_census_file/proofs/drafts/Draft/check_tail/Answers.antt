use Rattle.std.proofs.Common.{◌≡◌, ◌≤◌, ℕ, Bool, true, false, length, refl, rules, arith}
use Rattle.std.specs.Prelude.{◌&&◌, nat_le}
use Rattle.std.proofs.lemmas.Bool.Decides.{nat_tests}
use Rattle.reh_census.specs.Tails.{IsTail}
use Rattle.reh_census.specs.declared.censuses.Tail.{Tail}
use Rattle.reh_census_file.specs.Canonical.{are_sizes}
use Rattle.reh_census_file.proofs.drafts.Draft.check_tail.Goals as goal

both : (a b : Bool) → (a && b) ≡ true → (a ≡ true) × (b ≡ true)
both true b e = (refl, e)
both false b e = absurd cc

below : (a b : ℕ) → nat_le a b ≡ true → a ≤ b
below a b e = grind (arith, nat_tests)

fits : (tail : Tail) → are_sizes tail ≡ true → length tail.ensemble ≡ tail.size → IsTail tail
fits tail sizes whole =
    let a = both (nat_le 1 tail.ack_quorum) (nat_le tail.ack_quorum tail.write_quorum && (nat_le tail.write_quorum tail.size && nat_le tail.size 64)) sizes in
    let b = both (nat_le tail.ack_quorum tail.write_quorum) (nat_le tail.write_quorum tail.size && nat_le tail.size 64) a.1 in
    let d = both (nat_le tail.write_quorum tail.size) (nat_le tail.size 64) b.1 in
    record {
      some_acks = below 1 tail.ack_quorum a.0;
      acks_within = below tail.ack_quorum tail.write_quorum b.0;
      writes_within = below tail.write_quorum tail.size d.0;
      small = below tail.size 64 d.1;
      whole = whole;
    }

pub returns-clause-well_formed : goal.returns-clause-well_formed
returns-clause-well_formed c =
    let sizes : are_sizes c.args.counted.now.tail ≡ true = search rules in
    fits c.args.counted.now.tail sizes c.requires
