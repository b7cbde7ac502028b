-- No class that is passed has more, and the most is no more than any number that has this.
use Rattle.std.proofs.Common.{ℕ, ◌≤◌, length, take}
use Rattle.std.specs.Prelude.{All}
use Rattle.reh_rules.proofs.copies.most_copies.Given as goal

abbrev pub invariant-loop-counted : goal.invariant-loop-counted
invariant-loop-counted l = record {
  most : All (λ c. length c.class.known ≤ l.most) (take l.counted-index l.census);
  least : (k : ℕ) → All (λ c. length c.class.known ≤ k) l.census → l.most ≤ k;
}
