-- A copy is well-formed as the state is.
use Rattle.std.proofs.Common.{◌≡◌, ◌∙◌, ℕ, List, [], ◌∷◌, refl, ap}
use Rattle.std.specs.List.{AllZip}
use Rattle.reh_cluster.proofs.states.State.clone_in.Goals as goal

same : (xs ys : List ℕ) → AllZip (λ x y. y ≡ x) xs ys → ys ≡ xs
same [] [] h = refl
same [] (y ∷ ys) h = absurd h
same (x ∷ xs) [] h = absurd h
same (x ∷ xs) (y ∷ ys) h = ap (λ v. v ∷ ys) h.0 ∙ ap (λ vs. x ∷ vs) (same xs ys h.1)

pub invariant_of-result : goal.invariant_of-result
invariant_of-result c = record {
  cluster = rw (c.in_ok-clone_in.ensures, c.in_ok-clone_in-2.ensures) c.self.invariant.cluster;
  ids = rw (c.in_ok-clone_in-2.ensures) (same _ _ c.in_ok-clone.ensures.cases ∙ c.self.invariant.ids);
  bookies = rw (c.in_ok-clone_in.ensures, c.in_ok-clone_in-2.ensures) c.self.invariant.bookies;
}
