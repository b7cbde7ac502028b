use Rattle.std.proofs.Common.{◌≡◌, List, ℕ, length, ap, sym, subst, arith}
use Rattle.reh_census.specs.Copies.{EachOnce}
use Rattle.reh_census.proofs.ledgers.is_fragment.Goals as goal

pub returns : goal.returns
returns c =
    let same : c.as_slice-names.result.now ≡ c.args.fragment.now.ensemble = c.as_slice-names.ensures in (
      λ told. record {
        some = omega (arith, c.if-size-lt1.false);
        order = omega (arith, c.if-fragment.false);
        stop = omega (arith, c.if-fragment-2.false);
        whole = omega (arith, c.if-names-size.false, ap length same);
        once = subst (λ (names : List ℕ). EachOnce names) same (c.are_different.ensures.0 told);
      },
      λ is. c.are_different.ensures.1 (subst (λ (names : List ℕ). EachOnce names) (sym same) is.once),
    )
