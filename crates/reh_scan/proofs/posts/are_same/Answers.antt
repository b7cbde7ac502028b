-- Where no bit differs, none differed before, and the two sources have one number.
use Rattle.std.proofs.Common.{◌≡◌, ◌∙◌, ◌∷◌, ap, sym, arith, length, List, ℕ, Option}
use Rattle.std.specs.Iterator.Adapters.{zip_first}
use Rattle.std.specs.Slice.Iter.{iter_rest}
use Rattle.reh_scan.specs.Posts.{source_of}
use Rattle.reh_scan.proofs.PostLaws.{none_differing}
use Rattle.reh_scan.proofs.posts.are_same.Goals as goal

pub loop-source-preserved : goal.loop-source-preserved
loop-source-preserved c =
    let source : Option ℕ = c.in-Some.source.now in
    let other : Option ℕ = c.in-Some.other.now in
    let rest : List (Option ℕ) = iter_rest (zip_first c.next.new.self) in
    let steps = c.in-Some.ensures.steps in
    record {
      same = λ none left.
          let none_yet = none_differing c.loop-source.differing c.code_of.result c.code_of-in-loop-source.result none in
          let one : source ≡ other =
          c.code_of.ensures ∙ ap source_of none_yet.1 ∙ sym c.code_of-in-loop-source.ensures in
          c.loop-source.invariant.same none_yet.0
          (steps.0 ∙ ap (λ (s : Option ℕ). s ∷ rest) one ∙ ap (λ (zs : List (Option ℕ)). other ∷ zs) left ∙ sym steps.1);
      long =
          omega (
            arith,
            c.loop-source.invariant.long,
            ap (λ (zs : List (Option ℕ)). length zs) steps.0,
            ap (λ (zs : List (Option ℕ)). length zs) steps.1,
          );
    }
