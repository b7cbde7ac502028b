-- One flag more.
use Rattle.std.proofs.Common.{◌≡◌, ◌∙◌, ◌+◌, ◌<◌, ◌++◌, ◌∷◌, [], ℕ, Bool, false, List, Option, ap, arith, get_or, length, map, sym, take}
use Rattle.std.specs.Option.{option_map_or}
use Rattle.std.proofs.lemmas.List.{map_push, take_more}
use Rattle.std.proofs.lemmas.Option.{slice_get-get_or}
use Rattle.reh_inventory_plan.specs.Asked.{passes}
use Rattle.reh_inventory_plan.specs.Pictures.{is_named}
use Rattle.reh_inventory_plan.proofs.flags.named_flags.Goals as goal

flag_more : (pass : List ℕ → Bool) (names : List (List ℕ)) (n : ℕ) → n < length names
    → map pass (take n names) ++ is_named names pass n ∷ [] ≡ map pass (take (n + 1) names)
flag_more pass names n within =
    sym (
    ap (map pass) (take_more names n [] within)
    ∙ map_push pass (take n names) (get_or names n [])
    ∙ ap (λ (o : Option (List ℕ)). map pass (take n names) ++ option_map_or pass o false ∷ []) (sym (slice_get-get_or names n [] within))
    )

pub loop-number-preserved : goal.loop-number-preserved
loop-number-preserved c =
    let n : ℕ = c.loop-number.number in
    let within : n < length c.args.names.now = omega (arith, c.loop-number-test.true, c.len-number-end.ensures.count) in
    c.in_ok-push.ensures.items
    ∙ (λ i. c.loop-number.invariant i ++ c.is_named.ensures i ∷ [])
    ∙ flag_more (passes c.args.words.now c.args.any_if_none) c.args.names.now n within
