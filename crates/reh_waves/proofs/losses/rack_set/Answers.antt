use Rattle.std.proofs.Common.{◌≡◌, ◌∙◌, ◌++◌, ◌∷◌, ◌-◌, ◌+◌, [], ℕ, Bool, List, map, ap, sym, length, arith}
use Rattle.std.proofs.lemmas.List.FromFn.{length-map-range_with_len, map-range_with_len_more}
use Rattle.reh_census.specs.Bookies.{bookies_of, is_flagged}
use Rattle.reh_waves.specs.Losses.{stopped_by}
use Rattle.reh_waves.specs.declared.losses.Lost.TheVariants.{Rack}
use Rattle.reh_waves.proofs.SetLaws.{flags-within, rack-within}
use Rattle.reh_waves.proofs.losses.rack_set.Goals as goal

pub loop-bookie-preserved : goal.loop-bookie-preserved
loop-bookie-preserved c =
    let f : ℕ → Bool = stopped_by (bookies_of c.args.bookies.now) (Rack c.args.rack) in
    let long : (c.loop-bookie.bookie - 0) + 1 ≡ c.loop-bookie.bookie + 1 - 0 = omega arith in
    c.in_ok-push.ensures.items
    ∙ (λ i. c.loop-bookie.invariant i ++ c.is_in_rack.ensures i ∷ [])
    ∙ sym (map-range_with_len_more f 0 (c.loop-bookie.bookie - 0) c.loop-bookie.bookie (omega arith))
    ∙ ap (λ (n : ℕ). map f (Rattle.std.specs.List.range_with_len 0 n)) long

pub of-requires : goal.of-requires
of-requires c =
    let f : ℕ → Bool = stopped_by (bookies_of c.args.bookies.now) (Rack c.args.rack) in
    omega (
      arith,
      ap (λ (xs : List Bool). length xs) c.loop-bookie.invariant,
      length-map-range_with_len f 0 (c.loop-bookie.bookie - 0),
      c.count-bookie-end.ensures.within,
      c.loop-bookie.auto.bookie-end,
    )

pub returns : goal.returns
returns c b =
    let f : ℕ → Bool = stopped_by (bookies_of c.args.bookies.now) (Rack c.args.rack) in
    ap (λ (flags : List Bool). is_flagged flags b) (c.of.ensures ∙ c.loop-bookie.invariant)
    ∙ flags-within f c.loop-bookie.bookie b
    (λ past. rack-within c.args.bookies.now c.args.rack b
    (omega (arith, past, c.count-bookie-end.ensures.count, c.loop-bookie-test.false)))
