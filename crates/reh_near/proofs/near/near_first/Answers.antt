use Rattle.std.proofs.Common.{◌≡◌, ◌∙◌, ◌+◌, ◌==◌, ◌++◌, ℕ, suc, List, map, arith, ap, sym}
use Rattle.std.specs.List.{filter, flat_map, range_with_len}
use Rattle.reh_near.specs.Near.{is_near, names_at, rank_of}
use Rattle.reh_near.specs.declared.near.TheConstants.{MAX_BYTES}
use Rattle.reh_near.proofs.CandidateLaws.{names_of_those, one_more}
use Rattle.reh_near.proofs.near.near_first.Goals as goal

pub loop-rank-preserved : goal.loop-rank-preserved
loop-rank-preserved c =
    let word : List ℕ = c.args.word.now in
    let near : List (List ℕ) = filter (is_near word) (map (λ name. name.now) c.args.names.now) in
    let d : ℕ = c.loop-rank.rank in
    let next : suc d ≡ d + 1 = omega arith in
    let here : d ≡ 0 + d = omega arith in
    let before : List (List ℕ) = flat_map (names_at word near) (range_with_len 0 d) in
    c.in_ok-push_at.ensures
    ∙ ap (λ zs. zs ++ map (λ c. c.name.now) (filter (λ c. c.rank == d) c.deref.result.now)) c.loop-rank.invariant
    ∙ ap (λ cs. before ++ map (λ c. c.name.now) (filter (λ c. c.rank == d) cs)) c.deref.ensures.value
    ∙ ap (λ zs. before ++ zs) (names_of_those (rank_of word) d c.in_ok-candidates.candidates.items c.in_ok-candidates.ensures.ranks)
    ∙ ap (λ ns. before ++ names_at word ns d) c.in_ok-candidates.ensures.names
    ∙ ap (λ k. before ++ names_at word near k) here
    ∙ sym (one_more (names_at word near) 0 d)
    ∙ ap (λ k. flat_map (names_at word near) (range_with_len 0 k)) next

pub returns : goal.returns
returns c =
    let near : List (List ℕ) = filter (is_near c.args.word.now) (map (λ name. name.now) c.args.names.now) in
    let last : c.loop-rank.rank ≡ MAX_BYTES + 1 = omega (arith, c.loop-rank-test.false, c.loop-rank.auto.rank-end) in
    c.loop-rank.invariant ∙ ap (λ k. flat_map (names_at c.args.word.now near) (range_with_len 0 k)) last
