-- The lines so far were added.
use Rattle.std.proofs.Common.{◌≡◌, ◌++◌, take, string_bytes}
use Rattle.std.specs.List.{flat_map}
use Rattle.reh_plan.specs.Summaries.{share_text}
use Rattle.reh_plan.proofs.summaries.push_shares.Given as goal

abbrev pub invariant-loop-share : goal.invariant-loop-share
invariant-loop-share l =
    string_bytes l.text ≡ string_bytes l.fn.text ++ flat_map (share_text l.names) (take l.share-index l.shares)
