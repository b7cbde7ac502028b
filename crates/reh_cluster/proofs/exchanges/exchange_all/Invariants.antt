-- The first changes are exchanged.
use Rattle.std.proofs.Common.{◌-◌, length}
use Rattle.reh_cluster.proofs.ExchangeLaws.{IsUnderWay}
use Rattle.reh_cluster.proofs.exchanges.exchange_all.Given as goal

abbrev pub invariant-loop-done : goal.invariant-loop-done
invariant-loop-done l = IsUnderWay l.fn.parts l.fn.changes l.parts l.changes l.done

abbrev pub decreases-loop-done : goal.decreases-loop-done
decreases-loop-done l = length l.changes - l.done
