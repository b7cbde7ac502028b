use Rattle.std.proofs.Common.{sym, ap}
use Rattle.reh_types.specs.declared.calls.OwnLine.{OwnLine}
use Rattle.reh_desk.proofs.settling.is_line.Goals as goal

pub returns-then-same : goal.returns-then-same
returns-then-same c =
    let call = c.same.ensures.0 c.if-same.true in (
      λ told. let reply = c.is_reply.ensures.0 told in λ i. record { call = sym call i; reply = sym reply i },
      λ same. c.is_reply.ensures.1 (sym (ap (λ (line : OwnLine). line.reply) same)),
    )
