-- It is the census of those lines, with the ids of their ledgers.
use Rattle.std.proofs.Common.{inr, refl}
use Rattle.reh_questions.proofs.inputs.of_inventory.Goals as goal

pub returns : goal.returns
returns g = λ strict left lines known.
    inr (record {
      counted = g.args.counted;
      strict = strict;
      left = left;
      of_lines = lines;
      known = known;
      input = refl;
      ids = refl;
      kind_is = g.requires.kind;
      cut = g.requires.cut;
    })
