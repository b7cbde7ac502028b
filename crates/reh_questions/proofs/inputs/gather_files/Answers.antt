-- What the files show is gathered, where no ledger stands in two of them.
use Rattle.std.proofs.Common.{◌∙◌, ap, subst, List, ℕ, nat_eq, Vec}
use Rattle.std.specs.List.{flat_map, IsDistinct}
use Rattle.std.specs.declared.alloc.Global.{Global}
use Rattle.reh_inputs.specs.Gathered.{Gathers}
use Rattle.reh_inputs.specs.Named.{taken_of}
use Rattle.reh_inputs.specs.declared.inputs.Input.{Input}
use Rattle.reh_questions.proofs.inputs.gather_files.Goals as goal

pub returns : goal.returns
returns g c = record {
  of_files = record {
    files = c.in_ok-read.read.items;
    each_file = c.in_ok-read.ensures.each;
    are_read = c.in_ok-read.ensures.read;
    after = c.in_ok-read.ensures.after;
    apart =
        subst (λ (ids : List (Vec ℕ Global)). IsDistinct nat_eq (flat_map (λ list. list.items) ids)) c.in_ok-read-2.ensures.ids
        c.in_ok-gathered.ensures.apart;
    gathers =
        subst (λ (inputs : List Input). Gathers inputs c.args.inputs.now.strict c.in_ok-gathered.gathered)
        c.in_ok-read-2.ensures.inputs c.in_ok-gathered.ensures.gathers;
  };
  ids = c.in_ok-read-2.ensures.ids;
  kinds = c.in_ok-read-2.ensures.kinds;
  taken = c.in_ok-taken.ensures ∙ ap taken_of (c.deref.ensures.value ∙ c.in_ok-read-2.ensures.inputs);
}
