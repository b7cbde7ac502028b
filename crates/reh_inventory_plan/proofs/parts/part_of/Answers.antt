-- Those that are named, and the others.
use Rattle.std.proofs.Common.{◌∙◌, ◌++◌, ap, refl, subst, List}
use Rattle.std.specs.Prelude.{All, Contains}
use Rattle.reh_inventory.specs.declared.heads.Bookie.{Bookie}
use Rattle.reh_inventory_plan.specs.Parts.{named_in}
use Rattle.reh_inventory_plan.proofs.parts.part_of.Goals as goal

pub returns : goal.returns
returns c =
    let others : List Bookie = c.in_ok-others.others.items in
    record {
      grace = refl;
      delay = refl;
      striped = refl;
      others = others;
      bookies =
          c.of.ensures
          ∙ c.in_ok-bookies.ensures
          ∙ ap (λ (named : List Bookie). named ++ others)
          (c.in_ok-named.ensures ∙ ap (named_in c.args.line.now) c.as_slice-all.ensures);
      among = subst (λ (all : List Bookie). All (Contains all) others) c.as_slice-all.ensures c.in_ok-others.ensures;
    }
