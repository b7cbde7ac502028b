-- Each name of the copy has the bytes of the one that it was copied from, so that the two lists are one.
use Rattle.std.proofs.Common.{◌∙◌, sym, subst, List, ℕ}
use Rattle.std.specs.String.{string_bytes}
use Rattle.reh_cluster.specs.Names.{IsNames}
use Rattle.reh_cluster.proofs.NamesLemmas.{map_copied}
use Rattle.reh_cluster.proofs.names.Names.clone_in.Goals as goal

pub returns : goal.returns
returns c = map_copied string_bytes _ _ c.in_ok-names.ensures.cases ∙ c.self.view_is

pub invariant_of-result : goal.invariant_of-result
invariant_of-result c = subst (λ (names : List (List ℕ)). IsNames names) (sym (map_copied string_bytes _ _ c.in_ok-names.ensures.cases)) c.self.invariant
