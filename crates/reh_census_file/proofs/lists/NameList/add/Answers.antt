-- The names with the added one are still at most 4,096, each once; it is new where no other has its bytes.
use Rattle.std.proofs.Common.{◌∙◌, sym, ap, not, arith, length}
use Rattle.std.proofs.lemmas.List.{length-map}
use Rattle.std.specs.Str.{bytes_eq}
use Rattle.std.specs.String.{string_bytes}
use Rattle.std.specs.List.{list_any}
use Rattle.reh_census_file.proofs.NameLemmas.{IsNameList-keys, list_any-map}
use Rattle.reh_census_file.proofs.lists.NameList.add.Goals as goal

pub invariant_of-self-2 : goal.invariant_of-self-2
invariant_of-self-2 c =
    IsNameList-keys c.insert.new.self.keys
    (grind (arith, c.in_ok-added.ensures.len, length-map c.self.inside.names.keys string_bytes, ap length c.self.view_is))
    c.insert.ensures.unique

pub returns-clause-new : goal.returns-clause-new
returns-clause-new c =
    c.in_ok-added.ensures.added
    ∙ ap not (
    sym (list_any-map (bytes_eq (string_bytes c.in_ok-owned.owned)) string_bytes c.self.inside.names.keys)
    ∙ ap (λ ns. list_any (bytes_eq (string_bytes c.in_ok-owned.owned)) ns) c.self.view_is
    ∙ ap (λ n. list_any (bytes_eq n) c.args.self.now) c.in_ok-owned.ensures.ok)
