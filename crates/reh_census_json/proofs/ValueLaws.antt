-- What the object has, and how deep it is.
use Rattle.std.proofs.Common.{◌≡◌, ◌≤◌, ◌++◌, ◌∷◌, [], ℕ, List, Option, Some, None, refl, arith}
use Rattle.std.specs.List.{zip}
use Rattle.std.specs.Prelude.{codes}
use Rattle.json.specs.Token.{Token, end_object}
use Rattle.json.specs.Tree.{depth}
use Rattle.reh_census.specs.declared.bookies.Bookie.{Bookie}
use Rattle.reh_census.specs.declared.censuses.CountedEnsemble.{CountedEnsemble}
use Rattle.reh_census.specs.declared.censuses.CountedTail.{CountedTail}
use Rattle.reh_census.specs.declared.classes.Counted.{Counted}
use Rattle.reh_census_file.specs.Values.{NamedCensus}
use Rattle.reh_answer.specs.Objects.{member_tokens}
use Rattle.reh_answer.proofs.ObjectLaws.{items-depth, text-depth}
use Rattle.reh_census_json.specs.Objects.{bookies_json, census_value, class_json, ensemble_json, ensembles_json, entries_json, judged_json, name_json, named_json, names_json, rack_json, tail_json, tails_json}

names-depth : (names : List (List ℕ)) (numbers : List ℕ) → depth (names_json names numbers) ≤ 1
names-depth names numbers = omega (arith, items-depth (name_json names) 0 (λ n. omega arith) numbers)

rack-depth : (racks : List (List ℕ)) (rack : Option ℕ) → depth (rack_json racks rack) ≡ 0
rack-depth racks None = refl
rack-depth racks (Some rack) = refl

named-depth : (racks : List (List ℕ)) (named : List ℕ × Bookie) → depth (named_json racks named) ≤ 1
named-depth racks named = omega (arith, rack-depth racks named.1.rack)

class-depth : (names : List (List ℕ)) (c : Counted) → depth (class_json names c) ≤ 2
class-depth names c = omega (arith, names-depth names c.class.known, names-depth names c.class.untold)

tail-depth : (names : List (List ℕ)) (t : CountedTail) → depth (tail_json names t) ≤ 2
tail-depth names t = omega (arith, names-depth names t.tail.ensemble)

ensemble-depth : (names : List (List ℕ)) (e : CountedEnsemble) → depth (ensemble_json names e) ≤ 2
ensemble-depth names e = omega (arith, names-depth names e.members)

pub census-depth : (c : NamedCensus) → depth (census_value c) ≤ 128
census-depth c =
    omega (
      arith,
      text-depth c.taken,
      items-depth (named_json c.racks) 1 (named-depth c.racks) (zip c.names c.bookies),
      items-depth (class_json c.names) 2 (class-depth c.names) c.census.entries,
      items-depth (tail_json c.names) 2 (tail-depth c.names) c.census.tails,
      items-depth (ensemble_json c.names) 2 (ensemble-depth c.names) c.census.ensembles,
    )

-- what comes after the first member of the object
abbrev pub after_strict : NamedCensus → List Token
after_strict c =
    member_tokens (codes "judged") (judged_json c)
    ++ (member_tokens (codes "bookies") (bookies_json c)
    ++ (member_tokens (codes "entries") (entries_json c)
    ++ (member_tokens (codes "tails") (tails_json c) ++ (member_tokens (codes "ensembles") (ensembles_json c) ++ end_object ∷ []))))
