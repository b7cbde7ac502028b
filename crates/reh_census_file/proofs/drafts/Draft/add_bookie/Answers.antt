use Rattle.std.proofs.Common.{◌≡◌, ◌<◌, ◌∙◌, ℕ, Bool, true, false, cond, not, [], ◌∷◌, ◌++◌, length, Option, option_map, Ok, ap, sym, refl, rules, arith}
use Rattle.std.specs.Prelude.{nat_le}
use Rattle.std.specs.List.{list_any}
use Rattle.std.specs.Str.{bytes_eq}
use Rattle.std.proofs.lemmas.Bool.Decides.{nat_tests}
use Rattle.reh_census.specs.Order.{names_cmp}
use Rattle.reh_census.specs.declared.bookies.Bookie.{Bookie}
use Rattle.reh_census_file.specs.declared.lists.TheConstants.{MAX_NAMES}
use Rattle.reh_census_file.specs.Drafts.{Draft, add_bookie, is_later, rack_number, racks_with, with_bookie}
use Rattle.reh_census_file.specs.DraftsInside.{draft_in}
use Rattle.reh_census_file.specs.LineReading.{BookieLine, seen}
use Rattle.reh_census_file.proofs.TokenLaws.{ok}
use Rattle.reh_census_file.proofs.drafts.Draft.add_bookie.Goals as goal

few : (count names : ℕ) → count ≡ names → count < MAX_NAMES → nat_le MAX_NAMES names ≡ false
few count names is less = grind (arith, nat_tests)

added : (d : Draft) (line : BookieLine) → nat_le MAX_NAMES (length d.names) ≡ false → is_later names_cmp d.names line.name ≡ true → list_any (bytes_eq line.name) d.names ≡ false
    → add_bookie d line ≡ Ok (with_bookie d line)
unfolding add_bookie
added d line few later new = rw (few, later, new) refl

is_new : (new : Bool) (known : Bool) → new ≡ not known → new ≡ true → known ≡ false
is_new new false is added = refl
is_new new true is added = absurd cc

pub returns : goal.returns
returns c =
    let d = draft_in c.self.inside in
    let line = seen c.args.line.now in
    let new : c.in_ok-add.field-0 ≡ true = search rules in
    let later : is_later names_cmp d.names line.name ≡ true = search rules in
    let names : d.names ++ line.name ∷ [] ≡ c.add.new.self = sym (c.in_ok-add.ensures.added ∙ ap (λ (b : Bool). cond b (d.names ++ line.name ∷ []) d.names) new) in
    let racks : racks_with d.racks line.rack ≡ c.rack_for.new.racks = sym c.in_ok-rack.ensures.added in
    let made : Option ℕ → Bookie = λ rack. record { is_registered = line.is_registered; is_read_only = line.is_read_only; is_empty = line.is_empty; rack = rack } in
    let bookies : d.bookies ++ made (option_map (rack_number d.racks) line.rack) ∷ [] ≡ c.push.new.self.items = sym (c.in_ok-push.ensures.items ∙ ap (λ (r : Option ℕ). d.bookies ++ made r ∷ []) c.in_ok-rack.ensures.number) in
    ap (λ (d : Draft). add_bookie d line) (sym c.self.view_is)
    ∙ added d line (few c.len.result (length d.names) c.len.ensures.count c.if-len-ge-MAX_NAMES.false) later (is_new c.in_ok-add.field-0 (list_any (bytes_eq line.name) d.names) c.in_ok-add.ensures.new new)
    ∙ ap (λ (more : Draft). ok more) (λ i. record d { names = names i; racks = racks i; bookies = bookies i })
