-- A line's bytes as JSON.
use Rattle.std.proofs.Common.{◌≡◌, ℕ, Bool, true, false, List, Option, None, Some, refl, sym, ap, ◌∙◌, if◌then◌else◌}
use Rattle.std.specs.Prelude.{Ok, Err}
use Rattle.std.specs.Option.{ok_or}
use Rattle.std.specs.Str.{IsUtf8, is_utf8}
use Rattle.std.proofs.lemmas.Str.{is_utf8-from_IsUtf8, IsUtf8-from_is_utf8}
use Rattle.serde_json.specs.Data.{Data}
use Rattle.serde_json.specs.Read.{read}
use Rattle.reh_inventory_fields.specs.declared.faults.Fault.{Fault}
use Rattle.reh_inventory_fields.specs.declared.faults.Fault.TheVariants.{NotJson}
use Rattle.reh_inventory_fields.specs.declared.places.Place.{Place}
use Rattle.reh_inventory_fields.specs.declared.places.Place.TheVariants as place
use Rattle.reh_inventory.specs.Lines.{json_of, json_in}

pub json_in-some : (bytes : List ℕ) (d : Data) → IsUtf8 bytes → read bytes ≡ Some d → json_in bytes ≡ Ok d
json_in-some bytes d utf8 is =
    let json : json_of bytes ≡ Some d = ap (λ t. if t then read bytes else None) (is_utf8-from_IsUtf8 bytes utf8) ∙ is in
    ap (λ (json : Option Data). ok_or json (NotJson, place.Line)) json

pub json_in-none : (bytes : List ℕ) (fault : Fault) (here : Place) → (IsUtf8 bytes → read bytes ≡ None)
    → fault ≡ NotJson → here ≡ place.Line → json_in bytes ≡ Err (fault, here)
json_in-none bytes fault here none is at =
    ap (λ (json : Option Data). ok_or json (NotJson, place.Line))
    (on (is_utf8 bytes) (λ e. none (IsUtf8-from_is_utf8 bytes e)))
    ∙ sym (λ i. Err (is i, at i))
  where
    on : (t : Bool) → (t ≡ true → read bytes ≡ None) → (if t then read bytes else None) ≡ None
    on true k = k refl
    on false k = refl
