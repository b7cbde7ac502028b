use Rattle.std.proofs.Common.{◌≡◌, ◌∙◌, ◌++◌, ℕ, List, Option, Some, None, Result, Ok, Err, ap, length, map, refl, string_bytes, String, sym, Global}
use Rattle.std.specs.Prelude.{IfOk, codes, slice_get, unwrap_or}
use Rattle.std.specs.Fmt.{decimal}
use Rattle.std.specs.Option.{option_map}
use Rattle.std.specs.declared.alloc.AllocError.{AllocError}
use Rattle.std.proofs.lemmas.Option.{slice_get-map, slice_get_past, slice_get_read}
use Rattle.reh_answer.specs.Texts.{name_of}
use Rattle.reh_answer.proofs.notes.unregistered_note.Goals as goal

-- the note begins with the name
with-name : (note : Result (String Global) AllocError) (word name : List ℕ) → word ≡ name
    → IfOk note (λ text. string_bytes text ≡ word ++ codes " is not registered")
    → IfOk note (λ text. string_bytes text ≡ name ++ codes " is not registered")
with-name (Ok text) word name same is = is ∙ ap (λ t. t ++ codes " is not registered") same
with-name (Err e) word name same is = tt

found : (names : List (String Global)) (b : ℕ) (name : Option (String Global)) → slice_get names b ≡ name
    → name_of (map string_bytes names) b ≡ unwrap_or (option_map (λ n. string_bytes n) name) (codes "bookie " ++ decimal b)
found names b name is =
    ap (λ (word : Option (List ℕ)). unwrap_or word (codes "bookie " ++ decimal b))
    (slice_get-map (λ n. string_bytes n) names b ∙ ap (λ (n : Option (String Global)). option_map (λ n. string_bytes n) n) is)

pub returns-in-Some : goal.returns-in-Some
returns-in-Some c =
    let names : List (String Global) = c.args.names.now in
    let name : String Global = c.in-Some.name.now in
    with-name c.format.result (string_bytes name) (name_of (map string_bytes names) c.args.bookie)
    (sym
    (found names c.args.bookie (Some name)
    (slice_get_read names (length names) c.args.bookie name refl c.in-Some.ensures.lookup.3.0 c.in-Some.ensures.lookup.1)))
    c.format.ensures.ok

pub returns-in-None : goal.returns-in-None
returns-in-None c =
    let names : List (String Global) = c.args.names.now in
    with-name c.format-in-None.result (codes "bookie " ++ decimal c.args.bookie) (name_of (map string_bytes names) c.args.bookie)
    (sym (found names c.args.bookie None (slice_get_past names c.args.bookie c.in-None.ensures.lookup.3)))
    c.format-in-None.ensures.ok
