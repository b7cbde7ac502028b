-- What clipped ranges and contents say of an entry of a window.
use Rattle.std.proofs.Common.{◌≡◌, ℕ, ◌-◌, ◌<◌, ◌≤◌, min, Bool, true, false, not, ◌&&◌, ◌||◌, nat_le, nat_lt, List, [], ◌∷◌}
use Rattle.std.proofs.Common.{if◌then◌else◌, Option, None, Some, refl, sym, ap, ◌∙◌, arith}
use Rattle.std.specs.List.{cons_option, list_any}
use Rattle.std.specs.Option.{option_map}
use Rattle.std.proofs.lemmas.Bool.Decides.{nat_tests}
use Rattle.reh_census.specs.declared.ledgers.Range.{Range}
use Rattle.reh_census.specs.Ledgers.{is_within}
use Rattle.reh_inventory.specs.declared.contents.Content.{Content}
use Rattle.reh_inventory.specs.declared.contents.Entries.{Entries}
use Rattle.reh_inventory.specs.declared.contents.Entries.TheVariants.{Holds, Lacks}
use Rattle.reh_inventory_census.specs.Shown.{content_says, entries_say, speaks_of}
use Rattle.reh_model.proofs.Ranges.{same_answer}
use Rattle.reh_window.specs.declared.spans.Span.{Span}
use Rattle.reh_window.specs.Windows.{clipped, content_in, entries_in, meets, ranges_in}

-- Ranges

-- two tests with the same answer
same_le : (a b c d : ℕ) → (a ≤ b → c ≤ d) → (c ≤ d → a ≤ b) → nat_le a b ≡ nat_le c d
same_le a b c d there back =
    same_answer _ _
    (λ yes. let h : a ≤ b = grind (arith, nat_tests) in let g : c ≤ d = there h in grind (arith, nat_tests))
    (λ yes. let h : c ≤ d = grind (arith, nat_tests) in let g : a ≤ b = back h in grind (arith, nat_tests))

-- a range that meets the window has the entry just where the clipped one has it
within-clipped : (span : Span) (range : Range) (entry : ℕ) → span.start ≤ entry → entry < span.stop
    → meets span range ≡ true → is_within (entry - span.start) (clipped span range) ≡ is_within entry range
within-clipped span range entry from below met =
    let reaches : span.start ≤ range.last = grind (arith, nat_tests) in
    let first : nat_le (range.first - span.start) (entry - span.start) ≡ nat_le range.first entry =
    same_le (range.first - span.start) (entry - span.start) range.first entry (λ h. omega arith) (λ h. omega arith) in
    let last : nat_le (entry - span.start) (min range.last (span.stop - 1) - span.start) ≡ nat_le entry range.last =
    same_le (entry - span.start) (min range.last (span.stop - 1) - span.start) entry range.last (λ h. omega arith)
    (λ h. omega arith) in
    λ i. first i && last i

-- another one doesn't have it
within-outside : (span : Span) (range : Range) (entry : ℕ) → span.start ≤ entry → entry < span.stop
    → meets span range ≡ false → is_within entry range ≡ false
within-outside span range entry from below met = grind (arith, nat_tests)

-- one range more
clip-one : (span : Span) (range : Range) (ranges : List Range) (entry : ℕ) → span.start ≤ entry → entry < span.stop
    → list_any (is_within (entry - span.start)) (ranges_in span ranges) ≡ list_any (is_within entry) ranges
    → (b : Bool) → meets span range ≡ b
    → list_any (is_within (entry - span.start))
    (cons_option (if b then Some (clipped span range) else None) (ranges_in span ranges))
    ≡ (is_within entry range || list_any (is_within entry) ranges)
clip-one span range ranges entry from below rest true met =
    λ i. within-clipped span range entry from below met i || rest i
clip-one span range ranges entry from below rest false met =
    rest
    ∙ ap (λ b. b || list_any (is_within entry) ranges) (sym (within-outside span range entry from below met))

pub any-clipped : (span : Span) (ranges : List Range) (entry : ℕ) → span.start ≤ entry → entry < span.stop
    → list_any (is_within (entry - span.start)) (ranges_in span ranges) ≡ list_any (is_within entry) ranges
any-clipped span [] entry from below = refl
any-clipped span (range ∷ ranges) entry from below =
    clip-one span range ranges entry from below (any-clipped span ranges entry from below) (meets span range) refl

-- Contents

speaks-clipped : (span : Span) (told : Option (List Range)) (entry : ℕ) → span.start ≤ entry → entry < span.stop
    → speaks_of (entry - span.start) (option_map (ranges_in span) told) ≡ speaks_of entry told
speaks-clipped span None entry from below = refl
speaks-clipped span (Some ranges) entry from below = any-clipped span ranges entry from below

entries-clipped : (span : Span) (stops : Bool) (entries : Entries) (entry : ℕ) → span.start ≤ entry → entry < span.stop
    → entries_say stops (entry - span.start) (entries_in span entries) ≡ entries_say stops entry entries
entries-clipped span stops (Holds ranges) entry from below = ap Some (any-clipped span ranges entry from below)
entries-clipped span stops (Lacks ranges) entry from below =
    ap (λ b. if stops then Some (not b) else None) (any-clipped span ranges entry from below)

pub says-clipped : (span : Span) (strict stops : Bool) (content : Content) (entry : ℕ) → span.start ≤ entry
    → entry < span.stop
    → content_says strict stops (entry - span.start) (content_in span content)
    ≡ content_says strict stops entry content
says-clipped span strict stops content entry from below =
    let speaks = speaks-clipped span content.told entry from below in
    let says = entries-clipped span stops content.entries entry from below in
    λ i. if speaks i && not (content.is_assumed && (strict || not stops)) then says i else None
