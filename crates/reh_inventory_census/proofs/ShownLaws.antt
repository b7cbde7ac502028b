-- A ledger of a census that is made of a line says of each entry what the line says.
use Rattle.std.proofs.Common.{◌≡◌, ◌<◌, ◌+◌, ℕ, zero, suc, Bool, true, false, not, ◌&&◌, ◌||◌, nat_lt, ◌==◌, List, [], ◌∷◌, length, map}
use Rattle.std.proofs.Common.{if◌then◌else◌, Option, None, Some, unwrap_or, position, get_or, refl, sym, ap, ◌∙◌, subst, arith, eq-eqb, true≢false, ◌≢◌, ◌⊎◌, inl, inr}
use Rattle.std.specs.List.{list_any}
use Rattle.std.specs.Option.{is_some, option_map_or}
use Rattle.std.specs.Prelude.{slice_get, Result, Ok, Err, IfOk}
use Rattle.std.specs.Str.{bytes_eq}
use Rattle.std.proofs.lemmas.Bool.Decides.{nat_tests}
use Rattle.std.proofs.lemmas.List.Quantifiers.{position-Some}
use Rattle.std.proofs.lemmas.Slice.Eq.{bytes_eq-Decides}
use Rattle.reh_census.specs.declared.ledgers.Content.{Content as CountedContent}
use Rattle.reh_census.specs.declared.ledgers.Range.{Range}
use Rattle.reh_census.specs.declared.ledgers.Told.{Told}
use Rattle.reh_census.specs.declared.ledgers.Told.TheVariants as told
use Rattle.reh_census.specs.Ledgers.{Ledger, IsLedger, is_within, told_in}
use Rattle.reh_inventory.specs.declared.contents.Content.{Content}
use Rattle.reh_inventory.specs.declared.contents.Entries.{Entries}
use Rattle.reh_inventory.specs.declared.contents.Entries.TheVariants.{Holds, Lacks}
use Rattle.reh_inventory_census.specs.declared.faults.CountFault.{CountFault}
use Rattle.reh_inventory_census.specs.declared.counted.Reading.{Reading}
use Rattle.reh_inventory.specs.declared.ledgers.Fragment.{Fragment}
use Rattle.reh_inventory.specs.declared.ledgers.LedgerLine.{LedgerLine}
use Rattle.reh_inventory_census.specs.Counted.{number_in, covers, is_lacking, speaks_of_none, speaks_partly, told_as, is_partial, told_by, content_by, rest_of, has_content}
use Rattle.reh_inventory_census.specs.Counted.{counted, counted_by, ledger_with, end_of, heard_by, has_loose, is_told_partly, leaves_member, reading_of, stop_of}
use Rattle.reh_inventory_census.proofs.StopLaws.{closed-inner, loose-inner, entry_below}
use Rattle.reh_inventory_census.specs.Shown.{SaysNoMore, Shows, ensemble_of, speaks_of, entries_say, content_says, rest_says, contents_say, told_says}

-- Numbers of bookies

-- a number of a name that is among the names
at_number : (names : List (List ℕ)) (b : List ℕ) (i : ℕ) → position (bytes_eq b) names ≡ Some i
    → (i < length names) × (b ≡ get_or names i [])
at_number names b i is =
    let p = position-Some (bytes_eq b) names i [] is in (p.0, (bytes_eq-Decides b (get_or names i [])).0 p.1)

-- two names have one number only where they are one, if the second has a number of its own
number-inner : (names : List (List ℕ)) (a b : List ℕ) (x y : Option ℕ) → position (bytes_eq a) names ≡ x
    → position (bytes_eq b) names ≡ y → unwrap_or y 65535 < 65535 → unwrap_or x 65535 ≡ unwrap_or y 65535 → a ≡ b
number-inner names a b (Some i) (Some j) a_at b_at own same =
    (at_number names a i a_at).1 ∙ ap (λ k. get_or names k []) same ∙ sym (at_number names b j b_at).1
number-inner names a b None (Some j) a_at b_at own same = absurd (omega arith)
number-inner names a b x None a_at b_at own same = absurd (omega arith)

number-same : (names : List (List ℕ)) (a b : List ℕ) → number_in names b < 65535
    → (number_in names a == number_in names b) ≡ bytes_eq a b
number-same names a b own = on (bytes_eq a b) refl
  where
    on : (t : Bool) → bytes_eq a b ≡ t → (number_in names a == number_in names b) ≡ t
    on true e = eq-eqb _ _ (ap (number_in names) ((bytes_eq-Decides a b).0 e))
    on false e =
        let differ : number_in names a ≢ number_in names b = λ same.
        true≢false (sym ((bytes_eq-Decides a b).1 (number-inner names a b _ _ refl refl own same)) ∙ e) in
        grind (arith, nat_tests)

-- Contents

-- it is told nothing, or the same
abbrev pub IsNoMore : Option Bool → Option Bool → Type 0
IsNoMore one other = (one ≡ None) ⊎ (one ≡ other)

-- a range that covers all counted entries has each of them
within-covers : (end entry : ℕ) (r : Range) → covers end r ≡ true → entry < end → is_within entry r ≡ true
within-covers end entry r covered below = grind (arith, nat_tests)

or_first : (a b : Bool) → a ≡ true → (a || b) ≡ true
or_first true b e = refl
or_first false b e = absurd (true≢false (sym e))

or_second : (a b : Bool) → b ≡ true → (a || b) ≡ true
or_second true b e = refl
or_second false b e = e

or_left : (a b : Bool) → (a || b) ≡ false → a ≡ false
or_left true b e = e
or_left false b e = refl

or_right : (a b : Bool) → (a || b) ≡ false → b ≡ false
or_right true b e = absurd (true≢false e)
or_right false b e = e

speaks-covers : (end entry : ℕ) (rs : List Range) → entry < end → list_any (covers end) rs ≡ true
    → list_any (is_within entry) rs ≡ true
speaks-covers end entry [] below covered = absurd (true≢false (sym covered))
speaks-covers end entry (r ∷ rs) below covered =
    on (covers end r) refl (speaks-covers end entry rs below) covered
  where
    on : (t : Bool) → covers end r ≡ t
        → (list_any (covers end) rs ≡ true → list_any (is_within entry) rs ≡ true)
        → (t || list_any (covers end) rs) ≡ true → list_any (is_within entry) (r ∷ rs) ≡ true
    on true e later one = or_first _ _ (within-covers end entry r e below)
    on false e later one = or_second _ _ (later one)

-- what a content says, by tests: whether it is unheard, speaks in part, and speaks of the entry
module _ (ranges : List Range) (entry : ℕ) where
  holds-told : (strict assumed loose both stops none partly speaks : Bool)
      → (not ((strict && assumed) || none) && (partly || (both && (assumed || false)))) ≡ false
      → (none ≡ true → speaks ≡ false) → (none ≡ false → partly ≡ false → speaks ≡ true)
      → (loose ≡ false → stops ≡ true) → (loose ≡ true → both ≡ false → stops ≡ false)
      → told_says entry
      (if ((strict && assumed) || none) || (loose && (assumed || false)) then told.Untold else told.Holds ranges)
      ≡ (if speaks && not (assumed && (strict || not stops)) then entries_say stops entry (Holds ranges) else None)
  holds-told true true loose both stops none partly true h n s c o = refl
  holds-told true true loose both stops none partly false h n s c o = refl
  holds-told true false loose both stops true partly true h n s c o = absurd (true≢false (n refl))
  holds-told true false loose both stops true partly false h n s c o = refl
  holds-told true false true both stops false partly true h n s c o = refl
  holds-told true false false both stops false partly true h n s c o = refl
  holds-told true false loose both stops false true speaks h n s c o = absurd (true≢false h)
  holds-told true false loose both stops false false false h n s c o = absurd (true≢false (sym (s refl refl)))
  holds-told false true loose both stops true partly true h n s c o = absurd (true≢false (n refl))
  holds-told false true loose both stops true partly false h n s c o = refl
  holds-told false true loose both stops false true speaks h n s c o = absurd (true≢false h)
  holds-told false true loose true stops false false speaks h n s c o = absurd (true≢false h)
  holds-told false true loose false stops false false false h n s c o = absurd (true≢false (sym (s refl refl)))
  holds-told false true true false true false false true h n s c o = absurd (true≢false (o refl refl))
  holds-told false true true false false false false true h n s c o = refl
  holds-told false true false false true false false true h n s c o = refl
  holds-told false true false false false false false true h n s c o = absurd (true≢false (sym (c refl)))
  holds-told false false loose both stops true partly true h n s c o = absurd (true≢false (n refl))
  holds-told false false loose both stops true partly false h n s c o = refl
  holds-told false false true both stops false partly true h n s c o = refl
  holds-told false false false both stops false partly true h n s c o = refl
  holds-told false false loose both stops false true false h n s c o = absurd (true≢false h)
  holds-told false false loose both stops false false false h n s c o = absurd (true≢false (sym (s refl refl)))

  lacks-told : (strict assumed loose both stops none partly speaks : Bool)
      → (not ((strict && assumed) || none) && (partly || (both && (assumed || true)))) ≡ false
      → (none ≡ true → speaks ≡ false) → (none ≡ false → partly ≡ false → speaks ≡ true)
      → (loose ≡ false → stops ≡ true) → (loose ≡ true → both ≡ false → stops ≡ false)
      → told_says entry
      (if ((strict && assumed) || none) || (loose && (assumed || true)) then told.Untold else told.Lacks ranges)
      ≡ (if speaks && not (assumed && (strict || not stops)) then entries_say stops entry (Lacks ranges) else None)
  lacks-told true true loose both stops none partly true h n s c o = refl
  lacks-told true true loose both stops none partly false h n s c o = refl
  lacks-told true false loose both stops true partly true h n s c o = absurd (true≢false (n refl))
  lacks-told true false loose both stops true partly false h n s c o = refl
  lacks-told true false loose both stops false true speaks h n s c o = absurd (true≢false h)
  lacks-told true false loose true stops false false speaks h n s c o = absurd (true≢false h)
  lacks-told true false loose false stops false false false h n s c o = absurd (true≢false (sym (s refl refl)))
  lacks-told true false true false true false false true h n s c o = absurd (true≢false (o refl refl))
  lacks-told true false true false false false false true h n s c o = refl
  lacks-told true false false false true false false true h n s c o = refl
  lacks-told true false false false false false false true h n s c o = absurd (true≢false (sym (c refl)))
  lacks-told false true loose both stops true partly true h n s c o = absurd (true≢false (n refl))
  lacks-told false true loose both stops true partly false h n s c o = refl
  lacks-told false true loose both stops false true speaks h n s c o = absurd (true≢false h)
  lacks-told false true loose true stops false false speaks h n s c o = absurd (true≢false h)
  lacks-told false true loose false stops false false false h n s c o = absurd (true≢false (sym (s refl refl)))
  lacks-told false true true false true false false true h n s c o = absurd (true≢false (o refl refl))
  lacks-told false true true false false false false true h n s c o = refl
  lacks-told false true false false true false false true h n s c o = refl
  lacks-told false true false false false false false true h n s c o = absurd (true≢false (sym (c refl)))
  lacks-told false false loose both stops true partly true h n s c o = absurd (true≢false (n refl))
  lacks-told false false loose both stops true partly false h n s c o = refl
  lacks-told false false loose both stops false true speaks h n s c o = absurd (true≢false h)
  lacks-told false false loose true stops false false speaks h n s c o = absurd (true≢false h)
  lacks-told false false loose false stops false false false h n s c o = absurd (true≢false (sym (s refl refl)))
  lacks-told false false true false true false false true h n s c o = absurd (true≢false (o refl refl))
  lacks-told false false true false false false false true h n s c o = refl
  lacks-told false false false false true false false true h n s c o = refl
  lacks-told false false false false false false false true h n s c o = absurd (true≢false (sym (c refl)))

-- how tests of a content hang together
speaks-none : (entry : ℕ) (ranges : Option (List Range)) → speaks_of_none ranges ≡ true → speaks_of entry ranges ≡ false
speaks-none entry None none = absurd (true≢false (sym none))
speaks-none entry (Some []) none = refl
speaks-none entry (Some (r ∷ rs)) none = absurd (true≢false (sym none))

not-false : (b : Bool) → not b ≡ false → b ≡ true
not-false true e = refl
not-false false e = absurd (true≢false e)

speaks-whole : (end entry : ℕ) (ranges : Option (List Range)) → entry < end → speaks_of_none ranges ≡ false
    → speaks_partly end ranges ≡ false → speaks_of entry ranges ≡ true
speaks-whole end entry None below none partly = refl
speaks-whole end entry (Some []) below none partly = absurd (true≢false none)
speaks-whole end entry (Some (r ∷ rs)) below none partly =
    speaks-covers end entry (r ∷ rs) below (not-false _ partly)

module _ (reading : Reading) (stops : Bool) (entry : ℕ) (below : entry < reading.end)
    (closed : reading.has_loose ≡ false → stops ≡ true)
    (loose : reading.has_loose ≡ true → reading.has_both ≡ false → stops ≡ false) where
  entries-told : (assumed : Bool) (entries : Entries) (ranges : Option (List Range))
      → (not ((reading.is_strict && assumed) || speaks_of_none ranges)
      && (speaks_partly reading.end ranges || (reading.has_both && (assumed || is_lacking entries)))) ≡ false
      → told_says entry
      (if ((reading.is_strict && assumed) || speaks_of_none ranges)
      || (reading.has_loose && (assumed || is_lacking entries)) then told.Untold else told_as entries)
      ≡ (if speaks_of entry ranges && not (assumed && (reading.is_strict || not stops))
      then entries_say stops entry entries else None)
  entries-told assumed (Holds held) ranges whole =
      holds-told held entry reading.is_strict assumed reading.has_loose reading.has_both stops (speaks_of_none ranges)
      (speaks_partly reading.end ranges) (speaks_of entry ranges) whole (speaks-none entry ranges)
      (speaks-whole reading.end entry ranges below) closed loose
  entries-told assumed (Lacks lacked) ranges whole =
      lacks-told lacked entry reading.is_strict assumed reading.has_loose reading.has_both stops (speaks_of_none ranges)
      (speaks_partly reading.end ranges) (speaks_of entry ranges) whole (speaks-none entry ranges)
      (speaks-whole reading.end entry ranges below) closed loose

  content-told : (content : Content) → is_partial reading content ≡ false
      → told_says entry (told_by reading content) ≡ content_says reading.is_strict stops entry content
  content-told content whole =
      ap (λ t. told_says entry (if t then told.Untold else heard_by reading content)) whole
      ∙ entries-told content.is_assumed content.entries content.told whole

  -- Members without a content

  rest-inner : (assumes strict loose both : Bool) → (loose ≡ false → stops ≡ true)
      → (loose ≡ true → both ≡ false → stops ≡ false) → (assumes && not strict && both) ≡ false
      → told_says entry (if assumes && not strict && not loose then told.Lacks [] else told.Untold)
      ≡ rest_says assumes strict stops
  rest-inner false strict loose both closed loose_is whole = refl
  rest-inner true true loose both closed loose_is whole = refl
  rest-inner true false true true closed loose_is whole = absurd (true≢false whole)
  rest-inner true false true false closed loose_is whole =
      sym (ap (λ (s : Bool). if s then Some true else None) (loose_is refl refl))
  rest-inner true false false both closed loose_is whole =
      sym (ap (λ (s : Bool). if s then Some true else None) (closed refl))

  pub rest-told : (assumes : Bool) → (assumes && not reading.is_strict && reading.has_both) ≡ false
      → told_says entry (rest_of assumes reading) ≡ rest_says assumes reading.is_strict stops
  rest-told assumes whole = rest-inner assumes reading.is_strict reading.has_loose reading.has_both closed loose whole

  -- All contents

  pick : (t : Bool) (x y : Told) (a b : Option Bool) → (t ≡ true → told_says entry x ≡ a)
      → (t ≡ false → told_says entry y ≡ b) → told_says entry (if t then x else y) ≡ (if t then a else b)
  pick true x y a b then_is else_is = then_is refl
  pick false x y a b then_is else_is = else_is refl

  module _ (names : List (List ℕ)) (name : List ℕ) (own : number_in names name < 65535) (assumes : Bool) where
    pub contents-told : (contents : List Content) → list_any (is_partial reading) contents ≡ false
        → (has_content contents name ≡ false
        → told_says entry (rest_of assumes reading) ≡ rest_says assumes reading.is_strict stops)
        → told_says entry
        (told_in (map (content_by names reading) contents) (rest_of assumes reading) (number_in names name))
        ≡ contents_say assumes reading.is_strict stops entry name contents
    contents-told [] whole rest = rest refl
    contents-told (content ∷ contents) whole rest =
        ap (λ t. told_says entry
        (if t then told_by reading content
        else told_in (map (content_by names reading) contents) (rest_of assumes reading) (number_in names name)))
        (number-same names content.bookie name own)
        ∙ pick (bytes_eq content.bookie name) _ _ _ _
        (λ is_it. content-told content (or_left _ _ whole))
        (λ other. contents-told contents (or_right _ _ whole)
        (λ none. rest (ap (λ b. b || has_content contents name) other ∙ none)))

    -- The same, but for what counts as untold

    pick_no_more : (t : Bool) (x y : Told) (a b : Option Bool) → (t ≡ true → IsNoMore (told_says entry x) a)
        → (t ≡ false → IsNoMore (told_says entry y) b)
        → IsNoMore (told_says entry (if t then x else y)) (if t then a else b)
    pick_no_more true x y a b then_is else_is = then_is refl
    pick_no_more false x y a b then_is else_is = else_is refl

    content-no_more : (content : Content) (t : Bool) → is_partial reading content ≡ t
        → IsNoMore (told_says entry (told_by reading content)) (content_says reading.is_strict stops entry content)
    content-no_more content true e =
        inl (ap (λ t. told_says entry (if t then told.Untold else heard_by reading content)) e)
    content-no_more content false e = inr (content-told content e)

    rest-no_more : (without strict loose : Bool) → (loose ≡ false → stops ≡ true)
        → IsNoMore
        (told_says entry (if without && not strict && not loose then told.Lacks [] else told.Untold))
        (rest_says without strict stops)
    rest-no_more false strict loose closed = inl refl
    rest-no_more true true loose closed = inl refl
    rest-no_more true false true closed = inl refl
    rest-no_more true false false closed =
        inr (sym (ap (λ (s : Bool). if s then Some true else None) (closed refl)))

    pub contents-no_more : (contents : List Content)
        → IsNoMore
        (told_says entry
        (told_in (map (content_by names reading) contents) (rest_of assumes reading) (number_in names name)))
        (contents_say assumes reading.is_strict stops entry name contents)
    contents-no_more [] = rest-no_more assumes reading.is_strict reading.has_loose closed
    contents-no_more (content ∷ contents) =
        let P : Bool → Type 0 = λ t.
        IsNoMore
        (told_says entry
        (if t then told_by reading content
        else told_in (map (content_by names reading) contents) (rest_of assumes reading) (number_in names name)))
        (contents_say assumes reading.is_strict stops entry name (content ∷ contents)) in
        subst P (sym (number-same names content.bookie name own))
        (pick_no_more (bytes_eq content.bookie name) _ _ _ _
        (λ is_it. content-no_more content (is_partial reading content) refl)
        (λ other. contents-no_more contents))

-- Members without a content

leaves-inner : (contents : List Content) (name : List ℕ) → has_content contents name ≡ false
    → (names : List (List ℕ)) → list_any (bytes_eq name) names ≡ true
    → list_any (λ n. not (has_content contents n)) names ≡ true
leaves-inner contents name none [] is = absurd (true≢false (sym is))
leaves-inner contents name none (n ∷ names) is =
    on (bytes_eq name n) refl (leaves-inner contents name none names) is
  where
    on : (t : Bool) → bytes_eq name n ≡ t
        → (list_any (bytes_eq name) names ≡ true → list_any (λ n. not (has_content contents n)) names ≡ true)
        → (t || list_any (bytes_eq name) names) ≡ true
        → (not (has_content contents n) || list_any (λ n. not (has_content contents n)) names) ≡ true
    on true e later one =
        or_first _ _ (ap not (ap (has_content contents) (sym ((bytes_eq-Decides name n).0 e)) ∙ none))
    on false e later one = or_second _ _ (later one)

leaves-at : (contents : List Content) (fs : List Fragment) (f : ℕ)
    → list_any (λ n. not (has_content contents n)) (option_map_or (λ fragment. fragment.ensemble) (slice_get fs f) [])
    ≡ true → list_any (leaves_member contents) fs ≡ true
leaves-at contents [] f is = absurd (true≢false (sym is))
leaves-at contents (x ∷ fs) zero is = or_first _ _ is
leaves-at contents (x ∷ fs) (suc f) is = or_second _ _ (leaves-at contents fs f is)

and_true : (a b : Bool) → (a && b) ≡ false → b ≡ true → a ≡ false
and_true true b e is = absurd (true≢false (sym is ∙ e))
and_true false b e is = refl

-- Ledgers

shows-by : (names : List (List ℕ)) (assumes strict : Bool) (line : LedgerLine)
    → is_told_partly assumes (reading_of strict line) line ≡ false
    → IsLedger (counted_by names assumes (reading_of strict line) line)
    → Shows names assumes strict line (counted_by names assumes (reading_of strict line) line)
shows-by names assumes strict line whole sound = record {
  fragments = refl;
  says = λ f entry name within from to member own.
      let next = slice_get line.fragments (f + 1) in
      let last = end_of line.state in
      let stops = is_some (stop_of line f) in
      let below : entry < (reading_of strict line).end =
      entry_below line names line.sizes.ensemble sound.fragments f entry within to in
      let closed : has_loose line ≡ false → stops ≡ true =
      closed-inner line f entry within next last refl from to in
      let loose : has_loose line ≡ true → (has_loose line && nat_lt 1 (length line.fragments)) ≡ false → stops ≡ false =
      loose-inner line f entry within next last refl in
      contents-told (reading_of strict line) stops entry below closed loose names name own assumes line.contents
      (or_left _ _ whole)
      (λ none. rest-told (reading_of strict line) stops entry below closed loose assumes
      (and_true _ _ (or_right _ _ whole)
      (leaves-at line.contents line.fragments f (leaves-inner line.contents name none (ensemble_of line f) member))));
}

-- the ledger of a line that is read so, and of what it tells, is that of the line
pub made-of-line : (names : List (List ℕ)) (assumes strict : Bool) (line : LedgerLine) (reading : Reading)
    (contents : List CountedContent) (rest : Told) → reading ≡ reading_of strict line
    → contents ≡ map (content_by names reading) line.contents → rest ≡ rest_of assumes reading
    → ledger_with names reading line contents rest ≡ counted names assumes strict line
made-of-line names assumes strict line reading contents rest read told others = λ i.
    ledger_with names (read i) line
    ((told ∙ ap (λ (r : Reading). map (content_by names r) line.contents) read) i)
    ((others ∙ ap (rest_of assumes) read) i)

-- the ledger of a call's result, where no bookie is told partly
pub shows_result : (names : List (List ℕ)) (assumes strict : Bool) (line : LedgerLine) (r : Result Ledger CountFault)
    → IfOk r (λ g. g ≡ counted names assumes strict line) → IfOk r (λ g. IsLedger g)
    → IfOk r (λ g. is_told_partly assumes (reading_of strict line) line ≡ false → Shows names assumes strict line g)
shows_result names assumes strict line (Ok g) made sound = λ whole.
    let P : Ledger → Type 0 = λ one. Shows names assumes strict line one in
    let Q : Ledger → Type 0 = λ one. IsLedger one in
    subst P (sym made) (shows-by names assumes strict line whole (subst Q made sound))
shows_result names assumes strict line (Err e) made sound = made

says-by : (names : List (List ℕ)) (assumes strict : Bool) (line : LedgerLine)
    → IsLedger (counted names assumes strict line)
    → SaysNoMore names assumes strict line (counted names assumes strict line)
says-by names assumes strict line sound = record {
  fragments = refl;
  says = λ f entry name within from to own.
      let next = slice_get line.fragments (f + 1) in
      let last = end_of line.state in
      let stops = is_some (stop_of line f) in
      let below : entry < (reading_of strict line).end =
      entry_below line names line.sizes.ensemble sound.fragments f entry within to in
      let closed : has_loose line ≡ false → stops ≡ true =
      closed-inner line f entry within next last refl from to in
      let loose : has_loose line ≡ true → (has_loose line && nat_lt 1 (length line.fragments)) ≡ false → stops ≡ false =
      loose-inner line f entry within next last refl in
      contents-no_more (reading_of strict line) stops entry below closed loose names name own assumes line.contents;
}

-- the ledger of a call's result, where bookies that are told partly count as untold
pub says_result : (names : List (List ℕ)) (assumes strict : Bool) (line : LedgerLine) (r : Result Ledger CountFault)
    → IfOk r (λ g. g ≡ counted names assumes strict line) → IfOk r (λ g. IsLedger g)
    → IfOk r (λ g. SaysNoMore names assumes strict line g)
says_result names assumes strict line (Ok g) made sound =
    let P : Ledger → Type 0 = λ one. SaysNoMore names assumes strict line one in
    let Q : Ledger → Type 0 = λ one. IsLedger one in
    subst P (sym made) (says-by names assumes strict line (subst Q made sound))
says_result names assumes strict line (Err e) made sound = made
