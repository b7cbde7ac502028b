-- What contents say that is held, as they grow.
use Rattle.std.proofs.Common.{◌≡◌, ℕ, zero, suc, subst, ◌+◌, ◌<◌, ◌≤◌, Bool, true, false, ◌&&◌, ◌||◌, nat_eq, nat_lt, List, [], ◌∷◌, ◌++◌, map, length, take, get_or, refl, sym, ap, ◌∙◌, arith, lt-ltb, inl, inr}
use Rattle.std.specs.Prelude.{◌*◌, not, cond, All, Some}
use Rattle.std.specs.List.{IsDistinct, list_any, flat_map}
use Rattle.std.specs.Option.{IsSome, is_some, option_map_or}
use Rattle.std.specs.Ordering.{eq_by_cmp}
use Rattle.std.specs.Str.{bytes_eq}
use Rattle.std.proofs.Math.Bool.{or-false}
use Rattle.std.proofs.lemmas.Bool.{cases_order, false≢true}
use Rattle.std.proofs.lemmas.Bool.Decides.{nat_tests}
use Rattle.std.proofs.lemmas.Grind.{flat_map-append}
use Rattle.std.proofs.lemmas.List.{map-append, take_more}
use Rattle.std.proofs.lemmas.List.Elements.{All-push, All-nil}
use Rattle.std.proofs.lemmas.List.Concat.{flat_map-cons}
use Rattle.std.proofs.lemmas.List.Folds.{list_any-append}
use Rattle.serde_json.specs.Data.{Data}
use Rattle.serde_json.specs.View.{view}
use Rattle.serde_json.specs.declared.value.Value.{Value}
use Rattle.reh_types.specs.declared.limits.TheConstants.{ENTRIES_IN_WORD, ENTRY_END}
use Rattle.reh_types.specs.Sets.{triples, triple_cmp, contains-from_list, same_set, items}
use Rattle.reh_model.specs.Contents.{Contents, has}
use Rattle.reh_model.specs.Striping.{range}
use Rattle.reh_model.specs.Cluster.{Cluster, Ledger, ledger_among, words_among}
use Rattle.reh_model.specs.WellFormed.{IsCopy, IsWellFormed}
use Rattle.reh_model.proofs.LedgerLaws.{found_itself}
use Rattle.reh_model.proofs.ContentsLaws.{has-copies_of, All-copy}
use Rattle.reh_fields.specs.Names.{bookie_in}
use Rattle.reh_fields.proofs.Elements.{elements-items_of}
use Rattle.reh_held.proofs.WrittenLaws.{turn_round}
use Rattle.reh_picture.specs.Contents.{Holding, ends_of, holding_in, copies_within, copies_in}
use Rattle.reh_picture_out.specs.Marks.{is_told, lacks_content, has_assumed}
use Rattle.reh_picture_out.specs.Ranges.{is_within, is_in}
use Rattle.reh_picture_out.specs.Holdings.{held_by, tells, Adds, LiesWithin}
use Rattle.reh_picture_out.specs.Written.{name_at, range_data, content_data, IsMarked, IsNeeded, AreContents}
use Rattle.reh_picture_out.proofs.Depths.{depth-push, depth-content}
use Rattle.reh_picture_out.proofs.NamesLaws.{bookie_in-name_at}
use Rattle.reh_picture_out.proofs.RangeLaws.{any-range}

-- nothing is held
has-none : (names : List (List ℕ)) (b l e : ℕ) → has (held_by names []) b l e ≡ false
has-none names b l e = contains-from_list triples [] (b, l, e)

ranges-back : (ranges : List (ℕ × ℕ)) → map ends_of (map range_data ranges) ≡ ranges
ranges-back [] = refl
ranges-back (r ∷ ranges) = ap (λ rs. r ∷ rs) (ranges-back ranges)

never : (t : Bool) → false ≡ (t && false)
never true = refl
never false = refl

both : (t x y : Bool) → ((t && x) || (t && y)) ≡ (t && (x || y))
both true x y = refl
both false x y = refl

-- the copies of ranges
module _ (b l e : ℕ) where
  abbrev is_it : ℕ × ℕ × ℕ → Bool
  is_it = eq_by_cmp triple_cmp (b, l, e)

  any-copies : (bookie ledger : ℕ) (ranges : List (ℕ × ℕ))
      → list_any is_it (flat_map (copies_within bookie ledger) ranges)
      ≡ ((nat_eq b bookie && nat_eq l ledger) && is_in ranges e)
  any-copies bookie ledger [] = never (nat_eq b bookie && nat_eq l ledger)
  any-copies bookie ledger (r ∷ ranges) =
      let test : Bool = nat_eq b bookie && nat_eq l ledger in
      let entries = range r.0 (r.1 + 1) in
      let first : list_any is_it (copies_within bookie ledger r) ≡ (test && is_within e r) =
      sym (contains-from_list triples (map (λ x. (bookie, ledger, x)) entries) (b, l, e))
      ∙ has-copies_of bookie ledger entries b l e ∙ ap (λ t. test && t) (any-range r.0 r.1 e) in
      ap (list_any is_it) (flat_map-cons (copies_within bookie ledger) r ranges)
      ∙ list_any-append is_it (copies_within bookie ledger r) (flat_map (copies_within bookie ledger) ranges)
      ∙ (λ i. first i || any-copies bookie ledger ranges i) ∙ both test (is_within e r) (is_in ranges e)

  -- one content more
  has-pushed : (assumed : Bool) (names : List (List ℕ)) (ds : List Data) (name : List ℕ) (ledger : ℕ) (ranges : List (ℕ × ℕ))
      → has (held_by names (ds ++ content_data assumed name ledger ranges ∷ [])) b l e
      ≡ (has (held_by names ds) b l e || ((nat_eq b (bookie_in names name) && nat_eq l ledger) && is_in ranges e))
  has-pushed assumed names ds name ledger ranges =
      let d = content_data assumed name ledger ranges in
      let before = map (holding_in names) ds in
      let bookie = bookie_in names name in
      let one : list_any is_it (flat_map copies_in (holding_in names d ∷ []))
      ≡ ((nat_eq b bookie && nat_eq l ledger) && is_in ranges e) =
      ap (list_any is_it) (flat_map-cons copies_in (holding_in names d) [])
      ∙ list_any-append is_it (copies_in (holding_in names d)) [] ∙ or-false _
      ∙ ap (λ rs. list_any is_it (flat_map (copies_within bookie ledger) rs))
      (ap (map ends_of) (elements-items_of (map range_data ranges)) ∙ ranges-back ranges)
      ∙ any-copies bookie ledger ranges in
      contains-from_list triples (flat_map copies_in (map (holding_in names) (ds ++ d ∷ []))) (b, l, e)
      ∙ ap (λ hs. list_any is_it (flat_map copies_in hs)) (map-append (holding_in names) ds (d ∷ []))
      ∙ ap (list_any is_it) (flat_map-append copies_in before (holding_in names d ∷ []))
      ∙ list_any-append is_it (flat_map copies_in before) (flat_map copies_in (holding_in names d ∷ []))
      ∙ (λ i. sym (contains-from_list triples (flat_map copies_in before) (b, l, e)) i || one i)

-- Additions

abbrev pub is_of : ℕ → ℕ → ℕ → ℕ → Bool
is_of bookie ledger b l = nat_eq b bookie && nat_eq ledger l

-- what is told of one bookie and one ledger is told of what the test passes
guarded : (held : Contents) (bookie ledger e b l : ℕ) (told : Bool) → told ≡ has held bookie ledger e
    → ((nat_eq b bookie && nat_eq l ledger) && told) ≡ (is_of bookie ledger b l && has held b l e)
guarded held bookie ledger e b l told is =
    ap (λ t. (nat_eq b bookie && t) && told) (turn_round l ledger)
    ∙ elim (nat_eq b bookie) as (λ t. nat_eq b bookie ≡ t → ((t && nat_eq ledger l) && told) ≡ ((t && nat_eq ledger l) && has held b l e)) [
      | true ↦ λ same_bookie.
          elim (nat_eq ledger l) as (λ t. nat_eq ledger l ≡ t → (t && told) ≡ (t && has held b l e)) [
            | true ↦ λ same_ledger.
                let here : bookie ≡ b = grind (arith, nat_tests, same_bookie) in
                let there : ledger ≡ l = grind (arith, nat_tests, same_ledger) in
                is ∙ (λ i. has held (here i) (there i) e)
            | false ↦ λ _. refl
          ] refl
      | false ↦ λ _. refl
    ] refl

-- the bookie and the ledger that pass the test
is_of-there : (bookie ledger b l : ℕ) → is_of bookie ledger b l ≡ true → (bookie ≡ b) × (ledger ≡ l)
is_of-there bookie ledger b l pass =
    elim (nat_eq b bookie) as (λ t. nat_eq b bookie ≡ t → (t && nat_eq ledger l) ≡ true → (bookie ≡ b) × (ledger ≡ l)) [
      | true ↦ λ same_bookie same_ledger.
          let here : bookie ≡ b = grind (arith, nat_tests, same_bookie) in
          let there : ledger ≡ l = grind (arith, nat_tests, same_ledger) in
          (here, there)
      | false ↦ λ _ never. absurd (false≢true never)
    ] refl pass

of_there : (bookie ledger b l : ℕ) → (bookie ≡ b) × (ledger ≡ l) → (nat_eq bookie b && nat_eq ledger l) ≡ true
of_there bookie ledger b l here =
    let one : nat_eq bookie b ≡ true = grind (arith, nat_tests, here.0) in
    let other : nat_eq ledger l ≡ true = grind (arith, nat_tests, here.1) in
    λ i. one i && other i

or-true : (t : Bool) → (t || (true || false)) ≡ true
or-true true = refl
or-true false = refl

-- one content more
tells-pushed : (names : List (List ℕ)) (ds : List Data) (d : Data) (b l : ℕ)
    → tells names (ds ++ d ∷ []) b l ≡ (tells names ds b l || tells names (d ∷ []) b l)
tells-pushed names ds d b l =
    ap (λ hs. is_told hs b l) (map-append (holding_in names) ds (d ∷ []))
    ∙ list_any-append (λ (h : Holding). nat_eq h.bookie b && nat_eq h.ledger l) (map (holding_in names) ds)
    (holding_in names d ∷ [])

module _ (names : List (List ℕ)) (held : Contents) (began : List Holding) where
  -- a content of a bookie and a ledger
  pub Adds-one : (assumed : Bool) (bookie ledger : ℕ) (ranges : List (ℕ × ℕ)) → IsDistinct bytes_eq names → bookie < length names
      → assumed ≡ has_assumed began ledger → lacks_content began bookie ledger ranges ≡ false
      → ((e : ℕ) → is_in ranges e ≡ has held bookie ledger e) → (ds : List Data)
      → Adds names held began (is_of bookie ledger) ds
      (ds ++ content_data assumed (name_at names bookie) ledger ranges ∷ [])
  Adds-one assumed bookie ledger ranges apart within marked needed told ds = record {
    more = λ b l e.
        has-pushed b l e assumed names ds (name_at names bookie) ledger ranges
        ∙ ap (λ k. has (held_by names ds) b l e || ((nat_eq b k && nat_eq l ledger) && is_in ranges e))
        (bookie_in-name_at names bookie apart within)
        ∙ ap (λ t. has (held_by names ds) b l e || t) (guarded held bookie ledger e b l (is_in ranges e) (told e));
    marked = λ all.
        let one : IsMarked began (content_data assumed (name_at names bookie) ledger ranges) = marked in
        All-push (IsMarked began) ds (content_data assumed (name_at names bookie) ledger ranges) all one;
    needed = λ all.
        let read = ap (map ends_of) (elements-items_of (map range_data ranges)) ∙ ranges-back ranges in
        let one : IsNeeded names began (content_data assumed (name_at names bookie) ledger ranges) =
        (λ i. lacks_content began (bookie_in-name_at names bookie apart within i) ledger (read i)) ∙ needed in
        All-push (IsNeeded names began) ds (content_data assumed (name_at names bookie) ledger ranges) all one;
    stays = λ b l one.
        tells-pushed names ds (content_data assumed (name_at names bookie) ledger ranges) b l
        ∙ ap (λ t. t || tells names (content_data assumed (name_at names bookie) ledger ranges ∷ []) b l) one;
    again = λ b l pass was.
        let here = is_of-there bookie ledger b l pass in
        tells-pushed names ds (content_data assumed (name_at names bookie) ledger ranges) b l
        ∙ ap (λ k. tells names ds b l || ((nat_eq k b && nat_eq ledger l) || false)) (bookie_in-name_at names bookie apart within)
        ∙ ap (λ t. tells names ds b l || (t || false)) (of_there bookie ledger b l here)
        ∙ or-true (tells names ds b l);
    flat = λ flat. depth-push 3 ds _ flat (depth-content assumed (name_at names bookie) ledger ranges);
  }

  -- no content, where nothing is held
  pub Adds-none : (bookie ledger : ℕ) → is_told began bookie ledger ≡ false → ((e : ℕ) → false ≡ has held bookie ledger e)
      → (ds : List Data) → Adds names held began (is_of bookie ledger) ds ds
  Adds-none bookie ledger untold told ds = record {
    stays = λ b l one. one;
    again = λ b l pass was.
        let here = is_of-there bookie ledger b l pass in
        absurd (false≢true (sym untold ∙ (λ i. is_told began (here.0 i) (here.1 i)) ∙ was));
    more = λ b l e.
        sym (or-false (has (held_by names ds) b l e))
        ∙ ap (λ t. has (held_by names ds) b l e || t)
        (never (nat_eq b bookie && nat_eq l ledger) ∙ guarded held bookie ledger e b l false (told e));
    marked = λ all. all;
    needed = λ all. all;
    flat = λ flat. flat;
  }

  -- the same with the value that stands for it
  pub Adds-value : (assumed : Bool) (bookie ledger : ℕ) (ranges : List (ℕ × ℕ)) → IsDistinct bytes_eq names
      → bookie < length names → assumed ≡ has_assumed began ledger → lacks_content began bookie ledger ranges ≡ false
      → ((e : ℕ) → is_in ranges e ≡ has held bookie ledger e) → (vs : List Value) (v : Value)
      → view v ≡ content_data assumed (name_at names bookie) ledger ranges
      → Adds names held began (is_of bookie ledger) (map view vs) (map view (vs ++ v ∷ []))
  Adds-value assumed bookie ledger ranges apart within marked needed told vs v is =
      subst (λ ds. Adds names held began (is_of bookie ledger) (map view vs) ds)
      (sym (map-append view vs (v ∷ []) ∙ ap (λ d. map view vs ++ d ∷ []) is))
      (Adds-one assumed bookie ledger ranges apart within marked needed told (map view vs))

  join : (x p q h : Bool) → ((x || (p && h)) || (q && h)) ≡ (x || ((p || q) && h))
  join true p q h = refl
  join false true true true = refl
  join false true true false = refl
  join false true false true = refl
  join false true false false = refl
  join false false q h = refl

  -- one addition after another
  pub Adds-then : (p q r : ℕ → ℕ → Bool) (old mid new : List Data) → Adds names held began p old mid
      → Adds names held began q mid new → ((b l : ℕ) → r b l ≡ (p b l || q b l)) → Adds names held began r old new
  Adds-then p q r old mid new first second is = record {
    more = λ b l e.
        second.more b l e ∙ ap (λ t. t || (q b l && has held b l e)) (first.more b l e)
        ∙ join (has (held_by names old) b l e) (p b l) (q b l) (has held b l e)
        ∙ sym (ap (λ t. has (held_by names old) b l e || (t && has held b l e)) (is b l));
    stays = λ b l one. second.stays b l (first.stays b l one);
    again = λ b l pass was.
        elim (p b l) as (λ t. p b l ≡ t → (t || q b l) ≡ true → tells names new b l ≡ true) [
          | true ↦ λ one _. second.stays b l (first.again b l one was)
          | false ↦ λ _ other. second.again b l other was
        ] refl (sym (is b l) ∙ pass);
    marked = λ all. second.marked (first.marked all);
    needed = λ all. second.needed (first.needed all);
    flat = λ flat. second.flat (first.flat flat);
  }

  -- no bookie or no ledger adds nothing
  pub Adds-nothing : (p : ℕ → ℕ → Bool) → ((b l : ℕ) → p b l ≡ false) → (ds : List Data) → Adds names held began p ds ds
  Adds-nothing p none ds = record {
    more = λ b l e.
        sym (or-false (has (held_by names ds) b l e))
        ∙ sym (ap (λ t. has (held_by names ds) b l e || (t && has held b l e)) (none b l));
    stays = λ b l one. one;
    again = λ b l pass was. absurd (false≢true (sym (none b l) ∙ pass));
    marked = λ all. all;
    needed = λ all. all;
    flat = λ flat. flat;
  }

-- the ranges below an end are all that is held, where that lies below the end
pub told-all : (held : Contents) (bookie ledger end : ℕ) (test told : ℕ → Bool)
    → ((e : ℕ) → has held bookie ledger e ≡ true → e < end) → ((e : ℕ) → test e ≡ has held bookie ledger e)
    → ((e : ℕ) → told e ≡ (nat_lt e end && test e)) → (e : ℕ) → told e ≡ has held bookie ledger e
told-all held bookie ledger end test told within is below e =
    below e ∙ ap (λ t. nat_lt e end && t) (is e)
    ∙ elim (has held bookie ledger e) as (λ t. has held bookie ledger e ≡ t → (nat_lt e end && t) ≡ t) [
      | true ↦ λ one. ap (λ t. t && true) (lt-ltb e end (within e one))
      | false ↦ λ _. sym (never (nat_lt e end))
    ] refl

-- the bookies below a number
abbrev pub is_below : ℕ → ℕ → ℕ → ℕ → Bool
is_below n ledger b l = nat_lt b n && nat_eq ledger l

pub below-next : (n ledger b l : ℕ) → is_below (n + 1) ledger b l ≡ (is_below n ledger b l || is_of n ledger b l)
below-next n ledger b l =
    let next : nat_lt b (n + 1) ≡ (nat_lt b n || nat_eq b n) = elim (cases_order b n) [
      | inl is ↦
          let one : nat_lt b (n + 1) ≡ true = grind (arith, nat_tests) in
          let past : nat_lt b n ≡ false = grind (arith, nat_tests) in
          let here : nat_eq b n ≡ true = grind (arith, nat_tests) in
          one ∙ sym (λ i. past i || here i)
      | inr apart ↦ elim apart [
        | inl lt ↦
            let one : nat_lt b (n + 1) ≡ true = grind (arith, nat_tests) in
            let before : nat_lt b n ≡ true = grind (arith, nat_tests) in
            one ∙ sym (ap (λ t. t || nat_eq b n) before)
        | inr gt ↦
            let one : nat_lt b (n + 1) ≡ false = grind (arith, nat_tests) in
            let past : nat_lt b n ≡ false = grind (arith, nat_tests) in
            let other : nat_eq b n ≡ false = grind (arith, nat_tests) in
            one ∙ sym (λ i. past i || other i)
      ]
    ] in
    ap (λ t. t && nat_eq ledger l) next ∙ spread (nat_lt b n) (nat_eq b n) (nat_eq ledger l) where
      spread : (p q t : Bool) → ((p || q) && t) ≡ ((p && t) || (q && t))
      spread true true true = refl
      spread true true false = refl
      spread true false true = refl
      spread true false false = refl
      spread false q t = refl

-- all bookies, and some ledgers
abbrev pub is_among : ℕ → List Ledger → ℕ → ℕ → Bool
is_among n ledgers b l = nat_lt b n && list_any (λ g. nat_eq g.id l) ledgers

pub among-next : (n : ℕ) (ledgers : List Ledger) (i : ℕ) (g : Ledger) → i < length ledgers → g ≡ get_or ledgers i g
    → (b l : ℕ) → is_among n (take (i + 1) ledgers) b l ≡ (is_among n (take i ledgers) b l || is_below n g.id b l)
among-next n ledgers i g within is b l =
    let test = λ (h : Ledger). nat_eq h.id l in
    ap (λ t. nat_lt b n && t)
    (ap (list_any test) (take_more ledgers i g within) ∙ list_any-append test (take i ledgers) _
    ∙ ap (λ t. list_any test (take i ledgers) || t) (or-false _ ∙ ap test (sym is)))
    ∙ spread (nat_lt b n) (list_any test (take i ledgers)) (nat_eq g.id l) where
      spread : (t p q : Bool) → (t && (p || q)) ≡ ((t && p) || (t && q))
      spread true p q = refl
      spread false p q = refl

found : (l : ℕ) (ledgers : List Ledger) → IsSome (ledger_among ledgers l) → list_any (λ g. nat_eq g.id l) ledgers ≡ true
found l [] there = absurd (false≢true there)
found l (g ∷ ledgers) there =
    elim (nat_eq g.id l) as (λ t. is_some (cond t (Some g) (ledger_among ledgers l)) ≡ true
    → (t || list_any (λ g. nat_eq g.id l) ledgers) ≡ true) [
      | true ↦ λ _. refl
      | false ↦ λ later. found l ledgers later
    ] there

-- after all of them, what is told is what is held
pub held-all : (names : List (List ℕ)) (held : Contents) (began : List Holding) (ledgers : List Ledger) (ds : List Data)
    → All (IsCopy (length names) ledgers) (items held) → Adds names held began (is_among (length names) ledgers) [] ds
    → held_by names ds ≡ held
held-all names held began ledgers ds copies added =
    same_set (held_by names ds) held (λ q.
    added.more q.0 q.1 q.2 ∙ ap (λ t. t || (is_among (length names) ledgers q.0 q.1 && has held q.0 q.1 q.2)) (has-none names q.0 q.1 q.2)
    ∙ elim (has held q.0 q.1 q.2) as (λ t. has held q.0 q.1 q.2 ≡ t → (is_among (length names) ledgers q.0 q.1 && t) ≡ t) [
      | true ↦ λ one.
          let copy = All-copy (IsCopy (length names) ledgers) held copies q one in
          (λ i. (lt-ltb q.0 (length names) copy.0 i && found q.1 ledgers copy.1 i) && true)
      | false ↦ λ _. sym (never (is_among (length names) ledgers q.0 q.1))
    ] refl)

-- Ledgers of a cluster

module _ (s : Cluster) (good : IsWellFormed s) (ledgers : List Ledger) (same : ledgers ≡ s.parts.ledgers) (k : ℕ)
    (g : Ledger) (within : k < length ledgers) (is : g ≡ get_or ledgers k g) where
  there : k < length s.parts.ledgers
  there = omega (arith, within, ap length same)

  is_there : g ≡ get_or s.parts.ledgers k g
  is_there = is ∙ ap (λ gs. get_or gs k g) same

  -- no entry of a ledger's words is past the greatest one
  pub ledger-end : ENTRIES_IN_WORD * g.words ≤ ENTRY_END
  ledger-end =
      let words : g.words ≡ (get_or s.parts.ledgers k g).words = ap (λ (h : Ledger). h.words) is_there in
      let bound = (good.ledgers.each k g there).words in
      omega (arith, words, bound)

  -- what is held of it lies within them
  pub lies-within : LiesWithin s.parts.held g
  lies-within = λ b e one.
      let copy = All-copy (IsCopy (length s.names) s.parts.ledgers) s.parts.held good.contents.copies (b, g.id, e) one in
      let here : ledger_among s.parts.ledgers g.id ≡ Some g =
      ap (λ (h : Ledger). ledger_among s.parts.ledgers h.id) is_there
      ∙ found_itself s.parts.ledgers good.ledgers.different k g there ∙ ap Some (sym is_there) in
      let words : words_among s.parts.ledgers g.id ≡ g.words = ap (λ o. option_map_or (λ h. h.words) o 0) here in
      omega (arith, copy.2, words)

-- all of a list
pub take-past : {X : Type 0} (xs : List X) (n : ℕ) → length xs ≤ n → take n xs ≡ xs
take-past [] zero past = refl
take-past [] (suc n) past = refl
take-past (x ∷ xs) zero past = absurd (omega arith)
take-past (x ∷ xs) (suc n) past = ap (λ ys. x ∷ ys) (take-past xs n (omega arith))

-- the contents of all ledgers
pub contents-all : (s : Cluster) (began : List Holding) (ds : List Data) (ledgers : List Ledger) (k : ℕ) → IsWellFormed s
    → ledgers ≡ s.parts.ledgers → length ledgers ≤ k
    → Adds s.names s.parts.held began (is_among (length s.names) (take k ledgers)) [] ds
    → AreContents s began ds
contents-all s began ds ledgers k good same past added =
    let all : take k ledgers ≡ s.parts.ledgers = take-past ledgers k past ∙ same in
    let whole : Adds s.names s.parts.held began (is_among (length s.names) s.parts.ledgers) [] ds =
    subst (λ gs. Adds s.names s.parts.held began (is_among (length s.names) gs) [] ds) all added in
    record {
      held_are = held-all s.names s.parts.held began s.parts.ledgers ds good.contents.copies whole;
      again = whole.again;
      marked = whole.marked (All-nil (IsMarked began));
      needed = whole.needed (All-nil (IsNeeded s.names began));
      flat = whole.flat (omega arith);
    }

-- a bookie without a content was not told
pub lacks-told : (told : List Holding) (bookie ledger : ℕ) (ranges : List (ℕ × ℕ))
    → true ≡ lacks_content told bookie ledger ranges → is_told told bookie ledger ≡ false
lacks-told told bookie ledger ranges is = second (nat_eq (length ranges) 0) (is_told told bookie ledger) is
  where
    second : (p q : Bool) → true ≡ (p && not q) → q ≡ false
    second true true is = absurd (false≢true (sym is))
    second true false is = refl
    second false q is = absurd (false≢true (sym is))

pub below-none : (ledger b l : ℕ) → is_below 0 ledger b l ≡ false
below-none ledger b l =
    let none : nat_lt b 0 ≡ false = grind (arith, nat_tests) in
    ap (λ t. t && nat_eq ledger l) none
