-- In which racks members stand, and the copies of an entry.
use Rattle.std.proofs.Common.{◌≡◌, ◌∙◌, ◌+◌, ◌-◌, ◌<◌, ◌≤◌, ℕ, suc, false, Bool, not, cond, List, [], ◌∷◌, ◌++◌, append_assoc, ap, sym, subst, refl, arith, inl, inr}
use Rattle.std.proofs.Common.{Option, None, Some, unwrap_or, map, length, length-set, get_or, set, take, All, count_by, nat_lt, min}
use Rattle.std.proofs.Common.{slice_get, slice_index, position}
use Rattle.std.specs.List.{filter, list_all, list_any, reduce, prefix_len, range_with_len}
use Rattle.std.specs.Prelude.{◌&&◌, ◌==◌, true, is_some}
use Rattle.std.specs.Option.{option_map, option_map_or}
use Rattle.reh_types.specs.declared.limits.TheConstants.{MAX_BOOKIES}
use Rattle.std.proofs.lemmas.Bool.{cases_eq, le-ltb}
use Rattle.std.proofs.lemmas.List.{append-nil, get_or-set_same, get_or-set_other, map-append, take_more_set}
use Rattle.std.proofs.lemmas.Simd.{map-map}
use Rattle.std.proofs.lemmas.Option.{slice_get_within, get_or_from_slice_get}
use Rattle.std.proofs.lemmas.List.Elements.{All-head, All-tail, filter-append}
use Rattle.std.proofs.lemmas.List.FromFn.{length-map-range_with_len}
use Rattle.std.proofs.lemmas.List.Folds.{list_any_at}
use Rattle.std.proofs.lemmas.List.Sums.{fold_push, list_all-from_AllPass, sum_by-cons, sum_by_push}
use Rattle.reh_model.specs.Metadata.{Fragment, Metadata, IsEnsemble, IsMetadata, with_member, writes}
use Rattle.reh_model.specs.Striping.{index_at, range, write_set}
use Rattle.reh_scan.proofs.ReadingLaws.{write_set_within}
use Rattle.reh_stripe.proofs.WordLaws.{range-append}
use Rattle.reh_types.specs.Same.{tells_numbers}
use Rattle.reh_plan.specs.Racks.{Racks, is_among, is_in_rack, rack_number, rack_of, least_racks, most_racks, may_be_fewer, racks_of, racks_at, fewest_after, fewest_racks, fragment_before, lacking}

-- Names of racks

prefix_len-map : {A B : Type 0} (p : B → Bool) (g : A → B) (xs : List A)
    → prefix_len p (map g xs) ≡ prefix_len (λ x. p (g x)) xs
prefix_len-map p g [] = refl
prefix_len-map p g (x ∷ xs) = ap (λ n. cond (p (g x)) (1 + n) 0) (prefix_len-map p g xs)

long-map : {A B : Type 0} (g : A → B) (xs : List A) → length (map g xs) ≡ length xs
long-map g [] = refl
long-map g (x ∷ xs) = ap suc (long-map g xs)

-- the place of the first that passes, of what stands for others
position-map : {A B : Type 0} (p : B → Bool) (g : A → B) (xs : List A)
    → position p (map g xs) ≡ position (λ x. p (g x)) xs
position-map p g xs = λ i.
    cond (nat_lt (prefix_len-map (λ x. not (p x)) g xs i) (long-map g xs i))
    (Some (prefix_len-map (λ x. not (p x)) g xs i)) None

map_along : {A B : Type 0} (f g : A → B) → ((x : A) → f x ≡ g x) → (xs : List A) → map f xs ≡ map g xs
map_along f g same [] = refl
map_along f g same (x ∷ xs) = λ i. same x i ∷ map_along f g same xs i

number_named : {A : Type 0} (bytes : A → List ℕ) (names : List (Option A)) (name : Option A)
    → option_map_or (λ rack. unwrap_or (position (λ other. is_in_rack (bytes rack) (option_map bytes other)) names) MAX_BOOKIES)
    name MAX_BOOKIES
    ≡ rack_number (map (option_map bytes) names) (option_map bytes name)
number_named bytes names None = refl
number_named bytes names (Some rack) =
    ap (λ found. unwrap_or found MAX_BOOKIES) (sym (position-map (is_in_rack (bytes rack)) (option_map bytes) names))

-- the numbers of racks, by what stands for their names
pub numbers_named : {A : Type 0} (bytes : A → List ℕ) (names : List (Option A))
    → map (λ name. option_map_or (λ rack. unwrap_or (position (λ other. is_in_rack (bytes rack) (option_map bytes other)) names)
    MAX_BOOKIES) name MAX_BOOKIES) names
    ≡ map (rack_number (map (option_map bytes) names)) (map (option_map bytes) names)
numbers_named bytes names =
    map_along _ (λ name. rack_number (map (option_map bytes) names) (option_map bytes name)) (number_named bytes names) names
    ∙ sym (map-map (rack_number (map (option_map bytes) names)) (option_map bytes) names)

-- whether some rack is known, by what stands for their names
pub any_named : {A : Type 0} (bytes : A → List ℕ) (names : List (Option A))
    → list_any is_some (map (option_map bytes) names) ≡ list_any (λ name. is_some name) names
any_named bytes [] = refl
any_named bytes (None ∷ names) = any_named bytes names
any_named bytes (Some rack ∷ names) = refl

-- Racks of members

-- one number more is in its place
pub number_more : (xs : List ℕ) (f : ℕ → ℕ) (i n : ℕ) → i < length xs → n ≡ f i
    → ((k : ℕ) → k < i → get_or xs k 0 ≡ f k) → (k : ℕ) → k < i + 1 → get_or (set xs i n) k 0 ≡ f k
number_more xs f i n there is below k within = elim (cases_eq k i) [
  | inl same ↦ ap (λ (j : ℕ). get_or (set xs i n) j 0) same ∙ get_or-set_same xs i n 0 there ∙ is ∙ ap f (sym same)
  | inr apart ↦ get_or-set_other xs i k n 0 apart ∙ below k (omega arith)
]

-- the racks of members, of which another comes to stand at an index
pub number_with : (r : Racks) (members numbers : List ℕ) (index bookie n : ℕ) → index < length numbers
    → n ≡ rack_of r bookie
    → ((i : ℕ) → i < length members → get_or numbers i 0 ≡ rack_of r (get_or members i 0))
    → (i : ℕ) → i < length (set members index bookie)
    → get_or (set numbers index n) i 0 ≡ rack_of r (get_or (set members index bookie) i 0)
number_with r members numbers index bookie n there is all i within =
    let long = length-set members index bookie in
    elim (cases_eq i index) [
      | inl same ↦
          ap (λ (j : ℕ). get_or (set numbers index n) j 0) same ∙ get_or-set_same numbers index n 0 there ∙ is
          ∙ ap (rack_of r)
          (sym (ap (λ (j : ℕ). get_or (set members index bookie) j 0) same
          ∙ get_or-set_same members index bookie 0 (omega (arith, long, same))))
      | inr apart ↦
          get_or-set_other numbers index i n 0 apart ∙ all i (omega (arith, long))
          ∙ ap (rack_of r) (sym (get_or-set_other members index i bookie 0 apart))
    ]

-- an index past the members changes none of them
pub number_past : (r : Racks) (members numbers : List ℕ) (index bookie : ℕ) → length members ≤ index
    → ((i : ℕ) → i < length members → get_or numbers i 0 ≡ rack_of r (get_or members i 0))
    → (i : ℕ) → i < length (set members index bookie)
    → get_or numbers i 0 ≡ rack_of r (get_or (set members index bookie) i 0)
number_past r members numbers index bookie past all i within =
    let long = length-set members index bookie in
    all i (omega (arith, long))
    ∙ ap (rack_of r) (sym (get_or-set_other members index i bookie 0 (λ same. omega (arith, long, same))))

-- Racks of copies

map_below : (f g : ℕ → ℕ) (n : ℕ) (xs : List ℕ) → All (λ i. i < n) xs → ((i : ℕ) → i < n → f i ≡ g i)
    → map f xs ≡ map g xs
map_below f g n [] all same = refl
map_below f g n (x ∷ xs) all same = λ i.
    same x (All-head (λ j. j < n) x xs all) i ∷ map_below f g n xs (All-tail (λ j. j < n) x xs all) same i

-- the racks of an entry's copies, by those of the members
pub racks_there : (r : Racks) (m : Metadata) (f : Fragment) (numbers : List ℕ) → IsMetadata m
    → length f.ensemble ≡ m.size
    → ((i : ℕ) → i < length f.ensemble → slice_index numbers i ≡ rack_of r (slice_index f.ensemble i))
    → (entry : ℕ) → map (slice_index numbers) (write_set entry m.size m.write_quorum) ≡ racks_of r m f entry
racks_there r m f numbers rules whole there entry =
    map_below (slice_index numbers) (λ i. rack_of r (slice_index f.ensemble i)) m.size
    (write_set entry m.size m.write_quorum) (write_set_within m entry rules)
    (λ i within. there i (omega (arith, whole, within)))
    ∙ sym (map-map (rack_of r) (λ i. slice_index f.ensemble i) (write_set entry m.size m.write_quorum))

-- the least number of racks, by another way to list them
pub fewest_there : (r : Racks) (m : Metadata) (before : Fragment) (n : Metadata) (after : Fragment) (was is : ℕ → List ℕ)
    → ((entry : ℕ) → was entry ≡ racks_of r m before entry) → ((entry : ℕ) → is entry ≡ racks_of r n after entry)
    → reduce min (map (λ e. least_racks (is e)) (filter (λ e. may_be_fewer r.least (was e) (is e)) (range 0 n.size)))
    ≡ fewest_after r m before n after
fewest_there r m before n after was is then now = λ i.
    reduce min
    (map (λ e. least_racks (now e i)) (filter (λ e. may_be_fewer r.least (then e i) (now e i)) (range 0 n.size)))

-- how many write sets stand in fewer racks than are asked for, by another way to list them
pub lacking_there : (r : Racks) (m : Metadata) (f : Fragment) (index bookie : ℕ) (is : ℕ → List ℕ)
    → ((entry : ℕ) → is entry ≡ racks_of r m (with_member f index bookie) entry)
    → count_by (λ e. nat_lt (least_racks (is e)) (min r.least m.write_quorum)) (range 0 m.size) ≡ lacking r m f index bookie
lacking_there r m f index bookie is now = λ i.
    count_by (λ e. nat_lt (least_racks (now e i)) (min r.least m.write_quorum)) (range 0 m.size)

-- where no racks are asked for, no write set lacks any
pub none_lacking : (racks : ℕ → ℕ) (wanted : ℕ) → wanted ≡ 0 → (entries : List ℕ)
    → count_by (λ e. nat_lt (racks e) wanted) entries ≡ 0
none_lacking racks wanted none [] = refl
none_lacking racks wanted none (e ∷ es) =
    sum_by-cons (λ x. cond (nat_lt (racks x) wanted) 1 0) e es
    ∙ (λ i. cond (le-ltb (racks e) wanted (omega (arith, none)) i) 1 0 + none_lacking racks wanted none es i)

-- Write sets, one after another

range_more : (n : ℕ) → range 0 (n + 1) ≡ range 0 n ++ n ∷ []
range_more n =
    let long : n + 1 - 0 ≡ (n - 0) + 1 = omega arith in
    let last : 0 + (n - 0) ≡ n = omega arith in
    ap (λ k. range_with_len 0 k) long ∙ range-append 0 (n - 0) 1
    ∙ ap (λ k. range_with_len 0 (n - 0) ++ k ∷ []) last

pub count_more : (p : ℕ → Bool) (n : ℕ) → count_by p (range 0 (n + 1)) ≡ count_by p (range 0 n) + cond (p n) 1 0
count_more p n = ap (count_by p) (range_more n) ∙ sum_by_push (λ x. cond (p x) 1 0) (range 0 n) n

-- the least of so many numbers and one more
reduce_push : (ns : List ℕ) (one : ℕ)
    → reduce min (ns ++ one ∷ []) ≡ Some (option_map_or (λ n. min n one) (reduce min ns) one)
reduce_push [] one = refl
reduce_push (n ∷ ns) one = ap Some (fold_push min n ns one)

pub fewest_more : (racks : ℕ → ℕ) (p : ℕ → Bool) (n : ℕ) → p n ≡ true
    → reduce min (map racks (filter p (range 0 (n + 1))))
    ≡ Some (option_map_or (λ so_far. min so_far (racks n)) (reduce min (map racks (filter p (range 0 n)))) (racks n))
fewest_more racks p n passes =
    ap (λ entries. reduce min (map racks (filter p entries))) (range_more n)
    ∙ ap (λ entries. reduce min (map racks entries))
    (filter-append p (range 0 n) (n ∷ []) ∙ ap (λ b. filter p (range 0 n) ++ cond b (n ∷ []) []) passes)
    ∙ ap (reduce min) (map-append racks (filter p (range 0 n)) (n ∷ []))
    ∙ reduce_push (map racks (filter p (range 0 n))) (racks n)

pub fewest_kept : (racks : ℕ → ℕ) (p : ℕ → Bool) (n : ℕ) → p n ≡ false
    → reduce min (map racks (filter p (range 0 (n + 1)))) ≡ reduce min (map racks (filter p (range 0 n)))
fewest_kept racks p n fails =
    ap (λ entries. reduce min (map racks (filter p entries))) (range_more n)
    ∙ ap (λ entries. reduce min (map racks entries))
    (filter-append p (range 0 n) (n ∷ []) ∙ ap (λ b. filter p (range 0 n) ++ cond b (n ∷ []) []) fails
    ∙ append-nil (filter p (range 0 n)))

-- Copies that stay

filter_none : {X : Type 0} (p : X → Bool) (xs : List X) → ((x : X) → p x ≡ false) → filter p xs ≡ []
filter_none p [] none = refl
filter_none p (x ∷ xs) none =
    ap (λ b. cond b (x ∷ filter p xs) (filter p xs)) (none x) ∙ filter_none p xs none

-- each of some racks is among them
all_among : (ns : List ℕ) → list_all (is_among ns) ns ≡ true
all_among ns =
    list_all-from_AllPass (is_among ns) ns
    (λ k d within. list_any_at (λ other. other == get_or ns k d) ns k d within
    ((tells_numbers (get_or ns k d) (get_or ns k d)).1 refl))

-- the same racks are no fewer
not_fewer : (least : ℕ) (before after : List ℕ) → after ≡ before → may_be_fewer least before after ≡ false
not_fewer least before after same =
    ap (λ (ns : List ℕ). may_be_fewer least before ns) same
    ∙ ap (λ b. not b && nat_lt (least_racks before) (min least (most_racks before))) (all_among before)

-- where each entry's copies stay, none may stand in fewer racks
pub fewest_same : (r : Racks) (m : Metadata) (before : Fragment) (n : Metadata) (after : Fragment)
    → ((entry : ℕ) → writes n after entry ≡ writes m before entry) → fewest_after r m before n after ≡ None
fewest_same r m before n after same =
    ap (λ (es : List ℕ). reduce min (map (racks_at r n after) es))
    (filter_none (λ e. may_be_fewer r.least (racks_of r m before e) (racks_of r n after e)) (range 0 n.size)
    (λ e. not_fewer r.least (racks_of r m before e) (racks_of r n after e) (ap (map (rack_of r)) (same e))))

-- members and sizes that stay keep the copies
pub same_writes : (m : Metadata) (f : Fragment) (n : Metadata) (g : Fragment) → n.size ≡ m.size
    → n.write_quorum ≡ m.write_quorum → g.ensemble ≡ f.ensemble → (entry : ℕ) → writes n g entry ≡ writes m f entry
same_writes m f n g size quorum members entry = λ i.
    map (λ j. slice_index (members i) j) (write_set entry (size i) (quorum i))

-- Fragments

-- the ensemble of a fragment has the size
pub whole_at : (m : Metadata) (f : ℕ) (fragment : Fragment) → IsMetadata m → slice_get m.fragments f ≡ Some fragment
    → length fragment.ensemble ≡ m.size
whole_at m f fragment rules there =
    let within = slice_get_within m.fragments f fragment there in
    (subst (λ (x : Fragment). IsEnsemble m.size x.ensemble) (get_or_from_slice_get m.fragments f fragment fragment there)
    (rules.ensembles f fragment within)).whole

-- of a fragment that is there before and after, the least number of racks
pub fewest_at : (r : Racks) (m n : Metadata) (f : ℕ) (before after : Fragment) → fragment_before m f ≡ Some before
    → slice_get n.fragments f ≡ Some after → fewest_racks r m n f ≡ fewest_after r m before n after
fewest_at r m n f before after old new = λ i.
    option_map_or (λ (b : Fragment). option_map_or (λ (a : Fragment). fewest_after r m b n a) (new i) None) (old i) None

-- Copies that are passed

-- one copy more
pub copy_more : (numbers racks : List ℕ) (count index n : ℕ) (all left rest : List ℕ) → count < length numbers
    → n ≡ slice_index racks index → left ≡ index ∷ rest
    → take count numbers ++ map (slice_index racks) left ≡ all
    → take (count + 1) (set numbers count n) ++ map (slice_index racks) rest ≡ all
copy_more numbers racks count index n all left rest there is split done =
    ap (λ (ns : List ℕ). ns ++ map (slice_index racks) rest) (take_more_set numbers count n there)
    ∙ append_assoc (take count numbers) (n ∷ []) (map (slice_index racks) rest)
    ∙ ap (λ (k : ℕ). take count numbers ++ k ∷ map (slice_index racks) rest) is
    ∙ ap (λ (is : List ℕ). take count numbers ++ map (slice_index racks) is) (sym split)
    ∙ done

-- Write sets

-- a write set has as many indexes as the write quorum
pub long_writes : (entry size quorum : ℕ) → length (write_set entry size quorum) ≡ quorum
long_writes entry size quorum =
    let whole : quorum - 0 ≡ quorum = omega arith in
    ap (λ n. length (map (index_at entry size) (range_with_len 0 n))) whole
    ∙ length-map-range_with_len (index_at entry size) 0 quorum

-- where they are the racks of a write set, there are as many as the write quorum
pub long_copies : (numbers racks : List ℕ) (entry size quorum : ℕ)
    → take quorum numbers ≡ map (slice_index racks) (write_set entry size quorum) → length (take quorum numbers) ≡ quorum
long_copies numbers racks entry size quorum are =
    ap (λ (ns : List ℕ). length ns) are ∙ long-map (slice_index racks) (write_set entry size quorum)
    ∙ long_writes entry size quorum
