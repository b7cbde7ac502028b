-- How deep what is written nests.
use Rattle.std.proofs.Common.{ℕ, suc, Bool, ◌≤◌, List, [], ◌∷◌, ◌++◌, map, arith}
use Rattle.std.proofs.Math.Nat.{max-le}
use Rattle.serde_json.specs.Data.{Data, depth, items_depth}
use Rattle.serde_json.specs.View.{items_of}
use Rattle.reh_types.specs.declared.names.LedgerState.{LedgerState}
use Rattle.reh_types.specs.declared.names.LedgerState.TheVariants.{Open, InRecovery, Closed}
use Rattle.reh_model.specs.Metadata.{Fragment}
use Rattle.reh_model.specs.Cluster.{Cluster, Ledger}
use Rattle.std.specs.Prelude.{◌==◌, true, false, if◌then◌else◌, Option, None, Some}
use Rattle.reh_model.specs.Cluster.{is_up}
use Rattle.reh_picture.specs.Marks.{BookieMarks}
use Rattle.reh_picture_out.specs.Marks.{kept_marks}
use Rattle.reh_picture_out.specs.Written.{name_at, bookie_data, bookie_data_at, bookies_data, member_data, fragment_data, ledger_data, last_data}
use Rattle.reh_picture_out.specs.Written.{range_data, content_data, ledgers_data, first_data, delayed_data, written_data}

-- a list nests no deeper than each element
pub depth-made : {A : Type 0} (f : A → Data) (n : ℕ) → ((x : A) → depth (f x) ≤ n) → (xs : List A)
    → items_depth (items_of (map f xs)) ≤ n
depth-made f n each [] = omega arith
depth-made f n each (x ∷ xs) = max-le (each x) (depth-made f n each xs)

pub depth-push : (n : ℕ) (ds : List Data) (d : Data) → items_depth (items_of ds) ≤ n → depth d ≤ n
    → items_depth (items_of (ds ++ d ∷ [])) ≤ n
depth-push n [] d flat one = max-le one flat
depth-push n (x ∷ ds) d flat one =
    let first : depth x ≤ n = omega (arith, flat) in
    let rest : items_depth (items_of ds) ≤ n = omega (arith, flat) in
    max-le first (depth-push n ds d rest one)

depth-last : (state : LedgerState) → depth (last_data state) ≤ 0
depth-last Open = omega arith
depth-last InRecovery = omega arith
depth-last (Closed end) = omega arith

-- one level more
up : (n : ℕ) {m : ℕ} → m ≤ n → suc m ≤ suc n
up n {m} h = omega (arith, h)

none : 0 ≤ 0
none = omega arith

depth-bookie : (name : List ℕ) (up : Bool) (marks : BookieMarks) → depth (bookie_data name up marks) ≤ 1
depth-bookie name up marks = go marks.rack
  where
    go : (rack : Option (List ℕ)) → depth (bookie_data name up (record marks { rack = rack })) ≤ 1
    go None = omega arith
    go (Some rack) = omega arith

pub depth-bookies : (s : Cluster) (marks : List BookieMarks) → items_depth (items_of (bookies_data s marks)) ≤ 1
depth-bookies s marks =
    depth-made (bookie_data_at s marks) 1
    (λ b. depth-bookie (name_at s.names b) (is_up s b) (kept_marks s marks b)) _

flat-member : 0 ≤ 3
flat-member = omega arith

depth-fragment : (names : List (List ℕ)) (fragment : Fragment) → depth (fragment_data names fragment) ≤ 2
depth-fragment names fragment =
    let members : items_depth (items_of (map (member_data names) fragment.ensemble)) ≤ 0 =
    depth-made (member_data names) 0 (λ b. none) fragment.ensemble in
    omega (arith, members)

depth-ledger : (names : List (List ℕ)) (g : Ledger) → depth (ledger_data names g) ≤ 4
depth-ledger names g =
    let fragments : items_depth (items_of (map (fragment_data names) g.metadata.fragments)) ≤ 2 =
    depth-made (fragment_data names) 2 (depth-fragment names) g.metadata.fragments in
    let listed : suc (items_depth (items_of (map (fragment_data names) g.metadata.fragments))) ≤ 3 =
    omega (arith, fragments) in
    let last : depth (last_data g.metadata.state) ≤ 3 = omega (arith, depth-last g.metadata.state) in
    up 3 (max-le flat-member (max-le flat-member (max-le listed (max-le flat-member
    (max-le last (max-le flat-member (max-le flat-member (max-le flat-member flat-member))))))))

pub depth-ledgers : (names : List (List ℕ)) (ledgers : List Ledger) → items_depth (items_of (ledgers_data names ledgers)) ≤ 4
depth-ledgers names ledgers = depth-made (ledger_data names) 4 (depth-ledger names) ledgers

pub depth-content : (assumed : Bool) (name : List ℕ) (ledger : ℕ) (ranges : List (ℕ × ℕ))
    → depth (content_data assumed name ledger ranges) ≤ 3
depth-content assumed name ledger ranges =
    let entries : items_depth (items_of (map range_data ranges)) ≤ 1 =
    depth-made range_data 1 (λ r. omega arith) ranges in
    omega (arith, entries)

pub depth-written : (delay grace : ℕ) (bookies ledgers contents : List Data)
    → items_depth (items_of bookies) ≤ 1 → items_depth (items_of ledgers) ≤ 4 → items_depth (items_of contents) ≤ 3
    → depth (written_data delay grace bookies ledgers contents) ≤ 6
depth-written delay grace bookies ledgers contents b l c =
    let bookies_in : suc (items_depth (items_of bookies)) ≤ 5 = omega (arith, b) in
    let ledgers_in : suc (items_depth (items_of ledgers)) ≤ 5 = omega (arith, l) in
    let contents_in : suc (items_depth (items_of contents)) ≤ 5 = omega (arith, c) in
    let flat : 0 ≤ 5 = omega arith in
    go (delay == 0) bookies_in ledgers_in contents_in flat
  where
    go : (first : Bool) → suc (items_depth (items_of bookies)) ≤ 5 → suc (items_depth (items_of ledgers)) ≤ 5
        → suc (items_depth (items_of contents)) ≤ 5 → 0 ≤ 5
        → depth (if first then first_data grace bookies ledgers contents else delayed_data delay grace bookies ledgers contents)
        ≤ 6
    go true b l c flat = up 5 (max-le b (max-le c (max-le flat (max-le flat (max-le l flat)))))
    go false b l c flat = up 5 (max-le b (max-le c (max-le flat (max-le flat (max-le l (max-le flat flat))))))
