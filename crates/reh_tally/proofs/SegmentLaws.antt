-- Over a segment an entry's class is that of its remainder's masks.
use Rattle.std.proofs.Common.{◌≡◌, ◌∙◌, ◌+◌, ◌-◌, ◌%◌, ◌<◌, ◌≤◌, ◌&&◌, ℕ, Bool, List, length, map, All, ap, sym, arith, inl, inr, get_or}
use Rattle.std.specs.Prelude.{bit_and, ◌==◌, slice_index}
use Rattle.std.specs.List.{list_any}
use Rattle.std.proofs.Math.Nat.{mod-add-mod}
use Rattle.std.proofs.lemmas.List.FromFn.{get_or-map-range_with_len, length-map-range_with_len}
use Rattle.std.proofs.lemmas.Nat.{mod_below}
use Rattle.reh_census.specs.declared.classes.Class.{Class}
use Rattle.reh_census.specs.declared.ledgers.Fragment.{Fragment}
use Rattle.reh_census.specs.declared.ledgers.Told.{Told}
use Rattle.reh_census.specs.Counting.{count_between}
use Rattle.reh_census.specs.Ledgers.{Ledger, carries, class_of, is_held, is_untold, told_of}
use Rattle.reh_census.specs.Striping.{range}
use Rattle.reh_census.proofs.RangeLaws.{count-parted, count-same}
use Rattle.reh_tally.specs.declared.cursors.Cursor.{Cursor}
use Rattle.reh_tally.specs.Cursors.{IsCursor, IsFar, members_of, told_at}
use Rattle.reh_tally.specs.Masks.{mask_of, masks_of}
use Rattle.reh_tally.specs.Segments.{class_by, count_masks}
use Rattle.reh_tally.proofs.MaskLaws.{and-mask, chosen-mask, mask-map, mask-same}

-- the members that carry an entry hang on its remainder
carries-rest : (g : Ledger) (fragment : Fragment) (entry b : ℕ) → carries g fragment (entry % g.size) b ≡ carries g fragment entry b
carries-rest g fragment entry b =
    ap
    (λ (at : ℕ → ℕ). list_any (λ member. member == b) (map (λ i. slice_index fragment.ensemble i) (map at (range 0 g.write_quorum))))
    (λ i j. mod-add-mod entry g.size j i)

-- so its mask is that of the remainder
mask-rest : (members : List ℕ) (g : Ledger) (fragment : Fragment) (masks : List ℕ) (entry : ℕ) → 0 < g.size
    → masks ≡ masks_of members g fragment
    → slice_index masks (entry % length masks) ≡ mask_of (carries g fragment entry) members
mask-rest members g fragment masks entry some is =
    let f : ℕ → ℕ = λ remainder. mask_of (carries g fragment remainder) members in
    let size : length masks ≡ g.size = ap length is ∙ length-map-range_with_len f 0 (g.size - 0) ∙ (let n : g.size - 0 ≡ g.size = omega arith in n) in
    let within : entry % g.size < g.size - 0 = omega (arith, mod_below entry g.size some) in
    let at : 0 + entry % g.size ≡ entry % g.size = omega arith in
    (λ i. slice_index (is i) (entry % size i))
    ∙ get_or-map-range_with_len f 0 (g.size - 0) (entry % g.size) (entry % g.size) 0 within at
    ∙ (λ i. mask_of (λ b. carries-rest g fragment entry b i) members)

-- what cursors tell of the entries before their ends
held-mask : (g : Ledger) (cursors : List Cursor) (at next entry held : ℕ) → All (IsCursor g at) cursors
    → All (λ (c : Cursor). next ≤ c.stretch.end) cursors → held ≡ mask_of (λ (c : Cursor). c.stretch.is_held) cursors
    → at ≤ entry → entry < next → held ≡ mask_of (λ b. is_held entry (told_of g b)) (members_of cursors)
held-mask g cursors at next entry held told before is from below =
    is
    ∙ mask-same (λ (c : Cursor). c.stretch.is_held) (λ (c : Cursor). is_held entry (told_of g c.bookie)) cursors
    (λ k d within.
    sym (ap (λ (one : Told). is_held entry one) (sym (told k d within).told)
    ∙ (told k d within).stretch.same entry from (omega (arith, below, before k d within))))
    ∙ sym (mask-map (λ b. is_held entry (told_of g b)) (λ (c : Cursor). c.bookie) cursors)

pub untold-mask : (g : Ledger) (cursors : List Cursor) (at untold : ℕ) → All (IsCursor g at) cursors
    → untold ≡ mask_of (λ (c : Cursor). is_untold (told_at g c.content)) cursors
    → untold ≡ mask_of (λ b. is_untold (told_of g b)) (members_of cursors)
untold-mask g cursors at untold told is =
    is
    ∙ mask-same (λ (c : Cursor). is_untold (told_at g c.content)) (λ (c : Cursor). is_untold (told_of g c.bookie)) cursors
    (λ k d within. ap (λ (one : Told). is_untold one) (told k d within).told)
    ∙ sym (mask-map (λ b. is_untold (told_of g b)) (λ (c : Cursor). c.bookie) cursors)

-- a class by masks
class-masks : (members : List ℕ) (g : Ledger) (fragment : Fragment) (entry mask held untold : ℕ)
    → mask ≡ mask_of (carries g fragment entry) members
    → held ≡ mask_of (λ b. is_held entry (told_of g b)) members
    → untold ≡ mask_of (λ b. is_untold (told_of g b)) members
    → class_of members g fragment entry ≡ class_by members g (bit_and mask held) (bit_and mask untold)
class-masks members g fragment entry mask held untold carried holds lacks =
    let both : (m : ℕ) (test : ℕ → Bool) → m ≡ mask_of test members
    → bit_and mask m ≡ mask_of (λ b. carries g fragment entry b && test b) members =
    λ m test is. (λ i. bit_and (carried i) (is i)) ∙ and-mask (carries g fragment entry) test members in
    (λ i. record {
      known = sym (chosen-mask (λ b. carries g fragment entry b && is_held entry (told_of g b)) members) i;
      untold = sym (chosen-mask (λ b. carries g fragment entry b && is_untold (told_of g b)) members) i;
      ack_quorum = g.ack_quorum;
      write_quorum = g.write_quorum;
    })
    ∙ (λ i. class_by members g (sym (both held (λ b. is_held entry (told_of g b)) holds) i) (sym (both untold (λ b. is_untold (told_of g b)) lacks) i))

-- the entries up to the next cut, by masks
pub count-segment : (members : List ℕ) (g : Ledger) (fragment : Fragment) (masks : List ℕ) (cursors : List Cursor) (at next held untold : ℕ)
    → 0 < g.size → at ≤ next → masks ≡ masks_of members g fragment → members_of cursors ≡ members → All (IsCursor g at) cursors
    → All (λ (c : Cursor). next ≤ c.stretch.end) cursors → held ≡ mask_of (λ (c : Cursor). c.stretch.is_held) cursors
    → untold ≡ mask_of (λ b. is_untold (told_of g b)) members
    → (test : Class → Bool)
    → count_masks masks held untold at next (λ known lacking. test (class_by members g known lacking)) ≡ count_between members g fragment at next test
count-segment members g fragment masks cursors at next held untold some order carried of told before holds lacks test =
    count-same
    (λ e. test (class_by members g (bit_and (slice_index masks (e % length masks)) held) (bit_and (slice_index masks (e % length masks)) untold)))
    (λ e. test (class_of members g fragment e)) at (next - at)
    (λ e from below.
    ap test
    (sym
    (class-masks members g fragment e (slice_index masks (e % length masks)) held untold (mask-rest members g fragment masks e some carried)
    (held-mask g cursors at next e held told before holds from (omega (arith, below, order)) ∙ ap (λ bs. mask_of (λ b. is_held e (told_of g b)) bs) of)
    lacks)))

-- a part of a fragment more
pub between-more : (members : List ℕ) (g : Ledger) (fragment : Fragment) (first at next : ℕ) (test : Class → Bool) (now more : ℕ)
    → first ≤ at → at ≤ next → now ≡ count_between members g fragment first at test
    → more ≡ now + count_between members g fragment at next test
    → more ≡ count_between members g fragment first next test
between-more members g fragment first at next test now more low high was is =
    omega (arith, was, is, count-parted (λ e. test (class_of members g fragment e)) first at next low high)

-- a cursor tells of later entries too
pub cursors-later : (g : Ledger) (at next : ℕ) (cursors : List Cursor) → at ≤ next → All (IsCursor g at) cursors → All (IsCursor g next) cursors
cursors-later g at next cursors order told k d within = record {
  told = (told k d within).told;
  rising = (told k d within).rising;
  stretch = record {
    passed = λ n r under. omega (arith, order, (told k d within).stretch.passed n r under);
    same = λ entry from below. (told k d within).stretch.same entry (omega (arith, order, from)) below;
  };
}

pub masks-length : (members : List ℕ) (g : Ledger) (fragment : Fragment) (masks : List ℕ) → masks ≡ masks_of members g fragment
    → length masks ≡ g.size
masks-length members g fragment masks is =
    ap length is
    ∙ length-map-range_with_len (λ remainder. mask_of (carries g fragment remainder) members) 0 (g.size - 0)
    ∙ (let n : g.size - 0 ≡ g.size = omega arith in n)

still_far : (g : Ledger) (at next stop : ℕ) (cursor : Cursor) → at ≤ next → IsFar g at stop cursor → IsFar g next stop cursor
still_far g at next stop cursor order (inl none) = inl (omega (arith, order, none))
still_far g at next stop cursor order (inr end) = inr end

pub far-later : (g : Ledger) (at next stop : ℕ) (cursors : List Cursor) → at ≤ next → All (IsFar g at stop) cursors → All (IsFar g next stop) cursors
far-later g at next stop cursors order far k d within = still_far g at next stop (get_or cursors k d) order (far k d within)
