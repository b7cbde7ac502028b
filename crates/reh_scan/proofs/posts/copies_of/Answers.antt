-- The bookie at the index gets the bits of its row's word that the index carries.
use Rattle.std.proofs.Common.{◌≡◌, ◌∙◌, ◌+◌, ◌*◌, ◌%◌, ◌<◌, ℕ, length, ap, sym, subst, arith, slice_index, length-set}
use Rattle.std.specs.Prelude.{bit_and, bit_or}
use Rattle.std.proofs.lemmas.List.{get_or_read}
use Rattle.reh_model.specs.Metadata.{Fragment, Metadata, IsMetadata}
use Rattle.reh_model.specs.Striping.{is_striped}
use Rattle.reh_stripe.specs.Masks.{Sizes}
use Rattle.reh_scan.proofs.CopyLaws.{AreCarried, carried-more, carried-all, zeros-none}
use Rattle.reh_scan.proofs.posts.copies_of.Goals as goal

pub loop-index-init : goal.loop-index-init
loop-index-init c = record {
  whole = omega arith;
  carried = λ bookie i inside. zeros-none 64 bookie i;
}

pub loop-index-preserved : goal.loop-index-preserved
loop-index-preserved c =
    let m : Metadata = c.args.metadata.now in
    let fragment : Fragment = c.args.fragment.now in
    let index : ℕ = c.loop-index.index in
    let number : ℕ = c.args.number in
    let member : ℕ = c.behind-fragment.inside.0 in
    let rules_of : IsMetadata m = c.size-size.ensures.well_formed in
    let inside : index < length c.args.rows.now =
    omega (arith, rules_of.small, c.size-size.ensures.size, c.told-rows) in
    let size : c.size-size.result ≡ c.args.masks.now.size =
    c.size-size.ensures.size ∙ ap (λ (v : Sizes). v.size) (sym c.requires.masks) in
    let long = ap (λ (f : Fragment). length f.ensemble) c.fragment.view_is in
    let stands : member ≡ slice_index fragment.ensemble index =
    c.behind-fragment.view_is
    ∙ get_or_read c.fragment.inside.ensemble.items index c.index.result.now
    (omega (arith, c.requires.ensemble, long, c.size-size.ensures.size)) c.index.ensures 0
    ∙ ap (λ (f : Fragment). slice_index f.ensemble index) c.fragment.view_is in
    let few = c.requires.members index 0 (omega (arith, c.requires.ensemble, c.size-size.ensures.size)) in
    let within : member < length c.loop-index.copies = omega (arith, stands, few, c.loop-index.invariant.whole) in
    record {
      whole =
          length-set c.loop-index.copies member
          (bit_or (slice_index c.loop-index.copies member) (bit_and c.word_at.result c.carried-carried.result))
          ∙ c.loop-index.invariant.whole;
      carried =
          carried-more c.args.rows.now fragment m.size m.write_quorum number index c.word_at.result
          c.carried-carried.result c.loop-index.copies _ member inside stands within c.word_at.ensures
          (λ i in_word. c.carried-carried.ensures number i (ap (λ n. (64 * number) % n) size) in_word
          ∙ ap (λ (v : Sizes). is_striped (64 * number + i) index v.size v.quorum) c.requires.masks)
          c.loop-index.invariant.carried;
    }

pub returns : goal.returns
returns c =
    let m : Metadata = c.args.metadata.now in
    let rules_of : IsMetadata m = c.size-size.ensures.well_formed in
    let all : c.loop-index.index ≡ m.size = omega (arith, c.size-size.ensures.size) in
    carried-all c.args.rows.now c.args.fragment.now m.size m.write_quorum c.args.number c.loop-index.copies
    (omega (arith, rules_of.some_acks, rules_of.acks_within, rules_of.writes_within))
    (subst (λ (n : ℕ).
    AreCarried c.args.rows.now c.args.fragment.now m.size m.write_quorum c.args.number n c.loop-index.copies) all
    c.loop-index.invariant.carried)
