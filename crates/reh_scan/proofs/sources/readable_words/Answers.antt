-- Each of the words gets the bits of a row's word that the index carries.
use Rattle.std.proofs.Common.{◌≡◌, ◌∙◌, ◌+◌, ◌*◌, ◌%◌, ◌<◌, ℕ, length, slice_index, ap, sym, subst, arith}
use Rattle.std.specs.Prelude.{bit_or}
use Rattle.reh_model.specs.Metadata.{Metadata, IsMetadata}
use Rattle.reh_model.specs.Striping.{is_striped}
use Rattle.reh_stripe.specs.Masks.{Sizes}
use Rattle.reh_stripe.specs.Words.{has_bit}
use Rattle.reh_scan.proofs.WordLaws.{IsRead, read-more, read-all}
use Rattle.reh_scan.proofs.sources.readable_words.Goals as goal

pub loop-index-preserved : goal.loop-index-preserved
loop-index-preserved c = λ k within i inside.
    let m : Metadata = c.args.metadata.now in
    let index : ℕ = c.loop-index.index in
    let number : ℕ = c.args.number in
    let rules_of : IsMetadata m = c.size-index-end.ensures.well_formed in
    let there : index < length c.args.rows.now =
    omega (arith, rules_of.small, c.size-index-end.ensures.size, c.told-rows) in
    let size : m.size ≡ c.args.masks.now.size = ap (λ (v : Sizes). v.size) (sym c.requires.masks) in
    let word : slice_index c.or-readable.result.words k
    ≡ bit_or (slice_index c.loop-index.readable.words k) _ =
    c.or-readable.ensures k within
    ∙ ap (λ w. bit_or (slice_index c.loop-index.readable.words k) w) (c.and.ensures k within) in
    ap (λ w. has_bit w i) word
    ∙ read-more c.args.rows.now m.size m.write_quorum (number + k) index (slice_index c.loop-index.readable.words k)
    (slice_index c.at-held.result.words k) (slice_index c.carried.result.words k) _ there
    (c.at-held.ensures k within)
    (λ i in_word.
    c.carried.ensures number k i (c.requires.start ∙ ap (λ n. (64 * number) % n) size) within in_word
    ∙ ap (λ (v : Sizes). is_striped (64 * (number + k) + i) index v.size v.quorum) c.requires.masks)
    (c.loop-index.invariant k within) i inside

pub returns : goal.returns
returns c = λ k i within inside.
    let m : Metadata = c.args.metadata.now in
    let rules_of : IsMetadata m = c.size-index-end.ensures.well_formed in
    let all : c.loop-index.index ≡ m.size = omega (arith, c.size-index-end.ensures.size) in
    let word : ℕ = slice_index c.loop-index.readable.words k in
    let was =
    subst (λ (n : ℕ). IsRead c.args.rows.now m.size m.write_quorum (c.args.number + k) n word) all
    (c.loop-index.invariant k within) in
    read-all c.args.rows.now m.size m.write_quorum (c.args.number + k) word
    (omega (arith, rules_of.some_acks, rules_of.acks_within, rules_of.writes_within)) was i inside
