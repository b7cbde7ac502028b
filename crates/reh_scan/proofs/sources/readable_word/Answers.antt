-- The word gets the bits of a row's word that the index carries.
use Rattle.std.proofs.Common.{◌≡◌, ◌∙◌, ◌+◌, ◌*◌, ◌%◌, ◌<◌, ℕ, length, ap, sym, subst, arith}
use Rattle.std.proofs.lemmas.Nat.{mod_below}
use Rattle.reh_model.specs.Metadata.{Metadata, IsMetadata}
use Rattle.reh_model.specs.Striping.{is_striped}
use Rattle.reh_stripe.specs.Masks.{Sizes}
use Rattle.reh_scan.proofs.WordLaws.{IsRead, read-more, read-all}
use Rattle.reh_scan.proofs.sources.readable_word.Goals as goal

pub carried-carried-requires-clause-start : goal.carried-carried-requires-clause-start
carried-carried-requires-clause-start c =
    let m : Metadata = c.args.metadata.now in
    let rules_of : IsMetadata m = c.size-index-end.ensures.well_formed in
    let size : m.size ≡ c.args.masks.now.size = ap (λ (v : Sizes). v.size) (sym c.requires.masks) in
    omega (
      arith,
      size,
      c.requires.start,
      mod_below (64 * c.args.number) m.size
          (omega (arith, rules_of.some_acks, rules_of.acks_within, rules_of.writes_within)),
    )

pub carried-carried-requires-clause-index : goal.carried-carried-requires-clause-index
carried-carried-requires-clause-index c =
    let size : c.size-index-end.result ≡ c.args.masks.now.size =
    c.size-index-end.ensures.size ∙ ap (λ (v : Sizes). v.size) (sym c.requires.masks) in
    omega (arith, size)

pub loop-index-preserved : goal.loop-index-preserved
loop-index-preserved c =
    let m : Metadata = c.args.metadata.now in
    let index : ℕ = c.loop-index.index in
    let number : ℕ = c.args.number in
    let rules_of : IsMetadata m = c.size-index-end.ensures.well_formed in
    let inside : index < length c.args.rows.now =
    omega (arith, rules_of.small, c.size-index-end.ensures.size, c.told-rows) in
    let size : m.size ≡ c.args.masks.now.size = ap (λ (v : Sizes). v.size) (sym c.requires.masks) in
    read-more c.args.rows.now m.size m.write_quorum number index c.loop-index.readable c.word_at.result
    c.carried-carried.result _ inside
    c.word_at.ensures
    (λ i in_word. c.carried-carried.ensures number i (c.requires.start ∙ ap (λ n. (64 * number) % n) size) in_word
    ∙ ap (λ (v : Sizes). is_striped (64 * number + i) index v.size v.quorum) c.requires.masks) c.loop-index.invariant

pub returns : goal.returns
returns c =
    let m : Metadata = c.args.metadata.now in
    let rules_of : IsMetadata m = c.size-index-end.ensures.well_formed in
    let all : c.loop-index.index ≡ m.size = omega (arith, c.size-index-end.ensures.size) in
    let was =
    subst (λ (n : ℕ). IsRead c.args.rows.now m.size m.write_quorum c.args.number n c.loop-index.readable) all
    c.loop-index.invariant in
    read-all c.args.rows.now m.size m.write_quorum c.args.number c.loop-index.readable
    (omega (arith, rules_of.some_acks, rules_of.acks_within, rules_of.writes_within)) was
