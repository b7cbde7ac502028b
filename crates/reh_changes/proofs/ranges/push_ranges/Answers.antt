-- One entry more is passed, and at the end the open range is added.
use Rattle.std.proofs.Common.{◌≡◌, ◌+◌, ◌*◌, ◌-◌, ◌++◌, ap, sym, ◌∙◌, string_bytes, arith}
use Rattle.std.specs.Prelude.{None}
use Rattle.reh_model.specs.Contents.{is_in_word}
use Rattle.reh_changes.proofs.RangeLaws.{words_on, words_on-is, words_on-end, entry_more}
use Rattle.reh_changes.proofs.ranges.push_ranges.Goals as goal

pub loop-i-preserved : goal.loop-i-preserved
loop-i-preserved c = record {
  begun = λ x is. omega (arith, c.in_ok-since.ensures.begun x is);
  text =
      rw (c.in_ok-since.ensures.text, c.in_ok-since.ensures.next, c.is_bit_set.ensures)
      (entry_more _ c.args.sign.now c.args.number c.args.bits c.loop-i.since c.loop-i.i (omega arith)
      ∙ c.loop-i.invariant.text);
}

pub returns : goal.returns
returns c =
    let sign = c.args.sign.now in
    let number = c.args.number in
    let test = is_in_word c.args.number c.args.bits in
    let done : 64 ≡ c.loop-i.i = omega arith in
    c.in_ok-pass.ensures.text
    ∙ ap (λ t. string_bytes c.loop-i.text ++ t) (sym (words_on-end sign test c.loop-i.since (64 * number + 64)))
    ∙ (λ k. string_bytes c.loop-i.text ++ words_on sign test c.loop-i.since (64 * number + done k) (64 - done k))
    ∙ c.loop-i.invariant.text
    ∙ ap (λ t. string_bytes c.args.text.now ++ t) (words_on-is sign test None (64 * number) 64)
