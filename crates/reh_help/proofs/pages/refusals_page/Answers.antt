-- The line of one refusal more.
use Rattle.std.proofs.Common.{◌++◌, ◌∙◌, ap, string_bytes, arith}
use Rattle.reh_help.specs.Pages.{IsRefusalLine}
use Rattle.reh_help.specs.declared.pages.TheConstants.{REFUSALS}
use Rattle.reh_help.proofs.PageLaws.{added, next}
use Rattle.reh_help.proofs.pages.refusals_page.Goals as goal

pub loop-topic-preserved : goal.loop-topic-preserved
loop-topic-preserved c =
    let so_far = c.loop-topic.invariant in (
      so_far.0 ++ string_bytes c.in_ok-line.line,
      added REFUSALS.now so_far.0 (string_bytes c.in_ok-line.line) _ _ so_far.1
          (c.in_ok-push_str.ensures.bytes ∙ ap (λ t. string_bytes c.loop-topic.text ++ t) c.as_str.ensures.value),
      next IsRefusalLine c.topics-topic-items.result c.loop-topic.topic-index c.topic-item.result so_far.0 _ (omega arith) so_far.2 c.in_ok-line.ensures,
    )
