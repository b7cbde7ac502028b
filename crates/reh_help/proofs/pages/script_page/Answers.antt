-- The page of one command more.
use Rattle.std.proofs.Common.{◌++◌, ◌∙◌, ap, string_bytes, arith}
use Rattle.reh_help.specs.Pages.{IsCommandPart}
use Rattle.reh_help.specs.declared.pages.TheConstants.{SCRIPT}
use Rattle.reh_help.proofs.PageLaws.{added, next}
use Rattle.reh_help.proofs.pages.script_page.Goals as goal

pub loop-verb-preserved : goal.loop-verb-preserved
loop-verb-preserved c =
    let so_far = c.loop-verb.invariant in (
      so_far.0 ++ string_bytes c.in_ok-part.part,
      added SCRIPT.now so_far.0 (string_bytes c.in_ok-part.part) _ _ so_far.1
          (c.in_ok-push_str.ensures.bytes ∙ ap (λ t. string_bytes c.loop-verb.text ++ t) c.as_str.ensures.value),
      next IsCommandPart c.all-verb-items.result c.loop-verb.verb-index _ so_far.0 _ (omega arith) so_far.2 c.in_ok-part.ensures,
    )
