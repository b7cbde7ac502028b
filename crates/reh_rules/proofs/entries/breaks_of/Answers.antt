use Rattle.std.proofs.Common.{◌≡◌, ◌∙◌, ◌+◌, ◌-◌, ◌&&◌, not, ℕ, Bool, List, ap, sym, length, nat_lt, arith}
use Rattle.std.specs.Prelude.{count_by, min}
use Rattle.reh_census.specs.declared.classes.Class.{Class}
use Rattle.reh_census.specs.Bookies.{is_flagged}
use Rattle.reh_census.specs.Copies.{left}
use Rattle.reh_census.specs.Rules.{copies_to_keep, falls, loses, may_fall, may_lose}
use Rattle.reh_census.proofs.RuleLaws.{kept-worst, stopped-left}
use Rattle.reh_rules.proofs.EntryLaws.{best-counts, best-reading, worst-reading}
use Rattle.reh_rules.proofs.entries.breaks_of.Goals as goal

pub returns : goal.returns
returns c =
    let s : ℕ → Bool = is_flagged c.args.stopped.now in
    let class : Class = c.args.class.now in
    let keep : ℕ = copies_to_keep c.args.keep class.ack_quorum in
    let many : length c.as_slice-known.result.now ≡ length class.known = ap length c.as_slice-known.ensures in
    let others : length c.as_slice-untold.result.now ≡ length class.untold = ap length c.as_slice-untold.ensures in
    let stops : c.count_stopped.result ≡ count_by s class.known =
    c.count_stopped.ensures.stopped ∙ ap (λ (names : List ℕ). count_by s names) c.as_slice.ensures in
    let stops_untold : c.count_stopped-stopped_untold.result ≡ count_by s class.untold =
    c.count_stopped-stopped_untold.ensures.stopped ∙ ap (λ (names : List ℕ). count_by s names) c.as_slice-2.ensures in
    let rest : length c.as_slice-known.result.now - c.count_stopped.result ≡ left s class.known =
    omega (arith, many, stops, stopped-left s class.known) in
    let rest_untold : length c.as_slice-untold.result.now - c.count_stopped-stopped_untold.result ≡ left s class.untold =
    omega (arith, others, stops_untold, stopped-left s class.untold) in
    let least : c.copies_to_keep-least.result ≡ keep = c.copies_to_keep-least.ensures in
    let lost : c.is_broken-lost.result ≡ loses s class =
    c.is_broken-lost.ensures ∙ (λ j. nat_lt (rest j + rest_untold j) (min (many j + rest_untold j) 1)) ∙ sym (best-reading s class) in
    let may_be_lost : c.is_broken-may_lose.result ≡ may_lose s class =
    c.is_broken-may_lose.ensures ∙ (λ j. nat_lt (rest j) (min (many j + stops_untold j) 1)) ∙ sym (worst-reading s class) in
    let fallen : c.is_broken-fallen.result ≡ falls c.args.keep s class =
    c.is_broken-fallen.ensures ∙ (λ j. nat_lt (rest j + rest_untold j) (min (many j + rest_untold j) (least j)))
    ∙ sym (best-counts keep s class) in
    let may_be_fallen : c.is_broken-may_fall.result ≡ may_fall c.args.keep s class =
    c.is_broken-may_fall.ensures ∙ (λ j. nat_lt (rest j) (min (many j + stops_untold j) (least j))) ∙ sym (kept-worst keep s class) in
    λ i. record {
      lost = lost i;
      may_be_lost = (c.not_sure-may_be_lost.ensures ∙ (λ j. may_be_lost j && not (lost j))) i;
      fallen = fallen i;
      may_be_fallen = (c.not_sure-may_be_fallen.ensures ∙ (λ j. may_be_fallen j && not (fallen j))) i;
      on_disk = (c.is_on_disk-on_disk.ensures ∙ (λ j. nat_lt (many j) (least j) && c.args.takes_disk)) i;
    }
