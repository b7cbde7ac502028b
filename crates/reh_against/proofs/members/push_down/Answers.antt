use Rattle.std.proofs.Common.{◌∙◌, ◌++◌, ℕ, List, ap, map, append_assoc, string_bytes}
use Rattle.std.specs.Prelude.{flat_map}
use Rattle.reh_census.specs.Bookies.{bookies_of}
use Rattle.reh_census.specs.Striping.{range}
use Rattle.reh_answer.proofs.TextLaws.{range-printed}
use Rattle.reh_against.specs.Causes.{down_if, is_down_member}
use Rattle.reh_against.proofs.members.push_down.Goals as goal

pub loop-bookie-preserved : goal.loop-bookie-preserved
loop-bookie-preserved c =
    let first : List ℕ = string_bytes c.args.text.now in
    let n : ℕ = c.loop-bookie.bookie in
    let one : ℕ → List ℕ = λ b.
    down_if (map string_bytes c.args.names.now) b (is_down_member (bookies_of c.args.bookies.now) c.args.parts.now b) in
    c.in_ok-push_if_down.ensures
    ∙ ap (λ (t : List ℕ). t ++ one n) c.loop-bookie.invariant
    ∙ append_assoc first (flat_map one (range 0 n)) (one n)
    ∙ ap (λ (t : List ℕ). first ++ t) (range-printed one n)
