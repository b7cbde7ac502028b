-- The slice from the place of the entry on.
use Rattle.std.proofs.Common.{◌≡◌, ◌∙◌, ◌+◌, ◌-◌, ◌*◌, ◌%◌, ℕ, ap, drop, take, arith, sym}
use Rattle.reh_model.specs.Striping.{write_set}
use Rattle.reh_stripe.proofs.RoundLaws.{slice-write_set}
use Rattle.reh_stripe.proofs.rounds.Round.write_set.Goals as goal

pub returns : goal.returns
returns c = λ number is.
    let r = c.self.inside in
    let size : r.size ≡ c.args.self.now = c.self.view_is in
    let place : ℕ = c.args.start + c.args.bit in
    let many : place + c.args.quorum - place ≡ c.args.quorum = omega arith in
    ap (λ n. take n (drop place r.indexes)) many
    ∙ slice-write_set r.indexes r.size c.args.start number c.args.bit c.args.quorum
    (omega (arith, size, c.self.told, c.self.invariant.1)) c.self.invariant.2
    (is ∙ ap (λ n. (64 * number) % n) (sym size))
    ∙ ap (λ n. write_set (64 * number + c.args.bit) n c.args.quorum) size
