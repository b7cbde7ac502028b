use Rattle.std.proofs.Common.{◌≡◌, ◌∙◌, ℕ, Bool, List, ap, arith}
use Rattle.std.specs.Prelude.{◌==◌, map}
use Rattle.reh_census.specs.declared.classes.Class.{Class}
use Rattle.reh_census.specs.declared.classes.Counted.{Counted}
use Rattle.reh_census.specs.Bookies.{is_flagged}
use Rattle.reh_census.specs.Copies.{left}
use Rattle.reh_census.specs.Counting.{count_in}
use Rattle.reh_census.specs.Striping.{range}
use Rattle.reh_answer.proofs.Lists.{map-pushed}
use Rattle.reh_answer.proofs.tables.table_of.Goals as goal

pub loop-copies-preserved : goal.loop-copies-preserved
loop-copies-preserved c =
    let with : ℕ → Class → Bool = λ copies class. left (is_flagged c.args.stopped.now) class.known == copies in
    let one : c.entries_with.result ≡ count_in c.args.census.now.entries (with c.loop-copies.copies) =
    c.entries_with.ensures ∙ ap (λ (es : List Counted). count_in es (with c.loop-copies.copies)) c.entries.ensures.entries in
    map-pushed (λ copies. count_in c.args.census.now.entries (with copies)) c.loop-copies.copies c.loop-copies.counts.items
    c.push.new.self.items c.entries_with.result c.in_ok-push.ensures.items c.loop-copies.invariant one

pub returns : goal.returns
returns c =
    let with : ℕ → Class → Bool = λ copies class. left (is_flagged c.args.stopped.now) class.known == copies in
    let f : ℕ → ℕ = λ copies. count_in c.args.census.now.entries (with copies) in
    let one : c.entries_with-2.result ≡ f c.args.most =
    c.entries_with-2.ensures ∙ ap (λ (es : List Counted). count_in es (with c.args.most)) c.entries-2.ensures.entries in
    let at : c.loop-copies.copies ≡ c.args.most = omega (arith, c.loop-copies.auto.copies-end, c.loop-copies-test.false) in
    c.of.ensures
    ∙ map-pushed f c.args.most c.loop-copies.counts.items c.push-2.new.self.items c.entries_with-2.result c.in_ok-push-2.ensures.items
    (c.loop-copies.invariant ∙ ap (λ n. map f (range 0 n)) at) one
