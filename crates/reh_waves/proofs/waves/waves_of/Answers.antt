use Rattle.std.proofs.Common.{◌≡◌, ◌∙◌, ◌<◌, ◌+◌, ◌&&◌, ℕ, Bool, true, false, cond, List, ap, get_or, length, subst, sym, take, arith}
use Rattle.std.specs.Prelude.{count_by, sum_by, ◌==◌}
use Rattle.std.proofs.lemmas.List.{get_or_default, take_all}
use Rattle.reh_census.specs.Bookies.{Bookies, bookies_of, holders}
use Rattle.reh_census.specs.Counting.{not_judged}
use Rattle.reh_census.specs.declared.answers.Answer.{Answer}
use Rattle.reh_census.proofs.AnswerLaws.{yes-part-in}
use Rattle.reh_census.proofs.CountingLaws.{census-answer}
use Rattle.reh_waves.specs.declared.waves.Alone.{Alone}
use Rattle.reh_waves.specs.declared.waves.Round.{Round}
use Rattle.reh_waves.specs.declared.waves.Waves.{Waves}
use Rattle.reh_waves.specs.Waves.{ArePlaced, AreWaves, NoTwo, answer_in, places}
use Rattle.reh_waves.proofs.WaveLaws.{counted-more, counted-same, no-two, none-placed, none-waves, order-counts, passed-more, placed-more}
use Rattle.reh_waves.proofs.waves.waves_of.Goals as goal
use Rattle.reh_waves.proofs.waves.waves_of.Goals.{then-is_registered+in_ok-place, else-is_registered}

pub loop-bookie-init : goal.loop-bookie-init
loop-bookie-init c =
    let bookies : Bookies = bookies_of c.args.bookies.now in
    let answer : (ℕ → Bool) → Answer = answer_in c.args.census.now bookies c.args.question.now in
    let none : Waves = record { rounds = c.new.result; alone = c.new-2.result } in
    record {
      waves = none-waves answer bookies c.args.by_rack none c.new.ensures.items c.new-2.ensures.items;
      places = λ x.
          (λ i. sum_by (λ (round : Round). count_by (λ y. y == x) round.bookies.items) (c.new.ensures.items i)
          + count_by (λ (alone : Alone). alone.bookie == x) (c.new-2.ensures.items i));
      placed = none-placed answer bookies c.args.by_rack none c.new.ensures.items c.new-2.ensures.items;
    }

pub loop-bookie-preserved : goal.loop-bookie-preserved
loop-bookie-preserved c =
    let bookies : Bookies = bookies_of c.args.bookies.now in
    let answer : (ℕ → Bool) → Answer = answer_in c.args.census.now bookies c.args.question.now in
    let by_rack : Bool = c.args.by_rack in
    let order : List ℕ = c.args.order.now in
    let k : ℕ = c.loop-bookie.bookie-index in
    let b : ℕ = get_or order k 0 in
    let within : k < length order = c.loop-bookie-test.true in
    let here : b ≡ get_or order k b = get_or_default order k 0 b within in
    elim c.if-is_registered.branch [
      | then-is_registered+in_ok-place w ↦
          let registered : bookies.is_registered b ≡ true = sym c.is_registered.ensures ∙ w.if-is_registered.true in
          record {
            waves = subst (λ (v : Waves). AreWaves answer bookies by_rack v) (sym w.waves-is) w.in_ok-place.ensures.waves;
            places = λ x.
                ap (λ (v : Waves). places v x) w.waves-is ∙ w.in_ok-place.ensures.places x
                ∙ ap (λ (n : ℕ). n + cond {A = ℕ} (b == x) 1 0) (c.loop-bookie.invariant.places x)
                ∙ sym (counted-more order k b x bookies.is_registered within here registered);
            placed =
                subst (λ (v : Waves). ArePlaced answer bookies by_rack (take (k + 1) order) v) (sym w.waves-is)
                (placed-more answer bookies by_rack order k b c.loop-bookie.waves w.place.new.waves within here registered
                c.loop-bookie.invariant.placed w.in_ok-place.ensures.placed);
          }
      | else-is_registered w ↦
          let not_registered : bookies.is_registered b ≡ false = sym c.is_registered.ensures ∙ w.if-is_registered.false in
          record {
            waves = subst (λ (v : Waves). AreWaves answer bookies by_rack v) (sym w.waves-is) c.loop-bookie.invariant.waves;
            places = λ x.
                ap (λ (v : Waves). places v x) w.waves-is ∙ c.loop-bookie.invariant.places x
                ∙ sym (counted-same order k b x bookies.is_registered within here not_registered);
            placed =
                subst (λ (v : Waves). ArePlaced answer bookies by_rack (take (k + 1) order) v) (sym w.waves-is)
                (passed-more answer bookies by_rack order k b c.loop-bookie.waves within here not_registered
                c.loop-bookie.invariant.placed);
          }
    ]

pub returns-clause-ledgers : goal.returns-clause-ledgers
returns-clause-ledgers c ledgers counts =
    subst (λ (answer : (ℕ → Bool) → Answer). AreWaves answer (bookies_of c.args.bookies.now) c.args.by_rack c.loop-bookie.waves)
    (λ i stopped. census-answer c.args.census.now (holders (bookies_of c.args.bookies.now)) ledgers (bookies_of c.args.bookies.now)
    c.args.question.now (not_judged c.args.census.now.judged) stopped counts i)
    c.loop-bookie.invariant.waves

pub returns-clause-no_two : goal.returns-clause-no_two
returns-clause-no_two c =
    no-two (answer_in c.args.census.now (bookies_of c.args.bookies.now) c.args.question.now) (bookies_of c.args.bookies.now) c.args.by_rack
    c.loop-bookie.waves
    (yes-part-in c.args.census.now (bookies_of c.args.bookies.now) c.args.question.now (not_judged c.args.census.now.judged))
    c.loop-bookie.invariant.waves

pub returns-clause-no_two_of_ledgers : goal.returns-clause-no_two_of_ledgers
returns-clause-no_two_of_ledgers c ledgers counts =
    subst (λ (answer : (ℕ → Bool) → Answer). NoTwo answer c.args.by_rack c.loop-bookie.waves.rounds.items)
    (λ i stopped. census-answer c.args.census.now (holders (bookies_of c.args.bookies.now)) ledgers (bookies_of c.args.bookies.now)
    c.args.question.now (not_judged c.args.census.now.judged) stopped counts i)
    (returns-clause-no_two c)

pub returns-clause-once : goal.returns-clause-once
returns-clause-once c b =
    c.loop-bookie.invariant.places b
    ∙ ap (λ (xs : List ℕ). count_by (λ x. x == b && (bookies_of c.args.bookies.now).is_registered x) xs)
    (take_all c.loop-bookie.bookie-index c.args.order.now (omega (arith, c.loop-bookie-test.false)))
    ∙ order-counts c.args.bookies.now c.args.order.now c.requires b

pub returns-clause-placed : goal.returns-clause-placed
returns-clause-placed c =
    subst (λ (order : List ℕ).
    ArePlaced (answer_in c.args.census.now (bookies_of c.args.bookies.now) c.args.question.now) (bookies_of c.args.bookies.now)
    c.args.by_rack order c.loop-bookie.waves)
    (take_all c.loop-bookie.bookie-index c.args.order.now (omega (arith, c.loop-bookie-test.false)))
    c.loop-bookie.invariant.placed

pub place-requires-clause-largest : goal.place-requires-clause-largest
place-requires-clause-largest c = c.largest_of-largest.ensures.largest

pub place-requires-clause-well_formed : goal.place-requires-clause-well_formed
place-requires-clause-well_formed c = c.largest_of-largest.ensures.well_formed
