use Rattle.std.proofs.Common.{◌≡◌, ◌∙◌, ◌<◌, ◌+◌, ◌++◌, ◌∷◌, [], cond, ℕ, Bool, All, List, Option, Some, None, Result, Ok, Err, OnOk, ap, sym, refl, subst, length, arith}
use Rattle.std.specs.declared.alloc.AllocError.{AllocError}
use Rattle.std.specs.Prelude.{◌==◌, count_by, position, sum_by}
use Rattle.std.proofs.lemmas.List.Elements.{All-push}
use Rattle.std.proofs.lemmas.List.Quantifiers.{position-Some}
use Rattle.std.proofs.lemmas.List.Sums.{sum_by_push}
use Rattle.reh_census.specs.Answers.{is_yes}
use Rattle.reh_census.specs.Bookies.{bookies_of}
use Rattle.reh_census.specs.Counting.{not_judged}
use Rattle.reh_census.specs.declared.answers.Answer.{Answer}
use Rattle.reh_census.proofs.AnswerLaws.{yes-part-in}
use Rattle.reh_waves.specs.declared.waves.Alone.{Alone}
use Rattle.reh_waves.specs.declared.waves.Round.{Round}
use Rattle.reh_waves.proofs.NearLaws.{none-zero}
use Rattle.reh_waves.specs.Waves.{IsAlone, IsBegun, answer_in, joins, rack_for}
use Rattle.reh_waves.proofs.PositionLaws.{position-none}
use Rattle.reh_waves.proofs.WaveLaws.{IsMonotone, begun-apart, begun-rounds, joined-apart, joined-places, joined-rounds, placed-alone, placed-begun, placed-joined}
use Rattle.reh_waves.proofs.waves.put.Goals as goal

zero-plus : (n : ℕ) → 0 + n ≡ n
zero-plus n = omega arith

begun-places : (before after : List Round) (rack : Option ℕ) (b : ℕ) → IsBegun before after rack b → (x : ℕ)
    → sum_by (λ round. count_by (λ y. y == x) round.bookies.items) after
    ≡ sum_by (λ round. count_by (λ y. y == x) round.bookies.items) before + cond (b == x) 1 0
begun-places before after rack b n x =
    let f : Round → ℕ = λ round. count_by (λ y. y == x) round.bookies.items in
    let one : count_by (λ y. y == x) n.round.bookies.items ≡ 0 + cond (b == x) 1 0 =
    ap (λ (bookies : List ℕ). count_by (λ y. y == x) bookies) n.bookies_are in
    ap (λ (rounds : List Round). sum_by f rounds) n.is
    ∙ sum_by_push f before n.round
    ∙ ap (λ (k : ℕ). sum_by f before + k) (one ∙ zero-plus (cond (b == x) 1 0))

named-places : (before after : List Alone) (named : Alone) → after ≡ before ++ named ∷ [] → (x : ℕ)
    → count_by (λ alone. alone.bookie == x) after ≡ count_by (λ alone. alone.bookie == x) before + cond (named.bookie == x) 1 0
named-places before after named is x =
    ap (λ (alone : List Alone). count_by (λ a. a.bookie == x) alone) is
    ∙ sum_by_push (λ (alone : Alone). cond {A = ℕ} (alone.bookie == x) 1 0) before named

one-between : (a b more after : ℕ) → after ≡ a + more → after + b ≡ a + b + more
one-between a b more after is = omega (arith, is)

one-last : (a b more after : ℕ) → after ≡ b + more → a + after ≡ a + b + more
one-last a b more after is = omega (arith, is)

-- what follows where there was memory
on-ok : {P Q : Type 0} (r : Result (Unit {0}) AllocError) → OnOk r P → (P → Q) → OnOk r Q
on-ok (Ok u) is follows = follows is
on-ok (Err e) is follows = tt

pub returns-in-Some-clause-waves : goal.returns-in-Some-clause-waves
returns-in-Some-clause-waves c = on-ok c.join.result c.join.ensures λ joined.
    let answer : (ℕ → Bool) → Answer = answer_in c.args.census.now (bookies_of c.args.bookies.now) c.args.question.now in
    let rack : Option ℕ = rack_for c.args.by_rack ((bookies_of c.args.bookies.now).rack_of c.args.bookie) in
    let p : Round → Bool = joins answer c.args.by_rack rack c.args.bookie in
    let monotone : IsMonotone answer =
    yes-part-in c.args.census.now (bookies_of c.args.bookies.now) c.args.question.now (not_judged c.args.census.now.judged) in
    let found : position p c.args.waves.now.rounds.items ≡ Some c.in-Some.number =
    (λ i. position (joins answer c.args.by_rack (sym c.rack_for-rack.ensures i) c.args.bookie) (sym c.deref.ensures.value i))
    ∙ sym c.in_ok-found.ensures ∙ c.in-Some.is in
    let below : (d : Round) → c.in-Some.number < length c.args.waves.now.rounds.items =
    λ d. (position-Some p c.args.waves.now.rounds.items c.in-Some.number d found).0 in
    record {
      rounds =
          joined-rounds answer (bookies_of c.args.bookies.now) c.args.by_rack c.args.waves.now.rounds.items c.join.new.rounds.items
          c.in-Some.number c.args.bookie (below joined.round) joined c.requires.waves.rounds c.requires.bookie
          (λ d. (position-Some p c.args.waves.now.rounds.items c.in-Some.number d found).1);
      apart =
          joined-apart answer (bookies_of c.args.bookies.now) c.args.by_rack c.args.waves.now.rounds.items c.join.new.rounds.items
          c.in-Some.number c.args.bookie monotone (below joined.round) joined c.requires.waves.rounds c.requires.waves.apart
          (λ d. (position-Some p c.args.waves.now.rounds.items c.in-Some.number d found).1)
          (λ k d before. (position-Some p c.args.waves.now.rounds.items c.in-Some.number d found).2 k before);
      alone = c.requires.waves.alone;
    }

pub returns-in-Some-clause-places : goal.returns-in-Some-clause-places
returns-in-Some-clause-places c = on-ok c.join.result c.join.ensures λ joined b.
    let answer : (ℕ → Bool) → Answer = answer_in c.args.census.now (bookies_of c.args.bookies.now) c.args.question.now in
    let p : Round → Bool = joins answer c.args.by_rack c.rack_for-rack.result c.args.bookie in
    let found : position p c.args.waves.now.rounds.items ≡ Some c.in-Some.number =
    (λ i. position p (sym c.deref.ensures.value i))
    ∙ sym c.in_ok-found.ensures ∙ c.in-Some.is in
    omega (
      arith,
      joined-places c.args.waves.now.rounds.items c.join.new.rounds.items c.in-Some.number c.args.bookie
          (position-Some p c.args.waves.now.rounds.items c.in-Some.number joined.round found).0 joined b,
    )

pub returns-in-Some-clause-placed : goal.returns-in-Some-clause-placed
returns-in-Some-clause-placed c = on-ok c.join.result c.join.ensures λ joined.
    let answer : (ℕ → Bool) → Answer = answer_in c.args.census.now (bookies_of c.args.bookies.now) c.args.question.now in
    let rack : Option ℕ = rack_for c.args.by_rack ((bookies_of c.args.bookies.now).rack_of c.args.bookie) in
    let p : Round → Bool = joins answer c.args.by_rack rack c.args.bookie in
    let found : position p c.args.waves.now.rounds.items ≡ Some c.in-Some.number =
    (λ i. position (joins answer c.args.by_rack (sym c.rack_for-rack.ensures i) c.args.bookie) (sym c.deref.ensures.value i))
    ∙ sym c.in_ok-found.ensures ∙ c.in-Some.is in
    placed-joined answer (bookies_of c.args.bookies.now) c.args.by_rack c.args.waves.now
    (record { rounds = c.join.new.rounds; alone = c.args.waves.now.alone }) c.args.bookie c.in-Some.number found
    joined refl

pub returns-then-is_yes-clause-waves : goal.returns-then-is_yes-clause-waves
returns-then-is_yes-clause-waves c = on-ok c.begin.result c.begin.ensures λ started.
    let answer : (ℕ → Bool) → Answer = answer_in c.args.census.now (bookies_of c.args.bookies.now) c.args.question.now in
    let rack : Option ℕ = rack_for c.args.by_rack ((bookies_of c.args.bookies.now).rack_of c.args.bookie) in
    let p : Round → Bool = joins answer c.args.by_rack rack c.args.bookie in
    let none : position p c.args.waves.now.rounds.items ≡ None =
    (λ i. position (joins answer c.args.by_rack (sym c.rack_for-rack.ensures i) c.args.bookie) (sym c.deref.ensures.value i))
    ∙ sym c.in_ok-found.ensures ∙ c.in_default.is in
    let begun : IsBegun c.args.waves.now.rounds.items c.begin.new.rounds.items rack c.args.bookie =
    subst (λ (r : Option ℕ). IsBegun c.args.waves.now.rounds.items c.begin.new.rounds.items r c.args.bookie) c.rack_for-rack.ensures started in
    record {
      rounds =
          begun-rounds answer (bookies_of c.args.bookies.now) c.args.by_rack c.args.waves.now.rounds.items c.begin.new.rounds.items c.args.bookie
          begun c.requires.waves.rounds c.requires.bookie
          (sym (ap (λ a. is_yes a) c.in_ok-answer.ensures) ∙ sym c.is_yes.ensures ∙ c.if-is_yes.true);
      apart =
          begun-apart answer c.args.by_rack c.args.waves.now.rounds.items c.begin.new.rounds.items rack c.args.bookie begun c.requires.waves.apart
          (λ k d below. position-none p c.args.waves.now.rounds.items none k d below);
      alone = c.requires.waves.alone;
    }

pub returns-then-is_yes-clause-places : goal.returns-then-is_yes-clause-places
returns-then-is_yes-clause-places c = on-ok c.begin.result c.begin.ensures λ started b.
    one-between (sum_by (λ round. count_by (λ y. y == b) round.bookies.items) c.args.waves.now.rounds.items)
    (count_by (λ alone. alone.bookie == b) c.args.waves.now.alone.items) (cond (c.args.bookie == b) 1 0) _
    (begun-places c.args.waves.now.rounds.items c.begin.new.rounds.items c.rack_for-rack.result c.args.bookie started b)

pub returns-then-is_yes-clause-placed : goal.returns-then-is_yes-clause-placed
returns-then-is_yes-clause-placed c = on-ok c.begin.result c.begin.ensures λ started.
    let answer : (ℕ → Bool) → Answer = answer_in c.args.census.now (bookies_of c.args.bookies.now) c.args.question.now in
    let rack : Option ℕ = rack_for c.args.by_rack ((bookies_of c.args.bookies.now).rack_of c.args.bookie) in
    let p : Round → Bool = joins answer c.args.by_rack rack c.args.bookie in
    let none : position p c.args.waves.now.rounds.items ≡ None =
    (λ i. position (joins answer c.args.by_rack (sym c.rack_for-rack.ensures i) c.args.bookie) (sym c.deref.ensures.value i))
    ∙ sym c.in_ok-found.ensures ∙ c.in_default.is in
    placed-begun answer (bookies_of c.args.bookies.now) c.args.by_rack c.args.waves.now
    (record { rounds = c.begin.new.rounds; alone = c.args.waves.now.alone }) c.args.bookie none
    (sym (ap (λ a. is_yes a) c.in_ok-answer.ensures) ∙ sym c.is_yes.ensures ∙ c.if-is_yes.true)
    (subst (λ (r : Option ℕ). IsBegun c.args.waves.now.rounds.items c.begin.new.rounds.items r c.args.bookie)
    c.rack_for-rack.ensures started)
    refl

pub returns-clause-waves : goal.returns-clause-waves
returns-clause-waves c =
    let answer : (ℕ → Bool) → Answer = answer_in c.args.census.now (bookies_of c.args.bookies.now) c.args.question.now in
    record {
      rounds = c.requires.waves.rounds;
      apart = c.requires.waves.apart;
      alone =
          subst (λ (named : List Alone). All (IsAlone answer (bookies_of c.args.bookies.now)) named) (sym c.in_ok-push.ensures.items)
          (All-push (IsAlone answer (bookies_of c.args.bookies.now)) c.args.waves.now.alone.items _ c.requires.waves.alone (record {
            registered = c.requires.bookie;
            answer_is = c.in_ok-answer.ensures;
            not_yes = sym c.is_yes.ensures ∙ c.if-is_yes.false;
          }));
    }

pub returns-clause-places : goal.returns-clause-places
returns-clause-places c b =
    one-last (sum_by (λ round. count_by (λ y. y == b) round.bookies.items) c.args.waves.now.rounds.items)
    (count_by (λ alone. alone.bookie == b) c.args.waves.now.alone.items) (cond (c.args.bookie == b) 1 0) _
    (named-places c.args.waves.now.alone.items c.push.new.self.items
    (record { bookie = c.args.bookie; answer = c.in_ok-answer.answer }) c.in_ok-push.ensures.items b)

pub returns-clause-placed : goal.returns-clause-placed
returns-clause-placed c =
    let answer : (ℕ → Bool) → Answer = answer_in c.args.census.now (bookies_of c.args.bookies.now) c.args.question.now in
    let rack : Option ℕ = rack_for c.args.by_rack ((bookies_of c.args.bookies.now).rack_of c.args.bookie) in
    let p : Round → Bool = joins answer c.args.by_rack rack c.args.bookie in
    let none : position p c.args.waves.now.rounds.items ≡ None =
    (λ i. position (joins answer c.args.by_rack (sym c.rack_for-rack.ensures i) c.args.bookie) (sym c.deref.ensures.value i))
    ∙ sym c.in_ok-found.ensures ∙ c.in_default.is in
    placed-alone answer (bookies_of c.args.bookies.now) c.args.by_rack c.args.waves.now
    (record { rounds = c.args.waves.now.rounds; alone = c.push.new.self }) c.args.bookie none
    (sym (ap (λ a. is_yes a) c.in_ok-answer.ensures) ∙ sym c.is_yes.ensures ∙ c.if-is_yes.false)
    refl
    (record {
      alone = record { bookie = c.args.bookie; answer = c.in_ok-answer.answer };
      is = c.in_ok-push.ensures.items;
      bookie_is = refl;
    })

pub first_fit-requires-clause-near : goal.first_fit-requires-clause-near
first_fit-requires-clause-near c =
    c.requires.near

pub answer_with-requires-clause-near : goal.answer_with-requires-clause-near
answer_with-requires-clause-near c =
    c.requires.near

pub answer_with-requires-clause-zero : goal.answer_with-requires-clause-zero
answer_with-requires-clause-zero c = none-zero c.args.census.now (bookies_of c.args.bookies.now) c.args.question.now

pub first_fit-requires-clause-largest : goal.first_fit-requires-clause-largest
first_fit-requires-clause-largest c = c.requires.largest

pub first_fit-requires-clause-well_formed : goal.first_fit-requires-clause-well_formed
first_fit-requires-clause-well_formed c = c.requires.well_formed

pub answer_with-requires-clause-largest : goal.answer_with-requires-clause-largest
answer_with-requires-clause-largest c = c.requires.largest

pub answer_with-requires-clause-well_formed : goal.answer_with-requires-clause-well_formed
answer_with-requires-clause-well_formed c = c.requires.well_formed
