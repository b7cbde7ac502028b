-- The derived `==` of changes tells whether they are equal, where that of the metadata does.
use Rattle.std.proofs.Common.{◌≡◌, Bool, true, ◌&&◌, refl, sym, ap, subst, true≢false}
use Rattle.std.specs.Cmp.{first_so, second_so, booleans_Decides}
use Rattle.std.specs.declared.cmp.PartialEq.{Ghosts}
use denote.RattleType.{RattleType}
use mir.Syntax.{Dict}
use Rattle.reh_types.specs.declared.locks.Lock.{Lock}
use Rattle.reh_types.specs.declared.scalars.Scalar.{Scalar}
use Rattle.reh_types.specs.declared.scalars.Scalar.TheVariants.{Clock, Enabled}
use Rattle.reh_types.specs.declared.changes.Change.{Change}
use Rattle.reh_types.specs.declared.changes.Change.TheVariants as change
use Rattle.reh_types.specs.contracts.changes.ChangePartialEq.TheImpl as derived
use Rattle.reh_types.specs.contracts.locks.LockPartialEq.TheImpl as lock
use Rattle.reh_types.specs.contracts.scalars.ScalarPartialEq.TheImpl as scalar
use Rattle.reh_types.specs.contracts.scalars.ScalarEq.TheImpl.Laws as scalar_eq
use Rattle.reh_types.specs.Same.{Tells, told_by, told_both, tells_numbers, tells_options, tells_sets}

both : (a b : Bool) → (a && b) ≡ true → (a ≡ true) × (b ≡ true)
both a b e = (first_so a b e, second_so a b e)

locks_tell : Tells (lock.eq-value).it
locks_tell l k =
    told_by (told_both (tells_numbers l.owner k.owner) (tells_options tells_numbers l.due k.due))
    (λ p i. record { owner = p.0 i; due = p.1 i })
    (λ e. (ap (λ (x : Lock). x.owner) e, ap (λ (x : Lock). x.due) e))

same_scalar : Scalar → Scalar → Bool
same_scalar = (scalar.eq-value).it

scalars_told : (a b : Scalar) → same_scalar a b ≡ true → a ≡ b
unfolding same_scalar
scalars_told (Clock m) (Clock n) e = ap Clock ((tells_numbers m n).0 e)
scalars_told (Enabled b) (Enabled c) e = ap Enabled ((booleans_Decides b c).0 e)
scalars_told a b e = absurd (true≢false (sym e))

scalars_tell : Tells (scalar.eq-value).it
unfolding same_scalar
scalars_tell a b = (scalars_told a b, λ e. subst (λ (c : Scalar). same_scalar a c ≡ true) e (scalar_eq.laws-law.refl a))

module _ (M : RattleType) (g : Ghosts M.Denot) (dict : Dict) (tells : Tells g.eq) where
  abbrev same_change : Change M.Denot → Change M.Denot → Bool
  same_change = (derived.eq-value M g dict).it

  told : (a b : Change M.Denot) → same_change a b ≡ true → a ≡ b
  told (change.Registration b x) (change.Registration c y) e =
      let p = both _ _ e in
      λ i. change.Registration ((tells_numbers b c).0 p.0 i) ((tells_options tells_numbers x y).0 p.1 i)
  told (change.Metadata j x) (change.Metadata k y) e =
      let p = both _ _ e in
      λ i. change.Metadata ((tells_numbers j k).0 p.0 i) ((tells x y).0 p.1 i)
  told (change.Task j x) (change.Task k y) e =
      let p = both _ _ e in
      λ i. change.Task ((tells_numbers j k).0 p.0 i) ((tells_options tells_sets x y).0 p.1 i)
  told (change.Lock j x) (change.Lock k y) e =
      let p = both _ _ e in
      λ i. change.Lock ((tells_numbers j k).0 p.0 i) ((tells_options locks_tell x y).0 p.1 i)
  told (change.Word b l j x) (change.Word c m k y) e =
      let p = both _ _ e in
      let q = both _ _ p.1 in
      let r = both _ _ q.1 in
      λ i. change.Word ((tells_numbers b c).0 p.0 i) ((tells_numbers l m).0 q.0 i) ((tells_numbers j k).0 r.0 i)
      ((tells_numbers x y).0 r.1 i)
  told (change.Scalar x) (change.Scalar y) e = ap change.Scalar ((scalars_tell x y).0 e)
  told a b e = absurd (true≢false (sym e))

  itself : (a : Change M.Denot) → same_change a a ≡ true
  itself (change.Registration b x) = λ i. (tells_numbers b b).1 refl i && (tells_options tells_numbers x x).1 refl i
  itself (change.Metadata j x) = λ i. (tells_numbers j j).1 refl i && (tells x x).1 refl i
  itself (change.Task j x) = λ i. (tells_numbers j j).1 refl i && (tells_options tells_sets x x).1 refl i
  itself (change.Lock j x) = λ i. (tells_numbers j j).1 refl i && (tells_options locks_tell x x).1 refl i
  itself (change.Word b l j x) = λ i.
      (tells_numbers b b).1 refl i
      && ((tells_numbers l l).1 refl i && ((tells_numbers j j).1 refl i && (tells_numbers x x).1 refl i))
  itself (change.Scalar x) = (scalars_tell x x).1 refl

  pub changes_tell : Tells same_change
  changes_tell a b = (told a b, λ e. subst (λ (c : Change M.Denot). same_change a c ≡ true) e (itself a))
