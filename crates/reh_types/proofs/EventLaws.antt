-- The derived `==` of events tells whether they are equal.
use Rattle.std.proofs.Common.{◌≡◌, ℕ, Bool, true, ◌&&◌, refl, sym, ap, subst, nat_eq, true≢false}
use Rattle.std.specs.Cmp.{first_so, second_so}
use Rattle.reh_types.specs.declared.moves.Event.{Event}
use Rattle.reh_types.specs.declared.moves.Event.TheVariants.{Lose, Join, Audit, Acquire, Release, Finish, Expire, Grace, Tick, Roll, Fence, Seal, Copy, Swap, Disable, Enable}
use Rattle.reh_types.specs.contracts.moves.EventPartialEq.TheImpl as derived
use Rattle.reh_types.specs.contracts.moves.EventEq.TheImpl.Laws.{laws-law}
use Rattle.reh_types.specs.Same.{Tells, tells_numbers}

abbrev pub same_event : Event → Event → Bool
same_event = (derived.eq-value).it

both : (a b : Bool) → (a && b) ≡ true → (a ≡ true) × (b ≡ true)
both a b e = (first_so a b e, second_so a b e)

same : (m n : ℕ) → nat_eq m n ≡ true → m ≡ n
same m n e = (tells_numbers m n).0 e

told : (a b : Event) → same_event a b ≡ true → a ≡ b
told (Lose b) (Lose c) e = ap Lose (same b c e)
told (Join b) (Join c) e = ap Join (same b c e)
told Audit Audit e = refl
told (Acquire w l) (Acquire v k) e = let p = both _ _ e in λ i. Acquire (same w v p.0 i) (same l k p.1 i)
told (Release w l) (Release v k) e = let p = both _ _ e in λ i. Release (same w v p.0 i) (same l k p.1 i)
told (Finish w l) (Finish v k) e = let p = both _ _ e in λ i. Finish (same w v p.0 i) (same l k p.1 i)
told (Expire w) (Expire v) e = ap Expire (same w v e)
told (Grace w l) (Grace v k) e = let p = both _ _ e in λ i. Grace (same w v p.0 i) (same l k p.1 i)
told (Tick t) (Tick u) e = ap Tick (same t u e)
told (Roll l x b) (Roll k y c) e =
    let p = both _ _ e in
    let q = both _ _ p.1 in
    λ i. Roll (same l k p.0 i) (same x y q.0 i) (same b c q.1 i)
told (Fence w l) (Fence v k) e = let p = both _ _ e in λ i. Fence (same w v p.0 i) (same l k p.1 i)
told (Seal w l) (Seal v k) e = let p = both _ _ e in λ i. Seal (same w v p.0 i) (same l k p.1 i)
told (Copy w l f x n) (Copy v k g y m) e =
    let p = both _ _ e in
    let q = both _ _ p.1 in
    let r = both _ _ q.1 in
    let s = both _ _ r.1 in
    λ i. Copy (same w v p.0 i) (same l k q.0 i) (same f g r.0 i) (same x y s.0 i) (same n m s.1 i)
told (Swap w l f x n) (Swap v k g y m) e =
    let p = both _ _ e in
    let q = both _ _ p.1 in
    let r = both _ _ q.1 in
    let s = both _ _ r.1 in
    λ i. Swap (same w v p.0 i) (same l k q.0 i) (same f g r.0 i) (same x y s.0 i) (same n m s.1 i)
told Disable Disable e = refl
told Enable Enable e = refl
told a b e = absurd (true≢false (sym e))

pub events_tell : Tells same_event
events_tell a b = (told a b, λ e. subst (λ (c : Event). same_event a c ≡ true) e (laws-law.refl a))
