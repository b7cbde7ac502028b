-- The first entry that can't be read refuses a copy.
use Rattle.std.proofs.Common.{◌≡◌, ◌∙◌, ap, sym, ℕ, [], ◌∷◌, List, not, Option, Some}
use Rattle.std.specs.Prelude.{slice_get}
use Rattle.std.specs.List.{find}
use Rattle.std.specs.Option.{option_map}
use Rattle.reh_types.specs.declared.refusals.Refusal.{Refusal}
use Rattle.reh_types.specs.declared.refusals.Refusal.TheVariants.{NoSource}
use Rattle.reh_model.specs.Checks.{first_reason}
use Rattle.reh_model.specs.Cluster.{Cluster, Ledger, is_readable}
use Rattle.reh_model.specs.Metadata.{Fragment, stripe_of}
use Rattle.reh_model.specs.Refusals.{no_source, version_end, with_fragment}
use Rattle.reh_plan.proofs.reasons.place_refusal.Goals as goal

-- the first of these entries that can't be read, and so has no source
lacks_source : (s : Cluster) (g : Ledger) (f i e : ℕ) (fragment : Fragment) (entries : List ℕ)
    → slice_get g.metadata.fragments f ≡ Some fragment → entries ≡ stripe_of g.metadata f i
    → find (λ e. not (is_readable s g fragment e)) entries ≡ Some e → no_source s g f i ≡ Some (NoSource e)
lacks_source s g f i e fragment entries there striped found =
    ap
    (λ (o : Option Fragment). with_fragment o (λ fragment.
    option_map (λ e. NoSource e) (find (λ e. not (is_readable s g fragment e)) (stripe_of g.metadata f i)) ∷ []))
    there
    ∙ ap
    (λ (es : List ℕ). first_reason (option_map (λ e. NoSource e) (find (λ e. not (is_readable s g fragment e)) es) ∷ []))
    (sym striped)
    ∙ ap (λ (o : Option ℕ). first_reason (option_map (λ e. NoSource e) o ∷ [])) found

pub returns-in-Some-clause-known : goal.returns-in-Some-clause-known
returns-in-Some-clause-known c =
    let s : Cluster = c.args.state.now in
    let g : Ledger = c.args.ledger.now in
    λ known.
    ap (λ (o : Option Refusal). first_reason (o ∷ version_end g ∷ []))
    (sym (lacks_source s g c.args.number c.args.index c.in-Some.entry c.in_ok-fragment.fragment.now c.in_ok-fragment.entries
    c.in_ok-fragment.ensures.some.0 c.in_ok-fragment.ensures.some.2 (sym c.first_unreadable.ensures ∙ c.in-Some.is)))
