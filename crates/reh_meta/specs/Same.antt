-- Which tests of states, fragments and metadata tell whether they are equal.
use Rattle.std.specs.Prelude.{◌≡◌, Bool, true, ◌&&◌, nat_eq, refl}
use Rattle.std.specs.Cmp.Lexicographic.{pointwise}
use mathlib.Core.Path.{sym, ap, subst}
use mathlib.Core.Bool.{true≢false}
use Rattle.reh_types.specs.declared.names.LedgerState.{LedgerState}
use Rattle.reh_types.specs.declared.names.LedgerState.TheVariants.{Open, InRecovery, Closed}
use Rattle.reh_types.specs.contracts.names.LedgerStatePartialEq.TheImpl as derived
use Rattle.reh_types.specs.contracts.names.LedgerStateEq.TheImpl.Laws.{laws-law}
use Rattle.reh_types.specs.Same.{Tells, told_by, told_both, tells_numbers, tells_lists}
use Rattle.reh_model.specs.Metadata.{Fragment, Metadata}

-- the derived `==` of states
abbrev pub same_state : LedgerState → LedgerState → Bool
same_state = (derived.eq-value).it

told_state : (s t : LedgerState) → same_state s t ≡ true → s ≡ t
told_state Open Open e = refl
told_state InRecovery InRecovery e = refl
told_state (Closed m) (Closed n) e = ap Closed ((tells_numbers m n).0 e)
told_state s t e = absurd (true≢false (sym e))

pub tells_states : Tells same_state
tells_states s t = (told_state s t, λ e. subst (λ (u : LedgerState). same_state s u ≡ true) e (laws-law.refl s))

abbrev pub same_fragment : Fragment → Fragment → Bool
same_fragment f g = nat_eq f.first g.first && pointwise nat_eq f.ensemble g.ensemble

pub tells_fragments : Tells same_fragment
tells_fragments f g =
    told_by (told_both (tells_numbers f.first g.first) (tells_lists tells_numbers f.ensemble g.ensemble))
    (λ p i. record { first = p.0 i; ensemble = p.1 i })
    (λ e. (ap (λ (h : Fragment). h.first) e, ap (λ (h : Fragment). h.ensemble) e))

abbrev pub same_metadata : Metadata → Metadata → Bool
same_metadata m n =
    nat_eq m.size n.size
    && (nat_eq m.write_quorum n.write_quorum
    && (nat_eq m.ack_quorum n.ack_quorum
    && (same_state m.state n.state
    && (nat_eq m.version n.version && pointwise same_fragment m.fragments n.fragments))))

pub tells_metadata : Tells same_metadata
tells_metadata m n =
    told_by
    (told_both (tells_numbers m.size n.size)
    (told_both (tells_numbers m.write_quorum n.write_quorum)
    (told_both (tells_numbers m.ack_quorum n.ack_quorum)
    (told_both (tells_states m.state n.state)
    (told_both (tells_numbers m.version n.version) (tells_lists tells_fragments m.fragments n.fragments))))))
    (λ p i. record {
      size = p.0 i;
      write_quorum = p.1.0 i;
      ack_quorum = p.1.1.0 i;
      state = p.1.1.1.0 i;
      version = p.1.1.1.1.0 i;
      fragments = p.1.1.1.1.1 i;
    })
    (λ e. (
      ap (λ (x : Metadata). x.size) e,
      (
        ap (λ (x : Metadata). x.write_quorum) e,
        (
          ap (λ (x : Metadata). x.ack_quorum) e,
          (
            ap (λ (x : Metadata). x.state) e,
            (ap (λ (x : Metadata). x.version) e, ap (λ (x : Metadata). x.fragments) e),
          ),
        ),
      ),
    ))
