-- Which refusals are answered by a line: those of checks.
use Rattle.std.proofs.Common.{ℕ, Bool, true, false, not, List, [], ◌∷◌, Option, None, Some, refl}
use Rattle.std.specs.Prelude.{◌==◌, IsTrue, nat_lt, slice_get}
use Rattle.std.specs.Option.{option_map, option_and_then}
use Rattle.reh_types.specs.declared.limits.TheConstants.{MAX_VERSION}
use Rattle.reh_types.specs.declared.moves.Reply.TheVariants.{Refused}
use Rattle.reh_types.specs.declared.refusals.Refusal.{Refusal}
use Rattle.reh_types.specs.declared.refusals.Refusal.TheVariants.{NoBookie, NotOwner, GraceRuns, NoIndex, MemberUp, TargetDown, TargetIsMember, NoEndpoint, NoSource, VersionEnd}
use Rattle.reh_model.specs.Metadata.{Fragment}
use Rattle.reh_model.specs.Cluster.{Cluster, Ledger, is_locked_by, ledger_at}
use Rattle.reh_model.specs.Checks.{first_reason, reason_if}
use Rattle.reh_model.specs.Refusals.{with_ledger, at_ledger, with_fragment, at_fragment, no_bookie, not_owner, no_place, no_source, version_end}
use Rattle.reh_model.specs.Session.{reply_unless}
use Rattle.reh_model.specs.Book.{is_written}

-- Replies that add a line

-- a check's reason, if it has one, is answered by a line
abbrev pub IsWritten : Option Refusal → Type 0
IsWritten check = IsTrue (is_written (reply_unless check))

abbrev pub AreWritten : List (Option Refusal) → Type 0
AreWritten [] = Unit {0}
AreWritten (check ∷ checks) = IsWritten check × AreWritten checks

-- so is the first reason of such checks
pub first_written : (checks : List (Option Refusal)) → AreWritten checks → IsWritten (first_reason checks)
first_written [] all = refl
first_written (None ∷ checks) all = first_written checks all.1
first_written (Some reason ∷ checks) all = all.0

pub written_if : (condition : Bool) (reason : Refusal) → IsTrue (is_written (Refused reason)) → IsWritten (reason_if condition reason)
written_if true reason is = is
written_if false reason is = refl

pub ledger_written : (o : Option Ledger) (checks : Ledger → List (Option Refusal)) → ((g : Ledger) → AreWritten (checks g)) → IsWritten (with_ledger o checks)
ledger_written None checks all = refl
ledger_written (Some g) checks all = first_written (checks g) (all g)

pub fragment_written : (o : Option Fragment) (checks : Fragment → List (Option Refusal)) → ((fragment : Fragment) → AreWritten (checks fragment)) → IsWritten (with_fragment o checks)
fragment_written None checks all = refl
fragment_written (Some fragment) checks all = first_written (checks fragment) (all fragment)

pub found_written : {A : Type 0} (o : Option A) (reason : A → Refusal) → ((x : A) → IsTrue (is_written (Refused (reason x)))) → IsWritten (option_map reason o)
found_written None reason is = refl
found_written (Some x) reason is = is x

-- the checks of a ledger's fragment
pub at_fragment_written : (g : Ledger) (f : ℕ) (checks : Fragment → List (Option Refusal)) → ((fragment : Fragment) → AreWritten (checks fragment)) → IsWritten (at_fragment g f checks)
at_fragment_written g f checks all = fragment_written (slice_get g.metadata.fragments f) checks all

-- the checks of a worker or a bookie, and of a ledger
pub named_written : (s : Cluster) (b l : ℕ) (checks : Ledger → List (Option Refusal)) → ((g : Ledger) → AreWritten (checks g)) → IsWritten (first_reason (no_bookie s b ∷ at_ledger s l checks ∷ []))
named_written s b l checks all =
    first_written (no_bookie s b ∷ at_ledger s l checks ∷ []) (written_if _ NoBookie refl, (ledger_written (ledger_at s l) checks all, tt))

pub owner_written : (w : ℕ) (g : Ledger) → IsWritten (not_owner w g)
owner_written w g = written_if (not (is_locked_by w g)) NotOwner refl

pub version_written : (g : Ledger) → IsWritten (version_end g)
version_written g = written_if (g.metadata.version == MAX_VERSION) VersionEnd refl

pub place_written : (s : Cluster) (b : ℕ) (g : Ledger) (f i : ℕ) → IsWritten (no_place s b g f i)
place_written s b g f i =
    at_fragment_written g f _ (λ fragment. (
      written_if _ NoIndex refl,
      (written_if _ MemberUp refl, (written_if _ TargetDown refl, (written_if _ TargetIsMember refl, (written_if _ NoEndpoint refl, tt)))),
    ))

pub source_missing_written : (s : Cluster) (g : Ledger) (f i : ℕ) → IsWritten (no_source s g f i)
source_missing_written s g f i = at_fragment_written g f _ (λ fragment. (found_written _ (λ e. NoSource e) (λ e. refl), tt))

pub grace_runs_written : (s : Cluster) (due : Option ℕ) → IsWritten (option_and_then (λ tick. reason_if (nat_lt s.parts.scalars.clock tick) (GraceRuns tick)) due)
grace_runs_written s None = refl
grace_runs_written s (Some due) = written_if (nat_lt s.parts.scalars.clock due) (GraceRuns due) refl
