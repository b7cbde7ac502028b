-- One picture: the state that a rehearsal of it begins in, and what a question about it alone counts.
use Rattle.std.specs.Prelude.{◌≡◌, ℕ, Bool, false, not, All, List, [], ◌∷◌, map, Ok, unwrap_or}
use Rattle.reh_census.specs.declared.classes.Class.{Class}
use Rattle.reh_census.specs.declared.ledgers.Fragment.{Fragment as CountedFragment}
use Rattle.reh_census.specs.Ledgers.{Ledger as CountedLedger, class_of}
use Rattle.reh_census.specs.Counting.{count_fragment}
use Rattle.reh_types.specs.declared.surveys.SurveyLine.{SurveyLine}
use Rattle.reh_model.specs.Cluster.{Cluster, Ledger}
use Rattle.reh_picture.specs.declared.listings.Listed.{Listed}
use Rattle.reh_picture.specs.Listings.{Lists}
use Rattle.reh_picture.specs.Pictures.{picture_of}
use Rattle.reh_inputs.specs.declared.inputs.Input.TheVariants.{Picture}
use Rattle.reh_inputs.specs.declared.ledgers.Reading.{Reading}
use Rattle.reh_inputs.specs.Gathered.{holders_of, is_held, ledger_in}
use Rattle.reh_inputs.specs.Ledgers.{end_told, fragment_of}
use Rattle.reh_inputs.specs.United.{number_of, united}

-- the picture shows this state, and lists this
pub record IsRead (bytes : List ℕ) (s : Cluster) (l : Listed) : Type 0 where
  pub state : picture_of bytes ≡ Ok s
  pub listed : Lists bytes l

-- no bookie is marked as empty
abbrev pub NoneEmpty : Listed → Type 0
NoneEmpty l = All (λ marks. marks.is_empty ≡ false) l.marks.items

-- no content of the ledger is assumed
abbrev pub NoneAssumed : Listed → ℕ → Type 0
NoneAssumed l ledger = All (λ holding. holding.ledger ≡ ledger → holding.is_assumed ≡ false) l.listing.holdings.items

-- the numbers of the picture's bookies in the cluster of the picture alone
abbrev pub numbers_alone : Listed → List ℕ
numbers_alone l = map (number_of (united (Picture l ∷ [])).names) l.listing.names

-- the ledger, and its fragment of that number, as they are counted
abbrev pub ledger_alone : Reading → Listed → Ledger → CountedLedger
ledger_alone reading l g = ledger_in (numbers_alone l) reading l g

abbrev pub fragment_alone : Listed → Ledger → ℕ → CountedFragment
fragment_alone l g f = fragment_of (numbers_alone l) (end_told g.id l.listing.holdings.items) g.metadata f

-- what is known of an entry of that fragment
abbrev pub class_alone : Reading → Listed → Ledger → ℕ → ℕ → Class
class_alone reading l g f entry =
    class_of (holders_of (Picture l ∷ [])) (ledger_alone reading l g) (fragment_alone l g f) entry

-- whether no copy of an entry is known
abbrev pub has_no_copy : Class → Bool
has_no_copy class = not (is_held class)

-- how many entries of that fragment have no known copy
abbrev pub without_copy : Reading → Listed → Ledger → ℕ → ℕ
without_copy reading l g f =
    count_fragment (holders_of (Picture l ∷ [])) (ledger_alone reading l g) has_no_copy (fragment_alone l g f)

-- how many entries a line of a survey calls lost: none of a fragment that has no stop
abbrev pub lost_in : SurveyLine → ℕ
lost_in line = unwrap_or line.lost 0
