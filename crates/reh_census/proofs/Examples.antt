-- Clusters at which an earlier rule said yes, and small ones: each computes to its answer.
use Rattle.std.proofs.Common.{◌≡◌, ◌||◌, ℕ, Bool, true, false, cond, List, [], ◌∷◌, None, Some, refl}
use Rattle.std.specs.Prelude.{◌==◌}
use Rattle.reh_census.specs.declared.answers.Answer.{Answer}
use Rattle.reh_census.specs.declared.answers.Answer.TheVariants.{Yes, No, Unknown, UnknownDisks, NotJudged}
use Rattle.reh_census.specs.declared.answers.Rule.TheVariants.{Readable, Kept, Recoverable, Writable, Replaceable}
use Rattle.reh_census.specs.declared.censuses.Tail.{Tail}
use Rattle.reh_census.specs.declared.classes.Counted.{Counted}
use Rattle.reh_census.specs.declared.ledgers.Fragment.{Fragment}
use Rattle.reh_census.specs.declared.ledgers.LedgerState.TheVariants.{Closed}
use Rattle.reh_census.specs.declared.ledgers.Told.TheVariants.{Holds, Lacks, Untold}
use Rattle.reh_census.specs.declared.questions.Keep.{Keep}
use Rattle.reh_census.specs.declared.questions.Keep.TheVariants.{AckQuorum, Copies, AckLessOne}
use Rattle.reh_census.specs.declared.questions.Question.{Question}
use Rattle.reh_census.specs.Answers.{answer_on}
use Rattle.reh_census.specs.Bookies.{Bookies}
use Rattle.reh_census.specs.Copies.{is_in}
use Rattle.reh_census.specs.Counting.{Census, counting_in}
use Rattle.reh_census.specs.Ledgers.{Ledger, class_of}

-- so many entries with these copies, known and untold
abbrev entries : ℕ → List ℕ → List ℕ → ℕ → ℕ → Counted
entries count known untold write_quorum ack_quorum = record {
  class = record { known = known; untold = untold; ack_quorum = ack_quorum; write_quorum = write_quorum };
  count = count;
}

-- bookies by the lists of those that are down, read-only, and empty; without racks
abbrev bookies_but : List ℕ → List ℕ → List ℕ → List ℕ → Bookies
bookies_but names down read_only empty = record {
  names = names;
  is_registered = λ b. cond (is_in down b) false true;
  is_read_only = λ b. is_in read_only b;
  is_empty = λ b. is_in empty b;
  rack_of = λ b. None;
  racks = [];
}

abbrev all_of : List ℕ → Bookies
all_of names = bookies_but names [] [] []

abbrev open_on : List ℕ → ℕ → ℕ → ℕ → Tail
open_on ensemble size write_quorum ack_quorum =
    record { size = size; write_quorum = write_quorum; ack_quorum = ack_quorum; is_open = true; ensemble = ensemble }

abbrev recovering_on : List ℕ → ℕ → ℕ → ℕ → Tail
recovering_on ensemble size write_quorum ack_quorum =
    record { size = size; write_quorum = write_quorum; ack_quorum = ack_quorum; is_open = false; ensemble = ensemble }

abbrev with_tail : List Counted → Tail → Census
with_tail counted tail = record {
  entries = counted;
  tails = record { tail = tail; count = 1 } ∷ [];
  ensembles = record { members = tail.ensemble; count = 1 } ∷ [];
  judged = record { ledgers = 1; assumed = 0; unread = 0; missing = 0 };
}

-- a closed ledger, with this ensemble
abbrev closed_on : List Counted → List ℕ → Census
closed_on counted ensemble = record {
  entries = counted;
  tails = [];
  ensembles = record { members = ensemble; count = 1 } ∷ [];
  judged = record { ledgers = 1; assumed = 0; unread = 0; missing = 0 };
}

-- what is asked: how many copies to keep, whether recovery and writers may be blocked, and whether the stop is for good
abbrev asking : Keep → Bool → Bool → Bool → Question
asking keep recovery writers good = record {
  keep = keep;
  ensemble = None;
  min_racks = None;
  allow_blocked_recovery = recovery;
  allow_blocked_writers = writers;
  for_good = good;
}

abbrev plainly : Question
plainly = asking AckQuorum false false false

abbrev stop_for_good : Question
stop_for_good = asking AckQuorum false false true

abbrev answer : Census → Bookies → Question → List ℕ → Answer
answer census bookies question stopped = answer_on (counting_in census) bookies question 0 (is_in stopped)

-- The clusters that an earlier rule judged wrongly

-- an open ledger of whose entries none is known: nobody could recover it
nothing_known : answer (with_tail [] (open_on (1 ∷ 2 ∷ 3 ∷ []) 3 3 2)) (all_of (1 ∷ 2 ∷ 3 ∷ [])) plainly (1 ∷ 2 ∷ 3 ∷ []) ≡ No Recoverable 1
nothing_known = refl

-- entries under their ack quorum already go from two copies to one
under_before : answer (closed_on (entries 4 (2 ∷ 3 ∷ []) [] 3 3 ∷ []) (1 ∷ 2 ∷ 3 ∷ [])) (bookies_but (1 ∷ 2 ∷ 3 ∷ []) (1 ∷ []) [] []) plainly (2 ∷ []) ≡ No Kept 4
under_before = refl

-- the writer finds no bookie
no_spare : answer (with_tail (entries 4 (1 ∷ 2 ∷ 3 ∷ []) [] 3 2 ∷ []) (open_on (1 ∷ 2 ∷ 3 ∷ []) 3 3 2)) (all_of (1 ∷ 2 ∷ 3 ∷ [])) plainly (3 ∷ []) ≡ No Writable 1
no_spare = refl

-- and may be let wait
no_spare_allowed : answer (with_tail (entries 4 (1 ∷ 2 ∷ 3 ∷ []) [] 3 2 ∷ []) (open_on (1 ∷ 2 ∷ 3 ∷ []) 3 3 2)) (all_of (1 ∷ 2 ∷ 3 ∷ [])) (asking AckQuorum false true false) (3 ∷ []) ≡ Yes
no_spare_allowed = refl

-- one write set of an open ledger has too few members left
striped_tail : answer (with_tail (entries 1 (1 ∷ 2 ∷ 3 ∷ []) [] 3 2 ∷ entries 1 (2 ∷ 3 ∷ 4 ∷ []) [] 3 2 ∷ []) (open_on (1 ∷ 2 ∷ 3 ∷ 4 ∷ 5 ∷ []) 5 3 2)) (all_of (1 ∷ 2 ∷ 3 ∷ 4 ∷ 5 ∷ 6 ∷ 7 ∷ [])) plainly (4 ∷ 5 ∷ []) ≡ No Recoverable 1
striped_tail = refl

-- a ledger that was left out
left_out : answer_on (counting_in (closed_on [] [])) (all_of (1 ∷ 2 ∷ 3 ∷ [])) plainly 1 (is_in (3 ∷ [])) ≡ NotJudged 1
left_out = refl

-- nobody told anything
nobody_told : answer (closed_on (entries 4 [] (1 ∷ 2 ∷ 3 ∷ []) 3 2 ∷ []) (1 ∷ 2 ∷ 3 ∷ [])) (all_of (1 ∷ 2 ∷ 3 ∷ [])) plainly (1 ∷ 2 ∷ 3 ∷ []) ≡ Unknown Readable 4
nobody_told = refl

-- one bookie told alone
one_told_alone : answer (closed_on (entries 4 (1 ∷ []) (2 ∷ 3 ∷ []) 3 2 ∷ []) (1 ∷ 2 ∷ 3 ∷ [])) (all_of (1 ∷ 2 ∷ 3 ∷ [])) plainly (2 ∷ 3 ∷ []) ≡ Unknown Kept 4
one_told_alone = refl

-- Small ones

-- two copies, both to be kept
two_copies : answer (closed_on (entries 4 (1 ∷ 2 ∷ []) [] 2 2 ∷ []) (1 ∷ 2 ∷ [])) (all_of (1 ∷ 2 ∷ 3 ∷ [])) plainly (1 ∷ []) ≡ No Kept 4
two_copies = refl

-- one is enough
one_is_enough : answer (closed_on (entries 4 (1 ∷ 2 ∷ []) [] 2 2 ∷ []) (1 ∷ 2 ∷ [])) (all_of (1 ∷ 2 ∷ 3 ∷ [])) (asking (Copies 1) false false false) (1 ∷ []) ≡ Yes
one_is_enough = refl

-- one less than both
one_less : answer (closed_on (entries 4 (1 ∷ 2 ∷ []) [] 2 2 ∷ []) (1 ∷ 2 ∷ [])) (all_of (1 ∷ 2 ∷ 3 ∷ [])) (asking AckLessOne false false false) (1 ∷ []) ≡ Yes
one_less = refl

-- the last copy is never one too many
none_to_keep : answer (closed_on (entries 4 (1 ∷ 2 ∷ []) [] 2 2 ∷ []) (1 ∷ 2 ∷ [])) (all_of (1 ∷ 2 ∷ 3 ∷ [])) (asking (Copies 0) false false false) (1 ∷ 2 ∷ []) ≡ No Readable 4
none_to_keep = refl

-- three copies, all to be kept
three_copies : answer (closed_on (entries 4 (1 ∷ 2 ∷ 3 ∷ []) [] 3 3 ∷ []) (1 ∷ 2 ∷ 3 ∷ [])) (all_of (1 ∷ 2 ∷ 3 ∷ 4 ∷ [])) plainly (3 ∷ []) ≡ No Kept 4
three_copies = refl

-- three copies, of which one less is enough
three_copies_less : answer (closed_on (entries 4 (1 ∷ 2 ∷ 3 ∷ []) [] 3 3 ∷ []) (1 ∷ 2 ∷ 3 ∷ [])) (all_of (1 ∷ 2 ∷ 3 ∷ 4 ∷ [])) (asking AckLessOne false false false) (3 ∷ []) ≡ Yes
three_copies_less = refl

-- a striped ledger with all of its entries, and bookies enough
striped : answer (with_tail (entries 1 (1 ∷ 2 ∷ 3 ∷ []) [] 3 2 ∷ entries 1 (2 ∷ 3 ∷ 4 ∷ []) [] 3 2 ∷ []) (open_on (1 ∷ 2 ∷ 3 ∷ 4 ∷ 5 ∷ []) 5 3 2)) (all_of (1 ∷ 2 ∷ 3 ∷ 4 ∷ 5 ∷ 6 ∷ [])) plainly (5 ∷ []) ≡ Yes
striped = refl

-- where each bookie may have acknowledged an entry alone
ack_alone : answer (with_tail [] (open_on (1 ∷ 2 ∷ []) 2 2 1)) (all_of (1 ∷ 2 ∷ 3 ∷ [])) plainly (1 ∷ []) ≡ No Recoverable 1
ack_alone = refl

-- and recovery may wait
ack_alone_allowed : answer (with_tail [] (open_on (1 ∷ 2 ∷ []) 2 2 1)) (all_of (1 ∷ 2 ∷ 3 ∷ [])) (asking AckQuorum true false false) (1 ∷ []) ≡ Yes
ack_alone_allowed = refl

-- one member is down already
down_already : answer (with_tail [] (open_on (1 ∷ 2 ∷ 3 ∷ []) 3 3 2)) (bookies_but (1 ∷ 2 ∷ 3 ∷ 4 ∷ 5 ∷ []) (1 ∷ []) [] []) plainly (2 ∷ []) ≡ No Recoverable 1
down_already = refl

-- one bookie is read-only, so no ensemble can be made
read_only_spare : answer (with_tail [] (open_on (1 ∷ 2 ∷ 3 ∷ []) 3 3 2)) (bookies_but (1 ∷ 2 ∷ 3 ∷ 4 ∷ []) [] (4 ∷ []) []) plainly (3 ∷ []) ≡ No Writable 1
read_only_spare = refl

-- a bookie that came back without its disk covers nothing
empty_member : answer (with_tail [] (open_on (1 ∷ 2 ∷ 3 ∷ []) 3 3 2)) (bookies_but (1 ∷ 2 ∷ 3 ∷ 4 ∷ 5 ∷ []) [] [] (3 ∷ [])) plainly (1 ∷ []) ≡ No Recoverable 1
empty_member = refl

-- what was written to it since may be there alone
refilled_alone : answer (with_tail [] (open_on (1 ∷ 2 ∷ []) 2 2 1)) (bookies_but (1 ∷ 2 ∷ 3 ∷ []) [] [] (1 ∷ [])) plainly (1 ∷ []) ≡ No Recoverable 1
refilled_alone = refl

-- and isn't, where two of three members acknowledge
refilled : answer (with_tail [] (open_on (1 ∷ 2 ∷ 3 ∷ []) 3 3 2)) (bookies_but (1 ∷ 2 ∷ 3 ∷ 4 ∷ []) [] [] (3 ∷ [])) plainly (3 ∷ []) ≡ Yes
refilled = refl

-- and may be written to
empty_spare : answer (with_tail (entries 4 (1 ∷ 2 ∷ 3 ∷ []) [] 3 2 ∷ []) (open_on (1 ∷ 2 ∷ 3 ∷ []) 3 3 2)) (bookies_but (1 ∷ 2 ∷ 3 ∷ 4 ∷ []) [] [] (4 ∷ [])) plainly (3 ∷ []) ≡ Yes
empty_spare = refl

-- no ensemble can be made now either, and a write set would lack acknowledgements
stuck : answer (with_tail [] (open_on (1 ∷ 2 ∷ 3 ∷ []) 3 3 2)) (bookies_but (1 ∷ 2 ∷ 3 ∷ []) [] (3 ∷ []) []) plainly (2 ∷ []) ≡ No Recoverable 1
stuck = refl

-- also for the writer, where recovery may wait
stuck_writer : answer (with_tail [] (open_on (1 ∷ 2 ∷ 3 ∷ []) 3 3 2)) (bookies_but (1 ∷ 2 ∷ 3 ∷ []) [] (3 ∷ []) []) (asking AckQuorum true false false) (2 ∷ []) ≡ No Writable 1
stuck_writer = refl

-- A ledger in recovery

-- it writes at once, and finds no third bookie
no_ensemble : answer (with_tail [] (recovering_on (1 ∷ 2 ∷ 3 ∷ []) 3 3 2)) (all_of (1 ∷ 2 ∷ 3 ∷ [])) plainly (3 ∷ []) ≡ No Recoverable 1
no_ensemble = refl

-- and may wait
no_ensemble_allowed : answer (with_tail [] (recovering_on (1 ∷ 2 ∷ 3 ∷ []) 3 3 2)) (all_of (1 ∷ 2 ∷ 3 ∷ [])) (asking AckQuorum true false false) (3 ∷ []) ≡ Yes
no_ensemble_allowed = refl

-- a fourth takes its place
some_ensemble : answer (with_tail [] (recovering_on (1 ∷ 2 ∷ 3 ∷ []) 3 3 2)) (all_of (1 ∷ 2 ∷ 3 ∷ 4 ∷ [])) plainly (3 ∷ []) ≡ Yes
some_ensemble = refl

-- where it finds none now either, a write set would lack acknowledgements
stuck_recovery : answer (with_tail [] (recovering_on (1 ∷ 2 ∷ 3 ∷ []) 3 3 2)) (bookies_but (1 ∷ 2 ∷ 3 ∷ []) [] (3 ∷ []) []) plainly (2 ∷ []) ≡ No Recoverable 1
stuck_recovery = refl

-- For good

-- where recovery may wait: what one bookie alone acknowledged goes with it
acked_for_good : answer (with_tail [] (open_on (1 ∷ 2 ∷ []) 2 2 1)) (all_of (1 ∷ 2 ∷ 3 ∷ 4 ∷ [])) (asking AckQuorum true false true) (1 ∷ []) ≡ No Recoverable 1
acked_for_good = refl

-- a place that finds no other bookie
no_place : answer (closed_on (entries 4 (1 ∷ 2 ∷ 3 ∷ []) [] 3 2 ∷ []) (1 ∷ 2 ∷ 3 ∷ [])) (all_of (1 ∷ 2 ∷ 3 ∷ [])) stop_for_good (3 ∷ []) ≡ No Replaceable 1
no_place = refl

-- and one that finds it
some_place : answer (closed_on (entries 4 (1 ∷ 2 ∷ 3 ∷ []) [] 3 2 ∷ []) (1 ∷ 2 ∷ 3 ∷ [])) (all_of (1 ∷ 2 ∷ 3 ∷ 4 ∷ [])) stop_for_good (3 ∷ []) ≡ Yes
some_place = refl

-- a place found none before, and now another one does
no_further_place : answer (closed_on (entries 4 (2 ∷ 3 ∷ []) [] 3 2 ∷ []) (1 ∷ 2 ∷ 3 ∷ [])) (bookies_but (1 ∷ 2 ∷ 3 ∷ []) (1 ∷ []) [] []) (asking (Copies 1) false false true) (2 ∷ []) ≡ No Replaceable 1
no_further_place = refl

-- the disk of a bookie that is down may have the only copies
last_disk : answer (closed_on (entries 4 [] [] 1 1 ∷ []) (1 ∷ [])) (bookies_but (1 ∷ 2 ∷ 3 ∷ []) (1 ∷ []) [] []) stop_for_good (1 ∷ []) ≡ UnknownDisks 4
last_disk = refl

-- which it keeps where it comes back
last_disk_back : answer (closed_on (entries 4 [] [] 1 1 ∷ []) (1 ∷ [])) (bookies_but (1 ∷ 2 ∷ 3 ∷ []) (1 ∷ []) [] []) plainly (1 ∷ []) ≡ Yes
last_disk_back = refl

-- a disk may have the second copy of entries that are to keep two
second_disk : answer (closed_on (entries 4 (2 ∷ []) [] 2 2 ∷ []) (1 ∷ 2 ∷ [])) (bookies_but (1 ∷ 2 ∷ 3 ∷ []) (1 ∷ []) [] []) stop_for_good (1 ∷ []) ≡ UnknownDisks 4
second_disk = refl

-- and of which one is enough
dead_disk : answer (closed_on (entries 4 (2 ∷ []) [] 2 2 ∷ []) (1 ∷ 2 ∷ [])) (bookies_but (1 ∷ 2 ∷ 3 ∷ []) (1 ∷ []) [] []) (asking (Copies 1) false false true) (1 ∷ []) ≡ Yes
dead_disk = refl

-- a ledger that isn't closed could be recovered once the bookie is back
last_entries : answer (with_tail [] (open_on (1 ∷ 2 ∷ []) 2 2 1)) (bookies_but (1 ∷ 2 ∷ 3 ∷ 4 ∷ []) (1 ∷ []) [] []) stop_for_good (1 ∷ []) ≡ No Recoverable 1
last_entries = refl

-- Racks: the first two bookies stand in one, the others in another
abbrev racked : Bookies
racked = record {
  names = 0 ∷ 1 ∷ 2 ∷ 3 ∷ [];
  is_registered = λ b. true;
  is_read_only = λ b. false;
  is_empty = λ b. false;
  rack_of = λ b. Some (cond ((b == 0) || (b == 1)) 0 1);
  racks = 0 ∷ 1 ∷ [];
}

abbrev in_two_racks : Question
in_two_racks = record {
  keep = Copies 1;
  ensemble = Some 2;
  min_racks = Some 2;
  allow_blocked_recovery = false;
  allow_blocked_writers = false;
  for_good = false;
}

-- new ledgers need both
one_rack : answer (closed_on [] []) racked in_two_racks (0 ∷ 1 ∷ []) ≡ No Writable 1
one_rack = refl

both_racks : answer (closed_on [] []) racked in_two_racks (0 ∷ 2 ∷ []) ≡ Yes
both_racks = refl

-- Classes of entries

abbrev ledger : Ledger
ledger = record {
  state = Closed;
  size = 3;
  write_quorum = 2;
  ack_quorum = 2;
  fragments = record { first = 0; stop = 6; ensemble = 3 ∷ 1 ∷ 2 ∷ [] } ∷ [];
  contents =
      record { bookie = 1; told = Lacks (record { first = 3; last = 3 } ∷ []) }
      ∷ record { bookie = 2; told = Holds (record { first = 1; last = 2 } ∷ []) } ∷ [];
  rest = Untold;
}

abbrev fragment : Fragment
fragment = record { first = 0; stop = 6; ensemble = 3 ∷ 1 ∷ 2 ∷ [] }

-- entry 0 is striped onto the bookies 3 and 1, of which the first is untold, and entry 3, which 1 lacks, too
class_0 : class_of (1 ∷ 2 ∷ 3 ∷ []) ledger fragment 0 ≡ record { known = 1 ∷ []; untold = 3 ∷ []; ack_quorum = 2; write_quorum = 2 }
class_0 = refl

class_1 : class_of (1 ∷ 2 ∷ 3 ∷ []) ledger fragment 1 ≡ record { known = 1 ∷ 2 ∷ []; untold = []; ack_quorum = 2; write_quorum = 2 }
class_1 = refl

class_3 : class_of (1 ∷ 2 ∷ 3 ∷ []) ledger fragment 3 ≡ record { known = []; untold = 3 ∷ []; ack_quorum = 2; write_quorum = 2 }
class_3 = refl

-- a bookie that isn't registered has no copy
class_1_without : class_of (1 ∷ 3 ∷ []) ledger fragment 1 ≡ record { known = 1 ∷ []; untold = []; ack_quorum = 2; write_quorum = 2 }
class_1_without = refl
