-- Worked pictures: one with two ledgers, and what is found where one thing in it is changed.
use Rattle.std.specs.Prelude.{◌≡◌, ℕ, true, List, [], ◌∷◌, ◌++◌, codes, None, Ok, Err, refl}
use Rattle.std.specs.Str.{is_utf8, chars}
use Rattle.serde_json.proofs.OnLiterals.{serde_json_on_literals}
use Rattle.reh_types.specs.Sets as set
use Rattle.reh_types.specs.declared.names.LedgerState.TheVariants.{Open, Closed}
use Rattle.reh_model.specs.Cluster.{Cluster, Ledger, cluster_of, with_held, with_ledgers}
use Rattle.reh_model.proofs.Examples.{clear_cluster}
use Rattle.reh_model.specs.Contents.{Contents, copies_of}
use Rattle.reh_model.specs.Metadata.{Fragment}
use Rattle.reh_fields.specs.declared.fields.Field.TheVariants as field
use Rattle.reh_fields.specs.declared.faults.LedgerFlaw.TheVariants as flaw
use Rattle.reh_fields.specs.declared.faults.Repeated.TheVariants as repeated
use Rattle.reh_fields.specs.declared.faults.PictureFault.TheVariants.{NotJson, Missing, WrongKind, Twice, UnknownBookie, Limit}
use Rattle.reh_fields.specs.declared.faults.PictureFault.TheVariants.{BadLedger}
use Rattle.reh_picture.specs.Bookies.{bookies_fault, each_bookie_fault}
use Rattle.reh_picture.specs.Ledgers.{members_fault, fragments_fault, metadata_fault, each_ledger_fault, ledgers_fault}
use Rattle.reh_picture.specs.Contents.{ranges_fault, each_content_fault, contents_fault}
use Rattle.reh_picture.specs.Pictures.{head_fault, picture_of}

-- Five bookies; a closed ledger and an open one, both at the first three.

abbrev bookies : List ℕ
bookies =
    codes "{\"format\":1,\"grace\":3,\"bookies\":[{\"name\":\"b1:3181\",\"up\":true},"
    ++ codes "{\"name\":\"b2:3181\",\"up\":true},{\"name\":\"b3:3181\",\"up\":true},"
    ++ codes "{\"name\":\"b4:3181\",\"up\":true},{\"name\":\"b5:3181\",\"up\":true}],"

abbrev closed_start : List ℕ
closed_start = codes "\"ledgers\":[{\"id\":7,\"state\":\"CLOSED\",\"lastEntryId\":5,\"ensembleSize\":3,"

abbrev closed_quorums : List ℕ
closed_quorums = codes "\"writeQuorumSize\":2,\"ackQuorumSize\":2,\"version\":0,"

abbrev closed_first : List ℕ
closed_first = codes "\"fragments\":[{\"firstEntry\":0,"

abbrev closed_ensemble : List ℕ
closed_ensemble = codes "\"ensemble\":[\"b1:3181\",\"b2:3181\",\"b3:3181\"]}]},"

abbrev second_ledger : List ℕ
second_ledger =
    codes "{\"id\":9,\"state\":\"OPEN\",\"ensembleSize\":3,\"writeQuorumSize\":3,\"ackQuorumSize\":2,"
    ++ codes "\"version\":0,\"fragments\":[{\"firstEntry\":0,\"ensemble\":[\"b1:3181\",\"b2:3181\","
    ++ codes "\"b3:3181\"]}]}],"

abbrev first_contents : List ℕ
first_contents = codes "\"contents\":[{\"bookie\":\"b1:3181\",\"ledger\":7,\"entries\":[[0,0],[2,3],[5,5]]},"

abbrev other_contents : List ℕ
other_contents =
    codes "{\"bookie\":\"b2:3181\",\"ledger\":7,\"entries\":[[0,1],[3,4]]},"
    ++ codes "{\"bookie\":\"b3:3181\",\"ledger\":7,\"entries\":[[1,2],[4,5]]},"
    ++ codes "{\"bookie\":\"b1:3181\",\"ledger\":9,\"entries\":[[0,4]]},"
    ++ codes "{\"bookie\":\"b2:3181\",\"ledger\":9,\"entries\":[[0,3]]},"
    ++ codes "{\"bookie\":\"b3:3181\",\"ledger\":9,\"entries\":[[0,3]]}]}"

abbrev ensemble : Fragment
ensemble = record { first = 0; ensemble = 0 ∷ 1 ∷ 2 ∷ [] }

abbrev closed_ledger : Ledger
closed_ledger =
    record {
      id = 7;
      metadata =
          record {
            size = 3;
            write_quorum = 2;
            ack_quorum = 2;
            state = Closed 6;
            version = 0;
            fragments = ensemble ∷ [];
          };
      words = 1;
      task = None;
      lock = None;
    }

abbrev open_ledger : Ledger
open_ledger =
    record {
      id = 9;
      metadata =
          record { size = 3; write_quorum = 3; ack_quorum = 2; state = Open; version = 0; fragments = ensemble ∷ [] };
      words = 1;
      task = None;
      lock = None;
    }

abbrev contents : Contents
contents =
    set.union (copies_of 0 7 (0 ∷ 2 ∷ 3 ∷ 5 ∷ []))
    (set.union (copies_of 1 7 (0 ∷ 1 ∷ 3 ∷ 4 ∷ []))
    (set.union (copies_of 2 7 (1 ∷ 2 ∷ 4 ∷ 5 ∷ []))
    (set.union (copies_of 0 9 (0 ∷ 1 ∷ 2 ∷ 3 ∷ 4 ∷ []))
    (set.union (copies_of 1 9 (0 ∷ 1 ∷ 2 ∷ 3 ∷ [])) (copies_of 2 9 (0 ∷ 1 ∷ 2 ∷ 3 ∷ []))))))

abbrev cluster : Cluster
cluster =
    let started =
    clear_cluster (codes "b1:3181" ∷ codes "b2:3181" ∷ codes "b3:3181" ∷ codes "b4:3181" ∷ codes "b5:3181" ∷ []) in
    with_held (with_ledgers started (closed_ledger ∷ open_ledger ∷ [])) contents

-- it is read
reads : picture_of
    (bookies
    ++ (closed_start
    ++ (closed_quorums
    ++ (closed_first ++ (closed_ensemble ++ (second_ledger ++ (first_contents ++ (other_contents))))))))
    ≡ Ok cluster
unfolding serde_json_on_literals is_utf8 chars head_fault bookies_fault ledgers_fault contents_fault each_bookie_fault
    members_fault fragments_fault metadata_fault each_ledger_fault ranges_fault each_content_fault set.from_list
    set.insert set.empty set.items set.union
reads = refl

-- no bytes
empty : picture_of ([]) ≡ Err NotJson
unfolding serde_json_on_literals is_utf8 chars head_fault bookies_fault ledgers_fault contents_fault each_bookie_fault
    members_fault fragments_fault metadata_fault each_ledger_fault ranges_fault each_content_fault set.from_list
    set.insert set.empty set.items
empty = refl

-- the last byte is cut off
cut : picture_of
    (bookies
    ++ (closed_start
    ++ (closed_quorums
    ++ (closed_first
    ++ (closed_ensemble
    ++ (second_ledger
    ++ (first_contents
    ++ (codes "{\"bookie\":\"b2:3181\",\"ledger\":7,\"entries\":[[0,1],[3,4]]},"
    ++ codes "{\"bookie\":\"b3:3181\",\"ledger\":7,\"entries\":[[1,2],[4,5]]},"
    ++ codes "{\"bookie\":\"b1:3181\",\"ledger\":9,\"entries\":[[0,4]]},"
    ++ codes "{\"bookie\":\"b2:3181\",\"ledger\":9,\"entries\":[[0,3]]},"
    ++ codes "{\"bookie\":\"b3:3181\",\"ledger\":9,\"entries\":[[0,3]]}]"))))))))
    ≡ Err NotJson
unfolding serde_json_on_literals is_utf8 chars head_fault bookies_fault ledgers_fault contents_fault each_bookie_fault
    members_fault fragments_fault metadata_fault each_ledger_fault ranges_fault each_content_fault set.from_list
    set.insert set.empty set.items
cut = refl

-- a write quorum above the ensemble size
quorum : picture_of
    (bookies
    ++ (closed_start
    ++ (codes "\"writeQuorumSize\":4,\"ackQuorumSize\":2,\"version\":0,"
    ++ (closed_first ++ (closed_ensemble ++ (second_ledger ++ (first_contents ++ (other_contents))))))))
    ≡ Err (BadLedger 7 flaw.Quorum)
unfolding serde_json_on_literals is_utf8 chars head_fault bookies_fault ledgers_fault contents_fault each_bookie_fault
    members_fault fragments_fault metadata_fault each_ledger_fault ranges_fault each_content_fault set.from_list
    set.insert set.empty set.items
quorum = refl

-- a bookie stands in an ensemble twice
ensemble_twice : picture_of
    (bookies
    ++ (closed_start
    ++ (closed_quorums
    ++ (closed_first
    ++ (codes "\"ensemble\":[\"b1:3181\",\"b2:3181\",\"b1:3181\"]}]},"
    ++ (second_ledger ++ (first_contents ++ (other_contents))))))))
    ≡ Err (BadLedger 7 flaw.Ensemble)
unfolding serde_json_on_literals is_utf8 chars head_fault bookies_fault ledgers_fault contents_fault each_bookie_fault
    members_fault fragments_fault metadata_fault each_ledger_fault ranges_fault each_content_fault set.from_list
    set.insert set.empty set.items
ensemble_twice = refl

-- an ensemble names no bookie
unknown : picture_of
    (bookies
    ++ (closed_start
    ++ (closed_quorums
    ++ (closed_first
    ++ (codes "\"ensemble\":[\"b1:3181\",\"b2:3181\",\"b9:3181\"]}]},"
    ++ (second_ledger ++ (first_contents ++ (other_contents))))))))
    ≡ Err (UnknownBookie (codes "b9:3181"))
unfolding serde_json_on_literals is_utf8 chars head_fault bookies_fault ledgers_fault contents_fault each_bookie_fault
    members_fault fragments_fault metadata_fault each_ledger_fault ranges_fault each_content_fault set.from_list
    set.insert set.empty set.items
unknown = refl

-- the first fragment does not begin at entry 0
first_entry : picture_of
    (bookies
    ++ (closed_start
    ++ (closed_quorums
    ++ (codes "\"fragments\":[{\"firstEntry\":1,"
    ++ (closed_ensemble ++ (second_ledger ++ (first_contents ++ (other_contents))))))))
    ≡ Err (BadLedger 7 flaw.Fragment)
unfolding serde_json_on_literals is_utf8 chars head_fault bookies_fault ledgers_fault contents_fault each_bookie_fault
    members_fault fragments_fault metadata_fault each_ledger_fault ranges_fault each_content_fault set.from_list
    set.insert set.empty set.items
first_entry = refl

-- an entry that there cannot be
entry_end : picture_of
    (bookies
    ++ (closed_start
    ++ (closed_quorums
    ++ (closed_first
    ++ (closed_ensemble
    ++ (second_ledger
    ++ (codes "\"contents\":[{\"bookie\":\"b1:3181\",\"ledger\":7,\"entries\":[[0,65536]]}," ++ (other_contents))))))))
    ≡ Err (Limit field.Entries)
unfolding serde_json_on_literals is_utf8 chars head_fault bookies_fault ledgers_fault contents_fault each_bookie_fault
    members_fault fragments_fault metadata_fault each_ledger_fault ranges_fault each_content_fault set.from_list
    set.insert set.empty set.items
entry_end = refl

-- a last entry id below the last fragment
last : picture_of
    (bookies
    ++ (codes "\"ledgers\":[{\"id\":7,\"state\":\"CLOSED\",\"lastEntryId\":-1,\"ensembleSize\":3,"
    ++ (closed_quorums
    ++ (codes "\"fragments\":[{\"firstEntry\":0,\"ensemble\":[\"b4:3181\",\"b2:3181\",\"b3:3181\"]},"
    ++ codes "{\"firstEntry\":1," ++ (closed_ensemble ++ (second_ledger ++ (first_contents ++ (other_contents))))))))
    ≡ Err (BadLedger 7 flaw.Last)
unfolding serde_json_on_literals is_utf8 chars head_fault bookies_fault ledgers_fault contents_fault each_bookie_fault
    members_fault fragments_fault metadata_fault each_ledger_fault ranges_fault each_content_fault set.from_list
    set.insert set.empty set.items
last = refl

-- entries of no ledger
unknown_ledger : picture_of
    (bookies
    ++ (closed_start
    ++ (closed_quorums
    ++ (closed_first
    ++ (closed_ensemble
    ++ (second_ledger
    ++ (codes "\"contents\":[{\"bookie\":\"b1:3181\",\"ledger\":8,\"entries\":[[0,0],[2,3],[5,5]]},"
    ++ (other_contents))))))))
    ≡ Err (BadLedger 8 flaw.Unknown)
unfolding serde_json_on_literals is_utf8 chars head_fault bookies_fault ledgers_fault contents_fault each_bookie_fault
    members_fault fragments_fault metadata_fault each_ledger_fault ranges_fault each_content_fault set.from_list
    set.insert set.empty set.items
unknown_ledger = refl

-- the same bookie and ledger once more
pair : picture_of
    (bookies
    ++ (closed_start
    ++ (closed_quorums
    ++ (closed_first
    ++ (closed_ensemble
    ++ (second_ledger
    ++ (first_contents
    ++ (codes "{\"bookie\":\"b1:3181\",\"ledger\":7,\"entries\":[[0,1],[3,4]]},"
    ++ codes "{\"bookie\":\"b3:3181\",\"ledger\":7,\"entries\":[[1,2],[4,5]]},"
    ++ codes "{\"bookie\":\"b1:3181\",\"ledger\":9,\"entries\":[[0,4]]},"
    ++ codes "{\"bookie\":\"b2:3181\",\"ledger\":9,\"entries\":[[0,3]]},"
    ++ codes "{\"bookie\":\"b3:3181\",\"ledger\":9,\"entries\":[[0,3]]}]}"))))))))
    ≡ Err (Twice (repeated.Content (codes "b1:3181") 7))
unfolding serde_json_on_literals is_utf8 chars head_fault bookies_fault ledgers_fault contents_fault each_bookie_fault
    members_fault fragments_fault metadata_fault each_ledger_fault ranges_fault each_content_fault set.from_list
    set.insert set.empty set.items
pair = refl

-- a range that does not rise past the one before
rank : picture_of
    (bookies
    ++ (closed_start
    ++ (closed_quorums
    ++ (closed_first
    ++ (closed_ensemble
    ++ (second_ledger
    ++ (codes "\"contents\":[{\"bookie\":\"b1:3181\",\"ledger\":7,\"entries\":[[0,0],[0,3],[5,5]]},"
    ++ (other_contents))))))))
    ≡ Err (Limit field.Entries)
unfolding serde_json_on_literals is_utf8 chars head_fault bookies_fault ledgers_fault contents_fault each_bookie_fault
    members_fault fragments_fault metadata_fault each_ledger_fault ranges_fault each_content_fault set.from_list
    set.insert set.empty set.items
rank = refl

-- a grace below 0
grace : picture_of
    (codes "{\"format\":1,\"grace\":-1,\"bookies\":[{\"name\":\"b1:3181\",\"up\":true},"
    ++ codes "{\"name\":\"b2:3181\",\"up\":true},{\"name\":\"b3:3181\",\"up\":true},"
    ++ codes "{\"name\":\"b4:3181\",\"up\":true},{\"name\":\"b5:3181\",\"up\":true}],"
    ++ (closed_start
    ++ (closed_quorums
    ++ (closed_first ++ (closed_ensemble ++ (second_ledger ++ (first_contents ++ (other_contents))))))))
    ≡ Err (WrongKind field.Grace)
unfolding serde_json_on_literals is_utf8 chars head_fault bookies_fault ledgers_fault contents_fault each_bookie_fault
    members_fault fragments_fault metadata_fault each_ledger_fault ranges_fault each_content_fault set.from_list
    set.insert set.empty set.items
grace = refl

-- no bookie
no_bookies : picture_of
    (codes "{\"format\":1,\"grace\":3,\"bookies\":[],"
    ++ (closed_start
    ++ (closed_quorums
    ++ (closed_first ++ (closed_ensemble ++ (second_ledger ++ (first_contents ++ (other_contents))))))))
    ≡ Err (Limit field.Bookies)
unfolding serde_json_on_literals is_utf8 chars head_fault bookies_fault ledgers_fault contents_fault each_bookie_fault
    members_fault fragments_fault metadata_fault each_ledger_fault ranges_fault each_content_fault set.from_list
    set.insert set.empty set.items
no_bookies = refl

-- Formats: one registered bookie, and no ledger.

abbrev one_bookie : List ℕ
one_bookie = codes "\"grace\":3,\"bookies\":[{\"name\":\"b1:3181\",\"up\":true}],\"ledgers\":[],\"contents\":[]}"

abbrev delayed_by : ℕ → Cluster
delayed_by ticks = cluster_of (codes "b1:3181" ∷ []) (None ∷ []) 3 ticks true [] set.empty

-- format 2 has the delay of an audit after a loss
with_delay : picture_of (codes "{\"format\":2,\"lostDelayTicks\":5," ++ one_bookie) ≡ Ok (delayed_by 5)
unfolding serde_json_on_literals is_utf8 chars head_fault bookies_fault ledgers_fault contents_fault each_bookie_fault
    members_fault fragments_fault metadata_fault each_ledger_fault ranges_fault each_content_fault set.from_list
    set.insert set.empty set.items
with_delay = refl

without_delay : picture_of (codes "{\"format\":2," ++ one_bookie) ≡ Err (Missing field.LostDelayTicks)
unfolding serde_json_on_literals is_utf8 chars head_fault bookies_fault ledgers_fault contents_fault each_bookie_fault
    members_fault fragments_fault metadata_fault each_ledger_fault ranges_fault each_content_fault set.from_list
    set.insert set.empty set.items
without_delay = refl

-- in format 1 there is none, whatever stands there
first_format : picture_of (codes "{\"format\":1,\"lostDelayTicks\":5," ++ one_bookie) ≡ Ok (delayed_by 0)
unfolding serde_json_on_literals is_utf8 chars head_fault bookies_fault ledgers_fault contents_fault each_bookie_fault
    members_fault fragments_fault metadata_fault each_ledger_fault ranges_fault each_content_fault set.from_list
    set.insert set.empty set.items
first_format = refl

-- there is no format 3
third_format : picture_of (codes "{\"format\":3,\"lostDelayTicks\":5," ++ one_bookie) ≡ Err (Limit field.Format)
unfolding serde_json_on_literals is_utf8 chars head_fault bookies_fault ledgers_fault contents_fault each_bookie_fault
    members_fault fragments_fault metadata_fault each_ledger_fault ranges_fault each_content_fault set.from_list
    set.insert set.empty set.items
third_format = refl
