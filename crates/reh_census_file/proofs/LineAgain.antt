-- A line that is written is read again.
use Rattle.std.proofs.Common.{◌≡◌, ℕ, ◌^◌, ◌<◌, ◌≤◌, Bool, true, false, List, [], ◌∷◌, ◌++◌, length, Option, Some, None, Ok, refl, sym, ap, ◌∙◌}
use Rattle.std.specs.Prelude.{codes, IfSome}
use Rattle.std.specs.Fmt.{decimal}
use Rattle.std.specs.List.{AllByRecursion, IsDistinct}
use Rattle.std.specs.Str.{bytes_eq}
use Rattle.std.proofs.lemmas.List.{append-nil, length-map}
use Rattle.reh_census.specs.declared.censuses.CountedEnsemble.{CountedEnsemble}
use Rattle.reh_census.specs.declared.censuses.CountedTail.{CountedTail}
use Rattle.reh_census.specs.declared.censuses.Judged.{Judged}
use Rattle.reh_census.specs.declared.classes.Counted.{Counted}
use Rattle.reh_census_file.specs.declared.faults.Expected.TheVariants as expected
use Rattle.reh_census_file.specs.declared.faults.Keyword.TheVariants as word
use Rattle.reh_census_file.specs.Canonical.{is_name}
use Rattle.reh_census_file.specs.LineReading.{BookieLine, rack_behind, rack_at, bookie_line_at, judged_at, entries_at, tail_at, ensemble_at}
use Rattle.reh_census_file.specs.Reading.{◌>>=◌, flag_at, choice_at, number_behind, bookies_at, bookies_behind, no_more}
use Rattle.reh_census_file.specs.Texts.{up_word, word_if, state_word, names_of, name_of}
use Rattle.reh_census_file.proofs.LineTakes.{racked}
use Rattle.reh_census_file.proofs.TokenAgain.{begins_apart, flag_again, choice_again, number_again, count_again, number_behind_again, name_again, bookies_again, bookies_behind_again}

abbrev Words : Type 0
Words = List (List ℕ)

-- Bookies

rack_again : (rack : Option (List ℕ)) → IfSome rack (λ name. is_name name ≡ true) → rack_at (racked rack) ≡ Ok rack
unfolding rack_at rack_behind
rack_again None named = refl
rack_again (Some name) named = ap (λ r. r >>= λ name. no_more name.1 >>= λ done. Ok (Some name.0)) (name_again name [] named)

-- the words after the flags begin with neither
racked_apart : (rack : Option (List ℕ)) → begins_apart (codes "empty") (racked rack)
racked_apart None = tt
racked_apart (Some name) = refl

empty_apart : (empty : Bool) (rack : Option (List ℕ)) → begins_apart (codes "read-only") (word_if empty (codes "empty") ++ racked rack)
empty_apart true rack = refl
empty_apart false None = tt
empty_apart false (Some name) = refl

-- the words of a bookie's line after the first
abbrev pub behind_bookie : BookieLine → Words
behind_bookie line =
    line.name ∷ up_word line.is_registered ∷ (word_if line.is_read_only (codes "read-only") ++ (word_if line.is_empty (codes "empty") ++ racked line.rack))

pub bookie_line_again : (line : BookieLine) → is_name line.name ≡ true → IfSome line.rack (λ name. is_name name ≡ true) → bookie_line_at (behind_bookie line) ≡ Ok line
unfolding bookie_line_at
bookie_line_again line named fits =
    let rest1 = word_if line.is_empty (codes "empty") ++ racked line.rack in
    let rest0 = word_if line.is_read_only (codes "read-only") ++ rest1 in
    let ro = flag_again word.ReadOnly line.is_read_only rest1 (empty_apart line.is_empty line.rack) in
    let em = flag_again word.Empty line.is_empty (racked line.rack) (racked_apart line.rack) in
    ap (λ r. r >>= λ name. choice_at (codes "up") (codes "down") expected.UpOrDown name.1 >>= λ up. rack_at (flag_at word.Empty (flag_at word.ReadOnly up.1).1).1 >>= λ rack.
    Ok (record { name = name.0; is_registered = up.0; is_read_only = (flag_at word.ReadOnly up.1).0; is_empty = (flag_at word.Empty (flag_at word.ReadOnly up.1).1).0; rack = rack })) (name_again line.name (up_word line.is_registered ∷ rest0) named)
    ∙ ap (λ r. r >>= λ up. rack_at (flag_at word.Empty (flag_at word.ReadOnly up.1).1).1 >>= λ rack.
    Ok (record { name = line.name; is_registered = up.0; is_read_only = (flag_at word.ReadOnly up.1).0; is_empty = (flag_at word.Empty (flag_at word.ReadOnly up.1).1).0; rack = rack })) (choice_again (codes "up") (codes "down") expected.UpOrDown line.is_registered rest0 refl)
    ∙ ap (λ (x : Bool × Words). rack_at (flag_at word.Empty x.1).1 >>= λ rack.
    Ok (record { name = line.name; is_registered = line.is_registered; is_read_only = x.0; is_empty = (flag_at word.Empty x.1).0; rack = rack })) ro
    ∙ ap (λ (x : Bool × Words). rack_at x.1 >>= λ rack. Ok (record { name = line.name; is_registered = line.is_registered; is_read_only = line.is_read_only; is_empty = x.0; rack = rack })) em
    ∙ ap (λ r. r >>= λ rack. Ok (record { name = line.name; is_registered = line.is_registered; is_read_only = line.is_read_only; is_empty = line.is_empty; rack = rack })) (rack_again line.rack fits)

-- Ledgers

abbrev pub behind_ledgers : Judged → Words
behind_ledgers j = decimal j.ledgers ∷ codes "assumed" ∷ decimal j.assumed ∷ codes "unread" ∷ decimal j.unread ∷ codes "missing" ∷ decimal j.missing ∷ []

pub judged_again : (j : Judged) → j.ledgers ≤ 2 ^ 63 → j.assumed ≤ 2 ^ 63 → j.unread ≤ 2 ^ 63 → j.missing ≤ 2 ^ 63 → judged_at (behind_ledgers j) ≡ Ok j
unfolding judged_at
judged_again j ledgers assumed unread missing =
    ap (λ r. r >>= λ ledgers. number_behind word.Assumed ledgers.1 >>= λ assumed. number_behind word.Unread assumed.1 >>= λ unread. number_behind word.Missing unread.1 >>= λ missing.
    no_more missing.1 >>= λ done. Ok (record { ledgers = ledgers.0; assumed = assumed.0; unread = unread.0; missing = missing.0 })) (number_again j.ledgers _ ledgers)
    ∙ ap (λ r. r >>= λ assumed. number_behind word.Unread assumed.1 >>= λ unread. number_behind word.Missing unread.1 >>= λ missing.
    no_more missing.1 >>= λ done. Ok (record { ledgers = j.ledgers; assumed = assumed.0; unread = unread.0; missing = missing.0 })) (number_behind_again word.Assumed j.assumed (codes "unread" ∷ decimal j.unread ∷ codes "missing" ∷ decimal j.missing ∷ []) assumed)
    ∙ ap (λ r. r >>= λ unread. number_behind word.Missing unread.1 >>= λ missing.
    no_more missing.1 >>= λ done. Ok (record { ledgers = j.ledgers; assumed = j.assumed; unread = unread.0; missing = missing.0 })) (number_behind_again word.Unread j.unread (codes "missing" ∷ decimal j.missing ∷ []) unread)
    ∙ ap (λ r. r >>= λ missing. no_more missing.1 >>= λ done. Ok (record { ledgers = j.ledgers; assumed = j.assumed; unread = j.unread; missing = missing.0 })) (number_behind_again word.Missing j.missing [] missing)

-- Entries

abbrev pub behind_entries : Words → Counted → Words
behind_entries names c =
    decimal c.count ∷ codes "write" ∷ decimal c.class.write_quorum ∷ codes "ack" ∷ decimal c.class.ack_quorum ∷ codes "known" ∷ decimal (length c.class.known)
    ∷ (names_of names c.class.known ++ (codes "untold" ∷ decimal (length c.class.untold) ∷ names_of names c.class.untold))

-- numbers that can be written
pub record AreSmall (c : Counted) : Type 0 where
  pub some : 1 ≤ c.count
  pub count : c.count ≤ 2 ^ 63
  pub write : c.class.write_quorum ≤ 2 ^ 63
  pub ack : c.class.ack_quorum ≤ 2 ^ 63
  pub known : length c.class.known ≤ 2 ^ 63
  pub untold : length c.class.untold ≤ 2 ^ 63

pub entries_again : (names : Words) (c : Counted) → IsDistinct bytes_eq names → AreSmall c → AllByRecursion (λ b. b < length names) c.class.known → AllByRecursion (λ b. b < length names) c.class.untold → entries_at names (behind_entries names c) ≡ Ok c
unfolding entries_at
entries_again names c distinct small known untold =
    let k = c.class.known in
    let u = c.class.untold in
    let rest4 : Words = codes "untold" ∷ decimal (length u) ∷ names_of names u in
    let rest3 : Words = codes "known" ∷ decimal (length k) ∷ (names_of names k ++ rest4) in
    let rest2 : Words = codes "ack" ∷ decimal c.class.ack_quorum ∷ rest3 in
    let rest1 : Words = codes "write" ∷ decimal c.class.write_quorum ∷ rest2 in
    ap (λ r. r >>= λ count. number_behind word.Write count.1 >>= λ write. number_behind word.Ack write.1 >>= λ ack. bookies_behind names word.Known ack.1 >>= λ known. bookies_behind names word.Untold known.1 >>= λ untold.
    no_more untold.1 >>= λ done. Ok (record { class = record { known = known.0; untold = untold.0; ack_quorum = ack.0; write_quorum = write.0 }; count = count.0 })) (count_again c.count rest1 small.some small.count)
    ∙ ap (λ r. r >>= λ write. number_behind word.Ack write.1 >>= λ ack. bookies_behind names word.Known ack.1 >>= λ known. bookies_behind names word.Untold known.1 >>= λ untold.
    no_more untold.1 >>= λ done. Ok (record { class = record { known = known.0; untold = untold.0; ack_quorum = ack.0; write_quorum = write.0 }; count = c.count })) (number_behind_again word.Write c.class.write_quorum rest2 small.write)
    ∙ ap (λ r. r >>= λ ack. bookies_behind names word.Known ack.1 >>= λ known. bookies_behind names word.Untold known.1 >>= λ untold.
    no_more untold.1 >>= λ done. Ok (record { class = record { known = known.0; untold = untold.0; ack_quorum = ack.0; write_quorum = c.class.write_quorum }; count = c.count })) (number_behind_again word.Ack c.class.ack_quorum rest3 small.ack)
    ∙ ap (λ r. r >>= λ known. bookies_behind names word.Untold known.1 >>= λ untold.
    no_more untold.1 >>= λ done. Ok (record { class = record { known = known.0; untold = untold.0; ack_quorum = c.class.ack_quorum; write_quorum = c.class.write_quorum }; count = c.count })) (bookies_behind_again names word.Known k rest4 distinct known small.known)
    ∙ ap (λ ws. bookies_behind names word.Untold (codes "untold" ∷ decimal (length u) ∷ ws) >>= λ untold.
    no_more untold.1 >>= λ done. Ok (record { class = record { known = k; untold = untold.0; ack_quorum = c.class.ack_quorum; write_quorum = c.class.write_quorum }; count = c.count })) (sym (append-nil (names_of names u)))
    ∙ ap (λ r. r >>= λ untold. no_more untold.1 >>= λ done. Ok (record { class = record { known = k; untold = untold.0; ack_quorum = c.class.ack_quorum; write_quorum = c.class.write_quorum }; count = c.count })) (bookies_behind_again names word.Untold u [] distinct untold small.untold)

-- Tails

abbrev pub behind_tail : Words → CountedTail → Words
behind_tail names t =
    decimal t.count ∷ state_word t.tail.is_open ∷ codes "size" ∷ decimal t.tail.size ∷ codes "write" ∷ decimal t.tail.write_quorum ∷ codes "ack" ∷ decimal t.tail.ack_quorum ∷ names_of names t.tail.ensemble

pub record IsSmallTail (t : CountedTail) : Type 0 where
  pub some : 1 ≤ t.count
  pub count : t.count ≤ 2 ^ 63
  pub size : t.tail.size ≤ 2 ^ 63
  pub write : t.tail.write_quorum ≤ 2 ^ 63
  pub ack : t.tail.ack_quorum ≤ 2 ^ 63
  pub whole : length t.tail.ensemble ≡ t.tail.size

pub tail_again : (names : Words) (t : CountedTail) → IsDistinct bytes_eq names → IsSmallTail t → AllByRecursion (λ b. b < length names) t.tail.ensemble → tail_at names (behind_tail names t) ≡ Ok t
unfolding tail_at
tail_again names t distinct small within =
    let e = t.tail.ensemble in
    let rest4 = names_of names e in
    let rest3 : Words = codes "ack" ∷ decimal t.tail.ack_quorum ∷ rest4 in
    let rest2 : Words = codes "write" ∷ decimal t.tail.write_quorum ∷ rest3 in
    let rest1 : Words = codes "size" ∷ decimal t.tail.size ∷ rest2 in
    ap (λ r. r >>= λ count. choice_at (codes "open") (codes "in-recovery") expected.OpenOrInRecovery count.1 >>= λ state. number_behind word.Size state.1 >>= λ size. number_behind word.Write size.1 >>= λ write. number_behind word.Ack write.1 >>= λ ack. bookies_at names size.0 ack.1 >>= λ ensemble.
    no_more ensemble.1 >>= λ done. Ok (record { tail = record { size = size.0; write_quorum = write.0; ack_quorum = ack.0; is_open = state.0; ensemble = ensemble.0 }; count = count.0 })) (count_again t.count (state_word t.tail.is_open ∷ rest1) small.some small.count)
    ∙ ap (λ r. r >>= λ state. number_behind word.Size state.1 >>= λ size. number_behind word.Write size.1 >>= λ write. number_behind word.Ack write.1 >>= λ ack. bookies_at names size.0 ack.1 >>= λ ensemble.
    no_more ensemble.1 >>= λ done. Ok (record { tail = record { size = size.0; write_quorum = write.0; ack_quorum = ack.0; is_open = state.0; ensemble = ensemble.0 }; count = t.count })) (choice_again (codes "open") (codes "in-recovery") expected.OpenOrInRecovery t.tail.is_open rest1 refl)
    ∙ ap (λ r. r >>= λ size. number_behind word.Write size.1 >>= λ write. number_behind word.Ack write.1 >>= λ ack. bookies_at names size.0 ack.1 >>= λ ensemble.
    no_more ensemble.1 >>= λ done. Ok (record { tail = record { size = size.0; write_quorum = write.0; ack_quorum = ack.0; is_open = t.tail.is_open; ensemble = ensemble.0 }; count = t.count })) (number_behind_again word.Size t.tail.size rest2 small.size)
    ∙ ap (λ r. r >>= λ write. number_behind word.Ack write.1 >>= λ ack. bookies_at names t.tail.size ack.1 >>= λ ensemble.
    no_more ensemble.1 >>= λ done. Ok (record { tail = record { size = t.tail.size; write_quorum = write.0; ack_quorum = ack.0; is_open = t.tail.is_open; ensemble = ensemble.0 }; count = t.count })) (number_behind_again word.Write t.tail.write_quorum rest3 small.write)
    ∙ ap (λ r. r >>= λ ack. bookies_at names t.tail.size ack.1 >>= λ ensemble.
    no_more ensemble.1 >>= λ done. Ok (record { tail = record { size = t.tail.size; write_quorum = t.tail.write_quorum; ack_quorum = ack.0; is_open = t.tail.is_open; ensemble = ensemble.0 }; count = t.count })) (number_behind_again word.Ack t.tail.ack_quorum rest4 small.ack)
    ∙ ap (λ n. bookies_at names n rest4 >>= λ ensemble.
    no_more ensemble.1 >>= λ done. Ok (record { tail = record { size = t.tail.size; write_quorum = t.tail.write_quorum; ack_quorum = t.tail.ack_quorum; is_open = t.tail.is_open; ensemble = ensemble.0 }; count = t.count })) (sym small.whole)
    ∙ ap (λ ws. bookies_at names (length e) ws >>= λ ensemble.
    no_more ensemble.1 >>= λ done. Ok (record { tail = record { size = t.tail.size; write_quorum = t.tail.write_quorum; ack_quorum = t.tail.ack_quorum; is_open = t.tail.is_open; ensemble = ensemble.0 }; count = t.count })) (sym (append-nil rest4))
    ∙ ap (λ r. r >>= λ ensemble. no_more ensemble.1 >>= λ done. Ok (record { tail = record { size = t.tail.size; write_quorum = t.tail.write_quorum; ack_quorum = t.tail.ack_quorum; is_open = t.tail.is_open; ensemble = ensemble.0 }; count = t.count })) (bookies_again names e [] distinct within)

-- Ensembles

abbrev pub behind_ensemble : Words → CountedEnsemble → Words
behind_ensemble names e = decimal e.count ∷ names_of names e.members

pub ensemble_again : (names : Words) (e : CountedEnsemble) → IsDistinct bytes_eq names → 1 ≤ e.count → e.count ≤ 2 ^ 63 → AllByRecursion (λ b. b < length names) e.members → ensemble_at names (behind_ensemble names e) ≡ Ok e
unfolding ensemble_at
ensemble_again names e distinct some small within =
    let rest = names_of names e.members in
    ap (λ r. r >>= λ count. bookies_at names (length count.1) count.1 >>= λ members. Ok (record { members = members.0; count = count.0 })) (count_again e.count rest some small)
    ∙ ap (λ n. bookies_at names n rest >>= λ members. Ok (record { members = members.0; count = e.count })) (length-map e.members (name_of names))
    ∙ ap (λ ws. bookies_at names (length e.members) ws >>= λ members. Ok (record { members = members.0; count = e.count })) (sym (append-nil rest))
    ∙ ap (λ r. r >>= λ members. Ok (record { members = members.0; count = e.count })) (bookies_again names e.members [] distinct within)
