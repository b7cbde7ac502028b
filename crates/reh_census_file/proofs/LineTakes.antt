-- What is read of a line is what its words say.
use Rattle.std.proofs.Common.{◌≡◌, ℕ, ◌^◌, ◌<◌, ◌≤◌, true, cond, List, [], ◌∷◌, ◌++◌, length, Option, Some, None, Ok, refl, sym, ap, subst, ◌∙◌, length-append, arith}
use Rattle.std.specs.Prelude.{codes, IfSome}
use Rattle.std.specs.Fmt.{decimal}
use Rattle.std.specs.List.{AllByRecursion}
use Rattle.std.specs.Str.{bytes_eq}
use Rattle.std.proofs.lemmas.List.{append-nil, nil_from_length, length-map}
use Rattle.std.proofs.lemmas.Slice.Eq.{bytes_eq-Decides}
use Rattle.reh_census.specs.declared.censuses.CountedEnsemble.{CountedEnsemble}
use Rattle.reh_census.specs.declared.censuses.CountedTail.{CountedTail}
use Rattle.reh_census.specs.declared.censuses.Judged.{Judged}
use Rattle.reh_census.specs.declared.classes.Counted.{Counted}
use Rattle.reh_census_file.specs.declared.faults.Expected.TheVariants as expected
use Rattle.reh_census_file.specs.declared.faults.Keyword.TheVariants as word
use Rattle.reh_census_file.specs.LineReading.{BookieLine, rack_behind, rack_at, bookie_line_at, judged_at, entries_at, tail_at, ensemble_at}
use Rattle.reh_census_file.specs.Canonical.{is_name}
use Rattle.reh_census_file.specs.Reading.{flag_at, choice_at, number_at, count_at, number_behind, name_at, bookies_at, bookies_behind, no_more}
use Rattle.reh_census_file.specs.Texts.{up_word, word_if, judged_words, entries_words, tail_words, ensemble_words, name_of, names_of}
use Rattle.reh_census_file.proofs.TokenLaws.{step_ok, passed, ok_is, flag_takes, choice_takes, number_takes, count_takes, number_behind_takes, name_takes, bookies_take, bookies_behind_take, no_more_takes}

-- the words of a rack's name, if there is one
abbrev pub racked : Option (List ℕ) → List (List ℕ)
racked None = []
racked (Some name) = codes "rack" ∷ name ∷ []

-- the words of a bookie's line
abbrev pub line_words : BookieLine → List (List ℕ)
line_words line =
    codes "bookie" ∷ line.name ∷ up_word line.is_registered ∷ (word_if line.is_read_only (codes "read-only")
    ++ (word_if line.is_empty (codes "empty") ++ racked line.rack))

pub record IsBookieLine (line : BookieLine) (words : List (List ℕ)) : Type 0 where
  pub parts : codes "bookie" ∷ words ≡ line_words line
  pub named : is_name line.name ≡ true
  pub racked : IfSome line.rack (λ rack. is_name rack ≡ true)

abbrev IsRack : Option (List ℕ) → List (List ℕ) → Type 0
IsRack rack words = (words ≡ racked rack) × IfSome rack (λ name. is_name name ≡ true)

rack_behind_takes : (words : List (List ℕ)) (rack : Option (List ℕ)) → rack_behind words ≡ Ok rack → IsRack rack (codes "rack" ∷ words)
unfolding rack_behind
rack_behind_takes words rack e =
    step_ok (name_at words) _ rack e (λ name name_is e.
    step_ok (no_more name.1) _ rack e (λ done done_is e.
    let n = name_takes words name.1 name.0 name_is in
    let none = no_more_takes name.1 done_is in
    subst (λ (r : Option (List ℕ)). IsRack r (codes "rack" ∷ words)) (ok_is (Some name.0) rack e) (ap (λ ws. codes "rack" ∷ ws) (n.0 ∙ ap (λ ws. name.0 ∷ ws) none), n.1)))

rack_takes : (words : List (List ℕ)) (rack : Option (List ℕ)) → rack_at words ≡ Ok rack → IsRack rack words
unfolding rack_at
rack_takes [] rack e = subst (λ (r : Option (List ℕ)). IsRack r []) (ok_is None rack e) (refl, tt)
rack_takes (first ∷ words) rack e =
    let p = passed (bytes_eq first (codes "rack")) expected.BookieEnd (rack_behind words) rack e in
    subst (λ (w : List ℕ). IsRack rack (w ∷ words)) (sym ((bytes_eq-Decides first (codes "rack")).0 p.0)) (rack_behind_takes words rack p.1)

pub bookie_line_takes : (words : List (List ℕ)) (line : BookieLine) → bookie_line_at words ≡ Ok line → IsBookieLine line words
unfolding bookie_line_at
bookie_line_takes words line e =
    step_ok (name_at words) _ line e (λ name name_is e.
    step_ok (choice_at (codes "up") (codes "down") expected.UpOrDown name.1) _ line e (λ up up_is e.
    step_ok (rack_at (flag_at word.Empty (flag_at word.ReadOnly up.1).1).1) _ line e (λ rack rack_is e.
    let ro = flag_at word.ReadOnly up.1 in
    let em = flag_at word.Empty ro.1 in
    let made : BookieLine = record { name = name.0; is_registered = up.0; is_read_only = ro.0; is_empty = em.0; rack = rack } in
    let n = name_takes words name.1 name.0 name_is in
    let k = rack_takes em.1 rack rack_is in
    subst (λ (x : BookieLine). IsBookieLine x words) {x = made} (ok_is made line e) (record {
      parts = ap (λ ws. codes "bookie" ∷ ws) (n.0 ∙ ap (λ ws. name.0 ∷ ws) (choice_takes (codes "up") (codes "down") expected.UpOrDown name.1 up.1 up.0 up_is
          ∙ ap (λ ws. up_word up.0 ∷ ws) (flag_takes word.ReadOnly up.1
          ∙ ap (λ ws. word_if ro.0 (codes "read-only") ++ ws) (flag_takes word.Empty ro.1
          ∙ ap (λ ws. word_if em.0 (codes "empty") ++ ws) k.0))));
      named = n.1;
      racked = k.1;
    }))))

pub record IsJudgedLine (judged : Judged) (words : List (List ℕ)) : Type 0 where
  pub parts : codes "ledgers" ∷ words ≡ judged_words judged
  pub ledgers : judged.ledgers ≤ 2 ^ 63
  pub assumed : judged.assumed ≤ 2 ^ 63

pub judged_takes : (words : List (List ℕ)) (judged : Judged) → judged_at words ≡ Ok judged → IsJudgedLine judged words
unfolding judged_at
judged_takes words judged e =
    step_ok (number_at words) _ judged e (λ ledgers ledgers_is e.
    step_ok (number_behind word.Assumed ledgers.1) _ judged e (λ assumed assumed_is e.
    step_ok (number_behind word.Unread assumed.1) _ judged e (λ unread unread_is e.
    step_ok (number_behind word.Missing unread.1) _ judged e (λ missing missing_is e.
    step_ok (no_more missing.1) _ judged e (λ done done_is e.
    let made : Judged = record { ledgers = ledgers.0; assumed = assumed.0; unread = unread.0; missing = missing.0 } in
    let l = number_takes words ledgers.1 ledgers.0 ledgers_is in
    let a = number_behind_takes word.Assumed ledgers.1 assumed.1 assumed.0 assumed_is in
    let u = number_behind_takes word.Unread assumed.1 unread.1 unread.0 unread_is in
    let m = number_behind_takes word.Missing unread.1 missing.1 missing.0 missing_is in
    subst (λ (j : Judged). IsJudgedLine j words) {x = made} (ok_is made judged e) (record {
      parts = ap (λ ws. codes "ledgers" ∷ ws) (l.parts ∙ ap (λ ws. decimal ledgers.0 ∷ ws) (a.parts
          ∙ ap (λ ws. codes "assumed" ∷ decimal assumed.0 ∷ ws) (u.parts
          ∙ ap (λ ws. codes "unread" ∷ decimal unread.0 ∷ ws) (m.parts
          ∙ ap (λ ws. codes "missing" ∷ decimal missing.0 ∷ ws) (no_more_takes missing.1 done_is)))));
      ledgers = l.small;
      assumed = a.small;
    }))))))

pub record IsEntriesLine (names : List (List ℕ)) (counted : Counted) (words : List (List ℕ)) : Type 0 where
  pub parts : codes "entries" ∷ words ≡ entries_words names counted
  pub some : 1 ≤ counted.count
  pub known : AllByRecursion (λ b. b < length names) counted.class.known
  pub untold : AllByRecursion (λ b. b < length names) counted.class.untold

pub entries_take : (names words : List (List ℕ)) (counted : Counted) → entries_at names words ≡ Ok counted → IsEntriesLine names counted words
unfolding entries_at
entries_take names words counted e =
    step_ok (count_at words) _ counted e (λ count count_is e.
    step_ok (number_behind word.Write count.1) _ counted e (λ write write_is e.
    step_ok (number_behind word.Ack write.1) _ counted e (λ ack ack_is e.
    step_ok (bookies_behind names word.Known ack.1) _ counted e (λ known known_is e.
    step_ok (bookies_behind names word.Untold known.1) _ counted e (λ untold untold_is e.
    step_ok (no_more untold.1) _ counted e (λ done done_is e.
    let made : Counted = record { class = record { known = known.0; untold = untold.0; ack_quorum = ack.0; write_quorum = write.0 }; count = count.0 } in
    let c = count_takes words count.1 count.0 count_is in
    let k = bookies_behind_take names word.Known ack.1 known.1 known.0 known_is in
    let u = bookies_behind_take names word.Untold known.1 untold.1 untold.0 untold_is in
    subst (λ (x : Counted). IsEntriesLine names x words) {x = made} (ok_is made counted e) (record {
      parts = ap (λ ws. codes "entries" ∷ ws) (c.0.parts ∙ ap (λ ws. decimal count.0 ∷ ws) ((number_behind_takes word.Write count.1 write.1 write.0 write_is).parts
          ∙ ap (λ ws. codes "write" ∷ decimal write.0 ∷ ws) ((number_behind_takes word.Ack write.1 ack.1 ack.0 ack_is).parts
          ∙ ap (λ ws. codes "ack" ∷ decimal ack.0 ∷ ws) (k.parts
          ∙ ap (λ ws. codes "known" ∷ decimal (length known.0) ∷ (names_of names known.0 ++ ws)) (u.parts
          ∙ ap (λ ws. codes "untold" ∷ decimal (length untold.0) ∷ ws) (ap (λ ws. names_of names untold.0 ++ ws) (no_more_takes untold.1 done_is) ∙ append-nil (names_of names untold.0)))))));
      some = c.1;
      known = k.within;
      untold = u.within;
    })))))))

pub record IsTailLine (names : List (List ℕ)) (counted : CountedTail) (words : List (List ℕ)) : Type 0 where
  pub parts : codes "tail" ∷ words ≡ tail_words names counted
  pub some : 1 ≤ counted.count
  pub within : AllByRecursion (λ b. b < length names) counted.tail.ensemble
  pub whole : length counted.tail.ensemble ≡ counted.tail.size

pub tail_takes : (names words : List (List ℕ)) (counted : CountedTail) → tail_at names words ≡ Ok counted → IsTailLine names counted words
unfolding tail_at
tail_takes names words counted e =
    step_ok (count_at words) _ counted e (λ count count_is e.
    step_ok (choice_at (codes "open") (codes "in-recovery") expected.OpenOrInRecovery count.1) _ counted e (λ state state_is e.
    step_ok (number_behind word.Size state.1) _ counted e (λ size size_is e.
    step_ok (number_behind word.Write size.1) _ counted e (λ write write_is e.
    step_ok (number_behind word.Ack write.1) _ counted e (λ ack ack_is e.
    step_ok (bookies_at names size.0 ack.1) _ counted e (λ ensemble ensemble_is e.
    step_ok (no_more ensemble.1) _ counted e (λ done done_is e.
    let made : CountedTail = record { tail = record { size = size.0; write_quorum = write.0; ack_quorum = ack.0; is_open = state.0; ensemble = ensemble.0 }; count = count.0 } in
    let c = count_takes words count.1 count.0 count_is in
    let b = bookies_take names size.0 ack.1 ensemble.1 ensemble.0 ensemble_is in
    subst (λ (x : CountedTail). IsTailLine names x words) {x = made} (ok_is made counted e) (record {
      parts = ap (λ ws. codes "tail" ∷ ws) (c.0.parts ∙ ap (λ ws. decimal count.0 ∷ ws) (choice_takes (codes "open") (codes "in-recovery") expected.OpenOrInRecovery count.1 state.1 state.0 state_is
          ∙ ap (λ ws. cond state.0 (codes "open") (codes "in-recovery") ∷ ws) ((number_behind_takes word.Size state.1 size.1 size.0 size_is).parts
          ∙ ap (λ ws. codes "size" ∷ decimal size.0 ∷ ws) ((number_behind_takes word.Write size.1 write.1 write.0 write_is).parts
          ∙ ap (λ ws. codes "write" ∷ decimal write.0 ∷ ws) ((number_behind_takes word.Ack write.1 ack.1 ack.0 ack_is).parts
          ∙ ap (λ ws. codes "ack" ∷ decimal ack.0 ∷ ws) (b.0.parts ∙ ap (λ ws. names_of names ensemble.0 ++ ws) (no_more_takes ensemble.1 done_is) ∙ append-nil (names_of names ensemble.0)))))));
      some = c.1;
      within = b.0.within;
      whole = b.1;
    }))))))))

pub record IsEnsembleLine (names : List (List ℕ)) (counted : CountedEnsemble) (words : List (List ℕ)) : Type 0 where
  pub parts : codes "ensemble" ∷ words ≡ ensemble_words names counted
  pub some : 1 ≤ counted.count
  pub within : AllByRecursion (λ b. b < length names) counted.members

pub ensemble_takes : (names words : List (List ℕ)) (counted : CountedEnsemble) → ensemble_at names words ≡ Ok counted → IsEnsembleLine names counted words
unfolding ensemble_at
ensemble_takes names words counted e =
    step_ok (count_at words) _ counted e (λ count count_is e.
    step_ok (bookies_at names (length count.1) count.1) _ counted e (λ members members_is e.
    let made : CountedEnsemble = record { members = members.0; count = count.0 } in
    let c = count_takes words count.1 count.0 count_is in
    let m = bookies_take names (length count.1) count.1 members.1 members.0 members_is in
    let none : members.1 ≡ [] = nil_from_length members.1 (omega (arith, m.1, ap length m.0.parts, length-append (names_of names members.0) members.1, length-map members.0 (name_of names))) in
    subst (λ (x : CountedEnsemble). IsEnsembleLine names x words) {x = made} (ok_is made counted e) (record {
      parts = ap (λ ws. codes "ensemble" ∷ ws) (c.0.parts ∙ ap (λ ws. decimal count.0 ∷ ws) (m.0.parts ∙ ap (λ ws. names_of names members.0 ++ ws) none ∙ append-nil (names_of names members.0)));
      some = c.1;
      within = m.0.within;
    })))
