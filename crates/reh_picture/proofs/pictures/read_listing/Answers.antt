-- The ledgers of the parts are those that the picture shows, and their words are within the limit, or that is the fault.
use Rattle.std.proofs.Common.{◌≡◌, ◌≤◌, ◌*◌, ◌∙◌, List, length, refl, sym, ap, subst, arith}
use Rattle.std.specs.Prelude.{All}
use Rattle.std.proofs.lemmas.List.{length-map}
use Rattle.serde_json.specs.View.{view}
use Rattle.reh_types.specs.declared.limits.TheConstants.{ENTRIES_IN_WORD, ENTRY_END}
use Rattle.reh_model.specs.Cluster.{Ledger}
use Rattle.reh_fields.specs.declared.fields.Field.TheVariants as field
use Rattle.reh_fields.specs.Members.{list_of}
use Rattle.reh_picture.specs.Ledgers.{ledger_in}
use Rattle.reh_picture.specs.Contents.{Holding}
use Rattle.reh_picture.specs.Pictures.{pictured_cluster, words_in_all, names_of, ids_of, contents_of}
use Rattle.reh_picture.proofs.Sound.{IsFaultless-none, contents_rise, pictured_words, ledgers-shown}
use Rattle.reh_picture.proofs.Sound.{words_in_all-shown, fields_fault-within, fields_fault-past}
use Rattle.reh_picture.proofs.pictures.read_listing.Goals as goal

pub listing_of-requires : goal.listing_of-requires
listing_of-requires c =
    let d = view c.args.picture.now in
    let read = c.in_ok-parts.ensures in
    subst (λ (holdings : List Holding). All (λ holding. All (λ range. range.0 ≤ range.1) holding.ranges) holdings)
    (sym read.shown.holdings_are)
    (contents_rise (names_of d) (ids_of d) (list_of d field.Contents) (IsFaultless-none d read.fault).each_content)

pub words_in_all-requires-clause-ledgers : goal.words_in_all-requires-clause-ledgers
words_in_all-requires-clause-ledgers c =
    let d = view c.args.picture.now in
    let read = c.in_ok-parts.ensures in
    let told = c.in_ok-listing.ensures in
    let made =
    c.deref.ensures.value
    ∙ ledgers-shown d _ _ _ _ _ _ c.in_ok-parts.parts.holdings.items told.ledgers.0 _ read.shown refl told.ledgers.1
    told.ledgers.2 in
    omega (
      arith,
      ap (λ (ledgers : List Ledger). length ledgers) made,
      length-map (list_of d field.Ledgers) (ledger_in (names_of d) (contents_of d)),
      (IsFaultless-none d read.fault).ledgers,
    )

pub words_in_all-requires-clause-words : goal.words_in_all-requires-clause-words
words_in_all-requires-clause-words c =
    let d = view c.args.picture.now in
    let read = c.in_ok-parts.ensures in
    let told = c.in_ok-listing.ensures in
    let made =
    c.deref.ensures.value
    ∙ ledgers-shown d _ _ _ _ _ _ c.in_ok-parts.parts.holdings.items told.ledgers.0 _ read.shown refl told.ledgers.1
    told.ledgers.2 in
    subst (λ (ledgers : List Ledger). All (λ g. ENTRIES_IN_WORD * g.words ≤ ENTRY_END) ledgers) (sym made)
    (pictured_words d (IsFaultless-none d read.fault))

pub returns-then-words_in_all-gt-MAX_WORDS-clause-fault : goal.returns-then-words_in_all-gt-MAX_WORDS-clause-fault
returns-then-words_in_all-gt-MAX_WORDS-clause-fault c =
    let d = view c.args.picture.now in
    let read = c.in_ok-parts.ensures in
    let told = c.in_ok-listing.ensures in
    let made =
    c.deref.ensures.value
    ∙ ledgers-shown d _ _ _ _ _ _ c.in_ok-parts.parts.holdings.items told.ledgers.0 _ read.shown refl told.ledgers.1
    told.ledgers.2 in
    let words : c.words_in_all.result ≡ words_in_all (pictured_cluster d) =
    words_in_all-shown d _ _ _ _ (told.names ∙ read.shown.names_are) made c.len.ensures.count c.words_in_all.ensures in
    rw c.new.ensures (λ known. fields_fault-past d read.fault (omega (arith, words)))

pub returns-clause-fault : goal.returns-clause-fault
returns-clause-fault c =
    let d = view c.args.picture.now in
    let read = c.in_ok-parts.ensures in
    let told = c.in_ok-listing.ensures in
    let made =
    c.deref.ensures.value
    ∙ ledgers-shown d _ _ _ _ _ _ c.in_ok-parts.parts.holdings.items told.ledgers.0 _ read.shown refl told.ledgers.1
    told.ledgers.2 in
    let words : c.words_in_all.result ≡ words_in_all (pictured_cluster d) =
    words_in_all-shown d _ _ _ _ (told.names ∙ read.shown.names_are) made c.len.ensures.count c.words_in_all.ensures in
    fields_fault-within d read.fault (omega (arith, words))

pub returns-clause-listed : goal.returns-clause-listed
returns-clause-listed c =
    let d = view c.args.picture.now in
    let read = c.in_ok-parts.ensures in
    let told = c.in_ok-listing.ensures in record {
      names_are = told.names ∙ read.shown.names_are;
      lost_are = told.lost_at ∙ read.shown.lost_are;
      grace_is = told.grace ∙ read.shown.grace_is;
      delay_is = told.delay ∙ read.shown.delay_is;
      ledgers_are =
          ledgers-shown d _ _ _ _ _ _ c.in_ok-parts.parts.holdings.items told.ledgers.0 _ read.shown refl
          told.ledgers.1 told.ledgers.2;
      holdings_are = told.holdings ∙ read.shown.holdings_are;
    }

pub returns-clause-ids : goal.returns-clause-ids
returns-clause-ids c = c.in_ok-listing.ensures.ids ∙ c.in_ok-parts.ensures.ids
