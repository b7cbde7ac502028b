-- What a `Ledger` stands for.
use Rattle.reh_census.specs.Ledgers.{Ledger, IsLedger}
use Rattle.reh_census.specs.declared.ledgers.Ledger.TheInside.{Inside}

abbrev pub ledger_in : Inside → Ledger
ledger_in a = record {
  state = a.state;
  size = a.size;
  write_quorum = a.write_quorum;
  ack_quorum = a.ack_quorum;
  fragments = a.fragments.items;
  contents = a.contents.items;
  rest = a.rest;
}

abbrev pub IsLedgerIn : Inside → Type 0
IsLedgerIn a = IsLedger (ledger_in a)
