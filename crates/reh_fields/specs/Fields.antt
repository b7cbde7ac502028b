-- The names of a picture's fields.
use Rattle.std.specs.Prelude.{ℕ, List, codes}
use Rattle.reh_fields.specs.declared.fields.Field.{Field}
use Rattle.reh_fields.specs.declared.fields.Field.TheVariants as field

abbrev pub field_name : Field → List ℕ
field_name field.Picture = codes "picture"
field_name field.Format = codes "format"
field_name field.Grace = codes "grace"
field_name field.LostDelayTicks = codes "lostDelayTicks"
field_name field.Bookies = codes "bookies"
field_name field.Bookie = codes "bookie"
field_name field.Name = codes "name"
field_name field.Up = codes "up"
field_name field.ReadOnly = codes "readOnly"
field_name field.Empty = codes "empty"
field_name field.Rack = codes "rack"
field_name field.Ledgers = codes "ledgers"
field_name field.Ledger = codes "ledger"
field_name field.Id = codes "id"
field_name field.State = codes "state"
field_name field.LastEntryId = codes "lastEntryId"
field_name field.EnsembleSize = codes "ensembleSize"
field_name field.WriteQuorumSize = codes "writeQuorumSize"
field_name field.AckQuorumSize = codes "ackQuorumSize"
field_name field.Version = codes "version"
field_name field.Fragments = codes "fragments"
field_name field.Fragment = codes "fragment"
field_name field.FirstEntry = codes "firstEntry"
field_name field.Ensemble = codes "ensemble"
field_name field.Contents = codes "contents"
field_name field.Content = codes "content"
field_name field.Entries = codes "entries"
field_name field.Assumed = codes "assumed"
