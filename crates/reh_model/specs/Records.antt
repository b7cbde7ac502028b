-- Parts of the records of events.
use Rattle.std.specs.Prelude.{ℕ, List, [], ◌∷◌, None}
use Rattle.std.specs.Option.{option_map, option_map_or}
use Rattle.reh_types.specs.declared.changes.Change.TheVariants.{Lock}
use Rattle.reh_model.specs.Cluster.{Ledger, due_of}
use Rattle.reh_model.specs.Step.{timed_lock}
use Rattle.reh_model.specs.Places.{Change}

-- the change of the lock of the ledger that stands at that place, from which a due tick goes, if it has one
abbrev pub due_gone : ℕ → Ledger → List Change
due_gone k g = option_map_or (λ due. Lock k (option_map (timed_lock None) g.lock) ∷ []) (due_of g) []
