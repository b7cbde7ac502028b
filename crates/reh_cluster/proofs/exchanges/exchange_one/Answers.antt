-- A registration, and a part of a ledger, is swapped with what the change holds.
use Rattle.std.proofs.Common.{ℕ, List, Option, None, get_or, set, ap, refl, ◌∙◌}
use Rattle.reh_types.specs.declared.changes.Change.TheVariants.{Registration, Metadata, Task, Lock}
use Rattle.reh_model.specs.Cluster.{Ledger, register}
use Rattle.reh_model.proofs.ListLaws.{read_at-there, set-change_at}
use Rattle.reh_cluster.specs.Parts.{PartsValue}
use Rattle.reh_cluster.specs.Kept.{parts_in}
use Rattle.reh_cluster.proofs.ExchangeLaws.{changed_there, rows_put}
use Rattle.reh_cluster.proofs.exchanges.exchange_one.Goals as goal

pub returns-in-Registration-clause-parts : goal.returns-in-Registration-clause-parts
returns-in-Registration-clause-parts c =
    let p : PartsValue = parts_in c.parts.inside in
    let items : List (Option ℕ) = c.parts.inside.lost_at.items in
    rw (← c.parts.view_is, c.in-Registration.is)
    (ap (λ (ls : List (Option ℕ)). record p { parts = record p.parts { lost_at = ls } })
    (ap (λ (lost : Option ℕ). set items c.bookie.inside.0 lost) c.swap.ensures.x_after
    ∙ set-change_at (λ (l : Option ℕ). c.in-Registration.lost_at) items c.bookie.inside.0 None
    ∙ ap (λ (b : ℕ). register items b c.in-Registration.lost_at) c.bookie.view_is))

pub returns-in-Registration-clause-left : goal.returns-in-Registration-clause-left
returns-in-Registration-clause-left c =
    let within = rw (c.in-Registration.is, ← c.parts.view_is) at c.requires in
    let items : List (Option ℕ) = c.parts.inside.lost_at.items in
    rw (← c.parts.view_is, c.in-Registration.is)
    (ap (Registration c.in-Registration.bookie)
    (c.swap.ensures.y_after
    ∙ read_at-there (λ l. l) items c.in-Registration.bookie c.index_mut.result.now c.in-Registration.lost_at within
    (c.index_mut.ensures.value ∙ ap (λ (b : ℕ). get_or items b c.index_mut.result.now) c.bookie.view_is)))

pub invariant_of-parts-in-Metadata : goal.invariant_of-parts-in-Metadata
invariant_of-parts-in-Metadata c = record {
  few = c.parts.invariant.few;
  rows = rows_put (parts_in c.parts.inside).parts (Metadata c.in-Metadata.place c.in-Metadata.metadata) _ _ _
      (changed_there (λ g. record g { metadata = c.in-Metadata.metadata }) c.parts.inside.ledgers.items
      c.in-Metadata.place _ _ c.index_mut-in-Metadata.ensures.value c.swap_metadata.ensures.ledger)
      c.parts.invariant.rows;
}

pub returns-in-Metadata-clause-parts : goal.returns-in-Metadata-clause-parts
returns-in-Metadata-clause-parts c =
    let p : PartsValue = parts_in c.parts.inside in
    rw (← c.parts.view_is, c.in-Metadata.is)
    (ap (λ (gs : List Ledger). record p { parts = record p.parts { ledgers = gs } })
    (changed_there (λ g. record g { metadata = c.in-Metadata.metadata }) c.parts.inside.ledgers.items
    c.in-Metadata.place _ _ c.index_mut-in-Metadata.ensures.value c.swap_metadata.ensures.ledger))

pub returns-in-Metadata-clause-left : goal.returns-in-Metadata-clause-left
returns-in-Metadata-clause-left c =
    let within = rw (c.in-Metadata.is, ← c.parts.view_is) at c.requires in
    rw (c.swap_metadata.ensures.other, ← c.parts.view_is, c.in-Metadata.is)
    (ap (Metadata c.in-Metadata.place)
    (read_at-there (λ g. g.metadata) c.parts.inside.ledgers.items c.in-Metadata.place c.index_mut-in-Metadata.result.now
    c.in-Metadata.metadata within c.index_mut-in-Metadata.ensures.value))

pub invariant_of-parts-in-Task : goal.invariant_of-parts-in-Task
invariant_of-parts-in-Task c = record {
  few = c.parts.invariant.few;
  rows = rows_put (parts_in c.parts.inside).parts (Task c.in-Task.place c.in-Task.task) _ _ _
      (changed_there (λ g. record g { task = c.in-Task.task }) c.parts.inside.ledgers.items c.in-Task.place _ _
      c.index_mut-in-Task.ensures.value c.swap_task.ensures.ledger)
      c.parts.invariant.rows;
}

pub returns-in-Task-clause-parts : goal.returns-in-Task-clause-parts
returns-in-Task-clause-parts c =
    let p : PartsValue = parts_in c.parts.inside in
    rw (← c.parts.view_is, c.in-Task.is)
    (ap (λ (gs : List Ledger). record p { parts = record p.parts { ledgers = gs } })
    (changed_there (λ g. record g { task = c.in-Task.task }) c.parts.inside.ledgers.items c.in-Task.place _ _
    c.index_mut-in-Task.ensures.value c.swap_task.ensures.ledger))

pub returns-in-Task-clause-left : goal.returns-in-Task-clause-left
returns-in-Task-clause-left c =
    let within = rw (c.in-Task.is, ← c.parts.view_is) at c.requires in
    rw (c.swap_task.ensures.other, ← c.parts.view_is, c.in-Task.is)
    (ap (Task c.in-Task.place)
    (read_at-there (λ g. g.task) c.parts.inside.ledgers.items c.in-Task.place c.index_mut-in-Task.result.now
    c.in-Task.task within c.index_mut-in-Task.ensures.value))

pub invariant_of-parts-in-Lock : goal.invariant_of-parts-in-Lock
invariant_of-parts-in-Lock c = record {
  few = c.parts.invariant.few;
  rows = rows_put (parts_in c.parts.inside).parts (Lock c.in-Lock.place c.in-Lock.lock) _ _ _
      (changed_there (λ g. record g { lock = c.in-Lock.lock }) c.parts.inside.ledgers.items c.in-Lock.place _ _
      c.index_mut-in-Lock.ensures.value c.swap_lock.ensures.ledger)
      c.parts.invariant.rows;
}

pub returns-in-Lock-clause-parts : goal.returns-in-Lock-clause-parts
returns-in-Lock-clause-parts c =
    let p : PartsValue = parts_in c.parts.inside in
    rw (← c.parts.view_is, c.in-Lock.is)
    (ap (λ (gs : List Ledger). record p { parts = record p.parts { ledgers = gs } })
    (changed_there (λ g. record g { lock = c.in-Lock.lock }) c.parts.inside.ledgers.items c.in-Lock.place _ _
    c.index_mut-in-Lock.ensures.value c.swap_lock.ensures.ledger))

pub returns-in-Lock-clause-left : goal.returns-in-Lock-clause-left
returns-in-Lock-clause-left c =
    let within = rw (c.in-Lock.is, ← c.parts.view_is) at c.requires in
    rw (c.swap_lock.ensures.other, ← c.parts.view_is, c.in-Lock.is)
    (ap (Lock c.in-Lock.place)
    (read_at-there (λ g. g.lock) c.parts.inside.ledgers.items c.in-Lock.place c.index_mut-in-Lock.result.now
    c.in-Lock.lock within c.index_mut-in-Lock.ensures.value))

-- a turn keeps the rows
pub invariant_of-parts-in-Word : goal.invariant_of-parts-in-Word
invariant_of-parts-in-Word c = rw c.toggle.ensures (record {
  few = c.parts.invariant.few;
  rows = record { bookies = refl; words = c.parts.invariant.rows.words };
})
