-- What callers see of the contents that `Held` keeps.
use Rattle.std.specs.Prelude.{ℕ, ◌+◌, ◌/◌, max, refl}
use Rattle.std.specs.Coded.{Coded, code_by, coded×, coded_ℕ}
use Rattle.std.specs.Option.{unwrap_or}
use Rattle.std.specs.Ordering.{nat_cmp}
use Rattle.std.specs.FinMap as map
use Rattle.std.specs.FinMap.{FinMap}
use Rattle.reh_types.specs.Sets as set
use Rattle.reh_model.specs.Contents.{Contents}

-- which bookie holds what; how many bookies there are; and how many words each bookie's row of a ledger has
pub record HeldValue : Type 0 where
  pub contents : Contents
  pub bookies : ℕ
  pub words : FinMap nat_cmp ℕ

-- such a value is stored as the tuple of its fields
abbrev pub triple_code : Coded (ℕ × ℕ × ℕ)
triple_code =
    code_by (ℕ × (ℕ × ℕ)) (coded× coded_ℕ (coded× coded_ℕ coded_ℕ)) (λ t. (t.0, (t.1, t.2))) (λ p. (p.0, p.1.0, p.1.1))
    (λ _. refl)

abbrev pub held_code : Coded HeldValue
held_code =
    code_by (Contents × (ℕ × FinMap nat_cmp ℕ))
    (coded× (set.code triple_code) (coded× coded_ℕ (map.code coded_ℕ coded_ℕ)))
    (λ h. (h.contents, (h.bookies, h.words)))
    (λ p. record { contents = p.0; bookies = p.1.0; words = p.1.1 }) (λ _. refl)

-- how many words the rows of the ledger have, 0 where there are none
abbrev pub words_in : HeldValue → ℕ → ℕ
words_in held ledger = unwrap_or (map.get held.words ledger) 0

-- the same contents with rows of the ledger that have a bit for the entry
abbrev pub with_room : HeldValue → ℕ → ℕ → HeldValue
with_room held ledger entry =
    record held { words = map.insert held.words ledger (max (words_in held ledger) (entry / 64 + 1)) }
