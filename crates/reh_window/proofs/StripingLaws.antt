-- How entries are striped, where they are counted from a window's start on.
use Rattle.std.proofs.Common.{◌≡◌, ℕ, ◌+◌, ◌-◌, ◌*◌, ◌/◌, ◌%◌, ◌≤◌, map, sym, ap, ◌∙◌, arith}
use Rattle.std.specs.Prelude.{◌==◌}
use Rattle.std.specs.List.{list_any}
use Rattle.std.proofs.Math.Nat.{add-mul-mod_self_right, mod-add-mod, mul_assoc}
use Rattle.reh_inventory.specs.declared.ledgers.LedgerLine.{LedgerLine}
use Rattle.reh_model.specs.Striping.{index_at, is_striped, range}
use Rattle.reh_window.specs.Windows.{span_of}

-- a number less so many sizes has the same rest by the size
less-sizes : (entry window many size : ℕ) → window * (many * size) ≤ entry
    → (entry - window * (many * size)) % size ≡ entry % size
less-sizes entry window many size from =
    let product : (window * many) * size ≡ window * (many * size) = mul_assoc window many size in
    let whole : (entry - window * (many * size)) + (window * many) * size ≡ entry = omega (arith, product) in
    sym (add-mul-mod_self_right (entry - window * (many * size)) (window * many) size) ∙ ap (λ e. e % size) whole

pub same-rest : (line : LedgerLine) (window entry : ℕ) → (span_of window line).start ≤ entry
    → (entry - (span_of window line).start) % line.sizes.ensemble ≡ entry % line.sizes.ensemble
same-rest line window entry from =
    less-sizes entry window (65536 / line.sizes.ensemble) line.sizes.ensemble from

-- entries of the same rest have the same index at each rank
same-index : (one other size rank : ℕ) → one % size ≡ other % size → index_at one size rank ≡ index_at other size rank
same-index one other size rank same =
    sym (mod-add-mod one size rank) ∙ ap (λ e. (e + rank) % size) same ∙ mod-add-mod other size rank

striped-alike : (one other size index quorum : ℕ) → one % size ≡ other % size
    → is_striped one index size quorum ≡ is_striped other index size quorum
striped-alike one other size index quorum same =
    λ i. list_any (λ at. at == index) (map (λ rank. same-index one other size rank same i) (range 0 quorum))

pub same-carriers : (line : LedgerLine) (window entry index quorum : ℕ) → (span_of window line).start ≤ entry
    → is_striped (entry - (span_of window line).start) index line.sizes.ensemble quorum
    ≡ is_striped entry index line.sizes.ensemble quorum
same-carriers line window entry index quorum from =
    striped-alike (entry - (span_of window line).start) entry line.sizes.ensemble index quorum
    (same-rest line window entry from)
