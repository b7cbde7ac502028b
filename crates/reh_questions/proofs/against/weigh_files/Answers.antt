-- One file more.
use Rattle.std.proofs.Common.{◌≡◌, ◌∙◌, ◌+◌, ◌++◌, ◌∷◌, [], ℕ, Bool, List, Vec, ap, sym, subst, map, take, get_or, arith}
use Rattle.std.specs.declared.alloc.Global.{Global}
use Rattle.std.proofs.lemmas.List.{map-append, take_more}
use Rattle.reh_inventory_against.specs.Files.{HaveWeighed}
use Rattle.reh_inventory_against.specs.Reread.{WeighsIf}
use Rattle.reh_inventory_against.proofs.FileLaws.{weighed-next}
use Rattle.reh_questions.specs.Against.{is_read_again}
use Rattle.reh_questions.specs.declared.inputs.FileKind.{FileKind}
use Rattle.reh_questions.specs.declared.inputs.FileKind.TheVariants as kind
use Rattle.reh_questions.proofs.against.weigh_files.Goals as goal

pub loop-number-preserved : goal.loop-number-preserved
loop-number-preserved c = λ before ledgers was.
    let by = c.args.by.now in
    let kinds : List FileKind = c.args.kinds.now in
    let ids : List (Vec ℕ Global) = c.args.ids.now in
    let n : ℕ = c.loop-number.number in
    let k : Vec ℕ Global = c.index-ids-number.result in
    let flag : Bool = c.is_read_again-is_read.result in
    let is_read : FileKind → Bool = is_read_again c.args.is_any in
    let one : FileKind = get_or kinds n kind.Other in
    let more-ids : take (n + 1) ids ≡ take n ids ++ k ∷ [] =
    take_more ids n k (omega arith) ∙ (λ i. take n ids ++ sym c.index-ids-number.is i ∷ []) in
    let more-flags : map is_read (take (n + 1) kinds) ≡ map is_read (take n kinds) ++ flag ∷ [] =
    ap (map is_read) (take_more kinds n kind.Other (omega (arith, c.requires.kinds)))
    ∙ map-append is_read (take n kinds) (one ∷ [])
    ∙ ap (λ (b : Bool). map is_read (take n kinds) ++ b ∷ []) (sym c.is_read_again-is_read.ensures) in
    subst (λ (flags : List Bool).
    HaveWeighed by.stop by.names.now by.is_strict flags (take (n + 1) ids) before ledgers c.weigh_if.new.worst) (sym more-flags)
    (subst (λ (kept : List (Vec ℕ Global)).
    HaveWeighed by.stop by.names.now by.is_strict (map is_read (take n kinds) ++ flag ∷ []) kept before ledgers
    c.weigh_if.new.worst) (sym more-ids)
    (weighed-next by.stop by.names.now by.is_strict flag (map is_read (take n kinds)) (take n ids) before ledgers
    c.loop-number.worst c.weigh_if.new.worst k
    (subst (λ (kept : List ℕ). WeighsIf by.stop by.names.now by.is_strict flag kept c.loop-number.worst c.weigh_if.new.worst)
    c.as_slice.ensures.value c.in_ok-weigh_if.ensures)
    (c.loop-number.invariant before ledgers was)))
